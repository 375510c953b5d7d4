-- The pieces of a parameter are put one after another, and are one list.
use Rattle.std.proofs.Common.{◌≡◌, ℕ, suc, ◌+◌, ◌<◌, ◌≤◌, ◌==◌, Bool, true, false, not, ◌||◌, ltb, inl, inr, List, [], ◌∷◌, ◌++◌, length, refl, sym, ap, ◌∙◌, subst, arith}
use Rattle.std.proofs.lemmas.Bool.{cases_lt, true≢false, or_parts}
use Rattle.std.proofs.lemmas.Bool.Decides.{nat_tests}
use Rattle.std.proofs.lemmas.List.{append_assoc, append-nil, length-append, nil_from_length}
use Rattle.std.specs.List.{concat}
use Rattle.encoded_words.specs.Words.{UnitValue}
use Rattle.param_grammar.specs.Escapes.{escaped}
use Rattle.param_2231.specs.Layout.{octets_in, IsPartOf, AreSectionTexts, charset_part, whole_piece, numbered_piece, numbered_pieces, is_short, ParamPieces, Whole, Parts, GivesWhere}
use Rattle.param_2231.specs.private.Lines.{line_after, lines_after, AddsAfter}
use Rattle.param_2231.specs.private.Parts.{IsCuttable, IsWritableUnit, IsFitting}
use Rattle.param_2231.proofs.PartLemmas.{fitting_short, fitting_long, AreParts-once, AreParts-some}

-- ---- one piece

pub adds_whole : (lead name : List ℕ) (unit : UnitValue) (whole : Bool) (old new : List ℕ) → (whole || is_short unit) ≡ true → new ≡ old ++ line_after lead (whole_piece name unit)
    → AddsAfter lead (ParamPieces whole name unit) old new
adds_whole lead name unit whole old new is put = record {
  pieces = whole_piece name unit ∷ [];
  holds = Whole is refl;
  added = put ∙ ap (λ r. old ++ r) (sym (append-nil (line_after lead (whole_piece name unit))));
}

-- ---- several pieces

-- The pieces so far are those of the parts before rest: whatever parts rest has, their pieces complete the others.
pub record WritesParts (lead name : List ℕ) (unit : UnitValue) (old mid : List ℕ) (number : ℕ) (rest : List ℕ) : Type 0 where
  pub can : IsCuttable unit rest
  pub counted : number + length rest ≤ length (octets_in unit)
  pub onward : (parts : List (List ℕ)) → AreSectionTexts unit parts → rest ≡ concat parts → AddsAfter lead (ParamPieces false name unit) old (mid ++ lines_after lead (numbered_pieces name number parts))

pub WritesParts-first : (lead name : List ℕ) (unit : UnitValue) (first rest : List ℕ) (old mid : List ℕ) → is_short unit ≡ false → octets_in unit ≡ first ++ rest → IsPartOf unit first rest
    → IsCuttable unit rest → mid ≡ old ++ line_after lead (numbered_piece name 0 (charset_part unit ++ escaped first)) → WritesParts lead name unit old mid 1 rest
WritesParts-first lead name unit first rest old mid long whole is can put = record {
  can = can;
  counted = let some = is.some in omega (arith, some, ap length whole, length-append first rest);
  onward = λ parts are e. record {
    pieces = numbered_piece name 0 (charset_part unit ++ escaped first) ∷ numbered_pieces name 1 parts;
    holds = Parts first parts long (subst (IsPartOf unit first) e is, are) (whole ∙ ap (λ r. first ++ r) e) refl;
    added = rw put (append_assoc old (line_after lead (numbered_piece name 0 (charset_part unit ++ escaped first))) (lines_after lead (numbered_pieces name 1 parts)));
  };
}

pub WritesParts-more : (lead name : List ℕ) (unit : UnitValue) (part after rest : List ℕ) (old mid new : List ℕ) (number : ℕ) → rest ≡ part ++ after → IsPartOf unit part after
    → IsCuttable unit after → new ≡ mid ++ line_after lead (numbered_piece name number (escaped part)) → WritesParts lead name unit old mid number rest
    → WritesParts lead name unit old new (number + 1) after
WritesParts-more lead name unit part after rest old mid new number whole is can put so_far = record {
  can = can;
  counted = let some = is.some in let before = so_far.counted in omega (arith, some, before, ap length whole, length-append part after);
  onward = λ parts are e.
      let next : number + 1 ≡ suc number = omega arith in
      let all = so_far.onward (part ∷ parts) (subst (IsPartOf unit part) e is, are) (whole ∙ ap (λ r. part ++ r) e) in
      rw (put, next, append_assoc mid (line_after lead (numbered_piece name number (escaped part))) (lines_after lead (numbered_pieces name (suc number) parts))) all;
}

pub WritesParts-end : (lead name : List ℕ) (unit : UnitValue) (rest : List ℕ) (old mid : List ℕ) (number : ℕ) → length rest ≡ 0 → WritesParts lead name unit old mid number rest
    → AddsAfter lead (ParamPieces false name unit) old mid
WritesParts-end lead name unit rest old mid number end so_far =
    subst (AddsAfter lead (ParamPieces false name unit) old) (append-nil mid) (so_far.onward [] tt (nil_from_length rest end))

pub not_short_some : (unit : UnitValue) → is_short unit ≡ false → 0 < length (octets_in unit)
not_short_some unit long = by (octets_in unit) long
  where
    by : (octets : List ℕ) → not (ltb 60 (length (escaped octets))) ≡ false → 0 < length octets
    by [] long = absurd (true≢false long)
    by (x ∷ octets) long = omega arith

-- whether all octets fit
pub short_is : (octets : List ℕ) (fits : ℕ) → IsFitting octets fits → (fits == length octets) ≡ not (ltb 60 (length (escaped octets)))
short_is octets fits f = elim (cases_lt fits (length octets)) [
  | inl less ↦ let long = fitting_long octets fits f less in grind (arith, nat_tests)
  | inr all ↦
      let bound = f.bound in
      let small = fitting_short octets fits f all in
      grind (arith, nat_tests)
]

-- ---- one list

pub ParamPieces-once : (whole : Bool) (name : List ℕ) (unit : UnitValue) (ps qs : List (List ℕ)) → ParamPieces whole name unit ps → ParamPieces whole name unit qs → ps ≡ qs
ParamPieces-once whole name unit ps qs (Whole a e) (Whole b f) = e ∙ sym f
ParamPieces-once whole name unit ps qs (Whole a e) (Parts first parts b are cut f) = absurd (true≢false (sym a ∙ b))
ParamPieces-once whole name unit ps qs (Parts first parts b are cut f) (Whole a e) = absurd (true≢false (sym a ∙ b))
ParamPieces-once whole name unit ps qs (Parts first parts a are cut e) (Parts other others b being parted f) =
    let all : first ∷ parts ≡ other ∷ others = AreParts-once unit (first ∷ parts) (other ∷ others) are being (sym cut ∙ parted) in
    let head : first ≡ other = cc all in
    let tail : parts ≡ others = cc all in
    e ∙ rw (head, tail) refl ∙ sym f

pub GivesWhere-once : (is_ascii goes_on doubled : Bool) (written name : List ℕ) (unit : UnitValue) (ps qs : List (List ℕ)) → GivesWhere is_ascii goes_on doubled written name unit ps
    → GivesWhere is_ascii goes_on doubled written name unit qs → ps ≡ qs
GivesWhere-once true goes_on doubled written name unit ps qs a b = a ∙ sym b
GivesWhere-once false true doubled written name unit ps qs a b = a ∙ sym b
GivesWhere-once false false doubled written name unit ps qs a b = ParamPieces-once doubled name unit ps qs a b

-- ---- there are some

pub ParamPieces-some : (whole : Bool) (name : List ℕ) (unit : UnitValue) → IsWritableUnit unit → (pieces : List (List ℕ)) × ParamPieces whole name unit pieces
ParamPieces-some whole name unit can = by (whole || is_short unit) refl
  where
    parts_of : (parts : List (List ℕ)) → (whole || is_short unit) ≡ false → AreSectionTexts unit parts → octets_in unit ≡ concat parts → (pieces : List (List ℕ)) × ParamPieces whole name unit pieces
    parts_of [] long are cut = let some = not_short_some unit (or_parts whole (is_short unit) long).1 in absurd (omega (arith, some, ap length cut))
    parts_of (first ∷ parts) long are cut = (numbered_piece name 0 (charset_part unit ++ escaped first) ∷ numbered_pieces name 1 parts, Parts first parts long are cut refl)

    by : (b : Bool) → (whole || is_short unit) ≡ b → (pieces : List (List ℕ)) × ParamPieces whole name unit pieces
    by true e = (whole_piece name unit ∷ [], Whole e refl)
    by false e = let parts = AreParts-some unit (octets_in unit) can in parts_of parts.0 e parts.1 parts.2

pub GivesWhere-some : (is_ascii goes_on doubled : Bool) (written name : List ℕ) (unit : UnitValue) → IsWritableUnit unit
    → (pieces : List (List ℕ)) × GivesWhere is_ascii goes_on doubled written name unit pieces
GivesWhere-some true goes_on doubled written name unit can = (written ∷ [], refl)
GivesWhere-some false true doubled written name unit can = ([], refl)
GivesWhere-some false false doubled written name unit can = ParamPieces-some doubled name unit can
