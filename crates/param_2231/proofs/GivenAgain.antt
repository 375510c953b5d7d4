-- What pieces give stands for them.
use Rattle.std.proofs.Common.{◌≡◌, ℕ, zero, suc, ◌==◌, Bool, true, false, not, if◌then◌else◌, inl, inr, List, [], ◌∷◌, ◌++◌, length, drop, is_some, refl, sym, ap, ◌∙◌, subst, arith}
use Rattle.std.proofs.lemmas.Bool.{cases_Bool, and_parts, cond-true, cond-false}
use Rattle.std.proofs.lemmas.List.{append_assoc, map-append}
use Rattle.std.proofs.lemmas.List.Folds.{list_all-append}
use Rattle.std.specs.List.{AllByRecursion, flat_map, list_all}
use Rattle.std.specs.Str.{str_to_ascii_lowercase}
use Rattle.mail_wire.specs.Octets.{is_ascii}
use Rattle.mail_wire.proofs.AllLemmas.{all-append, pass-append, pass-take, pass-drop, pass-front, pass-back}
use Rattle.encoded_words.specs.Words.{is_token_octet}
use Rattle.encoded_words.specs.private.Parts.{lacks}
use Rattle.encoded_words.proofs.WrittenPieces.{both_hold}
use Rattle.field_tokens.specs.declared.Style.TheVariants.{Mime}
use Rattle.field_tokens.specs.TokenOctets.{is_atom_octet}
use Rattle.field_tokens.specs.Tokens.{IsToken, TokenValue, AreTokens}
use Rattle.field_tokens.specs.Squeezed.{octets_of}
use Rattle.param_grammar.specs.declared.Piece.{Piece}
use Rattle.param_grammar.specs.Names.{IsBase, number_suffix, star_suffix}
use Rattle.param_grammar.specs.Bodies.{is_first, SaysOctets, unquoted, inner}
use Rattle.param_grammar.specs.Joining.{is_part_of, parts_named, numbered, has_number, first_parts, joined_unit, ParamValue, unit_at, goes_on, params_of, is_ascii_parameter, is_doubled}
use Rattle.param_2231.specs.Layout.{GivesWhere, PiecesGive}
use Rattle.param_2231.proofs.CoresAgain.{is_octet, is_quoted_string, content, HasCore}
use Rattle.param_2231.proofs.WordsAgain.{is_word_octet, lower-all, lower-word, lower-ascii, lower-lacks, lower-twice, CanBeWritten, unit_writes, unquoted-all, escaped-octets}
use Rattle.param_2231.proofs.MadePiecesAgain.{IsMade, IsName, GivesMade, OneMade, SeriesMade, AreGiven, param_given, written_all}
use Rattle.param_2231.proofs.JoinedAgain.{StandsFor, Copied, Nothing, One, Series, StandForAll, part_named, parts_append}
use Rattle.param_2231.proofs.GlobalLemmas.{kind_is}
use Rattle.param_2231.proofs.SameOctets.{all_filter}

-- ---- what pieces of a text hold

lower_length : (xs : List ℕ) → length (str_to_ascii_lowercase xs) ≡ length xs
lower_length [] = refl
lower_length (x ∷ xs) = ap suc (lower_length xs)

lower_base : (b : List ℕ) → IsBase b → IsBase (str_to_ascii_lowercase b)
lower_base b is = record {
  some = omega (arith, lower_length b, is.some);
  most = omega (arith, lower_length b, is.most);
  ascii = lower-all is_ascii lower-ascii b is.ascii;
}

pub core_name : (piece : Piece) → HasCore piece → IsName piece.base
core_name piece has =
    let c = has.is_core in
    let b : List ℕ = c.parts.base in
    let are : AreTokens Mime (c.atom ∷ c.equals ∷ c.value) (octets_of (c.atom ∷ c.equals ∷ c.value)) = subst (λ ts. AreTokens Mime ts (octets_of ts)) c.core_is has.stands.are_tokens in
    let atom = subst (λ k. IsToken Mime k c.atom.octets are.0) (kind_is c.atom.kind c.is_name) are.2 in
    let suffix : List ℕ = number_suffix c.parts.number ++ star_suffix c.parts.is_extended in
    let atoms : list_all (is_atom_octet Mime) b ≡ true = pass-front (is_atom_octet Mime) b suffix (sym (ap (list_all (is_atom_octet Mime)) c.has_parts.spelled) ∙ atom.1.passes) in
    let words : list_all is_word_octet b ≡ true = both_hold (is_atom_octet Mime) is_ascii b atoms c.has_parts.base.ascii in
    subst IsName (sym c.base_is) (record {
      base = lower_base b c.has_parts.base;
      first = lower-lacks 42 (omega arith) b c.has_parts.first;
      words = lower-all is_word_octet lower-word b words;
      lower = lower-twice b;
    })

-- a charset and octets that can be written
pub record IsGood (piece : Piece) : Type 0 where
  pub names : list_all is_token_octet piece.charset ≡ true
  pub first : lacks 39 piece.charset ≡ true
  pub octets : list_all is_octet piece.octets ≡ true

content_octets : (value : List TokenValue) → list_all is_octet (octets_of value) ≡ true → list_all is_octet (content value) ≡ true
content_octets value h = by (is_quoted_string value)
  where
    by : (b : Bool) → list_all is_octet (if b then unquoted (inner (octets_of value)) else octets_of value) ≡ true
    by true = unquoted-all is_octet (inner (octets_of value)) (pass-take is_octet _ (drop 1 (octets_of value)) (pass-drop is_octet 1 (octets_of value) h))
    by false = h

says_good : (extended first : Bool) (said : List ℕ) (piece : Piece) → list_all is_octet said ≡ true → SaysOctets extended first said piece.charset piece.octets → IsGood piece
says_good false first said piece h says = record { names = ap (list_all is_token_octet) says.0; first = ap (lacks 39) says.0; octets = ap (list_all is_octet) says.1 ∙ h }
says_good true false said piece h says =
    record { names = ap (list_all is_token_octet) says.0; first = ap (lacks 39) says.0; octets = escaped-octets said piece.octets says.1 h }
says_good true true said piece h says =
    let is = says.1 in
    let whole : list_all is_octet (piece.charset ++ 39 ∷ (is.language ++ 39 ∷ says.0)) ≡ true = sym (ap (list_all is_octet) is.spelled) ∙ h in
    let following : list_all is_octet (is.language ++ 39 ∷ says.0) ≡ true = pass-back is_octet (piece.charset ++ 39 ∷ []) (is.language ++ 39 ∷ says.0)
    (ap (list_all is_octet) (append_assoc piece.charset (39 ∷ []) (is.language ++ 39 ∷ says.0)) ∙ whole) in
    let text : list_all is_octet says.0 ≡ true = pass-back is_octet (is.language ++ 39 ∷ []) says.0 (ap (list_all is_octet) (append_assoc is.language (39 ∷ []) says.0) ∙ following) in
    record { names = is.charset_is; first = is.charset_first; octets = escaped-octets says.0 piece.octets says.2 text }

pub core_good : (piece : Piece) → HasCore piece → IsGood piece
core_good piece has =
    let c = has.is_core in
    let whole : list_all is_octet (octets_of (c.atom ∷ c.equals ∷ c.value)) ≡ true = sym (ap (λ ts. list_all is_octet (octets_of ts)) c.core_is) ∙ has.stands.octets in
    let value : list_all is_octet (octets_of c.value) ≡ true = pass-back is_octet c.equals.octets (octets_of c.value) (pass-back is_octet c.atom.octets (octets_of (c.equals ∷ c.value)) whole) in
    says_good c.parts.is_extended (is_first c.parts.number) (content c.value) piece (content_octets c.value value) c.says

pub all_good : (pieces : List Piece) → AllByRecursion HasCore pieces → AllByRecursion IsGood pieces
all_good [] all = tt
all_good (p ∷ pieces) all = (core_good p all.0, all_good pieces all.1)

flat_all : (q : ℕ → Bool) (f : Piece → List ℕ) (ps : List Piece) → ((p : Piece) → IsGood p → list_all q (f p) ≡ true) → AllByRecursion IsGood ps → list_all q (flat_map f ps) ≡ true
flat_all q f [] each all = refl
flat_all q f (p ∷ ps) each all = pass-append q (f p) (flat_map f ps) (each p all.0) (flat_all q f ps each all.1)

first_good : (n : ℕ) (parts : List Piece) → AllByRecursion IsGood parts → AllByRecursion IsGood (first_parts n parts)
first_good zero parts all = tt
first_good (suc n) parts all = all-append IsGood (first_parts n parts) (numbered n parts) (first_good n parts all) (all_filter IsGood (has_number n) parts all)

joined_writes : (parts : List Piece) → AllByRecursion IsGood parts → CanBeWritten (joined_unit parts)
joined_writes parts all =
    let zeroth : AllByRecursion IsGood (numbered 0 parts) = all_filter IsGood (has_number 0) parts all in
    unit_writes (flat_map (λ (p : Piece). p.charset) (numbered 0 parts)) (flat_map (λ (p : Piece). p.octets) (first_parts (length parts) parts))
    (flat_all is_token_octet (λ (p : Piece). p.charset) (numbered 0 parts) (λ p good. good.names) zeroth) (flat_all (λ x. not (x == 39)) (λ (p : Piece). p.charset) (numbered 0 parts) (λ p good. good.first) zeroth)
    (flat_all is_octet (λ (p : Piece). p.octets) (first_parts (length parts) parts) (λ p good. good.octets) (first_good (length parts) parts all))

pub unit_at_writes : (all : List Piece) (p : Piece) → AllByRecursion IsGood all → IsGood p → CanBeWritten (unit_at all p)
unit_at_writes all p good is = elim (cases_Bool (is_some p.number)) [
  | inl s ↦ subst CanBeWritten (sym (cond-true _ _ _ s)) (joined_writes (parts_named p.base all) (all_filter IsGood (is_part_of p.base) all good))
  | inr u ↦ subst CanBeWritten (sym (cond-false _ _ _ u)) (unit_writes p.charset p.octets is.names is.first is.octets)
]

-- ---- what one piece gives

own_ascii : (all before : List Piece) (p : Piece) (more : List Piece) → all ≡ before ++ p ∷ more → is_ascii_parameter all p ≡ true → list_all is_ascii p.written ≡ true
own_ascii all before p more e h = elim (cases_Bool (is_some p.number)) [
  | inr u ↦ (and_parts (list_all is_ascii p.written) true (sym (ap test (cond-false _ _ _ u)) ∙ h)).0
  | inl s ↦
      let parts : parts_named p.base all ≡ parts_named p.base before ++ p ∷ parts_named p.base more =
      ap (parts_named p.base) e ∙ parts_append p.base before (p ∷ more) ∙ ap (λ r. parts_named p.base before ++ r) (cond-true _ _ _ (part_named p.base p s refl)) in
      let whole : test (parts_named p.base before ++ p ∷ parts_named p.base more) ≡ true = sym (ap test parts) ∙ sym (ap test (cond-true _ _ _ s)) ∙ h in
      let rest = (and_parts (test (parts_named p.base before)) (test (p ∷ parts_named p.base more)) (sym (list_all-append (λ (own : Piece). list_all is_ascii own.written) (parts_named p.base before) (p ∷ parts_named p.base more)) ∙ whole)).1 in
      (and_parts (list_all is_ascii p.written) (test (parts_named p.base more)) rest).0
]
  where
    test : List Piece → Bool
    test ps = list_all (λ (own : Piece). list_all is_ascii own.written) ps

record OneGiven (all before : List Piece) (p : Piece) (pieces : List (List ℕ)) : Type 0 where
  made : List Piece
  stands : StandsFor all before p made
  written : pieces ≡ written_all made
  are_made : AllByRecursion IsMade made

one_given : (ascii goes : Bool) (all before : List Piece) (p : Piece) (more : List Piece) (pieces : List (List ℕ)) → all ≡ before ++ p ∷ more → HasCore p → AllByRecursion IsGood all
    → is_ascii_parameter all p ≡ ascii → goes_on before p ≡ goes → GivesWhere ascii goes (is_doubled (params_of all) p.base) p.written p.base (unit_at all p) pieces
    → OneGiven all before p pieces
one_given true goes all before p more pieces e core good ascii g gives = record {
  made = p ∷ [];
  stands = Copied ascii refl;
  written = gives;
  are_made = (record { has_core = core; ascii = own_ascii all before p more e ascii }, tt);
}
one_given false true all before p more pieces e core good ascii g gives = record { made = []; stands = Nothing ascii g refl; written = gives; are_made = tt }
one_given false false all before p more pieces e core good ascii g gives =
    let doubled : Bool = is_doubled (params_of all) p.base in
    let given : AreGiven doubled p.base (unit_at all p) pieces =
    param_given doubled p.base (unit_at all p) pieces (core_name p core) (unit_at_writes all p good (core_good p core)) gives in
    record { made = given.made; stands = by given.made given.gives; written = given.written; are_made = given.are_made }
  where
    by : (made : List Piece) → GivesMade (is_doubled (params_of all) p.base) p.base (unit_at all p) made → StandsFor all before p made
    by made (OneMade m number named unit is) = One ascii g m number named unit is
    by made (SeriesMade single series) = Series ascii g single series

-- ---- what all pieces give

pub record AllGiven (all before pieces : List Piece) (given : List (List ℕ)) : Type 0 where
  pub made : List Piece
  pub stand : StandForAll all before pieces made
  pub written : given ≡ written_all made
  pub are_made : AllByRecursion IsMade made

given_from : (all before pieces : List Piece) (given : List (List ℕ)) → all ≡ before ++ pieces → AllByRecursion HasCore pieces → AllByRecursion IsGood all
    → PiecesGive all (params_of all) before pieces given → AllGiven all before pieces given
given_from all before [] given e cores good give = record { made = []; stand = refl; written = give; are_made = tt }
given_from all before (p ∷ more) given e cores good give =
    let first : OneGiven all before p give.0 =
    one_given (is_ascii_parameter all p) (goes_on before p) all before p more give.0 e cores.0 good refl refl give.3 in
    let others : AllGiven all (before ++ p ∷ []) more give.1 =
    given_from all (before ++ p ∷ []) more give.1 (e ∙ sym (append_assoc before (p ∷ []) more)) cores.1 good give.4 in
    record {
      made = first.made ++ others.made;
      stand = (first.made, others.made, refl, first.stands, others.stand);
      written = give.2 ∙ ap (λ r. r ++ give.1) first.written ∙ ap (λ r. written_all first.made ++ r) others.written ∙ sym (map-append (λ (q : Piece). q.written) first.made others.made);
      are_made = all-append IsMade first.made others.made first.are_made others.are_made;
    }

pub pieces_given : (all : List Piece) (params : List ParamValue) (given : List (List ℕ)) → params ≡ params_of all → AllByRecursion HasCore all
    → PiecesGive all params [] all given → AllGiven all [] all given
pieces_given all params given e cores give = given_from all [] all given refl cores (all_good all cores) (subst (λ ps. PiecesGive all ps [] all given) e give)
