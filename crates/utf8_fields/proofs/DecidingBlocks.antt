-- Whether octets have a block is decided.
use Rattle.std.proofs.Common.{◌≡◌, ◌≢◌, ◌⊎◌, inl, inr, ℕ, ◌+◌, ◌<◌, ◌≤◌, zero, suc, eqb, List, [], ◌∷◌, ◌++◌, length, take, Some, refl, sym, ap, ◌∙◌, subst, arith, append_assoc, length-append}
use Rattle.std.proofs.lemmas.Bool.{eqb-true, eq-eqb, cases_Bool, cases_lt, both_ways}
use Rattle.std.proofs.lemmas.List.Elements.{All-nil, All-cons, All-head, All-tail}
use Rattle.std.proofs.lemmas.Option.{slice_get_within}
use Rattle.std.proofs.lemmas.Str.{IsUtf8-from_is_utf8, is_utf8-from_IsUtf8}
use Rattle.std.specs.List.{All, concat}
use Rattle.std.specs.Str.{IsUtf8, is_utf8}
use Rattle.mail_wire.specs.Octets.{is_white, is_field_name_octet}
use Rattle.mail_wire.specs.Lines.{crlf, lines_of}
use Rattle.mail_wire.specs.Message.{StandsAt, IsFaulty, IsSound}
use Rattle.utf8_fields.specs.declared.block.Field.{Field}
use Rattle.utf8_fields.specs.Lines.{BeginsField, BeginsWhite}
use Rattle.utf8_fields.specs.Block.{IsFieldAt, AreFields, HasBlockIn, HasBlock}
use Rattle.utf8_fields.specs.private.Steps.{BeginsColon, EndsField}
use Rattle.utf8_fields.proofs.AllSpans.{span_of}
use Rattle.utf8_fields.proofs.Names.{name_stands, name_passes}
use Rattle.utf8_fields.proofs.FirstField.{field_of}
use Rattle.utf8_fields.proofs.OneBlock.{fields_end, same_further}

-- it holds, or it doesn't
abbrev pub Decided : Type 0 → Type 0
Decided P = P ⊎ ¬ P

decide_eq : (x y : ℕ) → Decided (x ≡ y)
decide_eq x y = elim (cases_Bool (eqb x y)) [ inl t ↦ inl (eqb-true x y t) | inr f ↦ inr (λ e. both_ways (eqb x y) f (eq-eqb x y e)) ]

decide_same : (xs ys : List ℕ) → Decided (xs ≡ ys)
decide_same [] [] = inl refl
decide_same [] (y ∷ ys) = inr (λ e. cc e)
decide_same (x ∷ xs) [] = inr (λ e. cc e)
decide_same (x ∷ xs) (y ∷ ys) = elim (decide_eq x y) [
  | inr fails ↦ inr (λ e. fails (cc e))
  | inl e ↦ elim (decide_same xs ys) [ inl same ↦ inl (rw (e, same) refl) | inr other ↦ inr (λ f. other (cc f)) ]
]

decide_all : {X : Type 0} (P : X → Type 0) → ((x : X) → Decided (P x)) → (xs : List X) → Decided (All P xs)
decide_all P decide [] = inl (All-nil P)
decide_all P decide (x ∷ xs) = elim (decide x) [
  | inr fails ↦ inr (λ all. fails (All-head P x xs all))
  | inl first ↦ elim (decide_all P decide xs) [ inl more ↦ inl (All-cons P x xs first more) | inr fails ↦ inr (λ all. fails (All-tail P x xs all)) ]
]

-- Faulty octets.
decide_stands : (octets : List ℕ) (at x : ℕ) → Decided (StandsAt octets at x)
decide_stands [] at x = inr (λ e. cc e)
decide_stands (y ∷ octets) zero x = elim (decide_eq y x) [ inl e ↦ inl (ap Some e) | inr fails ↦ inr (λ e. fails (cc e)) ]
decide_stands (y ∷ octets) (suc at) x = decide_stands octets at x

other_octet : (octets : List ℕ) (at x y : ℕ) → StandsAt octets at x → x ≢ y → ¬ (StandsAt octets at y)
other_octet octets at x y is differ e = differ (unsome x y (sym is ∙ e))
  where
    unsome : (x y : ℕ) → Some x ≡ Some y → x ≡ y
    unsome x y h = cc h

decide_lf : (octets : List ℕ) (at : ℕ) → StandsAt octets at 10 → ¬ (StandsAt octets at 0) → ¬ (StandsAt octets at 13) → Decided (IsFaulty octets at)
decide_lf octets zero lf no_nul no_cr = inl (inr (inr (lf, λ before next cr. absurd (omega (arith, next)))))
decide_lf octets (suc at) lf no_nul no_cr = elim (decide_stands octets at 13) [
  | inl cr ↦ inr (λ faulty. elim faulty [ inl nul ↦ no_nul nul | inr (inl bare) ↦ no_cr bare.0 | inr (inr bare) ↦ bare.1 at (omega arith) cr ])
  | inr none ↦ inl (inr (inr (lf, λ before next cr. none (subst (λ k. StandsAt octets k 13) (following before next) cr))))
]
  where
    following : (before : ℕ) → suc at ≡ before + 1 → before ≡ at
    following before next = omega (arith, next)

decide_faulty : (octets : List ℕ) (at : ℕ) → Decided (IsFaulty octets at)
decide_faulty octets at = elim (decide_stands octets at 0) [
  | inl nul ↦ inl (inl nul)
  | inr no_nul ↦ elim (decide_stands octets at 13) [
    | inl cr ↦ elim (decide_stands octets (at + 1) 10) [
      | inl lf ↦ inr (λ faulty. elim faulty [ inl nul ↦ no_nul nul | inr (inl bare) ↦ bare.1 lf | inr (inr bare) ↦ other_octet octets at 13 10 cr (λ e. omega (arith, e)) bare.0 ])
      | inr none ↦ inl (inr (inl (cr, none)))
    ]
    | inr no_cr ↦ elim (decide_stands octets at 10) [
      | inl lf ↦ decide_lf octets at lf no_nul no_cr
      | inr no_lf ↦ inr (λ faulty. elim faulty [ inl nul ↦ no_nul nul | inr (inl bare) ↦ no_cr bare.0 | inr (inr bare) ↦ no_lf bare.0 ])
    ]
  ]
]

faulty_within : (octets : List ℕ) (at : ℕ) → IsFaulty octets at → at < length octets
faulty_within octets at (inl nul) = slice_get_within octets at 0 nul
faulty_within octets at (inr (inl cr)) = slice_get_within octets at 13 cr.0
faulty_within octets at (inr (inr lf)) = slice_get_within octets at 10 lf.0

-- an octet is faulty, or none up to a place is
faulty_below : (octets : List ℕ) (n : ℕ) → ((at : ℕ) × IsFaulty octets at) ⊎ ((at : ℕ) → at < n → ¬ (IsFaulty octets at))
faulty_below octets zero = inr (λ at l. absurd (omega (arith, l)))
faulty_below octets (suc n) = elim (decide_faulty octets n) [
  | inl faulty ↦ inl (n, faulty)
  | inr sound ↦ elim (faulty_below octets n) [
    | inl found ↦ inl found
    | inr none ↦ inr (λ at l faulty. elim (cases_lt at n) [ inl below ↦ none at below faulty | inr up ↦ sound (subst (IsFaulty octets) (last at l up) faulty) ])
  ]
]
  where
    last : (at : ℕ) → at < suc n → n ≤ at → at ≡ n
    last at l up = omega (arith, l, up)

pub decide_sound : (octets : List ℕ) → Decided (IsSound octets)
decide_sound octets = elim (faulty_below octets (length octets)) [
  | inl found ↦ inr (λ sound. sound found.0 found.1)
  | inr none ↦ inl (λ at faulty. none at (faulty_within octets at faulty) faulty)
]

decide_utf8 : (octets : List ℕ) → Decided (IsUtf8 octets)
decide_utf8 octets = elim (cases_Bool (is_utf8 octets)) [
  | inl is ↦ inl (IsUtf8-from_is_utf8 octets is)
  | inr fails ↦ inr (λ u. both_ways (is_utf8 octets) fails (is_utf8-from_IsUtf8 octets u))
]

-- The lines of a field.
decide_colon : (xs : List ℕ) → Decided (BeginsColon xs)
decide_colon [] = inr (λ h. h)
decide_colon (x ∷ xs) = decide_eq x 58

decide_name : (line : List ℕ) → ((n : ℕ) × BeginsField (take n line) line) ⊎ ((name : List ℕ) → ¬ (BeginsField name line))
decide_name line =
    let name = span_of is_field_name_octet line in
    let white = span_of is_white name.1 in
    elim (cases_lt 0 (length name.0)) [
      | inr none ↦ inr (λ other begins. let passes = name_passes line name.0 name.1 white.0 white.1 name.2 white.2 other begins in omega (arith, none, passes.0))
      | inl some ↦ elim (decide_colon white.1) [
        | inl colon ↦ inl (length name.0, name_stands line name.0 name.1 white.0 white.1 name.2 white.2 some colon)
        | inr fails ↦ inr (λ other begins. fails (name_passes line name.0 name.1 white.0 white.1 name.2 white.2 other begins).1)
      ]
    ]

decide_white : (line : List ℕ) → Decided (BeginsWhite line)
decide_white [] = inr (λ h. h)
decide_white (x ∷ line) = elim (cases_Bool (is_white x)) [ inl is ↦ inl is | inr fails ↦ inr (λ is. both_ways (is_white x) fails is) ]

-- the further lines of a field, and what follows them
record HasFurther (lines more rest : List (List ℕ)) : Type 0 where
  whole : lines ≡ more ++ rest
  white : All BeginsWhite more
  ends : EndsField rest

further_of : (lines : List (List ℕ)) → (more : List (List ℕ)) × (rest : List (List ℕ)) × HasFurther lines more rest
further_of [] = ([], [], record { whole = refl; white = All-nil BeginsWhite; ends = tt })
further_of (line ∷ lines) = elim (decide_white line) [
  | inr fails ↦ ([], line ∷ lines, record { whole = refl; white = All-nil BeginsWhite; ends = fails })
  | inl is ↦
      let f = further_of lines in
      (line ∷ f.0, f.1, record { whole = ap (λ t. line ∷ t) f.2.whole; white = All-cons BeginsWhite line f.0 is f.2.white; ends = f.2.ends })
]

record AreFieldLines (first : List ℕ) (more : List (List ℕ)) : Type 0 where
  name : ℕ
  begins : BeginsField (take name first) first
  sound : All IsSound (first ∷ more)
  utf8 : All IsUtf8 (first ∷ more)

decide_lines : (first : List ℕ) (more : List (List ℕ)) → Decided (AreFieldLines first more)
decide_lines first more = elim (decide_name first) [
  | inr none ↦ inr (λ are. none (take are.name first) are.begins)
  | inl name ↦ elim (decide_all IsSound decide_sound (first ∷ more)) [
    | inr fails ↦ inr (λ are. fails are.sound)
    | inl sound ↦ elim (decide_all IsUtf8 decide_utf8 (first ∷ more)) [
      | inr fails ↦ inr (λ are. fails are.utf8)
      | inl utf8 ↦ inl (record { name = name.0; begins = name.1; sound = sound; utf8 = utf8 })
    ]
  ]
]

-- The block of lines.
pub record SomeBlock (lines : List (List ℕ)) (at : ℕ) : Type 0 where
  pub fields : List Field
  pub end : ℕ
  pub block : HasBlockIn lines at fields end

-- a block whose first field has these lines
block_from : (first : List ℕ) (lines more rest : List (List ℕ)) (at : ℕ) → HasFurther lines more rest → AreFieldLines first more → SomeBlock rest (at + length (concat (first ∷ more)))
    → SomeBlock (first ∷ lines) at
block_from first lines more rest at f are b =
    let field : Field = field_of at are.name (length (concat (first ∷ more))) in
    let is : IsFieldAt at field first more = record { name_at = refl; raw_at = refl; raw_len = refl; begins = are.begins; further = f.white; sound = are.sound; utf8 = are.utf8 } in
    record {
      fields = field ∷ b.fields;
      end = b.end;
      block = record {
        header = (first ∷ more) ++ b.block.header;
        rest = b.block.rest;
        lines = ap (λ t. first ∷ t) (f.whole ∙ ap (λ t. more ++ t) b.block.lines ∙ sym (append_assoc more b.block.header b.block.rest));
        fields_are = (first, more, b.block.header, refl, is, b.block.fields_are);
        ends = b.block.ends;
      };
    }

-- the first field of a block has these lines, and after it there is a block
record Following (first : List ℕ) (more rest : List (List ℕ)) (at : ℕ) : Type 0 where
  are : AreFieldLines first more
  block : SomeBlock rest (at + length (concat (first ∷ more)))

after_first : (first : List ℕ) (lines more rest : List (List ℕ)) (at end : ℕ) (fields : List Field) → first ≢ crlf → HasFurther lines more rest → HasBlockIn (first ∷ lines) at fields end
    → Following first more rest at
after_first first lines more rest at end [] other f b =
    let all = rw (b.fields_are.0) at b.lines in
    let ends = rw (← all) at b.ends in
    absurd (other ends)
after_first first lines more rest at end (field ∷ fields) other f b =
    let done = b.fields_are in
    let all : first ∷ lines ≡ done.0 ∷ (done.1 ++ (done.2 ++ b.rest)) = b.lines ∙ ap (λ t. t ++ b.rest) done.3 ∙ append_assoc (done.0 ∷ done.1) done.2 b.rest in
    let first_is : first ≡ done.0 = cc all in
    let lines_are : lines ≡ done.1 ++ (done.2 ++ b.rest) = cc all in
    let same = same_further more done.1 rest (done.2 ++ b.rest) (sym f.whole ∙ lines_are) f.white done.4.further f.ends (fields_end done.2 b.rest (at + field.raw.len) end fields done.5 b.ends) in
    let is : IsFieldAt at field first more = rw (first_is, same.0) done.4 in
    let later : AreFields done.2 (at + length (concat (first ∷ more))) fields end = subst (λ n. AreFields done.2 (at + n) fields end) is.raw_len done.5 in
    record {
      are = record { name = field.name.len; begins = is.begins; sound = is.sound; utf8 = is.utf8 };
      block = record { fields = fields; end = end; block = record { header = done.2; rest = b.rest; lines = same.1; fields_are = later; ends = b.ends } };
    }

pub decide_in : (n : ℕ) (lines : List (List ℕ)) (at : ℕ) → length lines ≤ n → Decided (SomeBlock lines at)
decide_in n [] at small = inl (record { fields = []; end = at; block = record { header = []; rest = []; lines = refl; fields_are = (refl, refl); ends = tt } })
decide_in zero (first ∷ lines) at small = absurd (omega (arith, small))
decide_in (suc n) (first ∷ lines) at small = elim (decide_same first crlf) [
  | inl empty ↦ inl (record { fields = []; end = at; block = record { header = []; rest = first ∷ lines; lines = refl; fields_are = (refl, refl); ends = empty } })
  | inr other ↦
      let f = further_of lines in
      elim (decide_lines first f.0) [
        | inr fails ↦ inr (λ b. fails (after_first first lines f.0 f.1 at b.end b.fields other f.2 b.block).are)
        | inl are ↦ elim (decide_in n f.1 (at + length (concat (first ∷ f.0))) (omega (arith, small, ap length f.2.whole, length-append f.0 f.1))) [
          | inl b ↦ inl (block_from first lines f.0 f.1 at f.2 are b)
          | inr none ↦ inr (λ b. none (after_first first lines f.0 f.1 at b.end b.fields other f.2 b.block).block)
        ]
      ]
]

-- octets have a block, or none
pub decide_block : (octets : List ℕ) → ((fields : List Field) × (end : ℕ) × HasBlock octets fields end) ⊎ ((fields : List Field) (end : ℕ) → ¬ (HasBlock octets fields end))
decide_block octets = elim (decide_in (length (lines_of octets)) (lines_of octets) 0 (omega arith)) [
  | inl b ↦ inl (b.fields, b.end, b.block)
  | inr none ↦ inr (λ fields end block. none (record { fields = fields; end = end; block = block }))
]
