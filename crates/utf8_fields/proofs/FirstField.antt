-- The steps within a field.
use Rattle.std.proofs.Common.{◌≡◌, ◌≢◌, ℕ, ◌+◌, ◌<◌, ◌≤◌, ◌⊎◌, inl, inr, List, [], ◌∷◌, length, take, drop, arith, refl, ap, ◌∙◌, length-append}
use Rattle.std.specs.Prelude.{IsUtf8}
use Rattle.std.specs.List.{All, concat}
use Rattle.std.proofs.lemmas.List.{length-take-le, drop-drop, length-drop}
use Rattle.std.proofs.lemmas.List.Elements.{All-cons}
use Rattle.mail_wire.specs.Lines.{crlf, lines_of}
use Rattle.mail_wire.specs.Message.{IsSound}
use Rattle.utf8_fields.specs.declared.block.Field.{Field}
use Rattle.utf8_fields.specs.declared.block.FieldFault.{FieldFault}
use Rattle.utf8_fields.specs.declared.block.FieldFault.TheVariants.{NotField}
use Rattle.utf8_fields.specs.Lines.{BeginsField, BeginsWhite}
use Rattle.utf8_fields.specs.Block.{IsFieldAt, EndsBlock}
use Rattle.utf8_fields.specs.Faults.{ComesAfter, IsFaultIn}
use Rattle.utf8_fields.specs.private.Steps.{IsBadLine, AreFurther, IsBadFurther, EndsField, IsNextField}
use Rattle.utf8_fields.proofs.Heads.{lines_of-nil}
use Rattle.utf8_fields.proofs.Fields.{AreFields-one, white_differs}

-- the first of the lines at `at`, which isn't empty, and the octets after it
pub record BeginsAt (octets : List ℕ) (at : ℕ) (first others : List ℕ) : Type 0 where
  pub lines : lines_of (drop at octets) ≡ first ∷ lines_of others
  pub goes_on : first ≢ crlf
  pub others_are : others ≡ drop (at + length first) octets
  pub fits : at + length first ≤ length octets

pub BeginsAt-from_split : (octets rest first others : List ℕ) (at n : ℕ) → at ≤ length octets → (EndsBlock (lines_of (drop at octets)) → ⊥) → rest ≡ drop at octets
    → n ≤ length rest → (0 < length rest → lines_of rest ≡ take n rest ∷ lines_of (drop n rest)) → first ≡ take n rest → others ≡ drop n rest → BeginsAt octets at first others
BeginsAt-from_split octets rest first others at n fits on is_rest bound lines is_first is_others = from_rest rest refl
  where
    from_rest : (s : List ℕ) → s ≡ rest → BeginsAt octets at first others
    from_rest [] none =
        let nil = lines_of-nil (drop at octets) (rw (← is_rest, ← none) refl) in absurd (on (rw nil tt))
    from_rest (x ∷ s) is =
        let some : 0 < length rest = rw (← is) (omega arith) in
        let split : lines_of (drop at octets) ≡ first ∷ lines_of others = rw (← is_rest, is_first, is_others) (lines some) in
        let len : length first ≡ n = rw is_first (length-take-le n rest bound) in
        record {
          lines = split;
          goes_on = λ empty. on (rw split empty);
          others_are = rw (len, is_others, is_rest, drop-drop) refl;
          fits = rw len (let rest_len = rw is_rest at bound in omega (arith, length-drop at octets));
        }

-- no fields come before the first line
comes_first : (octets first others : List ℕ) (at : ℕ) → BeginsAt octets at first others → ComesAfter (lines_of (drop at octets)) at [] at first
comes_first octets first others at begins = record { before = []; after = lines_of others; split = begins.lines; fields_are = (refl, refl); goes_on = begins.goes_on }

-- the first line begins no field
pub fault_not_field : (octets first others : List ℕ) (at : ℕ) → BeginsAt octets at first others → ((name : List ℕ) → BeginsField name first → ⊥)
    → IsFaultIn (lines_of (drop at octets)) at (NotField at)
fault_not_field octets first others at begins none = ([], first, comes_first octets first others at begins, λ is. no_line is.kind)
  where
    no_line : ((name : List ℕ) × BeginsField name first) ⊎ ((0 < length {A = Field} []) × BeginsWhite first) → ⊥
    no_line (inl field) = none field.0 field.1
    no_line (inr goes) = let some = goes.0 in absurd (omega arith)

-- a bad line after fields with which it goes on, or that begins a field
fault_line : (lines : List (List ℕ)) (start at : ℕ) (fields : List Field) (line : List ℕ) (fault : FieldFault) → ComesAfter lines start fields at line
    → ((name : List ℕ) × BeginsField name line) ⊎ ((0 < length fields) × BeginsWhite line) → IsBadLine at line fault → IsFaultIn lines start fault
fault_line lines start at fields line fault comes kind (inl unsound) = rw unsound.1 (fields, line, comes, λ is. unsound.0 is.sound)
fault_line lines start at fields line fault comes kind (inr bad) = rw bad.2 (fields, at, line, comes, record { sound = bad.0; kind = kind }, bad.1, refl)

-- the first line isn't sound or no UTF-8
pub fault_first : (octets first others : List ℕ) (at : ℕ) (name : List ℕ) (fault : FieldFault) → BeginsAt octets at first others → BeginsField name first → IsBadLine at first fault
    → IsFaultIn (lines_of (drop at octets)) at fault
fault_first octets first others at name fault begins field bad =
    fault_line (lines_of (drop at octets)) at at [] first fault (comes_first octets first others at begins) (inl (name, field)) bad

-- the field of these lines
abbrev pub field_of : ℕ → ℕ → ℕ → Field
field_of at name len = record { name = record { at = at; len = name }; raw = record { at = at; len = len } }

pub IsFieldAt-from_lines : (at name len : ℕ) (first : List ℕ) (more : List (List ℕ)) → len ≡ length (concat (first ∷ more)) → BeginsField (take name first) first
    → IsSound first → IsUtf8 first → All BeginsWhite more → All IsSound more → All IsUtf8 more → IsFieldAt at (field_of at name len) first more
IsFieldAt-from_lines at name len first more is_len begins sound utf8 white sounds all = record {
  name_at = refl;
  raw_at = refl;
  raw_len = is_len;
  begins = begins;
  further = white;
  sound = All-cons IsSound first more sound sounds;
  utf8 = All-cons IsUtf8 first more utf8 all;
}

-- a further line isn't sound or no UTF-8
pub fault_further : (octets first others : List ℕ) (at name : ℕ) (fault : FieldFault) → BeginsAt octets at first others → BeginsField (take name first) first → IsSound first
    → IsUtf8 first → IsBadFurther others (at + length first) fault → IsFaultIn (lines_of (drop at octets)) at fault
fault_further octets first others at name fault begins field sound utf8 bad =
    let len : ℕ = length (concat (first ∷ bad.more)) in
    let is_len : at + length first + length (concat bad.more) ≡ at + length (concat (first ∷ bad.more)) = omega (arith, length-append first (concat bad.more)) in
    let is_field : IsFieldAt at (field_of at name len) first bad.more = IsFieldAt-from_lines at name len first bad.more refl field sound utf8 bad.white bad.sound bad.utf8 in
    let comes : ComesAfter (lines_of (drop at octets)) at (field_of at name len ∷ []) (at + len) bad.line = record {
      before = first ∷ bad.more;
      after = bad.after;
      split = begins.lines ∙ ap (λ lines. first ∷ lines) bad.lines;
      fields_are = AreFields-one at (field_of at name len) first bad.more is_field;
      goes_on = white_differs bad.line bad.begins;
    } in
    fault_line (lines_of (drop at octets)) at (at + len) (field_of at name len ∷ []) bad.line fault comes (inr (omega arith, bad.begins)) (rw is_len at bad.bad)

-- the field is whole
pub next_field : (octets first others : List ℕ) (at name further : ℕ) → BeginsAt octets at first others → BeginsField (take name first) first → IsSound first → IsUtf8 first
    → AreFurther others further → EndsField (lines_of (drop further others)) → IsNextField octets at (field_of at name (length first + further))
next_field octets first others at name further begins field sound utf8 are ends =
    let len : length first + further ≡ length (concat (first ∷ are.more)) = let is = are.len_is in omega (arith, length-append first (concat are.more)) in
    let place : at + length first + further ≡ at + (length first + further) = omega arith in
    let after : drop further others ≡ drop (at + (length first + further)) octets = rw (begins.others_are, drop-drop, place) refl in
    record {
      first = first;
      more = are.more;
      lines = begins.lines ∙ ap (λ lines. first ∷ lines) (rw after at are.lines);
      is_field = IsFieldAt-from_lines at name (length first + further) first are.more len field sound utf8 are.white are.sound are.utf8;
      ends = rw after at ends;
      fits = let rest = are.fits in let all = begins.fits in let others_len = ap length begins.others_are in omega (arith, length-drop (at + length first) octets);
    }
