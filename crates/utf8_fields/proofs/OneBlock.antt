-- Octets have one block at most.
use Rattle.std.proofs.Common.{◌≡◌, ◌≢◌, ℕ, ◌+◌, List, [], ◌∷◌, ◌++◌, take, true, false, arith, refl, sym, ap, ◌∙◌, append_assoc}
use Rattle.std.specs.List.{All, list_all}
use Rattle.std.proofs.lemmas.Bool.{and_parts}
use Rattle.std.proofs.lemmas.List.Elements.{All-head, All-tail}
use Rattle.mail_wire.specs.Lines.{crlf}
use Rattle.utf8_fields.specs.declared.block.Field.{Field}
use Rattle.utf8_fields.specs.Lines.{BeginsField, BeginsWhite}
use Rattle.utf8_fields.specs.Block.{IsFieldAt, AreFields, EndsBlock, HasBlockIn}
use Rattle.utf8_fields.specs.private.Steps.{EndsField}
use Rattle.utf8_fields.proofs.Names.{field_not_white, one_name}
use Rattle.utf8_fields.proofs.Fields.{white_differs}
use Rattle.mail_wire.specs.Octets.{is_field_name_octet}

-- a line that begins a field isn't empty
pub field_not_empty : (name line : List ℕ) → BeginsField name line → line ≢ crlf
field_not_empty [] line begins empty = let some = begins.some in absurd (omega arith)
field_not_empty (x ∷ name) line begins empty =
    let is = begins.colon.3 in
    let same : 13 ≡ x = cc in
    let octet = (and_parts (is_field_name_octet x) (list_all is_field_name_octet name) begins.octets).0 in
    let clash : false ≡ true = rw (← same) at octet in cc

-- the lines of fields, and then nothing or an empty line, don't begin with white
pub fields_end : (lines rest : List (List ℕ)) (start end : ℕ) (fields : List Field) → AreFields lines start fields end → EndsBlock rest → EndsField (lines ++ rest)
fields_end lines rest start end [] done ends = rw done.0 (ends_field rest ends)
  where
    ends_field : (rest : List (List ℕ)) → EndsBlock rest → EndsField rest
    ends_field [] ends = tt
    ends_field (line ∷ rest) ends = λ white. white_differs line white ends
fields_end lines rest start end (field ∷ fields) done ends = rw done.3 (field_not_white (take field.name.len done.0) done.0 done.4.begins)

-- further lines are those up to the first that isn't white
pub same_further : (more more' rest rest' : List (List ℕ)) → more ++ rest ≡ more' ++ rest' → All BeginsWhite more → All BeginsWhite more' → EndsField rest → EndsField rest'
    → (more ≡ more') × (rest ≡ rest')
same_further [] [] rest rest' same white white' ends ends' = (refl, same)
same_further [] (line ∷ more') rest rest' same white white' ends ends' =
    let ends_at = rw same at ends in absurd (ends_at (All-head BeginsWhite line more' white'))
same_further (line ∷ more) [] rest rest' same white white' ends ends' =
    let ends_at = rw (← same) at ends' in absurd (ends_at (All-head BeginsWhite line more white))
same_further (line ∷ more) (line' ∷ more') rest rest' same white white' ends ends' =
    let tails : more ++ rest ≡ more' ++ rest' = cc in
    let heads : line ≡ line' = cc in
    let found = same_further more more' rest rest' tails (All-tail BeginsWhite line more white) (All-tail BeginsWhite line' more' white') ends ends' in
    (rw (heads, found.0) refl, found.1)

-- a field is given by its place and its lines
one_field : (at : ℕ) (a b : Field) (first : List ℕ) (more : List (List ℕ)) → IsFieldAt at a first more → IsFieldAt at b first more → a ≡ b
one_field at a b first more x y =
    let names : a.name.len ≡ b.name.len = one_name a.name.len b.name.len first x.begins y.begins in
    let name_at : a.name.at ≡ b.name.at = x.name_at ∙ sym y.name_at in
    let raw_at : a.raw.at ≡ b.raw.at = x.raw_at ∙ sym y.raw_at in
    let raw_len : a.raw.len ≡ b.raw.len = x.raw_len ∙ sym y.raw_len in
    rw (names, name_at, raw_at, raw_len) refl

-- two readings of the same lines are one
pub one_reading : (lines lines' rest rest' : List (List ℕ)) (start end end' : ℕ) (fields fields' : List Field) → lines ++ rest ≡ lines' ++ rest'
    → AreFields lines start fields end → AreFields lines' start fields' end' → EndsBlock rest → EndsBlock rest' → (fields ≡ fields') × (end ≡ end') × (rest ≡ rest')
one_reading lines lines' rest rest' start end end' [] [] same done done' ends ends' = (refl, sym done.1 ∙ done'.1, rw (done.0, done'.0) at same)
one_reading lines lines' rest rest' start end end' [] (field ∷ fields) same done done' ends ends' =
    let next = rw (done.0, done'.3) at same in
    let at_end = rw next at ends in absurd (field_not_empty (take field.name.len done'.0) done'.0 done'.4.begins at_end)
one_reading lines lines' rest rest' start end end' (field ∷ fields) [] same done done' ends ends' =
    let next = rw (done.3, done'.0) at same in
    let at_end = rw (← next) at ends' in absurd (field_not_empty (take field.name.len done.0) done.0 done.4.begins at_end)
one_reading lines lines' rest rest' start end end' (field ∷ fields) (field' ∷ fields') same done done' ends ends' =
    let this : lines ++ rest ≡ done.0 ∷ (done.1 ++ (done.2 ++ rest)) = ap (λ all. all ++ rest) done.3 ∙ append_assoc (done.0 ∷ done.1) done.2 rest in
    let that : lines' ++ rest' ≡ done'.0 ∷ (done'.1 ++ (done'.2 ++ rest')) = ap (λ all. all ++ rest') done'.3 ∙ append_assoc (done'.0 ∷ done'.1) done'.2 rest' in
    let split : done.0 ∷ (done.1 ++ (done.2 ++ rest)) ≡ done'.0 ∷ (done'.1 ++ (done'.2 ++ rest')) = sym this ∙ same ∙ that in
    let first : done.0 ≡ done'.0 = cc in
    let after : done.1 ++ (done.2 ++ rest) ≡ done'.1 ++ (done'.2 ++ rest') = cc in
    let further = same_further done.1 done'.1 (done.2 ++ rest) (done'.2 ++ rest') after done.4.further done'.4.further
    (fields_end done.2 rest (start + field.raw.len) end fields done.5 ends) (fields_end done'.2 rest' (start + field'.raw.len) end' fields' done'.5 ends') in
    let other = rw (← first, ← further.0) at done'.4 in
    let one : field ≡ field' = one_field start field field' done.0 done.1 done.4 other in
    let later = rw (← one) at done'.5 in
    let all = one_reading done.2 done'.2 rest rest' (start + field.raw.len) end end' fields fields' further.1 done.5 later ends ends' in
    (rw (one, all.0) refl, all.1, all.2)

pub same_block : (lines : List (List ℕ)) (start : ℕ) (fields others : List Field) (end other : ℕ) → HasBlockIn lines start fields end → HasBlockIn lines start others other
    → (fields ≡ others) × (end ≡ other)
same_block lines start fields others end other a b =
    let one = one_reading a.header b.header a.rest b.rest start end other fields others (sym a.lines ∙ b.lines) a.fields_are b.fields_are a.ends b.ends in (one.0, one.1)

-- what follows the block is one, too
pub same_rest : (lines : List (List ℕ)) (start : ℕ) (fields others : List Field) (end other : ℕ) (a : HasBlockIn lines start fields end) (b : HasBlockIn lines start others other) → a.rest ≡ b.rest
same_rest lines start fields others end other a b =
    let one = one_reading a.header b.header a.rest b.rest start end other fields others (sym a.lines ∙ b.lines) a.fields_are b.fields_are a.ends b.ends in one.2
