-- A table's words of one length say what the whole table says of a word of that length.
use Rattle.std.proofs.Common.{◌≡◌, ◌≤◌, ◌<◌, ◌∙◌, [], ◌∷◌, ℕ, suc, List, true, false, None, Some, inl, inr, length, refl, sym, ap, if◌then◌else◌, arith, Bor}
use Rattle.std.proofs.lemmas.Bool.{and_parts, cases_Bool}
use Rattle.std.proofs.lemmas.Bool.Decides.{nat_tests}
use Rattle.std.proofs.lemmas.Slice.Eq.{bytes_eq-Decides}
use Rattle.std.specs.Prelude.{nat_eq, nat_lt, slice_index_or}
use Rattle.std.proofs.lemmas.List.{get_or-map}
use Rattle.std.proofs.lemmas.List.FromFn.{get_or-map-range_with_len}
use Rattle.std.specs.List.{list_all}
use Rattle.field_downgrade.specs.private.ByLength.{IsByLength, of_length}
use Rattle.std.specs.Slice.{IsItemAt}
use Rattle.std.specs.Str.{str_to_ascii_lowercase}
use Rattle.mail_wire.specs.Octets.{same_name}
use Rattle.mail_wire.specs.Tables.{Named, entries_of, said_by}
use Rattle.mail_wire.specs.declared.tables.TableWord.{TableWord}

length-lower : (text : List ℕ) → length (str_to_ascii_lowercase text) ≡ length text
length-lower [] = refl
length-lower (x ∷ text) = ap (λ n. suc n) (length-lower text)

same_length : (text name : List ℕ) → same_name text name ≡ true → length text ≡ length name
unfolding same_name
same_length text name e =
    sym (length-lower text) ∙ ap length ((bytes_eq-Decides (str_to_ascii_lowercase text) (str_to_ascii_lowercase name)).0 e) ∙ length-lower name

other_length : (text name : List ℕ) → nat_eq (length name) (length text) ≡ false → same_name text name ≡ false
other_length text name other = elim (cases_Bool (same_name text name)) [
  | inl same ↦ (let is = same_length text name same in grind (arith, nat_tests))
  | inr differs ↦ differs
]

pub narrowed : {V : Type 0} (table : List (Named V)) (word : List ℕ) → said_by (of_length (length word) table) word ≡ said_by table word
unfolding said_by of_length
narrowed [] word = refl
narrowed (entry ∷ table) word = elim (cases_Bool (nat_eq (length entry.word) (length word))) [
  | inl same ↦ rw same (ap (λ rest. if same_name word entry.word then Some entry.says else rest) (narrowed table word))
  | inr other ↦ rw (other, other_length word entry.word other) (narrowed table word)
]

-- no word of a table is longer than all of its words
pub beyond : {V : Type 0} (bound n : ℕ) (table : List (Named V)) → list_all (λ (entry : Named V). nat_lt (length entry.word) bound) table ≡ true → bound ≤ n → of_length n table ≡ []
unfolding of_length
beyond bound n [] all over = refl
beyond {V} bound n (entry ∷ table) all over =
    let both = and_parts (nat_lt (length entry.word) bound) (list_all (λ (entry : Named V). nat_lt (length entry.word) bound) table) all in
    let below : nat_lt (length entry.word) bound ≡ true = both.0 in
    let other : nat_eq (length entry.word) n ≡ false = grind (arith, nat_tests) in
    rw other (beyond bound n table both.1 over)

pub in_part : {V : Type 0} (parts : List (Bor (List (TableWord V)))) (table : List (Named V)) (word : List ℕ) (found : Bor (Bor (List (TableWord V)))) → IsByLength parts table
    → IsItemAt parts (length word) (Some found) → said_by (entries_of found.now.now) word ≡ said_by table word
in_part {V} parts table word found is at =
    let below : length word < length parts = at.3.0 in
    ap (λ entries. said_by entries word)
    (ap (λ (part : Bor (List (TableWord V))). entries_of part.now) at.1
    ∙ sym (get_or-map (λ (part : Bor (List (TableWord V))). entries_of part.now) parts (length word) found.now [] below)
    ∙ ap (λ l. slice_index_or l (length word) []) is.each
    ∙ get_or-map-range_with_len (λ n. of_length n table) 0 (length parts) (length word) (length word) [] below (omega arith))
    ∙ narrowed table word

pub in_none : {V : Type 0} (parts : List (Bor (List (TableWord V)))) (table : List (Named V)) (word : List ℕ) → IsByLength parts table → IsItemAt parts (length word) None
    → None ≡ said_by table word
unfolding said_by
in_none parts table word is at =
    sym (ap (λ entries. said_by entries word) (beyond (length parts) (length word) table is.all at.3)) ∙ narrowed table word
