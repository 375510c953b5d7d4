-- The first faulty line is one, and so is its fault.
use Rattle.std.proofs.Common.{◌≡◌, ◌≢◌, ℕ, ◌+◌, ◌<◌, ◌⊎◌, inl, inr, List, [], ◌∷◌, ◌++◌, length, refl, sym, ap, ◌∙◌, subst, arith, length-append, add-zero}
use Rattle.std.specs.List.{All, concat}
use Rattle.std.proofs.lemmas.List.Elements.{All-head, All-tail}
use Rattle.std.proofs.lemmas.List.Folds.{concat-append}
use Rattle.utf8_fields.specs.declared.block.Field.{Field}
use Rattle.utf8_fields.specs.declared.block.FieldFault.{FieldFault}
use Rattle.utf8_fields.specs.declared.block.FieldFault.TheVariants.{NotField, NotUtf8, Memory}
use Rattle.utf8_fields.specs.Lines.{BeginsField, BeginsWhite}
use Rattle.utf8_fields.specs.Block.{AreFields}
use Rattle.utf8_fields.specs.Faults.{IsFieldLine, ComesAfter, IsFaultIn}
use Rattle.utf8_fields.proofs.NoFault.{IsBlockLine, block_lines}

-- where one of two places in a list stands
split_two : (xs ys us vs : List (List ℕ)) (x y : List ℕ) → xs ++ x ∷ us ≡ ys ++ y ∷ vs
    → ((xs ≡ ys) × (x ≡ y)) ⊎ ((more : List (List ℕ)) × (ys ≡ xs ++ x ∷ more)) ⊎ ((more : List (List ℕ)) × (xs ≡ ys ++ y ∷ more))
split_two [] [] us vs x y h = let same : x ≡ y = cc h in inl (refl, same)
split_two [] (b ∷ ys) us vs x y h = let same : b ∷ ys ≡ x ∷ ys = cc h in inr (inl (ys, same))
split_two (a ∷ xs) [] us vs x y h = let same : a ∷ xs ≡ y ∷ xs = cc h in inr (inr (xs, same))
split_two (a ∷ xs) (b ∷ ys) us vs x y h =
    let first : a ≡ b = cc h in
    let rest : xs ++ x ∷ us ≡ ys ++ y ∷ vs = cc h in
    elim (split_two xs ys us vs x y rest) [
      | inl same ↦ inl (rw (first, same.0) refl, same.1)
      | inr (inl earlier) ↦ inr (inl (earlier.0, rw (first, earlier.1) refl))
      | inr (inr later) ↦ inr (inr (later.0, rw (first, later.1) refl))
    ]

all_middle : (P : List ℕ → Type 0) (xs ys : List (List ℕ)) (x : List ℕ) → All P (xs ++ x ∷ ys) → P x
all_middle P [] ys x all = All-head P x ys all
all_middle P (y ∷ xs) ys x all = all_middle P xs ys x (All-tail P y (xs ++ x ∷ ys) all)

-- A line of a block that may stand after these lines: the first one begins a field.
record GoesWell (before : List (List ℕ)) (line : List ℕ) : Type 0 where
  is_line : IsBlockLine line
  first : before ≡ [] → (name : List ℕ) × BeginsField name line

fields_go_well : (lines before after : List (List ℕ)) (line : List ℕ) (start at : ℕ) (fields : List Field) → AreFields lines start fields at → lines ≡ before ++ line ∷ after → GoesWell before line
fields_go_well lines before after line start at fields done is = record {
  is_line = all_middle IsBlockLine before after line (subst (All IsBlockLine) is (block_lines lines start at fields done));
  first = λ none. begins fields done (is ∙ ap (λ front. front ++ line ∷ after) none);
}
  where
    begins : (fields : List Field) → AreFields lines start fields at → lines ≡ line ∷ after → (name : List ℕ) × BeginsField name line
    begins [] done same = let none : line ∷ after ≡ [] = sym same ∙ done.0 in cc none
    begins (field ∷ fields) done same =
        let all : line ∷ after ≡ (done.0 ∷ done.1) ++ done.2 = sym same ∙ done.3 in
        let is_first : line ≡ done.0 = cc all in rw is_first (_, done.4.begins)

-- of the lines that come after fields, and don't go well, there is one
one_place : (lines : List (List ℕ)) (start at at' : ℕ) (fields fields' : List Field) (line line' : List ℕ) (a : ComesAfter lines start fields at line) (b : ComesAfter lines start fields' at' line')
    → (GoesWell a.before line → ⊥) → (GoesWell b.before line' → ⊥) → (a.before ≡ b.before) × (line ≡ line')
one_place lines start at at' fields fields' line line' a b bad bad' = elim (split_two a.before b.before a.after b.after line line' (sym a.split ∙ b.split)) [
  | inl same ↦ same
  | inr (inl earlier) ↦ absurd (bad (fields_go_well b.before a.before earlier.0 line start at' fields' b.fields_are earlier.1))
  | inr (inr later) ↦ absurd (bad' (fields_go_well a.before b.before later.0 line' start at fields a.fields_are later.1))
]

-- the place after the lines of fields
place_is : (lines : List (List ℕ)) (start end : ℕ) (fields : List Field) → AreFields lines start fields end → end ≡ start + length (concat lines)
place_is lines start end [] done = rw done.0 (sym done.1 ∙ sym (add-zero start))
place_is lines start end (field ∷ fields) done =
    let raw_len = done.4.raw_len in
    let rest = place_is done.2 (start + field.raw.len) end fields done.5 in
    let all : length (concat lines) ≡ length (concat (done.0 ∷ done.1) ++ concat done.2) = ap length (ap concat done.3 ∙ concat-append (done.0 ∷ done.1) done.2) in
    omega (arith, length-append (concat (done.0 ∷ done.1)) (concat done.2))

one_end : (lines lines' : List (List ℕ)) (start end end' : ℕ) (fields fields' : List Field) → AreFields lines start fields end → AreFields lines' start fields' end' → lines ≡ lines' → end ≡ end'
one_end lines lines' start end end' fields fields' done done' same =
    place_is lines start end fields done ∙ ap (λ all. start + length (concat all)) same ∙ sym (place_is lines' start end' fields' done')

-- a field line after fields goes well, and the other way round
kind_from : (before : List (List ℕ)) (line : List ℕ) (start at : ℕ) (fields : List Field) → AreFields before start fields at → GoesWell before line
    → ((name : List ℕ) × BeginsField name line) ⊎ BeginsWhite line → ((name : List ℕ) × BeginsField name line) ⊎ ((0 < length fields) × BeginsWhite line)
kind_from before line start at fields done well (inl begins) = inl begins
kind_from before line start at [] done well (inr white) = inl (well.first done.0)
kind_from before line start at (field ∷ fields) done well (inr white) = inr (omega arith, white)

no_line_goes_ill : (lines : List (List ℕ)) (start at : ℕ) (fields : List Field) (line : List ℕ) (comes : ComesAfter lines start fields at line) → (IsFieldLine fields line → ⊥)
    → GoesWell comes.before line → ⊥
no_line_goes_ill lines start at fields line comes no_line well =
    no_line (record { sound = well.is_line.sound; kind = kind_from comes.before line start at fields comes.fields_are well well.is_line.begins })

-- whether a line is a field line hangs on the lines before it
same_kind : (before before' : List (List ℕ)) (line : List ℕ) (start at at' : ℕ) (fields fields' : List Field) → AreFields before start fields at → AreFields before' start fields' at'
    → before ≡ before' → ((name : List ℕ) × BeginsField name line) ⊎ ((0 < length fields) × BeginsWhite line)
    → ((name : List ℕ) × BeginsField name line) ⊎ ((0 < length fields') × BeginsWhite line)
same_kind before before' line start at at' fields fields' done done' same (inl begins) = inl begins
same_kind before before' line start at at' [] fields' done done' same (inr goes) = let some = goes.0 in absurd (omega arith)
same_kind before before' line start at at' (field ∷ fields) [] done done' same (inr goes) =
    let none : (done.0 ∷ done.1) ++ done.2 ≡ [] = sym done.3 ∙ same ∙ done'.0 in cc none
same_kind before before' line start at at' (field ∷ fields) (field' ∷ fields') done done' same (inr goes) = inr (omega arith, goes.1)

-- a line can't be no field line and no UTF-8 at once
apart : (lines : List (List ℕ)) (start at at' : ℕ) (fields fields' : List Field) (line line' : List ℕ) (a : ComesAfter lines start fields at line) (b : ComesAfter lines start fields' at' line')
    → (a.before ≡ b.before) × (line ≡ line') → (IsFieldLine fields line → ⊥) → IsFieldLine fields' line' → ⊥
apart lines start at at' fields fields' line line' a b same no_line is =
    let here : IsFieldLine fields' line = subst (IsFieldLine fields') (sym same.1) is in
    no_line (record { sound = here.sound; kind = same_kind b.before a.before line start at' at fields' fields b.fields_are a.fields_are (sym same.0) here.kind })

pub one_fault : (lines : List (List ℕ)) (start : ℕ) (fault other : FieldFault) → IsFaultIn lines start fault → IsFaultIn lines start other → fault ≢ Memory → other ≢ Memory → fault ≡ other
one_fault lines start (NotField at) (NotField at') a b some some' =
    let same = one_place lines start at at' a.0 b.0 a.1 b.1 a.2 b.2 (no_line_goes_ill lines start at a.0 a.1 a.2 a.3) (no_line_goes_ill lines start at' b.0 b.1 b.2 b.3) in
    ap NotField (one_end a.2.before b.2.before start at at' a.0 b.0 a.2.fields_are b.2.fields_are same.0)
one_fault lines start (NotField at) (NotUtf8 place) a b some some' =
    let same = one_place lines start at b.1 a.0 b.0 a.1 b.2 a.2 b.3 (no_line_goes_ill lines start at a.0 a.1 a.2 a.3) (λ well. b.5 well.is_line.utf8) in
    absurd (apart lines start at b.1 a.0 b.0 a.1 b.2 a.2 b.3 same a.3 b.4)
one_fault lines start (NotUtf8 place) (NotField at) a b some some' =
    let same = one_place lines start at a.1 b.0 a.0 b.1 a.2 b.2 a.3 (no_line_goes_ill lines start at b.0 b.1 b.2 b.3) (λ well. a.5 well.is_line.utf8) in
    absurd (apart lines start at a.1 b.0 a.0 b.1 a.2 b.2 a.3 same b.3 a.4)
one_fault lines start (NotUtf8 place) (NotUtf8 place') a b some some' =
    let same = one_place lines start a.1 b.1 a.0 b.0 a.2 b.2 a.3 b.3 (λ well. a.5 well.is_line.utf8) (λ well. b.5 well.is_line.utf8) in
    let at = one_end a.3.before b.3.before start a.1 b.1 a.0 b.0 a.3.fields_are b.3.fields_are same.0 in
    let places : place ≡ place' = a.6 ∙ rw (at, same.1) refl ∙ sym b.6 in
    ap NotUtf8 places
one_fault lines start Memory other a b some some' = absurd (some refl)
one_fault lines start (NotField at) Memory a b some some' = absurd (some' refl)
one_fault lines start (NotUtf8 place) Memory a b some some' = absurd (some' refl)

-- a fault that was found is that of the octets, unless memory was wanting
pub found_or_memory : (lines : List (List ℕ)) (start : ℕ) (found fault : FieldFault) → IsFaultIn lines start found → IsFaultIn lines start fault → fault ≢ Memory
    → (found ≡ fault) ⊎ (found ≡ Memory)
found_or_memory lines start (NotField at) fault a b some = inl (one_fault lines start (NotField at) fault a b (λ e. cc e) some)
found_or_memory lines start (NotUtf8 place) fault a b some = inl (one_fault lines start (NotUtf8 place) fault a b (λ e. cc e) some)
found_or_memory lines start Memory fault a b some = inr refl
