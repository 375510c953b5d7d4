-- What is shown is read piece by piece, and the lines that end in it are counted so.
use Rattle.std.proofs.Common.{◌≡◌, ℕ, suc, ◌+◌, ◌-◌, ◌<◌, ◌≤◌, min, List, [], ◌∷◌, ◌++◌, Bool, true, false, ◌&&◌, ◌==◌, if◌then◌else◌, length, take, drop, get_or, slice_range, arith, refl, sym, ap, ◌∙◌, append_assoc}
use Rattle.std.proofs.lemmas.List.{take_at, length-take, length-drop, length-take-le, drop_more, drop_all}
use Rattle.mail_wire.specs.Lines.{is_crlf}
use Rattle.mime_tree.proofs.InOrder.{slices_join}
use Rattle.imap_views.specs.Structures.{ended_lines}
use Rattle.imap_views.specs.private.Reading.{goes_on_counting}

-- ---- lines

by_test : (b : Bool) (p q r s : ℕ) → p ≡ r → q ≡ s → (if b then suc p else q) ≡ (if b then suc r else s)
by_test true p q r s same other = ap suc same
by_test false p q r s same other = other

-- the lines are those that end, where no CR stands before
pub ended_lines-counted : (octets : List ℕ) → ended_lines octets ≡ goes_on_counting false octets
unfolding ended_lines goes_on_counting
ended_lines-counted [] = refl
ended_lines-counted (x ∷ []) = refl
ended_lines-counted (x ∷ y ∷ rest) =
    by_test (is_crlf x y) (ended_lines rest) (ended_lines (y ∷ rest)) (goes_on_counting false rest) (goes_on_counting (y == 13) rest) (ended_lines-counted rest) (ended_lines-counted (y ∷ rest))

-- no more lines end than there are octets
pub counted_few : (after_cr : Bool) (octets : List ℕ) → goes_on_counting after_cr octets ≤ length octets
unfolding goes_on_counting
counted_few after_cr [] = omega arith
counted_few after_cr (x ∷ rest) = go (after_cr && x == 10) (counted_few false rest) (counted_few (x == 13) rest)
  where
    go : (b : Bool) → goes_on_counting false rest ≤ length rest → goes_on_counting (x == 13) rest ≤ length rest
        → (if b then suc (goes_on_counting false rest) else goes_on_counting (x == 13) rest) ≤ suc (length rest)
    go true few other = omega arith
    go false few other = omega arith

-- ---- lines of a piece

-- Counted so far, and counted on with whatever follows.
pub record GoesOn (octets : List ℕ) (began : Bool) (at count : ℕ) (after_cr : Bool) : Type 0 where
  pub few : count ≤ at
  pub all : (rest : List ℕ) → count + goes_on_counting after_cr (drop at octets ++ rest) ≡ goes_on_counting began (octets ++ rest)

pub goes_on_none : (octets : List ℕ) (began : Bool) → GoesOn octets began 0 0 began
goes_on_none octets began = record { few = omega arith; all = λ rest. omega arith }

-- an octet that ends a line
pub goes_on_end : (octets : List ℕ) (began : Bool) (at count : ℕ) (after_cr : Bool) → at < length octets → after_cr ≡ true → get_or octets at 0 ≡ 10 → GoesOn octets began at count after_cr
    → GoesOn octets began (at + 1) (count + 1) (get_or octets at 0 == 13)
unfolding goes_on_counting
goes_on_end octets began at count after_cr within cr lf goes = record {
  few = let few = goes.few in omega arith;
  all = λ rest.
      let here : drop at octets ≡ 10 ∷ drop (at + 1) octets = drop_more octets at 0 within ∙ ap (λ y. y ∷ drop (at + 1) octets) lf in
      let all = goes.all rest in
      let step : goes_on_counting after_cr (drop at octets ++ rest) ≡ suc (goes_on_counting (get_or octets at 0 == 13) (drop (at + 1) octets ++ rest)) = rw (here, lf, cr) refl in
      omega arith;
}

-- another octet
pub goes_on_other : (octets : List ℕ) (began : Bool) (at count : ℕ) (after_cr : Bool) → at < length octets → (after_cr && get_or octets at 0 == 10) ≡ false → GoesOn octets began at count after_cr
    → GoesOn octets began (at + 1) count (get_or octets at 0 == 13)
unfolding goes_on_counting
goes_on_other octets began at count after_cr within no_end goes = record {
  few = let few = goes.few in omega arith;
  all = λ rest.
      let here : drop at octets ≡ get_or octets at 0 ∷ drop (at + 1) octets = drop_more octets at 0 within in
      let step : goes_on_counting after_cr (drop at octets ++ rest) ≡ goes_on_counting (get_or octets at 0 == 13) (drop (at + 1) octets ++ rest) = rw (here, no_end) refl in
      ap (λ n. count + n) (sym step) ∙ goes.all rest;
}

-- the end
pub goes_on_all : (octets : List ℕ) (began : Bool) (at count : ℕ) (after_cr : Bool) → length octets ≤ at → GoesOn octets began at count after_cr
    → (rest : List ℕ) → count + goes_on_counting after_cr rest ≡ goes_on_counting began (octets ++ rest)
goes_on_all octets began at count after_cr past goes rest =
    ap (λ left. count + goes_on_counting after_cr (left ++ rest)) (sym (drop_all at octets past)) ∙ goes.all rest

-- ---- pieces

-- So many octets from a place on were read, and these came before the others.
pub record IsPiece (octets : List ℕ) (at to count : ℕ) (piece : List ℕ) : Type 0 where
  pub some : 0 < count
  pub within : at + count ≤ to
  pub is : piece ≡ slice_range octets at (at + count)

-- The buffer's first places were written.
pub is_piece : (octets : List ℕ) (at to size wanted count : ℕ) (buffer new : List ℕ) → at < to → to ≤ length octets → 0 < size → size ≤ length buffer → wanted ≡ min size (to - at)
    → count ≡ min (length (take wanted buffer)) (length octets - at) → new ≡ take count (drop at octets) ++ drop count (take wanted buffer)
    → IsPiece octets at to count (take count (new ++ drop wanted buffer))
is_piece octets at to size wanted count buffer new before within some holds wanted_is count_is new_is =
    let front = length-take-le wanted buffer (omega arith) in
    let found : count ≡ wanted = omega arith in
    let read : List ℕ = take count (drop at octets) in
    let taken : length read ≡ count = length-take-le count (drop at octets) (omega (arith, length-drop at octets)) in
    let same : at + count - at ≡ count = omega arith in
    record {
      some = omega arith;
      within = omega arith;
      is = ap (λ text. take count (text ++ drop wanted buffer)) new_is ∙ ap (take count) (append_assoc read (drop count (take wanted buffer)) (drop wanted buffer))
          ∙ take_at read (drop count (take wanted buffer) ++ drop wanted buffer) count taken ∙ ap (λ n. take n (drop at octets)) (sym same);
    }

-- ---- the lines of what was read

-- Counted up to a place, and counted on up to the end.
pub record IsCounted (octets : List ℕ) (from to at lines : ℕ) (after_cr : Bool) : Type 0 where
  pub low : from ≤ at
  pub high : at ≤ to
  pub all : lines + goes_on_counting after_cr (slice_range octets at to) ≡ ended_lines (slice_range octets from to)

pub counted_none : (octets : List ℕ) (from to : ℕ) → from ≤ to → IsCounted octets from to from 0 false
counted_none octets from to order =
    let whole = ended_lines-counted (slice_range octets from to) in record { low = omega arith; high = order; all = omega arith }

pub counted_more : (octets : List ℕ) (from to at lines count more : ℕ) (after_cr next : Bool) (piece : List ℕ) → IsPiece octets at to count piece
    → ((rest : List ℕ) → more + goes_on_counting next rest ≡ goes_on_counting after_cr (piece ++ rest)) → IsCounted octets from to at lines after_cr
    → IsCounted octets from to (at + count) (lines + more) next
counted_more octets from to at lines count more after_cr next piece read goes counted =
    let some = read.some in
    let within = read.within in
    let low = counted.low in
    let all = counted.all in
    let joined : slice_range octets at to ≡ piece ++ slice_range octets (at + count) to =
    slices_join octets at (at + count) to (omega arith) within ∙ ap (λ first. first ++ slice_range octets (at + count) to) (sym read.is) in
    let rest = goes (slice_range octets (at + count) to) in
    let onward = ap (goes_on_counting after_cr) joined in
    record { low = omega arith; high = within; all = omega arith }

-- no more are counted than octets are gone over
pub counted_bound : (octets : List ℕ) (from to at lines count more : ℕ) (after_cr next : Bool) (piece : List ℕ) → IsPiece octets at to count piece
    → ((rest : List ℕ) → more + goes_on_counting next rest ≡ goes_on_counting after_cr (piece ++ rest)) → IsCounted octets from to at lines after_cr → lines + more ≤ to
counted_bound octets from to at lines count more after_cr next piece read goes counted =
    let all = (counted_more octets from to at lines count more after_cr next piece read goes counted).all in
    let whole = ended_lines-counted (slice_range octets from to) in
    let few = counted_few false (slice_range octets from to) in
    let size : length (slice_range octets from to) ≤ to = omega (arith, length-take (to - from) (drop from octets)) in
    omega arith

pub counted_all : (octets : List ℕ) (from to at lines : ℕ) (after_cr : Bool) → to ≤ at → IsCounted octets from to at lines after_cr → lines ≡ ended_lines (slice_range octets from to)
unfolding goes_on_counting
counted_all octets from to at lines after_cr past counted =
    let none : slice_range octets at to ≡ [] = let nothing : to - at ≡ 0 = omega arith in ap (λ n. take n (drop at octets)) nothing ∙ take_none (drop at octets) in
    let left : goes_on_counting after_cr (slice_range octets at to) ≡ 0 = rw none refl in
    let all = counted.all in
    omega arith
  where
    take_none : (octets : List ℕ) → take 0 octets ≡ []
    take_none octets = refl

-- ---- what was read

pub record IsReadUp (octets : List ℕ) (from to at : ℕ) (made : List ℕ) : Type 0 where
  pub low : from ≤ at
  pub high : at ≤ to
  pub made_is : made ≡ slice_range octets from at

pub read_none : (octets : List ℕ) (from to : ℕ) → from ≤ to → IsReadUp octets from to from []
read_none octets from to order =
    let nothing : from - from ≡ 0 = omega arith in record { low = omega arith; high = order; made_is = sym (ap (λ n. take n (drop from octets)) nothing) }

pub read_more : (octets : List ℕ) (from to at count : ℕ) (made piece more : List ℕ) → IsPiece octets at to count piece → more ≡ made ++ piece → IsReadUp octets from to at made
    → IsReadUp octets from to (at + count) more
read_more octets from to at count made piece more read more_is up =
    let low = up.low in
    record {
      low = omega arith;
      high = read.within;
      made_is = more_is ∙ ap (λ first. first ++ piece) up.made_is ∙ ap (λ last. slice_range octets from at ++ last) read.is ∙ sym (slices_join octets from at (at + count) low (omega arith));
    }

pub read_all : (octets : List ℕ) (from to at : ℕ) (made : List ℕ) → to ≤ at → IsReadUp octets from to at made → made ≡ slice_range octets from to
read_all octets from to at made past up = let high = up.high in let same : at ≡ to = omega arith in up.made_is ∙ ap (slice_range octets from) same
