-- Blocks of a region, and what a write to one leaves of the others.
use Rattle.std.proofs.Common.{◌≡◌, ◌≢◌, ℕ, ◌+◌, ◌-◌, ◌*◌, ◌<◌, ◌≤◌, inl, inr, List, ◌++◌, length, take, drop, arith, refl, sym, ap, ◌∙◌, length-append, length-take, length-drop}
use Rattle.std.proofs.lemmas.List.{length-take-le, drop_at, drop-take}
use Rattle.std.proofs.lemmas.Bool.{cases_lt}
use Rattle.std.proofs.lemmas.Slice.{take-put_mid_below, drop-put_mid}
use Rattle.std.proofs.Math.Seq.{take-append-add}
use Rattle.block_pool.specs.private.Chains.{block_at, written}

pub length-block_at : (region : List ℕ) (block blocks : ℕ) → length region ≡ 4096 * blocks → block < blocks → length (block_at region block) ≡ 4096
unfolding block_at
length-block_at region block blocks whole inside =
    length-take-le 4096 (drop (4096 * block) region) (omega (arith, length-drop (4096 * block) region))

pub length-written : (region : List ℕ) (block : ℕ) (piece : List ℕ) → 4096 * block + length piece ≤ length region → length (written region block piece) ≡ length region
unfolding written
length-written region block piece inside = simp (length-append, length-take, length-drop) (omega arith)

take_over : (piece ys : List ℕ) (m : ℕ) → take (length piece + m) (piece ++ drop (length piece) ys) ≡ piece ++ drop (length piece) (take (length piece + m) ys)
take_over piece ys m =
    take-append-add piece (drop (length piece) ys) m ∙ sym (ap (λ (zs : List ℕ). piece ++ zs) (drop-take (length piece) m ys))

-- the first octets of a list are others, and those after them stay
take_over_of : (size : ℕ) (piece ys : List ℕ) → length piece ≤ size → take size (piece ++ drop (length piece) ys) ≡ piece ++ drop (length piece) (take size ys)
take_over_of size piece ys fits =
    let e : size ≡ length piece + (size - length piece) = omega arith in
    rw e (take_over piece ys (size - length piece))

pub block_at-written : (region : List ℕ) (block : ℕ) (piece : List ℕ) → length piece ≤ 4096 → 4096 * block + 4096 ≤ length region
    → block_at (written region block piece) block ≡ piece ++ drop (length piece) (block_at region block)
unfolding block_at written
block_at-written region block piece fits inside =
    let at : drop (4096 * block) (written region block piece) ≡ piece ++ drop (length piece) (drop (4096 * block) region) =
    drop_at _ _ _ (length-take-le (4096 * block) region (omega arith)) in
    ap (take 4096) at ∙ take_over_of 4096 piece (drop (4096 * block) region) fits

below_part : (size a b : ℕ) (xs ys : List ℕ) → b + size ≤ a → take (b + size) xs ≡ take (b + size) ys → take size (drop b xs) ≡ take size (drop b ys)
below_part size a b xs ys under same = sym (drop-take b size xs) ∙ ap (drop b) same ∙ drop-take b size ys

-- a write to one block leaves the others
pub block_at-written_other : (region : List ℕ) (block other : ℕ) (piece : List ℕ) → length piece ≤ 4096 → 4096 * block + 4096 ≤ length region → other ≢ block
    → block_at (written region block piece) other ≡ block_at region other
unfolding block_at written
block_at-written_other region block other piece fits inside differ =
    elim (cases_lt other block) [
      | inl under ↦
          below_part 4096 (4096 * block) (4096 * other) _ _ (omega arith)
          (take-put_mid_below (4096 * block) (length piece) region piece (4096 * other + 4096) (omega arith) (omega arith))
      | inr over ↦
          let above : block < other = omega (arith, differ) in
          ap (take 4096) (drop-put_mid (4096 * block) (length piece) region piece (4096 * other) (omega arith) (omega arith) refl)
    ]
