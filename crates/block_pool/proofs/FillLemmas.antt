-- Octets along a chain, once they are put there.
use Rattle.std.proofs.Common.{◌≡◌, ◌≢◌, ℕ, zero, suc, ◌+◌, ◌-◌, ◌*◌, ◌<◌, ◌≤◌, min, inl, inr, List, [], ◌++◌, length, take, drop, arith, refl, sym, ap, ◌∙◌, slice_index, append_assoc, length-append, length-take, length-drop, Option}
use Rattle.std.proofs.lemmas.Bool.{cases_lt}
use Rattle.std.proofs.lemmas.List.{nil_from_length, take-append-drop, drop_all, drop-drop, take_min}
use Rattle.std.proofs.Math.Seq.{take-append-add}
use Rattle.block_pool.specs.Pool.{needed_blocks}
use Rattle.block_pool.specs.private.Chains.{StaysInside, IsChain, block_after, block_at, written, along, filled}
use Rattle.block_pool.proofs.Blocks.{length-block_at, length-written, block_at-written, block_at-written_other}
use Rattle.block_pool.proofs.Copies.{stays}

piece_fits : (octets : List ℕ) → length (take 4096 octets) ≤ 4096
piece_fits octets = omega (arith, length-take 4096 octets)

-- lists that begin with the first octets of a text, and go on with the others
text_joined : (size : ℕ) (text tail rest : List ℕ) → length (take size text) + length tail ≡ size → take (length (drop size text)) rest ≡ drop size text
    → take (length text) ((take size text ++ tail) ++ rest) ≡ text
text_joined size text tail rest fills said =
    let len : length text ≡ length (take size text) + length (drop size text) =
    sym (ap length (take-append-drop size text)) ∙ length-append (take size text) (drop size text) in
    let front : take (length text) ((take size text ++ tail) ++ rest) ≡ take size text ++ take (length (drop size text)) (tail ++ rest) =
    ap (take (length text)) (append_assoc (take size text) tail rest)
    ∙ ap (λ (n : ℕ). take n (take size text ++ (tail ++ rest))) len
    ∙ take-append-add (take size text) (tail ++ rest) (length (drop size text)) in
    let more : take (length (drop size text)) (tail ++ rest) ≡ drop size text = elim (cases_lt size (length text)) [
      | inl above ↦
          let size_is = length-take size text in
          let no_tail : tail ≡ [] = nil_from_length tail (omega arith) in
          rw no_tail said
      | inr all ↦
          let none : drop size text ≡ [] = drop_all size text all in
          rw none
    ] in
    front ∙ ap (λ (zs : List ℕ). take size text ++ zs) more ∙ take-append-drop size text

module _ (owner : ℕ → Option ℕ) (rank : ℕ → ℕ) (whose : Option ℕ) (next : List ℕ) where
  pub length-filled : (region : List ℕ) (block : ℕ) (octets : List ℕ) (count : ℕ) → IsChain owner rank whose next block count → length region ≡ 4096 * length next
      → length (filled region next block octets count) ≡ length region
  length-filled region block octets zero chain whole = refl
  length-filled region block octets (suc count) chain whole =
      let inside : block < length next = chain.0 in
      let fits = piece_fits octets in
      let same : length (written region block (take 4096 octets)) ≡ length region = length-written region block (take 4096 octets) (omega arith) in
      length-filled (written region block (take 4096 octets)) (slice_index next block) (drop 4096 octets) count chain.3 (same ∙ whole) ∙ same

  -- a block that is none of the chain stays as it was
  pub block_at-filled : (region : List ℕ) (block : ℕ) (octets : List ℕ) (count : ℕ) → IsChain owner rank whose next block count → length region ≡ 4096 * length next
      → (other : ℕ) → (owner other ≡ whose → count ≤ rank other)
      → block_at (filled region next block octets count) other ≡ block_at region other
  block_at-filled region block octets zero chain whole other distinct = refl
  block_at-filled region block octets (suc count) chain whole other distinct =
      let inside : block < length next = chain.0 in
      let rank_is : rank block ≡ count = chain.2 in
      let fits = piece_fits octets in
      let same : length (written region block (take 4096 octets)) ≡ length region = length-written region block (take 4096 octets) (omega arith) in
      let differ : other ≢ block =
      λ e. let above : suc count ≤ rank other = distinct (ap owner e ∙ chain.1) in
      let ranks : rank other ≡ rank block = ap rank e in
      omega arith in
      block_at-filled (written region block (take 4096 octets)) (slice_index next block) (drop 4096 octets) count chain.3 (same ∙ whole) other
      (λ is. let above : suc count ≤ rank other = distinct is in omega arith)
      ∙ block_at-written_other region block other (take 4096 octets) fits (omega arith) differ

  -- the octets stand along the chain
  pub along_filled : (region : List ℕ) (block : ℕ) (octets : List ℕ) (count : ℕ) → IsChain owner rank whose next block count → length region ≡ 4096 * length next
      → length octets ≤ 4096 * count
      → take (length octets) (along (filled region next block octets count) next block count) ≡ octets
  along_filled region block octets zero chain whole fits =
      let none : octets ≡ [] = nil_from_length octets (omega arith) in
      rw none
  along_filled region block octets (suc count) chain whole fits =
      let inside : block < length next = chain.0 in
      let rank_is : rank block ≡ count = chain.2 in
      let piece_within = piece_fits octets in
      let now = written region block (take 4096 octets) in
      let same : length now ≡ length region = length-written region block (take 4096 octets) (omega arith) in
      let after = filled now next (slice_index next block) (drop 4096 octets) count in
      let tail = drop (length (take 4096 octets)) (block_at region block) in
      let here : block_at after block ≡ take 4096 octets ++ tail =
      block_at-filled now (slice_index next block) (drop 4096 octets) count chain.3 (same ∙ whole) block (λ is. omega arith)
      ∙ block_at-written region block (take 4096 octets) piece_within (omega arith) in
      let fills : length (take 4096 octets) + length tail ≡ 4096 =
      omega (
        arith,
        length-drop (length (take 4096 octets)) (block_at region block),
        length-block_at region block (length next) whole inside,
      ) in
      let rest = along_filled now (slice_index next block) (drop 4096 octets) count chain.3 (same ∙ whole) (omega (arith, length-drop 4096 octets)) in
      rw here (text_joined 4096 octets tail (along after next (slice_index next block) count) fills rest)

-- what is left to put, once so many blocks have their octets
pub record IsFilling (old next : List ℕ) (first : ℕ) (octets region : List ℕ) (block place : ℕ) : Type 0 where
  pub inside : StaysInside next block
  pub filled_is : filled region next block (drop (4096 * place) octets) (needed_blocks (length octets) - place)
      ≡ filled old next first octets (needed_blocks (length octets))
  pub following_is : block_after next block (needed_blocks (length octets) - place) ≡ block_after next first (needed_blocks (length octets))

pub filling_begins : (old next : List ℕ) (first : ℕ) (octets : List ℕ) → StaysInside next first → IsFilling old next first octets old first 0
filling_begins old next first octets inside =
    let e : needed_blocks (length octets) - 0 ≡ needed_blocks (length octets) = omega arith in
    record { inside = inside; filled_is = rw e refl; following_is = rw e refl }

pub filling_goes_on : (old next : List ℕ) (first : ℕ) (octets region : List ℕ) (block place : ℕ) (now piece : List ℕ) → IsFilling old next first octets region block place
    → place < needed_blocks (length octets) → now ≡ written region block piece → piece ≡ take 4096 (drop (4096 * place) octets)
    → IsFilling old next first octets now (slice_index next block) (place + 1)
filling_goes_on old next first octets region block place now piece was below now_is piece_is =
    let more : needed_blocks (length octets) - place ≡ suc (needed_blocks (length octets) - (place + 1)) = omega arith in
    let at : 4096 * (place + 1) ≡ 4096 * place + 4096 = omega arith in
    record {
      inside = stays next block was.inside;
      filled_is =
          rw (now_is, piece_is, at, ← drop-drop 4096 (4096 * place) octets) (
          sym (ap (filled region next block (drop (4096 * place) octets)) more) ∙ was.filled_is
          );
      following_is = sym (ap (block_after next block) more) ∙ was.following_is;
    }

pub filling_ends : (old next : List ℕ) (first : ℕ) (octets region : List ℕ) (block place : ℕ) → IsFilling old next first octets region block place
    → needed_blocks (length octets) ≤ place
    → (region ≡ filled old next first octets (needed_blocks (length octets))) × (block ≡ block_after next first (needed_blocks (length octets)))
filling_ends old next first octets region block place was all =
    let none : needed_blocks (length octets) - place ≡ 0 = omega arith in (
      sym (ap (filled region next block (drop (4096 * place) octets)) none) ∙ was.filled_is,
      sym (ap (block_after next block) none) ∙ was.following_is,
    )

-- at most a block of what is left of the octets
piece_of : (octets : List ℕ) (from : ℕ) → take (min (length (drop from octets)) 4096) (drop from octets) ≡ take 4096 (drop from octets)
piece_of octets from =
    let e : min (length (drop from octets)) 4096 ≡ min 4096 (length (drop from octets)) = omega arith in
    ap (λ (k : ℕ). take k (drop from octets)) e ∙ take_min 4096 (drop from octets)

pub piece_cut : (octets rest piece : List ℕ) (from count place : ℕ) → rest ≡ drop from octets → count ≡ min (length rest) 4096 → piece ≡ take count rest → from ≡ 4096 * place
    → piece ≡ take 4096 (drop (4096 * place) octets)
piece_cut octets rest piece from count place rest_is count_is piece_is at =
    piece_is ∙ ap (λ (k : ℕ). take k rest) count_is ∙ ap (λ (zs : List ℕ). take (min (length zs) 4096) zs) rest_is ∙ piece_of octets from
    ∙ ap (λ (k : ℕ). take 4096 (drop k octets)) at
