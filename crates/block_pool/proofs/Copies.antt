-- The octets along a chain, from a place on.
use Rattle.std.proofs.Common.{◌≡◌, ℕ, zero, suc, ◌+◌, ◌-◌, ◌*◌, ◌<◌, ◌≤◌, ◌⊎◌, inl, inr, List, [], ◌++◌, length, take, drop, min, arith, refl, sym, ap, ◌∙◌, slice_index, append-nil, append_assoc, length-append, length-take, length-drop}
use Rattle.std.proofs.lemmas.List.{length-take-le, drop_at, drop-take, drop-drop, take-take, take_all, take-append-le, drop-append-le}
use Rattle.std.proofs.lemmas.Bool.{cases_lt}
use Rattle.std.proofs.lemmas.Slice.{take-put_mid}
use Rattle.std.proofs.Math.Seq.{take-append-add}
use borrow.Rule.Slice.PartMut.{put_mid}
use Rattle.block_pool.specs.private.Chains.{StaysInside, block_after, block_at, along}
use Rattle.block_pool.proofs.Blocks.{length-block_at}

pub stays : (next : List ℕ) (block : ℕ) → StaysInside next block → StaysInside next (slice_index next block)
stays next block inside = record { begins = inside.goes_on block inside.begins; goes_on = inside.goes_on }

pub length-along : (region next : List ℕ) (block count : ℕ) → length region ≡ 4096 * length next → StaysInside next block → length (along region next block count) ≡ 4096 * count
length-along region next block zero whole inside = omega arith
length-along region next block (suc count) whole inside =
    omega (
      arith,
      length-append (block_at region block) (along region next (slice_index next block) count),
      length-block_at region block (length next) whole inside.begins,
      length-along region next (slice_index next block) count whole (stays next block inside),
    )

drop_past : (size n : ℕ) (xs ys : List ℕ) → length xs ≡ size → drop (size + n) (xs ++ ys) ≡ drop n ys
drop_past size n xs ys is = sym (drop-drop n size (xs ++ ys)) ∙ ap (drop n) (drop_at xs ys size is)

-- what stands after so many whole blocks and some octets more
pub drop-along : (region next : List ℕ) (block steps count more : ℕ) → length region ≡ 4096 * length next → StaysInside next block
    → drop (4096 * steps + more) (along region next block (steps + count)) ≡ drop more (along region next (block_after next block steps) count)
drop-along region next block zero count more whole inside =
    let a : 4096 * 0 + more ≡ more = omega arith in
    let b : 0 + count ≡ count = omega arith in
    rw (a, b)
drop-along region next block (suc steps) count more whole inside =
    let a : 4096 * suc steps + more ≡ 4096 + (4096 * steps + more) = omega arith in
    let b : suc steps + count ≡ suc (steps + count) = omega arith in
    let past =
    drop_past 4096 (4096 * steps + more) (block_at region block) (along region next (slice_index next block) (steps + count))
    (length-block_at region block (length next) whole inside.begins) in
    rw (a, b) (past ∙ drop-along region next (slice_index next block) steps count more whole (stays next block inside))

-- the front of a list that begins with another one
front_of : (xs ys : List ℕ) (n m : ℕ) → n ≤ length xs → (m ≡ 0) ⊎ (n ≡ length xs) → take (n + m) (xs ++ ys) ≡ take n xs ++ take m ys
front_of xs ys n m within (inl none) =
    let e : n + m ≡ n = omega arith in
    rw (e, none) (take-append-le n xs ys within ∙ sym (append-nil (take n xs)))
front_of xs ys n m within (inr all) =
    rw (all, take_all (length xs) xs (omega arith)) (take-append-add xs ys m)

-- a part of a block is a part of the region
part_of_block : (region : List ℕ) (block start n : ℕ) → start + n ≤ 4096 → take n (drop start (block_at region block)) ≡ take n (drop (block * 4096 + start) region)
unfolding block_at
part_of_block region block start n within =
    let from = drop (4096 * block) region in
    let e : 4096 ≡ start + (4096 - start) = omega arith in
    let cut : drop start (take 4096 from) ≡ take (4096 - start) (drop start from) =
    ap (λ (k : ℕ). drop start (take k from)) e ∙ drop-take start (4096 - start) from in
    let place : 4096 * block + start ≡ block * 4096 + start = omega arith in
    ap (take n) cut ∙ take-take n (4096 - start) (drop start from) (omega arith)
    ∙ ap (take n) (drop-drop start (4096 * block) region ∙ ap (λ (k : ℕ). drop k region) place)

-- the octets that a read puts into a buffer at once are the first ones of what is left of the chain
pub one_copy : (region next : List ℕ) (block start left n count : ℕ) → length region ≡ 4096 * length next → StaysInside next block → start < 4096
    → n ≡ min left (4096 - start)
    → take left (drop start (along region next block (suc count)))
    ≡ take n (drop (block * 4096 + start) region) ++ take (left - n) (along region next (slice_index next block) count)
one_copy region next block start left n count whole inside starts is =
    let rest = along region next (slice_index next block) count in
    let size = length-block_at region block (length next) whole inside.begins in
    let x = drop start (block_at region block) in
    let x_len : length x ≡ 4096 - start = omega (arith, length-drop start (block_at region block)) in
    let dropped : drop start (block_at region block ++ rest) ≡ x ++ rest = drop-append-le start (block_at region block) rest (omega arith) in
    let e : left ≡ n + (left - n) = omega arith in
    let cases : (left - n ≡ 0) ⊎ (n ≡ length x) = elim (cases_lt (4096 - start) left) [ inl more ↦ inr (omega arith) | inr all ↦ inl (omega arith) ] in
    let front : take left (x ++ rest) ≡ take n x ++ take (left - n) rest =
    ap (λ (k : ℕ). take k (x ++ rest)) e ∙ front_of x rest n (left - n) (omega arith) cases in
    ap (take left) dropped ∙ front ∙ ap (λ (zs : List ℕ). zs ++ take (left - n) rest) (part_of_block region block start n (omega arith))

-- what a read leaves in the rest of a buffer, of which `done` octets are filled
pub record IsCopying (region next : List ℕ) (first from : ℕ) (block start done size : ℕ) (into : List ℕ) : Type 0 where
  pub within : done ≤ size
  pub size_is : length into ≡ size
  pub starts : start < 4096
  pub inside : StaysInside next block
  pub said : (total : ℕ) → from + size ≤ 4096 * total
      → (count : ℕ) × (start + (size - done) ≤ 4096 * count)
      × (take done into ++ take (size - done) (drop start (along region next block count)) ≡ take size (drop from (along region next first total)))

pub copying_begins : (region next : List ℕ) (first from size : ℕ) (into : List ℕ) → StaysInside next first → from < 4096 → length into ≡ size
    → IsCopying region next first from first from 0 size into
copying_begins region next first from size into inside starts is = record {
  within = omega arith;
  size_is = is;
  starts = starts;
  inside = inside;
  said = λ total enough. let e : size - 0 ≡ size = omega arith in (total, omega arith, rw e refl);
}

-- the same, where so many blocks are left
next_copy : (region next : List ℕ) (block start left n count : ℕ) → length region ≡ 4096 * length next → StaysInside next block → start < 4096
    → n ≡ min left (4096 - start) → start + left ≤ 4096 * count → 0 < left
    → (rest : ℕ) × (left - n ≤ 4096 * rest)
    × (take left (drop start (along region next block count))
    ≡ take n (drop (block * 4096 + start) region) ++ take (left - n) (along region next (slice_index next block) rest))
next_copy region next block start left n zero whole inside starts is enough some = absurd (omega arith)
next_copy region next block start left n (suc count) whole inside starts is enough some =
    (count, omega arith, one_copy region next block start left n count whole inside starts is)

joined : (a p t l x out : List ℕ) → out ≡ a ++ p → l ≡ p ++ t → a ++ l ≡ x → out ++ t ≡ x
joined a p t l x out begins is said = rw (begins, append_assoc) (ap (λ (zs : List ℕ). a ++ zs) (sym is) ∙ said)

begins_with : (l p q t : List ℕ) → p ≡ q → l ≡ q ++ t → l ≡ p ++ t
begins_with l p q t same is = is ∙ ap (λ (zs : List ℕ). zs ++ t) (sym same)

pub copying_goes_on : (region next : List ℕ) (first from block start done size n : ℕ) (into piece : List ℕ) → length region ≡ 4096 * length next
    → IsCopying region next first from block start done size into → done < size → n ≡ min (size - done) (4096 - start)
    → piece ≡ take n (drop (block * 4096 + start) region)
    → IsCopying region next first from (slice_index next block) 0 (done + n) size (put_mid done n into piece)
copying_goes_on region next first from block start done size n into piece whole was below is piece_is =
    let inside : block < length next = was.inside.begins in
    let starts : start < 4096 = was.starts in
    let len : length into ≡ size = was.size_is in
    let piece_len : length piece ≡ n =
    ap length piece_is ∙ length-take-le n (drop (block * 4096 + start) region) (omega (arith, length-drop (block * 4096 + start) region)) in
    let taken : take (done + n) (put_mid done n into piece) ≡ take done into ++ piece =
    take-put_mid done n into piece (done + n) (omega arith) (omega arith) in
    let e : size - (done + n) ≡ size - done - n = omega arith in
    record {
      within = omega arith;
      size_is =
          omega (
            arith,
            length-append (take done into) (piece ++ drop n (drop done into)),
            length-append piece (drop n (drop done into)),
            length-take done into,
            length-drop n (drop done into),
            length-drop done into,
          );
      starts = omega arith;
      inside = stays next block was.inside;
      said = λ total enough.
          let before = was.said total enough in
          let more = next_copy region next block start (size - done) n before.0 whole was.inside starts is before.1 (omega arith) in (
            more.0,
            omega (arith, more.1),
            ap (λ (k : ℕ). take (done + n) (put_mid done n into piece) ++ take k (along region next (slice_index next block) more.0)) e
                ∙ joined (take done into) piece (take (size - done - n) (along region next (slice_index next block) more.0)) _ _ _ taken (begins_with _ _ _ _ piece_is more.2) before.2,
          );
    }

pub copying_ends : (region next : List ℕ) (first from block start done size : ℕ) (into : List ℕ) → IsCopying region next first from block start done size into → size ≤ done
    → (total : ℕ) → from + size ≤ 4096 * total → into ≡ take size (drop from (along region next first total))
copying_ends region next first from block start done size into was all total enough =
    let last = was.said total enough in
    let none : size - done ≡ 0 = omega arith in
    let same : done ≡ size = omega (arith, was.within) in
    let whole : take done into ≡ into = take_all done into (omega (arith, was.size_is)) in
    sym (append-nil into) ∙ ap (λ (zs : List ℕ). zs ++ []) (sym whole)
    ∙ ap (λ (k : ℕ). take done into ++ take k (drop start (along region next block last.0))) (sym none) ∙ last.2
