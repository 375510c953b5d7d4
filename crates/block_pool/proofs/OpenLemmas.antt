-- A pool that holds nothing yet.
use Rattle.std.proofs.Common.{◌≡◌, ℕ, zero, suc, ◌-◌, ◌*◌, ◌≤◌, List, [], length, replicate, arith, refl, sym, ap, ◌∙◌, Option, Some, None}
use Rattle.std.proofs.lemmas.List.{length-replicate}
use Rattle.block_pool.specs.private.Chains.{StaysInside, GoesInOrder}
use Rattle.block_pool.specs.private.Kept.{IsPool, held_from, held_by, len_at}
use Rattle.block_pool.proofs.ChainLemmas.{whole_chain}

pub held_from-none : (octets_of : ℕ → ℕ → List ℕ) (first count : ℕ) → held_from octets_of first (replicate count None) ≡ []
held_from-none octets_of first zero = refl
held_from-none octets_of first (suc count) = held_from-none octets_of (suc first) count

none_at : (count id len : ℕ) → len_at (replicate count None) id ≡ Some len → ⊥
none_at zero id len is = cc
none_at (suc count) zero len is = cc
none_at (suc count) (suc id) len is = none_at count id len is

pub opened : (region next : List ℕ) (lens : List (Option ℕ)) (blocks : ℕ) → 1 ≤ blocks → blocks ≤ 65536 → length region ≡ 4096 * blocks → length next ≡ blocks
    → StaysInside next 0 → GoesInOrder next → lens ≡ replicate blocks None → IsPool region next lens 0 blocks
opened region next lens blocks some few whole links inside order lens_is =
    let len : length lens ≡ blocks = ap length lens_is ∙ length-replicate blocks None in
    let none : held_by region next lens ≡ [] = ap (held_by region next) lens_is ∙ held_from-none _ 0 blocks in
    record {
      few = omega arith;
      links = omega arith;
      octets = omega arith;
      inside = inside;
      owner = λ at. None;
      rank = λ at. blocks - 1 - at;
      things = λ id size is. absurd (none_at blocks id size (ap (λ (all : List (Option ℕ)). len_at all id) (sym lens_is) ∙ is));
      free_chain =
          whole_chain (λ (at : ℕ). None) (λ (at : ℕ). blocks - 1 - at) None next 0 blocks (omega arith) order
          (λ at. (refl, ap (λ (n : ℕ). n - 1 - at) (sym links)));
      counted = rw none (omega arith);
    }

pub held_none : (octets_of : ℕ → ℕ → List ℕ) (lens : List (Option ℕ)) (blocks : ℕ) → lens ≡ replicate blocks None → held_from octets_of 0 lens ≡ []
held_none octets_of lens blocks is = ap (held_from octets_of 0) is ∙ held_from-none octets_of 0 blocks
