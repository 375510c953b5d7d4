-- Chains of blocks that belong to one owner: their ends, parts and what changes them.
use Rattle.std.proofs.Common.{◌≡◌, ◌≢◌, ℕ, zero, suc, ◌+◌, ◌-◌, ◌<◌, ◌≤◌, List, ◌++◌, length, arith, refl, ap, subst, ◌∙◌, slice_index, set, Option}
use Rattle.std.proofs.lemmas.List.{length-set, get_or-set_same, get_or-set_other}
use Rattle.block_pool.specs.private.Chains.{IsChain, block_after, block_at, along}

module _ (owner : ℕ → Option ℕ) (rank : ℕ → ℕ) (whose : Option ℕ) where
  -- the first block of a chain
  pub chain_first : (next : List ℕ) (block count : ℕ) → 0 < count → IsChain owner rank whose next block count → (block < length next) × (owner block ≡ whose)
  chain_first next block zero some chain = absurd (omega arith)
  chain_first next block (suc count) some chain = (chain.0, chain.1)

  -- the last block of a chain
  pub chain_last : (next : List ℕ) (block count : ℕ) → IsChain owner rank whose next block (suc count)
      → (block_after next block count < length next) × (owner (block_after next block count) ≡ whose) × (rank (block_after next block count) ≡ 0)
  chain_last next block zero chain = (chain.0, chain.1, chain.2)
  chain_last next block (suc count) chain = chain_last next (slice_index next block) count chain.3

  -- a chain whose blocks are elsewhere as they were is a chain still
  pub chain_stays : (owner' : ℕ → Option ℕ) (rank' : ℕ → ℕ) (whose' : Option ℕ) (next next' : List ℕ) → length next' ≡ length next
      → (block count : ℕ) → IsChain owner rank whose next block count
      → ((at : ℕ) → owner at ≡ whose → rank at < count → (owner' at ≡ whose') × (rank' at ≡ rank at) × (slice_index next' at ≡ slice_index next at))
      → IsChain owner' rank' whose' next' block count
  chain_stays owner' rank' whose' next next' same block zero chain kept = tt
  chain_stays owner' rank' whose' next next' same block (suc count) chain kept =
      let here = kept block chain.1 (omega (arith, chain.2)) in (
        omega (arith, chain.0),
        here.0,
        here.1 ∙ chain.2,
        rw here.2 (
            chain_stays owner' rank' whose' next next' same (slice_index next block) count chain.3
            (λ at is below. kept at is (omega arith))
            ),
      )

  -- what stands along a chain whose blocks are as they were
  pub along_stays : (next next' region region' : List ℕ) (block count : ℕ) → IsChain owner rank whose next block count
      → ((at : ℕ) → at < length next → owner at ≡ whose → (block_at region' at ≡ block_at region at) × (slice_index next' at ≡ slice_index next at))
      → along region' next' block count ≡ along region next block count
  along_stays next next' region region' block zero chain kept = refl
  along_stays next next' region region' block (suc count) chain kept =
      let here = kept block chain.0 chain.1 in
      rw (here.0, here.1) (
      ap (λ (zs : List ℕ). block_at region block ++ zs)
      (along_stays next next' region region' (slice_index next block) count chain.3 kept)
      )

  -- the first blocks of a chain have another owner from now on
  pub chain_taken : (owner' : ℕ → Option ℕ) (rank' : ℕ → ℕ) (whose' : Option ℕ) (next : List ℕ) (rest block count total : ℕ) → total ≡ count + rest
      → IsChain owner rank whose next block total
      → ((at : ℕ) → owner at ≡ whose → rest ≤ rank at → (owner' at ≡ whose') × (rank' at ≡ rank at - rest))
      → IsChain owner' rank' whose' next block count
  chain_taken owner' rank' whose' next rest block zero total sum chain taken = tt
  chain_taken owner' rank' whose' next rest block (suc count) zero sum chain taken = absurd (omega arith)
  chain_taken owner' rank' whose' next rest block (suc count) (suc total) sum chain taken =
      let rank_is : rank block ≡ total = chain.2 in
      let here = taken block chain.1 (omega arith) in
      let new_rank : rank' block ≡ rank block - rest = here.1 in (
        chain.0,
        here.0,
        omega arith,
        chain_taken owner' rank' whose' next rest (slice_index next block) count total (omega arith) chain.3 taken,
      )

  -- the blocks after them are a chain
  pub chain_rest : (next : List ℕ) (rest block count total : ℕ) → total ≡ count + rest → IsChain owner rank whose next block total
      → IsChain owner rank whose next (block_after next block count) rest
  chain_rest next rest block zero total sum chain =
      let e : total ≡ rest = omega arith in
      subst (λ (n : ℕ). IsChain owner rank whose next block n) e chain
  chain_rest next rest block (suc count) zero sum chain = absurd (omega arith)
  chain_rest next rest block (suc count) (suc total) sum chain =
      chain_rest next rest (slice_index next block) count total (omega arith) chain.3

  -- a chain whose last block goes on to another chain
  pub chain_joined : (owner' : ℕ → Option ℕ) (rank' : ℕ → ℕ) (whose' : Option ℕ) (next : List ℕ) (last first rest : ℕ) → last < length next → rank last ≡ 0
      → ((at : ℕ) → owner at ≡ whose → (owner' at ≡ whose') × (rank' at ≡ rank at + rest))
      → IsChain owner' rank' whose' (set next last first) first rest
      → (block count total : ℕ) → total ≡ count + rest → IsChain owner rank whose next block (suc count) → block_after next block count ≡ last
      → IsChain owner' rank' whose' (set next last first) block (suc total)
  chain_joined owner' rank' whose' next last first rest inside ends joined following block zero total sum chain at =
      let here = joined block chain.1 in
      let rank_is : rank block ≡ 0 = chain.2 in
      let new_rank : rank' block ≡ rank block + rest = here.1 in
      let len = length-set next last first in
      let block_inside : block < length next = chain.0 in
      let e : rest ≡ total = omega arith in
      let goes : slice_index (set next last first) block ≡ first = ap (λ (k : ℕ). slice_index (set next last first) k) at ∙ get_or-set_same next last first 0 inside in (
        omega (arith, len),
        here.0,
        omega arith,
        rw (goes, ← e) following,
      )
  chain_joined owner' rank' whose' next last first rest inside ends joined following block (suc count) zero sum chain at = absurd (omega arith)
  chain_joined owner' rank' whose' next last first rest inside ends joined following block (suc count) (suc total) sum chain at =
      let here = joined block chain.1 in
      let rank_is : rank block ≡ suc count = chain.2 in
      let new_rank : rank' block ≡ rank block + rest = here.1 in
      let len = length-set next last first in
      let block_inside : block < length next = chain.0 in
      let differ : block ≢ last = λ e. let ranks : rank block ≡ rank last = ap rank e in omega arith in
      let goes : slice_index (set next last first) block ≡ slice_index next block = get_or-set_other next last block first 0 differ in (
        omega (arith, len),
        here.0,
        omega arith,
        rw goes (
            chain_joined owner' rank' whose' next last first rest inside ends joined following (slice_index next block) count total (omega arith) chain.3 at
            ),
      )

-- the chain of all blocks in order
pub whole_chain : (owner : ℕ → Option ℕ) (rank : ℕ → ℕ) (whose : Option ℕ) (next : List ℕ) (block count : ℕ) → block + count ≡ length next
    → ((at : ℕ) → at + 1 < length next → slice_index next at ≡ at + 1)
    → ((at : ℕ) → (owner at ≡ whose) × (rank at ≡ length next - 1 - at))
    → IsChain owner rank whose next block count
whole_chain owner rank whose next block zero sum order all = tt
whole_chain owner rank whose next block (suc zero) sum order all =
    let rank_is : rank block ≡ length next - 1 - block = (all block).1 in
    (omega arith, (all block).0, omega arith, tt)
whole_chain owner rank whose next block (suc (suc count)) sum order all =
    let rank_is : rank block ≡ length next - 1 - block = (all block).1 in
    let goes : slice_index next block ≡ block + 1 = order block (omega arith) in (
      omega arith,
      (all block).0,
      omega arith,
      rw goes (whole_chain owner rank whose next (block + 1) (suc count) (omega arith) order all),
    )
