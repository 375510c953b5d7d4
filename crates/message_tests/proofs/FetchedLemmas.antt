-- What is held after the calls of a cache.
use Rattle.std.proofs.Common.{◌≡◌, ℕ, List, Option, Some, None, Result, Ok, Err, IfOk, OnOk, OnErr, sym, subst, inl}
use Rattle.surrogate_rope.specs.Ropes.{RopeValue}
use Rattle.surrogate_cache.specs.Caching.{CacheState, HoldsEach, IsStoredOf, Fetches, LosesFetch, FindsHeld}
use Rattle.surrogate_cache.proofs.HeldLemmas.{fetch_holds, lost_holds}

-- after a fetch, whether it was refused or not
pub tried_holds : {F : Type 0} (P : ℕ → List ℕ → Type 0) (msg : List ℕ) (old new : CacheState) (id : ℕ) (result : Result RopeValue F) → ((stored : List ℕ) → IsStoredOf msg stored → P id stored)
    → HoldsEach P old → IfOk result (Fetches msg old new id) → OnErr result (LosesFetch msg old new id) → HoldsEach P new
tried_holds P msg old new id (Ok rope) each holds fetches loses = fetch_holds P msg old new id rope each holds fetches
tried_holds P msg old new id (Err fault) each holds fetches loses = lost_holds P msg old new id holds loses

-- after a look-up
found_holds : (P : ℕ → List ℕ → Type 0) (msg : List ℕ) (old new : CacheState) (id : ℕ) (found : Option RopeValue) → ((stored : List ℕ) → IsStoredOf msg stored → P id stored)
    → HoldsEach P old → FindsHeld old new id found → HoldsEach P new
found_holds P msg old new id None each holds finds = subst (HoldsEach P) (sym finds.1) holds
found_holds P msg old new id (Some rope) each holds finds = fetch_holds P msg old new id rope each holds (inl finds)

pub looked_holds : {F : Type 0} (P : ℕ → List ℕ → Type 0) (msg : List ℕ) (old new : CacheState) (id : ℕ) (result : Result (Option RopeValue) F)
    → ((stored : List ℕ) → IsStoredOf msg stored → P id stored) → HoldsEach P old → IfOk result (FindsHeld old new id) → OnOk result (HoldsEach P new)
looked_holds P msg old new id (Ok found) each holds finds = found_holds P msg old new id found each holds finds
looked_holds P msg old new id (Err fault) each holds finds = tt
