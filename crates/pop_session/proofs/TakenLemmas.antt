-- What QUIT takes out of the store.
use Rattle.std.proofs.Common.{◌≡◌, ℕ, List, [], ◌∷◌, refl}
use Rattle.mail_store.specs.Changing.{expunged}
use Rattle.session_core.specs.Changes.{calls_of}
use Rattle.pop_session.specs.Machine.{taken_out}

-- the one call that takes these messages out, or none
pub calls_taken : (ids : List ℕ) → calls_of (expunged ids) ≡ taken_out ids
calls_taken [] = refl
calls_taken (id ∷ ids) = refl
