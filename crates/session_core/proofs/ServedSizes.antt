-- How many octets a session is served of a message.
use Rattle.std.proofs.Common.{◌≡◌, ℕ, List, length, Result, Ok, Err, ap, ◌∙◌}
use Rattle.std.specs.Prelude.{IfOk}
use Rattle.surrogate_cache.specs.Served.{Mode, IsServed, served_by}
use Rattle.surrogate_cache.proofs.ServedLemmas.{IsServed-by}
use Rattle.session_core.specs.Oracles.{WithOracles}

-- it is so many by whatever function gives surrogates
pub served_size : {E : Type 0} (mode : Mode) (msg : List ℕ) (result : Result ℕ E) → IfOk result (λ size. (shown : List ℕ) × IsServed mode msg shown × (size ≡ length shown))
    → IfOk result (λ size. WithOracles (λ oracles. size ≡ length (served_by oracles.surrogate mode msg)))
served_size mode msg (Ok size) is = λ oracles are. is.2 ∙ ap length (IsServed-by oracles.surrogate are.surrogates mode msg is.0 is.1)
served_size mode msg (Err failed) is = tt
