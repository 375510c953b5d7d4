-- What the call that serves a program's next connection does.
use Rattle.std.specs.Prelude.{◌≡◌, ℕ, List, ◌++◌, Option, IfSome}
use Rattle.mail_wire.specs.WireState.{WireState}
use Rattle.mail_store.specs.Answers.{OpensTo}
use Rattle.session_core.specs.Around.{Around}
use Rattle.session_core.specs.Desks.{HasFirst, IsNextCache, OpensOrCatchesUp}
use Rattle.session_core.specs.Serving.{Instance, ServesFrom}
use Rattle.session_core.specs.declared.desk.Desk.{Desk}
use Rattle.session_core.specs.declared.desk.Limits.{Limits}
use Rattle.session_core.specs.declared.serving.Served.{Served}

-- A session was served from a desk within these limits, whose cache was that of the desk that was kept. If the journal went on from what
-- the kept desk had, the session's store was the fold of the whole records of the journal, whoever wrote them. When it began, the keeper held
-- them, and the record that begins version 2 after those of version 1, and nothing more. Whatever the journal was, no record had gone. What is
-- kept now is the desk as the session left it.
pub record ServesNext (instance : Instance) (kept left : Option Desk) (limits : Limits) (old new : Option (List ℕ)) (before now : WireState) (advance : Served) : Type 0 where
  pub begun : Around
  pub done : Around
  pub opens : IfSome old (λ octets. HasFirst kept octets → OpensTo octets begun.keeper.octets begun.desk.store.kept)
  pub anew : IfSome old (λ octets. OpensOrCatchesUp kept octets begun.keeper.octets begun.desk.store.kept)
  pub cache : IfSome old (λ octets. IsNextCache limits kept octets begun.desk.cache)
  pub limits_are : begun.desk.limits ≡ limits
  pub message_limit : begun.desk.store.message_max ≡ limits.message_max
  pub wire : begun.wire ≡ before
  pub given : done.wire ≡ now
  pub keeper : done.keeper.octets ≡ new
  pub left_is : IfSome left (λ desk. desk ≡ done.desk)
  pub serves : ServesFrom instance begun done advance

-- If the journal went on from what the kept desk had, what others put after it goes on from what the desk has that is kept now.
abbrev pub GoesOnFrom : Option Desk → Option Desk → Option (List ℕ) → Option (List ℕ) → Type 0
GoesOnFrom kept left old new = IfSome old (λ had. HasFirst kept had → IfSome new (λ has. (more : List ℕ) → HasFirst left (has ++ more)))
