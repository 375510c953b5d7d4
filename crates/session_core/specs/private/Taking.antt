-- What came of a take and of feeding what was taken.
use Rattle.std.specs.Prelude.{◌≡◌, ℕ, ◌≤◌, ◌⊎◌, List, length, take, Option, None, Some, Result, Ok, Err}
use Rattle.mail_wire.specs.Moves.{TakesNothing, TakesPiece}
use Rattle.mail_wire.specs.declared.outside.Fault.{Fault}
use Rattle.mail_wire.specs.declared.outside.Fault.TheVariants as fault
use Rattle.session_core.specs.Around.{Around, LeavesDesk}
use Rattle.session_core.specs.Protocol.{Protocol}
use Rattle.session_core.specs.Sessions.{Feeds}
use Rattle.session_core.specs.Steps.{Standing}
use Rattle.session_core.specs.declared.feeding.Session.{Session}
use Rattle.session_core.specs.declared.serving.Fed.{Fed}

-- So many octets were taken into the room that there was, and fed to a session.
pub record FeedsTaken (protocol : Protocol) {M : Type 0} (stands : Standing protocol M) (before now : Around) (session : Session M) (room count : ℕ) (result : Result (Session M) Fault) : Type 0 where
  pub between : Around
  pub into : List ℕ
  pub leaves : LeavesDesk before between
  pub clock : between.clock ≡ before.clock
  pub takes : TakesPiece before.wire between.wire count into
  pub bound : count ≤ length into
  pub fits : length into ≡ room
  pub feeds : Feeds protocol stands between now session result (take count into)

-- The take failed, or the feeding; the input has ended; or what was taken was fed.
abbrev pub TakesAndFeeds : (protocol : Protocol) {M : Type 0} → Standing protocol M → (before now : Around) → Session M → (room : ℕ) → Result (Option (Fed M)) Fault → Type 0
TakesAndFeeds protocol stands before now session room (Err met) =
    ((¬ (met ≡ fault.Keeper)) × LeavesDesk before now × TakesNothing before.wire now.wire) ⊎ ((count : ℕ) × FeedsTaken protocol stands before now session room count (Err met))
TakesAndFeeds protocol stands before now session room (Ok None) = LeavesDesk before now × ((into : List ℕ) × TakesPiece before.wire now.wire 0 into)
TakesAndFeeds protocol stands before now session room (Ok (Some fed)) = FeedsTaken protocol stands before now session room fed.count (Ok fed.session)
