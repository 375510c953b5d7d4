use Rattle.std.proofs.Common.{◌≡◌, ◌++◌, drop}
use Rattle.imap_session.specs.Machine.{deleted_ids}
use Rattle.imap_session.proofs.expunging.deleted_ids.Given as goal

abbrev pub invariant-loop-one : goal.invariant-loop-one
invariant-loop-one l = l.ids.items ++ deleted_ids (drop l.one-index l.messages) ≡ deleted_ids l.messages
