use Rattle.std.proofs.Common.{◌≡◌, take}
use Rattle.mail_store.specs.Changing.{expunged}
use Rattle.mail_store.specs.private.Adding.{keeping}
use Rattle.mail_store.proofs.storing.Store.put_all_expunged.Given as goal

abbrev pub invariant-loop-id : goal.invariant-loop-id
invariant-loop-id l = l.self ≡ keeping l.initial.self (expunged (take l.id-index l.ids))
