use Rattle.std.proofs.Common.{◌≡◌, take}
use Rattle.relay_session.specs.MailObjects.{addresses_of}
use Rattle.relay_session.proofs.mail_objects.addresses_of.Given as goal

abbrev pub invariant-loop-one : goal.invariant-loop-one
invariant-loop-one l = l.addresses ≡ addresses_of (take l.one-index l.unsettled)
