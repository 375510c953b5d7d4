use Rattle.std.proofs.Common.{All, take}
use Rattle.std.specs.List.{AllZip}
use Rattle.relay_choice.specs.MailObjects.{IsAddressed}
use Rattle.relay_session.specs.MailObjects.{IsMailObjectAt}
use Rattle.relay_session.proofs.mail_objects.mail_objects_of.Given as goal

abbrev pub invariant-loop-queued : goal.invariant-loop-queued
invariant-loop-queued l = record { mail_objects : AllZip (IsMailObjectAt l.store.kept) (take l.queued-index l.queue) l.mail_objects; addressed : All IsAddressed l.mail_objects }
