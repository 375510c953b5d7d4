use Rattle.std.specs.List.{All}
use Rattle.relay_choice.specs.MailObjects.{IsAddressed}
use Rattle.message_tests.proofs.test_relay_choice.client.queued_mail_objects.Given as goal

abbrev pub invariant-loop-queued : goal.invariant-loop-queued
invariant-loop-queued l = All IsAddressed l.mail_objects
