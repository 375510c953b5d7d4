use Rattle.std.specs.Prelude.{IfSome}
use Rattle.std.proofs.lemmas.List.Elements.{All-push}
use Rattle.relay_choice.specs.MailObjects.{IsAddressed}
use Rattle.message_tests.proofs.test_relay_choice.client.queued_mail_objects.Goals as goal

pub loop-queued-preserved : goal.loop-queued-preserved
loop-queued-preserved c =
    let found : IfSome c.in_ok-mail_object.field-0 IsAddressed = c.in_ok-mail_object.ensures in
    let mail_object : IsAddressed c.in-Some.mail_object = rw c.in-Some.is at found in
    rw c.in_ok-push-in-Some.ensures.ok (All-push IsAddressed c.loop-queued.mail_objects c.in-Some.mail_object c.loop-queued.invariant mail_object)
