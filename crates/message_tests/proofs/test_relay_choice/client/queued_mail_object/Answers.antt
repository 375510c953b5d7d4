use Rattle.std.proofs.Common.{IfSome}
use Rattle.journal_records.specs.Stored.{HasMark}
use Rattle.message_tests.proofs.test_relay_choice.client.queued_mail_object.Goals as goal

pub mail_object_of-requires-clause-mark : goal.mail_object_of-requires-clause-mark
mail_object_of-requires-clause-mark c =
    let found : IfSome c.in_ok-mark.field-0 (HasMark c.args.queued.now.octets.now) = c.in_ok-mark.ensures.mark in
    (c.args.queued.now.octets.now, rw c.in-Some.is at found)
