use Rattle.std.proofs.Common.{◌∙◌, sym, ap, subst, All}
use Rattle.relay_choice.specs.MailObjects.{HasTextDomain}
use Rattle.relay_session.specs.MailObjects.{addresses_of}
use Rattle.relay_session.proofs.MailObjectAddresses.{entry_marked, text_addresses}
use Rattle.relay_session.proofs.mail_objects.mail_object_at.Goals as goal

pub mail_object_of-requires-clause-mark : goal.mail_object_of-requires-clause-mark
mail_object_of-requires-clause-mark c =
    let found = entry_marked c.args.store.now.kept.entries c.args.queued.now.entry c.queue_mark-mark.result c.requires.there c.queue_mark-mark.ensures in
    (found.0.octets, found.2)

pub mail_object_of-requires-clause-addresses : goal.mail_object_of-requires-clause-addresses
mail_object_of-requires-clause-addresses c =
    subst (All HasTextDomain) (sym (c.in_ok-addresses.ensures ∙ ap addresses_of c.as_slice.ensures)) (text_addresses c.args.queued.now.unsettled c.requires.paths.unsettled)
