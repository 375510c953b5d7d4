use Rattle.std.proofs.Common.{◌∙◌}
use Rattle.journal_records.proofs.MarkLemmas.{mark_below}
use Rattle.relay_choice.proofs.MakingLemmas.{mail_object_addressed, marked_mail_object}
use Rattle.relay_choice.proofs.making.mail_object_of.Goals as goal

pub needs-requires : goal.needs-requires
needs-requires c = record { mark = mark_below c.requires.mark.0 c.args.mark c.requires.mark.1 }

pub returns-clause-mail_object : goal.returns-clause-mail_object
returns-clause-mail_object c = λ octets entities is.
    marked_mail_object c.args.path c.args.addresses c.in_ok-recipients.recipients octets entities c.args.mark c.needs.result
    (record { header = c.needs.ensures.header; eight = c.needs.ensures.eight; path = c.needs.ensures.path ∙ c.in_ok-form.ensures }) c.in_ok-recipients.ensures is

pub returns-clause-addressed : goal.returns-clause-addressed
returns-clause-addressed c = mail_object_addressed c.args.path c.needs.result c.in_ok-recipients.recipients c.args.addresses c.in_ok-recipients.ensures c.requires.path c.requires.addresses
