use Rattle.std.proofs.Common.{refl}
use Rattle.imap_grammar.proofs.LiteralSteps.{follows_as, follows_any, name_body, name_bad}
use Rattle.imap_grammar.proofs.reader.following_literal.Goals as goal

pub returns-in-LoginName-clause-reads : goal.returns-in-LoginName-clause-reads
returns-in-LoginName-clause-reads c = λ sized. follows_as c.args.utf8 c.args.literal c.args.line.now _ c.in-LoginName.is (refl, refl) c.after_user.ensures.reads

pub returns-in-LoginPassword-clause-reads : goal.returns-in-LoginPassword-clause-reads
returns-in-LoginPassword-clause-reads c = λ sized. follows_any c.args.utf8 c.args.literal c.args.line.now _ c.in-LoginPassword.is (refl, refl) c.bare.ensures.reads

pub returns-in-Mailbox-clause-reads : goal.returns-in-Mailbox-clause-reads
returns-in-Mailbox-clause-reads c = λ sized. follows_any c.args.utf8 c.args.literal c.args.line.now _ c.in-Mailbox.is (refl, refl) c.after_mailbox.ensures.reads

pub returns-in-ListReference-clause-reads : goal.returns-in-ListReference-clause-reads
returns-in-ListReference-clause-reads c = λ sized. follows_as c.args.utf8 c.args.literal c.args.line.now _ c.in-ListReference.is (refl, refl) c.after_reference.ensures.reads

pub returns-in-ListPattern-clause-reads : goal.returns-in-ListPattern-clause-reads
returns-in-ListPattern-clause-reads c = λ sized. follows_any c.args.utf8 c.args.literal c.args.line.now _ c.in-ListPattern.is (refl, refl) c.bare-in-ListPattern.ensures.reads

pub returns-in-StatusName-clause-reads : goal.returns-in-StatusName-clause-reads
returns-in-StatusName-clause-reads c = λ sized. follows_any c.args.utf8 c.args.literal c.args.line.now _ c.in-StatusName.is (refl, refl) c.after_status_name.ensures.reads

pub returns-in-AppendName-clause-reads : goal.returns-in-AppendName-clause-reads
returns-in-AppendName-clause-reads c = λ sized. follows_any c.args.utf8 c.args.literal c.args.line.now _ c.in-AppendName.is (refl, refl) c.after_append_name.ensures.reads

pub returns-in-AppendData-clause-reads : goal.returns-in-AppendData-clause-reads
returns-in-AppendData-clause-reads c = λ sized. follows_any c.args.utf8 c.args.literal c.args.line.now _ c.in-AppendData.is (refl, refl) c.after_data.ensures.reads

pub returns-in-Some-clause-reads : goal.returns-in-Some-clause-reads
returns-in-Some-clause-reads c = λ sized. name_bad c.args.utf8 _ c.args.literal c.args.line.now _ c.as_slice.ensures c.in-FieldName.is c.in-Some.ensures

pub returns-in_default-clause-reads : goal.returns-in_default-clause-reads
returns-in_default-clause-reads c = λ sized.
    follows_as c.args.utf8 c.args.literal c.args.line.now _ c.in-FieldName.is (name_body _ c.args.literal c.as_slice.ensures c.in-FieldName.is sized c.in_default.ensures) c.after_field_name.ensures.reads
