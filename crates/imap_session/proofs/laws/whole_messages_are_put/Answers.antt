use Rattle.imap_session.proofs.PutLaws.{is_either, is_put, none_before, put_changes}
use Rattle.imap_session.proofs.laws.whole_messages_are_put.Goals as goal

pub returns-clause-put : goal.returns-clause-put
returns-clause-put c = is_put

pub returns-clause-change : goal.returns-clause-change
returns-clause-change c = put_changes

pub returns-clause-either : goal.returns-clause-either
returns-clause-either c = is_either

pub returns-clause-before : goal.returns-clause-before
returns-clause-before c = none_before
