use Rattle.imap_session.proofs.AnswerLaws.{before_quiet, examined_quiet, others_quiet}
use Rattle.imap_session.proofs.laws.few_commands_change_the_store.Goals as goal

pub returns-clause-others : goal.returns-clause-others
returns-clause-others c = others_quiet

pub returns-clause-before : goal.returns-clause-before
returns-clause-before c = before_quiet

pub returns-clause-examined : goal.returns-clause-examined
returns-clause-examined c = examined_quiet
