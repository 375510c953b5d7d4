use Rattle.imap_session.proofs.AnswerLaws.{step_tagged}
use Rattle.imap_session.proofs.laws.each_command_is_answered.Goals as goal

pub returns : goal.returns
returns c = step_tagged
