use Rattle.mail_command.proofs.ServeLemmas.{no_command}
use Rattle.mail_command.proofs.laws.serve_is_no_command.Goals as goal

pub returns : goal.returns
returns c = no_command
