use Rattle.mail_command.proofs.command.command_with_values.Goals as goal

pub returns-in-Some : goal.returns-in-Some
returns-in-Some c = c.account_command.ensures c.args.words.now (rw c.in-Some.is at c.in_ok-said.ensures.some)
