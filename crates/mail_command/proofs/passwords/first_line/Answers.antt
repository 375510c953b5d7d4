use Rattle.mail_command.proofs.PasswordLemmas.{line_before}
use Rattle.mail_command.proofs.passwords.first_line.Goals as goal

pub returns-in-Some : goal.returns-in-Some
returns-in-Some c = line_before c.args.octets.now c.in-Some.text.now c.in-Some.field-0-1.now c.without_cr.result.now c.in-Some.ensures.found.0 c.in-Some.ensures.found.1 c.without_cr.ensures
