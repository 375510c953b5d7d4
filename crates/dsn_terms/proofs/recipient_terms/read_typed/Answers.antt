use Rattle.std.proofs.Common.{sym}
use Rattle.dsn_terms.proofs.OrcptFacts.{none-rfc822, none-utf8}
use Rattle.dsn_terms.proofs.recipient_terms.read_typed.Goals as goal

pub returns-in-Some-clause-none : goal.returns-in-Some-clause-none
returns-in-Some-clause-none c = none-rfc822 c.read_rfc822.result c.args.utf8 c.args.value.now c.in-Some.text.now (sym c.in-Some.ensures) c.read_rfc822.ensures.none

pub returns-in-Some-behind-clause-none : goal.returns-in-Some-behind-clause-none
returns-in-Some-behind-clause-none c = none-utf8 c.read_utf8.result c.args.utf8 c.args.value.now c.in-Some-behind.text.now (sym c.in-Some-behind.ensures) c.read_utf8.ensures.none
