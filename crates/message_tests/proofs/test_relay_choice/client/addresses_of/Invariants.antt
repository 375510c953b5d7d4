use Rattle.std.specs.List.{All}
use Rattle.relay_choice.specs.MailObjects.{HasTextDomain}
use Rattle.message_tests.proofs.test_relay_choice.client.addresses_of.Given as goal

abbrev pub invariant-loop-parts : goal.invariant-loop-parts
invariant-loop-parts l = All HasTextDomain l.made
