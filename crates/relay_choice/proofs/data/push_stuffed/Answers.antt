use Rattle.std.proofs.Common.{◌++◌, arith}
use Rattle.std.proofs.lemmas.Bool.Decides.{nat_tests}
use Rattle.mail_wire.specs.Dots.{stuffed}
use Rattle.relay_choice.proofs.DataLemmas.{all_put}
use Rattle.relay_choice.proofs.data.push_stuffed.Goals as goal

pub returns : goal.returns
returns c = all_put c.loop-rest.made (c.args.made.now ++ stuffed c.args.octets.now) c.loop-rest.rest.now (grind (arith, nat_tests)) c.loop-rest.invariant
