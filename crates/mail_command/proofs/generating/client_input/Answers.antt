use Rattle.std.proofs.Common.{◌<◌, ◌+◌, length, codes, ap, arith, rules, length-append}
use Rattle.mail_command.specs.Checking.{number_line}
use Rattle.mail_command.proofs.GeneratingLemmas.{line_short}
use Rattle.mail_command.proofs.generating.client_input.Goals as goal

pub loop-message-preserved : goal.loop-message-preserved
loop-message-preserved c =
    let within : c.loop-message.message < c.args.number = search rules in
    let before = c.loop-message.invariant in
    let more = ap length c.in_ok-push_number_line.ensures in
    let few = c.requires.few in
    let line = line_short (c.loop-message.message + 1) (omega (arith, within, few)) in
    let sizes = length-append c.loop-message.input (number_line (codes "RETR ") (c.loop-message.message + 1)) in
    omega (arith, before, more, line, sizes)
