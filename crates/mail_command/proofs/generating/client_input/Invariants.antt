use Rattle.std.proofs.Common.{◌≤◌, ◌+◌, ◌*◌, length}
use Rattle.mail_command.proofs.generating.client_input.Given as goal

abbrev pub invariant-loop-message : goal.invariant-loop-message
invariant-loop-message l = length l.input ≤ 64 + l.message * 64
