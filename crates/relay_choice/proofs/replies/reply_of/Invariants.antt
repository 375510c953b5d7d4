use Rattle.std.proofs.Common.{◌≡◌, ◌++◌, map, length}
use Rattle.mail_wire.specs.Lines.{lines_of}
use Rattle.relay_choice.specs.private.Texts.{text_of_line}
use Rattle.relay_choice.proofs.replies.reply_of.Given as goal

abbrev pub invariant-loop-rest : goal.invariant-loop-rest
invariant-loop-rest l = map text_of_line (lines_of l.octets) ≡ l.lines ++ map text_of_line (lines_of l.rest)

abbrev pub decreases-loop-rest : goal.decreases-loop-rest
decreases-loop-rest l = length l.rest
