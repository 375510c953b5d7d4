use Rattle.std.proofs.Common.{arith}
use Rattle.surrogate_rope.specs.Ropes.{octets_of}
use Rattle.surrogate_rope.proofs.RopeSizes.{rope_size}
use Rattle.mail_command.proofs.GivingLemmas.{gives_whole}
use Rattle.mail_command.proofs.tasks.give_rope.Goals as goal

pub give_range-requires-clause-within : goal.give_range-requires-clause-within
give_range-requires-clause-within g c = let size = rope_size c.args.msg.now c.args.rope c.requires in omega (arith, size, c.size-len.ensures)

pub returns-in-Ok-clause-gives : goal.returns-in-Ok-clause-gives
returns-in-Ok-clause-gives g c =
    let size = rope_size c.args.msg.now c.args.rope c.requires in
    rw c.in-Ok.is at (gives_whole (g.W.Wire.observed c.args.wire.now) (g.W.Wire.observed c.give_range.new.wire) c.give_range.result (octets_of c.args.msg.now c.args.rope) c.size-len.result
    (omega (arith, size, c.size-len.ensures)) c.give_range.ensures.gives)

pub returns-clause-gives : goal.returns-clause-gives
returns-clause-gives g c =
    let size = rope_size c.args.msg.now c.args.rope c.requires in
    rw c.in-Err.is at (gives_whole (g.W.Wire.observed c.args.wire.now) (g.W.Wire.observed c.give_range.new.wire) c.give_range.result (octets_of c.args.msg.now c.args.rope) c.size-len.result
    (omega (arith, size, c.size-len.ensures)) c.give_range.ensures.gives)
