use Rattle.std.proofs.Common.{arith}
use Rattle.mail_wire.proofs.PairLemmas.{one_more}
use Rattle.mail_wire.proofs.message.are_pairs_sound.Goals as goal

pub loop-at-preserved : goal.loop-at-preserved
loop-at-preserved c =
    let so_far = c.loop-at.invariant in
    (omega arith, one_more c.args.octets.now c.loop-at.at c.loop-at.sound c.is_sound_pair-sound.result so_far.0 c.loop-at-test.true so_far.1 c.is_sound_pair-sound.ensures)
