use Rattle.std.proofs.Common.{length}
use Rattle.std.proofs.lemmas.Bool.{both_ways}
use Rattle.mail_wire.proofs.PairLemmas.{sound_by_pairs, pairs_of_sound, ends_of_sound}
use Rattle.mail_wire.proofs.message.is_sound.Goals as goal

pub returns-then-has_sound_ends : goal.returns-then-has_sound_ends
returns-then-has_sound_ends c =
    let octets = c.args.octets.now in (
      λ pairs. sound_by_pairs octets (c.has_sound_ends.ensures.0 c.if-has_sound_ends.true) (c.are_pairs_sound.ensures.0 pairs),
      λ sound. c.are_pairs_sound.ensures.1 (pairs_of_sound octets (length octets) sound),
    )

pub returns-else-has_sound_ends : goal.returns-else-has_sound_ends
returns-else-has_sound_ends c = (
  λ ends. absurd (both_ways c.has_sound_ends.result c.if-has_sound_ends.false ends),
  λ sound. c.has_sound_ends.ensures.1 (ends_of_sound c.args.octets.now sound),
)
