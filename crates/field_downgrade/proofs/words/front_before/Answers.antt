use Rattle.std.proofs.Common.{ap, length, arith}
use Rattle.std.proofs.lemmas.List.{length-append, take_at}
use Rattle.field_downgrade.proofs.words.front_before.Goals as goal

pub returns : goal.returns
returns c = λ front whole. rw (c.split_at.ensures.front, whole) (take_at front c.args.rest.now _ (omega (arith, ap length whole, length-append front c.args.rest.now)))
