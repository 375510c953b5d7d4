use Rattle.relay_choice.proofs.DataLemmas.{nothing_missing, end_missing}
use Rattle.relay_choice.proofs.data.push_missing_end.Goals as goal

pub returns-then-is_ended : goal.returns-then-is_ended
returns-then-is_ended c = nothing_missing c.args.made.now c.args.octets.now c.is_ended.result c.is_ended.ensures c.if-is_ended.true

pub returns : goal.returns
returns c = rw (end_missing c.args.octets.now c.is_ended.result c.is_ended.ensures c.if-is_ended.false) c.push_slice.ensures.ok
