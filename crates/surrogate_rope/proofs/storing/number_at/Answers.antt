use Rattle.std.proofs.Common.{ap, ◌∙◌}
use Rattle.std.specs.Int.{w64, from_be_bytes}
use Rattle.surrogate_rope.proofs.StoredLemmas.{eight}
use Rattle.surrogate_rope.proofs.storing.number_at.Goals as goal

pub returns : goal.returns
returns c = c.from_be_bytes.ensures ∙ ap (from_be_bytes w64) (eight c.args.octets.now c.args.at c.requires)
