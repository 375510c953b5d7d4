use Rattle.surrogate_rope.specs.Ropes.{octets_of}
use Rattle.surrogate_rope.proofs.SurrogateBlocks.{rope_surrogate, surrogate_blocks}
use Rattle.surrogate_cache.proofs.view.LegacyView.show.Goals as goal

pub returns-clause-headers : goal.returns-clause-headers
returns-clause-headers c =
    surrogate_blocks c.args.msg.now (octets_of c.args.msg.now c.in_ok-rope.rope) (rope_surrogate c.args.msg.now c.in_ok-rope.rope c.in_ok-rope.ensures.rope)
