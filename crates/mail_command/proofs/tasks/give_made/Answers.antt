use Rattle.surrogate_rope.specs.Ropes.{octets_of}
use Rattle.surrogate_rope.proofs.SurrogateBlocks.{rope_surrogate}
use Rattle.mail_command.specs.declared.tasks.Task.TheVariants.{Downgrade, Check}
use Rattle.mail_command.specs.Outcome.{IsGivenBy}
use Rattle.mail_command.proofs.GivingLemmas.{begins_one}
use Rattle.mail_command.proofs.tasks.give_made.Goals as goal

pub returns-in-Downgrade-clause-begun : goal.returns-in-Downgrade-clause-begun
returns-in-Downgrade-clause-begun g c =
    rw c.in-Downgrade.is (begins_one (IsGivenBy Downgrade c.args.msg.now) (g.W.Wire.observed c.args.wire.now) (g.W.Wire.observed c.give_rope.new.wire) c.give_rope.result (octets_of c.args.msg.now c.in_ok-rope.rope)
    (rope_surrogate c.args.msg.now c.in_ok-rope.rope c.in_ok-rope.ensures.rope) c.give_rope.ensures.gives)

pub returns-in_ok-text-in-Check-clause-begun : goal.returns-in_ok-text-in-Check-clause-begun
returns-in_ok-text-in-Check-clause-begun g c =
    rw c.in-Check.is (begins_one (IsGivenBy Check c.args.msg.now) (g.W.Wire.observed c.args.wire.now) (g.W.Wire.observed c.give_all.new.wire) c.give_all.result c.in_ok-text-in-Check.text
    (record { figures = c.figures_of.result; has = c.figures_of.ensures; text_is = c.in_ok-text-in-Check.ensures }) (rw c.as_slice.ensures at c.give_all.ensures.gives))
