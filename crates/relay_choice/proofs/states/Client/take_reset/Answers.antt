use Rattle.std.proofs.Common.{◌∙◌, ◌∷◌, sym, ap, refl}
use Rattle.relay_choice.specs.Standing.{rest_by, standing_of}
use Rattle.relay_choice.proofs.TurnLemmas.{comes_as}
use Rattle.relay_choice.proofs.ReplyLemmas.{reset_done, reset_stops}
use Rattle.relay_choice.specs.declared.states.Awaited.TheVariants.{Reset}
use Rattle.relay_choice.proofs.CountingLemmas.{fewer_by}
use Rattle.relay_choice.proofs.states.Client.take_reset.Goals as goal

pub returns-then-is_completed-clause-comes : goal.returns-then-is_completed-clause-comes
returns-then-is_completed-clause-comes c = comes_as c.args.reply.now _ _ c.settle.result (λ left.
    ap (λ a. rest_by a (standing_of c.args.self) (c.args.reply.now ∷ left)) c.requires
    ∙ reset_done (standing_of c.args.self) c.args.reply.now left (sym c.is_completed.ensures ∙ c.if-is_completed.true)) c.settle.ensures.runs

pub returns-else-is_completed-clause-comes : goal.returns-else-is_completed-clause-comes
returns-else-is_completed-clause-comes c = λ left.
    ap (λ a. rest_by a (standing_of c.args.self) (c.args.reply.now ∷ left)) c.requires
    ∙ reset_stops (standing_of c.args.self) c.args.reply.now left (c.args.self.within (rw c.requires refl)) (sym c.is_completed.ensures ∙ c.if-is_completed.false)

pub returns-then-is_completed-clause-fewer : goal.returns-then-is_completed-clause-fewer
returns-then-is_completed-clause-fewer c = fewer_by (standing_of c.args.self) Reset c.settle.result c.requires c.settle.ensures.fewer
