use Rattle.std.proofs.Common.{◌∙◌, ◌∷◌, sym, ap, refl}
use Rattle.relay_choice.specs.Standing.{rest_by, standing_of}
use Rattle.relay_choice.proofs.TurnLemmas.{comes_as}
use Rattle.relay_choice.proofs.ReplyLemmas.{end_done, end_refused, end_stops}
use Rattle.relay_choice.specs.declared.states.Awaited.TheVariants.{End}
use Rattle.relay_choice.proofs.CountingLemmas.{fewer_by}
use Rattle.relay_choice.proofs.states.Client.take_end.Goals as goal

pub returns-then-is_completed-clause-comes : goal.returns-then-is_completed-clause-comes
returns-then-is_completed-clause-comes c = comes_as c.args.reply.now _ _ c.settle.result (λ left.
    ap (λ a. rest_by a (standing_of c.args.self) (c.args.reply.now ∷ left)) c.requires
    ∙ end_done (standing_of c.args.self) c.args.reply.now left (sym c.is_completed.ensures ∙ c.if-is_completed.true)) c.settle.ensures.runs

pub returns-then-is_permanent-clause-comes : goal.returns-then-is_permanent-clause-comes
returns-then-is_permanent-clause-comes c = comes_as c.args.reply.now _ _ c.settle-then-is_permanent.result (λ left.
    ap (λ a. rest_by a (standing_of c.args.self) (c.args.reply.now ∷ left)) c.requires
    ∙ end_refused (standing_of c.args.self) c.args.reply.now left (sym c.is_completed.ensures ∙ c.if-is_completed.false) (sym c.is_permanent.ensures ∙ c.if-is_permanent.true))
    c.settle-then-is_permanent.ensures.runs

pub returns-clause-comes : goal.returns-clause-comes
returns-clause-comes c = λ left.
    ap (λ a. rest_by a (standing_of c.args.self) (c.args.reply.now ∷ left)) c.requires
    ∙ end_stops (standing_of c.args.self) c.args.reply.now left (c.args.self.within (rw c.requires refl))
    (sym c.is_completed.ensures ∙ c.if-is_completed.false) (sym c.is_permanent.ensures ∙ c.if-is_permanent.false)

pub returns-then-is_completed-clause-fewer : goal.returns-then-is_completed-clause-fewer
returns-then-is_completed-clause-fewer c = fewer_by (standing_of c.args.self) End c.settle.result c.requires c.settle.ensures.fewer

pub returns-then-is_permanent-clause-fewer : goal.returns-then-is_permanent-clause-fewer
returns-then-is_permanent-clause-fewer c = fewer_by (standing_of c.args.self) End c.settle-then-is_permanent.result c.requires c.settle-then-is_permanent.ensures.fewer
