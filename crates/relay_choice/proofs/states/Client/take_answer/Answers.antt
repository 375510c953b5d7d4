use Rattle.std.proofs.Common.{◌∙◌, ◌∷◌, sym, ap, refl}
use Rattle.relay_choice.specs.Standing.{rest_by, standing_of}
use Rattle.relay_choice.proofs.TurnLemmas.{answer_stops, answer_taken, comes_as}
use Rattle.relay_choice.specs.declared.states.Awaited.TheVariants.{Rcpt}
use Rattle.relay_choice.proofs.CountingLemmas.{fewer_by}
use Rattle.relay_choice.proofs.states.Client.take_answer.Goals as goal

pub returns-then-not-is_answer-clause-comes : goal.returns-then-not-is_answer-clause-comes
returns-then-not-is_answer-clause-comes c = λ left.
    ap (λ a. rest_by a (standing_of c.args.self) (c.args.reply.now ∷ left)) c.requires
    ∙ answer_stops (standing_of c.args.self) c.args.following c.args.reply.now left (c.args.self.within (rw c.requires refl)) (sym c.is_answer.ensures ∙ c.if-not-is_answer.true)

pub returns-clause-comes : goal.returns-clause-comes
returns-clause-comes c =
    let goes = c.ask_from.ensures.runs in
    comes_as c.args.reply.now _ _ c.ask_from.result (λ left.
    ap (λ a. rest_by a (standing_of c.args.self) (c.args.reply.now ∷ left)) c.requires
    ∙ answer_taken (standing_of c.args.self) c.args.following c.args.reply.now left (sym c.is_answer.ensures ∙ c.if-not-is_answer.false)) (rw c.in_ok-push.ensures.ok at goes)

pub returns-clause-fewer : goal.returns-clause-fewer
returns-clause-fewer c = fewer_by (standing_of c.args.self) (Rcpt c.args.following) c.ask_from.result c.requires c.ask_from.ensures.fewer
