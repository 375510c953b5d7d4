use Rattle.std.proofs.Common.{◌∙◌, ◌<◌, List, [], ◌∷◌, ◌++◌, sym, subst, ap, refl, arith}
use Rattle.relay_choice.specs.declared.mail_objects.Act.{Act}
use Rattle.relay_choice.specs.declared.mail_objects.Act.TheVariants.{SayData}
use Rattle.relay_choice.specs.declared.states.Awaited.TheVariants.{Data, End}
use Rattle.relay_choice.specs.Relay.{after_acts}
use Rattle.relay_choice.specs.Standing.{mail_object_left, replies_by, rest_by, standing_of}
use Rattle.relay_choice.proofs.TurnLemmas.{comes_as}
use Rattle.relay_choice.proofs.ReplyLemmas.{data_asked, data_refused, data_stops}
use Rattle.relay_choice.specs.declared.states.Awaited.{Awaited}
use Rattle.relay_choice.proofs.CountingLemmas.{fewer_by, fewer_than, mail_object_less}
use Rattle.relay_choice.proofs.states.Client.take_data.Goals as goal

pub returns-then-is_intermediate-clause-comes : goal.returns-then-is_intermediate-clause-comes
returns-then-is_intermediate-clause-comes c = λ left.
    ap (λ a. rest_by a (standing_of c.args.self) (c.args.reply.now ∷ left)) c.requires
    ∙ data_asked (standing_of c.args.self) c.args.reply.now left (c.args.self.within (rw c.requires refl)) (sym c.is_intermediate.ensures ∙ c.if-is_intermediate.true)
    ∙ ap (λ (acts : List Act). after_acts acts (rest_by End (standing_of c.args.self) left)) (sym (c.in_ok-push.ensures.ok ∙ ap (λ (acts : List Act). acts ++ SayData c.args.self.at ∷ []) c.new-acts.ensures))

pub returns-then-is_permanent-clause-comes : goal.returns-then-is_permanent-clause-comes
returns-then-is_permanent-clause-comes c = comes_as c.args.reply.now _ _ c.settle.result (λ left.
    ap (λ a. rest_by a (standing_of c.args.self) (c.args.reply.now ∷ left)) c.requires
    ∙ data_refused (standing_of c.args.self) c.args.reply.now left (sym c.is_intermediate.ensures ∙ c.if-is_intermediate.false) (sym c.is_permanent.ensures ∙ c.if-is_permanent.true))
    c.settle.ensures.runs

pub returns-clause-comes : goal.returns-clause-comes
returns-clause-comes c = λ left.
    ap (λ a. rest_by a (standing_of c.args.self) (c.args.reply.now ∷ left)) c.requires
    ∙ data_stops (standing_of c.args.self) c.args.reply.now left (c.args.self.within (rw c.requires refl))
    (sym c.is_intermediate.ensures ∙ c.if-is_intermediate.false) (sym c.is_permanent.ensures ∙ c.if-is_permanent.false)

pub returns-then-is_intermediate-clause-fewer : goal.returns-then-is_intermediate-clause-fewer
returns-then-is_intermediate-clause-fewer c =
    subst (λ (a : Awaited). mail_object_left (standing_of c.args.self) (λ mail_object. 1) < replies_by a (standing_of c.args.self)) (sym c.requires)
    (mail_object_less (standing_of c.args.self) (λ mail_object. 1) (λ mail_object. 2) (c.args.self.within (rw c.requires refl)) (λ mail_object. omega arith))

pub returns-then-is_permanent-clause-fewer : goal.returns-then-is_permanent-clause-fewer
returns-then-is_permanent-clause-fewer c =
    let less = mail_object_less (standing_of c.args.self) (λ mail_object. 1) (λ mail_object. 2) (c.args.self.within (rw c.requires refl)) (λ mail_object. omega arith) in
    fewer_by (standing_of c.args.self) Data c.settle.result c.requires (fewer_than _ _ c.settle.result (omega (arith, less)) c.settle.ensures.fewer)
