use Rattle.std.proofs.Common.{◌∙◌, ℕ, ◌+◌, List, [], ◌∷◌, None, map, length, sym, ap, refl, arith}
use Rattle.relay_choice.specs.Said.{reset_line}
use Rattle.relay_choice.specs.Standing.{mail_object_run, rest_by, standing_of}
use Rattle.relay_choice.specs.Relay.{after_acts, outcome_by, reset_transaction, sent_to}
use Rattle.relay_choice.specs.declared.mail_objects.Act.TheVariants.{Say}
use Rattle.relay_choice.specs.declared.states.Awaited.TheVariants.{Mail, Reset}
use Rattle.relay_choice.proofs.TurnLemmas.{mail_done, mail_stops, mail_refused, comes_as, comes_ok}
use Rattle.relay_choice.proofs.CountingLemmas.{fewer_by, mail_object_less, said_fewer}
use Rattle.relay_choice.proofs.states.Client.take_mail.Goals as goal

pub returns-then-is_completed-clause-comes : goal.returns-then-is_completed-clause-comes
returns-then-is_completed-clause-comes c =
    let goes = c.ask_from.ensures.runs in
    comes_as c.args.reply.now _ _ c.ask_from.result (λ left.
    ap (λ a. rest_by a (standing_of c.args.self) (c.args.reply.now ∷ left)) c.requires
    ∙ mail_done (standing_of c.args.self) c.args.reply.now left (sym c.is_completed.ensures ∙ c.if-is_completed.true)) (rw c.new.ensures at goes)

pub returns-then-not-is_permanent-clause-comes : goal.returns-then-not-is_permanent-clause-comes
returns-then-not-is_permanent-clause-comes c = λ left.
    ap (λ a. rest_by a (standing_of c.args.self) (c.args.reply.now ∷ left)) c.requires
    ∙ mail_stops (standing_of c.args.self) c.args.reply.now left (c.args.self.within (rw c.requires refl))
    (sym c.is_completed.ensures ∙ c.if-is_completed.false) (sym c.is_permanent.ensures ∙ c.if-not-is_permanent.true)

pub returns-clause-comes : goal.returns-clause-comes
returns-clause-comes c =
    let is = c.index-as_slice-self.is in
    comes_ok (record (standing_of c.args.self) { answers = c.in_ok-answers.answers }) c.args.reply.now reset_line Reset _ c.reset.result c.reset.ensures (λ left.
    ap (λ a. rest_by a (standing_of c.args.self) (c.args.reply.now ∷ left)) c.requires
    ∙ mail_refused (standing_of c.args.self) c.index-as_slice-self.result c.args.reply.now left (c.args.self.within (rw c.requires refl)) (rw c.as_slice.ensures at is)
    (sym c.is_completed.ensures ∙ c.if-is_completed.false) (sym c.is_permanent.ensures ∙ c.if-not-is_permanent.false)
    ∙ sym (ap (λ (answers : List ℕ). after_acts (Say reset_line ∷ []) (mail_object_run (standing_of c.args.self) (λ mail_object. reset_transaction (map (outcome_by None) answers) left))) c.in_ok-answers.ensures))

pub returns-then-is_completed-clause-fewer : goal.returns-then-is_completed-clause-fewer
returns-then-is_completed-clause-fewer c = fewer_by (standing_of c.args.self) Mail c.ask_from.result c.requires c.ask_from.ensures.fewer

pub returns-clause-fewer : goal.returns-clause-fewer
returns-clause-fewer c = fewer_by (standing_of c.args.self) Mail c.reset.result c.requires
    (said_fewer (record (standing_of c.args.self) { answers = c.in_ok-answers.answers }) reset_line Reset _ c.reset.result c.reset.ensures
    (mail_object_less (standing_of c.args.self) (λ mail_object. 1) (λ mail_object. length (sent_to c.args.self.offer mail_object) + 3) (c.args.self.within (rw c.requires refl)) (λ mail_object. omega arith)))
