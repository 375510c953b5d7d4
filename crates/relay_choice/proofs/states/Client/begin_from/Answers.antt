use Rattle.std.proofs.Common.{◌≤◌, ◌∙◌, List, [], ◌∷◌, ◌++◌, length, arith, ap, sym}
use Rattle.relay_choice.specs.declared.mail_objects.Act.{Act}
use Rattle.relay_choice.specs.declared.mail_objects.Act.TheVariants.{Say}
use Rattle.relay_choice.specs.Relay.{after_acts, finished}
use Rattle.relay_choice.specs.Standing.{rest_by}
use Rattle.relay_choice.specs.declared.states.Awaited.TheVariants.{Mail}
use Rattle.relay_choice.proofs.BeginningLemmas.{none_left, next_begins, addressed_at}
use Rattle.relay_choice.proofs.CountingLemmas.{begins_fewer}
use Rattle.relay_choice.proofs.states.Client.begin_from.Goals as goal

pub returns-in_default-clause-runs : goal.returns-in_default-clause-runs
returns-in_default-clause-runs c =
    let past : length c.as_slice.result.now ≤ c.in_ok-at.at = omega (arith, c.in_default.ensures.lookup) in
    λ left. none_left c.args.self c.args.from c.in_ok-at.at c.args.acts c.pass_unsent.new.acts c.in_ok-at.ensures (rw c.as_slice.ensures at past) left
    ∙ ap (λ (acts : List Act). record { acts = acts; end = finished }) (ap (λ line. c.pass_unsent.new.acts ++ Say line ∷ []) (sym c.in_ok-from_slice.ensures) ∙ sym c.in_ok-push.ensures.ok)

pub mail_line-requires : goal.mail_line-requires
mail_line-requires c =
    let lt = c.in-Some.ensures.lookup.3.0 in
    let is = c.in-Some.ensures.lookup.1 in
    addressed_at c.args.self.mail_objects c.in_ok-at.at c.in-Some.mail_object.now c.args.self.addressed (rw c.as_slice.ensures at lt) (rw c.as_slice.ensures at is)

pub returns-clause-runs : goal.returns-clause-runs
returns-clause-runs c =
    let lt = c.in-Some.ensures.lookup.3.0 in
    let is = c.in-Some.ensures.lookup.1 in
    λ left. next_begins c.args.self c.args.from c.in_ok-at.at c.args.acts c.pass_unsent.new.acts c.in-Some.mail_object.now c.in_ok-at.ensures (rw c.as_slice.ensures at lt) (rw c.as_slice.ensures at is) left
    ∙ ap (λ (acts : List Act). after_acts acts (rest_by Mail (record { name = c.args.self.name; mail_objects = c.args.self.mail_objects; at = c.in_ok-at.at; offer = c.args.self.offer; awaited = Mail; answers = [] }) left))
    (ap (λ line. c.pass_unsent.new.acts ++ Say line ∷ []) (sym c.in_ok-line.ensures) ∙ sym c.in_ok-push-2.ensures.ok)
    ∙ ap (λ answers. after_acts c.push-2.new.self (rest_by Mail (record { name = c.args.self.name; mail_objects = c.args.self.mail_objects; at = c.in_ok-at.at; offer = c.args.self.offer; awaited = Mail; answers = answers }) left)) (sym c.new.ensures)

pub returns-clause-fewer : goal.returns-clause-fewer
returns-clause-fewer c =
    let lt = c.in-Some.ensures.lookup.3.0 in
    let is = c.in-Some.ensures.lookup.1 in
    begins_fewer c.args.self c.args.from c.in_ok-at.at c.args.acts c.pass_unsent.new.acts c.in-Some.mail_object.now c.in_ok-at.ensures (rw c.as_slice.ensures at lt) (rw c.as_slice.ensures at is)
