use Rattle.std.proofs.Common.{ℕ, List, ap, ◌∙◌}
use Rattle.kept_mail.specs.Kept.{name_of}
use Rattle.mail_store.specs.StoreState.{StoreState}
use Rattle.relay_choice.specs.Relay.{relay_of}
use Rattle.relay_session.specs.declared.ends.Tally.{Tally}
use Rattle.relay_session.proofs.LeftCauses.{somebody_left}
use Rattle.relay_session.proofs.QueueFacts.{are_known}
use Rattle.relay_session.proofs.RunBeginnings.{Begins, at_work, relays_begun}
use Rattle.relay_session.proofs.relaying.relay_mail_objects.Given.{Over}
use Rattle.relay_session.proofs.relaying.relay_mail_objects.Goals as goal

pub mail_objects_of-requires : goal.mail_objects_of-requires
mail_objects_of-requires g c = rw c.store.ensures (are_known c.args.outside.now.desk.store.kept c.args.queue.now c.requires.queue).each

begins_with : (g : Over) (c : goal.After-run_to_end-arg-1 g) → Begins c.args.outside.now c.args.queue.now c.in_ok-mail_objects.mail_objects
    (record { client = c.new.result; reader = c.new-2.result; tally = c.before-2.result })
begins_with g c = record {
  told = c.requires.queue;
  all = rw c.store.ensures at c.in_ok-mail_objects.ensures.mail_objects;
  few = c.requires.few;
  octets = c.new-2.ensures.octets;
  begun = c.new-2.ensures.begun;
  client = λ left. c.new.ensures left ∙ ap (λ (name : List ℕ). relay_of name c.in_ok-mail_objects.mail_objects left)
      (c.in_ok-name.ensures ∙ c.as_bytes.ensures.value ∙ c.name.ensures ∙ ap (λ (store : StoreState). name_of store.kept) c.store-2.ensures);
  sent = ap (λ (tally : Tally). tally.sent) c.before-2.ensures;
  reported = ap (λ (tally : Tally). tally.reported) c.before-2.ensures;
  left = ap (λ (tally : Tally). tally.left) c.before-2.ensures ∙ c.open_count.ensures;
}

pub run_to_end-requires-clause-work : goal.run_to_end-requires-clause-work
run_to_end-requires-clause-work g c = at_work c.args.outside.now c.args.queue.now c.in_ok-mail_objects.mail_objects _ (begins_with g c)

pub returns-clause-relays : goal.returns-clause-relays
returns-clause-relays g c =
    relays_begun c.args.outside.now c.run_to_end.new.outside c.args.queue.now c.in_ok-mail_objects.mail_objects _ c.run_to_end.result (begins_with g c.before) c.requires.some
    c.run_to_end.ensures.relays

pub returns-clause-left : goal.returns-clause-left
returns-clause-left g c = somebody_left c.args.outside.now c.run_to_end.new.outside c.run_to_end.result (returns-clause-relays g c)
