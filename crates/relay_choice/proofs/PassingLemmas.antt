-- Mail objects that are sent to nobody are settled one by one.
use Rattle.std.proofs.Common.{◌≡◌, ℕ, ◌+◌, ◌<◌, ◌≤◌, List, [], ◌∷◌, ◌++◌, length, get_or, drop, map, refl, ap, sym, ◌∙◌, arith}
use Rattle.std.proofs.lemmas.List.{at_drop_more, append_assoc, append-nil}
use Rattle.relay_choice.specs.declared.replies.Reply.{Reply}
use Rattle.relay_choice.specs.declared.mail_objects.Recipient.{Recipient}
use Rattle.relay_choice.specs.declared.mail_objects.MailObject.{MailObject}
use Rattle.relay_choice.specs.declared.mail_objects.Act.{Act}
use Rattle.relay_choice.specs.declared.mail_objects.Act.TheVariants.{Settle}
use Rattle.relay_choice.specs.declared.states.Client.{Client}
use Rattle.relay_choice.specs.Relay.{after_acts, transaction_to, merged, plan_of, followed, mail_objects_run, sent_to}
use Rattle.relay_choice.specs.Standing.{replies_to, run_from, standing_of}
use Rattle.std.proofs.lemmas.List.Sums.{sum_by-drop_more}

-- the mail objects up to this number are settled, as they are sent to nobody
pub record Passes (client : Client) (from : ℕ) (old new : List Act) (at : ℕ) : Type 0 where
  pub made : List Act
  pub new_is : new ≡ old ++ made
  pub run : (left : List Reply) → run_from (standing_of client) from left ≡ after_acts made (run_from (standing_of client) at left)
  pub few : replies_to (drop at client.mail_objects) ≤ replies_to (drop from client.mail_objects)

pub begins : (client : Client) (from : ℕ) (acts : List Act) → Passes client from acts acts from
begins client from acts = record { made = []; new_is = sym (append-nil acts); run = λ left. refl; few = omega arith }

-- a mail object that is sent to nobody is settled at once
unsent_run : (client : Client) (at : ℕ) (x : MailObject) (left : List Reply) → at < length client.mail_objects → x ≡ get_or client.mail_objects at x → sent_to client.offer x ≡ []
    → run_from (standing_of client) at left ≡ after_acts (Settle at (merged (map (plan_of client.offer x) x.recipients) []) ∷ []) (run_from (standing_of client) (at + 1) left)
unfolding mail_objects_run
unsent_run client at x left lt is none =
    at_drop_more (λ (l : List MailObject). mail_objects_run client.offer at l left) client.mail_objects at x lt
    ∙ ap (λ (y : MailObject). mail_objects_run client.offer at (y ∷ drop (at + 1) client.mail_objects) left) (sym is)
    ∙ ap (λ (sent : List Recipient). followed client.offer at x (transaction_to client.offer at x sent left) (mail_objects_run client.offer (at + 1) (drop (at + 1) client.mail_objects))) none

pub passes_turn : (client : Client) (from : ℕ) (old acts : List Act) (at : ℕ) (x : MailObject) → at < length client.mail_objects → x ≡ get_or client.mail_objects at x → sent_to client.offer x ≡ []
    → Passes client from old acts at → Passes client from old (acts ++ Settle at (merged (map (plan_of client.offer x) x.recipients) []) ∷ []) (at + 1)
passes_turn client from old acts at x lt is none passed = record {
  made = passed.made ++ Settle at (merged (map (plan_of client.offer x) x.recipients) []) ∷ [];
  new_is = ap (λ (l : List Act). l ++ Settle at (merged (map (plan_of client.offer x) x.recipients) []) ∷ []) passed.new_is
      ∙ append_assoc old passed.made (Settle at (merged (map (plan_of client.offer x) x.recipients) []) ∷ []);
  run = λ left. passed.run left ∙ ap (after_acts passed.made) (unsent_run client at x left lt is none)
      ∙ ap (λ (l : List Act). record { acts = l; end = (run_from (standing_of client) (at + 1) left).end })
      (sym (append_assoc passed.made (Settle at (merged (map (plan_of client.offer x) x.recipients) []) ∷ []) ((run_from (standing_of client) (at + 1) left).acts)));
  few = let here = sum_by-drop_more (λ (mail_object : MailObject). length mail_object.recipients + 3) client.mail_objects at x lt in omega (arith, here, passed.few);
}
