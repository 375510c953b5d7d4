-- What a client does last.
use Rattle.std.proofs.Common.{◌≡◌, ℕ, ◌+◌, List, [], ◌∷◌, ◌++◌, Bool, true, false, if◌then◌else◌, map, None, Some, Result, Ok, Err, IfOk, drop, refl, ap, sym, subst, ◌∙◌}
use Rattle.std.proofs.lemmas.Bool.{true≢false}
use Rattle.std.proofs.lemmas.List.Elements.{All-nil, All-cons}
use Rattle.mail_wire.specs.declared.values.Memory.{Memory}
use Rattle.relay_choice.specs.declared.plans.Offer.{Offer}
use Rattle.relay_choice.specs.declared.replies.Reply.{Reply}
use Rattle.relay_choice.specs.declared.mail_objects.Recipient.{Recipient}
use Rattle.relay_choice.specs.declared.mail_objects.MailObject.{MailObject}
use Rattle.relay_choice.specs.declared.mail_objects.Outcome.{Outcome}
use Rattle.relay_choice.specs.declared.mail_objects.Act.{Act}
use Rattle.relay_choice.specs.declared.states.Awaited.{Awaited}
use Rattle.relay_choice.specs.declared.states.Awaited.TheVariants as awaited
use Rattle.relay_choice.specs.declared.states.Client.{Client}
use Rattle.relay_choice.specs.declared.client.Turn.{Turn}
use Rattle.relay_choice.specs.declared.client.Turn.TheVariants as turn
use Rattle.relay_choice.specs.Offers.{is_completed, is_intermediate, is_permanent, offer_of}
use Rattle.relay_choice.specs.Relay.{End, waits, stopped, Run, Transaction, done, ended, is_answer, is_some_accepted, outcome_by, sent_after, sent_to, settled}
use Rattle.relay_choice.specs.Relay.{transaction_to, followed, mail_object_transaction, mail_objects_run, mail_transaction, rcpt_transaction}
use Rattle.relay_choice.specs.Standing.{ClientState, ComesTo, LeavesBy, TakesLeave, IsSettle, transaction_at, first_run, rest_by, rest_of, standing_of}
use Rattle.relay_choice.proofs.SettlingLemmas.{is_finished}

-- where a run is finished, the last that it did was to take leave
abbrev pub LeavesAtEnd : Run → Type 0
LeavesAtEnd run = is_finished run.end ≡ true → TakesLeave run.acts

-- a run that isn't finished
unended : (acts : List Act) (end : End) → is_finished end ≡ false → LeavesAtEnd (record { acts = acts; end = end })
unended acts end isnt = λ is. absurd (true≢false (sym is ∙ isnt))

either_leaves : (b : Bool) (one other : Run) → LeavesAtEnd one → LeavesAtEnd other → LeavesAtEnd (if b then one else other)
either_leaves true one other leaves others = leaves
either_leaves false one other leaves others = others

-- ---- a transaction that no reply is left for

-- it does nothing more, or isn't over
abbrev pub IsShort : Transaction → Type 0
IsShort (done acts outcomes left) = (acts ≡ []) × (left ≡ [])
IsShort (ended acts end) = is_finished end ≡ false

either_short : (b : Bool) (one other : Transaction) → IsShort one → IsShort other → IsShort (if b then one else other)
either_short true one other short others = short
either_short false one other short others = others

rcpt_short : (offer : Offer) (number : ℕ) (recipients : List Recipient) (answers : List ℕ) → IsShort (rcpt_transaction offer number recipients answers [])
unfolding rcpt_transaction
rcpt_short offer number [] answers = either_short (is_some_accepted answers) _ _ refl refl
rcpt_short offer number (recipient ∷ recipients) answers = refl

refused_short : (answers : List ℕ) (reply : Reply) → IsShort (if is_permanent reply.code then done [] (map (outcome_by (Some reply.code)) answers) [] else ended [] (stopped reply))
refused_short answers reply = either_short (is_permanent reply.code) (done [] (map (outcome_by (Some reply.code)) answers) []) (ended [] (stopped reply)) (refl, refl) refl

mail_short : (offer : Offer) (number : ℕ) (sent : List Recipient) (reply : Reply) → IsShort (mail_transaction offer number sent (reply ∷ []))
mail_short offer number sent reply =
    either_short (is_completed reply.code) _ _ (rcpt_short offer number sent []) (either_short (is_permanent reply.code) _ (ended [] (stopped reply)) refl refl)

transaction_short : (client : ClientState) (awaited : Awaited) (mail_object : MailObject) (reply : Reply) → IsShort (transaction_at client awaited mail_object (reply ∷ []))
transaction_short client awaited.Greeting mail_object reply = refl
transaction_short client awaited.Ehlo mail_object reply = refl
transaction_short client awaited.Mail mail_object reply = mail_short client.offer client.at (sent_to client.offer mail_object) reply
transaction_short client (awaited.Rcpt following) mail_object reply =
    either_short (is_answer reply.code) (rcpt_transaction client.offer client.at (sent_after client.offer mail_object following) (client.answers ++ reply.code ∷ []) []) (ended [] (stopped reply))
    (rcpt_short client.offer client.at (sent_after client.offer mail_object following) (client.answers ++ reply.code ∷ [])) refl
transaction_short client awaited.Data mail_object reply = either_short (is_intermediate reply.code) _ _ refl (refused_short client.answers reply)
transaction_short client awaited.End mail_object reply =
    either_short (is_completed reply.code) (done [] (map (outcome_by None) client.answers) []) _ (refl, refl) (refused_short client.answers reply)
transaction_short client awaited.Reset mail_object reply =
    either_short (is_completed reply.code) (done [] (map (outcome_by None) client.answers) []) (ended [] (stopped reply)) (refl, refl) refl

to_short : (offer : Offer) (number : ℕ) (mail_object : MailObject) (sent : List Recipient) → IsShort (transaction_to offer number mail_object sent [])
to_short offer number mail_object [] = (refl, refl)
to_short offer number mail_object (recipient ∷ recipients) = refl

-- ---- a run

one_more : (offer : Offer) (number : ℕ) (mail_object : MailObject) (outcomes : List Outcome) (acts : List Act) → TakesLeave acts → TakesLeave (settled offer number mail_object outcomes ∷ acts)
one_more offer number mail_object outcomes acts leaves = record {
  settles = settled offer number mail_object outcomes ∷ leaves.settles;
  are = All-cons IsSettle (settled offer number mail_object outcomes) leaves.settles tt leaves.are;
  acts_are = ap (λ (l : List Act). settled offer number mail_object outcomes ∷ l) leaves.acts_are;
}

followed_leaves : (offer : Offer) (number : ℕ) (mail_object : MailObject) (next : List Reply → Run) (exchange : Transaction) → IsShort exchange → LeavesAtEnd (next [])
    → LeavesAtEnd (followed offer number mail_object exchange next)
followed_leaves offer number mail_object next (done acts outcomes left) short leaves =
    subst (λ (l : List Act). LeavesAtEnd (followed offer number mail_object (done l outcomes left) next)) (sym short.0)
    (subst (λ (l : List Reply). LeavesAtEnd (followed offer number mail_object (done [] outcomes l) next)) (sym short.1)
    (λ is. one_more offer number mail_object outcomes (next []).acts (leaves is)))
followed_leaves offer number mail_object next (ended acts end) short leaves = unended acts end short

mail_objects_leave : (offer : Offer) (number : ℕ) (mail_objects : List MailObject) → LeavesAtEnd (mail_objects_run offer number mail_objects [])
unfolding mail_objects_run
mail_objects_leave offer number [] = λ is. record { settles = []; are = All-nil IsSettle; acts_are = refl }
mail_objects_leave offer number (mail_object ∷ mail_objects) =
    followed_leaves offer number mail_object (mail_objects_run offer (number + 1) mail_objects) (mail_object_transaction offer number mail_object []) (to_short offer number mail_object (sent_to offer mail_object))
    (mail_objects_leave offer (number + 1) mail_objects)

first_leaves : (client : ClientState) (awaited : Awaited) (reply : Reply) (mail_objects : List MailObject) → LeavesAtEnd (first_run client (λ mail_object. transaction_at client awaited mail_object (reply ∷ [])) mail_objects)
first_leaves client awaited reply [] = unended [] waits refl
first_leaves client awaited reply (mail_object ∷ mail_objects) =
    followed_leaves client.offer client.at mail_object (mail_objects_run client.offer (client.at + 1) mail_objects) (transaction_at client awaited mail_object (reply ∷ [])) (transaction_short client awaited mail_object reply)
    (mail_objects_leave client.offer (client.at + 1) mail_objects)

-- one reply more
rest_leaves : (awaited : Awaited) (client : ClientState) (reply : Reply) → LeavesAtEnd (rest_by awaited client (reply ∷ []))
rest_leaves awaited.Greeting client reply = either_leaves (is_completed reply.code) _ (record { acts = []; end = stopped reply }) (unended _ waits refl) (unended [] (stopped reply) refl)
rest_leaves awaited.Ehlo client reply =
    either_leaves (is_completed reply.code) (mail_objects_run (offer_of reply) 0 client.mail_objects []) (record { acts = []; end = stopped reply }) (mail_objects_leave (offer_of reply) 0 client.mail_objects)
    (unended [] (stopped reply) refl)
rest_leaves awaited.Mail client reply = first_leaves client awaited.Mail reply (drop client.at client.mail_objects)
rest_leaves (awaited.Rcpt following) client reply = first_leaves client (awaited.Rcpt following) reply (drop client.at client.mail_objects)
rest_leaves awaited.Data client reply = first_leaves client awaited.Data reply (drop client.at client.mail_objects)
rest_leaves awaited.End client reply = first_leaves client awaited.End reply (drop client.at client.mail_objects)
rest_leaves awaited.Reset client reply = first_leaves client awaited.Reset reply (drop client.at client.mail_objects)

-- a turn that ends the run takes leave
pub leaves_by : (client : Client) (reply : Reply) (advance : Result Turn Memory) → IfOk advance (ComesTo reply (λ left. rest_of client (reply ∷ left))) → IfOk advance LeavesBy
leaves_by client reply (Ok (turn.Goes next acts)) comes = tt
leaves_by client reply (Ok (turn.Ends acts)) comes =
    subst TakesLeave (ap (λ (run : Run). run.acts) (comes [])) (rest_leaves client.awaited (standing_of client) reply (ap (λ (run : Run). is_finished run.end) (comes [])))
leaves_by client reply (Ok turn.Stops) comes = tt
leaves_by client reply (Err fault) comes = comes

-- ---- a client that waits

first_waits : (client : ClientState) (mail_objects : List MailObject) → first_run client (λ mail_object. ended [] waits) mail_objects ≡ record { acts = []; end = waits }
first_waits client [] = refl
first_waits client (mail_object ∷ mail_objects) = refl

waits_by : (awaited : Awaited) (client : ClientState) → rest_by awaited client [] ≡ record { acts = []; end = waits }
waits_by awaited.Greeting client = refl
waits_by awaited.Ehlo client = refl
waits_by awaited.Mail client = first_waits client (drop client.at client.mail_objects)
waits_by (awaited.Rcpt following) client = first_waits client (drop client.at client.mail_objects)
waits_by awaited.Data client = first_waits client (drop client.at client.mail_objects)
waits_by awaited.End client = first_waits client (drop client.at client.mail_objects)
waits_by awaited.Reset client = first_waits client (drop client.at client.mail_objects)

pub client_waits : (client : Client) → rest_of client [] ≡ record { acts = []; end = waits }
client_waits client = waits_by client.awaited (standing_of client)
