-- What a reply that ends a transaction, or asks for its data, comes to.
use Rattle.std.proofs.Common.{◌≡◌, ◌+◌, ◌<◌, List, [], ◌∷◌, true, false, map, None, Some, length, get_or, refl, ap, ◌∙◌}
use Rattle.relay_choice.specs.declared.replies.Reply.{Reply}
use Rattle.relay_choice.specs.declared.mail_objects.MailObject.{MailObject}
use Rattle.relay_choice.specs.declared.mail_objects.Outcome.{Outcome}
use Rattle.relay_choice.specs.declared.mail_objects.Act.TheVariants.{SayData}
use Rattle.relay_choice.specs.declared.states.Awaited.TheVariants.{Ehlo, Data, End, Reset}
use Rattle.relay_choice.specs.Offers.{is_completed, is_intermediate, is_permanent, offer_of}
use Rattle.relay_choice.specs.Relay.{after_act, after_acts, data_transaction, done, end_transaction, mail_objects_run, outcome_by, reset_transaction, settled, stopped}
use Rattle.relay_choice.specs.Standing.{ClientState, first_run, mail_object_run, rest_by, run_from}
use Rattle.relay_choice.proofs.TurnLemmas.{mail_object_acts, letter_first, same_run, stops_run}

-- a mail object that is done is settled, and then those after it come
pub mail_object_settled : (client : ClientState) (x : MailObject) (outcomes : List Outcome) (left : List Reply) → client.at < length client.mail_objects → x ≡ get_or client.mail_objects client.at x
    → mail_object_run client (λ mail_object. done [] outcomes left) ≡ after_acts (settled client.offer client.at x outcomes ∷ []) (run_from client (client.at + 1) left)
mail_object_settled client x outcomes left lt is = ap (first_run client (λ mail_object. done [] outcomes left)) (letter_first client.mail_objects client.at x lt is)

-- the reply to EHLO
pub offer_taken : (client : ClientState) (reply : Reply) (left : List Reply) → is_completed reply.code ≡ true
    → rest_by Ehlo client (reply ∷ left) ≡ mail_objects_run (offer_of reply) 0 client.mail_objects left
offer_taken client reply left completed = rw completed refl

pub offer_stops : (client : ClientState) (reply : Reply) (left : List Reply) → is_completed reply.code ≡ false
    → rest_by Ehlo client (reply ∷ left) ≡ record { acts = []; end = stopped reply }
offer_stops client reply left undone = rw undone refl

-- the reply to DATA
pub data_asked : (client : ClientState) (reply : Reply) (left : List Reply) → client.at < length client.mail_objects → is_intermediate reply.code ≡ true
    → rest_by Data client (reply ∷ left) ≡ after_acts (SayData client.at ∷ []) (rest_by End client left)
data_asked client reply left at asked = same_run client (λ mail_object. data_transaction client.at client.answers (reply ∷ left))
    (λ mail_object. after_act (SayData client.at) (end_transaction client.answers left)) (λ mail_object. rw asked refl)
    ∙ mail_object_acts client (SayData client.at) (λ mail_object. end_transaction client.answers left) at

pub data_refused : (client : ClientState) (reply : Reply) (left : List Reply) → is_intermediate reply.code ≡ false → is_permanent reply.code ≡ true
    → rest_by Data client (reply ∷ left) ≡ mail_object_run client (λ mail_object. done [] (map (outcome_by (Some reply.code)) client.answers) left)
data_refused client reply left unasked refused = same_run client (λ mail_object. data_transaction client.at client.answers (reply ∷ left))
    (λ mail_object. done [] (map (outcome_by (Some reply.code)) client.answers) left) (λ mail_object. rw (unasked, refused) refl)

pub data_stops : (client : ClientState) (reply : Reply) (left : List Reply) → client.at < length client.mail_objects → is_intermediate reply.code ≡ false → is_permanent reply.code ≡ false
    → rest_by Data client (reply ∷ left) ≡ record { acts = []; end = stopped reply }
data_stops client reply left at unasked unrefused = stops_run client (λ mail_object. data_transaction client.at client.answers (reply ∷ left)) reply at (λ mail_object. rw (unasked, unrefused) refl)

-- the reply to the end of the data
pub end_done : (client : ClientState) (reply : Reply) (left : List Reply) → is_completed reply.code ≡ true
    → rest_by End client (reply ∷ left) ≡ mail_object_run client (λ mail_object. done [] (map (outcome_by None) client.answers) left)
end_done client reply left completed = same_run client (λ mail_object. end_transaction client.answers (reply ∷ left))
    (λ mail_object. done [] (map (outcome_by None) client.answers) left) (λ mail_object. rw completed refl)

pub end_refused : (client : ClientState) (reply : Reply) (left : List Reply) → is_completed reply.code ≡ false → is_permanent reply.code ≡ true
    → rest_by End client (reply ∷ left) ≡ mail_object_run client (λ mail_object. done [] (map (outcome_by (Some reply.code)) client.answers) left)
end_refused client reply left undone refused = same_run client (λ mail_object. end_transaction client.answers (reply ∷ left))
    (λ mail_object. done [] (map (outcome_by (Some reply.code)) client.answers) left) (λ mail_object. rw (undone, refused) refl)

pub end_stops : (client : ClientState) (reply : Reply) (left : List Reply) → client.at < length client.mail_objects → is_completed reply.code ≡ false → is_permanent reply.code ≡ false
    → rest_by End client (reply ∷ left) ≡ record { acts = []; end = stopped reply }
end_stops client reply left at undone unrefused = stops_run client (λ mail_object. end_transaction client.answers (reply ∷ left)) reply at (λ mail_object. rw (undone, unrefused) refl)

-- the reply to RSET
pub reset_done : (client : ClientState) (reply : Reply) (left : List Reply) → is_completed reply.code ≡ true
    → rest_by Reset client (reply ∷ left) ≡ mail_object_run client (λ mail_object. done [] (map (outcome_by None) client.answers) left)
reset_done client reply left completed = same_run client (λ mail_object. reset_transaction (map (outcome_by None) client.answers) (reply ∷ left))
    (λ mail_object. done [] (map (outcome_by None) client.answers) left) (λ mail_object. rw completed refl)

pub reset_stops : (client : ClientState) (reply : Reply) (left : List Reply) → client.at < length client.mail_objects → is_completed reply.code ≡ false
    → rest_by Reset client (reply ∷ left) ≡ record { acts = []; end = stopped reply }
reset_stops client reply left at undone = stops_run client (λ mail_object. reset_transaction (map (outcome_by None) client.answers) (reply ∷ left)) reply at (λ mail_object. rw undone refl)
