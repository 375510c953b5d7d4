-- What a client does over all replies of a next server (RFC 5321, 3.1, 3.3, 4.1.4 and 4.3.2). When a recipient is given up is this project's choice.
use Rattle.std.specs.Prelude.{ℕ, ◌+◌, ◌-◌, List, [], ◌∷◌, ◌++◌, Bool, true, false, ◌||◌, not, if◌then◌else◌, Option, None, Some, length, map, filter, drop, slice_get}
use Rattle.std.specs.Option.{option_map_or}
use Rattle.std.specs.List.{flat_map, list_any, sum_by}
use Rattle.relay_choice.specs.declared.plans.Offer.{Offer}
use Rattle.relay_choice.specs.declared.plans.Plan.{Plan}
use Rattle.relay_choice.specs.declared.plans.Plan.TheVariants as plan
use Rattle.relay_choice.specs.declared.replies.Reply.{Reply}
use Rattle.relay_choice.specs.declared.mail_objects.Recipient.{Recipient}
use Rattle.relay_choice.specs.declared.mail_objects.MailObject.{MailObject}
use Rattle.relay_choice.specs.declared.mail_objects.Outcome.{Outcome}
use Rattle.relay_choice.specs.declared.mail_objects.Outcome.TheVariants as outcome
use Rattle.relay_choice.specs.declared.mail_objects.Act.{Act}
use Rattle.relay_choice.specs.declared.mail_objects.Act.TheVariants as act
use Rattle.relay_choice.specs.Plans.{plan_for, is_sent}
use Rattle.relay_choice.specs.Offers.{is_completed, is_intermediate, is_permanent, offer_of}
use Rattle.relay_choice.specs.Said.{ehlo_line, mail_line, rcpt_line, data_line, reset_line, quit_line, data_text}

-- how a run ends over these replies
pub data End : Type 0 where
  -- all mail objects are settled, and the client has said QUIT, the reply to which it doesn't await
  finished : End
  -- a further reply is awaited
  waits : End
  -- this reply stops it: nothing more is said, and no mail object settled
  stopped : (reply : Reply) → End

-- What a client does, in order, and how that ends.
pub record Run : Type 0 where
  pub acts : List Act
  pub end : End

-- What comes of a run, with these acts before its acts.
abbrev pub after_acts : List Act → Run → Run
after_acts acts run = record { acts = acts ++ run.acts; end = run.end }

-- ---- what comes of a mail object

-- Whether and how a mail object is sent to a recipient, by what it needs and what the server offers.
abbrev pub plan_of : Offer → MailObject → Recipient → Plan
plan_of offer mail_object recipient = plan_for mail_object.demands recipient.form offer

-- the recipients to whom the mail object is sent, from this place on
abbrev pub sent_after : Offer → MailObject → (from : ℕ) → List Recipient
sent_after offer mail_object from = filter (λ recipient. is_sent (plan_of offer mail_object recipient)) (drop from mail_object.recipients)

-- The recipients to whom the mail object is sent.
abbrev pub sent_to : Offer → MailObject → List Recipient
sent_to offer mail_object = sent_after offer mail_object 0

-- What comes of each recipient, of whom those to whom the mail object is sent have these outcomes, in order.
unfoldable pub merged : (plans : List Plan) (outcomes : List Outcome) → List Outcome
merged [] outcomes = []
merged (plan.Report5 detail ∷ plans) outcomes = outcome.Refused detail None ∷ merged plans outcomes
merged (plan.Send ∷ plans) [] = merged plans []
merged (plan.Send ∷ plans) (one ∷ outcomes) = one ∷ merged plans outcomes
merged (plan.SendNormal ∷ plans) [] = merged plans []
merged (plan.SendNormal ∷ plans) (one ∷ outcomes) = one ∷ merged plans outcomes

-- The recipients of a mail object are settled: those to whom it isn't sent are refused, the others have these outcomes.
abbrev pub settled : Offer → (number : ℕ) → MailObject → (outcomes : List Outcome) → Act
settled offer number mail_object outcomes = act.Settle number (merged (map (plan_of offer mail_object) mail_object.recipients) outcomes)

-- ---- answers to RCPT

-- Whoever was refused by his own answer stays so. The others were sent the mail object, or all of them are refused by one reply, which has this code.
abbrev pub outcome_by : Option ℕ → (answer : ℕ) → Outcome
outcome_by None answer = if is_permanent answer then outcome.Refused 0 (Some answer) else outcome.Sent
outcome_by (Some code) answer = if is_permanent answer then outcome.Refused 0 (Some answer) else outcome.Refused 0 (Some code)

-- a recipient was accepted
abbrev pub is_some_accepted : (answers : List ℕ) → Bool
is_some_accepted answers = list_any (λ answer. not (is_permanent answer)) answers

-- ---- one mail transaction (RFC 5321, 3.3)

-- what comes of a transaction over the replies that come from its beginning on
pub data Transaction : Type 0 where
  -- it is done, with these outcomes of those to whom the mail object is sent; these replies are left
  done : (acts : List Act) (outcomes : List Outcome) (left : List Reply) → Transaction
  -- the run ends within it
  ended : (acts : List Act) (end : End) → Transaction

-- What comes of a transaction, with an act before its acts.
abbrev pub after_act : Act → Transaction → Transaction
after_act first (done acts outcomes left) = done (first ∷ acts) outcomes left
after_act first (ended acts end) = ended (first ∷ acts) end

-- What comes of a transaction, with these octets sent first.
abbrev pub says : List ℕ → Transaction → Transaction
says octets exchange = after_act (act.Say octets) exchange

-- the reply to RSET: it must be class 2
abbrev pub reset_transaction : List Outcome → List Reply → Transaction
reset_transaction outcomes [] = ended [] waits
reset_transaction outcomes (reply ∷ left) = if is_completed reply.code then done [] outcomes left else ended [] (stopped reply)

-- the reply to the end of the data
abbrev pub end_transaction : (answers : List ℕ) → List Reply → Transaction
end_transaction answers [] = ended [] waits
end_transaction answers (reply ∷ left) =
    if is_completed reply.code then done [] (map (outcome_by None) answers) left
    else (if is_permanent reply.code then done [] (map (outcome_by (Some reply.code)) answers) left else ended [] (stopped reply))

-- the reply to DATA, which asks for them by class 3
abbrev pub data_transaction : (number : ℕ) (answers : List ℕ) → List Reply → Transaction
data_transaction number answers [] = ended [] waits
data_transaction number answers (reply ∷ left) =
    if is_intermediate reply.code then after_act (act.SayData number) (end_transaction answers left)
    else (if is_permanent reply.code then done [] (map (outcome_by (Some reply.code)) answers) left else ended [] (stopped reply))

-- All recipients have answers: the data go to those who were accepted, and without one the transaction is reset.
abbrev pub answered_transaction : (number : ℕ) (answers : List ℕ) → List Reply → Transaction
answered_transaction number answers replies =
    if is_some_accepted answers then says data_line (data_transaction number answers replies)
    else says reset_line (reset_transaction (map (outcome_by None) answers) replies)

-- an answer to RCPT is class 2 or 5
abbrev pub is_answer : (code : ℕ) → Bool
is_answer code = is_completed code || is_permanent code

-- the reply to RCPT, after these answers, and what follows
abbrev pub answer_transaction : (List ℕ → List Reply → Transaction) → (answers : List ℕ) → List Reply → Transaction
answer_transaction next answers [] = ended [] waits
answer_transaction next answers (reply ∷ left) = if is_answer reply.code then next (answers ++ reply.code ∷ []) left else ended [] (stopped reply)

-- RCPT for each of these recipients, after those with these answers
unfoldable pub rcpt_transaction : Offer → (number : ℕ) (recipients : List Recipient) (answers : List ℕ) → List Reply → Transaction
rcpt_transaction offer number [] answers replies = answered_transaction number answers replies
rcpt_transaction offer number (recipient ∷ recipients) answers replies =
    says (rcpt_line offer recipient) (answer_transaction (rcpt_transaction offer number recipients) answers replies)

-- the reply to MAIL: where it is refused for good, so are all recipients
abbrev pub mail_transaction : Offer → (number : ℕ) (sent : List Recipient) → List Reply → Transaction
mail_transaction offer number sent [] = ended [] waits
mail_transaction offer number sent (reply ∷ left) =
    if is_completed reply.code then rcpt_transaction offer number sent [] left
    else (if is_permanent reply.code then says reset_line (reset_transaction (map (λ (recipient : Recipient). outcome.Refused 0 (Some reply.code)) sent) left)
    else ended [] (stopped reply))

-- A mail object that is sent to nobody has no transaction.
abbrev pub transaction_to : Offer → (number : ℕ) → MailObject → (sent : List Recipient) → List Reply → Transaction
transaction_to offer number mail_object [] replies = done [] [] replies
transaction_to offer number mail_object (recipient ∷ recipients) replies =
    says (mail_line offer mail_object (recipient ∷ recipients)) (mail_transaction offer number (recipient ∷ recipients) replies)

-- What comes of a mail object over these replies.
abbrev pub mail_object_transaction : Offer → (number : ℕ) → MailObject → List Reply → Transaction
mail_object_transaction offer number mail_object replies = transaction_to offer number mail_object (sent_to offer mail_object) replies

-- ---- all mail objects

-- A mail object that is done is settled, and then the run goes on so.
abbrev pub followed : Offer → (number : ℕ) → MailObject → Transaction → (List Reply → Run) → Run
followed offer number mail_object (done acts outcomes left) next = after_acts (acts ++ settled offer number mail_object outcomes ∷ []) (next left)
followed offer number mail_object (ended acts end) next = record { acts = acts; end = end }

-- the mail objects in order, the first of which has this number, and QUIT after them
unfoldable pub mail_objects_run : Offer → (number : ℕ) → List MailObject → List Reply → Run
mail_objects_run offer number [] replies = record { acts = act.Say quit_line ∷ []; end = finished }
mail_objects_run offer number (mail_object ∷ mail_objects) replies =
    followed offer number mail_object (mail_object_transaction offer number mail_object replies) (mail_objects_run offer (number + 1) mail_objects)

-- the reply to EHLO; there is no other greeting for a server that doesn't know it
abbrev pub ehlo_run : List MailObject → List Reply → Run
ehlo_run mail_objects [] = record { acts = []; end = waits }
ehlo_run mail_objects (reply ∷ left) = if is_completed reply.code then mail_objects_run (offer_of reply) 0 mail_objects left else record { acts = []; end = stopped reply }

-- What a client of this name does with these mail objects, over all replies of the server that it was connected to. The first one is its greeting.
abbrev pub relay_of : (name : List ℕ) → List MailObject → List Reply → Run
relay_of name mail_objects [] = record { acts = []; end = waits }
relay_of name mail_objects (reply ∷ left) =
    if is_completed reply.code then after_acts (act.Say (ehlo_line name) ∷ []) (ehlo_run mail_objects left) else record { acts = []; end = stopped reply }

-- ---- what it comes to

-- the octets of an act, where these are the messages of the mail objects
abbrev pub act_octets : (messages : List (List ℕ)) → Act → List ℕ
act_octets messages (act.Say octets) = octets
act_octets messages (act.SayData number) = option_map_or data_text (slice_get messages number) []
act_octets messages (act.Settle number outcomes) = []

-- The octets that these acts send.
abbrev pub sent_octets : (messages : List (List ℕ)) → List Act → List ℕ
sent_octets messages acts = flat_map (act_octets messages) acts

-- The server took the message for this recipient.
abbrev pub is_sent_outcome : Outcome → Bool
is_sent_outcome outcome.Sent = true
is_sent_outcome (outcome.Refused detail code) = false

-- the outcomes that an act tells
abbrev pub outcomes_in : Act → List Outcome
outcomes_in (act.Say octets) = []
outcomes_in (act.SayData number) = []
outcomes_in (act.Settle number outcomes) = outcomes

-- how many recipients the mail objects were sent to
abbrev pub sent_count : List Act → ℕ
sent_count acts = length (filter is_sent_outcome (flat_map outcomes_in acts))

-- How many recipients of the mail objects aren't settled.
abbrev pub left_count : List MailObject → List Act → ℕ
left_count mail_objects acts = sum_by (λ (mail_object : MailObject). length mail_object.recipients) mail_objects - length (flat_map outcomes_in acts)
