-- Turns in which something is said.
use Rattle.std.proofs.Common.{◌≡◌, ℕ, ◌+◌, ◌<◌, List, [], ◌∷◌, ◌++◌, length, drop, get_or, refl, ap, sym, subst, ◌∙◌, arith}
use Rattle.std.proofs.Common.{Bool, true, false, if◌then◌else◌, map, None, Some, Result, Ok, Err, IfOk}
use Rattle.mail_wire.specs.declared.values.Memory.{Memory}
use Rattle.std.proofs.lemmas.List.{length-drop, at_drop_more}
use Rattle.relay_choice.specs.declared.plans.Offer.{Offer}
use Rattle.relay_choice.specs.declared.replies.Reply.{Reply}
use Rattle.relay_choice.specs.declared.mail_objects.MailObject.{MailObject}
use Rattle.relay_choice.specs.declared.mail_objects.Act.{Act}
use Rattle.relay_choice.specs.declared.mail_objects.Act.TheVariants as act
use Rattle.relay_choice.specs.declared.states.Awaited.{Awaited}
use Rattle.relay_choice.specs.declared.client.Turn.{Turn}
use Rattle.relay_choice.specs.declared.client.Turn.TheVariants as turn
use Rattle.relay_choice.specs.Relay.{Run, Transaction, done, ended, stopped, is_answer, mail_transaction, sent_to, after_acts, after_act}
use Rattle.relay_choice.specs.Relay.{says, followed, mail_objects_run, answered_transaction, is_some_accepted, data_transaction, reset_transaction, answer_transaction, rcpt_transaction, outcome_by, sent_after}
use Rattle.relay_choice.specs.Said.{data_line, reset_line, rcpt_line}
use Rattle.relay_choice.specs.declared.mail_objects.Recipient.{Recipient}
use Rattle.relay_choice.specs.declared.states.Awaited.TheVariants.{Mail, Rcpt}
use Rattle.relay_choice.specs.declared.mail_objects.Outcome.{Outcome}
use Rattle.relay_choice.specs.declared.mail_objects.Outcome.TheVariants as outcome
use Rattle.relay_choice.specs.Offers.{is_completed, is_permanent}
use Rattle.relay_choice.specs.private.Asking.{AsksFor}
use Rattle.relay_choice.specs.MailObjects.{HasTextDomain, IsAddressed}
use Rattle.std.specs.List.{All}
use Rattle.std.proofs.lemmas.Option.{get_or_from_slice_get}
use Rattle.relay_choice.specs.Standing.{ComesTo, RunsOn, ClientState, first_run, mail_object_run, rest_by}
use Rattle.relay_choice.specs.private.Turns.{SaysOnly, awaiting}

-- an act before a transaction comes before the run
pub after_followed : (client : ClientState) (mail_object : MailObject) (first : Act) (exchange : Transaction) (next : List Reply → Run)
    → followed client.offer client.at mail_object (after_act first exchange) next ≡ after_acts (first ∷ []) (followed client.offer client.at mail_object exchange next)
after_followed client mail_object first (done acts outcomes left) next = refl
after_followed client mail_object first (ended acts end) next = refl

first_acts : (client : ClientState) (first : Act) (exchange : MailObject → Transaction) (mail_objects : List MailObject) → 0 < length mail_objects
    → first_run client (λ mail_object. after_act first (exchange mail_object)) mail_objects ≡ after_acts (first ∷ []) (first_run client exchange mail_objects)
first_acts client first exchange [] some = absurd (omega arith)
first_acts client first exchange (mail_object ∷ mail_objects) some = after_followed client mail_object first (exchange mail_object) (mail_objects_run client.offer (client.at + 1) mail_objects)

-- what a transaction begins with, the run does
pub mail_object_acts : (client : ClientState) (first : Act) (exchange : MailObject → Transaction) → client.at < length client.mail_objects
    → mail_object_run client (λ mail_object. after_act first (exchange mail_object)) ≡ after_acts (first ∷ []) (mail_object_run client exchange)
mail_object_acts client first exchange at =
    let left = length-drop client.at client.mail_objects in
    first_acts client first exchange (drop client.at client.mail_objects) (omega (arith, left))

pub mail_object_says : (client : ClientState) (octets : List ℕ) (exchange : MailObject → Transaction) → client.at < length client.mail_objects
    → mail_object_run client (λ mail_object. says octets (exchange mail_object)) ≡ after_acts (act.Say octets ∷ []) (mail_object_run client exchange)
mail_object_says client octets exchange at = mail_object_acts client (act.Say octets) exchange at

-- a turn that says this, where the run does so and then goes on by what is awaited
pub runs_on : (client : ClientState) (octets : List ℕ) (awaited : Awaited) (run : List Reply → Run) (advance : Turn) → SaysOnly client octets awaited advance
    → ((left : List Reply) → run left ≡ after_acts (act.Say octets ∷ []) (rest_by awaited (awaiting client awaited) left)) → RunsOn run advance
runs_on client octets awaited run (turn.Goes next acts) said goes = λ left. goes left ∙ sym (rw said.0 (ap (λ (s : ClientState). after_acts (act.Say octets ∷ []) (rest_by s.awaited s left)) said.1))
runs_on client octets awaited run (turn.Ends acts) said goes = absurd said
runs_on client octets awaited run turn.Stops said goes = absurd said

pub runs_on_ok : (client : ClientState) (octets : List ℕ) (awaited : Awaited) (run : List Reply → Run) (advance : Result Turn Memory) → IfOk advance (SaysOnly client octets awaited)
    → ((left : List Reply) → run left ≡ after_acts (act.Say octets ∷ []) (rest_by awaited (awaiting client awaited) left)) → IfOk advance (RunsOn run)
runs_on_ok client octets awaited run (Ok advance) said goes = runs_on client octets awaited run advance said goes
runs_on_ok client octets awaited run (Err fault) said goes = said

-- where all recipients have answers, and one is accepted or none
pub answered_data : (client : ClientState) → client.at < length client.mail_objects → is_some_accepted client.answers ≡ true → (left : List Reply)
    → mail_object_run client (λ mail_object. answered_transaction client.at client.answers left) ≡ after_acts (act.Say data_line ∷ []) (mail_object_run client (λ mail_object. data_transaction client.at client.answers left))
answered_data client at some left =
    ap (λ (b : Bool). mail_object_run client (λ mail_object. if b then says data_line (data_transaction client.at client.answers left) else says reset_line (reset_transaction (map (outcome_by None) client.answers) left))) some
    ∙ mail_object_says client data_line (λ mail_object. data_transaction client.at client.answers left) at

pub answered_reset : (client : ClientState) → client.at < length client.mail_objects → is_some_accepted client.answers ≡ false → (left : List Reply)
    → mail_object_run client (λ mail_object. answered_transaction client.at client.answers left) ≡ after_acts (act.Say reset_line ∷ []) (mail_object_run client (λ mail_object. reset_transaction (map (outcome_by None) client.answers) left))
answered_reset client at none left =
    ap (λ (b : Bool). mail_object_run client (λ mail_object. if b then says data_line (data_transaction client.at client.answers left) else says reset_line (reset_transaction (map (outcome_by None) client.answers) left))) none
    ∙ mail_object_says client reset_line (λ mail_object. reset_transaction (map (outcome_by None) client.answers) left) at

-- what stands at a place comes first after it
pub letter_first : (mail_objects : List MailObject) (at : ℕ) (x : MailObject) → at < length mail_objects → x ≡ get_or mail_objects at x → drop at mail_objects ≡ x ∷ drop (at + 1) mail_objects
letter_first mail_objects at x lt is = at_drop_more (λ (l : List MailObject). l) mail_objects at x lt ∙ ap (λ (y : MailObject). y ∷ drop (at + 1) mail_objects) (sym is)

-- only the transaction of the mail object that a client is at counts
pub mail_object_at : (client : ClientState) (x : MailObject) → client.at < length client.mail_objects → x ≡ get_or client.mail_objects client.at x
    → (exchange other : MailObject → Transaction) → exchange x ≡ other x → mail_object_run client exchange ≡ mail_object_run client other
mail_object_at client x lt is exchange other same =
    let here = letter_first client.mail_objects client.at x lt is in
    ap (first_run client exchange) here
    ∙ ap (λ (t : Transaction). followed client.offer client.at x t (mail_objects_run client.offer (client.at + 1) (drop (client.at + 1) client.mail_objects))) same
    ∙ sym (ap (first_run client other) here)

-- the same run, told otherwise
pub runs_as : (run other : List Reply → Run) (advance : Result Turn Memory) → ((left : List Reply) → run left ≡ other left) → IfOk advance (RunsOn other) → IfOk advance (RunsOn run)
runs_as run other (Ok (turn.Goes next acts)) same goes = λ left. same left ∙ goes left
runs_as run other (Ok (turn.Ends acts)) same goes = λ left. same left ∙ goes left
runs_as run other (Ok turn.Stops) same goes = goes
runs_as run other (Err fault) same goes = goes

asked_by : (offer : Offer) (number : ℕ) (recipients others : List Recipient) (answers : List ℕ) (left : List Reply) (x : Recipient) → recipients ≡ x ∷ others
    → rcpt_transaction offer number recipients answers left ≡ says (rcpt_line offer x) (answer_transaction (rcpt_transaction offer number others) answers left)
unfolding rcpt_transaction
asked_by offer number recipients others answers left x is = ap (λ (l : List Recipient). rcpt_transaction offer number l answers left) is

answered_by : (offer : Offer) (number : ℕ) (recipients : List Recipient) (answers : List ℕ) (left : List Reply) → recipients ≡ []
    → rcpt_transaction offer number recipients answers left ≡ answered_transaction number answers left
unfolding rcpt_transaction
answered_by offer number recipients answers left is = ap (λ (l : List Recipient). rcpt_transaction offer number l answers left) is

-- no recipient is left to be asked for
pub asked_all : (client : ClientState) (x : MailObject) (from : ℕ) → client.at < length client.mail_objects → x ≡ get_or client.mail_objects client.at x → sent_after client.offer x from ≡ [] → (left : List Reply)
    → mail_object_run client (λ mail_object. rcpt_transaction client.offer client.at (sent_after client.offer mail_object from) client.answers left)
    ≡ mail_object_run client (λ mail_object. answered_transaction client.at client.answers left)
asked_all client x from lt is none left = mail_object_at client x lt is
    (λ mail_object. rcpt_transaction client.offer client.at (sent_after client.offer mail_object from) client.answers left) (λ mail_object. answered_transaction client.at client.answers left)
    (answered_by client.offer client.at (sent_after client.offer x from) client.answers left none)

-- a next one is
pub asked_next : (client : ClientState) (x : MailObject) (from place : ℕ) (recipient : Recipient) → client.at < length client.mail_objects → x ≡ get_or client.mail_objects client.at x
    → sent_after client.offer x from ≡ recipient ∷ sent_after client.offer x (place + 1) → (left : List Reply)
    → mail_object_run client (λ mail_object. rcpt_transaction client.offer client.at (sent_after client.offer mail_object from) client.answers left)
    ≡ after_acts (act.Say (rcpt_line client.offer recipient) ∷ []) (mail_object_run client (λ mail_object. answer_transaction (rcpt_transaction client.offer client.at (sent_after client.offer mail_object (place + 1))) client.answers left))
asked_next client x from place recipient lt is some left = mail_object_at client x lt is
    (λ mail_object. rcpt_transaction client.offer client.at (sent_after client.offer mail_object from) client.answers left)
    (λ mail_object. says (rcpt_line client.offer recipient) (answer_transaction (rcpt_transaction client.offer client.at (sent_after client.offer mail_object (place + 1))) client.answers left))
    (asked_by client.offer client.at (sent_after client.offer x from) (sent_after client.offer x (place + 1)) client.answers left recipient some)
    ∙ mail_object_says client (rcpt_line client.offer recipient) (λ mail_object. answer_transaction (rcpt_transaction client.offer client.at (sent_after client.offer mail_object (place + 1))) client.answers left) lt

-- the same by the place of that recipient
pub asked_for : (client : ClientState) (x : MailObject) (from place : ℕ) (recipient : Recipient) → client.at < length client.mail_objects → x ≡ get_or client.mail_objects client.at x
    → AsksFor client.offer x from place → recipient ≡ get_or x.recipients place recipient → (left : List Reply)
    → mail_object_run client (λ mail_object. rcpt_transaction client.offer client.at (sent_after client.offer mail_object from) client.answers left)
    ≡ after_acts (act.Say (rcpt_line client.offer recipient) ∷ []) (mail_object_run client (λ mail_object. answer_transaction (rcpt_transaction client.offer client.at (sent_after client.offer mail_object (place + 1))) client.answers left))
asked_for client x from place recipient lt is asks here left =
    let same : recipient ≡ asks.recipient = here ∙ get_or_from_slice_get x.recipients place asks.recipient recipient asks.there in
    asked_next client x from place recipient lt is (asks.first ∙ ap (λ (y : Recipient). y ∷ sent_after client.offer x (place + 1)) (sym same)) left

-- the domain of a mail object's recipient is text
pub text_at : (mail_objects : List MailObject) (at place : ℕ) (x : MailObject) (recipient : Recipient) → All IsAddressed mail_objects → at < length mail_objects → x ≡ get_or mail_objects at x
    → place < length x.recipients → recipient ≡ get_or x.recipients place recipient → HasTextDomain recipient.address
text_at mail_objects at place x recipient all lt is within here =
    let mail_object : IsAddressed x = subst IsAddressed (sym is) (all at x lt) in
    subst (λ (r : Recipient). HasTextDomain r.address) (sym here) (mail_object.recipients place recipient within).text

first_same : (client : ClientState) (exchange other : MailObject → Transaction) → ((mail_object : MailObject) → exchange mail_object ≡ other mail_object) → (mail_objects : List MailObject)
    → first_run client exchange mail_objects ≡ first_run client other mail_objects
first_same client exchange other same [] = refl
first_same client exchange other same (mail_object ∷ mail_objects) =
    ap (λ (t : Transaction). followed client.offer client.at mail_object t (mail_objects_run client.offer (client.at + 1) mail_objects)) (same mail_object)

-- transactions that are the same for each mail object
pub same_run : (client : ClientState) (exchange other : MailObject → Transaction) → ((mail_object : MailObject) → exchange mail_object ≡ other mail_object) → mail_object_run client exchange ≡ mail_object_run client other
same_run client exchange other same = first_same client exchange other same (drop client.at client.mail_objects)

first_stops : (client : ClientState) (reply : Reply) (mail_objects : List MailObject) → 0 < length mail_objects
    → first_run client (λ mail_object. ended [] (stopped reply)) mail_objects ≡ record { acts = []; end = stopped reply }
first_stops client reply [] some = absurd (omega arith)
first_stops client reply (mail_object ∷ mail_objects) some = refl

-- a reply that stops a transaction stops the run
pub stops_run : (client : ClientState) (exchange : MailObject → Transaction) (reply : Reply) → client.at < length client.mail_objects → ((mail_object : MailObject) → exchange mail_object ≡ ended [] (stopped reply))
    → mail_object_run client exchange ≡ record { acts = []; end = stopped reply }
stops_run client exchange reply at stops =
    let left = length-drop client.at client.mail_objects in
    same_run client exchange (λ mail_object. ended [] (stopped reply)) stops ∙ first_stops client reply (drop client.at client.mail_objects) (omega (arith, left))

-- what a client does for a reply that doesn't stop it
pub comes_as : (reply : Reply) (run other : List Reply → Run) (advance : Result Turn Memory) → ((left : List Reply) → run left ≡ other left) → IfOk advance (RunsOn other) → IfOk advance (ComesTo reply run)
comes_as reply run other (Ok (turn.Goes next acts)) same goes = λ left. same left ∙ goes left
comes_as reply run other (Ok (turn.Ends acts)) same goes = λ left. same left ∙ goes left
comes_as reply run other (Ok turn.Stops) same goes = absurd goes
comes_as reply run other (Err fault) same goes = goes

-- the reply to RCPT
pub answer_stops : (client : ClientState) (following : ℕ) (reply : Reply) (left : List Reply) → client.at < length client.mail_objects → is_answer reply.code ≡ false
    → rest_by (Rcpt following) client (reply ∷ left) ≡ record { acts = []; end = stopped reply }
answer_stops client following reply left at none = stops_run client
    (λ mail_object. answer_transaction (rcpt_transaction client.offer client.at (sent_after client.offer mail_object following)) client.answers (reply ∷ left)) reply at
    (λ mail_object. rw none refl)

pub answer_taken : (client : ClientState) (following : ℕ) (reply : Reply) (left : List Reply) → is_answer reply.code ≡ true
    → rest_by (Rcpt following) client (reply ∷ left)
    ≡ mail_object_run client (λ mail_object. rcpt_transaction client.offer client.at (sent_after client.offer mail_object following) (client.answers ++ reply.code ∷ []) left)
answer_taken client following reply left some = same_run client
    (λ mail_object. answer_transaction (rcpt_transaction client.offer client.at (sent_after client.offer mail_object following)) client.answers (reply ∷ left))
    (λ mail_object. rcpt_transaction client.offer client.at (sent_after client.offer mail_object following) (client.answers ++ reply.code ∷ []) left)
    (λ mail_object. rw some refl)

-- the reply to MAIL
pub mail_done : (client : ClientState) (reply : Reply) (left : List Reply) → is_completed reply.code ≡ true
    → rest_by Mail client (reply ∷ left) ≡ mail_object_run client (λ mail_object. rcpt_transaction client.offer client.at (sent_after client.offer mail_object 0) [] left)
mail_done client reply left completed = same_run client (λ mail_object. mail_transaction client.offer client.at (sent_to client.offer mail_object) (reply ∷ left))
    (λ mail_object. rcpt_transaction client.offer client.at (sent_after client.offer mail_object 0) [] left) (λ mail_object. rw completed refl)

pub mail_stops : (client : ClientState) (reply : Reply) (left : List Reply) → client.at < length client.mail_objects → is_completed reply.code ≡ false → is_permanent reply.code ≡ false
    → rest_by Mail client (reply ∷ left) ≡ record { acts = []; end = stopped reply }
mail_stops client reply left at undone unrefused = stops_run client (λ mail_object. mail_transaction client.offer client.at (sent_to client.offer mail_object) (reply ∷ left)) reply at
    (λ mail_object. rw (undone, unrefused) refl)

same_refusals : (code : ℕ) (recipients : List Recipient) → is_permanent code ≡ true
    → map (λ (recipient : Recipient). outcome.Refused 0 (Some code)) recipients ≡ map (outcome_by None) (map (λ (recipient : Recipient). code) recipients)
same_refusals code [] is = refl
same_refusals code (x ∷ recipients) is = rw is (ap (λ (l : List Outcome). outcome.Refused 0 (Some code) ∷ l) (same_refusals code recipients is))

pub mail_refused : (client : ClientState) (x : MailObject) (reply : Reply) (left : List Reply) → client.at < length client.mail_objects → x ≡ get_or client.mail_objects client.at x
    → is_completed reply.code ≡ false → is_permanent reply.code ≡ true
    → rest_by Mail client (reply ∷ left) ≡ after_acts (act.Say reset_line ∷ [])
    (mail_object_run client (λ mail_object. reset_transaction (map (outcome_by None) (map (λ (recipient : Recipient). reply.code) (sent_to client.offer x))) left))
mail_refused client x reply left lt is undone refused =
    mail_object_at client x lt is (λ mail_object. mail_transaction client.offer client.at (sent_to client.offer mail_object) (reply ∷ left))
    (λ mail_object. says reset_line (reset_transaction (map (outcome_by None) (map (λ (recipient : Recipient). reply.code) (sent_to client.offer x))) left))
    (rw (undone, refused) (ap (λ (l : List Outcome). says reset_line (reset_transaction l left)) (same_refusals reply.code (sent_to client.offer x) refused)))
    ∙ mail_object_says client reset_line (λ mail_object. reset_transaction (map (outcome_by None) (map (λ (recipient : Recipient). reply.code) (sent_to client.offer x))) left) lt

-- what is said for a reply that doesn't stop the run
pub comes_ok : (client : ClientState) (reply : Reply) (octets : List ℕ) (awaited : Awaited) (run : List Reply → Run) (advance : Result Turn Memory) → IfOk advance (SaysOnly client octets awaited)
    → ((left : List Reply) → run left ≡ after_acts (act.Say octets ∷ []) (rest_by awaited (awaiting client awaited) left)) → IfOk advance (ComesTo reply run)
comes_ok client reply octets awaited run advance said goes = comes_as reply run run advance (λ left. refl) (runs_on_ok client octets awaited run advance said goes)
