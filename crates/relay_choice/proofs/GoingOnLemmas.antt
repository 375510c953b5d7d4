-- What a run comes to where a server says more: it goes on where it awaits a reply, and else stays.
use Rattle.std.proofs.Common.{◌≡◌, ℕ, ◌+◌, List, [], ◌∷◌, ◌++◌, Bool, true, false, if◌then◌else◌, map, None, Some, refl, ap, sym, subst, ◌∙◌}
use Rattle.std.proofs.lemmas.List.{append_assoc, append-nil}
use Rattle.relay_choice.specs.declared.plans.Offer.{Offer}
use Rattle.relay_choice.specs.declared.replies.Reply.{Reply}
use Rattle.relay_choice.specs.declared.mail_objects.Recipient.{Recipient}
use Rattle.relay_choice.specs.declared.mail_objects.MailObject.{MailObject}
use Rattle.relay_choice.specs.declared.mail_objects.Outcome.{Outcome}
use Rattle.relay_choice.specs.declared.mail_objects.Outcome.TheVariants.{Refused}
use Rattle.relay_choice.specs.declared.mail_objects.Act.{Act}
use Rattle.relay_choice.specs.declared.mail_objects.Act.TheVariants.{Say, SayData}
use Rattle.relay_choice.specs.Offers.{is_completed, is_intermediate, is_permanent, offer_of}
use Rattle.relay_choice.specs.Said.{data_line, reset_line, rcpt_line, mail_line, ehlo_line}
use Rattle.relay_choice.specs.Relay.{End, finished, waits, stopped, Run, Transaction, done, ended, after_acts, after_act, is_answer, is_some_accepted, outcome_by, settled, sent_to}
use Rattle.relay_choice.specs.Relay.{reset_transaction, end_transaction, data_transaction, answered_transaction, answer_transaction, rcpt_transaction, mail_transaction, transaction_to, mail_object_transaction, followed, mail_objects_run, ehlo_run, relay_of}

-- these acts come first
abbrev pub following_all : List Act → Transaction → Transaction
following_all acts (done more outcomes left) = done (acts ++ more) outcomes left
following_all acts (ended more end) = ended (acts ++ more) end

-- what a transaction that ends so comes to with more replies
abbrev pub EndGoesOn : (acts : List Act) → End → Transaction → Type 0
EndGoesOn acts finished other = other ≡ ended acts finished
EndGoesOn acts waits other = (rest : Transaction) × (other ≡ following_all acts rest)
EndGoesOn acts (stopped reply) other = other ≡ ended acts (stopped reply)

-- what a transaction comes to with more replies
abbrev pub GoesOn : (more : List Reply) → Transaction → Transaction → Type 0
GoesOn more (done acts outcomes left) other = other ≡ done acts outcomes (left ++ more)
GoesOn more (ended acts end) other = EndGoesOn acts end other

-- the same of a run
abbrev pub RunEndGoesOn : (acts : List Act) → End → Run → Type 0
RunEndGoesOn acts finished other = other ≡ record { acts = acts; end = finished }
RunEndGoesOn acts waits other = (rest : Run) × (other ≡ after_acts acts rest)
RunEndGoesOn acts (stopped reply) other = other ≡ record { acts = acts; end = stopped reply }

abbrev pub RunGoesOn : Run → Run → Type 0
RunGoesOn run other = RunEndGoesOn run.acts run.end other

-- ---- a transaction

-- one that has done nothing goes on anyhow
from_nothing : (other : Transaction) → other ≡ following_all [] other
from_nothing (done acts outcomes left) = refl
from_nothing (ended acts end) = refl

awaits : (more : List Reply) (other : Transaction) → GoesOn more (ended [] waits) other
awaits more other = (other, from_nothing other)

after_one : (first : Act) (acts : List Act) (rest : Transaction) → after_act first (following_all acts rest) ≡ following_all (first ∷ acts) rest
after_one first acts (done more outcomes left) = refl
after_one first acts (ended more end) = refl

after_on : (more : List Reply) (first : Act) (exchange other : Transaction) → GoesOn more exchange other → GoesOn more (after_act first exchange) (after_act first other)
after_on more first (done acts outcomes left) other same = ap (after_act first) same
after_on more first (ended acts finished) other same = ap (after_act first) same
after_on more first (ended acts waits) other goes = (goes.0, ap (after_act first) goes.1 ∙ after_one first acts goes.0)
after_on more first (ended acts (stopped reply)) other same = ap (after_act first) same

either_on : (more : List Reply) (b : Bool) (one other then_one then_other : Transaction) → GoesOn more one then_one → GoesOn more other then_other
    → GoesOn more (if b then one else other) (if b then then_one else then_other)
either_on more true one other then_one then_other goes others = goes
either_on more false one other then_one then_other goes others = others

reset_on : (outcomes : List Outcome) (replies more : List Reply) → GoesOn more (reset_transaction outcomes replies) (reset_transaction outcomes (replies ++ more))
reset_on outcomes [] more = awaits more (reset_transaction outcomes more)
reset_on outcomes (reply ∷ left) more = either_on more (is_completed reply.code) (done [] outcomes left) (ended [] (stopped reply)) (done [] outcomes (left ++ more)) (ended [] (stopped reply)) refl refl

end_on : (answers : List ℕ) (replies more : List Reply) → GoesOn more (end_transaction answers replies) (end_transaction answers (replies ++ more))
end_on answers [] more = awaits more (end_transaction answers more)
end_on answers (reply ∷ left) more = either_on more (is_completed reply.code) _ _ _ _ refl
    (either_on more (is_permanent reply.code) (done [] (map (outcome_by (Some reply.code)) answers) left) (ended [] (stopped reply))
    (done [] (map (outcome_by (Some reply.code)) answers) (left ++ more)) (ended [] (stopped reply)) refl refl)

data_on : (number : ℕ) (answers : List ℕ) (replies more : List Reply) → GoesOn more (data_transaction number answers replies) (data_transaction number answers (replies ++ more))
data_on number answers [] more = awaits more (data_transaction number answers more)
data_on number answers (reply ∷ left) more = either_on more (is_intermediate reply.code) _ _ _ _
    (after_on more (SayData number) (end_transaction answers left) (end_transaction answers (left ++ more)) (end_on answers left more))
    (either_on more (is_permanent reply.code) (done [] (map (outcome_by (Some reply.code)) answers) left) (ended [] (stopped reply))
    (done [] (map (outcome_by (Some reply.code)) answers) (left ++ more)) (ended [] (stopped reply)) refl refl)

answered_on : (number : ℕ) (answers : List ℕ) (replies more : List Reply) → GoesOn more (answered_transaction number answers replies) (answered_transaction number answers (replies ++ more))
answered_on number answers replies more = either_on more (is_some_accepted answers) _ _ _ _
    (after_on more (Say data_line) (data_transaction number answers replies) (data_transaction number answers (replies ++ more)) (data_on number answers replies more))
    (after_on more (Say reset_line) (reset_transaction (map (outcome_by None) answers) replies) (reset_transaction (map (outcome_by None) answers) (replies ++ more))
    (reset_on (map (outcome_by None) answers) replies more))

answer_on : (next : List ℕ → List Reply → Transaction) (more : List Reply) → ((answers : List ℕ) (left : List Reply) → GoesOn more (next answers left) (next answers (left ++ more)))
    → (answers : List ℕ) (replies : List Reply) → GoesOn more (answer_transaction next answers replies) (answer_transaction next answers (replies ++ more))
answer_on next more goes answers [] = awaits more (answer_transaction next answers more)
answer_on next more goes answers (reply ∷ left) =
    either_on more (is_answer reply.code) (next (answers ++ reply.code ∷ []) left) (ended [] (stopped reply)) (next (answers ++ reply.code ∷ []) (left ++ more)) (ended [] (stopped reply))
    (goes (answers ++ reply.code ∷ []) left) refl

rcpt_on : (offer : Offer) (number : ℕ) (recipients : List Recipient) (more : List Reply) (answers : List ℕ) (replies : List Reply)
    → GoesOn more (rcpt_transaction offer number recipients answers replies) (rcpt_transaction offer number recipients answers (replies ++ more))
unfolding rcpt_transaction
rcpt_on offer number [] more answers replies = answered_on number answers replies more
rcpt_on offer number (recipient ∷ recipients) more answers replies =
    after_on more (Say (rcpt_line offer recipient)) (answer_transaction (rcpt_transaction offer number recipients) answers replies) (answer_transaction (rcpt_transaction offer number recipients) answers (replies ++ more))
    (answer_on (rcpt_transaction offer number recipients) more (rcpt_on offer number recipients more) answers replies)

mail_on : (offer : Offer) (number : ℕ) (sent : List Recipient) (replies more : List Reply) → GoesOn more (mail_transaction offer number sent replies) (mail_transaction offer number sent (replies ++ more))
mail_on offer number sent [] more = awaits more (mail_transaction offer number sent more)
mail_on offer number sent (reply ∷ left) more =
    let refused : List Outcome = map (λ (recipient : Recipient). Refused 0 (Some reply.code)) sent in
    either_on more (is_completed reply.code) _ _ _ _ (rcpt_on offer number sent more [] left)
    (either_on more (is_permanent reply.code) _ _ _ _
    (after_on more (Say reset_line) (reset_transaction refused left) (reset_transaction refused (left ++ more)) (reset_on refused left more)) refl)

transaction_on : (offer : Offer) (number : ℕ) (mail_object : MailObject) (sent : List Recipient) (replies more : List Reply)
    → GoesOn more (transaction_to offer number mail_object sent replies) (transaction_to offer number mail_object sent (replies ++ more))
transaction_on offer number mail_object [] replies more = refl
transaction_on offer number mail_object (recipient ∷ recipients) replies more =
    after_on more (Say (mail_line offer mail_object (recipient ∷ recipients))) (mail_transaction offer number (recipient ∷ recipients) replies) (mail_transaction offer number (recipient ∷ recipients) (replies ++ more))
    (mail_on offer number (recipient ∷ recipients) replies more)

-- ---- a run

-- acts after acts
after_both : (acts more : List Act) (run : Run) → after_acts acts (after_acts more run) ≡ after_acts (acts ++ more) run
after_both acts more run = ap (λ (l : List Act). record { acts = l; end = run.end }) (sym (append_assoc acts more run.acts))

run_after : (acts made : List Act) (end : End) (other : Run) → RunEndGoesOn made end other → RunEndGoesOn (acts ++ made) end (after_acts acts other)
run_after acts made finished other same = ap (after_acts acts) same
run_after acts made waits other goes = (goes.0, ap (after_acts acts) goes.1 ∙ after_both acts made goes.0)
run_after acts made (stopped reply) other same = ap (after_acts acts) same

run_either : (b : Bool) (one other then_one then_other : Run) → RunGoesOn one then_one → RunGoesOn other then_other → RunGoesOn (if b then one else other) (if b then then_one else then_other)
run_either true one other then_one then_other goes others = goes
run_either false one other then_one then_other goes others = others

followed_after : (offer : Offer) (number : ℕ) (mail_object : MailObject) (next : List Reply → Run) (acts : List Act) (rest : Transaction)
    → followed offer number mail_object (following_all acts rest) next ≡ after_acts acts (followed offer number mail_object rest next)
followed_after offer number mail_object next acts (done made outcomes left) =
    ap (λ (l : List Act). record { acts = l ++ (next left).acts; end = (next left).end }) (append_assoc acts made (settled offer number mail_object outcomes ∷ []))
    ∙ sym (after_both acts (made ++ settled offer number mail_object outcomes ∷ []) (next left))
followed_after offer number mail_object next acts (ended made end) = refl

followed_on : (offer : Offer) (number : ℕ) (mail_object : MailObject) (next : List Reply → Run) (more : List Reply) → ((left : List Reply) → RunGoesOn (next left) (next (left ++ more)))
    → (exchange other : Transaction) → GoesOn more exchange other → RunGoesOn (followed offer number mail_object exchange next) (followed offer number mail_object other next)
followed_on offer number mail_object next more goes (done acts outcomes left) other same =
    subst (λ (t : Transaction). RunGoesOn (followed offer number mail_object (done acts outcomes left) next) (followed offer number mail_object t next)) (sym same)
    (run_after (acts ++ settled offer number mail_object outcomes ∷ []) (next left).acts (next left).end (next (left ++ more)) (goes left))
followed_on offer number mail_object next more goes (ended acts finished) other same = ap (λ (t : Transaction). followed offer number mail_object t next) same
followed_on offer number mail_object next more goes (ended acts waits) other some =
    (followed offer number mail_object some.0 next, ap (λ (t : Transaction). followed offer number mail_object t next) some.1 ∙ followed_after offer number mail_object next acts some.0)
followed_on offer number mail_object next more goes (ended acts (stopped reply)) other same = ap (λ (t : Transaction). followed offer number mail_object t next) same

mail_objects_on : (offer : Offer) (number : ℕ) (mail_objects : List MailObject) (more replies : List Reply) → RunGoesOn (mail_objects_run offer number mail_objects replies) (mail_objects_run offer number mail_objects (replies ++ more))
unfolding mail_objects_run
mail_objects_on offer number [] more replies = refl
mail_objects_on offer number (mail_object ∷ mail_objects) more replies = followed_on offer number mail_object (mail_objects_run offer (number + 1) mail_objects) more (mail_objects_on offer (number + 1) mail_objects more)
    (mail_object_transaction offer number mail_object replies) (mail_object_transaction offer number mail_object (replies ++ more)) (transaction_on offer number mail_object (sent_to offer mail_object) replies more)

ehlo_on : (mail_objects : List MailObject) (replies more : List Reply) → RunGoesOn (ehlo_run mail_objects replies) (ehlo_run mail_objects (replies ++ more))
ehlo_on mail_objects [] more = (ehlo_run mail_objects more, refl)
ehlo_on mail_objects (reply ∷ left) more = run_either (is_completed reply.code) _ _ _ _ (mail_objects_on (offer_of reply) 0 mail_objects more left) refl

pub relay_on : (name : List ℕ) (mail_objects : List MailObject) (replies more : List Reply) → RunGoesOn (relay_of name mail_objects replies) (relay_of name mail_objects (replies ++ more))
relay_on name mail_objects [] more = (relay_of name mail_objects more, refl)
relay_on name mail_objects (reply ∷ left) more = run_either (is_completed reply.code) _ _ _ _
    (run_after (Say (ehlo_line name) ∷ []) (ehlo_run mail_objects left).acts (ehlo_run mail_objects left).end (ehlo_run mail_objects (left ++ more)) (ehlo_on mail_objects left more)) refl

-- ---- what the laws say

-- by how the run ends
by_end : (acts : List Act) (end is : End) (other : Run) → end ≡ is → RunEndGoesOn acts end other → RunEndGoesOn acts is other
by_end acts end is other same goes = subst (λ (e : End). RunEndGoesOn acts e other) same goes

pub stays_stopped : (name : List ℕ) (mail_objects : List MailObject) (replies more : List Reply) (reply : Reply) → (relay_of name mail_objects replies).end ≡ stopped reply
    → relay_of name mail_objects (replies ++ more) ≡ relay_of name mail_objects replies
stays_stopped name mail_objects replies more reply is =
    by_end (relay_of name mail_objects replies).acts (relay_of name mail_objects replies).end (stopped reply) (relay_of name mail_objects (replies ++ more)) is (relay_on name mail_objects replies more)
    ∙ ap (λ (e : End). record { acts = (relay_of name mail_objects replies).acts; end = e }) (sym is)

pub stays_finished : (name : List ℕ) (mail_objects : List MailObject) (replies more : List Reply) → (relay_of name mail_objects replies).end ≡ finished
    → relay_of name mail_objects (replies ++ more) ≡ relay_of name mail_objects replies
stays_finished name mail_objects replies more is =
    by_end (relay_of name mail_objects replies).acts (relay_of name mail_objects replies).end finished (relay_of name mail_objects (replies ++ more)) is (relay_on name mail_objects replies more)
    ∙ ap (λ (e : End). record { acts = (relay_of name mail_objects replies).acts; end = e }) (sym is)

pub goes_on_waiting : (name : List ℕ) (mail_objects : List MailObject) (replies more : List Reply) → (relay_of name mail_objects replies).end ≡ waits
    → (rest : Run) × (relay_of name mail_objects (replies ++ more) ≡ after_acts (relay_of name mail_objects replies).acts rest)
goes_on_waiting name mail_objects replies more is =
    by_end (relay_of name mail_objects replies).acts (relay_of name mail_objects replies).end waits (relay_of name mail_objects (replies ++ more)) is (relay_on name mail_objects replies more)

acts_grow : (acts : List Act) (end : End) (other : Run) → RunEndGoesOn acts end other → (rest : List Act) × (other.acts ≡ acts ++ rest)
acts_grow acts finished other same = ([], ap (λ (run : Run). run.acts) same ∙ sym (append-nil acts))
acts_grow acts waits other goes = (goes.0.acts, ap (λ (run : Run). run.acts) goes.1)
acts_grow acts (stopped reply) other same = ([], ap (λ (run : Run). run.acts) same ∙ sym (append-nil acts))

pub relay_grows : (name : List ℕ) (mail_objects : List MailObject) (replies more : List Reply)
    → (rest : List Act) × ((relay_of name mail_objects (replies ++ more)).acts ≡ (relay_of name mail_objects replies).acts ++ rest)
relay_grows name mail_objects replies more =
    acts_grow (relay_of name mail_objects replies).acts (relay_of name mail_objects replies).end (relay_of name mail_objects (replies ++ more)) (relay_on name mail_objects replies more)
