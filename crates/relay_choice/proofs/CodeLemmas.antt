-- The codes of replies, and those that outcomes have.
use Rattle.std.proofs.Common.{◌≡◌, ℕ, ◌+◌, ◌≤◌, List, [], ◌∷◌, ◌++◌, Bool, true, false, ◌&&◌, nat_le, if◌then◌else◌, map, None, Some, subst, sym, arith}
use Rattle.std.specs.Prelude.{All, Contains}
use Rattle.std.proofs.lemmas.List.Elements.{All-nil, All-cons, All-head, All-tail, All-append, All-push, All-contains}
use Rattle.std.proofs.lemmas.Bool.{and_parts, leb-true, true≢false}
use Rattle.mail_wire.specs.Numbers.{is_digit, number_written}
use Rattle.relay_choice.specs.declared.plans.Offer.{Offer}
use Rattle.relay_choice.specs.declared.plans.Plan.{Plan}
use Rattle.relay_choice.specs.declared.plans.Plan.TheVariants as plan
use Rattle.relay_choice.specs.declared.replies.Reply.{Reply}
use Rattle.relay_choice.specs.declared.mail_objects.Recipient.{Recipient}
use Rattle.relay_choice.specs.declared.mail_objects.MailObject.{MailObject}
use Rattle.relay_choice.specs.declared.mail_objects.Outcome.{Outcome}
use Rattle.relay_choice.specs.declared.mail_objects.Outcome.TheVariants.{Refused, Sent}
use Rattle.relay_choice.specs.declared.mail_objects.Act.{Act}
use Rattle.relay_choice.specs.declared.mail_objects.Act.TheVariants as act
use Rattle.relay_choice.specs.Offers.{is_completed, is_intermediate, is_permanent, offer_of}
use Rattle.relay_choice.specs.Replies.{IsReply, is_code}
use Rattle.relay_choice.specs.Said.{data_line, reset_line, rcpt_line, mail_line, ehlo_line, quit_line}
use Rattle.relay_choice.specs.Settling.{HasCode, IsCode, IsFitOutcome}
use Rattle.relay_choice.specs.Relay.{Run, Transaction, answered_transaction, after_act, after_acts, transaction_to, data_transaction, done, ehlo_run, end_transaction, ended, followed, is_answer, is_some_accepted, mail_object_transaction, mail_objects_run}
use Rattle.relay_choice.specs.Relay.{mail_transaction, merged, outcome_by, plan_of, rcpt_transaction, relay_of, reset_transaction, sent_to, stopped, waits}

-- ---- the code of a reply

code_value : (x y z : ℕ) → 50 ≤ x → x ≤ 53 → 48 ≤ y → y ≤ 57 → 48 ≤ z → z ≤ 57 → IsCode (number_written (x ∷ y ∷ z ∷ []))
code_value x y z from to tens tens_to ones ones_to = (omega (arith, from, tens, ones), omega (arith, to, tens_to, ones_to))

code_of_digits : (code : List ℕ) → is_code code ≡ true → IsCode (number_written code)
code_of_digits [] is = absurd (true≢false (sym is))
code_of_digits (x ∷ []) is = absurd (true≢false (sym is))
code_of_digits (x ∷ y ∷ []) is = absurd (true≢false (sym is))
code_of_digits (x ∷ y ∷ z ∷ []) is =
    let following = and_parts (nat_le 50 x && nat_le x 53 && is_digit y) (is_digit z) is in
    let front = and_parts (nat_le 50 x && nat_le x 53) (is_digit y) following.0 in
    let hundreds = and_parts (nat_le 50 x) (nat_le x 53) front.0 in
    let tens = and_parts (nat_le 48 y) (nat_le y 57) front.1 in
    let ones = and_parts (nat_le 48 z) (nat_le z 57) following.1 in
    code_value x y z (leb-true 50 x hundreds.0) (leb-true x 53 hundreds.1) (leb-true 48 y tens.0) (leb-true y 57 tens.1) (leb-true 48 z ones.0) (leb-true z 57 ones.1)
code_of_digits (x ∷ y ∷ z ∷ w ∷ more) is = absurd (true≢false (sym is))

pub reply_code : (octets : List ℕ) (reply : Reply) → IsReply octets reply → HasCode reply
reply_code octets reply is = subst IsCode (sym is.says_code) (code_of_digits is.code is.is_code_of)

-- ---- a transaction

-- an act that settles has fit outcomes
abbrev pub IsFitAct : Act → Type 0
IsFitAct (act.Say octets) = Unit {0}
IsFitAct (act.SayData number) = Unit {0}
IsFitAct (act.Settle number outcomes) = All IsFitOutcome outcomes

-- the acts and outcomes of a transaction are fit, and the replies that are left have codes
abbrev pub Fits : Transaction → Type 0
Fits (done acts outcomes left) = All IsFitAct acts × All IsFitOutcome outcomes × All HasCode left
Fits (ended acts end) = All IsFitAct acts

following_fits : (first : Act) (exchange : Transaction) → IsFitAct first → Fits exchange → Fits (after_act first exchange)
following_fits first (done acts outcomes left) is fit = (All-cons IsFitAct first acts is fit.0, fit.1, fit.2)
following_fits first (ended acts end) is fit = All-cons IsFitAct first acts is fit

either_fits : (b : Bool) (one other : Transaction) → Fits one → Fits other → Fits (if b then one else other)
either_fits true one other fit others = fit
either_fits false one other fit others = others

either_outcome : (b : Bool) (one other : Outcome) → IsFitOutcome one → IsFitOutcome other → IsFitOutcome (if b then one else other)
either_outcome true one other fit others = fit
either_outcome false one other fit others = others

-- what becomes of those with these answers
sent_fit : (answers : List ℕ) → All IsCode answers → All IsFitOutcome (map (outcome_by None) answers)
sent_fit [] codes = All-nil IsFitOutcome
sent_fit (answer ∷ answers) codes = All-cons IsFitOutcome (outcome_by None answer) (map (outcome_by None) answers)
    (either_outcome (is_permanent answer) (Refused 0 (Some answer)) Sent (All-head IsCode answer answers codes) tt) (sent_fit answers (All-tail IsCode answer answers codes))

refused_fit : (code : ℕ) (answers : List ℕ) → IsCode code → All IsCode answers → All IsFitOutcome (map (outcome_by (Some code)) answers)
refused_fit code [] is codes = All-nil IsFitOutcome
refused_fit code (answer ∷ answers) is codes = All-cons IsFitOutcome (outcome_by (Some code) answer) (map (outcome_by (Some code)) answers)
    (either_outcome (is_permanent answer) (Refused 0 (Some answer)) (Refused 0 (Some code)) (All-head IsCode answer answers codes) is) (refused_fit code answers is (All-tail IsCode answer answers codes))

all_refused_fit : (code : ℕ) (recipients : List Recipient) → IsCode code → All IsFitOutcome (map (λ (recipient : Recipient). Refused 0 (Some code)) recipients)
all_refused_fit code [] is = All-nil IsFitOutcome
all_refused_fit code (recipient ∷ recipients) is =
    All-cons IsFitOutcome (Refused 0 (Some code)) (map (λ (recipient : Recipient). Refused 0 (Some code)) recipients) is (all_refused_fit code recipients is)

reset_fits : (outcomes : List Outcome) (replies : List Reply) → All IsFitOutcome outcomes → All HasCode replies → Fits (reset_transaction outcomes replies)
reset_fits outcomes [] fit codes = All-nil IsFitAct
reset_fits outcomes (reply ∷ left) fit codes =
    either_fits (is_completed reply.code) (done [] outcomes left) (ended [] (stopped reply)) (All-nil IsFitAct, fit, All-tail HasCode reply left codes) (All-nil IsFitAct)

refused_fits : (answers : List ℕ) (reply : Reply) (left : List Reply) → All IsCode answers → All HasCode (reply ∷ left)
    → Fits (if is_permanent reply.code then done [] (map (outcome_by (Some reply.code)) answers) left else ended [] (stopped reply))
refused_fits answers reply left given codes =
    either_fits (is_permanent reply.code) (done [] (map (outcome_by (Some reply.code)) answers) left) (ended [] (stopped reply))
    (All-nil IsFitAct, refused_fit reply.code answers (All-head HasCode reply left codes) given, All-tail HasCode reply left codes) (All-nil IsFitAct)

end_fits : (answers : List ℕ) (replies : List Reply) → All IsCode answers → All HasCode replies → Fits (end_transaction answers replies)
end_fits answers [] given codes = All-nil IsFitAct
end_fits answers (reply ∷ left) given codes = either_fits (is_completed reply.code) (done [] (map (outcome_by None) answers) left) _
    (All-nil IsFitAct, sent_fit answers given, All-tail HasCode reply left codes) (refused_fits answers reply left given codes)

data_fits : (number : ℕ) (answers : List ℕ) (replies : List Reply) → All IsCode answers → All HasCode replies → Fits (data_transaction number answers replies)
data_fits number answers [] given codes = All-nil IsFitAct
data_fits number answers (reply ∷ left) given codes = either_fits (is_intermediate reply.code) _ _
    (following_fits (act.SayData number) (end_transaction answers left) tt (end_fits answers left given (All-tail HasCode reply left codes))) (refused_fits answers reply left given codes)

answered_fits : (number : ℕ) (answers : List ℕ) (replies : List Reply) → All IsCode answers → All HasCode replies → Fits (answered_transaction number answers replies)
answered_fits number answers replies given codes = either_fits (is_some_accepted answers) _ _
    (following_fits (act.Say data_line) (data_transaction number answers replies) tt (data_fits number answers replies given codes))
    (following_fits (act.Say reset_line) (reset_transaction (map (outcome_by None) answers) replies) tt (reset_fits (map (outcome_by None) answers) replies (sent_fit answers given) codes))

rcpt_fits : (offer : Offer) (number : ℕ) (recipients : List Recipient) (answers : List ℕ) (replies : List Reply) → All IsCode answers → All HasCode replies
    → Fits (rcpt_transaction offer number recipients answers replies)
unfolding rcpt_transaction
rcpt_fits offer number [] answers replies given codes = answered_fits number answers replies given codes
rcpt_fits offer number (recipient ∷ recipients) answers [] given codes = following_fits (act.Say (rcpt_line offer recipient)) (ended [] waits) tt (All-nil IsFitAct)
rcpt_fits offer number (recipient ∷ recipients) answers (reply ∷ left) given codes =
    following_fits (act.Say (rcpt_line offer recipient)) (if is_answer reply.code then rcpt_transaction offer number recipients (answers ++ reply.code ∷ []) left else ended [] (stopped reply)) tt
    (either_fits (is_answer reply.code) (rcpt_transaction offer number recipients (answers ++ reply.code ∷ []) left) (ended [] (stopped reply))
    (rcpt_fits offer number recipients (answers ++ reply.code ∷ []) left (All-push IsCode answers reply.code given (All-head HasCode reply left codes)) (All-tail HasCode reply left codes))
    (All-nil IsFitAct))

mail_fits : (offer : Offer) (number : ℕ) (sent : List Recipient) (replies : List Reply) → All HasCode replies → Fits (mail_transaction offer number sent replies)
mail_fits offer number sent [] codes = All-nil IsFitAct
mail_fits offer number sent (reply ∷ left) codes =
    let refused : List Outcome = map (λ (recipient : Recipient). Refused 0 (Some reply.code)) sent in
    let following : All HasCode left = All-tail HasCode reply left codes in
    either_fits (is_completed reply.code) _ _ (rcpt_fits offer number sent [] left (All-nil IsCode) following)
    (either_fits (is_permanent reply.code) _ (ended [] (stopped reply))
    (following_fits (act.Say reset_line) (reset_transaction refused left) tt (reset_fits refused left (all_refused_fit reply.code sent (All-head HasCode reply left codes)) following)) (All-nil IsFitAct))

transaction_fits : (offer : Offer) (number : ℕ) (mail_object : MailObject) (sent : List Recipient) (replies : List Reply) → All HasCode replies → Fits (transaction_to offer number mail_object sent replies)
transaction_fits offer number mail_object [] replies codes = (All-nil IsFitAct, All-nil IsFitOutcome, codes)
transaction_fits offer number mail_object (recipient ∷ recipients) replies codes =
    following_fits (act.Say (mail_line offer mail_object (recipient ∷ recipients))) (mail_transaction offer number (recipient ∷ recipients) replies) tt
    (mail_fits offer number (recipient ∷ recipients) replies codes)

-- ---- a run

merged_fit : (plans : List Plan) (outcomes : List Outcome) → All IsFitOutcome outcomes → All IsFitOutcome (merged plans outcomes)
unfolding merged
merged_fit [] outcomes fit = All-nil IsFitOutcome
merged_fit (plan.Report5 detail ∷ plans) outcomes fit = All-cons IsFitOutcome (Refused detail None) (merged plans outcomes) tt (merged_fit plans outcomes fit)
merged_fit (plan.Send ∷ plans) [] fit = merged_fit plans [] fit
merged_fit (plan.Send ∷ plans) (one ∷ outcomes) fit =
    All-cons IsFitOutcome one (merged plans outcomes) (All-head IsFitOutcome one outcomes fit) (merged_fit plans outcomes (All-tail IsFitOutcome one outcomes fit))
merged_fit (plan.SendNormal ∷ plans) [] fit = merged_fit plans [] fit
merged_fit (plan.SendNormal ∷ plans) (one ∷ outcomes) fit =
    All-cons IsFitOutcome one (merged plans outcomes) (All-head IsFitOutcome one outcomes fit) (merged_fit plans outcomes (All-tail IsFitOutcome one outcomes fit))

either_acts : (b : Bool) (one other : Run) → All IsFitAct one.acts → All IsFitAct other.acts → All IsFitAct (if b then one else other).acts
either_acts true one other fit others = fit
either_acts false one other fit others = others

followed_fits : (offer : Offer) (number : ℕ) (mail_object : MailObject) (next : List Reply → Run) → ((left : List Reply) → All HasCode left → All IsFitAct (next left).acts)
    → (exchange : Transaction) → Fits exchange → All IsFitAct (followed offer number mail_object exchange next).acts
followed_fits offer number mail_object next goes (done acts outcomes left) fit =
    let made : List Outcome = merged (map (plan_of offer mail_object) mail_object.recipients) outcomes in
    All-append IsFitAct (acts ++ act.Settle number made ∷ []) (next left).acts
    (All-push IsFitAct acts (act.Settle number made) fit.0 (merged_fit (map (plan_of offer mail_object) mail_object.recipients) outcomes fit.1)) (goes left fit.2)
followed_fits offer number mail_object next goes (ended acts end) fit = fit

mail_objects_fit : (offer : Offer) (number : ℕ) (mail_objects : List MailObject) (replies : List Reply) → All HasCode replies → All IsFitAct (mail_objects_run offer number mail_objects replies).acts
unfolding mail_objects_run
mail_objects_fit offer number [] replies codes = All-cons IsFitAct (act.Say quit_line) [] tt (All-nil IsFitAct)
mail_objects_fit offer number (mail_object ∷ mail_objects) replies codes =
    followed_fits offer number mail_object (mail_objects_run offer (number + 1) mail_objects) (mail_objects_fit offer (number + 1) mail_objects) (mail_object_transaction offer number mail_object replies)
    (transaction_fits offer number mail_object (sent_to offer mail_object) replies codes)

ehlo_fits : (mail_objects : List MailObject) (replies : List Reply) → All HasCode replies → All IsFitAct (ehlo_run mail_objects replies).acts
ehlo_fits mail_objects [] codes = All-nil IsFitAct
ehlo_fits mail_objects (reply ∷ left) codes =
    either_acts (is_completed reply.code) (mail_objects_run (offer_of reply) 0 mail_objects left) (record { acts = []; end = stopped reply }) (mail_objects_fit (offer_of reply) 0 mail_objects left (All-tail HasCode reply left codes))
    (All-nil IsFitAct)

relay_fits : (name : List ℕ) (mail_objects : List MailObject) (replies : List Reply) → All HasCode replies → All IsFitAct (relay_of name mail_objects replies).acts
relay_fits name mail_objects [] codes = All-nil IsFitAct
relay_fits name mail_objects (reply ∷ left) codes =
    either_acts (is_completed reply.code) (after_acts (act.Say (ehlo_line name) ∷ []) (ehlo_run mail_objects left)) (record { acts = []; end = stopped reply })
    (All-cons IsFitAct (act.Say (ehlo_line name)) (ehlo_run mail_objects left).acts tt (ehlo_fits mail_objects left (All-tail HasCode reply left codes))) (All-nil IsFitAct)

-- ---- what the law says

pub settled_fit : (name : List ℕ) (mail_objects : List MailObject) (replies : List Reply) (number : ℕ) (outcomes : List Outcome) → All HasCode replies
    → Contains (relay_of name mail_objects replies).acts (act.Settle number outcomes) → All IsFitOutcome outcomes
settled_fit name mail_objects replies number outcomes codes has =
    All-contains IsFitAct (relay_of name mail_objects replies).acts (act.Settle number outcomes) (relay_fits name mail_objects replies codes) has
