-- Mail objects are settled in order, and a message goes out only where the plan says so.
use Rattle.std.proofs.Common.{◌≡◌, ℕ, suc, ◌+◌, ◌<◌, ◌≤◌, List, [], ◌∷◌, ◌++◌}
use Rattle.std.proofs.Common.{Bool, true, false, if◌then◌else◌, map, filter, length, None, Some, slice_get, refl, ap, sym, subst, ◌∙◌, arith}
use Rattle.std.specs.Prelude.{All, Contains, flat_map, sum_by}
use Rattle.std.specs.List.{range_with_len}
use Rattle.std.proofs.lemmas.Bool.{true≢false}
use Rattle.std.proofs.lemmas.List.{append-nil, length-append, length-map, length_push}
use Rattle.std.proofs.lemmas.List.Concat.{flat_map-append}
use Rattle.std.proofs.lemmas.List.Elements.{All-nil, All-cons, All-head, All-tail, All-append, All-weaker, All-contains}
use Rattle.std.proofs.lemmas.List.Sums.{sum_by-cons}
use Rattle.relay_choice.specs.declared.plans.Offer.{Offer}
use Rattle.relay_choice.specs.declared.plans.Demands.{Demands}
use Rattle.relay_choice.specs.declared.plans.Plan.{Plan}
use Rattle.relay_choice.specs.declared.plans.Plan.TheVariants as plan
use Rattle.relay_choice.specs.declared.replies.Reply.{Reply}
use Rattle.relay_choice.specs.declared.mail_objects.Recipient.{Recipient}
use Rattle.relay_choice.specs.declared.mail_objects.MailObject.{MailObject}
use Rattle.relay_choice.specs.declared.mail_objects.Outcome.{Outcome}
use Rattle.relay_choice.specs.declared.mail_objects.Outcome.TheVariants.{Refused}
use Rattle.relay_choice.specs.declared.mail_objects.Act.{Act}
use Rattle.relay_choice.specs.declared.mail_objects.Act.TheVariants as act
use Rattle.relay_choice.specs.Plans.{is_sent, plan_for}
use Rattle.relay_choice.specs.Offers.{is_completed, is_intermediate, is_permanent, offer_of}
use Rattle.relay_choice.specs.Said.{data_line, reset_line, rcpt_line, mail_line, ehlo_line}
use Rattle.relay_choice.specs.Settling.{AreItsOutcomes, IsSentToSome, numbers_in, offer_in}
use Rattle.relay_choice.specs.Relay.{End, finished, waits, stopped, Run, Transaction, done, ended, after_acts, after_act, is_answer, is_some_accepted, outcome_by, merged, plan_of, sent_to, outcomes_in, left_count}
use Rattle.relay_choice.specs.Relay.{reset_transaction, end_transaction, data_transaction, answered_transaction, answer_transaction, rcpt_transaction, mail_transaction, transaction_to, mail_object_transaction, followed, mail_objects_run, ehlo_run, relay_of}

abbrev pub is_finished : End → Bool
is_finished finished = true
is_finished waits = false
is_finished (stopped reply) = false

finished_is : (end : End) → is_finished end ≡ true → end ≡ finished
finished_is finished is = refl
finished_is waits is = search
finished_is (stopped reply) is = search

-- ---- a transaction

-- what is done in the transaction of a mail object of this number that is sent to so many
abbrev pub IsOf : (number size : ℕ) → Act → Type 0
IsOf number size (act.Say octets) = Unit {0}
IsOf number size (act.SayData other) = (other ≡ number) × (0 < size)
IsOf number size (act.Settle other outcomes) = ⊥

abbrev pub Comes : (number size : ℕ) → Transaction → Type 0
Comes number size (done acts outcomes left) = All (IsOf number size) acts × (length outcomes ≡ size)
Comes number size (ended acts end) = All (IsOf number size) acts × (is_finished end ≡ false) × (0 < size)

done_at_once : (number size : ℕ) (outcomes : List Outcome) (left : List Reply) → length outcomes ≡ size → Comes number size (done [] outcomes left)
done_at_once number size outcomes left is = (All-nil (IsOf number size), is)

ends_at_once : (number size : ℕ) (end : End) → 0 < size → is_finished end ≡ false → Comes number size (ended [] end)
ends_at_once number size end some is = (All-nil (IsOf number size), is, some)

after_comes : (number size : ℕ) (first : Act) (exchange : Transaction) → IsOf number size first → Comes number size exchange → Comes number size (after_act first exchange)
after_comes number size first (done acts outcomes left) is advance = (All-cons (IsOf number size) first acts is advance.0, advance.1)
after_comes number size first (ended acts end) is advance = (All-cons (IsOf number size) first acts is advance.0, advance.1, advance.2)

either_comes : (number size : ℕ) (b : Bool) (one other : Transaction) → Comes number size one → Comes number size other → Comes number size (if b then one else other)
either_comes number size true one other advance others = advance
either_comes number size false one other advance others = others

reset_comes : (number size : ℕ) → 0 < size → (outcomes : List Outcome) (replies : List Reply) → length outcomes ≡ size → Comes number size (reset_transaction outcomes replies)
reset_comes number size some outcomes [] is = ends_at_once number size waits some refl
reset_comes number size some outcomes (reply ∷ left) is =
    either_comes number size (is_completed reply.code) (done [] outcomes left) (ended [] (stopped reply)) (done_at_once number size outcomes left is) (ends_at_once number size (stopped reply) some refl)

refused_comes : (number size : ℕ) → 0 < size → (answers : List ℕ) (reply : Reply) (left : List Reply) → length answers ≡ size
    → Comes number size (if is_permanent reply.code then done [] (map (outcome_by (Some reply.code)) answers) left else ended [] (stopped reply))
refused_comes number size some answers reply left is =
    either_comes number size (is_permanent reply.code) (done [] (map (outcome_by (Some reply.code)) answers) left) (ended [] (stopped reply))
    (done_at_once number size (map (outcome_by (Some reply.code)) answers) left (length-map answers (outcome_by (Some reply.code)) ∙ is)) (ends_at_once number size (stopped reply) some refl)

end_comes : (number size : ℕ) → 0 < size → (answers : List ℕ) (replies : List Reply) → length answers ≡ size → Comes number size (end_transaction answers replies)
end_comes number size some answers [] is = ends_at_once number size waits some refl
end_comes number size some answers (reply ∷ left) is = either_comes number size (is_completed reply.code) _ _
    (done_at_once number size (map (outcome_by None) answers) left (length-map answers (outcome_by None) ∙ is)) (refused_comes number size some answers reply left is)

data_comes : (number size : ℕ) → 0 < size → (answers : List ℕ) (replies : List Reply) → length answers ≡ size → Comes number size (data_transaction number answers replies)
data_comes number size some answers [] is = ends_at_once number size waits some refl
data_comes number size some answers (reply ∷ left) is = either_comes number size (is_intermediate reply.code) _ _
    (after_comes number size (act.SayData number) (end_transaction answers left) (refl, some) (end_comes number size some answers left is)) (refused_comes number size some answers reply left is)

answered_comes : (number size : ℕ) → 0 < size → (answers : List ℕ) (replies : List Reply) → length answers ≡ size → Comes number size (answered_transaction number answers replies)
answered_comes number size some answers replies is = either_comes number size (is_some_accepted answers) _ _
    (after_comes number size (act.Say data_line) (data_transaction number answers replies) tt (data_comes number size some answers replies is))
    (after_comes number size (act.Say reset_line) (reset_transaction (map (outcome_by None) answers) replies) tt
    (reset_comes number size some (map (outcome_by None) answers) replies (length-map answers (outcome_by None) ∙ is)))

rcpt_comes : (offer : Offer) (number size : ℕ) → 0 < size → (recipients : List Recipient) (answers : List ℕ) (replies : List Reply) → length answers + length recipients ≡ size
    → Comes number size (rcpt_transaction offer number recipients answers replies)
unfolding rcpt_transaction
rcpt_comes offer number size some [] answers replies is = answered_comes number size some answers replies (omega (arith, is))
rcpt_comes offer number size some (recipient ∷ recipients) answers [] is =
    after_comes number size (act.Say (rcpt_line offer recipient)) (ended [] waits) tt (ends_at_once number size waits some refl)
rcpt_comes offer number size some (recipient ∷ recipients) answers (reply ∷ left) is =
    let pushed = length_push answers reply.code in
    after_comes number size (act.Say (rcpt_line offer recipient)) (answer_transaction (rcpt_transaction offer number recipients) answers (reply ∷ left)) tt
    (either_comes number size (is_answer reply.code) (rcpt_transaction offer number recipients (answers ++ reply.code ∷ []) left) (ended [] (stopped reply))
    (rcpt_comes offer number size some recipients (answers ++ reply.code ∷ []) left (omega (arith, is, pushed))) (ends_at_once number size (stopped reply) some refl))

mail_comes : (offer : Offer) (number : ℕ) (sent : List Recipient) (replies : List Reply) → 0 < length sent → Comes number (length sent) (mail_transaction offer number sent replies)
mail_comes offer number sent [] some = ends_at_once number (length sent) waits some refl
mail_comes offer number sent (reply ∷ left) some =
    let refused : List Outcome = map (λ (recipient : Recipient). Refused 0 (Some reply.code)) sent in
    either_comes number (length sent) (is_completed reply.code) _ _ (rcpt_comes offer number (length sent) some sent [] left (omega arith))
    (either_comes number (length sent) (is_permanent reply.code) _ _
    (after_comes number (length sent) (act.Say reset_line) (reset_transaction refused left) tt
    (reset_comes number (length sent) some refused left (length-map sent (λ (recipient : Recipient). Refused 0 (Some reply.code)))))
    (ends_at_once number (length sent) (stopped reply) some refl))

transaction_comes : (offer : Offer) (number : ℕ) (mail_object : MailObject) (sent : List Recipient) (replies : List Reply) → Comes number (length sent) (transaction_to offer number mail_object sent replies)
transaction_comes offer number mail_object [] replies = done_at_once number 0 [] replies refl
transaction_comes offer number mail_object (recipient ∷ recipients) replies =
    after_comes number (length (recipient ∷ recipients)) (act.Say (mail_line offer mail_object (recipient ∷ recipients))) (mail_transaction offer number (recipient ∷ recipients) replies) tt
    (mail_comes offer number (recipient ∷ recipients) replies (omega arith))

-- ---- what is settled

-- one recipient more has one outcome more
merged_next : (one : Plan) (count : ℕ) (outcomes : List Outcome) (sent : List Recipient) (x : Recipient) (plans : List Plan) → length outcomes ≡ length (if is_sent one then x ∷ sent else sent)
    → ((others : List Outcome) → length others ≡ length sent → length (merged plans others) ≡ count) → length (merged (one ∷ plans) outcomes) ≡ suc count
unfolding merged
merged_next (plan.Report5 detail) count outcomes sent x plans is goes = ap suc (goes outcomes is)
merged_next plan.Send count [] sent x plans is goes = absurd (omega (arith, is))
merged_next plan.Send count (one ∷ others) sent x plans is goes = ap suc (goes others (omega (arith, is)))
merged_next plan.SendNormal count [] sent x plans is goes = absurd (omega (arith, is))
merged_next plan.SendNormal count (one ∷ others) sent x plans is goes = ap suc (goes others (omega (arith, is)))

-- each recipient has an outcome, where each to whom the mail object is sent has one
merged_all : (f : Recipient → Plan) (xs : List Recipient) (outcomes : List Outcome) → length outcomes ≡ length (filter (λ x. is_sent (f x)) xs) → length (merged (map f xs) outcomes) ≡ length xs
unfolding merged
merged_all f [] outcomes is = refl
merged_all f (x ∷ xs) outcomes is = merged_next (f x) (length xs) outcomes (filter (λ y. is_sent (f y)) xs) x (map f xs) is (merged_all f xs)

-- ---- a run

-- an act does what its mail object is for
abbrev pub IsFit : Offer → (whole : List MailObject) → Act → Type 0
IsFit offer whole (act.Say octets) = Unit {0}
IsFit offer whole (act.SayData number) = IsSentToSome offer whole number
IsFit offer whole (act.Settle number outcomes) = AreItsOutcomes whole number outcomes

-- how many recipients the mail objects have, and how many outcomes the acts tell
abbrev pub open_in : List MailObject → ℕ
open_in mail_objects = sum_by (λ (mail_object : MailObject). length mail_object.recipients) mail_objects

abbrev pub told_in : List Act → ℕ
told_in acts = length (flat_map outcomes_in acts)

-- What a run does for these mail objects, the first of which has this number among all of them. Where it isn't finished, recipients are left, if the premise holds.
pub record Settles (Premise : Type 0) (offer : Offer) (whole : List MailObject) (number : ℕ) (mail_objects : List MailObject) (run : Run) : Type 0 where
  pub count : ℕ
  pub few : count ≤ length mail_objects
  pub order : flat_map numbers_in run.acts ≡ range_with_len number count
  pub each : All (IsFit offer whole) run.acts
  pub all : is_finished run.end ≡ true → count ≡ length mail_objects
  pub told : is_finished run.end ≡ true → told_in run.acts ≡ open_in mail_objects
  pub some : is_finished run.end ≡ false → Premise → told_in run.acts < open_in mail_objects
  pub most : told_in run.acts ≤ open_in mail_objects

not_both : (b : Bool) → b ≡ true → b ≡ false → ⊥
not_both b is isnt = true≢false (sym is ∙ isnt)

-- a transaction settles nothing by itself
nothing_in : {X : Type 0} (f : Act → List X) (number size : ℕ) → ((one : Act) → IsOf number size one → f one ≡ []) → (acts : List Act) → All (IsOf number size) acts → flat_map f acts ≡ []
nothing_in f number size none [] all = refl
nothing_in f number size none (one ∷ acts) all =
    ap (λ l. l ++ flat_map f acts) (none one (All-head (IsOf number size) one acts all)) ∙ nothing_in f number size none acts (All-tail (IsOf number size) one acts all)

no_number : (number size : ℕ) (one : Act) → IsOf number size one → numbers_in one ≡ []
no_number number size (act.Say octets) is = refl
no_number number size (act.SayData other) is = refl
no_number number size (act.Settle other outcomes) is = absurd is

no_outcome : (number size : ℕ) (one : Act) → IsOf number size one → outcomes_in one ≡ []
no_outcome number size (act.Say octets) is = refl
no_outcome number size (act.SayData other) is = refl
no_outcome number size (act.Settle other outcomes) is = absurd is

fits : (offer : Offer) (whole : List MailObject) (number : ℕ) (mail_object : MailObject) → slice_get whole number ≡ Some mail_object → (one : Act) → IsOf number (length (sent_to offer mail_object)) one → IsFit offer whole one
fits offer whole number mail_object there (act.Say octets) is = tt
fits offer whole number mail_object there (act.SayData other) is = record { mail_object = mail_object; there = ap (slice_get whole) is.0 ∙ there; some = is.1 }
fits offer whole number mail_object there (act.Settle other outcomes) is = absurd is

said_fits : (offer : Offer) (whole : List MailObject) (one : Act) → IsOf 0 0 one → IsFit offer whole one
said_fits offer whole (act.Say octets) is = tt
said_fits offer whole (act.SayData other) is = absurd (omega (arith, is.1))
said_fits offer whole (act.Settle other outcomes) is = absurd is

-- a mail object that is settled between other acts
around : {X : Type 0} (f : Act → List X) (acts : List Act) (one : Act) (more : List Act) → flat_map f acts ≡ [] → flat_map f ((acts ++ one ∷ []) ++ more) ≡ f one ++ flat_map f more
around f acts one more none = flat_map-append f (acts ++ one ∷ []) more
    ∙ ap (λ l. l ++ flat_map f more) (flat_map-append f acts (one ∷ []) ∙ ap (λ l. l ++ (f one ++ [])) none ∙ append-nil (f one))

one_short : (b : Bool) (x : Recipient) (count : ℕ) (kept : List Recipient) → length kept ≤ count → length (if b then x ∷ kept else kept) ≤ suc count
one_short true x count kept le = omega (arith, le)
one_short false x count kept le = omega (arith, le)

pub filter_short : (p : Recipient → Bool) (xs : List Recipient) → length (filter p xs) ≤ length xs
filter_short p [] = omega arith
filter_short p (x ∷ xs) = one_short (p x) x (length xs) (filter p xs) (filter_short p xs)

-- a run that ends before it has settled one of these mail objects
unsettled : (Premise : Type 0) (offer : Offer) (whole : List MailObject) (number size : ℕ) (mail_objects : List MailObject) (acts : List Act) (end : End) → All (IsOf number size) acts
    → All (IsFit offer whole) acts → is_finished end ≡ false → (Premise → 0 < open_in mail_objects) → Settles Premise offer whole number mail_objects (record { acts = acts; end = end })
unsettled Premise offer whole number size mail_objects acts end are fit unfinished left =
    let none : told_in acts ≡ 0 = ap length (nothing_in outcomes_in number size (no_outcome number size) acts are) in record {
      count = 0;
      few = omega arith;
      order = nothing_in numbers_in number size (no_number number size) acts are;
      each = fit;
      all = λ is. absurd (not_both (is_finished end) is unfinished);
      told = λ is. absurd (not_both (is_finished end) is unfinished);
      some = λ is given. let some = left given in omega (arith, none, some);
      most = omega (arith, none);
    }

followed_settles : (offer : Offer) (whole : List MailObject) (number : ℕ) (mail_object : MailObject) (mail_objects : List MailObject) → slice_get whole number ≡ Some mail_object → (next : List Reply → Run)
    → ((left : List Reply) → Settles (Unit {0}) offer whole (number + 1) mail_objects (next left)) → (exchange : Transaction) → Comes number (length (sent_to offer mail_object)) exchange
    → Settles (Unit {0}) offer whole number (mail_object ∷ mail_objects) (followed offer number mail_object exchange next)
followed_settles offer whole number mail_object mail_objects there next goes (done acts outcomes left) advance =
    let size : ℕ = length (sent_to offer mail_object) in
    let following : Settles (Unit {0}) offer whole (number + 1) mail_objects (next left) = goes left in
    let made : List Outcome = merged (map (plan_of offer mail_object) mail_object.recipients) outcomes in
    let made_all : length made ≡ length mail_object.recipients = merged_all (plan_of offer mail_object) mail_object.recipients outcomes advance.1 in
    let told : told_in ((acts ++ act.Settle number made ∷ []) ++ (next left).acts) ≡ length made + told_in (next left).acts =
    ap length (around outcomes_in acts (act.Settle number made) (next left).acts (nothing_in outcomes_in number size (no_outcome number size) acts advance.0))
    ∙ length-append made (flat_map outcomes_in (next left).acts) in
    let sum : open_in (mail_object ∷ mail_objects) ≡ length mail_object.recipients + open_in mail_objects = sum_by-cons (λ (one : MailObject). length one.recipients) mail_object mail_objects in record {
      count = suc following.count;
      few = omega (arith, following.few);
      order = around numbers_in acts (act.Settle number made) (next left).acts (nothing_in numbers_in number size (no_number number size) acts advance.0)
          ∙ ap (λ (l : List ℕ). number ∷ l) following.order;
      each = All-append (IsFit offer whole) (acts ++ act.Settle number made ∷ []) (next left).acts
          (All-append (IsFit offer whole) acts (act.Settle number made ∷ []) (All-weaker (IsOf number size) (IsFit offer whole) (fits offer whole number mail_object there) acts advance.0)
          (All-cons (IsFit offer whole) (act.Settle number made) [] (record { mail_object = mail_object; there = there; each = made_all }) (All-nil (IsFit offer whole)))) following.each;
      all = λ is. ap suc (following.all is);
      told = λ is. let rest = following.told is in omega (arith, told, made_all, sum, rest);
      some = λ is given. let rest = following.some is given in omega (arith, told, made_all, sum, rest);
      most = omega (arith, told, made_all, sum, following.most);
    }
followed_settles offer whole number mail_object mail_objects there next goes (ended acts end) advance =
    let size : ℕ = length (sent_to offer mail_object) in
    let sum : open_in (mail_object ∷ mail_objects) ≡ length mail_object.recipients + open_in mail_objects = sum_by-cons (λ (one : MailObject). length one.recipients) mail_object mail_objects in
    let short : length (sent_to offer mail_object) ≤ length mail_object.recipients = filter_short (λ recipient. is_sent (plan_of offer mail_object recipient)) mail_object.recipients in
    let some : 0 < size = advance.2 in
    unsettled (Unit {0}) offer whole number size (mail_object ∷ mail_objects) acts end advance.0
    (All-weaker (IsOf number size) (IsFit offer whole) (fits offer whole number mail_object there) acts advance.0) advance.1 (λ given. omega (arith, sum, short, some))

mail_objects_settle : (offer : Offer) (whole : List MailObject) (number : ℕ) (mail_objects : List MailObject) (replies : List Reply) → ((i : ℕ) → slice_get whole (number + i) ≡ slice_get mail_objects i)
    → Settles (Unit {0}) offer whole number mail_objects (mail_objects_run offer number mail_objects replies)
unfolding mail_objects_run
mail_objects_settle offer whole number [] replies there = record {
  count = 0;
  few = omega arith;
  order = refl;
  each = All-cons (IsFit offer whole) (act.Say _) [] tt (All-nil (IsFit offer whole));
  all = λ is. refl;
  told = λ is. refl;
  some = λ is given. absurd (not_both true refl is);
  most = omega arith;
}
mail_objects_settle offer whole number (mail_object ∷ mail_objects) replies there =
    let here : number ≡ number + 0 = omega arith in
    followed_settles offer whole number mail_object mail_objects (ap (slice_get whole) here ∙ there 0) (mail_objects_run offer (number + 1) mail_objects)
    (λ left. mail_objects_settle offer whole (number + 1) mail_objects left (λ i. let next : number + 1 + i ≡ number + suc i = omega arith in ap (slice_get whole) next ∙ there (suc i)))
    (mail_object_transaction offer number mail_object replies) (transaction_comes offer number mail_object (sent_to offer mail_object) replies)

-- ---- from the greeting on

eased : (Premise : Type 0) (offer : Offer) (whole : List MailObject) (number : ℕ) (mail_objects : List MailObject) (run : Run) → Settles (Unit {0}) offer whole number mail_objects run → Settles Premise offer whole number mail_objects run
eased Premise offer whole number mail_objects run settles = record {
  count = settles.count;
  few = settles.few;
  order = settles.order;
  each = settles.each;
  all = settles.all;
  told = settles.told;
  some = λ is given. settles.some is tt;
  most = settles.most;
}

said_before : (Premise : Type 0) (offer : Offer) (whole : List MailObject) (number : ℕ) (mail_objects : List MailObject) (octets : List ℕ) (run : Run) → Settles Premise offer whole number mail_objects run
    → Settles Premise offer whole number mail_objects (after_acts (act.Say octets ∷ []) run)
said_before Premise offer whole number mail_objects octets run settles = record {
  count = settles.count;
  few = settles.few;
  order = settles.order;
  each = All-cons (IsFit offer whole) (act.Say octets) run.acts tt settles.each;
  all = settles.all;
  told = settles.told;
  some = settles.some;
  most = settles.most;
}

either_settles : (Premise : Type 0) (offer : Offer) (whole : List MailObject) (number : ℕ) (mail_objects : List MailObject) (b : Bool) (one other : Run) → Settles Premise offer whole number mail_objects one
    → Settles Premise offer whole number mail_objects other → Settles Premise offer whole number mail_objects (if b then one else other)
either_settles Premise offer whole number mail_objects true one other settles others = settles
either_settles Premise offer whole number mail_objects false one other settles others = others

-- a run that ends before the first mail object
idles : (offer : Offer) (mail_objects : List MailObject) (end : End) → is_finished end ≡ false → Settles (0 < open_in mail_objects) offer mail_objects 0 mail_objects (record { acts = []; end = end })
idles offer mail_objects end unfinished = unsettled (0 < open_in mail_objects) offer mail_objects 0 0 mail_objects [] end (All-nil (IsOf 0 0)) (All-nil (IsFit offer mail_objects)) unfinished (λ some. some)

pub relay_settles : (name : List ℕ) (mail_objects : List MailObject) (replies : List Reply) → Settles (0 < open_in mail_objects) (offer_in replies) mail_objects 0 mail_objects (relay_of name mail_objects replies)
relay_settles name mail_objects [] = idles (offer_in []) mail_objects waits refl
relay_settles name mail_objects (greeting ∷ []) = let offer : Offer = offer_in (greeting ∷ []) in
    either_settles (0 < open_in mail_objects) offer mail_objects 0 mail_objects (is_completed greeting.code) _ _
    (said_before (0 < open_in mail_objects) offer mail_objects 0 mail_objects (ehlo_line name) (ehlo_run mail_objects []) (idles offer mail_objects waits refl)) (idles offer mail_objects (stopped greeting) refl)
relay_settles name mail_objects (greeting ∷ ehlo ∷ left) = let offer : Offer = offer_of ehlo in
    either_settles (0 < open_in mail_objects) offer mail_objects 0 mail_objects (is_completed greeting.code) _ _
    (said_before (0 < open_in mail_objects) offer mail_objects 0 mail_objects (ehlo_line name) (ehlo_run mail_objects (ehlo ∷ left))
    (either_settles (0 < open_in mail_objects) offer mail_objects 0 mail_objects (is_completed ehlo.code) _ _
    (eased (0 < open_in mail_objects) offer mail_objects 0 mail_objects (mail_objects_run offer 0 mail_objects left)
    (mail_objects_settle offer mail_objects 0 mail_objects left (λ i. let same : 0 + i ≡ i = omega arith in ap (slice_get mail_objects) same))) (idles offer mail_objects (stopped ehlo) refl)))
    (idles offer mail_objects (stopped greeting) refl)

-- ---- what the laws say

pub settled_in_order : (name : List ℕ) (mail_objects : List MailObject) (replies : List Reply)
    → (count : ℕ) × (count ≤ length mail_objects) × (flat_map numbers_in (relay_of name mail_objects replies).acts ≡ range_with_len 0 count)
settled_in_order name mail_objects replies =
    let settles : Settles (0 < open_in mail_objects) (offer_in replies) mail_objects 0 mail_objects (relay_of name mail_objects replies) = relay_settles name mail_objects replies in
    (settles.count, settles.few, settles.order)

pub settled_all : (name : List ℕ) (mail_objects : List MailObject) (replies : List Reply) → (relay_of name mail_objects replies).end ≡ finished
    → flat_map numbers_in (relay_of name mail_objects replies).acts ≡ range_with_len 0 (length mail_objects)
settled_all name mail_objects replies is =
    let settles : Settles (0 < open_in mail_objects) (offer_in replies) mail_objects 0 mail_objects (relay_of name mail_objects replies) = relay_settles name mail_objects replies in
    settles.order ∙ ap (range_with_len 0) (settles.all (ap is_finished is))

pub settled_whole : (name : List ℕ) (mail_objects : List MailObject) (replies : List Reply) (number : ℕ) (outcomes : List Outcome)
    → Contains (relay_of name mail_objects replies).acts (act.Settle number outcomes) → AreItsOutcomes mail_objects number outcomes
settled_whole name mail_objects replies number outcomes has =
    All-contains (IsFit (offer_in replies) mail_objects) (relay_of name mail_objects replies).acts (act.Settle number outcomes) (relay_settles name mail_objects replies).each has

pub none_left : (name : List ℕ) (mail_objects : List MailObject) (replies : List Reply) → (relay_of name mail_objects replies).end ≡ finished → left_count mail_objects (relay_of name mail_objects replies).acts ≡ 0
none_left name mail_objects replies is =
    let told : told_in (relay_of name mail_objects replies).acts ≡ open_in mail_objects = (relay_settles name mail_objects replies).told (ap is_finished is) in
    omega (arith, told)

pub told_most : (name : List ℕ) (mail_objects : List MailObject) (replies : List Reply) → told_in (relay_of name mail_objects replies).acts ≤ open_in mail_objects
told_most name mail_objects replies = (relay_settles name mail_objects replies).most

pub some_left : (name : List ℕ) (mail_objects : List MailObject) (replies : List Reply) → 0 < open_in mail_objects → left_count mail_objects (relay_of name mail_objects replies).acts ≡ 0
    → (relay_of name mail_objects replies).end ≡ finished
some_left name mail_objects replies some none = finished_is (relay_of name mail_objects replies).end
    (elim (is_finished (relay_of name mail_objects replies).end) as (λ b. is_finished (relay_of name mail_objects replies).end ≡ b → b ≡ true) [
      | true ↦ λ is. refl
      | false ↦ λ is. let left : told_in (relay_of name mail_objects replies).acts < open_in mail_objects = (relay_settles name mail_objects replies).some is some in absurd (omega (arith, left, none))
    ] refl)

pub sent_by_plan : (name : List ℕ) (mail_objects : List MailObject) (replies : List Reply) (number : ℕ) → Contains (relay_of name mail_objects replies).acts (act.SayData number)
    → IsSentToSome (offer_in replies) mail_objects number
sent_by_plan name mail_objects replies number has =
    All-contains (IsFit (offer_in replies) mail_objects) (relay_of name mail_objects replies).acts (act.SayData number) (relay_settles name mail_objects replies).each has

-- a header in UTF-8 goes to nobody without SMTPUTF8
none_sent : (offer : Offer) (demands : Demands) (recipients : List Recipient) → offer.smtputf8 ≡ false → demands.header ≡ true
    → filter (λ (recipient : Recipient). is_sent (plan_for demands recipient.form offer)) recipients ≡ []
none_sent offer demands [] isnt header = refl
none_sent offer demands (x ∷ recipients) isnt header = rw (isnt, header) (none_sent offer demands recipients isnt header)

pub header_by_offer : (name : List ℕ) (mail_objects : List MailObject) (replies : List Reply) (number : ℕ) (mail_object : MailObject) → Contains (relay_of name mail_objects replies).acts (act.SayData number)
    → slice_get mail_objects number ≡ Some mail_object → mail_object.demands.header ≡ true → (offer_in replies).smtputf8 ≡ true
header_by_offer name mail_objects replies number mail_object has there header =
    let sent : IsSentToSome (offer_in replies) mail_objects number = sent_by_plan name mail_objects replies number has in
    let same : sent.mail_object ≡ mail_object = search (sent.there, there) in
    let some : 0 < length (sent_to (offer_in replies) mail_object) = subst (λ (l : MailObject). 0 < length (sent_to (offer_in replies) l)) same sent.some in
    elim (offer_in replies).smtputf8 as (λ b. (offer_in replies).smtputf8 ≡ b → b ≡ true) [
      | true ↦ λ is. refl
      | false ↦ λ isnt. let none : length (sent_to (offer_in replies) mail_object) ≡ 0 = ap length (none_sent (offer_in replies) mail_object.demands mail_object.recipients isnt header) in absurd (omega (arith, some, none))
    ] refl
