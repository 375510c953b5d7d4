-- The acts of a client's run over a queue: each is of an entry, they settle the entries in order, and a tally has room for them.
use Rattle.std.proofs.Common.{◌≡◌, ℕ, zero, suc, ◌+◌, ◌<◌, ◌≤◌, List, [], ◌∷◌, ◌++◌, length, None, Some, slice_get, refl, sym, ap, subst, ◌∙◌, arith}
use Rattle.std.specs.Prelude.{All, Contains, flat_map, sum_by}
use Rattle.std.specs.List.{AllZip, range_with_len}
use Rattle.std.proofs.lemmas.List.{length-map}
use Rattle.std.proofs.lemmas.List.Elements.{All-cons, All-contains_itself, All-nil, All-tail}
use Rattle.std.proofs.lemmas.Slice.Zip.{AllZip-long}
use Rattle.std.proofs.lemmas.List.FromFn.{length-range_with_len}
use Rattle.std.proofs.lemmas.List.Sums.{sum_by-cons}
use Rattle.kept_mail.specs.Kept.{Kept, name_of}
use Rattle.kept_mail.specs.declared.limits.TheConstants.{THINGS_MAX}
use Rattle.mail_store.specs.Queue.{told_count}
use Rattle.mail_store.specs.declared.queue.Queued.{Queued}
use Rattle.mail_store.specs.declared.queue.Unsettled.{Unsettled}
use Rattle.relay_choice.specs.MailObjects.{recipient_at}
use Rattle.relay_choice.specs.Relay.{left_count, outcomes_in, sent_count}
use Rattle.relay_choice.specs.Replies.{IsReply}
use Rattle.relay_choice.specs.Settling.{HasCode, numbers_in}
use Rattle.relay_choice.specs.declared.mail_objects.Act.{Act as ClientAct}
use Rattle.relay_choice.specs.declared.mail_objects.Act.TheVariants as act
use Rattle.relay_choice.specs.declared.mail_objects.MailObject.{MailObject}
use Rattle.relay_choice.specs.declared.replies.Reply.{Reply}
use Rattle.relay_choice.proofs.CodeLemmas.{reply_code, settled_fit}
use Rattle.relay_choice.proofs.SettlingLemmas.{sent_by_plan, settled_in_order, settled_whole, told_most}
use Rattle.session_core.specs.Around.{Around}
use Rattle.relay_session.specs.MailObjects.{IsMailObjectAt, Mailbag, addresses_of}
use Rattle.relay_session.specs.Relaying.{run_of}
use Rattle.relay_session.specs.declared.ends.Tally.{Tally}
use Rattle.relay_session.specs.private.Acting.{CanCount, IsActIn, SettleFrom, settled_count}
use Rattle.relay_session.proofs.ActsLemmas.{SettleFrom-rest}
use Rattle.relay_session.proofs.ListEnds.{heads, tails}
use Rattle.relay_session.proofs.TallyLemmas.{outcomes_in-append, sent_count-few, settled_count-append}

-- ---- the queue and its mail objects

mail_object_recipients : (kept : Kept) (queued : Queued) (mail_object : MailObject) → IsMailObjectAt kept queued mail_object → length mail_object.recipients ≡ length queued.unsettled
mail_object_recipients kept queued mail_object at =
    ap (λ (l : MailObject). length l.recipients) at.is ∙ length-map (addresses_of queued.unsettled) recipient_at ∙ length-map queued.unsettled (λ (one : Unsettled). one.address)

-- the entry of a mail object
record EntryAt (queue : List Queued) (number : ℕ) (mail_object : MailObject) : Type 0 where
  queued : Queued
  there : slice_get queue number ≡ Some queued
  each : length mail_object.recipients ≡ length queued.unsettled

same_mail_object : (one other : MailObject) → Some one ≡ Some other → one ≡ other
same_mail_object one other same = cc

none_there : (mail_object : MailObject) → None ≡ Some mail_object → ⊥
none_there mail_object same = cc

entry_at : (kept : Kept) (queue : List Queued) (mail_objects : List MailObject) (number : ℕ) (mail_object : MailObject) → AllZip (IsMailObjectAt kept) queue mail_objects → slice_get mail_objects number ≡ Some mail_object
    → EntryAt queue number mail_object
entry_at kept [] [] number mail_object all there = absurd (none_there mail_object there)
entry_at kept [] (x ∷ mail_objects) number mail_object all there = absurd all
entry_at kept (one ∷ queue) [] number mail_object all there = absurd all
entry_at kept (one ∷ queue) (x ∷ mail_objects) zero mail_object (at, all) there =
    record { queued = one; there = refl; each = ap (λ (l : MailObject). length l.recipients) (sym (same_mail_object x mail_object there)) ∙ mail_object_recipients kept one x at }
entry_at kept (one ∷ queue) (x ∷ mail_objects) (suc number) mail_object (at, all) there =
    let found = entry_at kept queue mail_objects number mail_object all there in
    record { queued = found.queued; there = found.there; each = found.each }

place_there : (mail_objects : List MailObject) (number : ℕ) (mail_object : MailObject) → slice_get mail_objects number ≡ Some mail_object → number < length mail_objects
place_there [] number mail_object there = absurd (none_there mail_object there)
place_there (x ∷ mail_objects) zero mail_object there = omega arith
place_there (x ∷ mail_objects) (suc number) mail_object there = let more = place_there mail_objects number mail_object there in omega (arith, more)

-- the mail objects have as many recipients as wait
pub mail_objects_open : (kept : Kept) (queue : List Queued) (mail_objects : List MailObject) → AllZip (IsMailObjectAt kept) queue mail_objects → sum_by (λ (mail_object : MailObject). length mail_object.recipients) mail_objects ≡ told_count queue
mail_objects_open kept [] [] all = refl
mail_objects_open kept [] (mail_object ∷ mail_objects) all = absurd all
mail_objects_open kept (one ∷ queue) [] all = absurd all
mail_objects_open kept (one ∷ queue) (mail_object ∷ mail_objects) (at, all) =
    let more = mail_objects_open kept queue mail_objects all in
    let own = mail_object_recipients kept one mail_object at in
    let left = sum_by-cons (λ (l : MailObject). length l.recipients) mail_object mail_objects in
    let right = sum_by-cons (λ (queued : Queued). length queued.unsettled) one queue in
    omega (arith, more, own, left, right)

-- ---- the acts of a run

-- the codes of replies that came
pub codes_of : (texts : List (List ℕ)) (replies : List Reply) → AllZip IsReply texts replies → All HasCode replies
codes_of [] [] all = All-nil HasCode
codes_of [] (reply ∷ replies) all = absurd all
codes_of (text ∷ texts) [] all = absurd all
codes_of (text ∷ texts) (reply ∷ replies) (is, all) = All-cons HasCode reply replies (reply_code text reply is) (codes_of texts replies all)

act_in : (before : Around) (bag : Mailbag before.desk.store.kept) (replies : List Reply) → All HasCode replies → (one : ClientAct) → Contains (run_of before bag.mail_objects replies).acts one → IsActIn bag.queue one
act_in before bag replies codes (act.Say octets) has = tt
act_in before bag replies codes (act.SayData number) has =
    let sent = sent_by_plan (name_of before.desk.store.kept) bag.mail_objects replies number has in
    let within = place_there bag.mail_objects number sent.mail_object sent.there in
    let long = AllZip-long (IsMailObjectAt before.desk.store.kept) bag.queue bag.mail_objects bag.are_mail_objects in
    omega (arith, within, long)
act_in before bag replies codes (act.Settle number outcomes) has =
    let its = settled_whole (name_of before.desk.store.kept) bag.mail_objects replies number outcomes has in
    let found = entry_at before.desk.store.kept bag.queue bag.mail_objects number its.mail_object bag.are_mail_objects its.there in
    (found.queued, found.there, its.each ∙ found.each, settled_fit (name_of before.desk.store.kept) bag.mail_objects replies number outcomes codes has)

pub acts_in : (before : Around) (bag : Mailbag before.desk.store.kept) (replies : List Reply) → All HasCode replies → All (IsActIn bag.queue) (run_of before bag.mail_objects replies).acts
acts_in before bag replies codes =
    λ k d lt. act_in before bag replies codes _ (All-contains_itself (run_of before bag.mail_objects replies).acts k d lt)

last_all : {X : Type 0} (P : X → Type 0) (xs ys : List X) → All P (xs ++ ys) → All P ys
last_all P [] ys all = all
last_all P (x ∷ xs) ys all = last_all P xs ys (All-tail P x (xs ++ ys) all)

no_number : (number : ℕ) (numbers : List ℕ) → number ∷ numbers ≡ [] → ⊥
no_number number numbers none = cc

SettleFrom-numbers : (place count : ℕ) (acts : List ClientAct) → flat_map numbers_in acts ≡ range_with_len place count → SettleFrom place acts
SettleFrom-numbers place count [] is = tt
SettleFrom-numbers place count (act.Say octets ∷ acts) is = SettleFrom-numbers place count acts is
SettleFrom-numbers place count (act.SayData number ∷ acts) is = SettleFrom-numbers place count acts is
SettleFrom-numbers place zero (act.Settle number outcomes ∷ acts) is = absurd (no_number number (flat_map numbers_in acts) is)
SettleFrom-numbers place (suc count) (act.Settle number outcomes ∷ acts) is = (
  heads is,
  SettleFrom-numbers (place + 1) count acts (tails is),
)

settled_numbers : (acts : List ClientAct) → settled_count acts ≡ length (flat_map numbers_in acts)
settled_numbers [] = refl
settled_numbers (act.Say octets ∷ acts) = settled_numbers acts
settled_numbers (act.SayData number ∷ acts) = settled_numbers acts
settled_numbers (act.Settle number outcomes ∷ acts) = let more = settled_numbers acts in omega (arith, more)

-- a run settles no more entries than there are mail objects
pub settled_few : (before : Around) (bag : Mailbag before.desk.store.kept) (replies : List Reply) → settled_count (run_of before bag.mail_objects replies).acts ≤ length bag.mail_objects
settled_few before bag replies =
    let acts = (run_of before bag.mail_objects replies).acts in
    let order = settled_in_order (name_of before.desk.store.kept) bag.mail_objects replies in
    let count = settled_numbers acts in
    let long = ap (λ (numbers : List ℕ). length numbers) order.2 ∙ length-range_with_len 0 order.0 in
    omega (arith, count, long, order.1)

-- ---- acts that are due

-- A reply came after others, and these acts are due to it.
pub record IsDue (before : Around) (bag : Mailbag before.desk.store.kept) (replies : List Reply) (reply : Reply) (acts : List ClientAct) : Type 0 where
  pub codes : All HasCode (replies ++ reply ∷ [])
  pub run_acts : (run_of before bag.mail_objects (replies ++ reply ∷ [])).acts ≡ (run_of before bag.mail_objects replies).acts ++ acts

pub due_in : (before : Around) (bag : Mailbag before.desk.store.kept) (replies : List Reply) (reply : Reply) (acts : List ClientAct) → IsDue before bag replies reply acts → All (IsActIn bag.queue) acts
due_in before bag replies reply acts due =
    last_all (IsActIn bag.queue) (run_of before bag.mail_objects replies).acts acts (subst (All (IsActIn bag.queue)) due.run_acts (acts_in before bag (replies ++ reply ∷ []) due.codes))

pub due_settle : (before : Around) (bag : Mailbag before.desk.store.kept) (replies : List Reply) (reply : Reply) (acts : List ClientAct) → IsDue before bag replies reply acts
    → SettleFrom (settled_count (run_of before bag.mail_objects replies).acts) acts
due_settle before bag replies reply acts due =
    let front = (run_of before bag.mail_objects replies).acts in
    let order = settled_in_order (name_of before.desk.store.kept) bag.mail_objects (replies ++ reply ∷ []) in
    let all : SettleFrom 0 (front ++ acts) = subst (SettleFrom 0) due.run_acts (SettleFrom-numbers 0 order.0 (run_of before bag.mail_objects (replies ++ reply ∷ [])).acts order.2) in
    let from : 0 + settled_count front ≡ settled_count front = omega arith in
    subst (λ (place : ℕ). SettleFrom place acts) from (SettleFrom-rest 0 front acts all)

-- what a tally has counted of these acts, and how much there is to count
pub record CountsSo (before : Around) (bag : Mailbag before.desk.store.kept) (acts : List ClientAct) (tally : Tally) : Type 0 where
  pub sent : tally.sent ≡ sent_count acts
  pub left : tally.left ≡ left_count bag.mail_objects acts
  pub reported : tally.reported ≤ settled_count acts
  pub few : told_count bag.queue ≤ THINGS_MAX
  pub few_mail_objects : length bag.mail_objects ≤ THINGS_MAX

pub due_room : (before : Around) (bag : Mailbag before.desk.store.kept) (replies : List Reply) (reply : Reply) (acts : List ClientAct) (tally : Tally) → IsDue before bag replies reply acts
    → CountsSo before bag (run_of before bag.mail_objects replies).acts tally → CanCount tally acts
due_room before bag replies reply acts tally due so =
    let front = (run_of before bag.mail_objects replies).acts in
    let all = (run_of before bag.mail_objects (replies ++ reply ∷ [])).acts in
    let told : length (flat_map outcomes_in all) ≤ sum_by (λ (mail_object : MailObject). length mail_object.recipients) bag.mail_objects = told_most (name_of before.desk.store.kept) bag.mail_objects (replies ++ reply ∷ []) in
    let same : length (flat_map outcomes_in all) ≡ length (flat_map outcomes_in (front ++ acts)) = ap (λ (l : List ClientAct). length (flat_map outcomes_in l)) due.run_acts in
    let parts = outcomes_in-append front acts in
    let sum = mail_objects_open before.desk.store.kept bag.queue bag.mail_objects bag.are_mail_objects in
    let few = sent_count-few front in
    let settled = settled_few before bag (replies ++ reply ∷ []) in
    let whole : settled_count all ≡ settled_count (front ++ acts) = ap settled_count due.run_acts in
    let halves = settled_count-append front acts in
    record {
      sent = omega (arith, so.sent, so.few, told, same, parts, sum, few);
      reported = omega (arith, so.reported, so.few_mail_objects, settled, whole, halves);
      left = omega (arith, so.left, told, same, parts);
    }
