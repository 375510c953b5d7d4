-- The end of the data: what is kept and what is answered.
use Rattle.std.proofs.Common.{◌≡◌, ℕ, zero, suc, ◌+◌, ◌<◌, ◌==◌, ◌&&◌, ◌||◌, length, length-append, arith, List, ◌++◌, Bool, true, false, not, cond, Option, None, Some, refl, sym, ap, subst, ◌∙◌}
use Rattle.std.specs.Prelude.{nat_lt, IsTrue, ◌↔◌}
use Rattle.std.proofs.lemmas.Bool.{both_ways}
use Rattle.std.proofs.lemmas.Bool.Decides.{nat_tests}
use Rattle.mail_wire.specs.Dots.{unstuffed}
use Rattle.mail_wire.specs.declared.outside.Fault.{Fault}
use Rattle.mail_store.specs.Changing.{IsDeliverable}
use Rattle.kept_mail.specs.Deliveries.{has_large_octets}
use Rattle.kept_mail.specs.Kept.{name_of}
use Rattle.mail_store.specs.StoreState.{StoreState}
use Rattle.journal_records.specs.Stored.{HasMark, IsStored}
use Rattle.journal_records.proofs.MarkLemmas.{mark_once, mark_stored}
use Rattle.mime_tree.specs.Openings.{IsOtherField}
use Rattle.kept_mail.specs.declared.delivery.Delivery.{Delivery}
use Rattle.session_core.specs.Around.{Around}
use Rattle.session_core.specs.Desks.{IsStoreName}
use Rattle.session_core.specs.Doing.{Does, Makes, Replies}
use Rattle.session_core.specs.Oracles.{Oracles, TellsMarks, TellsTrees}
use Rattle.session_core.specs.Moments.{IsMoment, Moment}
use Rattle.session_core.proofs.DoingLemmas.{Does-changes, Does-replies}
use Rattle.smtp_grammar.specs.Reading.{DataSay}
use Rattle.smtp_session.specs.declared.states.Client.{Client}
use Rattle.smtp_session.specs.declared.states.Envelope.{Envelope}
use Rattle.smtp_session.specs.Loops.{is_looping}
use Rattle.smtp_session.specs.Machine.{Step, acts_in, collecting, delivery_of, delivery_with, end_by, end_data, greeted, envelope_recipient_count, too_large, trace}
use Rattle.smtp_session.specs.Session.{KnowsState, line_octets, reply_octets}
use Rattle.smtp_session.specs.Trace.{return_path}
use Rattle.smtp_session.specs.declared.session.Accepted.{Accepted}
use Rattle.smtp_session.specs.declared.session.Judged.{Judged}
use Rattle.smtp_session.specs.private.Steps.{AreMarked, IsJudged, due_of}
use Rattle.smtp_session.proofs.KeptLemmas.{delivery-deliverable, received-other}

-- ---- the end of data that were dropped

-- with a recipient at least, larger octets are too large
large_by : (locals remotes max a b : ℕ) → 0 < locals + remotes → max < a → max < b → ((not (locals == 0) && nat_lt max a) || (not (remotes == 0) && nat_lt max b)) ≡ true
large_by locals remotes max a b some first second =
    let p : nat_lt max a ≡ true = grind (arith, nat_tests) in
    let q : nat_lt max b ≡ true = grind (arith, nat_tests) in
    rw (p, q) (one_of locals remotes some)
  where
    one_of : (l r : ℕ) → 0 < l + r → ((not (l == 0) && true) || (not (r == 0) && true)) ≡ true
    one_of zero zero more = absurd (omega (arith, more))
    one_of zero (suc r) more = let p : (suc r == 0) ≡ false = grind (arith, nat_tests) in rw p refl
    one_of (suc l) r more = let p : (suc l == 0) ≡ false = grind (arith, nat_tests) in rw p refl

-- more octets are after a front
longer_after : (front octets : List ℕ) (max : ℕ) → max < length octets → max < length (front ++ octets)
longer_after front octets max long = rw (length-append front octets) (omega (arith, long))

-- the first of two steps by a test
first_of : (large : Bool) (a b : Step) → large ≡ true → cond large a b ≡ a
first_of large a b p = rw p refl

-- data that say more octets than the limit are too large
too_large_is : (oracles : Oracles) (store : StoreState) (client : Client) (envelope : Envelope) (moment : Moment) (octets : List ℕ)
    → 0 < envelope_recipient_count envelope → store.message_max < length octets → end_data oracles store client envelope moment octets ≡ too_large (greeted client)
too_large_is oracles store client envelope moment octets some long =
    let from = trace store client envelope moment in
    first_of (has_large_octets store.message_max (delivery_of oracles store client envelope moment octets)) _ _
    (large_by (length envelope.local) (length envelope.remote) store.message_max _ _ some
    (longer_after (return_path envelope.path) (from ++ octets) store.message_max (longer_after from octets store.message_max long)) (longer_after from octets store.message_max long))

-- what was dropped is refused
pub dropped_is : (oracles : Oracles) (limit : ℕ) (store : StoreState) (client : Client) (envelope : Envelope) (moment : Moment) (lines : List ℕ) → KnowsState store (collecting client envelope)
    → limit ≡ store.message_max → DataSay limit lines None → end_data oracles store client envelope moment (unstuffed lines) ≡ too_large (greeted client)
dropped_is oracles limit store client envelope moment lines knows same says =
    let long = says in too_large_is oracles store client envelope moment (unstuffed lines) knows.2 (omega (arith, same, long))

-- what was read of data that were dropped
pub said_none : (limit : ℕ) (lines : List ℕ) (found : Option (List ℕ)) → ((content : List ℕ) → found ≡ Some content → ⊥) → DataSay limit lines found → DataSay limit lines None
said_none limit lines None none says = says
said_none limit lines (Some content) none says = absurd (none content refl)

-- the refusal was given, or a prefix of it
pub Does-refused : (a b : Around) (met : Option Fault) (client : Client) (taken : Step) → taken ≡ too_large (greeted client) → Replies a b met (reply_octets (too_large (greeted client)).reply)
    → Does line_octets a b met (acts_in taken)
Does-refused a b met client taken is replies = rw is (Does-replies line_octets a b met (too_large (greeted client)).reply replies)

-- ---- the end of data that were kept

-- the message was kept or refused, and the reply was given, or a prefix of it
pub Does-answered : (a b c : Around) (met : Option Fault) (taken : Step) (octets : List ℕ) → octets ≡ reply_octets taken.reply → Makes a b None taken.changes → Replies b c met octets
    → Does line_octets a c met (acts_in taken)
Does-answered a b c met taken octets is makes replies = Does-changes line_octets a b c met taken.changes taken.reply makes (rw (← is) replies)

-- what was done of a step was done of the same step
pub Does-same : (a b : Around) (met : Option Fault) (first taken : Step) → first ≡ taken → Does line_octets a b met (acts_in first) → Does line_octets a b met (acts_in taken)
Does-same a b met first taken is does = rw (← is) does

-- the marks of octets that are kept are told
same_mark : (mark_of : List ℕ → ℕ) (octets : List ℕ) (mark : ℕ) → TellsMarks mark_of → HasMark octets mark → mark ≡ mark_of octets
same_mark mark_of octets mark tells has = mark_once octets mark (mark_of octets) has (tells octets (mark_stored octets mark has))

-- of a message the same is due by the same marks
same_end : (store : StoreState) (client : Client) (envelope : Envelope) (moment : Moment) (octets : List ℕ) (is told loops looping : Bool) (local own_local remote own_remote : ℕ)
    → is ≡ told → loops ≡ looping → local ≡ own_local → remote ≡ own_remote
    → end_by is loops store client (delivery_with local remote store client envelope moment octets) ≡ end_by told looping store client (delivery_with own_local own_remote store client envelope moment octets)
same_end store client envelope moment octets is told loops looping local own_local remote own_remote p q r s = rw (p, q, r, s) refl

-- and where there is none by whatever marks
none_end : (store : StoreState) (client : Client) (envelope : Envelope) (moment : Moment) (octets : List ℕ) (told loops looping : Bool) (local own_local remote own_remote : ℕ) → told ≡ false
    → end_by false loops store client (delivery_with local remote store client envelope moment octets) ≡ end_by told looping store client (delivery_with own_local own_remote store client envelope moment octets)
none_end store client envelope moment octets told loops looping local own_local remote own_remote p = rw p refl

not_told : (P : Type 0) (b : Bool) → (IsTrue b ↔ P) → ¬ P → b ≡ false
not_told P true tells none = absurd (none (tells.0 refl))
not_told P false tells none = refl

-- by what was found of the content the same is due as by the oracles
found_due : (oracles : Oracles) (store : StoreState) (client : Client) (envelope : Envelope) (moment : Moment) (octets : List ℕ) (judged : Judged) (is_message : Bool) (local remote : ℕ)
    → judged.is_message ≡ is_message → TellsTrees oracles.has_tree → TellsMarks oracles.mark_of → IsJudged octets judged
    → (IsTrue judged.is_message → AreMarked (delivery_with local remote store client envelope moment octets))
    → end_by is_message judged.loops store client (delivery_with local remote store client envelope moment octets) ≡ end_data oracles store client envelope moment octets
found_due oracles store client envelope moment octets judged true local remote is trees marks found marked =
    let own = marked is in
    let after = trace store client envelope moment ++ octets in
    same_end store client envelope moment octets true (oracles.has_tree octets) judged.loops (is_looping octets) local (oracles.mark_of (return_path envelope.path ++ after)) remote (oracles.mark_of after)
    (sym ((trees octets).1 (found.message.0 is))) (found.loops is) (same_mark oracles.mark_of (return_path envelope.path ++ after) local marks own.local) (same_mark oracles.mark_of after remote marks own.remote)
found_due oracles store client envelope moment octets judged false local remote is trees marks found marked =
    let after = trace store client envelope moment ++ octets in
    let none : ¬ IsStored octets = λ stored. both_ways judged.is_message is (found.message.1 stored) in
    none_end store client envelope moment octets (oracles.has_tree octets) judged.loops (is_looping octets) local (oracles.mark_of (return_path envelope.path ++ after)) remote (oracles.mark_of after)
    (not_told (IsStored octets) (oracles.has_tree octets) (trees octets) none)

-- what is due by what was found is what is due at the end of the data
pub end_is : (oracles : Oracles) (limit : ℕ) (store : StoreState) (client : Client) (envelope : Envelope) (moment : Moment) (lines content octets : List ℕ) (accepted : Accepted)
    → TellsTrees oracles.has_tree → TellsMarks oracles.mark_of → DataSay limit lines (Some content) → octets ≡ content
    → accepted.delivery ≡ delivery_with accepted.delivery.local_mark accepted.delivery.remote_mark store client envelope moment octets
    → IsJudged octets accepted.judged → (IsTrue accepted.judged.is_message → AreMarked accepted.delivery)
    → due_of store client accepted ≡ end_data oracles store client envelope moment (unstuffed lines)
end_is oracles limit store client envelope moment lines content octets accepted trees marks says same made found marked =
    let delivery = accepted.delivery in
    ap (end_by accepted.judged.is_message accepted.judged.loops store client) made
    ∙ found_due oracles store client envelope moment octets accepted.judged accepted.judged.is_message delivery.local_mark delivery.remote_mark refl trees marks found
    (λ is. subst AreMarked made (marked is))
    ∙ ap (end_data oracles store client envelope moment) (same ∙ says.0)

-- and may be delivered
pub end_deliverable : (store : StoreState) (client : Client) (envelope : Envelope) (moment : Moment) (octets : List ℕ) (delivery : Delivery) → KnowsState store (collecting client envelope)
    → (seconds : ℕ) × IsMoment seconds moment → delivery ≡ delivery_with delivery.local_mark delivery.remote_mark store client envelope moment octets → AreMarked delivery → IsDeliverable store delivery
end_deliverable store client envelope moment octets delivery knows (seconds, is) made marked =
    subst (IsDeliverable store) (sym made)
    (delivery-deliverable store client envelope moment octets delivery.local_mark delivery.remote_mark seconds knows.1 is (subst AreMarked made marked))

-- the field that tells where the data came from is another field
pub end_trace : (store : StoreState) (client : Client) (envelope : Envelope) (moment : Moment) → KnowsState store (collecting client envelope) → IsStoreName (name_of store.kept)
    → (seconds : ℕ) × IsMoment seconds moment → IsOtherField (trace store client envelope moment)
end_trace store client envelope moment knows named (seconds, is) =
    received-other client.name (name_of store.kept) moment.date seconds knows.0 named is.date envelope.smtputf8 client.extended
