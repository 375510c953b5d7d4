-- Messages that are asked for, one after another.
use Rattle.std.proofs.Common.{◌≡◌, ℕ, zero, suc, ◌+◌, ◌<◌, ◌≤◌, List, [], ◌∷◌, ◌++◌, length, take, get_or, true, false, Option, None, Some, Result, Ok, Err, refl, ap, subst, ◌∙◌, append-nil, arith, codes}
use Rattle.std.specs.Prelude.{slice_get, IfOk, OnErr}
use Rattle.std.specs.List.{AllByRecursion, flat_map}
use Rattle.std.proofs.lemmas.List.{take_all}
use Rattle.std.proofs.lemmas.Option.{slice_get_within}
use Rattle.std.proofs.lemmas.List.Concat.{flat_map-append}
use Rattle.mail_wire.specs.declared.values.Memory.{Memory}
use Rattle.mail_wire.specs.declared.outside.Fault.{Fault}
use Rattle.mail_wire.specs.declared.outside.Fault.TheVariants as fault
use Rattle.kept_mail.specs.Records.{IsLive}
use Rattle.kept_mail.specs.declared.kept.Listed.{Listed}
use Rattle.kept_mail.specs.declared.kept.Message.{Message}
use Rattle.mail_store.specs.StoreState.{StoreState}
use Rattle.surrogate_cache.specs.Caching.{Asked}
use Rattle.surrogate_rope.specs.Served.{shown_octets}
use Rattle.surrogate_rope.specs.declared.shown.Shown.{Shown}
use Rattle.surrogate_cache.specs.Served.{Mode, legacy, enabled, is_enabled, IsServed, served_by}
use Rattle.surrogate_cache.proofs.ServedLemmas.{IsServed-by}
use Rattle.session_core.specs.Around.{Around}
use Rattle.session_core.specs.Doing.{Asks, AsksAndReplies, Replies, wanting}
use Rattle.session_core.specs.Keeps.{Keeps, fault_of}
use Rattle.session_core.specs.Oracles.{Oracles, AreOracles}
use Rattle.session_core.proofs.AskingLemmas.{Asks-nil, Asks-then, AsksAndReplies-broken, AsksAndReplies-of, AsksAndReplies-replies}
use Rattle.session_core.proofs.KeepsLemmas.{Keeps-memory, Keeps-then}
use Rattle.pop_session.specs.declared.states.MaildropMessage.{MaildropMessage}
use Rattle.pop_session.specs.Machine.{asked_for, asked_for_left, left_of, listed_octets, retr_reply, size_of, top_length, top_reply}
use Rattle.pop_session.specs.Replies.{ended_lines, reply_octets}
use Rattle.pop_session.specs.States.{Knows}
use Rattle.pop_session.proofs.MaildropLemmas.{left-kept, left-marked}
use Rattle.pop_session.proofs.StoredReplies.{retr_stored}

-- one more message that isn't marked
pub asks_kept : (mode : Mode) (a b c : Around) (maildrop : List MaildropMessage) (place : ℕ) (d : MaildropMessage) → place < length maildrop → (get_or maildrop place d).deleted ≡ false
    → Asks a b None (asked_for_left mode a.desk.store (take place maildrop)) → Asks b c None (asked_for mode b.desk.store (get_or maildrop place d).listed)
    → Asks a c None (asked_for_left mode a.desk.store (take (place + 1) maildrop))
asks_kept mode a b c maildrop place d inside kept so_far one =
    let row = asked_for mode a.desk.store in
    let here = (get_or maildrop place d).listed in
    let before = left_of (take place maildrop) in
    let all : flat_map row (left_of (take (place + 1) maildrop)) ≡ flat_map row before ++ row here =
    ap (λ (l : List Listed). flat_map row l) (left-kept maildrop place d inside kept)
    ∙ flat_map-append row before (here ∷ [])
    ∙ ap (λ (l : List Asked). flat_map row before ++ l) (append-nil (row here)) in
    rw all (Asks-then a b c None (flat_map row before) (row here) so_far (subst (λ (store : StoreState). Asks b c None (asked_for mode store here)) so_far.store one))

-- a message that is marked isn't asked for
pub asks_marked : (mode : Mode) (a b : Around) (maildrop : List MaildropMessage) (place : ℕ) (d : MaildropMessage) → place < length maildrop → (get_or maildrop place d).deleted ≡ true
    → Asks a b None (asked_for_left mode a.desk.store (take place maildrop)) → Asks a b None (asked_for_left mode a.desk.store (take (place + 1) maildrop))
asks_marked mode a b maildrop place d inside marked so_far = rw (left-marked maildrop place d inside marked) so_far

-- all of them
pub asks_all : (mode : Mode) (a b : Around) (maildrop : List MaildropMessage) (place : ℕ) → length maildrop ≤ place
    → Asks a b None (asked_for_left mode a.desk.store (take place maildrop)) → Asks a b None (asked_for_left mode a.desk.store maildrop)
asks_all mode a b maildrop place past so_far = rw (take_all place maildrop past) at so_far

-- ---- messages that are shown

-- an enabled session is told the message as it is stored, and asks for none
pub stored_asks : (oracles : Oracles) (mode : Mode) (a b : Around) (met : Option Fault) (number : ℕ) (one : Listed) → is_enabled mode ≡ true
    → Replies a b met (codes "+OK\r\n" ++ ended_lines (listed_octets a.desk.store one))
    → AsksAndReplies a b met (asked_for mode a.desk.store one) (reply_octets oracles (retr_reply oracles mode a.desk.store number one))
stored_asks oracles legacy a b met number one is replies = cc
stored_asks oracles enabled a b met number one is replies =
    AsksAndReplies-replies a b met _ (rw (retr_stored oracles enabled a.desk.store number one refl) at replies)

-- a session is told so many octets of what it is shown of a message
gives_shown : (oracles : Oracles) (mode : Mode) (a b c : Around) (met : Option Fault) (one : Listed) (shown : List ℕ) (len want : ℕ) → Asks a b None (asked_for mode a.desk.store one)
    → shown ≡ served_by oracles.surrogate mode (listed_octets a.desk.store one) → len ≡ want → Replies b c met (codes "+OK\r\n" ++ ended_lines (take len shown))
    → AsksAndReplies a c met (asked_for mode a.desk.store one) (codes "+OK\r\n" ++ ended_lines (take want (served_by oracles.surrogate mode (listed_octets a.desk.store one))))
gives_shown oracles mode a b c met one shown len want asks served same replies =
    AsksAndReplies-of a b c met (asked_for mode a.desk.store one) _ asks
    (subst (λ (n : ℕ). Replies b c met (codes "+OK\r\n" ++ ended_lines (take n (served_by oracles.surrogate mode (listed_octets a.desk.store one))))) same
    (subst (λ (octets : List ℕ). Replies b c met (codes "+OK\r\n" ++ ended_lines (take len octets))) served replies))

-- what it is shown, where the store is as it was
shown_is : (oracles : Oracles) → AreOracles oracles → (mode : Mode) (a b : Around) (one : Listed) (octets : List ℕ) (shown : Shown) → Asks a b None (asked_for mode a.desk.store one)
    → IsServed mode (listed_octets a.desk.store one) (shown_octets (listed_octets a.desk.store one) shown) → octets ≡ listed_octets b.desk.store one
    → shown_octets octets shown ≡ served_by oracles.surrogate mode (listed_octets a.desk.store one)
shown_is oracles are mode a b one octets shown asks served is =
    ap (λ (msg : List ℕ). shown_octets msg shown) is ∙ ap (λ (store : StoreState). shown_octets (listed_octets store one) shown) asks.store
    ∙ IsServed-by oracles.surrogate are.surrogates mode (listed_octets a.desk.store one) (shown_octets (listed_octets a.desk.store one) shown) served

-- RETR
pub retr_shown : (oracles : Oracles) → AreOracles oracles → (mode : Mode) (a b c : Around) (met : Option Fault) (one : Listed) (octets : List ℕ) (shown : Shown) (len : ℕ)
    → Asks a b None (asked_for mode a.desk.store one) → IsServed mode (listed_octets a.desk.store one) (shown_octets (listed_octets a.desk.store one) shown) → octets ≡ listed_octets b.desk.store one
    → len ≡ length (shown_octets octets shown) → Replies b c met (codes "+OK\r\n" ++ ended_lines (take len (shown_octets (listed_octets b.desk.store one) shown)))
    → AsksAndReplies a c met (asked_for mode a.desk.store one) (reply_octets oracles (retr_reply oracles mode a.desk.store 0 one))
retr_shown oracles are mode a b c met one octets shown len asks served is size replies =
    gives_shown oracles mode a b c met one (shown_octets (listed_octets b.desk.store one) shown) len (size_of oracles mode a.desk.store one) asks
    (shown_is oracles are mode a b one (listed_octets b.desk.store one) shown asks served refl)
    (size ∙ ap (λ (l : List ℕ). length l) (shown_is oracles are mode a b one octets shown asks served is)) replies

-- TOP
pub top_shown : (oracles : Oracles) → AreOracles oracles → (mode : Mode) (a b c : Around) (met : Option Fault) (one : Listed) (octets : List ℕ) (shown : Shown) (len lines : ℕ)
    → Asks a b None (asked_for mode a.desk.store one) → IsServed mode (listed_octets a.desk.store one) (shown_octets (listed_octets a.desk.store one) shown) → octets ≡ listed_octets b.desk.store one
    → len ≡ top_length lines (shown_octets octets shown) → Replies b c met (codes "+OK\r\n" ++ ended_lines (take len (shown_octets (listed_octets b.desk.store one) shown)))
    → AsksAndReplies a c met (asked_for mode a.desk.store one) (reply_octets oracles (top_reply oracles mode a.desk.store lines 0 one))
top_shown oracles are mode a b c met one octets shown len lines asks served is size replies =
    gives_shown oracles mode a b c met one (shown_octets (listed_octets b.desk.store one) shown) len (top_length lines (served_by oracles.surrogate mode (listed_octets a.desk.store one))) asks
    (shown_is oracles are mode a b one (listed_octets b.desk.store one) shown asks served refl)
    (size ∙ ap (λ (l : List ℕ). top_length lines l) (shown_is oracles are mode a b one octets shown asks served is)) replies

-- ---- a text that is made of messages

-- the text that was made of what was asked for is given
pub asks_told : (a b c : Around) (met : Option Fault) (asked : List Asked) (given octets : List ℕ) → Asks a b None asked → given ≡ octets → Replies b c met given → AsksAndReplies a c met asked octets
asks_told a b c met asked given octets asks is replies = AsksAndReplies-of a b c met asked octets asks (subst (λ (l : List ℕ). Replies b c met l) is replies)

-- no message was asked for
pub asks_nothing : {T : Type 0} (a : Around) (made : Result T Memory) → Asks a a (wanting made) []
asks_nothing a (Ok text) = Asks-nil a
asks_nothing a (Err memory) = record { wire = refl; store = refl; keeper = refl; fetched = λ whole. cc }

-- a text is given, if it was made
pub text_told : {T : Type 0} (said : T → List ℕ) (a b c : Around) (made : Result T Memory) (result : Result (Unit {0}) Fault) (asked : List Asked) (octets : List ℕ) → Asks a b (wanting made) asked
    → IfOk made (λ text. said text ≡ octets) → IfOk made (λ text. Replies b c (fault_of result) (said text)) → OnErr made ((result ≡ Err fault.Memory) × (c ≡ b))
    → AsksAndReplies a c (fault_of result) asked octets
text_told said a b c (Ok text) result asked octets asks is told none = asks_told a b c (fault_of result) asked (said text) octets asks is told
text_told said a b c (Err memory) result asked octets asks is told none = rw (none.0, none.1) (AsksAndReplies-broken a b fault.Memory asked asked octets (λ bad. cc) asks)

pub text_keeps : {T : Type 0} (a b c : Around) (made : Result T Memory) (result : Result (Unit {0}) Fault) → Keeps a b (wanting made) → Keeps b c (fault_of result)
    → OnErr made ((result ≡ Err fault.Memory) × (c ≡ b)) → Keeps a c (fault_of result)
text_keeps a b c (Ok text) result before keeps none = Keeps-then a b c (fault_of result) before keeps
text_keeps a b c (Err memory) result before keeps none = rw (none.0, none.1) before

-- ---- want of memory

-- a call that had no memory asked for what it had asked for before
pub asks_lost : {T : Type 0} (a b : Around) (result : Result T Memory) (met : Option Fault) (asked others : List Asked) → wanting result ≡ Some fault.Memory → Asks a b met asked → Asks a b (wanting result) others
asks_lost a b result met asked others is asks = rw is (record { wire = asks.wire; store = asks.store; keeper = asks.keeper; fetched = λ whole. cc })

pub keeps_lost : {T : Type 0} (a b : Around) (result : Result T Memory) → wanting result ≡ Some fault.Memory → Keeps a b None → Keeps a b (wanting result)
keeps_lost a b result is keeps = rw is (Keeps-memory a b keeps)

-- what comes last may want memory
pub asks_ended : {T : Type 0} (a b : Around) (result : Result T Memory) (asked : List Asked) → Asks a b None asked → Asks a b (wanting result) asked
asks_ended a b (Ok x) asked asks = asks
asks_ended a b (Err memory) asked asks = record { wire = asks.wire; store = asks.store; keeper = asks.keeper; fetched = λ whole. cc }

pub keeps_ended : {T : Type 0} (a b : Around) (result : Result T Memory) → Keeps a b None → Keeps a b (wanting result)
keeps_ended a b (Ok x) keeps = keeps
keeps_ended a b (Err memory) keeps = Keeps-memory a b keeps

-- ---- the messages of a maildrop are there

live_within : (messages : List Message) (id : ℕ) (found : Option Message) → slice_get messages id ≡ found → IsLive found → id < length messages
live_within messages id None is live = absurd live
live_within messages id (Some message) is live = slice_get_within messages id message is

live_at : (messages : List Message) (maildrop : List MaildropMessage) (place : ℕ) (d : MaildropMessage) → AllByRecursion (λ one. IsLive (slice_get messages one.listed.id)) maildrop → place < length maildrop
    → IsLive (slice_get messages (get_or maildrop place d).listed.id)
live_at messages [] place d live inside = absurd (omega arith)
live_at messages (one ∷ maildrop) zero d live inside = live.0
live_at messages (one ∷ maildrop) (suc place) d live inside = live_at messages maildrop place d live.1 (omega arith)

-- so they are in a store that is as it was
pub known_at : (store now : StoreState) (maildrop : List MaildropMessage) (place : ℕ) (d : MaildropMessage) → Knows store maildrop → place < length maildrop → now ≡ store
    → (get_or maildrop place d).listed.id < length now.kept.messages
known_at store now maildrop place d knows inside is =
    rw is (live_within store.kept.messages (get_or maildrop place d).listed.id (slice_get store.kept.messages (get_or maildrop place d).listed.id) refl (live_at store.kept.messages maildrop place d knows.live inside))
