-- Commands on the messages of the folder that is selected.
use Rattle.std.proofs.Common.{◌≡◌, ℕ, ◌+◌, ◌<◌, Bool, true, false, List, [], ◌∷◌, ◌++◌, length, map, Option, Some, None, Result, Ok, Err, refl, sym, ap, subst, ◌∙◌, append-nil, append_assoc, arith, codes, nat_cmp, Less}
use Rattle.std.specs.Prelude.{◌==◌, ◌^◌, ◌↔◌, filter, slice_get, if◌then◌else◌, IfOk, IsNone, OnOk}
use Rattle.std.specs.Cmp.{nat_cmp_is}
use Rattle.std.specs.List.{All, AllByRecursion, IsDistinct, flat_map, list_all}
use Rattle.std.specs.List.Sorted.{IsStrictlyIncreasing, IsStrictlySortedBy}
use Rattle.std.specs.Option.{option_map_or}
use Rattle.std.proofs.lemmas.Bool.{cond-false, false_from_ne_true}
use Rattle.std.proofs.lemmas.List.{map-append}
use Rattle.std.proofs.lemmas.List.Concat.{flat_map-append}
use Rattle.std.proofs.lemmas.List.Elements.{All-from_recursion}
use Rattle.std.proofs.lemmas.Map.Keys.{IsStrictlyIncreasing-from_sorted}
use Rattle.mail_wire.specs.declared.outside.Fault.{Fault}
use Rattle.kept_mail.specs.declared.kept.Listed.{Listed}
use Rattle.kept_mail.specs.declared.kept.Message.{Message}
use Rattle.kept_mail.specs.Kept.{Kept, after_all, after_record, listed}
use Rattle.kept_mail.specs.Records.{IsLive}
use Rattle.journal_records.specs.declared.records.Record.TheVariants as records
use Rattle.mail_store.specs.Changing.{expunge_refusal, expunged, is_live}
use Rattle.mail_store.specs.StoreState.{StoreState, with_records}
use Rattle.mail_store.proofs.ChangeLemmas.{and_both}
use Rattle.mail_store.proofs.ListedLemmas.{id_of, listed_distinct, listed_live}
use Rattle.surrogate_cache.specs.Served.{Mode}
use Rattle.imap_grammar.specs.declared.command.Command.{Command}
use Rattle.imap_grammar.specs.declared.command.Command.TheVariants as command
use Rattle.imap_grammar.specs.declared.command.FetchItem.{FetchItem}
use Rattle.imap_grammar.specs.declared.command.Set.{Set}
use Rattle.imap_grammar.specs.declared.command.StoreOp.{StoreOp}
use Rattle.imap_mailboxes.specs.Sets.{called, chosen_from, chosen_places, is_in_set, is_refused, last_of}
use Rattle.session_core.specs.Acts.{Act, acts_of, changes, gives}
use Rattle.session_core.specs.Around.{Around}
use Rattle.session_core.specs.Changes.{calls_of}
use Rattle.session_core.specs.Doing.{Does, DoesFirst, Makes, Replies}
use Rattle.session_core.specs.Keeps.{fault_of}
use Rattle.session_core.specs.Oracles.{Oracles, WithOracles}
use Rattle.session_core.proofs.DoingLemmas.{Does-changes, Does-unchanged, DoesFirst-before}
use Rattle.imap_session.specs.Machine.{Context, Fetch, Numbered, Selection, State, Step, Store, chosen, close_step, closing_up, deleted_ids, done, ends_with, expunge_step, fetch_one, fetch_step, fetching_in, for_each, is_deleted, mailbox_step, no_such_message, numbered_at, refused_as_read_only, reply, selected, selected_step, store_one, store_step, tagged, taken_out}
use Rattle.imap_session.specs.Replies.{ReplyPart, part_octets, reply_octets}
use Rattle.imap_session.specs.Session.{KnowsFolder, KnowsNext, TakesStep, selection_of, state_or_ended}
use Rattle.imap_session.specs.declared.states.ImapState.{ImapState}
use Rattle.imap_session.specs.declared.states.Selected.{Selected}
use Rattle.imap_session.specs.private.Lines.{tagged_octets}
use Rattle.imap_session.specs.private.Pending.{Carries}
use Rattle.imap_session.specs.private.Selected.{AreListed}
use Rattle.imap_session.proofs.LineLemmas.{tagged_reply}
use Rattle.imap_session.proofs.PendingLemmas.{Carries-parts, Owes-given, Owes-nil}
use Rattle.imap_session.proofs.StepLemmas.{says_given}

-- ---- the messages of a folder

pub are_live : (kept : Kept) (messages : List Listed) → AreListed kept messages → All (λ one. IsLive (slice_get kept.messages one.id)) messages
are_live kept messages listing =
    subst (λ (l : List Listed). All (λ one. IsLive (slice_get kept.messages one.id)) l) (sym listing.are)
    (All-from_recursion (λ (one : Listed). IsLive (slice_get kept.messages one.id)) (listed kept listing.folder) (listed_live kept listing.folder))

-- ---- the places of a set

above_if : (low : ℕ) (here : Bool) (place : ℕ) (places : List ℕ) → low < place → AllByRecursion (λ other. nat_cmp low other ≡ Less) places
    → AllByRecursion (λ other. nat_cmp low other ≡ Less) (if here then place ∷ places else places)
above_if low true place places above rest = (sym (nat_cmp_is low place Less above), rest)
above_if low false place places above rest = rest

chosen_above : (by_uid : Bool) (last : ℕ) (set : Set) (low place : ℕ) (messages : List Listed) → low < place → AllByRecursion (λ other. nat_cmp low other ≡ Less) (chosen_from by_uid last set place messages)
chosen_above by_uid last set low place [] above = tt
chosen_above by_uid last set low place (one ∷ others) above =
    above_if low (is_in_set last set (called by_uid place one)) place (chosen_from by_uid last set (place + 1) others) above
    (chosen_above by_uid last set low (place + 1) others (omega (arith, above)))

sorted_if : (here : Bool) (place : ℕ) (places : List ℕ) → AllByRecursion (λ other. nat_cmp place other ≡ Less) places → IsStrictlySortedBy nat_cmp places
    → IsStrictlySortedBy nat_cmp (if here then place ∷ places else places)
unfolding IsStrictlySortedBy
sorted_if true place places above rest = (above, rest)
sorted_if false place places above rest = rest

chosen_sorted : (by_uid : Bool) (last : ℕ) (set : Set) (place : ℕ) (messages : List Listed) → IsStrictlySortedBy nat_cmp (chosen_from by_uid last set place messages)
unfolding IsStrictlySortedBy
chosen_sorted by_uid last set place [] = tt
chosen_sorted by_uid last set place (one ∷ others) =
    sorted_if (is_in_set last set (called by_uid place one)) place (chosen_from by_uid last set (place + 1) others)
    (chosen_above by_uid last set place (place + 1) others (omega arith)) (chosen_sorted by_uid last set (place + 1) others)

-- they are in the order of the folder
pub chosen_rise : (by_uid : Bool) (set : Set) (messages : List Listed) → IsStrictlyIncreasing (chosen_places by_uid set messages)
unfolding chosen_places
chosen_rise by_uid set messages =
    IsStrictlyIncreasing-from_sorted (chosen_from by_uid (last_of by_uid messages) set 0 messages) (chosen_sorted by_uid (last_of by_uid messages) set 0 messages)

-- ---- the line after acts

-- what was pending of them was given with it
pub pending_ends : (oracles : Oracles) (a b c : Around) (met : Option Fault) (tag words : List ℕ) (acts : List (Act ReplyPart)) (pending : List ℕ) → Carries (part_octets oracles) a b None [] pending acts
    → Replies b c met (pending ++ tagged_octets tag words) → Does (part_octets oracles) a c met (acts ++ reply (tagged tag words ∷ []))
pending_ends oracles a b c met tag words acts pending carries replies =
    let spelled = part_octets oracles in
    let last = tagged tag words ∷ [] in
    let whole = pending ++ tagged_octets tag words in
    let owes = Carries-parts spelled b pending whole last (ap (λ (z : List ℕ). pending ++ z) (sym (tagged_reply oracles tag words))) a acts (carries a [] (Owes-nil spelled a)) in
    Owes-given spelled a b c met (acts ++ reply last) whole replies owes

-- a fault came before it
pub pending_broken : (oracles : Oracles) (a b : Around) (met : Fault) (tag words : List ℕ) (acts : List (Act ReplyPart)) (owes : List ℕ) → Carries (part_octets oracles) a b (Some met) [] owes acts
    → DoesFirst (part_octets oracles) a b met (acts ++ reply (tagged tag words ∷ []))
pending_broken oracles a b met tag words acts owes carries =
    DoesFirst-before (part_octets oracles) a b met acts (reply (tagged tag words ∷ [])) (carries a [] (Owes-nil (part_octets oracles) a))

-- ---- a set

pub set_refused : (oracles : Oracles) (a b : Around) (met : Option Fault) (tag : List ℕ) (state : State) (by_uid : Bool) (set : Set) (messages : List Listed) (act : Numbered → List (Act ReplyPart))
    → is_refused by_uid set messages ≡ true → Replies a b met (tagged_octets tag (codes "BAD no such message")) → Does (part_octets oracles) a b met (for_each tag state by_uid set messages act).acts
set_refused oracles a b met tag state by_uid set messages act refused replies = rw refused (says_given oracles a b met tag (codes "BAD no such message") state replies)

pub set_taken : (oracles : Oracles) (a b : Around) (met : Option Fault) (tag : List ℕ) (state : State) (by_uid : Bool) (set : Set) (messages : List Listed) (act : Numbered → List (Act ReplyPart)) (places : List ℕ)
    → is_refused by_uid set messages ≡ false → places ≡ chosen_places by_uid set messages → Does (part_octets oracles) a b met (ends_with tag done (flat_map act (flat_map (numbered_at messages) places)) state).acts
    → Does (part_octets oracles) a b met (for_each tag state by_uid set messages act).acts
set_taken oracles a b met tag state by_uid set messages act places refused are does =
    rw refused (subst (λ (l : List ℕ). Does (part_octets oracles) a b met (ends_with tag done (flat_map act (flat_map (numbered_at messages) l)) state).acts) are does)

-- whether it was refused, by whether there are places
pub none_refused : {X : Type 0} (places : Option X) (refused : Bool) → (IsNone places ↔ (refused ≡ true)) → places ≡ None → refused ≡ true
none_refused places refused told is = told.0 (rw is refl)

pub some_taken : {X : Type 0} (places : Option X) (v : X) (refused : Bool) → (IsNone places ↔ (refused ≡ true)) → places ≡ Some v → refused ≡ false
some_taken places v refused told is = false_from_ne_true refused (λ yes. (let none : IsNone (Some v) = rw is at (told.1 yes) in absurd cc))

-- ---- FETCH and STORE

pub fetch_taken : (context : Context) (selection : Selection) (fetch : Fetch) (a b : Around) (met : Option Fault) (messages : List Listed) → messages ≡ listed context.store.kept selection.folder
    → Does (part_octets context.oracles) a b met (for_each context.tag (selected selection) fetch.by_uid fetch.set messages (fetch_one context.oracles context.store (fetching_in selection fetch))).acts
    → Does (part_octets context.oracles) a b met (fetch_step context selection fetch).acts
fetch_taken context selection fetch a b met messages are does =
    let act = fetch_one context.oracles context.store (fetching_in selection fetch) in
    subst (λ (l : List Listed). Does (part_octets context.oracles) a b met (for_each context.tag (selected selection) fetch.by_uid fetch.set l act).acts) are does

pub store_refused : (context : Context) (selection : Selection) (store : Store) (a b : Around) (met : Option Fault) → selection.read_only ≡ true
    → Replies a b met (tagged_octets context.tag (codes "NO read only")) → Does (part_octets context.oracles) a b met (store_step context selection store).acts
store_refused context selection store a b met closed replies = rw closed (says_given context.oracles a b met context.tag (codes "NO read only") (selected selection) replies)

pub store_taken : (context : Context) (selection : Selection) (store : Store) (a b : Around) (met : Option Fault) (messages : List Listed) → selection.read_only ≡ false
    → messages ≡ listed context.store.kept selection.folder
    → Does (part_octets context.oracles) a b met (for_each context.tag (selected selection) store.by_uid store.set messages (store_one store.by_uid store.silent store.op store.flags)).acts
    → Does (part_octets context.oracles) a b met (store_step context selection store).acts
store_taken context selection store a b met messages free are does =
    let state = selected selection in
    let act = store_one store.by_uid store.silent store.op store.flags in
    let taken = for_each context.tag state store.by_uid store.set (listed context.store.kept selection.folder) act in
    subst (λ (step : Step). Does (part_octets context.oracles) a b met step.acts) (sym (cond-false selection.read_only (refused_as_read_only context.tag state) taken free))
    (subst (λ (l : List Listed). Does (part_octets context.oracles) a b met (for_each context.tag state store.by_uid store.set l act).acts) are does)

-- ---- what goes

all_if : (P : ℕ → Type 0) (gone : Bool) (one : Listed) (others : List Listed) → P one.id → AllByRecursion P (map id_of others) → AllByRecursion P (map id_of (if gone then one ∷ others else others))
all_if P true one others this rest = (this, rest)
all_if P false one others this rest = rest

-- what holds of all numbers holds of those of the messages that go
all_deleted : (P : ℕ → Type 0) (messages : List Listed) → AllByRecursion P (map id_of messages) → AllByRecursion P (deleted_ids messages)
all_deleted P [] all = tt
all_deleted P (one ∷ others) all = all_if P (is_deleted one) one (filter is_deleted others) all.0 (all_deleted P others all.1)

distinct_if : (gone : Bool) (one : Listed) (others : List Listed) → AllByRecursion (λ other. (one.id == other) ≡ false) (map id_of others) → IsDistinct (λ a b. a == b) (map id_of others)
    → IsDistinct (λ a b. a == b) (map id_of (if gone then one ∷ others else others))
unfolding IsDistinct
distinct_if true one others differ rest = (differ, rest)
distinct_if false one others differ rest = rest

ids_distinct : (messages : List Listed) → IsDistinct (λ a b. a == b) (map id_of messages) → IsDistinct (λ a b. a == b) (deleted_ids messages)
unfolding IsDistinct
ids_distinct [] distinct = tt
ids_distinct (one ∷ others) distinct =
    distinct_if (is_deleted one) one (filter is_deleted others) (all_deleted (λ other. (one.id == other) ≡ false) others distinct.0) (ids_distinct others distinct.1)

-- no message goes twice
pub deleted_distinct : (kept : Kept) (messages : List Listed) → AreListed kept messages → IsDistinct (λ a b. a == b) (deleted_ids messages)
deleted_distinct kept messages listing =
    ids_distinct messages (subst (λ (l : List Listed). IsDistinct (λ a b. a == b) (map id_of l)) (sym listing.are) (listed_distinct kept listing.folder))

live_is : (found : Option Message) → IsLive found → option_map_or (λ (message : Message). message.live) found false ≡ true
live_is None live = absurd live
live_is (Some message) live = live

live_if : (kept : Kept) (gone : Bool) (one : Listed) (others : List Listed) → IsLive (slice_get kept.messages one.id) → list_all (is_live kept) (map id_of others) ≡ true
    → list_all (is_live kept) (map id_of (if gone then one ∷ others else others)) ≡ true
live_if kept true one others live rest = and_both (is_live kept one.id) (list_all (is_live kept) (map id_of others)) (live_is (slice_get kept.messages one.id) live) rest
live_if kept false one others live rest = rest

ids_live : (kept : Kept) (messages : List Listed) → AllByRecursion (λ one. IsLive (slice_get kept.messages one.id)) messages → list_all (is_live kept) (deleted_ids messages) ≡ true
ids_live kept [] live = refl
ids_live kept (one ∷ others) live = live_if kept (is_deleted one) one (filter is_deleted others) live.0 (ids_live kept others live.1)

-- all that go are there
pub deleted_unrefused : (kept : Kept) (messages : List Listed) → AreListed kept messages → expunge_refusal kept (deleted_ids messages) ≡ None
deleted_unrefused kept messages listing =
    let live : list_all (is_live kept) (deleted_ids messages) ≡ true =
    ids_live kept messages (subst (λ (l : List Listed). AllByRecursion (λ one. IsLive (slice_get kept.messages one.id)) l) (sym listing.are) (listed_live kept listing.folder)) in
    rw live refl

-- ---- the store after it

-- the store has as many accounts and folders as before
pub record HasCounts (old new : StoreState) : Type 0 where
  pub accounts : length new.kept.accounts ≡ length old.kept.accounts
  pub folders : length new.kept.folders ≡ length old.kept.folders

pub counts_expunged : (kept : Kept) (ids : List ℕ) → (length (after_all kept (expunged ids)).accounts ≡ length kept.accounts) × (length (after_all kept (expunged ids)).folders ≡ length kept.folders)
counts_expunged kept [] = (refl, refl)
counts_expunged kept (id ∷ ids) = counts_expunged (after_record kept (records.Expunge id)) ids

counts_of : (old new : StoreState) (ids : List ℕ) → new ≡ with_records old (expunged ids) → HasCounts old new
counts_of old new ids is = record {
  accounts = ap (λ (store : StoreState). length store.kept.accounts) is ∙ (counts_expunged old.kept ids).0;
  folders = ap (λ (store : StoreState). length store.kept.folders) is ∙ (counts_expunged old.kept ids).1;
}

pub counts_made : (a b : Around) (ids : List ℕ) → Makes a b None (calls_of (expunged ids)) → HasCounts a.desk.store b.desk.store
counts_made a b [] makes = counts_of a.desk.store b.desk.store [] makes.changes.store
counts_made a b (id ∷ ids) makes = counts_of a.desk.store b.desk.store (id ∷ ids) (rw append-nil at makes.changes.store)

-- ---- EXPUNGE and CLOSE

calls_taken : (ids : List ℕ) → map changes (calls_of (expunged ids)) ≡ taken_out ids
calls_taken [] = refl
calls_taken (id ∷ ids) = refl

acts_taken : (ids : List ℕ) (parts : List ReplyPart) (tag words : List ℕ) → acts_of (calls_of (expunged ids)) (parts ++ tagged tag words ∷ []) ≡ (taken_out ids ++ reply parts) ++ reply (tagged tag words ∷ [])
acts_taken ids parts tag words =
    ap (λ z. z ++ map gives (parts ++ tagged tag words ∷ [])) (calls_taken ids)
    ∙ (ap (λ z. taken_out ids ++ z) (map-append gives parts (tagged tag words ∷ [])) ∙ sym (append_assoc (taken_out ids) (map gives parts) (map gives (tagged tag words ∷ []))))

-- messages went, and then these lines were given, and the one that ends the replies
pub taken_told : (oracles : Oracles) (a b c : Around) (met : Option Fault) (tag words ids : List ℕ) (parts : List ReplyPart) (lines : List ℕ) → lines ≡ reply_octets oracles parts
    → Makes a b None (calls_of (expunged ids)) → Replies b c met (lines ++ tagged_octets tag words) → Does (part_octets oracles) a c met ((taken_out ids ++ reply parts) ++ reply (tagged tag words ∷ []))
taken_told oracles a b c met tag words ids parts lines are makes replies =
    let spelled = part_octets oracles in
    let last = tagged tag words ∷ [] in
    let whole : lines ++ tagged_octets tag words ≡ flat_map spelled (parts ++ last) =
    ap (λ z. z ++ tagged_octets tag words) are ∙ (ap (λ z. reply_octets oracles parts ++ z) (sym (tagged_reply oracles tag words)) ∙ sym (flat_map-append spelled parts last)) in
    subst (λ (z : List (Act ReplyPart)). Does spelled a c met z) (acts_taken ids parts tag words)
    (Does-changes spelled a b c met (calls_of (expunged ids)) (parts ++ last) makes (subst (λ octets. Replies b c met octets) whole replies))

-- a fault broke it off before anything was told
pub taken_broken : (oracles : Oracles) (a b : Around) (met : Fault) (tag words ids : List ℕ) (parts : List ReplyPart) → Makes a b (Some met) (calls_of (expunged ids))
    → DoesFirst (part_octets oracles) a b met ((taken_out ids ++ reply parts) ++ reply (tagged tag words ∷ []))
taken_broken oracles a b met tag words ids parts makes =
    subst (λ (z : List (Act ReplyPart)). DoesFirst (part_octets oracles) a b met z) (acts_taken ids parts tag words)
    (Does-unchanged (part_octets oracles) a b met (calls_of (expunged ids)) (parts ++ tagged tag words ∷ []) makes)

-- the same where there are no lines before the last
pub taken_silently : (oracles : Oracles) (a b c : Around) (met : Option Fault) (tag words ids : List ℕ) → Makes a b None (calls_of (expunged ids)) → Replies b c met (tagged_octets tag words)
    → Does (part_octets oracles) a c met (taken_out ids ++ reply (tagged tag words ∷ []))
taken_silently oracles a b c met tag words ids makes replies =
    subst (λ (z : List (Act ReplyPart)). Does (part_octets oracles) a c met (z ++ reply (tagged tag words ∷ []))) (append-nil (taken_out ids)) (taken_told oracles a b c met tag words ids [] [] refl makes replies)

pub silently_broken : (oracles : Oracles) (a b : Around) (met : Fault) (tag words ids : List ℕ) → Makes a b (Some met) (calls_of (expunged ids))
    → DoesFirst (part_octets oracles) a b met (taken_out ids ++ reply (tagged tag words ∷ []))
silently_broken oracles a b met tag words ids makes =
    subst (λ (z : List (Act ReplyPart)). DoesFirst (part_octets oracles) a b met (z ++ reply (tagged tag words ∷ []))) (append-nil (taken_out ids)) (taken_broken oracles a b met tag words ids [] makes)

pub expunge_refused : (oracles : Oracles) (a b : Around) (met : Option Fault) (tag : List ℕ) (state : State) (read_only : Bool) (messages : List Listed) → read_only ≡ true
    → Replies a b met (tagged_octets tag (codes "NO read only")) → Does (part_octets oracles) a b met (expunge_step tag state read_only messages).acts
expunge_refused oracles a b met tag state read_only messages closed replies = rw closed (says_given oracles a b met tag (codes "NO read only") state replies)

pub expunge_broken : (oracles : Oracles) (a b : Around) (met : Fault) (tag : List ℕ) (state : State) (read_only : Bool) (messages : List Listed) → read_only ≡ false
    → Makes a b (Some met) (calls_of (expunged (deleted_ids messages))) → DoesFirst (part_octets oracles) a b met (expunge_step tag state read_only messages).acts
expunge_broken oracles a b met tag state read_only messages free makes = rw free (taken_broken oracles a b met tag done (deleted_ids messages) (closing_up 1 messages) makes)

pub expunge_told : (oracles : Oracles) (a b c : Around) (met : Option Fault) (tag : List ℕ) (state : State) (read_only : Bool) (messages : List Listed) (lines : List ℕ) → read_only ≡ false
    → lines ≡ reply_octets oracles (closing_up 1 messages) → Makes a b None (calls_of (expunged (deleted_ids messages))) → Replies b c met (lines ++ tagged_octets tag done)
    → Does (part_octets oracles) a c met (expunge_step tag state read_only messages).acts
expunge_told oracles a b c met tag state read_only messages lines free are makes replies =
    rw free (taken_told oracles a b c met tag done (deleted_ids messages) (closing_up 1 messages) lines are makes replies)

pub close_kept : (oracles : Oracles) (a b : Around) (met : Option Fault) (tag : List ℕ) (state : State) (read_only : Bool) (messages : List Listed) → read_only ≡ true → Replies a b met (tagged_octets tag done)
    → Does (part_octets oracles) a b met (close_step tag state read_only messages).acts
close_kept oracles a b met tag state read_only messages closed replies = rw closed (says_given oracles a b met tag done state replies)

pub close_broken : (oracles : Oracles) (a b : Around) (met : Fault) (tag : List ℕ) (state : State) (read_only : Bool) (messages : List Listed) → read_only ≡ false
    → Makes a b (Some met) (calls_of (expunged (deleted_ids messages))) → DoesFirst (part_octets oracles) a b met (close_step tag state read_only messages).acts
close_broken oracles a b met tag state read_only messages free makes = rw free (silently_broken oracles a b met tag done (deleted_ids messages) makes)

pub close_told : (oracles : Oracles) (a b c : Around) (met : Option Fault) (tag : List ℕ) (state : State) (read_only : Bool) (messages : List Listed) → read_only ≡ false
    → Makes a b None (calls_of (expunged (deleted_ids messages))) → Replies b c met (tagged_octets tag done) → Does (part_octets oracles) a c met (close_step tag state read_only messages).acts
close_told oracles a b c met tag state read_only messages free makes replies = rw free (taken_silently oracles a b c met tag done (deleted_ids messages) makes replies)

-- the folder with the list that was read anew
pub knows_anew : (a b c : Around) (account folder : ℕ) (were are : List Listed) → HasCounts a.desk.store b.desk.store → c.desk ≡ b.desk → KnowsFolder a.desk.store account folder were
    → are ≡ listed b.desk.store.kept folder → length are < 2 ^ 32 → KnowsFolder c.desk.store account folder are
knows_anew a b c account folder were are counts same knows is few =
    rw same (record {
      account_is = rw counts.accounts knows.account_is;
      folder_is = rw counts.folders knows.folder_is;
      messages_are = is;
      few = few;
    })

-- what holds whatever is answered
pub on_ok : {T E : Type 0} (result : Result T E) (P : Type 0) → P → OnOk result P
on_ok (Ok x) P holds = holds
on_ok (Err met) P holds = tt

pub on_ok_then : {T E : Type 0} (result : Result T E) (P Q : Type 0) → (P → Q) → OnOk result P → OnOk result Q
on_ok_then (Ok x) P Q so holds = so holds
on_ok_then (Err met) P Q so holds = tt

-- ---- the state after a command

-- what was done is told, and the session after it is in this state
pub Takes-state : (a b : Around) (met : Option Fault) (result : Result (Option ImapState) Fault) (state : State) (taken : Oracles → Step) → WithOracles (λ oracles. Does (part_octets oracles) a b met (taken oracles).acts)
    → ((oracles : Oracles) → state ≡ (taken oracles).state) → fault_of result ≡ met → IfOk result (λ next. state_or_ended next ≡ state) → IfOk result (KnowsNext b.desk.store) → TakesStep a b result taken
Takes-state a b met (Ok next) state taken does states is next_is known = record {
  does = λ oracles are. subst (λ (m : Option Fault). Does (part_octets oracles) a b m (taken oracles).acts) (sym is) (does oracles are);
  next = λ oracles are. next_is ∙ states oracles;
  known = known;
}
Takes-state a b met (Err stopped) state taken does states is next_is known = record {
  does = λ oracles are. subst (λ (m : Option Fault). Does (part_octets oracles) a b m (taken oracles).acts) (sym is) (does oracles are);
  next = λ oracles are. tt;
  known = tt;
}

-- the same where the folder stays selected
pub Takes-stays : (a b : Around) (met : Option Fault) (result : Result (Option ImapState) Fault) (mode : Mode) (was is : Selected) (taken : Oracles → Step) → is ≡ record was { messages = is.messages }
    → WithOracles (λ oracles. Does (part_octets oracles) a b met (taken oracles).acts) → ((oracles : Oracles) → selected (selection_of mode was) ≡ (taken oracles).state) → fault_of result ≡ met
    → IfOk result (λ next. state_or_ended next ≡ selected (selection_of mode is)) → IfOk result (KnowsNext b.desk.store) → TakesStep a b result taken
Takes-stays a b met result mode was is taken same does states told next_is known =
    let state = selected (selection_of mode was) in
    let kept : selected (selection_of mode is) ≡ state = ap (λ (one : Selected). selected (selection_of mode one)) same in
    Takes-state a b met result state taken does states told (subst (λ (s : State). IfOk result (λ next. state_or_ended next ≡ s)) kept next_is) known

-- ---- which state it is

state_if : (test : Bool) (state : State) (x y : Step) → state ≡ x.state → state ≡ y.state → state ≡ (if test then x else y).state
state_if true state x y one two = one
state_if false state x y one two = two

each_state : (tag : List ℕ) (state : State) (by_uid : Bool) (set : Set) (messages : List Listed) (act : Numbered → List (Act ReplyPart)) → state ≡ (for_each tag state by_uid set messages act).state
each_state tag state by_uid set messages act =
    state_if (is_refused by_uid set messages) state (no_such_message tag state) (ends_with tag done (flat_map act (chosen by_uid set messages)) state) refl refl

pub fetch_state : (context : Context) (selection : Selection) (fetch : Fetch) → selected selection ≡ (fetch_step context selection fetch).state
fetch_state context selection fetch =
    each_state context.tag (selected selection) fetch.by_uid fetch.set (listed context.store.kept selection.folder) (fetch_one context.oracles context.store (fetching_in selection fetch))

pub store_state : (context : Context) (selection : Selection) (store : Store) → selected selection ≡ (store_step context selection store).state
store_state context selection store =
    let state = selected selection in
    let act = store_one store.by_uid store.silent store.op store.flags in
    let messages = listed context.store.kept selection.folder in
    state_if selection.read_only state (refused_as_read_only context.tag state) (for_each context.tag state store.by_uid store.set messages act) refl
    (each_state context.tag state store.by_uid store.set messages act)

pub expunge_state : (tag : List ℕ) (state : State) (read_only : Bool) (messages : List Listed) → state ≡ (expunge_step tag state read_only messages).state
expunge_state tag state read_only messages =
    state_if read_only state (refused_as_read_only tag state) (ends_with tag done (taken_out (deleted_ids messages) ++ reply (closing_up 1 messages)) state) refl refl

-- ---- which step it is

-- any other command is one on folders, or one of every state
pub selected-other : (context : Context) (selection : Selection) (c : Command) → (c ≡ command.Check → ⊥)
    → ((by_uid : Bool) (set : Set) (items : List FetchItem) → c ≡ command.Fetch by_uid set items → ⊥)
    → ((by_uid : Bool) (set : Set) (op : StoreOp) (silent : Bool) (flags : ℕ) → c ≡ command.Store by_uid set op silent flags → ⊥) → (c ≡ command.Expunge → ⊥) → (c ≡ command.Close → ⊥)
    → mailbox_step context (selected selection) selection.mode selection.account c ≡ selected_step context selection c
selected-other context selection command.Capability no_check no_fetch no_store no_expunge no_close = refl
selected-other context selection command.Noop no_check no_fetch no_store no_expunge no_close = refl
selected-other context selection command.Check no_check no_fetch no_store no_expunge no_close = absurd (no_check refl)
selected-other context selection command.Logout no_check no_fetch no_store no_expunge no_close = refl
selected-other context selection (command.Login user password) no_check no_fetch no_store no_expunge no_close = refl
selected-other context selection (command.Enable words) no_check no_fetch no_store no_expunge no_close = refl
selected-other context selection (command.Select written) no_check no_fetch no_store no_expunge no_close = refl
selected-other context selection (command.Examine written) no_check no_fetch no_store no_expunge no_close = refl
selected-other context selection (command.Create written) no_check no_fetch no_store no_expunge no_close = refl
selected-other context selection (command.List reference pattern) no_check no_fetch no_store no_expunge no_close = refl
selected-other context selection (command.Status written items) no_check no_fetch no_store no_expunge no_close = refl
selected-other context selection (command.Append written flags date utf8 octets) no_check no_fetch no_store no_expunge no_close = refl
selected-other context selection (command.Fetch by_uid set items) no_check no_fetch no_store no_expunge no_close = absurd (no_fetch by_uid set items refl)
selected-other context selection (command.Store by_uid set op silent flags) no_check no_fetch no_store no_expunge no_close = absurd (no_store by_uid set op silent flags refl)
selected-other context selection command.Expunge no_check no_fetch no_store no_expunge no_close = absurd (no_expunge refl)
selected-other context selection command.Close no_check no_fetch no_store no_expunge no_close = absurd (no_close refl)
selected-other context selection command.NotHere no_check no_fetch no_store no_expunge no_close = refl
