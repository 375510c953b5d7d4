-- What is kept at the end of the data: a message once for each of its recipients, and nothing else.
use Rattle.std.proofs.Common.{◌≡◌, ◌≢◌, ℕ, ◌+◌, ◌<◌, ◌≤◌, ◌==◌, Bool, false, not, eqb, eq-eqb, ne_eqb, List, [], ◌∷◌, ◌++◌, length, length-append, map, filter, Option, Some, None, IsSome, IsSomeAnd, unwrap_or, if◌then◌else◌, is_some, refl, sym, ap, subst, ◌∙◌, arith, inl, inr, append-nil}
use Rattle.std.specs.Prelude.{slice_index_or}
use Rattle.std.specs.List.{All, AllByRecursion, IsDistinct}
use Rattle.std.proofs.lemmas.Bool.{cases_Bool, cases_eq, cond_both, eqb-true, eqb-false}
use Rattle.std.proofs.lemmas.List.Elements.{All-from_recursion, recursion_from_All, All-weaker, filter-append}
use Rattle.std.proofs.lemmas.Option.{same_Some, none-some}
use Rattle.address_grammar.specs.declared.Address.{Address}
use Rattle.address_grammar.specs.Addresses.{address_text}
use Rattle.kept_mail.specs.declared.delivery.Delivery.{Delivery}
use Rattle.kept_mail.specs.declared.kept.Folder.{Folder}
use Rattle.kept_mail.specs.declared.kept.Message.{Message}
use Rattle.journal_records.specs.declared.records.Record.{Record}
use Rattle.journal_records.specs.declared.records.Record.TheVariants as records
use Rattle.mail_store.specs.Answers.{IsFold}
use Rattle.journal_records.specs.Addresses.{path_text}
use Rattle.mail_store.specs.Changing.{delivery_refusal}
use Rattle.kept_mail.specs.Deliveries.{copy_for, delivered, has_large_octets, inboxes_of, queued}
use Rattle.kept_mail.specs.private.Delivering.{copied}
use Rattle.kept_mail.specs.Kept.{Kept, nothing, after_record, after_all, first_folder, inbox_of}
use Rattle.mail_store.specs.StoreState.{StoreState}
use Rattle.mail_store.proofs.ChangeLemmas.{after_all-append}
use Rattle.mail_store.proofs.DeliveryLemmas.{after-copies}
use Rattle.smtp_session.specs.declared.states.Client.{Client}
use Rattle.smtp_session.specs.declared.states.Envelope.{Envelope}
use Rattle.smtp_session.specs.Intake.{AreRecipients, HasOneMore, IsKeptOnce, acceptance, entries_for, kept_after, messages_in}
use Rattle.smtp_session.specs.Loops.{is_looping}
use Rattle.smtp_session.specs.Machine.{Step, delivery_of, end_by, end_data, greeted, is_same_remote}
use Rattle.session_core.specs.Oracles.{Oracles}
use Rattle.session_core.specs.Moments.{Moment}
use Rattle.smtp_session.proofs.RowLemmas.{not_zero}

-- ---- each account has an INBOX of its own

none_there : IsSome {T = ℕ} None → ⊥
none_there has = cc

-- a folder that is found isn't before the first of the list
found_from : (account at i : ℕ) (folders : List Folder) → first_folder account at folders ≡ Some i → at ≤ i
found_from account at i [] e = absurd (none-some i e)
found_from account at i (folder ∷ folders) e =
    elim (cases_Bool (eqb folder.account account)) [
      | inl own ↦
          let is : at ≡ i = same_Some at i (rw own at e) in
          omega (arith, is)
      | inr other ↦
          let later = found_from account (at + 1) i folders (rw other at e) in
          omega (arith, later)
    ]

-- a folder that is found for one account isn't found for another
same_owner : (a b at i : ℕ) (folders : List Folder) → first_folder a at folders ≡ Some i → first_folder b at folders ≡ Some i → a ≡ b
same_owner a b at i [] e f = absurd (none-some i e)
same_owner a b at i (folder ∷ folders) e f =
    elim (cases_Bool (eqb folder.account a)) [
      | inl own ↦
          let here : at ≡ i = same_Some at i (rw own at e) in
          elim (cases_Bool (eqb folder.account b)) [
            | inl too ↦ sym (eqb-true folder.account a own) ∙ eqb-true folder.account b too
            | inr other ↦
                let later = found_from b (at + 1) i folders (rw other at f) in
                absurd (omega (arith, here, later))
          ]
      | inr other ↦
          let later = found_from a (at + 1) i folders (rw other at e) in
          elim (cases_Bool (eqb folder.account b)) [
            | inl own ↦
                let here : at ≡ i = same_Some at i (rw own at f) in
                absurd (omega (arith, here, later))
            | inr neither ↦ same_owner a b (at + 1) i folders (rw other at e) (rw neither at f)
          ]
    ]

-- with one folder more an account has one still
still_found : (account at : ℕ) (folders : List Folder) (one : Folder) → IsSome (first_folder account at folders) → IsSome (first_folder account at (folders ++ one ∷ []))
still_found account at [] one has = absurd (none_there has)
still_found account at (folder ∷ folders) one has =
    elim (cases_Bool (eqb folder.account account)) [
      | inl own ↦ rw own refl
      | inr other ↦ rw other (still_found account (at + 1) folders one (rw other at has))
    ]

-- with one folder more its account has one
now_found : (account at : ℕ) (folders : List Folder) (one : Folder) → one.account ≡ account → IsSome (first_folder account at (folders ++ one ∷ []))
now_found account at [] one own = rw (eq-eqb one.account account own) refl
now_found account at (folder ∷ folders) one own =
    elim (cases_Bool (eqb folder.account account)) [
      | inl before ↦ rw before refl
      | inr other ↦ rw other (now_found account (at + 1) folders one own)
    ]

-- each account has an INBOX
abbrev pub HaveInboxes : Kept → Type 0
HaveInboxes kept = (account : ℕ) → account < length kept.accounts → IsSome (inbox_of kept account)

inboxes_after : (kept : Kept) (one : Record) → HaveInboxes kept → HaveInboxes (after_record kept one)
inboxes_after kept (records.Account address password) have = λ account there.
    elim (cases_eq (length kept.accounts) account) [
      | inl own ↦ now_found account 0 kept.folders _ own
      | inr other ↦ still_found account 0 kept.folders _ (have account (omega (arith, other, there, length-append kept.accounts (record { address = address; password = password } ∷ []))))
    ]
inboxes_after kept (records.Domain name) have = have
inboxes_after kept (records.Folder owner name) have = λ account there. still_found account 0 kept.folders _ (have account there)
inboxes_after kept (records.Message folder flags mark date octets) have = have
inboxes_after kept (records.Flags message flags) have = have
inboxes_after kept (records.Expunge message) have = have
inboxes_after kept (records.Queue path addresses mark octets) have = have
inboxes_after kept (records.Settle entry index) have = have
inboxes_after kept records.Version have = have

pub inboxes_after_all : (kept : Kept) (all : List Record) → HaveInboxes kept → HaveInboxes (after_all kept all)
inboxes_after_all kept [] have = have
inboxes_after_all kept (one ∷ others) have = inboxes_after_all (after_record kept one) others (inboxes_after kept one have)

-- so it is in every store
pub have_inboxes : (kept : Kept) → IsFold kept → HaveInboxes kept
have_inboxes kept fold = subst HaveInboxes (sym fold.kept_is) (inboxes_after_all nothing fold.all (λ account there. absurd (omega (arith, there))))

-- ---- one copy for each account

-- the message is in the folder
abbrev is_in : ℕ → Message → Bool
is_in folder message = message.folder == folder

-- one message for the INBOX of each account
abbrev copies : Kept → (date octets accounts : List ℕ) → List Message
copies kept date octets accounts = map (copied date octets) (inboxes_of kept accounts)

-- of these messages one is in the account's INBOX, and is such a copy
abbrev HasOneCopy : Kept → (date octets : List ℕ) → List Message → ℕ → Type 0
HasOneCopy kept date octets messages account = IsSomeAnd (inbox_of kept account) (λ folder. filter (is_in folder) messages ≡ copied date octets folder ∷ [])

-- an INBOX that isn't the folder
elsewhere : (own : Option ℕ) (folder : ℕ) → IsSome own → own ≢ Some folder → (unwrap_or own 0 == folder) ≡ false
elsewhere None folder has other = absurd (none_there has)
elsewhere (Some n) folder has other = ne_eqb n folder (λ same. other (ap (λ (k : ℕ). Some k) same))

-- a folder that is no account's INBOX has no copy
no_copy : (kept : Kept) (date octets : List ℕ) (folder : ℕ) (accounts : List ℕ) → AllByRecursion (λ account. IsSome (inbox_of kept account)) accounts
    → AllByRecursion (λ account. inbox_of kept account ≢ Some folder) accounts → filter (is_in folder) (copies kept date octets accounts) ≡ []
no_copy kept date octets folder [] have others = refl
no_copy kept date octets folder (account ∷ accounts) have others =
    rw (elsewhere (inbox_of kept account) folder have.0 others.0) (no_copy kept date octets folder accounts have.1 others.1)

-- an account's INBOX is no other's
other_inboxes : (kept : Kept) (account folder : ℕ) (others : List ℕ) → inbox_of kept account ≡ Some folder → AllByRecursion (λ other. (account == other) ≡ false) others
    → AllByRecursion (λ other. inbox_of kept other ≢ Some folder) others
other_inboxes kept account folder [] is differ = tt
other_inboxes kept account folder (other ∷ others) is differ =
    (λ same. eqb-false account other differ.0 (same_owner account other 0 folder kept.folders is same), other_inboxes kept account folder others is differ.1)

record Inbox (own : Option ℕ) : Type 0 where
  folder : ℕ
  is : own ≡ Some folder

inbox_is : (own : Option ℕ) → IsSome own → Inbox own
inbox_is None has = absurd (none_there has)
inbox_is (Some folder) has = record { folder = folder; is = refl }

-- the first account has its copy
first_copy : (kept : Kept) (date octets : List ℕ) (account : ℕ) (accounts : List ℕ) → IsSome (inbox_of kept account) → AllByRecursion (λ other. IsSome (inbox_of kept other)) accounts
    → AllByRecursion (λ other. (account == other) ≡ false) accounts → HasOneCopy kept date octets (copies kept date octets (account ∷ accounts)) account
first_copy kept date octets account accounts has have differ =
    let own = inbox_is (inbox_of kept account) has in
    let none = no_copy kept date octets own.folder accounts have (other_inboxes kept account own.folder accounts own.is differ) in
    rw own.is (rw (eq-eqb own.folder own.folder refl) (ap (λ (l : List Message). copied date octets own.folder ∷ l) none))

-- a copy in another folder in front changes nothing
one_in_front : (date octets : List ℕ) (messages : List Message) (first own : Option ℕ) → IsSome first → ((folder : ℕ) → first ≡ Some folder → own ≡ Some folder → ⊥)
    → IsSomeAnd own (λ folder. filter (is_in folder) messages ≡ copied date octets folder ∷ [])
    → IsSomeAnd own (λ folder. filter (is_in folder) (copied date octets (unwrap_or first 0) ∷ messages) ≡ copied date octets folder ∷ [])
one_in_front date octets messages first None has differ one = absurd one
one_in_front date octets messages first (Some folder) has differ one = rw (elsewhere first folder has (λ same. differ folder same refl)) one

later_copies : (kept : Kept) (date octets : List ℕ) (account : ℕ) (messages : List Message) (others : List ℕ) → IsSome (inbox_of kept account)
    → AllByRecursion (λ other. (account == other) ≡ false) others → AllByRecursion (HasOneCopy kept date octets messages) others
    → AllByRecursion (HasOneCopy kept date octets (copied date octets (unwrap_or (inbox_of kept account) 0) ∷ messages)) others
later_copies kept date octets account messages [] has differ have = tt
later_copies kept date octets account messages (other ∷ others) has differ have = (
  one_in_front date octets messages (inbox_of kept account) (inbox_of kept other) has
      (λ folder is same. eqb-false account other differ.0 (same_owner account other 0 folder kept.folders is same)) have.0,
  later_copies kept date octets account messages others has differ.1 have.1,
)

-- each account has its copy, where none stands twice
one_copy : (kept : Kept) (date octets accounts : List ℕ) → AllByRecursion (λ account. IsSome (inbox_of kept account)) accounts → IsDistinct (λ a b. a == b) accounts
    → AllByRecursion (HasOneCopy kept date octets (copies kept date octets accounts)) accounts
unfolding IsDistinct
one_copy kept date octets [] have distinct = tt
one_copy kept date octets (account ∷ accounts) have distinct = (
  first_copy kept date octets account accounts have.0 have.1 distinct.0,
  later_copies kept date octets account (copies kept date octets accounts) accounts have.0 distinct.0 (one_copy kept date octets accounts have.1 distinct.1),
)

-- ---- what a delivery leaves

queue_after : (kept : Kept) (path : List ℕ) (mark : ℕ) (octets : List ℕ) (addresses : List Address)
    → after_all kept (if length addresses == 0 then [] else records.Queue path (map address_text addresses) (Some mark) octets ∷ [])
    ≡ (let new : Kept = record kept { entries = kept.entries ++ entries_for path octets addresses } in new)
queue_after kept path mark octets [] = ap (λ es. let new : Kept = record kept { entries = es } in new) (sym (append-nil kept.entries))
queue_after kept path mark octets (address ∷ addresses) = rw (not_zero (length addresses)) refl

-- what is kept after a delivery
abbrev with_delivery : Kept → Delivery → Kept
with_delivery kept delivery = record kept {
  messages = kept.messages ++ copies kept delivery.date delivery.local_octets delivery.local;
  entries = kept.entries ++ entries_for (path_text delivery.path) delivery.remote_octets delivery.remote;
}

delivered_leaves : (kept : Kept) (delivery : Delivery) → after_all kept (delivered kept delivery) ≡ with_delivery kept delivery
delivered_leaves kept delivery =
    let inboxes = inboxes_of kept delivery.local in
    after_all-append kept (map (copy_for delivery.date delivery.local_mark delivery.local_octets) inboxes) (queued delivery)
    ∙ ap (λ k. after_all k (queued delivery)) (after-copies kept delivery.date delivery.local_mark delivery.local_octets inboxes)
    ∙ queue_after (let new : Kept = record kept { messages = kept.messages ++ copies kept delivery.date delivery.local_octets delivery.local } in new) (path_text delivery.path) delivery.remote_mark delivery.remote_octets delivery.remote

-- the INBOX of an account with a copy has one message more
more_in_inbox : (kept : Kept) (delivery : Delivery) (own : Option ℕ)
    → IsSomeAnd own (λ folder. filter (is_in folder) (copies kept delivery.date delivery.local_octets delivery.local) ≡ copied delivery.date delivery.local_octets folder ∷ [])
    → IsSomeAnd own (HasOneMore kept (with_delivery kept delivery) delivery.date delivery.local_octets)
more_in_inbox kept delivery None one = absurd one
more_in_inbox kept delivery (Some folder) one =
    filter-append (is_in folder) kept.messages (copies kept delivery.date delivery.local_octets delivery.local) ∙ ap (λ (l : List Message). messages_in kept folder ++ l) one

-- another folder has what it had
same_elsewhere : (kept : Kept) (delivery : Delivery) (folder : ℕ) → filter (is_in folder) (copies kept delivery.date delivery.local_octets delivery.local) ≡ []
    → messages_in (with_delivery kept delivery) folder ≡ messages_in kept folder
same_elsewhere kept delivery folder none =
    filter-append (is_in folder) kept.messages (copies kept delivery.date delivery.local_octets delivery.local) ∙ ap (λ (l : List Message). messages_in kept folder ++ l) none
    ∙ append-nil (messages_in kept folder)

-- a delivery is kept once for each recipient
delivery_once : (kept : Kept) (delivery : Delivery) → All (λ account. IsSome (inbox_of kept account)) delivery.local → IsDistinct (λ a b. a == b) delivery.local
    → IsDistinct is_same_remote delivery.remote → IsKeptOnce kept (with_delivery kept delivery) delivery
delivery_once kept delivery have local_distinct remote_distinct =
    let date = delivery.date in
    let octets = delivery.local_octets in
    let all = recursion_from_All (λ account. IsSome (inbox_of kept account)) delivery.local have in
    record {
      local =
          All-weaker (HasOneCopy kept date octets (copies kept date octets delivery.local))
          (λ account. IsSomeAnd (inbox_of kept account) (HasOneMore kept (with_delivery kept delivery) date octets))
          (λ account. more_in_inbox kept delivery (inbox_of kept account)) delivery.local
          (All-from_recursion (HasOneCopy kept date octets (copies kept date octets delivery.local)) delivery.local (one_copy kept date octets delivery.local all local_distinct));
      others = λ folder others.
          same_elsewhere kept delivery folder
          (no_copy kept date octets folder delivery.local all (recursion_from_All (λ account. inbox_of kept account ≢ Some folder) delivery.local others));
      remote = refl;
      distinct = remote_distinct;
      accounts = refl;
      domains = refl;
      folders = refl;
    }

-- ---- the end of the data

-- the first octet of a reply
abbrev first_octet : List (List ℕ) → ℕ
first_octet reply = slice_index_or (slice_index_or reply 0 []) 0 0

-- a reply that begins with `5` accepts nothing
no_acceptance : (reply : List (List ℕ)) → first_octet reply ≡ 53 → reply ≡ acceptance → ⊥
no_acceptance reply five is =
    let two : 53 ≡ 50 = sym five ∙ ap first_octet is in
    omega (arith, two)

-- what is accepted is delivered
accepted_is : (is_message loops : Bool) (store : StoreState) (client : Client) (delivery : Delivery) → (end_by is_message loops store client delivery).reply ≡ acceptance
    → (end_by is_message loops store client delivery).changes ≡ delivered store.kept delivery ∷ []
accepted_is is_message loops store client delivery =
    let P : Step → Type 0 = λ taken. taken.reply ≡ acceptance → taken.changes ≡ delivered store.kept delivery ∷ [] in
    cond_both (has_large_octets store.message_max delivery) _ _ P (λ large is. absurd (no_acceptance _ refl is))
    (λ small. cond_both (not is_message) _ _ P (λ none is. absurd (no_acceptance _ refl is))
    (λ message. cond_both loops _ _ P (λ circle is. absurd (no_acceptance _ refl is))
    (λ straight. cond_both (is_some (delivery_refusal store delivery)) _ _ P (λ refused is. absurd (no_acceptance _ refl is)) (λ room is. refl))))

-- what isn't accepted changes nothing
refused_is : (is_message loops : Bool) (store : StoreState) (client : Client) (delivery : Delivery) → (end_by is_message loops store client delivery).reply ≢ acceptance
    → (end_by is_message loops store client delivery).changes ≡ []
refused_is is_message loops store client delivery =
    let P : Step → Type 0 = λ taken. taken.reply ≢ acceptance → taken.changes ≡ [] in
    cond_both (has_large_octets store.message_max delivery) _ _ P (λ large other. refl)
    (λ small. cond_both (not is_message) _ _ P (λ none other. refl)
    (λ message. cond_both loops _ _ P (λ circle other. refl)
    (λ straight. cond_both (is_some (delivery_refusal store delivery)) _ _ P (λ refused other. refl) (λ room other. absurd (other refl)))))

-- the data leave the client alone
left_is : (is_message loops : Bool) (store : StoreState) (client : Client) (delivery : Delivery) → (end_by is_message loops store client delivery).state ≡ greeted client
left_is is_message loops store client delivery =
    let P : Step → Type 0 = λ taken. taken.state ≡ greeted client in
    cond_both (has_large_octets store.message_max delivery) _ _ P (λ large. refl)
    (λ small. cond_both (not is_message) _ _ P (λ none. refl)
    (λ message. cond_both loops _ _ P (λ circle. refl)
    (λ straight. cond_both (is_some (delivery_refusal store delivery)) _ _ P (λ refused. refl) (λ room. refl))))

-- the accounts among the recipients have INBOXes
recipients_have : (kept : Kept) (envelope : Envelope) → HaveInboxes kept → AreRecipients kept envelope → All (λ account. IsSome (inbox_of kept account)) envelope.local
recipients_have kept envelope have are = All-weaker (λ account. account < length kept.accounts) (λ account. IsSome (inbox_of kept account)) have envelope.local are.there

-- what is delivered to them is kept once for each
pub delivered_once : (kept : Kept) (delivery : Delivery) (envelope : Envelope) → delivery.local ≡ envelope.local → delivery.remote ≡ envelope.remote → HaveInboxes kept
    → AreRecipients kept envelope → IsKeptOnce kept (after_all kept (delivered kept delivery)) delivery
delivered_once kept delivery envelope local remote have are =
    rw (delivered_leaves kept delivery)
    (delivery_once kept delivery (rw local (recipients_have kept envelope have are)) (rw local are.local) (rw remote are.remote))

-- ---- the law

pub accepted_kept_once : (oracles : Oracles) (store : StoreState) (client : Client) (envelope : Envelope) (moment : Moment) (octets : List ℕ)
    → IsFold store.kept → AreRecipients store.kept envelope → (end_data oracles store client envelope moment octets).reply ≡ acceptance
    → IsKeptOnce store.kept (kept_after store (end_data oracles store client envelope moment octets)) (delivery_of oracles store client envelope moment octets)
accepted_kept_once oracles store client envelope moment octets fold are accepted =
    let delivery = delivery_of oracles store client envelope moment octets in
    let made = accepted_is (oracles.has_tree octets) (is_looping octets) store client delivery accepted in
    rw made (rw (append-nil (delivered store.kept delivery)) (delivered_once store.kept delivery envelope refl refl (have_inboxes store.kept fold) are))

pub refused_kept_none : (oracles : Oracles) (store : StoreState) (client : Client) (envelope : Envelope) (moment : Moment) (octets : List ℕ)
    → (end_data oracles store client envelope moment octets).reply ≢ acceptance → (end_data oracles store client envelope moment octets).changes ≡ []
refused_kept_none oracles store client envelope moment octets = refused_is (oracles.has_tree octets) (is_looping octets) store client (delivery_of oracles store client envelope moment octets)

pub data_forget : (oracles : Oracles) (store : StoreState) (client : Client) (envelope : Envelope) (moment : Moment) (octets : List ℕ)
    → (end_data oracles store client envelope moment octets).state ≡ greeted client
data_forget oracles store client envelope moment octets = left_is (oracles.has_tree octets) (is_looping octets) store client (delivery_of oracles store client envelope moment octets)
