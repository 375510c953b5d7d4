-- Cases of all commands: those that are only answered, and those that may change the store.
use Rattle.std.proofs.Common.{◌≡◌, ℕ, Bool, true, false, List, [], ◌∷◌, ◌++◌, map, Option, None, Some, refl, sym, ap, ◌∙◌, append-nil, codes, if◌then◌else◌}
use Rattle.std.specs.Prelude.{not, ◌&&◌}
use Rattle.std.specs.List.{flat_map, list_any}
use Rattle.std.proofs.lemmas.Bool.{cond-false, cond-true, cond_both}
use Rattle.std.proofs.lemmas.List.{map-append}
use Rattle.journal_records.specs.Grammar.{kept_name}
use Rattle.journal_records.specs.declared.records.Record.{Record}
use Rattle.journal_records.specs.declared.records.Record.TheVariants as records
use Rattle.kept_mail.specs.Kept.{Kept, after_record, listed, logged_in}
use Rattle.kept_mail.specs.declared.kept.Listed.{Listed}
use Rattle.mail_store.specs.Changing.{append_refusal, folder_refusal}
use Rattle.mail_store.specs.StoreState.{StoreState}
use Rattle.mail_store.specs.declared.changing.StoreFault.{StoreFault}
use Rattle.mail_store.specs.declared.changing.StoreFault.TheVariants as refusal
use Rattle.surrogate_cache.specs.Caching.{Asked}
use Rattle.surrogate_cache.specs.Served.{Mode, legacy, enabled, is_enabled}
use Rattle.session_core.specs.Acts.{Act, asked_in, asking, changes, changes_in, gives}
use Rattle.session_core.specs.Oracles.{Oracles}
use Rattle.session_core.proofs.DoneLemmas.{asked_in-acts, asked_in-append, asked_in-asking, changes_in-acts, changes_in-append, changes_in-asking}
use Rattle.imap_grammar.specs.declared.command.Command.{Command}
use Rattle.imap_grammar.specs.declared.command.Command.TheVariants as command
use Rattle.imap_grammar.specs.declared.command.FetchItem.{FetchItem}
use Rattle.imap_grammar.specs.declared.command.Set.{Set}
use Rattle.imap_grammar.specs.declared.command.StatusItem.{StatusItem}
use Rattle.imap_grammar.specs.declared.command.StoreOp.{StoreOp}
use Rattle.imap_mailboxes.specs.Flags.{stored_flags}
use Rattle.imap_mailboxes.specs.Sets.{is_refused}
use Rattle.imap_session.specs.Answering.{adds_to_store, asked_as, changes_store, is_fetch, EndsTagged}
use Rattle.imap_session.specs.Items.{asked_of, is_of_message}
use Rattle.imap_session.specs.Machine.{Append, Context, Fetch, Fetching, Numbered, Selection, State, Step, Store, answers, append_in, append_unless, appended, asks_utf8, authenticated, authenticated_step, becomes_seen, chosen, closing_up, common_step, completed, context_of, create_by, create_unless, date_or, deleted_ids, done, enable_step, ended, ends_with, exists_lines, expunge_step, fetch_one, fetch_reply, fetch_step, fetch_told, fetching_in, flags_change, flags_reply, folder_lines, folder_named, for_each, list_lines, login_by, mailbox_step, mode_of, names_folder, no_such_message, not_authenticated, not_authenticated_step, opened_in, opened_words, refused_as_read_only, reply, says, seen, select_by, selected, selected_step, status_by, status_line, step, store_one, store_step, tagged, taken_out, untagged, with_flags, with_uid}
use Rattle.imap_session.specs.Replies.{ReplyPart}

-- ---- commands that are only answered

-- what holds of a step that only answers holds of these
module _ (P : Step → Type 0) (tag : List ℕ) (answered : (words : List ℕ) (parts : List ReplyPart) (state : State) → P (answers tag words parts state)) where
  said_only : (words : List ℕ) (state : State) → P (says tag words state)
  said_only words state = answered words [] state

  common_all : (state : State) (said : Command) → P (common_step tag state said)
  common_all state command.Capability = answered done (untagged (codes "CAPABILITY IMAP4rev1 ENABLE UTF8=ACCEPT") ∷ []) state
  common_all state command.Noop = said_only done state
  common_all state command.Check = said_only (codes "BAD out of order") state
  common_all state command.Logout = answered done (untagged (codes "BYE bye") ∷ []) ended
  common_all state (command.Login user password) = said_only (codes "BAD out of order") state
  common_all state (command.Enable words) = said_only (codes "BAD out of order") state
  common_all state (command.Select written) = said_only (codes "BAD out of order") state
  common_all state (command.Examine written) = said_only (codes "BAD out of order") state
  common_all state (command.Create written) = said_only (codes "BAD out of order") state
  common_all state (command.List reference pattern) = said_only (codes "BAD out of order") state
  common_all state (command.Status written items) = said_only (codes "BAD out of order") state
  common_all state (command.Append written flags date in_utf8 octets) = said_only (codes "BAD out of order") state
  common_all state (command.Fetch by_uid set items) = said_only (codes "BAD out of order") state
  common_all state (command.Store by_uid set op silent flags) = said_only (codes "BAD out of order") state
  common_all state command.Expunge = said_only (codes "BAD out of order") state
  common_all state command.Close = said_only (codes "BAD out of order") state
  common_all state command.NotHere = said_only (codes "NO not here") state

  login_all : (found : Option ℕ) → P (login_by tag found)
  login_all None = said_only (codes "NO no") not_authenticated
  login_all (Some account) = said_only done (authenticated legacy account)

  enable_all : (mode : Mode) (account : ℕ) (asked : Bool) → P (enable_step tag mode account asked)
  enable_all legacy account true = answered done (untagged (codes "ENABLED UTF8=ACCEPT") ∷ []) (authenticated enabled account)
  enable_all legacy account false = answered done (untagged (codes "ENABLED") ∷ []) (authenticated legacy account)
  enable_all enabled account asked = answered done (untagged (codes "ENABLED") ∷ []) (authenticated enabled account)

  select_all : (mode : Mode) (account : ℕ) (read_only : Bool) (store : StoreState) (found : Option ℕ) → P (select_by tag mode account read_only store found)
  select_all mode account read_only store None = said_only (codes "NO no such folder") (authenticated mode account)
  select_all mode account read_only store (Some folder) = answered (opened_words read_only) (folder_lines store folder read_only) (selected (record { mode = mode; account = account; folder = folder; read_only = read_only }))

  status_all : (state : State) (mode : Mode) (store : StoreState) (items : List StatusItem) (found : Option ℕ) → P (status_by tag state mode store items found)
  status_all state mode store items None = said_only (codes "NO no such folder") state
  status_all state mode store items (Some folder) = answered done (status_line mode store folder items) state

  unauthenticated_all : (oracles : Oracles) (store : StoreState) (said : Command) → P (not_authenticated_step oracles tag store said)
  unauthenticated_all oracles store command.Capability = common_all not_authenticated command.Capability
  unauthenticated_all oracles store command.Noop = common_all not_authenticated command.Noop
  unauthenticated_all oracles store command.Check = common_all not_authenticated command.Check
  unauthenticated_all oracles store command.Logout = common_all not_authenticated command.Logout
  unauthenticated_all oracles store (command.Login user password) = login_all (logged_in oracles.path_of store.kept user password)
  unauthenticated_all oracles store (command.Enable words) = common_all not_authenticated (command.Enable words)
  unauthenticated_all oracles store (command.Select written) = common_all not_authenticated (command.Select written)
  unauthenticated_all oracles store (command.Examine written) = common_all not_authenticated (command.Examine written)
  unauthenticated_all oracles store (command.Create written) = common_all not_authenticated (command.Create written)
  unauthenticated_all oracles store (command.List reference pattern) = common_all not_authenticated (command.List reference pattern)
  unauthenticated_all oracles store (command.Status written items) = common_all not_authenticated (command.Status written items)
  unauthenticated_all oracles store (command.Append written flags date in_utf8 octets) = common_all not_authenticated (command.Append written flags date in_utf8 octets)
  unauthenticated_all oracles store (command.Fetch by_uid set items) = common_all not_authenticated (command.Fetch by_uid set items)
  unauthenticated_all oracles store (command.Store by_uid set op silent flags) = common_all not_authenticated (command.Store by_uid set op silent flags)
  unauthenticated_all oracles store command.Expunge = common_all not_authenticated command.Expunge
  unauthenticated_all oracles store command.Close = common_all not_authenticated command.Close
  unauthenticated_all oracles store command.NotHere = common_all not_authenticated command.NotHere

  mailbox_all : (oracles : Oracles) (now : List ℕ) (state : State) (mode : Mode) (account : ℕ) (store : StoreState) (said : Command)
      → (adds_to_store said ≡ true → P (mailbox_step (context_of oracles now tag store) state mode account said)) → P (mailbox_step (context_of oracles now tag store) state mode account said)
  mailbox_all oracles now state mode account store command.Capability more = common_all state command.Capability
  mailbox_all oracles now state mode account store command.Noop more = common_all state command.Noop
  mailbox_all oracles now state mode account store command.Check more = common_all state command.Check
  mailbox_all oracles now state mode account store command.Logout more = common_all state command.Logout
  mailbox_all oracles now state mode account store (command.Login user password) more = common_all state (command.Login user password)
  mailbox_all oracles now state mode account store (command.Enable words) more = common_all state (command.Enable words)
  mailbox_all oracles now state mode account store (command.Select written) more = select_all mode account false store (folder_named oracles mode store account written)
  mailbox_all oracles now state mode account store (command.Examine written) more = select_all mode account true store (folder_named oracles mode store account written)
  mailbox_all oracles now state mode account store (command.Create written) more = more refl
  mailbox_all oracles now state mode account store (command.List reference pattern) more = answered done (list_lines mode store account reference pattern) state
  mailbox_all oracles now state mode account store (command.Status written items) more = status_all state mode store items (folder_named oracles mode store account written)
  mailbox_all oracles now state mode account store (command.Append written flags date in_utf8 octets) more = more refl
  mailbox_all oracles now state mode account store (command.Fetch by_uid set items) more = common_all state (command.Fetch by_uid set items)
  mailbox_all oracles now state mode account store (command.Store by_uid set op silent flags) more = common_all state (command.Store by_uid set op silent flags)
  mailbox_all oracles now state mode account store command.Expunge more = common_all state command.Expunge
  mailbox_all oracles now state mode account store command.Close more = common_all state command.Close
  mailbox_all oracles now state mode account store command.NotHere more = common_all state command.NotHere

  authenticated_all : (oracles : Oracles) (now : List ℕ) (mode : Mode) (account : ℕ) (store : StoreState) (said : Command)
      → (adds_to_store said ≡ true → P (mailbox_step (context_of oracles now tag store) (authenticated mode account) mode account said)) → P (authenticated_step (context_of oracles now tag store) mode account said)
  authenticated_all oracles now mode account store command.Capability more = mailbox_all oracles now (authenticated mode account) mode account store command.Capability more
  authenticated_all oracles now mode account store command.Noop more = mailbox_all oracles now (authenticated mode account) mode account store command.Noop more
  authenticated_all oracles now mode account store command.Check more = mailbox_all oracles now (authenticated mode account) mode account store command.Check more
  authenticated_all oracles now mode account store command.Logout more = mailbox_all oracles now (authenticated mode account) mode account store command.Logout more
  authenticated_all oracles now mode account store (command.Login user password) more = mailbox_all oracles now (authenticated mode account) mode account store (command.Login user password) more
  authenticated_all oracles now mode account store (command.Enable words) more = enable_all mode account (asks_utf8 words)
  authenticated_all oracles now mode account store (command.Select written) more = mailbox_all oracles now (authenticated mode account) mode account store (command.Select written) more
  authenticated_all oracles now mode account store (command.Examine written) more = mailbox_all oracles now (authenticated mode account) mode account store (command.Examine written) more
  authenticated_all oracles now mode account store (command.Create written) more = mailbox_all oracles now (authenticated mode account) mode account store (command.Create written) more
  authenticated_all oracles now mode account store (command.List reference pattern) more = mailbox_all oracles now (authenticated mode account) mode account store (command.List reference pattern) more
  authenticated_all oracles now mode account store (command.Status written items) more = mailbox_all oracles now (authenticated mode account) mode account store (command.Status written items) more
  authenticated_all oracles now mode account store (command.Append written flags date in_utf8 octets) more = mailbox_all oracles now (authenticated mode account) mode account store (command.Append written flags date in_utf8 octets) more
  authenticated_all oracles now mode account store (command.Fetch by_uid set items) more = mailbox_all oracles now (authenticated mode account) mode account store (command.Fetch by_uid set items) more
  authenticated_all oracles now mode account store (command.Store by_uid set op silent flags) more = mailbox_all oracles now (authenticated mode account) mode account store (command.Store by_uid set op silent flags) more
  authenticated_all oracles now mode account store command.Expunge more = mailbox_all oracles now (authenticated mode account) mode account store command.Expunge more
  authenticated_all oracles now mode account store command.Close more = mailbox_all oracles now (authenticated mode account) mode account store command.Close more
  authenticated_all oracles now mode account store command.NotHere more = mailbox_all oracles now (authenticated mode account) mode account store command.NotHere more

  selected_all : (oracles : Oracles) (now : List ℕ) (selection : Selection) (store : StoreState) (said : Command)
      → (changes_store said ≡ true → P (selected_step (context_of oracles now tag store) selection said)) → P (selected_step (context_of oracles now tag store) selection said)
  selected_all oracles now selection store command.Capability more = mailbox_all oracles now (selected selection) selection.mode selection.account store command.Capability more
  selected_all oracles now selection store command.Noop more = mailbox_all oracles now (selected selection) selection.mode selection.account store command.Noop more
  selected_all oracles now selection store command.Check more = said_only done (selected selection)
  selected_all oracles now selection store command.Logout more = mailbox_all oracles now (selected selection) selection.mode selection.account store command.Logout more
  selected_all oracles now selection store (command.Login user password) more = mailbox_all oracles now (selected selection) selection.mode selection.account store (command.Login user password) more
  selected_all oracles now selection store (command.Enable words) more = mailbox_all oracles now (selected selection) selection.mode selection.account store (command.Enable words) more
  selected_all oracles now selection store (command.Select written) more = mailbox_all oracles now (selected selection) selection.mode selection.account store (command.Select written) more
  selected_all oracles now selection store (command.Examine written) more = mailbox_all oracles now (selected selection) selection.mode selection.account store (command.Examine written) more
  selected_all oracles now selection store (command.Create written) more = more refl
  selected_all oracles now selection store (command.List reference pattern) more = mailbox_all oracles now (selected selection) selection.mode selection.account store (command.List reference pattern) more
  selected_all oracles now selection store (command.Status written items) more = mailbox_all oracles now (selected selection) selection.mode selection.account store (command.Status written items) more
  selected_all oracles now selection store (command.Append written flags date in_utf8 octets) more = more refl
  selected_all oracles now selection store (command.Fetch by_uid set items) more = more refl
  selected_all oracles now selection store (command.Store by_uid set op silent flags) more = more refl
  selected_all oracles now selection store command.Expunge more = more refl
  selected_all oracles now selection store command.Close more = more refl
  selected_all oracles now selection store command.NotHere more = mailbox_all oracles now (selected selection) selection.mode selection.account store command.NotHere more

-- ---- what changes nothing

abbrev IsQuiet : Step → Type 0
IsQuiet taken = changes_in taken.acts ≡ []

reply_quiet : (parts : List ReplyPart) → changes_in (reply parts) ≡ []
reply_quiet parts = changes_in-acts [] parts

answers_quiet : (tag words : List ℕ) (parts : List ReplyPart) (state : State) → IsQuiet (answers tag words parts state)
answers_quiet tag words parts state = ap changes_in (sym (map-append gives parts (tagged tag words ∷ []))) ∙ reply_quiet (parts ++ tagged tag words ∷ [])

none_true : {P : Type 0} (b : Bool) → b ≡ false → b ≡ true → P
none_true b other is = let clash = sym other ∙ is in absurd cc

adds_quiet : (said : Command) → changes_store said ≡ false → adds_to_store said ≡ false
adds_quiet command.Capability other = refl
adds_quiet command.Noop other = refl
adds_quiet command.Check other = refl
adds_quiet command.Logout other = refl
adds_quiet (command.Login user password) other = refl
adds_quiet (command.Enable words) other = refl
adds_quiet (command.Select written) other = refl
adds_quiet (command.Examine written) other = refl
adds_quiet (command.Create written) other = other
adds_quiet (command.List reference pattern) other = refl
adds_quiet (command.Status written items) other = refl
adds_quiet (command.Append written flags date in_utf8 octets) other = other
adds_quiet (command.Fetch by_uid set items) other = refl
adds_quiet (command.Store by_uid set op silent flags) other = refl
adds_quiet command.Expunge other = refl
adds_quiet command.Close other = refl
adds_quiet command.NotHere other = refl

pub others_quiet : (oracles : Oracles) (now tag : List ℕ) (state : State) (store : StoreState) (said : Command) → changes_store said ≡ false → changes_in (step oracles now state store tag said).acts ≡ []
unfolding step
others_quiet oracles now tag not_authenticated store said other = unauthenticated_all IsQuiet tag (answers_quiet tag) oracles store said
others_quiet oracles now tag (authenticated mode account) store said other =
    authenticated_all IsQuiet tag (answers_quiet tag) oracles now mode account store said (none_true (adds_to_store said) (adds_quiet said other))
others_quiet oracles now tag (selected selection) store said other =
    selected_all IsQuiet tag (answers_quiet tag) oracles now selection store said (none_true (changes_store said) other)
others_quiet oracles now tag ended store said other = refl

pub before_quiet : (oracles : Oracles) (now tag : List ℕ) (store : StoreState) (said : Command) → changes_in (step oracles now not_authenticated store tag said).acts ≡ []
unfolding step
before_quiet oracles now tag store said = unauthenticated_all IsQuiet tag (answers_quiet tag) oracles store said

-- ---- what is read only

each_quiet : {T : Type 0} (act : T → List (Act ReplyPart)) → ((one : T) → changes_in (act one) ≡ []) → (all : List T) → changes_in (flat_map act all) ≡ []
each_quiet act quiet [] = refl
each_quiet act quiet (one ∷ others) = changes_in-append (act one) (flat_map act others) ∙ rw (quiet one, each_quiet act quiet others) refl

ends_quiet : (tag words : List ℕ) (acts : List (Act ReplyPart)) (state : State) → changes_in acts ≡ [] → IsQuiet (ends_with tag words acts state)
ends_quiet tag words acts state quiet = changes_in-append acts (reply (tagged tag words ∷ [])) ∙ rw quiet refl

quiet_if : (b : Bool) (x y : Step) → IsQuiet x → IsQuiet y → IsQuiet (if b then x else y)
quiet_if true x y one two = one
quiet_if false x y one two = two

each_step_quiet : (tag : List ℕ) (state : State) (by_uid : Bool) (set : Set) (kept : List Listed) (act : Numbered → List (Act ReplyPart)) → ((one : Numbered) → changes_in (act one) ≡ [])
    → IsQuiet (for_each tag state by_uid set kept act)
each_step_quiet tag state by_uid set kept act quiet =
    quiet_if (is_refused by_uid set kept) (no_such_message tag state) (ends_with tag done (flat_map act (chosen by_uid set kept)) state) refl
    (ends_quiet tag done (flat_map act (chosen by_uid set kept)) state (each_quiet act quiet (chosen by_uid set kept)))

examined_all : (oracles : Oracles) (now tag : List ℕ) (mode : Mode) (account folder : ℕ) (store : StoreState) (said : Command) → adds_to_store said ≡ false → changes_store said ≡ true
    → IsQuiet (selected_step (context_of oracles now tag store) (record { mode = mode; account = account; folder = folder; read_only = true }) said)
examined_all oracles now tag mode account folder store command.Capability other is = absurd cc
examined_all oracles now tag mode account folder store command.Noop other is = absurd cc
examined_all oracles now tag mode account folder store command.Check other is = absurd cc
examined_all oracles now tag mode account folder store command.Logout other is = absurd cc
examined_all oracles now tag mode account folder store (command.Login user password) other is = absurd cc
examined_all oracles now tag mode account folder store (command.Enable words) other is = absurd cc
examined_all oracles now tag mode account folder store (command.Select written) other is = absurd cc
examined_all oracles now tag mode account folder store (command.Examine written) other is = absurd cc
examined_all oracles now tag mode account folder store (command.Create written) other is = absurd cc
examined_all oracles now tag mode account folder store (command.List reference pattern) other is = absurd cc
examined_all oracles now tag mode account folder store (command.Status written items) other is = absurd cc
examined_all oracles now tag mode account folder store (command.Append written flags date in_utf8 octets) other is = absurd cc
examined_all oracles now tag mode account folder store (command.Fetch by_uid set items) other is =
    each_step_quiet tag (selected (record { mode = mode; account = account; folder = folder; read_only = true })) by_uid set (listed store.kept folder) (fetch_one oracles store (record { mode = mode; read_only = true; by_uid = by_uid; items = items }))
    (λ one. changes_in-asking (asked_of mode store items one.listed.id) (reply (fetch_reply oracles mode store one.number one.listed (with_uid by_uid items)))
    ∙ reply_quiet (fetch_reply oracles mode store one.number one.listed (with_uid by_uid items)))
examined_all oracles now tag mode account folder store (command.Store by_uid set op silent flags) other is = refl
examined_all oracles now tag mode account folder store command.Expunge other is = refl
examined_all oracles now tag mode account folder store command.Close other is = refl
examined_all oracles now tag mode account folder store command.NotHere other is = absurd cc

pub examined_quiet : (oracles : Oracles) (now tag : List ℕ) (mode : Mode) (account folder : ℕ) (store : StoreState) (said : Command) → adds_to_store said ≡ false
    → changes_in (step oracles now (selected (record { mode = mode; account = account; folder = folder; read_only = true })) store tag said).acts ≡ []
unfolding step
examined_quiet oracles now tag mode account folder store said other =
    selected_all IsQuiet tag (answers_quiet tag) oracles now (record { mode = mode; account = account; folder = folder; read_only = true }) store said (examined_all oracles now tag mode account folder store said other)

-- ---- commands that may change the store

reply_unasked : (parts : List ReplyPart) → asked_in (reply parts) ≡ []
reply_unasked parts = asked_in-acts [] parts

taken_unasked : (ids : List ℕ) → asked_in (taken_out ids) ≡ []
taken_unasked [] = refl
taken_unasked (id ∷ ids) = refl

closed_unasked : (read_only : Bool) (ids : List ℕ) → asked_in (if read_only then [] else taken_out ids) ≡ []
closed_unasked true ids = refl
closed_unasked false ids = taken_unasked ids

-- what is asked for by acts for each of many
asked_each : {T : Type 0} (act : T → List (Act ReplyPart)) (asked : T → List Asked) → ((one : T) → asked_in (act one) ≡ asked one) → (all : List T) → asked_in (flat_map act all) ≡ flat_map asked all
asked_each act asked is [] = refl
asked_each act asked is (one ∷ others) = asked_in-append (act one) (flat_map act others) ∙ rw (is one, asked_each act asked is others) refl

each_unasked : {T : Type 0} (act : T → List (Act ReplyPart)) → ((one : T) → asked_in (act one) ≡ []) → (all : List T) → asked_in (flat_map act all) ≡ []
each_unasked act unasked [] = refl
each_unasked act unasked (one ∷ others) = asked_in-append (act one) (flat_map act others) ∙ rw (unasked one, each_unasked act unasked others) refl

-- what holds of a step that asks the cache for nothing, and ends with the line of its tag, holds of these
module _ (P : Step → Type 0) (tag : List ℕ) (ended_by : (words : List ℕ) (acts : List (Act ReplyPart)) (state : State) → asked_in acts ≡ [] → P (ends_with tag words acts state)) where
  answers_by : (words : List ℕ) (parts : List ReplyPart) (state : State) → P (answers tag words parts state)
  answers_by words parts state = ended_by words (reply parts) state (reply_unasked parts)

  either_by : (b : Bool) (x y : Step) → P x → P y → P (if b then x else y)
  either_by true x y one two = one
  either_by false x y one two = two

  each_by : (state : State) (by_uid : Bool) (set : Set) (kept : List Listed) (act : Numbered → List (Act ReplyPart)) → asked_in (flat_map act (chosen by_uid set kept)) ≡ []
      → P (for_each tag state by_uid set kept act)
  each_by state by_uid set kept act unasked =
      either_by (is_refused by_uid set kept) (no_such_message tag state) (ends_with tag done (flat_map act (chosen by_uid set kept)) state)
      (answers_by (codes "BAD no such message") [] state) (ended_by done (flat_map act (chosen by_uid set kept)) state unasked)

  created_by : (state : State) (account : ℕ) (kept : List ℕ) (refused : Option StoreFault) → P (create_unless tag state account kept refused)
  created_by state account kept None = ended_by done (changes (records.Folder account kept ∷ []) ∷ []) state refl
  created_by state account kept (Some refusal.Exists) = answers_by (codes "NO exists") [] state
  created_by state account kept (Some refusal.NoSuch) = answers_by (codes "NO too large") [] state
  created_by state account kept (Some refusal.TooLarge) = answers_by (codes "NO too large") [] state
  created_by state account kept (Some refusal.Keeper) = answers_by (codes "NO too large") [] state
  created_by state account kept (Some refusal.Memory) = answers_by (codes "NO too large") [] state

  create_all : (state : State) (account : ℕ) (store : StoreState) (found : Option (List ℕ)) → P (create_by tag state account store found)
  create_all state account store None = answers_by (codes "NO bad name") [] state
  create_all state account store (Some given) =
      let kept = kept_name given in
      let refused = folder_refusal store.kept account given in
      either_by (names_folder kept) (create_unless tag state account kept refused) (says tag (codes "NO bad name") state) (created_by state account kept refused)
      (answers_by (codes "NO bad name") [] state)

  put_by : (state : State) (kept : Kept) (folder : ℕ) (made : Record) (refused : Option StoreFault) → P (append_unless tag state kept folder made refused)
  put_by state kept folder made None =
      let told = exists_lines (opened_in state) (after_record kept made) folder in ended_by done (changes (made ∷ []) ∷ reply told) state (reply_unasked told)
  put_by state kept folder made (Some other) = answers_by (codes "NO too large") [] state

  append_all : (oracles : Oracles) (now : List ℕ) (state : State) (mode : Mode) (store : StoreState) (append : Append) (found : Option ℕ)
      → P (append_in (context_of oracles now tag store) state mode append found)
  append_all oracles now state mode store append None = answers_by (codes "NO no such folder") [] state
  append_all oracles now state mode store append (Some folder) =
      let whole = completed append.octets in
      let unless : Option StoreFault → Step = append_unless tag state store.kept folder (appended folder append.flags (oracles.mark_of whole) append.date whole) in
      let without : Step = says tag (codes "NO not a message") state in
      either_by (append.in_utf8 && not (is_enabled mode)) (says tag (codes "NO not enabled") state) (if oracles.has_tree whole then unless (append_refusal store whole) else without)
      (answers_by (codes "NO not enabled") [] state)
      (either_by (oracles.has_tree whole) (unless (append_refusal store whole)) without (put_by state store.kept folder (appended folder append.flags (oracles.mark_of whole) append.date whole) (append_refusal store whole)) (answers_by (codes "NO not a message") [] state))

  added_all : (oracles : Oracles) (now : List ℕ) (state : State) (mode : Mode) (account : ℕ) (store : StoreState) (said : Command) → adds_to_store said ≡ true
      → P (mailbox_step (context_of oracles now tag store) state mode account said)
  added_all oracles now state mode account store command.Capability is = absurd cc
  added_all oracles now state mode account store command.Noop is = absurd cc
  added_all oracles now state mode account store command.Check is = absurd cc
  added_all oracles now state mode account store command.Logout is = absurd cc
  added_all oracles now state mode account store (command.Login user password) is = absurd cc
  added_all oracles now state mode account store (command.Enable words) is = absurd cc
  added_all oracles now state mode account store (command.Select written) is = absurd cc
  added_all oracles now state mode account store (command.Examine written) is = absurd cc
  added_all oracles now state mode account store (command.Create written) is = create_all state account store (oracles.name_of (is_enabled mode) written)
  added_all oracles now state mode account store (command.List reference pattern) is = absurd cc
  added_all oracles now state mode account store (command.Status written items) is = absurd cc
  added_all oracles now state mode account store (command.Append written flags date in_utf8 octets) is =
      append_all oracles now state mode store (record { flags = flags; date = date_or now date; in_utf8 = in_utf8; octets = octets }) (folder_named oracles mode store account written)
  added_all oracles now state mode account store (command.Fetch by_uid set items) is = absurd cc
  added_all oracles now state mode account store (command.Store by_uid set op silent flags) is = absurd cc
  added_all oracles now state mode account store command.Expunge is = absurd cc
  added_all oracles now state mode account store command.Close is = absurd cc
  added_all oracles now state mode account store command.NotHere is = absurd cc

  stored_unasked : (by_uid silent : Bool) (op : StoreOp) (named : ℕ) (one : Numbered) → asked_in (store_one by_uid silent op named one) ≡ []
  stored_unasked by_uid silent op named one = reply_unasked (flags_reply by_uid silent one (stored_flags op one.listed.flags named))

  store_all : (oracles : Oracles) (now : List ℕ) (selection : Selection) (store : StoreState) (said : Store) → P (store_step (context_of oracles now tag store) selection said)
  store_all oracles now selection store said =
      let state = selected selection in
      let act = store_one said.by_uid said.silent said.op said.flags in
      let messages = listed store.kept selection.folder in
      either_by selection.read_only (refused_as_read_only tag state) (for_each tag state said.by_uid said.set messages act) (answers_by (codes "NO read only") [] state)
      (each_by state said.by_uid said.set messages act (each_unasked act (stored_unasked said.by_uid said.silent said.op said.flags) (chosen said.by_uid said.set messages)))

  expunge_all : (state : State) (read_only : Bool) (messages : List Listed) → P (expunge_step tag state read_only messages)
  expunge_all state read_only messages =
      let gone = taken_out (deleted_ids messages) in
      let told = closing_up 1 messages in
      either_by read_only (refused_as_read_only tag state) (ends_with tag done (gone ++ reply told) state) (answers_by (codes "NO read only") [] state)
      (ended_by done (gone ++ reply told) state (asked_in-append gone (reply told) ∙ rw (taken_unasked (deleted_ids messages), reply_unasked told) refl))

  changed_all : (oracles : Oracles) (now : List ℕ) (selection : Selection) (store : StoreState) (said : Command) → changes_store said ≡ true
      → ((by_uid : Bool) (set : Set) (items : List FetchItem) → said ≡ command.Fetch by_uid set items → P (fetch_step (context_of oracles now tag store) selection (record { by_uid = by_uid; set = set; items = items })))
      → P (selected_step (context_of oracles now tag store) selection said)
  changed_all oracles now selection store command.Capability is fetched = absurd cc
  changed_all oracles now selection store command.Noop is fetched = absurd cc
  changed_all oracles now selection store command.Check is fetched = absurd cc
  changed_all oracles now selection store command.Logout is fetched = absurd cc
  changed_all oracles now selection store (command.Login user password) is fetched = absurd cc
  changed_all oracles now selection store (command.Enable words) is fetched = absurd cc
  changed_all oracles now selection store (command.Select written) is fetched = absurd cc
  changed_all oracles now selection store (command.Examine written) is fetched = absurd cc
  changed_all oracles now selection store (command.Create written) is fetched =
      added_all oracles now (selected selection) selection.mode selection.account store (command.Create written) refl
  changed_all oracles now selection store (command.List reference pattern) is fetched = absurd cc
  changed_all oracles now selection store (command.Status written items) is fetched = absurd cc
  changed_all oracles now selection store (command.Append written flags date in_utf8 octets) is fetched =
      added_all oracles now (selected selection) selection.mode selection.account store (command.Append written flags date in_utf8 octets) refl
  changed_all oracles now selection store (command.Fetch by_uid set items) is fetched = fetched by_uid set items refl
  changed_all oracles now selection store (command.Store by_uid set op silent flags) is fetched =
      store_all oracles now selection store (record { by_uid = by_uid; set = set; op = op; silent = silent; flags = flags })
  changed_all oracles now selection store command.Expunge is fetched = expunge_all (selected selection) selection.read_only (listed store.kept selection.folder)
  changed_all oracles now selection store command.Close is fetched =
      ended_by done (if selection.read_only then [] else taken_out (deleted_ids (listed store.kept selection.folder))) (authenticated selection.mode selection.account)
      (closed_unasked selection.read_only (deleted_ids (listed store.kept selection.folder)))
  changed_all oracles now selection store command.NotHere is fetched = absurd cc

-- ---- the line that ends the replies

ends_tagged : (tag words : List ℕ) (acts : List (Act ReplyPart)) (state : State) → EndsTagged tag (ends_with tag words acts state)
ends_tagged tag words acts state = (acts, words, refl)

answers_tagged : (tag words : List ℕ) (parts : List ReplyPart) (state : State) → EndsTagged tag (answers tag words parts state)
answers_tagged tag words parts state = ends_tagged tag words (reply parts) state

-- whatever is asked for
any_tagged : (tag words : List ℕ) (acts : List (Act ReplyPart)) (state : State) → asked_in acts ≡ [] → EndsTagged tag (ends_with tag words acts state)
any_tagged tag words acts state unasked = ends_tagged tag words acts state

fetch_tagged : (context : Context) (selection : Selection) (fetch : Fetch) → EndsTagged context.tag (fetch_step context selection fetch)
fetch_tagged context selection fetch =
    let tag = context.tag in
    let state = selected selection in
    let messages = listed context.store.kept selection.folder in
    let fetching : Fetching = fetching_in selection fetch in
    let acts = flat_map (fetch_one context.oracles context.store fetching) (chosen fetch.by_uid fetch.set messages) in
    either_by (EndsTagged tag) tag (any_tagged tag) (is_refused fetch.by_uid fetch.set messages) (no_such_message tag state) (ends_with tag done acts state)
    (answers_tagged tag (codes "BAD no such message") [] state) (ends_tagged tag done acts state)

pub step_tagged : (oracles : Oracles) (now tag : List ℕ) (state : State) (store : StoreState) (said : Command) → ¬ (state ≡ ended) → EndsTagged tag (step oracles now state store tag said)
unfolding step
step_tagged oracles now tag not_authenticated store said goes = unauthenticated_all (EndsTagged tag) tag (answers_tagged tag) oracles store said
step_tagged oracles now tag (authenticated mode account) store said goes =
    authenticated_all (EndsTagged tag) tag (answers_tagged tag) oracles now mode account store said (added_all (EndsTagged tag) tag (any_tagged tag) oracles now (authenticated mode account) mode account store said)
step_tagged oracles now tag (selected selection) store said goes =
    selected_all (EndsTagged tag) tag (answers_tagged tag) oracles now selection store said (λ changes_it.
    changed_all (EndsTagged tag) tag (any_tagged tag) oracles now selection store said changes_it
    (λ by_uid set items is. fetch_tagged (context_of oracles now tag store) selection (record { by_uid = by_uid; set = set; items = items })))
step_tagged oracles now tag ended store said goes = absurd (goes refl)

-- ---- what asks the cache

abbrev IsUnasked : Step → Type 0
IsUnasked taken = asked_in taken.acts ≡ []

ends_unasked : (tag words : List ℕ) (acts : List (Act ReplyPart)) (state : State) → asked_in acts ≡ [] → IsUnasked (ends_with tag words acts state)
ends_unasked tag words acts state unasked = asked_in-append acts (reply (tagged tag words ∷ [])) ∙ rw unasked refl

answers_unasked : (tag words : List ℕ) (parts : List ReplyPart) (state : State) → IsUnasked (answers tag words parts state)
answers_unasked tag words parts state = ends_unasked tag words (reply parts) state (reply_unasked parts)

-- a step asks for nothing, if it is no FETCH that does
unasked_unless : (oracles : Oracles) (now tag : List ℕ) (state : State) (store : StoreState) (said : Command)
    → ((selection : Selection) (by_uid : Bool) (set : Set) (items : List FetchItem) → state ≡ selected selection → said ≡ command.Fetch by_uid set items
    → IsUnasked (fetch_step (context_of oracles now tag store) selection (record { by_uid = by_uid; set = set; items = items }))) → asked_in (step oracles now state store tag said).acts ≡ []
unfolding step
unasked_unless oracles now tag not_authenticated store said fetched = unauthenticated_all IsUnasked tag (answers_unasked tag) oracles store said
unasked_unless oracles now tag (authenticated mode account) store said fetched =
    authenticated_all IsUnasked tag (answers_unasked tag) oracles now mode account store said (added_all IsUnasked tag (ends_unasked tag) oracles now (authenticated mode account) mode account store said)
unasked_unless oracles now tag (selected selection) store said fetched =
    selected_all IsUnasked tag (answers_unasked tag) oracles now selection store said (λ changes_it.
    changed_all IsUnasked tag (ends_unasked tag) oracles now selection store said changes_it (λ by_uid set items is. fetched selection by_uid set items refl is))
unasked_unless oracles now tag ended store said fetched = refl

pub others_unasked : (oracles : Oracles) (now tag : List ℕ) (state : State) (store : StoreState) (said : Command) → is_fetch said ≡ false → asked_in (step oracles now state store tag said).acts ≡ []
others_unasked oracles now tag state store said other =
    unasked_unless oracles now tag state store said (λ selection by_uid set items at is. none_true (is_fetch said) other (ap is_fetch is))

-- one message is asked for where it is told
one_asked : (oracles : Oracles) (store : StoreState) (fetching : Fetching) (one : Numbered) → asked_in (fetch_one oracles store fetching one) ≡ asked_of fetching.mode store fetching.items one.listed.id
one_asked oracles store fetching one =
    let items = fetching.items in
    let asked = asked_of fetching.mode store items one.listed.id in
    let told : (is : Listed) (changed : Bool) → asked_in (asking asked (reply (fetch_reply oracles fetching.mode store one.number is (with_flags changed (with_uid fetching.by_uid items))))) ≡ asked = λ is changed.
    (let parts = fetch_reply oracles fetching.mode store one.number is (with_flags changed (with_uid fetching.by_uid items)) in
    asked_in-asking asked (reply parts) ∙ (ap (λ (l : List Asked). asked ++ l) (reply_unasked parts) ∙ append-nil asked)) in
    cond_both (becomes_seen fetching.read_only items one.listed)
    (changes (flags_change one.listed (seen one.listed).flags) ∷ fetch_told oracles store fetching (record one { listed = seen one.listed }) true)
    (fetch_told oracles store fetching one false) (λ z. asked_in z ≡ asked) (λ _. told (seen one.listed) true) (λ _. told one.listed false)

-- a FETCH asks for nothing where it asks for none of the messages, or names one that isn't there
fetch_unasked : (context : Context) (selection : Selection) (fetch : Fetch) → ((id : ℕ) → asked_of selection.mode context.store fetch.items id ≡ []) → IsUnasked (fetch_step context selection fetch)
fetch_unasked context selection fetch none =
    let messages = listed context.store.kept selection.folder in
    let fetching : Fetching = fetching_in selection fetch in
    let act = fetch_one context.oracles context.store fetching in
    each_by IsUnasked context.tag (ends_unasked context.tag) (selected selection) fetch.by_uid fetch.set messages act
    (each_unasked act (λ one. one_asked context.oracles context.store fetching one ∙ none one.listed.id) (chosen fetch.by_uid fetch.set messages))

none_enabled : (store : StoreState) (items : List FetchItem) (mode : Mode) → mode ≡ enabled → (id : ℕ) → asked_of mode store items id ≡ []
none_enabled store items legacy is id = absurd cc
none_enabled store items enabled is id = cond_both (list_any is_of_message items) [] [] (λ (l : List Asked). l ≡ []) (λ _. refl) (λ _. refl)

pub enabled_unasked : (oracles : Oracles) (now tag : List ℕ) (state : State) (store : StoreState) (said : Command) → mode_of state ≡ enabled → asked_in (step oracles now state store tag said).acts ≡ []
enabled_unasked oracles now tag state store said is =
    unasked_unless oracles now tag state store said (λ selection by_uid set items at fetches.
    fetch_unasked (context_of oracles now tag store) selection (record { by_uid = by_uid; set = set; items = items }) (none_enabled store items selection.mode (sym (ap mode_of at) ∙ is)))

pub kept_unasked : (oracles : Oracles) (now tag : List ℕ) (mode : Mode) (account folder : ℕ) (read_only : Bool) (store : StoreState) (by_uid : Bool) (set : Set) (items : List FetchItem)
    → list_any is_of_message items ≡ false → asked_in (step oracles now (selected (record { mode = mode; account = account; folder = folder; read_only = read_only })) store tag (command.Fetch by_uid set items)).acts ≡ []
unfolding step
kept_unasked oracles now tag mode account folder read_only store by_uid set items beside =
    fetch_unasked (context_of oracles now tag store) (record { mode = mode; account = account; folder = folder; read_only = read_only }) (record { by_uid = by_uid; set = set; items = items }) (λ id. cond-false (list_any is_of_message items) _ _ beside)

pub refused_unasked : (oracles : Oracles) (now tag : List ℕ) (mode : Mode) (account folder : ℕ) (read_only : Bool) (store : StoreState) (by_uid : Bool) (set : Set) (items : List FetchItem)
    → is_refused by_uid set (listed store.kept folder) ≡ true → asked_in (step oracles now (selected (record { mode = mode; account = account; folder = folder; read_only = read_only })) store tag (command.Fetch by_uid set items)).acts ≡ []
unfolding step
refused_unasked oracles now tag mode account folder read_only store by_uid set items refused =
    let state = selected (record { mode = mode; account = account; folder = folder; read_only = read_only }) in
    let messages = listed store.kept folder in
    let fetching : Fetching = record { mode = mode; read_only = read_only; by_uid = by_uid; items = items } in
    let all = flat_map (fetch_one oracles store fetching) (chosen by_uid set messages) in
    ap (λ (taken : Step). asked_in taken.acts) (cond-true (is_refused by_uid set messages) (no_such_message tag state) (ends_with tag done all state) refused)

-- each message that is told is asked for once
once_each : (store : StoreState) (items : List FetchItem) → list_any is_of_message items ≡ true → (all : List Numbered) → flat_map (λ (one : Numbered). asked_of legacy store items one.listed.id) all ≡ map (asked_as store) all
once_each store items is [] = refl
once_each store items is (one ∷ others) =
    let this : asked_of legacy store items one.listed.id ≡ asked_as store one ∷ [] = cond-true (list_any is_of_message items) _ _ is in
    ap (λ (l : List Asked). l ++ flat_map (λ (other : Numbered). asked_of legacy store items other.listed.id) others) this ∙ ap (λ (l : List Asked). asked_as store one ∷ l) (once_each store items is others)

pub fetch_asks : (oracles : Oracles) (now tag : List ℕ) (account folder : ℕ) (read_only : Bool) (store : StoreState) (by_uid : Bool) (set : Set) (items : List FetchItem)
    → list_any is_of_message items ≡ true → is_refused by_uid set (listed store.kept folder) ≡ false
    → asked_in (step oracles now (selected (record { mode = legacy; account = account; folder = folder; read_only = read_only })) store tag (command.Fetch by_uid set items)).acts ≡ map (asked_as store) (chosen by_uid set (listed store.kept folder))
unfolding step
fetch_asks oracles now tag account folder read_only store by_uid set items is taken =
    let fetching : Fetching = record { mode = legacy; read_only = read_only; by_uid = by_uid; items = items } in
    let act = fetch_one oracles store fetching in
    let all = chosen by_uid set (listed store.kept folder) in
    let state = selected (record { mode = legacy; account = account; folder = folder; read_only = read_only }) in
    ap (λ (made : Step). asked_in made.acts) (cond-false (is_refused by_uid set (listed store.kept folder)) (no_such_message tag state) (ends_with tag done (flat_map act all) state) taken)
    ∙ (asked_in-append (flat_map act all) (reply (tagged tag done ∷ [])) ∙ (append-nil (asked_in (flat_map act all))
    ∙ (asked_each act (λ (one : Numbered). asked_of legacy store items one.listed.id) (one_asked oracles store fetching) all ∙ once_each store items is all)))
