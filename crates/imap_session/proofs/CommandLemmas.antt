-- Commands, as they are answered in each state.
use Rattle.std.proofs.Common.{◌≡◌, ℕ, ◌<◌, ◌≤◌, List, [], ◌∷◌, Bool, true, false, Option, None, Some, Result, Ok, Err, refl, sym, ap, ◌∙◌, subst, length, length-append, inl, inr, ◌⊎◌, arith, codes}
use Rattle.std.specs.Prelude.{if◌then◌else◌, OnOk}
use Rattle.mail_wire.specs.declared.outside.Fault.{Fault}
use Rattle.kept_mail.specs.Kept.{Kept, after_all, listed, listed_from}
use Rattle.kept_mail.specs.declared.limits.TheConstants.{THINGS_MAX}
use Rattle.kept_mail.specs.declared.kept.Folder.{Folder}
use Rattle.kept_mail.specs.declared.kept.Listed.{Listed}
use Rattle.kept_mail.specs.declared.kept.Message.{Message}
use Rattle.mail_store.specs.Following.{records_of}
use Rattle.mail_store.specs.StoreState.{StoreState}
use Rattle.mail_store.specs.declared.changing.StoreFault.{StoreFault}
use Rattle.mail_store.specs.declared.changing.StoreFault.TheVariants as refusal
use Rattle.surrogate_cache.specs.Served.{Mode, enabled, is_enabled, legacy}
use Rattle.session_core.specs.Acts.{changes_in}
use Rattle.session_core.specs.Around.{Around}
use Rattle.session_core.specs.Doing.{Does}
use Rattle.session_core.specs.Keeps.{fault_of}
use Rattle.session_core.specs.Oracles.{Oracles, WithOracles}
use Rattle.session_core.specs.declared.desk.Desk.{Desk}
use Rattle.session_core.proofs.MeaningLemmas.{oracles_given}
use Rattle.imap_grammar.specs.declared.command.Command.{Command}
use Rattle.imap_grammar.specs.declared.command.Command.TheVariants as command
use Rattle.imap_grammar.specs.declared.command.StatusItem.{StatusItem}
use Rattle.imap_session.specs.Machine.{State, Step, answers, authenticated, authenticated_step, common_step, context_of, create_by, create_unless, done, enable_step, lacks_date, mailbox_step, names_folder, not_authenticated, not_authenticated_step, out_of_order, status_by, untagged}
use Rattle.imap_session.specs.Replies.{part_octets}
use Rattle.imap_session.specs.Session.{KnowsFolder, KnowsState}
use Rattle.imap_session.specs.declared.states.ImapState.{ImapState}
use Rattle.imap_session.specs.declared.states.ImapState.TheVariants as imap
use Rattle.imap_session.specs.private.Messages.{selects_or_appends, state_left}
use Rattle.journal_records.specs.Grammar.{kept_name}
use Rattle.mail_store.specs.Changing.{folder_refusal}

-- ---- what each step is

-- any other command is out of order
pub common-other : (tag : List ℕ) (state : State) (c : Command) → (c ≡ command.Capability → ⊥) → (c ≡ command.Noop → ⊥) → (c ≡ command.Logout → ⊥) → (c ≡ command.NotHere → ⊥)
    → common_step tag state c ≡ out_of_order tag state
common-other tag state command.Capability no_capability no_noop no_logout no_not_here = absurd (no_capability refl)
common-other tag state command.Noop no_capability no_noop no_logout no_not_here = absurd (no_noop refl)
common-other tag state command.Check no_capability no_noop no_logout no_not_here = refl
common-other tag state command.Logout no_capability no_noop no_logout no_not_here = absurd (no_logout refl)
common-other tag state (command.Login user password) no_capability no_noop no_logout no_not_here = refl
common-other tag state (command.Enable words) no_capability no_noop no_logout no_not_here = refl
common-other tag state (command.Select written) no_capability no_noop no_logout no_not_here = refl
common-other tag state (command.Examine written) no_capability no_noop no_logout no_not_here = refl
common-other tag state (command.Create written) no_capability no_noop no_logout no_not_here = refl
common-other tag state (command.List reference pattern) no_capability no_noop no_logout no_not_here = refl
common-other tag state (command.Status written items) no_capability no_noop no_logout no_not_here = refl
common-other tag state (command.Append written flags date utf8 octets) no_capability no_noop no_logout no_not_here = refl
common-other tag state (command.Fetch by_uid set items) no_capability no_noop no_logout no_not_here = refl
common-other tag state (command.Store by_uid set op silent flags) no_capability no_noop no_logout no_not_here = refl
common-other tag state command.Expunge no_capability no_noop no_logout no_not_here = refl
common-other tag state command.Close no_capability no_noop no_logout no_not_here = refl
common-other tag state command.NotHere no_capability no_noop no_logout no_not_here = absurd (no_not_here refl)

-- before login, any but LOGIN is one of every state
pub unauthenticated-other : (oracles : Oracles) (tag : List ℕ) (store : StoreState) (c : Command) → ((user password : List ℕ) → c ≡ command.Login user password → ⊥)
    → common_step tag not_authenticated c ≡ not_authenticated_step oracles tag store c
unauthenticated-other oracles tag store command.Capability no_login = refl
unauthenticated-other oracles tag store command.Noop no_login = refl
unauthenticated-other oracles tag store command.Check no_login = refl
unauthenticated-other oracles tag store command.Logout no_login = refl
unauthenticated-other oracles tag store (command.Login user password) no_login = absurd (no_login user password refl)
unauthenticated-other oracles tag store (command.Enable words) no_login = refl
unauthenticated-other oracles tag store (command.Select written) no_login = refl
unauthenticated-other oracles tag store (command.Examine written) no_login = refl
unauthenticated-other oracles tag store (command.Create written) no_login = refl
unauthenticated-other oracles tag store (command.List reference pattern) no_login = refl
unauthenticated-other oracles tag store (command.Status written items) no_login = refl
unauthenticated-other oracles tag store (command.Append written flags date utf8 octets) no_login = refl
unauthenticated-other oracles tag store (command.Fetch by_uid set items) no_login = refl
unauthenticated-other oracles tag store (command.Store by_uid set op silent flags) no_login = refl
unauthenticated-other oracles tag store command.Expunge no_login = refl
unauthenticated-other oracles tag store command.Close no_login = refl
unauthenticated-other oracles tag store command.NotHere no_login = refl

-- a command on folders that isn't one of these is one of every state
pub mailbox-other : (oracles : Oracles) (now tag : List ℕ) (state : State) (mode : Mode) (account : ℕ) (store : StoreState) (c : Command) → ((written : List ℕ) → c ≡ command.Create written → ⊥) → ((reference pattern : List ℕ) → c ≡ command.List reference pattern → ⊥) → ((written : List ℕ) (items : List StatusItem) → c ≡ command.Status written items → ⊥) → selects_or_appends c ≡ false
    → common_step tag state c ≡ mailbox_step (context_of oracles now tag store) state mode account c
mailbox-other oracles now tag state mode account store command.Capability no_create no_list no_status none = refl
mailbox-other oracles now tag state mode account store command.Noop no_create no_list no_status none = refl
mailbox-other oracles now tag state mode account store command.Check no_create no_list no_status none = refl
mailbox-other oracles now tag state mode account store command.Logout no_create no_list no_status none = refl
mailbox-other oracles now tag state mode account store (command.Login user password) no_create no_list no_status none = refl
mailbox-other oracles now tag state mode account store (command.Enable words) no_create no_list no_status none = refl
mailbox-other oracles now tag state mode account store (command.Select written) no_create no_list no_status none = absurd cc
mailbox-other oracles now tag state mode account store (command.Examine written) no_create no_list no_status none = absurd cc
mailbox-other oracles now tag state mode account store (command.Create written) no_create no_list no_status none = absurd (no_create written refl)
mailbox-other oracles now tag state mode account store (command.List reference pattern) no_create no_list no_status none = absurd (no_list reference pattern refl)
mailbox-other oracles now tag state mode account store (command.Status written items) no_create no_list no_status none = absurd (no_status written items refl)
mailbox-other oracles now tag state mode account store (command.Append written flags date utf8 octets) no_create no_list no_status none = absurd cc
mailbox-other oracles now tag state mode account store (command.Fetch by_uid set items) no_create no_list no_status none = refl
mailbox-other oracles now tag state mode account store (command.Store by_uid set op silent flags) no_create no_list no_status none = refl
mailbox-other oracles now tag state mode account store command.Expunge no_create no_list no_status none = refl
mailbox-other oracles now tag state mode account store command.Close no_create no_list no_status none = refl
mailbox-other oracles now tag state mode account store command.NotHere no_create no_list no_status none = refl

-- after login, any but ENABLE is one on folders
pub authenticated-other : (oracles : Oracles) (now tag : List ℕ) (mode : Mode) (account : ℕ) (store : StoreState) (c : Command) → ((words : List (List ℕ)) → c ≡ command.Enable words → ⊥)
    → mailbox_step (context_of oracles now tag store) (authenticated mode account) mode account c ≡ authenticated_step (context_of oracles now tag store) mode account c
authenticated-other oracles now tag mode account store command.Capability no_enable = refl
authenticated-other oracles now tag mode account store command.Noop no_enable = refl
authenticated-other oracles now tag mode account store command.Check no_enable = refl
authenticated-other oracles now tag mode account store command.Logout no_enable = refl
authenticated-other oracles now tag mode account store (command.Login user password) no_enable = refl
authenticated-other oracles now tag mode account store (command.Enable words) no_enable = absurd (no_enable words refl)
authenticated-other oracles now tag mode account store (command.Select written) no_enable = refl
authenticated-other oracles now tag mode account store (command.Examine written) no_enable = refl
authenticated-other oracles now tag mode account store (command.Create written) no_enable = refl
authenticated-other oracles now tag mode account store (command.List reference pattern) no_enable = refl
authenticated-other oracles now tag mode account store (command.Status written items) no_enable = refl
authenticated-other oracles now tag mode account store (command.Append written flags date utf8 octets) no_enable = refl
authenticated-other oracles now tag mode account store (command.Fetch by_uid set items) no_enable = refl
authenticated-other oracles now tag mode account store (command.Store by_uid set op silent flags) no_enable = refl
authenticated-other oracles now tag mode account store command.Expunge no_enable = refl
authenticated-other oracles now tag mode account store command.Close no_enable = refl
authenticated-other oracles now tag mode account store command.NotHere no_enable = refl

-- any but SELECT, EXAMINE and APPEND selects no folder and puts no message into one
pub selects-other : (c : Command) → ((written : List ℕ) → c ≡ command.Select written → ⊥) → ((written : List ℕ) → c ≡ command.Examine written → ⊥)
    → ((written : List ℕ) (flags : ℕ) (date : Option (List ℕ)) (utf8 : Bool) (octets : List ℕ) → c ≡ command.Append written flags date utf8 octets → ⊥) → selects_or_appends c ≡ false
selects-other command.Capability no_select no_examine no_append = refl
selects-other command.Noop no_select no_examine no_append = refl
selects-other command.Check no_select no_examine no_append = refl
selects-other command.Logout no_select no_examine no_append = refl
selects-other (command.Login user password) no_select no_examine no_append = refl
selects-other (command.Enable words) no_select no_examine no_append = refl
selects-other (command.Select written) no_select no_examine no_append = absurd (no_select written refl)
selects-other (command.Examine written) no_select no_examine no_append = absurd (no_examine written refl)
selects-other (command.Create written) no_select no_examine no_append = refl
selects-other (command.List reference pattern) no_select no_examine no_append = refl
selects-other (command.Status written items) no_select no_examine no_append = refl
selects-other (command.Append written flags date utf8 octets) no_select no_examine no_append = absurd (no_append written flags date utf8 octets refl)
selects-other (command.Fetch by_uid set items) no_select no_examine no_append = refl
selects-other (command.Store by_uid set op silent flags) no_select no_examine no_append = refl
selects-other command.Expunge no_select no_examine no_append = refl
selects-other command.Close no_select no_examine no_append = refl
selects-other command.NotHere no_select no_examine no_append = refl

-- nor does it lack a date
pub dated-other : (c : Command) → selects_or_appends c ≡ false → lacks_date c ≡ false
dated-other command.Capability none = refl
dated-other command.Noop none = refl
dated-other command.Check none = refl
dated-other command.Logout none = refl
dated-other (command.Login user password) none = refl
dated-other (command.Enable words) none = refl
dated-other (command.Select written) none = refl
dated-other (command.Examine written) none = refl
dated-other (command.Create written) none = refl
dated-other (command.List reference pattern) none = refl
dated-other (command.Status written items) none = refl
dated-other (command.Append written flags date utf8 octets) none = absurd cc
dated-other (command.Fetch by_uid set items) none = refl
dated-other (command.Store by_uid set op silent flags) none = refl
dated-other command.Expunge none = refl
dated-other command.Close none = refl
dated-other command.NotHere none = refl

-- ENABLE turns nothing on where the session is enabled, or where it isn't asked for
pub enable-again : (tag : List ℕ) (mode : Mode) (account : ℕ) (asked : Bool) → (is_enabled mode ≡ true) ⊎ (asked ≡ false)
    → answers tag done (untagged (codes "ENABLED") ∷ []) (authenticated mode account) ≡ enable_step tag mode account asked
enable-again tag legacy account true none = absurd (elim none [
  | inl on ↦ cc
  | inr unasked ↦ cc
])
enable-again tag legacy account false none = refl
enable-again tag enabled account asked none = refl

pub enable-first : (tag : List ℕ) (mode : Mode) (account : ℕ) (asked : Bool) → is_enabled mode ≡ false → asked ≡ true
    → answers tag done (untagged (codes "ENABLED UTF8=ACCEPT") ∷ []) (authenticated enabled account) ≡ enable_step tag mode account asked
enable-first tag legacy account true off on = refl
enable-first tag legacy account false off on = absurd cc
enable-first tag enabled account asked off on = absurd cc

-- ---- which state is left

pub common-left : (tag : List ℕ) (state : State) (c : Command) → state_left state c ≡ (common_step tag state c).state
common-left tag state command.Capability = refl
common-left tag state command.Noop = refl
common-left tag state command.Check = refl
common-left tag state command.Logout = refl
common-left tag state (command.Login user password) = refl
common-left tag state (command.Enable words) = refl
common-left tag state (command.Select written) = refl
common-left tag state (command.Examine written) = refl
common-left tag state (command.Create written) = refl
common-left tag state (command.List reference pattern) = refl
common-left tag state (command.Status written items) = refl
common-left tag state (command.Append written flags date utf8 octets) = refl
common-left tag state (command.Fetch by_uid set items) = refl
common-left tag state (command.Store by_uid set op silent flags) = refl
common-left tag state command.Expunge = refl
common-left tag state command.Close = refl
common-left tag state command.NotHere = refl

if-left : (b : Bool) (x y : Step) (state : State) → state ≡ x.state → state ≡ y.state → state ≡ (if b then x else y).state
if-left true x y state one two = one
if-left false x y state one two = two

made-left : (tag : List ℕ) (state : State) (account : ℕ) (name : List ℕ) (found : Option StoreFault) → state ≡ (create_unless tag state account name found).state
made-left tag state account name None = refl
made-left tag state account name (Some refusal.Exists) = refl
made-left tag state account name (Some refusal.NoSuch) = refl
made-left tag state account name (Some refusal.TooLarge) = refl
made-left tag state account name (Some refusal.Keeper) = refl
made-left tag state account name (Some refusal.Memory) = refl

create-left : (tag : List ℕ) (state : State) (account : ℕ) (store : StoreState) (named : Option (List ℕ)) → state ≡ (create_by tag state account store named).state
create-left tag state account store None = refl
create-left tag state account store (Some given) =
    if-left (names_folder (kept_name given)) (create_unless tag state account (kept_name given) (folder_refusal store.kept account given)) _ state
    (made-left tag state account (kept_name given) (folder_refusal store.kept account given)) refl

status-left : (tag : List ℕ) (state : State) (mode : Mode) (store : StoreState) (items : List StatusItem) (named : Option ℕ) → state ≡ (status_by tag state mode store items named).state
status-left tag state mode store items None = refl
status-left tag state mode store items (Some folder) = refl

-- a command on folders that selects none and puts nothing into one leaves the state, unless it ends the session
pub mailbox-left : (oracles : Oracles) (now tag : List ℕ) (state : State) (mode : Mode) (account : ℕ) (store : StoreState) (c : Command) → selects_or_appends c ≡ false
    → state_left state c ≡ (mailbox_step (context_of oracles now tag store) state mode account c).state
mailbox-left oracles now tag state mode account store command.Capability none = refl
mailbox-left oracles now tag state mode account store command.Noop none = refl
mailbox-left oracles now tag state mode account store command.Check none = refl
mailbox-left oracles now tag state mode account store command.Logout none = refl
mailbox-left oracles now tag state mode account store (command.Login user password) none = refl
mailbox-left oracles now tag state mode account store (command.Enable words) none = refl
mailbox-left oracles now tag state mode account store (command.Select written) none = absurd cc
mailbox-left oracles now tag state mode account store (command.Examine written) none = absurd cc
mailbox-left oracles now tag state mode account store (command.Create written) none = create-left tag state account store _
mailbox-left oracles now tag state mode account store (command.List reference pattern) none = refl
mailbox-left oracles now tag state mode account store (command.Status written items) none = status-left tag state mode store items _
mailbox-left oracles now tag state mode account store (command.Append written flags date utf8 octets) none = absurd cc
mailbox-left oracles now tag state mode account store (command.Fetch by_uid set items) none = refl
mailbox-left oracles now tag state mode account store (command.Store by_uid set op silent flags) none = refl
mailbox-left oracles now tag state mode account store command.Expunge none = refl
mailbox-left oracles now tag state mode account store command.Close none = refl
mailbox-left oracles now tag state mode account store command.NotHere none = refl

-- ---- what a session knows

-- a folder whose messages were listed
pub listed_known : (store : StoreState) (account folder : ℕ) (messages : List Listed) → account < length store.kept.accounts → folder < length store.kept.folders → messages ≡ listed store.kept folder
    → length messages ≤ THINGS_MAX → KnowsFolder store account folder messages
listed_known store account folder messages account_is folder_is messages_are few = record { account_is = account_is; folder_is = folder_is; messages_are = messages_are; few = omega (arith, few) }

-- the store has the accounts and the messages that it had, and the folders
record HasMore (old new : Kept) : Type 0 where
  pub accounts : new.accounts ≡ old.accounts
  pub messages : new.messages ≡ old.messages
  pub folders : length old.folders ≤ length new.folders

more-folder : (a b : StoreState) (account folder : ℕ) (messages : List Listed) → HasMore a.kept b.kept → KnowsFolder a account folder messages → KnowsFolder b account folder messages
more-folder a b account folder messages has known = record {
  account_is = rw has.accounts known.account_is;
  folder_is = omega (arith, has.folders, known.folder_is);
  messages_are = known.messages_are ∙ ap (λ (ms : List Message). listed_from folder 0 1 ms) (sym has.messages);
  few = known.few;
}

more-known : (a b : StoreState) (session : ImapState) → HasMore a.kept b.kept → KnowsState a session → KnowsState b session
more-known a b (imap.NotAuthenticated session) has known = tt
more-known a b (imap.Authenticated session) has known = rw has.accounts known
more-known a b (imap.EnabledAuthenticated session) has known = rw has.accounts known
more-known a b (imap.Selected session) has known = more-folder a b session.state.account session.state.folder session.state.messages.items has known
more-known a b (imap.EnabledSelected session) has known = more-folder a b session.state.account session.state.folder session.state.messages.items has known

-- what is kept after a step
kept_following : Kept → Step → Kept
kept_following kept step = after_all kept (records_of (changes_in step.acts))

HasMore-nil : (kept : Kept) → HasMore kept kept
HasMore-nil kept = record { accounts = refl; messages = refl; folders = omega arith }

HasMore-if : (kept : Kept) (b : Bool) (x y : Step) → HasMore kept (kept_following kept x) → HasMore kept (kept_following kept y) → HasMore kept (kept_following kept (if b then x else y))
HasMore-if kept true x y one two = one
HasMore-if kept false x y one two = two

HasMore-made : (kept : Kept) (tag : List ℕ) (state : State) (account : ℕ) (name : List ℕ) (found : Option StoreFault) → HasMore kept (kept_following kept (create_unless tag state account name found))
unfolding kept_following
HasMore-made kept tag state account name None = record {
  accounts = refl;
  messages = refl;
  folders = let one : Folder = record { account = account; name = name } in let all = length-append kept.folders (one ∷ []) in omega (arith, all);
}
HasMore-made kept tag state account name (Some refusal.Exists) = HasMore-nil kept
HasMore-made kept tag state account name (Some refusal.NoSuch) = HasMore-nil kept
HasMore-made kept tag state account name (Some refusal.TooLarge) = HasMore-nil kept
HasMore-made kept tag state account name (Some refusal.Keeper) = HasMore-nil kept
HasMore-made kept tag state account name (Some refusal.Memory) = HasMore-nil kept

HasMore-create : (kept : Kept) (tag : List ℕ) (state : State) (account : ℕ) (store : StoreState) (named : Option (List ℕ)) → HasMore kept (kept_following kept (create_by tag state account store named))
unfolding kept_following
HasMore-create kept tag state account store None = HasMore-nil kept
HasMore-create kept tag state account store (Some given) =
    HasMore-if kept (names_folder (kept_name given)) (create_unless tag state account (kept_name given) (folder_refusal store.kept account given)) _
    (HasMore-made kept tag state account (kept_name given) (folder_refusal store.kept account given)) (HasMore-nil kept)

-- a session knows what it knew once CREATE was answered
pub created-known : (a b : Around) (result : Result (Unit {0}) Fault) (tag : List ℕ) (account : ℕ) (named : Oracles → Option (List ℕ))
    → WithOracles (λ oracles. (state : State) → Does (part_octets oracles) a b (fault_of result) (create_by tag state account a.desk.store (named oracles)).acts)
    → OnOk result ((session : ImapState) → KnowsState a.desk.store session → KnowsState b.desk.store session)
unfolding kept_following
created-known a b (Err met) tag account named does = tt
created-known a b (Ok unit) tag account named does = λ session known.
    let made = does oracles_given.0 oracles_given.1 not_authenticated in
    let acts = (create_by tag not_authenticated account a.desk.store (named oracles_given.0)).acts in
    let more : HasMore a.desk.store.kept b.desk.store.kept = subst (λ (store : StoreState). HasMore a.desk.store.kept store.kept) (sym made.follows.store)
    (HasMore-create a.desk.store.kept tag not_authenticated account a.desk.store (named oracles_given.0)) in
    more-known a.desk.store b.desk.store session more known

-- or where the desk is as it was
pub same-known : (a b : Around) (result : Result (Unit {0}) Fault) → b.desk ≡ a.desk → OnOk result ((session : ImapState) → KnowsState a.desk.store session → KnowsState b.desk.store session)
same-known a b (Err met) same = tt
same-known a b (Ok unit) same = λ session known. subst (λ (desk : Desk). KnowsState desk.store session) (sym same) known
