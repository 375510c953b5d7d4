-- The indexes after each kind of record.
use Rattle.std.proofs.Common.{◌≡◌, ◌≢◌, ℕ, zero, suc, ◌+◌, ◌^◌, ◌<◌, ◌≤◌, Bool, true, false, cond, eqb, List, [], ◌∷◌, ◌++◌, length, get_or, Option, Some, None, refl, sym, ap, subst, ◌∙◌, arith, inl, inr, length-append, eq-eqb}
use Rattle.std.specs.Prelude.{slice_get}
use Rattle.std.specs.Option.{option_map_or}
use Rattle.std.specs.Str.{bytes_eq}
use Rattle.std.proofs.lemmas.List.Elements.{All-push, All-nil, All-append, All-from_recursion, recursion_from_All}
use Rattle.std.proofs.lemmas.List.Sums.{sum_by-cons, sum_by_push}
use Rattle.std.proofs.lemmas.Bool.{cases_Bool, cases_eq, ne_eqb}
use Rattle.std.proofs.lemmas.Slice.Eq.{bytes_eq-Decides}
use Rattle.std.proofs.lemmas.Option.{slice_get_past, slice_get-get_or, same_Some, none-some}
use Rattle.address_grammar.specs.declared.Address.{Address}
use Rattle.address_grammar.specs.Paths.{HasPath, IsReading, ReadsPaths, in_angles}
use Rattle.address_grammar.proofs.PathLemmas.{HasPath-once}
use Rattle.kept_mail.specs.declared.contents.Content.{Content}
use Rattle.kept_mail.specs.declared.limits.TheConstants.{THINGS_MAX}
use Rattle.kept_mail.specs.declared.kept.Folder.{Folder}
use Rattle.kept_mail.specs.declared.kept.Message.{Message}
use Rattle.kept_mail.specs.declared.kept.Account.{Account}
use Rattle.kept_mail.specs.declared.kept.Entry.{Entry}
use Rattle.journal_records.specs.Addresses.{IsTextOfAddress, IsDomainText, address_of, mailbox_key}
use Rattle.kept_mail.specs.private.Chains.{empty_content, AreChained}
use Rattle.journal_records.specs.Grammar.{IsDate, IsFolderName, inbox}
use Rattle.kept_mail.specs.Kept.{Kept, first_folder, first_named, change_at, settled, without}
use Rattle.kept_mail.specs.private.Names.{kept_first, PutsName, first_name, folder_key, has_key, first_mailbox}
use Rattle.kept_mail.specs.Records.{recipient_count}
use Rattle.journal_records.specs.Stored.{IsStored}
use Rattle.mail_store.specs.Queue.{IsKeptEntry, open_counts}
use Rattle.mail_store.specs.StoreState.{Indexes, AreIndexes, AreStored}
use Rattle.mail_store.specs.private.Queue.{opened}
use Rattle.kept_mail.proofs.ChainLemmas.{AreChained-folder, AreChained-same}
use Rattle.mail_store.proofs.QueueLemmas.{kept-settled}
use Rattle.mail_store.proofs.WaitingLemmas.{open_counts-push}
use Rattle.mail_store.proofs.FolderLemmas.{and_first, and_second, and_none, bytes_differ, first_named-push_found, first_named-push_none, first_named-push_other, inbox_named, names_push}
use Rattle.kept_mail.proofs.SameMessages.{AreSameMessages, date_of, length-same, length-change_at, octets_of, part-same}

no_some : (i : ℕ) → Some i ≡ None → ⊥
no_some i e = cc

-- ---- one more folder

-- a folder of an account that has one already
pub first_folder-push_found : (account at : ℕ) (fs : List Folder) (x : Folder) (i : ℕ) → first_folder account at fs ≡ Some i → first_folder account at (fs ++ x ∷ []) ≡ Some i
first_folder-push_found account at [] x i e = absurd (none-some i e)
first_folder-push_found account at (f ∷ fs) x i e =
    elim (cases_Bool (eqb f.account account)) [
      | inl same ↦ rw same (rw same at e)
      | inr other ↦ rw other (first_folder-push_found account (at + 1) fs x i (rw other at e))
    ]

-- a folder of an account that has none
pub first_folder-push_none : (account at : ℕ) (fs : List Folder) (x : Folder) → first_folder account at fs ≡ None → first_folder account at (fs ++ x ∷ []) ≡ cond (eqb x.account account) (Some (at + length fs)) None
first_folder-push_none account at [] x e =
    let here : at ≡ at + 0 = omega arith in
    ap (λ (n : ℕ). cond (eqb x.account account) (Some n) None) here
first_folder-push_none account at (f ∷ fs) x e =
    elim (cases_Bool (eqb f.account account)) [
      | inl same ↦ absurd (no_some at (rw same at e))
      | inr other ↦
          let there : at + 1 + length fs ≡ at + suc (length fs) = omega arith in
          rw other (first_folder-push_none account (at + 1) fs x (rw other at e) ∙ ap (λ (n : ℕ). cond (eqb x.account account) (Some n) None) there)
    ]

-- a folder of another account
pub first_folder-push_other : (account at : ℕ) (fs : List Folder) (x : Folder) → eqb x.account account ≡ false → first_folder account at (fs ++ x ∷ []) ≡ first_folder account at fs
first_folder-push_other account at [] x other = rw other refl
first_folder-push_other account at (f ∷ fs) x other = ap (λ (o : Option ℕ). cond (eqb f.account account) (Some at) o) (first_folder-push_other account (at + 1) fs x other)

pub first_folder_within : (account at : ℕ) (fs : List Folder) (i : ℕ) → first_folder account at fs ≡ Some i → i < at + length fs
first_folder_within account at [] i e = absurd (none-some i e)
first_folder_within account at (f ∷ fs) i e =
    elim (cases_Bool (eqb f.account account)) [
      | inl same ↦
          let is : at ≡ i = same_Some at i (rw same at e) in
          omega (arith, is)
      | inr other ↦
          let ih = first_folder_within account (at + 1) fs i (rw other at e) in
          omega (arith, ih)
    ]

-- the folder's name is one
abbrev named_well : Folder → Type 0
named_well folder = IsFolderName folder.name

-- an account that has a folder has INBOX
first_inbox : (kept : Kept) (i : Indexes) (account : ℕ) → AreIndexes kept i → account < length kept.accounts → first_folder account 0 kept.folders ≡ Some (get_or i.inboxes account 0)
first_inbox kept i account h there = sym (h.inboxes_is account) ∙ slice_get-get_or i.inboxes account 0 (omega (arith, h.account_count, there))

pub AreIndexes-folder : (kept : Kept) (i : Indexes) (after : List ℕ → Option ℕ) (x : Folder) → AreIndexes kept i → x.account < length kept.accounts → IsFolderName x.name
    → length kept.folders < THINGS_MAX → PutsName i.names after (folder_key x.account x.name) (length kept.folders)
    → AreIndexes (record kept { folders = kept.folders ++ x ∷ [] }) (record i { contents = i.contents ++ empty_content ∷ []; names = after })
AreIndexes-folder kept i after x h there named room puts = record {
  folder_count = length-append i.contents (empty_content ∷ []) ∙ ap (λ (n : ℕ). n + 1) h.folder_count ∙ sym (length-append kept.folders (x ∷ []));
  chained = AreChained-folder i.contents i.previous kept.messages h.chained;
  account_count = h.account_count;
  inboxes_is = λ (account : ℕ). elim (cases_eq x.account account) [
    | inl same ↦
        let within : x.account < length i.inboxes = omega (arith, h.account_count) in
        let found = slice_get-get_or i.inboxes x.account 0 within in
        subst (λ (k : ℕ). slice_get i.inboxes k ≡ first_folder k 0 (kept.folders ++ x ∷ [])) same (found ∙ sym (first_folder-push_found x.account 0 kept.folders x _ (sym (h.inboxes_is x.account) ∙ found)))
    | inr other ↦ h.inboxes_is account ∙ sym (first_folder-push_other account 0 kept.folders x (ne_eqb x.account account other))
  ];
  inboxes_named = λ (account : ℕ). elim (cases_eq x.account account) [
    | inl same ↦
        let found = first_inbox kept i x.account h there in
        subst (λ (k : ℕ). first_named k inbox 0 (kept.folders ++ x ∷ []) ≡ first_folder k 0 (kept.folders ++ x ∷ [])) same
        (first_named-push_found x.account inbox 0 kept.folders x _ (h.inboxes_named x.account ∙ found) ∙ sym (first_folder-push_found x.account 0 kept.folders x _ found))
    | inr other ↦
        let differ = ne_eqb x.account account other in
        first_named-push_other account inbox 0 kept.folders x (and_first (eqb x.account account) (bytes_eq x.name inbox) differ) ∙ h.inboxes_named account
        ∙ sym (first_folder-push_other account 0 kept.folders x differ)
  ];
  names_is = λ (account : ℕ) (name : List ℕ) (small : account < 2 ^ 32) (other : name ≢ inbox).
      names_push kept.folders i.names after x account name (omega (arith, there, h.few.accounts)) small (h.names_is account name small other) puts;
  mailboxes_is = h.mailboxes_is;
  locals_is = h.locals_is;
  recipients_is = h.recipients_is;
  open_is = h.open_is;
  domains_are_texts = h.domains_are_texts;
  folders_are_named = All-push named_well kept.folders x h.folders_are_named named;
  messages_are_stored = h.messages_are_stored;
  entries_are_kept = h.entries_are_kept;
  few = record {
    accounts = h.few.accounts;
    domains = h.few.domains;
    folders = omega (arith, length-append kept.folders (x ∷ []));
    messages = h.few.messages;
    entries = h.few.entries;
    recipients = h.few.recipients;
  };
}

-- ---- one more domain

pub first_name-push : (q : List ℕ) (at : ℕ) (names : List (List ℕ)) (name : List ℕ) → first_name q at (names ++ name ∷ []) ≡ kept_first (first_name q at names) name q (at + length names)
first_name-push q at [] name =
    let here : at ≡ at + 0 = omega arith in
    ap (λ (n : ℕ). cond (bytes_eq name q) (Some n) None) here
first_name-push q at (x ∷ names) name =
    elim (cases_Bool (bytes_eq x q)) [
      | inl same ↦ rw same refl
      | inr other ↦
          let there : at + 1 + length names ≡ at + suc (length names) = omega arith in
          rw other (first_name-push q (at + 1) names name ∙ ap (λ (n : ℕ). kept_first (first_name q (at + 1) names) name q n) there)
    ]

pub AreIndexes-domain : (kept : Kept) (i : Indexes) (after : List ℕ → Option ℕ) (name : List ℕ) → AreIndexes kept i → IsDomainText name
    → length kept.domains < THINGS_MAX → PutsName i.locals after name (length kept.domains)
    → AreIndexes (record kept { domains = kept.domains ++ name ∷ [] }) (record i { locals = after })
AreIndexes-domain kept i after name h text room puts =
    let plain : length kept.domains ≡ 0 + length kept.domains = omega arith in
    record {
      folder_count = h.folder_count;
      chained = h.chained;
      account_count = h.account_count;
      inboxes_is = h.inboxes_is;
      inboxes_named = h.inboxes_named;
      names_is = h.names_is;
      mailboxes_is = h.mailboxes_is;
      locals_is = λ (q : List ℕ). puts q ∙ ap (λ (o : Option ℕ). kept_first o name q (length kept.domains)) (h.locals_is q) ∙ ap (λ (n : ℕ). kept_first (first_name q 0 kept.domains) name q n) plain ∙ sym (first_name-push q 0 kept.domains name);
      recipients_is = h.recipients_is;
      open_is = h.open_is;
      domains_are_texts = All-push IsDomainText kept.domains name h.domains_are_texts text;
      folders_are_named = h.folders_are_named;
      messages_are_stored = h.messages_are_stored;
      entries_are_kept = h.entries_are_kept;
      few = record {
        accounts = h.few.accounts;
        domains = omega (arith, length-append kept.domains (name ∷ []));
        folders = h.few.folders;
        messages = h.few.messages;
        entries = h.few.entries;
        recipients = h.few.recipients;
      };
    }

-- ---- one more account, with its folder

pub slice_get-push_last : (xs : List ℕ) (x : ℕ) → slice_get (xs ++ x ∷ []) (length xs) ≡ Some x
slice_get-push_last [] x = refl
slice_get-push_last (y ∷ xs) x = slice_get-push_last xs x

pub slice_get-push_other : (xs : List ℕ) (x k : ℕ) → k ≢ length xs → slice_get (xs ++ x ∷ []) k ≡ slice_get xs k
slice_get-push_other [] x zero other = absurd (other refl)
slice_get-push_other [] x (suc k) other = refl
slice_get-push_other (y ∷ xs) x zero other = refl
slice_get-push_other (y ∷ xs) x (suc k) other = slice_get-push_other xs x k (λ e. other (ap suc e))

reading_is : (text : List ℕ) (answer : Option Address) (o : Option (Option Address)) → IsReading text o → HasPath text answer → o ≡ Some answer
reading_is text answer None none h = absurd (none answer h)
reading_is text answer (Some found) is h = ap (λ (a : Option Address). let o : Option (Option Address) = Some a in o) (HasPath-once text found answer is h)

-- what a function that reads paths gives for the text of an address
pub address_is : (path_of : List ℕ → Option (Option Address)) → ReadsPaths path_of → (text : List ℕ) (own : Address) → IsTextOfAddress text own → address_of path_of text ≡ Some own
address_is path_of reads text own is = rw (reading_is (in_angles text) (Some own) (path_of (in_angles text)) (reads (in_angles text)) is) refl

pub first_mailbox-push : (path_of : List ℕ → Option (Option Address)) (key : List ℕ) (at : ℕ) (accounts : List Account) (a : Account) (own : Address) → address_of path_of a.address ≡ Some own
    → first_mailbox path_of key at (accounts ++ a ∷ []) ≡ kept_first (first_mailbox path_of key at accounts) (mailbox_key own) key (at + length accounts)
first_mailbox-push path_of key at [] a own e =
    let here : at ≡ at + 0 = omega arith in
    ap (λ (o : Option Address). cond (option_map_or (λ (x : Address). bytes_eq (mailbox_key x) key) o false) (Some at) None) e ∙ ap (λ (n : ℕ). cond (bytes_eq (mailbox_key own) key) (Some n) None) here
first_mailbox-push path_of key at (x ∷ accounts) a own e =
    elim (cases_Bool (has_key path_of key x)) [
      | inl same ↦ rw same refl
      | inr other ↦
          let there : at + 1 + length accounts ≡ at + suc (length accounts) = omega arith in
          rw other (first_mailbox-push path_of key (at + 1) accounts a own e ∙ ap (λ (n : ℕ). kept_first (first_mailbox path_of key (at + 1) accounts) (mailbox_key own) key n) there)
    ]

-- an account's folder is put last with it
inboxes_push : (accounts : List Account) (folders : List Folder) (inboxes : List ℕ) (x : Folder) → length inboxes ≡ length accounts → ((account : ℕ) → slice_get inboxes account ≡ first_folder account 0 folders)
    → x.account ≡ length accounts → (account : ℕ) → slice_get (inboxes ++ length folders ∷ []) account ≡ first_folder account 0 (folders ++ x ∷ [])
inboxes_push accounts folders inboxes x count is its account =
    elim (cases_eq account (length inboxes)) [
      | inl same ↦
          let past : slice_get inboxes (length inboxes) ≡ None = slice_get_past inboxes (length inboxes) (omega arith) in
          let none : first_folder (length inboxes) 0 folders ≡ None = sym (is (length inboxes)) ∙ past in
          let own : eqb x.account (length inboxes) ≡ true = eq-eqb _ _ (its ∙ sym count) in
          let plain : 0 + length folders ≡ length folders = omega arith in
          let second = first_folder-push_none (length inboxes) 0 folders x none ∙ ap (λ (b : Bool). cond b (Some (0 + length folders)) None) own ∙ ap (λ (n : ℕ). Some n) plain in
          subst (λ (k : ℕ). slice_get (inboxes ++ length folders ∷ []) k ≡ first_folder k 0 (folders ++ x ∷ [])) (sym same) (slice_get-push_last inboxes (length folders) ∙ sym second)
      | inr other ↦
          let differ : x.account ≡ account → ⊥ = λ (e : x.account ≡ account). other (sym e ∙ its ∙ sym count) in
          slice_get-push_other inboxes (length folders) account other ∙ is account ∙ sym (first_folder-push_other account 0 folders x (ne_eqb x.account account differ))
    ]

pub AreIndexes-account : (kept : Kept) (i : Indexes) (after : List ℕ → Option ℕ) (a : Account) (own : Address) (name : List ℕ) → name ≡ inbox → AreIndexes kept i → IsTextOfAddress a.address own
    → length kept.accounts < THINGS_MAX → length kept.folders < THINGS_MAX → PutsName i.mailboxes after (mailbox_key own) (length kept.accounts)
    → AreIndexes (record kept { accounts = kept.accounts ++ a ∷ []; folders = kept.folders ++ record { account = length kept.accounts; name = name } ∷ [] })
    (record i { contents = i.contents ++ empty_content ∷ []; inboxes = i.inboxes ++ length kept.folders ∷ []; mailboxes = after })
AreIndexes-account kept i after a own name named h text more room puts =
    let x : Folder = record { account = length kept.accounts; name = name } in
    let plain : length kept.accounts ≡ 0 + length kept.accounts = omega arith in
    record {
      folder_count = length-append i.contents (empty_content ∷ []) ∙ ap (λ (n : ℕ). n + 1) h.folder_count ∙ sym (length-append kept.folders (x ∷ []));
      chained = AreChained-folder i.contents i.previous kept.messages h.chained;
      account_count = length-append i.inboxes (length kept.folders ∷ []) ∙ ap (λ (n : ℕ). n + 1) h.account_count ∙ sym (length-append kept.accounts (a ∷ []));
      inboxes_is = inboxes_push kept.accounts kept.folders i.inboxes x h.account_count h.inboxes_is refl;
      inboxes_named = λ (account : ℕ). elim (cases_eq x.account account) [
        | inl same ↦
            let past : slice_get i.inboxes x.account ≡ None = slice_get_past i.inboxes x.account (omega (arith, h.account_count)) in
            let none : first_folder x.account 0 kept.folders ≡ None = sym (h.inboxes_is x.account) ∙ past in
            subst (λ (k : ℕ). first_named k inbox 0 (kept.folders ++ x ∷ []) ≡ first_folder k 0 (kept.folders ++ x ∷ [])) same
            (first_named-push_none x.account inbox 0 kept.folders x (h.inboxes_named x.account ∙ none)
            ∙ ap (λ (b : Bool). cond b (Some (0 + length kept.folders)) None) (and_second (eqb x.account x.account) (bytes_eq name inbox) ((bytes_eq-Decides name inbox).1 named))
            ∙ sym (first_folder-push_none x.account 0 kept.folders x none))
        | inr other ↦
            let differ = ne_eqb x.account account other in
            first_named-push_other account inbox 0 kept.folders x (and_first (eqb x.account account) (bytes_eq name inbox) differ) ∙ h.inboxes_named account
            ∙ sym (first_folder-push_other account 0 kept.folders x differ)
      ];
      names_is = λ (account : ℕ) (other_name : List ℕ) (small : account < 2 ^ 32) (other : other_name ≢ inbox).
          h.names_is account other_name small other
          ∙ sym (first_named-push_other account other_name 0 kept.folders x (and_none (eqb x.account account) (bytes_eq name other_name) (bytes_differ name other_name (λ (e : name ≡ other_name). other (sym e ∙ named)))));
      mailboxes_is = λ (path_of : List ℕ → Option (Option Address)) (reads : ReadsPaths path_of) (key : List ℕ). puts key
          ∙ ap (λ (o : Option ℕ). kept_first o (mailbox_key own) key (length kept.accounts)) (h.mailboxes_is path_of reads key)
          ∙ ap (λ (n : ℕ). kept_first (first_mailbox path_of key 0 kept.accounts) (mailbox_key own) key n) plain
          ∙ sym (first_mailbox-push path_of key 0 kept.accounts a own (address_is path_of reads a.address own text));
      locals_is = h.locals_is;
      recipients_is = h.recipients_is;
      open_is = h.open_is;
      domains_are_texts = h.domains_are_texts;
      folders_are_named = All-push named_well kept.folders x h.folders_are_named (subst IsFolderName (sym named) inbox_named);
      messages_are_stored = h.messages_are_stored;
      entries_are_kept = h.entries_are_kept;
      few = record {
        accounts = omega (arith, length-append kept.accounts (a ∷ []));
        domains = h.few.domains;
        folders = omega (arith, length-append kept.folders (x ∷ []));
        messages = h.few.messages;
        entries = h.few.entries;
        recipients = h.few.recipients;
      };
    }

-- ---- more messages

pub AreStored-one : (message : Message) → IsStored message.octets → IsDate message.date → AreStored (message ∷ [])
AreStored-one message stored dated =
    let is_stored = λ (one : Message). IsStored one.octets in
    let is_dated = λ (one : Message). IsDate one.date in
    record {
      each = All-push is_stored [] message (All-nil is_stored) stored;
      dated = All-push is_dated [] message (All-nil is_dated) dated;
    }

pub AreIndexes-messages : (kept : Kept) (i : Indexes) (ms : List Message) (contents : List Content) (previous : List (Option ℕ)) → AreIndexes kept i
    → AreStored ms → length kept.messages + length ms ≤ THINGS_MAX → AreChained (kept.messages ++ ms) contents previous
    → length contents ≡ length i.contents
    → AreIndexes (record kept { messages = kept.messages ++ ms }) (record i { contents = contents; previous = previous })
AreIndexes-messages kept i ms contents previous h stored room chained count = record {
  folder_count = count ∙ h.folder_count;
  chained = chained;
  account_count = h.account_count;
  inboxes_is = h.inboxes_is;
  inboxes_named = h.inboxes_named;
  names_is = h.names_is;
  mailboxes_is = h.mailboxes_is;
  locals_is = h.locals_is;
  recipients_is = h.recipients_is;
  open_is = h.open_is;
  domains_are_texts = h.domains_are_texts;
  folders_are_named = h.folders_are_named;
  messages_are_stored = record {
    each = All-append (λ (message : Message). IsStored message.octets) kept.messages ms h.messages_are_stored.each stored.each;
    dated = All-append (λ (message : Message). IsDate message.date) kept.messages ms h.messages_are_stored.dated stored.dated;
  };
  entries_are_kept = h.entries_are_kept;
  few = record {
    accounts = h.few.accounts;
    domains = h.few.domains;
    folders = h.few.folders;
    messages = omega (arith, length-append kept.messages ms);
    entries = h.few.entries;
    recipients = h.few.recipients;
  };
}

-- ---- messages that were changed

-- they may be kept as before
pub AreStored-same : (old new : List Message) → AreStored old → AreSameMessages old new → AreStored new
AreStored-same old new stored same =
    let is_stored = λ (message : Message). IsStored message.octets in
    let is_dated = λ (message : Message). IsDate message.date in
    record {
      each = All-from_recursion is_stored new (part-same IsStored octets_of old new same.octets (recursion_from_All is_stored old stored.each));
      dated = All-from_recursion is_dated new (part-same IsDate date_of old new same.dates (recursion_from_All is_dated old stored.dated));
    }

pub AreIndexes-changed : (kept : Kept) (i : Indexes) (ms : List Message) → AreIndexes kept i → AreSameMessages kept.messages ms → AreIndexes (record kept { messages = ms }) i
AreIndexes-changed kept i ms h same =
    let len = length-same kept.messages ms same in
    record {
      folder_count = h.folder_count;
      chained = AreChained-same i.contents i.previous kept.messages ms h.chained same.folders len;
      account_count = h.account_count;
      inboxes_is = h.inboxes_is;
      inboxes_named = h.inboxes_named;
      names_is = h.names_is;
      mailboxes_is = h.mailboxes_is;
      locals_is = h.locals_is;
      recipients_is = h.recipients_is;
      open_is = h.open_is;
      domains_are_texts = h.domains_are_texts;
      folders_are_named = h.folders_are_named;
      messages_are_stored = AreStored-same kept.messages ms h.messages_are_stored same;
      entries_are_kept = h.entries_are_kept;
      few = record {
        accounts = h.few.accounts;
        domains = h.few.domains;
        folders = h.few.folders;
        messages = omega (arith, len, h.few.messages);
        entries = h.few.entries;
        recipients = h.few.recipients;
      };
    }

-- ---- the queue

-- how many recipients an entry ever had
abbrev width : Entry → ℕ
width entry = length entry.recipients

pub AreIndexes-entry : (kept : Kept) (i : Indexes) (e : Entry) → AreIndexes kept i → length kept.entries < THINGS_MAX
    → recipient_count kept.entries + length e.recipients ≤ THINGS_MAX → IsKeptEntry e
    → AreIndexes (record kept { entries = kept.entries ++ e ∷ [] })
    (record i { recipients = i.recipients + length e.recipients; open_entries = i.open_entries ++ opened (length kept.entries) (Some e) })
AreIndexes-entry kept i e h room short may =
    let count : recipient_count (kept.entries ++ e ∷ []) ≡ recipient_count kept.entries + length e.recipients = sum_by_push width kept.entries e in
    record {
      folder_count = h.folder_count;
      chained = h.chained;
      account_count = h.account_count;
      inboxes_is = h.inboxes_is;
      inboxes_named = h.inboxes_named;
      names_is = h.names_is;
      mailboxes_is = h.mailboxes_is;
      locals_is = h.locals_is;
      recipients_is = ap (λ (n : ℕ). n + length e.recipients) h.recipients_is ∙ sym count;
      open_is = ap (λ (l : List (ℕ × ℕ)). l ++ opened (length kept.entries) (Some e)) h.open_is ∙ sym (open_counts-push kept.entries e);
      domains_are_texts = h.domains_are_texts;
      folders_are_named = h.folders_are_named;
      messages_are_stored = h.messages_are_stored;
      entries_are_kept = All-push IsKeptEntry kept.entries e h.entries_are_kept may;
      few = record {
        accounts = h.few.accounts;
        domains = h.few.domains;
        folders = h.few.folders;
        messages = h.few.messages;
        entries = omega (arith, length-append kept.entries (e ∷ []));
        recipients = omega (arith, count, short);
      };
    }

recipient_count-change_at : (index : ℕ) (es : List Entry) (at : ℕ) → recipient_count (change_at (without index) es at) ≡ recipient_count es
recipient_count-change_at index [] at = refl
recipient_count-change_at index (e ∷ es) zero =
    sum_by-cons width (without index e) es ∙ ap (λ (n : ℕ). n + recipient_count es) (length-change_at settled e.recipients index) ∙ sym (sum_by-cons width e es)
recipient_count-change_at index (e ∷ es) (suc at) =
    sum_by-cons width e (change_at (without index) es at) ∙ ap (λ (n : ℕ). length e.recipients + n) (recipient_count-change_at index es at) ∙ sym (sum_by-cons width e es)

pub AreIndexes-settled : (kept : Kept) (i : Indexes) (entry index : ℕ) (counts : List (ℕ × ℕ)) → AreIndexes kept i → counts ≡ open_counts (change_at (without index) kept.entries entry)
    → AreIndexes (record kept { entries = change_at (without index) kept.entries entry }) (record i { open_entries = counts })
AreIndexes-settled kept i entry index counts h is =
    let count = recipient_count-change_at index kept.entries entry in
    record {
      folder_count = h.folder_count;
      chained = h.chained;
      account_count = h.account_count;
      inboxes_is = h.inboxes_is;
      inboxes_named = h.inboxes_named;
      names_is = h.names_is;
      mailboxes_is = h.mailboxes_is;
      locals_is = h.locals_is;
      recipients_is = h.recipients_is ∙ sym count;
      open_is = is;
      domains_are_texts = h.domains_are_texts;
      folders_are_named = h.folders_are_named;
      messages_are_stored = h.messages_are_stored;
      entries_are_kept = kept-settled index kept.entries entry h.entries_are_kept;
      few = record {
        accounts = h.few.accounts;
        domains = h.few.domains;
        folders = h.few.folders;
        messages = h.few.messages;
        entries = omega (arith, length-change_at (without index) kept.entries entry, h.few.entries);
        recipients = omega (arith, count, h.few.recipients);
      };
    }

-- ---- a map that answers the same

pub AreIndexes-locals : (kept : Kept) (i : Indexes) (after : List ℕ → Option ℕ) → AreIndexes kept i → ((name : List ℕ) → after name ≡ i.locals name) → AreIndexes kept (record i { locals = after })
AreIndexes-locals kept i after h same = record {
  folder_count = h.folder_count;
  chained = h.chained;
  account_count = h.account_count;
  inboxes_is = h.inboxes_is;
  inboxes_named = h.inboxes_named;
  names_is = h.names_is;
  mailboxes_is = h.mailboxes_is;
  locals_is = λ (name : List ℕ). same name ∙ h.locals_is name;
  recipients_is = h.recipients_is;
  open_is = h.open_is;
  domains_are_texts = h.domains_are_texts;
  folders_are_named = h.folders_are_named;
  messages_are_stored = h.messages_are_stored;
  entries_are_kept = h.entries_are_kept;
  few = h.few;
}

pub AreIndexes-names : (kept : Kept) (i : Indexes) (after : List ℕ → Option ℕ) → AreIndexes kept i → ((name : List ℕ) → after name ≡ i.names name) → AreIndexes kept (record i { names = after })
AreIndexes-names kept i after h same = record {
  folder_count = h.folder_count;
  chained = h.chained;
  account_count = h.account_count;
  inboxes_is = h.inboxes_is;
  inboxes_named = h.inboxes_named;
  names_is = λ (account : ℕ) (name : List ℕ) (small : account < 2 ^ 32) (other : name ≢ inbox). same (folder_key account name) ∙ h.names_is account name small other;
  mailboxes_is = h.mailboxes_is;
  locals_is = h.locals_is;
  recipients_is = h.recipients_is;
  open_is = h.open_is;
  domains_are_texts = h.domains_are_texts;
  folders_are_named = h.folders_are_named;
  messages_are_stored = h.messages_are_stored;
  entries_are_kept = h.entries_are_kept;
  few = h.few;
}

-- where an account has no folder of a name, none stands at its key
pub folder_free : (kept : Kept) (i : Indexes) (account : ℕ) (name : List ℕ) → AreIndexes kept i → account < length kept.accounts → first_named account name 0 kept.folders ≡ None
    → i.names (folder_key account name) ≡ None
folder_free kept i account name h there free =
    let other : name ≢ inbox = λ (e : name ≡ inbox). absurd (none-some _ (sym free ∙ ap (λ (n : List ℕ). first_named account n 0 kept.folders) e ∙ h.inboxes_named account ∙ first_inbox kept i account h there)) in
    h.names_is account name (omega (arith, there, h.few.accounts)) other ∙ free

-- an account's INBOX is its first folder of that name
pub inbox_found : (kept : Kept) (i : Indexes) (account : ℕ) (name : List ℕ) (found : Option ℕ) → AreIndexes kept i → name ≡ inbox → found ≡ slice_get i.inboxes account
    → found ≡ first_named account name 0 kept.folders
inbox_found kept i account name found h same is =
    is ∙ h.inboxes_is account ∙ sym (h.inboxes_named account) ∙ ap (λ (n : List ℕ). first_named account n 0 kept.folders) (sym same)

-- what stands at the key of an account's other name
pub folder_found : (kept : Kept) (i : Indexes) (account : ℕ) (name : List ℕ) (found : Option ℕ) → AreIndexes kept i → account < 2 ^ 32 → name ≢ inbox
    → found ≡ i.names (folder_key account name) → found ≡ first_named account name 0 kept.folders
folder_found kept i account name found h small other is = is ∙ h.names_is account name small other
