-- One more domain, and a name that is taken back.
use Rattle.journal_records.specs.declared.versions.Version.TheVariants as versions
use Rattle.std.proofs.Common.{◌≡◌, ◌≢◌, ℕ, ◌<◌, ◌≤◌, Bool, true, false, cond, List, [], ◌∷◌, length, Option, Some, None, refl, sym, ap, subst, ◌∙◌, arith, inl, inr}
use Rattle.std.specs.Prelude.{is_some}
use Rattle.std.specs.Str.{bytes_eq}
use Rattle.std.proofs.lemmas.Bool.{cases_Bool}
use Rattle.std.proofs.lemmas.Slice.Eq.{bytes_eq-Decides}
use Rattle.ace_domains.specs.Domains.{normal_form, compared_form}
use Rattle.ace_domains.proofs.FormLemmas.{form_own, form_name}
use Rattle.mail_store.specs.declared.changing.StoreFault.TheVariants as faults
use Rattle.kept_mail.specs.declared.limits.TheConstants.{THINGS_MAX}
use Rattle.journal_records.specs.declared.records.Record.TheVariants as records
use Rattle.journal_records.specs.Addresses.{IsDomainText}
use Rattle.journal_records.specs.Spelling.{IsWritableRecord}
use Rattle.mail_store.specs.Changing.{domain_refusal}
use Rattle.kept_mail.specs.Records.{are_too_many, AreRecords}
use Rattle.kept_mail.specs.Kept.{Kept, is_local}
use Rattle.kept_mail.specs.private.Names.{first_name, PutsName}
use Rattle.mail_store.specs.StoreState.{Indexes, AreIndexes}
use Rattle.mail_store.proofs.MailboxLemmas.{first_name_is_local}
use Rattle.kept_mail.proofs.NameLemmas.{none_of, kept_other}

-- ---- the normal form of a domain that has one

form_is : (domain : List ℕ) (form : Option (List ℕ)) → normal_form domain ≡ form → form ≢ None → normal_form domain ≡ Some (compared_form domain)
form_is domain (Some form) e some = rw e refl
form_is domain None e some = absurd (some refl)

pub form_text : (domain : List ℕ) → normal_form domain ≢ None → IsDomainText (compared_form domain)
form_text domain some = form_own domain (compared_form domain) (form_is domain (normal_form domain) refl some)

form_short : (domain : List ℕ) → normal_form domain ≢ None → length (compared_form domain) ≤ 253
form_short domain some = (form_name domain (compared_form domain) (form_is domain (normal_form domain) refl some)).short

pub writable-domain : (domain name : List ℕ) → normal_form domain ≢ None → name ≡ compared_form domain → IsWritableRecord (records.Domain name)
writable-domain domain name some is =
    let short : length name ≤ 253 = subst (λ l. length l ≤ 253) (sym is) (form_short domain some) in
    (omega (arith, short), omega (arith, short))

pub AreRecords-domain : (kept : Kept) (domain : List ℕ) → normal_form domain ≢ None → length kept.domains < THINGS_MAX → AreRecords versions.Two kept (records.Domain (compared_form domain) ∷ [])
AreRecords-domain kept domain some room =
    let writable = writable-domain domain (compared_form domain) some refl in
    (record { fits = writable.0; short = writable.1; of_version = tt; in_order = (form_text domain some, room) }, tt)

-- ---- refusals

-- whether the domain is there, by the index
pub found_domain : (kept : Kept) (i : Indexes) (domain name : List ℕ) → AreIndexes kept i → name ≡ compared_form domain → is_some (i.locals name) ≡ is_local kept domain
found_domain kept i domain name x is = ap (λ o. is_some o) (x.locals_is name ∙ ap (λ n. first_name n 0 kept.domains) is) ∙ first_name_is_local kept domain x.domains_are_texts

pub domain_exists : (kept : Kept) (domain : List ℕ) → is_local kept domain ≡ true → domain_refusal kept domain ≡ Some faults.Exists
domain_exists kept domain there = rw there refl

pub domain_many : (kept : Kept) (domain : List ℕ) → is_local kept domain ≡ false → are_too_many (length kept.domains) 1 ≡ true → domain_refusal kept domain ≡ Some faults.TooLarge
domain_many kept domain there many = rw (there, many) refl

pub domain_taken : (kept : Kept) (domain : List ℕ) → is_local kept domain ≡ false → are_too_many (length kept.domains) 1 ≡ false → domain_refusal kept domain ≡ None
domain_taken kept domain there many = rw (there, many) refl

-- ---- a name that is taken back

-- a name that had no number, got one and lost it
pub name_back : (before put after : List ℕ → Option ℕ) (key : List ℕ) (n : ℕ) → is_some (before key) ≡ false → PutsName before put key n
    → after key ≡ None → ((q : List ℕ) → ¬ (q ≡ key) → after q ≡ put q) → (q : List ℕ) → after q ≡ before q
name_back before put after key n none puts gone others q =
    elim (cases_Bool (bytes_eq key q)) [
      | inl same ↦
          let is : key ≡ q = (bytes_eq-Decides key q).0 same in
          subst (λ k. after k ≡ before k) is (gone ∙ sym (none_of (before key) none))
      | inr other ↦
          let differ : ¬ (q ≡ key) = λ e. (let same : bytes_eq key q ≡ true = (bytes_eq-Decides key q).1 (sym e) in absurd (true_false (sym same ∙ other))) in
          others q differ ∙ puts q ∙ sym (kept_other (before q) key q n other)
    ]
  where
    true_false : true ≡ false → ⊥
    true_false e = cc

pub AreIndexes-same_locals : (kept : Kept) (i : Indexes) (locals : List ℕ → Option ℕ) → AreIndexes kept i → ((q : List ℕ) → locals q ≡ i.locals q)
    → AreIndexes kept (record i { locals = locals })
AreIndexes-same_locals kept i locals x same = record {
  folder_count = x.folder_count;
  chained = x.chained;
  account_count = x.account_count;
  inboxes_is = x.inboxes_is;
  inboxes_named = x.inboxes_named;
  names_is = x.names_is;
  mailboxes_is = x.mailboxes_is;
  locals_is = λ name. same name ∙ x.locals_is name;
  recipients_is = x.recipients_is;
  open_is = x.open_is;
  domains_are_texts = x.domains_are_texts;
  folders_are_named = x.folders_are_named;
  messages_are_stored = x.messages_are_stored;
  entries_are_kept = x.entries_are_kept;
  few = x.few;
}

pub AreIndexes-same_mailboxes : (kept : Kept) (i : Indexes) (mailboxes : List ℕ → Option ℕ) → AreIndexes kept i → ((q : List ℕ) → mailboxes q ≡ i.mailboxes q)
    → AreIndexes kept (record i { mailboxes = mailboxes })
AreIndexes-same_mailboxes kept i mailboxes x same = record {
  folder_count = x.folder_count;
  chained = x.chained;
  account_count = x.account_count;
  inboxes_is = x.inboxes_is;
  inboxes_named = x.inboxes_named;
  names_is = x.names_is;
  mailboxes_is = λ path_of reads key. same key ∙ x.mailboxes_is path_of reads key;
  locals_is = x.locals_is;
  recipients_is = x.recipients_is;
  open_is = x.open_is;
  domains_are_texts = x.domains_are_texts;
  folders_are_named = x.folders_are_named;
  messages_are_stored = x.messages_are_stored;
  entries_are_kept = x.entries_are_kept;
  few = x.few;
}

-- ---- what isn't refused

free_parts : (there many : Bool) → cond there (Some faults.Exists) (cond many (Some faults.TooLarge) None) ≡ None → (there ≡ false) × (many ≡ false)
free_parts true many e = absurd cc
free_parts false true e = absurd cc
free_parts false false e = (refl, refl)

pub domain_free : (kept : Kept) (domain : List ℕ) → domain_refusal kept domain ≡ None → (is_local kept domain ≡ false) × (are_too_many (length kept.domains) 1 ≡ false)
domain_free kept domain e = free_parts (is_local kept domain) (are_too_many (length kept.domains) 1) e
