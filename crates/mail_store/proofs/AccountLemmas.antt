-- One more account.
use Rattle.journal_records.specs.declared.versions.Version.TheVariants as versions
use Rattle.std.proofs.Common.{◌≡◌, ℕ, ◌<◌, ◌≤◌, Bool, true, false, not, cond, List, [], ◌∷◌, ◌++◌, length, Option, Some, None, Err, refl, sym, ap, ap₂, ◌∙◌, arith, inl, inr, length-append}
use Rattle.std.specs.Prelude.{is_some}
use Rattle.std.proofs.lemmas.Bool.{cases_Bool, or_parts}
use Rattle.address_grammar.specs.declared.Address.{Address}
use Rattle.address_grammar.specs.Addresses.{address_text}
use Rattle.address_grammar.specs.Paths.{ComesInPath, ReadsPaths}
use Rattle.address_grammar.proofs.WritingLemmas.{path_again}
use Rattle.address_grammar.proofs.DecidePaths.{paths_read}
use Rattle.mail_store.specs.declared.changing.StoreFault.{StoreFault}
use Rattle.mail_store.specs.declared.changing.StoreFault.TheVariants as faults
use Rattle.kept_mail.specs.declared.kept.Account.{Account}
use Rattle.kept_mail.specs.declared.kept.Folder.{Folder}
use Rattle.mail_store.specs.declared.writing.Progress.{Progress}
use Rattle.journal_records.specs.declared.limits.TheConstants.{TEXT_MAX}
use Rattle.kept_mail.specs.declared.limits.TheConstants.{THINGS_MAX}
use Rattle.journal_records.specs.declared.records.Record.TheVariants as records
use Rattle.journal_records.specs.Addresses.{IsSendable, WithPaths, mailbox_key}
use Rattle.mail_store.specs.Changing.{account_refusal, IsRefusedAs}
use Rattle.kept_mail.specs.Records.{are_too_many, AreRecords}
use Rattle.mail_store.specs.private.Accounts.{room_refusal}
use Rattle.kept_mail.specs.Kept.{Kept, find_account, is_local}
use Rattle.kept_mail.specs.private.Names.{first_mailbox}
use Rattle.journal_records.specs.Grammar.{inbox}
use Rattle.journal_records.specs.Spelling.{octet_list}
use Rattle.mail_store.specs.StoreState.{StoreState, Indexes, AreIndexes}
use Rattle.mail_store.specs.private.Adding.{keeping}
use Rattle.mail_store.proofs.ChangeLemmas.{has_room}
use Rattle.mail_store.proofs.MailboxLemmas.{first_of_key}
use Rattle.kept_mail.proofs.NameLemmas.{none_of}

-- the account of an address, by the index
pub found_account : (path_of : List ℕ → Option (Option Address)) → ReadsPaths path_of → (kept : Kept) (i : Indexes) (address : Address) (key : List ℕ) → AreIndexes kept i
    → ComesInPath address → key ≡ mailbox_key address → i.mailboxes key ≡ find_account path_of kept address
found_account path_of reads kept i address key x comes is =
    x.mailboxes_is path_of reads key ∙ ap (λ k. first_mailbox path_of k 0 kept.accounts) is ∙ first_of_key path_of reads address comes 0 kept.accounts

pub account_exists : (path_of : List ℕ → Option (Option Address)) (kept : Kept) (address : Address) → is_some (find_account path_of kept address) ≡ true
    → account_refusal path_of kept address ≡ Some faults.Exists
account_exists path_of kept address there = rw there refl

-- without such an account, the domain and the room decide
pub account_rest : (path_of : List ℕ → Option (Option Address)) (kept : Kept) (address : Address) → is_some (find_account path_of kept address) ≡ false
    → account_refusal path_of kept address ≡ room_refusal kept address.domain
account_rest path_of kept address none = rw none refl

none_some : (fault : StoreFault) (refusal : Option StoreFault) → refusal ≡ None → refusal ≡ Some fault → ⊥
none_some fault refusal none some = cc

-- its mailbox has no account then, and the domain and the room allow it
account_free : (path_of : List ℕ → Option (Option Address)) (kept : Kept) (address : Address) → account_refusal path_of kept address ≡ None
    → (is_some (find_account path_of kept address) ≡ false) × (room_refusal kept address.domain ≡ None)
account_free path_of kept address free =
    elim (cases_Bool (is_some (find_account path_of kept address))) [
      | inl there ↦ absurd (none_some faults.Exists (account_refusal path_of kept address) free (account_exists path_of kept address there))
      | inr none ↦ (none, sym (account_rest path_of kept address none) ∙ free)
    ]

-- where an account isn't refused, its key has no number, and the domain and the room allow it
pub account_taken : (kept : Kept) (i : Indexes) (address : Address) (key : List ℕ) → AreIndexes kept i → ComesInPath address → key ≡ mailbox_key address
    → WithPaths (λ path_of. account_refusal path_of kept address ≡ None) → (i.mailboxes key ≡ None) × (room_refusal kept address.domain ≡ None)
account_taken kept i address key x comes is free =
    let path_of = paths_read.0 in
    let parts = account_free path_of kept address (free path_of paths_read.1) in
    (found_account path_of paths_read.1 kept i address key x comes is ∙ none_of (find_account path_of kept address) parts.0, parts.1)

pub refused_as : (T S : Type 0) (fault : StoreFault) (refusal : Option StoreFault) → IsRefusedAs {T = T} (Err fault) refusal → IsRefusedAs {T = S} (Err fault) refusal
refused_as T S faults.Exists refusal r = r
refused_as T S faults.NoSuch refusal r = r
refused_as T S faults.TooLarge refusal r = r
refused_as T S faults.Memory refusal r = r
refused_as T S faults.Keeper refusal r = r

not_many : (there many : Bool) → cond (not there) (Some faults.NoSuch) (cond many (Some faults.TooLarge) None) ≡ None → many ≡ false
not_many true true e = absurd cc
not_many true false e = refl
not_many false true e = absurd cc
not_many false false e = refl

pub room_for : (kept : Kept) (domain : List ℕ) → room_refusal kept domain ≡ None → (length kept.accounts < THINGS_MAX) × (length kept.folders < THINGS_MAX)
room_for kept domain none =
    let few = or_parts (are_too_many (length kept.accounts) 1) (are_too_many (length kept.folders) 1) (not_many (is_local kept domain) _ none) in
    (has_room (length kept.accounts) few.0, has_room (length kept.folders) few.1)

pub AreRecords-account : (kept : Kept) (address : Address) (password : List ℕ) → IsSendable address → length password ≤ TEXT_MAX
    → length kept.accounts < THINGS_MAX → length kept.folders < THINGS_MAX → AreRecords versions.Two kept (records.Account (address_text address) password ∷ [])
AreRecords-account kept address password sendable short more room =
    let text = address_text address in
    let len = length-append text (octet_list password) in (
      record {
        fits = (omega (arith, sendable.1), omega (arith, short));
        short = omega (arith, sendable.1, short, len);
        of_version = tt;
        in_order = (((address, path_again address sendable.0), sendable.1), short, more, room);
      },
      tt,
    )

pub own_is : (own : Account) (address password : List ℕ) → own.address ≡ address → own.password ≡ password → own ≡ record { address = address; password = password }
own_is own address password a p = ap₂ (λ (x y : List ℕ). let z : Account = record { address = x; password = y } in z) a p

pub account_after : (old : StoreState) (progress : Progress) (own : Account) (address password name : List ℕ) (accounts : List Account) (folders : List Folder)
    → own.address ≡ address → own.password ≡ password → name ≡ inbox → accounts ≡ old.kept.accounts ++ own ∷ []
    → folders ≡ old.kept.folders ++ record { account = length old.kept.accounts; name = name } ∷ []
    → (let new : StoreState = record { kept = record old.kept { accounts = accounts; folders = folders }; message_max = old.message_max; failed = progress.failed; end = progress.end } in new)
    ≡ keeping (record old { failed = progress.failed; end = progress.end }) (records.Account address password ∷ [])
account_after old progress own address password name accounts folders a p n e f =
    let x = e ∙ ap (λ z. old.kept.accounts ++ z ∷ []) (own_is own address password a p) in
    let y = f ∙ ap (λ k. let z : Folder = record { account = length old.kept.accounts; name = k } in old.kept.folders ++ z ∷ []) n in
    ap₂ (λ (v : List Account) (w : List Folder). let new : StoreState = record { kept = record old.kept { accounts = v; folders = w }; message_max = old.message_max; failed = progress.failed; end = progress.end } in new) x y
