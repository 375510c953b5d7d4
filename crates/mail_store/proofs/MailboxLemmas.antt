-- The first accounts of mailboxes, and the first numbers of domains.
use Rattle.std.proofs.Common.{◌≡◌, ℕ, ◌+◌, ◌<◌, Bool, false, cond, List, [], ◌∷◌, length, get_or, Option, Some, None, refl, sym, ap, ◌∙◌, subst, arith, inl, inr, option_and_then}
use Rattle.std.proofs.lemmas.Bool.{cases_Bool}
use Rattle.std.proofs.lemmas.List.Elements.{All-head, All-tail}
use Rattle.std.specs.List.{All, list_any}
use Rattle.std.specs.Option.{option_map_or}
use Rattle.std.specs.Prelude.{IsUtf8, IfSome, is_some, slice_get}
use Rattle.std.specs.Str.{bytes_eq}
use Rattle.ace_domains.specs.Domains.{compared_form}
use Rattle.address_grammar.specs.declared.Address.{Address}
use Rattle.address_grammar.specs.Paths.{ComesInPath, HasPath, IsReading, ReadsPaths, in_angles}
use Rattle.address_grammar.proofs.DecidePaths.{paths_read}
use Rattle.address_grammar.proofs.PathLemmas.{HasPath-once}
use Rattle.journal_records.specs.Addresses.{IsTextOfAddress, IsDomainText, is_same_domain, is_same_mailbox, address_of, WithPaths, mailbox_key}
use Rattle.journal_records.proofs.KeyLemmas.{domain_text_utf8, key_decides}
use Rattle.kept_mail.specs.declared.kept.Account.{Account}
use Rattle.kept_mail.specs.Kept.{Kept, is_account_of, first_account, find_account, is_local, has_password, admitted, logged_in}
use Rattle.mail_store.specs.StoreState.{Indexes, AreIndexes}
use Rattle.kept_mail.specs.private.Names.{first_name, has_key, first_mailbox}

-- ---- domains

-- a store's first domain is UTF-8
pub first_utf8 : (names : List (List ℕ)) (name : List ℕ) → All IsDomainText names → 0 < length names → name ≡ get_or names 0 name → IsUtf8 name
first_utf8 names name each some is = domain_text_utf8 name (subst IsDomainText (sym is) (each 0 name some))

compared_own : (name : List ℕ) → IsDomainText name → compared_form name ≡ name
compared_own name e = rw e refl

local_first : (domain : List ℕ) (at : ℕ) (names : List (List ℕ)) → All IsDomainText names
    → is_some (first_name (compared_form domain) at names) ≡ list_any (λ name. is_same_domain name domain) names
local_first domain at [] each = refl
local_first domain at (name ∷ names) each =
    let own : compared_form name ≡ name = compared_own name (All-head IsDomainText name names each) in
    let same : bytes_eq name (compared_form domain) ≡ is_same_domain name domain = ap (λ n. bytes_eq n (compared_form domain)) (sym own) in
    elim (cases_Bool (bytes_eq name (compared_form domain))) [
      | inl is ↦ rw (is, sym same ∙ is) refl
      | inr not ↦ rw (not, sym same ∙ not) (local_first domain (at + 1) names (All-tail IsDomainText name names each))
    ]

-- a domain is one of the store's exactly where its normal form has a first number
pub first_name_is_local : (kept : Kept) (domain : List ℕ) → All IsDomainText kept.domains → is_some (first_name (compared_form domain) 0 kept.domains) ≡ is_local kept domain
first_name_is_local kept domain each = local_first domain 0 kept.domains each

-- ---- mailboxes

key_of_text : (text : List ℕ) (answer : Option (Option Address)) → IsReading text answer → (address : Address) → ComesInPath address
    → option_map_or (λ (own : Address). bytes_eq (mailbox_key own) (mailbox_key address)) (option_and_then (λ a. a) answer) false
    ≡ option_map_or (λ (own : Address). is_same_mailbox own address) (option_and_then (λ a. a) answer) false
key_of_text text None reads address comes = refl
key_of_text text (Some None) reads address comes = refl
key_of_text text (Some (Some own)) reads address comes = key_decides own address (text, reads) comes

has_key_decides : (path_of : List ℕ → Option (Option Address)) → ReadsPaths path_of → (address : Address) → ComesInPath address → (account : Account)
    → has_key path_of (mailbox_key address) account ≡ is_account_of path_of address account
has_key_decides path_of reads address comes account =
    key_of_text (in_angles account.address) (path_of (in_angles account.address)) (reads (in_angles account.address)) address comes

-- the first account of a mailbox's key is the first account of the mailbox
pub first_of_key : (path_of : List ℕ → Option (Option Address)) → ReadsPaths path_of → (address : Address) → ComesInPath address → (at : ℕ) (accounts : List Account)
    → first_mailbox path_of (mailbox_key address) at accounts ≡ first_account path_of address at accounts
first_of_key path_of reads address comes at [] = refl
first_of_key path_of reads address comes at (account ∷ accounts) =
    let same : has_key path_of (mailbox_key address) account ≡ is_account_of path_of address account = has_key_decides path_of reads address comes account in
    elim (cases_Bool (is_account_of path_of address account)) [
      | inl is ↦ rw (same, is) refl
      | inr not ↦ rw (same, not) (first_of_key path_of reads address comes (at + 1) accounts)
    ]

-- the number of a first account is within their list
pub first_mailbox_within : (path_of : List ℕ → Option (Option Address)) (key : List ℕ) (at : ℕ) (accounts : List Account) (i : ℕ)
    → first_mailbox path_of key at accounts ≡ Some i → i < at + length accounts
first_mailbox_within path_of key at [] i e = absurd (cc e)
first_mailbox_within path_of key at (account ∷ accounts) i e =
    elim (cases_Bool (has_key path_of key account)) [
      | inl same ↦
          let is : at ≡ i = cc (rw same at e) in
          omega (arith, is)
      | inr other ↦
          let ih = first_mailbox_within path_of key (at + 1) accounts i (rw other at e) in
          omega (arith, ih)
    ]

-- ---- what the indexes say

-- what stands at a mailbox's key is the first account of the mailbox
pub found_is : (kept : Kept) (i : Indexes) → AreIndexes kept i → (address : Address) → ComesInPath address → (key : List ℕ) (found : Option ℕ)
    → key ≡ mailbox_key address → found ≡ i.mailboxes key → WithPaths (λ path_of. found ≡ find_account path_of kept address)
found_is kept i are address comes key found k f = λ path_of reads.
    f ∙ are.mailboxes_is path_of reads key ∙ ap (λ (l : List ℕ). first_mailbox path_of l 0 kept.accounts) k ∙ first_of_key path_of reads address comes 0 kept.accounts

within_list : (path_of : List ℕ → Option (Option Address)) (key : List ℕ) (accounts : List Account) (found : Option ℕ)
    → found ≡ first_mailbox path_of key 0 accounts → IfSome found (λ account. account < length accounts)
within_list path_of key accounts None e = tt
within_list path_of key accounts (Some account) e = omega (arith, first_mailbox_within path_of key 0 accounts account (sym e))

-- and it is an account's number
pub found_known : (kept : Kept) (i : Indexes) → AreIndexes kept i → (key : List ℕ) (found : Option ℕ) → found ≡ i.mailboxes key
    → IfSome found (λ account. account < length kept.accounts)
found_known kept i are key found f =
    let path_of = paths_read.0 in
    within_list path_of key kept.accounts found (f ∙ are.mailboxes_is path_of paths_read.1 key)

-- a domain is local exactly where a number stands at its normal form
pub local_is : (kept : Kept) (i : Indexes) → AreIndexes kept i → (domain key : List ℕ) (found : Option ℕ) → key ≡ compared_form domain → found ≡ i.locals key
    → is_some found ≡ is_local kept domain
local_is kept i are domain key found k f =
    ap (λ (o : Option ℕ). is_some o) (f ∙ are.locals_is key ∙ ap (λ (l : List ℕ). first_name l 0 kept.domains) k) ∙ first_name_is_local kept domain are.domains_are_texts

-- ---- logging in

reads_address : (text : List ℕ) (answer : Option (Option Address)) → IsReading text answer → (address : Address) → HasPath text (Some address)
    → option_and_then (λ a. a) answer ≡ Some address
reads_address text None reads address has = absurd (reads (Some address) has)
reads_address text (Some answer) reads address has = HasPath-once text answer (Some address) reads has

admits : (kept : Kept) (name password : List ℕ) (address : Address) (found : Option ℕ) → IsTextOfAddress name address
    → WithPaths (λ path_of. found ≡ find_account path_of kept address) → WithPaths (λ path_of. admitted kept found password ≡ logged_in path_of kept name password)
admits kept name password address found has is = λ path_of reads.
    let own : address_of path_of name ≡ Some address = reads_address (in_angles name) (path_of (in_angles name)) (reads (in_angles name)) address has in
    ap (λ (o : Option ℕ). admitted kept o password) (is path_of reads ∙ ap (λ (o : Option Address). option_and_then (find_account path_of kept) o) (sym own))

-- an account that was found is logged in where the password is its own
pub login_some : (kept : Kept) (name password : List ℕ) (address : Address) (found : Option ℕ) (account : ℕ) (own : Bool) → IsTextOfAddress name address
    → WithPaths (λ path_of. found ≡ find_account path_of kept address) → found ≡ Some account → own ≡ has_password (slice_get kept.accounts account) password
    → WithPaths (λ path_of. cond own (Some account) None ≡ logged_in path_of kept name password)
login_some kept name password address found account own has is some e = λ path_of reads.
    let given : cond own (Some account) None ≡ admitted kept (Some account) password = ap (λ (b : Bool). cond b (Some account) None) e in
    given ∙ ap (λ (o : Option ℕ). admitted kept o password) (sym some) ∙ admits kept name password address found has is path_of reads

-- and nobody where none was found
pub login_none : (kept : Kept) (name password : List ℕ) (address : Address) (found : Option ℕ) → IsTextOfAddress name address
    → WithPaths (λ path_of. found ≡ find_account path_of kept address) → found ≡ None → WithPaths (λ path_of. None ≡ logged_in path_of kept name password)
login_none kept name password address found has is none = λ path_of reads.
    ap (λ (o : Option ℕ). admitted kept o password) (sym none) ∙ admits kept name password address found has is path_of reads
