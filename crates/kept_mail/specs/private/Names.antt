-- Numbers by name, for the indexes of domains, of folders and of mailboxes.
use Rattle.std.specs.Prelude.{◌≡◌, ℕ, ◌+◌, List, [], ◌∷◌, ◌++◌, Bool, false, Option, Some, None, if◌then◌else◌}
use Rattle.std.specs.Option.{option_map_or}
use Rattle.std.specs.Ordering.{nat_cmp}
use Rattle.std.specs.Cmp.Lexicographic.{slice_cmp}
use Rattle.std.specs.Str.{bytes_eq}
use Rattle.std.specs.BTreeMap.{BTreeMap, get_by}
use Rattle.std.specs.Global.{Vec}
use Rattle.address_grammar.specs.declared.Address.{Address}
use Rattle.kept_mail.specs.declared.kept.Account.{Account}
use Rattle.journal_records.specs.Addresses.{address_of, mailbox_key}
use Rattle.journal_records.specs.Spelling.{number}

-- the number at a name
abbrev pub number_named : BTreeMap (Vec ℕ) ℕ → List ℕ → Option ℕ
number_named numbers name = get_by (λ key. slice_cmp nat_cmp name key.items) numbers

-- what stands at a name after a number was put at a key that may have one
abbrev pub kept_first : Option ℕ → List ℕ → List ℕ → ℕ → Option ℕ
kept_first (Some n) key name number = Some n
kept_first None key name number = if bytes_eq key name then Some number else None

-- a number was put at a name where none was there, and the other names keep theirs
abbrev pub PutsName : (List ℕ → Option ℕ) → (List ℕ → Option ℕ) → List ℕ → ℕ → Type 0
PutsName old new key number = (name : List ℕ) → new name ≡ kept_first (old name) key name number

-- the first place of a name, the first of the list having this number
abbrev pub first_name : List ℕ → ℕ → List (List ℕ) → Option ℕ
first_name name at [] = None
first_name name at (first ∷ names) = if bytes_eq first name then Some at else first_name name (at + 1) names

-- what an account's folder of this name is known by
abbrev pub folder_key : ℕ → List ℕ → List ℕ
folder_key account name = number account ++ name

-- the account's mailbox is known by this key
abbrev pub has_key : (List ℕ → Option (Option Address)) → List ℕ → Account → Bool
has_key path_of key account = option_map_or (λ (own : Address). bytes_eq (mailbox_key own) key) (address_of path_of account.address) false

-- the first account of a mailbox's key, the first of the list having this number
abbrev pub first_mailbox : (List ℕ → Option (Option Address)) → List ℕ → ℕ → List Account → Option ℕ
first_mailbox path_of key at [] = None
first_mailbox path_of key at (account ∷ accounts) = if has_key path_of key account then Some at else first_mailbox path_of key (at + 1) accounts
