-- The addresses and domains that a record may have, and what makes two of them the same (RFC 5321, 4.1.2; RFC 6531; RFC 6532, 3.2; UTS #46; Unicode, 3.13,
-- D145).
use Rattle.std.specs.Prelude.{◌≡◌, ◌≤◌, ℕ, List, [], ◌∷◌, ◌++◌, length, Bool, ◌&&◌, Option, Some, None, option_and_then, encode_utf8_all}
use Rattle.std.specs.Str.{bytes_eq, chars}
use Rattle.caseless.specs.Caseless.{canonical_key}
use Rattle.ace_domains.specs.Domains.{normal_form, compared_form}
use Rattle.address_grammar.specs.declared.Address.{Address}
use Rattle.address_grammar.specs.Addresses.{address_text}
use Rattle.address_grammar.specs.Paths.{ComesInPath, HasPath, ReadsPaths, in_angles}
use Rattle.journal_records.specs.declared.limits.TheConstants.{TEXT_MAX}

-- in angle brackets it is the path of this address
abbrev pub IsTextOfAddress : List ℕ → Address → Type 0
IsTextOfAddress text address = HasPath (in_angles text) (Some address)

-- The octets are the text of an address.
abbrev pub IsAddressText : List ℕ → Type 0
IsAddressText text = (address : Address) × IsTextOfAddress text address

-- The octets are the text of an address, and within the limit of a text.
abbrev pub IsKeptAddress : List ℕ → Type 0
IsKeptAddress text = IsAddressText text × (length text ≤ TEXT_MAX)

-- an address that a path may have, within its limit
abbrev pub IsSendable : Address → Type 0
IsSendable address = ComesInPath address × (length (address_text address) ≤ TEXT_MAX)

-- the text of a path's address; the null path has none
abbrev pub path_text : Option Address → List ℕ
path_text None = []
path_text (Some address) = address_text address

-- The octets are a domain in its normal form.
abbrev pub IsDomainText : List ℕ → Type 0
IsDomainText name = normal_form name ≡ Some name

-- local parts are the same by canonical caseless matching (Unicode, 3.13, D145)
abbrev pub is_same_local : List ℕ → List ℕ → Bool
is_same_local a b = bytes_eq (canonical_key (chars a)) (canonical_key (chars b))

-- domains are the same by their normal forms
abbrev pub is_same_domain : List ℕ → List ℕ → Bool
is_same_domain a b = bytes_eq (compared_form a) (compared_form b)

-- the addresses name one mailbox
abbrev pub is_same_mailbox : Address → Address → Bool
is_same_mailbox a b = is_same_local a.local b.local && is_same_domain a.domain b.domain

-- What a mailbox is known by: the canonical key of its local part, an octet that isn't in UTF-8, and its domain's normal form.
abbrev pub mailbox_key : Address → List ℕ
mailbox_key address = encode_utf8_all (canonical_key (chars address.local)) ++ 255 ∷ compared_form address.domain

-- ---- what a text says

-- the address of a text, by a function that reads paths
abbrev pub address_of : (List ℕ → Option (Option Address)) → List ℕ → Option Address
address_of path_of text = option_and_then (λ answer. answer) (path_of (in_angles text))

-- whatever function reads paths
abbrev pub WithPaths : ((List ℕ → Option (Option Address)) → Type 0) → Type 0
WithPaths P = (path_of : List ℕ → Option (Option Address)) → ReadsPaths path_of → P path_of
