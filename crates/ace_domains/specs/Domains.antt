-- Domains, their form in A-labels (RFC 5890, 2.3.2.1), and which of them are the same (RFC 5890, 2.3.2.4).
use Rattle.std.specs.Prelude.{◌≡◌, ◌≢◌, ℕ, ◌-◌, ◌<◌, ◌≤◌, Bool, true, ◌||◌, ◌==◌, List, length, slice_index, codes, All, Option, unwrap_or}
use Rattle.std.specs.Char.{is_ascii_alphanumeric, is_ascii_lowercase, is_ascii_digit}
use Rattle.std.specs.List.{list_all, list_any, join_with_byte}
use Rattle.idna.specs.declared.deny_list.TheConstants.AsciiDenyList.{STD3}
use Rattle.idna.specs.declared.options.Hyphens.TheVariants.{Check}
use Rattle.idna.specs.declared.options.DnsLength.TheVariants.{Verify}
use Rattle.idna.specs.Labels.{full_stop, labels_of}
use Rattle.idna.specs.Uts46.{to_ascii}
use Rattle.idna.specs.Validity.{hyphen}

-- ---- the grammar

-- atext (RFC 5322, 3.2.3)
abbrev pub is_atext : ℕ → Bool
is_atext c = is_ascii_alphanumeric c || list_any (λ b. b == c) (codes "!#$%&'*+-/=?^_`{|}~")

-- one or more of them
pub record IsAtom (atom : List ℕ) : Type 0 where
  pub some : 0 < length atom
  pub octets : list_all is_atext atom ≡ true

-- one or more atoms, with one dot between each two (RFC 5322, 3.2.3, dot-atom-text)
pub record IsDomain (text : List ℕ) : Type 0 where
  pub atoms : List (List ℕ)
  pub some : 0 < length atoms
  pub each : All IsAtom atoms
  pub whole : text ≡ join_with_byte full_stop atoms

-- ---- the normal form

-- ToASCII (UTS 46, 4.2), nontransitional, with UseSTD3ASCIIRules, CheckHyphens, CheckJoiners, CheckBidi and
-- VerifyDnsLength. What it gives is a domain by the grammar.
abbrev pub normal_form : List ℕ → Option (List ℕ)
normal_form domain = to_ascii STD3 Check Verify domain

-- what a domain is compared by: its normal form, or the domain itself where it has none
abbrev pub compared_form : List ℕ → List ℕ
compared_form domain = unwrap_or (normal_form domain) domain

-- Two domains are the same: their normal forms are equal, or the domains themselves where they have none.
abbrev pub SameDomain : List ℕ → List ℕ → Type 0
SameDomain a b = compared_form a ≡ compared_form b

-- ---- names of the DNS

-- An octet of a host's name: a lower-case letter, a digit, a hyphen or a dot.
abbrev pub is_host_octet : ℕ → Bool
is_host_octet c = is_ascii_lowercase c || is_ascii_digit c || c == hyphen || c == full_stop

-- a label has 1 to 63 octets (RFC 1035, 2.3.4)
pub record HasLabelLength (label : List ℕ) : Type 0 where
  pub some : 0 < length label
  pub short : length label ≤ 63

-- letters in lower case, digits and hyphens in labels of these lengths, at most 253 octets in all
pub record IsDnsName (name : List ℕ) : Type 0 where
  pub octets : list_all is_host_octet name ≡ true
  pub labels : All HasLabelLength (labels_of name)
  pub short : length name ≤ 253

-- no hyphen comes first or last, and none both third and fourth (RFC 5890, 2.3.1, NR-LDH label)
pub record HasInnerHyphens (label : List ℕ) : Type 0 where
  pub first : slice_index label 0 ≢ hyphen
  pub last : slice_index label (length label - 1) ≢ hyphen
  pub unreserved : slice_index label 2 ≡ hyphen → slice_index label 3 ≢ hyphen

-- a name of the DNS in plain ASCII, with no A-label
pub record IsHostName (name : List ℕ) : Type 0 where
  pub name_of_dns : IsDnsName name
  pub hyphens : All HasInnerHyphens (labels_of name)
