-- Where a report goes, and from where it comes.
use Rattle.std.specs.Prelude.{◌≡◌, ℕ, Bool, not, is_some, List, Some, unwrap_or}
use Rattle.ace_domains.specs.Domains.{normal_form}
use Rattle.address_grammar.specs.declared.Address.{Address}
use Rattle.address_grammar.specs.Addresses.{address_text}
use Rattle.address_lists.specs.ListPieces.{served_address}

-- A report is in UTF-8 exactly where its path can't be written in ASCII (RFC 6533, 4; RFC 6530, 7.1).
abbrev pub is_global : Address → Bool
is_global path = not (is_some (served_address path))

-- the text of the path: its domain is in its normal form where that makes it ASCII
abbrev pub shown_path : Address → List ℕ
shown_path path = address_text (unwrap_or (served_address path) path)

-- The name of the server that reports: a normal form, which is its own. (`localhost` is one.)
abbrev pub IsReporter : List ℕ → Type 0
IsReporter name = normal_form name ≡ Some name
