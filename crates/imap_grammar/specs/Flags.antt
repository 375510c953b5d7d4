-- Flags (RFC 3501, 2.3.2 and 9).
use Rattle.std.specs.Prelude.{◌≡◌, ℕ, ◌+◌, Bool, true, false, List, [], ◌∷◌, ◌==◌, codes, if◌then◌else◌}
use Rattle.std.specs.List.{list_any}
use Rattle.mail_wire.specs.Characters.{space, dot, backslash}
use Rattle.mail_wire.specs.Octets.{same_name}
use Rattle.imap_words.specs.Languages.{Then, After, Or, Is, IsOctet, SaysItself, IsList}
use Rattle.imap_words.specs.Tokens.{IsImapAtom, IsSpace, IsOpenParenthesis, IsCloseParenthesis, IsCrlf, is_atom_char}
use Rattle.imap_words.specs.Keywords.{Named}
use Rattle.imap_grammar.specs.declared.flags.Bits.{Bits}
use Rattle.imap_grammar.specs.declared.command.StoreOp.{StoreOp}
use Rattle.imap_grammar.specs.declared.command.StoreOp.TheVariants.{Replace, Add, Remove}

-- flag = "\Answered" / "\Flagged" / "\Deleted" / "\Seen" / "\Draft" / flag-keyword / flag-extension
-- flag-extension = "\" atom; flag-keyword = atom
abbrev pub IsFlag : List ℕ → List ℕ → Type 0
IsFlag = Or IsImapAtom (SaysItself (After (IsOctet backslash) IsImapAtom))

-- the bit, where one of the flags is named so
abbrev pub bit_of : ℕ → List ℕ → List (List ℕ) → ℕ
bit_of bit name flags = if list_any (same_name name) flags then bit else 0

-- the flags that are named, a bit for each; others are passed over
unfoldable pub flags_of : List (List ℕ) → ℕ
flags_of flags = bit_of 1 (codes "\\Seen") flags + bit_of 2 (codes "\\Answered") flags + bit_of 4 (codes "\\Flagged") flags
    + bit_of 8 (codes "\\Deleted") flags + bit_of 16 (codes "\\Draft") flags

-- flag-list = "(" [flag *(SP flag)] ")"
abbrev pub IsFlagList : List ℕ → List (List ℕ) → Type 0
IsFlagList = After IsOpenParenthesis (Or (After IsCloseParenthesis (Is [])) (IsList IsSpace IsFlag IsCloseParenthesis))

-- ["+" / "-"] "FLAGS" [".SILENT"]
abbrev pub storing_words : List (Named (StoreOp × Bool))
storing_words =
    record { word = codes "FLAGS"; says = (Replace, false) } ∷ record { word = codes "FLAGS.SILENT"; says = (Replace, true) }
    ∷ record { word = codes "+FLAGS"; says = (Add, false) } ∷ record { word = codes "+FLAGS.SILENT"; says = (Add, true) }
    ∷ record { word = codes "-FLAGS"; says = (Remove, false) } ∷ record { word = codes "-FLAGS.SILENT"; says = (Remove, true) } ∷ []

-- (flag-list / (flag *(SP flag))), and the CRLF that ends STORE
abbrev pub IsFlagsToEnd : List ℕ → List (List ℕ) → Type 0
IsFlagsToEnd = Or (Then IsFlagList (λ flags. After IsCrlf (Is flags))) (IsList IsSpace IsFlag IsCrlf)

-- ---- words of the readers' own contracts

-- flag *(SP flag), and an octet after them
abbrev pub AreFlags : ℕ → List ℕ → List (List ℕ) → Type 0
AreFlags close = IsList IsSpace IsFlag (IsOctet close)

-- the value is a bit for each flag of such a word
abbrev pub HasFlags : (List ℕ → List (List ℕ) → Type 0) → List ℕ → ℕ → Type 0
HasFlags P = Then P (λ flags. Is (flags_of flags))

-- the octet goes on neither a flag nor a list of them
abbrev pub EndsFlags : ℕ → Type 0
EndsFlags close = (is_atom_char close ≡ false) × (close ≡ space → ⊥)

-- which flags are named
pub record IsBits (flags : List (List ℕ)) (bits : Bits) : Type 0 where
  pub is_seen : bits.seen ≡ list_any (same_name (codes "\\Seen")) flags
  pub is_answered : bits.answered ≡ list_any (same_name (codes "\\Answered")) flags
  pub is_flagged : bits.flagged ≡ list_any (same_name (codes "\\Flagged")) flags
  pub is_deleted : bits.deleted ≡ list_any (same_name (codes "\\Deleted")) flags
  pub is_draft : bits.draft ≡ list_any (same_name (codes "\\Draft")) flags

-- what may go on after the word: `.SILENT`
abbrev pub after_storing : StoreOp × Bool → ℕ → Bool
after_storing storing x = x == dot
