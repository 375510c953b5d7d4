-- Strings and lists of a reply (RFC 3501, 4.3 and 4.4), and where the parts of a text are divided.
use Rattle.std.specs.Prelude.{◌≡◌, ℕ, ◌==◌, if◌then◌else◌, List, [], ◌∷◌, ◌++◌, codes, Option, Some, None}
use Rattle.mail_wire.specs.Characters.{space, left_parenthesis, right_parenthesis}
use Rattle.address_grammar.specs.Addresses.{quoted_string}

-- NIL, which stands for what isn't there (RFC 3501, 4.5).
abbrev pub nil : List ℕ
nil = codes "NIL"

-- a text as a quoted string, or NIL
abbrev pub nstring : Option (List ℕ) → List ℕ
nstring None = nil
nstring (Some text) = quoted_string text

-- A text in parentheses, as lists are written (RFC 3501, 4.4).
abbrev pub in_parentheses : List ℕ → List ℕ
in_parentheses text = left_parenthesis ∷ (text ++ right_parenthesis ∷ [])

-- texts with a space between each two
unfoldable pub spaced : List (List ℕ) → List ℕ
spaced [] = []
spaced (text ∷ []) = text
spaced (text ∷ next ∷ texts) = text ++ space ∷ spaced (next ∷ texts)

-- the texts in parentheses, or NIL where there are none
abbrev pub listed : List (List ℕ) → List ℕ
listed [] = nil
listed (text ∷ texts) = in_parentheses (spaced (text ∷ texts))

-- what stands before the first such octet; all, where there is none
unfoldable pub before_mark : ℕ → List ℕ → List ℕ
before_mark mark [] = []
before_mark mark (x ∷ octets) = if x == mark then [] else x ∷ before_mark mark octets

-- what stands after the first such octet; nothing, where there is none
unfoldable pub after_mark : ℕ → List ℕ → List ℕ
after_mark mark [] = []
after_mark mark (x ∷ octets) = if x == mark then octets else after_mark mark octets

-- new is old with a text after it of which this holds
abbrev pub AddsText : (List ℕ → Type 0) → List ℕ → List ℕ → Type 0
AddsText Holds old new = (text : List ℕ) × Holds text × (new ≡ old ++ text)
