-- The names that texts are in modified UTF-7 (RFC 3501, 5.1.3), told by a function.
use Rattle.std.specs.Prelude.{◌≡◌, ℕ, List, Option, None, Some, IsUtf8}
use Rattle.imap_words.specs.Utf7.{modified_utf7}

-- what a text says as a mailbox name
abbrev pub IsNameOf : List ℕ → Option (List ℕ) → Type 0
IsNameOf text None = (name : List ℕ) → IsUtf8 name → text ≡ modified_utf7 name → ⊥
IsNameOf text (Some name) = IsUtf8 name × (text ≡ modified_utf7 name)

-- The function gives the name of each text that is one, and nothing of another.
abbrev pub ReadsNames : (List ℕ → Option (List ℕ)) → Type 0
ReadsNames name_of = (text : List ℕ) → IsNameOf text (name_of text)
