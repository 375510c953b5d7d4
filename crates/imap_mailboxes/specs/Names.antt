-- Mailbox names in commands and replies (RFC 3501, 4.3, 5.1, 5.1.3 and 9; RFC 6855, 3).
use Rattle.std.specs.Prelude.{◌≡◌, ◌≢◌, ℕ, Bool, true, false, List, [], ◌∷◌, ◌++◌, Option, None, Some, IsUtf8, if◌then◌else◌}
use Rattle.std.specs.List.{flat_map}
use Rattle.mail_wire.specs.Characters.{quote, backslash}
use Rattle.imap_words.specs.Tokens.{is_quoted_special}
use Rattle.imap_words.specs.Utf7.{modified_utf7}

-- QUOTED-CHAR = <any TEXT-CHAR except quoted-specials> / "\" quoted-specials
abbrev pub in_quotes : ℕ → List ℕ
in_quotes x = if is_quoted_special x then backslash ∷ x ∷ [] else x ∷ []

-- quoted = DQUOTE *QUOTED-CHAR DQUOTE
abbrev pub quoted : List ℕ → List ℕ
quoted octets = quote ∷ (flat_map in_quotes octets ++ quote ∷ [])

-- a name in a session: in modified UTF-7, or as it is where the client enabled UTF8=ACCEPT
abbrev pub shown_name : (enabled : Bool) → List ℕ → List ℕ
shown_name false name = modified_utf7 name
shown_name true name = name

-- The text of a command names this mailbox, or none where no name is shown so. At most one name is shown so.
abbrev pub NamesMailbox : (enabled : Bool) → (text : List ℕ) → Option (List ℕ) → Type 0
NamesMailbox enabled text (Some name) = IsUtf8 name × (text ≡ shown_name enabled name)
NamesMailbox enabled text None = (name : List ℕ) → IsUtf8 name → text ≢ shown_name enabled name

-- The function tells of each text which mailbox it names.
abbrev pub ReadsMailboxes : ((enabled : Bool) → List ℕ → Option (List ℕ)) → Type 0
ReadsMailboxes name_of = (enabled : Bool) (text : List ℕ) → NamesMailbox enabled text (name_of enabled text)
