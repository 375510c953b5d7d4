-- Lines, as the private functions put them together.
use Rattle.std.specs.Prelude.{ℕ, List, [], ◌++◌, codes, Option, None, Some}
use Rattle.mail_wire.specs.Lines.{crlf}
use Rattle.imap_grammar.specs.declared.event.Event.{Event}
use Rattle.imap_grammar.specs.declared.event.Event.TheVariants.{Go, Bad, TooLarge}
use Rattle.session_core.specs.declared.outside.Created.{Created}
use Rattle.session_core.specs.declared.outside.Created.TheVariants as created
use Rattle.imap_session.specs.Machine.{done}

-- the line that ends the replies of a command
abbrev pub tagged_octets : (tag words : List ℕ) → List ℕ
tagged_octets tag words = tag ++ (codes " " ++ (words ++ crlf))

-- the line of STATUS: a folder's name, quoted, and what is told of the folder
abbrev pub status_octets : (name texts : List ℕ) → List ℕ
status_octets name texts = codes "* STATUS " ++ (name ++ ((codes " (" ++ (texts ++ codes ")")) ++ crlf))

-- what CREATE answers
abbrev pub words_of_created : Created → List ℕ
words_of_created created.Made = done
words_of_created created.Exists = codes "NO exists"
words_of_created created.TooLarge = codes "NO too large"

-- the line for a line that is no command, where it begins with this tag or with none
abbrev pub bad_octets : Option (List ℕ) → List ℕ
bad_octets None = codes "* BAD syntax\r\n"
bad_octets (Some tag) = tagged_octets tag (codes "BAD syntax")

-- what is given where this is due and the state stays
abbrev pub due_octets : Event → List ℕ
due_octets Go = codes "+ go\r\n"
due_octets (Bad tag at) = bad_octets tag
due_octets (TooLarge tag) = tagged_octets tag (codes "NO too large")
due_octets other = []
