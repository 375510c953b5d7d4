-- What FETCH puts before and after the items that were asked.
use Rattle.std.specs.Prelude.{ℕ, Bool, true, false, List, [], ◌++◌, ◌&&◌, not, codes}
use Rattle.std.specs.Fmt.{decimal}
use Rattle.std.specs.List.{list_any}
use Rattle.kept_mail.specs.declared.kept.Listed.{Listed}
use Rattle.imap_grammar.specs.declared.command.FetchItem.{FetchItem}
use Rattle.imap_mailboxes.specs.Flags.{flags_text}
use Rattle.imap_session.specs.Items.{is_flags, is_uid}

-- UID FETCH tells the UID first where it isn't asked
abbrev pub tells_uid_first : (by_uid : Bool) → List FetchItem → Bool
tells_uid_first by_uid items = by_uid && not (list_any is_uid items)

abbrev pub uid_first_octets : (first : Bool) → Listed → List ℕ
uid_first_octets false one = []
uid_first_octets true one = codes "UID " ++ decimal one.uid

-- flags that change are told last where they aren't asked
abbrev pub tells_flags_last : (changed : Bool) → List FetchItem → Bool
tells_flags_last changed items = changed && not (list_any is_flags items)

-- the end of a reply, after the flags or not
abbrev pub end_octets : (flags : Bool) → Listed → List ℕ
end_octets false one = codes ")\r\n"
end_octets true one = codes " " ++ (flags_text one.flags ++ codes ")\r\n")

-- a space where something stands before what comes next
abbrev pub space_octets : (is_separated : Bool) → List ℕ
space_octets false = []
space_octets true = codes " "
