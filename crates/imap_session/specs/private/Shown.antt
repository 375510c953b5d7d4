-- What is shown of a message, where an item needs it.
use Rattle.std.specs.Prelude.{◌≡◌, ℕ, List, Bool, true, false, not, ◌&&◌, ◌==◌, Option, None, Some, length}
use Rattle.surrogate_rope.specs.Served.{IsShownOf, shown_octets}
use Rattle.surrogate_rope.specs.declared.shown.Shown.{Shown}
use Rattle.surrogate_cache.specs.Served.{Mode, IsServed}
use Rattle.imap_grammar.specs.declared.command.FetchItem.{FetchItem}
use Rattle.imap_grammar.specs.declared.command.FetchItem.TheVariants as item
use Rattle.imap_grammar.specs.declared.command.SectionPart.{SectionPart}
use Rattle.imap_grammar.specs.declared.command.SectionPart.TheVariants as part

-- a part that is asked whole has no word
abbrev pub names_all : SectionPart → Bool
names_all part.Whole = true
names_all other = false

-- the section is the message
abbrev pub names_message : (path : List ℕ) → SectionPart → Bool
names_message path what = names_all what && length path == 0

-- What is shown of the message is needed to tell the item: the octets that are stored tell it only where UTF-8 is enabled, and only all of them, or how many
-- they are.
abbrev pub shows : (enabled : Bool) → FetchItem → Bool
shows enabled item.Flags = false
shows enabled item.Uid = false
shows enabled item.InternalDate = false
shows enabled item.Size = not enabled
shows enabled item.Rfc822 = not enabled
shows enabled (item.Section peek path what partial) = not (enabled && names_message path what)
shows enabled other = true

-- a section of what is served is the item's
abbrev pub asks_section : FetchItem → Bool
asks_section item.Rfc822 = true
asks_section item.Rfc822Header = true
asks_section item.Rfc822Text = true
asks_section (item.Section peek path part partial) = true
asks_section other = false

-- of this message it is shown what the mode serves
abbrev pub IsShownIn : Mode → List ℕ → Shown → Type 0
IsShownIn mode msg shown = IsShownOf msg shown × IsServed mode msg (shown_octets msg shown)

-- it is there where it is needed
abbrev pub HasShown : Mode → List ℕ → (needed : Bool) → Option Shown → Type 0
HasShown mode msg needed (Some shown) = IsShownIn mode msg shown
HasShown mode msg needed None = needed ≡ false

-- the octets that are shown: without it those that are stored
abbrev pub octets_shown : (msg : List ℕ) → Option Shown → List ℕ
octets_shown msg (Some shown) = shown_octets msg shown
octets_shown msg None = msg
