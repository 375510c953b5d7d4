-- What the readers of headers and parts answer.
use Rattle.std.specs.Prelude.{◌≡◌, ℕ, zero, suc, ◌+◌, ◌≤◌, ⊤, Bool, false, ◌&&◌, ◌==◌, if◌then◌else◌, List, [], ◌∷◌, ◌++◌, ◌<◌, length, map, slice_get, Some, codes}
use Rattle.std.specs.List.{All, list_any}
use Rattle.std.specs.Str.{bytes_eq, str_to_ascii_lowercase}
use Rattle.utf8_fields.specs.Block.{HasBlock, raw_of}
use Rattle.mime_tree.specs.declared.entity.Shape.{Shape}
use Rattle.mime_tree.specs.declared.entity.Shape.TheVariants.{Leaf, Multipart, Message}
use Rattle.mime_tree.specs.Outlines.{Outline}
use Rattle.mime_tree.specs.Sections.{children_from}
use Rattle.address_grammar.specs.Addresses.{quoted_string}
use Rattle.surrogate_rope.specs.Served.{IsShownOf, seen_outline, shown_octets, shown_outlines}
use Rattle.imap_views.specs.declared.headers.Header.{Header}
use Rattle.imap_views.specs.declared.parts.PartWords.{PartWords}
use Rattle.imap_views.specs.declared.structures.Seeing.{Seeing}
use Rattle.imap_views.specs.Envelopes.{AreAddressesOf, AreAddressesOr}
use Rattle.imap_views.specs.Fields.{HasSomeBlock}
use Rattle.imap_views.specs.Parts.{PartValue}
use Rattle.imap_views.specs.Strings.{nstring}
use Rattle.imap_views.specs.Structures.{Seen, after_spaces, header_at}

-- the header was read: its block is that of its octets
abbrev pub IsRead : Header → Type 0
IsRead header = HasBlock header.octets.now header.block.fields header.block.end

abbrev pub raws_in : Header → List (List ℕ)
raws_in header = map (raw_of header.octets.now) header.block.fields

abbrev pub part_value : PartWords → PartValue
part_value words = record {
  typed = record { main = words.main; params = words.params };
  id = words.id;
  description = words.description;
  encoding = words.encoding;
  disposition = words.disposition;
}

abbrev pub seen_by : Seeing → Seen
seen_by seeing = record { octets = shown_octets seeing.msg.now seeing.shown.now; outlines = map seen_outline seeing.outlines.items; extended = seeing.extended }

-- for each entity the numbers of those that are directly in it
abbrev pub HasChildren : List Outline → List (List ℕ) → Type 0
HasChildren outlines children = (length children ≡ length outlines)
    × ((number : ℕ) → number < length outlines → slice_get children number ≡ Some (children_from 0 outlines number))

-- what is shown is the message's, and its entities are known
pub record IsSeeing (seeing : Seeing) : Type 0 where
  pub is_shown : IsShownOf seeing.msg.now seeing.shown.now
  pub outlines : map seen_outline seeing.outlines.items ≡ shown_outlines seeing.shown.now
  pub children : HasChildren (shown_outlines seeing.shown.now) seeing.children.items

-- The entity of this number stands within what is shown, its header has a block, and so it is with those in it, which have
-- so many levels, with itself, at most.
abbrev pub AreStanding : (ℕ → Type 0) → List Outline → ℕ → Shape → Type 0
AreStanding Stands outlines number Leaf = ⊤
AreStanding Stands outlines number Message = Stands (number + 1)
AreStanding Stands outlines number Multipart = All Stands (children_from 0 outlines number)

pub record IsInPlace (seen : Seen) (number : ℕ) (outline : Outline) : Type 0 where
  pub is_outline : slice_get seen.outlines number ≡ Some outline
  pub header : outline.at ≤ outline.body
  pub content : outline.body ≤ outline.end
  pub within : outline.end ≤ length seen.octets
  pub has_block : HasSomeBlock (header_at seen outline)

unfoldable pub IsStanding : ℕ → Seen → ℕ → Type 0
IsStanding zero seen number = ⊥
IsStanding (suc levels) seen number =
    (outline : Outline) × IsInPlace seen number outline × AreStanding (IsStanding levels seen) seen.outlines number outline.shape

-- how many lines end in octets, where a CR stands before them or not
unfoldable pub goes_on_counting : Bool → List ℕ → ℕ
goes_on_counting is_after_cr [] = 0
goes_on_counting is_after_cr (x ∷ rest) = if is_after_cr && x == 10 then suc (goes_on_counting false rest) else goes_on_counting (x == 13) rest

-- a set that has these names, and no others, in lower case
abbrev pub HoldsNames : List (List ℕ) → (List ℕ → Bool) → Type 0
HoldsNames asked has = (name : List ℕ) → has name ≡ list_any (λ one. bytes_eq name (str_to_ascii_lowercase one)) asked

-- a part's id, description and encoding, each after a space
abbrev pub other_words : PartValue → List ℕ
other_words part = after_spaces (nstring part.id ∷ nstring part.description ∷ quoted_string part.encoding ∷ [])

-- new is old with a space after it, and then a text of which this holds
abbrev pub AddsAfterSpace : (List ℕ → Type 0) → List ℕ → List ℕ → Type 0
AddsAfterSpace Holds old new = (text : List ℕ) × Holds text × (new ≡ old ++ 32 ∷ text)

-- who wrote a message, who sent it and who is answered, in their order, each after a space
pub record HasSenders (raws : List (List ℕ)) (text : List ℕ) : Type 0 where
  pub from : List ℕ
  pub is_from : AreAddressesOf (codes "From") raws from
  pub sender : List ℕ
  pub is_sender : AreAddressesOr from (codes "Sender") raws sender
  pub reply_to : List ℕ
  pub is_reply_to : AreAddressesOr from (codes "Reply-To") raws reply_to
  pub text_is : text ≡ after_spaces (from ∷ sender ∷ reply_to ∷ [])

-- the addresses of an envelope, in their order, each after a space
pub record HasAllAddresses (raws : List (List ℕ)) (text : List ℕ) : Type 0 where
  pub from : List ℕ
  pub is_from : AreAddressesOf (codes "From") raws from
  pub sender : List ℕ
  pub is_sender : AreAddressesOr from (codes "Sender") raws sender
  pub reply_to : List ℕ
  pub is_reply_to : AreAddressesOr from (codes "Reply-To") raws reply_to
  pub to : List ℕ
  pub is_to : AreAddressesOf (codes "To") raws to
  pub cc : List ℕ
  pub is_cc : AreAddressesOf (codes "Cc") raws cc
  pub bcc : List ℕ
  pub is_bcc : AreAddressesOf (codes "Bcc") raws bcc
  pub text_is : text ≡ after_spaces (from ∷ sender ∷ reply_to ∷ to ∷ cc ∷ bcc ∷ [])
