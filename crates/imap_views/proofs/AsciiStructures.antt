-- The structure of octets whose header blocks are ASCII is ASCII.
use Rattle.std.proofs.Common.{◌≡◌, ℕ, zero, suc, ◌+◌, Bool, true, false, cond, List, [], ◌∷◌, ◌++◌, codes, decimal, Some, slice_get, nat_eq, refl, subst}
use Rattle.std.specs.Prelude.{slice_range}
use Rattle.std.specs.List.{AllByRecursion, flat_map, starts_with}
use Rattle.mail_wire.specs.Octets.{is_ascii}
use Rattle.mail_wire.proofs.AllLemmas.{pass-append}
use Rattle.mail_wire.proofs.NumberLemmas.{ascii-decimal}
use Rattle.utf8_fields.specs.Block.{raw_of}
use Rattle.mime_tree.specs.declared.entity.Entity.{Entity}
use Rattle.mime_tree.specs.declared.entity.Shape.{Shape}
use Rattle.mime_tree.specs.declared.entity.Shape.TheVariants.{Leaf, Multipart, Message}
use Rattle.mime_tree.specs.Outlines.{Outline, outlines_of}
use Rattle.mime_tree.specs.Tree.{HasTree, raws_of, depth_max}
use Rattle.mime_tree.proofs.OneTree.{one_tree}
use Rattle.surrogate_rope.specs.Layout.{HasAsciiBlocks}
use Rattle.surrogate_rope.specs.Served.{IsShownOf, shown_octets, shown_outlines}
use Rattle.surrogate_rope.specs.declared.shown.Shown.{Shown}
use Rattle.surrogate_rope.specs.declared.shown.Shown.TheVariants.{Whole, Rope}
use Rattle.address_grammar.specs.Addresses.{quoted_string}
use Rattle.imap_views.specs.Strings.{nil, nstring, before_mark, after_mark}
use Rattle.imap_views.specs.Parts.{PartValue, main_type, sub_type}
use Rattle.imap_views.specs.Structures.{Seen, ended_lines, header_at, content_at, after_spaces, where_extended, basic_words, size_of, lines_in, text_lines, part_extension, leaf_form, message_form, multipart_extension, multipart_form, FormRelation, AreForms, IsShapedForm, IsPartAt, IsForm, HasStructure}
use Rattle.imap_views.proofs.AsciiTexts.{AreAscii, AreAllAscii, quoted_ascii, nstring_ascii, parentheses_ascii, spaced_ascii, before_ascii, following_ascii}
use Rattle.imap_views.proofs.AsciiFields.{joined_ascii, all_raws_ascii}
use Rattle.imap_views.proofs.AsciiParts.{IsAsciiPart, part_ascii}
use Rattle.imap_views.proofs.AsciiViews.{has_envelope_ascii}
use Rattle.imap_views.proofs.TreeHeaders.{HasHeader, tree_headers}

-- ---- one part

spaces_ascii : (texts : List (List ℕ)) → AreAllAscii texts → AreAscii (after_spaces texts)
spaces_ascii [] h = refl
spaces_ascii (text ∷ texts) h = pass-append is_ascii text (after_spaces texts) h.0 (spaces_ascii texts h.1)

extended_ascii : (seen : Seen) (text : List ℕ) → AreAscii text → AreAscii (where_extended seen text)
extended_ascii seen text h = by seen.extended
  where
    by : (b : Bool) → AreAscii (cond b text [])
    by true = h
    by false = refl

basic_ascii : (part : PartValue) (size : ℕ) → IsAsciiPart part → AreAscii (basic_words part size)
basic_ascii part size is =
    spaced_ascii (main_type part.typed.main ∷ sub_type part.typed.main ∷ part.typed.params ∷ nstring part.id ∷ nstring part.description ∷ quoted_string part.encoding ∷ decimal size ∷ []) (
      quoted_ascii (before_mark 47 part.typed.main) (before_ascii 47 part.typed.main is.main),
      (
        quoted_ascii (after_mark 47 part.typed.main) (following_ascii 47 part.typed.main is.main),
        (
          is.params,
          (
            nstring_ascii part.id is.id,
            (nstring_ascii part.description is.description, (quoted_ascii part.encoding is.encoding, (ascii-decimal size, tt))),
          ),
        ),
      ),
    )

text_lines_ascii : (seen : Seen) (outline : Outline) (part : PartValue) → AreAscii (text_lines seen outline part)
text_lines_ascii seen outline part = by (starts_with nat_eq part.typed.main (codes "text/"))
  where
    by : (b : Bool) → AreAscii (cond b (after_spaces (lines_in seen outline ∷ [])) [])
    by true = spaces_ascii (lines_in seen outline ∷ []) (ascii-decimal (ended_lines (content_at seen outline)), tt)
    by false = refl

part_extension_ascii : (seen : Seen) (part : PartValue) → IsAsciiPart part → AreAscii (part_extension seen part)
part_extension_ascii seen part is = extended_ascii seen (after_spaces (nil ∷ part.disposition ∷ nil ∷ nil ∷ [])) (spaces_ascii (nil ∷ part.disposition ∷ nil ∷ nil ∷ []) (refl, (is.disposition, (refl, (refl, tt)))))

leaf_ascii : (seen : Seen) (outline : Outline) (part : PartValue) → IsAsciiPart part → AreAscii (leaf_form seen outline part)
leaf_ascii seen outline part is =
    parentheses_ascii (basic_words part (size_of outline) ++ (text_lines seen outline part ++ part_extension seen part))
    (pass-append is_ascii (basic_words part (size_of outline)) (text_lines seen outline part ++ part_extension seen part) (basic_ascii part (size_of outline) is)
    (pass-append is_ascii (text_lines seen outline part) (part_extension seen part) (text_lines_ascii seen outline part) (part_extension_ascii seen part is)))

message_ascii : (seen : Seen) (outline : Outline) (part : PartValue) (envelope body : List ℕ) → IsAsciiPart part → AreAscii envelope → AreAscii body → AreAscii (message_form seen outline part envelope body)
message_ascii seen outline part envelope body is e b =
    let words = after_spaces (envelope ∷ body ∷ lines_in seen outline ∷ []) in
    parentheses_ascii (basic_words part (size_of outline) ++ (words ++ part_extension seen part))
    (pass-append is_ascii (basic_words part (size_of outline)) (words ++ part_extension seen part) (basic_ascii part (size_of outline) is)
    (pass-append is_ascii words (part_extension seen part) (spaces_ascii (envelope ∷ body ∷ lines_in seen outline ∷ []) (e, (b, (ascii-decimal (ended_lines (content_at seen outline)), tt)))) (part_extension_ascii seen part is)))

multipart_ascii : (seen : Seen) (part : PartValue) (parts : List ℕ) → IsAsciiPart part → AreAscii parts → AreAscii (multipart_form seen part parts)
multipart_ascii seen part parts is h =
    let words = after_spaces (sub_type part.typed.main ∷ []) in
    let more = part.typed.params ∷ part.disposition ∷ nil ∷ nil ∷ [] in
    let extension = extended_ascii seen (after_spaces more) (spaces_ascii more (is.params, (is.disposition, (refl, (refl, tt))))) in
    parentheses_ascii (parts ++ (words ++ multipart_extension seen part)) (pass-append is_ascii parts (words ++ multipart_extension seen part) h
    (pass-append is_ascii words (multipart_extension seen part) (spaces_ascii (sub_type part.typed.main ∷ []) (quoted_ascii (after_mark 47 part.typed.main) (following_ascii 47 part.typed.main is.main), tt)) extension))

-- ---- parts in parts

-- the header of each entity is ASCII
abbrev AreAsciiHeaders : List ℕ → List Outline → Type 0
AreAsciiHeaders octets outlines = AllByRecursion (λ (outline : Outline). AreAscii (slice_range octets outline.at outline.body)) outlines

pub header_ascii : (octets : List ℕ) (outlines : List Outline) (number : ℕ) (outline : Outline) → AreAsciiHeaders octets outlines → slice_get outlines number ≡ Some outline → AreAscii (slice_range octets outline.at outline.body)
header_ascii octets [] number outline h e = cc e
header_ascii octets (first ∷ outlines) zero outline h e =
    let same : first ≡ outline = cc e in
    subst (λ (one : Outline). AreAscii (slice_range octets one.at one.body)) same h.0
header_ascii octets (first ∷ outlines) (suc number) outline h e = header_ascii octets outlines number outline h.1 e

said_part_ascii : (seen : Seen) (digest : Bool) (number : ℕ) (is : IsPartAt seen digest number) → AreAsciiHeaders seen.octets seen.outlines → IsAsciiPart is.part
said_part_ascii seen digest number is h =
    part_ascii digest is.raws is.part is.says (all_raws_ascii (header_at seen is.outline) is.raws is.has_raws (header_ascii seen.octets seen.outlines number is.outline h is.is_outline))

abbrev GivesAscii : FormRelation → Type 0
GivesAscii IsOne = (digest : Bool) (number : ℕ) (text : List ℕ) → IsOne digest number text → AreAscii text

forms_ascii : (IsOne : FormRelation) → GivesAscii IsOne → (digest : Bool) (numbers : List ℕ) (text : List ℕ) → AreForms IsOne digest numbers text → AreAscii text
forms_ascii IsOne gives digest [] text are = rw (are) refl
forms_ascii IsOne gives digest (number ∷ numbers) text are = rw (are.2) (pass-append is_ascii are.0 are.1 (gives digest number are.0 are.3) (forms_ascii IsOne gives digest numbers are.1 are.4))

shaped_ascii : (IsOne : FormRelation) → GivesAscii IsOne → (seen : Seen) → AreAsciiHeaders seen.octets seen.outlines → (number : ℕ) (outline : Outline) (part : PartValue) → IsAsciiPart part → (text : List ℕ) (shape : Shape)
    → IsShapedForm IsOne seen number outline part text shape → AreAscii text
shaped_ascii IsOne gives seen h number outline part said text Leaf is = rw (is) (leaf_ascii seen outline part said)
shaped_ascii IsOne gives seen h number outline part said text Message is =
    let envelope = has_envelope_ascii (header_at seen is.child) is.envelope is.is_envelope (header_ascii seen.octets seen.outlines (number + 1) is.child h is.has_child) in
    rw (is.text_is) (message_ascii seen outline part is.envelope is.body said envelope (gives false (number + 1) is.body is.is_body))
shaped_ascii IsOne gives seen h number outline part said text Multipart is = rw (is.text_is) (multipart_ascii seen part is.parts said (forms_ascii IsOne gives _ _ is.parts is.are_parts))

form_ascii : (levels : ℕ) (seen : Seen) → AreAsciiHeaders seen.octets seen.outlines → GivesAscii (IsForm levels seen)
unfolding IsForm
form_ascii zero seen h = λ digest number text is. absurd is
form_ascii (suc levels) seen h = λ digest number text is.
    shaped_ascii (IsForm levels seen) (form_ascii levels seen h) seen h number is.0.outline is.0.part (said_part_ascii seen digest number is.0 h) text is.0.outline.shape is.1

-- ---- what is shown

abbrev HaveAsciiRaws : List ℕ → List Entity → Type 0
HaveAsciiRaws octets entities = AllByRecursion (λ (entity : Entity). AreAllAscii (raws_of octets entity.block)) entities

headers_ascii : (octets : List ℕ) (entities : List Entity) → AllByRecursion (HasHeader octets) entities → HaveAsciiRaws octets entities → AreAsciiHeaders octets (outlines_of entities)
headers_ascii octets [] have raws = tt
headers_ascii octets (entity ∷ entities) have raws = (
  rw (have.0.whole) (pass-append is_ascii (flat_map (raw_of octets) entity.block.fields) have.0.end (joined_ascii octets entity.block.fields raws.0) have.0.end_ascii),
  headers_ascii octets entities have.1 raws.1,
)

pub tree_ascii : (octets : List ℕ) (entities : List Entity) → HasAsciiBlocks octets → HasTree octets entities → AreAsciiHeaders octets (outlines_of entities)
tree_ascii octets entities blocks tree =
    headers_ascii octets entities (tree_headers octets entities tree) (subst (HaveAsciiRaws octets) (one_tree octets blocks.entities entities blocks.tree tree) blocks.ascii)

shown_ascii : (msg : List ℕ) (shown : Shown) → IsShownOf msg shown → HasAsciiBlocks (shown_octets msg shown) → AreAsciiHeaders (shown_octets msg shown) (shown_outlines shown)
shown_ascii msg (Whole tree) is blocks = tree_ascii msg tree.entities blocks is
shown_ascii msg (Rope rope) is blocks = rw (is.outlines) (tree_ascii _ is.others blocks is.made_tree)

pub structure_ascii : (msg : List ℕ) (shown : Shown) (extended : Bool) (text : List ℕ) → IsShownOf msg shown → HasAsciiBlocks (shown_octets msg shown)
    → HasStructure (record { octets = shown_octets msg shown; outlines = shown_outlines shown; extended = extended }) text → AreAscii text
structure_ascii msg shown extended text is blocks has =
    form_ascii (depth_max + 1) (record { octets = shown_octets msg shown; outlines = shown_outlines shown; extended = extended }) (shown_ascii msg shown is blocks) false 0 text has
