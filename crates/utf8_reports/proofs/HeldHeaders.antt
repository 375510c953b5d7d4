-- The header of a whole message, with its empty line, has the block of the message.
use Rattle.std.proofs.Common.{◌≡◌, ℕ, ◌-◌, List, [], ◌∷◌, ◌++◌, Some, length, take, drop, arith, sym, ap, ◌∙◌, subst, append_assoc}
use Rattle.std.proofs.lemmas.List.{take-append-drop, take-take, length-take-le}
use Rattle.std.proofs.lemmas.Option.{same_Some}
use Rattle.mail_wire.specs.declared.values.Span.{Span}
use Rattle.mail_wire.specs.Lines.{lines_of}
use Rattle.mail_wire.proofs.LineLemmas.{concat_lines_of}
use Rattle.utf8_fields.specs.declared.block.Block.{Block}
use Rattle.utf8_fields.specs.Block.{EndsBlock}
use Rattle.utf8_fields.proofs.OneBlock.{same_block}
use Rattle.utf8_fields.proofs.Raws.{HasBlock-whole}
use Rattle.mime_tree.specs.Completing.{IsCompleted}
use Rattle.mime_tree.specs.declared.entity.Entity.{Entity}
use Rattle.mime_tree.specs.declared.sections.Part.TheVariants.{Header}
use Rattle.mime_tree.specs.Outlines.{Outline, outline_of, outlines_of}
use Rattle.mime_tree.specs.Parts.{size}
use Rattle.mime_tree.specs.Sections.{header_of, section}
use Rattle.mime_tree.specs.Tree.{HasHead, HasTree, IsEntity}
use Rattle.mime_tree.proofs.Heads.{fields_size}
use Rattle.mime_tree.proofs.Regions.{size-append}
use Rattle.utf8_reports.specs.Shown.{HasEndedHeader}
use Rattle.utf8_reports.specs.private.Reading.{HoldsHeader}
use Rattle.utf8_reports.proofs.EndedBlocks.{lines_alone, lines_taken}

ends_one : (rest : List (List ℕ)) → EndsBlock rest → EndsBlock (take 1 rest)
ends_one [] ends = tt
ends_one (line ∷ rest) ends = ends

holds_body : (octets : List ℕ) (block : Block) (body : ℕ) (content : List (List ℕ)) → HasHead 0 (lines_of octets) block body content → HoldsHeader octets body
holds_body octets block body content head =
    let has = head.has_block in
    let front : List (List ℕ) = has.header ++ take 1 has.rest in
    let split : lines_of octets ≡ front ++ drop 1 has.rest =
    has.lines ∙ ap (λ rest. has.header ++ rest) (sym (take-append-drop 1 has.rest)) ∙ sym (append_assoc has.header (take 1 has.rest) (drop 1 has.rest)) in
    let sizes = size-append has.header (take 1 has.rest) in
    let all = size-append front (drop 1 has.rest) in
    let same = ap size split in
    let whole = ap length (concat_lines_of octets) in
    let end = fields_size has.header 0 block.fields block.end has.fields_are in
    let body_is = head.body_is in
    let len : size front ≡ body = omega arith in
    let lines : lines_of (take body octets) ≡ front = ap lines_of (lines_taken octets front (drop 1 has.rest) body split len) ∙ lines_alone octets front (drop 1 has.rest) split in
    record {
      within = omega arith;
      fields = block.fields;
      end = block.end;
      has_block = has;
      held = record { header = has.header; rest = take 1 has.rest; lines = lines; fields_are = has.fields_are; ends = ends_one has.rest has.ends };
    }

-- the header of the whole message, as a section
pub section_holds : (octets : List ℕ) (entities : List Entity) (outlines : List Outline) (span : Span) → HasTree octets entities → outlines ≡ outlines_of entities → Some span ≡ section outlines [] Header
    → HoldsHeader octets span.len
unfolding IsEntity
section_holds octets entities outlines span tree are is =
    let within = tree.root.0 in
    let found : Some span ≡ Some (header_of (outline_of within.entity)) = is ∙ ap (λ l. section l [] Header) (are ∙ ap outlines_of within.entities_are) in
    let len : span.len ≡ within.entity.body - within.entity.at = ap (λ (s : Span). s.len) (same_Some span (header_of (outline_of within.entity)) found) in
    let at_is : within.entity.at ≡ 0 = within.at_is in
    let same : within.entity.body ≡ span.len = omega arith in
    subst (HoldsHeader octets) same (holds_body octets within.entity.block within.entity.body within.content within.head)

-- what is made of the front is made of all
pub front_header : (octets front header : List ℕ) (len : ℕ) → HoldsHeader octets len → front ≡ take len octets → HasEndedHeader front header → HasEndedHeader octets header
front_header octets front header len holds is has =
    let there = subst (λ text. HasEndedHeader text header) is has in
    let same : there.end ≡ holds.end = (same_block (lines_of (take len octets)) 0 there.fields holds.fields there.end holds.end there.has_block holds.held).1 in
    let fits = (HasBlock-whole (take len octets) holds.fields holds.end holds.held).fits in
    let size_is = length-take-le len octets holds.within in
    let front_is : take there.end (take len octets) ≡ take holds.end octets = ap (λ n. take n (take len octets)) same ∙ take-take holds.end len octets (omega arith) in
    record { fields = holds.fields; end = holds.end; has_block = holds.has_block; completed = subst (λ text. IsCompleted text header) front_is there.completed }
