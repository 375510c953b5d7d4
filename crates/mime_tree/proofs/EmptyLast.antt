-- An empty line at the end says nothing: entities are the same without it.
use Rattle.std.proofs.Common.{◌≡◌, ℕ, zero, suc, ◌+◌, ◌-◌, List, [], ◌∷◌, ◌++◌, length, drop, take, Bool, true, false, arith, refl, sym, ap, ◌∙◌, Option, Some, append-nil, length-append}
use Rattle.std.specs.List.{All, concat}
use Rattle.std.proofs.lemmas.List.Elements.{All-head, All-tail}
use Rattle.std.proofs.lemmas.List.Folds.{concat-append}
use Rattle.mail_wire.specs.Lines.{crlf}
use Rattle.mail_wire.proofs.AllLemmas.{all-append}
use Rattle.utf8_fields.specs.declared.block.Field.{Field}
use Rattle.utf8_fields.specs.declared.block.Block.{Block}
use Rattle.utf8_fields.specs.Lines.{BeginsField, BeginsWhite}
use Rattle.utf8_fields.specs.Block.{AreFields, EndsBlock}
use Rattle.mime_tree.specs.declared.entity.Entity.{Entity}
use Rattle.mime_tree.specs.declared.entity.Shape.{Shape}
use Rattle.mime_tree.specs.declared.entity.Shape.TheVariants.{Multipart}
use Rattle.mime_tree.specs.declared.openings.Opening.{Opening}
use Rattle.mime_tree.specs.declared.openings.Opening.TheVariants.{Nothing, Message, Parts}
use Rattle.mime_tree.specs.Marks.{is_delimiter, is_close}
use Rattle.mime_tree.specs.Parts.{Part, parts_on, parts_of, size, cut_last}
use Rattle.mime_tree.specs.Tree.{HasHead, IsWithInner, EntityRelation, AreParts, IsDivided, IsOpened, IsEntity, depth_max}
use Rattle.mime_tree.proofs.PartLemmas.{parts_of-delimiter, parts_of-on, parts_on-close, parts_on-delimiter, parts_on-on}
use Rattle.mime_tree.proofs.EndedLines.{IsFilled, AreFilled}
use Rattle.mime_tree.proofs.EmptyEnds.{empty_no_delimiter, empty_no_close}
use Rattle.mime_tree.proofs.NextParts.{no_parts}

-- the lines of fields aren't empty
begins_filled : (name line : List ℕ) → BeginsField name line → IsFilled line
begins_filled name line begins none =
    let is : length line ≡ length name + length (begins.colon.0 ++ 58 ∷ begins.colon.1) = ap length begins.colon.3 ∙ length-append name (begins.colon.0 ++ 58 ∷ begins.colon.1) in
    let some = begins.some in
    let nothing : length line ≡ 0 = ap length none in omega arith

white_filled : (line : List ℕ) → BeginsWhite line → IsFilled line
white_filled [] white none = white
white_filled (x ∷ line) white none = cc none

further_filled : (more : List (List ℕ)) → All BeginsWhite more → AreFilled more
further_filled [] white = tt
further_filled (line ∷ more) white = (white_filled line (All-head BeginsWhite line more white), further_filled more (All-tail BeginsWhite line more white))

pub fields_filled : (lines : List (List ℕ)) (at : ℕ) (fields : List Field) (end : ℕ) → AreFields lines at fields end → AreFilled lines
fields_filled lines at [] end are = rw are.0 tt
fields_filled lines at (field ∷ fields) end are =
    rw are.3 (all-append IsFilled (are.0 ∷ are.1) are.2 (begins_filled (take field.name.len are.0) are.0 are.4.begins, further_filled are.1 are.4.further) (fields_filled are.2 (at + field.raw.len) fields end are.5))

-- The empty line is the last of those that follow the block's empty line.
record FollowsBlock (header rest front : List (List ℕ)) : Type 0 where
  pub content : List (List ℕ)
  pub rest_is : rest ≡ crlf ∷ (content ++ [] ∷ [])
  pub front_is : front ≡ header ++ crlf ∷ content

follows_block : (header rest front : List (List ℕ)) → AreFilled header → EndsBlock rest → front ++ [] ∷ [] ≡ header ++ rest → FollowsBlock header rest front
follows_block [] [] [] filled ends whole = absurd (cc whole)
follows_block [] (line ∷ rest) [] filled ends whole = absurd (clash line rest ends whole)
  where
    clash : (line : List ℕ) (rest : List (List ℕ)) → line ≡ crlf → [] ∷ [] ≡ line ∷ rest → ⊥
    clash [] rest ends whole = cc ends
    clash (x ∷ line) rest ends whole = cc whole
follows_block [] [] (first ∷ front) filled ends whole = absurd (cc whole)
follows_block [] (line ∷ rest) (first ∷ front) filled ends whole =
    let tails : front ++ [] ∷ [] ≡ rest = cc in
    let heads : first ≡ line = cc in
    record { content = front; rest_is = rw (ends, ← tails) refl; front_is = rw (heads, ends) refl }
follows_block (line ∷ header) rest [] filled ends whole =
    let none : [] ≡ line = cc in absurd (filled.0 (sym none))
follows_block (line ∷ header) rest (first ∷ front) filled ends whole =
    let tails : front ++ [] ∷ [] ≡ header ++ rest = cc in
    let heads : first ≡ line = cc in
    let more = follows_block header rest front filled.1 ends tails in
    record { content = more.content; rest_is = more.rest_is; front_is = rw heads (ap (λ lines. line ∷ lines) more.front_is) }

-- the head without the empty line
record HasShorterHead (at : ℕ) (front : List (List ℕ)) (block : Block) (body : ℕ) (content : List (List ℕ)) : Type 0 where
  pub shorter : List (List ℕ)
  pub content_is : content ≡ shorter ++ [] ∷ []
  pub head : HasHead at front block body shorter

shorter_head : (at : ℕ) (front : List (List ℕ)) (block : Block) (body : ℕ) (content : List (List ℕ)) → HasHead at (front ++ [] ∷ []) block body content → HasShorterHead at front block body content
shorter_head at front block body content head =
    let has = head.has_block in
    let follows = follows_block has.header has.rest front (fields_filled has.header at block.fields block.end has.fields_are) has.ends has.lines in
    record {
      shorter = follows.content;
      content_is = head.content_is ∙ ap (drop 1) follows.rest_is;
      head = record {
        has_block = record { header = has.header; rest = crlf ∷ follows.content; lines = follows.front_is; fields_are = has.fields_are; ends = refl };
        content_is = refl;
        body_is = head.body_is ∙ ap (λ rest. block.end + size (take 1 rest)) follows.rest_is;
      };
    }

size_empty : (front : List (List ℕ)) → size (front ++ [] ∷ []) ≡ size front
size_empty front = ap length (concat-append front ([] ∷ []) ∙ append-nil (concat front))

-- an entity without the empty line
record IsShorter (parent : Option ℕ) (depth at : ℕ) (front : List (List ℕ)) (entities : List Entity) (is : IsWithInner parent depth at (front ++ [] ∷ []) entities) : Type 0 where
  pub shorter : List (List ℕ)
  pub content_is : is.content ≡ shorter ++ [] ∷ []
  pub head : HasHead at front is.entity.block is.entity.body shorter

is_shorter : (parent : Option ℕ) (depth at : ℕ) (front : List (List ℕ)) (entities : List Entity) (is : IsWithInner parent depth at (front ++ [] ∷ []) entities) → IsShorter parent depth at front entities is
is_shorter parent depth at front entities is =
    let has = shorter_head at front is.entity.block is.entity.body is.content is.head in record { shorter = has.shorter; content_is = has.content_is; head = has.head }

abbrev shorter_inner : (parent : Option ℕ) (depth at : ℕ) (front : List (List ℕ)) (entities : List Entity) (is : IsWithInner parent depth at (front ++ [] ∷ []) entities) → IsShorter parent depth at front entities is
    → IsWithInner parent depth at front entities
shorter_inner parent depth at front entities is has =
    record {
      entity = is.entity;
      content = has.shorter;
      inner = is.inner;
      entities_are = is.entities_are;
      head = has.head;
      parent_is = is.parent_is;
      depth_is = is.depth_is;
      at_is = is.at_is;
      end_is = is.end_is ∙ ap (λ n. at + n) (size_empty front);
    }

-- the relation holds without the empty line, too
abbrev DropsEmpty : EntityRelation → Type 0
DropsEmpty IsOne = (parent : Option ℕ) (digest : Bool) (number at : ℕ) (front : List (List ℕ)) (entities : List Entity) → IsOne parent digest number at (front ++ [] ∷ []) entities
    → IsOne parent digest number at front entities

pub parts_on-end : (b : List ℕ) (at : ℕ) (passed : List (List ℕ)) → parts_on b at passed [] ≡ record { at = at; lines = passed } ∷ []
unfolding parts_on
parts_on-end b at passed = refl

on_by : (IsOne : EntityRelation) → DropsEmpty IsOne → (b : List ℕ) (parent : Option ℕ) (digest : Bool) (number at : ℕ) (passed : List (List ℕ)) (line : List ℕ) (rest : List (List ℕ)) (entities : List Entity) (close delimiter : Bool)
    → is_close b line ≡ close → is_delimiter b line ≡ delimiter
    → ((number at : ℕ) (passed : List (List ℕ)) (entities : List Entity) → AreParts IsOne parent digest number (parts_on b at passed (rest ++ [] ∷ [])) entities → AreParts IsOne parent digest number (parts_on b at passed rest) entities)
    → AreParts IsOne parent digest number (parts_on b at passed (line ∷ (rest ++ [] ∷ []))) entities → AreParts IsOne parent digest number (parts_on b at passed (line ∷ rest)) entities
on_by IsOne drops b parent digest number at passed line rest entities true delimiter close_is delimiter_is next are =
    rw (parts_on-close b at passed line rest close_is) (rw (parts_on-close b at passed line (rest ++ [] ∷ []) close_is) at are)
on_by IsOne drops b parent digest number at passed line rest entities false true close_is delimiter_is next are =
    let parts = rw (parts_on-delimiter b at passed line (rest ++ [] ∷ []) close_is delimiter_is) at are in
    rw (parts_on-delimiter b at passed line rest close_is delimiter_is) (parts.0, parts.1, parts.2, parts.3, next (number + length parts.0) (at + size passed + length line) [] parts.1 parts.4)
on_by IsOne drops b parent digest number at passed line rest entities false false close_is delimiter_is next are =
    rw (parts_on-on b at passed line rest close_is delimiter_is) (next number at (passed ++ line ∷ []) entities (rw (parts_on-on b at passed line (rest ++ [] ∷ []) close_is delimiter_is) at are))

parts_on-empty : (IsOne : EntityRelation) → DropsEmpty IsOne → (b : List ℕ) (parent : Option ℕ) (digest : Bool) (rest : List (List ℕ)) (number at : ℕ) (passed : List (List ℕ)) (entities : List Entity)
    → AreParts IsOne parent digest number (parts_on b at passed (rest ++ [] ∷ [])) entities → AreParts IsOne parent digest number (parts_on b at passed rest) entities
parts_on-empty IsOne drops b parent digest [] number at passed entities are =
    let one : parts_on b at passed ([] ∷ []) ≡ record { at = at; lines = passed ++ [] ∷ [] } ∷ [] =
    parts_on-on b at passed [] [] (empty_no_close b) (empty_no_delimiter b) ∙ parts_on-end b at (passed ++ [] ∷ []) in
    let part = rw one at are in
    rw (parts_on-end b at passed) (part.0, part.1, part.2, drops parent digest number at passed part.0 part.3, part.4)
parts_on-empty IsOne drops b parent digest (line ∷ rest) number at passed entities are =
    on_by IsOne drops b parent digest number at passed line rest entities (is_close b line) (is_delimiter b line) refl refl (parts_on-empty IsOne drops b parent digest rest) are

-- there is a part from a delimiter line on
pub parts_on-some : (b : List ℕ) (rest : List (List ℕ)) (at : ℕ) (passed : List (List ℕ)) → (lines : List (List ℕ)) × (others : List Part) × (parts_on b at passed rest ≡ record { at = at; lines = lines } ∷ others)
parts_on-some b [] at passed = (passed, [], parts_on-end b at passed)
parts_on-some b (line ∷ rest) at passed = go (is_close b line) (is_delimiter b line) refl refl (parts_on-some b rest at (passed ++ line ∷ []))
  where
    go : (close delimiter : Bool) → is_close b line ≡ close → is_delimiter b line ≡ delimiter
        → ((lines : List (List ℕ)) × (others : List Part) × (parts_on b at (passed ++ line ∷ []) rest ≡ record { at = at; lines = lines } ∷ others))
        → (lines : List (List ℕ)) × (others : List Part) × (parts_on b at passed (line ∷ rest) ≡ record { at = at; lines = lines } ∷ others)
    go true delimiter close_is delimiter_is more = (cut_last passed, [], parts_on-close b at passed line rest close_is)
    go false true close_is delimiter_is more = (cut_last passed, parts_on b (at + size passed + length line) [] rest, parts_on-delimiter b at passed line rest close_is delimiter_is)
    go false false close_is delimiter_is more = (more.0, more.1, parts_on-on b at passed line rest close_is delimiter_is ∙ more.2)

-- what is divided has these parts, and the other way round
pub divided_parts : (IsOne : EntityRelation) (b : List ℕ) (digest : Bool) (number at : ℕ) (rest : List (List ℕ)) (shape : Shape) (inner : List Entity) → IsDivided IsOne digest number (parts_on b at [] rest) shape inner
    → (shape ≡ Multipart) × AreParts IsOne (Some number) digest (number + 1) (parts_on b at [] rest) inner
divided_parts IsOne b digest number at rest shape inner is = let some = parts_on-some b rest at [] in rw some.2 (rw some.2 at is)

pub parts_divided : (IsOne : EntityRelation) (b : List ℕ) (digest : Bool) (number at : ℕ) (rest : List (List ℕ)) (shape : Shape) (inner : List Entity) → shape ≡ Multipart
    → AreParts IsOne (Some number) digest (number + 1) (parts_on b at [] rest) inner → IsDivided IsOne digest number (parts_on b at [] rest) shape inner
parts_divided IsOne b digest number at rest shape inner is are = let some = parts_on-some b rest at [] in rw some.2 (is, rw some.2 at are)

of_by : (IsOne : EntityRelation) → DropsEmpty IsOne → (b : List ℕ) (digest : Bool) (number at : ℕ) (line : List ℕ) (rest : List (List ℕ)) (shape : Shape) (inner : List Entity) (delimiter : Bool) → is_delimiter b line ≡ delimiter
    → ((at : ℕ) → IsDivided IsOne digest number (parts_of b at (rest ++ [] ∷ [])) shape inner → IsDivided IsOne digest number (parts_of b at rest) shape inner)
    → IsDivided IsOne digest number (parts_of b at (line ∷ (rest ++ [] ∷ []))) shape inner → IsDivided IsOne digest number (parts_of b at (line ∷ rest)) shape inner
of_by IsOne drops b digest number at line rest shape inner true delimiter_is next is =
    let parts = divided_parts IsOne b digest number (at + length line) (rest ++ [] ∷ []) shape inner (rw (parts_of-delimiter b at line (rest ++ [] ∷ []) delimiter_is) at is) in
    rw (parts_of-delimiter b at line rest delimiter_is)
    (parts_divided IsOne b digest number (at + length line) rest shape inner parts.0 (parts_on-empty IsOne drops b (Some number) digest rest (number + 1) (at + length line) [] inner parts.1))
of_by IsOne drops b digest number at line rest shape inner false delimiter_is next is =
    rw (parts_of-on b at line rest delimiter_is) (next (at + length line) (rw (parts_of-on b at line (rest ++ [] ∷ []) delimiter_is) at is))

parts_of-empty : (IsOne : EntityRelation) → DropsEmpty IsOne → (b : List ℕ) (digest : Bool) (number : ℕ) (shape : Shape) (inner : List Entity) (front : List (List ℕ)) (at : ℕ)
    → IsDivided IsOne digest number (parts_of b at (front ++ [] ∷ [])) shape inner → IsDivided IsOne digest number (parts_of b at front) shape inner
parts_of-empty IsOne drops b digest number shape inner [] at is =
    let none : parts_of b at ([] ∷ []) ≡ [] = parts_of-on b at [] [] (empty_no_delimiter b) ∙ no_parts b (at + 0) in
    rw (no_parts b at) (rw none at is)
parts_of-empty IsOne drops b digest number shape inner (line ∷ front) at is =
    of_by IsOne drops b digest number at line front shape inner (is_delimiter b line) refl (parts_of-empty IsOne drops b digest number shape inner front) is

opened_empty : (IsOne : EntityRelation) → DropsEmpty IsOne → (opening : Opening) (number body : ℕ) (front : List (List ℕ)) (shape : Shape) (inner : List Entity) → IsOpened IsOne opening number body (front ++ [] ∷ []) shape inner
    → IsOpened IsOne opening number body front shape inner
opened_empty IsOne drops Nothing number body front shape inner is = is
opened_empty IsOne drops Message number body front shape inner is = (is.0, drops (Some number) false (number + 1) body front inner is.1)
opened_empty IsOne drops (Parts boundary digest) number body front shape inner is = parts_of-empty IsOne drops boundary digest number shape inner front body is

-- an entity without an empty line at its end
pub drop_empty : (levels : ℕ) (octets : List ℕ) → DropsEmpty (IsEntity levels octets)
unfolding IsEntity
drop_empty zero octets = λ parent digest number at front entities is.
    let has = is_shorter parent (depth_max + 1) at front entities is.0 in (shorter_inner parent (depth_max + 1) at front entities is.0 has, is.1, is.2)
drop_empty (suc levels) octets = λ parent digest number at front entities is.
    let has = is_shorter parent (depth_max - levels) at front entities is.0 in
    let opened = rw has.content_is at is.3 in (
      shorter_inner parent (depth_max - levels) at front entities is.0 has,
      is.1,
      is.2,
      opened_empty (IsEntity levels octets) (drop_empty levels octets) is.1 number is.0.entity.body has.shorter is.0.entity.shape is.0.inner opened,
    )
