-- Entities stand in order, so what is written anew can be cut between them.
use Rattle.std.proofs.Common.{◌≡◌, ℕ, suc, zero, ◌+◌, ◌-◌, ◌≤◌, List, [], ◌∷◌, ◌++◌, Bool, true, false, length, take, drop, Option, Some, refl, sym, ap, ◌∙◌, arith, append_assoc, take-add, drop-drop}
use Rattle.std.specs.Prelude.{slice_range}
use Rattle.std.specs.List.{concat}
use Rattle.mail_wire.specs.Lines.{is_crlf}
use Rattle.mime_tree.specs.declared.entity.Entity.{Entity}
use Rattle.mime_tree.specs.declared.entity.Shape.{Shape}
use Rattle.mime_tree.specs.declared.openings.Opening.{Opening}
use Rattle.mime_tree.specs.declared.openings.Opening.TheVariants.{Nothing, Message, Parts}
use Rattle.mime_tree.specs.Marks.{text_of, is_delimiter, is_close}
use Rattle.mime_tree.specs.Parts.{Part, cut_last, parts_on, parts_of, size}
use Rattle.mime_tree.specs.Tree.{IsWithInner, EntityRelation, AreParts, IsDivided, IsOpened, IsEntity}
use Rattle.mime_tree.specs.Rewriting.{FieldRelation, RewritesBlocks}
use Rattle.mime_tree.proofs.Regions.{size-shortened, size-cons, size-append}
use Rattle.mime_tree.proofs.Heads.{fields_size}
use Rattle.mime_tree.proofs.PartLemmas.{parts_of-delimiter, parts_of-on, parts_on-close, parts_on-delimiter, parts_on-on}
use Rattle.mime_tree.proofs.Standing.{AreInOrder}

-- two slices that meet are one
pub slices_join : (octets : List ℕ) (from middle to : ℕ) → from ≤ middle → middle ≤ to → slice_range octets from to ≡ slice_range octets from middle ++ slice_range octets middle to
slices_join octets from middle to low high =
    let sum : to - from ≡ (middle - from) + (to - middle) = omega arith in
    let whole : from + (middle - from) ≡ middle = omega arith in
    ap (λ n. take n (drop from octets)) sum ∙ take-add (middle - from) (to - middle) (drop from octets)
    ∙ ap (λ back. slice_range octets from middle ++ take (to - middle) back) (drop-drop (middle - from) from octets ∙ ap (λ n. drop n octets) whole)

-- what is in order is so between wider places
pub in_order_wider : (from low high to : ℕ) (entities : List Entity) → from ≤ low → high ≤ to → AreInOrder low high entities → AreInOrder from to entities
in_order_wider from low high to [] less more order = omega arith
in_order_wider from low high to (entity ∷ entities) less more order =
    let at = order.0 in (omega arith, order.1, in_order_wider entity.block.end entity.block.end high to entities (omega arith) more order.2)

pub in_order-append : (from middle to : ℕ) (entities more : List Entity) → AreInOrder from middle entities → AreInOrder middle to more → AreInOrder from to (entities ++ more)
in_order-append from middle to [] more first rest = in_order_wider from middle to to more first (omega arith) rest
in_order-append from middle to (entity ∷ entities) more first rest = (first.0, first.1, in_order-append entity.block.end middle to entities more first.2 rest)

-- the text of a line is no longer than it
text_by : (x y : ℕ) (rest : List ℕ) (b : Bool) → is_crlf x y ≡ b → length (text_of (y ∷ rest)) ≤ length (y ∷ rest) → length (text_of (x ∷ y ∷ rest)) ≤ length (x ∷ y ∷ rest)
unfolding text_of
text_by x y rest true h less = rw h (omega arith)
text_by x y rest false h less = rw h (omega arith)

text_shorter : (line : List ℕ) → length (text_of line) ≤ length line
unfolding text_of
text_shorter [] = omega arith
text_shorter (x ∷ []) = omega arith
text_shorter (x ∷ y ∷ rest) = text_by x y rest (is_crlf x y) refl (text_shorter (y ∷ rest))

cut_shorter : (lines : List (List ℕ)) → size (cut_last lines) ≤ size lines
unfolding cut_last
cut_shorter [] = omega arith
cut_shorter (line ∷ []) = let shorter = text_shorter line in let cut = size-shortened (text_of line) in let one = size-cons line [] in omega arith
cut_shorter (line ∷ next ∷ rest) =
    let later = cut_shorter (next ∷ rest) in
    let here = size-cons line (cut_last (next ∷ rest)) in
    let all = size-cons line (next ∷ rest) in
    omega arith

-- the parts stand in order between these places
pub ArePlaced : ℕ → ℕ → List Part → Type 0
ArePlaced from to [] = from ≤ to
ArePlaced from to (part ∷ parts) = (from ≤ part.at) × ArePlaced (part.at + size part.lines) to parts

pub placed_wider : (from low to : ℕ) (parts : List Part) → from ≤ low → ArePlaced low to parts → ArePlaced from to parts
unfolding ArePlaced
placed_wider from low to [] less placed = omega arith
placed_wider from low to (part ∷ parts) less placed = let at = placed.0 in (omega arith, placed.1)

placed_on_by : (b : List ℕ) (at : ℕ) (passed : List (List ℕ)) (line : List ℕ) (rest : List (List ℕ)) (close delimiter : Bool) → is_close b line ≡ close → is_delimiter b line ≡ delimiter
    → ArePlaced (at + size passed + length line) (at + size passed + length line + size rest) (parts_on b (at + size passed + length line) [] rest)
    → ArePlaced at (at + size (passed ++ line ∷ []) + size rest) (parts_on b at (passed ++ line ∷ []) rest)
    → ArePlaced at (at + size passed + size (line ∷ rest)) (parts_on b at passed (line ∷ rest))
unfolding ArePlaced
placed_on_by b at passed line rest true delimiter h i next on =
    let shorter = cut_shorter passed in rw (parts_on-close b at passed line rest h) (omega arith, omega arith)
placed_on_by b at passed line rest false true h i next on =
    let shorter = cut_shorter passed in
    let all : at + size passed + length line + size rest ≡ at + size passed + size (line ∷ rest) = let one = size-cons line rest in omega arith in
    let later = rw all at next in
    rw (parts_on-delimiter b at passed line rest h i) (omega arith, placed_wider (at + size (cut_last passed)) (at + size passed + length line) (at + size passed + size (line ∷ rest)) _ (omega arith) later)
placed_on_by b at passed line rest false false h i next on =
    let all : at + size (passed ++ line ∷ []) + size rest ≡ at + size passed + size (line ∷ rest) =
    let one = size-cons line rest in let alone = size-cons line [] in let both = size-append passed (line ∷ []) in omega arith in
    rw (parts_on-on b at passed line rest h i) (rw all at on)

placed_on : (b : List ℕ) (at : ℕ) (passed lines : List (List ℕ)) → ArePlaced at (at + size passed + size lines) (parts_on b at passed lines)
unfolding ArePlaced parts_on
placed_on b at passed [] = (omega arith, omega arith)
placed_on b at passed (line ∷ rest) =
    let next : ArePlaced (at + size passed + length line) (at + size passed + length line + size rest) (parts_on b (at + size passed + length line) [] rest) =
    let same : at + size passed + length line + 0 + size rest ≡ at + size passed + length line + size rest = omega arith in
    rw same at (placed_on b (at + size passed + length line) [] rest) in
    placed_on_by b at passed line rest (is_close b line) (is_delimiter b line) refl refl next (placed_on b at (passed ++ line ∷ []) rest)

placed_of_by : (b : List ℕ) (at : ℕ) (line : List ℕ) (rest : List (List ℕ)) (delimiter : Bool) → is_delimiter b line ≡ delimiter
    → ArePlaced (at + length line) (at + length line + size rest) (parts_of b (at + length line) rest) → ArePlaced at (at + size (line ∷ rest)) (parts_of b at (line ∷ rest))
placed_of_by b at line rest true h next =
    let all : at + length line + 0 + size rest ≡ at + size (line ∷ rest) = let one = size-cons line rest in omega arith in
    let later = rw all at (placed_on b (at + length line) [] rest) in
    rw (parts_of-delimiter b at line rest h) (placed_wider at (at + length line) (at + size (line ∷ rest)) _ (omega arith) later)
placed_of_by b at line rest false h next =
    let all : at + length line + size rest ≡ at + size (line ∷ rest) = let one = size-cons line rest in omega arith in
    let later = rw all at next in
    rw (parts_of-on b at line rest h) (placed_wider at (at + length line) (at + size (line ∷ rest)) _ (omega arith) later)

-- the parts of a content stand in order in it
pub placed_of : (b : List ℕ) (at : ℕ) (lines : List (List ℕ)) → ArePlaced at (at + size lines) (parts_of b at lines)
unfolding ArePlaced parts_of
placed_of b at [] = omega arith
placed_of b at (line ∷ rest) = placed_of_by b at line rest (is_delimiter b line) refl (placed_of b (at + length line) rest)

-- the entities stand in order between the place of the lines and their end
unfoldable pub PutsInOrder : EntityRelation → Type 0
PutsInOrder IsOne = (parent : Option ℕ) (digest : Bool) (number at : ℕ) (lines : List (List ℕ)) (entities : List Entity) → IsOne parent digest number at lines entities → AreInOrder at (at + size lines) entities

parts_in_order : (IsOne : EntityRelation) → PutsInOrder IsOne → (parent : Option ℕ) (digest : Bool) (number from to : ℕ) (parts : List Part) (entities : List Entity) → ArePlaced from to parts
    → AreParts IsOne parent digest number parts entities → AreInOrder from to entities
unfolding PutsInOrder ArePlaced
parts_in_order IsOne puts parent digest number from to [] entities placed are = rw are placed
parts_in_order IsOne puts parent digest number from to (part ∷ parts) entities placed are =
    let first = puts parent digest number part.at part.lines are.0 are.3 in
    let rest = parts_in_order IsOne puts parent digest (number + length are.0) (part.at + size part.lines) to parts are.1 placed.1 are.4 in
    let here = in_order_wider from part.at (part.at + size part.lines) (part.at + size part.lines) are.0 placed.0 (omega arith) first in
    rw are.2 (in_order-append from (part.at + size part.lines) to are.0 are.1 here rest)

opened_by : (IsOne : EntityRelation) → PutsInOrder IsOne → (opening : Opening) (number at : ℕ) (content : List (List ℕ)) (shape : Shape) (inner : List Entity) → IsOpened IsOne opening number at content shape inner
    → AreInOrder at (at + size content) inner
unfolding PutsInOrder
opened_by IsOne puts Nothing number at content shape inner is = rw is.1 (omega arith)
opened_by IsOne puts Message number at content shape inner is = puts (Some number) false (number + 1) at content inner is.1
opened_by IsOne puts (Parts boundary digest) number at content shape inner is = go (parts_of boundary at content) (placed_of boundary at content) is
  where
    go : (parts : List Part) → ArePlaced at (at + size content) parts → IsDivided IsOne digest number parts shape inner → AreInOrder at (at + size content) inner
    go [] placed is = rw is.1 (omega arith)
    go (part ∷ parts) placed is = parts_in_order IsOne puts (Some number) digest (number + 1) at (at + size content) (part ∷ parts) inner placed is.1

-- where the content is
pub record HasPlaces (at end body : ℕ) (lines content : List (List ℕ)) : Type 0 where
  pub order : at ≤ end
  pub content_after : end ≤ body
  pub whole : body + size content ≡ at + size lines

pub head_places : (parent : Option ℕ) (depth at : ℕ) (lines : List (List ℕ)) (entities : List Entity) (is : IsWithInner parent depth at lines entities)
    → HasPlaces at is.entity.block.end is.entity.body lines is.content
head_places parent depth at lines entities is =
    let head = is.head in
    let block = head.has_block in
    let end = fields_size block.header at is.entity.block.fields is.entity.block.end block.fields_are in
    let all = ap size block.lines ∙ size-append block.header block.rest in
    let rest = cut block.rest in
    let content = ap size head.content_is in
    let body = head.body_is in
    record { order = omega arith; content_after = omega arith; whole = omega arith }
  where
    cut : (rest : List (List ℕ)) → size rest ≡ size (take 1 rest) + size (drop 1 rest)
    cut [] = refl
    cut (line ∷ rest) = let one = size-cons line [] in let all = size-cons line rest in omega arith

with_in_order : (parent : Option ℕ) (depth at : ℕ) (lines : List (List ℕ)) (entities : List Entity) (is : IsWithInner parent depth at lines entities)
    → AreInOrder is.entity.body (is.entity.body + size is.content) is.inner → AreInOrder at (at + size lines) entities
with_in_order parent depth at lines entities is inner =
    let places = head_places parent depth at lines entities is in
    let order = places.order in
    let after = places.content_after in
    let whole = places.whole in
    let at_is = is.at_is in
    rw is.entities_are (omega arith, omega arith, in_order_wider is.entity.block.end is.entity.body (is.entity.body + size is.content) (at + size lines) is.inner after (omega arith) inner)

puts_in_order : (levels : ℕ) (octets : List ℕ) → PutsInOrder (IsEntity levels octets)
unfolding PutsInOrder IsEntity
puts_in_order zero octets = λ parent digest number at lines entities is. with_in_order parent _ at lines entities is.0 (rw is.2 (omega arith))
puts_in_order (suc levels) octets = λ parent digest number at lines entities is.
    with_in_order parent _ at lines entities is.0
    (opened_by (IsEntity levels octets) (puts_in_order levels octets) is.1 number is.0.entity.body is.0.content is.0.entity.shape is.0.inner is.3)

-- what is in an entity stands in order
pub opened_in_order : (levels : ℕ) (octets : List ℕ) (opening : Opening) (number at : ℕ) (content : List (List ℕ)) (shape : Shape) (inner : List Entity)
    → IsOpened (IsEntity levels octets) opening number at content shape inner → AreInOrder at (at + size content) inner
opened_in_order levels octets = opened_by (IsEntity levels octets) (puts_in_order levels octets)

-- entities stand in order
pub in_order : (levels : ℕ) (octets : List ℕ) (parent : Option ℕ) (digest : Bool) (number at : ℕ) (lines : List (List ℕ)) (entities : List Entity) → IsEntity levels octets parent digest number at lines entities
    → AreInOrder at (at + size lines) entities
unfolding PutsInOrder
in_order levels octets = puts_in_order levels octets

-- what stands before a place and what stands after it
pub split_blocks : (IsMade : FieldRelation) (octets : List ℕ) (from middle to : ℕ) (entities more : List Entity) (made : List ℕ) → AreInOrder from middle entities → AreInOrder middle to more
    → RewritesBlocks IsMade octets from to (entities ++ more) made
    → (first : List ℕ) × (rest : List ℕ) × (made ≡ first ++ rest) × RewritesBlocks IsMade octets from middle entities first × RewritesBlocks IsMade octets middle to more rest
split_blocks IsMade octets from middle to [] [] made low high is = (slice_range octets from middle, slice_range octets middle to, is ∙ slices_join octets from middle to low high, refl, refl)
split_blocks IsMade octets from middle to [] (entity ∷ more) made low high is =
    let first = slice_range octets from middle in
    let back = slice_range octets middle entity.at in
    let whole : made ≡ first ++ (back ++ (concat is.0 ++ is.1)) =
    is.3 ∙ ap (λ text. text ++ (concat is.0 ++ is.1)) (slices_join octets from middle entity.at low high.0) ∙ append_assoc first back (concat is.0 ++ is.1) in
    (first, back ++ (concat is.0 ++ is.1), whole, refl, (is.0, is.1, is.2, refl, is.4))
split_blocks IsMade octets from middle to (entity ∷ entities) more made low high is =
    let later = split_blocks IsMade octets entity.block.end middle to entities more is.1 low.2 high is.4 in
    let front = slice_range octets from entity.at in
    let whole : made ≡ (front ++ (concat is.0 ++ later.0)) ++ later.1 =
    is.3 ∙ ap (λ text. front ++ (concat is.0 ++ text)) later.2 ∙ ap (λ text. front ++ text) (sym (append_assoc (concat is.0) later.0 later.1)) ∙ sym (append_assoc front (concat is.0 ++ later.0) later.1) in
    (front ++ (concat is.0 ++ later.0), later.1, whole, (is.0, later.0, is.2, refl, later.3), later.4)
