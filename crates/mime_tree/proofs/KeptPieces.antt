-- The parts of a content, written anew one after another.
use Rattle.std.proofs.Common.{◌≡◌, ℕ, ◌+◌, ◌≤◌, List, [], ◌∷◌, ◌++◌, length, Bool, true, false, arith, refl, sym, ap, ◌∙◌, Option, Some, append-nil, append_assoc, length-append}
use Rattle.std.specs.Prelude.{slice_range}
use Rattle.std.specs.List.{concat}
use Rattle.mail_wire.proofs.AllLemmas.{all-append}
use Rattle.utf8_fields.proofs.LineShapes.{AreLines, AreLines-back}
use Rattle.mime_tree.specs.declared.entity.Entity.{Entity}
use Rattle.mime_tree.specs.declared.entity.Shape.{Shape}
use Rattle.mime_tree.specs.Marks.{is_delimiter, is_close}
use Rattle.mime_tree.specs.Parts.{Part, parts_on, parts_of, size, cut_last}
use Rattle.mime_tree.specs.Tree.{EntityRelation, AreParts, IsDivided, IsEntity}
use Rattle.mime_tree.specs.Rewriting.{FieldRelation, RewritesBlocks}
use Rattle.mime_tree.proofs.Regions.{size-cons, size-append}
use Rattle.mime_tree.proofs.PartLemmas.{parts_of-delimiter, parts_of-on, parts_on-close, parts_on-delimiter, parts_on-on}
use Rattle.mime_tree.proofs.Standing.{Stands, IsUnmarked, AreUnmarked, AreInOrder, AreKept, Keeps}
use Rattle.mime_tree.proofs.InOrder.{slices_join, in_order}
use Rattle.mime_tree.proofs.EndedLines.{gap_of}
use Rattle.mime_tree.proofs.EmptyLast.{parts_on-end, divided_parts, parts_divided}
use Rattle.mime_tree.proofs.InPlace.{stands_front, stands_back, stands_slice, slice_none, order_from, is_copied, same_further, same_length, parts_begin, parts_order}
use Rattle.mime_tree.proofs.FullParts.{part_kept, HasFirst, first_kept, HasTidyLines, joined, line_on}
use Rattle.mime_tree.proofs.LinesAgain.{AreEnded-front}
use Rattle.mime_tree.proofs.NextParts.{no_parts}

-- lines that are no marks are passed over
parts_on-passed : (b : List ℕ) (at : ℕ) (lines passed rest : List (List ℕ)) → AreUnmarked b lines → parts_on b at passed (lines ++ rest) ≡ parts_on b at (passed ++ lines) rest
parts_on-passed b at [] passed rest unmarked = ap (λ lines. parts_on b at lines rest) (sym (append-nil passed))
parts_on-passed b at (line ∷ lines) passed rest unmarked =
    parts_on-on b at passed line (lines ++ rest) unmarked.0.close unmarked.0.delimiter ∙ parts_on-passed b at lines (passed ++ line ∷ []) rest unmarked.1
    ∙ ap (λ lines. parts_on b at lines rest) (append_assoc passed (line ∷ []) lines)

-- a part ends before a mark
full_close : (b : List ℕ) (at : ℕ) (full : List (List ℕ)) (line : List ℕ) (rest : List (List ℕ)) → AreUnmarked b full → is_close b line ≡ true
    → parts_on b at [] (full ++ line ∷ rest) ≡ record { at = at; lines = cut_last full } ∷ []
full_close b at full line rest unmarked close = parts_on-passed b at full [] (line ∷ rest) unmarked ∙ parts_on-close b at full line rest close

full_delimiter : (b : List ℕ) (at : ℕ) (full : List (List ℕ)) (line : List ℕ) (rest : List (List ℕ)) → AreUnmarked b full → is_close b line ≡ false → is_delimiter b line ≡ true
    → parts_on b at [] (full ++ line ∷ rest) ≡ record { at = at; lines = cut_last full } ∷ parts_on b (at + size full + length line) [] rest
full_delimiter b at full line rest unmarked close delimiter = parts_on-passed b at full [] (line ∷ rest) unmarked ∙ parts_on-delimiter b at full line rest close delimiter

-- from any part on, the content is kept
abbrev PartsAreKept : FieldRelation → ℕ → List ℕ → List ℕ → List ℕ → Option ℕ → Bool → List (List ℕ) → Type 0
PartsAreKept IsMade levels octets new b parent digest rest =
    (number at : ℕ) (passed : List (List ℕ)) (entities : List Entity) (made : List ℕ) (new_at : ℕ) → AreParts (IsEntity levels octets) parent digest number (parts_on b at passed rest) entities → AreLines (passed ++ rest)
    → AreUnmarked b passed → Stands octets at (concat (passed ++ rest)) → RewritesBlocks IsMade octets at (at + size (passed ++ rest)) entities made → Stands new new_at made
    → HasTidyLines IsMade octets at (passed ++ rest) entities new new_at made (λ new_lines others. AreParts (IsEntity levels new) parent digest number (parts_on b new_at [] new_lines) others)

-- the same place by another name
rewrites_to : (IsMade : FieldRelation) (octets : List ℕ) (from to other : ℕ) (entities : List Entity) (made : List ℕ) → other ≡ to → RewritesBlocks IsMade octets from to entities made
    → RewritesBlocks IsMade octets from other entities made
rewrites_to IsMade octets from to other entities made same rewritten = rw same rewritten

-- a part that reaches to the content's end
end_kept : (IsMade : FieldRelation) (levels : ℕ) (octets new : List ℕ) → Keeps IsMade octets new (IsEntity levels octets) (IsEntity levels new) → (b : List ℕ) (parent : Option ℕ) (digest : Bool) (number at : ℕ) (passed : List (List ℕ))
    (entities : List Entity) (made : List ℕ) (new_at : ℕ) → IsEntity levels octets parent digest number at passed entities → AreLines passed → AreUnmarked b passed → Stands octets at (concat passed)
    → RewritesBlocks IsMade octets at (at + size passed) entities made → Stands new new_at made
    → HasTidyLines IsMade octets at passed entities new new_at made (λ new_lines others. AreParts (IsEntity levels new) parent digest number (parts_on b new_at [] new_lines) others)
end_kept IsMade levels octets new keeps b parent digest number at passed entities made new_at is are unmarked stands rewritten new_stands =
    let part = part_kept IsMade levels octets new keeps parent digest number at passed entities made new_at is are stands rewritten new_stands in
    record {
      has = record {
        new_lines = part.has.new_lines;
        others = part.has.others;
        whole = part.has.whole;
        are = part.has.are;
        sound = part.has.sound;
        unmarked = part.has.unmarked;
        holds = rw (one part.has.new_lines (part.has.unmarked b unmarked)) (part.has.others, [], sym (append-nil part.has.others), part.has.holds, refl);
        same = part.has.same;
      };
      none = part.none;
    }
  where
    one : (lines : List (List ℕ)) → AreUnmarked b lines → parts_on b new_at [] lines ≡ record { at = new_at; lines = lines } ∷ []
    one lines unmarked = ap (parts_on b new_at []) (sym (append-nil lines)) ∙ parts_on-passed b new_at lines [] [] unmarked ∙ parts_on-end b new_at lines

-- what follows the close line is copied
tail_copied : (IsMade : FieldRelation) (octets : List ℕ) (next to : ℕ) (rest : List (List ℕ)) (new : List ℕ) (new_next : ℕ) (following : List ℕ) → AreLines rest → Stands octets next (concat rest) → next + size rest ≡ to
    → RewritesBlocks IsMade octets next to [] following → HasTidyLines IsMade octets next rest [] new new_next following (λ new_lines others. (new_lines ≡ rest) × (others ≡ []))
tail_copied IsMade octets next to rest new new_next following are stands sum rewritten =
    record {
      has = record {
        new_lines = rest;
        others = [];
        whole = sym (rewritten ∙ stands_slice octets next to (concat rest) sum stands);
        are = are;
        sound = λ sound. sound;
        unmarked = λ boundary unmarked. unmarked;
        holds = (refl, refl);
        same = tt;
      };
      none = λ none. none;
    }

-- The last entity of a part reaches to the next part, or to the end.
reaches : (IsMade : FieldRelation) (levels : ℕ) (octets new : List ℕ) (parent : Option ℕ) (digest : Bool) (number at : ℕ) (passed : List (List ℕ)) (line : List ℕ) (rest : List (List ℕ)) (first more : List Entity) (made : List ℕ)
    (new_at : ℕ) → IsEntity levels octets parent digest number at (cut_last passed) first → (has : HasFirst IsMade levels octets parent digest number at passed line rest first more new new_at made) → (far new_far : ℕ)
    → at + size passed + length line ≤ far → new_at + size has.full.full + length line ≤ new_far
    → slice_range new (new_at + size has.full.full + length line) new_far ≡ slice_range octets (at + size passed + length line) far → AreKept IsMade octets far first new new_far has.full.others
reaches IsMade levels octets new parent digest number at passed line rest first more made new_at is has far new_far less new_less text =
    let sum = has.sum in
    let new_sum = has.new_sum in
    let here = stands_slice octets (at + size (cut_last passed)) (at + size passed + length line) (gap_of passed ++ line) sum has.text in
    let new_here = stands_slice new (new_at + length has.first_made) (new_at + size has.full.full + length line) (gap_of passed ++ line) new_sum has.new_text in
    let join = slices_join octets (at + size (cut_last passed)) (at + size passed + length line) far (omega arith) less in
    let new_join = slices_join new (new_at + length has.first_made) (new_at + size has.full.full + length line) new_far (omega arith) new_less in
    let new_order = rw (ap length has.full.cut) at (in_order levels new parent digest number new_at (cut_last has.full.full) has.full.others has.full.is) in
    same_further IsMade octets at (at + size (cut_last passed)) far first new new_at (new_at + length has.first_made) new_far has.full.others
    (new_join ∙ rw (new_here, text) (sym (join ∙ rw here refl))) (omega arith) (omega arith) (in_order levels octets parent digest number at (cut_last passed) first is) new_order has.full.same

-- a part before the close line
close_kept : (IsMade : FieldRelation) (levels : ℕ) (octets new : List ℕ) → Keeps IsMade octets new (IsEntity levels octets) (IsEntity levels new) → (b : List ℕ) (parent : Option ℕ) (digest : Bool) (number at : ℕ)
    (passed : List (List ℕ)) (line : List ℕ) (rest : List (List ℕ)) (first : List Entity) (made : List ℕ) (new_at : ℕ) → is_close b line ≡ true → IsEntity levels octets parent digest number at (cut_last passed) first
    → AreLines (passed ++ line ∷ rest) → AreUnmarked b passed → Stands octets at (concat (passed ++ line ∷ rest)) → RewritesBlocks IsMade octets at (at + size (passed ++ line ∷ rest)) (first ++ []) made → Stands new new_at made
    → HasTidyLines IsMade octets at (passed ++ line ∷ rest) (first ++ []) new new_at made (λ new_lines others. AreParts (IsEntity levels new) parent digest number (parts_on b new_at [] new_lines) others)
close_kept IsMade levels octets new keeps b parent digest number at passed line rest first made new_at close is are unmarked stands rewritten new_stands =
    let line_size = size-cons line rest in
    let all_size = size-append passed (line ∷ rest) in
    let to_is : at + size passed + length line + size rest ≡ at + size (passed ++ line ∷ rest) = omega arith in
    let has = first_kept IsMade levels octets new keeps parent digest number at passed line rest first [] made new_at (AreEnded-front passed line rest are) is (omega arith) stands rewritten new_stands in
    let tail = tail_copied IsMade octets (at + size passed + length line) (at + size (passed ++ line ∷ rest)) rest new (new_at + size has.full.full + length line) has.following (AreLines-back passed (line ∷ rest) are).1
    has.text_following to_is has.rewritten in
    let made_sum = has.made_sum in
    let text = stands_slice new (new_at + size has.full.full + length line) (new_at + length made) has.following made_sum has.new_after ∙ has.rewritten in
    let parts : parts_on b new_at [] (has.full.full ++ line ∷ rest) ≡ record { at = new_at; lines = cut_last has.full.full } ∷ [] =
    full_close b new_at has.full.full line rest (has.full.unmarked b unmarked) close in
    joined IsMade levels octets new parent digest number at passed line rest first [] made new_at (λ new_lines others. (new_lines ≡ rest) × (others ≡ []))
    (λ new_lines others. AreParts (IsEntity levels new) parent digest number (parts_on b new_at [] new_lines) others) are has tail
    (rw (tail.has.holds.0, tail.has.holds.1, parts) (has.full.others, [], refl, has.full.is, refl))
    (rw tail.has.holds.1 (reaches IsMade levels octets new parent digest number at passed line rest first [] made new_at is has (at + size (passed ++ line ∷ rest)) (new_at + length made) (omega arith) (omega arith) text))

-- one part more
more_parts : (IsOne : EntityRelation) (parent : Option ℕ) (digest : Bool) (number count at : ℕ) (lines : List (List ℕ)) (others : List Part) (first more : List Entity) → count ≡ length first
    → IsOne parent digest number at lines first → AreParts IsOne parent digest (number + count) others more → AreParts IsOne parent digest number (record { at = at; lines = lines } ∷ others) (first ++ more)
more_parts IsOne parent digest number count at lines others first more same is are = (first, more, refl, is, rw (← same) are)

-- a part before a delimiter line
delimiter_kept : (IsMade : FieldRelation) (levels : ℕ) (octets new : List ℕ) → Keeps IsMade octets new (IsEntity levels octets) (IsEntity levels new) → (b : List ℕ) (parent : Option ℕ) (digest : Bool) (number at : ℕ)
    (passed : List (List ℕ)) (line : List ℕ) (rest : List (List ℕ)) (first more : List Entity) (made : List ℕ) (new_at : ℕ) → is_close b line ≡ false → is_delimiter b line ≡ true
    → PartsAreKept IsMade levels octets new b parent digest rest → IsEntity levels octets parent digest number at (cut_last passed) first
    → AreParts (IsEntity levels octets) parent digest (number + length first) (parts_on b (at + size passed + length line) [] rest) more → AreLines (passed ++ line ∷ rest) → AreUnmarked b passed
    → Stands octets at (concat (passed ++ line ∷ rest)) → RewritesBlocks IsMade octets at (at + size (passed ++ line ∷ rest)) (first ++ more) made → Stands new new_at made
    → HasTidyLines IsMade octets at (passed ++ line ∷ rest) (first ++ more) new new_at made (λ new_lines others. AreParts (IsEntity levels new) parent digest number (parts_on b new_at [] new_lines) others)
delimiter_kept IsMade levels octets new keeps b parent digest number at passed line rest first more made new_at close delimiter next is are_more are unmarked stands rewritten new_stands =
    let line_size = size-cons line rest in
    let all_size = size-append passed (line ∷ rest) in
    let to_is : at + size passed + length line + size rest ≡ at + size (passed ++ line ∷ rest) = omega arith in
    let lines = (AreLines-back passed (line ∷ rest) are).1 in
    let order = parts_order levels octets b parent digest (at + size (passed ++ line ∷ rest)) rest (number + length first) (at + size passed + length line) [] more lines (omega arith) are_more in
    let has = first_kept IsMade levels octets new keeps parent digest number at passed line rest first more made new_at (AreEnded-front passed line rest are) is order stands rewritten new_stands in
    let renamed = rewrites_to IsMade octets (at + size passed + length line) (at + size (passed ++ line ∷ rest)) (at + size passed + length line + size rest) more has.following to_is has.rewritten in
    let tail = next (number + length first) (at + size passed + length line) [] more has.following (new_at + size has.full.full + length line) are_more lines tt has.text_following renamed has.new_after in
    let parts : parts_on b new_at [] (has.full.full ++ line ∷ tail.has.new_lines) ≡ record { at = new_at; lines = cut_last has.full.full } ∷ parts_on b (new_at + size has.full.full + length line) [] tail.has.new_lines =
    full_delimiter b new_at has.full.full line tail.has.new_lines (has.full.unmarked b unmarked) close delimiter in
    let count = same_length IsMade octets (at + size (cut_last passed)) first new (new_at + length has.first_made) has.full.others has.full.same in
    joined IsMade levels octets new parent digest number at passed line rest first more made new_at
    (λ new_lines others. AreParts (IsEntity levels new) parent digest (number + length first) (parts_on b (new_at + size has.full.full + length line) [] new_lines) others)
    (λ new_lines others. AreParts (IsEntity levels new) parent digest number (parts_on b new_at [] new_lines) others) are has tail
    (rw parts
    (more_parts (IsEntity levels new) parent digest number (length first) new_at (cut_last has.full.full) (parts_on b (new_at + size has.full.full + length line) [] tail.has.new_lines) has.full.others tail.has.others count has.full.is tail.has.holds))
    (rw (
      parts_begin levels octets b parent digest rest (number + length first) (at + size passed + length line) [] more (at + size (passed ++ line ∷ rest)) are_more,
      parts_begin levels new b parent digest tail.has.new_lines (number + length first) (new_at + size has.full.full + length line) [] tail.has.others (new_at + length made) tail.has.holds,
    )
    (reaches IsMade levels octets new parent digest number at passed line rest first more made new_at is has (at + size passed + length line) (new_at + size has.full.full + length line) (omega arith) (omega arith) (none
    (at + size passed + length line) (new_at + size has.full.full + length line))))
  where
    none : (place new_place : ℕ) → slice_range new new_place new_place ≡ slice_range octets place place
    none place new_place = slice_none new new_place new_place (omega arith) ∙ sym (slice_none octets place place (omega arith))

step_by : (IsMade : FieldRelation) (levels : ℕ) (octets new : List ℕ) → Keeps IsMade octets new (IsEntity levels octets) (IsEntity levels new) → (b : List ℕ) (parent : Option ℕ) (digest : Bool) (line : List ℕ) (rest : List (List ℕ))
    (close delimiter : Bool) → is_close b line ≡ close → is_delimiter b line ≡ delimiter → PartsAreKept IsMade levels octets new b parent digest rest → PartsAreKept IsMade levels octets new b parent digest (line ∷ rest)
step_by IsMade levels octets new keeps b parent digest line rest true delimiter close_is delimiter_is next = λ number at passed entities made new_at parts are unmarked stands rewritten new_stands.
    let is = rw (parts_on-close b at passed line rest close_is) at parts in
    let whole : entities ≡ is.0 ++ [] = is.2 ∙ ap (λ more. is.0 ++ more) is.4 in
    let all = rw whole at rewritten in
    rw whole (close_kept IsMade levels octets new keeps b parent digest number at passed line rest is.0 made new_at close_is is.3 are unmarked stands all new_stands)
step_by IsMade levels octets new keeps b parent digest line rest false true close_is delimiter_is next = λ number at passed entities made new_at parts are unmarked stands rewritten new_stands.
    let is = rw (parts_on-delimiter b at passed line rest close_is delimiter_is) at parts in
    let all = rw is.2 at rewritten in
    rw is.2 (delimiter_kept IsMade levels octets new keeps b parent digest number at passed line rest is.0 is.1 made new_at close_is delimiter_is next is.3 is.4 are unmarked stands all new_stands)
step_by IsMade levels octets new keeps b parent digest line rest false false close_is delimiter_is next = λ number at passed entities made new_at parts are unmarked stands rewritten new_stands.
    let longer = append_assoc passed (line ∷ []) rest in
    let is = rw (parts_on-on b at passed line rest close_is delimiter_is) at parts in
    let here : IsUnmarked b line = record { delimiter = delimiter_is; close = close_is } in
    let kept = next number at (passed ++ line ∷ []) entities made new_at is (rw longer are) (all-append (IsUnmarked b) passed (line ∷ []) unmarked (here, tt)) (rw longer stands) (rw longer rewritten) new_stands in
    rw longer at kept

parts_kept : (IsMade : FieldRelation) (levels : ℕ) (octets new : List ℕ) → Keeps IsMade octets new (IsEntity levels octets) (IsEntity levels new) → (b : List ℕ) (parent : Option ℕ) (digest : Bool) (rest : List (List ℕ))
    → PartsAreKept IsMade levels octets new b parent digest rest
parts_kept IsMade levels octets new keeps b parent digest [] = λ number at passed entities made new_at parts are unmarked stands rewritten new_stands.
    let nothing = append-nil passed in
    let is = rw (parts_on-end b at passed) at parts in
    let whole : is.0 ≡ entities = sym (is.2 ∙ rw is.4 (append-nil is.0)) in
    let part = rw whole at is.3 in
    let lines = rw nothing at are in
    let text = rw nothing at stands in
    let all = rw nothing at rewritten in
    rw nothing (end_kept IsMade levels octets new keeps b parent digest number at passed entities made new_at part lines unmarked text all new_stands)
parts_kept IsMade levels octets new keeps b parent digest (line ∷ rest) =
    step_by IsMade levels octets new keeps b parent digest line rest (is_close b line) (is_delimiter b line) refl refl (parts_kept IsMade levels octets new keeps b parent digest rest)

-- entities in what is divided stand in order
divided_order : (levels : ℕ) (octets b : List ℕ) (digest : Bool) (number to : ℕ) (shape : Shape) (inner : List Entity) (lines : List (List ℕ)) (at : ℕ) → AreLines lines → at + size lines ≡ to
    → IsDivided (IsEntity levels octets) digest number (parts_of b at lines) shape inner → AreInOrder at to inner
divided_order levels octets b digest number to shape inner [] at are sum is =
    let divided = rw (no_parts b at) at is in rw divided.1 (omega arith)
divided_order levels octets b digest number to shape inner (line ∷ rest) at are sum is =
    go (is_delimiter b line) refl (let one = size-cons line rest in omega arith) (divided_order levels octets b digest number to shape inner rest (at + length line) are.1)
  where
    go : (delimiter : Bool) → is_delimiter b line ≡ delimiter → at + length line + size rest ≡ to
        → (at + length line + size rest ≡ to → IsDivided (IsEntity levels octets) digest number (parts_of b (at + length line) rest) shape inner → AreInOrder (at + length line) to inner) → AreInOrder at to inner
    go true delimiter_is less next =
        let parts = divided_parts (IsEntity levels octets) b digest number (at + length line) rest shape inner (rw (parts_of-delimiter b at line rest delimiter_is) at is) in
        order_from at (at + length line) to inner (omega arith)
        (parts_order levels octets b (Some number) digest to rest (number + 1) (at + length line) [] inner are.1 (omega arith) parts.1)
    go false delimiter_is less next = order_from at (at + length line) to inner (omega arith) (next less (rw (parts_of-on b at line rest delimiter_is) at is))

-- a content with a boundary is kept
abbrev pub IsDivisionKept : FieldRelation → ℕ → List ℕ → List ℕ → List ℕ → Bool → ℕ → Shape → List (List ℕ) → Type 0
IsDivisionKept IsMade levels octets new b digest number shape lines =
    (at : ℕ) (inner : List Entity) (made : List ℕ) (new_at : ℕ) → IsDivided (IsEntity levels octets) digest number (parts_of b at lines) shape inner → AreLines lines → Stands octets at (concat lines)
    → RewritesBlocks IsMade octets at (at + size lines) inner made → Stands new new_at made
    → HasTidyLines IsMade octets at lines inner new new_at made (λ new_lines others. IsDivided (IsEntity levels new) digest number (parts_of b new_at new_lines) shape others)

-- a line before the parts is copied
line_copied : (IsMade : FieldRelation) (octets : List ℕ) (at : ℕ) (line : List ℕ) (rest : List (List ℕ)) (inner : List Entity) (new : List ℕ) (new_at : ℕ) (made following : List ℕ) (HoldsAfter Holds : List (List ℕ) → List Entity → Type 0)
    → AreLines (line ∷ rest) → made ≡ line ++ following → ((new_lines : List (List ℕ)) (others : List Entity) → HoldsAfter new_lines others → Holds (line ∷ new_lines) others)
    → HasTidyLines IsMade octets (at + length line) rest inner new (new_at + length line) following HoldsAfter → HasTidyLines IsMade octets at (line ∷ rest) inner new new_at made Holds
line_copied IsMade octets at line rest inner new new_at made following HoldsAfter Holds are made_is onward tail =
    let line_size = size-cons line rest in
    let made_size = ap length made_is ∙ length-append line following in
    let to_is : at + length line + size rest ≡ at + size (line ∷ rest) = omega arith in
    let new_to_is : new_at + length line + length following ≡ new_at + length made = omega arith in
    record {
      has = record {
        new_lines = line ∷ tail.has.new_lines;
        others = tail.has.others;
        whole = ap (λ more. line ++ more) tail.has.whole ∙ sym made_is;
        are = line_on line rest tail.has.new_lines are tail.has.are tail.none;
        sound = λ sound. (sound.0, tail.has.sound sound.1);
        unmarked = λ boundary unmarked. (unmarked.0, tail.has.unmarked boundary unmarked.1);
        holds = onward tail.has.new_lines tail.has.others tail.has.holds;
        same = rw (to_is, new_to_is) at tail.has.same;
      };
      none = λ none. cc none;
    }

division_by : (IsMade : FieldRelation) (levels : ℕ) (octets new : List ℕ) → Keeps IsMade octets new (IsEntity levels octets) (IsEntity levels new) → (b : List ℕ) (digest : Bool) (number : ℕ) (shape : Shape) (line : List ℕ)
    (rest : List (List ℕ)) (delimiter : Bool) → is_delimiter b line ≡ delimiter → IsDivisionKept IsMade levels octets new b digest number shape rest → IsDivisionKept IsMade levels octets new b digest number shape (line ∷ rest)
division_by IsMade levels octets new keeps b digest number shape line rest true delimiter_is next = λ at inner made new_at is are stands rewritten new_stands.
    let line_size = size-cons line rest in
    let to_is : at + length line + size rest ≡ at + size (line ∷ rest) = omega arith in
    let parts = divided_parts (IsEntity levels octets) b digest number (at + length line) rest shape inner (rw (parts_of-delimiter b at line rest delimiter_is) at is) in
    let order = parts_order levels octets b (Some number) digest (at + size (line ∷ rest)) rest (number + 1) (at + length line) [] inner are.1 (omega arith) parts.1 in
    let copied = is_copied IsMade octets at (at + length line) (at + size (line ∷ rest)) inner line made (stands_front octets at line (concat rest) stands) refl order rewritten in
    let new_all = rw copied.whole at new_stands in
    let renamed = rewrites_to IsMade octets (at + length line) (at + size (line ∷ rest)) (at + length line + size rest) inner copied.rest to_is copied.rewritten in
    let tail = parts_kept IsMade levels octets new keeps b (Some number) digest rest (number + 1) (at + length line) [] inner copied.rest (new_at + length line) parts.1 are.1 tt
    (stands_back octets at (at + length line) line (concat rest) refl stands) renamed (stands_back new new_at (new_at + length line) line copied.rest refl new_all) in
    line_copied IsMade octets at line rest inner new new_at made copied.rest
    (λ new_lines others. AreParts (IsEntity levels new) (Some number) digest (number + 1) (parts_on b (new_at + length line) [] new_lines) others)
    (λ new_lines others. IsDivided (IsEntity levels new) digest number (parts_of b new_at new_lines) shape others) are copied.whole
    (λ new_lines others holds.
    rw (parts_of-delimiter b new_at line new_lines delimiter_is) (parts_divided (IsEntity levels new) b digest number (new_at + length line) new_lines shape others parts.0 holds)) tail
division_by IsMade levels octets new keeps b digest number shape line rest false delimiter_is next = λ at inner made new_at is are stands rewritten new_stands.
    let line_size = size-cons line rest in
    let to_is : at + length line + size rest ≡ at + size (line ∷ rest) = omega arith in
    let following = rw (parts_of-on b at line rest delimiter_is) at is in
    let order = divided_order levels octets b digest number (at + size (line ∷ rest)) shape inner rest (at + length line) are.1 to_is following in
    let copied = is_copied IsMade octets at (at + length line) (at + size (line ∷ rest)) inner line made (stands_front octets at line (concat rest) stands) refl order rewritten in
    let new_all = rw copied.whole at new_stands in
    let renamed = rewrites_to IsMade octets (at + length line) (at + size (line ∷ rest)) (at + length line + size rest) inner copied.rest to_is copied.rewritten in
    let tail = next (at + length line) inner copied.rest (new_at + length line) following are.1
    (stands_back octets at (at + length line) line (concat rest) refl stands) renamed (stands_back new new_at (new_at + length line) line copied.rest refl new_all) in
    line_copied IsMade octets at line rest inner new new_at made copied.rest
    (λ new_lines others. IsDivided (IsEntity levels new) digest number (parts_of b (new_at + length line) new_lines) shape others)
    (λ new_lines others. IsDivided (IsEntity levels new) digest number (parts_of b new_at new_lines) shape others) are copied.whole
    (λ new_lines others holds. rw (parts_of-on b new_at line new_lines delimiter_is) holds) tail

-- What a boundary divides is kept.
pub division_kept : (IsMade : FieldRelation) (levels : ℕ) (octets new : List ℕ) → Keeps IsMade octets new (IsEntity levels octets) (IsEntity levels new) → (b : List ℕ) (digest : Bool) (number : ℕ) (shape : Shape)
    (lines : List (List ℕ)) → IsDivisionKept IsMade levels octets new b digest number shape lines
division_kept IsMade levels octets new keeps b digest number shape [] = λ at inner made new_at is are stands rewritten new_stands.
    let divided = rw (no_parts b at) at is in
    let nothing = rw divided.1 at rewritten in
    record {
      has = record {
        new_lines = [];
        others = [];
        whole = sym (nothing ∙ slice_none octets at (at + size []) (omega arith));
        are = tt;
        sound = λ sound. tt;
        unmarked = λ boundary unmarked. tt;
        holds = rw (no_parts b new_at) (divided.0, refl);
        same = rw divided.1 tt;
      };
      none = λ none. refl;
    }
division_kept IsMade levels octets new keeps b digest number shape (line ∷ rest) =
    division_by IsMade levels octets new keeps b digest number shape line rest (is_delimiter b line) refl (division_kept IsMade levels octets new keeps b digest number shape rest)
