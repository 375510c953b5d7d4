-- One part, written anew, and the CRLF that stands between it and the mark after it.
use Rattle.std.proofs.Common.{◌≡◌, ℕ, ◌+◌, ◌⊎◌, inl, inr, List, [], ◌∷◌, ◌++◌, length, Bool, arith, refl, sym, ap, ◌∙◌, Option, append-nil, append_assoc, length-append}
use Rattle.std.specs.List.{AllByRecursion, concat}
use Rattle.std.proofs.lemmas.List.Folds.{concat-append}
use Rattle.mail_wire.specs.Lines.{crlf}
use Rattle.mail_wire.specs.Message.{IsSound}
use Rattle.mail_wire.proofs.AllLemmas.{all-append, all-front, all-back}
use Rattle.utf8_fields.proofs.LineShapes.{AreLines, AreLines-front, AreLines-back}
use Rattle.mime_tree.specs.declared.entity.Entity.{Entity}
use Rattle.mime_tree.specs.Parts.{size, cut_last}
use Rattle.mime_tree.specs.Tree.{IsEntity}
use Rattle.mime_tree.specs.Rewriting.{FieldRelation, RewritesBlocks, next_entity_place}
use Rattle.mime_tree.proofs.Regions.{size-cons, size-append}
use Rattle.mime_tree.proofs.Standing.{Stands, AreEnded, IsUnmarked, AreUnmarked, AreInOrder, AreKept, HasNewLines, Keeps}
use Rattle.mime_tree.proofs.InOrder.{in_order, split_blocks}
use Rattle.mime_tree.proofs.EndedLines.{AreFilled, HasEmptyLast, ended_filled, filled_nothing, filled_or, gap_of, cut_concat, cut_are, cut_sound, cut_unmarked, put_ending}
use Rattle.mime_tree.proofs.EmptyLast.{drop_empty}
use Rattle.mime_tree.proofs.InPlace.{stands_front, stands_back, order_from, is_copied, nothing_made, same_append}
use Rattle.mime_tree.proofs.LinesAgain.{AreLines-ended}

-- the new lines of an entity, none of them empty, and none where there were none
pub record HasPart (IsMade : FieldRelation) (levels : ℕ) (octets : List ℕ) (parent : Option ℕ) (digest : Bool) (number at : ℕ) (lines : List (List ℕ)) (entities : List Entity) (new : List ℕ) (new_at : ℕ) (made : List ℕ)
    : Type 0 where
  pub has : HasNewLines IsMade octets at lines entities new new_at made (λ new_lines others. IsEntity levels new parent digest number new_at new_lines others)
  pub filled : AreFilled has.new_lines
  pub none : lines ≡ [] → has.new_lines ≡ []

record HasFilled (IsMade : FieldRelation) (levels : ℕ) (octets : List ℕ) (parent : Option ℕ) (digest : Bool) (number at : ℕ) (lines : List (List ℕ)) (entities : List Entity) (new : List ℕ) (new_at : ℕ) (made : List ℕ)
    : Type 0 where
  pub has : HasNewLines IsMade octets at lines entities new new_at made (λ new_lines others. IsEntity levels new parent digest number new_at new_lines others)
  pub filled : AreFilled has.new_lines

fill : (IsMade : FieldRelation) (levels : ℕ) (octets : List ℕ) (parent : Option ℕ) (digest : Bool) (number at : ℕ) (lines : List (List ℕ)) (entities : List Entity) (new : List ℕ) (new_at : ℕ) (made : List ℕ)
    → (has : HasNewLines IsMade octets at lines entities new new_at made (λ new_lines others. IsEntity levels new parent digest number new_at new_lines others)) → AreFilled has.new_lines ⊎ HasEmptyLast has.new_lines
    → HasFilled IsMade levels octets parent digest number at lines entities new new_at made
fill IsMade levels octets parent digest number at lines entities new new_at made has (inl filled) = record { has = has; filled = filled }
fill IsMade levels octets parent digest number at lines entities new new_at made has (inr empty) =
    record {
      has = record {
        new_lines = empty.front;
        others = has.others;
        whole = sym (append-nil (concat empty.front)) ∙ sym (concat-append empty.front ([] ∷ [])) ∙ ap concat (sym empty.whole) ∙ has.whole;
        are = AreLines-front empty.front ([] ∷ []) (rw empty.whole at has.are);
        sound = λ sound. all-front IsSound empty.front ([] ∷ []) (rw empty.whole at has.sound sound);
        unmarked = λ boundary unmarked. all-front (IsUnmarked boundary) empty.front ([] ∷ []) (rw empty.whole at has.unmarked boundary unmarked);
        holds = drop_empty levels new parent digest number new_at empty.front has.others (rw empty.whole at has.holds);
        same = has.same;
      };
      filled = ended_filled empty.front empty.ended;
    }

pub part_kept : (IsMade : FieldRelation) (levels : ℕ) (octets new : List ℕ) → Keeps IsMade octets new (IsEntity levels octets) (IsEntity levels new) → (parent : Option ℕ) (digest : Bool) (number at : ℕ) (lines : List (List ℕ))
    (entities : List Entity) (made : List ℕ) (new_at : ℕ) → IsEntity levels octets parent digest number at lines entities → AreLines lines → Stands octets at (concat lines)
    → RewritesBlocks IsMade octets at (at + size lines) entities made → Stands new new_at made → HasPart IsMade levels octets parent digest number at lines entities new new_at made
part_kept IsMade levels octets new keeps parent digest number at lines entities made new_at is are stands rewritten new_stands =
    let kept = keeps parent digest number at lines entities made new_at is are stands rewritten new_stands in
    let full = fill IsMade levels octets parent digest number at lines entities new new_at made kept (filled_or kept.new_lines kept.are) in
    record { has = full.has; filled = full.filled; none = λ none. filled_nothing full.has.new_lines full.filled (full.has.whole ∙ nothing none) }
  where
    nothing : lines ≡ [] → made ≡ []
    nothing none = nothing_made IsMade levels octets parent digest number at at (at + size lines) entities made refl (rw none (omega arith)) (rw none at is) rewritten

-- A part that a mark follows: its new full lines, which are its new lines without their last CRLF.
pub record HasFullPart (IsMade : FieldRelation) (levels : ℕ) (octets : List ℕ) (parent : Option ℕ) (digest : Bool) (number at : ℕ) (passed : List (List ℕ)) (entities : List Entity) (new : List ℕ) (new_at : ℕ) (made : List ℕ)
    : Type 0 where
  pub full : List (List ℕ)
  pub others : List Entity
  pub whole : concat full ≡ made ++ gap_of passed
  pub ended : AreEnded full
  pub sound : AllByRecursion IsSound passed → AllByRecursion IsSound full
  pub unmarked : (boundary : List ℕ) → AreUnmarked boundary passed → AreUnmarked boundary full
  pub cut : concat (cut_last full) ≡ made
  pub is : IsEntity levels new parent digest number new_at (cut_last full) others
  pub same : AreKept IsMade octets (at + size (cut_last passed)) entities new (new_at + length made) others

full_by : (IsMade : FieldRelation) (levels : ℕ) (octets new : List ℕ) (parent : Option ℕ) (digest : Bool) (number at : ℕ) (passed : List (List ℕ)) (entities : List Entity) (made : List ℕ) (new_at : ℕ) → AreEnded passed
    → HasPart IsMade levels octets parent digest number at (cut_last passed) entities new new_at made → HasFullPart IsMade levels octets parent digest number at passed entities new new_at made
unfolding cut_last
full_by IsMade levels octets new parent digest number at [] entities made new_at ended part =
    let none : part.has.new_lines ≡ [] = part.none refl in
    let nothing = rw none at part.has.whole in
    record {
      full = [];
      others = part.has.others;
      whole = nothing ∙ sym (append-nil made);
      ended = tt;
      sound = λ sound. tt;
      unmarked = λ boundary unmarked. tt;
      cut = nothing;
      is = rw none at part.has.holds;
      same = part.has.same;
    }
full_by IsMade levels octets new parent digest number at (line ∷ lines) entities made new_at ended part =
    let put = put_ending part.has.new_lines part.has.are part.filled in
    record {
      full = put.first ∷ put.others;
      others = part.has.others;
      whole = put.whole ∙ ap (λ text. text ++ crlf) part.has.whole;
      ended = put.ended;
      sound = λ sound. put.sound (part.has.sound (cut_sound (line ∷ lines) ended sound));
      unmarked = λ boundary unmarked. put.unmarked boundary (part.has.unmarked boundary (cut_unmarked boundary (line ∷ lines) ended unmarked));
      cut = ap concat put.cut ∙ part.has.whole;
      is = rw put.cut part.has.holds;
      same = part.has.same;
    }

-- What was made of a part, of the mark after it and of what follows.
pub record HasFirst (IsMade : FieldRelation) (levels : ℕ) (octets : List ℕ) (parent : Option ℕ) (digest : Bool) (number at : ℕ) (passed : List (List ℕ)) (line : List ℕ) (rest : List (List ℕ)) (first more : List Entity) (new : List ℕ)
    (new_at : ℕ) (made : List ℕ) : Type 0 where
  pub first_made : List ℕ
  pub following : List ℕ
  pub full : HasFullPart IsMade levels octets parent digest number at passed first new new_at first_made
  pub made_is : made ≡ first_made ++ ((gap_of passed ++ line) ++ following)
  pub rewritten : RewritesBlocks IsMade octets (at + size passed + length line) (at + size (passed ++ line ∷ rest)) more following
  pub text : Stands octets (at + size (cut_last passed)) (gap_of passed ++ line)
  pub text_following : Stands octets (at + size passed + length line) (concat rest)
  pub new_text : Stands new (new_at + length first_made) (gap_of passed ++ line)
  pub new_after : Stands new (new_at + size full.full + length line) following
  pub sum : at + size (cut_last passed) + length (gap_of passed ++ line) ≡ at + size passed + length line
  pub new_sum : new_at + length first_made + length (gap_of passed ++ line) ≡ new_at + size full.full + length line
  pub made_sum : new_at + size full.full + length line + length following ≡ new_at + length made

-- what was made of the first entities, of the text after them and of the further entities
record HasCut (IsMade : FieldRelation) (octets : List ℕ) (at middle next to : ℕ) (first more : List Entity) (text made : List ℕ) : Type 0 where
  pub first_made : List ℕ
  pub following : List ℕ
  pub made_is : made ≡ first_made ++ (text ++ following)
  pub first_rewritten : RewritesBlocks IsMade octets at middle first first_made
  pub rewritten : RewritesBlocks IsMade octets next to more following

is_cut : (IsMade : FieldRelation) (octets : List ℕ) (at middle next to : ℕ) (first more : List Entity) (text made : List ℕ) → AreInOrder at middle first → AreInOrder next to more → Stands octets middle text
    → middle + length text ≡ next → RewritesBlocks IsMade octets at to (first ++ more) made → HasCut IsMade octets at middle next to first more text made
is_cut IsMade octets at middle next to first more text made order next_order stands sum rewritten = go (split_blocks IsMade octets at middle to first more made order (order_from middle next to more (omega arith) next_order) rewritten)
  where
    go : ((front : List ℕ) × (rest : List ℕ) × (made ≡ front ++ rest) × RewritesBlocks IsMade octets at middle first front × RewritesBlocks IsMade octets middle to more rest)
        → HasCut IsMade octets at middle next to first more text made
    go split =
        let copied = is_copied IsMade octets middle next to more text split.1 stands sum next_order split.4 in
        record {
          first_made = split.0;
          following = copied.rest;
          made_is = split.2 ∙ ap (λ more. split.0 ++ more) copied.whole;
          first_rewritten = split.3;
          rewritten = copied.rewritten;
        }

-- the octets of a part, of what stands after it, of the mark and of what follows
marked_text : (passed : List (List ℕ)) (line : List ℕ) (rest : List (List ℕ)) → AreEnded passed → concat (passed ++ line ∷ rest) ≡ concat (cut_last passed) ++ ((gap_of passed ++ line) ++ concat rest)
marked_text passed line rest ended =
    concat-append passed (line ∷ rest) ∙ ap (λ front. front ++ (line ++ concat rest)) (cut_concat passed ended) ∙ append_assoc (concat (cut_last passed)) (gap_of passed) (line ++ concat rest)
    ∙ ap (λ back. concat (cut_last passed) ++ back) (sym (append_assoc (gap_of passed) line (concat rest)))

marked_sum : (at : ℕ) (passed : List (List ℕ)) (line : List ℕ) → AreEnded passed → at + size (cut_last passed) + length (gap_of passed ++ line) ≡ at + size passed + length line
marked_sum at passed line ended =
    let cut = ap length (cut_concat passed ended) ∙ length-append (concat (cut_last passed)) (gap_of passed) in
    let mark = length-append (gap_of passed) line in omega arith

full_sum : (at : ℕ) (full : List (List ℕ)) (made gap line : List ℕ) → concat full ≡ made ++ gap → at + length made + length (gap ++ line) ≡ at + size full + length line
full_sum at full made gap line whole =
    let all = ap length whole ∙ length-append made gap in
    let mark = length-append gap line in omega arith

after_sum : (at next : ℕ) (first text following made : List ℕ) → made ≡ first ++ (text ++ following) → at + length first + length text ≡ next → next + length following ≡ at + length made
after_sum at next first text following made made_is sum =
    let all = ap length made_is ∙ length-append first (text ++ following) in
    let back = length-append text following in omega arith

pub first_kept : (IsMade : FieldRelation) (levels : ℕ) (octets new : List ℕ) → Keeps IsMade octets new (IsEntity levels octets) (IsEntity levels new) → (parent : Option ℕ) (digest : Bool) (number at : ℕ) (passed : List (List ℕ))
    (line : List ℕ) (rest : List (List ℕ)) (first more : List Entity) (made : List ℕ) (new_at : ℕ) → AreEnded passed → IsEntity levels octets parent digest number at (cut_last passed) first
    → AreInOrder (at + size passed + length line) (at + size (passed ++ line ∷ rest)) more → Stands octets at (concat (passed ++ line ∷ rest))
    → RewritesBlocks IsMade octets at (at + size (passed ++ line ∷ rest)) (first ++ more) made → Stands new new_at made
    → HasFirst IsMade levels octets parent digest number at passed line rest first more new new_at made
first_kept IsMade levels octets new keeps parent digest number at passed line rest first more made new_at ended is order stands rewritten new_stands =
    let all = rw (marked_text passed line rest ended) at stands in
    let sum = marked_sum at passed line ended in
    let back = stands_back octets at (at + size (cut_last passed)) (concat (cut_last passed)) ((gap_of passed ++ line) ++ concat rest) refl all in
    let text = stands_front octets (at + size (cut_last passed)) (gap_of passed ++ line) (concat rest) back in
    let cut = is_cut IsMade octets at (at + size (cut_last passed)) (at + size passed + length line) (at + size (passed ++ line ∷ rest)) first more (gap_of passed ++ line) made
    (in_order levels octets parent digest number at (cut_last passed) first is) order text sum rewritten in
    let new_all = rw cut.made_is at new_stands in
    let full = full_by IsMade levels octets new parent digest number at passed first cut.first_made new_at ended
    (part_kept IsMade levels octets new keeps parent digest number at (cut_last passed) first cut.first_made new_at is (cut_are passed ended)
    (stands_front octets at (concat (cut_last passed)) ((gap_of passed ++ line) ++ concat rest) all) cut.first_rewritten (stands_front new new_at cut.first_made ((gap_of passed ++ line) ++ cut.following) new_all)) in
    let new_sum = full_sum new_at full.full cut.first_made (gap_of passed) line full.whole in
    let new_back = stands_back new new_at (new_at + length cut.first_made) cut.first_made ((gap_of passed ++ line) ++ cut.following) refl new_all in
    record {
      first_made = cut.first_made;
      following = cut.following;
      full = full;
      made_is = cut.made_is;
      rewritten = cut.rewritten;
      text = text;
      text_following = stands_back octets (at + size (cut_last passed)) (at + size passed + length line) (gap_of passed ++ line) (concat rest) sum back;
      new_text = stands_front new (new_at + length cut.first_made) (gap_of passed ++ line) cut.following new_back;
      new_after = stands_back new (new_at + length cut.first_made) (new_at + size full.full + length line) (gap_of passed ++ line) cut.following new_sum new_back;
      sum = sum;
      new_sum = new_sum;
      made_sum = after_sum new_at (new_at + size full.full + length line) cut.first_made (gap_of passed ++ line) cut.following made cut.made_is new_sum;
    }

-- new lines, and none where there were none
pub record HasTidyLines (IsMade : FieldRelation) (octets : List ℕ) (at : ℕ) (lines : List (List ℕ)) (entities : List Entity) (new : List ℕ) (new_at : ℕ) (made : List ℕ) (Holds : List (List ℕ) → List Entity → Type 0) : Type 0 where
  pub has : HasNewLines IsMade octets at lines entities new new_at made Holds
  pub none : lines ≡ [] → has.new_lines ≡ []

-- a line that is copied, and the new lines after it
pub line_on : (line : List ℕ) (rest others : List (List ℕ)) → AreLines (line ∷ rest) → AreLines others → (rest ≡ [] → others ≡ []) → AreLines (line ∷ others)
line_on line rest others are new_are none = (elim are.0 [ inl once ↦ inl once | inr never ↦ inr (never.0, none never.1) ], new_are)

pub no_lines : (lines : List (List ℕ)) (line : List ℕ) (rest : List (List ℕ)) → lines ++ line ∷ rest ≡ [] → ⊥
no_lines [] line rest none = cc none
no_lines (first ∷ lines) line rest none = cc none

-- A part, the mark after it and what follows are put together.
pub joined : (IsMade : FieldRelation) (levels : ℕ) (octets new : List ℕ) (parent : Option ℕ) (digest : Bool) (number at : ℕ) (passed : List (List ℕ)) (line : List ℕ) (rest : List (List ℕ)) (first more : List Entity) (made : List ℕ)
    (new_at : ℕ) (HoldsAfter Holds : List (List ℕ) → List Entity → Type 0) → AreLines (passed ++ line ∷ rest)
    → (has : HasFirst IsMade levels octets parent digest number at passed line rest first more new new_at made)
    → (tail : HasTidyLines IsMade octets (at + size passed + length line) rest more new (new_at + size has.full.full + length line) has.following HoldsAfter)
    → Holds (has.full.full ++ line ∷ tail.has.new_lines) (has.full.others ++ tail.has.others)
    → AreKept IsMade octets (next_entity_place (at + size (passed ++ line ∷ rest)) more) first new (next_entity_place (new_at + length made) tail.has.others) has.full.others
    → HasTidyLines IsMade octets at (passed ++ line ∷ rest) (first ++ more) new new_at made Holds
joined IsMade levels octets new parent digest number at passed line rest first more made new_at HoldsAfter Holds are has tail holds same =
    let line_size = size-cons line rest in
    let all_size = size-append passed (line ∷ rest) in
    let to_is : at + size passed + length line + size rest ≡ at + size (passed ++ line ∷ rest) = omega arith in
    let tail_same = rw (to_is, has.made_sum) at tail.has.same in
    record {
      has = record {
        new_lines = has.full.full ++ line ∷ tail.has.new_lines;
        others = has.full.others ++ tail.has.others;
        whole = concat-append has.full.full (line ∷ tail.has.new_lines) ∙ rw (has.full.whole, tail.has.whole)
            (append_assoc has.first_made (gap_of passed) (line ++ has.following) ∙ ap (λ back. has.first_made ++ back) (sym (append_assoc (gap_of passed) line has.following)) ∙ sym has.made_is);
        are = AreLines-ended has.full.full (line ∷ tail.has.new_lines) has.full.ended (line_on line rest tail.has.new_lines (AreLines-back passed (line ∷ rest) are) tail.has.are tail.none);
        sound = λ sound.
            let following = all-back IsSound passed (line ∷ rest) sound in
            all-append IsSound has.full.full (line ∷ tail.has.new_lines) (has.full.sound (all-front IsSound passed (line ∷ rest) sound)) (following.0, tail.has.sound following.1);
        unmarked = λ boundary unmarked.
            let following = all-back (IsUnmarked boundary) passed (line ∷ rest) unmarked in
            all-append (IsUnmarked boundary) has.full.full (line ∷ tail.has.new_lines) (has.full.unmarked boundary (all-front (IsUnmarked boundary) passed (line ∷ rest) unmarked))
            (following.0, tail.has.unmarked boundary following.1);
        holds = holds;
        same = same_append IsMade octets (at + size (passed ++ line ∷ rest)) first more new (new_at + length made) has.full.others tail.has.others same tail_same;
      };
      none = λ none. absurd (no_lines passed line rest none);
    }
