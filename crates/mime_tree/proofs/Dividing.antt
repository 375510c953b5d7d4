-- The parts of a content, read one after another.
use Rattle.std.proofs.Common.{◌≡◌, ℕ, zero, suc, ◌+◌, ◌-◌, ◌≤◌, List, [], ◌∷◌, ◌++◌, length, Bool, true, false, arith, refl, sym, ap, ◌∙◌, ◌⊎◌, inl, inr, Option, Some, length-append, append-nil, append_assoc}
use Rattle.utf8_fields.specs.declared.block.FieldFault.{FieldFault}
use Rattle.utf8_fields.specs.declared.block.FieldFault.TheVariants.{Memory}
use Rattle.mime_tree.specs.declared.entity.Entity.{Entity}
use Rattle.mime_tree.specs.declared.entity.Shape.{Shape}
use Rattle.mime_tree.specs.declared.entity.Shape.TheVariants.{Leaf, Multipart}
use Rattle.mime_tree.specs.declared.reading.Stop.{Stop}
use Rattle.mime_tree.specs.declared.reading.Start.{Start}
use Rattle.mime_tree.specs.declared.reading.Next.{Next}
use Rattle.mime_tree.specs.declared.reading.Next.TheVariants.{Part as NextPart, End as NextEnd}
use Rattle.mime_tree.specs.Parts.{Part, parts_on, size}
use Rattle.mime_tree.specs.private.Open.{is_marked, begins_marked, region, after, later, lines_at, IsStop, IsStart, IsNext}
use Rattle.mime_tree.specs.Tree.{EntityRelation, AreParts, IsDivided, IsEntity}
use Rattle.mime_tree.specs.Faults.{FaultRelation, IsFaultAmong, IsFaultOf}
use Rattle.mime_tree.specs.private.Reading.{region_at, IsDividedRead, IsEntityRead}
use Rattle.mime_tree.proofs.Regions.{after-on, after-marked, size-cons}
use Rattle.mime_tree.proofs.Pieces.{part-first, part-last, begins_with, after-after}
use Rattle.mime_tree.proofs.LinesAt.{size_at}

abbrev pub shape_of : List Part → Shape
shape_of [] = Leaf
shape_of (part ∷ parts) = Multipart

-- So far these parts are found and read, and this follows.
pub record Dividing (levels : ℕ) (s : List (List ℕ)) (b octets : List ℕ) (digest : Bool) (number : ℕ) (all : List Part) (from : ℕ) (old entities : List Entity) (shape : Shape) (next : Next) : Type 0 where
  pub found : List Part
  pub rest : List Part
  pub all_is : all ≡ found ++ rest
  pub more : List Entity
  pub added : entities ≡ old ++ more
  pub parts_are : AreParts (IsEntity levels octets) (Some number) digest (number + 1) found more
  pub place : ℕ
  pub next_is : IsNext s b octets rest place next
  pub onward : from ≤ place
  pub same : after s (lines_at octets place) ≡ after s (lines_at octets from)
  pub shape_is : shape ≡ shape_of found

pub Dividing-none : (levels : ℕ) (s : List (List ℕ)) (b octets : List ℕ) (digest : Bool) (number : ℕ) (all : List Part) (from : ℕ) (old : List Entity) (next : Next) → IsNext s b octets all from next
    → Dividing levels s b octets digest number all from old old Leaf next
Dividing-none levels s b octets digest number all from old next is =
    record { found = []; rest = all; all_is = refl; more = []; added = sym (append-nil old); parts_are = refl; place = from; next_is = is; onward = omega arith; same = refl; shape_is = refl }

pub AreParts-push : (IsOne : EntityRelation) (parent : Option ℕ) (digest : Bool) (number next : ℕ) (found : List Part) (part : Part) (more first : List Entity) → AreParts IsOne parent digest number found more
    → number + length more ≡ next → IsOne parent digest next part.at part.lines first → AreParts IsOne parent digest number (found ++ part ∷ []) (more ++ first)
AreParts-push IsOne parent digest number next [] part more first are count one =
    let here : number ≡ next = (let none = ap length are in omega arith) in
    (first, [], ap (λ all. all ++ first) are ∙ sym (append-nil first), rw here one, refl)
AreParts-push IsOne parent digest number next (other ∷ found) part more first are count one = (
  are.0,
  are.1 ++ first,
  ap (λ all. all ++ first) are.2 ∙ append_assoc are.0 are.1 first,
  are.3,
  AreParts-push IsOne parent digest (number + length are.0) next found part are.1 first are.4 (let sizes = ap length are.2 in omega (arith, length-append are.0 are.1)) one,
)

shape_of-push : (found : List Part) (part : Part) → Multipart ≡ shape_of (found ++ part ∷ [])
shape_of-push [] part = refl
shape_of-push (other ∷ found) part = refl

-- the part that is read next, and those after it
pub part_here : (s : List (List ℕ)) (b octets : List ℕ) (start : Start) (stop : Stop) → IsStart s octets start → IsStop (s ++ b ∷ []) octets start.from stop
    → parts_on b start.at [] (region s (lines_at octets start.from))
    ≡ record { at = start.at; lines = region (s ++ b ∷ []) (lines_at octets start.from) } ∷ later s b stop.at (lines_at octets stop.at)
part_here s b octets start stop is stops = rw stops.lines (go is.place)
  where
    go : (start.at ≡ start.from) ⊎ (begins_marked s (lines_at octets start.from) ≡ true) → parts_on b start.at [] (region s (lines_at octets start.from))
        ≡ record { at = start.at; lines = region (s ++ b ∷ []) (lines_at octets start.from) } ∷ later s b stop.at (after (s ++ b ∷ []) (lines_at octets start.from))
    go (inl place) =
        let here = size_at octets start.from is.fits in
        let there = size_at octets stop.at stops.fits in
        let same = ap size stops.lines in
        part-first s b start.at stop.at (lines_at octets start.from) (omega arith)
    go (inr begins) = part-last s b start.at stop.at (lines_at octets start.from) begins

pub IsStart-with : (s : List (List ℕ)) (b octets : List ℕ) (start : Start) → IsStart s octets start → IsStart (s ++ b ∷ []) octets start
IsStart-with s b octets start is = record { fits = is.fits; order = is.order; place = go is.place }
  where
    go : (start.at ≡ start.from) ⊎ (begins_marked s (lines_at octets start.from) ≡ true) → (start.at ≡ start.from) ⊎ (begins_marked (s ++ b ∷ []) (lines_at octets start.from) ≡ true)
    go (inl place) = inl place
    go (inr begins) = inr (begins_with s b (lines_at octets start.from) begins)

pub Dividing-more : (levels : ℕ) (s : List (List ℕ)) (b octets : List ℕ) (digest : Bool) (number : ℕ) (all : List Part) (from : ℕ) (old entities read : List Entity) (shape : Shape) (start : Start) (stop : Stop) (next : Next)
    → Dividing levels s b octets digest number all from old entities shape (NextPart start) → number + 1 ≡ length old
    → IsEntityRead levels (s ++ b ∷ []) octets (Some number) digest start entities read stop → IsNext s b octets (later s b stop.at (lines_at octets stop.at)) stop.at next
    → Dividing levels s b octets digest number all from old read Multipart next
Dividing-more levels s b octets digest number all from old entities read shape start stop next so count is_read is_next =
    let part : Part = record { at = start.at; lines = region (s ++ b ∷ []) (lines_at octets start.from) } in
    let following = so.next_is in
    let here = part_here s b octets start stop following.1 is_read.stop_is in
    let onward = so.onward in
    let further = is_read.stop_is.onward in
    let ahead = following.3 in
    let added_len = ap length so.added in
    record {
      found = so.found ++ part ∷ [];
      rest = later s b stop.at (lines_at octets stop.at);
      all_is = so.all_is ∙ ap (λ rest. so.found ++ rest) (following.0 ∙ here) ∙ sym (append_assoc so.found (part ∷ []) (later s b stop.at (lines_at octets stop.at)));
      more = so.more ++ is_read.more;
      added = is_read.added ∙ ap (λ all. all ++ is_read.more) so.added ∙ append_assoc old so.more is_read.more;
      parts_are = AreParts-push (IsEntity levels octets) (Some number) digest (number + 1) (length entities) so.found part so.more is_read.more so.parts_are (omega (arith, length-append old so.more)) is_read.entity;
      place = stop.at;
      next_is = is_next;
      onward = omega arith;
      same = ap (after s) is_read.stop_is.lines ∙ after-after s b (lines_at octets start.from) ∙ following.2 ∙ so.same;
      shape_is = shape_of-push so.found part;
    }

pub Dividing-end : (levels : ℕ) (s : List (List ℕ)) (b octets : List ℕ) (digest : Bool) (number : ℕ) (all : List Part) (from : ℕ) (old entities : List Entity) (shape : Shape) (stop : Stop)
    → Dividing levels s b octets digest number all from old entities shape (NextEnd stop) → IsDividedRead levels s octets all digest number from old entities (record { shape = shape; stop = stop })
Dividing-end levels s b octets digest number all from old entities shape stop so =
    let following = so.next_is in
    let all_found : all ≡ so.found = so.all_is ∙ ap (λ rest. so.found ++ rest) following.0 ∙ append-nil so.found in
    let onward = so.onward in
    let further = following.1.onward in
    record {
      more = so.more;
      added = so.added;
      divided = rw all_found (go so.found so.shape_is so.parts_are);
      stop_is = record { lines = following.1.lines ∙ so.same; marked = following.1.marked; onward = omega arith; fits = following.1.fits };
    }
  where
    go : (found : List Part) → shape ≡ shape_of found → AreParts (IsEntity levels octets) (Some number) digest (number + 1) found so.more → IsDivided (IsEntity levels octets) digest number found shape so.more
    go [] is are = (is, are)
    go (part ∷ found) is are = (is, are)

-- the fault of the next part is the first
among_at : (IsOne : EntityRelation) (IsFault : FaultRelation) (parent : Option ℕ) (digest : Bool) (number : ℕ) (found : List Part) (part : Part) (rest : List Part) (more : List Entity) (fault : FieldFault)
    → AreParts IsOne parent digest number found more → IsFault digest part.at part.lines fault → IsFaultAmong IsOne IsFault digest (found ++ part ∷ rest) fault
among_at IsOne IsFault parent digest number [] part rest more fault are is = inl is
among_at IsOne IsFault parent digest number (other ∷ found) part rest more fault are is =
    inr ((parent, number, are.0, are.3), among_at IsOne IsFault parent digest (number + length are.0) found part rest are.1 fault are.4 is)

smaller_by : (s : List (List ℕ)) (line : List ℕ) (rest : List (List ℕ)) (b : Bool) → is_marked s line ≡ b → size (after s rest) ≤ size rest → size (after s (line ∷ rest)) ≤ size (line ∷ rest)
smaller_by s line rest true h next = rw (after-marked s line rest h) (omega arith)
smaller_by s line rest false h next = rw (after-on s line rest h) (let all = size-cons line rest in omega arith)

after_smaller : (s lines : List (List ℕ)) → size (after s lines) ≤ size lines
unfolding after
after_smaller s [] = omega arith
after_smaller s (line ∷ rest) = smaller_by s line rest (is_marked s line) refl (after_smaller s rest)

-- the part is the first of those that follow, wherever it stops
first_of : (s : List (List ℕ)) (b octets : List ℕ) (start : Start) → IsStart s octets start
    → (others : List Part) × (parts_on b start.at [] (region s (lines_at octets start.from)) ≡ record { at = start.at; lines = region (s ++ b ∷ []) (lines_at octets start.from) } ∷ others)
first_of s b octets start is = go is.place
  where
    go : (start.at ≡ start.from) ⊎ (begins_marked s (lines_at octets start.from) ≡ true)
        → (others : List Part) × (parts_on b start.at [] (region s (lines_at octets start.from)) ≡ record { at = start.at; lines = region (s ++ b ∷ []) (lines_at octets start.from) } ∷ others)
    go (inl place) =
        let less = after_smaller (s ++ b ∷ []) (lines_at octets start.from) in
        (_, part-first s b start.at (start.at + size (lines_at octets start.from) - size (after (s ++ b ∷ []) (lines_at octets start.from))) (lines_at octets start.from) (omega arith))
    go (inr begins) = (_, part-last s b start.at start.at (lines_at octets start.from) begins)

pub Dividing-fault : (levels : ℕ) (s : List (List ℕ)) (b octets : List ℕ) (digest : Bool) (number : ℕ) (all : List Part) (from : ℕ) (old entities : List Entity) (shape : Shape) (start : Start) (fault : FieldFault)
    → Dividing levels s b octets digest number all from old entities shape (NextPart start)
    → IsFaultOf levels octets digest start.at (region_at (s ++ b ∷ []) octets start.from) fault → IsFaultAmong (IsEntity levels octets) (IsFaultOf levels octets) digest all fault
Dividing-fault levels s b octets digest number all from old entities shape start fault so is =
    let part : Part = record { at = start.at; lines = region (s ++ b ∷ []) (lines_at octets start.from) } in
    let following = so.next_is in
    let here = first_of s b octets start following.1 in
    rw (so.all_is, following.0, here.1)
    (among_at (IsEntity levels octets) (IsFaultOf levels octets) (Some number) digest (number + 1) so.found part here.0 so.more fault so.parts_are is)

-- want of memory is always allowed
pub memory_fault : (levels : ℕ) (octets : List ℕ) (digest : Bool) (at : ℕ) (lines : List (List ℕ)) → IsFaultOf levels octets digest at lines Memory
unfolding IsFaultOf
memory_fault zero octets digest at lines = tt
memory_fault (suc levels) octets digest at lines = inl tt

-- a list with one more, and without it again
pub last_once : (s t : List (List ℕ)) (a b : List ℕ) → s ++ a ∷ [] ≡ t ++ b ∷ [] → (s ≡ t) × (a ≡ b)
last_once [] [] a b e = (refl, cc e)
last_once [] (k ∷ t) a b e = absurd (omega (arith, ap length e, length-append t (b ∷ [])))
last_once (k ∷ s) [] a b e = absurd (omega (arith, ap length e, length-append s (a ∷ [])))
last_once (k ∷ s) (j ∷ t) a b e =
    let same : k ≡ j = cc e in
    let rest : s ++ a ∷ [] ≡ t ++ b ∷ [] = cc e in
    let more = last_once s t a b rest in
    let tails : s ≡ t = more.0 in
    (cc, more.1)

-- how far it still is to the end
abbrev pub next_left : ℕ → Next → ℕ
next_left len (NextPart start) = len - start.from + 1
next_left len (NextEnd stop) = 0
