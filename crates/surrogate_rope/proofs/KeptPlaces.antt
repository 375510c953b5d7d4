-- Octets of the message that are kept and not yet a piece.
use Rattle.std.proofs.Common.{◌≡◌, ℕ, ◌+◌, ◌-◌, ◌^◌, ◌<◌, ◌≤◌, ◌≢◌, inl, inr, Bool, true, false, nat_lt, List, [], ◌∷◌, ◌++◌, length, refl, sym, ap, ◌∙◌, subst, arith, append_assoc, append-nil, length-append}
use Rattle.std.specs.Prelude.{slice_range}
use Rattle.std.proofs.lemmas.Bool.{cases_Bool, ltb-true, ltb-false}
use Rattle.field_downgrade.specs.Message.{IsServedField}
use Rattle.mime_tree.proofs.InOrder.{slices_join}
use Rattle.mime_tree.proofs.InPlace.{slice_none}
use Rattle.surrogate_rope.specs.declared.building.Made.{Made}
use Rattle.surrogate_rope.specs.Ropes.{RopePiece, Range, New, AreWithin, joined_pieces, size_of, range_size, new_size}
use Rattle.surrogate_rope.specs.Stored.{new_count, range_count}
use Rattle.surrogate_rope.specs.private.Pieces.{range_where}
use Rattle.surrogate_rope.specs.private.Building.{ReachesPlace, written, with_kept, Copies, AddsField}
use Rattle.surrogate_rope.proofs.AddedFields.{field_kept, field_made}
use Rattle.surrogate_rope.proofs.PieceLemmas.{size_parts, range_size-push, new_size-push, joined_length, joined-push, within-push}
use Rattle.mime_tree.proofs.NewEntities.{slice_length}

pub stands_further : (msg : List ℕ) (at to : ℕ) (made : Made) → ReachesPlace msg at made → at ≤ to → to ≤ length msg → ReachesPlace msg to made
stands_further msg at to made stands order fits = record { from = let low = stands.from in omega arith; fits = fits; within = stands.within; kept = stands.kept; fresh = stands.fresh; few = stands.few; new = stands.new; ranges = stands.ranges }

-- what is kept is copied
pub written_copies : (msg : List ℕ) (at to : ℕ) (made : Made) → ReachesPlace msg at made → at ≤ to → Copies msg at to (written msg at made) (written msg to made)
written_copies msg at to made stands order = record {
  octets = ap (λ text. joined_pieces msg made.pieces ++ text) (slices_join msg made.from at to stands.from order) ∙ sym (append_assoc (joined_pieces msg made.pieces) (slice_range msg made.from at) (slice_range msg at to));
  rewritten = refl;
  fresh = refl;
}

pub written_size : (msg : List ℕ) (at : ℕ) (made : Made) → ReachesPlace msg at made → length (joined_pieces msg made.pieces ++ slice_range msg made.from at) ≡ size_of made.pieces + (at - made.from)
written_size msg at made stands =
    omega (arith, length-append (joined_pieces msg made.pieces) (slice_range msg made.from at), joined_length msg made.pieces stands.within, slice_length msg made.from at stands.from stands.fits)

new_count-push : (pieces : List RopePiece) (piece : RopePiece) → new_count (pieces ++ piece ∷ []) ≡ new_count (piece ∷ []) + new_count pieces
new_count-push [] piece = omega arith
new_count-push (Range span ∷ pieces) piece = omega (arith, new_count-push pieces piece)
new_count-push (New octets ∷ pieces) piece = omega (arith, new_count-push pieces piece)

range_count-push : (pieces : List RopePiece) (piece : RopePiece) → range_count (pieces ++ piece ∷ []) ≡ range_count (piece ∷ []) + range_count pieces
range_count-push [] piece = omega arith
range_count-push (Range span ∷ pieces) piece = omega (arith, range_count-push pieces piece)
range_count-push (New octets ∷ pieces) piece = omega (arith, range_count-push pieces piece)

-- the pieces with those octets as one more
pub record IsKept (msg : List ℕ) (at : ℕ) (made : Made) : Type 0 where
  pub joined : joined_pieces msg (with_kept made at) ≡ joined_pieces msg made.pieces ++ slice_range msg made.from at
  pub within : AreWithin msg (with_kept made at)
  pub least : length made.pieces ≤ length (with_kept made at)
  pub new : new_count (with_kept made at) ≡ new_count made.pieces
  pub ranges : range_count (with_kept made at) ≤ range_count made.pieces + 1
  pub fresh : new_size (with_kept made at) ≡ new_size made.pieces
  pub kept : range_size (with_kept made at) ≤ at

pub is_kept : (msg : List ℕ) (at : ℕ) (made : Made) → ReachesPlace msg at made → IsKept msg at made
is_kept msg at made stands = elim (cases_Bool (nat_lt made.from at)) [
  | inl is ↦ some is
  | inr is ↦ none is
]
  where
    some : nat_lt made.from at ≡ true → IsKept msg at made
    some is =
        let less = ltb-true made.from at is in
        let fits = stands.fits in
        let end : made.from + (at - made.from) ≡ at = omega arith in
        let range : RopePiece = Range (record { at = made.from; len = at - made.from }) in
        let are : with_kept made at ≡ made.pieces ++ range ∷ [] = rw is refl in
        let longer = ap length are ∙ length-append made.pieces (range ∷ []) in
        let new : new_count (with_kept made at) ≡ new_count made.pieces = omega (arith, ap new_count are, new_count-push made.pieces range) in
        let ranges : range_count (with_kept made at) ≡ 1 + range_count made.pieces = omega (arith, ap range_count are, range_count-push made.pieces range) in
        let kept : range_size (with_kept made at) ≡ at - made.from + range_size made.pieces = omega (arith, ap range_size are, range_size-push made.pieces range) in
        let fresh : new_size (with_kept made at) ≡ new_size made.pieces = omega (arith, ap new_size are, new_size-push made.pieces range) in
        record {
          joined = ap (joined_pieces msg) are ∙ joined-push msg made.pieces range ∙ ap (λ n. joined_pieces msg made.pieces ++ slice_range msg made.from n) end;
          within = subst (AreWithin msg) (sym are) (within-push msg made.pieces range stands.within (rw end fits));
          least = omega arith;
          new = new;
          ranges = omega arith;
          fresh = fresh;
          kept = omega (arith, stands.kept);
        }

    none : nat_lt made.from at ≡ false → IsKept msg at made
    none is =
        let are : with_kept made at ≡ made.pieces = rw is refl in
        let ranges = ap range_count are in
        let longer = ap length are in
        record {
          joined = ap (joined_pieces msg) are ∙ sym (append-nil (joined_pieces msg made.pieces)) ∙ ap (λ text. joined_pieces msg made.pieces ++ text) (sym (slice_none msg made.from at (ltb-false made.from at is)));
          within = subst (AreWithin msg) (sym are) stands.within;
          least = omega arith;
          new = ap new_count are;
          ranges = omega arith;
          fresh = ap new_size are;
          kept = let kept = ap range_size are in let from = stands.from in omega (arith, stands.kept);
        }

-- the same by the number of octets
pub kept_where : (made : Made) (at : ℕ) → made.pieces ++ range_where (record { at = made.from; len = at - made.from }) ≡ with_kept made at
kept_where made at = elim (cases_Bool (nat_lt made.from at)) [
  | inl less ↦ elim (cases_Bool (nat_lt 0 (at - made.from))) [
    | inl some ↦ rw (less, some) refl
    | inr none ↦ let a = ltb-true made.from at less in let b = ltb-false 0 (at - made.from) none in absurd (omega arith)
  ]
  | inr least ↦ elim (cases_Bool (nat_lt 0 (at - made.from))) [
    | inl some ↦ let a = ltb-false made.from at least in let b = ltb-true 0 (at - made.from) some in absurd (omega arith)
    | inr none ↦ rw (least, none) (append-nil made.pieces)
  ]
]

-- a field that is kept is copied
pub field_stays : (msg : List ℕ) (open_global : Bool) (at end : ℕ) (made : Made) → ReachesPlace msg at made → at ≤ end → IsServedField open_global (slice_range msg at end) (slice_range msg at end)
    → AddsField (IsServedField open_global (slice_range msg at end)) (slice_range msg at end) (written msg at made) (written msg end made)
field_stays msg open_global at end made stands order served =
    field_kept open_global (slice_range msg at end) (joined_pieces msg made.pieces ++ slice_range msg made.from end) (written msg at made) served (written_copies msg at end made stands order).octets

-- the state after a field that was made anew
pub record IsNext (msg : List ℕ) (open_global : Bool) (at end : ℕ) (old new : Made) : Type 0 where
  pub stands : ReachesPlace msg end new
  pub adds : AddsField (IsServedField open_global (slice_range msg at end)) (slice_range msg at end) (written msg at old) (written msg end new)

pub field_is_new : (msg : List ℕ) (open_global : Bool) (at end : ℕ) (made : List ℕ) (pieces : List RopePiece) (count : ℕ) (old : Made) → ReachesPlace msg at old → at ≤ end → end ≤ length msg → new_size pieces < 2 ^ 63
    → IsServedField open_global (slice_range msg at end) made → made ≢ slice_range msg at end → pieces ≡ with_kept old at ++ New made ∷ [] → count ≡ old.rewritten + 1
    → IsNext msg open_global at end old (record { pieces = pieces; from = end; rewritten = count })
field_is_new msg open_global at end made pieces count old stands order fits few_new served differs pieces_are counted =
    let kept = is_kept msg at old stands in
    let size : length pieces ≡ length (with_kept old at) + 1 = ap length pieces_are ∙ length-append (with_kept old at) (New made ∷ []) in
    let least = kept.least in
    let few = stands.few in
    let new = stands.new in
    let ranges = stands.ranges in
    let octets : joined_pieces msg pieces ++ slice_range msg end end ≡ (joined_pieces msg old.pieces ++ slice_range msg old.from at) ++ made =
    ap (λ text. joined_pieces msg pieces ++ text) (slice_none msg end end (omega arith)) ∙ append-nil (joined_pieces msg pieces) ∙ ap (joined_pieces msg) pieces_are ∙ joined-push msg (with_kept old at) (New made)
    ∙ ap (λ text. text ++ made) kept.joined in
    let new_is : new_count pieces ≡ 1 + new_count (with_kept old at) = omega (arith, ap new_count pieces_are, new_count-push (with_kept old at) (New made)) in
    let ranges_are : range_count pieces ≡ range_count (with_kept old at) = omega (arith, ap range_count pieces_are, range_count-push (with_kept old at) (New made)) in
    let ranges_size : range_size pieces ≡ range_size (with_kept old at) = omega (arith, ap range_size pieces_are, range_size-push (with_kept old at) (New made)) in
    let fresh_is : new_size pieces ≡ length made + new_size (with_kept old at) = omega (arith, ap new_size pieces_are, new_size-push (with_kept old at) (New made)) in
    let new_most : new_count pieces ≤ count = omega (arith, counted, kept.new) in
    let ranges_most : range_count pieces ≤ count = omega (arith, counted, kept.ranges) in
    record {
      stands = record { from = omega arith; fits = fits; within = rw pieces_are (within-push msg (with_kept old at) (New made) kept.within tt); kept = omega (arith, kept.kept); fresh = few_new; few = omega (arith, counted); new = new_most; ranges = ranges_most };
      adds = field_made open_global (slice_range msg at end) made (joined_pieces msg pieces ++ slice_range msg end end) count (new_size pieces) (written msg at old) served differs counted
          (omega (arith, kept.fresh)) octets;
    }

-- there is a next number
pub next_number : (msg : List ℕ) (at : ℕ) (made : List ℕ) (pieces : List RopePiece) (old : Made) → ReachesPlace msg at old → pieces ≡ with_kept old at ++ New made ∷ [] → old.rewritten < length pieces
next_number msg at made pieces old stands pieces_are =
    let size : length pieces ≡ length (with_kept old at) + 1 = ap length pieces_are ∙ length-append (with_kept old at) (New made ∷ []) in
    let least = (is_kept msg at old stands).least in
    let few = stands.few in
    omega arith

-- What is kept has room, and all can be counted, as the message and the new octets each are in memory.
pub kept_room : (msg : List ℕ) (at : ℕ) (made : Made) → ReachesPlace msg at made → length msg < 2 ^ 63 → range_size made.pieces + (at - made.from) < 2 ^ 63
kept_room msg at made stands small = let from = stands.from in let kept = stands.kept in omega (arith, stands.fits)

pub place_fits : (msg : List ℕ) (at : ℕ) (made : Made) → ReachesPlace msg at made → length msg < 2 ^ 63 → size_of made.pieces + (at - made.from) < 2 ^ 64
place_fits msg at made stands small = let from = stands.from in let kept = stands.kept in omega (arith, stands.fits, stands.fresh, size_parts made.pieces)

pub place_near : (msg : List ℕ) (at : ℕ) (made : Made) → ReachesPlace msg at made → size_of made.pieces + (at - made.from) ≤ at + 2 ^ 63
place_near msg at made stands = let from = stands.from in let kept = stands.kept in omega (arith, stands.fresh, size_parts made.pieces)
