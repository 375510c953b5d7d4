-- Pieces, where they begin, and what they give.
use Rattle.std.proofs.Common.{◌≡◌, ℕ, zero, suc, ◌+◌, ◌-◌, ◌^◌, ◌<◌, ◌≤◌, ◌⊎◌, inl, inr, Bool, true, false, nat_le, nat_lt, IsTrue, List, [], ◌∷◌, ◌++◌, length, take, drop, get_or, min, refl, sym, ap, ◌∙◌, subst, arith, if◌then◌else◌, append_assoc, append-nil, length-append, length-take, length-drop, take-add}
use Rattle.std.specs.Prelude.{slice_range}
use Rattle.std.proofs.lemmas.List.{length-take-le, drop_more, take_all, take-append-le, take-take, drop-append-le, drop-drop, take_at, drop_at, drop_all, map_push, length-map}
use Rattle.std.specs.List.{AllAdjacentBelow}
use Rattle.std.specs.List.Sorted.{IsNonDecreasingBy}
use Rattle.std.proofs.lemmas.Bool.{cases_Bool, cases_lt, leb-true, leb-false, ltb-false}
use Rattle.std.proofs.lemmas.List.Sorted.{IsNonDecreasingBy-from_all_adjacent}
use borrow.Rule.Slice.PartMut.{mid_of, put_mid}
use Rattle.mail_wire.specs.declared.values.Span.{Span}
use Rattle.mime_tree.proofs.NewEntities.{slice_length}
use Rattle.surrogate_rope.specs.declared.pieces.Piece.{Piece}
use Rattle.surrogate_rope.specs.Ropes.{RopePiece, Range, New, piece_octets, piece_size, IsWithin, AreWithin, joined_pieces, size_of, range_size, new_size}
use Rattle.surrogate_rope.specs.private.Pieces.{piece_of, pieces_of, IsPieceAt, StandInPlace, HoldsPieces, IsInPiece, piece_at, range_at, range_where}

-- ---- pieces as they are kept

run_size : (octets : List ℕ) (at len : ℕ) → at + len ≤ length octets → length (slice_range octets at (at + len)) ≡ len
run_size octets at len fits = omega (arith, slice_length octets at (at + len) (omega arith) fits)

piece_of-size : (octets : List ℕ) (at : ℕ) (piece : Piece) → IsPieceAt octets at piece → piece_size (piece_of octets piece) ≡ piece.range.len
piece_of-size octets at piece is = go piece.is_new is.fits
  where
    go : (is_new : Bool) → (IsTrue is_new → piece.range.at + piece.range.len ≤ length octets)
        → piece_size (if is_new then New (slice_range octets piece.range.at (piece.range.at + piece.range.len)) else Range piece.range) ≡ piece.range.len
    go true fits = run_size octets piece.range.at piece.range.len (fits refl)
    go false fits = refl

pub pieces_size : (octets : List ℕ) (at : ℕ) (pieces : List Piece) (to : ℕ) → StandInPlace octets at pieces to → at + size_of (pieces_of octets pieces) ≡ to
pieces_size octets at [] to are = omega (arith, are)
pieces_size octets at (piece ∷ pieces) to are = omega (arith, piece_of-size octets at piece are.0, pieces_size octets (at + piece.range.len) pieces to are.1)

pub pieces_push : (octets : List ℕ) (at : ℕ) (pieces : List Piece) (to : ℕ) (piece : Piece) → StandInPlace octets at pieces to → IsPieceAt octets to piece
    → StandInPlace octets at (pieces ++ piece ∷ []) (to + piece.range.len)
pieces_push octets at [] to piece are is = rw are (is, refl)
pieces_push octets at (first ∷ pieces) to piece are is = (are.0, pieces_push octets (at + first.range.len) pieces to piece are.1 is)

slice_longer : (octets more : List ℕ) (at len : ℕ) → at + len ≤ length octets → slice_range (octets ++ more) at (at + len) ≡ slice_range octets at (at + len)
slice_longer octets more at len fits =
    ap (take (at + len - at)) (drop-append-le at octets more (omega arith)) ∙ take-append-le (at + len - at) (drop at octets) more (omega (arith, length-drop at octets))

piece_longer : (octets more : List ℕ) (at : ℕ) (piece : Piece) → IsPieceAt octets at piece → piece_of (octets ++ more) piece ≡ piece_of octets piece
piece_longer octets more at piece is = go piece.is_new is.fits
  where
    go : (is_new : Bool) → (IsTrue is_new → piece.range.at + piece.range.len ≤ length octets)
        → (if is_new then New (slice_range (octets ++ more) piece.range.at (piece.range.at + piece.range.len)) else Range piece.range)
        ≡ (if is_new then New (slice_range octets piece.range.at (piece.range.at + piece.range.len)) else Range piece.range)
    go true fits = ap New (slice_longer octets more piece.range.at piece.range.len (fits refl))
    go false fits = refl

-- more new octets change no piece
pub pieces_longer : (octets more : List ℕ) (at : ℕ) (pieces : List Piece) (to : ℕ) → StandInPlace octets at pieces to → pieces_of (octets ++ more) pieces ≡ pieces_of octets pieces
pieces_longer octets more at [] to are = refl
pieces_longer octets more at (piece ∷ pieces) to are = rw (piece_longer octets more at piece are.0, pieces_longer octets more (at + piece.range.len) pieces to are.1) refl

pub are_longer : (octets more : List ℕ) (at : ℕ) (pieces : List Piece) (to : ℕ) → StandInPlace octets at pieces to → StandInPlace (octets ++ more) at pieces to
are_longer octets more at [] to are = are
are_longer octets more at (piece ∷ pieces) to are =
    (record { offset = are.0.offset; fits = λ new. omega (arith, are.0.fits new, length-append octets more) }, are_longer octets more (at + piece.range.len) pieces to are.1)

-- new octets that are put last are a piece
pub new_piece : (octets more : List ℕ) → slice_range (octets ++ more) (length octets) (length octets + length more) ≡ more
new_piece octets more =
    let size : length octets + length more - length octets ≡ length more = omega arith in
    ap (λ n. take n (drop (length octets) (octets ++ more))) size ∙ ap (take (length more)) (drop_at octets more (length octets) refl) ∙ take_all (length more) more (omega arith)

-- a piece begins after those before it
pub piece_offset : (octets : List ℕ) (at : ℕ) (pieces : List Piece) (to i : ℕ) (d : Piece) → StandInPlace octets at pieces to → i < length pieces → (get_or pieces i d).offset ≡ at + size_of (take i (pieces_of octets pieces))
piece_offset octets at [] to i d are inside = absurd (omega (arith, inside))
piece_offset octets at (piece ∷ pieces) to zero d are inside = omega (arith, are.0.offset)
piece_offset octets at (piece ∷ pieces) to (suc i) d are inside =
    omega (arith, piece_of-size octets at piece are.0, piece_offset octets (at + piece.range.len) pieces to i d are.1 (omega (arith, inside)))

size-take : (pieces : List RopePiece) (i : ℕ) → size_of (take i pieces) ≤ size_of (take (suc i) pieces)
size-take [] zero = omega arith
size-take [] (suc i) = omega arith
size-take (piece ∷ pieces) zero = omega arith
size-take (piece ∷ pieces) (suc i) = let rest = size-take pieces i in omega arith

pub offsets_rise : (octets : List ℕ) (pieces : List Piece) (to : ℕ) → StandInPlace octets 0 pieces to → IsNonDecreasingBy (λ (piece : Piece). piece.offset) pieces
offsets_rise octets pieces to are = IsNonDecreasingBy-from_all_adjacent (λ (piece : Piece). piece.offset) pieces next
  where
    next : AllAdjacentBelow (λ (a b : Piece). a.offset ≤ b.offset) pieces (length pieces)
    next k d l =
        let on = ap (λ n. size_of (take n (pieces_of octets pieces))) (let same : k + 1 ≡ suc k = omega arith in same) in
        omega (arith, piece_offset octets 0 pieces to k d are (omega arith), piece_offset octets 0 pieces to (k + 1) d are l, size-take (pieces_of octets pieces) k, on)

-- ---- sizes

pub size_parts : (pieces : List RopePiece) → size_of pieces ≡ range_size pieces + new_size pieces
size_parts [] = refl
size_parts (Range span ∷ pieces) = omega (arith, size_parts pieces)
size_parts (New octets ∷ pieces) = omega (arith, size_parts pieces)

pub range_size-push : (pieces : List RopePiece) (piece : RopePiece) → range_size (pieces ++ piece ∷ []) ≡ range_size (piece ∷ []) + range_size pieces
range_size-push [] piece = omega arith
range_size-push (Range span ∷ pieces) piece = omega (arith, range_size-push pieces piece)
range_size-push (New octets ∷ pieces) piece = omega (arith, range_size-push pieces piece)

pub new_size-push : (pieces : List RopePiece) (piece : RopePiece) → new_size (pieces ++ piece ∷ []) ≡ new_size (piece ∷ []) + new_size pieces
new_size-push [] piece = omega arith
new_size-push (Range span ∷ pieces) piece = omega (arith, new_size-push pieces piece)
new_size-push (New octets ∷ pieces) piece = omega (arith, new_size-push pieces piece)

pub whole_size : (octets : List ℕ) (pieces : List Piece) (size : ℕ) → HoldsPieces octets pieces size → size ≡ size_of (pieces_of octets pieces)
whole_size octets pieces size has = omega (arith, pieces_size octets 0 pieces size has.placed)

pub whole_offset : (octets : List ℕ) (pieces : List Piece) (size i : ℕ) (piece : Piece) → HoldsPieces octets pieces size → i < length (pieces_of octets pieces) → piece ≡ get_or pieces i piece
    → piece.offset ≡ size_of (take i (pieces_of octets pieces))
whole_offset octets pieces size i piece has inside is =
    ap (λ (p : Piece). p.offset) is ∙ omega (arith, piece_offset octets 0 pieces size i piece has.placed (omega (arith, inside, length-map pieces (piece_of octets))))

-- the octets of a new piece are in the list
pub placed_fits : (octets : List ℕ) (pieces : List Piece) (size i : ℕ) (d : Piece) → HoldsPieces octets pieces size → i < length pieces → IsTrue (get_or pieces i d).is_new
    → (get_or pieces i d).range.at + (get_or pieces i d).range.len ≤ length octets
placed_fits octets pieces size i d has inside new = go 0 pieces i has.placed inside new
  where
    go : (at : ℕ) (pieces : List Piece) (i : ℕ) → StandInPlace octets at pieces size → i < length pieces → IsTrue (get_or pieces i d).is_new → (get_or pieces i d).range.at + (get_or pieces i d).range.len ≤ length octets
    go at [] i are inside new = absurd (omega (arith, inside))
    go at (first ∷ pieces) zero are inside new = are.0.fits new
    go at (first ∷ pieces) (suc i) are inside new = go (at + first.range.len) pieces i are.1 (omega (arith, inside)) new

-- the same of a piece that was read, and of a range
pub whole_new : (octets : List ℕ) (pieces : List Piece) (size i : ℕ) (piece : Piece) → HoldsPieces octets pieces size → i < length (pieces_of octets pieces) → piece ≡ get_or pieces i piece → IsTrue piece.is_new
    → piece.range.at + piece.range.len ≤ length octets
whole_new octets pieces size i piece has inside is new =
    let fits = placed_fits octets pieces size i piece has (omega (arith, inside, length-map pieces (piece_of octets))) (subst (λ (p : Piece). IsTrue p.is_new) is new) in
    let same = ap (λ (p : Piece). p.range.at + p.range.len) is in
    omega arith

pub whole_range : (octets msg : List ℕ) (pieces : List Piece) (i : ℕ) (piece : Piece) → AreWithin msg (pieces_of octets pieces) → i < length (pieces_of octets pieces) → piece ≡ get_or pieces i piece → piece.is_new ≡ false
    → piece.range.at + piece.range.len ≤ length msg
whole_range octets msg pieces i piece within inside is old = go pieces i within (omega (arith, inside, length-map pieces (piece_of octets))) is
  where
    here : (first : Piece) → IsWithin msg (piece_of octets first) → first.is_new ≡ false → first.range.at + first.range.len ≤ length msg
    here first within old = rw old at within

    go : (pieces : List Piece) (i : ℕ) → AreWithin msg (pieces_of octets pieces) → i < length pieces → piece ≡ get_or pieces i piece → piece.range.at + piece.range.len ≤ length msg
    go [] i within inside is = absurd (omega (arith, inside))
    go (first ∷ pieces) zero within inside is =
        let fits = here first within.0 (sym (ap (λ (p : Piece). p.is_new) is) ∙ old) in let same = ap (λ (p : Piece). p.range.at + p.range.len) is in omega arith
    go (first ∷ pieces) (suc i) within inside is = go pieces i within.1 (omega (arith, inside)) is

-- the piece before the first one that begins after the place
pub whole_number : (octets : List ℕ) (pieces : List Piece) (size place following number : ℕ) → HoldsPieces octets pieces size → place < size_of (pieces_of octets pieces) → following ≤ length pieces
    → ((i : ℕ) (d : Piece) → 0 ≤ i → i < following → nat_le (get_or pieces i d).offset place ≡ true) → ((i : ℕ) (d : Piece) → following ≤ i → i < length pieces → nat_le (get_or pieces i d).offset place ≡ false)
    → number ≡ following - 1 → IsInPiece (pieces_of octets pieces) place number
whole_number octets [] size place following number has inside few low high is = absurd (omega (arith, inside))
whole_number octets (piece ∷ pieces) size place zero number has inside few low high is =
    absurd (omega (arith, leb-false piece.offset place (high 0 piece (omega arith) (omega arith)), has.placed.0.offset))
whole_number octets (piece ∷ pieces) size place (suc following) number has inside few low high is = record {
  inside = omega (arith, is, few, length-map (piece ∷ pieces) (piece_of octets));
  before = let same : number ≡ following = omega (arith, is) in
      rw same (omega (arith, leb-true (get_or (piece ∷ pieces) following piece).offset place (low following piece (omega arith) (omega arith)), piece_offset octets 0 (piece ∷ pieces) size following piece has.placed (omega (arith, few))));
  following = let same : number + 1 ≡ suc following = omega (arith, is) in rw same (next (cases_lt (suc following) (length (piece ∷ pieces))));
}
  where
    next : (suc following < length (piece ∷ pieces)) ⊎ (length (piece ∷ pieces) ≤ suc following) → place < size_of (take (suc following) (pieces_of octets (piece ∷ pieces)))
    next (inl more) =
        omega (arith, leb-false (get_or (piece ∷ pieces) (suc following) piece).offset place (high (suc following) piece (omega arith) more), piece_offset octets 0 (piece ∷ pieces) size (suc following) piece has.placed more)
    next (inr last) =
        omega (arith, inside, ap size_of (take_all (suc following) (pieces_of octets (piece ∷ pieces)) (omega (arith, last, length-map (piece ∷ pieces) (piece_of octets)))))

-- ---- a piece more

-- the pieces with one more, as they are kept and as they are seen
pub record IsPushed (octets : List ℕ) (pieces : List Piece) (size : ℕ) (seen : List RopePiece) : Type 0 where
  pub has : HoldsPieces octets pieces size
  pub seen_is : pieces_of octets pieces ≡ seen

pub range_pushed : (octets : List ℕ) (pieces : List Piece) (size : ℕ) (span : Span) → HoldsPieces octets pieces size → range_size (pieces_of octets pieces) + span.len < 2 ^ 63
    → IsPushed octets (pieces ++ record { offset = size; is_new = false; range = span } ∷ []) (size + span.len) (pieces_of octets pieces ++ Range span ∷ [])
range_pushed octets pieces size span has room =
    let piece : Piece = record { offset = size; is_new = false; range = span } in
    let seen : pieces_of octets (pieces ++ piece ∷ []) ≡ pieces_of octets pieces ++ Range span ∷ [] = map_push (piece_of octets) pieces piece in
    let new : new_size (pieces_of octets (pieces ++ piece ∷ [])) ≡ new_size (pieces_of octets pieces) = omega (arith, ap new_size seen, new_size-push (pieces_of octets pieces) (Range span)) in
    let ranges : range_size (pieces_of octets (pieces ++ piece ∷ [])) ≡ span.len + range_size (pieces_of octets pieces) = omega (arith, ap range_size seen, range_size-push (pieces_of octets pieces) (Range span)) in
    record {
      has = record {
        placed = pieces_push octets 0 pieces size piece has.placed (record { offset = refl; fits = λ is. cc is });
        new = omega (arith, has.new);
        octets_few = has.octets_few;
        ranges_few = omega arith;
      };
      seen_is = seen;
    }

-- the same of a range that may have no octets
pub range_where_pushed : (octets : List ℕ) (pieces : List Piece) (size : ℕ) (span : Span) → HoldsPieces octets pieces size → range_size (pieces_of octets pieces) + span.len < 2 ^ 63
    → IsPushed octets (pieces ++ range_at size span) (size + span.len) (pieces_of octets pieces ++ range_where span)
range_where_pushed octets pieces size span has room = elim (cases_Bool (nat_lt 0 span.len)) [
  | inl some ↦ rw some (range_pushed octets pieces size span has room)
  | inr none ↦
      let least = ltb-false 0 span.len none in
      let same : size + span.len ≡ size = omega arith in
      rw (none, same) (record { has = subst (λ ps. HoldsPieces octets ps size) (sym (append-nil pieces)) has; seen_is = ap (pieces_of octets) (append-nil pieces) ∙ sym (append-nil (pieces_of octets pieces)) })
]

-- new octets are a piece
pub new_pushed : (octets more : List ℕ) (pieces : List Piece) (size : ℕ) → HoldsPieces octets pieces size → length (octets ++ more) < 2 ^ 63
    → IsPushed (octets ++ more) (pieces ++ record { offset = size; is_new = true; range = record { at = length octets; len = length more } } ∷ []) (size + length more) (pieces_of octets pieces ++ New more ∷ [])
new_pushed octets more pieces size has few =
    let piece : Piece = record { offset = size; is_new = true; range = record { at = length octets; len = length more } } in
    let longer = pieces_longer octets more 0 pieces size has.placed in
    let whole = length-append octets more in
    let seen : pieces_of (octets ++ more) (pieces ++ piece ∷ []) ≡ pieces_of octets pieces ++ New more ∷ [] =
    map_push (piece_of (octets ++ more)) pieces piece ∙ ap (λ front. front ++ New (slice_range (octets ++ more) (length octets) (length octets + length more)) ∷ []) longer
    ∙ ap (λ text. pieces_of octets pieces ++ New text ∷ []) (new_piece octets more) in
    let new : new_size (pieces_of (octets ++ more) (pieces ++ piece ∷ [])) ≡ length more + new_size (pieces_of octets pieces) = omega (arith, ap new_size seen, new_size-push (pieces_of octets pieces) (New more)) in
    let ranges : range_size (pieces_of (octets ++ more) (pieces ++ piece ∷ [])) ≡ range_size (pieces_of octets pieces) = omega (arith, ap range_size seen, range_size-push (pieces_of octets pieces) (New more)) in
    record {
      has = record {
        placed = pieces_push (octets ++ more) 0 pieces size piece (are_longer octets more 0 pieces size has.placed) (record { offset = refl; fits = λ is. omega (arith, whole) });
        new = omega (arith, has.new, whole);
        octets_few = few;
        ranges_few = omega (arith, has.ranges_few);
      };
      seen_is = seen;
    }

-- a field after a range
pub served_pushed : (octets field : List ℕ) (pieces : List Piece) (size : ℕ) (span : Span) → HoldsPieces octets pieces size → range_size (pieces_of octets pieces) + span.len < 2 ^ 63 → length (octets ++ field) < 2 ^ 63
    → IsPushed (octets ++ field) ((pieces ++ range_at size span) ++ piece_at (size + span.len) true (record { at = length octets; len = length field }) ∷ []) (size + span.len + length field)
    ((pieces_of octets pieces ++ range_where span) ++ New field ∷ [])
served_pushed octets field pieces size span has room few =
    let ranged = range_where_pushed octets pieces size span has room in
    let new = new_pushed octets field (pieces ++ range_at size span) (size + span.len) ranged.has few in
    record { has = new.has; seen_is = new.seen_is ∙ ap (λ front. front ++ New field ∷ []) ranged.seen_is }

pub new_pushed_at : (octets more : List ℕ) (pieces : List Piece) (size at : ℕ) → HoldsPieces octets pieces size → length (octets ++ more) < 2 ^ 63 → at ≡ length octets
    → IsPushed (octets ++ more) (pieces ++ record { offset = size; is_new = true; range = record { at = at; len = length more } } ∷ []) (size + length more) (pieces_of octets pieces ++ New more ∷ [])
new_pushed_at octets more pieces size at has few at_is = rw at_is (new_pushed octets more pieces size has few)

pub served_pushed_with : (octets field : List ℕ) (pieces : List Piece) (size at len : ℕ) (span : Span) → HoldsPieces octets pieces size → range_size (pieces_of octets pieces) + span.len < 2 ^ 63
    → length (octets ++ field) < 2 ^ 63 → at ≡ length octets → len ≡ length field
    → IsPushed (octets ++ field) ((pieces ++ range_at size span) ++ piece_at (size + span.len) true (record { at = at; len = len }) ∷ []) (size + span.len + len)
    ((pieces_of octets pieces ++ range_where span) ++ New field ∷ [])
served_pushed_with octets field pieces size at len span has room few at_is len_is = rw (at_is, len_is) (served_pushed octets field pieces size span has room few)

-- how many octets were put last
pub pushed_len : (octets more new : List ℕ) (at count : ℕ) → new ≡ octets ++ more → at ≡ length octets → count ≡ length new → count - at ≡ length more
pushed_len octets more new at count new_is at_is count_is = omega (arith, at_is, count_is, ap length new_is, length-append octets more)

pub few_new : (octets : List ℕ) (pieces : List Piece) (size : ℕ) → HoldsPieces octets pieces size → new_size (pieces_of octets pieces) < 2 ^ 63
few_new octets pieces size has = omega (arith, has.new, has.octets_few)

-- so many octets can be counted
pub range_counted : (octets : List ℕ) (pieces : List Piece) (size len : ℕ) → HoldsPieces octets pieces size → range_size (pieces_of octets pieces) + len < 2 ^ 63 → size + len < 2 ^ 64
range_counted octets pieces size len has room = omega (arith, room, has.new, has.octets_few, pieces_size octets 0 pieces size has.placed, size_parts (pieces_of octets pieces))

pub new_counted : (octets more : List ℕ) (pieces : List Piece) (size : ℕ) → HoldsPieces octets pieces size → length (octets ++ more) < 2 ^ 63 → size + length more < 2 ^ 64
new_counted octets more pieces size has few =
    omega (arith, few, length-append octets more, has.new, has.ranges_few, pieces_size octets 0 pieces size has.placed, size_parts (pieces_of octets pieces))

-- a field that was made after the octets, and a range before it: where it ends
pub record ServedSteps (octets field made : List ℕ) (pieces : List Piece) (size at count : ℕ) (kept : Span) : Type 0 where
  pub room : size + kept.len < 2 ^ 64
  pub more : (size + kept.len) + (count - at) < 2 ^ 64
  pub third : IsPushed made ((pieces ++ range_at size kept) ++ piece_at (size + kept.len) true (record { at = at; len = count - at }) ∷ []) (size + kept.len + (count - at))
      ((pieces_of octets pieces ++ range_where kept) ++ New field ∷ [])

pub served_steps : (octets field made : List ℕ) (pieces : List Piece) (size at count : ℕ) (kept : Span) → HoldsPieces octets pieces size → range_size (pieces_of octets pieces) + kept.len < 2 ^ 63 → made ≡ octets ++ field
    → count ≡ length made → length made < 2 ^ 63 → at ≡ length octets → ServedSteps octets field made pieces size at count kept
served_steps octets field made pieces size at count kept has room made_is count_is few at_is =
    let ranged = range_where_pushed octets pieces size kept has room in
    let all : length (octets ++ field) < 2 ^ 63 = subst (λ xs. length xs < 2 ^ 63) made_is few in
    let len : count - at ≡ length field = pushed_len octets field made at count made_is at_is count_is in
    let counted = new_counted octets field (pieces ++ range_at size kept) (size + kept.len) ranged.has all in
    record {
      room = range_counted octets pieces size kept.len has room;
      more = omega (arith, counted, len);
      third = subst (λ xs. IsPushed xs ((pieces ++ range_at size kept) ++ piece_at (size + kept.len) true (record { at = at; len = count - at }) ∷ []) (size + kept.len + (count - at))
          ((pieces_of octets pieces ++ range_where kept) ++ New field ∷ [])) (sym made_is) (served_pushed_with octets field pieces size at (count - at) kept has room all at_is len);
    }

-- ---- what pieces give

pub piece_length : (msg : List ℕ) (piece : RopePiece) → IsWithin msg piece → length (piece_octets msg piece) ≡ piece_size piece
piece_length msg (Range span) within = omega (arith, slice_length msg span.at (span.at + span.len) (omega arith) within)
piece_length msg (New octets) within = refl

pub joined_length : (msg : List ℕ) (pieces : List RopePiece) → AreWithin msg pieces → length (joined_pieces msg pieces) ≡ size_of pieces
joined_length msg [] within = refl
joined_length msg (piece ∷ pieces) within =
    omega (arith, length-append (piece_octets msg piece) (joined_pieces msg pieces), piece_length msg piece within.0, joined_length msg pieces within.1)

pub joined-push : (msg : List ℕ) (pieces : List RopePiece) (piece : RopePiece) → joined_pieces msg (pieces ++ piece ∷ []) ≡ joined_pieces msg pieces ++ piece_octets msg piece
joined-push msg [] piece = append-nil (piece_octets msg piece)
joined-push msg (first ∷ pieces) piece =
    ap (λ text. piece_octets msg first ++ text) (joined-push msg pieces piece) ∙ sym (append_assoc (piece_octets msg first) (joined_pieces msg pieces) (piece_octets msg piece))

pub within-push : (msg : List ℕ) (pieces : List RopePiece) (piece : RopePiece) → AreWithin msg pieces → IsWithin msg piece → AreWithin msg (pieces ++ piece ∷ [])
within-push msg [] piece are is = (is, tt)
within-push msg (first ∷ pieces) piece are is = (are.0, within-push msg pieces piece are.1 is)

-- after the first pieces' octets the others' follow
joined-drop : (msg : List ℕ) (pieces : List RopePiece) (i : ℕ) → AreWithin msg pieces → drop (size_of (take i pieces)) (joined_pieces msg pieces) ≡ joined_pieces msg (drop i pieces)
joined-drop msg [] zero within = refl
joined-drop msg [] (suc i) within = refl
joined-drop msg (piece ∷ pieces) zero within = refl
joined-drop msg (piece ∷ pieces) (suc i) within =
    let size = piece_length msg piece within.0 in
    ap (λ n. drop (n + size_of (take i pieces)) (piece_octets msg piece ++ joined_pieces msg pieces)) (sym size)
    ∙ sym (drop-drop (size_of (take i pieces)) (length (piece_octets msg piece)) (piece_octets msg piece ++ joined_pieces msg pieces))
    ∙ ap (drop (size_of (take i pieces))) (drop_at (piece_octets msg piece) (joined_pieces msg pieces) (length (piece_octets msg piece)) refl) ∙ joined-drop msg pieces i within.1

-- ---- reading

-- These octets stand together from this place on, and are some.
pub record IsRun (msg : List ℕ) (pieces : List RopePiece) (place : ℕ) (run : List ℕ) : Type 0 where
  pub octets : run ≡ take (length run) (drop place (joined_pieces msg pieces))
  pub some : 0 < length run
  pub within : place + length run ≤ size_of pieces

-- the octets of the piece that the place is in, from there on
pub piece_run : (msg : List ℕ) (pieces : List RopePiece) (place number from : ℕ) (d : RopePiece) (run : List ℕ) → AreWithin msg pieces → IsInPiece pieces place number
    → from ≡ place - size_of (take number pieces) → run ≡ drop from (piece_octets msg (get_or pieces number d)) → IsRun msg pieces place run
piece_run msg pieces place number from d run within is from_is run_is =
    let all : List ℕ = joined_pieces msg pieces in
    let text : List ℕ = piece_octets msg (get_or pieces number d) in
    let begin : ℕ = size_of (take number pieces) in
    let rest : List ℕ = joined_pieces msg (drop (number + 1) pieces) in
    let before = is.before in
    let text_size = piece_length msg (get_or pieces number d) (nth_within pieces number is.inside within) in
    let on = ap (λ n. size_of (take n pieces)) (let same : number + 1 ≡ suc number = omega arith in same) in
    let inside : from < length text = omega (arith, is.following, before, from_is, text_size, size-more pieces number is.inside, on) in
    let run_size : length run ≡ length text - from = ap length run_is ∙ length-drop from text in
    let next : drop begin all ≡ text ++ rest = joined-drop msg pieces number within ∙ ap (joined_pieces msg) (drop_more pieces number d is.inside) in
    let there : drop place all ≡ run ++ rest =
    ap (λ n. drop n all) (let sum : place ≡ begin + from = omega (arith, from_is, before) in sum) ∙ sym (drop-drop from begin all) ∙ ap (drop from) next
    ∙ drop-append-le from text rest (omega (arith, inside)) ∙ ap (λ front. front ++ rest) (sym run_is) in
    record {
      octets = sym (ap (take (length run)) there ∙ take_at run rest (length run) refl);
      some = omega (arith, inside, run_size);
      within = omega (arith, run_size, before, from_is, text_size, size-more pieces number is.inside, on, size-take-all pieces (number + 1));
    }
  where
    nth_within : (pieces : List RopePiece) (i : ℕ) → i < length pieces → AreWithin msg pieces → IsWithin msg (get_or pieces i d)
    nth_within [] i inside within = absurd (omega (arith, inside))
    nth_within (piece ∷ pieces) zero inside within = within.0
    nth_within (piece ∷ pieces) (suc i) inside within = nth_within pieces i (omega (arith, inside)) within.1

    size-take-all : (pieces : List RopePiece) (i : ℕ) → size_of (take i pieces) ≤ size_of pieces
    size-take-all [] zero = omega arith
    size-take-all [] (suc i) = omega arith
    size-take-all (piece ∷ pieces) zero = omega arith
    size-take-all (piece ∷ pieces) (suc i) = let rest = size-take-all pieces i in omega arith

    size-more : (pieces : List RopePiece) (i : ℕ) → i < length pieces → size_of (take (suc i) pieces) ≡ size_of (take i pieces) + piece_size (get_or pieces i d)
    size-more [] i inside = absurd (omega (arith, inside))
    size-more (piece ∷ pieces) zero inside = omega arith
    size-more (piece ∷ pieces) (suc i) inside = omega (arith, size-more pieces i (omega (arith, inside)))

-- nothing stands after the end
pub no_run : (msg : List ℕ) (pieces : List RopePiece) (place : ℕ) → size_of pieces ≤ place → place < size_of pieces → 0 < 0
no_run msg pieces place past inside = absurd (omega (arith, past, inside))

-- So many octets were copied, of these at most.
pub record IsReading (all : List ℕ) (offset count most : ℕ) (old new : List ℕ) : Type 0 where
  pub octets : new ≡ take count (drop offset all) ++ drop count old
  pub within : count ≤ most

-- the octets that stand together at the next place are copied, as many as the rest of the buffer holds
pub reading_on : (all : List ℕ) (offset count most more : ℕ) (run old middle copied : List ℕ) → most ≡ min (length old) (length all - offset) → IsReading all offset count most old middle → count < most
    → run ≡ take (length run) (drop (offset + count) all)
    → more ≡ min (length (mid_of count (length middle - count) middle)) (length run - 0)
    → copied ≡ take more (drop 0 run) ++ drop more (mid_of count (length middle - count) middle)
    → IsReading all offset (count + more) most old (put_mid count (length middle - count) middle copied)
reading_on all offset count most more run old middle copied most_is is room run_is more_is copied_is =
    let done : List ℕ = take count (drop offset all) in
    let done_size : length done ≡ count = length-take-le count (drop offset all) (omega (arith, length-drop offset all, most_is, room)) in
    let size : length middle ≡ length old = omega (arith, ap length is.octets, length-append done (drop count old), length-drop count old, done_size, most_is, room) in
    let mid : mid_of count (length middle - count) middle ≡ drop count middle = take_all (length middle - count) (drop count middle) (omega (arith, length-drop count middle)) in
    let none : drop (length middle - count) (drop count middle) ≡ [] = drop_all (length middle - count) (drop count middle) (omega (arith, length-drop count middle)) in
    let old_rest : drop count middle ≡ drop count old = ap (drop count) is.octets ∙ drop_at done (drop count old) count done_size in
    let old_front : take count middle ≡ done = ap (take count) is.octets ∙ take_at done (drop count old) count done_size in
    let run_size : length run ≤ length all - (offset + count) = omega (arith, ap length run_is, length-take (length run) (drop (offset + count) all), length-drop (offset + count) all) in
    let fits : more ≤ length run = omega (arith, more_is) in
    let part : take more run ≡ take more (drop count (drop offset all)) =
    ap (take more) run_is ∙ take-take more (length run) (drop (offset + count) all) fits ∙ ap (take more) (sym (drop-drop count offset all)) in
    let next : copied ≡ take more (drop count (drop offset all)) ++ drop (count + more) old =
    copied_is ∙ ap (λ front. front ++ drop more (mid_of count (length middle - count) middle)) part
    ∙ ap (λ back. take more (drop count (drop offset all)) ++ back) (ap (drop more) (mid ∙ old_rest) ∙ drop-drop more count old) in
    record {
      octets = ap (λ back. take count middle ++ (copied ++ back)) none ∙ ap (λ text. take count middle ++ text) (append-nil copied ∙ next) ∙ ap (λ front. front ++ (take more (drop count (drop offset all)) ++ drop (count + more) old)) old_front
          ∙ sym (append_assoc done (take more (drop count (drop offset all))) (drop (count + more) old)) ∙ ap (λ front. front ++ drop (count + more) old) (sym (take-add count more (drop offset all)));
      within = omega (arith, more_is, ap length mid, ap length old_rest, length-drop count old, run_size, most_is, room);
    }
