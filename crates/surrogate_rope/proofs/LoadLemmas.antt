-- What is loaded of a stored form.
use Rattle.std.proofs.Common.{◌≡◌, ◌≢◌, ℕ, zero, suc, ◌+◌, ◌<◌, ◌≤◌, List, [], ◌∷◌, ◌++◌, length, take, drop, get_or, refl, sym, ap, ◌∙◌, subst, arith, append_assoc, append-nil, length-append, length-drop, ◌-◌, ◌^◌, Option, Some, None}
use Rattle.std.specs.Prelude.{slice_range}
use Rattle.std.specs.Int.{w64, from_be_bytes}
use Rattle.std.specs.List.{AllByRecursion, flat_map}
use Rattle.std.proofs.lemmas.List.{drop_more, take_more, take_all, take_at, drop_all}
use Rattle.mail_wire.specs.declared.values.Span.{Span}
use Rattle.mime_tree.specs.declared.entity.Shape.{Shape}
use Rattle.mime_tree.specs.declared.entity.Shape.TheVariants.{Leaf}
use Rattle.mime_tree.specs.Outlines.{Outline}
use Rattle.surrogate_rope.specs.Ropes.{RopeValue, RopePiece, Range, New, range_size}
use Rattle.surrogate_rope.specs.Stored.{number, parent_number, shape_octet, stored_piece, stored_entity, IsPieceSmall, HasSmallParent, IsEntitySmall, HasFewPieces, IsStoredRope}
use Rattle.surrogate_rope.specs.private.Storing.{HasPieceAt, HasEntityAt, HasPiecesAt, HasEntitiesAt}
use Rattle.surrogate_rope.proofs.PieceLemmas.{range_size-push}
use Rattle.surrogate_rope.proofs.StoredLemmas.{following, first_there, number_read, number_fits, entity_size}

-- ---- one piece

-- a range is stored at this place
pub record IsRangeThere (octets : List ℕ) (at : ℕ) (piece : RopePiece) (rest : List ℕ) : Type 0 where
  pub span : Span
  pub piece_is : piece ≡ Range span
  pub first : drop (at + 1) octets ≡ number span.at ++ (number span.len ++ rest)
  pub second : drop (at + 9) octets ≡ number span.len ++ rest
  pub end : drop (at + 17) octets ≡ rest

-- new octets are
pub record IsNewThere (octets : List ℕ) (at : ℕ) (piece : RopePiece) (rest : List ℕ) : Type 0 where
  pub text : List ℕ
  pub piece_is : piece ≡ New text
  pub first : drop (at + 1) octets ≡ number (length text) ++ (text ++ rest)
  pub second : drop (at + 9) octets ≡ text ++ rest
  pub end : drop (at + 9 + length text) octets ≡ rest

pub range_there : (octets : List ℕ) (at kind : ℕ) (piece : RopePiece) (rest : List ℕ) → drop at octets ≡ stored_piece piece ++ rest → kind ≡ get_or octets at 0 → kind ≡ 0 → IsRangeThere octets at piece rest
range_there octets at kind (Range span) rest there is is_zero =
    let first : drop (at + 1) octets ≡ number span.at ++ (number span.len ++ rest) =
    following octets at (0 ∷ []) ((number span.at ++ number span.len) ++ rest) (at + 1) there refl ∙ append_assoc (number span.at) (number span.len) rest in
    let second = following octets (at + 1) (number span.at) (number span.len ++ rest) (at + 9) first (omega arith) in
    record { span = span; piece_is = refl; first = first; second = second; end = following octets (at + 9) (number span.len) rest (at + 17) second (omega arith) }
range_there octets at kind (New text) rest there is is_zero =
    absurd (omega (arith, is_zero, first_there octets at 1 kind ((number (length text) ++ text) ++ rest) there is))

pub new_there : (octets : List ℕ) (at kind : ℕ) (piece : RopePiece) (rest : List ℕ) → drop at octets ≡ stored_piece piece ++ rest → kind ≡ get_or octets at 0 → kind ≢ 0 → IsNewThere octets at piece rest
new_there octets at kind (Range span) rest there is some = absurd (some (first_there octets at 0 kind ((number span.at ++ number span.len) ++ rest) there is))
new_there octets at kind (New text) rest there is some =
    let first : drop (at + 1) octets ≡ number (length text) ++ (text ++ rest) =
    following octets at (1 ∷ []) ((number (length text) ++ text) ++ rest) (at + 1) there refl ∙ append_assoc (number (length text)) text rest in
    let second = following octets (at + 1) (number (length text)) (text ++ rest) (at + 9) first (omega arith) in
    record { text = text; piece_is = refl; first = first; second = second; end = following octets (at + 9) text rest (at + 9 + length text) second refl }

-- a number stands after the first octet in each case
pub record HasNumber (octets : List ℕ) (at : ℕ) : Type 0 where
  pub n : ℕ
  pub rest : List ℕ
  pub there : drop at octets ≡ number n ++ rest

pub piece_number : (octets : List ℕ) (at : ℕ) (piece : RopePiece) (rest : List ℕ) → drop at octets ≡ stored_piece piece ++ rest → HasNumber octets (at + 1)
piece_number octets at (Range span) rest there =
    record {
      n = span.at;
      rest = number span.len ++ rest;
      there = following octets at (0 ∷ []) ((number span.at ++ number span.len) ++ rest) (at + 1) there refl ∙ append_assoc (number span.at) (number span.len) rest;
    }
piece_number octets at (New text) rest there =
    record {
      n = length text;
      rest = text ++ rest;
      there = following octets at (1 ∷ []) ((number (length text) ++ text) ++ rest) (at + 1) there refl ∙ append_assoc (number (length text)) text rest;
    }

-- what is read of a piece is the piece
pub range_loaded : (octets : List ℕ) (at kind first second : ℕ) (old new : List RopePiece) → kind ≡ get_or octets at 0 → kind ≡ 0 → first ≡ from_be_bytes w64 (take 8 (drop (at + 1) octets))
    → second ≡ from_be_bytes w64 (take 8 (drop (at + 9) octets)) → new ≡ old ++ Range (record { at = first; len = second }) ∷ [] → (piece : RopePiece) (rest : List ℕ) → drop at octets ≡ stored_piece piece ++ rest → IsPieceSmall piece
    → (new ≡ old ++ piece ∷ []) × (drop (at + 9 + 8) octets ≡ rest)
range_loaded octets at kind first second old new is is_zero first_is second_is new_is piece rest there small =
    let range = range_there octets at kind piece rest there is is_zero in
    let fits : IsPieceSmall (Range range.span) = subst IsPieceSmall range.piece_is small in
    let first_same = number_read octets (at + 1) range.span.at (number range.span.len ++ rest) first range.first fits.0 first_is in
    let second_same = number_read octets (at + 9) range.span.len rest second range.second fits.1 second_is in
    let same : Range (record { at = first; len = second }) ≡ piece = rw (first_same, second_same) (sym range.piece_is) in
    let place : at + 9 + 8 ≡ at + 17 = omega arith in
    (new_is ∙ ap (λ one. old ++ one ∷ []) same, ap (λ n. drop n octets) place ∙ range.end)

pub new_loaded : (octets : List ℕ) (at kind first : ℕ) (text : List ℕ) (old new : List RopePiece) → kind ≡ get_or octets at 0 → kind ≢ 0 → first ≡ from_be_bytes w64 (take 8 (drop (at + 1) octets))
    → text ≡ slice_range octets (at + 9) (at + 9 + first) → new ≡ old ++ New text ∷ [] → (piece : RopePiece) (rest : List ℕ) → drop at octets ≡ stored_piece piece ++ rest → IsPieceSmall piece
    → (new ≡ old ++ piece ∷ []) × (drop (at + 9 + first) octets ≡ rest)
new_loaded octets at kind first text old new is some first_is text_is new_is piece rest there small =
    let made = new_there octets at kind piece rest there is some in
    let fits : IsPieceSmall (New made.text) = subst IsPieceSmall made.piece_is small in
    let first_same = number_read octets (at + 1) (length made.text) (made.text ++ rest) first made.first fits first_is in
    let len : at + 9 + first - (at + 9) ≡ length made.text = omega (arith, first_same) in
    let text_same : text ≡ made.text = text_is ∙ ap (λ n. take n (drop (at + 9) octets)) len ∙ ap (take (length made.text)) made.second ∙ take_at made.text rest (length made.text) refl in
    (new_is ∙ ap (λ one. old ++ New one ∷ []) text_same ∙ ap (λ one. old ++ one ∷ []) (sym made.piece_is), ap (λ n. drop (at + 9 + n) octets) first_same ∙ made.end)

pub new_fits : (octets : List ℕ) (at kind first : ℕ) → kind ≡ get_or octets at 0 → kind ≢ 0 → first ≡ from_be_bytes w64 (take 8 (drop (at + 1) octets)) → (loaded : List RopePiece) → HasPieceAt octets at loaded → at + 9 + first ≤ length octets
new_fits octets at kind first is some first_is loaded has =
    let made = new_there octets at kind has.piece has.rest has.there is some in
    let fits : IsPieceSmall (New made.text) = subst IsPieceSmall made.piece_is has.small in
    let first_same = number_read octets (at + 1) (length made.text) (made.text ++ has.rest) first made.first fits first_is in
    let front = piece_number octets at has.piece has.rest has.there in
    let after_front = number_fits octets (at + 1) front.n front.rest front.there in
    omega (arith, first_same, ap length made.second, length-drop (at + 9) octets, length-append made.text has.rest)

pub range_fits : (octets : List ℕ) (at kind : ℕ) → kind ≡ get_or octets at 0 → kind ≡ 0 → (loaded : List RopePiece) → HasPieceAt octets at loaded → at + 9 + 8 ≤ length octets
range_fits octets at kind is is_zero loaded has =
    let range = range_there octets at kind has.piece has.rest has.there is is_zero in
    number_fits octets (at + 9) range.span.len has.rest range.second

pub piece_fits : (octets : List ℕ) (at : ℕ) (loaded : List RopePiece) → HasPieceAt octets at loaded → at + 1 + 8 ≤ length octets
piece_fits octets at loaded has =
    let front = piece_number octets at has.piece has.rest has.there in
    number_fits octets (at + 1) front.n front.rest front.there

pub range_room : (octets : List ℕ) (at kind second : ℕ) (loaded : List RopePiece) → kind ≡ get_or octets at 0 → kind ≡ 0 → second ≡ from_be_bytes w64 (take 8 (drop (at + 9) octets)) → HasPieceAt octets at loaded
    → range_size loaded + second < 2 ^ 63
range_room octets at kind second loaded is is_zero second_is has =
    let range = range_there octets at kind has.piece has.rest has.there is is_zero in
    let fits : IsPieceSmall (Range range.span) = subst IsPieceSmall range.piece_is has.small in
    let same = number_read octets (at + 9) range.span.len has.rest second range.second fits.1 second_is in
    let sizes : range_size (loaded ++ has.piece ∷ []) ≡ range.span.len + range_size loaded =
    omega (arith, ap (λ one. range_size (loaded ++ one ∷ [])) range.piece_is, range_size-push loaded (Range range.span)) in
    omega (arith, has.ranges)

-- ---- one entity

pub record IsEntityThere (octets : List ℕ) (at : ℕ) (entity : Outline) (rest : List ℕ) : Type 0 where
  pub parent : drop at octets ≡ number (parent_number entity.parent) ++ (number entity.depth ++ (number entity.at ++ (number entity.body ++ (number entity.end ++ (shape_octet entity.shape ∷ rest)))))
  pub depth : drop (at + 8) octets ≡ number entity.depth ++ (number entity.at ++ (number entity.body ++ (number entity.end ++ (shape_octet entity.shape ∷ rest))))
  pub begin : drop (at + 16) octets ≡ number entity.at ++ (number entity.body ++ (number entity.end ++ (shape_octet entity.shape ∷ rest)))
  pub body : drop (at + 24) octets ≡ number entity.body ++ (number entity.end ++ (shape_octet entity.shape ∷ rest))
  pub end : drop (at + 32) octets ≡ number entity.end ++ (shape_octet entity.shape ∷ rest)
  pub shape : drop (at + 40) octets ≡ shape_octet entity.shape ∷ rest

pub entity_there : (octets : List ℕ) (at : ℕ) (entity : Outline) (rest : List ℕ) → drop at octets ≡ stored_entity entity ++ rest → IsEntityThere octets at entity rest
entity_there octets at entity rest there =
    let a = number (parent_number entity.parent) in
    let b = number entity.depth in
    let c = number entity.at in
    let d = number entity.body in
    let e = number entity.end in
    let last : List ℕ = shape_octet entity.shape ∷ [] in
    let parent : drop at octets ≡ a ++ (b ++ (c ++ (d ++ (e ++ (shape_octet entity.shape ∷ rest))))) =
    there ∙ append_assoc a (b ++ (c ++ (d ++ (e ++ last)))) rest
    ∙ ap (λ text. a ++ text) (append_assoc b (c ++ (d ++ (e ++ last))) rest ∙ ap (λ text. b ++ text) (append_assoc c (d ++ (e ++ last)) rest ∙ ap (λ text. c ++ text) (append_assoc d (e ++ last) rest ∙ ap (λ text. d ++ text) (append_assoc e last rest)))) in
    let depth = following octets at a (b ++ (c ++ (d ++ (e ++ (shape_octet entity.shape ∷ rest))))) (at + 8) parent refl in
    let begin = following octets (at + 8) b (c ++ (d ++ (e ++ (shape_octet entity.shape ∷ rest)))) (at + 16) depth (omega arith) in
    let body = following octets (at + 16) c (d ++ (e ++ (shape_octet entity.shape ∷ rest))) (at + 24) begin (omega arith) in
    let end = following octets (at + 24) d (e ++ (shape_octet entity.shape ∷ rest)) (at + 32) body (omega arith) in
    record { parent = parent; depth = depth; begin = begin; body = body; end = end; shape = following octets (at + 32) e (shape_octet entity.shape ∷ rest) (at + 40) end (omega arith) }

pub no_parent : (n : ℕ) → n ≡ 0 → (parent : Option ℕ) → n ≡ parent_number parent → None ≡ parent
no_parent n is_zero None is = refl
no_parent n is_zero (Some parent) is = absurd (omega (arith, is_zero, is))

pub some_parent : (n below : ℕ) → n ≢ 0 → below ≡ n - 1 → (parent : Option ℕ) → n ≡ parent_number parent → Some below ≡ parent
some_parent n below some less None is = absurd (some is)
some_parent n below some less (Some parent) is = let same : below ≡ parent = omega (arith, less, is) in ap Some same

-- the octets of an entity are within the stored form
pub entity_fits : (octets : List ℕ) (at : ℕ) → HasEntityAt octets at → at + 41 ≤ length octets
entity_fits octets at has =
    omega (arith, ap length has.there, length-drop at octets, length-append (stored_entity has.entity) has.rest, entity_size has.entity)

pub depth_fits : (octets : List ℕ) (at depth : ℕ) → HasEntityAt octets at → depth ≡ from_be_bytes w64 (take 8 (drop (at + 8) octets)) → depth < 2 ^ 32
depth_fits octets at depth has is =
    let there = entity_there octets at has.entity has.rest has.there in
    let small = has.small.depth in
    let same = number_read octets (at + 8) has.entity.depth _ depth there.depth (omega arith) is in
    omega (arith, same)

-- what is read of an entity is the entity
pub entity_is : (octets : List ℕ) (at p d a b e o : ℕ) (parent : Option ℕ) (shape : Shape) → p ≡ from_be_bytes w64 (take 8 (drop at octets)) → d ≡ from_be_bytes w64 (take 8 (drop (at + 8) octets))
    → a ≡ from_be_bytes w64 (take 8 (drop (at + 16) octets)) → b ≡ from_be_bytes w64 (take 8 (drop (at + 24) octets)) → e ≡ from_be_bytes w64 (take 8 (drop (at + 32) octets)) → o ≡ get_or octets (at + 40) 0
    → ((one : Option ℕ) → p ≡ parent_number one → parent ≡ one) → ((one : Shape) → o ≡ shape_octet one → shape ≡ one) → (entity : Outline) (rest : List ℕ) → drop at octets ≡ stored_entity entity ++ rest → IsEntitySmall entity
    → record { parent = parent; depth = d; at = a; body = b; end = e; shape = shape } ≡ entity
entity_is octets at p d a b e o parent shape p_is d_is a_is b_is e_is o_is parent_is shape_is entity rest there small =
    let all = entity_there octets at entity rest there in
    let depth_small = small.depth in
    let p_same = parent_is entity.parent (number_read octets at (parent_number entity.parent) _ p all.parent small.parent p_is) in
    let d_same = number_read octets (at + 8) entity.depth _ d all.depth (omega arith) d_is in
    let a_same = number_read octets (at + 16) entity.at _ a all.begin small.at a_is in
    let b_same = number_read octets (at + 24) entity.body _ b all.body small.body b_is in
    let e_same = number_read octets (at + 32) entity.end _ e all.end small.end e_is in
    let o_same = shape_is entity.shape (first_there octets (at + 40) (shape_octet entity.shape) o rest all.shape o_is) in
    rw (p_same, d_same, a_same, b_same, e_same, o_same) refl

-- ---- several

-- of whatever pieces are stored from a place on, the first ones are loaded, and the others stand here
abbrev pub PiecesLoaded : List ℕ → ℕ → ℕ → ℕ → List RopePiece → ℕ → Type 0
PiecesLoaded octets from count i loaded at =
    (pieces : List RopePiece) (rest : List ℕ) → HasPiecesAt octets from count pieces rest → (loaded ≡ take i pieces) × (drop at octets ≡ flat_map stored_piece (drop i pieces) ++ rest)

pub no_piece_loaded : (octets : List ℕ) (from count : ℕ) (loaded : List RopePiece) → loaded ≡ [] → PiecesLoaded octets from count 0 loaded from
no_piece_loaded octets from count loaded none = λ pieces rest has. (none, has.there)

nth_all : {X : Type 0} (P : X → Type 0) (xs : List X) (i : ℕ) (d : X) → i < length xs → AllByRecursion P xs → P (get_or xs i d)
nth_all P [] i d inside all = absurd (omega (arith, inside))
nth_all P (x ∷ xs) zero d inside all = all.0
nth_all P (x ∷ xs) (suc i) d inside all = nth_all P xs i d (omega (arith, inside)) all.1

next_there : {X : Type 0} (f : X → List ℕ) (octets : List ℕ) (xs : List X) (at i : ℕ) (d : X) (rest : List ℕ) → i < length xs → drop at octets ≡ flat_map f (drop i xs) ++ rest
    → drop at octets ≡ f (get_or xs i d) ++ (flat_map f (drop (i + 1) xs) ++ rest)
next_there f octets xs at i d rest inside there =
    there ∙ ap (λ all. flat_map f all ++ rest) (drop_more xs i d inside) ∙ append_assoc (f (get_or xs i d)) (flat_map f (drop (i + 1) xs)) rest

ranges-take : (pieces : List RopePiece) (n : ℕ) → range_size (take n pieces) ≤ range_size pieces
ranges-take pieces zero = omega arith
ranges-take [] (suc n) = omega arith
ranges-take (Range span ∷ pieces) (suc n) = let rest = ranges-take pieces n in omega arith
ranges-take (New octets ∷ pieces) (suc n) = let rest = ranges-take pieces n in omega arith

pub piece_next : (octets : List ℕ) (from count i at : ℕ) (loaded pieces : List RopePiece) (rest : List ℕ) → PiecesLoaded octets from count i loaded at → HasPiecesAt octets from count pieces rest → i < count → HasPieceAt octets at loaded
piece_next octets from count i at loaded pieces rest is has inside =
    let within : i < length pieces = omega (arith, has.count_is) in
    record {
      piece = get_or pieces i (New []);
      rest = flat_map stored_piece (drop (i + 1) pieces) ++ rest;
      there = next_there stored_piece octets pieces at i (New []) rest within (is pieces rest has).1;
      small = nth_all IsPieceSmall pieces i (New []) within has.small;
      ranges =
          let front = ap (λ all. range_size (all ++ get_or pieces i (New []) ∷ [])) (is pieces rest has).0 ∙ ap range_size (sym (take_more pieces i (New []) within)) in
          omega (arith, front, ranges-take pieces (i + 1), has.ranges);
    }

pub piece_loaded : (octets : List ℕ) (from count i at to : ℕ) (loaded new : List RopePiece) → PiecesLoaded octets from count i loaded at → i < count
    → ((piece : RopePiece) (rest : List ℕ) → drop at octets ≡ stored_piece piece ++ rest → IsPieceSmall piece → (new ≡ loaded ++ piece ∷ []) × (drop to octets ≡ rest)) → PiecesLoaded octets from count (i + 1) new to
piece_loaded octets from count i at to loaded new is inside loads = λ pieces rest has.
    let within : i < length pieces = omega (arith, has.count_is) in
    let so_far = is pieces rest has in
    let one = loads (get_or pieces i (New [])) (flat_map stored_piece (drop (i + 1) pieces) ++ rest) (next_there stored_piece octets pieces at i (New []) rest within so_far.1) (nth_all IsPieceSmall pieces i (New []) within has.small) in
    (one.0 ∙ ap (λ front. front ++ get_or pieces i (New []) ∷ []) so_far.0 ∙ sym (take_more pieces i (New []) within), one.1)

pub pieces_loaded : (octets : List ℕ) (from count i at : ℕ) (loaded : List RopePiece) → PiecesLoaded octets from count i loaded at → count ≤ i
    → (pieces : List RopePiece) (rest : List ℕ) → HasPiecesAt octets from count pieces rest → (loaded ≡ pieces) × (drop at octets ≡ rest)
pieces_loaded octets from count i at loaded is all pieces rest has =
    let past : length pieces ≤ i = omega (arith, has.count_is) in
    let got = is pieces rest has in
    (got.0 ∙ take_all i pieces past, got.1 ∙ ap (λ others. flat_map stored_piece others ++ rest) (drop_all i pieces past))

-- the same of entities
abbrev pub EntitiesLoaded : List ℕ → ℕ → ℕ → ℕ → List Outline → ℕ → Type 0
EntitiesLoaded octets from count i loaded at =
    (entities : List Outline) → HasEntitiesAt octets from count entities → (loaded ≡ take i entities) × (drop at octets ≡ flat_map stored_entity (drop i entities) ++ [])

no_entity : Outline
no_entity = record { parent = None; depth = 0; at = 0; body = 0; end = 0; shape = Leaf }

pub no_entity_loaded : (octets : List ℕ) (from count : ℕ) (loaded : List Outline) → loaded ≡ [] → EntitiesLoaded octets from count 0 loaded from
no_entity_loaded octets from count loaded none = λ entities has. (none, has.there ∙ sym (append-nil (flat_map stored_entity entities)))

pub entity_next : (octets : List ℕ) (from count i at : ℕ) (loaded entities : List Outline) → EntitiesLoaded octets from count i loaded at → HasEntitiesAt octets from count entities → i < count → HasEntityAt octets at
entity_next octets from count i at loaded entities is has inside =
    let within : i < length entities = omega (arith, has.count_is) in
    record {
      entity = get_or entities i no_entity;
      rest = flat_map stored_entity (drop (i + 1) entities) ++ [];
      there = next_there stored_entity octets entities at i no_entity [] within (is entities has).1;
      small = nth_all IsEntitySmall entities i no_entity within has.small;
    }

pub entity_loaded : (octets : List ℕ) (from count i at : ℕ) (loaded : List Outline) (one : Outline) → EntitiesLoaded octets from count i loaded at → i < count
    → ((entity : Outline) (rest : List ℕ) → drop at octets ≡ stored_entity entity ++ rest → IsEntitySmall entity → one ≡ entity) → EntitiesLoaded octets from count (i + 1) (loaded ++ one ∷ []) (at + 41)
entity_loaded octets from count i at loaded one is inside loads = λ entities has.
    let within : i < length entities = omega (arith, has.count_is) in
    let so_far = is entities has in
    let rest : List ℕ = flat_map stored_entity (drop (i + 1) entities) ++ [] in
    let there = next_there stored_entity octets entities at i no_entity [] within so_far.1 in
    let same = loads (get_or entities i no_entity) rest there (nth_all IsEntitySmall entities i no_entity within has.small) in
    (ap (λ last. loaded ++ last ∷ []) same ∙ ap (λ front. front ++ get_or entities i no_entity ∷ []) so_far.0 ∙ sym (take_more entities i no_entity within), following octets at (stored_entity (get_or entities i no_entity)) rest (at + 41) there refl)

pub entities_loaded : (octets : List ℕ) (from count i at : ℕ) (loaded : List Outline) → EntitiesLoaded octets from count i loaded at → count ≤ i → (entities : List Outline) → HasEntitiesAt octets from count entities → loaded ≡ entities
entities_loaded octets from count i at loaded is all entities has = (is entities has).0 ∙ take_all i entities (omega (arith, has.count_is))

-- ---- the whole

-- where the parts of a stored form are
pub record IsFormThere (octets : List ℕ) (rope : RopeValue) : Type 0 where
  pub pieces_count : drop 0 octets ≡ number (length rope.pieces) ++ (number (length rope.entities) ++ (number rope.rewritten ++ (flat_map stored_piece rope.pieces ++ flat_map stored_entity rope.entities)))
  pub entities_count : drop 8 octets ≡ number (length rope.entities) ++ (number rope.rewritten ++ (flat_map stored_piece rope.pieces ++ flat_map stored_entity rope.entities))
  pub rewritten : drop 16 octets ≡ number rope.rewritten ++ (flat_map stored_piece rope.pieces ++ flat_map stored_entity rope.entities)
  pub pieces : drop 24 octets ≡ flat_map stored_piece rope.pieces ++ flat_map stored_entity rope.entities

pub form_there : (octets : List ℕ) (rope : RopeValue) → IsStoredRope octets rope → IsFormThere octets rope
form_there octets rope is =
    let back : List ℕ = flat_map stored_piece rope.pieces ++ flat_map stored_entity rope.entities in
    let first : drop 0 octets ≡ number (length rope.pieces) ++ (number (length rope.entities) ++ (number rope.rewritten ++ back)) = none octets ∙ is.form in
    let second = following octets 0 (number (length rope.pieces)) (number (length rope.entities) ++ (number rope.rewritten ++ back)) 8 first refl in
    let third = following octets 8 (number (length rope.entities)) (number rope.rewritten ++ back) 16 second refl in
    record { pieces_count = first; entities_count = second; rewritten = third; pieces = following octets 16 (number rope.rewritten) back 24 third refl }
  where
    none : (xs : List ℕ) → drop 0 xs ≡ xs
    none [] = refl
    none (x ∷ xs) = refl

pub form_pieces : (octets : List ℕ) (rope : RopeValue) (count : ℕ) → IsStoredRope octets rope → count ≡ length rope.pieces → HasPiecesAt octets 24 count rope.pieces (flat_map stored_entity rope.entities)
form_pieces octets rope count is counted = record { there = (form_there octets rope is).pieces; count_is = sym counted; small = is.pieces; ranges = is.ranges }

pub form_entities : (octets : List ℕ) (rope : RopeValue) (at count : ℕ) → IsStoredRope octets rope → drop at octets ≡ flat_map stored_entity rope.entities → count ≡ length rope.entities → HasEntitiesAt octets at count rope.entities
form_entities octets rope at count is there counted = record { there = there; count_is = sym counted; small = is.entities }

-- the three counts that stand first
pub first_count : (octets : List ℕ) (rope : RopeValue) (count : ℕ) → IsStoredRope octets rope → count ≡ from_be_bytes w64 (take 8 (drop 0 octets)) → count ≡ length rope.pieces
first_count octets rope count is read = number_read octets 0 (length rope.pieces) _ count (form_there octets rope is).pieces_count is.counts.0 read

pub second_count : (octets : List ℕ) (rope : RopeValue) (count : ℕ) → IsStoredRope octets rope → count ≡ from_be_bytes w64 (take 8 (drop 8 octets)) → count ≡ length rope.entities
second_count octets rope count is read = number_read octets 8 (length rope.entities) _ count (form_there octets rope is).entities_count is.counts.1 read

pub third_count : (octets : List ℕ) (rope : RopeValue) (count : ℕ) → IsStoredRope octets rope → count ≡ from_be_bytes w64 (take 8 (drop 16 octets)) → count ≡ rope.rewritten
third_count octets rope count is read = number_read octets 16 rope.rewritten _ count (form_there octets rope is).rewritten is.counts.2 read

pub counts_fit : (octets : List ℕ) (rope : RopeValue) → IsStoredRope octets rope → 24 ≤ length octets
counts_fit octets rope is = let fits = number_fits octets 16 rope.rewritten _ (form_there octets rope is).rewritten in omega arith

-- what is loaded is the rope
pub rope_loaded : (octets : List ℕ) (pieces : List RopePiece) (at n m rewritten : ℕ) (outlines : List Outline) → n ≡ from_be_bytes w64 (take 8 (drop 0 octets)) → m ≡ from_be_bytes w64 (take 8 (drop 8 octets))
    → rewritten ≡ from_be_bytes w64 (take 8 (drop 16 octets)) → ((all : List RopePiece) (rest : List ℕ) → HasPiecesAt octets 24 n all rest → (pieces ≡ all) × (drop at octets ≡ rest))
    → ((all : List Outline) → HasEntitiesAt octets at m all → outlines ≡ all) → (rope : RopeValue) → IsStoredRope octets rope → record { pieces = pieces; entities = outlines; rewritten = rewritten } ≡ rope
rope_loaded octets pieces at n m rewritten outlines n_is m_is rewritten_is pieces_are outlines_are rope is =
    let first = pieces_are rope.pieces (flat_map stored_entity rope.entities) (form_pieces octets rope n is (first_count octets rope n is n_is)) in
    let second = outlines_are rope.entities (form_entities octets rope at m is first.1 (second_count octets rope m is m_is)) in
    rw (first.0, second, third_count octets rope rewritten is rewritten_is) refl

small_parents : (entities : List Outline) → AllByRecursion IsEntitySmall entities → AllByRecursion HasSmallParent entities
small_parents [] all = tt
small_parents (entity ∷ entities) all = (all.0.parent, small_parents entities all.1)

-- and so has few pieces and small parents
pub loaded_sound : (octets : List ℕ) (rope loaded : RopeValue) → loaded ≡ rope → IsStoredRope octets rope → HasFewPieces loaded.pieces loaded.rewritten × AllByRecursion HasSmallParent loaded.entities
loaded_sound octets rope loaded same is = subst (λ (one : RopeValue). HasFewPieces one.pieces one.rewritten × AllByRecursion HasSmallParent one.entities) (sym same) (is.few, small_parents rope.entities is.entities)
