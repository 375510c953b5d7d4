-- Stored forms: how many octets they have, and what stands where in them.
use Rattle.std.proofs.Common.{◌≡◌, ℕ, zero, suc, map, ◌+◌, ◌*◌, ◌^◌, ◌<◌, ◌≤◌, List, [], ◌∷◌, ◌++◌, length, take, drop, replicate, get_or, refl, sym, ap, ◌∙◌, arith, append_assoc, append-nil, length-append, length-drop, true, false, None}
use Rattle.std.specs.Prelude.{slice_range}
use Rattle.std.specs.Int.{w64, from_be_bytes}
use Rattle.std.specs.List.{AllByRecursion, flat_map}
use Rattle.std.proofs.lemmas.List.{take_at, drop_at, drop-drop, drop_more}
use Rattle.std.proofs.lemmas.Nat.{from_be_bytes-to_be_bytes_8}
use Rattle.mime_tree.specs.declared.entity.Shape.{Shape}
use Rattle.mime_tree.specs.declared.entity.Shape.TheVariants.{Leaf, Multipart, Message}
use Rattle.mime_tree.specs.Outlines.{Outline, seen_outline}
use Rattle.mime_tree.specs.declared.outlines.Outline.{Outline as OutlineOf}
use Rattle.mime_tree.proofs.NewEntities.{slice_length}
use Rattle.mail_wire.specs.declared.values.Span.{Span}
use Rattle.surrogate_rope.specs.declared.pieces.Piece.{Piece}
use Rattle.surrogate_rope.specs.private.Pieces.{piece_of}
use Rattle.surrogate_rope.specs.Ropes.{RopeValue, RopePiece, Range, New, new_size}
use Rattle.surrogate_rope.specs.private.Storing.{StoresPiece, StoresPieces, StoresEntity, StoresEntities}
use Rattle.surrogate_rope.specs.Stored.{number, stored_piece, parent_number, shape_octet, stored_entity, HasSmallParent, IsPieceSmall, IsEntitySmall, new_count, range_count, HasFewPieces, IsStoredRope, stored_most}

-- ---- sizes

pub number_size : (n : ℕ) → length (number n) ≡ 8
number_size n = refl

pub entity_size : (entity : Outline) → length (stored_entity entity) ≡ 41
entity_size entity = refl

entities_size : (entities : List Outline) → length (flat_map stored_entity entities) ≡ 41 * length entities
entities_size [] = refl
entities_size (entity ∷ entities) = omega (arith, length-append (stored_entity entity) (flat_map stored_entity entities), entity_size entity, entities_size entities)

pieces_size : (pieces : List RopePiece) → length (flat_map stored_piece pieces) ≡ 17 * range_count pieces + 9 * new_count pieces + new_size pieces
pieces_size [] = refl
pieces_size (Range span ∷ pieces) = omega (arith, length-append (stored_piece (Range span)) (flat_map stored_piece pieces), pieces_size pieces)
pieces_size (New octets ∷ pieces) =
    omega (arith, length-append (stored_piece (New octets)) (flat_map stored_piece pieces), length-append (number (length octets)) octets, number_size (length octets), pieces_size pieces)

-- The stored form of a rope is small.
pub stored_small : (octets : List ℕ) (rope : RopeValue) → IsStoredRope octets rope → length octets ≤ stored_most rope
stored_small octets rope is =
    let entities = flat_map stored_entity rope.entities in
    let pieces = flat_map stored_piece rope.pieces in
    let all = ap length is.form in
    let first = length-append (number (length rope.pieces)) (number (length rope.entities) ++ (number rope.rewritten ++ (pieces ++ entities))) in
    let second = length-append (number (length rope.entities)) (number rope.rewritten ++ (pieces ++ entities)) in
    let third = length-append (number rope.rewritten) (pieces ++ entities) in
    let few = is.few.0 in
    let ranges = is.few.1 in
    omega (arith, all, first, second, third, length-append pieces entities, pieces_size rope.pieces, entities_size rope.entities, number_size (length rope.pieces), number_size (length rope.entities), number_size rope.rewritten)

-- ---- what is put last

-- three numbers, the pieces and the entities
pub form_whole : (first second third pieces entities made : List ℕ) → made ≡ ((([] ++ first) ++ second) ++ third) ++ pieces → made ++ entities ≡ first ++ (second ++ (third ++ (pieces ++ entities)))
form_whole first second third pieces entities made is =
    ap (λ front. front ++ entities) is ∙ append_assoc ((first ++ second) ++ third) pieces entities ∙ append_assoc (first ++ second) third (pieces ++ entities) ∙ append_assoc first second (third ++ (pieces ++ entities))

pub all_push : {X : Type 0} (P : X → Type 0) (xs : List X) (x : X) → AllByRecursion P xs → P x → AllByRecursion P (xs ++ x ∷ [])
all_push P [] x all is = (is, tt)
all_push P (y ∷ xs) x all is = (all.0, all_push P xs x all.1 is)

pub flat_push : {X : Type 0} (f : X → List ℕ) (xs : List X) (x : X) → flat_map f (xs ++ x ∷ []) ≡ flat_map f xs ++ f x
flat_push f [] x = append-nil (f x)
flat_push f (y ∷ xs) x = ap (λ rest. f y ++ rest) (flat_push f xs x) ∙ sym (append_assoc (f y) (flat_map f xs) (f x))

-- ---- what stands where

-- eight octets in a row
pub eight : (octets : List ℕ) (at : ℕ) → at + 8 ≤ length octets
    → get_or octets at 0 ∷ get_or octets (at + 1) 0 ∷ get_or octets (at + 2) 0 ∷ get_or octets (at + 3) 0 ∷ get_or octets (at + 4) 0 ∷ get_or octets (at + 5) 0 ∷ get_or octets (at + 6) 0 ∷ get_or octets (at + 7) 0 ∷ []
    ≡ take 8 (drop at octets)
eight octets at fits =
    let one = next at (at + 1) (omega arith) (omega arith) in
    let two = next (at + 1) (at + 2) (omega arith) (omega arith) in
    let three = next (at + 2) (at + 3) (omega arith) (omega arith) in
    let four = next (at + 3) (at + 4) (omega arith) (omega arith) in
    let five = next (at + 4) (at + 5) (omega arith) (omega arith) in
    let six = next (at + 5) (at + 6) (omega arith) (omega arith) in
    let seven = next (at + 6) (at + 7) (omega arith) (omega arith) in
    let last = next (at + 7) (at + 8) (omega arith) (omega arith) in
    sym (ap (take 8) (one ∙ ap (λ rest. get_or octets at 0 ∷ rest) (two ∙ ap (λ rest. get_or octets (at + 1) 0 ∷ rest) (three ∙ ap (λ rest. get_or octets (at + 2) 0 ∷ rest) (four ∙ ap (λ rest. get_or octets (at + 3) 0 ∷ rest)
    (five ∙ ap (λ rest. get_or octets (at + 4) 0 ∷ rest) (six ∙ ap (λ rest. get_or octets (at + 5) 0 ∷ rest) (seven ∙ ap (λ rest. get_or octets (at + 6) 0 ∷ rest) last))))))))
  where
    next : (i to : ℕ) → i + 1 ≡ to → i < length octets → drop i octets ≡ get_or octets i 0 ∷ drop to octets
    next i to sum inside = drop_more octets i 0 inside ∙ ap (λ n. get_or octets i 0 ∷ drop n octets) sum

pub number_fits : (octets : List ℕ) (at n : ℕ) (rest : List ℕ) → drop at octets ≡ number n ++ rest → at + 8 ≤ length octets
number_fits octets at n rest there = omega (arith, ap length there, length-drop at octets, length-append (number n) rest, number_size n)

pub number_read : (octets : List ℕ) (at n : ℕ) (rest : List ℕ) (read : ℕ) → drop at octets ≡ number n ++ rest → n < 2 ^ 64 → read ≡ from_be_bytes w64 (take 8 (drop at octets)) → read ≡ n
number_read octets at n rest read there small is = is ∙ ap (from_be_bytes w64) (ap (take 8) there ∙ take_at (number n) rest 8 (number_size n)) ∙ from_be_bytes-to_be_bytes_8 n small

pub following : (octets : List ℕ) (at : ℕ) (text rest : List ℕ) (to : ℕ) → drop at octets ≡ text ++ rest → at + length text ≡ to → drop to octets ≡ rest
following octets at text rest to there sum = ap (λ n. drop n octets) (sym sum) ∙ sym (drop-drop (length text) at octets) ∙ ap (drop (length text)) there ∙ drop_at text rest (length text) refl

-- the first octet at a place
pub first_there : (octets : List ℕ) (at x y : ℕ) (rest : List ℕ) → drop at octets ≡ x ∷ rest → y ≡ get_or octets at 0 → y ≡ x
first_there octets at x y rest there is =
    let inside : at < length octets = omega (arith, ap length there, length-drop at octets) in
    let both : get_or octets at 0 ∷ drop (at + 1) octets ≡ x ∷ rest = sym (drop_more octets at 0 inside) ∙ there in
    is ∙ (let same : get_or octets at 0 ≡ x = cc both in same)

-- a shape is told by its octet
pub one_shape : (shape other : Shape) → shape_octet shape ≡ shape_octet other → shape ≡ other
one_shape Leaf Leaf is = refl
one_shape Leaf Multipart is = absurd (omega (arith, is))
one_shape Leaf Message is = absurd (omega (arith, is))
one_shape Multipart Leaf is = absurd (omega (arith, is))
one_shape Multipart Multipart is = refl
one_shape Multipart Message is = absurd (omega (arith, is))
one_shape Message Leaf is = absurd (omega (arith, is))
one_shape Message Multipart is = absurd (omega (arith, is))
one_shape Message Message is = refl

-- ---- one after another

pub no_entity_stored : (old : List ℕ) → StoresEntities old old []
no_entity_stored old = record { form = sym (append-nil old); small = tt }

pub entity_stored : (old middle new : List ℕ) (entities : List Outline) (entity : Outline) → StoresEntities old middle entities → StoresEntity middle new entity → StoresEntities old new (entities ++ entity ∷ [])
entity_stored old middle new entities entity so_far one = record {
  form = one.form ∙ ap (λ front. front ++ stored_entity entity) so_far.form ∙ append_assoc old (flat_map stored_entity entities) (stored_entity entity) ∙ ap (λ back. old ++ back) (sym (flat_push stored_entity entities entity));
  small = all_push IsEntitySmall entities entity so_far.small one.small;
}

-- the first pieces are
pub record StoresFirst (old new : List ℕ) (pieces : List RopePiece) : Type 0 where
  pub form : new ≡ old ++ flat_map stored_piece pieces
  pub small : AllByRecursion IsPieceSmall pieces

pub no_piece_stored : (old : List ℕ) → StoresFirst old old []
no_piece_stored old = record { form = sym (append-nil old); small = tt }

pub piece_stored : (old middle new : List ℕ) (pieces : List RopePiece) (piece : RopePiece) → StoresFirst old middle pieces → StoresPiece middle new piece → StoresFirst old new (pieces ++ piece ∷ [])
piece_stored old middle new pieces piece so_far one = record {
  form = one.form ∙ ap (λ front. front ++ stored_piece piece) so_far.form ∙ append_assoc old (flat_map stored_piece pieces) (stored_piece piece) ∙ ap (λ back. old ++ back) (sym (flat_push stored_piece pieces piece));
  small = all_push IsPieceSmall pieces piece so_far.small one.small;
}

-- all parts are put one after another
pub all_stored : (rope : RopeValue) (n m : ℕ) (three four made : List ℕ) → n ≡ length rope.pieces → m ≡ length rope.entities → three ≡ [] ++ (number n ++ (number m ++ number rope.rewritten))
    → StoresPieces three four rope.pieces → StoresEntities four made rope.entities → HasFewPieces rope.pieces rope.rewritten → n < 2 ^ 64 → m < 2 ^ 64 → rope.rewritten < 2 ^ 64 → IsStoredRope made rope
all_stored rope n m three four made n_is m_is three_is pieces entities few n_fits m_fits rewritten_fits =
    let front : three ≡ (([] ++ number (length rope.pieces)) ++ number (length rope.entities)) ++ number rope.rewritten =
    three_is ∙ ap (λ k. number k ++ (number m ++ number rope.rewritten)) n_is ∙ ap (λ k. number (length rope.pieces) ++ (number k ++ number rope.rewritten)) m_is in
    let whole : four ≡ ((([] ++ number (length rope.pieces)) ++ number (length rope.entities)) ++ number rope.rewritten) ++ flat_map stored_piece rope.pieces =
    pieces.form ∙ ap (λ text. text ++ flat_map stored_piece rope.pieces) front in
    record {
      form = entities.form ∙ form_whole (number (length rope.pieces)) (number (length rope.entities)) (number rope.rewritten) (flat_map stored_piece rope.pieces) (flat_map stored_entity rope.entities) four whole;
      few = few;
      ranges = pieces.ranges;
      counts = (omega (arith, n_is, n_fits), omega (arith, m_is, m_fits), rewritten_fits);
      pieces = pieces.small;
      entities = entities.small;
    }

-- ---- one piece, one entity

pub counts_formed : (n m k : ℕ) (one two form : List ℕ) → one ≡ take 0 (replicate 24 0) ++ (number n ++ drop 8 (replicate 24 0)) → two ≡ take 8 one ++ (number m ++ drop 16 one)
    → form ≡ take 16 two ++ (number k ++ drop 24 two) → form ≡ number n ++ (number m ++ number k)
counts_formed n m k one two form one_is two_is form_is = rw (form_is, two_is, one_is) refl

pub range_formed : (range : Span) (one form : List ℕ) → one ≡ take 1 (replicate 17 0) ++ (number range.at ++ drop 9 (replicate 17 0)) → form ≡ take 9 one ++ (number range.len ++ drop 17 one)
    → form ≡ stored_piece (Range range)
range_formed range one form one_is form_is = rw (form_is, one_is) refl

pub entity_formed : (entity : Outline) (shape : ℕ) (a b c d form : List ℕ) → shape ≡ shape_octet entity.shape → a ≡ take 0 (replicate 41 shape) ++ (number (parent_number entity.parent) ++ drop 8 (replicate 41 shape))
    → b ≡ take 8 a ++ (number entity.depth ++ drop 16 a) → c ≡ take 16 b ++ (number entity.at ++ drop 24 b) → d ≡ take 24 c ++ (number entity.body ++ drop 32 c)
    → form ≡ take 32 d ++ (number entity.end ++ drop 40 d) → form ≡ stored_entity entity
entity_formed entity shape a b c d form shape_is a_is b_is c_is d_is form_is = rw (form_is, d_is, c_is, b_is, a_is, shape_is) refl

pub new_stored : (octets : List ℕ) (piece : Piece) (old a new : List ℕ) → a ≡ old ++ 1 ∷ number piece.range.len → new ≡ a ++ slice_range octets piece.range.at (piece.range.at + piece.range.len)
    → piece.range.at + piece.range.len ≤ length octets → piece.is_new ≡ true → piece.range.len < 2 ^ 64 → StoresPiece old new (piece_of octets piece)
new_stored octets piece old a new a_is new_is fits is_new small =
    let text : List ℕ = slice_range octets piece.range.at (piece.range.at + piece.range.len) in
    let size : length text ≡ piece.range.len = omega (arith, slice_length octets piece.range.at (piece.range.at + piece.range.len) (omega arith) fits) in
    let form : new ≡ old ++ (1 ∷ (number (length text) ++ text)) =
    new_is ∙ ap (λ front. front ++ text) a_is ∙ append_assoc old (1 ∷ number piece.range.len) text ∙ ap (λ n. old ++ (1 ∷ (number n ++ text))) (sym size) in
    rw is_new (record { form = form; small = omega (arith, size, small) })

pub range_stored : (octets : List ℕ) (piece : Piece) (old new : List ℕ) → new ≡ old ++ stored_piece (Range piece.range) → piece.is_new ≡ false → IsPieceSmall (Range piece.range) → StoresPiece old new (piece_of octets piece)
range_stored octets piece old new new_is is_old small = rw is_old (record { form = new_is; small = small })

-- what is read where there is none
abbrev pub no_outline : OutlineOf
no_outline = record { parent = None; depth = 0; at = 0; body = 0; end = 0; shape = Leaf }

abbrev pub no_piece : Piece
no_piece = record { offset = 0; is_new = false; range = record { at = 0; len = 0 } }

-- each entity's parent can be stored
pub nth_parent : (entities : List OutlineOf) (i : ℕ) (d : OutlineOf) → AllByRecursion HasSmallParent (map seen_outline entities) → i < length entities → HasSmallParent (seen_outline (get_or entities i d))
nth_parent [] i d all inside = absurd (omega (arith, inside))
nth_parent (entity ∷ entities) zero d all inside = all.0
nth_parent (entity ∷ entities) (suc i) d all inside = nth_parent entities i d all.1 (omega (arith, inside))
