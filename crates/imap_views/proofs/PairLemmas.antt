-- Pairs of the parameters at places.
use Rattle.std.proofs.Common.{◌≡◌, ℕ, ◌+◌, ◌<◌, ◌≤◌, List, [], ◌∷◌, ◌++◌, length, drop, get_or, map, refl, sym, ap, ◌∙◌, subst, append_assoc, arith}
use Rattle.std.proofs.lemmas.List.{append-nil, drop_more}
use Rattle.std.proofs.Math.ListN.{drop_of_length-le}
use Rattle.param_grammar.specs.declared.Piece.{Piece}
use Rattle.param_grammar.specs.declared.places.Place.{Place}
use Rattle.param_grammar.specs.Places.{IsPlaced, ArePlaced, no_piece, piece_in}
use Rattle.param_grammar.proofs.PlaceLemmas.{ArePlaced-at, ArePlaced-length}
use Rattle.imap_views.specs.Strings.{spaced}
use Rattle.imap_views.specs.Parts.{pair_of, pairs_of}
use Rattle.imap_views.specs.Structures.{after_spaces}
use Rattle.imap_views.proofs.SpacedLemmas.{spaced_after}

-- a piece at the first place, and at the others
abbrev pub PlacedFirst : List ℕ → Place → List Place → List Piece → Type 0
PlacedFirst text first others pieces = (piece : Piece) × (more : List Piece) × IsPlaced text first piece × ArePlaced text others more × (pieces ≡ piece ∷ more)

pub placed_first : (text : List ℕ) (places others : List Place) (first : Place) (pieces : List Piece) → places ≡ first ∷ others → ArePlaced text places pieces → PlacedFirst text first others pieces
placed_first text places others first pieces e are = subst (λ ps. ArePlaced text ps pieces) e are

-- The pairs of the first places and of those before a number are made.
pub record PairsGo (text : List ℕ) (places others : List Place) (k : ℕ) (made : List ℕ) : Type 0 where
  pub some : (pieces : List Piece) × ArePlaced text others pieces
  pub goes : (pieces : List Piece) → ArePlaced text places pieces
      → (piece : Piece) × (more : List Piece) × ArePlaced text others more × (pieces ≡ piece ∷ more) × (made ++ after_spaces (map pair_of (drop k more)) ≡ 40 ∷ spaced (map pair_of pieces))

pair_begun : (piece : Piece) (more : List Piece) (opened made : List ℕ) → opened ≡ 40 ∷ [] → made ≡ opened ++ pair_of piece → made ++ after_spaces (map pair_of more) ≡ 40 ∷ spaced (map pair_of (piece ∷ more))
pair_begun piece more opened made is_opened is_made = rw (is_made, is_opened, spaced_after) refl

pub PairsGo-begun : (text : List ℕ) (places others : List Place) (first : Place) (opened made : List ℕ) → ((pieces : List Piece) × ArePlaced text places pieces) → places ≡ first ∷ others → opened ≡ 40 ∷ []
    → ((piece : Piece) → IsPlaced text first piece → made ≡ opened ++ pair_of piece) → PairsGo text places others 0 made
PairsGo-begun text places others first opened made some e is_opened puts = record {
  some = let p = placed_first text places others first some.0 e some.1 in (p.1, p.3);
  goes = λ pieces are.
      let p = placed_first text places others first pieces e are in
      (p.0, p.1, p.3, p.4, pair_begun p.0 p.1 opened made is_opened (puts p.0 p.2) ∙ ap (λ ps. 40 ∷ spaced (map pair_of ps)) (sym p.4));
}

-- the piece at a place of the others
pub placed_other : (text : List ℕ) (places others : List Place) (k : ℕ) (made : List ℕ) (d : Place) → PairsGo text places others k made → k < length others → (piece : Piece) × IsPlaced text (get_or others k d) piece
placed_other text places others k made d go below = (piece_in go.some.0 k, ArePlaced-at text others go.some.0 k d go.some.1 below)

seam : (made between new pair rest : List ℕ) → between ≡ made ++ 32 ∷ [] → new ≡ between ++ pair → new ++ rest ≡ made ++ 32 ∷ (pair ++ rest)
seam made between new pair rest e put =
    ap (λ n. n ++ rest) (put ∙ ap (λ b. b ++ pair) e) ∙ append_assoc (made ++ 32 ∷ []) pair rest ∙ append_assoc made (32 ∷ []) (pair ++ rest)

pub PairsGo-turn : (text : List ℕ) (places others : List Place) (k : ℕ) (made between new : List ℕ) (d : Place) → PairsGo text places others k made → k < length others → between ≡ made ++ 32 ∷ []
    → ((piece : Piece) → IsPlaced text (get_or others k d) piece → new ≡ between ++ pair_of piece) → PairsGo text places others (k + 1) new
PairsGo-turn text places others k made between new d go below apart puts = record {
  some = go.some;
  goes = λ pieces are.
      let g = go.goes pieces are in
      let at = ArePlaced-at text others g.1 k d g.2 below in
      let within : k < length g.1 = omega (arith, below, ArePlaced-length text others g.1 g.2) in
      let rest = after_spaces (map pair_of (drop (k + 1) g.1)) in (
        g.0,
        g.1,
        g.2,
        g.3,
        seam made between new (pair_of (piece_in g.1 k)) rest apart (puts (piece_in g.1 k) at)
            ∙ ap (λ ps. made ++ after_spaces (map pair_of ps)) (sym (drop_more g.1 k no_piece within)) ∙ g.4,
      );
}

closed : (piece : Piece) (more : List Piece) (made last : List ℕ) → made ≡ 40 ∷ spaced (map pair_of (piece ∷ more)) → last ≡ made ++ 41 ∷ [] → last ≡ pairs_of (piece ∷ more)
closed piece more made last e put = put ∙ ap (λ m. m ++ 41 ∷ []) e

pub PairsGo-end : (text : List ℕ) (places others : List Place) (k : ℕ) (made last : List ℕ) → PairsGo text places others k made → length others ≤ k → last ≡ made ++ 41 ∷ []
    → (pieces : List Piece) → ArePlaced text places pieces → last ≡ pairs_of pieces
PairsGo-end text places others k made last go past put pieces are =
    let g = go.goes pieces are in
    let end : length g.1 ≤ k = omega (arith, past, ArePlaced-length text others g.1 g.2) in
    let whole : made ≡ 40 ∷ spaced (map pair_of pieces) = sym (append-nil made) ∙ ap (λ ps. made ++ after_spaces (map pair_of ps)) (sym (drop_of_length-le g.1 end)) ∙ g.4 in
    closed g.0 g.1 made last (whole ∙ ap (λ ps. 40 ∷ spaced (map pair_of ps)) g.3) put ∙ ap pairs_of (sym g.3)
