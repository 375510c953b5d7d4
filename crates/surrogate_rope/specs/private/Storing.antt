-- The steps that store a rope, and that load it.
use Rattle.std.specs.Prelude.{◌≡◌, ◌<◌, ◌^◌, ℕ, List, [], ◌∷◌, ◌++◌, length, drop}
use Rattle.std.specs.List.{AllByRecursion, flat_map}
use Rattle.mime_tree.specs.Outlines.{Outline}
use Rattle.surrogate_rope.specs.Ropes.{RopePiece, range_size}
use Rattle.surrogate_rope.specs.Stored.{stored_piece, stored_entity, IsPieceSmall, IsEntitySmall}

pub record StoresPiece (old new : List ℕ) (piece : RopePiece) : Type 0 where
  pub form : new ≡ old ++ stored_piece piece
  pub small : IsPieceSmall piece

pub record StoresPieces (old new : List ℕ) (pieces : List RopePiece) : Type 0 where
  pub form : new ≡ old ++ flat_map stored_piece pieces
  pub small : AllByRecursion IsPieceSmall pieces
  pub ranges : range_size pieces < 2 ^ 63

pub record StoresEntity (old new : List ℕ) (entity : Outline) : Type 0 where
  pub form : new ≡ old ++ stored_entity entity
  pub small : IsEntitySmall entity

-- a piece is stored at this place, which may follow those that are loaded
pub record HasPieceAt (octets : List ℕ) (at : ℕ) (loaded : List RopePiece) : Type 0 where
  pub piece : RopePiece
  pub rest : List ℕ
  pub there : drop at octets ≡ stored_piece piece ++ rest
  pub small : IsPieceSmall piece
  pub ranges : range_size (loaded ++ piece ∷ []) < 2 ^ 63

pub record HasEntityAt (octets : List ℕ) (at : ℕ) : Type 0 where
  pub entity : Outline
  pub rest : List ℕ
  pub there : drop at octets ≡ stored_entity entity ++ rest
  pub small : IsEntitySmall entity

pub record StoresEntities (old new : List ℕ) (entities : List Outline) : Type 0 where
  pub form : new ≡ old ++ flat_map stored_entity entities
  pub small : AllByRecursion IsEntitySmall entities

-- so many pieces are stored from this place on, with the rest after them
pub record HasPiecesAt (octets : List ℕ) (at count : ℕ) (pieces : List RopePiece) (rest : List ℕ) : Type 0 where
  pub there : drop at octets ≡ flat_map stored_piece pieces ++ rest
  pub count_is : length pieces ≡ count
  pub small : AllByRecursion IsPieceSmall pieces
  pub ranges : range_size pieces < 2 ^ 63

-- so many entities are, and nothing after them
pub record HasEntitiesAt (octets : List ℕ) (at count : ℕ) (entities : List Outline) : Type 0 where
  pub there : drop at octets ≡ flat_map stored_entity entities
  pub count_is : length entities ≡ count
  pub small : AllByRecursion IsEntitySmall entities
