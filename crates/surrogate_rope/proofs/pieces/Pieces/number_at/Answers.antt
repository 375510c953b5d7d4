use Rattle.std.proofs.Common.{subst, nat_le, rules}
use Rattle.std.proofs.lemmas.List.Sorted.{IsPartitionPoint-from_clause, IsPartitionedBy-leb}
use Rattle.surrogate_rope.specs.declared.pieces.Piece.{Piece}
use Rattle.surrogate_rope.specs.private.Pieces.{IsInPiece}
use Rattle.surrogate_rope.proofs.PieceLemmas.{whole_number, offsets_rise}
use Rattle.surrogate_rope.proofs.pieces.Pieces.number_at.Goals as goal

pub returns : goal.returns
returns c =
    let pieces = c.self.inside.pieces.items in
    let point = IsPartitionPoint-from_clause (λ (y : Piece). nat_le y.offset c.args.place) pieces c.partition_point-following.result (rw c.deref.ensures.value at c.partition_point-following.ensures.partitioned)
    (IsPartitionedBy-leb (λ (y : Piece). y.offset) pieces c.args.place (offsets_rise c.self.inside.octets pieces c.self.inside.size c.self.invariant.placed)) (λ a r q k. search rules) in
    subst (λ seen. IsInPiece seen c.args.place c.saturating_sub.result) c.self.view_is
    (whole_number c.self.inside.octets pieces c.self.inside.size c.args.place c.partition_point-following.result c.saturating_sub.result c.self.invariant (rw c.self.view_is c.requires) (rw c.deref.ensures.value at c.partition_point-following.ensures.bound)
    point.0 point.1 c.saturating_sub.ensures)
