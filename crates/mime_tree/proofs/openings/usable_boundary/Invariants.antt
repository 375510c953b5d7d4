use Rattle.std.proofs.Common.{List}
use Rattle.param_grammar.specs.declared.Piece.{Piece}
use Rattle.param_grammar.specs.Placed.{HasPlaced}
use Rattle.mime_tree.proofs.OpeningLemmas.{GoesOnFor}
use Rattle.mime_tree.proofs.openings.usable_boundary.Given as goal

abbrev pub invariant-loop-number : goal.invariant-loop-number
invariant-loop-number l = (pieces : List Piece) → HasPlaced l.text l.placed pieces → GoesOnFor pieces l.number
