use Rattle.std.proofs.Common.{List, map}
use Rattle.param_grammar.specs.declared.Piece.{Piece}
use Rattle.param_grammar.specs.Joining.{param_value}
use Rattle.param_grammar.specs.Placed.{HasPlaced}
use Rattle.param_grammar.proofs.ParamLemmas.{ParamsGo}
use Rattle.param_grammar.proofs.reading.params_of.Given as goal

abbrev pub invariant-loop-number : goal.invariant-loop-number
invariant-loop-number l = (pieces : List Piece) → HasPlaced l.text l.placed pieces → ParamsGo pieces l.number (map param_value l.params.items)
