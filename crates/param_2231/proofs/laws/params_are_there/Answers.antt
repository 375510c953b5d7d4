use Rattle.param_2231.proofs.ParamsSome.{ParamsPieces-some, ParamsPieces-says}
use Rattle.param_grammar.proofs.DecideParams.{decide_params}
use Rattle.param_2231.proofs.laws.params_are_there.Goals as goal

pub returns-clause-decided : goal.returns-clause-decided
returns-clause-decided c = decide_params

pub returns-clause-pieces : goal.returns-clause-pieces
returns-clause-pieces c = ParamsPieces-some

pub returns-clause-params : goal.returns-clause-params
returns-clause-params c = ParamsPieces-says
