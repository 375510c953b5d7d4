use Rattle.param_grammar.proofs.SaidParams.{SaysParams-once}
use Rattle.param_2231.proofs.ParamsOnce.{ParamsPieces-once}
use Rattle.param_2231.proofs.laws.params_are_said_once.Goals as goal

pub returns-clause-main : goal.returns-clause-main
returns-clause-main c = λ kind text main other ps qs cs ds a b. (SaysParams-once kind text main other ps qs cs ds a b).main

pub returns-clause-params : goal.returns-clause-params
returns-clause-params c = λ kind text main other ps qs cs ds a b. (SaysParams-once kind text main other ps qs cs ds a b).params

pub returns-clause-comments : goal.returns-clause-comments
returns-clause-comments c = λ kind text main other ps qs cs ds a b. (SaysParams-once kind text main other ps qs cs ds a b).comments

pub returns-clause-pieces : goal.returns-clause-pieces
returns-clause-pieces c = ParamsPieces-once
