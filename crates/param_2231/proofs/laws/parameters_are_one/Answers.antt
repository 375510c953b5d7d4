use Rattle.param_grammar.proofs.BodyLemmas.{HasBody-once, HasParams-once}
use Rattle.param_2231.proofs.laws.parameters_are_one.Goals as goal

pub returns-clause-pieces : goal.returns-clause-pieces
returns-clause-pieces c = HasBody-once

pub returns-clause-parameters : goal.returns-clause-parameters
returns-clause-parameters c = HasParams-once
