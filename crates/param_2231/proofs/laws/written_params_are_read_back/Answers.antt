use Rattle.param_2231.proofs.ParamsAgain.{ParamsPieces-read}
use Rattle.param_2231.proofs.laws.written_params_are_read_back.Goals as goal

pub returns : goal.returns
returns c = ParamsPieces-read
