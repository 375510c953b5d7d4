use Rattle.param_2231.proofs.ParamWriting.{short_is}
use Rattle.param_2231.proofs.writing.is_short.Goals as goal

pub returns : goal.returns
returns c = short_is c.args.octets.now _ c.fitting.ensures
