use Rattle.std.proofs.Common.{false}
use Rattle.std.proofs.lemmas.Result.{on_ok_weaker}
use Rattle.encoded_words.specs.private.Values.{value_of}
use Rattle.param_2231.specs.Layout.{ParamPieces}
use Rattle.param_2231.proofs.WrittenParamLemmas.{ComesInParams-writable, adds_reads, after_nothing}
use Rattle.param_2231.proofs.writing.write_param.Goals as goal

pub push_param-requires : goal.push_param-requires
push_param-requires c = ComesInParams-writable c.args.name.now (value_of c.args.value.now) c.requires

pub returns-clause-layout : goal.returns-clause-layout
returns-clause-layout c = on_ok_weaker c.push_param.result (after_nothing (ParamPieces false c.args.name.now (value_of c.args.value.now)) _ _) c.push_param.ensures

pub returns-clause-read_back : goal.returns-clause-read_back
returns-clause-read_back c =
    on_ok_weaker c.push_param.result (λ adds. adds_reads c.args.name.now (value_of c.args.value.now) _ _ c.requires (after_nothing (ParamPieces false c.args.name.now (value_of c.args.value.now)) _ _ adds)) c.push_param.ensures
