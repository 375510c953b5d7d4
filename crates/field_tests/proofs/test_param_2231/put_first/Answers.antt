use Rattle.std.proofs.Common.{sym, subst}
use Rattle.encoded_words.specs.private.Values.{value_of}
use Rattle.param_2231.specs.WrittenParam.{ComesInParams}
use Rattle.param_2231.proofs.WrittenParamLemmas.{ComesInParams-first}
use Rattle.field_tests.proofs.test_param_2231.put_first.Goals as goal

pub write_param-requires : goal.write_param-requires
write_param-requires c =
    subst (λ name. ComesInParams name (value_of c.param-item.result.value)) (sym c.as_slice-2.ensures)
    (ComesInParams-first _ _ _ c.in-Ok.params.list c.as_slice.result.now _ c.param-item.result c.in-Ok.ensures.ok c.as_slice.ensures c.in-len1-up.len_at_least c.param-item.is)
