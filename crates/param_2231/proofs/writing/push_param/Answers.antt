use Rattle.std.proofs.Common.{sym, ◌∙◌}
use Rattle.std.proofs.lemmas.Result.{on_ok_weaker}
use Rattle.std.proofs.lemmas.Bool.{or_parts}
use Rattle.encoded_words.specs.private.Values.{value_of}
use Rattle.param_2231.specs.Layout.{is_short}
use Rattle.param_2231.proofs.ParamWriting.{adds_whole}
use Rattle.param_2231.proofs.writing.push_param.Goals as goal

pub returns-then-is_whole : goal.returns-then-is_whole
returns-then-is_whole c =
    on_ok_weaker c.push_whole.result (adds_whole c.args.lead.now c.args.name.now (value_of c.args.unit.now) c.args.whole _ _ (sym c.is_whole.ensures ∙ c.if-is_whole.true)) c.push_whole.ensures

pub returns : goal.returns
returns c =
    let parts = (or_parts c.args.whole (is_short (value_of c.args.unit.now)) (sym c.is_whole.ensures ∙ c.if-is_whole.false)).0 in
    rw (parts) c.push_parts.ensures
