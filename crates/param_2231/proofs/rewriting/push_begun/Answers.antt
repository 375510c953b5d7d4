use Rattle.std.proofs.Common.{sym, ◌∙◌}
use Rattle.std.specs.Prelude.{codes}
use Rattle.std.proofs.lemmas.Result.{on_ok_weaker}
use Rattle.param_grammar.specs.Places.{piece_in}
use Rattle.param_2231.proofs.GivenLemmas.{place_is, unit_placed, param_named}
use Rattle.param_2231.proofs.rewriting.push_begun.Goals as goal

pub push_param-requires : goal.push_param-requires
push_param-requires c = unit_placed c.requires.placed.0 c.args.number _ (c.in_ok-unit.ensures c.requires.placed.0 c.requires.placed.1)

pub returns : goal.returns
returns c = λ pieces has.
    let is = place_is c.args.text.now c.args.placed.now pieces c.args.number c.index.result.now has c.requires.number c.index.ensures in
    let named = c.as_slice.ensures ∙ c.in_ok-name.ensures ∙ sym (c.base_at.ensures (piece_in pieces c.args.number) is) in
    on_ok_weaker c.push_param.result (param_named (codes ";") c.args.is_doubled _ _ _ _ _ _ named (c.in_ok-unit.ensures pieces has)) c.push_param.ensures
