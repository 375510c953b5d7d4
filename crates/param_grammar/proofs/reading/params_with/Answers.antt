use Rattle.std.proofs.Common.{map, ap, ◌∙◌}
use Rattle.param_grammar.specs.Joining.{param_value}
use Rattle.param_grammar.proofs.ParamLemmas.{HasParams-at}
use Rattle.param_grammar.proofs.reading.params_with.Goals as goal

pub params_of-requires : goal.params_of-requires
params_of-requires c = (c.requires.1.pieces, c.requires.1.has_placed)

pub returns-clause-found : goal.returns-clause-found
returns-clause-found c kind at =
    let have = rw (c.in-Some.is) at c.in_ok-comments.ensures.found in
    HasParams-at kind c.args.text.now c.args.body _ _ have.0 at have.1 have.2 (ap (map param_value) c.from_vec.ensures ∙ c.in_ok-list.ensures at.pieces at.has_placed)
