use Rattle.param_grammar.specs.declared.ParamKind.TheVariants.{Content}
use Rattle.param_grammar.proofs.SaidTrees.{HasBodyAt-says}
use Rattle.param_2231.proofs.global_types.read_type.Goals as goal

pub returns-in-Ok-clause-found : goal.returns-in-Ok-clause-found
returns-in-Ok-clause-found c = let says = HasBodyAt-says Content c.args.text.now c.in-Ok.body c.in-Ok.ensures.ok in (_, says.0, says.1)

pub returns-in-Err-Malformed-clause-none : goal.returns-in-Err-Malformed-clause-none
returns-in-Err-Malformed-clause-none c main params comments says =
    let a = c.in-Err-Malformed.is in
    let b = c.in-Err-Malformed.field-0-is in
    c.read_body.ensures.malformed (cc (a, b)) main params says.body
