use Rattle.std.proofs.Common.{◌≡◌, Err, ap, ◌∙◌}
use Rattle.std.proofs.lemmas.Result.{err_from_is_err_and}
use Rattle.param_grammar.specs.declared.ParamFault.TheVariants.{Malformed}
use Rattle.param_grammar.proofs.BodyLemmas.{HasParams-once}
use Rattle.param_grammar.proofs.ParamLemmas.{fault_is, fault_memory, HasParams-said}
use Rattle.param_grammar.proofs.reading.read_params.Goals as goal

pub returns-in_err-body-clause-malformed : goal.returns-in_err-body-clause-malformed
returns-in_err-body-clause-malformed c e main params comments has =
    let p = err_from_is_err_and c.from_residual.result c.from_residual.ensures.1 in
    let same : c.in_err-body.field-0.0 ≡ Malformed = fault_is c.from_residual.result p.0 _ p.1 p.2 e in
    c.in_err-body.ensures.malformed (ap Err same) main params (HasParams-said c.args.kind c.args.text.now main params comments has)

pub returns-in_err-body-clause-exact : goal.returns-in_err-body-clause-exact
returns-in_err-body-clause-exact c main params comments has =
    let p = err_from_is_err_and c.from_residual.result c.from_residual.ensures.1 in
    let memory = fault_memory c.in_err-body.field-0.0 (λ same. c.in_err-body.ensures.malformed (ap Err same) main params (HasParams-said c.args.kind c.args.text.now main params comments has)) in
    rw (p.1) (p.2 ∙ memory)

pub returns-in-Ok-Some-clause-ok : goal.returns-in-Ok-Some-clause-ok
returns-in-Ok-Some-clause-ok c = rw (c.in-Ok-Some.field-0-is) at (c.in-Ok-Some.ensures.found c.args.kind c.in_ok-body.ensures.ok)

pub returns-in-Ok-Some-clause-exact : goal.returns-in-Ok-Some-clause-exact
returns-in-Ok-Some-clause-exact c main params comments has =
    HasParams-once c.args.kind c.args.text.now _ main _ params _ comments (rw (c.in-Ok-Some.field-0-is) at (c.in-Ok-Some.ensures.found c.args.kind c.in_ok-body.ensures.ok)) has

pub returns-in-Ok-None-clause-malformed : goal.returns-in-Ok-None-clause-malformed
returns-in-Ok-None-clause-malformed c e main params comments has = (rw (c.in-Ok-None.field-0-is) at c.in-Ok-None.ensures.none) has.body.tokens has.body.has_tokens

pub returns-in-Ok-None-clause-exact : goal.returns-in-Ok-None-clause-exact
returns-in-Ok-None-clause-exact c main params comments has = absurd ((rw (c.in-Ok-None.field-0-is) at c.in-Ok-None.ensures.none) has.body.tokens has.body.has_tokens)
