use Rattle.std.proofs.Common.{sym, ◌∙◌}
use Rattle.param_grammar.specs.Bodies.{solid}
use Rattle.param_grammar.specs.private.Marked.{tokens_of}
use Rattle.param_grammar.proofs.PlaceLemmas.{no_name, no_equals, not_named, no_value, IsSides-found}
use Rattle.param_grammar.proofs.places.split_parameter.Goals as goal

pub returns-in_default-clause-none : goal.returns-in_default-clause-none
returns-in_default-clause-none c = no_name c.args.text.now (solid (tokens_of c.args.section)) c.in_default.ensures.none

pub returns-in_default-next_solid-clause-none : goal.returns-in_default-next_solid-clause-none
returns-in_default-next_solid-clause-none c = no_equals c.args.text.now (solid (tokens_of c.args.section)) _ c.in-Some.atom c.in-Some.ensures.found c.in_default-next_solid.ensures.none

pub returns-then-not-is_named-clause-none : goal.returns-then-not-is_named-clause-none
returns-then-not-is_named-clause-none c =
    not_named c.args.text.now (solid (tokens_of c.args.section)) _ _ c.in-Some.atom c.in-Some-next_solid.equals c.in-Some.ensures.found c.in-Some-next_solid.ensures.found (sym c.is_named.ensures ∙ c.if-not-is_named.true)

pub returns-in_default-value_span-clause-none : goal.returns-in_default-value_span-clause-none
returns-in_default-value_span-clause-none c =
    no_value c.args.text.now (solid (tokens_of c.args.section)) _ _ c.in-Some.atom c.in-Some-next_solid.equals c.in-Some.ensures.found c.in-Some-next_solid.ensures.found c.in_default-value_span.ensures.none

pub returns-clause-found : goal.returns-clause-found
returns-clause-found c =
    IsSides-found c.args.text.now (tokens_of c.args.section) _ _ c.in-Some.atom c.in-Some-next_solid.equals _ _ c.in-Some.ensures.found c.in-Some-next_solid.ensures.found
    (sym c.is_named.ensures ∙ c.if-not-is_named.false) c.in-Some-value_span.ensures.found
