use Rattle.std.proofs.Common.{ap, ◌∙◌}
use Rattle.field_tokens.specs.Tokens.{octets_at}
use Rattle.param_grammar.specs.Names.{parts_value}
use Rattle.param_grammar.proofs.PlaceLemmas.{number_of_placed}
use Rattle.param_grammar.proofs.places.digits_of.Goals as goal

pub returns : goal.returns
returns c piece is =
    number_of_placed c.args.text.now c.args.place piece _ (parts_value c.in-Some.parts) (c.octets_of.ensures ∙ ap (octets_at c.args.text.now) c.span.ensures) c.in-Some.ensures.found is
