use Rattle.std.proofs.Common.{ap, ◌∙◌}
use Rattle.field_tokens.specs.Tokens.{octets_at}
use Rattle.param_grammar.proofs.PlaceLemmas.{placed_by}
use Rattle.param_grammar.proofs.places.said_at.Goals as goal

pub unreachable-requires : goal.unreachable-requires
unreachable-requires c =
    (rw (c.in-None.is) at c.in_ok-said.ensures.none) c.requires.0
    (placed_by c.args.text.now c.args.place c.requires.0 _ _ (c.octets_of-name.ensures ∙ ap (octets_at c.args.text.now) c.span.ensures)
    (c.octets_of-value.ensures ∙ ap (octets_at c.args.text.now) c.span-2.ensures) c.requires.1)

pub returns : goal.returns
returns c piece is =
    (rw (c.in-Some.is) at c.in_ok-said.ensures.found) piece
    (placed_by c.args.text.now c.args.place piece _ _ (c.octets_of-name.ensures ∙ ap (octets_at c.args.text.now) c.span.ensures)
    (c.octets_of-value.ensures ∙ ap (octets_at c.args.text.now) c.span-2.ensures) is)
