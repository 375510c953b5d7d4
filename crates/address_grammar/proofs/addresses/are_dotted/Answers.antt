use Rattle.std.proofs.Common.{sym, ◌∙◌}
use Rattle.address_grammar.specs.private.Lexemes.{is_part}
use Rattle.field_tokens.specs.Lexemes.{values_of}
use Rattle.address_grammar.proofs.DottedLemmas.{dot_other}
use Rattle.address_grammar.proofs.addresses.are_dotted.Goals as goal

pub returns : goal.returns
returns c =
    c.are_blank.ensures
    ∙ sym (c.loop-following.invariant ∙ dot_other (is_part c.args.allows_quoted) (values_of c.loop-following.rest) c.in_default-dot_rest.ensures.none)
