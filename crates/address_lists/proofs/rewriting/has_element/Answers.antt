use Rattle.field_tokens.specs.Lexemes.{values_of}
use Rattle.address_lists.proofs.ListRewriting.{any_end}
use Rattle.address_lists.proofs.rewriting.has_element.Goals as goal

pub returns : goal.returns
returns c = any_end (values_of c.args.lexemes) _ c.loop-lexeme.invariant c.in_default.ensures.none
