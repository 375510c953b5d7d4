use Rattle.std.proofs.Common.{sym, ◌∙◌}
use Rattle.field_tokens.specs.Lexemes.{values_of}
use Rattle.address_lists.proofs.TextLemmas.{ascii_turn, ascii_stop, ascii_end}
use Rattle.address_lists.proofs.ascii_texts.are_ascii.Goals as goal

pub returns-then-not-is_ascii : goal.returns-then-not-is_ascii
returns-then-not-is_ascii c = ascii_stop (values_of c.args.lexemes) _ _ _ c.loop-lexeme.invariant c.in-Some.ensures.found (sym c.is_ascii.ensures ∙ c.if-not-is_ascii.true)

pub loop-lexeme-preserved : goal.loop-lexeme-preserved
loop-lexeme-preserved c = ascii_turn (values_of c.args.lexemes) _ _ _ c.loop-lexeme.invariant c.in-Some.ensures.found (sym c.is_ascii.ensures ∙ c.if-not-is_ascii.false)

pub returns : goal.returns
returns c = ascii_end (values_of c.args.lexemes) _ c.loop-lexeme.invariant c.in_default.ensures.none
