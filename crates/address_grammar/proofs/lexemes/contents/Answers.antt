use Rattle.std.proofs.Common.{sym, ◌∙◌}
use Rattle.std.proofs.lemmas.Result.{IfOk-weaker}
use Rattle.field_tokens.specs.Lexemes.{values_of}
use Rattle.address_grammar.proofs.ContentLemmas.{contents_turn, contents_end, plain_contents}
use Rattle.address_grammar.proofs.lexemes.contents.Goals as goal

pub loop-lexeme-preserved : goal.loop-lexeme-preserved
loop-lexeme-preserved c = contents_turn (values_of c.args.lexemes) _ _ _ _ _ c.loop-lexeme.invariant c.in-Some.ensures.found c.in_ok-push_content.ensures

pub returns-then-are_plain : goal.returns-then-are_plain
returns-then-are_plain c =
    IfOk-weaker c.from_slice.result _ _ (λ made is. is ∙ c.octets.ensures ∙ plain_contents (values_of c.args.lexemes) (sym c.are_plain.ensures ∙ c.if-are_plain.true)) c.from_slice.ensures

pub returns : goal.returns
returns c = contents_end (values_of c.args.lexemes) _ _ c.loop-lexeme.invariant c.in_default.ensures.none
