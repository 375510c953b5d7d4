use Rattle.std.proofs.Common.{[], sym}
use Rattle.std.proofs.lemmas.Result.{IfOk-weaker}
use Rattle.field_tokens.specs.Lexemes.{values_of}
use Rattle.address_grammar.specs.Phrases.{phrase_items}
use Rattle.address_grammar.proofs.PhraseReading.{fresh_reads, token_stands, rest_stands, token_reads, rest_reads}
use Rattle.address_grammar.proofs.phrases.read_phrase.Goals as goal

pub loop-lexeme-init : goal.loop-lexeme-init
loop-lexeme-init c = (c.requires.each, fresh_reads _ _ c.new-reader.ensures)

pub take-requires : goal.take-requires
take-requires c = token_stands _ _ _ c.in-Some.ensures.found c.loop-lexeme.invariant.0

pub loop-lexeme-preserved : goal.loop-lexeme-preserved
loop-lexeme-preserved c = (
  rest_stands _ _ _ c.in-Some.ensures.found c.loop-lexeme.invariant.0,
  c.in_ok-take.ensures (phrase_items (values_of c.args.lexemes)) _ [] (sym c.begins_free.ensures) (token_reads (phrase_items (values_of c.args.lexemes)) [] c.loop-lexeme.reader _ _ _ c.in-Some.ensures.found c.loop-lexeme.invariant.1),
)

pub returns : goal.returns
returns c = IfOk-weaker c.finish.result _ _ (λ x p. rw (p) (rest_reads (phrase_items (values_of c.args.lexemes)) [] c.loop-lexeme.reader _ c.in_default.ensures.none c.loop-lexeme.invariant.1)) c.finish.ensures
