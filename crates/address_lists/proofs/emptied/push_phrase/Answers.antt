use Rattle.std.proofs.lemmas.Result.{on_ok_weaker}
use Rattle.field_tokens.specs.Lexemes.{values_of}
use Rattle.address_grammar.proofs.PhraseReading.{token_stands}
use Rattle.address_lists.proofs.UnitsOnto.{takes_start, takes_can, takes_turn, takes_last, takes_end}
use Rattle.address_lists.proofs.emptied.push_phrase.Goals as goal

pub loop-lexeme-init : goal.loop-lexeme-init
loop-lexeme-init c = takes_start _ _ _ _ c.requires.phrase c.new-reader.ensures c.requires.units

pub read-requires : goal.read-requires
read-requires c = token_stands _ _ _ c.in-Some.ensures.found c.loop-lexeme.invariant.streams.stands

pub push_said-requires-clause-said : goal.push_said-requires-clause-said
push_said-requires-clause-said c = rw (c.deref.ensures.value) (takes_can (values_of c.args.lexemes) _ _ _ _ c.loop-lexeme.reader c.read.new.self _ _ _ _ c.requires.writable.items c.loop-lexeme.invariant c.in-Some.ensures.found c.in_ok-said.ensures)

pub push_said-requires-clause-units : goal.push_said-requires-clause-units
push_said-requires-clause-units c = c.loop-lexeme.invariant.ends

pub loop-lexeme-preserved : goal.loop-lexeme-preserved
loop-lexeme-preserved c =
    takes_turn (values_of c.args.lexemes) _ _ _ _ _ _ _ _ _ _ _ _ c.requires.writable.items c.loop-lexeme.invariant c.in-Some.ensures.found c.in_ok-said.ensures (rw (c.deref.ensures.value) at c.in_ok-push_said.ensures)

pub push_said-requires-2-clause-said : goal.push_said-requires-2-clause-said
push_said-requires-2-clause-said c =
    rw (c.deref-2.ensures.value) (takes_last (values_of c.args.lexemes) _ _ _ _ c.loop-lexeme.reader _ _ c.requires.writable.items c.loop-lexeme.invariant c.in_default.ensures.none c.in_ok-said-2.ensures)

pub returns : goal.returns
returns c = on_ok_weaker c.push_said-2.result
    (λ o. takes_end (values_of c.args.lexemes) _ _ _ _ _ _ c.loop-lexeme.reader _ _ c.loop-lexeme.invariant c.in_default.ensures.none c.in_ok-said-2.ensures (rw (c.deref-2.ensures.value) at o)) c.push_said-2.ensures
