use Rattle.std.proofs.Common.{sym, ◌∙◌}
use Rattle.std.proofs.lemmas.Result.{on_ok_weaker}
use Rattle.field_tokens.specs.Lexemes.{values_of}
use Rattle.address_grammar.proofs.PhraseReading.{token_stands}
use Rattle.address_lists.proofs.UnitStream.{writes_start, writes_can, writes_turn, writes_last, writes_some, writes_none}
use Rattle.address_lists.proofs.writing.write_said.Goals as goal

pub loop-lexeme-init : goal.loop-lexeme-init
loop-lexeme-init c = writes_start _ _ _ c.requires.phrase c.new-reader.ensures

pub read-requires : goal.read-requires
read-requires c = token_stands _ _ _ c.in-Some.ensures.found c.loop-lexeme.invariant.streams.stands

pub write_units-requires : goal.write_units-requires
write_units-requires c =
    rw (c.deref-in-Some.ensures.value) (writes_can (values_of c.args.lexemes) _ _ c.loop-lexeme.reader c.read.new.self _ _ _ _ _ c.requires.utf8 c.loop-lexeme.invariant c.in-Some.ensures.found c.in_ok-said.ensures)

pub loop-lexeme-preserved : goal.loop-lexeme-preserved
loop-lexeme-preserved c =
    writes_turn (values_of c.args.lexemes) _ _ _ c.loop-lexeme.reader c.read.new.self _ _ _ _ _ _ c.loop-lexeme.invariant c.in-Some.ensures.found c.in_ok-said.ensures (rw (c.deref.ensures.value) at c.has_units-is_said.ensures)
    (rw (c.deref-in-Some.ensures.value) at c.in_ok-write_units.ensures)

pub write_units-requires-2 : goal.write_units-requires-2
write_units-requires-2 c =
    rw (c.deref-2.ensures.value) (writes_last (values_of c.args.lexemes) _ _ c.loop-lexeme.reader _ _ _ c.requires.utf8 c.loop-lexeme.invariant c.in_default.ensures.none c.in_ok-said-2.ensures)

pub returns-then-has_units : goal.returns-then-has_units
returns-then-has_units c =
    writes_some (values_of c.args.lexemes) _ _ _ c.loop-lexeme.reader c.loop-lexeme.is_said _ _ c.loop-lexeme.invariant c.in_default.ensures.none c.in_ok-said-2.ensures (rw (c.deref-2.ensures.value) at c.in_ok-write_units-2.ensures)
    (sym (rw (c.deref-3.ensures.value) at c.has_units.ensures) ∙ c.if-has_units.true)

pub returns : goal.returns
returns c = on_ok_weaker c.push_line.result (λ e.
    writes_none (values_of c.args.lexemes) _ _ _ _ c.loop-lexeme.reader c.loop-lexeme.is_said _ _ c.loop-lexeme.invariant c.in_default.ensures.none c.in_ok-said-2.ensures (rw (c.deref-2.ensures.value) at c.in_ok-write_units-2.ensures)
    (sym (rw (c.deref-3.ensures.value) at c.has_units.ensures) ∙ c.if-has_units.false) e) c.push_line.ensures
