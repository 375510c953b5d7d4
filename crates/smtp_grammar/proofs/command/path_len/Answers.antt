use Rattle.std.proofs.Common.{sym, ap, ◌∙◌, ◌+◌, drop, arith}
use Rattle.std.specs.Option.{option_map}
use Rattle.smtp_grammar.specs.declared.command.Place.{Place}
use Rattle.smtp_grammar.specs.Commands.{path_len}
use Rattle.smtp_grammar.proofs.PathLemmas.{turn-ends, turn-comment, turn-next, turn-none}
use Rattle.smtp_grammar.proofs.command.path_len.Goals as goal

pub returns-then-stands_plain-clause-len : goal.returns-then-stands_plain-clause-len
returns-then-stands_plain-clause-len c = turn-ends _ _ _ _ c.args.text.now c.loop-octet.invariant.goes c.loop-octet-test.true (sym c.stands_plain.ensures ∙ c.if-stands_plain.true)

pub returns-then-stands_plain-2-clause-len : goal.returns-then-stands_plain-2-clause-len
returns-then-stands_plain-2-clause-len c =
    turn-comment _ _ _ _ c.args.text.now c.loop-octet.invariant.goes c.loop-octet-test.true (sym c.stands_plain.ensures ∙ c.if-stands_plain.false) (sym c.stands_plain-in-loop-octet.ensures ∙ c.if-stands_plain-2.true)

pub loop-octet-preserved : goal.loop-octet-preserved
loop-octet-preserved c = record {
  counts = omega arith;
  goes =
      turn-next _ _ _ _ c.args.text.now c.loop-octet.invariant.goes c.loop-octet-test.true (sym c.stands_plain.ensures ∙ c.if-stands_plain.false) (sym c.stands_plain-in-loop-octet.ensures ∙ c.if-stands_plain-2.false)
      ∙ ap (λ (p : Place). option_map (λ n. n + (c.loop-octet.len + 1)) (path_len p (drop (c.loop-octet.octet-index + 1) c.args.text.now))) (sym c.place_after-place.ensures);
}

pub returns-clause-len : goal.returns-clause-len
returns-clause-len c = turn-none _ _ _ _ c.args.text.now c.loop-octet.invariant.goes c.loop-octet-test.false
