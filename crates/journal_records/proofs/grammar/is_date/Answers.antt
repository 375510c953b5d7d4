use Rattle.std.proofs.Common.{sym, ◌∙◌, arith, refl}
use Rattle.journal_records.proofs.GrammarLemmas.{FitsBelow-next}
use Rattle.journal_records.proofs.grammar.is_date.Goals as goal

pub loop-at-init : goal.loop-at-init
loop-at-init c = λ at within. absurd (omega (arith, within))

pub loop-at-preserved : goal.loop-at-preserved
loop-at-preserved c = FitsBelow-next c.args.date.now c.loop-at.at c.loop-at.invariant (sym c.fits_letter.ensures ∙ c.if-not-fits_letter.false)

pub returns : goal.returns
returns c = (
  λ _. record {
    len = c.if-date-ne26.false;
    shape = λ at within. c.loop-at.invariant at (omega (arith, within, c.loop-at-test.false));
    month = sym c.if-not-is_month.ensures;
  },
  λ _. refl,
)
