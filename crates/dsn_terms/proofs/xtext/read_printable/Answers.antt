use Rattle.std.proofs.Common.{sym, ◌∙◌}
use Rattle.dsn_terms.proofs.XtextUnits.{not-Printable-none, not-Printable}
use Rattle.dsn_terms.proofs.xtext.read_printable.Goals as goal

pub returns-in_default-clause-none : goal.returns-in_default-clause-none
returns-in_default-clause-none c = not-Printable-none c.args.text.now (rw c.in_default.is at c.in_ok-octets.ensures.none)

pub returns-then-not-are_printable-clause-none : goal.returns-then-not-are_printable-clause-none
returns-then-not-are_printable-clause-none c =
    not-Printable c.args.text.now c.in-Some.octets c.as_slice.result.now (rw c.in-Some.is at c.in_ok-octets.ensures.found) c.as_slice.ensures (sym c.are_printable.ensures ∙ c.if-not-are_printable.true)
