use Rattle.std.proofs.Common.{sym, ◌∙◌}
use Rattle.dsn_terms.proofs.XtextUnits.{BeginsUnit-plain, BeginsUnit-after_plus}
use Rattle.dsn_terms.proofs.xtext.first_octet.Goals as goal

pub returns-then-is_xchar-clause-found : goal.returns-then-is_xchar-clause-found
returns-then-is_xchar-clause-found c = BeginsUnit-plain c.args.text.now _ _ c.in-Some.ensures.cases.0 (sym c.is_xchar.ensures ∙ c.if-is_xchar.true)

pub returns-clause-found : goal.returns-clause-found
returns-clause-found c = BeginsUnit-after_plus c.after_plus.result c.args.text.now c.in-Some.after.now c.in-Some.first.now c.in-Some.ensures.cases.0 c.if-first-ne43.false c.after_plus.ensures.found
