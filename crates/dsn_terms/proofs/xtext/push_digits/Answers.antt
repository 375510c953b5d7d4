use Rattle.std.proofs.Common.{arith}
use Rattle.dsn_terms.proofs.XtextUnits.{digits-pushed}
use Rattle.dsn_terms.proofs.xtext.push_digits.Goals as goal

pub returns : goal.returns
returns c = digits-pushed c.push-3.result c.args.octet _ _ _ _ _ _ (omega (arith, c.ranges.octet.fits)) c.upper_digit.ensures c.upper_digit-2.ensures c.in_ok-push.ensures.ok c.in_ok-push-2.ensures.ok c.push-3.ensures.ok
