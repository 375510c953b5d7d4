use Rattle.std.proofs.Common.{sym, arith, true≢false}
use Rattle.dsn_terms.proofs.XtextUnits.{length-shortest-some, fits-iff}
use Rattle.dsn_terms.proofs.xtext.fits_xtext.Goals as goal

pub returns-then-octets-most : goal.returns-then-octets-most
returns-then-octets-most c = (λ t. absurd (true≢false (sym t)), λ small. absurd (omega (arith, length-shortest-some c.args.octets.now, small, c.if-octets-most.true)))

pub returns : goal.returns
returns c = fits-iff c.args.octets.now c.args.most c.escaped_count.result c.escaped_count.ensures
