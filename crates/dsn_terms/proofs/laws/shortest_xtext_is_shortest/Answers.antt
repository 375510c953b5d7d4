use Rattle.dsn_terms.proofs.XtextUnits.{IsPrintableXtext-shortest, length-shortest-le}
use Rattle.dsn_terms.proofs.laws.shortest_xtext_is_shortest.Goals as goal

pub returns-clause-reads : goal.returns-clause-reads
returns-clause-reads c = IsPrintableXtext-shortest

pub returns-clause-least : goal.returns-clause-least
returns-clause-least c = length-shortest-le
