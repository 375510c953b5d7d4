use Rattle.utf8_reports.proofs.FirstLines.{first_some, first_begins, first_none, no_line}
use Rattle.utf8_reports.proofs.fields.split_line.Goals as goal

pub returns-in_default-clause-none : goal.returns-in_default-clause-none
returns-in_default-clause-none c = first_none c.args.octets.now (c.in_default.ensures.line no_line)

pub slice_bounds-result-count : goal.slice_bounds-result-count
slice_bounds-result-count c = first_some c.args.octets.now c.in-Some.end c.in-Some.ensures.bound.1 (c.in-Some.ensures.line no_line)

pub returns-clause-found : goal.returns-clause-found
returns-clause-found c = first_begins c.args.octets.now c.in-Some.end c.in-Some.ensures.bound.1 (c.in-Some.ensures.line no_line)
