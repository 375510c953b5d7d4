use Rattle.std.proofs.Common.{sym, subst}
use Rattle.std.proofs.lemmas.Option.{IfSome_then}
use Rattle.utf8_reports.specs.private.Reading.{IsSomeDate}
use Rattle.utf8_reports.proofs.HeadingLines.{date_begins, date_is, date_ends}
use Rattle.utf8_reports.proofs.Prefixes.{none_if}
use Rattle.utf8_reports.proofs.reading.after_date.Goals as goal

pub returns-in_default-clause-none : goal.returns-in_default-clause-none
returns-in_default-clause-none c rest is = c.in_default.ensures.none _ _ (date_begins c.args.octets.now rest is)

pub returns-then-not-is_date-clause-none : goal.returns-then-not-is_date-clause-none
returns-then-not-is_date-clause-none c rest is =
    let same = date_is c.args.octets.now c.in-Some.date.now c.in-Some.after.now rest c.in-Some.ensures.found is in
    let date = c.is_date.ensures.1 (subst IsSomeDate (sym same.body) is.is_date) in
    let other = c.if-not-is_date.true in
    cc

pub returns-clause-found : goal.returns-clause-found
returns-clause-found c =
    IfSome_then c.following.result c.following.ensures.found
    (λ rest fixed. date_ends c.args.octets.now c.in-Some.date.now c.in-Some.after.now rest.now c.in-Some.ensures.found (c.is_date.ensures.0 c.if-not-is_date.false) fixed)

pub returns-clause-none : goal.returns-clause-none
returns-clause-none c =
    none_if _ _ c.following.result (λ none rest is. none rest (date_is c.args.octets.now c.in-Some.date.now c.in-Some.after.now rest c.in-Some.ensures.found is).rest) c.following.ensures.none
