use Rattle.std.proofs.Common.{sym, subst, ◌∙◌}
use Rattle.utf8_reports.specs.private.Reading.{BeginsLine}
use Rattle.utf8_reports.proofs.Prefixes.{none_if, after_same}
use Rattle.utf8_reports.proofs.fields.field_body.Goals as goal

pub returns-clause-none : goal.returns-clause-none
returns-clause-none c =
    none_if _ _ c.split_line.result
    (λ none body rest is. none body rest (subst (λ after. BeginsLine after body rest) (after_same c.args.name.now is.after c.in-Some.after.now (sym is.named ∙ c.in-Some.ensures.found)) is.line))
    c.split_line.ensures.none
