use Rattle.std.proofs.Common.{◌∙◌}
use Rattle.std.proofs.lemmas.Bool.Decides.{Decides-eqb}
use Rattle.std.proofs.lemmas.Option.{IfSome_then}
use Rattle.std.proofs.lemmas.Slice.Eq.{strip_suffix_is}
use Rattle.utf8_reports.specs.Reports.{close}
use Rattle.utf8_reports.proofs.Prefixes.{some_of, none_of, none_if}
use Rattle.utf8_reports.proofs.ReportReading.{no_header, header_whole, header_last}
use Rattle.utf8_reports.proofs.reading.header_in.Goals as goal

pub returns-in_default-clause-none : goal.returns-in_default-clause-none
returns-in_default-clause-none c header whole =
    no_header c.args.octets.now c.as_slice.result.now header c.args.global (c.as_slice.ensures ∙ c.in_ok-front.ensures) c.in_default.ensures.none whole

pub returns-clause-found : goal.returns-clause-found
returns-clause-found c =
    IfSome_then c.strip_suffix.result (some_of _ _ c.strip_suffix.result (strip_suffix_is Decides-eqb c.in-Some.rest.now close c.strip_suffix.result c.strip_suffix.ensures.cases))
    (λ header last. header_whole c.args.octets.now c.as_slice.result.now c.in-Some.rest.now header.now c.args.global (c.as_slice.ensures ∙ c.in_ok-front.ensures) c.in-Some.ensures.found last)

pub returns-clause-none : goal.returns-clause-none
returns-clause-none c =
    none_if _ _ c.strip_suffix.result
    (λ none header whole.
    none header (header_last c.args.octets.now c.as_slice.result.now c.in-Some.rest.now header c.args.global (c.as_slice.ensures ∙ c.in_ok-front.ensures) c.in-Some.ensures.found whole))
    (none_of _ _ c.strip_suffix.result (strip_suffix_is Decides-eqb c.in-Some.rest.now close c.strip_suffix.result c.strip_suffix.ensures.cases))
