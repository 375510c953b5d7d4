use Rattle.std.proofs.Common.{sym, ap, ◌∙◌}
use Rattle.std.proofs.lemmas.Bool.Decides.{Decides-eqb}
use Rattle.std.proofs.lemmas.List.{drop_all}
use Rattle.std.proofs.lemmas.Slice.Eq.{ends_is}
use Rattle.imap_mailboxes.specs.Patterns.{is_match}
use Rattle.imap_mailboxes.specs.private.Runs.{plain_runs, after_wildcards}
use Rattle.imap_mailboxes.proofs.PatternLemmas.{match-last}
use Rattle.imap_mailboxes.proofs.CutLemmas.{run_met, run_missing}
use Rattle.imap_mailboxes.proofs.patterns.has_runs.Goals as goal

pub loop-run-preserved : goal.loop-run-preserved
loop-run-preserved c =
    run_met c.args.octets.now c.args.runs.now c.args.last.now c.loop-run.rest.now c.in-Some.following.now c.loop-run.run-index (record { at = 0; len = 0 }) c.loop-run-test.true c.in-Some.ensures
    ∙ c.loop-run.invariant

pub returns-in_default : goal.returns-in_default
returns-in_default c =
    sym (sym c.loop-run.invariant ∙ run_missing c.args.octets.now c.args.runs.now c.args.last.now c.loop-run.rest.now c.loop-run.run-index (record { at = 0; len = 0 }) c.loop-run-test.true c.in_default.ensures)

pub returns : goal.returns
returns c =
    let ends = ends_is Decides-eqb c.loop-run.rest.now c.args.last.now c.ends_with.result c.ends_with.ensures.value in
    match-last c.args.last.now c.loop-run.rest.now c.ends_with.result c.requires.last ends.0 ends.1
    ∙ (ap (λ spans. is_match (after_wildcards (plain_runs c.args.octets.now spans) c.args.last.now) c.loop-run.rest.now) (sym (drop_all c.loop-run.run-index c.args.runs.now c.loop-run-test.false)) ∙ c.loop-run.invariant)
