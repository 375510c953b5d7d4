use Rattle.std.proofs.Common.{◌≡◌, ◌++◌, ◌∙◌, List, append-nil, ap, length, sym}
use Rattle.std.specs.Iterator.Adapters.{zip_first, zip_second}
use Rattle.std.specs.Slice.Iter.{iter_rest}
use Rattle.std.proofs.lemmas.Slice.Zip.{zip_end}
use Rattle.utf8_reports.specs.declared.failure.FailedRecipient.{FailedRecipient}
use Rattle.relay_session.proofs.ReportedFailures.{failed_end}
use Rattle.relay_session.proofs.reporting.failed_of.Goals as goal

pub returns : goal.returns
returns c =
    let unsettled = c.args.queued.now.unsettled in
    let outcomes = c.args.outcomes.now in
    let yielded = c.loop-one.yielded in
    let items = c.into_iter-one-iterator.result in
    let others = c.zip-one-items.ensures.second.0 in
    let first : iter_rest (zip_first items) ≡ unsettled = cc in
    let second : iter_rest (zip_second items) ≡ outcomes = cc in
    let all = zip_end unsettled outcomes yielded items c.loop-one.one-iterator c.next.new.self c.next.result first second c.loop-one.yielded_by c.in-None.is c.next.ensures.steps in
    sym (c.loop-one.invariant ∙ ap (λ (l : List FailedRecipient). c.loop-one.failed ++ l) (failed_end (length yielded) unsettled outcomes all) ∙ append-nil c.loop-one.failed)
