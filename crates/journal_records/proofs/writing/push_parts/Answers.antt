use Rattle.std.proofs.Common.{Bor, List, ℕ}
use Rattle.std.proofs.lemmas.Result.{err_from_is_err_and}
use Rattle.journal_records.proofs.WritingLemmas.{parts_before}
use Rattle.journal_records.proofs.writing.push_parts.Goals as goal

pub returns-in_err-push_slice : goal.returns-in_err-push_slice
returns-in_err-push_slice c =
    let failed = err_from_is_err_and c.from_residual.result c.from_residual.ensures.1 in
    rw (failed.1, c.in_err-push_slice.ensures.err)
    (parts_before (λ (part : Bor (List ℕ)). part.now) c.args.parts.now c.loop-part.part-index c.args.journal.now c.loop-part.journal c.loop-part.invariant)
