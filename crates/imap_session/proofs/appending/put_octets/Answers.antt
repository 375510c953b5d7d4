use Rattle.std.proofs.Common.{None, Some}
use Rattle.std.proofs.lemmas.Result.{err_from_is_err_and}
use Rattle.imap_session.proofs.AppendLemmas.{octets_made}
use Rattle.imap_session.proofs.appending.put_octets.Goals as goal

pub returns-in_err-append-clause-makes : goal.returns-in_err-append-clause-makes
returns-in_err-append-clause-makes g c = λ oracles are.
    let failed = err_from_is_err_and c.from_residual-in_err-append.result c.from_residual-in_err-append.ensures.1 in
    let marked = rw c.in-Some.is at c.in_ok-mark.ensures.mark in
    rw (failed.1, failed.2) (octets_made c.args.outside.now c.append.new.self (Some c.in_err-append.field-0.0) c.args.folder c.args.flags c.in-Some.mark c.args.date.now c.args.octets.now marked
    c.in_err-append.ensures.makes oracles are)

pub returns-in-Stored-clause-makes : goal.returns-in-Stored-clause-makes
returns-in-Stored-clause-makes g c =
    let marked = rw c.in-Some.is at c.in_ok-mark.ensures.mark in
    octets_made c.args.outside.now c.append.new.self None c.args.folder c.args.flags c.in-Some.mark c.args.date.now c.args.octets.now marked c.in_ok-append.ensures.makes
