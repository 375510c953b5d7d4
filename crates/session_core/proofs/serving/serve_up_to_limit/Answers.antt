use Rattle.std.proofs.lemmas.Result.{err_from_is_err_and}
use Rattle.session_core.proofs.KeepsLemmas.{Keeps-then}
use Rattle.session_core.specs.Keeps.{fault_of}
use Rattle.session_core.proofs.ServingLemmas.{start_fails}
use Rattle.session_core.proofs.serving.serve_up_to_limit.Goals as goal

pub returns-in_err-session-clause-serves : goal.returns-in_err-session-clause-serves
returns-in_err-session-clause-serves g c =
    let failed = err_from_is_err_and c.from_residual.result c.from_residual.ensures.1 in
    rw (failed.1, failed.2)
    (start_fails g.M.Machine.protocol g.M.Machine.stands
    (record { framed = g.met.M.Machine.framed; goes_on = g.met.M.Machine.goes_on; quiet = g.met.M.Machine.quiet; begins_fit = g.met.M.Machine.begins_fit; fits = g.met.M.Machine.fits })
    c.args.outside.now c.begin.new.outside c.in_err-session.field-0.0 c.in_err-session.ensures.begins)

pub returns-clause-serves : goal.returns-clause-serves
returns-clause-serves g c = c.serve_begun.ensures.serves c.args.outside.now c.requires c.in_ok-session.ensures.begins c.in_ok-session.ensures.keeps

pub returns-clause-keeps : goal.returns-clause-keeps
returns-clause-keeps g c =
    Keeps-then c.args.outside.now c.begin.new.outside c.serve_begun.new.outside (fault_of c.serve_begun.result) c.in_ok-session.ensures.keeps c.serve_begun.ensures.keeps
