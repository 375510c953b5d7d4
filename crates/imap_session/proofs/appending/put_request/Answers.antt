use Rattle.std.proofs.Common.{◌≡◌, ◌&&◌, ◌∙◌, false, not, subst, sym}
use Rattle.std.proofs.lemmas.Bool.{and_left, and_right, not_from_true}
use Rattle.surrogate_cache.specs.Served.{is_enabled}
use Rattle.session_core.specs.Doing.{Makes}
use Rattle.session_core.specs.Keeps.{fault_of}
use Rattle.imap_session.specs.Machine.{completed}
use Rattle.imap_session.specs.declared.appending.Put.{Put}
use Rattle.imap_session.specs.private.Appending.{put_changes}
use Rattle.imap_session.proofs.AppendLemmas.{put_found}
use Rattle.imap_session.proofs.appending.put_request.Goals.{else-request-via-then-request+else-not-enabled, else-request-via-else-request}
use Rattle.imap_session.proofs.appending.put_request.Goals as goal

pub returns-clause-makes : goal.returns-clause-makes
returns-clause-makes g c = λ oracles are.
    let request = c.args.request.now in
    let found = rw (c.in-Some.is, c.store.ensures) at (c.in_ok-found.ensures.found oracles are) in
    let may : (request.in_utf8 && not (is_enabled g.V.View.mode)) ≡ false = elim c.else-request.branch [
      | else-request-via-then-request+else-not-enabled w ↦ and_right request.in_utf8 (not (is_enabled g.V.View.mode)) (not_from_true (is_enabled g.V.View.mode) (sym w.enabled.ensures ∙ w.if-not-enabled.false))
      | else-request-via-else-request w ↦ and_left request.in_utf8 (not (is_enabled g.V.View.mode)) w.if-request.false
    ] in
    subst (λ (advance : Put). Makes c.args.outside.now c.put_completed.new.outside (fault_of c.put_completed.result) (put_changes request.flags (oracles.mark_of (completed request.octets.now)) c.args.date.now (completed request.octets.now) advance))
    (put_found oracles g.V.View.mode c.args.account c.args.outside.now.desk.store request c.in-Some.folder found may) (c.put_completed.ensures.makes oracles are)
