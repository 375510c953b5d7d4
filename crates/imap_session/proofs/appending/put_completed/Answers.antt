use Rattle.std.proofs.Common.{◌≡◌, ◌∙◌, ℕ, List, ap, inl, refl, subst}
use Rattle.std.specs.Prelude.{IfOk}
use Rattle.session_core.specs.Doing.{Makes}
use Rattle.session_core.specs.Keeps.{fault_of}
use Rattle.session_core.specs.Oracles.{WithOracles}
use Rattle.imap_session.specs.Machine.{completed}
use Rattle.imap_session.specs.private.Appending.{put_changes, put_octets}
use Rattle.imap_session.proofs.AppendLemmas.{completed_is, completed_left}
use Rattle.imap_session.proofs.appending.put_completed.Goals as goal

pub returns-then-is_ended-clause-put : goal.returns-then-is_ended-clause-put
returns-then-is_ended-clause-put g c =
    let same = completed_left c.args.request.now.octets.now (inl (c.if-is_ended.ensures.0 refl)) in
    subst (λ (octets : List ℕ). IfOk c.put_octets.result (λ advance. WithOracles (λ oracles. advance ≡ put_octets (oracles.has_tree octets) c.args.outside.now.desk.store c.args.folder octets))) same
    c.put_octets.ensures.put

pub returns-then-is_ended-clause-makes : goal.returns-then-is_ended-clause-makes
returns-then-is_ended-clause-makes g c = λ oracles are.
    let same = completed_left c.args.request.now.octets.now (inl (c.if-is_ended.ensures.0 refl)) in
    subst (λ (octets : List ℕ). Makes c.args.outside.now c.put_octets.new.outside (fault_of c.put_octets.result)
    (put_changes c.args.request.now.flags (oracles.mark_of octets) c.args.date.now octets (put_octets (oracles.has_tree octets) c.args.outside.now.desk.store c.args.folder octets))) same (c.put_octets.ensures.makes oracles are)

pub returns-clause-put : goal.returns-clause-put
returns-clause-put g c =
    let same = c.as_slice.ensures ∙ (completed_is c.in_ok-octets.octets c.complete.new.octets c.in_ok-complete.ensures.ok ∙ ap completed c.in_ok-octets.ensures) in
    subst (λ (octets : List ℕ). IfOk c.put_octets-2.result (λ advance. WithOracles (λ oracles. advance ≡ put_octets (oracles.has_tree octets) c.args.outside.now.desk.store c.args.folder octets))) same
    c.put_octets-2.ensures.put

pub returns-clause-makes : goal.returns-clause-makes
returns-clause-makes g c = λ oracles are.
    let same = c.as_slice.ensures ∙ (completed_is c.in_ok-octets.octets c.complete.new.octets c.in_ok-complete.ensures.ok ∙ ap completed c.in_ok-octets.ensures) in
    subst (λ (octets : List ℕ). Makes c.args.outside.now c.put_octets-2.new.outside (fault_of c.put_octets-2.result)
    (put_changes c.args.request.now.flags (oracles.mark_of octets) c.args.date.now octets (put_octets (oracles.has_tree octets) c.args.outside.now.desk.store c.args.folder octets))) same (c.put_octets-2.ensures.makes oracles are)
