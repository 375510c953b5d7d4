use Rattle.std.proofs.Common.{[], ◌∷◌, None, Some}
use Rattle.std.proofs.lemmas.Result.{err_from_is_err_and}
use Rattle.session_core.specs.Acts.{changes}
use Rattle.imap_session.specs.Machine.{flags_change}
use Rattle.imap_session.specs.Replies.{part_octets}
use Rattle.imap_mailboxes.specs.Flags.{stored_flags}
use Rattle.imap_session.proofs.PendingLemmas.{Carries-before, Carries-changed}
use Rattle.imap_session.proofs.messages.change_flags.Goals as goal

pub returns-in_err-give_pending-clause-carries : goal.returns-in_err-give_pending-clause-carries
returns-in_err-give_pending-clause-carries g c = λ oracles.
    let failed = err_from_is_err_and c.from_residual.result c.from_residual.ensures.1 in
    let acts = changes (flags_change c.args.one.now (stored_flags c.args.op c.args.one.now.flags c.args.named)) ∷ [] in
    rw (failed.1, failed.2) (Carries-before (part_octets oracles) c.args.outside.now c.give_pending.new.outside c.in_err-give_pending.field-0.0 c.args.pending.now c.give_pending.new.pending c.give_pending.new.pending [] acts
    (c.in_err-give_pending.ensures.carries oracles))

pub returns-in_err-set_flags-clause-carries : goal.returns-in_err-set_flags-clause-carries
returns-in_err-set_flags-clause-carries g c = λ oracles.
    let failed = err_from_is_err_and c.from_residual-in_err-set_flags.result c.from_residual-in_err-set_flags.ensures.1 in
    let made = flags_change c.args.one.now (stored_flags c.args.op c.args.one.now.flags c.args.named) in
    let makes = rw c.stored_flags-flags.ensures.value at c.in_err-set_flags.ensures.makes in
    rw (failed.1, failed.2) (Carries-changed (part_octets oracles) c.args.outside.now c.give_pending.new.outside c.set_flags.new.self (Some c.in_err-set_flags.field-0.0) c.args.pending.now c.give_pending.new.pending made
    (c.in_ok-give_pending.ensures.carries oracles) c.in_ok-give_pending.ensures.nothing makes)

pub returns-clause-carries : goal.returns-clause-carries
returns-clause-carries g c = λ oracles.
    let made = flags_change c.args.one.now (stored_flags c.args.op c.args.one.now.flags c.args.named) in
    let makes = rw c.stored_flags-flags.ensures.value at c.in_ok-set_flags.ensures.makes in
    Carries-changed (part_octets oracles) c.args.outside.now c.give_pending.new.outside c.set_flags.new.self None c.args.pending.now c.give_pending.new.pending made
    (c.in_ok-give_pending.ensures.carries oracles) c.in_ok-give_pending.ensures.nothing makes
