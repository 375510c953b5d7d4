use Rattle.std.proofs.Common.{[], ◌∷◌, false, None, Some, ap, ◌∙◌}
use Rattle.std.specs.Prelude.{◌++◌}
use Rattle.std.proofs.lemmas.Result.{err_from_is_err_and}
use Rattle.mail_wire.specs.declared.outside.Fault.TheVariants as fault
use Rattle.imap_mailboxes.specs.Flags.{stored_flags}
use Rattle.session_core.specs.Acts.{changes}
use Rattle.imap_session.specs.Machine.{flags_change, flags_reply, reply}
use Rattle.imap_session.specs.Replies.{part_octets, reply_octets}
use Rattle.imap_session.proofs.EachLemmas.{flags_told, new_flags}
use Rattle.imap_session.proofs.PendingLemmas.{Carries-before, Carries-parts, Carries-stop, Carries-then}
use Rattle.imap_session.proofs.storing.StoringEachMessage.take.Goals as goal

pub returns-in_err-change_flags-clause-carries : goal.returns-in_err-change_flags-clause-carries
returns-in_err-change_flags-clause-carries g c = λ oracles are store alike.
    let failed = err_from_is_err_and c.from_residual.result c.from_residual.ensures.1 in
    let self = c.args.self.now in
    let was = c.args.one.now in
    let flags = stored_flags self.op was.flags self.named in
    rw (failed.1, failed.2)
    (Carries-before (part_octets oracles) c.args.outside.now c.change_flags.new.outside c.in_err-change_flags.field-0.0 c.args.pending.now c.change_flags.new.pending c.change_flags.new.pending
    (changes (flags_change was flags) ∷ []) (reply (flags_reply self.by_uid self.silent (record { number = c.args.number; listed = was }) flags)) (c.in_err-change_flags.ensures.carries oracles))

pub returns-then-self-clause-carries : goal.returns-then-self-clause-carries
returns-then-self-clause-carries g c = λ oracles are store alike. rw c.if-self.true (c.in_ok-change_flags.ensures.carries oracles)

pub returns-then-self-clause-flags : goal.returns-then-self-clause-flags
returns-then-self-clause-flags g c =
    let self = c.args.self.now in
    let was = c.args.one.now in
    new_flags c.args.outside.now.desk.store.kept c.change_flags.new.outside.desk.store.kept was c.change_flags.new.one (stored_flags self.op was.flags self.named) c.in_ok-change_flags.ensures.changed c.in_ok-change_flags.ensures.kept

pub returns-in_err-push_flags_line-clause-carries : goal.returns-in_err-push_flags_line-clause-carries
returns-in_err-push_flags_line-clause-carries g c = λ oracles are store alike.
    let failed = err_from_is_err_and c.from_residual-in_err-push_flags_line.result c.from_residual-in_err-push_flags_line.ensures.1 in
    let self = c.args.self.now in
    let was = c.args.one.now in
    let flags = stored_flags self.op was.flags self.named in
    let told = reply (flags_reply self.by_uid self.silent (record { number = c.args.number; listed = was }) flags) in
    rw (failed.1, failed.2)
    (Carries-then (part_octets oracles) c.args.outside.now c.change_flags.new.outside c.change_flags.new.outside (Some fault.Memory) c.args.pending.now c.change_flags.new.pending c.push_flags_line.new.pending
    (changes (flags_change was flags) ∷ []) told (c.in_ok-change_flags.ensures.carries oracles)
    (Carries-stop (part_octets oracles) c.change_flags.new.outside fault.Memory c.change_flags.new.pending c.push_flags_line.new.pending told (λ bad. cc)))

pub returns-clause-carries : goal.returns-clause-carries
returns-clause-carries g c = λ oracles are store alike.
    let self = c.args.self.now in
    let was = c.args.one.now in
    let flags = stored_flags self.op was.flags self.named in
    let parts = flags_reply self.by_uid false (record { number = c.args.number; listed = was }) flags in
    let put = c.in_ok-push_flags_line.ensures oracles ∙ ap (λ told. c.change_flags.new.pending ++ reply_octets oracles told) (flags_told self.by_uid c.args.number was c.change_flags.new.one flags c.in_ok-change_flags.ensures.changed) in
    rw c.if-self.false
    (Carries-then (part_octets oracles) c.args.outside.now c.change_flags.new.outside c.change_flags.new.outside None c.args.pending.now c.change_flags.new.pending c.push_flags_line.new.pending
    (changes (flags_change was flags) ∷ []) (reply parts) (c.in_ok-change_flags.ensures.carries oracles)
    (Carries-parts (part_octets oracles) c.change_flags.new.outside c.change_flags.new.pending c.push_flags_line.new.pending parts put))

pub returns-clause-flags : goal.returns-clause-flags
returns-clause-flags g c =
    let self = c.args.self.now in
    let was = c.args.one.now in
    new_flags c.args.outside.now.desk.store.kept c.change_flags.new.outside.desk.store.kept was c.change_flags.new.one (stored_flags self.op was.flags self.named) c.in_ok-change_flags.ensures.changed c.in_ok-change_flags.ensures.kept
