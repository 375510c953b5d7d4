use Rattle.std.proofs.lemmas.Result.{err_from_is_err_and}
use Rattle.mail_wire.specs.declared.outside.Fault.TheVariants as fault
use Rattle.session_core.specs.Keeps.{fault_of}
use Rattle.imap_session.specs.Items.{item_parts}
use Rattle.imap_session.specs.Replies.{part_octets}
use Rattle.imap_session.proofs.FetchLemmas.{Carries-following}
use Rattle.imap_session.proofs.PendingLemmas.{Carries-stop}
use Rattle.imap_session.proofs.fetching.put_after.Goals as goal

pub returns-in_err-push_space-clause-carries : goal.returns-in_err-push_space-clause-carries
returns-in_err-push_space-clause-carries g c = λ oracles are store alike.
    let failed = err_from_is_err_and c.from_residual.result c.from_residual.ensures.1 in
    rw (failed.1, failed.2) (Carries-stop (part_octets oracles) c.args.outside.now fault.Memory c.args.pending.now c.push_space.new.pending _ (λ bad. cc))

pub returns-clause-carries : goal.returns-clause-carries
returns-clause-carries g c = λ oracles are store alike.
    Carries-following oracles c.args.outside.now c.put_item.new.outside (fault_of c.put_item.result) c.args.pending.now c.push_space.new.pending c.put_item.new.pending c.args.is_separated
    (item_parts oracles g.V.View.mode store c.args.one.now c.args.item.now) c.in_ok-push_space.ensures (c.put_item.ensures.carries oracles are store alike)
