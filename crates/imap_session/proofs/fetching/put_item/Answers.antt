use Rattle.imap_session.specs.Items.{item_parts}
use Rattle.imap_session.specs.Replies.{part_octets}
use Rattle.imap_session.proofs.PendingLemmas.{Carries-parts}
use Rattle.imap_session.proofs.fetching.put_item.Goals as goal

pub returns-in_ok-push_told-in-None-default-clause-carries : goal.returns-in_ok-push_told-in-None-default-clause-carries
returns-in_ok-push_told-in-None-default-clause-carries g c = λ oracles are store alike.
    Carries-parts (part_octets oracles) c.args.outside.now c.args.pending.now c.push_told.new.pending (item_parts oracles g.V.View.mode store c.args.one.now c.args.item.now)
    (c.in_ok-push_told-in-None-default.ensures oracles are store alike)
