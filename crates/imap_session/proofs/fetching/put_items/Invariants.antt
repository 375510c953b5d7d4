use Rattle.std.proofs.Common.{◌≡◌, map, take, None}
use Rattle.mail_store.specs.StoreState.{StoreState}
use Rattle.session_core.specs.Keeps.{Keeps}
use Rattle.session_core.specs.Oracles.{WithOracles}
use Rattle.imap_session.specs.Items.{item_parts}
use Rattle.imap_session.specs.Machine.{parts_following, reply}
use Rattle.imap_session.specs.Replies.{part_octets}
use Rattle.imap_session.specs.private.Messages.{ShowsAlike}
use Rattle.imap_session.specs.private.Pending.{Carries}
use Rattle.imap_session.proofs.FetchLemmas.{stands_after}
use Rattle.imap_session.proofs.fetching.put_items.Given as goal

abbrev pub invariant-loop-item : goal.invariant-loop-item
invariant-loop-item g l = record {
  is_separated : l.is_separated ≡ stands_after l.after_others (take l.item-index l.items);
  carries : WithOracles (λ oracles. (store : StoreState) → ShowsAlike store l.fn.outside.desk.store → Carries (part_octets oracles) l.fn.outside l.outside None
      l.fn.pending l.pending (reply (parts_following l.after_others (map (item_parts oracles g.V.View.mode store l.one) (take l.item-index l.items)))));
  desk : l.outside.desk ≡ l.fn.outside.desk;
  keeps : Keeps l.fn.outside l.outside None;
}
