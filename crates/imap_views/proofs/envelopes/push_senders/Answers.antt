use Rattle.std.proofs.lemmas.Result.{on_ok_weaker}
use Rattle.imap_views.specs.private.Reading.{raws_in}
use Rattle.imap_views.proofs.EnvelopeLemmas.{senders_put}
use Rattle.imap_views.proofs.envelopes.push_senders.Goals as goal

pub returns : goal.returns
returns c =
    on_ok_weaker c.push_addresses_or-2.result
    (λ reply_to. senders_put (raws_in c.args.header.now) c.in_ok-from.from c.args.made.now _ _ c.push_addresses_or-2.new.made c.in_ok-from.ensures
    (rw (c.as_slice.ensures) at c.in_ok-push_after_space.ensures) (rw (c.as_slice-2.ensures) at c.in_ok-push_addresses_or.ensures) reply_to)
    (rw (c.as_slice-3.ensures) at c.push_addresses_or-2.ensures)
