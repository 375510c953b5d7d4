use Rattle.std.proofs.lemmas.Result.{on_ok_weaker}
use Rattle.imap_views.specs.private.Reading.{raws_in}
use Rattle.imap_views.proofs.EnvelopeLemmas.{all_addresses}
use Rattle.imap_views.proofs.envelopes.push_all_addresses.Goals as goal

pub returns : goal.returns
returns c =
    on_ok_weaker c.push_addresses_of-3.result
    (λ bcc. all_addresses (raws_in c.args.header.now) c.args.made.now _ _ _ c.push_addresses_of-3.new.made c.in_ok-push_senders.ensures c.in_ok-push_addresses_of.ensures c.in_ok-push_addresses_of-2.ensures bcc)
    c.push_addresses_of-3.ensures
