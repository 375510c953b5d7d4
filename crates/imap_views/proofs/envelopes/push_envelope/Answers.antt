use Rattle.std.proofs.lemmas.Result.{on_ok_weaker}
use Rattle.imap_views.specs.private.Reading.{raws_in}
use Rattle.imap_views.proofs.EnvelopeLemmas.{envelope_made}
use Rattle.imap_views.proofs.envelopes.push_envelope.Goals as goal

pub returns : goal.returns
returns c =
    on_ok_weaker c.push-2.result
    (λ put. envelope_made (raws_in c.args.header.now) c.args.made.now _ _ _ _ _ _ c.push-2.new.self c.requires.empty c.in_ok-push.ensures.ok c.in_ok-push_string_of.ensures
    c.in_ok-push_string_after.ensures c.in_ok-push_all_addresses.ensures c.in_ok-push_string_after-2.ensures c.in_ok-push_string_after-3.ensures put)
    c.push-2.ensures.ok
