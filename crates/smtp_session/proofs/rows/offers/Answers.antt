use Rattle.smtp_session.proofs.ReplyLemmas.{offers_made}
use Rattle.smtp_session.proofs.rows.offers.Goals as goal

pub returns : goal.returns
returns c =
    offers_made c.args.store.now c.from_slice.result c.as_bytes.result.now _ c.name-name.result.now c.message_max-max.result
    c.from_slice.ensures c.as_bytes.ensures.value c.in_ok-text.ensures.ok c.name-name.ensures c.message_max-max.ensures.value
