use Rattle.smtp_session.proofs.ReplyLemmas.{name_made}
use Rattle.smtp_session.proofs.rows.name_line.Goals as goal

pub returns : goal.returns
returns c =
    name_made c.args.store.now c.from_slice.result c.as_bytes.result.now _ c.name-name.result.now c.from_slice.ensures c.as_bytes.ensures.value c.in_ok-text.ensures.ok c.name-name.ensures
