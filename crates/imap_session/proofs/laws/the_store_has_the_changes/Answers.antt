use Rattle.imap_session.proofs.PutLaws.{stream_store}
use Rattle.imap_session.proofs.laws.the_store_has_the_changes.Goals as goal

pub returns : goal.returns
returns c = stream_store
