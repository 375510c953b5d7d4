use Rattle.imap_views.proofs.OneEnvelope.{one_envelope}
use Rattle.imap_views.proofs.laws.envelopes_are_one.Goals as goal

pub returns : goal.returns
returns c = one_envelope
