use Rattle.imap_views.proofs.GivenEnvelopes.{envelope_given}
use Rattle.imap_views.proofs.laws.envelopes_are_there.Goals as goal

pub returns : goal.returns
returns c = envelope_given
