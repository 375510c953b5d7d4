use Rattle.imap_views.proofs.AsciiViews.{has_envelope_ascii}
use Rattle.imap_views.proofs.laws.envelopes_are_ascii.Goals as goal

pub returns : goal.returns
returns c = has_envelope_ascii
