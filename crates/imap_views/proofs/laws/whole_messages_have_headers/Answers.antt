use Rattle.imap_views.proofs.SectionPlaces.{shown_has_header}
use Rattle.imap_views.proofs.laws.whole_messages_have_headers.Goals as goal

pub returns : goal.returns
returns c = shown_has_header
