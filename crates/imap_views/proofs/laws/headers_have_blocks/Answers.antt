use Rattle.imap_views.proofs.SectionPlaces.{shown_header_has_block}
use Rattle.imap_views.proofs.laws.headers_have_blocks.Goals as goal

pub returns : goal.returns
returns c = shown_header_has_block
