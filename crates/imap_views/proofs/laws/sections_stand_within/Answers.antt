use Rattle.imap_views.proofs.SectionPlaces.{shown_section_within}
use Rattle.imap_views.proofs.laws.sections_stand_within.Goals as goal

pub returns : goal.returns
returns c = shown_section_within
