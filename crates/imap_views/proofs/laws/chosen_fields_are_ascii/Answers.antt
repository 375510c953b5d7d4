use Rattle.imap_views.proofs.AsciiViews.{chosen_ascii}
use Rattle.imap_views.proofs.laws.chosen_fields_are_ascii.Goals as goal

pub returns : goal.returns
returns c = chosen_ascii
