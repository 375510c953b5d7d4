use Rattle.imap_views.proofs.AsciiStructures.{structure_ascii}
use Rattle.imap_views.proofs.laws.structures_are_ascii.Goals as goal

pub returns : goal.returns
returns c = structure_ascii
