use Rattle.imap_views.proofs.OneStructure.{structure_once}
use Rattle.imap_views.proofs.laws.structures_are_one.Goals as goal

pub returns : goal.returns
returns c = structure_once
