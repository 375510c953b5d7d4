use Rattle.imap_views.proofs.GivenStructures.{structure_given}
use Rattle.imap_views.proofs.laws.structures_are_there.Goals as goal

pub returns : goal.returns
returns c = structure_given
