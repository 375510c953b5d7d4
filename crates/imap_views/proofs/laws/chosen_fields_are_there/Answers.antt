use Rattle.imap_views.proofs.GivenEnvelopes.{chosen_given}
use Rattle.imap_views.proofs.laws.chosen_fields_are_there.Goals as goal

pub returns : goal.returns
returns c = chosen_given
