use Rattle.imap_views.proofs.OneEnvelope.{one_chosen}
use Rattle.imap_views.proofs.laws.chosen_fields_are_one.Goals as goal

pub returns : goal.returns
returns c = one_chosen
