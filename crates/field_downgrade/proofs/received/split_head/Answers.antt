use Rattle.field_downgrade.proofs.ReceivedReading.{date_cut, no_date}
use Rattle.field_downgrade.proofs.received.split_head.Goals as goal

pub returns-in-Some : goal.returns-in-Some
returns-in-Some c = let cut = c.in-Some.ensures.found in date_cut _ _ _ cut.at cut.whole cut.is_at cut.first

pub returns-in-None : goal.returns-in-None
returns-in-None c = no_date _ c.in-None.ensures.none
