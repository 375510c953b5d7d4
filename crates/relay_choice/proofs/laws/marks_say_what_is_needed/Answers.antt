use Rattle.relay_choice.proofs.MakingLemmas.{mark_eight, mark_header}
use Rattle.relay_choice.proofs.laws.marks_say_what_is_needed.Goals as goal

pub returns-clause-header : goal.returns-clause-header
returns-clause-header c = mark_header

pub returns-clause-eight : goal.returns-clause-eight
returns-clause-eight c = mark_eight
