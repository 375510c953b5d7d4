use Rattle.mail_command.proofs.FirstLemmas.{begins_without, begun_first}
use Rattle.mail_command.proofs.laws.the_first_is_done_of_what_is_broken_off.Goals as goal

pub returns-clause-session : goal.returns-clause-session
returns-clause-session c role oracles old new had has met acts given done = begun_first _ old new had has met acts given done

pub returns-clause-relay : goal.returns-clause-relay
returns-clause-relay c old new had has met acts given done = begun_first _ old new had has met acts given done

pub returns-clause-begins : goal.returns-clause-begins
returns-clause-begins c role oracles before now does = begins_without role oracles before now does
