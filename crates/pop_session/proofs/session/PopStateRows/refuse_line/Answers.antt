use Rattle.session_core.specs.Keeps.{fault_of}
use Rattle.session_core.proofs.DoingLemmas.{Does-replies}
use Rattle.pop_session.specs.Replies.{part_octets}
use Rattle.pop_session.specs.Session.{line_too_long}
use Rattle.pop_session.proofs.session.PopStateRows.refuse_line.Goals as goal

pub returns-clause-refuses : goal.returns-clause-refuses
returns-clause-refuses g c = λ oracles are more machine stood. Does-replies (part_octets oracles) c.args.outside.now c.give.new.self (fault_of c.give.result) line_too_long c.give.ensures.replies
