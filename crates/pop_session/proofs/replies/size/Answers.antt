use Rattle.session_core.specs.Desks.{stored_octets}
use Rattle.session_core.proofs.ServedSizes.{served_size}
use Rattle.pop_session.proofs.replies.size.Goals as goal

pub returns-clause-size : goal.returns-clause-size
returns-clause-size g c = served_size g.V.View.mode (stored_octets c.args.outside.now.desk.store c.args.one.now.id) c.size.result c.size.ensures.size
