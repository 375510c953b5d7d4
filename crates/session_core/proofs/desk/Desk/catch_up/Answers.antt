use Rattle.session_core.proofs.CaughtLemmas.{open_again}
use Rattle.session_core.proofs.desk.Desk.catch_up.Goals as goal

pub returns-clause-open : goal.returns-clause-open
returns-clause-open g c =
    open_again c.catch_up.result c.args.self.now c.catch_up.new.self (g.J.Keeper.observed c.args.keeper.now).octets c.catch_up.ensures.reads c.catch_up.ensures.failed
