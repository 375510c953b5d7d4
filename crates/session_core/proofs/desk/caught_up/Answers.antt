use Rattle.session_core.proofs.CaughtLemmas.{opened_on}
use Rattle.session_core.proofs.desk.caught_up.Goals as goal

pub returns-in-Ok-clause-opens : goal.returns-in-Ok-clause-opens
returns-in-Ok-clause-opens g c =
    opened_on (g.J.Keeper.observed c.args.keeper.now).octets (g.J.Keeper.observed c.catch_up.new.keeper).octets c.args.desk c.catch_up.new.self.store.kept c.in-Ok.ensures.catches
