use Rattle.mail_wire.proofs.KeeperLemmas.{HasKeeperCause-fine, KeepsOn-nil}
use Rattle.mail_store.specs.declared.opening.OpenFault.TheVariants as faults
use Rattle.session_core.proofs.CaughtLemmas.{IsOpen-fold, left_alone, memory_wanted, nothing_put}
use Rattle.session_core.proofs.desk.open_desk.Goals as goal

pub returns-clause-open : goal.returns-clause-open
returns-clause-open g c =
    IsOpen-fold c.args.limits c.in_ok-store.store c.in-Ok.cache
    (record { message_bound = c.requires.message_bound; session_longer = c.requires.session_longer; some_blocks = c.requires.some_blocks; few_blocks = c.requires.few_blocks; some_entries = c.requires.some_entries })
    c.in_ok-store.ensures.fold c.in_ok-store.ensures.message_max c.in_ok-store.ensures.failed
    c.in-Ok.ensures

pub returns-in_default-clause-fault : goal.returns-in_default-clause-fault
returns-in_default-clause-fault g c = memory_wanted (g.J.Keeper.observed c.args.keeper.now).octets (g.J.Keeper.observed c.args.keeper.now).octets

pub returns-in_default-clause-cause : goal.returns-in_default-clause-cause
returns-in_default-clause-cause g c = HasKeeperCause-fine (g.J.Keeper.observed c.args.keeper.now) (g.J.Keeper.observed c.args.keeper.now) _ faults.Keeper (KeepsOn-nil (g.J.Keeper.observed c.args.keeper.now)) (λ bad. cc)

pub returns-in_default-clause-leaves : goal.returns-in_default-clause-leaves
returns-in_default-clause-leaves g c = left_alone (g.J.Keeper.observed c.args.keeper.now).octets

pub returns-in_default-clause-memory : goal.returns-in_default-clause-memory
returns-in_default-clause-memory g c = λ wanted. nothing_put (g.J.Keeper.observed c.args.keeper.now).octets
