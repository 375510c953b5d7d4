use Rattle.std.proofs.lemmas.Result.{err_from_is_err_and}
use Rattle.mail_store.proofs.OpenLemmas.{leaves_all, leaves_half, opened_to, to_begin, wants_cut}
use Rattle.mail_store.proofs.storing.Store.open.Goals as goal

pub returns-in_err-last-clause-memory : goal.returns-in_err-last-clause-memory
returns-in_err-last-clause-memory g c =
    let p = err_from_is_err_and c.from_residual-in_err-last.result c.from_residual-in_err-last.ensures.1 in
    rw (p.1, p.2)
    (λ m. wants_cut (g.J.Keeper.observed c.args.keeper.now).octets (g.J.Keeper.observed c.repair.new.keeper).octets c.in_ok-end.end c.read_all.new.version c.read_all.new.store.kept
    (rw c.len.ensures.same at c.in_ok-end.ensures.ends) (rw (c.read_all.ensures.same, c.len.ensures.same) at (c.in_err-last.ensures.memory m)))

pub returns-in_err-last-clause-leaves : goal.returns-in_err-last-clause-leaves
returns-in_err-last-clause-leaves g c =
    leaves_half (g.J.Keeper.observed c.args.keeper.now).octets (g.J.Keeper.observed c.repair.new.keeper).octets c.in_ok-end.end c.read_all.new.version c.read_all.new.store.kept
    (rw c.len.ensures.same at c.in_ok-end.ensures.ends) (rw (c.read_all.ensures.same, c.len.ensures.same) at c.in_err-last.ensures.half)

pub returns-in_err-last-clause-begins : goal.returns-in_err-last-clause-begins
returns-in_err-last-clause-begins g c =
    to_begin (g.J.Keeper.observed c.args.keeper.now).octets c.in_ok-end.end c.read_all.new.version c.read_all.new.store.kept _ _ (rw c.len.ensures.same at c.in_ok-end.ensures.ends)
    (rw (c.read_all.ensures.unappended, c.len.ensures.appends) at c.repair.ensures.appended)

pub returns-clause-opens : goal.returns-clause-opens
returns-clause-opens g c =
    rw c.end_at.ensures
    (opened_to (g.J.Keeper.observed c.args.keeper.now).octets (g.J.Keeper.observed c.repair.new.keeper).octets c.in_ok-end.end c.read_all.new.version c.read_all.new.store.kept
    (rw c.len.ensures.same at c.in_ok-end.ensures.ends) (rw (c.read_all.ensures.same, c.len.ensures.same) at c.in_ok-last.ensures.repaired))

pub returns-clause-leaves : goal.returns-clause-leaves
returns-clause-leaves g c =
    leaves_all (g.J.Keeper.observed c.args.keeper.now).octets (g.J.Keeper.observed c.repair.new.keeper).octets c.in_ok-end.end c.read_all.new.version c.read_all.new.store.kept
    (rw c.len.ensures.same at c.in_ok-end.ensures.ends) (rw (c.read_all.ensures.same, c.len.ensures.same) at c.in_ok-last.ensures.repaired)

pub returns-clause-begins : goal.returns-clause-begins
returns-clause-begins g c =
    to_begin (g.J.Keeper.observed c.args.keeper.now).octets c.in_ok-end.end c.read_all.new.version c.read_all.new.store.kept _ _ (rw c.len.ensures.same at c.in_ok-end.ensures.ends)
    (rw (c.read_all.ensures.unappended, c.len.ensures.appends) at c.repair.ensures.appended)
