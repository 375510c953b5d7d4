use Rattle.std.proofs.lemmas.Result.{err_from_is_err_and}
use Rattle.mail_store.proofs.OpenLemmas.{EndsJournal-read, reading_fault}
use Rattle.mail_store.proofs.opening.replay.Goals as goal

pub returns-in_err-read_on-clause-fault : goal.returns-in_err-read_on-clause-fault
returns-in_err-read_on-clause-fault g c =
    let p = err_from_is_err_and c.from_residual.result c.from_residual.ensures.1 in
    rw (p.1, p.2) (reading_fault (g.J.Keeper.observed c.args.keeper.now).octets c.args.version.now c.read_on.new.version c.args.store.now c.read_on.new.store c.in_err-read_on.field-0.0 c.requires.start c.requires.start_end c.requires.first
    c.read_on.ensures.reads c.in_err-read_on.ensures.fault)

pub returns-clause-ends : goal.returns-clause-ends
returns-clause-ends g c =
    rw c.end.ensures (EndsJournal-read (g.J.Keeper.observed c.args.keeper.now).octets c.args.version.now c.read_on.new.version c.args.store.now c.read_on.new.store c.requires.start c.requires.start_end c.requires.first c.read_on.ensures.reads
    c.in_ok-read_on.ensures.rest)
