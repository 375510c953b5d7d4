use Rattle.std.proofs.Common.{arith}
use Rattle.mail_store.proofs.ZeroLemmas.{not_cut}
use Rattle.mail_store.proofs.frames.cut_after.Goals as goal

pub returns-then-had-end-clause-cut : goal.returns-then-had-end-clause-cut
returns-then-had-end-clause-cut g c = not_cut (g.J.Keeper.observed c.args.keeper.now).octets c.args.end c.args.had c.requires.had (omega (arith, c.if-had-end.true))
