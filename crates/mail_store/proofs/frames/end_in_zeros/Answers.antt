use Rattle.std.proofs.Common.{arith}
use Rattle.mail_store.proofs.ZeroLemmas.{ends_by}
use Rattle.mail_store.proofs.frames.end_in_zeros.Goals as goal

pub returns-clause-ends : goal.returns-clause-ends
returns-clause-ends g c =
    ends_by (g.J.Keeper.observed c.args.keeper.now).octets c.args.at c.args.had _ c.requires.had c.requires.within (omega (arith, c.if-sector-at.false)) c.are_zeros_from.ensures.zeros
