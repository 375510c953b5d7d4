use Rattle.std.proofs.Common.{arith}
use Rattle.mail_store.proofs.ZeroLemmas.{broken_last}
use Rattle.mail_store.proofs.frames.is_broken_off.Goals as goal

pub returns-clause-broken : goal.returns-clause-broken
returns-clause-broken g c =
    let room = rw c.in-Whole.is at c.requires.room in
    broken_last (g.J.Keeper.observed c.args.keeper.now).octets c.args.frame c.args.at c.args.had c.in-Whole.len _ c.in-Whole.is c.requires.had c.requires.within (omega (arith, room.2)) c.end_in_zeros.ensures.ends
