use Rattle.std.proofs.Common.{sym, subst}
use Rattle.address_grammar.specs.Paths.{ComesInPath}
use Rattle.smtp_session.proofs.rows.has_remote.Goals as goal

pub is_same_remote-requires-clause-a : goal.is_same_remote-requires-clause-a
is_same_remote-requires-clause-a c =
    let sendable = c.requires.remote c.loop-other.other-index c.other-item.result c.loop-other-test.true in
    subst ComesInPath (sym c.other-item.is) sendable.0
