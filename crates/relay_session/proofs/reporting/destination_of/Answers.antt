use Rattle.std.proofs.Common.{sym, subst, IsUtf8}
use Rattle.address_grammar.proofs.PathParts.{path_utf8}
use Rattle.relay_session.proofs.reporting.destination_of.Goals as goal

pub unreachable-requires : goal.unreachable-requires
unreachable-requires c = c.in_default.ensures.cases.0 (subst IsUtf8 (sym c.as_slice.ensures) (path_utf8 c.requires.0 c.args.path.now c.requires.1))
