use Rattle.std.proofs.Common.{sym, subst, IsUtf8}
use Rattle.address_grammar.proofs.PathParts.{path_parts}
use Rattle.smtp_session.proofs.rows.domain_of.Goals as goal

pub unreachable-requires : goal.unreachable-requires
unreachable-requires c =
    let domain = (path_parts c.requires.0 c.args.address.now c.requires.1).1 in
    c.in-Err.ensures.cases.0 (subst IsUtf8 (sym c.as_slice.ensures) domain)
