use Rattle.std.proofs.Common.{sym, subst, IsUtf8}
use Rattle.address_grammar.proofs.PathParts.{path_parts}
use Rattle.journal_records.proofs.addresses.mailbox_key.Goals as goal

pub unreachable-requires : goal.unreachable-requires
unreachable-requires c =
    let local = (path_parts c.requires.0 c.args.address.now c.requires.1).0 in
    c.in_default.ensures.cases.0 (subst IsUtf8 (sym c.as_slice.ensures) local)

pub unreachable-requires-in_default-from_utf8 : goal.unreachable-requires-in_default-from_utf8
unreachable-requires-in_default-from_utf8 c =
    let domain = (path_parts c.requires.0 c.args.address.now c.requires.1).1 in
    c.in_default-from_utf8.ensures.cases.0 (subst IsUtf8 (sym c.as_slice-2.ensures) domain)
