use Rattle.std.proofs.Common.{sym, ap, ◌∙◌}
use Rattle.mail_wire.specs.Octets.{same_name}
use Rattle.mime_tree.proofs.PlainNames.{short_differs, front_differs}
use Rattle.mime_tree.proofs.openings.begins_with_name.Goals as goal

pub returns-then-raw-name-clause-other : goal.returns-then-raw-name-clause-other
returns-then-raw-name-clause-other c other = short_differs c.args.raw.now c.args.name.now c.if-raw-name.true

pub returns-clause-other : goal.returns-clause-other
returns-clause-other c other =
    front_differs c.args.raw.now c.args.name.now (ap (λ front. same_name front c.args.name.now) (sym c.split_at.ensures.front) ∙ sym c.is_same_name.ensures ∙ other)
