use Rattle.std.proofs.Common.{sym, ap, ◌∙◌}
use Rattle.std.specs.List.{list_all}
use Rattle.mail_wire.specs.Octets.{is_ascii}
use Rattle.imap_views.proofs.OnePart.{high_atom}
use Rattle.imap_views.proofs.params.mechanism.Goals as goal

pub returns-in_default-clause-none : goal.returns-in_default-clause-none
returns-in_default-clause-none c = λ octets named. (rw (c.in_default.is) at c.in_ok-atom.ensures.none) octets named.sole

pub returns-then-not-is_ascii-clause-none : goal.returns-then-not-is_ascii-clause-none
returns-then-not-is_ascii-clause-none c =
    high_atom c.args.text.now _ (rw (c.in-Some.is) at c.in_ok-atom.ensures.found) (ap (list_all is_ascii) (sym c.as_slice.ensures) ∙ sym c.is_ascii.ensures ∙ c.if-not-is_ascii.true)
