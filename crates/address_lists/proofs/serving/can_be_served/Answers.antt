use Rattle.std.proofs.Common.{sym, ◌∙◌}
use Rattle.address_lists.proofs.ServedLists.{local_not_served, domain_ascii, domain_served}
use Rattle.address_lists.proofs.serving.can_be_served.Goals as goal

pub returns-then-not-is_ascii : goal.returns-then-not-is_ascii
returns-then-not-is_ascii c = local_not_served c.args.address.now (rw (c.as_slice-local.ensures) at (sym c.is_ascii.ensures ∙ c.if-not-is_ascii.true))

pub returns-then-is_ascii : goal.returns-then-is_ascii
returns-then-is_ascii c = domain_ascii c.args.address.now (rw (c.as_slice-local.ensures) at (sym c.is_ascii.ensures ∙ c.if-not-is_ascii.false)) (rw (c.as_slice.ensures) at (sym c.is_ascii-2.ensures ∙ c.if-is_ascii.true))

pub returns : goal.returns
returns c = c.is_some.ensures ∙ domain_served c.args.address.now _ (rw (c.as_slice-local.ensures) at (sym c.is_ascii.ensures ∙ c.if-not-is_ascii.false)) (rw (c.as_slice-2.ensures) at c.in_ok-domain.ensures)
