use Rattle.std.proofs.Common.{sym, ◌∙◌}
use Rattle.address_lists.proofs.ServedLists.{ascii_own}
use Rattle.address_lists.proofs.serving.is_ascii_address.Goals as goal

pub returns-then-is_ascii : goal.returns-then-is_ascii
returns-then-is_ascii c holds =
    ascii_own c.args.address.now
    (rw (c.as_slice.ensures) at (sym c.is_ascii.ensures ∙ c.if-is_ascii.true))
    (rw (c.as_slice-then-is_ascii.ensures) at (sym c.is_ascii-then-is_ascii.ensures ∙ holds))
