use Rattle.address_lists.proofs.UnitsOnto.{takes_opaque}
use Rattle.address_lists.proofs.emptied.push_unit.Goals as goal

pub returns-in_ok-push_word-in-Opaque : goal.returns-in_ok-push_word-in-Opaque
returns-in_ok-push_word-in-Opaque c =
    rw (c.in-Opaque.is) (takes_opaque c.args.units.now c.push_word.new.self _ _ _ _ (rw (c.in-Opaque.is) at c.requires) (rw (c.as_slice-in-Opaque.ensures) at c.in_ok-push_word-in-Opaque.ensures))
