use Rattle.std.proofs.Common.{take}
use Rattle.address_grammar.specs.private.ListViews.{unit_values}
use Rattle.address_lists.specs.private.Emptied.{TakesUnits}
use Rattle.address_lists.proofs.emptied.push_units.Given as goal

abbrev pub invariant-loop-unit : goal.invariant-loop-unit
invariant-loop-unit l = TakesUnits l.fn.units l.units (unit_values (take l.unit-index l.said))
