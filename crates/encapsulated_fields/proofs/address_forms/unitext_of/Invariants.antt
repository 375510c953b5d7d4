use Rattle.std.proofs.Common.{◌≡◌}
use Rattle.std.specs.List.{flat_map}
use Rattle.encapsulated_fields.specs.AddressForms.{unitext_char}
use Rattle.encapsulated_fields.proofs.address_forms.unitext_of.Given as goal

abbrev pub invariant-loop-character : goal.invariant-loop-character
invariant-loop-character l = l.text ≡ flat_map unitext_char l.yielded
