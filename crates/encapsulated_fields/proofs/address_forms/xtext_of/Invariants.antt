use Rattle.std.proofs.Common.{◌≡◌}
use Rattle.std.specs.List.{flat_map}
use Rattle.encapsulated_fields.specs.AddressForms.{xtext_char}
use Rattle.encapsulated_fields.proofs.address_forms.xtext_of.Given as goal

abbrev pub invariant-loop-character : goal.invariant-loop-character
invariant-loop-character l = l.text ≡ flat_map xtext_char l.yielded
