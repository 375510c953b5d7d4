use Rattle.std.proofs.Common.{◌≡◌, ◌<◌, ◌^◌, drop}
use Rattle.encapsulated_fields.specs.Xtext.{hex_onward, hex_value}
use Rattle.encapsulated_fields.proofs.xtext.hex_value.Given as goal

abbrev pub invariant-loop-digit : goal.invariant-loop-digit
invariant-loop-digit l = record {
  so_far : hex_onward l.number (drop l.digit-index l.digits) ≡ hex_value l.digits;
  small : l.number < 16 ^ l.digit-index;
}
