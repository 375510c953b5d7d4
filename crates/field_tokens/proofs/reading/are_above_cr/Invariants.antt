use Rattle.std.proofs.Common.{◌≡◌, take}
use Rattle.std.specs.List.{list_all}
use Rattle.std.specs.Prelude.{nat_lt}
use Rattle.field_tokens.specs.TokenOctets.{is_above_cr}
use Rattle.field_tokens.proofs.reading.are_above_cr.Given as goal

abbrev pub invariant-loop-octet : goal.invariant-loop-octet
invariant-loop-octet l = nat_lt 13 l.lowest ≡ list_all is_above_cr (take l.octet-index l.text)
