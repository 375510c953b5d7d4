use Rattle.std.proofs.Common.{◌≡◌, ◌-◌, ◌^◌, min, take}
use Rattle.mail_wire.specs.Numbers.{number_written}
use Rattle.mail_wire.proofs.numbers.read_number.Given as goal

abbrev pub invariant-loop-octet : goal.invariant-loop-octet
invariant-loop-octet l = l.number ≡ min (number_written (take l.octet-index l.text)) (2 ^ 64 - 1)
