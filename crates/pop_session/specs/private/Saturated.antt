-- What a reader of numbers of 64 bits answers.
use Rattle.std.specs.Prelude.{◌-◌, ◌^◌, min}
use Rattle.pop_session.specs.declared.command.TopNumbers.{TopNumbers}

-- with the greatest 64-bit number in the place of a greater one
abbrev pub saturated : TopNumbers → TopNumbers
saturated numbers = record { number = min numbers.number (2 ^ 64 - 1); lines = min numbers.lines (2 ^ 64 - 1) }
