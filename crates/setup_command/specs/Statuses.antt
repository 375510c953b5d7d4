-- The status that a command's answer is.
use Rattle.std.specs.Prelude.{ℕ, Result, Ok, Err}
use Rattle.mail_wire.specs.declared.outside.Fault.{Fault}
use Rattle.mail_wire.specs.declared.outside.Fault.TheVariants as fault
use Rattle.setup_command.specs.declared.statuses.TheConstants.{WIRE_FAULT, KEEPER_FAULT, WANT_OF_MEMORY}

-- The status that an answer is: the one it tells, or that of its fault.
abbrev pub status_of : Result ℕ Fault → ℕ
status_of (Ok status) = status
status_of (Err fault.Wire) = WIRE_FAULT
status_of (Err fault.Keeper) = KEEPER_FAULT
status_of (Err fault.Memory) = WANT_OF_MEMORY
