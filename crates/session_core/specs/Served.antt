-- How a session may come to its end.
use Rattle.std.specs.Prelude.{Bool, true, false, Option, None, Some, Result, Ok, Err}
use Rattle.mail_wire.specs.declared.outside.Fault.{Fault}
use Rattle.mail_wire.specs.declared.outside.Fault.TheVariants as fault
use Rattle.session_core.specs.declared.serving.Served.{Served}
use Rattle.session_core.specs.declared.serving.Served.TheVariants.{Ended, WireFault, KeeperFault, Memory, Limit}

-- the fault that broke a session off
abbrev pub met_of : Served → Option Fault
met_of Ended = None
met_of Limit = None
met_of WireFault = Some fault.Wire
met_of KeeperFault = Some fault.Keeper
met_of Memory = Some fault.Memory

-- an answer as what the session came to
abbrev pub served_of : Result Bool Fault → Served
served_of (Ok true) = Ended
served_of (Ok false) = Limit
served_of (Err fault.Wire) = WireFault
served_of (Err fault.Keeper) = KeeperFault
served_of (Err fault.Memory) = Memory
