use Rattle.std.proofs.Common.{◌≡◌, ◌++◌, take}
use Rattle.std.specs.List.{flat_map}
use Rattle.mail_wire.proofs.mem_keeper.put_all.Given as goal

abbrev pub invariant-loop-part : goal.invariant-loop-part
invariant-loop-part l = l.octets.items ≡ l.initial.octets.items ++ flat_map (λ part. part.now) (take l.part-index l.parts)
