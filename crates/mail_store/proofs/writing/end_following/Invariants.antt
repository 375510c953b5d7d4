use Rattle.std.proofs.Common.{◌≡◌, ◌+◌, length, take}
use Rattle.std.specs.List.{flat_map}
use Rattle.mail_store.proofs.writing.end_following.Given as goal

abbrev pub invariant-loop-part : goal.invariant-loop-part
invariant-loop-part l = l.last ≡ l.end + length (flat_map (λ part. part.now) (take l.part-index l.parts))
