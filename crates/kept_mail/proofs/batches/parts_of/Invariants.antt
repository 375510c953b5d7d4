use Rattle.std.proofs.Common.{◌≡◌, take}
use Rattle.std.specs.List.{flat_map}
use Rattle.kept_mail.specs.private.Delivering.{fronts_text}
use Rattle.kept_mail.proofs.batches.parts_of.Given as goal

abbrev pub invariant-loop-front : goal.invariant-loop-front
invariant-loop-front l = flat_map (λ part. part.now) l.parts.items ≡ fronts_text (take l.front-index l.fronts) l.delivery.local_octets
