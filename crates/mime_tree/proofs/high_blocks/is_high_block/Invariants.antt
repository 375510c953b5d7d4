use Rattle.std.proofs.Common.{◌≡◌, take, false}
use Rattle.std.specs.List.{list_any}
use Rattle.mail_wire.specs.Octets.{is_high}
use Rattle.utf8_fields.specs.Block.{raw_of}
use Rattle.mime_tree.proofs.high_blocks.is_high_block.Given as goal

abbrev pub invariant-loop-field : goal.invariant-loop-field
invariant-loop-field l = list_any (λ field. is_high (raw_of l.octets field)) (take l.field-index l.field-items) ≡ false
