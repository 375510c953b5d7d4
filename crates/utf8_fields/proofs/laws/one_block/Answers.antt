use Rattle.mail_wire.specs.Lines.{lines_of}
use Rattle.utf8_fields.proofs.OneBlock.{same_block}
use Rattle.utf8_fields.proofs.laws.one_block.Goals as goal

pub returns : goal.returns
returns c octets fields others end other = same_block (lines_of octets) 0 fields others end other
