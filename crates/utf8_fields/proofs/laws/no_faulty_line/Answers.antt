use Rattle.mail_wire.specs.Lines.{lines_of}
use Rattle.utf8_fields.proofs.NoFault.{no_fault}
use Rattle.utf8_fields.proofs.laws.no_faulty_line.Goals as goal

pub returns : goal.returns
returns c octets fields end fault = no_fault (lines_of octets) 0 fields end fault
