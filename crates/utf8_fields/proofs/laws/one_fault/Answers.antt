use Rattle.mail_wire.specs.Lines.{lines_of}
use Rattle.utf8_fields.proofs.OneFault.{one_fault}
use Rattle.utf8_fields.proofs.laws.one_fault.Goals as goal

pub returns : goal.returns
returns c octets fault other = one_fault (lines_of octets) 0 fault other
