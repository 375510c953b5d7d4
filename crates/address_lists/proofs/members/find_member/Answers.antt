use Rattle.std.proofs.Common.{Err, ap}
use Rattle.address_lists.proofs.members.find_member.Goals as goal

pub unreachable-requires : goal.unreachable-requires
unreachable-requires c = c.in-Err-Malformed.ensures.malformed (ap Err c.in-Err-Malformed.field-0-is) c.requires.0 c.requires.1
