use Rattle.std.proofs.Common.{length}
use Rattle.field_tokens.specs.Lexemes.{values_of}
use Rattle.encoded_words.specs.Folding.{AddsLines}
use Rattle.address_lists.proofs.KeptGroups.{WritesMembers}
use Rattle.address_lists.proofs.written_groups.write_members.Given as goal

abbrev pub invariant-loop-member : goal.invariant-loop-member
invariant-loop-member l = AddsLines (WritesMembers (values_of l.lexemes) (values_of l.rest)) l.fn.made l.made

abbrev pub decreases-loop-member : goal.decreases-loop-member
decreases-loop-member l = length (values_of l.rest)
