use Rattle.std.proofs.Common.{length, ◌≤◌}
use Rattle.field_tokens.specs.private.Levels.{LevelStep}
use Rattle.field_tokens.proofs.groups.group_rest.Given as goal

abbrev pub invariant-loop-depth : goal.invariant-loop-depth
invariant-loop-depth l = LevelStep l.marks 1 l.initial.rest l.depth l.rest × (l.depth ≤ l.marks.limit)

abbrev pub decreases-loop-depth : goal.decreases-loop-depth
decreases-loop-depth l = length l.rest
