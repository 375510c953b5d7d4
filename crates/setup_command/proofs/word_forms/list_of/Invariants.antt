use Rattle.std.proofs.Common.{◌≡◌, ◌-◌, ◌≤◌, length, map, take}
use Rattle.setup_command.proofs.word_forms.list_of.Given as goal

abbrev pub invariant-loop-word : goal.invariant-loop-word
invariant-loop-word l = record {
  same : map (λ s. s.now) l.list.items ≡ take (length l.list.items) l.words;
  within : length l.list.items ≤ length l.words;
}

abbrev pub decreases-loop-word : goal.decreases-loop-word
decreases-loop-word l = length l.words - length l.list.items
