use Rattle.std.proofs.Common.{◌≡◌, ℕ, List, [], ◌++◌}
use Rattle.imap_words.specs.Utf7.{written_after}
use Rattle.imap_words.proofs.utf7.write_mutf7.Given as goal

abbrev pub invariant-loop-c : goal.invariant-loop-c
invariant-loop-c l = (more : List ℕ) → written_after [] (l.yielded ++ more) ≡ l.made ++ written_after l.octets more
