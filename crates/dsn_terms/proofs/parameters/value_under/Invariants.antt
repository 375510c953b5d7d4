use Rattle.std.proofs.Common.{◌≡◌, drop}
use Rattle.dsn_terms.specs.Parameters.{value_under}
use Rattle.dsn_terms.proofs.parameters.value_under.Given as goal

-- no word so far begins with the keyword
abbrev pub invariant-loop-word : goal.invariant-loop-word
invariant-loop-word l = value_under l.keyword (drop l.word-index l.words) ≡ value_under l.keyword l.words
