use Rattle.std.proofs.Common.{drop}
use Rattle.mime_tree.proofs.WordLemmas.{FindsWord}
use Rattle.mime_tree.proofs.openings.only_word.Given as goal

abbrev pub invariant-loop-token : goal.invariant-loop-token
invariant-loop-token l = FindsWord l.tokens l.found (drop l.token-index l.tokens)
