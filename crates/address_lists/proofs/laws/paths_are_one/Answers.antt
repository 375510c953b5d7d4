use Rattle.address_grammar.proofs.PathLemmas.{HasPath-once}
use Rattle.address_lists.proofs.laws.paths_are_one.Goals as goal

pub returns : goal.returns
returns c = HasPath-once
