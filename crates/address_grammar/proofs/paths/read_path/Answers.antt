use Rattle.address_grammar.proofs.PlainPathLemmas.{plain_path, plain_path_once}
use Rattle.address_grammar.proofs.paths.read_path.Goals as goal

pub returns-clause-ok : goal.returns-clause-ok
returns-clause-ok c = plain_path c.args.text.now _ _ c.in-Ok.address c.in-Some.ensures c.in-Ok.ensures.local c.in-Ok.ensures.domain

pub returns-clause-exact : goal.returns-clause-exact
returns-clause-exact c = λ answer path. plain_path_once c.args.text.now _ _ c.in-Ok.address answer c.in-Some.ensures c.in-Ok.ensures.local c.in-Ok.ensures.domain path
