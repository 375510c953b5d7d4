use Rattle.address_grammar.proofs.WritingLemmas.{path_again}
use Rattle.address_grammar.proofs.paths.write_address.Goals as goal

pub returns-clause-read_back : goal.returns-clause-read_back
returns-clause-read_back c = rw (c.in_ok-push_address.ensures, c.from_vec-made.ensures, c.in_ok-with_capacity.ensures.items) (path_again c.args.address.now c.requires)
