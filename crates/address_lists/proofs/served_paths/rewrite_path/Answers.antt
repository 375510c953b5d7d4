use Rattle.address_lists.proofs.PathPiecesLemmas.{not_served_no_pieces}
use Rattle.address_lists.proofs.served_paths.rewrite_path.Goals as goal

pub returns-in_default-clause-none : goal.returns-in_default-clause-none
returns-in_default-clause-none c = λ _. not_served_no_pieces c.args.text.now (rw (c.in_default.is) at c.in_ok-address.ensures.none)
