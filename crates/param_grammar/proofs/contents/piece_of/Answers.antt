use Rattle.param_grammar.proofs.PlaceLemmas.{not-IsPieceBy-octets}
use Rattle.param_grammar.proofs.contents.piece_of.Goals as goal

pub returns-in_default-2-clause-none : goal.returns-in_default-2-clause-none
returns-in_default-2-clause-none c =
    not-IsPieceBy-octets c.args.name.now c.args.is_quoted c.args.value.now _ c.in-Some.ensures.found
    (rw (c.in_default-2.is, c.is_first.ensures, c.in_ok-content.ensures) at c.in_ok-charset.ensures.none)
