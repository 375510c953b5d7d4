use Rattle.param_grammar.proofs.PlaceLemmas.{not-IsPieceBy-octets, says_as}
use Rattle.param_grammar.proofs.contents.said_by.Goals as goal

pub returns-in_default-2-clause-none : goal.returns-in_default-2-clause-none
returns-in_default-2-clause-none c =
    not-IsPieceBy-octets c.args.name.now c.args.is_quoted c.args.value.now _ c.in-Some.ensures.found
    (rw (c.in_default-2.is, c.is_first.ensures, c.in_ok-content.ensures) at c.in_ok-said.ensures.none)

pub returns-clause-found : goal.returns-clause-found
returns-clause-found c =
    says_as c.args.name.now c.args.is_quoted c.args.value.now _ _ _ c.in-Some.ensures.found
    (rw (c.in-Some-2.is, c.is_first.ensures, c.in_ok-content.ensures) at c.in_ok-said.ensures.found)
