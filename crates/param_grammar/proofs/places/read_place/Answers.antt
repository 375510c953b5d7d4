use Rattle.std.proofs.Common.{refl, ◌∙◌}
use Rattle.param_grammar.specs.Names.{parts_value}
use Rattle.param_grammar.specs.private.Marked.{tokens_of}
use Rattle.param_grammar.proofs.PlaceLemmas.{not-IsPiece-sides, not-IsPiece-octets, IsPlaced-made, some_copied}
use Rattle.param_grammar.proofs.places.read_place.Goals as goal

pub returns-in_default-clause-none : goal.returns-in_default-clause-none
returns-in_default-clause-none c = not-IsPiece-sides c.args.text.now (tokens_of c.args.section) c.in_default.ensures.none

pub returns-then-not-branch-clause-none : goal.returns-then-not-branch-clause-none
returns-then-not-branch-clause-none c =
    not-IsPiece-octets c.args.text.now (tokens_of c.args.section) c.in-Some.sides.name c.in-Some.sides.value c.in-Some.sides.is_quoted (parts_value c.in-Some-read_name.parts) c.in-Some.ensures.found
    (rw (c.octets_of-name.ensures) at c.in-Some-read_name.ensures.found) (rw (c.octets_of-value.ensures) at (c.in_ok-says_some.ensures.none c.if-not-branch.true))

pub returns-clause-found : goal.returns-clause-found
returns-clause-found c =
    IsPlaced-made c.args.text.now (tokens_of c.args.section) c.in-Some.sides.name c.in-Some.sides.value c.in-Some.sides.is_quoted (parts_value c.in-Some-read_name.parts) _ c.in-Some.ensures.found
    (rw (c.octets_of-name.ensures) at c.in-Some-read_name.ensures.found) (rw (c.octets_of-value.ensures) at (c.in_ok-says_some.ensures.some c.if-not-branch.false))
    c.in_ok-new.ensures c.in_ok-new-2.ensures refl refl (c.is_some.ensures ∙ some_copied c.in-Some-read_name.parts.number) (rw (c.octets_of-name.ensures, c.octets_of-value.ensures) at c.are_ascii.ensures)
