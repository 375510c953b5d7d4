use Rattle.std.proofs.Common.{sym, ap, ◌∙◌, subst}
use Rattle.std.specs.Option.{option_copied}
use Rattle.param_grammar.specs.Places.{IsPlaced, piece_in}
use Rattle.param_grammar.proofs.PlaceLemmas.{ArePlaced-at, number_found, number_none}
use Rattle.param_grammar.proofs.joining.number_of.Goals as goal

pub returns-in-Some-digits_of-clause-number : goal.returns-in-Some-digits_of-clause-number
returns-in-Some-digits_of-clause-number c pieces placed below n small =
    let is = subst (λ p. IsPlaced c.args.text.now p (piece_in pieces c.args.part)) (sym c.in-Some.ensures.lookup.1)
    (ArePlaced-at c.args.text.now c.args.places.now pieces c.args.part c.in-Some.place.now placed below) in
    number_found _ _ _ n c.args.bound (sym (c.digits_of.ensures (piece_in pieces c.args.part) is) ∙ ap option_copied c.in-Some-digits_of.is) c.number_below.ensures small

pub returns-in-None-clause-number : goal.returns-in-None-clause-number
returns-in-None-clause-number c pieces placed below n small =
    let is = subst (λ p. IsPlaced c.args.text.now p (piece_in pieces c.args.part)) (sym c.in-Some.ensures.lookup.1)
    (ArePlaced-at c.args.text.now c.args.places.now pieces c.args.part c.in-Some.place.now placed below) in
    number_none _ n (sym (c.digits_of.ensures (piece_in pieces c.args.part) is) ∙ ap option_copied c.in-None.is)
