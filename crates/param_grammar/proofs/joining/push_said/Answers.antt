use Rattle.std.proofs.Common.{◌≡◌, ◌++◌, OnOk, ap, ◌∙◌, subst}
use Rattle.param_grammar.specs.declared.Piece.{Piece}
use Rattle.param_grammar.specs.Places.{piece_in}
use Rattle.param_grammar.proofs.PlaceLemmas.{ArePlaced-at}
use Rattle.param_grammar.proofs.joining.push_said.Goals as goal

pub piece_at-requires : goal.piece_at-requires
piece_at-requires c =
    (piece_in c.requires.placed.0 c.args.part, ArePlaced-at c.args.text.now c.args.places.now c.requires.placed.0 c.args.part _ c.requires.placed.1 c.requires.within)

pub returns : goal.returns
returns c pieces placed =
    let is = c.in_ok-piece.ensures (piece_in pieces c.args.part) (ArePlaced-at c.args.text.now c.args.places.now pieces c.args.part _ placed c.requires.within) in
    subst (λ octets. OnOk c.push_slice.result (c.push_slice.new.self ≡ c.args.octets.now ++ octets)) (c.as_slice.ensures ∙ ap (λ (piece : Piece). piece.octets) is) c.push_slice.ensures.ok
