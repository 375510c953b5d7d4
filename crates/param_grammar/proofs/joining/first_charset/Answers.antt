use Rattle.std.proofs.Common.{◌≡◌, ◌<◌, length, get_or, IfOk, ap, ◌∙◌, subst, arith}
use Rattle.param_grammar.specs.declared.Piece.{Piece}
use Rattle.param_grammar.specs.Places.{piece_in}
use Rattle.param_grammar.proofs.PlaceLemmas.{ArePlaced-at}
use Rattle.param_grammar.proofs.SlotLemmas.{charset_of_first}
use Rattle.param_grammar.proofs.joining.first_charset.Goals as goal

pub piece_at-requires : goal.piece_at-requires
piece_at-requires c =
    let first = get_or c.args.parts.now 0 0 in
    let some : 0 < length c.args.parts.now = omega (arith, c.in-len1-up.len_at_least) in
    (piece_in c.requires.placed.0 first, ArePlaced-at c.args.text.now c.args.places.now c.requires.placed.0 first _ c.requires.placed.1 (c.requires.within 0 0 some))

pub returns-in_ok-piece-in-len1-up : goal.returns-in_ok-piece-in-len1-up
returns-in_ok-piece-in-len1-up c pieces placed =
    let first = get_or c.args.parts.now 0 0 in
    let some : 0 < length c.args.parts.now = omega (arith, c.in-len1-up.len_at_least) in
    let is = c.in_ok-piece-in-len1-up.ensures (piece_in pieces first) (ArePlaced-at c.args.text.now c.args.places.now pieces first _ placed (c.requires.within 0 0 some)) in
    subst (λ octets. IfOk c.from_slice.result (λ charset. charset ≡ octets)) (c.as_slice.ensures ∙ ap (λ (piece : Piece). piece.charset) is ∙ charset_of_first (piece_in pieces) c.args.parts.now some)
    c.from_slice.ensures
