use Rattle.std.proofs.Common.{map, ap, ◌∙◌, arith}
use Rattle.param_grammar.specs.declared.Piece.{Piece}
use Rattle.param_grammar.specs.Joining.{param_value}
use Rattle.param_grammar.specs.Places.{piece_in}
use Rattle.param_grammar.proofs.ParamLemmas.{begun-goes_on, begun-begins, nothing_begun, one_begun, placed_count, role_read}
use Rattle.param_grammar.proofs.PlacedFacts.{placed_read}
use Rattle.param_grammar.proofs.reading.push_param.Goals as goal

pub index-requires : goal.index-requires
index-requires c =
    let has = c.requires.placed.1 in
    let count = placed_count c.args.text.now c.args.placed.now c.requires.placed.0 has in
    omega (arith, count, has.counted, c.requires.number, c.args.placed.now.roles.ok)

pub piece_at-requires : goal.piece_at-requires
piece_at-requires c =
    let pieces = c.requires.placed.0 in (
      piece_in pieces c.args.number,
      placed_read c.args.text.now c.args.placed.now.places.items pieces c.args.number c.index-in-Begins.result.now c.requires.placed.1.are_placed c.requires.number c.index-in-Begins.ensures,
    )

pub returns-in-GoesOn : goal.returns-in-GoesOn
returns-in-GoesOn c pieces has =
    nothing_begun c.args.params.now.items pieces c.args.number (begun-goes_on pieces c.args.number c.index.result.now c.in-GoesOn.is_ascii c.in-GoesOn.is
    (role_read c.args.text.now c.args.placed.now pieces c.args.number c.index.result.now has c.requires.number c.index.ensures))

pub returns-in_ok-push-in-Begins : goal.returns-in_ok-push-in-Begins
returns-in_ok-push-in-Begins c pieces has =
    let at = placed_read c.args.text.now c.args.placed.now.places.items pieces c.args.number c.index-in-Begins.result.now has.are_placed c.requires.number c.index-in-Begins.ensures in
    let role = role_read c.args.text.now c.args.placed.now pieces c.args.number c.index.result.now has c.requires.number c.index.ensures in
    let name = c.in_ok-name-in-Begins.ensures ∙ c.as_slice.ensures ∙ ap (λ (p : Piece). p.base) (c.in_ok-piece-in-Begins.ensures (piece_in pieces c.args.number) at) in
    ap (map param_value) c.in_ok-push-in-Begins.ensures.items
    ∙ one_begun c.args.params.now.items _ pieces c.args.number (begun-begins pieces c.args.number c.index.result.now c.in-Begins.is_ascii c.in-Begins.is_doubled c.in-Begins.is role) name
    (c.in_ok-value-in-Begins.ensures pieces has)
