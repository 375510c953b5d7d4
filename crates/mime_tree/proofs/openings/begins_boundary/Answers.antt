use Rattle.std.proofs.Common.{sym, ◌∙◌, arith}
use Rattle.std.proofs.lemmas.Bool.{true≢false}
use Rattle.param_grammar.proofs.PlaceLemmas.{ArePlaced-length}
use Rattle.mime_tree.proofs.OpeningLemmas.{begins_here}
use Rattle.mime_tree.proofs.openings.begins_boundary.Goals.{in-Begins, in_default}
use Rattle.mime_tree.proofs.openings.begins_boundary.Goals as goal

pub index-requires : goal.index-requires
index-requires c =
    let p = c.requires.placed in
    omega (arith, c.requires.number, p.1.counted, ArePlaced-length c.args.text.now c.args.placed.now.places.items p.0 p.1.are_placed)

pub returns-then-matches : goal.returns-then-matches
returns-then-matches c pieces has = elim c.match-matches.branch [
  | in-Begins w ↦
      begins_here c.args.text.now c.args.placed.now pieces c.args.number c.index.result.now _ _ c.index-then-matches.result.now c.base_at.result.now c.is_same_name.result has c.requires.number
      c.index.ensures w.in-Begins.is c.index-then-matches.ensures c.base_at.ensures c.is_same_name.ensures
  | in_default w ↦ absurd (true≢false (sym c.if-matches.true ∙ w.matches-is))
]
