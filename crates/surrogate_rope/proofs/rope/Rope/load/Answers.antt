use Rattle.std.proofs.Common.{map}
use Rattle.std.specs.List.{flat_map}
use Rattle.mime_tree.specs.Outlines.{seen_outline}
use Rattle.surrogate_rope.specs.Stored.{stored_entity}
use Rattle.surrogate_rope.proofs.LoadLemmas.{first_count, second_count, form_pieces, form_entities, rope_loaded, loaded_sound}
use Rattle.surrogate_rope.proofs.rope.Rope.load.Goals as goal

pub load_entities-requires : goal.load_entities-requires
load_entities-requires c = (
  c.requires.0.entities,
  form_entities c.args.octets.now c.requires.0 c.in_ok-pieces.at c.number_at-2.result c.requires.1
      (c.in_ok-pieces.ensures c.requires.0.pieces (flat_map stored_entity c.requires.0.entities)
      (form_pieces c.args.octets.now c.requires.0 c.number_at.result c.requires.1 (first_count c.args.octets.now c.requires.0 c.number_at.result c.requires.1 c.number_at.ensures))).1
      (second_count c.args.octets.now c.requires.0 c.number_at-2.result c.requires.1 c.number_at-2.ensures),
)

pub invariant_of-result : goal.invariant_of-result
invariant_of-result c =
    loaded_sound c.args.octets.now c.requires.0 (record { pieces = c.in_ok-pieces.pieces; entities = map seen_outline c.in_ok-outlines.outlines.items; rewritten = c.number_at-3.result })
    (rope_loaded c.args.octets.now c.in_ok-pieces.pieces c.in_ok-pieces.at c.number_at.result c.number_at-2.result c.number_at-3.result (map seen_outline c.in_ok-outlines.outlines.items) c.number_at.ensures
    c.number_at-2.ensures c.number_at-3.ensures c.in_ok-pieces.ensures c.in_ok-outlines.ensures c.requires.0 c.requires.1) c.requires.1

pub returns : goal.returns
returns c =
    rope_loaded c.args.octets.now c.in_ok-pieces.pieces c.in_ok-pieces.at c.number_at.result c.number_at-2.result c.number_at-3.result (map seen_outline c.in_ok-outlines.outlines.items) c.number_at.ensures
    c.number_at-2.ensures c.number_at-3.ensures c.in_ok-pieces.ensures c.in_ok-outlines.ensures
