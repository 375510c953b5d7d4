use Rattle.mime_tree.proofs.OpeningLemmas.{no_field, split_parts, value-other, value-passed}
use Rattle.mime_tree.proofs.openings.first_value.Goals.{then-begins_with_name+else-parts-name, else-begins_with_name}
use Rattle.mime_tree.proofs.openings.first_value.Goals as goal

pub loop-field-preserved : goal.loop-field-preserved
loop-field-preserved c = elim c.if-begins_with_name.branch [
  | then-begins_with_name+else-parts-name w ↦
      let field = (c.requires.within c.loop-field.field-index no_field c.loop-field-test.true).1 in
      value-other c.args.octets.now c.args.name.now c.args.fields.now c.loop-field.field-index _ c.loop-field.invariant c.loop-field-test.true
      (split_parts _ _ field w.split_field-parts.ensures) w.if-parts-name.false
  | else-begins_with_name w ↦
      value-passed c.args.octets.now c.args.name.now c.args.fields.now c.loop-field.field-index c.loop-field.invariant c.loop-field-test.true c.requires.within
      (c.begins_with_name.ensures.other w.if-begins_with_name.false)
]
