use Rattle.std.proofs.Common.{not, ap, sym, ◌∙◌}
use Rattle.mail_wire.specs.Octets.{is_high}
use Rattle.utf8_fields.specs.Block.{raw_of}
use Rattle.mime_tree.proofs.HighLemmas.{high_at, no_field, none_high, none_more}
use Rattle.mime_tree.proofs.high_blocks.is_high_block.Goals as goal

pub loop-field-preserved : goal.loop-field-preserved
loop-field-preserved c =
    none_more (λ field. is_high (raw_of c.args.octets.now field)) c.as_slice-field-items.result.now c.loop-field.field-index no_field c.loop-field-test.true c.loop-field.invariant
    (ap not (sym c.is_ascii.ensures ∙ c.if-not-is_ascii.false))

pub returns-then-not-is_ascii : goal.returns-then-not-is_ascii
returns-then-not-is_ascii c =
    high_at c.args.octets.now c.as_slice-field-items.result.now c.args.entity.now.block.fields c.loop-field.field-index no_field c.as_slice-field-items.ensures c.loop-field-test.true
    (sym c.is_ascii.ensures ∙ c.if-not-is_ascii.true)

pub returns : goal.returns
returns c =
    none_high c.args.octets.now c.as_slice-field-items.result.now c.args.entity.now.block.fields c.loop-field.field-index c.as_slice-field-items.ensures c.loop-field-test.false c.loop-field.invariant
