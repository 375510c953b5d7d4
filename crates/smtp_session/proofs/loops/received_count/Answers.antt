use Rattle.std.proofs.Common.{◌≡◌, ◌<◌, length, ◌∙◌, arith}
use Rattle.std.proofs.Math.Seq.{take-length}
use Rattle.mime_tree.proofs.HighLemmas.{no_field}
use Rattle.smtp_session.proofs.LoopLemmas.{block_count, names_within}
use Rattle.smtp_session.proofs.loops.received_count.Goals as goal

pub is_received-requires : goal.is_received-requires
is_received-requires c =
    let inside : c.loop-field.field-index < length c.args.block.now.fields = rw (← c.as_slice-field-items.ensures) c.loop-field-test.true in
    rw c.as_slice-field-items.ensures (names_within c.args.octets.now c.args.block.now.fields c.args.block.now.end c.requires c.loop-field.field-index no_field inside)

pub returns : goal.returns
returns c =
    let all : c.loop-field.field-index ≡ length c.as_slice-field-items.result.now = omega (arith, c.loop-field.auto.field-index-end) in
    (rw (all, take-length, c.as_slice-field-items.ensures) at c.loop-field.invariant) ∙ block_count c.args.octets.now c.args.block.now.fields c.args.block.now.end c.requires
