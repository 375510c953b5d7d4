use Rattle.std.proofs.Common.{arith, ℕ, List, length, take, drop, ◌+◌, ◌-◌, ◌≤◌}
use Rattle.std.proofs.lemmas.List.Elements.{All-nil, All-push}
use Rattle.utf8_fields.specs.declared.block.Field.{Field}
use Rattle.std.proofs.lemmas.Slice.{between_to_end}
use Rattle.std.proofs.lemmas.Result.{err_from_is_err_and}
use Rattle.mail_wire.specs.Lines.{lines_of}
use Rattle.utf8_fields.specs.Block.{EndsBlock, HasBlockIn}
use Rattle.utf8_fields.specs.private.Steps.{HasReadFields}
use Rattle.utf8_fields.proofs.OneBlock.{same_block}
use Rattle.utf8_fields.proofs.NoFault.{no_fault}
use Rattle.utf8_fields.proofs.OneFault.{found_or_memory}
use Rattle.utf8_fields.proofs.HaveParts.{block_fields, have_parts, have_names}
use Rattle.utf8_fields.proofs.Fields.{HasBlock-from_read, HasRead-none, HasRead-more, IsFault-from_read}
use Rattle.utf8_fields.proofs.reading.read_block_at.Goals as goal

pub loop-fields-init : goal.loop-fields-init
loop-fields-init c = (rw c.new-fields.ensures (HasRead-none c.args.octets.now c.args.start c.requires), omega arith, rw c.new-fields.ensures (All-nil (λ field. field.raw.at + field.raw.len ≤ length c.args.octets.now)))

pub returns-in_err-field-clause-fault : goal.returns-in_err-field-clause-fault
returns-in_err-field-clause-fault c =
    let p = err_from_is_err_and c.from_residual.result c.from_residual.ensures.1 in
    rw (p.1, p.2) (IsFault-from_read c.args.octets.now c.args.start _ c.loop-fields.at _ c.loop-fields.invariant.0 c.in_err-field.ensures.fault)

pub loop-fields-preserved : goal.loop-fields-preserved
loop-fields-preserved c =
    let more = HasRead-more c.args.octets.now c.args.start _ c.loop-fields.at _ c.loop-fields.invariant.0 c.in_ok-field.ensures.field in
    let raw_at = c.in_ok-field.ensures.field.is_field.raw_at in
    let fits = c.in_ok-field.ensures.field.fits in
    let within : c.in_ok-field.field.raw.at + c.in_ok-field.field.raw.len ≤ length c.args.octets.now = omega arith in
    let all = All-push (λ (field : Field). field.raw.at + field.raw.len ≤ length c.args.octets.now) c.loop-fields.fields c.in_ok-field.field c.loop-fields.invariant.2 within in
    (rw c.in_ok-push.ensures.ok more, omega arith, rw c.in_ok-push.ensures.ok all)

the_block : (octets : List ℕ) (start : ℕ) (fields : List Field) (at : ℕ) → HasReadFields octets start fields at → EndsBlock (lines_of (take (length octets - at) (drop at octets)))
    → HasBlockIn (lines_of (drop start octets)) start fields at
the_block octets start fields at read ends =
    let fits = read.fits in HasBlock-from_read octets start fields at read (rw (between_to_end octets at (length octets) (omega arith)) at ends)

pub returns-clause-block : goal.returns-clause-block
returns-clause-block c = the_block c.args.octets.now c.args.start _ c.loop-fields.at c.loop-fields.invariant.0 (c.ends_block.ensures.0 c.loop-fields-test.false)

pub returns-clause-exact : goal.returns-clause-exact
returns-clause-exact c fields end block =
    let here = the_block c.args.octets.now c.args.start _ c.loop-fields.at c.loop-fields.invariant.0 (c.ends_block.ensures.0 c.loop-fields-test.false) in
    same_block (lines_of (drop c.args.start c.args.octets.now)) c.args.start _ fields _ end here block

pub returns-in_err-field-clause-exact : goal.returns-in_err-field-clause-exact
returns-in_err-field-clause-exact c fields end block =
    let p = err_from_is_err_and c.from_residual.result c.from_residual.ensures.1 in
    let fault = IsFault-from_read c.args.octets.now c.args.start _ c.loop-fields.at _ c.loop-fields.invariant.0 c.in_err-field.ensures.fault in
    rw (p.1, p.2) (no_fault (lines_of (drop c.args.start c.args.octets.now)) c.args.start fields end _ block fault)

pub returns-clause-exact_fault : goal.returns-clause-exact_fault
returns-clause-exact_fault c fault is some =
    let here = the_block c.args.octets.now c.args.start _ c.loop-fields.at c.loop-fields.invariant.0 (c.ends_block.ensures.0 c.loop-fields-test.false) in
    absurd (some (no_fault (lines_of (drop c.args.start c.args.octets.now)) c.args.start _ _ fault here is))

pub returns-in_err-field-clause-exact_fault : goal.returns-in_err-field-clause-exact_fault
returns-in_err-field-clause-exact_fault c fault is some =
    let p = err_from_is_err_and c.from_residual.result c.from_residual.ensures.1 in
    let found = IsFault-from_read c.args.octets.now c.args.start _ c.loop-fields.at _ c.loop-fields.invariant.0 c.in_err-field.ensures.fault in
    rw (p.1, p.2) (found_or_memory (lines_of (drop c.args.start c.args.octets.now)) c.args.start _ fault found is some)

pub returns-clause-parts : goal.returns-clause-parts
returns-clause-parts c =
    let here = the_block c.args.octets.now c.args.start _ c.loop-fields.at c.loop-fields.invariant.0 (c.ends_block.ensures.0 c.loop-fields-test.false) in
    have_parts c.args.octets.now _ (block_fields c.args.octets.now c.args.start _ _ c.requires here)

pub returns-clause-names : goal.returns-clause-names
returns-clause-names c =
    let here = the_block c.args.octets.now c.args.start _ c.loop-fields.at c.loop-fields.invariant.0 (c.ends_block.ensures.0 c.loop-fields-test.false) in
    have_names c.args.octets.now _ (block_fields c.args.octets.now c.args.start _ _ c.requires here)
