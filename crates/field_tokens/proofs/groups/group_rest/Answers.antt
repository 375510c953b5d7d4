use Rattle.std.proofs.Common.{◌≡◌, arith}
use Rattle.encoded_words.proofs.QText.{first_is}
use Rattle.field_tokens.proofs.Levels.{Step-none, Step-more}
use Rattle.field_tokens.proofs.GroupLemmas.{group_found, group_never}
use Rattle.field_tokens.proofs.groups.group_rest.Goals as goal

pub loop-depth-init : goal.loop-depth-init
loop-depth-init c = let some = c.requires.some in (Step-none c.args.marks 1 _, omega arith)

pub group_step-requires-clause-room : goal.group_step-requires-clause-room
group_step-requires-clause-room c = c.loop-depth.invariant.1

pub loop-depth-preserved : goal.loop-depth-preserved
loop-depth-preserved c = (Step-more c.args.marks 1 c.loop-depth.depth _ _ c.loop-depth.rest.now _ c.loop-depth.invariant.0 c.in-Some.ensures.found, c.in-Some.ensures.still)

pub returns-in_default-group_step-clause-none : goal.returns-in_default-group_step-clause-none
returns-in_default-group_step-clause-none c =
    let one = first_is c.args.text.now c.in-len1-up.len_at_least in
    group_never c.args.marks c.args.text.now _ c.loop-depth.rest.now c.loop-depth.depth (rw (c.if-octet-marks.false) at one) c.loop-depth.invariant.0 c.in_default-group_step.ensures.none

pub returns-clause-found : goal.returns-clause-found
returns-clause-found c =
    let one = first_is c.args.text.now c.in-len1-up.len_at_least in
    let closed : c.loop-depth.depth ≡ 0 = omega arith in
    group_found c.args.marks c.args.text.now _ c.loop-depth.rest.now c.loop-depth.depth (rw (c.if-octet-marks.false) at one) closed c.loop-depth.invariant.0
