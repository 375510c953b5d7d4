use Rattle.std.proofs.Common.{OnOk, subst, ap, take, ◌∙◌}
use Rattle.utf8_fields.specs.private.Views.{parts_value}
use Rattle.field_downgrade.specs.private.Steps.{AddsOctets, MakesField}
use Rattle.field_downgrade.proofs.StructuredWriting.{Adds-pieces, cut_old}
use Rattle.field_downgrade.proofs.structured.push_valued.Goals as goal

pub returns-then-branch : goal.returns-then-branch
returns-then-branch c =
    let puts = rw c.if-branch.true at c.in_ok-push_pieces.ensures in
    Adds-pieces c.args.open_global (parts_value c.args.parts.now) c.args.value.now c.args.made.now c.push_pieces.new.made puts.0 c.requires.other c.requires.value puts.1 puts.2

pub push_whole-requires-clause-none : goal.push_whole-requires-clause-none
push_whole-requires-clause-none c = let puts = rw c.if-branch.false at c.in_ok-push_pieces.ensures in puts.0

pub returns : goal.returns
returns c =
    let puts = rw c.if-branch.false at c.in_ok-push_pieces.ensures in
    let cut = cut_old c.args.made.now _ c.push_pieces.new.made c.truncate.new.self puts.1 (c.truncate.ensures ∙ ap (λ n. take n c.push_pieces.new.made) c.len-len.ensures) in
    subst (λ old. OnOk c.push_whole.result (AddsOctets (MakesField c.args.open_global (parts_value c.args.parts.now)) old c.push_whole.new.made)) cut c.push_whole.ensures
