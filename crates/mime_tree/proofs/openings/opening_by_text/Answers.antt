use Rattle.std.proofs.Common.{sym, ◌∙◌}
use Rattle.mime_tree.proofs.OpeningLemmas.{opens-where, text-malformed}
use Rattle.mime_tree.proofs.OtherTypes.{other-opens}
use Rattle.mime_tree.proofs.openings.opening_by_text.Goals as goal

pub returns-then-begins_other : goal.returns-then-begins_other
returns-then-begins_other c = other-opens c.args.text.now (sym c.begins_other.ensures ∙ c.if-begins_other.true)

pub opening_said-requires : goal.opening_said-requires
opening_said-requires c = let has = c.in-Ok.ensures.ok in (has.pieces, has.has_placed)

pub returns-in-Ok : goal.returns-in-Ok
returns-in-Ok c = let has = c.in-Ok.ensures.ok in opens-where c.args.text.now c.in-Ok.body c.opening_said.result has (c.opening_said.ensures has.pieces has.has_placed)

pub returns-in-Err-Malformed : goal.returns-in-Err-Malformed
returns-in-Err-Malformed c =
    let a = c.in-Err-Malformed.is in
    let b = c.in-Err-Malformed.field-0-is in
    text-malformed c.args.text.now (c.read_body.ensures.malformed (cc (a, b)))
