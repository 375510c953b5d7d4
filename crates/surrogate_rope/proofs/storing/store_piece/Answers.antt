use Rattle.field_downgrade.proofs.Writing.{OnOk-then}
use Rattle.surrogate_rope.proofs.StoredLemmas.{new_stored, range_stored}
use Rattle.surrogate_rope.proofs.storing.store_piece.Goals as goal

pub returns-in_ok-push_slice : goal.returns-in_ok-push_slice
returns-in_ok-push_slice c =
    OnOk-then c.push_slice-then-piece.result _ _
    (λ form. new_stored c.args.octets.now c.args.piece.now c.args.stored.now c.push_slice.new.self c.push_slice-then-piece.new.self (rw c.new_form.ensures.form at c.in_ok-push_slice.ensures.ok) form
    (c.requires c.if-piece.true) c.if-piece.true c.new_form.ensures.small) c.push_slice-then-piece.ensures.ok

pub returns-else-piece : goal.returns-else-piece
returns-else-piece c =
    OnOk-then c.push_slice-else-piece.result _ _
    (λ form. range_stored c.args.octets.now c.args.piece.now c.args.stored.now c.push_slice-else-piece.new.self (rw c.range_form.ensures.form at form) c.if-piece.false c.range_form.ensures.small) c.push_slice-else-piece.ensures.ok
