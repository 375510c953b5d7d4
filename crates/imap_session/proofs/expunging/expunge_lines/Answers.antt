use Rattle.std.proofs.Common.{◌∙◌, sym, arith}
use Rattle.imap_session.proofs.LineLemmas.{closing-end, closing-gone, closing-left}
use Rattle.imap_session.proofs.expunging.expunge_lines.Goals.{then-is_deleted+in_ok-line+in_ok-push_slice, else-is_deleted}
use Rattle.imap_session.proofs.expunging.expunge_lines.Goals as goal

pub loop-one-preserved : goal.loop-one-preserved
loop-one-preserved c = elim c.if-is_deleted.branch [
  | then-is_deleted+in_ok-line+in_ok-push_slice w ↦ record {
    few = omega (arith, w.number-is, c.loop-one.invariant.few);
    lines = λ oracles. rw w.number-is
        (closing-gone oracles c.args.messages.now c.loop-one.one-index c.loop-one.number (record { id = 0; uid = 0; flags = 0 }) c.loop-one.lines c.if-is_deleted.lines w.as_bytes.result.now _
        c.loop-one-test.true (sym c.is_deleted.ensures ∙ w.if-is_deleted.true) (w.as_bytes.ensures.value ∙ w.in_ok-line.ensures.ok) (w.lines-is ∙ w.in_ok-push_slice.ensures.ok) (c.loop-one.invariant.lines oracles));
  }
  | else-is_deleted w ↦ record {
    few = omega (arith, w.number-is, c.loop-one.invariant.few);
    lines = λ oracles. rw w.number-is
        (closing-left oracles c.args.messages.now c.loop-one.one-index c.loop-one.number (record { id = 0; uid = 0; flags = 0 }) c.loop-one.lines c.if-is_deleted.lines _
        c.loop-one-test.true (sym c.is_deleted.ensures ∙ w.if-is_deleted.false) w.lines-is (c.loop-one.invariant.lines oracles));
  }
]

pub returns : goal.returns
returns c = λ oracles. closing-end oracles c.args.messages.now c.loop-one.one-index c.loop-one.number c.loop-one.lines _ c.loop-one-test.false (c.loop-one.invariant.lines oracles)
