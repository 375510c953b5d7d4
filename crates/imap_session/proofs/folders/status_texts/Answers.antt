use Rattle.std.proofs.Common.{◌∙◌, arith}
use Rattle.imap_session.specs.Machine.{status_among}
use Rattle.imap_session.proofs.LineLemmas.{spaced-first, spaced-more}
use Rattle.imap_session.proofs.folders.status_texts.Goals.{then-place-gt0+in_ok-push, else-place-gt0}
use Rattle.imap_session.proofs.folders.status_texts.Goals as goal

pub loop-place-preserved : goal.loop-place-preserved
loop-place-preserved c = elim c.if-place-gt0.branch [
  | then-place-gt0+in_ok-push w ↦
      spaced-more (λ item. status_among item c.args.messages.now c.args.next) c.args.items.now c.loop-place.place _ c.loop-place.texts c.if-place-gt0.texts c.as_bytes.result.now c.push_slice.new.self
      c.loop-place-test.true w.if-place-gt0.true (c.as_bytes.ensures.value ∙ c.in_ok-text.ensures) c.loop-place.invariant (w.texts-is ∙ w.in_ok-push.ensures.ok) c.in_ok-push_slice.ensures.ok
  | else-place-gt0 w ↦
      spaced-first (λ item. status_among item c.args.messages.now c.args.next) c.args.items.now c.loop-place.place _ c.loop-place.texts c.as_bytes.result.now c.push_slice.new.self
      c.loop-place-test.true (omega (arith, w.if-place-gt0.false)) (c.as_bytes.ensures.value ∙ c.in_ok-text.ensures) c.loop-place.invariant (rw w.texts-is at c.in_ok-push_slice.ensures.ok)
]
