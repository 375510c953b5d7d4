use Rattle.std.proofs.Common.{ap, false, ◌∙◌, refl, string_bytes}
use Rattle.pop_session.specs.Machine.{uid_row}
use Rattle.pop_session.proofs.ListLemmas.{listing_turn, listing_over, listing_end}
use Rattle.pop_session.proofs.replies.uidl.Goals.{then-not-one+in_ok-line+in_ok-push_str, else-not-one}
use Rattle.pop_session.proofs.replies.uidl.Goals as goal

pub loop-place-preserved : goal.loop-place-preserved
loop-place-preserved c = λ oracles. elim c.if-not-one.branch [
  | then-not-one+in_ok-line+in_ok-push_str w ↦
      listing_turn oracles uid_row c.args.maildrop.now (record { listed = record { id = 0; uid = 0; flags = 0 }; deleted = false }) c.loop-place.place _ (string_bytes c.loop-place.text)
      w.as_str.result.now (string_bytes c.if-not-one.text) _ c.loop-place-test.true w.if-not-one.true refl
      (w.as_str.ensures.value ∙ w.in_ok-line.ensures) (ap string_bytes w.text-is ∙ w.in_ok-push_str.ensures.bytes) (c.loop-place.invariant oracles)
  | else-not-one w ↦
      listing_over oracles uid_row c.args.maildrop.now (record { listed = record { id = 0; uid = 0; flags = 0 }; deleted = false }) c.loop-place.place (string_bytes c.loop-place.text)
      (string_bytes c.if-not-one.text) _ c.loop-place-test.true w.if-not-one.false (ap string_bytes w.text-is) (c.loop-place.invariant oracles)
]

pub returns : goal.returns
returns c = λ oracles.
    listing_end oracles uid_row c.args.maildrop.now c.loop-place.place (string_bytes c.loop-place.text) (string_bytes c.push_str-2.new.self) c.loop-place-test.false
    c.in_ok-push_str-2.ensures.bytes (c.loop-place.invariant oracles)
