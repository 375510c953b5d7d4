use Rattle.std.proofs.Common.{rules}
use Rattle.relay_choice.proofs.PassingLemmas.{passes_turn}
use Rattle.relay_choice.proofs.states.Client.pass_unsent.Goals as goal

pub loop-at-preserved : goal.loop-at-preserved
loop-at-preserved c =
    let lt = c.loop-at-test.true in
    let is = c.index-mail_objects-at.is in (
      c.loop-at.invariant.0,
      rw (c.in_ok-push.ensures.ok, c.in_ok-outcomes.ensures)
          (passes_turn c.args.self.now c.args.from _ c.loop-at.acts c.loop-at.at c.index-mail_objects-at.result (rw c.loop-at.invariant.0 at lt) (rw c.loop-at.invariant.0 at is) (search rules) c.loop-at.invariant.1),
    )
