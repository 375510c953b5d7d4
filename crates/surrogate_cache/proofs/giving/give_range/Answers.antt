use Rattle.std.proofs.Common.{◌∙◌, ap, take}
use Rattle.std.proofs.lemmas.Result.{err_from_is_err_and}
use Rattle.surrogate_rope.specs.Served.{shown_octets}
use Rattle.surrogate_cache.proofs.GivingLemmas.{more_given, prefix_given}
use Rattle.surrogate_cache.proofs.giving.give_range.Goals as goal

pub returns-in_err-give-clause-gives : goal.returns-in_err-give-clause-gives
returns-in_err-give-clause-gives g c =
    let p = err_from_is_err_and c.from_residual.result c.from_residual.ensures.1 in
    rw p.1
    (prefix_given (g.W.Wire.observed c.args.wire.now) (g.W.Wire.observed c.loop-left.wire) (g.W.Wire.observed c.give.new.self) (shown_octets c.args.msg.now c.args.shown.now) c.run_at-run.result.now c.split_at.result.0.now
    c.args.at c.args.len c.loop-left.place c.loop-left.left c.in_err-give.field-0.0 c.loop-left.invariant
    (record { run_is = c.run_at-run.ensures.run; piece_is = c.split_at.ensures.front ∙ ap (λ n. take n c.run_at-run.result.now) c.min.ensures })
    (record { left = c.give.ensures.left; transcript = c.in_err-give.ensures.transcript; cause = c.in_err-give.ensures.cause; sure = c.in_err-give.ensures.sure }))

pub loop-left-preserved : goal.loop-left-preserved
loop-left-preserved g c =
    more_given (g.W.Wire.observed c.args.wire.now) (g.W.Wire.observed c.loop-left.wire) (g.W.Wire.observed c.give.new.self) (shown_octets c.args.msg.now c.args.shown.now) c.run_at-run.result.now c.split_at.result.0.now
    c.args.at c.args.len c.loop-left.place c.loop-left.left c.in_ok-give.field-0 c.loop-left.invariant
    (record { run_is = c.run_at-run.ensures.run; piece_is = c.split_at.ensures.front ∙ ap (λ n. take n c.run_at-run.result.now) c.min.ensures })
    (record { left = c.give.ensures.left; transcript = c.in_ok-give.ensures.transcript; cause = c.in_ok-give.ensures.cause; sure = c.in_ok-give.ensures.sure })
