use Rattle.std.proofs.Common.{refl, inl, inr}
use Rattle.std.proofs.lemmas.Result.{err_from_is_err_and}
use Rattle.session_core.proofs.serving.take_and_feed.Goals as goal

pub returns-in_err-count-clause-takes : goal.returns-in_err-count-clause-takes
returns-in_err-count-clause-takes g c =
    let failed = err_from_is_err_and c.from_residual.result c.from_residual.ensures.1 in
    rw (failed.1, failed.2) (inl (λ bad. c.in_err-count.ensures.keeper (rw bad refl), c.in_err-count.ensures.leaves, c.in_err-count.ensures.fails))

pub returns-then-count-eq0-clause-takes : goal.returns-then-count-eq0-clause-takes
returns-then-count-eq0-clause-takes g c = (c.in_ok-count.ensures.leaves, (c.take.new.into, rw c.if-count-eq0.true at c.in_ok-count.ensures.takes))

pub returns-in_err-session-clause-takes : goal.returns-in_err-session-clause-takes
returns-in_err-session-clause-takes g c =
    let failed = err_from_is_err_and c.from_residual-in_err-session.result c.from_residual-in_err-session.ensures.1 in
    rw (failed.1, failed.2)
    (inr (
      c.in_ok-count.count,
      record {
        between = c.take.new.self;
        into = c.take.new.into;
        leaves = c.in_ok-count.ensures.leaves;
        clock = c.in_ok-count.ensures.keeps.clock;
        takes = c.in_ok-count.ensures.takes;
        bound = c.in_ok-count.ensures.bound;
        fits = c.take.auto.into;
        feeds = c.in_err-session.ensures.feeds;
      },
    ))

pub returns-clause-takes : goal.returns-clause-takes
returns-clause-takes g c = record {
  between = c.take.new.self;
  into = c.take.new.into;
  leaves = c.in_ok-count.ensures.leaves;
  clock = c.in_ok-count.ensures.keeps.clock;
  takes = c.in_ok-count.ensures.takes;
  bound = c.in_ok-count.ensures.bound;
  fits = c.take.auto.into;
  feeds = c.in_ok-session.ensures.feeds;
}
