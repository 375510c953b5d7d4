use Rattle.std.proofs.Common.{◌≡◌, ℕ, ◌<◌, ◌≤◌, ◌+◌, length, take, Ok, None, refl, sym, ap, arith, ◌∙◌}
use Rattle.std.proofs.lemmas.List.{length-take}
use Rattle.std.proofs.lemmas.Result.{err_from_is_err_and}
use Rattle.session_core.specs.declared.desk.Limits.{Limits}
use Rattle.session_core.proofs.KeepsLemmas.{Keeps-nil, Keeps-then}
use Rattle.session_core.proofs.ServingLemmas.{fed_fails, fed_on, goes_first, input_ends, limit_reached, session_ends}
use Rattle.session_core.specs.private.Taking.{FeedsTaken}
use Rattle.session_core.proofs.serving.serve_begun.Goals as goal

pub loop-taken-init : goal.loop-taken-init
loop-taken-init g c = record {
  laws = record { framed = g.met.M.Machine.framed; goes_on = g.met.M.Machine.goes_on; quiet = g.met.M.Machine.quiet; begins_fit = g.met.M.Machine.begins_fit; fits = g.met.M.Machine.fits };
  goes = λ start begins clock. goes_first g.M.Machine.protocol g.M.Machine.stands start c.args.outside.now c.args.session begins;
  ready = c.requires.ready;
  goes_on = c.requires.goes_on;
  on = Keeps-nil c.args.outside.now;
  low = omega arith;
}

pub returns-in_err-fed-clause-serves : goal.returns-in_err-fed-clause-serves
returns-in_err-fed-clause-serves g c = λ start opens begins kept.
    let failed = err_from_is_err_and c.from_residual.result c.from_residual.ensures.1 in
    let most : c.args.max ≡ start.desk.limits.session_max = c.requires.most ∙ ap (λ (l : Limits). l.session_max) kept.limits in
    rw (failed.1, failed.2)
    (fed_fails g.M.Machine.protocol g.M.Machine.stands c.loop-taken.invariant.laws start c.loop-taken.outside c.take_and_feed.new.outside c.loop-taken.session c.loop-taken.taken (length (take c.min-room.result c.loop-taken.piece)) c.in_err-fed.field-0.0
    (c.loop-taken.invariant.on.clock ∙ kept.clock) c.loop-taken.invariant.goes_on (omega (arith, c.min-room.ensures, length-take {A = ℕ})) (omega (arith, c.min-room.ensures, c.loop-taken.invariant.low, most, length-take {A = ℕ}))
    (c.loop-taken.invariant.goes start begins kept.clock) c.in_err-fed.ensures.takes)

pub returns-in_default-clause-serves : goal.returns-in_default-clause-serves
returns-in_default-clause-serves g c = λ start opens begins kept.
    let most : c.args.max ≡ start.desk.limits.session_max = c.requires.most ∙ ap (λ (l : Limits). l.session_max) kept.limits in
    let none = rw c.in_default.is at c.in_ok-fed.ensures.takes in
    input_ends g.M.Machine.protocol g.M.Machine.stands c.loop-taken.invariant.laws start c.loop-taken.outside c.take_and_feed.new.outside c.loop-taken.session c.loop-taken.taken 0 none.1.0
    opens c.loop-taken.invariant.goes_on none.0 none.1.1 refl (omega (arith, c.loop-taken-test.true, most)) (c.loop-taken.invariant.goes start begins kept.clock)

pub returns-then-ended-clause-serves : goal.returns-then-ended-clause-serves
returns-then-ended-clause-serves g c = λ start opens begins kept.
    let most : c.args.max ≡ start.desk.limits.session_max = c.requires.most ∙ ap (λ (l : Limits). l.session_max) kept.limits in
    let fed = c.in-Some.fed in
    let one : FeedsTaken g.M.Machine.protocol g.M.Machine.stands c.loop-taken.outside c.take_and_feed.new.outside c.loop-taken.session (length (take c.min-room.result c.loop-taken.piece)) fed.count (Ok fed.session) =
    rw c.in-Some.is at c.in_ok-fed.ensures.takes in
    let bound : fed.count ≤ length (take c.min-room.result c.loop-taken.piece) = rw c.in-Some.is at c.in_ok-fed.ensures.bound in
    session_ends g.M.Machine.protocol g.M.Machine.stands c.loop-taken.invariant.laws start c.take_and_feed.new.outside fed.session (c.loop-taken.taken + fed.count) opens
    (omega (arith, c.loop-taken.invariant.low, bound, c.min-room.ensures, most, length-take {A = ℕ})) (c.ended.ensures.0 c.if-ended.true)
    (fed_on g.M.Machine.protocol g.M.Machine.stands c.loop-taken.invariant.laws start c.loop-taken.outside c.take_and_feed.new.outside c.loop-taken.session c.loop-taken.taken (length (take c.min-room.result c.loop-taken.piece)) fed
    (c.loop-taken.invariant.on.clock ∙ kept.clock) c.loop-taken.invariant.goes_on (omega (arith, c.min-room.ensures, length-take {A = ℕ})) (c.loop-taken.invariant.goes start begins kept.clock) one)

pub loop-taken-preserved : goal.loop-taken-preserved
loop-taken-preserved g c =
    let fed = c.in-Some.fed in
    let one : FeedsTaken g.M.Machine.protocol g.M.Machine.stands c.loop-taken.outside c.take_and_feed.new.outside c.loop-taken.session (length (take c.min-room.result c.loop-taken.piece)) fed.count (Ok fed.session) =
    rw c.in-Some.is at c.in_ok-fed.ensures.takes in
    let bound : fed.count ≤ length (take c.min-room.result c.loop-taken.piece) = rw c.in-Some.is at c.in_ok-fed.ensures.bound in
    record {
      laws = c.loop-taken.invariant.laws;
      goes = λ start begins clock.
          fed_on g.M.Machine.protocol g.M.Machine.stands c.loop-taken.invariant.laws start c.loop-taken.outside c.take_and_feed.new.outside c.loop-taken.session c.loop-taken.taken (length (take c.min-room.result c.loop-taken.piece)) fed
          (c.loop-taken.invariant.on.clock ∙ clock) c.loop-taken.invariant.goes_on (omega (arith, c.min-room.ensures, length-take {A = ℕ})) (c.loop-taken.invariant.goes start begins clock) one;
      ready = rw c.in-Some.is at c.in_ok-fed.ensures.ready;
      goes_on = λ is. let both = sym c.if-ended.false ∙ c.ended.ensures.1 is in cc;
      on = Keeps-then c.args.outside.now c.loop-taken.outside c.take_and_feed.new.outside None c.loop-taken.invariant.on c.in_ok-fed.ensures.keeps;
      low = omega (arith, c.loop-taken.invariant.low, bound, c.min-room.ensures, length-take {A = ℕ});
    }

pub loop-taken-smaller : goal.loop-taken-smaller
loop-taken-smaller g c =
    let some : 0 < c.in-Some.fed.count = rw c.in-Some.is at c.in_ok-fed.ensures.some in
    omega (arith, some, c.loop-taken-test.true)

pub returns-clause-serves : goal.returns-clause-serves
returns-clause-serves g c = λ start opens begins kept.
    let most : c.args.max ≡ start.desk.limits.session_max = c.requires.most ∙ ap (λ (l : Limits). l.session_max) kept.limits in
    limit_reached g.M.Machine.protocol g.M.Machine.stands c.loop-taken.invariant.laws start c.loop-taken.outside c.loop-taken.session c.loop-taken.taken opens c.loop-taken.invariant.goes_on
    (omega (arith, c.loop-taken.invariant.low, c.loop-taken-test.false, most)) (c.loop-taken.invariant.goes start begins kept.clock)
