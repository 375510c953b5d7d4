use Rattle.std.proofs.Common.{◌++◌, ◌<◌, length, refl, arith}
use Rattle.std.proofs.lemmas.Bool.Decides.{nat_tests}
use Rattle.std.proofs.lemmas.Result.{err_from_is_err_and}
use Rattle.mail_wire.proofs.Moving.{Gives-trans, Gives-prefix, GoesOn-of, GoesOn-trans}
use Rattle.pop_session.specs.private.Stuffing.{dot_before, place_after, stuffed_from}
use Rattle.pop_session.proofs.RunLemmas.{run_split, dot_first, place_goes_on}
use Rattle.pop_session.proofs.StuffedPieces.{broken_off, more_given}
use Rattle.pop_session.proofs.stuffing.give_stuffed.Goals as goal

pub returns-in_err-give_dot-clause-gives : goal.returns-in_err-give_dot-clause-gives
returns-in_err-give_dot-clause-gives g c =
    let failed = err_from_is_err_and c.from_residual.result c.from_residual.ensures.1 in
    let place = c.loop-rest.at in
    let rest = c.loop-rest.rest.now in
    let first = dot_first place rest in
    rw failed.1
    (broken_off (g.W.Wire.observed c.args.wire.now) (g.W.Wire.observed c.loop-rest.wire) (g.W.Wire.observed c.give_dot.new.wire) (stuffed_from c.args.place c.args.octets.now) (dot_before place rest) first.0 place rest
    c.loop-rest.invariant.given c.in_err-give_dot.ensures.gives first.1)

pub returns-in_err-give_plain-clause-gives : goal.returns-in_err-give_plain-clause-gives
returns-in_err-give_plain-clause-gives g c =
    let failed = err_from_is_err_and c.from_residual-in_err-give_plain.result c.from_residual-in_err-give_plain.ensures.1 in
    let place = c.loop-rest.at in
    let rest = c.loop-rest.rest.now in
    let run = c.split_at.result.0.now in
    let others = c.split_at.result.1.now in
    let after = place_after place run in
    let left : 0 < length rest = grind (arith, nat_tests) in
    let split = run_split place after rest run others c.run_len.result c.split_at.ensures.front c.split_at.ensures.back c.split_at.ensures.front_len (c.run_len.ensures.some left) c.run_len.ensures.run refl in
    let made = Gives-prefix (g.W.Wire.observed c.loop-rest.wire) (g.W.Wire.observed c.give_dot.new.wire) (g.W.Wire.observed c.give_plain.new.wire) (dot_before place rest) run c.in_ok-give_dot.ensures.gives
    c.in_err-give_plain.ensures.gives in
    rw failed.1
    (broken_off (g.W.Wire.observed c.args.wire.now) (g.W.Wire.observed c.loop-rest.wire) (g.W.Wire.observed c.give_plain.new.wire) (stuffed_from c.args.place c.args.octets.now) (dot_before place rest ++ run) (stuffed_from after others)
    place rest c.loop-rest.invariant.given made split)

pub loop-rest-preserved : goal.loop-rest-preserved
loop-rest-preserved g c =
    let place = c.loop-rest.at in
    let rest = c.loop-rest.rest.now in
    let run = c.split_at.result.0.now in
    let others = c.split_at.result.1.now in
    let after = c.place_following-at.result in
    let before = g.W.Wire.observed c.loop-rest.wire in
    let between = g.W.Wire.observed c.give_dot.new.wire in
    let now = g.W.Wire.observed c.give_plain.new.wire in
    let left : 0 < length rest = grind (arith, nat_tests) in
    let split = run_split place after rest run others c.run_len.result c.split_at.ensures.front c.split_at.ensures.back c.split_at.ensures.front_len (c.run_len.ensures.some left) c.run_len.ensures.run
    c.place_following-at.ensures in
    let on = GoesOn-trans before between now (GoesOn-of before between _ _ c.in_ok-give_dot.ensures.cause) (GoesOn-of between now _ _ c.in_ok-give_plain.ensures.cause) in
    record {
      given = more_given (g.W.Wire.observed c.args.wire.now) before now (stuffed_from c.args.place c.args.octets.now) (dot_before place rest ++ run) place after rest others c.loop-rest.invariant.given
          (Gives-trans before between now (dot_before place rest) run c.in_ok-give_dot.ensures.gives c.in_ok-give_plain.ensures.gives) on split;
      place = place_goes_on place after _ rest run others c.run_len.result c.split_at.ensures.front c.split_at.ensures.back c.place_following-at.ensures c.loop-rest.invariant.place;
    }
