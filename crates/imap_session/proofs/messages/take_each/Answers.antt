use Rattle.std.proofs.Common.{ℕ, List, ◌≡◌, ◌+◌, ◌<◌, length, get_or, take, None, Some, subst, arith}
use Rattle.std.proofs.lemmas.List.{take_all}
use Rattle.std.proofs.lemmas.Result.{err_from_is_err_and}
use Rattle.std.specs.List.{flat_map}
use Rattle.session_core.proofs.KeepsLemmas.{Keeps-then}
use Rattle.imap_session.specs.Machine.{numbered_at}
use Rattle.imap_session.specs.Replies.{part_octets}
use Rattle.imap_session.specs.private.Pending.{Carries}
use Rattle.imap_session.proofs.EachLemmas.{AreLive-turn, AreUntouched-turn, Carries-at, Carries-each, KeepsListing-turn, live_at, next_is}
use Rattle.imap_session.proofs.PendingLemmas.{Carries-on}
use Rattle.imap_session.proofs.messages.take_each.Goals as goal

pub returns-in_err-take-clause-carries : goal.returns-in_err-take-clause-carries
returns-in_err-take-clause-carries g c = λ oracles are.
    let failed = err_from_is_err_and c.from_residual.result c.from_residual.ensures.1 in
    let store = c.args.outside.now.desk.store in
    let act = g.E.EachMessage.acts c.args.each.now oracles store in
    let low : c.loop-place.place-index < length c.args.places.now = omega arith in
    let is = next_is c.args.messages.now.items c.loop-place.messages.items c.args.places.now c.loop-place.place-index c.index_mut-one.result.now low
    c.requires.within c.loop-place.invariant.listing.count c.loop-place.invariant.untouched c.index_mut-one.ensures.value in
    let one = Carries-each (part_octets oracles) act c.args.messages.now.items c.args.places.now c.loop-place.place-index (get_or c.args.places.now c.loop-place.place-index 0) c.index_mut-one.result.now
    c.args.outside.now c.loop-place.outside c.take.new.outside (Some c.in_err-take.field-0.0) c.args.pending.now c.loop-place.pending c.take.new.pending is.low is.here is.was_first
    (c.loop-place.invariant.carries oracles are) (c.in_err-take.ensures.carries oracles are store c.loop-place.invariant.listing.alike) in
    rw (failed.1, failed.2) (Carries-at (part_octets oracles) act c.args.messages.now.items c.args.places.now (c.loop-place.place-index + 1) c.args.outside.now c.take.new.outside c.in_err-take.field-0.0
    c.args.pending.now c.take.new.pending c.take.new.pending one)

pub returns-in_err-give_piece-clause-carries : goal.returns-in_err-give_piece-clause-carries
returns-in_err-give_piece-clause-carries g c = λ oracles are.
    let failed = err_from_is_err_and c.from_residual-in_err-give_piece.result c.from_residual-in_err-give_piece.ensures.1 in
    let store = c.args.outside.now.desk.store in
    let act = g.E.EachMessage.acts c.args.each.now oracles store in
    let low : c.loop-place.place-index < length c.args.places.now = omega arith in
    let is = next_is c.args.messages.now.items c.loop-place.messages.items c.args.places.now c.loop-place.place-index c.index_mut-one.result.now low
    c.requires.within c.loop-place.invariant.listing.count c.loop-place.invariant.untouched c.index_mut-one.ensures.value in
    let one = Carries-each (part_octets oracles) act c.args.messages.now.items c.args.places.now c.loop-place.place-index (get_or c.args.places.now c.loop-place.place-index 0) c.index_mut-one.result.now
    c.args.outside.now c.loop-place.outside c.take.new.outside None c.args.pending.now c.loop-place.pending c.take.new.pending is.low is.here is.was_first
    (c.loop-place.invariant.carries oracles are) (c.in_ok-take.ensures.carries oracles are store c.loop-place.invariant.listing.alike) in
    let acts = flat_map act (flat_map (numbered_at c.args.messages.now.items) (take (c.loop-place.place-index + 1) c.args.places.now)) in
    rw (failed.1, failed.2) (Carries-at (part_octets oracles) act c.args.messages.now.items c.args.places.now (c.loop-place.place-index + 1) c.args.outside.now c.give_piece.new.outside c.in_err-give_piece.field-0.0
    c.args.pending.now c.give_piece.new.pending c.give_piece.new.pending
    (Carries-on (part_octets oracles) c.args.outside.now c.take.new.outside c.give_piece.new.outside (Some c.in_err-give_piece.field-0.0) c.args.pending.now c.take.new.pending c.give_piece.new.pending acts one (c.in_err-give_piece.ensures.carries oracles)))

pub returns-in_err-give_piece-clause-keeps : goal.returns-in_err-give_piece-clause-keeps
returns-in_err-give_piece-clause-keeps g c =
    let failed = err_from_is_err_and c.from_residual-in_err-give_piece.result c.from_residual-in_err-give_piece.ensures.1 in
    rw (failed.1, failed.2) (Keeps-then c.args.outside.now c.take.new.outside c.give_piece.new.outside (Some c.in_err-give_piece.field-0.0)
    (Keeps-then c.args.outside.now c.loop-place.outside c.take.new.outside None c.loop-place.invariant.keeps c.in_ok-take.ensures.keeps) c.in_err-give_piece.ensures.keeps)

pub loop-place-preserved : goal.loop-place-preserved
loop-place-preserved g c =
    let store = c.args.outside.now.desk.store in
    let place = get_or c.args.places.now c.loop-place.place-index 0 in
    let low : c.loop-place.place-index < length c.args.places.now = omega arith in
    let is = next_is c.args.messages.now.items c.loop-place.messages.items c.args.places.now c.loop-place.place-index c.index_mut-one.result.now low
    c.requires.within c.loop-place.invariant.listing.count c.loop-place.invariant.untouched c.index_mut-one.ensures.value in
    let live = live_at c.loop-place.outside.desk.store c.loop-place.messages.items place c.index_mut-one.result.now is.is c.loop-place.invariant.live in
    record {
      carries = λ oracles are.
          let act = g.E.EachMessage.acts c.args.each.now oracles store in
          let acts = flat_map act (flat_map (numbered_at c.args.messages.now.items) (take (c.loop-place.place-index + 1) c.args.places.now)) in
          Carries-on (part_octets oracles) c.args.outside.now c.take.new.outside c.give_piece.new.outside None c.args.pending.now c.take.new.pending c.give_piece.new.pending acts
          (Carries-each (part_octets oracles) act c.args.messages.now.items c.args.places.now c.loop-place.place-index place c.index_mut-one.result.now
          c.args.outside.now c.loop-place.outside c.take.new.outside None c.args.pending.now c.loop-place.pending c.take.new.pending is.low is.here is.was_first
          (c.loop-place.invariant.carries oracles are) (c.in_ok-take.ensures.carries oracles are store c.loop-place.invariant.listing.alike))
          (c.in_ok-give_piece.ensures.carries oracles);
      listing = rw c.in_ok-give_piece.ensures.desk (KeepsListing-turn store c.loop-place.outside.desk.store c.take.new.outside.desk.store c.args.messages.now.items c.loop-place.messages.items place
          c.index_mut-one.result.now c.take.new.one is.is c.in_ok-take.ensures.flags c.loop-place.invariant.listing);
      untouched = AreUntouched-turn c.args.messages.now.items c.loop-place.messages.items c.args.places.now c.loop-place.place-index place c.take.new.one c.requires.rising is.low is.here c.loop-place.invariant.untouched;
      live = rw c.in_ok-give_piece.ensures.desk (AreLive-turn c.loop-place.outside.desk.store c.take.new.outside.desk.store c.loop-place.messages.items place
          c.index_mut-one.result.now c.take.new.one live c.in_ok-take.ensures.flags c.loop-place.invariant.live);
      keeps = Keeps-then c.args.outside.now c.take.new.outside c.give_piece.new.outside None
          (Keeps-then c.args.outside.now c.loop-place.outside c.take.new.outside None c.loop-place.invariant.keeps c.in_ok-take.ensures.keeps) c.in_ok-give_piece.ensures.keeps;
    }

pub returns-clause-carries : goal.returns-clause-carries
returns-clause-carries g c = λ oracles are.
    let act = g.E.EachMessage.acts c.args.each.now oracles c.args.outside.now.desk.store in
    let whole : take c.loop-place.place-index c.args.places.now ≡ c.args.places.now = take_all c.loop-place.place-index c.args.places.now (omega arith) in
    subst (λ (l : List ℕ). Carries (part_octets oracles) c.args.outside.now c.loop-place.outside None c.args.pending.now c.loop-place.pending (flat_map act (flat_map (numbered_at c.args.messages.now.items) l))) whole
    (c.loop-place.invariant.carries oracles are)
