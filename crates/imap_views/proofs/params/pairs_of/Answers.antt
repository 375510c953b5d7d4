use Rattle.imap_views.proofs.PairLemmas.{placed_other, PairsGo-begun, PairsGo-turn, PairsGo-end}
use Rattle.imap_views.proofs.params.pairs_of.Goals as goal

pub loop-place-init : goal.loop-place-init
loop-place-init c =
    PairsGo-begun c.args.text.now c.args.places.now c.in-Some.others.now c.in-Some.first.now c.in_ok-made.made c.push_pair_at.new.made c.requires c.in-Some.ensures.cases.0 c.in_ok-made.ensures
    c.in_ok-push_pair_at.ensures

pub push_pair_at-requires-in-loop-place : goal.push_pair_at-requires-in-loop-place
push_pair_at-requires-in-loop-place c = placed_other _ _ _ _ _ _ c.loop-place.invariant c.loop-place-test.true

pub loop-place-preserved : goal.loop-place-preserved
loop-place-preserved c = PairsGo-turn _ _ _ _ _ c.push.new.self _ _ c.loop-place.invariant c.loop-place-test.true c.in_ok-push.ensures.ok c.in_ok-push_pair_at-2.ensures

pub returns : goal.returns
returns c = PairsGo-end _ _ _ _ _ _ c.loop-place.invariant c.loop-place-test.false c.in_ok-push-2.ensures.ok
