use Rattle.std.proofs.Common.{sym}
use Rattle.base_tests.proofs.test_block_pool.stay.Goals as goal

pub holds-requires-4 : goal.holds-requires-4
holds-requires-4 c =
    let held = c.in_ok-first.ensures.held in
    c.give_back.ensures c.in_ok-first.first (c.in_ok-second.ensures.differ c.in_ok-first.first held)
    (c.in_ok-third.ensures.kept c.in_ok-first.first (c.in_ok-second.ensures.kept c.in_ok-first.first held))

pub holds-requires-5 : goal.holds-requires-5
holds-requires-5 c =
    c.give_back.ensures c.in_ok-third.third (λ same. c.in_ok-third.ensures.differ c.in_ok-second.second c.in_ok-second.ensures.held (sym same))
    c.in_ok-third.ensures.held

pub holds-requires-6 : goal.holds-requires-6
holds-requires-6 c =
    let held = c.in_ok-first.ensures.held in
    c.in_ok-fourth.ensures.kept c.in_ok-first.first (
    c.give_back.ensures c.in_ok-first.first (c.in_ok-second.ensures.differ c.in_ok-first.first held)
    (c.in_ok-third.ensures.kept c.in_ok-first.first (c.in_ok-second.ensures.kept c.in_ok-first.first held))
    )

pub give_back-requires-2 : goal.give_back-requires-2
give_back-requires-2 c =
    let held = c.in_ok-first.ensures.held in
    c.in_ok-fourth.ensures.kept c.in_ok-first.first (
    c.give_back.ensures c.in_ok-first.first (c.in_ok-second.ensures.differ c.in_ok-first.first held)
    (c.in_ok-third.ensures.kept c.in_ok-first.first (c.in_ok-second.ensures.kept c.in_ok-first.first held))
    )

pub holds-requires-8 : goal.holds-requires-8
holds-requires-8 c =
    let first = c.in_ok-second.ensures.kept c.in_ok-first.first c.in_ok-first.ensures.held in
    c.give_back-2.ensures c.in_ok-third.third (λ same. c.in_ok-third.ensures.differ c.in_ok-first.first first (sym same)) (
    c.in_ok-fourth.ensures.kept c.in_ok-third.third (
    c.give_back.ensures c.in_ok-third.third (λ same. c.in_ok-third.ensures.differ c.in_ok-second.second c.in_ok-second.ensures.held (sym same))
    c.in_ok-third.ensures.held
    )
    )

pub holds-requires-9 : goal.holds-requires-9
holds-requires-9 c =
    let held = c.in_ok-first.ensures.held in
    let first =
    c.give_back.ensures c.in_ok-first.first (c.in_ok-second.ensures.differ c.in_ok-first.first held)
    (c.in_ok-third.ensures.kept c.in_ok-first.first (c.in_ok-second.ensures.kept c.in_ok-first.first held)) in
    c.give_back-2.ensures c.in_ok-fourth.fourth (λ same. c.in_ok-fourth.ensures.differ c.in_ok-first.first first (sym same)) c.in_ok-fourth.ensures.held

pub holds-requires-10 : goal.holds-requires-10
holds-requires-10 c =
    let first = c.in_ok-second.ensures.kept c.in_ok-first.first c.in_ok-first.ensures.held in
    c.in_ok-fifth.ensures.kept c.in_ok-third.third (
    c.give_back-2.ensures c.in_ok-third.third (λ same. c.in_ok-third.ensures.differ c.in_ok-first.first first (sym same)) (
    c.in_ok-fourth.ensures.kept c.in_ok-third.third (
    c.give_back.ensures c.in_ok-third.third (λ same. c.in_ok-third.ensures.differ c.in_ok-second.second c.in_ok-second.ensures.held (sym same))
    c.in_ok-third.ensures.held
    )
    )
    )
