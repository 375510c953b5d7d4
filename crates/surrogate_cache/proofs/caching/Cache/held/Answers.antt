use Rattle.std.proofs.Common.{sym, subst, ◌∙◌}
use Rattle.surrogate_rope.specs.Ropes.{IsRopeOf}
use Rattle.surrogate_rope.specs.Stored.{IsStoredRope}
use Rattle.surrogate_cache.specs.Caching.{stored_under}
use Rattle.surrogate_cache.specs.private.Kept.{octets_at}
use Rattle.surrogate_cache.proofs.CacheLemmas.{is_missed, is_found, missed_state, hit_state, of_held}
use Rattle.surrogate_cache.proofs.caching.Cache.held.Goals as goal
use Rattle.surrogate_cache.proofs.caching.Cache.held.Goals.{in-Ok, in-Err}

pub load_at-requires : goal.load_at-requires
load_at-requires c =
    let found = is_found c.self.inside.pool c.self.inside.order c.touch.new.order c.args.id c.in-Some.place c.self.invariant.0 (sym c.in-Some.ensures.place) c.touch.ensures.order in
    (octets_at c.self.inside.pool.held c.in-Some.place, found.holds, found.stored)

pub invariant_of-self : goal.invariant_of-self
invariant_of-self c =
    let missed = is_missed c.self.inside.pool c.self.inside.order c.touch.new.order c.args.id (sym c.touch.ensures.place ∙ c.in_default.is) c.touch.ensures.order in
    rw missed.same c.self.invariant

pub returns-in_default-clause-finds : goal.returns-in_default-clause-finds
returns-in_default-clause-finds c =
    let missed = is_missed c.self.inside.pool c.self.inside.order c.touch.new.order c.args.id (sym c.touch.ensures.place ∙ c.in_default.is) c.touch.ensures.order in
    missed_state c.self.inside.pool c.self.inside.blocks c.self.inside.order c.touch.new.order c.self.inside.counts c.args.id c.args.self.now c.self.view_is missed

pub invariant_of-self-2 : goal.invariant_of-self-2
invariant_of-self-2 c =
    let found = is_found c.self.inside.pool c.self.inside.order c.touch.new.order c.args.id c.in-Some.place c.self.invariant.0 (sym c.in-Some.ensures.place) c.touch.ensures.order in
    (found.kept, c.self.invariant.1)

pub returns-clause-finds : goal.returns-clause-finds
returns-clause-finds c =
    let stored = octets_at c.self.inside.pool.held c.in-Some.place in
    let found = is_found c.self.inside.pool c.self.inside.order c.touch.new.order c.args.id c.in-Some.place c.self.invariant.0 (sym c.in-Some.ensures.place) c.touch.ensures.order in
    let hit = hit_state c.self.inside.pool c.self.inside.blocks c.self.inside.order c.touch.new.order c.self.inside.counts c.args.id c.in-Some.place c.saturating_add-self-inside.result c.args.self.now
    c.self.view_is found c.saturating_add-self-inside.ensures in
    elim c.match-load_at.branch [
      | in-Ok w ↦ rw w.result-is (stored, hit.found, subst (IsStoredRope stored) (sym (w.in-Ok.ensures stored found.stored.0 found.holds found.stored.1)) found.stored.1, hit.becomes)
      | in-Err w ↦ rw w.result-is tt
    ]

pub returns-clause-rope : goal.returns-clause-rope
returns-clause-rope c msg held =
    let stored = octets_at c.self.inside.pool.held c.in-Some.place in
    let found = is_found c.self.inside.pool c.self.inside.order c.touch.new.order c.args.id c.in-Some.place c.self.invariant.0 (sym c.in-Some.ensures.place) c.touch.ensures.order in
    let hit = hit_state c.self.inside.pool c.self.inside.blocks c.self.inside.order c.touch.new.order c.self.inside.counts c.args.id c.in-Some.place c.saturating_add-self-inside.result c.args.self.now
    c.self.view_is found c.saturating_add-self-inside.ensures in
    let is = of_held (stored_under c.args.self.now.entries c.args.id) msg stored hit.found held in
    elim c.match-load_at.branch [
      | in-Ok w ↦ rw w.result-is (subst (IsRopeOf msg) (sym (w.in-Ok.ensures stored is.rope found.holds is.stored)) is.of_message)
      | in-Err w ↦ rw w.result-is tt
    ]

pub returns-clause-loses : goal.returns-clause-loses
returns-clause-loses c =
    let stored = octets_at c.self.inside.pool.held c.in-Some.place in
    let found = is_found c.self.inside.pool c.self.inside.order c.touch.new.order c.args.id c.in-Some.place c.self.invariant.0 (sym c.in-Some.ensures.place) c.touch.ensures.order in
    let hit = hit_state c.self.inside.pool c.self.inside.blocks c.self.inside.order c.touch.new.order c.self.inside.counts c.args.id c.in-Some.place c.saturating_add-self-inside.result c.args.self.now
    c.self.view_is found c.saturating_add-self-inside.ensures in
    elim c.match-load_at.branch [
      | in-Ok w ↦ rw w.result-is tt
      | in-Err w ↦ rw w.result-is (stored, hit.found, hit.becomes)
    ]
