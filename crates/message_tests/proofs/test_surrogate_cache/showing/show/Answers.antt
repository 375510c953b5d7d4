use Rattle.std.proofs.Common.{ℕ}
use Rattle.surrogate_cache.specs.Caching.{IsStoredOf}
use Rattle.surrogate_cache.proofs.HeldLemmas.{shown_holds}
use Rattle.message_tests.proofs.test_surrogate_cache.showing.show.Goals as goal

pub returns-clause-holds : goal.returns-clause-holds
returns-clause-holds g c =
    shown_holds (λ (id : ℕ). IsStoredOf c.args.msg.now) g.V.View.mode c.args.msg.now c.args.cache.now c.show.new.cache c.args.id (λ stored is. is) c.requires c.in_ok-show.ensures.fetched
