use Rattle.std.proofs.Common.{sym, ◌∙◌}
use Rattle.session_core.specs.Desks.{kept_octets}
use Rattle.session_core.proofs.CachedLemmas.{asked_none}
use Rattle.session_core.proofs.outside.served_size.Goals as goal

pub returns-then-enabled-clause-fetched : goal.returns-then-enabled-clause-fetched
returns-then-enabled-clause-fetched g c =
    asked_none g.V.View.mode c.args.id (kept_octets c.args.store.now.kept c.args.id) c.args.cache.now (sym c.enabled.ensures ∙ c.if-enabled.true)
