use Rattle.session_core.proofs.CachedLemmas.{held_of}
use Rattle.session_core.proofs.outside.show_message.Goals as goal

pub show-requires-clause-tree : goal.show-requires-clause-tree
show-requires-clause-tree g c = let stored = c.octets.ensures.stored in (stored.entities, stored.tree)

pub show-requires-clause-held : goal.show-requires-clause-held
show-requires-clause-held g c = held_of c.args.cache.now c.args.store.now.kept c.args.id c.octets.result.now c.octets.ensures.octets c.requires.cached
