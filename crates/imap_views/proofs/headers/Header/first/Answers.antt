use Rattle.imap_views.proofs.HeaderLemmas.{block_within}
use Rattle.imap_views.proofs.headers.Header.first.Goals as goal

pub first_value-requires : goal.first_value-requires
first_value-requires c = record { within = rw c.as_slice.ensures (block_within _ _ _ c.requires) }
