use Rattle.std.proofs.Common.{◌≡◌}
use Rattle.imap_mailboxes.specs.private.Stretches.{places_below}
use Rattle.imap_mailboxes.proofs.StretchLemmas.{AreDone}
use Rattle.imap_mailboxes.proofs.sets.places_of.Given as goal

abbrev pub invariant-loop-stretch : goal.invariant-loop-stretch
invariant-loop-stretch l = (l.places.items ≡ places_below l.stretches l.next) × AreDone l.stretches l.stretch-index l.next
