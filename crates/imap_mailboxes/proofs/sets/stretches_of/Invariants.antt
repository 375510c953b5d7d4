use Rattle.std.proofs.Common.{◌≡◌, ◌<◌, ℕ, length, take, get_or}
use Rattle.std.specs.List.{list_any}
use Rattle.kept_mail.specs.declared.kept.Listed.{Listed}
use Rattle.imap_mailboxes.specs.Sets.{is_within, called}
use Rattle.imap_mailboxes.specs.private.Stretches.{in_stretches, EndWithin}
use Rattle.imap_mailboxes.proofs.sets.stretches_of.Given as goal

abbrev pub invariant-loop-range : goal.invariant-loop-range
invariant-loop-range l =
    ((place : ℕ) (one : Listed) → place < length l.messages → in_stretches l.made.items place ≡ list_any (is_within l.last (called l.by_uid place (get_or l.messages place one))) (take l.range-index l.set.ranges))
    × EndWithin (length l.messages) l.made.items
