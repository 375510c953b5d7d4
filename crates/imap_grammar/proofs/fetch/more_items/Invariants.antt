use Rattle.std.proofs.Common.{◌≡◌, None, Bool, length}
use Rattle.mail_wire.specs.Lines.{first_line}
use Rattle.imap_words.specs.Going.{Leaves}
use Rattle.imap_grammar.specs.Awaiting.{IsAfterItems}
use Rattle.imap_grammar.proofs.fetch.more_items.Given as goal

abbrev pub invariant-loop-separator : goal.invariant-loop-separator
invariant-loop-separator l = record {
  so : (utf8 : Bool) → Leaves (IsAfterItems l.fn.fetching.listed utf8 l.fn.fetching.uid l.fn.fetching.set.ranges l.fn.fetching.items) l.text (IsAfterItems l.so_far.listed utf8 l.so_far.uid l.so_far.set.ranges l.so_far.items) l.rest;
  joins : first_line l.rest ≡ None → first_line l.text ≡ None;
}

abbrev pub decreases-loop-separator : goal.decreases-loop-separator
decreases-loop-separator l = length l.rest
