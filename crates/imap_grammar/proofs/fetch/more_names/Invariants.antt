use Rattle.std.proofs.Common.{◌≡◌, None, Bool, length}
use Rattle.mail_wire.specs.Lines.{first_line}
use Rattle.imap_words.specs.Going.{Leaves}
use Rattle.imap_grammar.specs.Awaiting.{IsAfterNames}
use Rattle.imap_grammar.proofs.fetch.more_names.Given as goal

abbrev pub invariant-loop-separator : goal.invariant-loop-separator
invariant-loop-separator l = record {
  so : (utf8 : Bool) → Leaves (IsAfterNames utf8 l.fn.so_far l.fn.so_far.names) l.text (IsAfterNames utf8 l.named l.named.names) l.rest;
  joins : first_line l.rest ≡ None → first_line l.text ≡ None;
}

abbrev pub decreases-loop-separator : goal.decreases-loop-separator
decreases-loop-separator l = length l.rest
