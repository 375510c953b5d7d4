use Rattle.std.proofs.Common.{◌≡◌, None, Bool, length}
use Rattle.mail_wire.specs.Lines.{first_line}
use Rattle.imap_words.specs.Going.{Leaves}
use Rattle.imap_grammar.specs.FetchParts.{AreNumbers, AreMoreNumbers}
use Rattle.imap_grammar.proofs.fetch.numbered.Given as goal

abbrev pub invariant-loop-separator : goal.invariant-loop-separator
invariant-loop-separator l = record {
  so : (utf8 : Bool) → Leaves (AreNumbers utf8 l.fn.begun.fetching l.fn.begun.peek l.fn.begun.path) l.text (AreMoreNumbers utf8 l.so_far.fetching l.so_far.peek l.so_far.path) l.rest;
  joins : first_line l.rest ≡ None → first_line l.text ≡ None;
}

abbrev pub decreases-loop-separator : goal.decreases-loop-separator
decreases-loop-separator l = length l.rest
