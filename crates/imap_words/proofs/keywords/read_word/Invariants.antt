use Rattle.std.proofs.Common.{take}
use Rattle.mail_wire.specs.Tables.{entries_of}
use Rattle.imap_words.specs.Keywords.{IsBest}
use Rattle.imap_words.proofs.keywords.read_word.Given as goal

abbrev pub invariant-loop-entry : goal.invariant-loop-entry
invariant-loop-entry g l = IsBest (entries_of (take l.entry-index l.table)) l.text l.best.len l.best.found
