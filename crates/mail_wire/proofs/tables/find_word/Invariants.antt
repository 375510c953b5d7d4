use Rattle.std.proofs.Common.{◌≡◌, drop}
use Rattle.mail_wire.specs.Tables.{entries_of, said_by}
use Rattle.mail_wire.proofs.tables.find_word.Given as goal

abbrev pub invariant-loop-entry : goal.invariant-loop-entry
invariant-loop-entry g l = said_by (entries_of (drop l.entry-index l.table)) l.word ≡ said_by (entries_of l.table) l.word
