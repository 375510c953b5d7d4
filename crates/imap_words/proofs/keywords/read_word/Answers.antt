use Rattle.std.proofs.Common.{◌≡◌, ◌≤◌, length, take, arith, subst}
use Rattle.std.proofs.lemmas.List.{take_all}
use Rattle.mail_wire.specs.Tables.{entries_of}
use Rattle.imap_words.specs.Keywords.{IsBest}
use Rattle.imap_words.proofs.keywords.read_word.Goals as goal

pub take_word-requires : goal.take_word-requires
take_word-requires g c = c.loop-entry.invariant.bound

pub returns : goal.returns
returns g c = λ later is longer.
    let table = c.args.table.now in
    let over : length table ≤ c.loop-entry.entry-index = omega (arith, c.loop-entry-test.false, c.loop-entry.auto.entry-index-end) in
    let whole : take c.loop-entry.entry-index table ≡ table = take_all c.loop-entry.entry-index table over in
    let best = subst (λ read. IsBest (entries_of read) c.args.text.now c.loop-entry.best.len c.loop-entry.best.found) whole c.loop-entry.invariant in
    c.take_word.ensures _ later best is longer
