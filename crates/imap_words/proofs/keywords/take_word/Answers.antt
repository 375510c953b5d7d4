use Rattle.std.proofs.Common.{◌-◌, arith, length}
use Rattle.std.proofs.lemmas.List.{take_all, length-drop}
use Rattle.imap_words.proofs.KeywordSteps.{word_more, word_reads, word_fails}
use Rattle.imap_words.proofs.keywords.take_word.Goals as goal

pub returns-then-best-text : goal.returns-then-best-text
returns-then-best-text g c table later best t observed = word_more table c.args.text.now _ _ best t c.if-best-text.true

pub returns-in-Some : goal.returns-in-Some
returns-in-Some g c table later best t observed =
    word_reads table later c.args.text.now c.args.best.len observed (omega (arith, best.bound, c.if-best-text.false)) _ c.in-Some.says _ best t c.in-Some.is
    (take_all (length c.args.text.now - c.args.best.len) _ (omega (arith, length-drop c.args.best.len c.args.text.now)))

pub returns-in-None : goal.returns-in-None
returns-in-None g c table later best t observed = word_fails table later c.args.text.now c.args.best.len observed (omega (arith, best.bound, c.if-best-text.false)) _ best t c.in-None.is
