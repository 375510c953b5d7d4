use Rattle.std.proofs.Common.{arith}
use Rattle.imap_words.proofs.KeywordSteps.{fewer, more_word, more_front, same_word, same_front, not_none}
use Rattle.imap_words.proofs.keywords.better.Goals as goal
use Rattle.imap_words.proofs.keywords.better.Goals.{else-len-word-2-via-then-len-word-2+else-is_none, else-len-word-2-via-else-len-word-2}

pub returns-then-len-best : goal.returns-then-len-best
returns-then-len-best g c table best = fewer table c.args.text.now c.args.word.now c.args.says _ _ _ best c.common_len-len.ensures c.if-len-best.true

pub returns-then-len-word : goal.returns-then-len-word
returns-then-len-word g c table best = more_word table c.args.text.now c.args.word.now c.args.says _ _ _ best c.common_len-len.ensures c.if-len-best-2.true c.if-len-word.true

pub returns-then-len-best-2 : goal.returns-then-len-best-2
returns-then-len-best-2 g c table best = more_front table c.args.text.now c.args.word.now c.args.says _ _ _ best c.common_len-len.ensures c.if-len-best-2.true c.if-len-word.false

pub returns-then-is_none : goal.returns-then-is_none
returns-then-is_none g c table best =
    same_word table c.args.text.now c.args.word.now c.args.says c.args.best.len _ _ best c.common_len-len.ensures (omega (arith, c.if-len-best.false, c.if-len-best-2.false)) c.if-len-word-2.true

pub returns : goal.returns
returns g c table best =
    same_front table c.args.text.now c.args.word.now c.args.says c.args.best.len _ _ best c.common_len-len.ensures (omega (arith, c.if-len-best.false, c.if-len-best-2.false))
    (λ all none. elim c.else-len-word-2.branch [
      | else-len-word-2-via-then-len-word-2+else-is_none w ↦ not_none _ _ w.is_none.ensures w.if-is_none.false none
      | else-len-word-2-via-else-len-word-2 w ↦ w.if-len-word-2.false all
    ])
