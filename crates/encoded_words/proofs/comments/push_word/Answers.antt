use Rattle.std.proofs.Common.{sym, ◌∙◌}
use Rattle.encoded_words.proofs.CommentReading.{IfOk-plain, TakesCommentWord-quoted}
use Rattle.encoded_words.proofs.comments.push_word.Goals as goal

pub returns-then-has_no_backslash : goal.returns-then-has_no_backslash
returns-then-has_no_backslash c =
    IfOk-plain c.args.units.now c.push_word.new.self c.args.run.now c.args.word.now c.args.after_encoded c.push_word.result
    (sym c.has_no_backslash.ensures ∙ c.if-has_no_backslash.true) c.push_word.ensures

pub returns : goal.returns
returns c =
    TakesCommentWord-quoted c.args.units.now c.push_text.new.self _ _ _ _ c.args.after_encoded (sym c.has_no_backslash.ensures ∙ c.if-has_no_backslash.false)
    c.in_ok-octets.ensures c.in_ok-push_text.ensures (rw c.as_slice.ensures.value at c.in_ok-push_text-2.ensures)
