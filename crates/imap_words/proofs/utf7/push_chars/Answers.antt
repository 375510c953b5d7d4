use Rattle.std.proofs.Common.{Ok, length, nat_eq, ap, ◌∙◌}
use Rattle.imap_words.proofs.Utf16.{chars_more, chars_end}
use Rattle.imap_words.proofs.utf7.push_chars.Goals as goal

pub loop-c-preserved : goal.loop-c-preserved
loop-c-preserved c cs s e = chars_more cs _ _ _ _ c.in-Some.c _ (c.loop-c.invariant cs s e) c.in-Some.ensures.found c.in-Some.ensures.shorter c.in_ok-push.ensures.bytes

pub returns : goal.returns
returns c cs s e =
    let end = chars_end cs _ _ _ (c.loop-c.invariant cs s e) c.in_default.ensures.found in
    (ap Ok (c.is_empty.ensures ∙ ap (λ z. nat_eq (length z) 0) end.0), end.1)
