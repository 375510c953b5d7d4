use Rattle.std.proofs.Common.{◌++◌, ap, ◌∙◌}
use Rattle.imap_mailboxes.proofs.FlagLemmas.{word_first, word_after}
use Rattle.imap_mailboxes.proofs.flags.push_flag.Goals as goal
use Rattle.imap_mailboxes.proofs.flags.push_flag.Goals.{then-not-is_first+in_ok-push, else-not-is_first}

pub returns : goal.returns
returns c = λ front words so_far. rw c.if-not-is_set.false (elim c.if-not-is_first.branch [
  | then-not-is_first+in_ok-push w ↦ word_after front c.args.text.now c.push_slice.new.self c.args.word.now words c.args.is_first so_far w.if-not-is_first.true
      (c.in_ok-push_slice.ensures.ok ∙ ap (λ t. t ++ c.args.word.now) (w.text-is ∙ w.in_ok-push.ensures.ok))
  | else-not-is_first w ↦ word_first front c.args.text.now c.push_slice.new.self c.args.word.now words c.args.is_first so_far w.if-not-is_first.false
      (c.in_ok-push_slice.ensures.ok ∙ ap (λ t. t ++ c.args.word.now) w.text-is)
])
