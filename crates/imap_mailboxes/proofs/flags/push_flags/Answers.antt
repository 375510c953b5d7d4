use Rattle.std.proofs.Common.{◌++◌, [], true, sym, ◌∙◌, subst, codes}
use Rattle.std.proofs.lemmas.Result.{on_ok_weaker}
use Rattle.imap_mailboxes.specs.private.Words.{EndsWithWords}
use Rattle.imap_mailboxes.proofs.FlagLemmas.{words_begin, flags_written}
use Rattle.imap_mailboxes.proofs.flags.push_flags.Goals as goal

pub returns : goal.returns
returns c =
    let flags = c.args.flags in
    let front = c.args.text.now ++ codes "FLAGS (" in
    let begin : EndsWithWords front [] c.push_slice.new.self true = subst (λ t. EndsWithWords front [] t true) (sym c.in_ok-push_slice.ensures.ok) (words_begin front) in
    let answered = rw c.has_flag.ensures at (c.in_ok-first.ensures front [] begin) in
    let flagged = rw c.has_flag-2.ensures at (c.in_ok-first-2.ensures front _ answered) in
    let deleted = rw c.has_flag-3.ensures at (c.in_ok-first-3.ensures front _ flagged) in
    let seen = rw c.has_flag-4.ensures at (c.in_ok-first-4.ensures front _ deleted) in
    let draft = rw c.has_flag-5.ensures at (c.in_ok-push_flag.ensures front _ seen) in
    on_ok_weaker c.push.result (λ e. e ∙ flags_written c.args.text.now c.push_flag-5.new.text flags c.in_ok-push_flag.field-0 draft) c.push.ensures.ok
