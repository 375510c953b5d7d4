use Rattle.std.proofs.Common.{position, unwrap_or, ap, ◌∙◌, arith}
use Rattle.std.specs.List.{count_by}
use Rattle.imap_words.specs.Tokens.{is_list_wildcard}
use Rattle.imap_mailboxes.specs.private.Runs.{is_no_wildcard}
use Rattle.imap_mailboxes.proofs.CutLemmas.{first-is, whole_cut}
use Rattle.imap_mailboxes.proofs.patterns.Pattern.new.Goals as goal
use Rattle.imap_mailboxes.proofs.patterns.Pattern.new.Goals.{then-first-len, else-first-len}

pub invariant_of-result : goal.invariant_of-result
invariant_of-result c =
    let octets = c.push_slice.new.self in
    let first = c.unwrap_or-first.result in
    whole_cut octets c.plain_len-plain.result first c.if-first-len.from c.in_ok-runs.runs.items c.in_ok-runs.last
    (c.plain_len-plain.ensures ∙ ap (count_by is_no_wildcard) c.as_slice.ensures)
    (first-is octets first (c.unwrap_or-first.ensures
    ∙ (ap (λ o. unwrap_or o c.len.result) (c.find_wildcard.ensures ∙ ap (position is_list_wildcard) c.as_slice-2.ensures) ∙ ap (unwrap_or (position is_list_wildcard octets)) c.len.ensures)))
    (λ some. elim c.if-first-len.branch [
      | then-first-len w ↦ w.from-is
      | else-first-len w ↦ absurd (omega (arith, some, w.if-first-len.false, c.len-2.ensures))
    ])
    (rw c.as_slice-3.ensures at c.in_ok-runs.ensures)
