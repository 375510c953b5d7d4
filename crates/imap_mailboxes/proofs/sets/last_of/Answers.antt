use Rattle.std.proofs.Common.{◌≡◌, ◌-◌, length, get_or, Some, sym, ap, ◌∙◌, arith}
use Rattle.std.proofs.lemmas.Option.{slice_get_within, get_or_from_slice_get}
use Rattle.std.specs.List.{slice_get}
use Rattle.kept_mail.specs.declared.kept.Listed.{Listed}
use Rattle.imap_mailboxes.specs.Sets.{last_of}
use Rattle.imap_mailboxes.proofs.SetLemmas.{last_uid-is}
use Rattle.imap_mailboxes.proofs.sets.last_of.Goals as goal

pub returns-in-Some : goal.returns-in-Some
returns-in-Some c =
    let messages = c.args.messages.now in
    let one = c.in-Some.one.now in
    let last : slice_get messages (length messages - 1) ≡ Some one = sym c.in-Some.ensures.value in
    let is : get_or messages (length messages - 1) one ≡ one = get_or_from_slice_get messages (length messages - 1) one one last in
    sym (ap (λ b. last_of b messages) c.if-not-by_uid.false
    ∙ (last_uid-is messages one (omega (arith, slice_get_within messages (length messages - 1) one last)) ∙ ap (λ (l : Listed). l.uid) is))
