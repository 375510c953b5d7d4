use Rattle.std.proofs.Common.{true, sym, subst, string_bytes}
use Rattle.imap_mailboxes.specs.Names.{NamesMailbox}
use Rattle.imap_mailboxes.proofs.NameLemmas.{named_as_it_is, named_in_utf7}
use Rattle.imap_mailboxes.proofs.names.read_name.Goals as goal

pub returns-then-enabled-clause-one : goal.returns-then-enabled-clause-one
returns-then-enabled-clause-one c = λ name is.
    named_as_it_is string_bytes c.args.text.now c.as_it_is.result name c.as_it_is.ensures.some c.as_it_is.ensures.none (subst (λ b. NamesMailbox b c.args.text.now name) c.if-enabled.true is)

pub returns-in-Some-clause-one : goal.returns-in-Some-clause-one
returns-in-Some-clause-one c = λ name is.
    let some = rw c.in-Some.is at c.in_ok-name.ensures.some in
    let back = rw c.in-Some.is at c.in_ok-name.ensures.read_back in
    named_as_it_is string_bytes c.as_slice.result.now c.as_it_is-in-Some.result name c.as_it_is-in-Some.ensures.some c.as_it_is-in-Some.ensures.none
    (subst (λ o. NamesMailbox true o name) (sym c.as_slice.ensures)
    (named_in_utf7 c.args.text.now c.in-Some.name name some.0 some.1 back (subst (λ b. NamesMailbox b c.args.text.now name) c.if-enabled.false is)))
