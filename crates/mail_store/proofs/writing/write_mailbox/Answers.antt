use Rattle.std.proofs.Common.{ap}
use Rattle.std.specs.Prelude.{is_some}
use Rattle.kept_mail.specs.private.Names.{PutsName}
use Rattle.mail_store.specs.private.Names.{number_hashed}
use Rattle.mail_store.proofs.DomainLemmas.{name_back}
use Rattle.mail_store.proofs.writing.write_mailbox.Goals as goal

pub returns-in-Err-clause-err : goal.returns-in-Err-clause-err
returns-in-Err-clause-err g c =
    let named = c.args.named.now in
    let puts : PutsName (number_hashed c.args.numbers.now) (number_hashed c.put_mailbox.new.numbers) named.name named.number = rw (← c.as_slice.ensures) c.in_ok-put_mailbox.ensures.ok in
    name_back (number_hashed c.args.numbers.now) (number_hashed c.put_mailbox.new.numbers) (number_hashed c.take_mailbox.new.numbers) named.name named.number (ap (λ o. is_some o) c.requires) puts
    (rw (← c.as_slice-in-Err.ensures) c.take_mailbox.ensures.gone) (rw (← c.as_slice-in-Err.ensures) c.take_mailbox.ensures.others)

pub returns-in-Ok-clause-ok : goal.returns-in-Ok-clause-ok
returns-in-Ok-clause-ok g c = rw (← c.as_slice.ensures) c.in_ok-put_mailbox.ensures.ok
