use Rattle.std.proofs.Common.{ap}
use Rattle.std.specs.Prelude.{is_some}
use Rattle.kept_mail.specs.private.Names.{number_named, PutsName}
use Rattle.mail_store.proofs.DomainLemmas.{name_back}
use Rattle.mail_store.proofs.writing.write_named.Goals as goal

pub returns-in-Err-clause-err : goal.returns-in-Err-clause-err
returns-in-Err-clause-err g c =
    let named = c.args.named.now in
    let puts : PutsName (number_named c.args.numbers.now) (number_named c.put_first.new.numbers) named.name named.number = rw (← c.as_slice.ensures) c.in_ok-put_first.ensures.ok in
    name_back (number_named c.args.numbers.now) (number_named c.put_first.new.numbers) (number_named c.take_back.new.numbers) named.name named.number (ap (λ o. is_some o) c.requires) puts
    (rw (← c.as_slice-in-Err.ensures) c.take_back.ensures.gone) (rw (← c.as_slice-in-Err.ensures) c.take_back.ensures.others)

pub returns-in-Ok-clause-ok : goal.returns-in-Ok-clause-ok
returns-in-Ok-clause-ok g c = rw (← c.as_slice.ensures) c.in_ok-put_first.ensures.ok
