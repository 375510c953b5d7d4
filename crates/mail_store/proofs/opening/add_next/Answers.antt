use Rattle.std.proofs.Common.{refl}
use Rattle.std.proofs.lemmas.Result.{err_from_is_err_and}
use Rattle.kept_mail.proofs.QueueLemmas.{refutes}
use Rattle.mail_store.proofs.Next.{not_read, not_added, not_of_version, was_read}
use Rattle.mail_store.proofs.opening.add_next.Goals as goal

pub returns-in_err-one : goal.returns-in_err-one
returns-in_err-one c =
    let p = err_from_is_err_and c.from_residual.result c.from_residual.ensures.1 in
    rw (p.1, p.2) (not_read c.in_err-one.field-0.0 c.args.version.now c.args.store.now c.args.fields.now c.in_err-one.ensures.no_record)

pub returns-then-not-is_of_version : goal.returns-then-not-is_of_version
returns-then-not-is_of_version c = (
  not_of_version c.args.version.now c.args.store.now c.args.fields.now c.in_ok-one.one c.in_ok-one.ensures.spelled c.in_ok-one.ensures.fits (λ is. refutes c.if-not-is_of_version.true (c.is_of_version.ensures.1 is)),
  refl,
  refl,
)

pub returns-in_err-add : goal.returns-in_err-add
returns-in_err-add c =
    let p = err_from_is_err_and c.from_residual-in_err-add.result c.from_residual-in_err-add.ensures.1 in
    rw (p.1, p.2)
    (not_added c.in_err-add.field-0.0 c.args.version.now c.args.store.now c.add.new.self c.args.fields.now c.in_ok-one.one c.in_ok-one.ensures.spelled c.in_ok-one.ensures.fits c.in_err-add.ensures)

pub returns : goal.returns
returns c =
    was_read c.args.version.now c.version_after-after.result c.args.store.now c.add.new.self c.lengthen.new.self c.args.fields.now c.in_ok-one.one c.in_ok-one.ensures.spelled c.in_ok-one.ensures.fits
    (c.is_of_version.ensures.0 c.if-not-is_of_version.false) c.requires.short c.in_ok-add.ensures.0 c.in_ok-add.ensures.1 c.lengthen.ensures c.version_after-after.ensures
