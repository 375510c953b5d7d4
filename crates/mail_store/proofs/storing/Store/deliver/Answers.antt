use Rattle.std.proofs.Common.{sym, subst, ◌∙◌}
use Rattle.std.proofs.lemmas.Result.{err_from_is_err_and}
use Rattle.std.proofs.lemmas.Bool.{true≢false}
use Rattle.kept_mail.specs.declared.batches.Batch.{Batch}
use Rattle.mail_store.specs.Changing.{IsRefusedAs, delivery_refusal}
use Rattle.kept_mail.specs.Deliveries.{delivered}
use Rattle.mail_store.proofs.AccountLemmas.{refused_as}
use Rattle.mail_store.proofs.EntryLemmas.{changes-nothing, for-nobody, nobody-of}
use Rattle.mail_store.proofs.storing.Store.deliver.Goals as goal

pub returns-in_err-batch-clause-refusal : goal.returns-in_err-batch-clause-refusal
returns-in_err-batch-clause-refusal g c =
    let failed = err_from_is_err_and c.from_residual.result c.from_residual.ensures.1 in
    rw (failed.1, failed.2) (refused_as Batch (Unit {0}) c.in_err-batch.field-0.0 (delivery_refusal c.args.self.now c.args.delivery.now) c.in_err-batch.ensures.refusal)

pub returns-then-is_for_nobody-clause-changes : goal.returns-then-is_for_nobody-clause-changes
returns-then-is_for_nobody-clause-changes g c =
    changes-nothing c.args.self.now (g.J.Keeper.observed c.args.keeper.now).octets (delivered c.args.self.now.kept c.args.delivery.now)
    (for-nobody c.args.self.now.kept c.args.delivery.now (sym c.is_for_nobody.ensures ∙ c.if-is_for_nobody.true))

pub returns-clause-refusal : goal.returns-clause-refusal
returns-clause-refusal g c = subst (IsRefusedAs c.put_delivery.result) (sym c.in_ok-batch.ensures.refusal) c.put_delivery.ensures.refusal

pub returns-clause-nothing : goal.returns-clause-nothing
returns-clause-nothing g c = λ none.
    absurd (true≢false (sym (nobody-of c.args.self.now.kept c.args.delivery.now none) ∙ sym c.is_for_nobody.ensures ∙ c.if-is_for_nobody.false))
