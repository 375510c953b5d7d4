use Rattle.std.proofs.Common.{sym, ◌∙◌}
use Rattle.mail_store.proofs.DeliveryLemmas.{delivery_large, delivery_taken}
use Rattle.mail_store.proofs.storing.Store.batch.Goals as goal

pub returns-then-is_too_large-clause-refusal : goal.returns-then-is_too_large-clause-refusal
returns-then-is_too_large-clause-refusal c = delivery_large c.args.self.now c.args.delivery.now (sym c.is_too_large.ensures ∙ c.if-is_too_large.true)

pub made_batch-requires-clause-taken : goal.made_batch-requires-clause-taken
made_batch-requires-clause-taken c = delivery_taken c.args.self.now c.args.delivery.now (sym c.is_too_large.ensures ∙ c.if-is_too_large.false)

pub returns-clause-refusal : goal.returns-clause-refusal
returns-clause-refusal c = delivery_taken c.args.self.now c.args.delivery.now (sym c.is_too_large.ensures ∙ c.if-is_too_large.false)
