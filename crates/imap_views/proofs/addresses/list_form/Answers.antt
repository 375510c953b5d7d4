use Rattle.std.proofs.Common.{inr, Err, ap, ◌∙◌}
use Rattle.std.proofs.lemmas.Result.{IfOk-weaker}
use Rattle.imap_views.proofs.addresses.list_form.Goals as goal

pub returns-in-Err-Malformed : goal.returns-in-Err-Malformed
returns-in-Err-Malformed c = IfOk-weaker c.from_slice.result _ _ (λ made nil. inr (c.forms_of.ensures.malformed (c.in-Err-Malformed.is ∙ ap Err c.in-Err-Malformed.field-0-is), nil)) c.from_slice.ensures
