use Rattle.std.proofs.Common.{inr}
use Rattle.std.proofs.lemmas.Result.{IfOk-weaker}
use Rattle.imap_views.proofs.params.disposition_of.Goals as goal

pub returns-in-None : goal.returns-in-None
returns-in-None c =
    rw (c.in-Some.is) (IfOk-weaker c.from_slice-in-None.result _ _ (λ made absent. inr (rw (c.in-None.is, c.as_slice.ensures) at c.in_ok-body.ensures.none, absent)) c.from_slice-in-None.ensures)
