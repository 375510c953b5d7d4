use Rattle.std.proofs.Common.{inr}
use Rattle.std.proofs.lemmas.Result.{IfOk-weaker}
use Rattle.imap_views.proofs.params.encoding_of.Goals.{in-Some+in_ok-name+in_default-2, in_default}
use Rattle.imap_views.proofs.params.encoding_of.Goals as goal

pub returns : goal.returns
returns c = elim c.match-value.branch [
  | in-Some+in_ok-name+in_default-2 w ↦
      rw (w.in-Some.is) (IfOk-weaker c.from_slice.result _ _ (λ made usual. inr (rw (w.in_default-2.is, w.as_slice.ensures) at w.in_ok-name.ensures.none, usual)) c.from_slice.ensures)
  | in_default w ↦ rw (w.in_default.is) c.from_slice.ensures
]
