use Rattle.std.proofs.Common.{sym, ◌∙◌}
use Rattle.address_lists.proofs.ListRewriting.{is_followed}
use Rattle.address_lists.proofs.rewriting.write_followed.Goals as goal

pub returns-clause-ok : goal.returns-clause-ok
returns-clause-ok c = is_followed _ _ _ _ _ (sym c.is_followed.ensures ∙ c.if-not-is_followed.false) c.in_ok-write_place.ensures.ok c.in-Ok.ensures.ok
