use Rattle.param_2231.proofs.GivenLemmas.{same_test}
use Rattle.param_2231.proofs.rewriting.is_global.Goals as goal

pub returns-in-Content : goal.returns-in-Content
returns-in-Content c = rw (c.in-Content.is) (same_test c.eq_ignore_ascii_case.result _ _ c.eq_ignore_ascii_case.ensures.test)
