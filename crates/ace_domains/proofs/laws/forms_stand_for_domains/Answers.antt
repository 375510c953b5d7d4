use Rattle.std.proofs.Common.{refl}
use Rattle.ace_domains.specs.Domains.{normal_form}
use Rattle.ace_domains.proofs.FormLemmas.{form_own, alone}
use Rattle.ace_domains.proofs.laws.forms_stand_for_domains.Goals as goal

pub returns-clause-form : goal.returns-clause-form
returns-clause-form c domain form e = rw (e, form_own domain form e)

pub returns-clause-alone : goal.returns-clause-alone
returns-clause-alone c a b e same = alone a b (normal_form b) e refl (rw e at same)
