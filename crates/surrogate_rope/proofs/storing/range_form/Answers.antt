use Rattle.surrogate_rope.proofs.StoredLemmas.{range_formed}
use Rattle.surrogate_rope.proofs.storing.range_form.Goals as goal

pub returns-clause-form : goal.returns-clause-form
returns-clause-form c = range_formed c.args.range _ _ c.write_number.ensures.form c.write_number-2.ensures.form
