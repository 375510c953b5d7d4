use Rattle.surrogate_rope.proofs.StoredLemmas.{counts_formed}
use Rattle.surrogate_rope.proofs.storing.counts_form.Goals as goal

pub returns-clause-form : goal.returns-clause-form
returns-clause-form c = counts_formed c.args.pieces c.args.entities c.args.rewritten _ _ _ c.write_number.ensures.form c.write_number-2.ensures.form c.write_number-3.ensures.form
