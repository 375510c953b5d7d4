use Rattle.std.proofs.Common.{rules}
use Rattle.mime_tree.specs.Outlines.{seen_outline}
use Rattle.surrogate_rope.proofs.StoredLemmas.{entity_formed}
use Rattle.surrogate_rope.proofs.storing.entity_form.Goals as goal

pub returns-clause-form : goal.returns-clause-form
returns-clause-form c =
    entity_formed (seen_outline c.args.entity.now) c.octet_of-form.result _ _ _ _ _ c.octet_of-form.ensures (rw c.number_of.ensures at c.write_number.ensures.form) c.write_number-2.ensures.form c.write_number-3.ensures.form
    c.write_number-4.ensures.form c.write_number-5.ensures.form

pub returns-clause-small : goal.returns-clause-small
returns-clause-small c = record { parent = c.requires; depth = search rules; at = search rules; body = search rules; end = search rules }
