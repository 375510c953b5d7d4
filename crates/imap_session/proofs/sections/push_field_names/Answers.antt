use Rattle.std.proofs.Common.{false, ap, ◌∙◌, ◌++◌, List, ℕ}
use Rattle.imap_session.specs.Items.{field_name}
use Rattle.imap_session.proofs.FetchLemmas.{stands_next}
use Rattle.imap_session.proofs.SectionLemmas.{joined_all, joined_more}
use Rattle.imap_session.proofs.sections.push_field_names.Goals as goal

pub loop-field-preserved : goal.loop-field-preserved
loop-field-preserved c = record {
  is_separated = stands_next false c.args.fields.now c.loop-field.field-index c.field-item.result c.loop-field-test.true;
  joined = joined_more 32 field_name c.args.fields.now c.loop-field.field-index c.field-item.result c.loop-field.is_separated c.args.name.now c.loop-field.name c.push_separator.new.made c.push_field_name.new.name
      c.loop-field-test.true c.loop-field.invariant.is_separated c.loop-field.invariant.joined c.in_ok-push_separator.ensures
      (c.in_ok-push_field_name.ensures ∙ ap (λ (field : List ℕ). c.push_separator.new.made ++ field_name field) (c.as_slice.ensures ∙ c.field-item.is));
}

pub returns : goal.returns
returns c = joined_all 32 field_name c.args.fields.now c.loop-field.field-index c.args.name.now c.loop-field.name c.loop-field-test.false c.loop-field.invariant.joined
