use Rattle.std.proofs.Common.{refl}
use Rattle.std.proofs.lemmas.Bool.{iff_false}
use Rattle.utf8_fields.specs.private.Views.{parts_value}
use Rattle.field_downgrade.proofs.NamingLemmas.{not_named, other_type}
use Rattle.field_downgrade.proofs.field.push_named.Goals as goal

pub returns-then-not-is_type : goal.returns-then-not-is_type
returns-then-not-is_type c = (other_type c.args.raw.now (parts_value c.split_field-parts.result) c.split_field-parts.ensures (iff_false c.is_type.ensures c.if-not-is_type.true), refl)

pub returns-in_default : goal.returns-in_default
returns-in_default c = (
  not_named c.args.raw.now (parts_value c.split_field-parts.result) c.in_ok-value.value c.split_field-parts.ensures c.in_ok-value.ensures (rw c.as_slice.ensures at (rw c.in_default.is at c.in_ok-body.ensures.none)),
  refl,
)
