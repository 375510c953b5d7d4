use Rattle.std.proofs.Common.{ap, ◌∙◌, refl}
use Rattle.std.specs.Prelude.{unwrap_or}
use Rattle.field_downgrade.specs.Kinds.{kind_named, field_kinds}
use Rattle.field_downgrade.specs.private.ByLength.{of_length}
use Rattle.field_downgrade.specs.declared.kind.Kind.TheVariants.{Unstructured}
use Rattle.field_downgrade.proofs.kind.kind_of.Goals as goal

pub returns : goal.returns
unfolding kind_named of_length
returns c = c.unwrap_or.ensures ∙ ap (λ found. unwrap_or found Unstructured) (c.find_by_length.ensures field_kinds (record { each = refl; all = refl }))
