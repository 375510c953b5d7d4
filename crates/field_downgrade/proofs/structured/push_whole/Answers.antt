use Rattle.std.proofs.Common.{sym, ◌∙◌}
use Rattle.utf8_fields.specs.private.Views.{parts_value}
use Rattle.field_downgrade.proofs.StructuredWriting.{Adds-kept, Adds-encapsulated}
use Rattle.field_downgrade.proofs.Writing.{OnOk-then}
use Rattle.field_downgrade.proofs.structured.push_whole.Goals as goal

pub returns-then-keeps_name : goal.returns-then-keeps_name
returns-then-keeps_name c =
    OnOk-then c.push_kept.result _ _
    (Adds-kept c.args.open_global (parts_value c.args.parts.now) c.args.value.now c.args.made.now c.push_kept.new.made c.requires.none (sym c.keeps_name.ensures ∙ c.if-keeps_name.true) c.requires.value)
    c.push_kept.ensures

pub returns-else-keeps_name : goal.returns-else-keeps_name
returns-else-keeps_name c =
    OnOk-then c.push_kept-else-keeps_name.result _ _
    (Adds-encapsulated c.args.open_global (parts_value c.args.parts.now) c.args.value.now c.args.made.now c.push_kept-else-keeps_name.new.made c.requires.other c.requires.none (sym c.keeps_name.ensures ∙ c.if-keeps_name.false)
    c.requires.value)
    c.push_kept-else-keeps_name.ensures
