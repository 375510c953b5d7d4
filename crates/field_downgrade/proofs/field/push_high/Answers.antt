use Rattle.std.proofs.lemmas.Bool.{iff_false}
use Rattle.utf8_fields.specs.private.Views.{parts_value}
use Rattle.field_downgrade.proofs.Rewriting.{Adds-served, Adds-words, CanRewrite-structured}
use Rattle.field_downgrade.proofs.Writing.{OnOk-then}
use Rattle.field_downgrade.proofs.field.push_high.Goals as goal

pub returns-then-keeps_words : goal.returns-then-keeps_words
returns-then-keeps_words c =
    OnOk-then c.push_unstructured.result _ _
    (λ adds. Adds-served c.args.open_global c.args.raw.now c.args.made.now c.push_unstructured.new.made (parts_value c.split_field-parts.result) c.split_field-parts.ensures c.requires.field c.requires.high
    (Adds-words c.args.open_global (parts_value c.split_field-parts.result) c.args.made.now c.push_unstructured.new.made (c.keeps_words.ensures.0 c.if-keeps_words.true) adds)) c.push_unstructured.ensures

pub push_structured-requires : goal.push_structured-requires
push_structured-requires c =
    let can = CanRewrite-structured c.args.raw.now (parts_value c.split_field-parts.result) c.split_field-parts.ensures c.requires.field c.requires.high
    (iff_false c.keeps_words.ensures c.if-keeps_words.false) in
    record { kind = c.kind_of-kind.ensures; other = can.other; folded = can.folded; utf8 = can.utf8; high = can.high }

pub returns-else-keeps_words : goal.returns-else-keeps_words
returns-else-keeps_words c =
    OnOk-then c.push_structured.result _ _
    (Adds-served c.args.open_global c.args.raw.now c.args.made.now c.push_structured.new.made (parts_value c.split_field-parts.result) c.split_field-parts.ensures c.requires.field c.requires.high)
    c.push_structured.ensures
