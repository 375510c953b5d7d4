use Rattle.std.proofs.Common.{sym, subst}
use Rattle.std.specs.Str.{IsUtf8}
use Rattle.encoded_words.specs.Folding.{AddsWordLines}
use Rattle.field_downgrade.proofs.Writing.{OnOk-then}
use Rattle.field_downgrade.proofs.segments.push_core.Goals as goal

pub push_words-requires : goal.push_words-requires
push_words-requires c = subst IsUtf8 (c.is_whole_text.ensures c.if-is_whole_text.true) c.requires

pub returns-then-is_whole_text : goal.returns-then-is_whole_text
returns-then-is_whole_text c =
    OnOk-then c.push_words.result _ _ (subst (λ text. AddsWordLines text c.args.white c.args.made.now c.push_words.new.made) (sym (c.is_whole_text.ensures c.if-is_whole_text.true))) c.push_words.ensures
