use Rattle.utf8_fields.proofs.OneField.{parts_once, more_some}
use Rattle.utf8_fields.proofs.parts.split_field.Goals as goal

pub split_at-requires : goal.split_at-requires
split_at-requires c =
    more_some c.args.raw.now _ c.split_name.result.1.now _ c.split_white.result.1.now c.requires.parts c.requires.has_parts c.split_name.ensures c.split_white.ensures

pub returns : goal.returns
returns c f is =
    parts_once c.args.raw.now _ c.split_name.result.1.now _ c.split_white.result.1.now c.split_at.result.1.now _ _ f is c.split_name.ensures c.split_white.ensures
    c.split_at.ensures.back c.split_ending.ensures
