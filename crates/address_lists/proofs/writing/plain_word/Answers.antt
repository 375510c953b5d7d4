use Rattle.field_tokens.specs.Lexemes.{values_of}
use Rattle.address_lists.proofs.PlainWords.{plain_from}
use Rattle.address_lists.proofs.writing.plain_word.Goals as goal

pub returns : goal.returns
returns c =
    plain_from (values_of c.args.lexemes) (values_of c.in-Some.following) _ _ c.in-Some.ensures.found (c.is_empty.ensures.0 c.if-not-is_empty.false) (c.is_atom.ensures.0 c.if-not-is_atom.false)
    (c.begins_encoded.ensures c.if-begins_encoded.false)
