use Rattle.field_downgrade.proofs.StructuredFields.{body_utf8}
use Rattle.field_downgrade.proofs.structured.push_structured.Goals as goal

pub push_valued-requires-clause-utf8 : goal.push_valued-requires-clause-utf8
push_valued-requires-clause-utf8 c = body_utf8 c.args.parts.now.body.now _ c.requires.folded c.requires.utf8 c.in-Some.ensures

pub push_valued-requires-2-clause-utf8 : goal.push_valued-requires-2-clause-utf8
push_valued-requires-2-clause-utf8 c = rw c.as_slice.ensures (body_utf8 c.args.parts.now.body.now _ c.requires.folded c.requires.utf8 c.in_ok-value.ensures)
