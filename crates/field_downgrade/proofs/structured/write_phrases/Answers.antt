use Rattle.std.proofs.Common.{Err, ap}
use Rattle.address_lists.proofs.PhraseListTexts.{PhrasesPieces-says}
use Rattle.field_downgrade.proofs.structured.write_phrases.Goals as goal

pub returns-in-Err-Malformed : goal.returns-in-Err-Malformed
returns-in-Err-Malformed c = (
  λ pieces p. let says = PhrasesPieces-says c.args.value.now pieces p in c.in-Err-Malformed.ensures.malformed (ap Err c.in-Err-Malformed.field-0-is) says.0 says.1 says.2,
  c.in-Err-Malformed.ensures.unchanged (ap Err c.in-Err-Malformed.field-0-is),
)
