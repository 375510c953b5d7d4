use Rattle.field_tokens.proofs.MarkLemmas.{lexemes_in-empty}
use Rattle.field_tokens.proofs.lexemes.Lexemes.is_empty.Goals as goal

pub returns : goal.returns
returns c = lexemes_in-empty c.args.self.text.now c.args.self.marks.now _ c.is_empty.ensures
