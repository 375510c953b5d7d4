use Rattle.std.proofs.Common.{sym}
use Rattle.field_tokens.proofs.MarkLemmas.{lexemes_in-length}
use Rattle.field_tokens.proofs.lexemes.Lexemes.len.Goals as goal

pub returns : goal.returns
returns c = sym (lexemes_in-length c.args.self.text.now c.args.self.marks.now)
