use Rattle.field_tokens.proofs.MarkLemmas.{front_marks}
use Rattle.field_tokens.proofs.lexemes.Lexemes.front.Goals as goal

pub returns : goal.returns
returns c = front_marks c.args.count _ c.args.self.text.now c.args.self.marks.now c.split_at.result.0.now c.min.ensures c.split_at.ensures.front
