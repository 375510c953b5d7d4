use Rattle.std.proofs.Common.{sym, ◌∙◌}
use Rattle.field_tokens.proofs.MarkLemmas.{above_cr}
use Rattle.field_tokens.proofs.reading.are_line_octets.Goals as goal

pub returns-then-are_above_cr : goal.returns-then-are_above_cr
returns-then-are_above_cr c = sym (above_cr c.args.text.now (sym c.are_above_cr.ensures ∙ c.if-are_above_cr.true))
