use Rattle.std.proofs.Common.{sym, ◌∙◌}
use Rattle.smtp_session.proofs.KeptLemmas.{marked_high, marked_low}
use Rattle.smtp_session.proofs.trace.mark_after.Goals as goal

pub returns-then-is_ascii : goal.returns-then-is_ascii
returns-then-is_ascii c = marked_low c.args.front.now c.args.mark (sym c.is_ascii.ensures ∙ c.if-is_ascii.true)

pub returns-else-is_ascii : goal.returns-else-is_ascii
returns-else-is_ascii c = marked_high c.args.front.now c.args.mark (sym c.is_ascii.ensures ∙ c.if-is_ascii.false)
