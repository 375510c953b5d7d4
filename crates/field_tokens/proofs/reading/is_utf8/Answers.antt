use Rattle.std.proofs.Common.{sym, ◌∙◌}
use Rattle.mail_wire.proofs.OctetLemmas.{ascii_utf8}
use Rattle.field_tokens.proofs.reading.is_utf8.Goals as goal

pub returns-then-is_ascii : goal.returns-then-is_ascii
returns-then-is_ascii c = (λ _. ascii_utf8 c.args.text.now (sym c.is_ascii.ensures ∙ c.if-is_ascii.true), λ _. c.if-is_ascii.true)
