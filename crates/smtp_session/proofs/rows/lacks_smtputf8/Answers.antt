use Rattle.std.proofs.Common.{rules}
use Rattle.smtp_session.proofs.ReplyLemmas.{ascii-address}
use Rattle.smtp_session.proofs.rows.lacks_smtputf8.Goals as goal
use Rattle.smtp_session.proofs.rows.lacks_smtputf8.Goals.{then-is_ascii, else-is_ascii}

pub returns-after-is_ascii : goal.returns-after-is_ascii
returns-after-is_ascii c = elim c.if-is_ascii.branch [
  | then-is_ascii w ↦ search (rules, ascii-address)
  | else-is_ascii w ↦ search (rules, ascii-address)
]
