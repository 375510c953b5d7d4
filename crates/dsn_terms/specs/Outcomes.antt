-- Which outcome owes a report (RFC 3461, 4.1 and 5.2).
use Rattle.std.specs.Prelude.{ℕ, ◌/◌, ◌%◌, ◌==◌, Bool, ◌&&◌}
use Rattle.dsn_terms.specs.declared.Outcome.{Outcome}
use Rattle.dsn_terms.specs.declared.Outcome.TheVariants.{Failed, Relayed, Delivered}

-- a sum of 1 SUCCESS, 2 FAILURE, 4 DELAY and 8 delivered here has this one
abbrev pub asks : (notify bit : ℕ) → Bool
asks notify bit = notify / bit % 2 == 1

-- A failure is reported where FAILURE was asked for, a mail that was relayed to a server without DSN where SUCCESS was, and one that
-- was delivered where SUCCESS was and it was delivered here (RFC 3461, 5.2.2 and 5.2.3).
abbrev pub is_owed : ℕ → Outcome → Bool
is_owed notify Failed = asks notify 2
is_owed notify Relayed = asks notify 1
is_owed notify Delivered = asks notify 1 && asks notify 8
