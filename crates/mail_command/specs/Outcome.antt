-- What a command of one message comes to: its status, and the octets that it gives (RFC 5322; RFC 6532; RFC 6857).
use Rattle.std.specs.Prelude.{◌≡◌, ◌≢◌, ℕ, ◌<◌, ◌≤◌, List, [], ◌++◌, length, codes, decimal}
use Rattle.mail_wire.specs.Lines.{crlf}
use Rattle.kept_mail.specs.declared.limits.TheConstants.{MESSAGE_MAX}
use Rattle.mime_tree.specs.declared.entity.TreeFault.{TreeFault}
use Rattle.mime_tree.specs.declared.entity.TreeFault.TheVariants.{Nul, BareCr, BareLf, NotField, NotUtf8, Memory}
use Rattle.mime_tree.specs.Completing.{IsCompleted}
use Rattle.mime_tree.specs.Faults.{IsTreeFault}
use Rattle.surrogate_rope.specs.Layout.{HasSurrogate}
use Rattle.mail_command.specs.declared.tasks.Task.{Task}
use Rattle.mail_command.specs.declared.tasks.Task.TheVariants.{Downgrade, Check}
use Rattle.mail_command.specs.Checking.{TellsFigures}

-- the most octets of a message: 32 MiB
abbrev pub message_max : ℕ
message_max = MESSAGE_MAX

-- the line that tells where a message is refused, and why
abbrev pub refusal_line : ℕ → List ℕ → List ℕ
refusal_line at reason = codes "refused at " ++ (decimal at ++ (codes ": " ++ (reason ++ crlf)))

-- the line that tells the fault of a message; want of memory has none
abbrev pub fault_line : TreeFault → List ℕ
fault_line (Nul at) = refusal_line at (codes "nul")
fault_line (BareCr at) = refusal_line at (codes "bare cr")
fault_line (BareLf at) = refusal_line at (codes "bare lf")
fault_line (NotField at) = refusal_line at (codes "not a field")
fault_line (NotUtf8 at) = refusal_line at (codes "not utf-8")
fault_line Memory = []

-- what is given of a message: its surrogate, which is the layout rule's and whose fields each stand for the original's, or what is counted of it
abbrev pub IsGivenBy : Task → List ℕ → List ℕ → Type 0
IsGivenBy Downgrade msg given = HasSurrogate msg given
IsGivenBy Check msg given = TellsFigures msg given

-- What a command of one message comes to on these octets.
pub data Outcome (task : Task) (octets : List ℕ) (status : ℕ) (given : List ℕ) : Type 0 where
  -- more octets than a message may have
  TooLarge : message_max < length octets → status ≡ 7 → given ≡ refusal_line message_max (codes "too large") → Outcome task octets status given
  -- no message: its first fault, once its last line is ended
  Refused : (completed : List ℕ) (fault : TreeFault) → length octets ≤ message_max → IsCompleted octets completed → IsTreeFault completed fault → fault ≢ Memory
      → status ≡ 7 → given ≡ fault_line fault → Outcome task octets status given
  -- a message, once its last line is ended
  Done : (completed : List ℕ) → length octets ≤ message_max → IsCompleted octets completed → IsGivenBy task completed given → status ≡ 0 → Outcome task octets status given

-- the octets are what is given by an outcome of these
abbrev pub IsOutcome : Task → List ℕ → List ℕ → Type 0
IsOutcome task octets given = (status : ℕ) × Outcome task octets status given
