-- The moments that a clock told, by their texts (RFC 5322, 3.3; RFC 3501, date-time).
use Rattle.std.specs.Prelude.{◌≡◌, ℕ, ◌<◌, List, Option, IfSome}
use Rattle.mail_wire.specs.Dates.{IsDateText, IsInternalDate}
use Rattle.mail_wire.specs.declared.clock.TheConstants.{CLOCK_END}
use Rattle.session_core.specs.declared.outside.Timestamp.{Timestamp}

-- the texts of a moment: in a field of a message, and under which a message is kept
pub record Moment : Type 0 where
  pub date : List ℕ
  pub internal : List ℕ

-- The texts of a moment are those of these seconds.
pub record IsMoment (seconds : ℕ) (moment : Moment) : Type 0 where
  pub bound : seconds < CLOCK_END
  pub date : IsDateText seconds moment.date
  pub internal : IsInternalDate seconds moment.internal

-- a moment that a clock told, which may tell a fixed reading
pub record IsTold (reading : Option ℕ) (moment : Moment) : Type 0 where
  pub seconds : ℕ
  pub is : IsMoment seconds moment
  pub reads : IfSome reading (λ fixed. seconds ≡ fixed)

-- the moment of these texts
abbrev pub moment_of : Timestamp → Moment
moment_of timestamp = record { date = timestamp.date; internal = timestamp.internal }
