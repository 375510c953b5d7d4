-- The texts of a moment, which is a number of seconds from the beginning of 1970 in UTC. They are made of the text that HTTP
-- has for it (RFC 9110, 5.6.7), such as `Thu, 01 Jan 1970 00:00:00 GMT`.
use Rattle.std.specs.Prelude.{◌≡◌, ℕ, List, ◌∷◌, ◌++◌, take, codes, slice_range}
use Rattle.mail_wire.specs.Characters.{dash}
use Rattle.httpdate.specs.Date.{unix_secs, date_text}
use Rattle.httpdate.specs.declared.date.HttpDate.{HttpDate as Date}

-- the date and time of a field (RFC 5322, 3.3): the zone is written as a number
pub record IsDateText (seconds : ℕ) (text : List ℕ) : Type 0 where
  pub date : Date
  pub moment : unix_secs date ≡ seconds
  pub spelled : text ≡ take 26 (date_text date) ++ codes "+0000"

-- a date-time (RFC 3501, 9) without its quotes: day, month and year, the time, and the zone
pub record IsInternalDate (seconds : ℕ) (text : List ℕ) : Type 0 where
  pub date : Date
  pub moment : unix_secs date ≡ seconds
  pub spelled : text ≡ slice_range (date_text date) 5 7 ++ dash ∷ (slice_range (date_text date) 8 11
      ++ dash ∷ (slice_range (date_text date) 12 25 ++ codes " +0000"))
