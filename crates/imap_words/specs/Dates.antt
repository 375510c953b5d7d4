-- Dates with times (RFC 3501, 9).
use Rattle.std.specs.Prelude.{◌≡◌, ℕ, true, List, [], ◌∷◌, codes}
use Rattle.mail_wire.specs.Characters.{plus, dash, colon}
use Rattle.imap_words.specs.Languages.{Then, After, Or, Is, IsOctet, SaysItself}
use Rattle.imap_words.specs.Tokens.{IsSpace, IsDoubleQuote, is_digit}
use Rattle.imap_words.specs.Keywords.{Named, IsWordOf}

-- DIGIT
pub record IsDigit (octets : List ℕ) (value : ℕ) : Type 0 where
  pub is : octets ≡ value ∷ []
  pub digit : is_digit value ≡ true

-- 2DIGIT (RFC 3501, 9).
abbrev pub IsTwoDigits : List ℕ → ℕ → Type 0
IsTwoDigits = After IsDigit IsDigit

-- 4DIGIT (RFC 3501, 9).
abbrev pub IsFourDigits : List ℕ → ℕ → Type 0
IsFourDigits = After IsTwoDigits IsTwoDigits

-- date-day-fixed = (SP DIGIT) / 2DIGIT ; Fixed-format version of date-day
abbrev pub IsDateDayFixed : List ℕ → ℕ → Type 0
IsDateDayFixed = Or (After IsSpace IsDigit) IsTwoDigits

-- date-month = "Jan" / "Feb" / "Mar" / "Apr" / "May" / "Jun" / "Jul" / "Aug" / "Sep" / "Oct" / "Nov" / "Dec"
abbrev pub months : List (Named ℕ)
months =
    record { word = codes "JAN"; says = 1 } ∷ record { word = codes "FEB"; says = 2 } ∷ record { word = codes "MAR"; says = 3 } ∷ record { word = codes "APR"; says = 4 }
    ∷ record { word = codes "MAY"; says = 5 } ∷ record { word = codes "JUN"; says = 6 } ∷ record { word = codes "JUL"; says = 7 } ∷ record { word = codes "AUG"; says = 8 }
    ∷ record { word = codes "SEP"; says = 9 } ∷ record { word = codes "OCT"; says = 10 } ∷ record { word = codes "NOV"; says = 11 } ∷ record { word = codes "DEC"; says = 12 } ∷ []

-- time = 2DIGIT ":" 2DIGIT ":" 2DIGIT ; Hours minutes seconds
abbrev pub IsTime : List ℕ → ℕ → Type 0
IsTime = After IsTwoDigits (After (IsOctet colon) (After IsTwoDigits (After (IsOctet colon) IsTwoDigits)))

-- zone = ("+" / "-") 4DIGIT
abbrev pub IsZone : List ℕ → ℕ → Type 0
IsZone = After (Or (IsOctet plus) (IsOctet dash)) IsFourDigits

-- date-day-fixed "-" date-month "-" date-year SP time SP zone
abbrev pub IsDateTimeText : List ℕ → ℕ → Type 0
IsDateTimeText =
    After IsDateDayFixed (After (IsOctet dash) (After (IsWordOf months) (After (IsOctet dash) (After IsFourDigits (After IsSpace (After IsTime (After IsSpace IsZone)))))))

-- date-time = DQUOTE date-day-fixed "-" date-month "-" date-year SP time SP zone DQUOTE
-- It stands for what is written between the quotes.
abbrev pub IsDateTime : List ℕ → List ℕ → Type 0
IsDateTime = After IsDoubleQuote (Then (SaysItself IsDateTimeText) (λ date. After IsDoubleQuote (Is date)))
