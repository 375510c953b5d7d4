-- The grammars of a record's texts, but for addresses and domains.
use Rattle.std.specs.Prelude.{◌≡◌, ◌≢◌, ℕ, ◌<◌, ◌≤◌, List, [], ◌∷◌, length, Bool, true, false, ◌&&◌, ◌||◌, ◌==◌, if◌then◌else◌, codes, encode_utf8_all, IsUtf8, slice_index_or, slice_range}
use Rattle.std.specs.List.{All, list_any}
use Rattle.std.specs.Char.{is_control}
use Rattle.std.specs.Str.{chars}
use Rattle.unicode_normalization.specs.Forms.{is_nfc, nfc}
use Rattle.mail_wire.specs.Characters.{space, percent, asterisk, plus, dash}
use Rattle.mail_wire.specs.Numbers.{is_digit}
use Rattle.mail_wire.specs.Octets.{same_name}
use Rattle.journal_records.specs.declared.limits.TheConstants.{NAME_MAX}

-- The shape of a date-time (RFC 3501, without its quotes): `9` stands for a digit, `d` for a digit or a space, `+` for a
-- plus or minus sign, `a` for any octet, and every other octet for itself.
abbrev pub date_shape : List ℕ
date_shape = codes "d9-aaa-9999 99:99:99 +9999"

-- the letter of the shape stands for this octet
unfoldable pub fits_letter : ℕ → ℕ → Bool
fits_letter letter x =
    if letter == 57 then is_digit x
    else if letter == 100 then (is_digit x || x == space)
    else if letter == plus then (x == plus || x == dash)
    else if letter == 97 then true
    else x == letter

-- The names of the months (RFC 3501, 9, date-month).
abbrev pub months : List (List ℕ)
months =
    codes "Jan" ∷ codes "Feb" ∷ codes "Mar" ∷ codes "Apr" ∷ codes "May" ∷ codes "Jun" ∷ codes "Jul" ∷ codes "Aug" ∷ codes "Sep" ∷ codes "Oct" ∷ codes "Nov" ∷ codes "Dec" ∷ []

-- a date-time of RFC 3501, of any numbers, and with its month in any case
pub record IsDate (date : List ℕ) : Type 0 where
  pub len : length date ≡ 26
  pub shape : (at : ℕ) → at < 26 → fits_letter (slice_index_or date_shape at 0) (slice_index_or date at 0) ≡ true
  pub month : list_any (λ month. same_name month (slice_range date 3 6)) months ≡ true

-- a character that a folder's name may have: no control, no `*` and no `%`
abbrev pub IsNameChar : ℕ → Type 0
IsNameChar c = (is_control c ≡ false) × (c ≢ asterisk) × (c ≢ percent)

-- the name of a folder, in UTF-8 and NFC (UAX #15)
pub record IsFolderName (name : List ℕ) : Type 0 where
  pub some : 0 < length name
  pub short : length name ≤ NAME_MAX
  pub utf8 : IsUtf8 name
  pub nfc : is_nfc (chars name) ≡ true
  pub each : All IsNameChar (chars name)

-- the name of an account's first folder (RFC 3501, 5.1)
abbrev pub inbox : List ℕ
inbox = codes "INBOX"

-- The name by which a folder is kept that is named so: INBOX whatever the case of its letters, and any other name in NFC.
abbrev pub kept_name : List ℕ → List ℕ
kept_name name = if same_name inbox name then inbox else encode_utf8_all (nfc (chars name))
