-- Sets of messages (RFC 3501, 9).
use Rattle.std.specs.Prelude.{ℕ, Bool, ◌||◌, ◌==◌, List, Option, None, Some}
use Rattle.mail_wire.specs.Characters.{asterisk, comma, colon}
use Rattle.imap_words.specs.Languages.{Then, After, Or, Is, IsOctet, IsList}
use Rattle.imap_words.specs.Tokens.{IsNonZero, IsSpace, is_digit}

-- seq-number = nz-number / "*"
abbrev pub IsSeqNumber : List ℕ → Option ℕ → Type 0
IsSeqNumber = Or (Then IsNonZero (λ n. Is (Some n))) (After (IsOctet asterisk) (Is None))

-- seq-range = seq-number ":" seq-number; a number alone is the range from itself to itself
abbrev pub IsSeqRange : List ℕ → Option ℕ × Option ℕ → Type 0
IsSeqRange = Then IsSeqNumber (λ first. Or (Is (first, first)) (After (IsOctet colon) (Then IsSeqNumber (λ last. Is (first, last)))))

-- sequence-set = (seq-number / seq-range) *("," sequence-set), and the SP after it
abbrev pub IsSetAndSpace : List ℕ → List (Option ℕ × Option ℕ) → Type 0
IsSetAndSpace = IsList (IsOctet comma) IsSeqRange IsSpace

-- what may go on after a range, or after a number that begins one
abbrev pub after_range : ℕ → Bool
after_range x = is_digit x || x == colon
