-- What kinds of octets have in common.
use Rattle.std.proofs.Common.{◌≡◌, ℕ, ◌<◌, max, ◌&&◌, inl, inr, nat_lt, List, [], ◌∷◌, length, get_or, true, false, IsUtf8, IsAscii, arith, refl}
use Rattle.std.specs.List.{list_all}
use Rattle.std.proofs.lemmas.Bool.{cases_lt, ltb-true}
use Rattle.std.proofs.lemmas.Bool.Decides.{nat_tests}
use Rattle.std.proofs.lemmas.List.{get_or_past}
use Rattle.std.proofs.lemmas.List.Sums.{AllPass-from_list_all}
use Rattle.std.proofs.lemmas.Str.{IsUtf8-from_ascii}
use Rattle.mail_wire.specs.Folds.{begins_fold}
use Rattle.mail_wire.specs.Lines.{is_crlf}
use Rattle.mail_wire.specs.Octets.{is_white, is_line_end, is_ascii}

pub white_below : (x : ℕ) → is_white x ≡ true → x < 128
white_below x white = grind (arith, nat_tests)

pub white_no_end : (x : ℕ) → is_white x ≡ true → is_line_end x ≡ false
white_no_end x white = grind (arith, nat_tests)

-- no CRLF begins with another octet
pub no_crlf : (x y : ℕ) → is_line_end x ≡ false → is_crlf x y ≡ false
no_crlf x y other = grind (arith, nat_tests)

-- nor does a fold
pub no_fold : (x : ℕ) (rest : List ℕ) → is_line_end x ≡ false → begins_fold (x ∷ rest) ≡ false
no_fold x [] other = refl
no_fold x (y ∷ []) other = refl
no_fold x (y ∷ z ∷ rest) other = rw (no_crlf x y other) refl

-- two octets are ASCII where the higher one is
pub higher_ascii : (highest x : ℕ) → nat_lt (max highest x) 128 ≡ (nat_lt highest 128 && is_ascii x)
higher_ascii highest x = grind (arith, nat_tests)

-- ASCII is UTF-8
pub ascii_utf8 : (octets : List ℕ) → list_all is_ascii octets ≡ true → IsUtf8 octets
ascii_utf8 octets ascii = IsUtf8-from_ascii octets low
  where
    low : IsAscii octets
    low i = elim (cases_lt i (length octets)) [
      | inl inside ↦ ltb-true (get_or octets i 0) 128 (AllPass-from_list_all is_ascii octets ascii i 0 inside)
      | inr past ↦ rw (get_or_past octets i 0 past) (omega arith)
    ]
