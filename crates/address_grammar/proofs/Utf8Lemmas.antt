-- UTF-8 stays UTF-8 where backslashes are put before ASCII octets or left out.
use Rattle.std.proofs.Common.{◌≡◌, ℕ, ◌<◌, Bool, true, false, ◌||◌, inl, inr, eqb, List, [], ◌∷◌, ◌++◌, arith}
use Rattle.std.proofs.lemmas.Bool.{cases_Bool, eqb-true}
use Rattle.std.proofs.lemmas.Bool.Decides.{nat_tests}
use Rattle.std.proofs.lemmas.List.{append_assoc}
use Rattle.std.proofs.lemmas.Str.{IsUtf8-append}
use Rattle.std.specs.List.{flat_map}
use Rattle.std.specs.Str.{IsUtf8}
use Rattle.encoded_words.proofs.WritableUnits.{one_ascii, following_ascii, before_ascii}
use Rattle.address_grammar.specs.private.Lexemes.{unquoted}
use Rattle.address_grammar.specs.Addresses.{quoted_octet}

is_backslash : (x : ℕ) → eqb x 92 ≡ true → x < 128
is_backslash x h = omega (arith, eqb-true x 92 h)

-- backslashes that are left out
unquoted_from : (b : Bool) (front octets : List ℕ) → IsUtf8 (front ++ octets) → IsUtf8 (front ++ unquoted b octets)
unquoted_from b front [] u = u
unquoted_from true front (x ∷ octets) u =
    rw (append_assoc front (x ∷ []) (unquoted false octets)) at (unquoted_from false (front ++ x ∷ []) octets (rw (append_assoc front (x ∷ []) octets) u))
unquoted_from false front (x ∷ octets) u = elim (cases_Bool (eqb x 92)) [
  | inl mark ↦
      let cut = before_ascii front (x ∷ octets) (is_backslash x mark) u in
      rw (mark) (unquoted_from true front octets (IsUtf8-append front octets cut.front (following_ascii x octets (is_backslash x mark) cut.rest)))
  | inr other ↦
      rw (other) (rw (append_assoc front (x ∷ []) (unquoted false octets)) at (unquoted_from false (front ++ x ∷ []) octets (rw (append_assoc front (x ∷ []) octets) u)))
]

pub unquoted_utf8 : (octets : List ℕ) → IsUtf8 octets → IsUtf8 (unquoted false octets)
unquoted_utf8 octets u = unquoted_from false [] octets u

mark_ascii : (x : ℕ) → (eqb x 34 || eqb x 92) ≡ true → x < 128
mark_ascii x h = grind (arith, nat_tests)

-- backslashes that are put in
quoted_from : (front octets : List ℕ) → IsUtf8 (front ++ octets) → IsUtf8 (front ++ flat_map quoted_octet octets)
quoted_from front [] u = u
quoted_from front (x ∷ octets) u = elim (cases_Bool (eqb x 34 || eqb x 92)) [
  | inl mark ↦
      let cut = before_ascii front (x ∷ octets) (mark_ascii x mark) u in
      let rest = quoted_from [] octets (following_ascii x octets (mark_ascii x mark) cut.rest) in
      rw (mark) (IsUtf8-append front (92 ∷ x ∷ flat_map quoted_octet octets) cut.front
      (IsUtf8-append (92 ∷ []) (x ∷ flat_map quoted_octet octets) (one_ascii 92 (omega arith)) (IsUtf8-append (x ∷ []) (flat_map quoted_octet octets) (one_ascii x (mark_ascii x mark)) rest)))
  | inr other ↦
      rw (other) (rw (append_assoc front (x ∷ []) (flat_map quoted_octet octets)) at (quoted_from (front ++ x ∷ []) octets (rw (append_assoc front (x ∷ []) octets) u)))
]

pub quoted_utf8 : (octets : List ℕ) → IsUtf8 octets → IsUtf8 (flat_map quoted_octet octets)
quoted_utf8 octets u = quoted_from [] octets u
