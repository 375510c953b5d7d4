-- The octets of UTF-16 are read back.
use Rattle.std.proofs.Common.{◌≡◌, ℕ, ◌+◌, ◌-◌, ◌/◌, ◌%◌, ◌<◌, ◌≤◌, true, nat_lt, List, [], ◌∷◌, ◌++◌, length, inl, inr, refl, sym, ap, ◌∙◌, append_assoc, append-nil, arith}
use Rattle.std.proofs.lemmas.Bool.{and_parts, and_from, cond_both, lt-ltb, ltb-true, ltb-false}
use Rattle.std.specs.List.{flat_map, list_all}
use Rattle.std.specs.Str.{encode_utf8_all, all_scalars}
use Rattle.std.specs.Char.{IsScalar, encode_utf8}
use Rattle.base64.specs.GeneralPurpose.{IsBytes}
use Rattle.imap_words.specs.Utf7.{unit_octets, char_octets, utf16_octets, AreScalars}
use Rattle.imap_words.proofs.Passing.{all_join}
use Rattle.imap_words.proofs.Utf7Runs.{index_passes}
use lib.Utf8.{scalar_cases}

-- some characters were put last, and the octets of others are left
pub record CharsTaken (cs start name rest : List ℕ) : Type 0 where
  pub front : List ℕ
  pub back : List ℕ
  pub whole : cs ≡ front ++ back
  pub scalars : all_scalars back ≡ true
  pub put : name ≡ start ++ encode_utf8_all front
  pub left : rest ≡ utf16_octets back

pub chars_begin : (cs start octets : List ℕ) → AreScalars cs → octets ≡ utf16_octets cs → CharsTaken cs start start octets
chars_begin cs start octets s e = record { front = []; back = cs; whole = refl; scalars = s; put = sym (append-nil start); left = e }

push_encoded : (front : List ℕ) (c : ℕ) → encode_utf8_all (front ++ c ∷ []) ≡ encode_utf8_all front ++ encode_utf8 c
push_encoded [] c = append-nil (encode_utf8 c)
push_encoded (d ∷ front) c = ap (λ z. encode_utf8 d ++ z) (push_encoded front c) ∙ sym (append_assoc (encode_utf8 d) (encode_utf8_all front) (encode_utf8 c))

pub chars_more : (cs start name rest next : List ℕ) (x : ℕ) (others : List ℕ) → CharsTaken cs start name rest
    → ((c : ℕ) (r : List ℕ) → IsScalar c → rest ≡ char_octets c ++ r → (x ≡ c) × (others ≡ r)) → length others < length rest → next ≡ name ++ encode_utf8 x
    → CharsTaken cs start next others
chars_more cs start name rest next x others taken found shorter n = by_back taken.back taken.whole taken.scalars taken.left
  where
    by_back : (back : List ℕ) → cs ≡ taken.front ++ back → all_scalars back ≡ true → rest ≡ utf16_octets back → CharsTaken cs start next others
    by_back [] w s left = absurd (omega (arith, shorter, ap length left))
    by_back (c ∷ back) w s left =
        let parts = and_parts _ (all_scalars back) s in
        let same = found c (utf16_octets back) parts.0 left in
        record {
          front = taken.front ++ c ∷ [];
          back = back;
          whole = w ∙ sym (append_assoc taken.front (c ∷ []) back);
          scalars = parts.1;
          put = n ∙ (ap (λ z. z ++ encode_utf8 x) taken.put ∙ (ap (λ z. (start ++ encode_utf8_all taken.front) ++ encode_utf8 z) same.0 ∙ (append_assoc start (encode_utf8_all taken.front) (encode_utf8 c) ∙ ap (λ z. start ++ z) (sym (push_encoded taken.front c)))));
          left = same.1;
        }

pub chars_end : (cs start name rest : List ℕ) → CharsTaken cs start name rest → ((c : ℕ) (r : List ℕ) → IsScalar c → rest ≡ char_octets c ++ r → ⊥)
    → (rest ≡ []) × (name ≡ start ++ encode_utf8_all cs)
chars_end cs start name rest taken none = by_back taken.back taken.whole taken.scalars taken.left
  where
    by_back : (back : List ℕ) → cs ≡ taken.front ++ back → all_scalars back ≡ true → rest ≡ utf16_octets back → (rest ≡ []) × (name ≡ start ++ encode_utf8_all cs)
    by_back [] w s left = (left, taken.put ∙ ap (λ z. start ++ encode_utf8_all z) (sym (w ∙ append-nil taken.front)))
    by_back (c ∷ back) w s left = absurd (none c (utf16_octets back) (and_parts _ (all_scalars back) s).0 left)

-- ---- they are octets

unit_bytes : (u : ℕ) → u < 65536 → list_all (λ x. nat_lt x 256) (unit_octets u) ≡ true
unit_bytes u small = and_from _ _ (lt-ltb (u / 256) 256 (omega (arith, small))) (and_from _ _ (lt-ltb (u % 256) 256 (omega arith)) refl)

char_bytes : (c : ℕ) → IsScalar c → list_all (λ x. nat_lt x 256) (char_octets c) ≡ true
char_bytes c s =
    cond_both (nat_lt c 65536) _ _ (λ units. list_all (λ x. nat_lt x 256) (flat_map unit_octets units) ≡ true)
    (λ e. all_join (λ x. nat_lt x 256) (unit_octets c) [] (unit_bytes c (ltb-true c 65536 e)) refl)
    (λ e.
    let high : c < 1114112 = elim (scalar_cases c s) [ inl low ↦ omega (arith, low) | inr up ↦ up.1 ] in
    let from : 65536 ≤ c = ltb-false c 65536 e in
    all_join (λ x. nat_lt x 256) (unit_octets (55296 + (c - 65536) / 1024)) (unit_octets (56320 + (c - 65536) % 1024) ++ []) (unit_bytes (55296 + (c - 65536) / 1024) (omega (arith, high, from)))
    (all_join (λ x. nat_lt x 256) (unit_octets (56320 + (c - 65536) % 1024)) [] (unit_bytes (56320 + (c - 65536) % 1024) (omega arith)) refl))

bytes_pass : (cs : List ℕ) → AreScalars cs → list_all (λ x. nat_lt x 256) (utf16_octets cs) ≡ true
bytes_pass [] s = refl
bytes_pass (c ∷ cs) s =
    let parts = and_parts _ (all_scalars cs) s in
    all_join (λ x. nat_lt x 256) (char_octets c) (utf16_octets cs) (char_bytes c parts.0) (bytes_pass cs parts.1)

pub utf16_bytes : (cs : List ℕ) → AreScalars cs → IsBytes (utf16_octets cs)
utf16_bytes cs s i = ltb-true _ 256 (index_passes (λ x. nat_lt x 256) (utf16_octets cs) i refl (bytes_pass cs s))
