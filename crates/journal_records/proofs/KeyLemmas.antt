-- What mailboxes and domains are known by.
use Rattle.std.proofs.Common.{◌≡◌, ℕ, ◌+◌, ◌/◌, ◌<◌, Bool, true, ◌&&◌, List, [], ◌∷◌, ◌++◌, Option, Some, None, refl, ap₂, subst, arith, inl, inr, ltb, lt-ltb, ltb-true, unwrap_or}
use Rattle.std.proofs.lemmas.Bool.{and_parts, cases_Bool}
use Rattle.std.proofs.lemmas.Slice.Eq.{bytes_eq-Decides}
use Rattle.std.proofs.lemmas.Str.{IsUtf8-from_ascii, encodes_same}
use Rattle.std.specs.Cmp.{both_ways}
use Rattle.std.specs.Cmp.Derive.{both_true}
use Rattle.std.specs.List.{list_all}
use Rattle.std.specs.Prelude.{IsUtf8}
use Rattle.std.specs.Str.{bytes_eq, chars}
use lib.Utf8.{scalar, scalars, next, encode, encodes, scalar_cases}
use Rattle.caseless.specs.Caseless.{canonical_key}
use Rattle.ace_domains.specs.Domains.{normal_form, compared_form}
use Rattle.ace_domains.proofs.FormLemmas.{form_ascii}
use Rattle.address_grammar.specs.declared.Address.{Address}
use Rattle.address_grammar.specs.Paths.{ComesInPath}
use Rattle.address_grammar.proofs.PathParts.{path_parts}
use Rattle.journal_records.specs.Addresses.{IsDomainText, is_same_mailbox, mailbox_key}

-- ---- the mark is in no text

-- the octet may stand in UTF-8
abbrev is_low : ℕ → Bool
is_low x = ltb x 255

low_then : (x : ℕ) (xs : List ℕ) → x < 255 → list_all is_low xs ≡ true → list_all is_low (x ∷ xs) ≡ true
low_then x xs h t = both_true (lt-ltb x 255 h) t

low_lead : (c : ℕ) → scalar c ≡ true → 240 + c / 262144 < 255
low_lead c s = elim (scalar_cases c s) [ inl a ↦ omega (arith, a) | inr b ↦ omega (arith, b.1) ]

low_next : (x : ℕ) (xs : List ℕ) → list_all is_low xs ≡ true → list_all is_low (next x ∷ xs) ≡ true
low_next x xs t = low_then (next x) xs (omega arith) t

-- the octets of a character may
low_char : (c : ℕ) (xs : List ℕ) → scalar c ≡ true → list_all is_low xs ≡ true → list_all is_low (encode c ++ xs) ≡ true
unfolding encode
low_char c xs s t = elim (cases_Bool (ltb c 128)) [
  | inl one ↦ rw one (low_then c xs (omega (arith, ltb-true c 128 one)) t)
  | inr a ↦ elim (cases_Bool (ltb c 2048)) [
    | inl two ↦ rw (a, two) (low_then (192 + c / 64) (next c ∷ xs) (omega (arith, ltb-true c 2048 two)) (low_next c xs t))
    | inr b ↦ elim (cases_Bool (ltb c 65536)) [
      | inl three ↦
          rw (a, b, three) (low_then (224 + c / 4096) (next (c / 64) ∷ next c ∷ xs) (omega (arith, ltb-true c 65536 three)) (low_next (c / 64) (next c ∷ xs) (low_next c xs t)))
      | inr d ↦
          rw (a, b, d) (low_then (240 + c / 262144) (next (c / 4096) ∷ next (c / 64) ∷ next c ∷ xs) (low_lead c s)
          (low_next (c / 4096) (next (c / 64) ∷ next c ∷ xs) (low_next (c / 64) (next c ∷ xs) (low_next c xs t))))
    ]
  ]
]

low_chars : (cs : List ℕ) → scalars cs ≡ true → list_all is_low (encodes cs) ≡ true
low_chars [] s = refl
low_chars (c ∷ cs) s =
    let parts = and_parts (scalar c) (scalars cs) s in
    low_char c (encodes cs) parts.0 (low_chars cs parts.1)

low_text : (octets : List ℕ) → IsUtf8 octets → list_all is_low octets ≡ true
low_text octets u = subst (λ (l : List ℕ). list_all is_low l ≡ true) u.1.1 (low_chars u.0 u.1.0)

-- ---- the last mark divides in one way

not_within : (b y : List ℕ) → list_all is_low (b ++ 255 ∷ y) ≡ true → ⊥
not_within [] y h = absurd (cc h)
not_within (x ∷ b) y h = not_within b y (and_parts (is_low x) (list_all is_low (b ++ 255 ∷ y)) h).1

cut_once : (a b x y : List ℕ) → list_all is_low x ≡ true → list_all is_low y ≡ true → a ++ 255 ∷ x ≡ b ++ 255 ∷ y → (a ≡ b) × (x ≡ y)
cut_once [] [] x y hx hy e = (refl, cc)
cut_once [] (k ∷ b) x y hx hy e =
    let whole : x ≡ b ++ 255 ∷ y = cc in
    absurd (not_within b y (subst (λ (l : List ℕ). list_all is_low l ≡ true) whole hx))
cut_once (h ∷ a) [] x y hx hy e =
    let whole : y ≡ a ++ 255 ∷ x = cc in
    absurd (not_within a x (subst (λ (l : List ℕ). list_all is_low l ≡ true) whole hy))
cut_once (h ∷ a) (k ∷ b) x y hx hy e =
    let rest : a ++ 255 ∷ x ≡ b ++ 255 ∷ y = cc in
    let r = cut_once a b x y hx hy rest in
    let same : a ≡ b = r.0 in
    (cc, r.1)

-- keys are the same exactly where both parts are
key_parts : (m n x y : List ℕ) → list_all is_low x ≡ true → list_all is_low y ≡ true
    → bytes_eq (encodes m ++ 255 ∷ x) (encodes n ++ 255 ∷ y) ≡ (bytes_eq m n && bytes_eq x y)
key_parts m n x y hx hy =
    both_ways _ _
    (λ same.
    let cut = cut_once (encodes m) (encodes n) x y hx hy ((bytes_eq-Decides (encodes m ++ 255 ∷ x) (encodes n ++ 255 ∷ y)).0 same) in
    both_true ((bytes_eq-Decides m n).1 (encodes_same m n cut.0)) ((bytes_eq-Decides x y).1 cut.1))
    (λ both.
    let parts = and_parts (bytes_eq m n) (bytes_eq x y) both in
    (bytes_eq-Decides (encodes m ++ 255 ∷ x) (encodes n ++ 255 ∷ y)).1
    (ap₂ (λ (k l : List ℕ). encodes k ++ 255 ∷ l) ((bytes_eq-Decides m n).0 parts.0) ((bytes_eq-Decides x y).0 parts.1)))

-- ---- domains

form_or_text : (form : Option (List ℕ)) (domain : List ℕ) → normal_form domain ≡ form → IsUtf8 domain → IsUtf8 (unwrap_or form domain)
form_or_text (Some form) domain e u = IsUtf8-from_ascii form (form_ascii domain form e)
form_or_text None domain e u = u

pub compared_utf8 : (domain : List ℕ) → IsUtf8 domain → IsUtf8 (compared_form domain)
compared_utf8 domain u = form_or_text (normal_form domain) domain refl u

-- a domain's normal form is UTF-8
pub domain_text_utf8 : (name : List ℕ) → IsDomainText name → IsUtf8 name
domain_text_utf8 name e = IsUtf8-from_ascii name (form_ascii name name e)

-- addresses in paths have one key exactly where they name one mailbox
pub key_decides : (own address : Address) → ComesInPath own → ComesInPath address → bytes_eq (mailbox_key own) (mailbox_key address) ≡ is_same_mailbox own address
key_decides own address p q =
    key_parts (canonical_key (chars own.local)) (canonical_key (chars address.local)) (compared_form own.domain) (compared_form address.domain)
    (low_text (compared_form own.domain) (compared_utf8 own.domain (path_parts p.0 own p.1).1))
    (low_text (compared_form address.domain) (compared_utf8 address.domain (path_parts q.0 address q.1).1))
