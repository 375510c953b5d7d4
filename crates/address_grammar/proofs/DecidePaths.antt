-- Whether a text is a path is decided, so some function reads paths.
use Rattle.std.proofs.Common.{◌≡◌, ℕ, true, not, ◌⊎◌, inl, inr, List, [], ◌∷◌, Option, Some, None, refl, ap}
use Rattle.std.proofs.lemmas.Bool.{cases_Bool, and_from, both_ways}
use Rattle.field_tokens.specs.declared.Style.TheVariants.{Mail}
use Rattle.field_tokens.specs.Tokens.{TokenValue}
use Rattle.field_tokens.specs.Squeezed.{words_of}
use Rattle.field_tokens.proofs.DecideTokens.{decide_tokens}
use Rattle.address_grammar.specs.declared.Address.{Address}
use Rattle.address_grammar.specs.private.Lexemes.{is_part, is_special_of, lacks_special, contents, are_blank, are_dotted, SplitsAt}
use Rattle.address_grammar.specs.Addresses.{is_domain, IsAddress}
use Rattle.address_grammar.specs.Paths.{IsFirstAngled, IsPathOf, IsPath, ReadsPaths, IsReading}
use Rattle.address_grammar.proofs.AddressLemmas.{address_parts, address_missing, address_made}
use Rattle.address_grammar.proofs.PathLemmas.{HasTokenValues-once, angled_made, angles_once, no_open, no_close, something_after, path_angles, KnownPath, no_address_path}

pub splits_or_lacks : (m : ℕ) (ts : List TokenValue) → ((before after : List TokenValue) × SplitsAt m ts before after) ⊎ (lacks_special m ts ≡ true)
splits_or_lacks m [] = inr refl
splits_or_lacks m (t ∷ ts) = elim (cases_Bool (is_special_of m t)) [
  | inl is ↦ inl ([], ts, record { at = t; whole = refl; is_at = is; first = refl })
  | inr other ↦ elim (splits_or_lacks m ts) [
    | inl s ↦ inl (t ∷ s.0, s.1, record { at = s.2.at; whole = ap (λ r. t ∷ r) s.2.whole; is_at = s.2.is_at; first = and_from (not (is_special_of m t)) (lacks_special m s.0) (ap not other) s.2.first })
    | inr l ↦ inr (and_from (not (is_special_of m t)) (lacks_special m ts) (ap not other) l)
  ]
]

-- ---- addresses

-- some value is right, or none
abbrev pub Found : {V : Type 0} → (V → Type 0) → Type 0
Found {V = V} P = ((v : V) × P v) ⊎ ((v : V) → ¬ P v)

pub decide_address : (ts : List TokenValue) → Found (IsAddress ts)
decide_address ts = elim (splits_or_lacks 64 ts) [
  | inr l ↦ inr (λ a is. address_missing ts a l is)
  | inl s ↦ elim (cases_Bool (are_dotted (is_part true) (words_of s.0))) [
    | inr other ↦ inr (λ a is. both_ways (are_dotted (is_part true) (words_of s.0)) other (address_parts ts s.0 s.1 a s.2 is).0)
    | inl local ↦ elim (cases_Bool (is_domain s.1)) [
      | inr other ↦ inr (λ a is. both_ways (is_domain s.1) other (address_parts ts s.0 s.1 a s.2 is).1)
      | inl domain ↦
          let a : Address = record { local = contents s.0; domain = contents s.1 } in
          inl (a, address_made ts s.0 s.1 a s.2 local domain refl refl)
    ]
  ]
]

-- ---- paths

known : (ts before inner : List TokenValue) (answer : Option Address) → IsFirstAngled ts before inner → IsPath ts answer → KnownPath before inner answer
known ts before inner answer first is =
    let same = angles_once ts before is.before inner is.inner first (path_angles ts answer is) in
    record { nothing_before = rw (same.before) is.nothing_before; holds = rw (same.inner) is.holds }

path_made : (ts before inner : List TokenValue) (answer : Option Address) → IsFirstAngled ts before inner → are_blank before ≡ true → IsPathOf inner answer → IsPath ts answer
path_made ts before inner answer first blank holds = record { before = before; inner = inner; angled = first.angled; nothing_before = blank; holds = holds }

decide_angled : (ts before inner : List TokenValue) → IsFirstAngled ts before inner → Found (IsPath ts)
decide_angled ts before inner first = elim (cases_Bool (are_blank before)) [
  | inr other ↦ inr (λ answer is. both_ways (are_blank before) other (known ts before inner answer first is).nothing_before)
  | inl nothing ↦ elim (cases_Bool (are_blank inner)) [
    | inl blank ↦ inl (None, path_made ts before inner None first nothing blank)
    | inr some ↦ elim (decide_address inner) [
      | inl a ↦ inl (Some a.0, path_made ts before inner (Some a.0) first nothing a.1)
      | inr none ↦ inr (λ answer is. no_address_path before inner answer some none (known ts before inner answer first is))
    ]
  ]
]

pub decide_is_path : (ts : List TokenValue) → Found (IsPath ts)
decide_is_path ts = elim (splits_or_lacks 60 ts) [
  | inr l ↦ inr (λ answer is. no_open ts is.before is.inner l (path_angles ts answer is))
  | inl s ↦ elim (splits_or_lacks 62 s.1) [
    | inr l ↦ inr (λ answer is. no_close ts s.0 s.1 is.before is.inner s.2 l (path_angles ts answer is))
    | inl c ↦ elim (cases_Bool (are_blank c.1)) [
      | inr other ↦ inr (λ answer is. something_after ts s.0 s.1 c.0 c.1 is.before is.inner s.2 c.2 other (path_angles ts answer is))
      | inl blank ↦ decide_angled ts s.0 c.0 (angled_made ts s.0 s.1 c.0 c.1 s.2 c.2 blank)
    ]
  ]
]

-- ---- texts

read_text : (text : List ℕ) → (answer : Option (Option Address)) × IsReading text answer
read_text text = elim (decide_tokens Mail text) [
  | inr none ↦ (None, λ answer has. none has.tokens has.has_tokens)
  | inl found ↦ elim (decide_is_path found.0) [
    | inr none ↦ (None, λ answer has. none answer (rw (HasTokenValues-once text found.0 has.tokens found.1 has.has_tokens) has.is_path))
    | inl is ↦ (Some is.0, record { tokens = found.0; has_tokens = found.1; is_path = is.1 })
  ]
]

-- A function that reads paths.
pub paths_read : (path_of : List ℕ → Option (Option Address)) × ReadsPaths path_of
paths_read = (λ text. (read_text text).0, λ text. (read_text text).1)
