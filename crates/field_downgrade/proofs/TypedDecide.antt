-- Of each value it is decided whether it says a type and an address.
use Rattle.std.proofs.Common.{◌≡◌, ℕ, ◌<◌, ◌≤◌, Bool, true, false, ◌⊎◌, inl, inr, List, [], ◌∷◌, length, refl, ap, arith}
use Rattle.std.proofs.lemmas.Bool.{and_from, both_ways, cases_Bool, cases_lt}
use Rattle.std.specs.List.{list_all}
use Rattle.std.specs.Str.{bytes_eq, str_to_ascii_lowercase}
use Rattle.mail_wire.specs.Octets.{is_white}
use Rattle.utf8_fields.proofs.OneValue.{IsTrimmed-once}
use Rattle.field_downgrade.specs.Typed.{is_no_semicolon, is_type_octet, utf8_type, CutsType, WritesType, IsTyped, WrittenSays, SaysTyped}
use Rattle.utf8_fields.proofs.TrimLemmas.{trimmed}
use Rattle.field_downgrade.proofs.TypedReads.{decide_reads}
use Rattle.field_downgrade.proofs.TypedLemmas.{cuts_once, not-IsTyped-cut, IsTyped-once, is_semicolon}

-- a value has a first `;`, or none
decide_cut : (value : List ℕ) → ((front : List ℕ) × (following : List ℕ) × CutsType value front following) ⊎ (list_all is_no_semicolon value ≡ true)
decide_cut [] = inr refl
decide_cut (x ∷ xs) = elim (cases_Bool (is_no_semicolon x)) [
  | inr is ↦ inl ([], xs, record { whole = ap (λ y. y ∷ xs) (is_semicolon x is); first = refl })
  | inl other ↦ elim (decide_cut xs) [
    | inr none ↦ inr (and_from (is_no_semicolon x) (list_all is_no_semicolon xs) other none)
    | inl found ↦
        let cuts = found.2 in
        inl (x ∷ found.0, found.1, record { whole = ap (λ ys. x ∷ ys) cuts.whole; first = and_from (is_no_semicolon x) (list_all is_no_semicolon found.0) other cuts.first })
  ]
]

-- octets write a type, or none
decide_type : (octets : List ℕ) → ((type : List ℕ) × WritesType octets type) ⊎ ((type : List ℕ) → ¬ WritesType octets type)
decide_type octets =
    let atom = trimmed is_white octets in
    elim (cases_lt 0 (length atom.0)) [
      | inr none ↦ inr (λ type writes. by_length atom.0 writes.atom none (IsTrimmed-once is_white octets atom.0 writes.atom atom.1 writes.atom_is) writes.some)
      | inl some ↦ elim (cases_Bool (list_all is_type_octet atom.0)) [
        | inl are ↦ inl (str_to_ascii_lowercase atom.0, record { atom = atom.0; atom_is = atom.1; some = some; are = are; lower = refl })
        | inr fails ↦
            inr (λ type writes. both_ways (list_all is_type_octet atom.0) fails (rw (IsTrimmed-once is_white octets atom.0 writes.atom atom.1 writes.atom_is) writes.are))
      ]
    ]
  where
    by_length : (atom other : List ℕ) → length atom ≤ 0 → atom ≡ other → 0 < length other → ⊥
    by_length atom other none same some = omega (arith, none, some, ap length same)

-- a value is typed, or isn't
decide_is_typed : (value : List ℕ) → ((type : List ℕ) × (written : List ℕ) × IsTyped value type written) ⊎ ((type written : List ℕ) → ¬ IsTyped value type written)
decide_is_typed value = elim (decide_cut value) [
  | inr none ↦ inr (not-IsTyped-cut value none)
  | inl cut ↦ elim (decide_type cut.0) [
    | inl found ↦
        let written = trimmed is_white cut.1 in
        inl (found.0, written.0, record { front = cut.0; following = cut.1; cuts = cut.2; type_is = found.1; written_is = written.1 })
    | inr none ↦ inr (λ type written is. none type (rw ((cuts_once value cut.0 cut.1 is.front is.following cut.2 is.cuts).0) is.type_is))
  ]
]

-- what is written says an address, or none
decide_says : (b : Bool) (written : List ℕ) → ((text : List ℕ) × WrittenSays b written text) ⊎ ((text : List ℕ) → ¬ WrittenSays b written text)
decide_says true written = decide_reads written
decide_says false written = inl (written, refl)

pub decide_typed : (value : List ℕ) → ((type : List ℕ) × (text : List ℕ) × SaysTyped value type text) ⊎ ((type text : List ℕ) → ¬ SaysTyped value type text)
decide_typed value = elim (decide_is_typed value) [
  | inr none ↦ inr (λ type text says. none type says.written says.is_typed)
  | inl typed ↦ elim (decide_says (bytes_eq typed.0 utf8_type) typed.1) [
    | inl found ↦ inl (typed.0, found.0, record { written = typed.1; is_typed = typed.2; says = found.1 })
    | inr none ↦ inr (λ type text says. other_says typed.0 typed.1 typed.2 none type text says)
  ]
]
  where
    other_says : (found written : List ℕ) → IsTyped value found written → ((text : List ℕ) → ¬ WrittenSays (bytes_eq found utf8_type) written text) → (type text : List ℕ) → SaysTyped value type text → ⊥
    other_says found written is none type text says =
        let once = IsTyped-once value found type written says.written is says.is_typed in
        none text (rw (once.0, once.1) says.says)
