-- Languages with values, and how they are made of smaller ones (RFC 5234, 3). Each production of the grammar is one of these.
use Rattle.std.specs.Prelude.{◌≡◌, ℕ, ◌≤◌, List, [], ◌∷◌, ◌++◌, length, ◌⊎◌, Option, None, Some}

-- which octets are written for which value
abbrev pub Language : Type 0 → Type 1
Language V = List ℕ → V → Type 0

-- one word and then another, of a language that the value of the first one chooses
pub record Then {V W : Type 0} (P : List ℕ → V → Type 0) (Q : V → List ℕ → W → Type 0) (octets : List ℕ) (whole_value : W) : Type 0 where
  pub value : V
  pub front : List ℕ
  pub back : List ℕ
  pub whole : octets ≡ front ++ back
  pub first : P front value
  pub second : Q value back whole_value

-- one word, whatever its value, and then another
abbrev pub After : {V W : Type 0} → (List ℕ → V → Type 0) → (List ℕ → W → Type 0) → List ℕ → W → Type 0
After P Q = Then P (λ _. Q)

-- a word of the one or of the other
abbrev pub Or : {V : Type 0} → (List ℕ → V → Type 0) → (List ℕ → V → Type 0) → List ℕ → V → Type 0
Or P Q octets value = P octets value ⊎ Q octets value

-- nothing more: the value is this
abbrev pub Is : {V : Type 0} → V → List ℕ → V → Type 0
Is v octets value = (octets ≡ []) × (value ≡ v)

-- The one octet is this (RFC 5234, 2.3).
abbrev pub IsOctet : ℕ → List ℕ → ℕ → Type 0
IsOctet x octets value = (octets ≡ x ∷ []) × (value ≡ x)

-- an octet from one to another
pub record IsBetween (low high : ℕ) (octets : List ℕ) (value : ℕ) : Type 0 where
  pub is : octets ≡ value ∷ []
  pub from : low ≤ value
  pub to : value ≤ high

-- So many octets, whatever they are, as a literal has them (RFC 3501, 4.3).
abbrev pub IsCounted : ℕ → List ℕ → List ℕ → Type 0
IsCounted n octets value = (length octets ≡ n) × (value ≡ octets)

-- a word whose value is its octets
pub record SaysItself {V : Type 0} (P : List ℕ → V → Type 0) (octets value : List ℕ) : Type 0 where
  pub says : V
  pub is_word : P octets says
  pub same : value ≡ octets

-- a word or nothing (`[P]`)
abbrev pub Maybe : {V : Type 0} → (List ℕ → V → Type 0) → List ℕ → Option V → Type 0
Maybe P = Or (Is None) (Then P (λ v. Is (Some v)))

-- the octets can be completed to a word
pub record IsViable {V : Type 0} (P : List ℕ → V → Type 0) (front : List ℕ) : Type 0 where
  pub rest : List ℕ
  pub value : V
  pub is_word : P (front ++ rest) value

-- ---- lists

-- `*(separator P) end`
abbrev pub IsTail : {V W E : Type 0} → (List ℕ → W → Type 0) → (List ℕ → V → Type 0) → (List ℕ → E → Type 0) → List ℕ → List V → Type 0
IsTail {E} Separator P End octets [] = (e : E) × End octets e
IsTail {W} Separator P End octets (v ∷ vs) =
    (w : W) × (before front back : List ℕ) × (octets ≡ before ++ (front ++ back)) × Separator before w × P front v × IsTail Separator P End back vs

-- An element of a list, and then more of them.
abbrev pub IsMoreThan : {V W E : Type 0} → (List ℕ → W → Type 0) → (List ℕ → V → Type 0) → (List ℕ → E → Type 0) → List V → List ℕ → List V → Type 0
IsMoreThan {V} Separator P End begun octets values = (more : List V) × (values ≡ begun ++ more) × IsTail Separator P End octets more

-- `P *(separator P) end`
abbrev pub IsList : {V W E : Type 0} → (List ℕ → W → Type 0) → (List ℕ → V → Type 0) → (List ℕ → E → Type 0) → List ℕ → List V → Type 0
IsList Separator P End = Then P (λ first. IsMoreThan Separator P End (first ∷ []))
