-- The names of parameters (RFC 2231, 3, 4 and 7): `a`, `a*`, `a*0` and `a*0*`.
use Rattle.std.specs.Prelude.{◌≡◌, ℕ, ◌<◌, ◌≤◌, ◌==◌, Bool, true, false, List, [], ◌∷◌, ◌++◌, length, Option, Some, None, IfSome}
use Rattle.std.specs.Option.{option_copied}
use Rattle.std.specs.List.{list_all}
use Rattle.mail_wire.specs.Characters.{asterisk, digit_zero}
use Rattle.mail_wire.specs.Numbers.{is_digit}
use Rattle.mail_wire.specs.Octets.{is_ascii}
use Rattle.encoded_words.specs.private.Parts.{lacks}
use Rattle.param_grammar.specs.declared.names.Name.{Name}

-- a zero stands before other digits
abbrev pub leads_with_zero : List ℕ → Bool
leads_with_zero [] = false
leads_with_zero (x ∷ []) = false
leads_with_zero (x ∷ y ∷ more) = x == digit_zero

-- the digits of a piece's number
pub record IsNumber (digits : List ℕ) : Type 0 where
  pub some : 0 < length digits
  pub decimal : list_all is_digit digits ≡ true
  pub shortest : leads_with_zero digits ≡ false

-- what a parameter is called, the digits of its piece's number where it is a piece, and whether its value is extended
pub record NameParts : Type 0 where
  pub base : List ℕ
  pub number : Option (List ℕ)
  pub is_extended : Bool

-- A star and the digits of a piece's number, where it has one (RFC 2231, 3).
abbrev pub number_suffix : Option (List ℕ) → List ℕ
number_suffix None = []
number_suffix (Some digits) = asterisk ∷ digits

-- The star after the name of an extended value (RFC 2231, 4).
abbrev pub star_suffix : Bool → List ℕ
star_suffix false = []
star_suffix true = asterisk ∷ []

-- A parameter's name as it is written: `a`, `a*`, `a*0` or `a*0*` (RFC 2231, 7).
abbrev pub name_of : NameParts → List ℕ
name_of p = p.base ++ (number_suffix p.number ++ star_suffix p.is_extended)

-- one to 60 octets of ASCII
pub record IsBase (octets : List ℕ) : Type 0 where
  pub some : 0 < length octets
  pub most : length octets ≤ 60
  pub ascii : list_all is_ascii octets ≡ true

-- the name has these parts
pub record HasNameParts (name : List ℕ) (p : NameParts) : Type 0 where
  pub spelled : name ≡ name_of p
  pub base : IsBase p.base
  pub first : lacks asterisk p.base ≡ true
  pub number : IfSome p.number IsNumber

-- What stands after the first star of a name: nothing, or a number, with a star where the value is extended.
abbrev pub HasSuffix : List ℕ → Option (List ℕ) → Bool → Type 0
HasSuffix suffix None is_extended = (suffix ≡ []) × (is_extended ≡ true)
HasSuffix suffix (Some digits) is_extended = (suffix ≡ digits ++ star_suffix is_extended) × IsNumber digits

-- what stands after a base: nothing, or the first star and what stands after that
abbrev pub HasAfter : Option (List ℕ) → Option (List ℕ) → Bool → Type 0
HasAfter None number is_extended = (number ≡ None) × (is_extended ≡ false)
HasAfter (Some suffix) number is_extended = HasSuffix suffix number is_extended

-- The parts of a name.
abbrev pub parts_value : Name → NameParts
parts_value p = record { base = p.base.now; number = option_copied p.number; is_extended = p.is_extended }
