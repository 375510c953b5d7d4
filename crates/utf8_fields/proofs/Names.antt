-- The name of a field.
use Rattle.std.proofs.Common.{◌≡◌, ℕ, ◌<◌, List, [], ◌∷◌, ◌++◌, length, take, Bool, true, false, not, arith, refl, sym, ap, ◌∙◌, length-append}
use Rattle.std.specs.List.{list_all}
use Rattle.std.proofs.lemmas.Bool.{and_parts}
use Rattle.std.proofs.lemmas.Bool.Decides.{nat_tests}
use Rattle.std.proofs.lemmas.List.{take_at, length-take, length-take-le}
use Rattle.mail_wire.specs.Octets.{is_white, is_field_name_octet}
use Rattle.mail_wire.specs.Spans.{Stops, IsSpan}
use Rattle.mail_wire.proofs.SpanLemmas.{Opposite, span_once}
use Rattle.utf8_fields.specs.Lines.{BeginsField, BeginsWhite}
use Rattle.utf8_fields.specs.private.Steps.{BeginsColon}

pub not_not : (b : Bool) → b ≡ not (not b)
not_not true = refl
not_not false = refl

pub name_opposite : Opposite is_field_name_octet (λ x. not (is_field_name_octet x))
name_opposite x = not_not (is_field_name_octet x)

-- white is no octet of a name
pub white_not_name : (x : ℕ) → is_white x ≡ true → is_field_name_octet x ≡ false
white_not_name x white = grind (arith, nat_tests)

-- a name stops before white and a colon
pub after_name : (white rest : List ℕ) → list_all is_white white ≡ true → Stops is_field_name_octet (white ++ 58 ∷ rest)
after_name [] rest h = refl
after_name (x ∷ white) rest h = white_not_name x (and_parts (is_white x) (list_all is_white white) h).0

-- what the fronts of a line are that begins a field
pub record HasFronts (name after name' rest' : List ℕ) : Type 0 where
  pub name_is : name ≡ name'
  pub after_is : after ≡ 58 ∷ rest'

pub fronts_once : (line name rest white after name' white' rest' : List ℕ) → IsSpan is_field_name_octet line name rest → IsSpan is_white rest white after
    → list_all is_field_name_octet name' ≡ true → list_all is_white white' ≡ true → line ≡ name' ++ (white' ++ 58 ∷ rest') → HasFronts name after name' rest'
fronts_once line name rest white after name' white' rest' names whites is_name is_white' is =
    let first = span_once is_field_name_octet name name' rest (white' ++ 58 ∷ rest') names.passes is_name names.stops (after_name white' rest' is_white') (sym names.whole ∙ is) in
    let second = span_once is_white white white' after (58 ∷ rest') whites.passes is_white' whites.stops refl (sym whites.whole ∙ first.1) in
    record { name_is = first.0; after_is = second.1 }

-- all that the code tests
pub name_stands : (line name rest white after : List ℕ) → IsSpan is_field_name_octet line name rest → IsSpan is_white rest white after → 0 < length name → BeginsColon after
    → BeginsField (take (length name) line) line
name_stands line name rest white [] names whites some colon = absurd colon
name_stands line name rest white (x ∷ after) names whites some colon =
    let is : line ≡ name ++ (white ++ 58 ∷ after) = names.whole ∙ ap (λ t. name ++ t) (whites.whole ∙ ap (λ y. white ++ y ∷ after) colon) in
    let front : take (length name) line ≡ name = rw is (take_at name (white ++ 58 ∷ after) (length name) refl) in
    rw front (record { some = some; octets = names.passes; colon = (white, after, whites.passes, is) })

-- a line that begins a field passes the tests
pub name_passes : (line name rest white after : List ℕ) → IsSpan is_field_name_octet line name rest → IsSpan is_white rest white after → (other : List ℕ) → BeginsField other line
    → (0 < length name) × BeginsColon after
name_passes line name rest white after names whites other begins =
    let fronts = fronts_once line name rest white after other begins.colon.0 begins.colon.1 names whites begins.octets begins.colon.2 begins.colon.3 in
    (rw fronts.name_is begins.some, rw fronts.after_is refl)

-- the name of a line has one length
pub name_below : (n : ℕ) (line : List ℕ) → BeginsField (take n line) line → n < length line
name_below n line begins =
    let is = ap length begins.colon.3 in
    omega (arith, length-take n line, length-append (take n line) (begins.colon.0 ++ 58 ∷ begins.colon.1), length-append begins.colon.0 (58 ∷ begins.colon.1))

pub name_once : (name other line : List ℕ) → BeginsField name line → BeginsField other line → name ≡ other
name_once name other line a b =
    (span_once is_field_name_octet name other (a.colon.0 ++ 58 ∷ a.colon.1) (b.colon.0 ++ 58 ∷ b.colon.1) a.octets b.octets
    (after_name a.colon.0 a.colon.1 a.colon.2) (after_name b.colon.0 b.colon.1 b.colon.2) (sym a.colon.3 ∙ b.colon.3)).0

pub one_name : (n m : ℕ) (line : List ℕ) → BeginsField (take n line) line → BeginsField (take m line) line → n ≡ m
one_name n m line first second =
    let same = ap length (name_once (take n line) (take m line) line first second) in
    let below_n = name_below n line first in
    let below_m = name_below m line second in
    omega (arith, length-take-le n line (omega arith), length-take-le m line (omega arith))

-- a line that begins a field doesn't go on with one
pub field_not_white : (name line : List ℕ) → BeginsField name line → BeginsWhite line → ⊥
field_not_white [] line begins white = let some = begins.some in absurd (omega arith)
field_not_white (x ∷ name) [] begins white = absurd white
field_not_white (x ∷ name) (y ∷ rest) begins white =
    let is = begins.colon.3 in
    let same : y ≡ x = cc in
    let octet = (and_parts (is_field_name_octet x) (list_all is_field_name_octet name) begins.octets).0 in
    let other = white_not_name y white in cc
