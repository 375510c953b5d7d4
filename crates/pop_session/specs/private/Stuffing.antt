-- Stuffing (RFC 1939, 3) an octet at a time, for the functions that give a message in pieces.
use Rattle.std.specs.Prelude.{◌≡◌, ℕ, ◌+◌, ◌++◌, ◌==◌, ◌&&◌, List, [], ◌∷◌, Bool, true, false, fold, slice_index, if◌then◌else◌}
use Rattle.pop_session.specs.declared.stuffing.Place.{Place}
use Rattle.pop_session.specs.declared.stuffing.Place.TheVariants.{LineStart, AfterCr, Within}

abbrev pub is_start : Place → Bool
is_start LineStart = true
is_start AfterCr = false
is_start Within = false

abbrev pub is_after_cr : Place → Bool
is_after_cr LineStart = false
is_after_cr AfterCr = true
is_after_cr Within = false

-- a dot that begins a line
abbrev pub needs_dot : Place → ℕ → Bool
needs_dot place x = is_start place && x == 46

-- the place after an octet
abbrev pub next_place : Place → ℕ → Place
next_place place x = if x == 13 then AfterCr else (if is_after_cr place && x == 10 then LineStart else Within)

abbrev pub place_after : Place → List ℕ → Place
place_after place octets = fold next_place place octets

abbrev pub stuffed_octet : Place → ℕ → List ℕ
stuffed_octet place x = if needs_dot place x then 46 ∷ x ∷ [] else x ∷ []

-- octets from a place on
abbrev pub stuffed_from : Place → List ℕ → List ℕ
stuffed_from place [] = []
stuffed_from place (x ∷ rest) = stuffed_octet place x ++ stuffed_from (next_place place x) rest

-- a dot is put before the first of these octets, which stand from a place on
abbrev pub begins_with_dot : Place → List ℕ → Bool
begins_with_dot place [] = false
begins_with_dot place (x ∷ rest) = needs_dot place x

abbrev pub dot_before : Place → List ℕ → List ℕ
dot_before place octets = if begins_with_dot place octets then 46 ∷ [] else []

-- no dot follows an LF
abbrev pub HasNoLfDot : List ℕ → Type 0
HasNoLfDot octets = (at : ℕ) → slice_index octets at ≡ 10 → slice_index octets (at + 1) ≡ 46 → ⊥
