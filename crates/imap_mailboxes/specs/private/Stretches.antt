-- Stretches of places of a folder.
use Rattle.std.specs.Prelude.{◌≤◌, ℕ, Bool, ◌&&◌, nat_le, nat_lt, List}
use Rattle.std.specs.List.{list_any, filter, range_with_len, All}
use Rattle.imap_mailboxes.specs.declared.sets.Stretch.{Stretch}

-- the place is among those of the stretch
abbrev pub is_inside : ℕ → Stretch → Bool
is_inside place stretch = nat_le stretch.from place && nat_lt place stretch.to

-- the place is in one of them
abbrev pub in_stretches : List Stretch → ℕ → Bool
in_stretches stretches place = list_any (is_inside place) stretches

-- no stretch goes past so many places
abbrev pub EndWithin : ℕ → List Stretch → Type 0
EndWithin count stretches = All (λ stretch. stretch.to ≤ count) stretches

-- these places, below so many, in ascending order
abbrev pub places_below : List Stretch → ℕ → List ℕ
places_below stretches count = filter (in_stretches stretches) (range_with_len 0 count)
