-- Which messages of a folder a set names (RFC 3501, 2.3.1, 6.4.8 and 9).
use Rattle.std.specs.Prelude.{ℕ, ◌+◌, Bool, true, false, ◌&&◌, ◌||◌, nat_le, nat_lt, List, [], ◌∷◌, Option, None, Some, length, if◌then◌else◌}
use Rattle.std.specs.List.{list_any}
use Rattle.kept_mail.specs.declared.kept.Listed.{Listed}
use Rattle.imap_grammar.specs.declared.command.Set.{Set}

-- a number of a set; `*` is the last one
abbrev pub end_of : (last : ℕ) → Option ℕ → ℕ
end_of last None = last
end_of last (Some n) = n

-- the number stands between both ends of the range, whichever is the first
abbrev pub is_within : (last n : ℕ) → Option ℕ × Option ℕ → Bool
is_within last n range =
    let a = end_of last range.0 in let b = end_of last range.1 in (nat_le a n && nat_le n b) || (nat_le b n && nat_le n a)

-- The set names this number; `*` is the last one (RFC 3501, 9, sequence-set).
abbrev pub is_in_set : (last : ℕ) → Set → ℕ → Bool
is_in_set last set n = list_any (is_within last n) set.ranges

-- the set names a number that is past the last one
abbrev pub passes_last : (last : ℕ) → Set → Bool
passes_last last set = list_any (λ range. nat_lt last (end_of last range.0) || nat_lt last (end_of last range.1)) set.ranges

-- the UID of the last message, and 0 where there is none
abbrev pub last_uid : List Listed → ℕ
last_uid [] = 0
last_uid (one ∷ []) = one.uid
last_uid (one ∷ next ∷ others) = last_uid (next ∷ others)

-- what `*` stands for in a folder: the number or the UID of its last message
abbrev pub last_of : (by_uid : Bool) → List Listed → ℕ
last_of false messages = length messages
last_of true messages = last_uid messages

-- what a set calls the message at a place, from 0 on: its number, from 1 on, or its UID
abbrev pub called : (by_uid : Bool) → (place : ℕ) → Listed → ℕ
called false place one = place + 1
called true place one = one.uid

-- the places of the messages that the set names, where the first message stands at this place
abbrev pub chosen_from : (by_uid : Bool) → (last : ℕ) → Set → (place : ℕ) → List Listed → List ℕ
chosen_from by_uid last set place [] = []
chosen_from by_uid last set place (one ∷ others) =
    if is_in_set last set (called by_uid place one)
    then place ∷ chosen_from by_uid last set (place + 1) others
    else chosen_from by_uid last set (place + 1) others

-- the places, from 0 on, of the messages of a folder that the set names by numbers, or by UIDs, in the order of the folder
unfoldable pub chosen_places : (by_uid : Bool) → Set → List Listed → List ℕ
chosen_places by_uid set messages = chosen_from by_uid (last_of by_uid messages) set 0 messages

-- A UID that isn't there is passed over; a number that isn't there is refused.
abbrev pub is_refused : (by_uid : Bool) → Set → List Listed → Bool
is_refused false set messages = passes_last (length messages) set
is_refused true set messages = false
