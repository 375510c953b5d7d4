-- What stands before the date of a message's record, and before the octets of a waiting message. Words of the private writers.
use Rattle.std.specs.Prelude.{ℕ, List, [], ◌∷◌, ◌++◌, length, Option, Some, None}
use Rattle.std.specs.List.{flat_map}
use Rattle.std.specs.Option.{option_to_list}
use Rattle.journal_records.specs.Spelling.{number, octet_list}

-- the kind of a message, its folder, its flags and its mark
abbrev pub message_head : ℕ → ℕ → Option ℕ → List ℕ
message_head folder flags None = 4 ∷ (number folder ++ flags ∷ [])
message_head folder flags (Some mark) = 9 ∷ (number folder ++ flags ∷ mark ∷ [])

-- the kind of a waiting message
abbrev pub queue_kind : Option ℕ → ℕ
queue_kind None = 7
queue_kind (Some mark) = 10

-- what stands before the length of its octets
abbrev pub queue_head : List ℕ → List (List ℕ) → Option ℕ → List ℕ
queue_head path addresses mark =
    queue_kind mark ∷ (octet_list path ++ (number (length addresses) ++ (flat_map octet_list addresses ++ option_to_list mark)))
