-- Flags of messages (RFC 3501, 2.3.2, 6.4.6, 7.4.2 and 9).
use Rattle.std.specs.Prelude.{ℕ, ◌/◌, ◌%◌, ◌==◌, Bool, not, ◌&&◌, ◌||◌, List, [], ◌∷◌, ◌++◌, codes, sum_by, if◌then◌else◌}
use Rattle.std.specs.List.{join_with_byte}
use Rattle.mail_wire.specs.Characters.{space, left_parenthesis, right_parenthesis}
use Rattle.imap_grammar.specs.declared.command.StoreOp.{StoreOp}
use Rattle.imap_grammar.specs.declared.command.StoreOp.TheVariants.{Replace, Add, Remove}

-- a sum of 1 Seen, 2 Answered, 4 Flagged, 8 Deleted and 16 Draft has this one
abbrev pub has_flag : (flags flag : ℕ) → Bool
has_flag flags flag = flags / flag % 2 == 1

-- The word of a flag, where the message has it.
abbrev pub flag_word : (flags flag : ℕ) → List ℕ → List (List ℕ)
flag_word flags flag word = if has_flag flags flag then word ∷ [] else []

-- The words of the flags that a message has (RFC 3501, 2.3.2).
abbrev pub flag_words : ℕ → List (List ℕ)
flag_words flags =
    flag_word flags 2 (codes "\\Answered") ++ (flag_word flags 4 (codes "\\Flagged") ++ (flag_word flags 8 (codes "\\Deleted")
    ++ (flag_word flags 1 (codes "\\Seen") ++ flag_word flags 16 (codes "\\Draft"))))

-- words with a space between any two
abbrev pub in_parentheses : List (List ℕ) → List ℕ
in_parentheses words = left_parenthesis ∷ (join_with_byte space words ++ right_parenthesis ∷ [])

-- "FLAGS" SP "(" [flag-fetch *(SP flag-fetch)] ")"
unfoldable pub flags_text : ℕ → List ℕ
flags_text flags = codes "FLAGS " ++ in_parentheses (flag_words flags)

-- the flags of which this holds
abbrev pub flags_by : (ℕ → Bool) → ℕ
flags_by has = sum_by (λ flag. if has flag then flag else 0) (1 ∷ 2 ∷ 4 ∷ 8 ∷ 16 ∷ [])

-- the flags of a message after STORE, which named some
unfoldable pub stored_flags : StoreOp → (old named : ℕ) → ℕ
stored_flags Replace old named = flags_by (has_flag named)
stored_flags Add old named = flags_by (λ flag. has_flag old flag || has_flag named flag)
stored_flags Remove old named = flags_by (λ flag. has_flag old flag && not (has_flag named flag))
