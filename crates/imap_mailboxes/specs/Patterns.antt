-- The patterns of LIST (RFC 3501, 6.3.8).
use Rattle.std.specs.Prelude.{ℕ, Bool, true, false, ◌&&◌, ◌||◌, ◌==◌, List, [], ◌∷◌, if◌then◌else◌}
use Rattle.imap_words.specs.Tokens.{is_list_wildcard}

-- The test holds of these octets, or of what is left of them after some first ones.
abbrev pub some_tail : (List ℕ → Bool) → List ℕ → Bool
some_tail p [] = p []
some_tail p (x ∷ xs) = p (x ∷ xs) || some_tail p xs

-- There is no hierarchy, so `*` and `%` each match any octets, and none, too. Every other octet matches itself.
unfoldable pub is_match : (pattern name : List ℕ) → Bool
is_match [] [] = true
is_match [] (y ∷ name) = false
is_match (x ∷ pattern) [] = is_list_wildcard x && is_match pattern []
is_match (x ∷ pattern) (y ∷ name) =
    if is_list_wildcard x then some_tail (is_match pattern) (y ∷ name) else x == y && is_match pattern name
