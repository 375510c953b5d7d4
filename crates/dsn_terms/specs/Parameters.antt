-- Parameters of MAIL and RCPT: a keyword in any case, `=` and a value (RFC 5321, 4.1.1.11 and 4.1.2).
use Rattle.std.specs.Prelude.{ℕ, Bool, ◌&&◌, ◌||◌, nat_le, if◌then◌else◌, List, [], ◌∷◌, length, take, drop, count_by, Option, None, Some, is_some}
use Rattle.std.specs.List.{list_all}
use Rattle.mail_wire.specs.Octets.{same_name}

-- what follows a front, which may be in any case of its letters, where the text begins with it
unfoldable pub behind : List ℕ → List ℕ → Option (List ℕ)
behind front text = if same_name (take (length front) text) front then Some (drop (length front) text) else None

-- The text begins with this front, in any case of its letters.
abbrev pub begins : List ℕ → List ℕ → Bool
begins front text = is_some (behind front text)

-- Each word begins with one of two keywords and its `=`, and no keyword is there twice (RFC 5321, 4.1.1.11).
abbrev pub are_parameters : List ℕ → List ℕ → List (List ℕ) → Bool
are_parameters first second words =
    list_all (λ word. begins first word || begins second word) words
    && (nat_le (count_by (begins first) words) 1 && nat_le (count_by (begins second) words) 1)

-- The value of the first word that begins with this keyword and its `=`.
unfoldable pub value_under : List ℕ → List (List ℕ) → Option (List ℕ)
value_under keyword [] = None
value_under keyword (word ∷ words) = if begins keyword word then behind keyword word else value_under keyword words
