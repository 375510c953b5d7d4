-- Where a path ends.
use Rattle.std.proofs.Common.{◌≡◌, ℕ, ◌+◌, ◌<◌, ◌≤◌, List, [], ◌∷◌, length, drop, get_or, true, false, Some, None, Option, arith, refl, sym, ap, ◌∙◌}
use Rattle.std.specs.Prelude.{map, take, nat_eq}
use Rattle.std.specs.Option.{option_map}
use Rattle.std.specs.Cmp.Lexicographic.{unequal}
use Rattle.std.specs.Char.{to_ascii_lowercase}
use Rattle.std.proofs.lemmas.List.{at_drop_more, at_drop_all, length-map, length-take}
use Rattle.mail_wire.specs.Octets.{same_name}
use Rattle.smtp_grammar.specs.declared.command.Place.{Place}
use Rattle.smtp_grammar.specs.Commands.{path_len, stands_plain, path_place_after, after_word}

-- more octets before a length
map-map : (n : ℕ) (o : Option ℕ) → option_map (λ m. m + n) (option_map (λ m. m + 1) o) ≡ option_map (λ m. m + (n + 1)) o
map-map n None = refl
map-map n (Some m) = ap Some (omega arith)

len-ends : (n : ℕ) (place : Place) (x : ℕ) (rest : List ℕ) → stands_plain 62 place x ≡ true → option_map (λ m. m + n) (path_len place (x ∷ rest)) ≡ Some (n + 1)
unfolding path_len
len-ends n place x rest ends = rw ends (ap Some (omega arith))

len-comment : (n : ℕ) (place : Place) (x : ℕ) (rest : List ℕ) → stands_plain 62 place x ≡ false → stands_plain 40 place x ≡ true → option_map (λ m. m + n) (path_len place (x ∷ rest)) ≡ None
unfolding path_len
len-comment n place x rest goes begins = rw (goes, begins) refl

len-next : (n : ℕ) (place : Place) (x : ℕ) (rest : List ℕ) → stands_plain 62 place x ≡ false → stands_plain 40 place x ≡ false
    → option_map (λ m. m + n) (path_len place (x ∷ rest)) ≡ option_map (λ m. m + (n + 1)) (path_len (path_place_after place x) rest)
unfolding path_len
len-next n place x rest goes plain = rw (goes, plain) (map-map n (path_len (path_place_after place x) rest))

len-nil : (n : ℕ) (place : Place) → option_map (λ m. m + n) (path_len place []) ≡ None
unfolding path_len
len-nil n place = refl

-- the path ends with this octet
pub turn-ends : (whole : Option ℕ) (n at : ℕ) (place : Place) (text : List ℕ) → whole ≡ option_map (λ m. m + n) (path_len place (drop at text)) → at < length text
    → stands_plain 62 place (get_or text at 0) ≡ true → Some (n + 1) ≡ whole
turn-ends whole n at place text so_far here ends =
    sym (so_far ∙ at_drop_more (λ (rest : List ℕ). option_map (λ m. m + n) (path_len place rest)) text at 0 here ∙ len-ends n place (get_or text at 0) (drop (at + 1) text) ends)

-- a comment begins with this octet
pub turn-comment : (whole : Option ℕ) (n at : ℕ) (place : Place) (text : List ℕ) → whole ≡ option_map (λ m. m + n) (path_len place (drop at text)) → at < length text
    → stands_plain 62 place (get_or text at 0) ≡ false → stands_plain 40 place (get_or text at 0) ≡ true → None ≡ whole
turn-comment whole n at place text so_far here goes begins =
    sym (so_far ∙ at_drop_more (λ (rest : List ℕ). option_map (λ m. m + n) (path_len place rest)) text at 0 here ∙ len-comment n place (get_or text at 0) (drop (at + 1) text) goes begins)

-- the path goes on after this octet
pub turn-next : (whole : Option ℕ) (n at : ℕ) (place : Place) (text : List ℕ) → whole ≡ option_map (λ m. m + n) (path_len place (drop at text)) → at < length text
    → stands_plain 62 place (get_or text at 0) ≡ false → stands_plain 40 place (get_or text at 0) ≡ false
    → whole ≡ option_map (λ m. m + (n + 1)) (path_len (path_place_after place (get_or text at 0)) (drop (at + 1) text))
turn-next whole n at place text so_far here goes plain =
    so_far ∙ at_drop_more (λ (rest : List ℕ). option_map (λ m. m + n) (path_len place rest)) text at 0 here ∙ len-next n place (get_or text at 0) (drop (at + 1) text) goes plain

-- the text ends before the path does
pub turn-none : (whole : Option ℕ) (n at : ℕ) (place : Place) (text : List ℕ) → whole ≡ option_map (λ m. m + n) (path_len place (drop at text)) → length text ≤ at → None ≡ whole
turn-none whole n at place text so_far all =
    sym (so_far ∙ at_drop_all (λ (rest : List ℕ). option_map (λ m. m + n) (path_len place rest)) text at all ∙ len-nil n place)

-- a text that is shorter than a word doesn't begin with it
pub after_word-short : (word text : List ℕ) → length text < length word → None ≡ after_word word text
unfolding same_name
after_word-short word text short =
    rw (unequal nat_eq (map to_ascii_lowercase (take (length word) text)) (map to_ascii_lowercase word) (λ same. omega (arith, simp length-map at same, length-take (length word) text))) refl
