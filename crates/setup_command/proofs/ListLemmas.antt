-- A list that is made of words one by one.
use Rattle.std.proofs.Common.{◌≡◌, ℕ, ◌≤◌, List, [], ◌∷◌, ◌++◌, length, map, take, suc, Some, sym, ap, ◌∙◌, arith, Bor, length-append}
use Rattle.std.specs.List.{slice_get, list_all}
use Rattle.std.specs.Prelude.{◌↔◌, IsTrue, Bool, true}
use Rattle.std.proofs.lemmas.List.Folds.{list_all-map}
use Rattle.setup_command.specs.PlainWords.{is_plain_word, IsCalled}
use Rattle.std.proofs.lemmas.List.{take_all, map-append}
use Rattle.std.proofs.lemmas.Option.{slice_get_within, get_or_from_slice_get}
use Rattle.std.proofs.Math.Seq.{take-suc}

-- the first words and the next one
next_first : (words : List (List ℕ)) (n : ℕ) (word : List ℕ) → slice_get words n ≡ Some word → take (suc n) words ≡ take n words ++ word ∷ []
next_first words n word at =
    take-suc words n word (slice_get_within words n word at) ∙ ap (λ w. take n words ++ w ∷ []) (get_or_from_slice_get words n word word at)

pub next_length : (list next : List (Bor (List ℕ))) (word : Bor (List ℕ)) → next ≡ list ++ word ∷ [] → length next ≡ suc (length list)
next_length list next word is = let len = ap length is in omega (arith, len, length-append list (word ∷ []))

pub next_words : (list next : List (Bor (List ℕ))) (words : List (List ℕ)) (word : Bor (List ℕ)) → map (λ s. s.now) list ≡ take (length list) words
    → slice_get words (length list) ≡ Some word.now → next ≡ list ++ word ∷ [] → map (λ s. s.now) next ≡ take (length next) words
next_words list next words word same at is =
    ap (map (λ s. s.now)) is ∙ map-append (λ s. s.now) list (word ∷ []) ∙ ap (λ l. l ++ word.now ∷ []) same ∙ sym (next_first words (length list) word.now at)
    ∙ ap (λ n. take n words) (sym (next_length list next word is))

pub all_words : (list : List (Bor (List ℕ))) (words : List (List ℕ)) → map (λ s. s.now) list ≡ take (length list) words → length words ≤ length list → map (λ s. s.now) list ≡ words
all_words list words same all = same ∙ take_all (length list) words all

-- ---- words that are called so

true_is : (plain : Bool) → IsTrue plain → plain ≡ true
true_is plain is = is

all_plain : (rest : List (Bor (List ℕ))) → list_all is_plain_word (map (λ s. s.now) rest) ≡ list_all (λ (s : Bor (List ℕ)). is_plain_word s.now) rest
all_plain rest = list_all-map is_plain_word (λ (s : Bor (List ℕ)). s.now) rest

-- the words after one list's name are those after the other's
pub following : (name other : List ℕ) (a b : List (List ℕ)) → name ∷ a ≡ other ∷ b → a ≡ b
following name other a b same = cc

pub called_by : (name : List ℕ) (words rest : List (Bor (List ℕ))) (first : Bor (List ℕ)) (plain : Bool) → words ≡ first ∷ rest → first.now ≡ name
    → plain ≡ list_all (λ (s : Bor (List ℕ)). is_plain_word s.now) rest → IsTrue plain ↔ IsCalled name (map (λ s. s.now) words)
called_by name words rest first plain words_are is plain_is =
    let spelled : map (λ s. s.now) words ≡ name ∷ map (λ s. s.now) rest = ap (map (λ s. s.now)) words_are ∙ ap (λ w. w ∷ map (λ s. s.now) rest) is in (
      λ true_of. record { rest = map (λ s. s.now) rest; words_are = spelled; plain = all_plain rest ∙ sym plain_is ∙ true_is plain true_of },
      λ called.
          let rest_is : called.rest ≡ map (λ s. s.now) rest = following name name called.rest (map (λ s. s.now) rest) (sym called.words_are ∙ spelled) in
          plain_is ∙ sym (all_plain rest) ∙ ap (list_all is_plain_word) (sym rest_is) ∙ called.plain,
    )
