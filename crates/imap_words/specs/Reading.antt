-- What a reader of a language finds at the head of a text. It is exact: an octet is refused exactly where no word, whatever
-- follows it, has the octets so far as a front.
use Rattle.std.specs.Prelude.{◌≡◌, ℕ, Bool, true, false, List, [], ◌∷◌, ◌++◌, length, ◌⊎◌, ⊤}
use Rattle.imap_words.specs.Languages.{IsViable}
use Rattle.imap_words.specs.declared.stop.Stop.{Stop}
use Rattle.imap_words.specs.declared.stop.Stop.TheVariants.{More, Bad, Memory}

-- the list begins with an octet that passes
abbrev pub BeginsIn : (ℕ → Bool) → List ℕ → Type 0
BeginsIn p [] = ⊥
BeginsIn p (x ∷ xs) = p x ≡ true

-- No octet goes on after any word.
abbrev pub never : {V : Type 0} → V → ℕ → Bool
never value x = false

-- The same octets go on after each word.
abbrev pub always : {V : Type 0} → (ℕ → Bool) → V → ℕ → Bool
always p value = p

-- the octets begin as rest does, where it has an octet
abbrev pub BeginsAlike : List ℕ → List ℕ → Type 0
BeginsAlike [] more = ⊤
BeginsAlike (x ∷ xs) [] = ⊥
BeginsAlike (x ∷ xs) (y ∷ ys) = x ≡ y

-- The text begins with this word, and rest follows. However the text goes on after the first octet of the rest, a word that
-- it begins with is this one, or it is shorter and an octet follows it that may go on after its value.
pub record Reads {V : Type 0} (P : List ℕ → V → Type 0) (later : V → ℕ → Bool) (text : List ℕ) (value : V) (rest : List ℕ) : Type 0 where
  pub word : List ℕ
  pub whole : text ≡ word ++ rest
  pub is_word : P word value
  pub only : (more a b : List ℕ) (v : V) → P a v → BeginsAlike rest more → a ++ b ≡ word ++ more → ((a ≡ word) × (v ≡ value)) ⊎ BeginsIn (later v) b

-- Up to an octet the text can be completed to a word. Whatever begins with that octet too begins with no word, but one that is
-- shorter and after which an octet follows that may go on after its value. So many octets of the text are left there.
pub record FailsAt {V : Type 0} (P : List ℕ → V → Type 0) (later : V → ℕ → Bool) (text : List ℕ) (left : ℕ) : Type 0 where
  pub front : List ℕ
  pub octet : ℕ
  pub back : List ℕ
  pub whole : text ≡ front ++ octet ∷ back
  pub left_is : left ≡ length (octet ∷ back)
  pub viable : IsViable P front
  pub hopeless : (more a b : List ℕ) (v : V) → P a v → a ++ b ≡ front ++ octet ∷ more → BeginsIn (later v) b

-- why no word was read
abbrev pub StopsReading : {V : Type 0} → (List ℕ → V → Type 0) → (V → ℕ → Bool) → List ℕ → Stop → Type 0
StopsReading P later text More = IsViable P text
StopsReading P later text (Bad left) = FailsAt P later text left
StopsReading P later text Memory = ⊤
