-- Words of a table, in any case of their letters (RFC 3501, 9, rule 1).
use Rattle.std.specs.Prelude.{◌≡◌, ℕ, ◌-◌, ◌<◌, ◌≤◌, nat_lt, Bool, true, ◌&&◌, List, [], ◌∷◌, ◌++◌, length, take, get_or, map, Contains, Option, MatchOption, if◌then◌else◌}
pub use Rattle.mail_wire.specs.Tables.{Named}

-- The ASCII letter in upper case, and any other octet as it is.
abbrev pub upper : ℕ → ℕ
upper x = if nat_lt 96 x && nat_lt x 123 then x - 32 else x

-- one of the words, in any case
pub record IsWordOf {V : Type 0} (table : List (Named V)) (octets : List ℕ) (value : V) : Type 0 where
  pub entry : Named V
  pub known : Contains table entry
  pub word : map upper octets ≡ entry.word
  pub says : value ≡ entry.says

-- a word of the table begins so
abbrev pub SomeBegins : {V : Type 0} → List (Named V) → List ℕ → Type 0
SomeBegins {V} table front = (entry : Named V) × (rest : List ℕ) × Contains table entry × (entry.word ≡ front ++ rest)

-- Words of the table are in upper case, there is one, and each says one thing.
pub record IsTable {V : Type 0} (table : List (Named V)) : Type 0 where
  pub some : Named V
  pub known : Contains table some
  pub each : (entry : Named V) → Contains table entry → map upper entry.word ≡ entry.word
  pub one : (entry other : Named V) → Contains table entry → Contains table other → entry.word ≡ other.word → entry.says ≡ other.says

-- The function tells for each word of a table which octets go on to a longer one.
abbrev pub TellsLonger : {V : Type 0} → List (Named V) → (V → ℕ → Bool) → Type 0
TellsLonger {V} table later = (entry : Named V) (x : ℕ) → Contains table entry → SomeBegins table (entry.word ++ upper x ∷ []) → later entry.says x ≡ true

-- The text and the word begin with the same octets, so many and no more.
pub record IsCommon (text word : List ℕ) (len : ℕ) : Type 0 where
  pub in_text : len ≤ length text
  pub in_word : len ≤ length word
  pub same : map upper (take len text) ≡ take len word
  pub no_more : len < length text → len < length word → upper (get_or text len 0) ≡ get_or word len 0 → ⊥

-- The longest front of the text with which a word begins has so many octets, and this is what the word says that it is.
pub record IsBest {V : Type 0} (table : List (Named V)) (text : List ℕ) (len : ℕ) (found : Option V) : Type 0 where
  pub bound : len ≤ length text
  pub some : 0 < len → SomeBegins table (map upper (take len text))
  pub longest : (n : ℕ) → len < n → n ≤ length text → SomeBegins table (map upper (take n text)) → ⊥
  pub is : MatchOption found ((entry : Named V) → Contains table entry → entry.word ≡ map upper (take len text) → ⊥) (λ v. Contains table (record { word = map upper (take len text); says = v }))
