-- What is left to be read.
use Rattle.std.specs.Prelude.{◌≡◌, ℕ, Bool, List, ◌++◌}
use Rattle.imap_words.specs.Reading.{BeginsAlike, Reads, StopsReading}
use Rattle.imap_words.specs.declared.stop.Stop.{Stop}

-- Reading the rest as a word of Q reads the text as a word of P, and so where it stops.
pub record Continues {V : Type 0} (P : List ℕ → V → Type 0) (text : List ℕ) (Q : List ℕ → V → Type 0) (rest : List ℕ) : Type 0 where
  pub reads : (p : V → ℕ → Bool) (v : V) (back : List ℕ) → Reads Q p rest v back → Reads P p text v back
  pub stops : (p : V → ℕ → Bool) (stop : Stop) → StopsReading Q p rest stop → StopsReading P p text stop

-- Of a word of P the text has this front, and Q is left, whatever follows that begins as the rest does. Where there is no
-- rest, whatever follows: so a reader may stop here and go on with other octets.
pub record Leaves {V : Type 0} (P : List ℕ → V → Type 0) (text : List ℕ) (Q : List ℕ → V → Type 0) (rest : List ℕ) : Type 0 where
  pub front : List ℕ
  pub whole : text ≡ front ++ rest
  pub goes : (more : List ℕ) → BeginsAlike rest more → Continues P (front ++ more) Q more
