-- A reader may stop where nothing is left, and go on with other octets.
use Rattle.std.proofs.Common.{ℕ, Bool, List, [], ◌∷◌, ◌++◌, refl, sym, ap, ◌∙◌, subst, append_assoc, append-nil}
use Rattle.imap_words.specs.Languages.{Then, Is}
use Rattle.imap_words.specs.Reading.{BeginsAlike, Reads}
use Rattle.imap_words.specs.Going.{Continues, Leaves}
use Rattle.imap_words.proofs.Composing.{Avoids, goes_on}
use Rattle.imap_words.proofs.Going.{begins, onwards, and_then, is_reads, never_avoids}

goes_over : (a b c : List ℕ) → BeginsAlike a b → BeginsAlike b c → BeginsAlike a c
goes_over [] b c f g = tt
goes_over (x ∷ a) (y ∷ b) (z ∷ c) f g = f ∙ g
goes_over (x ∷ a) (y ∷ b) [] f g = absurd g
goes_over (x ∷ a) [] c f g = absurd f

-- the same word, with something else after it that begins alike
pub reads_on : {V : Type 0} (P : List ℕ → V → Type 0) (p : V → ℕ → Bool) (text rest more : List ℕ) (v : V) (r : Reads P p text v rest) → BeginsAlike rest more → Reads P p (r.word ++ more) v more
reads_on P p text rest more v r on = record { word = r.word; whole = refl; is_word = r.is_word; only = λ others a b w is goes e. r.only others a b w is (goes_over rest more others on goes) e }

pub leaves_all : {V : Type 0} (P : List ℕ → V → Type 0) (text : List ℕ) → Leaves P text P text
leaves_all P text = record { front = []; whole = refl; goes = λ more on. begins P more }

pub here : {V : Type 0} {P : List ℕ → V → Type 0} {text : List ℕ} {Q : List ℕ → V → Type 0} {rest : List ℕ} → Leaves P text Q rest → Continues P text Q rest
here {P} {text} {Q} {rest} l = subst (λ z. Continues P z Q rest) (sym l.whole) (l.goes rest (self rest))
  where
    self : (xs : List ℕ) → BeginsAlike xs xs
    self [] = tt
    self (x ∷ xs) = refl

pub leaves_then : {V W : Type 0} {P : List ℕ → V → Type 0} {text : List ℕ} {Q : W → List ℕ → V → Type 0} {F : List ℕ → W → Type 0} {p : W → ℕ → Bool} {rest mid : List ℕ} {w : W}
    → Leaves P text (Then F Q) rest → Reads F p rest w mid → ((u : W) → Avoids (p u) (Q u)) → Leaves P text (Q w) mid
leaves_then {P} {text} {Q} {F} {p} {rest} {mid} {w} l r avoids = record {
  front = l.front ++ r.word;
  whole = l.whole ∙ (ap (λ z. l.front ++ z) r.whole ∙ sym (append_assoc l.front r.word mid));
  goes = λ more on.
      let there : BeginsAlike rest (r.word ++ more) = subst (λ z. BeginsAlike z (r.word ++ more)) (sym r.whole) (goes_on r.word mid more on) in
      subst (λ z. Continues P z (Q w) more) (sym (append_assoc l.front r.word more))
      (onwards (l.goes (r.word ++ more) there) (reads_on F p rest mid more w r on) avoids);
}

-- one after another
pub leaves_on : {V : Type 0} (P Q R : List ℕ → V → Type 0) (text rest mid : List ℕ) → Leaves P text Q rest → Leaves Q rest R mid → Leaves P text R mid
leaves_on P Q R text rest mid a b = record {
  front = a.front ++ b.front;
  whole = a.whole ∙ (ap (λ z. a.front ++ z) b.whole ∙ sym (append_assoc a.front b.front mid));
  goes = λ more on.
      let there : BeginsAlike rest (b.front ++ more) = subst (λ z. BeginsAlike z (b.front ++ more)) (sym b.whole) (goes_on b.front mid more on) in
      subst (λ z. Continues P z R more) (sym (append_assoc a.front b.front more)) (and_then P Q R _ _ _ (a.goes (b.front ++ more) there) (b.goes more on));
}

-- the octets that came later: what was left of the first is read of them
pub leaves_later : {V : Type 0} (P Q : List ℕ → V → Type 0) (text more : List ℕ) → Leaves P text Q [] → Continues P (text ++ more) Q more
leaves_later P Q text more l = subst (λ z. Continues P (z ++ more) Q more) (sym (l.whole ∙ append-nil l.front)) (l.goes more tt)

-- nothing, and then this
pub is_then : {V W : Type 0} (w : W) (Q : W → List ℕ → V → Type 0) (text : List ℕ) → Leaves (Then (Is w) Q) text (Q w) text
is_then w Q text = leaves_then (leaves_all (Then (Is w) Q) text) (is_reads w text) (λ _. never_avoids _)
