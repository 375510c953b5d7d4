-- Languages that are the same after the first octet of the text.
use Rattle.std.proofs.Common.{◌≡◌, ℕ, zero, suc, ◌<◌, ◌≤◌, Bool, List, ◌∷◌, ◌++◌, ◌⊎◌, inl, inr, refl, ap, ◌∙◌, arith}
use Rattle.imap_words.specs.Languages.{Or}
use Rattle.imap_words.specs.Reading.{StopsReading}
use Rattle.imap_words.specs.declared.stop.Stop.{Stop}
use Rattle.imap_words.specs.declared.stop.Stop.TheVariants.{More, Bad, Memory}
use Rattle.imap_words.specs.Going.{Continues}
use Rattle.imap_words.proofs.Composing.{NeverAt, head_is, head_at}
use Rattle.imap_words.proofs.Going.{Within}

-- words of the one that begin with the octet are words of the other, and all words of the other are words of the one
pub same_at : {V : Type 0} (P Q : List ℕ → V → Type 0) (x : ℕ) (xs : List ℕ) → ((a b : List ℕ) (v : V) (more : List ℕ) → P a v → a ++ b ≡ x ∷ more → Q a v) → Within Q P → Continues P (x ∷ xs) Q (x ∷ xs)
same_at {V} P Q x xs to from = record {
  reads = λ p v back r. record {
    word = r.word;
    whole = r.whole;
    is_word = from r.word v r.is_word;
    only = λ more a b w is on e.
        let began = head_is x xs r.word back more on r.whole in
        r.only more a b w (to a b w began.0 is (e ∙ began.1)) on e;
  };
  stops = λ p stop s. stopped p stop s;
}
  where
    stopped : (p : V → ℕ → Bool) (stop : Stop) → StopsReading Q p (x ∷ xs) stop → StopsReading P p (x ∷ xs) stop
    stopped p More s = record { rest = s.rest; value = s.value; is_word = from _ _ s.is_word }
    stopped p (Bad left) s = record {
      front = s.front;
      octet = s.octet;
      back = s.back;
      whole = s.whole;
      left_is = s.left_is;
      viable = record { rest = s.viable.rest; value = s.viable.value; is_word = from _ _ s.viable.is_word };
      hopeless = λ more a b w is e.
          let began = head_at x xs s.front s.octet s.back more s.whole in
          s.hopeless more a b w (to a b w began.0 is (e ∙ began.1)) e;
    }
    stopped p Memory s = tt

pub or_never : {V : Type 0} (P Q : List ℕ → V → Type 0) (x : ℕ) → NeverAt P x → NeverAt Q x → NeverAt (Or P Q) x
or_never P Q x p q a b v more (inl is) e = p a b v more is e
or_never P Q x p q a b v more (inr is) e = q a b v more is e

-- ---- numbers

pub same_or_not : (x y : ℕ) → (x ≡ y) ⊎ (x ≡ y → ⊥)
same_or_not zero zero = inl refl
same_or_not zero (suc y) = inr (λ e. omega (arith, e))
same_or_not (suc x) zero = inr (λ e. omega (arith, e))
same_or_not (suc x) (suc y) = elim (same_or_not x y) [
  | inl e ↦ inl (ap suc e)
  | inr other ↦ inr (λ e. other (omega (arith, e)))
]

pub below_or_not : (x y : ℕ) → (x < y) ⊎ (y ≤ x)
below_or_not x zero = inr (omega arith)
below_or_not zero (suc y) = inl (omega arith)
below_or_not (suc x) (suc y) = elim (below_or_not x y) [
  | inl l ↦ inl (omega (arith, l))
  | inr l ↦ inr (omega (arith, l))
]
