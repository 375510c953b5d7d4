-- Exact reading goes over sequences and alternatives.
use Rattle.std.proofs.Common.{◌≡◌, ℕ, Bool, List, [], ◌∷◌, ◌++◌, length, ◌⊎◌, inl, inr, refl, sym, ap, ◌∙◌, subst, append_assoc}
use Rattle.std.proofs.lemmas.List.{append_cancel_left}
use Rattle.imap_words.specs.Languages.{Then, Or, IsViable}
use Rattle.imap_words.specs.Reading.{BeginsAlike, BeginsIn, Reads, FailsAt, StopsReading}
use Rattle.imap_words.specs.declared.stop.Stop.{Stop}
use Rattle.imap_words.specs.declared.stop.Stop.TheVariants.{More, Bad, Memory}

-- a text that begins with a word of this doesn't begin with an octet that passes
abbrev pub Avoids : {V : Type 0} → (ℕ → Bool) → (List ℕ → V → Type 0) → Type 0
Avoids p Q = (a b : List ℕ) (w : _) → Q a w → BeginsIn p (a ++ b) → ⊥

pub goes_on : (front rest more : List ℕ) → BeginsAlike rest more → BeginsAlike (front ++ rest) (front ++ more)
goes_on [] rest more h = h
goes_on (x ∷ front) rest more h = refl

-- a word of the two, put apart
pub then_only : {V W : Type 0} (P : List ℕ → V → Type 0) (Q : V → List ℕ → W → Type 0) (p : V → ℕ → Bool) (text mid : List ℕ) (v : V) (first : Reads P p text v mid)
    → ((u : V) → Avoids (p u) (Q u)) → (more a b : List ℕ) (w : W) → Then P Q a w → BeginsAlike mid more → a ++ b ≡ first.word ++ more
    → (back : List ℕ) × (a ≡ first.word ++ back) × Q v back w × (back ++ b ≡ more)
then_only P Q p text mid v first avoids more a b w both on e =
    let apart : both.front ++ (both.back ++ b) ≡ first.word ++ more = sym (append_assoc both.front both.back b) ∙ (ap (λ z. z ++ b) (sym both.whole) ∙ e) in
    elim (first.only more both.front (both.back ++ b) both.value both.first on apart) [
      | inl same ↦
          let joined : first.word ++ (both.back ++ b) ≡ first.word ++ more = ap (λ z. z ++ (both.back ++ b)) (sym same.0) ∙ apart in
          (both.back, both.whole ∙ ap (λ z. z ++ both.back) same.0, subst (λ u. Q u both.back w) same.1 both.second, append_cancel_left first.word _ _ joined)
      | inr begins ↦ absurd (avoids both.value both.back b w both.second begins)
    ]

-- the first and then the second
pub then_reads : {V W : Type 0} (P : List ℕ → V → Type 0) (Q : V → List ℕ → W → Type 0) (p : V → ℕ → Bool) (q : W → ℕ → Bool) (text mid rest : List ℕ) (v : V) (w : W)
    → Reads P p text v mid → ((u : V) → Avoids (p u) (Q u)) → Reads (Q v) q mid w rest → Reads (Then P Q) q text w rest
then_reads P Q p q text mid rest v w first avoids second = record {
  word = first.word ++ second.word;
  whole = first.whole ∙ (ap (λ z. first.word ++ z) second.whole ∙ sym (append_assoc first.word second.word rest));
  is_word = record { value = v; front = first.word; back = second.word; whole = refl; first = first.is_word; second = second.is_word };
  only = λ more a b u both on e.
      let there : BeginsAlike mid (second.word ++ more) = subst (λ z. BeginsAlike z (second.word ++ more)) (sym second.whole) (goes_on second.word rest more on) in
      let parts = then_only P Q p text mid v first avoids (second.word ++ more) a b u both there (e ∙ append_assoc first.word second.word more) in
      elim (second.only more parts.0 b u parts.2 on parts.3) [
        | inl same ↦ inl (parts.1 ∙ ap (λ z. first.word ++ z) same.0, same.1)
        | inr begins ↦ inr begins
      ];
}

-- where the second stops, both do
pub then_stops : {V W : Type 0} (P : List ℕ → V → Type 0) (Q : V → List ℕ → W → Type 0) (p : V → ℕ → Bool) (q : W → ℕ → Bool) (text mid : List ℕ) (v : V) (stop : Stop)
    → Reads P p text v mid → ((u : V) → Avoids (p u) (Q u)) → StopsReading (Q v) q mid stop → StopsReading (Then P Q) q text stop
then_stops P Q p q text mid v More first avoids viable = record {
  rest = viable.rest;
  value = viable.value;
  is_word = record { value = v; front = first.word; back = mid ++ viable.rest; whole = ap (λ z. z ++ viable.rest) first.whole ∙ append_assoc first.word mid viable.rest; first = first.is_word; second = viable.is_word };
}
then_stops P Q p q text mid v (Bad left) first avoids fails = record {
  front = first.word ++ fails.front;
  octet = fails.octet;
  back = fails.back;
  whole = first.whole ∙ (ap (λ z. first.word ++ z) fails.whole ∙ sym (append_assoc first.word fails.front _));
  left_is = fails.left_is;
  viable = record {
    rest = fails.viable.rest;
    value = fails.viable.value;
    is_word = record { value = v; front = first.word; back = fails.front ++ fails.viable.rest; whole = append_assoc first.word fails.front fails.viable.rest; first = first.is_word; second = fails.viable.is_word };
  };
  hopeless = λ more a b w both e.
      let there : BeginsAlike mid (fails.front ++ fails.octet ∷ more) = subst (λ z. BeginsAlike z (fails.front ++ fails.octet ∷ more)) (sym fails.whole) (goes_on fails.front _ (fails.octet ∷ more) refl) in
      let parts = then_only P Q p text mid v first avoids (fails.front ++ fails.octet ∷ more) a b w both there (e ∙ append_assoc first.word fails.front _) in
      fails.hopeless more parts.0 b w parts.2 parts.3;
}
then_stops P Q p q text mid v Memory first avoids stops = tt

pub first_viable : {V W : Type 0} (P : List ℕ → V → Type 0) (Q : V → List ℕ → W → Type 0) (front : List ℕ)
    → IsViable P front → ((u : V) → IsViable (Q u) []) → IsViable (Then P Q) front
first_viable P Q front viable some = record {
  rest = viable.rest ++ (some viable.value).rest;
  value = (some viable.value).value;
  is_word = record { value = viable.value; front = front ++ viable.rest; back = (some viable.value).rest; whole = sym (append_assoc front viable.rest _); first = viable.is_word; second = (some viable.value).is_word };
}

-- where the first stops, both do
pub first_stops : {V W : Type 0} (P : List ℕ → V → Type 0) (Q : V → List ℕ → W → Type 0) (p : V → ℕ → Bool) (q : W → ℕ → Bool) (text : List ℕ) (stop : Stop)
    → StopsReading P p text stop → ((u : V) → Avoids (p u) (Q u)) → ((u : V) → IsViable (Q u) []) → StopsReading (Then P Q) q text stop
first_stops P Q p q text More viable avoids some = first_viable P Q text viable some
first_stops P Q p q text (Bad left) fails avoids some = record {
  front = fails.front;
  octet = fails.octet;
  back = fails.back;
  whole = fails.whole;
  left_is = fails.left_is;
  viable = first_viable P Q fails.front fails.viable some;
  hopeless = λ more a b w both e. absurd (avoids both.value both.back b w both.second (fails.hopeless more both.front (both.back ++ b) both.value both.first (sym (append_assoc both.front both.back b) ∙ (ap (λ z. z ++ b) (sym both.whole) ∙ e))));
}
first_stops P Q p q text Memory stops avoids some = tt

-- ---- alternatives that the first octet of the text chooses

-- no word of this is empty or begins with the octet
abbrev pub NeverAt : {V : Type 0} → (List ℕ → V → Type 0) → ℕ → Type 0
NeverAt Q x = (a b : List ℕ) (v : _) (more : List ℕ) → Q a v → a ++ b ≡ x ∷ more → ⊥

-- what begins as the text does begins with its first octet
pub head_is : (x : ℕ) (xs word rest more : List ℕ) → BeginsAlike rest more → x ∷ xs ≡ word ++ rest → (ys : List ℕ) × (word ++ more ≡ x ∷ ys)
head_is x xs (y ∷ word) rest more on e = let same : y ≡ x = cc e in (word ++ more, ap (λ z. z ∷ (word ++ more)) same)
head_is x xs [] (y ∷ rest) (z ∷ more) on e = let same : z ≡ x = cc (e, on) in (more, ap (λ z. z ∷ more) same)
head_is x xs [] (y ∷ rest) [] on e = absurd on
head_is x xs [] [] more on e = cc e

pub head_at : (x : ℕ) (xs front : List ℕ) (y : ℕ) (back more : List ℕ) → x ∷ xs ≡ front ++ y ∷ back → (ys : List ℕ) × (front ++ y ∷ more ≡ x ∷ ys)
head_at x xs [] y back more e = let same : y ≡ x = cc e in (more, ap (λ z. z ∷ more) same)
head_at x xs (z ∷ front) y back more e = let same : z ≡ x = cc e in (front ++ y ∷ more, ap (λ z. z ∷ (front ++ y ∷ more)) same)

pub left_reads : {V : Type 0} (P Q : List ℕ → V → Type 0) (p : V → ℕ → Bool) (x : ℕ) (xs rest : List ℕ) (v : V)
    → NeverAt Q x → Reads P p (x ∷ xs) v rest → Reads (Or P Q) p (x ∷ xs) v rest
left_reads P Q p x xs rest v never_at reads = record {
  word = reads.word;
  whole = reads.whole;
  is_word = inl reads.is_word;
  only = λ more a b w either on e. elim either [
    | inl is ↦ reads.only more a b w is on e
    | inr other ↦
        let began = head_is x xs reads.word rest more on reads.whole in
        absurd (never_at a b w began.0 other (e ∙ began.1))
  ];
}

pub left_stops : {V : Type 0} (P Q : List ℕ → V → Type 0) (p : V → ℕ → Bool) (x : ℕ) (xs : List ℕ) (stop : Stop)
    → NeverAt Q x → StopsReading P p (x ∷ xs) stop → StopsReading (Or P Q) p (x ∷ xs) stop
left_stops P Q p x xs More never_at viable = record { rest = viable.rest; value = viable.value; is_word = inl viable.is_word }
left_stops P Q p x xs (Bad left) never_at fails = record {
  front = fails.front;
  octet = fails.octet;
  back = fails.back;
  whole = fails.whole;
  left_is = fails.left_is;
  viable = record { rest = fails.viable.rest; value = fails.viable.value; is_word = inl fails.viable.is_word };
  hopeless = λ more a b w either e. elim either [
    | inl is ↦ fails.hopeless more a b w is e
    | inr other ↦
        let began = head_at x xs fails.front fails.octet fails.back more fails.whole in
        absurd (never_at a b w began.0 other (e ∙ began.1))
  ];
}
left_stops P Q p x xs Memory never_at stops = tt

pub turned : {A B : Type 0} → A ⊎ B → B ⊎ A
turned (inl a) = inr a
turned (inr b) = inl b

pub swap_reads : {V : Type 0} (P Q : List ℕ → V → Type 0) (p : V → ℕ → Bool) (text rest : List ℕ) (v : V) → Reads (Or P Q) p text v rest → Reads (Or Q P) p text v rest
swap_reads P Q p text rest v reads = record {
  word = reads.word;
  whole = reads.whole;
  is_word = turned reads.is_word;
  only = λ more a b w either on e. reads.only more a b w (turned either) on e;
}

-- an octet with which no word begins
pub fails_first : {V : Type 0} (P : List ℕ → V → Type 0) (p : V → ℕ → Bool) (x : ℕ) (xs : List ℕ) → IsViable P [] → NeverAt P x → FailsAt P p (x ∷ xs) (length (x ∷ xs))
fails_first P p x xs some never_at = record {
  front = [];
  octet = x;
  back = xs;
  whole = refl;
  left_is = refl;
  viable = some;
  hopeless = λ more a b v is e. absurd (never_at a b v more is e);
}
