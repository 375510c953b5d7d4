-- Sequences whose second part may be empty: what may go on after the first may then go on after both.
use Rattle.std.proofs.Common.{◌≡◌, ℕ, Bool, true, List, [], ◌∷◌, ◌++◌, ◌⊎◌, inl, inr, refl, sym, ap, ◌∙◌, subst, append_assoc}
use Rattle.std.proofs.lemmas.List.{append_cancel_left}
use Rattle.imap_words.specs.Languages.{Then, Or, Is, IsViable}
use Rattle.imap_words.specs.Reading.{BeginsAlike, BeginsIn, Reads, StopsReading}
use Rattle.imap_words.specs.declared.stop.Stop.{Stop}
use Rattle.imap_words.specs.declared.stop.Stop.TheVariants.{More, Bad, Memory}
use Rattle.imap_words.proofs.Composing.{Avoids, NeverAt, goes_on, head_is, first_viable}

-- where a word of this and what follows it begin with an octet that passes, the word is empty, or the octet that follows may go on
abbrev pub Hands : {V : Type 0} → (ℕ → Bool) → (V → ℕ → Bool) → (List ℕ → V → Type 0) → Type 0
Hands p q Q = (a b : List ℕ) (w : _) → Q a w → BeginsIn p (a ++ b) → BeginsIn (q w) b

pub hands_avoiding : {V : Type 0} (p : ℕ → Bool) (q : V → ℕ → Bool) (Q : List ℕ → V → Type 0) → Avoids p Q → Hands p q Q
hands_avoiding p q Q avoids a b w is begin = absurd (avoids a b w is begin)

module _ {V W : Type 0} (P : List ℕ → V → Type 0) (Q : V → List ℕ → W → Type 0) (p : V → ℕ → Bool) (q : W → ℕ → Bool) where
  -- a word of the two, put apart
  parts_of : (text mid : List ℕ) (v : V) (first : Reads P p text v mid) → ((u : V) → Hands (p u) q (Q u)) → (more a b : List ℕ) (w : W) → Then P Q a w → BeginsAlike mid more → a ++ b ≡ first.word ++ more
      → ((back : List ℕ) × (a ≡ first.word ++ back) × Q v back w × (back ++ b ≡ more)) ⊎ BeginsIn (q w) b
  parts_of text mid v first hands more a b w both on e =
      let apart : both.front ++ (both.back ++ b) ≡ first.word ++ more = sym (append_assoc both.front both.back b) ∙ (ap (λ z. z ++ b) (sym both.whole) ∙ e) in
      elim (first.only more both.front (both.back ++ b) both.value both.first on apart) [
        | inl same ↦
            let joined : first.word ++ (both.back ++ b) ≡ first.word ++ more = ap (λ z. z ++ (both.back ++ b)) (sym same.0) ∙ apart in
            inl (both.back, both.whole ∙ ap (λ z. z ++ both.back) same.0, subst (λ u. Q u both.back w) same.1 both.second, append_cancel_left first.word _ _ joined)
        | inr begins ↦ inr (hands both.value both.back b w both.second begins)
      ]

  pub both_read : (text mid rest : List ℕ) (v : V) (w : W) → Reads P p text v mid → ((u : V) → Hands (p u) q (Q u)) → Reads (Q v) q mid w rest → Reads (Then P Q) q text w rest
  both_read text mid rest v w first hands second = record {
    word = first.word ++ second.word;
    whole = first.whole ∙ (ap (λ z. first.word ++ z) second.whole ∙ sym (append_assoc first.word second.word rest));
    is_word = record { value = v; front = first.word; back = second.word; whole = refl; first = first.is_word; second = second.is_word };
    only = λ more a b u both on e.
        let there : BeginsAlike mid (second.word ++ more) = subst (λ z. BeginsAlike z (second.word ++ more)) (sym second.whole) (goes_on second.word rest more on) in
        elim (parts_of text mid v first hands (second.word ++ more) a b u both there (e ∙ append_assoc first.word second.word more)) [
          | inl parts ↦ elim (second.only more parts.0 b u parts.2 on parts.3) [
            | inl same ↦ inl (parts.1 ∙ ap (λ z. first.word ++ z) same.0, same.1)
            | inr begins ↦ inr begins
          ]
          | inr begins ↦ inr begins
        ];
  }

  pub second_stops : (text mid : List ℕ) (v : V) (stop : Stop) → Reads P p text v mid → ((u : V) → Hands (p u) q (Q u)) → StopsReading (Q v) q mid stop → StopsReading (Then P Q) q text stop
  second_stops text mid v More first hands viable = record {
    rest = viable.rest;
    value = viable.value;
    is_word = record { value = v; front = first.word; back = mid ++ viable.rest; whole = ap (λ z. z ++ viable.rest) first.whole ∙ append_assoc first.word mid viable.rest; first = first.is_word; second = viable.is_word };
  }
  second_stops text mid v (Bad left) first hands fails = record {
    front = first.word ++ fails.front;
    octet = fails.octet;
    back = fails.back;
    whole = first.whole ∙ (ap (λ z. first.word ++ z) fails.whole ∙ sym (append_assoc first.word fails.front _));
    left_is = fails.left_is;
    viable = record {
      rest = fails.viable.rest;
      value = fails.viable.value;
      is_word = record { value = v; front = first.word; back = fails.front ++ fails.viable.rest; whole = append_assoc first.word fails.front fails.viable.rest; first = first.is_word; second = fails.viable.is_word };
    };
    hopeless = λ more a b w both e.
        let there : BeginsAlike mid (fails.front ++ fails.octet ∷ more) = subst (λ z. BeginsAlike z (fails.front ++ fails.octet ∷ more)) (sym fails.whole) (goes_on fails.front _ (fails.octet ∷ more) refl) in
        elim (parts_of text mid v first hands (fails.front ++ fails.octet ∷ more) a b w both there (e ∙ append_assoc first.word fails.front _)) [
          | inl parts ↦ fails.hopeless more parts.0 b w parts.2 parts.3
          | inr begins ↦ begins
        ];
  }
  second_stops text mid v Memory first hands stops = tt

  pub both_stop : (text : List ℕ) (stop : Stop) → StopsReading P p text stop → ((u : V) → Hands (p u) q (Q u)) → ((u : V) → IsViable (Q u) []) → StopsReading (Then P Q) q text stop
  both_stop text More viable hands some = first_viable P Q text viable some
  both_stop text (Bad left) fails hands some = record {
    front = fails.front;
    octet = fails.octet;
    back = fails.back;
    whole = fails.whole;
    left_is = fails.left_is;
    viable = first_viable P Q fails.front fails.viable some;
    hopeless = λ more a b w both e.
        hands both.value both.back b w both.second (fails.hopeless more both.front (both.back ++ b) both.value both.first (sym (append_assoc both.front both.back b) ∙ (ap (λ z. z ++ b) (sym both.whole) ∙ e)));
  }
  both_stop text Memory stops hands some = tt

-- ---- a word or nothing

module _ {V : Type 0} (v : V) (Q : List ℕ → V → Type 0) (q : V → ℕ → Bool) (x : ℕ) (xs : List ℕ) where
  -- nothing, where the next octet begins no word of the other
  pub nothing_reads : NeverAt Q x → Reads (Or (Is v) Q) q (x ∷ xs) v (x ∷ xs)
  nothing_reads never_at = record {
    word = [];
    whole = refl;
    is_word = inl (refl, refl);
    only = λ more a b w either on e. elim either [
      | inl is ↦ inl is
      | inr other ↦ absurd (never_here a b w more other on e)
    ];
  }
    where
      never_here : (a b : List ℕ) (w : V) (more : List ℕ) → Q a w → BeginsAlike (x ∷ xs) more → a ++ b ≡ more → ⊥
      never_here a b w [] other on e = absurd on
      never_here a b w (y ∷ more) other on e = never_at a b w more other (e ∙ ap (λ z. z ∷ more) (sym on))

  -- a word of the other, where nothing may be followed by that octet
  pub something_reads : (w : V) (rest : List ℕ) → q v x ≡ true → Reads Q q (x ∷ xs) w rest → Reads (Or (Is v) Q) q (x ∷ xs) w rest
  something_reads w rest may r = record {
    word = r.word;
    whole = r.whole;
    is_word = inr r.is_word;
    only = λ more a b u either on e. elim either [
      | inl is ↦
          let began = head_is x xs r.word rest more on r.whole in
          let all : b ≡ x ∷ began.0 = ap (λ z. z ++ b) (sym is.0) ∙ (e ∙ began.1) in
          inr (subst (λ z. BeginsIn (q u) z) (sym all) (subst (λ z. q z x ≡ true) (sym is.1) may))
      | inr other ↦ r.only more a b u other on e
    ];
  }

  pub something_stops : (stop : Stop) → q v x ≡ true → StopsReading Q q (x ∷ xs) stop → StopsReading (Or (Is v) Q) q (x ∷ xs) stop
  something_stops More may viable = record { rest = viable.rest; value = viable.value; is_word = inr viable.is_word }
  something_stops (Bad left) may fails = record {
    front = fails.front;
    octet = fails.octet;
    back = fails.back;
    whole = fails.whole;
    left_is = fails.left_is;
    viable = record { rest = fails.viable.rest; value = fails.viable.value; is_word = inr fails.viable.is_word };
    hopeless = λ more a b w either e. elim either [
      | inl is ↦ begins_there a b w more fails.front fails.octet fails.back is.0 is.1 fails.whole e
      | inr other ↦ fails.hopeless more a b w other e
    ];
  }
    where
      begins_there : (a b : List ℕ) (w : V) (more front : List ℕ) (octet : ℕ) (back : List ℕ) → a ≡ [] → w ≡ v → x ∷ xs ≡ front ++ octet ∷ back → a ++ b ≡ front ++ octet ∷ more → BeginsIn (q w) b
      begins_there a b w more [] octet back none same whole e =
          let here : x ≡ octet = cc whole in
          let all : b ≡ octet ∷ more = ap (λ z. z ++ b) (sym none) ∙ e in
          subst (λ z. BeginsIn (q w) z) (sym all) (subst (λ z. q w z ≡ true) here (subst (λ z. q z x ≡ true) (sym same) may))
      begins_there a b w more (y ∷ front) octet back none same whole e =
          let here : x ≡ y = cc whole in
          let all : b ≡ y ∷ (front ++ octet ∷ more) = ap (λ z. z ++ b) (sym none) ∙ e in
          subst (λ z. BeginsIn (q w) z) (sym all) (subst (λ z. q w z ≡ true) here (subst (λ z. q z x ≡ true) (sym same) may))
  something_stops Memory may stops = tt
