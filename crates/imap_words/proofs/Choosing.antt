-- Alternatives that the next octet decides, and lists.
use Rattle.std.proofs.Common.{◌≡◌, ℕ, Bool, List, [], ◌∷◌, ◌++◌, length, inl, inr, refl, sym, ap, ◌∙◌, subst, append_assoc, append-nil}
use Rattle.imap_words.specs.Languages.{Then, Or, Is, IsOctet, IsViable, IsTail, IsMoreThan}
use Rattle.imap_words.specs.Reading.{BeginsIn, never, Reads, StopsReading}
use Rattle.imap_words.specs.declared.stop.Stop.{Stop}
use Rattle.imap_words.specs.declared.stop.Stop.TheVariants.{More, Bad, Memory}
use Rattle.imap_words.specs.Going.{Continues}
use Rattle.imap_words.proofs.Passing.{no_octets}
use Rattle.imap_words.proofs.Composing.{Avoids, NeverAt}
use Rattle.imap_words.proofs.TokenSteps.{octet_never}
use Rattle.imap_words.proofs.Going.{onwards, and_then, never_avoids, left_continues, right_continues, same_continues, Within}

pub octet_reads : (x : ℕ) (xs : List ℕ) → Reads (IsOctet x) never (x ∷ xs) x xs
octet_reads x xs = record { word = x ∷ []; whole = refl; is_word = (refl, refl); only = λ more a b w is on e. inl is }

-- the octet that begins the rest is read
pub octet_at : (text : List ℕ) (x y : ℕ) (xs : List ℕ) → text ≡ x ∷ xs → x ≡ y → Reads (IsOctet y) never text y xs
octet_at text x y xs e same = subst (λ z. Reads (IsOctet y) never z y xs) (sym (e ∙ ap (λ z. z ∷ xs) same)) (octet_reads y xs)

pub seq_never : {V W : Type 0} (P : List ℕ → V → Type 0) (Q : V → List ℕ → W → Type 0) (x : ℕ) → NeverAt P x → NeverAt (Then P Q) x
seq_never P Q x first a b v more both e = first both.front (both.back ++ b) both.value more both.first (sym (append_assoc both.front both.back b) ∙ (ap (λ z. z ++ b) (sym both.whole) ∙ e))

-- nothing more is read, whatever may go on
pub end_reads : {V : Type 0} (v : V) (p : V → ℕ → Bool) (rest : List ℕ) → Reads (Is v) p rest v rest
end_reads v p rest = record { word = []; whole = refl; is_word = (refl, refl); only = λ more a b w is on e. inl is }

-- ---- a word whose value is another

pub mapped_reads : {V W : Type 0} (P : List ℕ → V → Type 0) (f : V → W) (p : V → ℕ → Bool) (q : W → ℕ → Bool) (text rest : List ℕ) (v : V)
    → ((u : V) (b : List ℕ) → BeginsIn (p u) b → BeginsIn (q (f u)) b) → Reads P p text v rest → Reads (Then P (λ u. Is (f u))) q text (f v) rest
mapped_reads P f p q text rest v over r = record {
  word = r.word;
  whole = r.whole;
  is_word = record { value = v; front = r.word; back = []; whole = sym (append-nil r.word); first = r.is_word; second = (refl, refl) };
  only = λ more a b w both on e.
      let bare : a ≡ both.front = both.whole ∙ (ap (λ z. both.front ++ z) both.second.0 ∙ append-nil both.front) in
      elim (r.only more both.front b both.value both.first on (ap (λ z. z ++ b) (sym bare) ∙ e)) [
        | inl same ↦ inl (bare ∙ same.0, both.second.1 ∙ ap f same.1)
        | inr begin ↦ inr (subst (λ z. BeginsIn (q z) b) (sym both.second.1) (over both.value b begin))
      ];
}

mapped_viable : {V W : Type 0} (P : List ℕ → V → Type 0) (f : V → W) (front : List ℕ) → IsViable P front → IsViable (Then P (λ u. Is (f u))) front
mapped_viable P f front viable = record {
  rest = viable.rest;
  value = f viable.value;
  is_word = record { value = viable.value; front = front ++ viable.rest; back = []; whole = sym (append-nil (front ++ viable.rest)); first = viable.is_word; second = (refl, refl) };
}

pub mapped_stops : {V W : Type 0} (P : List ℕ → V → Type 0) (f : V → W) (p : V → ℕ → Bool) (q : W → ℕ → Bool) (text : List ℕ) (stop : Stop)
    → ((u : V) (b : List ℕ) → BeginsIn (p u) b → BeginsIn (q (f u)) b) → StopsReading P p text stop → StopsReading (Then P (λ u. Is (f u))) q text stop
mapped_stops P f p q text More over viable = mapped_viable P f text viable
mapped_stops P f p q text (Bad left) over fails = record {
  front = fails.front;
  octet = fails.octet;
  back = fails.back;
  whole = fails.whole;
  left_is = fails.left_is;
  viable = mapped_viable P f fails.front fails.viable;
  hopeless = λ more a b w both e.
      let bare : a ≡ both.front = both.whole ∙ (ap (λ z. both.front ++ z) both.second.0 ∙ append-nil both.front) in
      subst (λ z. BeginsIn (q z) b) (sym both.second.1) (over both.value b (fails.hopeless more both.front b both.value both.first (ap (λ z. z ++ b) (sym bare) ∙ e)));
}
mapped_stops P f p q text Memory over stops = tt

-- ---- lists

abbrev pub Ending : {V E : Type 0} → (List ℕ → E → Type 0) → List V → List ℕ → List V → Type 0
Ending End begun = Then End (λ _. Is begun)

abbrev pub Another : {V W E : Type 0} → (List ℕ → W → Type 0) → (List ℕ → V → Type 0) → (List ℕ → E → Type 0) → List V → List ℕ → List V → Type 0
Another Separator P End begun = Then Separator (λ _. Then P (λ v. IsMoreThan Separator P End (begun ++ v ∷ [])))

module _ {V W E : Type 0} (Separator : List ℕ → W → Type 0) (P : List ℕ → V → Type 0) (End : List ℕ → E → Type 0) where
  to_step : (begun : List V) → Within (IsMoreThan Separator P End begun) (Or (Ending End begun) (Another Separator P End begun))
  to_step begun octets values has = by_more has.0 has.1 has.2
    where
      by_more : (more : List V) → values ≡ begun ++ more → IsTail Separator P End octets more → Or (Ending End begun) (Another Separator P End begun) octets values
      by_more [] e is = inl (record { value = is.0; front = octets; back = []; whole = sym (append-nil octets); first = is.1; second = (refl, e ∙ append-nil begun) })
      by_more (v ∷ more) e is = inr (record {
        value = is.0;
        front = is.1;
        back = is.2 ++ is.3;
        whole = is.4;
        first = is.5;
        second = record { value = v; front = is.2; back = is.3; whole = refl; first = is.6; second = (more, e ∙ sym (append_assoc begun (v ∷ []) more), is.7) };
      })

  from_step : (begun : List V) → Within (Or (Ending End begun) (Another Separator P End begun)) (IsMoreThan Separator P End begun)
  from_step begun octets values (inl ends) = ([], ends.second.1 ∙ sym (append-nil begun), (ends.value, subst (λ z. End z ends.value) (sym (ends.whole ∙ (ap (λ z. ends.front ++ z) ends.second.0 ∙ append-nil ends.front))) ends.first))
  from_step begun octets values (inr goes) =
      let inner = goes.second in
      let more = inner.second in (
        inner.value ∷ more.0,
        more.1 ∙ append_assoc begun (inner.value ∷ []) more.0,
        (goes.value, goes.front, inner.front, inner.back, goes.whole ∙ ap (λ z. goes.front ++ z) inner.whole, goes.first, inner.first, more.2),
      )

  pub step_continues : (begun : List V) (text : List ℕ) → Continues (IsMoreThan Separator P End begun) text (Or (Ending End begun) (Another Separator P End begun)) text
  step_continues begun text = same_continues _ _ text (to_step begun) (from_step begun)

  -- an octet that begins no separator
  pub list_ending : (begun : List V) (x : ℕ) (xs : List ℕ) → NeverAt Separator x → Continues (IsMoreThan Separator P End begun) (x ∷ xs) (Ending End begun) (x ∷ xs)
  list_ending begun x xs never_at = and_then _ _ _ _ _ _ (step_continues begun (x ∷ xs)) (left_continues (Ending End begun) (Another Separator P End begun) x xs (seq_never Separator _ x never_at))

  -- an octet that begins no end
  pub list_another : (begun : List V) (x : ℕ) (xs : List ℕ) → NeverAt End x → Continues (IsMoreThan Separator P End begun) (x ∷ xs) (Another Separator P End begun) (x ∷ xs)
  list_another begun x xs never_at = and_then _ _ _ _ _ _ (step_continues begun (x ∷ xs)) (right_continues (Ending End begun) (Another Separator P End begun) x xs (seq_never End _ x never_at))

  pub more_viable : (begun : List V) → IsViable End [] → IsViable (IsMoreThan Separator P End begun) []
  more_viable begun some = record { rest = some.rest; value = begun; is_word = ([], sym (append-nil begun), (some.value, some.is_word)) }

  -- what follows an item doesn't begin with an octet that passes
  pub more_avoids : (p : ℕ → Bool) (begun : List V) → Avoids p Separator → Avoids p End → Avoids p (IsMoreThan Separator P End begun)
  more_avoids p begun sep end a b values has begin = by_more has.0 has.2
    where
      by_more : (more : List V) → IsTail Separator P End a more → ⊥
      by_more [] is = end a b is.0 is.1 begin
      by_more (v ∷ more) is = sep is.1 ((is.2 ++ is.3) ++ b) is.0 is.5 (subst (λ z. BeginsIn p z) (ap (λ z. z ++ b) is.4 ∙ append_assoc is.1 (is.2 ++ is.3) b) begin)

-- ---- the steps of a list whose separator is an octet

module _ {V E : Type 0} (s : ℕ) (P : List ℕ → V → Type 0) (End : List ℕ → E → Type 0) {Whole : List ℕ → List V → Type 0} where
  -- an item was read, and put last
  pub list_next : (begun : List V) {text rest mid : List ℕ} {v : V} {items : List V} {p : V → ℕ → Bool} → Continues Whole text (Then P (λ u. IsMoreThan (IsOctet s) P End (begun ++ u ∷ []))) rest
      → Reads P p rest v mid → ((u : V) → Avoids (p u) (IsOctet s)) → ((u : V) → Avoids (p u) End) → items ≡ begun ++ v ∷ [] → Continues Whole text (IsMoreThan (IsOctet s) P End items) mid
  list_next begun {text} {rest} {mid} {v} {items} {p} so r sep end e =
      subst (λ z. Continues Whole text (IsMoreThan (IsOctet s) P End z) mid) (sym e) (onwards so r (λ u. more_avoids (IsOctet s) P End (p u) (begun ++ u ∷ []) (sep u) (end u)))

  -- the separator is read
  pub list_separator : (begun : List V) {text rest : List ℕ} (x : ℕ) (others : List ℕ) → Continues Whole text (IsMoreThan (IsOctet s) P End begun) rest → rest ≡ x ∷ others → x ≡ s → NeverAt End s
      → Continues Whole text (Then P (λ u. IsMoreThan (IsOctet s) P End (begun ++ u ∷ []))) others
  list_separator begun {text} {rest} x others so e same never_at =
      let at : rest ≡ s ∷ others = e ∙ ap (λ z. z ∷ others) same in
      let here : Continues Whole text (IsMoreThan (IsOctet s) P End begun) (s ∷ others) = subst (λ z. Continues Whole text (IsMoreThan (IsOctet s) P End begun) z) at so in
      onwards (and_then _ _ _ _ _ _ here (list_another (IsOctet s) P End begun s others never_at)) (octet_reads s others) (λ _. never_avoids _)

  -- another octet: the end is to be read
  pub list_close : (begun : List V) {text rest : List ℕ} (x : ℕ) (others : List ℕ) → Continues Whole text (IsMoreThan (IsOctet s) P End begun) rest → rest ≡ x ∷ others → (x ≡ s → ⊥)
      → Continues Whole text (Ending End begun) rest
  list_close begun {text} {rest} x others so e other =
      let here : Continues Whole text (IsMoreThan (IsOctet s) P End begun) (x ∷ others) = subst (λ z. Continues Whole text (IsMoreThan (IsOctet s) P End begun) z) e so in
      subst (λ z. Continues Whole text (Ending End begun) z) (sym e) (and_then _ _ _ _ _ _ here (list_ending (IsOctet s) P End begun x others (octet_never s x other)))

  -- the text ends
  pub list_open : (begun : List V) {text rest : List ℕ} (q : List V → ℕ → Bool) → Continues Whole text (IsMoreThan (IsOctet s) P End begun) rest → length rest ≡ 0 → IsViable End [] → StopsReading Whole q text More
  list_open begun {text} {rest} q so e some = so.stops q More (subst (λ z. IsViable (IsMoreThan (IsOctet s) P End begun) z) (sym (no_octets rest e)) (more_viable (IsOctet s) P End begun some))
