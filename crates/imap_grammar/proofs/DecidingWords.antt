-- Whether octets are a word of a language, with a value that passes, and whether they can be completed to one: both are decided for
-- what is made of languages of which they are.
use Rattle.std.proofs.Common.{◌≡◌, ℕ, ◌-◌, ◌≤◌, List, [], ◌∷◌, ◌++◌, length, replicate, None, Some, ◌⊎◌, inl, inr, refl, sym, ap, ◌∙◌, subst, append_assoc, append-nil, length-append, arith}
use Rattle.std.proofs.lemmas.List.{length-replicate}
use Rattle.imap_words.specs.Languages.{Then, After, Or, Is, IsCounted, SaysItself, Maybe, IsViable}
use Rattle.imap_words.proofs.TokenSteps.{Compared, Same, Longer, Shorter, compared}
use Rattle.imap_words.proofs.Going.{Within, is_viable}
use Rattle.imap_words.proofs.StringThen.{counted_viable}
use Rattle.imap_grammar.proofs.Deciding.{Parting, decide_parting, decide_by, decide_both, decide_either, decide_same, decide_within, decide_same_list}

-- whether a value of the octets passes, whatever is asked of it
abbrev pub Searches : {V : Type 0} → (List ℕ → V → Type 0) → Type 1
Searches {V} P = (octets : List ℕ) (R : V → Type 0) → ((v : V) → Dec (R v)) → Dec ((v : V) × P octets v × R v)

pub record Known {V : Type 0} (P : List ℕ → V → Type 0) : Type 1 where
  pub search : Searches P
  pub judge : (octets : List ℕ) → Dec (IsViable P octets)

-- and it has a word
pub record Decided {V : Type 0} (P : List ℕ → V → Type 0) : Type 1 where
  pub known : Known P
  pub some : IsViable P []

-- ---- the same language

viable_within : {V : Type 0} {P Q : List ℕ → V → Type 0} → Within P Q → (octets : List ℕ) → IsViable P octets → IsViable Q octets
viable_within to octets viable = record { rest = viable.rest; value = viable.value; is_word = to (octets ++ viable.rest) viable.value viable.is_word }

pub same_known : {V : Type 0} {P Q : List ℕ → V → Type 0} → Within P Q → Within Q P → Known P → Known Q
same_known to from k = record {
  search = λ octets R decide. decide_by (λ s. (s.0, to octets s.0 s.1, s.2)) (λ s. (s.0, from octets s.0 s.1, s.2)) (k.search octets R decide);
  judge = λ octets. decide_by (viable_within to octets) (viable_within from octets) (k.judge octets);
}

pub same_decided : {V : Type 0} {P Q : List ℕ → V → Type 0} → Within P Q → Within Q P → Decided P → Decided Q
same_decided to from d = record { known = same_known to from d.known; some = viable_within to [] d.some }

-- ---- nothing more, alternatives, octets whatever they are

-- no word at all
pub none_known : {V : Type 0} → Known {V = V} (λ octets value. ⊥)
none_known = record { search = λ octets R decide. no (λ s. s.1); judge = λ octets. no (λ viable. viable.is_word) }

pub left_empty : (a b : List ℕ) → a ++ b ≡ [] → a ≡ []
left_empty [] b e = refl
left_empty (x ∷ a) b e = cc e

pub is_decided : {V : Type 0} (v : V) → Decided (Is v)
is_decided {V} v = record { known = record { search = λ octets R decide. decide_by (to octets R) (from octets R) (decide_both (decide_same_list octets []) (decide v)); judge = judge }; some = is_viable v }
  where
    to : (octets : List ℕ) (R : V → Type 0) → (octets ≡ []) × R v → (w : V) × Is v octets w × R w
    to octets R s = (v, (s.0, refl), s.1)

    from : (octets : List ℕ) (R : V → Type 0) → (w : V) × Is v octets w × R w → (octets ≡ []) × R v
    from octets R s = (s.1.0, subst R s.1.1 s.2)

    judge : (octets : List ℕ) → Dec (IsViable (Is v) octets)
    judge octets = decide_by (λ none. record { rest = []; value = v; is_word = (append-nil octets ∙ none, refl) }) (λ (viable : IsViable (Is v) octets). left_empty octets viable.rest viable.is_word.0) (decide_same_list octets [])

module _ {V : Type 0} {P Q : List ℕ → V → Type 0} where
  or_search : Searches P → Searches Q → Searches (Or P Q)
  or_search p q octets R decide = decide_by to from (decide_either (p octets R decide) (q octets R decide))
    where
      to : ((v : V) × P octets v × R v) ⊎ ((v : V) × Q octets v × R v) → (v : V) × Or P Q octets v × R v
      to (inl s) = (s.0, inl s.1, s.2)
      to (inr s) = (s.0, inr s.1, s.2)

      by : (v : V) → Or P Q octets v → R v → ((v : V) × P octets v × R v) ⊎ ((v : V) × Q octets v × R v)
      by v (inl is) r = inl (v, is, r)
      by v (inr is) r = inr (v, is, r)

      from : (v : V) × Or P Q octets v × R v → ((v : V) × P octets v × R v) ⊎ ((v : V) × Q octets v × R v)
      from s = by s.0 s.1 s.2

  left_viable : (octets : List ℕ) → IsViable P octets → IsViable (Or P Q) octets
  left_viable octets viable = record { rest = viable.rest; value = viable.value; is_word = inl viable.is_word }

  or_judge : (octets : List ℕ) → Dec (IsViable P octets) → Dec (IsViable Q octets) → Dec (IsViable (Or P Q) octets)
  or_judge octets p q = decide_by to from (decide_either p q)
    where
      to : IsViable P octets ⊎ IsViable Q octets → IsViable (Or P Q) octets
      to (inl viable) = left_viable octets viable
      to (inr viable) = record { rest = viable.rest; value = viable.value; is_word = inr viable.is_word }

      by : (rest : List ℕ) (v : V) → Or P Q (octets ++ rest) v → IsViable P octets ⊎ IsViable Q octets
      by rest v (inl is) = inl (record { rest = rest; value = v; is_word = is })
      by rest v (inr is) = inr (record { rest = rest; value = v; is_word = is })

      from : IsViable (Or P Q) octets → IsViable P octets ⊎ IsViable Q octets
      from viable = by viable.rest viable.value viable.is_word

  pub or_known : Known P → Known Q → Known (Or P Q)
  or_known p q = record { search = or_search p.search q.search; judge = λ octets. or_judge octets (p.judge octets) (q.judge octets) }

  pub or_decided : Decided P → Known Q → Decided (Or P Q)
  or_decided p q = record { known = or_known p.known q; some = left_viable [] p.some }

abbrev zeros : ℕ → List ℕ
zeros m = replicate m 0

pub counted_decided : (n : ℕ) → Decided (IsCounted n)
counted_decided n = record { known = record { search = λ octets R decide. decide_by (to octets R) (from octets R) (decide_both (decide_same (length octets) n) (decide octets)); judge = judge }; some = counted_viable n }
  where
    to : (octets : List ℕ) (R : List ℕ → Type 0) → (length octets ≡ n) × R octets → (w : List ℕ) × IsCounted n octets w × R w
    to octets R s = (octets, (s.0, refl), s.1)

    from : (octets : List ℕ) (R : List ℕ → Type 0) → (w : List ℕ) × IsCounted n octets w × R w → (length octets ≡ n) × R octets
    from octets R s = (s.1.0, subst R s.1.1 s.2)

    lacking : (m : ℕ) → length (zeros m) ≡ m
    lacking m = length-replicate m 0

    filled : (octets : List ℕ) → length octets ≤ n → IsViable (IsCounted n) octets
    filled octets few = record {
      rest = zeros (n - length octets);
      value = octets ++ zeros (n - length octets);
      is_word = (omega (arith, few, length-append octets (zeros (n - length octets)), lacking (n - length octets)), refl);
    }

    judge : (octets : List ℕ) → Dec (IsViable (IsCounted n) octets)
    judge octets = decide_by (filled octets) (λ (viable : IsViable (IsCounted n) octets). omega (arith, viable.is_word.0, length-append octets viable.rest)) (decide_within (length octets) n)

-- ---- sequences

-- what a word of the first leaves can be completed
abbrev pub Leads : {V W : Type 0} → (List ℕ → V → Type 0) → (V → List ℕ → W → Type 0) → Type 0
Leads {V} P Q = (octets : List ℕ) (v : V) → P octets v → IsViable (Q v) []

-- a word of the two, whose value passes
abbrev Both : {V W : Type 0} → (List ℕ → V → Type 0) → (V → List ℕ → W → Type 0) → (W → Type 0) → List ℕ → List ℕ → Type 0
Both {V} {W} P Q R a b = (v : V) × P a v × ((w : W) × Q v b w × R w)

-- a word of the first, and a front of the second
abbrev Begun : {V W : Type 0} → (List ℕ → V → Type 0) → (V → List ℕ → W → Type 0) → List ℕ → List ℕ → Type 0
Begun {V} P Q a b = (v : V) × P a v × IsViable (Q v) b

module _ {V W : Type 0} {P : List ℕ → V → Type 0} {Q : V → List ℕ → W → Type 0} where
  pub then_search : Searches P → ((v : V) → Searches (Q v)) → Searches (Then P Q)
  then_search p q octets R decide = decide_by to from (decide_parting octets (Both P Q R) (λ a b e. p a (λ v. (w : W) × Q v b w × R w) (λ v. q v b R decide)))
    where
      to : Parting (Both P Q R) octets → (w : W) × Then P Q octets w × R w
      to p = let h = p.holds in (h.2.0, record { value = h.0; front = p.front; back = p.back; whole = p.whole; first = h.1; second = h.2.1 }, h.2.2)

      from : (w : W) × Then P Q octets w × R w → Parting (Both P Q R) octets
      from s = let is = s.1 in record { front = is.front; back = is.back; whole = is.whole; holds = (is.value, is.first, (s.0, is.second, s.2)) }

  pub first_leads : Leads P Q → (octets : List ℕ) → IsViable P octets → IsViable (Then P Q) octets
  first_leads leads octets viable =
      let more = leads (octets ++ viable.rest) viable.value viable.is_word in
      record { rest = viable.rest ++ more.rest; value = more.value; is_word = record { value = viable.value; front = octets ++ viable.rest; back = more.rest; whole = sym (append_assoc octets viable.rest more.rest); first = viable.is_word; second = more.is_word } }

  judge_then : (octets : List ℕ) → Leads P Q → Dec (IsViable P octets) → Dec (Parting (Begun P Q) octets) → Dec (IsViable (Then P Q) octets)
  judge_then octets leads first second = decide_by to from (decide_either first second)
    where
      to : IsViable P octets ⊎ Parting (Begun P Q) octets → IsViable (Then P Q) octets
      to (inl viable) = first_leads leads octets viable
      to (inr p) =
          let h = p.holds in
          record { rest = h.2.rest; value = h.2.value; is_word = record { value = h.0; front = p.front; back = p.back ++ h.2.rest; whole = ap (λ z. z ++ h.2.rest) p.whole ∙ append_assoc p.front p.back h.2.rest; first = h.1; second = h.2.is_word } }

      by : (rest front back : List ℕ) (v : V) (w : W) → P front v → Q v back w → Compared octets front rest back → IsViable P octets ⊎ Parting (Begun P Q) octets
      by rest front back v w is other (Same s) = inl (record { rest = []; value = v; is_word = subst (λ z. P z v) (sym (append-nil octets ∙ s)) is })
      by rest front back v w is other (Longer y c s t) = inr (record { front = front; back = y ∷ c; whole = s; holds = (v, is, record { rest = rest; value = w; is_word = subst (λ z. Q v z w) t other }) })
      by rest front back v w is other (Shorter y c s t) = inl (record { rest = y ∷ c; value = v; is_word = subst (λ z. P z v) s is })

      from : IsViable (Then P Q) octets → IsViable P octets ⊎ Parting (Begun P Q) octets
      from viable = let is = viable.is_word in by viable.rest is.front is.back is.value viable.value is.first is.second (compared octets is.front viable.rest is.back is.whole)

  pub then_known : Known P → ((v : V) → Known (Q v)) → Leads P Q → Known (Then P Q)
  then_known p q leads = record {
    search = then_search p.search (λ v. (q v).search);
    judge = λ octets. judge_then octets leads (p.judge octets) (decide_parting octets (Begun P Q) (λ a b e. p.search a (λ v. IsViable (Q v) b) (λ v. (q v).judge b)));
  }

  pub then_decided : Decided P → ((v : V) → Decided (Q v)) → Decided (Then P Q)
  then_decided p q = record { known = then_known p.known (λ v. (q v).known) (λ octets v is. (q v).some); some = first_leads (λ octets v is. (q v).some) [] p.some }

pub after_decided : {V W : Type 0} {P : List ℕ → V → Type 0} {Q : List ℕ → W → Type 0} → Decided P → Decided Q → Decided (After P Q)
after_decided p q = then_decided p (λ _. q)

pub maybe_decided : {V : Type 0} {P : List ℕ → V → Type 0} → Decided P → Decided (Maybe P)
maybe_decided p = or_decided (is_decided None) (then_decided p (λ v. is_decided (Some v))).known

-- ---- a word that is its value

pub itself_decided : {V : Type 0} {P : List ℕ → V → Type 0} → Decided P → Decided (SaysItself P)
itself_decided {V} {P} p = record { known = record { search = search_itself; judge = λ octets. decide_by (to octets) (from octets) (p.known.judge octets) }; some = to [] p.some }
  where
    to : (octets : List ℕ) → IsViable P octets → IsViable (SaysItself P) octets
    to octets viable = record { rest = viable.rest; value = octets ++ viable.rest; is_word = record { says = viable.value; is_word = viable.is_word; same = refl } }

    from : (octets : List ℕ) → IsViable (SaysItself P) octets → IsViable P octets
    from octets viable = record { rest = viable.rest; value = viable.is_word.says; is_word = viable.is_word.is_word }

    search_itself : Searches (SaysItself P)
    search_itself octets R decide = decide_by into out (p.known.search octets (λ v. R octets) (λ v. decide octets))
      where
        into : (v : V) × P octets v × R octets → (w : List ℕ) × SaysItself P octets w × R w
        into s = (octets, record { says = s.0; is_word = s.1; same = refl }, s.2)

        out : (w : List ℕ) × SaysItself P octets w × R w → (v : V) × P octets v × R octets
        out s = (s.1.says, s.1.is_word, subst R s.1.same s.2)
