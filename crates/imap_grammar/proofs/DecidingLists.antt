-- Whether octets are a list, or can be completed to one.
use Rattle.std.proofs.Common.{◌≡◌, ℕ, zero, suc, ◌<◌, ◌≤◌, List, [], ◌∷◌, ◌++◌, length, ◌⊎◌, inl, inr, refl, sym, ap, ◌∙◌, subst, append_assoc, append-nil, length-append, arith}
use Rattle.imap_words.specs.Languages.{Then, After, Is, IsOctet, IsTail, IsMoreThan, IsList, IsViable}
use Rattle.imap_words.proofs.TokenSteps.{Compared, Same, Longer, Shorter, compared}
use Rattle.imap_words.proofs.Going.{Within}
use Rattle.imap_grammar.proofs.Deciding.{Parting, decide_parting, decide_by, decide_either}
use Rattle.imap_grammar.proofs.DecidingWords.{Searches, Known, Decided, same_decided, then_decided, after_decided, is_decided}

-- `*S end`
abbrev pub Row : {V E : Type 0} → (List ℕ → V → Type 0) → (List ℕ → E → Type 0) → List ℕ → List V → Type 0
Row {E} S End octets [] = (e : E) × End octets e
Row S End octets (v ∷ vs) = (front back : List ℕ) × (octets ≡ front ++ back) × S front v × Row S End back vs

-- no word is empty
abbrev pub Nonempty : {V : Type 0} → (List ℕ → V → Type 0) → Type 0
Nonempty {V} P = (v : V) → P [] v → ⊥

pub octet_nonempty : (x : ℕ) → Nonempty (IsOctet x)
octet_nonempty x v is = cc is.0

pub then_nonempty : {V W : Type 0} {P : List ℕ → V → Type 0} {Q : V → List ℕ → W → Type 0} → Nonempty P → Nonempty (Then P Q)
then_nonempty {P} some w is = at is.front is.back is.whole is.first
  where
    at : (front back : List ℕ) → [] ≡ front ++ back → P front is.value → ⊥
    at [] back e p = some is.value p
    at (x ∷ front) back e p = cc e

-- an item, and a row after it whose values pass with the item's
abbrev Item : {V E : Type 0} → (List ℕ → V → Type 0) → (List ℕ → E → Type 0) → (List V → Type 0) → List ℕ → List ℕ → Type 0
Item {V} S End R a b = (v : V) × S a v × ((vs : List V) × Row S End b vs × R (v ∷ vs))

-- an item, and a front of a row after it
abbrev ItemBegun : {V E : Type 0} → (List ℕ → V → Type 0) → (List ℕ → E → Type 0) → List ℕ → List ℕ → Type 0
ItemBegun {V} S End a b = (v : V) × S a v × IsViable (Row S End) b

module _ {V E : Type 0} {S : List ℕ → V → Type 0} {End : List ℕ → E → Type 0} (some : Nonempty S) where
  search_step : Searches S → Searches End → (octets : List ℕ) → ((b : List ℕ) → length b < length octets → (R : List V → Type 0) → ((vs : List V) → Dec (R vs)) → Dec ((vs : List V) × Row S End b vs × R vs))
      → (R : List V → Type 0) → ((vs : List V) → Dec (R vs)) → Dec ((vs : List V) × Row S End octets vs × R vs)
  search_step s end octets again R decide = decide_by to from (decide_either (end octets (λ e. R []) (λ e. decide [])) (decide_parting octets (Item S End R) item))
    where
      item : (a b : List ℕ) → octets ≡ a ++ b → Dec (Item S End R a b)
      item [] b e = no (λ h. some h.0 h.1)
      item (x ∷ a) b e = s (x ∷ a) (λ v. (vs : List V) × Row S End b vs × R (v ∷ vs)) (λ v. again b (omega (arith, ap length e, length-append (x ∷ a) b)) (λ vs. R (v ∷ vs)) (λ vs. decide (v ∷ vs)))

      to : ((e : E) × End octets e × R []) ⊎ Parting (Item S End R) octets → (vs : List V) × Row S End octets vs × R vs
      to (inl h) = ([], (h.0, h.1), h.2)
      to (inr p) = let h = p.holds in (h.0 ∷ h.2.0, (p.front, p.back, p.whole, h.1, h.2.1), h.2.2)

      by : (vs : List V) → Row S End octets vs → R vs → ((e : E) × End octets e × R []) ⊎ Parting (Item S End R) octets
      by [] is r = inl (is.0, is.1, r)
      by (v ∷ vs) is r = inr (record { front = is.0; back = is.1; whole = is.2; holds = (v, is.3, (vs, is.4, r)) })

      from : (vs : List V) × Row S End octets vs × R vs → ((e : E) × End octets e × R []) ⊎ Parting (Item S End R) octets
      from h = by h.0 h.1 h.2

  search_within : Searches S → Searches End → (n : ℕ) (octets : List ℕ) → length octets ≤ n → (R : List V → Type 0) → ((vs : List V) → Dec (R vs)) → Dec ((vs : List V) × Row S End octets vs × R vs)
  search_within s end zero octets few = search_step s end octets (λ b less. absurd (omega (arith, few, less)))
  search_within s end (suc n) octets few = search_step s end octets (λ b less. search_within s end n b (omega (arith, few, less)))

  pub row_search : Searches S → Searches End → Searches (Row S End)
  row_search s end octets = search_within s end (length octets) octets (omega arith)

  judge_step : Known S → Decided End → (octets : List ℕ) → ((b : List ℕ) → length b < length octets → Dec (IsViable (Row S End) b)) → Dec (IsViable (Row S End) octets)
  judge_step s end octets again = decide_by to from (decide_either (end.known.judge octets) (decide_either (s.judge octets) (decide_parting octets (ItemBegun S End) item)))
    where
      item : (a b : List ℕ) → octets ≡ a ++ b → Dec (ItemBegun S End a b)
      item [] b e = no (λ h. some h.0 h.1)
      item (x ∷ a) b e = s.search (x ∷ a) (λ v. IsViable (Row S End) b) (λ v. again b (omega (arith, ap length e, length-append (x ∷ a) b)))

      to : IsViable End octets ⊎ (IsViable S octets ⊎ Parting (ItemBegun S End) octets) → IsViable (Row S End) octets
      to (inl viable) = record { rest = viable.rest; value = []; is_word = (viable.value, viable.is_word) }
      to (inr (inl viable)) = record {
        rest = viable.rest ++ end.some.rest;
        value = viable.value ∷ [];
        is_word = (octets ++ viable.rest, end.some.rest, sym (append_assoc octets viable.rest end.some.rest), viable.is_word, (end.some.value, end.some.is_word));
      }
      to (inr (inr p)) =
          let h = p.holds in
          record { rest = h.2.rest; value = h.0 ∷ h.2.value; is_word = (p.front, p.back ++ h.2.rest, ap (λ z. z ++ h.2.rest) p.whole ∙ append_assoc p.front p.back h.2.rest, h.1, h.2.is_word) }

      parted : (rest front back : List ℕ) (v : V) (vs : List V) → S front v → Row S End back vs → Compared octets front rest back → IsViable S octets ⊎ Parting (ItemBegun S End) octets
      parted rest front back v vs is others (Same e) = inl (record { rest = []; value = v; is_word = subst (λ z. S z v) (sym (append-nil octets ∙ e)) is })
      parted rest front back v vs is others (Longer y c e f) = inr (record { front = front; back = y ∷ c; whole = e; holds = (v, is, record { rest = rest; value = vs; is_word = subst (λ z. Row S End z vs) f others }) })
      parted rest front back v vs is others (Shorter y c e f) = inl (record { rest = y ∷ c; value = v; is_word = subst (λ z. S z v) e is })

      by : (rest : List ℕ) (vs : List V) → Row S End (octets ++ rest) vs → IsViable End octets ⊎ (IsViable S octets ⊎ Parting (ItemBegun S End) octets)
      by rest [] is = inl (record { rest = rest; value = is.0; is_word = is.1 })
      by rest (v ∷ vs) is = inr (parted rest is.0 is.1 v vs is.3 is.4 (compared octets is.0 rest is.1 is.2))

      from : IsViable (Row S End) octets → IsViable End octets ⊎ (IsViable S octets ⊎ Parting (ItemBegun S End) octets)
      from viable = by viable.rest viable.value viable.is_word

  judge_within : Known S → Decided End → (n : ℕ) (octets : List ℕ) → length octets ≤ n → Dec (IsViable (Row S End) octets)
  judge_within s end zero octets few = judge_step s end octets (λ b less. absurd (omega (arith, few, less)))
  judge_within s end (suc n) octets few = judge_step s end octets (λ b less. judge_within s end n b (omega (arith, few, less)))

  pub row_decided : Known S → Decided End → Decided (Row S End)
  row_decided s end = record {
    known = record { search = row_search s.search end.known.search; judge = λ octets. judge_within s end (length octets) octets (omega arith) };
    some = record { rest = end.some.rest; value = []; is_word = (end.some.value, end.some.is_word) };
  }

-- ---- lists with separators

module _ {V W E : Type 0} (Separator : List ℕ → W → Type 0) (P : List ℕ → V → Type 0) (End : List ℕ → E → Type 0) where
  to_row : (octets : List ℕ) (vs : List V) → IsTail Separator P End octets vs → Row (After Separator P) End octets vs
  to_row octets [] is = is
  to_row octets (v ∷ vs) is = (is.1 ++ is.2, is.3, is.4 ∙ sym (append_assoc is.1 is.2 is.3), record { value = is.0; front = is.1; back = is.2; whole = refl; first = is.5; second = is.6 }, to_row is.3 vs is.7)

  from_row : (octets : List ℕ) (vs : List V) → Row (After Separator P) End octets vs → IsTail Separator P End octets vs
  from_row octets [] is = is
  from_row octets (v ∷ vs) is = let s = is.3 in (s.value, s.front, s.back, is.1, is.2 ∙ (ap (λ z. z ++ is.1) s.whole ∙ append_assoc s.front s.back is.1), s.first, s.second, from_row is.1 vs is.4)

  to_more : (begun : List V) → Within (Then (IsTail Separator P End) (λ more. Is (begun ++ more))) (IsMoreThan Separator P End begun)
  to_more begun octets values is = (is.value, is.second.1, subst (λ z. IsTail Separator P End z is.value) (sym (is.whole ∙ (ap (λ z. is.front ++ z) is.second.0 ∙ append-nil is.front))) is.first)

  from_more : (begun : List V) → Within (IsMoreThan Separator P End begun) (Then (IsTail Separator P End) (λ more. Is (begun ++ more)))
  from_more begun octets values is = record { value = is.0; front = octets; back = []; whole = sym (append-nil octets); first = is.2; second = (refl, is.1) }

pub list_decided : {V W E : Type 0} {Separator : List ℕ → W → Type 0} {P : List ℕ → V → Type 0} {End : List ℕ → E → Type 0}
    → Nonempty Separator → Decided Separator → Decided P → Decided End → Decided (IsList Separator P End)
list_decided {Separator} {P} {End} some separator p end =
    let row : Decided (Row (After Separator P) End) = row_decided (then_nonempty some) (after_decided separator p).known end in
    let tail : Decided (IsTail Separator P End) = same_decided (from_row Separator P End) (to_row Separator P End) row in
    then_decided p (λ first. same_decided (to_more Separator P End (first ∷ [])) (from_more Separator P End (first ∷ [])) (then_decided tail (λ more. is_decided (first ∷ [] ++ more))))
