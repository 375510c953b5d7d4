-- Sequences of languages, grouped in other ways.
use Rattle.std.proofs.Common.{◌≡◌, ℕ, List, [], ◌∷◌, ◌++◌, inl, inr, refl, sym, ap, ◌∙◌, subst, append_assoc, append-nil}
use Rattle.imap_words.specs.Languages.{Then, After, Or, Is, IsTail, IsList}
use Rattle.imap_words.specs.Going.{Continues}
use Rattle.imap_words.proofs.Composing.{NeverAt}
use Rattle.imap_words.proofs.Going.{Within, same_continues}
use Rattle.imap_words.proofs.Starting.{same_at}
use Rattle.imap_words.proofs.StringLaws.{parts_continue}

-- (A B) C is A (B C)
pub regroup : {V U W : Type 0} (A : List ℕ → U → Type 0) (B : U → List ℕ → V → Type 0) (C : V → List ℕ → W → Type 0) (text : List ℕ) → Continues (Then (Then A B) C) text (Then A (λ u. Then (B u) C)) text
regroup A B C text = parts_continue (Then A B) A B C (λ octets v is. is) (λ octets v is. is) text

-- nothing, and then what is left
pub nothing_then : {V W : Type 0} (v : V) (C : V → List ℕ → W → Type 0) (text : List ℕ) → Continues (Then (Is v) C) text (C v) text
nothing_then v C text = same_continues (Then (Is v) C) (C v) text
    (λ octets w is. subst (λ z. C v z w) (sym (is.whole ∙ ap (λ z. z ++ is.back) is.first.0)) (subst (λ z. C z is.back w) is.first.1 is.second))
    (λ octets w is. record { value = v; front = []; back = octets; whole = refl; first = (refl, refl); second = is })

-- an alternative that the next octet decides, and what follows it
module _ {V W : Type 0} (A B : List ℕ → V → Type 0) (C : V → List ℕ → W → Type 0) (x : ℕ) (xs : List ℕ) where
  pub then_left : NeverAt B x → Continues (Then (Or A B) C) (x ∷ xs) (Then A C) (x ∷ xs)
  then_left none = same_at (Then (Or A B) C) (Then A C) x xs into (λ octets w is. record { value = is.value; front = is.front; back = is.back; whole = is.whole; first = inl is.first; second = is.second })
    where
      by_first : (a b : List ℕ) (w : W) (more : List ℕ) (is : Then (Or A B) C a w) → a ++ b ≡ x ∷ more → Or A B is.front is.value → Then A C a w
      by_first a b w more is e (inl first) = record { value = is.value; front = is.front; back = is.back; whole = is.whole; first = first; second = is.second }
      by_first a b w more is e (inr other) = absurd (none is.front (is.back ++ b) is.value more other (sym (append_assoc is.front is.back b) ∙ (ap (λ z. z ++ b) (sym is.whole) ∙ e)))

      into : (a b : List ℕ) (w : W) (more : List ℕ) → Then (Or A B) C a w → a ++ b ≡ x ∷ more → Then A C a w
      into a b w more is e = by_first a b w more is e is.first

  pub then_right : NeverAt A x → Continues (Then (Or A B) C) (x ∷ xs) (Then B C) (x ∷ xs)
  then_right none = same_at (Then (Or A B) C) (Then B C) x xs into (λ octets w is. record { value = is.value; front = is.front; back = is.back; whole = is.whole; first = inr is.first; second = is.second })
    where
      by_first : (a b : List ℕ) (w : W) (more : List ℕ) (is : Then (Or A B) C a w) → a ++ b ≡ x ∷ more → Or A B is.front is.value → Then B C a w
      by_first a b w more is e (inl other) = absurd (none is.front (is.back ++ b) is.value more other (sym (append_assoc is.front is.back b) ∙ (ap (λ z. z ++ b) (sym is.whole) ∙ e)))
      by_first a b w more is e (inr second) = record { value = is.value; front = is.front; back = is.back; whole = is.whole; first = second; second = is.second }

      into : (a b : List ℕ) (w : W) (more : List ℕ) → Then (Or A B) C a w → a ++ b ≡ x ∷ more → Then B C a w
      into a b w more is e = by_first a b w more is e is.first

-- the value is told by another one
module _ {V U W : Type 0} (A : List ℕ → V → Type 0) (f : V → U) (C : U → List ℕ → W → Type 0) where
  pub through_value : (text : List ℕ) → Continues (Then A (λ v. C (f v))) text (Then (Then A (λ v. Is (f v))) C) text
  through_value text = same_continues (Then A (λ v. C (f v))) (Then (Then A (λ v. Is (f v))) C) text to from
    where
      to : Within (Then A (λ v. C (f v))) (Then (Then A (λ v. Is (f v))) C)
      to octets w is = record {
        value = f is.value;
        front = is.front;
        back = is.back;
        whole = is.whole;
        first = record { value = is.value; front = is.front; back = []; whole = sym (append-nil is.front); first = is.first; second = (refl, refl) };
        second = is.second;
      }

      from : Within (Then (Then A (λ v. Is (f v))) C) (Then A (λ v. C (f v)))
      from octets w is =
          let a = is.first in
          record {
            value = a.value;
            front = a.front;
            back = is.back;
            whole = is.whole ∙ ap (λ z. z ++ is.back) (a.whole ∙ (ap (λ z. a.front ++ z) a.second.0 ∙ append-nil a.front));
            first = a.first;
            second = subst (λ z. C z is.back w) a.second.1 is.second;
          }

-- a list whose end has two parts
module _ {V S E F : Type 0} (Separator : List ℕ → S → Type 0) (P : List ℕ → V → Type 0) (A : List ℕ → E → Type 0) (B : List ℕ → F → Type 0) where
  tail_parts : (octets : List ℕ) (vs : List V) → IsTail Separator P (After A B) octets vs → (front back : List ℕ) × (b : F) × (octets ≡ front ++ back) × IsTail Separator P A front vs × B back b
  tail_parts octets [] is = let both = is.1 in (both.front, both.back, is.0, both.whole, (both.value, both.first), both.second)
  tail_parts octets (v ∷ vs) is =
      let more = tail_parts is.3 vs is.7 in (
        is.1 ++ (is.2 ++ more.0),
        more.1,
        more.2,
        is.4 ∙ (ap (λ z. is.1 ++ (is.2 ++ z)) more.3 ∙ (ap (λ z. is.1 ++ z) (sym (append_assoc is.2 more.0 more.1)) ∙ sym (append_assoc is.1 (is.2 ++ more.0) more.1))),
        (is.0, is.1, is.2, more.0, refl, is.5, is.6, more.4),
        more.5,
      )

  tail_whole : (front back : List ℕ) (b : F) (vs : List V) → IsTail Separator P A front vs → B back b → IsTail Separator P (After A B) (front ++ back) vs
  tail_whole front back b [] is last = (b, record { value = is.0; front = front; back = back; whole = refl; first = is.1; second = last })
  tail_whole front back b (v ∷ vs) is last = (
    is.0,
    is.1,
    is.2,
    is.3 ++ back,
    ap (λ z. z ++ back) is.4 ∙ (append_assoc is.1 (is.2 ++ is.3) back ∙ ap (λ z. is.1 ++ z) (append_assoc is.2 is.3 back)),
    is.5,
    is.6,
    tail_whole is.3 back b vs is.7 last,
  )

  pub list_apart : Within (IsList Separator P (After A B)) (Then (IsList Separator P A) (λ vs. After B (Is vs)))
  list_apart octets vs is =
      let rest = is.second in
      let parts = tail_parts is.back rest.0 rest.2 in
      record {
        value = vs;
        front = is.front ++ parts.0;
        back = parts.1;
        whole = is.whole ∙ (ap (λ z. is.front ++ z) parts.3 ∙ sym (append_assoc is.front parts.0 parts.1));
        first = record { value = is.value; front = is.front; back = parts.0; whole = refl; first = is.first; second = (rest.0, rest.1, parts.4) };
        second = record { value = parts.2; front = parts.1; back = []; whole = sym (append-nil parts.1); first = parts.5; second = (refl, refl) };
      }

  pub list_joined : Within (Then (IsList Separator P A) (λ vs. After B (Is vs))) (IsList Separator P (After A B))
  list_joined octets vs is =
      let list = is.first in
      let last = is.second in
      let more = list.second in
      let at_end : is.back ≡ last.front = last.whole ∙ (ap (λ z. last.front ++ z) last.second.0 ∙ append-nil last.front) in
      record {
        value = list.value;
        front = list.front;
        back = list.back ++ is.back;
        whole = is.whole ∙ (ap (λ z. z ++ is.back) list.whole ∙ append_assoc list.front list.back is.back);
        first = list.first;
        second = (more.0, last.second.1 ∙ more.1, tail_whole list.back is.back last.value more.0 more.2 (subst (λ z. B z last.value) (sym at_end) last.first));
      }

-- ---- parts that are the same

pub first_same : {V W : Type 0} (A B : List ℕ → V → Type 0) (C : V → List ℕ → W → Type 0) → Within A B → Within B A → (text : List ℕ) → Continues (Then A C) text (Then B C) text
first_same A B C to from text = same_continues (Then A C) (Then B C) text
    (λ octets w is. record { value = is.value; front = is.front; back = is.back; whole = is.whole; first = to is.front is.value is.first; second = is.second })
    (λ octets w is. record { value = is.value; front = is.front; back = is.back; whole = is.whole; first = from is.front is.value is.first; second = is.second })

pub second_same : {V W : Type 0} (A : List ℕ → V → Type 0) (B C : V → List ℕ → W → Type 0) → ((v : V) → Within (B v) (C v)) → ((v : V) → Within (C v) (B v)) → (text : List ℕ) → Continues (Then A B) text (Then A C) text
second_same A B C to from text = same_continues (Then A B) (Then A C) text
    (λ octets w is. record { value = is.value; front = is.front; back = is.back; whole = is.whole; first = is.first; second = to is.value is.back w is.second })
    (λ octets w is. record { value = is.value; front = is.front; back = is.back; whole = is.whole; first = is.first; second = from is.value is.back w is.second })

-- a value that is told after an end is told at once
pub mapped_end : {V U E : Type 0} (P : List ℕ → V → Type 0) (f : V → U) (End : List ℕ → E → Type 0) (text : List ℕ) → Continues (Then P (λ v. Then (After End (Is v)) (λ w. Is (f w)))) text (Then P (λ v. After End (Is (f v)))) text
mapped_end {V} {U} P f End text = second_same P (λ v. Then (After End (Is v)) (λ w. Is (f w))) (λ v. After End (Is (f v))) to from text
  where
    to : (v : V) → Within (Then (After End (Is v)) (λ w. Is (f w))) (After End (Is (f v)))
    to v octets u is =
        let a = is.first in
        record {
          value = a.value;
          front = a.front;
          back = a.back ++ is.back;
          whole = is.whole ∙ (ap (λ z. z ++ is.back) a.whole ∙ append_assoc a.front a.back is.back);
          first = a.first;
          second = (ap (λ z. z ++ is.back) a.second.0 ∙ is.second.0, is.second.1 ∙ ap f a.second.1);
        }

    from : (v : V) → Within (After End (Is (f v))) (Then (After End (Is v)) (λ w. Is (f w)))
    from v octets u is = record {
      value = v;
      front = octets;
      back = [];
      whole = sym (append-nil octets);
      first = record { value = is.value; front = is.front; back = is.back; whole = is.whole; first = is.first; second = (is.second.0, refl) };
      second = (refl, is.second.1);
    }
