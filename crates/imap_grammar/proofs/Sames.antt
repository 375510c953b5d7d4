-- Languages that have the same words, and what is left of a text where they stand for each other.
use Rattle.std.proofs.Common.{◌≡◌, ℕ, Bool, true, List, [], ◌∷◌, ◌++◌, inl, inr, refl, sym, ap, ◌∙◌, subst, append_assoc, append-nil}
use Rattle.imap_words.specs.Languages.{Then, After, Or, Is, IsTail, IsMoreThan, IsViable}
use Rattle.imap_words.specs.Reading.{BeginsAlike, BeginsIn, StopsReading}
use Rattle.imap_words.specs.declared.stop.Stop.{Stop}
use Rattle.imap_words.specs.declared.stop.Stop.TheVariants.{More, Bad, Memory}
use Rattle.imap_words.specs.Going.{Continues, Leaves}
use Rattle.imap_words.proofs.Composing.{Avoids, NeverAt}
use Rattle.imap_words.proofs.Going.{Within, and_then, same_continues, left_continues, right_continues}
use Rattle.imap_grammar.proofs.Optional.{leaves_by}

abbrev pub Same : {V : Type 0} → (List ℕ → V → Type 0) → (List ℕ → V → Type 0) → Type 0
Same P Q = Within P Q × Within Q P

-- ---- laws

pub same_self : {V : Type 0} (P : List ℕ → V → Type 0) → Same P P
same_self P = (λ octets v is. is, λ octets v is. is)

pub same_on : {V : Type 0} (P Q R : List ℕ → V → Type 0) → Same P Q → Same Q R → Same P R
same_on P Q R a b = (λ octets v is. b.0 octets v (a.0 octets v is), λ octets v is. a.1 octets v (b.1 octets v is))

pub same_turned : {V : Type 0} (P Q : List ℕ → V → Type 0) → Same P Q → Same Q P
same_turned P Q a = (a.1, a.0)

pub then_same : {V W : Type 0} (A B : List ℕ → V → Type 0) (C D : V → List ℕ → W → Type 0) → Same A B → ((v : V) → Same (C v) (D v)) → Same (Then A C) (Then B D)
then_same A B C D first second = (
  λ octets w is. record { value = is.value; front = is.front; back = is.back; whole = is.whole; first = first.0 is.front is.value is.first; second = (second is.value).0 is.back w is.second },
  λ octets w is. record { value = is.value; front = is.front; back = is.back; whole = is.whole; first = first.1 is.front is.value is.first; second = (second is.value).1 is.back w is.second },
)

pub first_same : {V W : Type 0} (A B : List ℕ → V → Type 0) (C : V → List ℕ → W → Type 0) → Same A B → Same (Then A C) (Then B C)
first_same A B C first = then_same A B C C first (λ v. same_self (C v))

pub second_same : {V W : Type 0} (A : List ℕ → V → Type 0) (C D : V → List ℕ → W → Type 0) → ((v : V) → Same (C v) (D v)) → Same (Then A C) (Then A D)
second_same A C D second = then_same A A C D (same_self A) second

-- (A B) C is A (B C)
pub then_apart : {V U W : Type 0} (A : List ℕ → U → Type 0) (B : U → List ℕ → V → Type 0) (C : V → List ℕ → W → Type 0) → Same (Then (Then A B) C) (Then A (λ u. Then (B u) C))
then_apart A B C = (
  λ octets w is.
      let s = is.first in
      record {
        value = s.value;
        front = s.front;
        back = s.back ++ is.back;
        whole = is.whole ∙ (ap (λ z. z ++ is.back) s.whole ∙ append_assoc s.front s.back is.back);
        first = s.first;
        second = record { value = is.value; front = s.back; back = is.back; whole = refl; first = s.second; second = is.second };
      },
  λ octets w is.
      let b = is.second in
      record {
        value = b.value;
        front = is.front ++ b.front;
        back = b.back;
        whole = is.whole ∙ (ap (λ z. is.front ++ z) b.whole ∙ sym (append_assoc is.front b.front b.back));
        first = record { value = is.value; front = is.front; back = b.front; whole = refl; first = is.first; second = b.first };
        second = b.second;
      },
)

-- nothing, and then what is left
pub is_then : {V W : Type 0} (v : V) (C : V → List ℕ → W → Type 0) → Same (Then (Is v) C) (C v)
is_then v C = (
  λ octets w is. subst (λ z. C v z w) (sym (is.whole ∙ ap (λ z. z ++ is.back) is.first.0)) (subst (λ z. C z is.back w) is.first.1 is.second),
  λ octets w is. record { value = v; front = []; back = octets; whole = refl; first = (refl, refl); second = is },
)

pub or_same : {V : Type 0} (A B C D : List ℕ → V → Type 0) → Same A B → Same C D → Same (Or A C) (Or B D)
or_same {V} A B C D a c = (to, from)
  where
    to : Within (Or A C) (Or B D)
    to octets v (inl is) = inl (a.0 octets v is)
    to octets v (inr is) = inr (c.0 octets v is)

    from : Within (Or B D) (Or A C)
    from octets v (inl is) = inl (a.1 octets v is)
    from octets v (inr is) = inr (c.1 octets v is)

-- alternatives, and then the same
pub or_then : {V W : Type 0} (A B : List ℕ → V → Type 0) (C : V → List ℕ → W → Type 0) → Same (Then (Or A B) C) (Or (Then A C) (Then B C))
or_then {V} {W} A B C = (λ octets w is. to octets w is is.first, from)
  where
    to : (octets : List ℕ) (w : W) (is : Then (Or A B) C octets w) → Or A B is.front is.value → Or (Then A C) (Then B C) octets w
    to octets w is (inl a) = inl (record { value = is.value; front = is.front; back = is.back; whole = is.whole; first = a; second = is.second })
    to octets w is (inr b) = inr (record { value = is.value; front = is.front; back = is.back; whole = is.whole; first = b; second = is.second })

    from : Within (Or (Then A C) (Then B C)) (Then (Or A B) C)
    from octets w (inl is) = record { value = is.value; front = is.front; back = is.back; whole = is.whole; first = inl is.first; second = is.second }
    from octets w (inr is) = record { value = is.value; front = is.front; back = is.back; whole = is.whole; first = inr is.first; second = is.second }

-- a list after its first items, and what follows it
module _ {V W E X : Type 0} (Separator : List ℕ → W → Type 0) (P : List ℕ → V → Type 0) (End : List ℕ → E → Type 0) (R : List V → List ℕ → X → Type 0) (begun : List V) where
  abbrev pub Steps : List ℕ → X → Type 0
  Steps = Or (After End (R begun)) (After Separator (Then P (λ v. Then (IsMoreThan Separator P End (begun ++ v ∷ [])) R)))

  to_steps : (octets : List ℕ) (x : X) (is : Then (IsMoreThan Separator P End begun) R octets x) (more : List V) → is.value ≡ begun ++ more → IsTail Separator P End is.front more → Steps octets x
  to_steps octets x is [] e tail = inl (record { value = tail.0; front = is.front; back = is.back; whole = is.whole; first = tail.1; second = subst (λ z. R z is.back x) (e ∙ append-nil begun) is.second })
  to_steps octets x is (v ∷ more) e tail = inr (record {
    value = tail.0;
    front = tail.1;
    back = tail.2 ++ (tail.3 ++ is.back);
    whole = is.whole ∙ (ap (λ z. z ++ is.back) tail.4 ∙ (append_assoc tail.1 (tail.2 ++ tail.3) is.back ∙ ap (λ z. tail.1 ++ z) (append_assoc tail.2 tail.3 is.back)));
    first = tail.5;
    second = record {
      value = v;
      front = tail.2;
      back = tail.3 ++ is.back;
      whole = refl;
      first = tail.6;
      second = record { value = is.value; front = tail.3; back = is.back; whole = refl; first = (more, e ∙ sym (append_assoc begun (v ∷ []) more), tail.7); second = is.second };
    };
  })

  from_steps : Within Steps (Then (IsMoreThan Separator P End begun) R)
  from_steps octets x (inl ends) = record { value = begun; front = ends.front; back = ends.back; whole = ends.whole; first = ([], sym (append-nil begun), (ends.value, ends.first)); second = ends.second }
  from_steps octets x (inr goes) =
      let item = goes.second in
      let list = item.second in
      let more = list.first in
      record {
        value = list.value;
        front = goes.front ++ (item.front ++ list.front);
        back = list.back;
        whole = goes.whole
            ∙ (ap (λ z. goes.front ++ z) (item.whole ∙ (ap (λ z. item.front ++ z) list.whole ∙ sym (append_assoc item.front list.front list.back))) ∙ sym (append_assoc goes.front (item.front ++ list.front) list.back));
        first = (item.value ∷ more.0, more.1 ∙ append_assoc begun (item.value ∷ []) more.0, (goes.value, goes.front, item.front, list.front, refl, goes.first, item.first, more.2));
        second = list.second;
      }

  pub more_steps : Same (Then (IsMoreThan Separator P End begun) R) Steps
  more_steps = (λ octets x is. to_steps octets x is is.first.0 is.first.1 is.first.2, from_steps)

-- ---- what holds of the one holds of the other

pub avoids_same : {V : Type 0} (p : ℕ → Bool) (P Q : List ℕ → V → Type 0) → Same P Q → Avoids p Q → Avoids p P
avoids_same p P Q same avoids a b v is begin = avoids a b v (same.0 a v is) begin

pub never_same : {V : Type 0} (x : ℕ) (P Q : List ℕ → V → Type 0) → Same P Q → NeverAt Q x → NeverAt P x
never_same x P Q same none a b v more is e = none a b v more (same.0 a v is) e

pub viable_same : {V : Type 0} (P Q : List ℕ → V → Type 0) (text : List ℕ) → Same P Q → IsViable Q text → IsViable P text
viable_same P Q text same some = record { rest = some.rest; value = some.value; is_word = same.1 (text ++ some.rest) some.value some.is_word }

pub or_avoids : {V : Type 0} (p : ℕ → Bool) (P Q : List ℕ → V → Type 0) → Avoids p P → Avoids p Q → Avoids p (Or P Q)
or_avoids p P Q first second a b v (inl is) begin = first a b v is begin
or_avoids p P Q first second a b v (inr is) begin = second a b v is begin

pub left_viable : {V : Type 0} (P Q : List ℕ → V → Type 0) (text : List ℕ) → IsViable P text → IsViable (Or P Q) text
left_viable P Q text some = record { rest = some.rest; value = some.value; is_word = inl some.is_word }

-- what doesn't begin as p has it begins with no octet of p
pub avoids_never : {V : Type 0} (p : ℕ → Bool) (Q : List ℕ → V → Type 0) (x : ℕ) → p x ≡ true → Avoids p Q → NeverAt Q x
avoids_never p Q x h avoids a b v more is e = avoids a b v is (subst (λ z. BeginsIn p z) (sym e) h)

-- ---- what is left

pub leaves_same : {V : Type 0} {L : List ℕ → V → Type 0} {text : List ℕ} {P : List ℕ → V → Type 0} {rest : List ℕ} (Q : List ℕ → V → Type 0) → Leaves L text P rest → Same P Q → Leaves L text Q rest
leaves_same {V} {L} {text} {P} {rest} Q l same = leaves_by Q l (λ more. same_continues P Q more same.0 same.1)

-- the alternative that the next octet decides
module _ {V : Type 0} {L : List ℕ → V → Type 0} {text : List ℕ} (A B : List ℕ → V → Type 0) {rest : List ℕ} (l : Leaves L text (Or A B) rest) (x : ℕ) (xs : List ℕ) (e : rest ≡ x ∷ xs) where
  chosen : (C : List ℕ → V → Type 0) → ((ys : List ℕ) → Continues (Or A B) (x ∷ ys) C (x ∷ ys)) → (more : List ℕ) → BeginsAlike (x ∷ xs) more → Continues (Or A B) more C more
  chosen C at [] on = absurd on
  chosen C at (y ∷ ys) on = subst (λ z. Continues (Or A B) (z ∷ ys) C (z ∷ ys)) on (at ys)

  at_next : (C : List ℕ → V → Type 0) → ((ys : List ℕ) → Continues (Or A B) (x ∷ ys) C (x ∷ ys)) → Leaves L text C rest
  at_next C at = record {
    front = l.front;
    whole = l.whole;
    goes = λ more on. and_then L (Or A B) C (l.front ++ more) more more (l.goes more on) (chosen C at more (subst (λ z. BeginsAlike z more) e on));
  }

  pub leaves_left : NeverAt B x → Leaves L text A rest
  leaves_left none = at_next A (λ ys. left_continues A B x ys none)

  pub leaves_right : NeverAt A x → Leaves L text B rest
  leaves_right none = at_next B (λ ys. right_continues A B x ys none)

-- ---- where the first part stops, with what is asked of its words alone

begun_viable : {V W : Type 0} (P : List ℕ → V → Type 0) (Q : V → List ℕ → W → Type 0) (front : List ℕ) → IsViable P front → ((octets : List ℕ) (u : V) → P octets u → IsViable (Q u) []) → IsViable (Then P Q) front
begun_viable P Q front viable some =
    let next = some (front ++ viable.rest) viable.value viable.is_word in
    record {
      rest = viable.rest ++ next.rest;
      value = next.value;
      is_word = record { value = viable.value; front = front ++ viable.rest; back = next.rest; whole = sym (append_assoc front viable.rest next.rest); first = viable.is_word; second = next.is_word };
    }

pub begun_stops : {V W : Type 0} (P : List ℕ → V → Type 0) (Q : V → List ℕ → W → Type 0) (p : V → ℕ → Bool) (q : W → ℕ → Bool) (text : List ℕ) (stop : Stop)
    → StopsReading P p text stop → ((u : V) → Avoids (p u) (Q u)) → ((octets : List ℕ) (u : V) → P octets u → IsViable (Q u) []) → StopsReading (Then P Q) q text stop
begun_stops P Q p q text More viable avoids some = begun_viable P Q text viable some
begun_stops P Q p q text (Bad left) fails avoids some = record {
  front = fails.front;
  octet = fails.octet;
  back = fails.back;
  whole = fails.whole;
  left_is = fails.left_is;
  viable = begun_viable P Q fails.front fails.viable some;
  hopeless = λ more a b w both e. absurd (avoids both.value both.back b w both.second (fails.hopeless more both.front (both.back ++ b) both.value both.first (sym (append_assoc both.front both.back b) ∙ (ap (λ z. z ++ b) (sym both.whole) ∙ e))));
}
begun_stops P Q p q text Memory stops avoids some = tt
