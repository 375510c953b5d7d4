-- A part that may be missing, with the space that stands before it or after it.
use Rattle.std.proofs.Common.{◌≡◌, ℕ, Bool, true, List, [], ◌∷◌, ◌++◌, length, Option, None, Some, inl, inr, refl, sym, ap, ◌∙◌, subst, append_assoc, append-nil}
use Rattle.std.proofs.lemmas.Bool.{eq-eqb}
use Rattle.imap_words.specs.Languages.{Then, After, Or, Is, Maybe, IsViable}
use Rattle.imap_words.specs.Reading.{BeginsIn, always, never, Reads, StopsReading}
use Rattle.imap_words.specs.Going.{Continues, Leaves}
use Rattle.imap_words.specs.declared.stop.Stop.{Stop}
use Rattle.imap_words.specs.Tokens.{IsSpace}
use Rattle.imap_words.proofs.Passing.{no_octets}
use Rattle.imap_words.proofs.Composing.{Avoids, NeverAt}
use Rattle.imap_words.proofs.TokenSteps.{octet_viable}
use Rattle.imap_words.proofs.Going.{Within, and_then, begins, onwards, ends_at, never_avoids, then_viable, is_viable}
use Rattle.imap_words.proofs.Choosing.{seq_never, end_reads}
use Rattle.imap_words.proofs.Handing.{nothing_reads, something_reads, something_stops}
use Rattle.imap_grammar.specs.Commands.{at_octet}

-- ---- `[S A] S` is `S [A S]`

module _ {U E : Type 0} (S : List ℕ → E → Type 0) (A : List ℕ → U → Type 0) where
  -- the part and then the other
  abbrev pub Followed : List ℕ → Option U → Type 0
  Followed = Or (Is None) (Then A (λ v. After S (Is (Some v))))

  pub following_it : {W : Type 0} (R : Option U → List ℕ → W → Type 0) → Within (Then (Maybe (After S A)) (λ m. After S (R m))) (After S (Then Followed R))
  following_it {W} R octets w is = by_first is.first
    where
      by_first : Maybe (After S A) is.front is.value → After S (Then Followed R) octets w
      by_first (inl none) =
          let s = is.second in
          record {
            value = s.value;
            front = s.front;
            back = s.back;
            whole = is.whole ∙ (ap (λ z. z ++ is.back) none.0 ∙ s.whole);
            first = s.first;
            second = record { value = None; front = []; back = s.back; whole = refl; first = inl (refl, refl); second = subst (λ m. R m s.back w) none.1 s.second };
          }
      by_first (inr some) =
          let a = some.first in
          let s = is.second in
          record {
            value = a.value;
            front = a.front;
            back = a.back ++ is.back;
            whole = is.whole ∙ (ap (λ z. z ++ is.back) (some.whole ∙ (ap (λ z. some.front ++ z) some.second.0 ∙ (append-nil some.front ∙ a.whole))) ∙ append_assoc a.front a.back is.back);
            first = a.first;
            second = record {
              value = Some some.value;
              front = a.back ++ s.front;
              back = s.back;
              whole = ap (λ z. a.back ++ z) s.whole ∙ sym (append_assoc a.back s.front s.back);
              first = inr (record {
                value = some.value;
                front = a.back;
                back = s.front;
                whole = refl;
                first = a.second;
                second = record { value = s.value; front = s.front; back = []; whole = sym (append-nil s.front); first = s.first; second = (refl, refl) };
              });
              second = subst (λ m. R m s.back w) some.second.1 s.second;
            };
          }

  pub before_it : {W : Type 0} (R : Option U → List ℕ → W → Type 0) → Within (After S (Then Followed R)) (Then (Maybe (After S A)) (λ m. After S (R m)))
  before_it {W} R octets w is = by_first is.second.first
    where
      by_first : Followed is.second.front is.second.value → Then (Maybe (After S A)) (λ m. After S (R m)) octets w
      by_first (inl none) =
          let o = is.second in
          record {
            value = None;
            front = [];
            back = octets;
            whole = refl;
            first = inl (refl, refl);
            second = record {
              value = is.value;
              front = is.front;
              back = is.back;
              whole = is.whole;
              first = is.first;
              second = subst (λ z. R None z w) (sym (o.whole ∙ ap (λ z. z ++ o.back) none.0)) (subst (λ m. R m o.back w) none.1 o.second);
            };
          }
      by_first (inr some) =
          let o = is.second in
          let t = some.second in
          let back_is : some.back ≡ t.front = t.whole ∙ (ap (λ z. t.front ++ z) t.second.0 ∙ append-nil t.front) in
          record {
            value = Some some.value;
            front = is.front ++ some.front;
            back = t.front ++ o.back;
            whole = is.whole ∙ (ap (λ z. is.front ++ z) (o.whole ∙ (ap (λ z. z ++ o.back) (some.whole ∙ ap (λ z. some.front ++ z) back_is) ∙ append_assoc some.front t.front o.back)) ∙ sym (append_assoc is.front some.front (t.front ++ o.back)));
            first = inr (record {
              value = some.value;
              front = is.front ++ some.front;
              back = [];
              whole = sym (append-nil (is.front ++ some.front));
              first = record { value = is.value; front = is.front; back = some.front; whole = refl; first = is.first; second = some.first };
              second = (refl, refl);
            });
            second = record { value = t.value; front = t.front; back = o.back; whole = refl; first = t.first; second = subst (λ m. R m o.back w) t.second.1 o.second };
          }

-- ---- the part is told by another value

module _ {U V W E : Type 0} (S : List ℕ → E → Type 0) (A : List ℕ → U → Type 0) (g : Option U → V) (h : U → V) (same : (u : U) → g (Some u) ≡ h u) (C : V → List ℕ → W → Type 0) where
  abbrev pub Told : List ℕ → V → Type 0
  Told = Or (Is (g None)) (Then (Then A (λ u. Is (h u))) (λ v. After S (Is v)))

  pub told : Within (Then (Followed S A) (λ m. C (g m))) (Then Told C)
  told octets w is = by_first is.first
    where
      by_first : Followed S A is.front is.value → Then Told C octets w
      by_first (inl none) = record { value = g None; front = is.front; back = is.back; whole = is.whole; first = inl (none.0, refl); second = subst (λ m. C (g m) is.back w) none.1 is.second }
      by_first (inr some) =
          let t = some.second in
          record {
            value = h some.value;
            front = is.front;
            back = is.back;
            whole = is.whole;
            first = inr (record {
              value = h some.value;
              front = some.front;
              back = some.back;
              whole = some.whole;
              first = record { value = some.value; front = some.front; back = []; whole = sym (append-nil some.front); first = some.first; second = (refl, refl) };
              second = record { value = t.value; front = t.front; back = t.back; whole = t.whole; first = t.first; second = (t.second.0, refl) };
            });
            second = subst (λ n. C n is.back w) (ap g t.second.1 ∙ same some.value) is.second;
          }

  pub untold : Within (Then Told C) (Then (Followed S A) (λ m. C (g m)))
  untold octets w is = by_first is.first
    where
      by_first : Told is.front is.value → Then (Followed S A) (λ m. C (g m)) octets w
      by_first (inl none) = record { value = None; front = is.front; back = is.back; whole = is.whole; first = inl (none.0, refl); second = subst (λ n. C n is.back w) none.1 is.second }
      by_first (inr some) =
          let a = some.first in
          let t = some.second in
          record {
            value = Some a.value;
            front = is.front;
            back = is.back;
            whole = is.whole;
            first = inr (record {
              value = a.value;
              front = a.front;
              back = some.back;
              whole = some.whole ∙ ap (λ z. z ++ some.back) (a.whole ∙ (ap (λ z. a.front ++ z) a.second.0 ∙ append-nil a.front));
              first = a.first;
              second = record { value = t.value; front = t.front; back = t.back; whole = t.whole; first = t.first; second = (t.second.0, refl) };
            });
            second = subst (λ n. C n is.back w) (t.second.1 ∙ (a.second.1 ∙ sym (same a.value))) is.second;
          }

-- ---- how it is read: the next octet tells whether it is there

module _ {U V : Type 0} (nothing : V) (A : List ℕ → U → Type 0) (f : U → V) (c : ℕ) (only_there : (x : ℕ) → (x ≡ c → ⊥) → NeverAt A x) where
  abbrev pub Spaced : List ℕ → V → Type 0
  Spaced = Then A (λ u. After IsSpace (Is (f u)))

  abbrev pub MaybeSpaced : List ℕ → V → Type 0
  MaybeSpaced = Or (Is nothing) Spaced

  pub maybe_viable : IsViable MaybeSpaced []
  maybe_viable = record { rest = []; value = nothing; is_word = inl (refl, refl) }

  pub maybe_more : (text : List ℕ) → length text ≡ 0 → IsViable MaybeSpaced text
  maybe_more text none = subst (λ z. IsViable MaybeSpaced z) (sym (no_octets text none)) maybe_viable

  module _ (text : List ℕ) (x : ℕ) (xs : List ℕ) (e : text ≡ x ∷ xs) where
    pub missing : (x ≡ c → ⊥) → Reads MaybeSpaced (always (at_octet c)) text nothing text
    missing other = subst (λ z. Reads MaybeSpaced (always (at_octet c)) z nothing z) (sym e) (nothing_reads nothing Spaced (always (at_octet c)) x xs (seq_never A _ x (only_there x other)))

    module _ (same : x ≡ c) where
      may : at_octet c x ≡ true
      may = eq-eqb x c same

      stops_so : (stop : Stop) → StopsReading Spaced (always (at_octet c)) text stop → StopsReading MaybeSpaced (always (at_octet c)) text stop
      stops_so stop stops = subst (λ z. StopsReading MaybeSpaced (always (at_octet c)) z stop) (sym e) (something_stops nothing Spaced (always (at_octet c)) x xs stop may (subst (λ z. StopsReading Spaced (always (at_octet c)) z stop) e stops))

      pub part_stops : (stop : Stop) → StopsReading A never text stop → StopsReading MaybeSpaced (always (at_octet c)) text stop
      part_stops stop stops = stops_so stop (ends_at never (always (at_octet c)) stop (begins Spaced text) stops (λ _. never_avoids _) (λ u. then_viable IsSpace _ (octet_viable 32) (λ _. is_viable (f u))))

      module _ (u : U) (following : List ℕ) (r : Reads A never text u following) where
        pub space_stops : (stop : Stop) → StopsReading IsSpace never following stop → StopsReading MaybeSpaced (always (at_octet c)) text stop
        space_stops stop stops = stops_so stop (ends_at never (always (at_octet c)) stop (onwards (begins Spaced text) r (λ _. never_avoids _)) stops (λ _. never_avoids _) (λ _. is_viable (f u)))

        pub spaced_reads : (rest : List ℕ) → Reads IsSpace never following 32 rest → Reads MaybeSpaced (always (at_octet c)) text (f u) rest
        spaced_reads rest s =
            let all = (onwards (onwards (begins Spaced text) r (λ _. never_avoids _)) s (λ _. never_avoids _)).reads (always (at_octet c)) (f u) rest (end_reads (f u) (always (at_octet c)) rest) in
            subst (λ z. Reads MaybeSpaced (always (at_octet c)) z (f u) rest) (sym e) (something_reads nothing Spaced (always (at_octet c)) x xs (f u) rest may (subst (λ z. Reads Spaced (always (at_octet c)) z (f u) rest) e all))

  -- what follows avoids what neither the part nor what follows it begins with
  pub maybe_avoids : {W : Type 0} (p : ℕ → Bool) (R : V → List ℕ → W → Type 0) → Avoids p A → ((v : V) → Avoids p (R v)) → Avoids p (Then MaybeSpaced R)
  maybe_avoids {W} p R part rest a b w is begin = by_first is.first
    where
      apart : BeginsIn p (is.front ++ (is.back ++ b))
      apart = subst (λ z. BeginsIn p z) (ap (λ z. z ++ b) is.whole ∙ append_assoc is.front is.back b) begin

      by_first : MaybeSpaced is.front is.value → ⊥
      by_first (inl none) = rest is.value is.back b w is.second (subst (λ z. BeginsIn p (z ++ (is.back ++ b))) none.0 apart)
      by_first (inr some) =
          part some.front (some.back ++ (is.back ++ b)) some.value some.first (subst (λ z. BeginsIn p z) (ap (λ z. z ++ (is.back ++ b)) some.whole ∙ append_assoc some.front some.back (is.back ++ b)) apart)

-- what begins with no octet that passes avoids them
pub avoids_at : {V : Type 0} (p : ℕ → Bool) (Q : List ℕ → V → Type 0) → ((x : ℕ) → p x ≡ true → NeverAt Q x) → Avoids p Q
avoids_at {V} p Q none a b w is begin = by_octets (a ++ b) refl begin
  where
    by_octets : (xs : List ℕ) → a ++ b ≡ xs → BeginsIn p xs → ⊥
    by_octets [] e h = h
    by_octets (x ∷ xs) e h = none x h a b w xs is e

-- the same language is left
pub leaves_by : {V : Type 0} {P Q : List ℕ → V → Type 0} {text rest : List ℕ} (R : List ℕ → V → Type 0) → Leaves P text Q rest → ((more : List ℕ) → Continues Q more R more) → Leaves P text R rest
leaves_by {V} {P} {Q} {text} {rest} R l all = record { front = l.front; whole = l.whole; goes = λ more on. and_then P Q R (l.front ++ more) more more (l.goes more on) (all more) }
