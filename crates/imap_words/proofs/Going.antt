-- What is left to be read: from a text and a language to the rest and the language of what may follow.
use Rattle.std.proofs.Common.{◌≡◌, ℕ, Bool, false, List, [], ◌∷◌, ◌++◌, inl, refl, sym, ap, ◌∙◌, subst, append_assoc}
use Rattle.std.proofs.lemmas.Bool.{both_ways}
use Rattle.std.specs.Prelude.{Result, IsErrAnd, MatchResult}
use Rattle.std.proofs.lemmas.Result.{err_from_is_err_and}
use Rattle.imap_words.specs.Languages.{Then, Or, Is, IsOctet, IsViable}
use Rattle.imap_words.specs.Reading.{BeginsIn, never, Reads, StopsReading}
use Rattle.imap_words.specs.declared.stop.Stop.{Stop}
use Rattle.imap_words.specs.declared.stop.Stop.TheVariants.{More, Bad, Memory}
use Rattle.imap_words.specs.Going.{Continues}
use Rattle.imap_words.proofs.Composing.{Avoids, NeverAt, then_reads, then_stops, first_stops, left_reads, left_stops, turned}
use Rattle.imap_words.proofs.TokenSteps.{octet_never}

pub begins : {V : Type 0} (P : List ℕ → V → Type 0) (text : List ℕ) → Continues P text P text
begins P text = record { reads = λ p v back r. r; stops = λ q stop s. s }

pub onwards : {V W : Type 0} {P : List ℕ → V → Type 0} {text : List ℕ} {Q : W → List ℕ → V → Type 0} {F : List ℕ → W → Type 0} {p : W → ℕ → Bool} {rest mid : List ℕ} {w : W}
    → Continues P text (Then F Q) rest → Reads F p rest w mid → ((u : W) → Avoids (p u) (Q u)) → Continues P text (Q w) mid
onwards {P} {text} {Q} {F} {p} {rest} {mid} {w} so first avoids = record {
  reads = λ q v back r. so.reads q v back (then_reads F Q p q rest mid back w v first avoids r);
  stops = λ q stop s. so.stops q stop (then_stops F Q p q rest mid w stop first avoids s);
}

pub ends_at : {V W : Type 0} {P : List ℕ → V → Type 0} {text : List ℕ} {Q : W → List ℕ → V → Type 0} {F : List ℕ → W → Type 0} {rest : List ℕ} (p : W → ℕ → Bool) (q : V → ℕ → Bool) (stop : Stop)
    → Continues P text (Then F Q) rest → StopsReading F p rest stop → ((u : W) → Avoids (p u) (Q u)) → ((u : W) → IsViable (Q u) []) → StopsReading P q text stop
ends_at {Q} {F} {rest} p q stop so stops avoids some = so.stops q stop (first_stops F Q p q rest stop stops avoids some)

-- nothing more is read
pub is_reads : {V : Type 0} (v : V) (rest : List ℕ) → Reads (Is v) never rest v rest
is_reads v rest = record { word = []; whole = refl; is_word = (refl, refl); only = λ more a b w is on e. inl is }

pub is_viable : {V : Type 0} (v : V) → IsViable (Is v) []
is_viable v = record { rest = []; value = v; is_word = (refl, refl) }

-- ---- what follows

pub never_avoids : {V : Type 0} (Q : List ℕ → V → Type 0) → Avoids (λ x. false) Q
never_avoids Q a b w q h = none (a ++ b) h
  where
    none : (xs : List ℕ) → BeginsIn (λ x. false) xs → ⊥
    none [] h = h
    none (x ∷ xs) h = both_ways false refl h

pub octet_avoids : (p : ℕ → Bool) (x : ℕ) → p x ≡ false → Avoids p (IsOctet x)
octet_avoids p x not_there a b w is begin = both_ways (p x) not_there (subst (λ z. BeginsIn p (z ++ b)) is.0 begin)

-- a sequence begins as its first part does
pub then_avoids : {V W : Type 0} (p : ℕ → Bool) (P : List ℕ → V → Type 0) (Q : V → List ℕ → W → Type 0) → Avoids p P → Avoids p (Then P Q)
then_avoids p P Q first a b w both begin =
    first both.front (both.back ++ b) both.value both.first (subst (λ z. BeginsIn p z) (ap (λ z. z ++ b) both.whole ∙ append_assoc both.front both.back b) begin)

pub then_viable : {V W : Type 0} (P : List ℕ → V → Type 0) (Q : V → List ℕ → W → Type 0) → IsViable P [] → ((u : V) → IsViable (Q u) []) → IsViable (Then P Q) []
then_viable P Q first some = record {
  rest = first.rest ++ (some first.value).rest;
  value = (some first.value).value;
  is_word = record { value = first.value; front = first.rest; back = (some first.value).rest; whole = refl; first = first.is_word; second = (some first.value).is_word };
}

-- ---- an alternative that the first octet chooses

-- words of the one are words of the other
abbrev pub Within : {V : Type 0} → (P Q : List ℕ → V → Type 0) → Type 0
Within P Q = (octets : List ℕ) (v : _) → P octets v → Q octets v

pub same_continues : {V : Type 0} (P Q : List ℕ → V → Type 0) (text : List ℕ) → Within P Q → Within Q P → Continues P text Q text
same_continues {V} P Q text to from = record {
  reads = λ p v back r. record { word = r.word; whole = r.whole; is_word = from r.word v r.is_word; only = λ more a b w is on e. r.only more a b w (to a w is) on e };
  stops = λ stop s. stopped stop s;
}
  where
    stopped : (p : V → ℕ → Bool) (stop : Stop) → StopsReading Q p text stop → StopsReading P p text stop
    stopped p More s = record { rest = s.rest; value = s.value; is_word = from _ _ s.is_word }
    stopped p (Bad left) s = record {
      front = s.front;
      octet = s.octet;
      back = s.back;
      whole = s.whole;
      left_is = s.left_is;
      viable = record { rest = s.viable.rest; value = s.viable.value; is_word = from _ _ s.viable.is_word };
      hopeless = λ more a b w is e. s.hopeless more a b w (to a w is) e;
    }
    stopped p Memory s = tt

pub and_then : {V : Type 0} (P Q R : List ℕ → V → Type 0) (text mid rest : List ℕ) → Continues P text Q mid → Continues Q mid R rest → Continues P text R rest
and_then P Q R text mid rest a b = record { reads = λ p v back r. a.reads p v back (b.reads p v back r); stops = λ p stop s. a.stops p stop (b.stops p stop s) }

pub left_continues : {V : Type 0} (P Q : List ℕ → V → Type 0) (x : ℕ) (xs : List ℕ) → NeverAt Q x → Continues (Or P Q) (x ∷ xs) P (x ∷ xs)
left_continues P Q x xs never_at = record { reads = λ p v back r. left_reads P Q p x xs back v never_at r; stops = λ p stop s. left_stops P Q p x xs stop never_at s }

pub right_continues : {V : Type 0} (P Q : List ℕ → V → Type 0) (x : ℕ) (xs : List ℕ) → NeverAt P x → Continues (Or P Q) (x ∷ xs) Q (x ∷ xs)
right_continues P Q x xs never_at =
    and_then (Or P Q) (Or Q P) Q _ _ _ (same_continues (Or P Q) (Or Q P) (x ∷ xs) (λ octets v. turned) (λ octets v. turned)) (left_continues Q P x xs never_at)

pub then_never : {V : Type 0} (x y : ℕ) (Q : ℕ → List ℕ → V → Type 0) → (y ≡ x → ⊥) → NeverAt (Then (IsOctet x) Q) y
then_never x y Q other a b v more both e =
    octet_never x y other both.front (both.back ++ b) both.value more both.first (sym (append_assoc both.front both.back b) ∙ (ap (λ z. z ++ b) (sym both.whole) ∙ e))

-- ---- the exit of `?`

pub passes_on : {T : Type 0} (P : T → Type 0) (Q : Stop → Type 0) (r : Result T Stop) (s : Stop) → IsErrAnd r (λ y. y ≡ s) → Q s → MatchResult r P Q
passes_on P Q r s failed q = let p = err_from_is_err_and r failed in rw p.1 (subst (λ z. Q z) (sym p.2) q)
