-- Of a text one front at most is a word, with one value, where no octet follows that may go on after it: so it is of languages that
-- are made of such ones.
use Rattle.std.proofs.Common.{◌≡◌, ℕ, ◌==◌, Bool, true, not, List, [], ◌∷◌, ◌++◌, inl, inr, refl, sym, ap, ◌∙◌, subst, append_assoc}
use Rattle.std.proofs.lemmas.Bool.{cases_Bool, eqb-true, not_from_false}
use Rattle.std.proofs.lemmas.List.{append_cancel_left}
use Rattle.imap_words.specs.Languages.{Then, Or, Is, IsOctet, SaysItself, IsTail, IsMoreThan, IsList}
use Rattle.imap_words.specs.Reading.{BeginsIn, never}
use Rattle.imap_words.proofs.Composing.{Avoids, NeverAt}
use Rattle.imap_words.proofs.TokenSteps.{Compared, Same, Longer, Shorter, compared}
use Rattle.imap_words.proofs.Going.{Within, never_avoids}
use Rattle.imap_words.proofs.Handing.{Hands, hands_avoiding}
use Rattle.imap_words.proofs.Choosing.{more_avoids}
use Rattle.imap_grammar.specs.Commands.{at_octet}
use Rattle.imap_grammar.proofs.Optional.{avoids_at}
use Rattle.imap_grammar.proofs.DecidingWords.{left_empty}

pub record Single {V : Type 0} (q : V → ℕ → Bool) (P : List ℕ → V → Type 0) : Type 0 where
  pub one : (a b x y : List ℕ) (v w : V) → P a v → P b w → a ++ x ≡ b ++ y → (BeginsIn (q v) x → ⊥) → (BeginsIn (q w) y → ⊥) → (a ≡ b) × (v ≡ w)

-- ---- what may go on

-- no octet goes on after such a word
pub nothing_goes : {V : Type 0} (v : V) (x : List ℕ) → BeginsIn (never v) x → ⊥
nothing_goes v x h = never_avoids (Is v) [] x v (refl, refl) h

-- more octets go on
wider_single : {V : Type 0} {P : List ℕ → V → Type 0} {p q : V → ℕ → Bool} → Single p P → ((u : V) (b : List ℕ) → BeginsIn (p u) b → BeginsIn (q u) b) → Single q P
wider_single s over = record { one = λ a b x y v w is other e no_x no_y. s.one a b x y v w is other e (λ h. no_x (over v x h)) (λ h. no_y (over w y h)) }

pub any_single : {V : Type 0} {P : List ℕ → V → Type 0} {q : V → ℕ → Bool} → Single never P → Single q P
any_single s = wider_single s (λ u b h. absurd (nothing_goes u b h))

pub within_single : {V : Type 0} {P Q : List ℕ → V → Type 0} {q : V → ℕ → Bool} → Single q Q → Within P Q → Single q P
within_single s to = record { one = λ a b x y v w is other e no_x no_y. s.one a b x y v w (to a v is) (to b w other) e no_x no_y }

-- a set of octets with one in it
pub over_one : (c : ℕ) (q : ℕ → Bool) → q c ≡ true → (b : List ℕ) → BeginsIn (at_octet c) b → BeginsIn q b
over_one c q may [] h = h
over_one c q may (x ∷ b) h = subst (λ z. q z ≡ true) (sym (eqb-true x c h)) may

-- ---- with which octets words begin

-- each word begins with an octet that passes
abbrev pub Opens : {V : Type 0} → (ℕ → Bool) → (List ℕ → V → Type 0) → Type 0
Opens {V} f P = (a b : List ℕ) (v : V) → P a v → BeginsIn f (a ++ b)

pub then_opens : {V W : Type 0} (f : ℕ → Bool) (P : List ℕ → V → Type 0) (Q : V → List ℕ → W → Type 0) → Opens f P → Opens f (Then P Q)
then_opens f P Q first a b w is = subst (λ z. BeginsIn f z) (sym (ap (λ z. z ++ b) is.whole ∙ append_assoc is.front is.back b)) (first is.front (is.back ++ b) is.value is.first)

pub or_opens : {V : Type 0} (f : ℕ → Bool) (P Q : List ℕ → V → Type 0) → Opens f P → Opens f Q → Opens f (Or P Q)
or_opens f P Q p q a b v (inl is) = p a b v is
or_opens f P Q p q a b v (inr is) = q a b v is

pub octet_opens : (f : ℕ → Bool) (x : ℕ) → f x ≡ true → Opens f (IsOctet x)
octet_opens f x may a b v is = subst (λ z. BeginsIn f (z ++ b)) (sym is.0) may

-- any octet but one
abbrev pub other_than : ℕ → ℕ → Bool
other_than c x = not (x == c)

pub opens_but : {V : Type 0} (c : ℕ) (P : List ℕ → V → Type 0) → NeverAt P c → Opens (other_than c) P
opens_but {V} c P none a b v is = by_octets (a ++ b) refl
  where
    by_octets : (xs : List ℕ) → a ++ b ≡ xs → BeginsIn (other_than c) xs
    by_octets [] e = absurd (none [] (c ∷ []) v [] (subst (λ z. P z v) (left_empty a b e) is) refl)
    by_octets (x ∷ xs) e = elim (cases_Bool (x == c)) [
      | inl same ↦ absurd (none a b v xs is (e ∙ ap (λ z. z ∷ xs) (eqb-true x c same)))
      | inr differs ↦ not_from_false (x == c) differs
    ]

pub never_avoid : {V : Type 0} (c : ℕ) (P : List ℕ → V → Type 0) → NeverAt P c → Avoids (at_octet c) P
never_avoid c P none = avoids_at (at_octet c) P (λ x e. subst (λ z. NeverAt P z) (sym (eqb-true x c e)) none)

pub within_avoids : {V : Type 0} (p : ℕ → Bool) (P Q : List ℕ → V → Type 0) → Within P Q → Avoids p Q → Avoids p P
within_avoids p P Q to avoids a b v is begin = avoids a b v (to a v is) begin

-- ---- sequences

pub then_single : {V W : Type 0} {P : List ℕ → V → Type 0} {Q : V → List ℕ → W → Type 0} {p : V → ℕ → Bool} {q : W → ℕ → Bool} → Single p P → ((u : V) → Hands (p u) q (Q u)) → ((u : V) → Single q (Q u)) → Single q (Then P Q)
then_single {V} {W} {P} {Q} {p} {q} first hands second = record { one = one }
  where
    one : (a b x y : List ℕ) (v w : W) → Then P Q a v → Then P Q b w → a ++ x ≡ b ++ y → (BeginsIn (q v) x → ⊥) → (BeginsIn (q w) y → ⊥) → (a ≡ b) × (v ≡ w)
    one a b x y v w is other e no_x no_y =
        let apart : is.front ++ (is.back ++ x) ≡ other.front ++ (other.back ++ y)
        = sym (ap (λ z. z ++ x) is.whole ∙ append_assoc is.front is.back x) ∙ (e ∙ (ap (λ z. z ++ y) other.whole ∙ append_assoc other.front other.back y)) in
        let same = first.one is.front other.front (is.back ++ x) (other.back ++ y) is.value other.value is.first other.first apart (λ h. no_x (hands is.value is.back x v is.second h)) (λ h. no_y (hands other.value other.back y w other.second h)) in
        let rest : is.back ++ x ≡ other.back ++ y = append_cancel_left other.front _ _ (ap (λ z. z ++ (is.back ++ x)) (sym same.0) ∙ apart) in
        let tail = (second is.value).one is.back other.back x y v w is.second (subst (λ z. Q z other.back w) (sym same.1) other.second) rest no_x no_y in
        (is.whole ∙ (ap (λ z. z ++ is.back) same.0 ∙ (ap (λ z. other.front ++ z) tail.0 ∙ sym other.whole)), tail.1)

-- what follows begins with no octet that may go on
pub ends_single : {V W : Type 0} {P : List ℕ → V → Type 0} {Q : V → List ℕ → W → Type 0} {p : V → ℕ → Bool} {q : W → ℕ → Bool} → Single p P → ((u : V) → Avoids (p u) (Q u)) → ((u : V) → Single q (Q u)) → Single q (Then P Q)
ends_single {V} {W} {P} {Q} {p} {q} first avoids second = then_single first (λ u. hands_avoiding (p u) q (Q u) (avoids u)) second

-- nothing goes on after the first
pub read_single : {V W : Type 0} {P : List ℕ → V → Type 0} {Q : V → List ℕ → W → Type 0} {q : W → ℕ → Bool} → Single never P → ((u : V) → Single q (Q u)) → Single q (Then P Q)
read_single {V} {W} {P} {Q} {q} first second = ends_single first (λ u. never_avoids (Q u)) second

pub is_single : {V : Type 0} {q : V → ℕ → Bool} (v : V) → Single q (Is v)
is_single v = record { one = λ a b x y u w is other e no_x no_y. (is.0 ∙ sym other.0, is.1 ∙ sym other.1) }

pub is_hands : {V : Type 0} (p : ℕ → Bool) (q : V → ℕ → Bool) (v : V) → ((b : List ℕ) → BeginsIn p b → BeginsIn (q v) b) → Hands p q (Is v)
is_hands p q v over a b w is begin = subst (λ z. BeginsIn (q z) b) (sym is.1) (over b (subst (λ z. BeginsIn p (z ++ b)) is.0 begin))

pub mapped_single : {V W : Type 0} {P : List ℕ → V → Type 0} {p : V → ℕ → Bool} {q : W → ℕ → Bool} (f : V → W) → Single p P → ((u : V) (b : List ℕ) → BeginsIn (p u) b → BeginsIn (q (f u)) b) → Single q (Then P (λ u. Is (f u)))
mapped_single {V} {W} {P} {p} {q} f s over = then_single s (λ u. is_hands (p u) q (f u) (over u)) (λ u. is_single (f u))

-- ---- alternatives

-- no text begins with a word of the one and with a word of the other
abbrev pub Parted : {V : Type 0} → (V → ℕ → Bool) → (List ℕ → V → Type 0) → (List ℕ → V → Type 0) → Type 0
Parted {V} q P Q = (a b x y : List ℕ) (v w : V) → P a v → Q b w → a ++ x ≡ b ++ y → (BeginsIn (q v) x → ⊥) → (BeginsIn (q w) y → ⊥) → ⊥

pub or_single : {V : Type 0} {P Q : List ℕ → V → Type 0} {q : V → ℕ → Bool} → Single q P → Single q Q → Parted q P Q → Single q (Or P Q)
or_single {V} {P} {Q} {q} first second parted = record { one = one }
  where
    one : (a b x y : List ℕ) (v w : V) → Or P Q a v → Or P Q b w → a ++ x ≡ b ++ y → (BeginsIn (q v) x → ⊥) → (BeginsIn (q w) y → ⊥) → (a ≡ b) × (v ≡ w)
    one a b x y v w (inl is) (inl other) e no_x no_y = first.one a b x y v w is other e no_x no_y
    one a b x y v w (inl is) (inr other) e no_x no_y = absurd (parted a b x y v w is other e no_x no_y)
    one a b x y v w (inr is) (inl other) e no_x no_y = absurd (parted b a y x w v other is (sym e) no_y no_x)
    one a b x y v w (inr is) (inr other) e no_x no_y = second.one a b x y v w is other e no_x no_y

pub parted_from : {V : Type 0} (q : V → ℕ → Bool) (f : ℕ → Bool) (P Q : List ℕ → V → Type 0) → Opens f P → Avoids f Q → Parted q P Q
parted_from q f P Q opens avoids a b x y v w is other e no_x no_y = avoids b y w other (subst (λ z. BeginsIn f z) e (opens a x v is))

pub parted_turned : {V : Type 0} (q : V → ℕ → Bool) (P Q : List ℕ → V → Type 0) → Parted q P Q → Parted q Q P
parted_turned q P Q parted a b x y v w is other e no_x no_y = parted b a y x w v other is (sym e) no_y no_x

pub parted_both : {V : Type 0} (q : V → ℕ → Bool) (P Q R : List ℕ → V → Type 0) → Parted q P Q → Parted q P R → Parted q P (Or Q R)
parted_both q P Q R first second a b x y v w is (inl other) e no_x no_y = first a b x y v w is other e no_x no_y
parted_both q P Q R first second a b x y v w is (inr other) e no_x no_y = second a b x y v w is other e no_x no_y

-- the first octet tells which
pub either_single : {V : Type 0} {P Q : List ℕ → V → Type 0} {q : V → ℕ → Bool} (f : ℕ → Bool) → Single q P → Single q Q → Opens f P → Avoids f Q → Single q (Or P Q)
either_single {V} {P} {Q} {q} f first second opens avoids = or_single first second (parted_from q f P Q opens avoids)

pub either_turned : {V : Type 0} {P Q : List ℕ → V → Type 0} {q : V → ℕ → Bool} (f : ℕ → Bool) → Single q P → Single q Q → Avoids f P → Opens f Q → Single q (Or P Q)
either_turned {V} {P} {Q} {q} f first second avoids opens = or_single first second (parted_turned q Q P (parted_from q f Q P opens avoids))

-- nothing, or a word that goes on after nothing
pub nothing_single : {V : Type 0} {Q : List ℕ → V → Type 0} {q : V → ℕ → Bool} (v : V) → Single q Q → Opens (q v) Q → Single q (Or (Is v) Q)
nothing_single {V} {Q} {q} v second opens = or_single (is_single v) second parted
  where
    parted : Parted q (Is v) Q
    parted a b x y u w is other e no_x no_y =
        no_x (subst (λ z. BeginsIn (q z) x) (sym is.1) (subst (λ z. BeginsIn (q v) z) (sym (ap (λ z. z ++ x) (sym is.0) ∙ e)) (opens b y w other)))

pub nothing_hands : {V : Type 0} (p : ℕ → Bool) (q : V → ℕ → Bool) (v : V) (Q : List ℕ → V → Type 0) → ((b : List ℕ) → BeginsIn p b → BeginsIn (q v) b) → Avoids p Q → Hands p q (Or (Is v) Q)
nothing_hands p q v Q over avoids a b w (inl is) begin = is_hands p q v over a b w is begin
nothing_hands p q v Q over avoids a b w (inr is) begin = absurd (avoids a b w is begin)

-- ---- words that are told by their octets

-- Octets have one value, and an octet that is put after a word of which a longer one has it may go on.
pub greedy_single : {V : Type 0} {P : List ℕ → V → Type 0} {p : V → ℕ → Bool} → ((a : List ℕ) (v w : V) → P a v → P a w → v ≡ w)
    → ((a : List ℕ) (z : ℕ) (c : List ℕ) (v w : V) → P a v → P (a ++ z ∷ c) w → p v z ≡ true) → Single p P
greedy_single {V} {P} {p} once goes = record { one = λ a b x y v w is other e no_x no_y. by a b x y v w is other no_x no_y (compared a b x y e) }
  where
    by : (a b x y : List ℕ) (v w : V) → P a v → P b w → (BeginsIn (p v) x → ⊥) → (BeginsIn (p w) y → ⊥) → Compared a b x y → (a ≡ b) × (v ≡ w)
    by a b x y v w is other no_x no_y (Same s) = (s, once b v w (subst (λ z. P z v) s is) other)
    by a b x y v w is other no_x no_y (Longer z c s t) = absurd (no_y (subst (λ k. BeginsIn (p w) k) (sym t) (goes b z c w v other (subst (λ k. P k v) s is))))
    by a b x y v w is other no_x no_y (Shorter z c s t) = absurd (no_x (subst (λ k. BeginsIn (p v) k) (sym t) (goes a z c v w is (subst (λ k. P k w) s other))))

pub octet_single : (x : ℕ) → Single never (IsOctet x)
octet_single x = record { one = λ a b y z v w is other e no_y no_z. (is.0 ∙ sym other.0, is.1 ∙ sym other.1) }

pub itself_single : {V : Type 0} {P : List ℕ → V → Type 0} {p : V → ℕ → Bool} {q : List ℕ → ℕ → Bool} → Single p P → ((u : V) (octets b : List ℕ) → BeginsIn (p u) b → BeginsIn (q octets) b) → Single q (SaysItself P)
itself_single s over = record {
  one = λ a b x y v w is other e no_x no_y.
      let same = s.one a b x y is.says other.says is.is_word other.is_word e (λ h. no_x (over is.says v x h)) (λ h. no_y (over other.says w y h)) in
      (same.0, is.same ∙ (same.0 ∙ sym other.same));
}

-- ---- lists

module _ {V W E : Type 0} {Separator : List ℕ → W → Type 0} {P : List ℕ → V → Type 0} {End : List ℕ → E → Type 0} {p : V → ℕ → Bool} (f : ℕ → Bool) (separators : Single never Separator) (each : Single p P) (end : Single never End)
    (opens : Opens f Separator) (avoids : Avoids f End) (no_separator : (v : V) → Avoids (p v) Separator) (no_end : (v : V) → Avoids (p v) End) where
  tail_avoids : (u : V) (c z : List ℕ) (us : List V) → IsTail Separator P End c us → BeginsIn (p u) (c ++ z) → ⊥
  tail_avoids u c z us is begin = more_avoids Separator P End (p u) [] (no_separator u) (no_end u) c z us (us, refl, is) begin

  regrouped : (a before front back x : List ℕ) → a ≡ before ++ (front ++ back) → a ++ x ≡ before ++ (front ++ (back ++ x))
  regrouped a before front back x e = ap (λ z. z ++ x) e ∙ (append_assoc before (front ++ back) x ∙ ap (λ z. before ++ z) (append_assoc front back x))

  tail_single : (a b x y : List ℕ) (vs ws : List V) → IsTail Separator P End a vs → IsTail Separator P End b ws → a ++ x ≡ b ++ y → (a ≡ b) × (vs ≡ ws)
  tail_single a b x y [] [] is other e = ((end.one a b x y is.0 other.0 is.1 other.1 e (nothing_goes is.0 x) (nothing_goes other.0 y)).0, refl)
  tail_single a b x y [] (w ∷ ws) is other e =
      absurd (avoids a x is.0 is.1 (subst (λ z. BeginsIn f z) (sym (e ∙ regrouped b other.1 other.2 other.3 y other.4)) (opens other.1 (other.2 ++ (other.3 ++ y)) other.0 other.5)))
  tail_single a b x y (v ∷ vs) [] is other e =
      absurd (avoids b y other.0 other.1 (subst (λ z. BeginsIn f z) (sym (sym e ∙ regrouped a is.1 is.2 is.3 x is.4)) (opens is.1 (is.2 ++ (is.3 ++ x)) is.0 is.5)))
  tail_single a b x y (v ∷ vs) (w ∷ ws) is other e =
      let apart : is.1 ++ (is.2 ++ (is.3 ++ x)) ≡ other.1 ++ (other.2 ++ (other.3 ++ y)) = sym (regrouped a is.1 is.2 is.3 x is.4) ∙ (e ∙ regrouped b other.1 other.2 other.3 y other.4) in
      let before = separators.one is.1 other.1 (is.2 ++ (is.3 ++ x)) (other.2 ++ (other.3 ++ y)) is.0 other.0 is.5 other.5 apart (nothing_goes is.0 _) (nothing_goes other.0 _) in
      let following : is.2 ++ (is.3 ++ x) ≡ other.2 ++ (other.3 ++ y) = append_cancel_left other.1 _ _ (ap (λ z. z ++ (is.2 ++ (is.3 ++ x))) (sym before.0) ∙ apart) in
      let item = each.one is.2 other.2 (is.3 ++ x) (other.3 ++ y) v w is.6 other.6 following (λ h. tail_avoids v is.3 x vs is.7 h) (λ h. tail_avoids w other.3 y ws other.7 h) in
      let rest : is.3 ++ x ≡ other.3 ++ y = append_cancel_left other.2 _ _ (ap (λ z. z ++ (is.3 ++ x)) (sym item.0) ∙ following) in
      let tail = tail_single is.3 other.3 x y vs ws is.7 other.7 rest in
      (is.4 ∙ (joined before.0 item.0 tail.0 ∙ sym other.4), both item.1 tail.1)
    where
      joined : {a b c d e f : List ℕ} → a ≡ d → b ≡ e → c ≡ f → a ++ (b ++ c) ≡ d ++ (e ++ f)
      joined p q r = rw (p, q, r) refl

      both : {v w : V} {vs ws : List V} → v ≡ w → vs ≡ ws → v ∷ vs ≡ w ∷ ws
      both e f = cc (e, f)

  more_single : (begun : List V) → Single never (IsMoreThan Separator P End begun)
  more_single begun = record {
    one = λ a b x y vs ws is other e no_x no_y.
        let tail = tail_single a b x y is.0 other.0 is.2 other.2 e in
        (tail.0, is.1 ∙ (ap (λ z. begun ++ z) tail.1 ∙ sym other.1));
  }

  pub list_single : Single never (IsList Separator P End)
  list_single = ends_single each (λ u. more_avoids Separator P End (p u) (u ∷ []) (no_separator u) (no_end u)) (λ u. more_single (u ∷ []))
