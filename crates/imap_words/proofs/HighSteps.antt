-- The steps of reading a character above 127.
use Rattle.std.proofs.Common.{◌≡◌, ℕ, suc, ◌<◌, ◌≤◌, List, [], ◌∷◌, ◌++◌, ◌-◌, length, take, drop, ◌⊎◌, inl, inr, refl, sym, ap, ◌∙◌, subst, arith}
use Rattle.std.proofs.lemmas.Bool.Decides.{nat_tests}
use Rattle.std.proofs.lemmas.Grind.{common_steps}
use Rattle.imap_words.specs.Languages.{Then, After, IsOctet, IsBetween, SaysItself, IsViable}
use Rattle.imap_words.specs.Reading.{BeginsIn, never, Reads, StopsReading, FailsAt}
use Rattle.imap_words.specs.declared.stop.Stop.{Stop}
use Rattle.imap_words.specs.Going.{Continues}
use Rattle.imap_words.specs.Strings.{IsUtf8Tail, IsHighChar, least_second, greatest_second}
use Rattle.imap_words.proofs.Passing.{no_octets}
use Rattle.imap_words.proofs.Composing.{NeverAt, fails_first}
use Rattle.imap_words.proofs.Going.{onwards, ends_at, never_avoids, then_never}
use Rattle.imap_words.proofs.Choosing.{seq_never, octet_reads}
use Rattle.imap_words.proofs.Starting.{same_at, or_never, same_or_not, below_or_not}
use Rattle.imap_words.proofs.StringHeads.{between_viable, between_never}
use Rattle.imap_words.proofs.Writing.{written_stops, written_split}

-- ---- which second octets there are

least_plain : (x : ℕ) → (x ≡ 224 → ⊥) → (x ≡ 240 → ⊥) → least_second x ≡ 128
least_plain x a b = grind (arith, common_steps, nat_tests, a, b)

greatest_plain : (x : ℕ) → (x ≡ 237 → ⊥) → (x ≡ 244 → ⊥) → greatest_second x ≡ 191
greatest_plain x a b = grind (arith, common_steps, nat_tests, a, b)

pub seconds_ordered : (x : ℕ) → least_second x ≤ greatest_second x
seconds_ordered x = elim (same_or_not x 224) [
  | inl e ↦ subst (λ z. least_second z ≤ greatest_second z) (sym e) (omega arith)
  | inr a ↦ elim (same_or_not x 240) [
    | inl e ↦ subst (λ z. least_second z ≤ greatest_second z) (sym e) (omega arith)
    | inr b ↦ elim (same_or_not x 237) [
      | inl e ↦ subst (λ z. least_second z ≤ greatest_second z) (sym e) (omega arith)
      | inr c ↦ elim (same_or_not x 244) [
        | inl e ↦ subst (λ z. least_second z ≤ greatest_second z) (sym e) (omega arith)
        | inr d ↦ omega (arith, least_plain x a b, greatest_plain x c d)
      ]
    ]
  ]
]

-- ---- what follows the first octet

abbrev pub Second : ℕ → List ℕ → ℕ → Type 0
Second x = IsBetween (least_second x) (greatest_second x)

abbrev pub AndThird : ℕ → List ℕ → ℕ → Type 0
AndThird x = After (Second x) IsUtf8Tail

abbrev pub AndFourth : ℕ → List ℕ → ℕ → Type 0
AndFourth x = After (Second x) (After IsUtf8Tail IsUtf8Tail)

-- by the first octet
abbrev pub Following : ℕ → List ℕ → ℕ → Type 0
Following x octets v = ((194 ≤ x) × (x < 224) × Second x octets v) ⊎ (((224 ≤ x) × (x < 240) × AndThird x octets v) ⊎ ((240 ≤ x) × (x ≤ 244) × AndFourth x octets v))

after_octet : {V : Type 0} (c x : ℕ) (Q : List ℕ → V → Type 0) (octets : List ℕ) (v : V) → After (IsOctet c) Q (x ∷ octets) v → (x ≡ c) × Q octets v
after_octet c x Q octets v is =
    let e : x ∷ octets ≡ c ∷ is.back = is.whole ∙ ap (λ z. z ++ is.back) is.first.0 in
    let same : x ≡ c = cc e in
    let tail : is.back ≡ octets = cc e in
    (same, subst (λ z. Q z v) tail is.second)

after_between : {V : Type 0} (low high x : ℕ) (Q : List ℕ → V → Type 0) (octets : List ℕ) (v : V) → After (IsBetween low high) Q (x ∷ octets) v → (low ≤ x) × (x ≤ high) × Q octets v
after_between low high x Q octets v is =
    let e : x ∷ octets ≡ is.value ∷ is.back = is.whole ∙ ap (λ z. z ++ is.back) is.first.is in
    let same : is.value ≡ x = cc e in
    let tail : is.back ≡ octets = cc e in
    (subst (λ z. low ≤ z) same is.first.from, subst (λ z. z ≤ high) same is.first.to, subst (λ z. Q z v) tail is.second)

-- the octets between which the second one stands are these
bounds : (low high x : ℕ) (P : ℕ → ℕ → Type 0) → least_second x ≡ low → greatest_second x ≡ high → P low high → P (least_second x) (greatest_second x)
bounds low high x P l h is = subst (λ z. P z (greatest_second x)) (sym l) (subst (λ z. P low z) (sym h) is)

bounds_back : (low high x : ℕ) (P : ℕ → ℕ → Type 0) → least_second x ≡ low → greatest_second x ≡ high → P (least_second x) (greatest_second x) → P low high
bounds_back low high x P l h is = subst (λ z. P low z) h (subst (λ z. P z (greatest_second x)) l is)

module _ (x : ℕ) (octets : List ℕ) (v : ℕ) where
  abbrev pub WithThird : ℕ → ℕ → Type 0
  WithThird low high = After (IsBetween low high) IsUtf8Tail octets v

  abbrev pub WithFourth : ℕ → ℕ → Type 0
  WithFourth low high = After (IsBetween low high) (After IsUtf8Tail IsUtf8Tail) octets v

  abbrev pub Alone : ℕ → ℕ → Type 0
  Alone low high = IsBetween low high octets v

  pub put_apart : IsHighChar (x ∷ octets) v → Following x octets v
  put_apart (inl two) =
      let at = after_between 194 223 x IsUtf8Tail octets v two in
      inl (at.0, omega (arith, at.1), bounds 128 191 x Alone (least_plain x (λ e. omega (arith, e, at.1)) (λ e. omega (arith, e, at.1))) (greatest_plain x (λ e. omega (arith, e, at.1)) (λ e. omega (arith, e, at.1))) at.2)
  put_apart (inr (inl (inl a))) =
      let at = after_octet 224 x (After (IsBetween 160 191) IsUtf8Tail) octets v a in
      inr (inl (omega (arith, at.0), omega (arith, at.0), bounds 160 191 x WithThird (ap least_second at.0) (ap greatest_second at.0) at.1))
  put_apart (inr (inl (inr (inl b)))) =
      let at = after_between 225 236 x (After IsUtf8Tail IsUtf8Tail) octets v b in
      inr (inl (omega (arith, at.0), omega (arith, at.1), bounds 128 191 x WithThird (least_plain x (λ e. omega (arith, e, at.0)) (λ e. omega (arith, e, at.1))) (greatest_plain x (λ e. omega (arith, e, at.1)) (λ e. omega (arith, e, at.1))) at.2))
  put_apart (inr (inl (inr (inr (inl c))))) =
      let at = after_octet 237 x (After (IsBetween 128 159) IsUtf8Tail) octets v c in
      inr (inl (omega (arith, at.0), omega (arith, at.0), bounds 128 159 x WithThird (ap least_second at.0) (ap greatest_second at.0) at.1))
  put_apart (inr (inl (inr (inr (inr d))))) =
      let at = after_between 238 239 x (After IsUtf8Tail IsUtf8Tail) octets v d in
      inr (inl (omega (arith, at.0), omega (arith, at.1), bounds 128 191 x WithThird (least_plain x (λ e. omega (arith, e, at.0)) (λ e. omega (arith, e, at.1))) (greatest_plain x (λ e. omega (arith, e, at.0)) (λ e. omega (arith, e, at.1))) at.2))
  put_apart (inr (inr (inl a))) =
      let at = after_octet 240 x (After (IsBetween 144 191) (After IsUtf8Tail IsUtf8Tail)) octets v a in
      inr (inr (omega (arith, at.0), omega (arith, at.0), bounds 144 191 x WithFourth (ap least_second at.0) (ap greatest_second at.0) at.1))
  put_apart (inr (inr (inr (inl b)))) =
      let at = after_between 241 243 x (After IsUtf8Tail (After IsUtf8Tail IsUtf8Tail)) octets v b in
      inr (inr (omega (arith, at.0), omega (arith, at.1), bounds 128 191 x WithFourth (least_plain x (λ e. omega (arith, e, at.0)) (λ e. omega (arith, e, at.0))) (greatest_plain x (λ e. omega (arith, e, at.0)) (λ e. omega (arith, e, at.1))) at.2))
  put_apart (inr (inr (inr (inr c)))) =
      let at = after_octet 244 x (After (IsBetween 128 143) (After IsUtf8Tail IsUtf8Tail)) octets v c in
      inr (inr (omega (arith, at.0), omega (arith, at.0), bounds 128 143 x WithFourth (ap least_second at.0) (ap greatest_second at.0) at.1))

  from_octet : (c : ℕ) (Q : List ℕ → ℕ → Type 0) → x ≡ c → Q octets v → After (IsOctet c) Q (x ∷ octets) v
  from_octet c Q e is = record { value = c; front = x ∷ []; back = octets; whole = refl; first = (ap (λ z. z ∷ []) e, refl); second = is }

  from_between : (low high : ℕ) (Q : List ℕ → ℕ → Type 0) → low ≤ x → x ≤ high → Q octets v → After (IsBetween low high) Q (x ∷ octets) v
  from_between low high Q l h is = record { value = x; front = x ∷ []; back = octets; whole = refl; first = record { is = refl; from = l; to = h }; second = is }

  join_two : 194 ≤ x → x < 224 → Second x octets v → IsHighChar (x ∷ octets) v
  join_two l h is =
      inl (from_between 194 223 IsUtf8Tail l (omega (arith, h)) (bounds_back 128 191 x Alone (least_plain x (λ e. omega (arith, e, h)) (λ e. omega (arith, e, h))) (greatest_plain x (λ e. omega (arith, e, h)) (λ e. omega (arith, e, h))) is))

  join_three : 224 ≤ x → x < 240 → AndThird x octets v → IsHighChar (x ∷ octets) v
  join_three l h is = elim (same_or_not x 224) [
    | inl e ↦ inr (inl (inl (from_octet 224 (After (IsBetween 160 191) IsUtf8Tail) e (bounds_back 160 191 x WithThird (ap least_second e) (ap greatest_second e) is))))
    | inr a ↦ elim (same_or_not x 237) [
      | inl e ↦ inr (inl (inr (inr (inl (from_octet 237 (After (IsBetween 128 159) IsUtf8Tail) e (bounds_back 128 159 x WithThird (ap least_second e) (ap greatest_second e) is))))))
      | inr b ↦
          let plain = bounds_back 128 191 x WithThird (least_plain x a (λ e. omega (arith, e, h))) (greatest_plain x b (λ e. omega (arith, e, h))) is in
          elim (below_or_not x 237) [
            | inl low ↦ inr (inl (inr (inl (from_between 225 236 (After IsUtf8Tail IsUtf8Tail) (by_not 224 l a) (omega (arith, low)) plain))))
            | inr high ↦ inr (inl (inr (inr (inr (from_between 238 239 (After IsUtf8Tail IsUtf8Tail) (by_not 237 high b) (omega (arith, h)) plain)))))
          ]
    ]
  ]
    where
      by_not : (c : ℕ) → c ≤ x → (x ≡ c → ⊥) → suc c ≤ x
      by_not c l other = elim (below_or_not c x) [
        | inl low ↦ omega (arith, low)
        | inr high ↦ absurd (other (omega (arith, l, high)))
      ]

  join_four : 240 ≤ x → x ≤ 244 → AndFourth x octets v → IsHighChar (x ∷ octets) v
  join_four l h is = elim (same_or_not x 240) [
    | inl e ↦ inr (inr (inl (from_octet 240 (After (IsBetween 144 191) (After IsUtf8Tail IsUtf8Tail)) e (bounds_back 144 191 x WithFourth (ap least_second e) (ap greatest_second e) is))))
    | inr a ↦ elim (same_or_not x 244) [
      | inl e ↦ inr (inr (inr (inr (from_octet 244 (After (IsBetween 128 143) (After IsUtf8Tail IsUtf8Tail)) e (bounds_back 128 143 x WithFourth (ap least_second e) (ap greatest_second e) is)))))
      | inr b ↦
          let plain = bounds_back 128 191 x WithFourth (least_plain x (λ e. omega (arith, e, l)) a) (greatest_plain x (λ e. omega (arith, e, l)) b) is in
          inr (inr (inr (inl (from_between 241 243 (After IsUtf8Tail (After IsUtf8Tail IsUtf8Tail)) (after_not l a) (before_not h b) plain))))
    ]
  ]
    where
      after_not : 240 ≤ x → (x ≡ 240 → ⊥) → 241 ≤ x
      after_not l other = elim (below_or_not 240 x) [
        | inl low ↦ omega (arith, low)
        | inr high ↦ absurd (other (omega (arith, l, high)))
      ]

      before_not : x ≤ 244 → (x ≡ 244 → ⊥) → x ≤ 243
      before_not h other = elim (below_or_not x 244) [
        | inl low ↦ omega (arith, low)
        | inr high ↦ absurd (other (omega (arith, h, high)))
      ]

-- ---- which octets begin a character

either_never : (low high x : ℕ) (Q : ℕ → List ℕ → ℕ → Type 0) → (low ≤ x → x ≤ high → ⊥) → NeverAt (Then (IsBetween low high) Q) x
either_never low high x Q none = seq_never (IsBetween low high) Q x (between_never low high x none)

pub high_never : (x : ℕ) → (194 ≤ x → x ≤ 244 → ⊥) → NeverAt IsHighChar x
high_never x none =
    or_never _ _ x (either_never 194 223 x _ (λ l h. none l (omega (arith, h))))
    (or_never _ _ x
    (or_never _ _ x (then_never 224 x _ (λ e. none (omega (arith, e)) (omega (arith, e))))
    (or_never _ _ x (either_never 225 236 x _ (λ l h. none (omega (arith, l)) (omega (arith, h))))
    (or_never _ _ x (then_never 237 x _ (λ e. none (omega (arith, e)) (omega (arith, e)))) (either_never 238 239 x _ (λ l h. none (omega (arith, l)) (omega (arith, h)))))))
    (or_never _ _ x (then_never 240 x _ (λ e. none (omega (arith, e)) (omega (arith, e))))
    (or_never _ _ x (either_never 241 243 x _ (λ l h. none (omega (arith, l)) (omega (arith, h)))) (then_never 244 x _ (λ e. none (omega (arith, e)) (omega (arith, e)))))))

pub high_viable : IsViable IsHighChar []
high_viable = record { rest = 195 ∷ 169 ∷ []; value = 169; is_word = join_two 195 (169 ∷ []) 169 (omega arith) (omega arith) (record { is = refl; from = omega arith; to = omega arith }) }

pub high_more : (text : List ℕ) → length text ≡ 0 → IsViable IsHighChar text
high_more text e = subst (λ z. IsViable IsHighChar z) (sym (no_octets text e)) high_viable

pub high_fails : (text : List ℕ) (x : ℕ) (xs : List ℕ) → text ≡ x ∷ xs → (194 ≤ x → x ≤ 244 → ⊥) → FailsAt IsHighChar never text (length text)
high_fails text x xs e none = rw e (fails_first IsHighChar never x xs high_viable (high_never x none))

-- ---- the steps

module _ (x : ℕ) (xs : List ℕ) where
  led : (Q : List ℕ → ℕ → Type 0) → ((octets : List ℕ) (v : ℕ) → Following x octets v → Q octets v) → ((octets : List ℕ) (v : ℕ) → Q octets v → IsHighChar (x ∷ octets) v) → Continues IsHighChar (x ∷ xs) Q xs
  led Q to from = onwards (same_at IsHighChar (After (IsOctet x) Q) x xs into out) (octet_reads x xs) (λ _. never_avoids _)
    where
      into : (a b : List ℕ) (v : ℕ) (more : List ℕ) → IsHighChar a v → a ++ b ≡ x ∷ more → After (IsOctet x) Q a v
      into [] b v more is e = absurd (high_never 0 (λ l h. omega (arith, l)) [] (0 ∷ []) v [] is refl)
      into (y ∷ a) b v more is e =
          let same : y ≡ x = cc e in
          record { value = x; front = x ∷ []; back = a; whole = ap (λ z. z ∷ a) same; first = (refl, refl); second = to a v (subst (λ z. Following z a v) same (put_apart y a v is)) }

      out : (a : List ℕ) (v : ℕ) → After (IsOctet x) Q a v → IsHighChar a v
      out a v is = subst (λ z. IsHighChar z v) (sym (is.whole ∙ ap (λ z. z ++ is.back) is.first.0)) (from is.back v is.second)

  second_led : 194 ≤ x → x < 224 → Continues IsHighChar (x ∷ xs) (Second x) xs
  second_led l h = led (Second x) (λ octets v is. elim is [
    | inl two ↦ two.2
    | inr (inl three) ↦ absurd (omega (arith, three.0, h))
    | inr (inr four) ↦ absurd (omega (arith, four.0, h))
  ]) (λ octets v is. join_two x octets v l h is)

  third_led : 224 ≤ x → x < 240 → Continues IsHighChar (x ∷ xs) (AndThird x) xs
  third_led l h = led (AndThird x) (λ octets v is. elim is [
    | inl two ↦ absurd (omega (arith, two.1, l))
    | inr (inl three) ↦ three.2
    | inr (inr four) ↦ absurd (omega (arith, four.0, h))
  ]) (λ octets v is. join_three x octets v l h is)

  fourth_led : 240 ≤ x → x ≤ 244 → Continues IsHighChar (x ∷ xs) (AndFourth x) xs
  fourth_led l h = led (AndFourth x) (λ octets v is. elim is [
    | inl two ↦ absurd (omega (arith, two.1, l))
    | inr (inl three) ↦ absurd (omega (arith, three.1, l))
    | inr (inr four) ↦ four.2
  ]) (λ octets v is. join_four x octets v l h is)

  tail_viable : IsViable IsUtf8Tail []
  tail_viable = between_viable 128 191 (omega arith)

  tails_viable : IsViable (After IsUtf8Tail IsUtf8Tail) []
  tails_viable = record { rest = 128 ∷ 128 ∷ []; value = 128; is_word = record { value = 128; front = 128 ∷ []; back = 128 ∷ []; whole = refl; first = record { is = refl; from = omega arith; to = omega arith }; second = record { is = refl; from = omega arith; to = omega arith } } }

  second_stops : (stop : Stop) → 194 ≤ x → x ≤ 244 → StopsReading (Second x) never xs stop → StopsReading IsHighChar never (x ∷ xs) stop
  second_stops stop l h stops = elim (below_or_not x 224) [
    | inl two ↦ (second_led l two).stops never stop stops
    | inr some ↦ elim (below_or_not x 240) [
      | inl three ↦ ends_at never never stop (third_led some three) stops (λ _. never_avoids _) (λ _. tail_viable)
      | inr four ↦ ends_at never never stop (fourth_led four h) stops (λ _. never_avoids _) (λ _. tails_viable)
    ]
  ]

  module _ (second : ℕ) (rest : List ℕ) (r : Reads (Second x) never xs second rest) where
    two_read : 194 ≤ x → x < 224 → Reads IsHighChar never (x ∷ xs) second rest
    two_read l h = (second_led l h).reads never second rest r

    third_here : 224 ≤ x → x < 240 → Continues IsHighChar (x ∷ xs) IsUtf8Tail rest
    third_here l h = onwards (third_led l h) r (λ _. never_avoids _)

    fourth_here : 240 ≤ x → x ≤ 244 → Continues IsHighChar (x ∷ xs) (After IsUtf8Tail IsUtf8Tail) rest
    fourth_here l h = onwards (fourth_led l h) r (λ _. never_avoids _)

    third_stops : (stop : Stop) → 224 ≤ x → x ≤ 244 → StopsReading IsUtf8Tail never rest stop → StopsReading IsHighChar never (x ∷ xs) stop
    third_stops stop l h stops = elim (below_or_not x 240) [
      | inl three ↦ (third_here l three).stops never stop stops
      | inr four ↦ ends_at never never stop (fourth_here four h) stops (λ _. never_avoids _) (λ _. tail_viable)
    ]

    module _ (third : ℕ) (others : List ℕ) (s : Reads IsUtf8Tail never rest third others) where
      three_read : 224 ≤ x → x < 240 → Reads IsHighChar never (x ∷ xs) third others
      three_read l h = (third_here l h).reads never third others s

      fourth_stops : (stop : Stop) → 240 ≤ x → x ≤ 244 → StopsReading IsUtf8Tail never others stop → StopsReading IsHighChar never (x ∷ xs) stop
      fourth_stops stop l h stops = (onwards (fourth_here l h) s (λ _. never_avoids _)).stops never stop stops

      four_read : (fourth : ℕ) (last : List ℕ) → 240 ≤ x → x ≤ 244 → Reads IsUtf8Tail never others fourth last → Reads IsHighChar never (x ∷ xs) fourth last
      four_read fourth last l h t = (onwards (fourth_here l h) s (λ _. never_avoids _)).reads never fourth last t

-- ---- the octets that were read

never_over : {V W : Type 0} (u : V) (a : W) (b : List ℕ) → BeginsIn (never u) b → BeginsIn (never a) b
never_over u a [] h = h
never_over u a (y ∷ b) h = h

pub written_stops_so : (text : List ℕ) (stop : Stop) → StopsReading IsHighChar never text stop → StopsReading (SaysItself IsHighChar) never text stop
written_stops_so text stop stops = written_stops IsHighChar never never never_over text stop stops

module _ (text : List ℕ) (x : ℕ) (xs : List ℕ) (e : text ≡ x ∷ xs) (low : 194 ≤ x) (high : x ≤ 244) (least greatest : ℕ) (l : least ≡ least_second x) (g : greatest ≡ greatest_second x) where
  stops_there : (stop : Stop) → StopsReading IsHighChar never (x ∷ xs) stop → StopsReading (SaysItself IsHighChar) never text stop
  stops_there stop stops = written_stops_so text stop (subst (λ z. StopsReading IsHighChar never z stop) (sym e) stops)

  read_there : (v : ℕ) (rest front back : List ℕ) → Reads IsHighChar never (x ∷ xs) v rest → front ≡ take (length text - length rest) text → back ≡ drop (length text - length rest) text → Reads (SaysItself IsHighChar) never text front back
  read_there v rest front back r f b = written_split IsHighChar never never never_over text rest front back v (subst (λ z. Reads IsHighChar never z v rest) (sym e) r) f b

  bounded : (P : (List ℕ → ℕ → Type 0) → Type 0) → P (IsBetween least greatest) → P (Second x)
  bounded P is = subst (λ z. P (IsBetween z (greatest_second x))) l (subst (λ z. P (IsBetween least z)) g is)

  pub at_second : (stop : Stop) → StopsReading (IsBetween least greatest) never xs stop → StopsReading (SaysItself IsHighChar) never text stop
  at_second stop stops = stops_there stop (second_stops x xs stop low high (bounded (λ z. StopsReading z never xs stop) stops))

  module _ (second : ℕ) (rest : List ℕ) (was : Reads (IsBetween least greatest) never xs second rest) where
    r : Reads (Second x) never xs second rest
    r = bounded (λ z. Reads z never xs second rest) was

    pub two_split : (front back : List ℕ) → x < 224 → front ≡ take (length text - length rest) text → back ≡ drop (length text - length rest) text → Reads (SaysItself IsHighChar) never text front back
    two_split front back h f b = read_there second rest front back (two_read x xs second rest r low h) f b

    pub at_third : (stop : Stop) → 224 ≤ x → StopsReading IsUtf8Tail never rest stop → StopsReading (SaysItself IsHighChar) never text stop
    at_third stop l stops = stops_there stop (third_stops x xs second rest r stop l high stops)

    module _ (third : ℕ) (others : List ℕ) (s : Reads IsUtf8Tail never rest third others) where
      pub three_split : (front back : List ℕ) → 224 ≤ x → x < 240 → front ≡ take (length text - length others) text → back ≡ drop (length text - length others) text → Reads (SaysItself IsHighChar) never text front back
      three_split front back l h f b = read_there third others front back (three_read x xs second rest r third others s l h) f b

      pub at_fourth : (stop : Stop) → 240 ≤ x → StopsReading IsUtf8Tail never others stop → StopsReading (SaysItself IsHighChar) never text stop
      at_fourth stop l stops = stops_there stop (fourth_stops x xs second rest r third others s stop l high stops)

      pub four_split : (fourth : ℕ) (last front back : List ℕ) → 240 ≤ x → Reads IsUtf8Tail never others fourth last → front ≡ take (length text - length last) text → back ≡ drop (length text - length last) text → Reads (SaysItself IsHighChar) never text front back
      four_split fourth last front back l t f b = read_there fourth last front back (four_read x xs second rest r third others s fourth last l high t) f b
