-- The smallest productions are read exactly.
use Rattle.std.proofs.Common.{◌≡◌, ℕ, ◌+◌, ◌-◌, ◌*◌, ◌<◌, ◌≤◌, ◌^◌, Bool, true, false, List, [], ◌∷◌, ◌++◌, length, inl, inr, refl, sym, ap, ◌∙◌, subst, append_assoc, append-nil, length-append, arith}
use Rattle.std.proofs.lemmas.Bool.{and_parts, both_ways}
use Rattle.std.proofs.lemmas.Bool.Decides.{nat_tests}
use Rattle.std.proofs.lemmas.Grind.{common_steps}
use Rattle.std.specs.List.{list_all}
use Rattle.imap_words.specs.Languages.{IsOctet, IsViable}
use Rattle.imap_words.specs.Reading.{BeginsAlike, BeginsIn, always, Reads, FailsAt, StopsReading, never}
use Rattle.imap_words.specs.Tokens.{IsNumber32, IsNonZero, BeginsZero, is_digit, decimal_from}
use Rattle.imap_words.specs.declared.stop.Stop.{Stop}
use Rattle.imap_words.specs.declared.stop.Stop.TheVariants.{More, Bad, Memory}
use Rattle.imap_words.proofs.Passing.{all_append, no_octets}
use Rattle.imap_words.proofs.Composing.{NeverAt, fails_first}

-- two fronts of one list are the same, or one is shorter
pub data Compared (a word b more : List ℕ) : Type 0 where
  Same : a ≡ word → Compared a word b more
  Longer : (y : ℕ) (c : List ℕ) → a ≡ word ++ y ∷ c → more ≡ y ∷ (c ++ b) → Compared a word b more
  Shorter : (y : ℕ) (c : List ℕ) → word ≡ a ++ y ∷ c → b ≡ y ∷ (c ++ more) → Compared a word b more

pub compared : (a word b more : List ℕ) → a ++ b ≡ word ++ more → Compared a word b more
compared [] [] b more e = Same refl
compared [] (y ∷ word) b more e = Shorter y word refl e
compared (x ∷ a) [] b more e = Longer x a refl (sym e)
compared (x ∷ a) (y ∷ word) b more e = onwards x y a word b more (cc e) (compared a word b more (cc e))
  where
    onwards : (x y : ℕ) (a word b more : List ℕ) → x ≡ y → Compared a word b more → Compared (x ∷ a) (y ∷ word) b more
    onwards x y a word b more e (Same s) = Same (cc (e, s))
    onwards x y a word b more e (Longer z c s t) = Longer z c (cc (e, s)) t
    onwards x y a word b more e (Shorter z c s t) = Shorter z c (cc (e, s)) t

-- Of each word there is one value, a longer one does not go on as the text does, and what goes on a shorter one passes.
pub greedy_reads : {V : Type 0} (P : List ℕ → V → Type 0) (p : V → ℕ → Bool) (text word : List ℕ) (v : V) (rest : List ℕ) → text ≡ word ++ rest → P word v
    → ((w : V) → P word w → w ≡ v) → ((y : ℕ) (c more : List ℕ) (w : V) → BeginsAlike rest (y ∷ more) → P (word ++ y ∷ c) w → ⊥)
    → ((a : List ℕ) (y : ℕ) (c : List ℕ) (w : V) → word ≡ a ++ y ∷ c → P a w → p w y ≡ true) → Reads P p text v rest
greedy_reads P p text word v rest whole is once longer shorter = record {
  word = word;
  whole = whole;
  is_word = is;
  only = λ more a b w other on e. elim (compared a word b more e) [
    | Same s ↦ inl (s, once w (subst (λ z. P z w) s other))
    | Longer y c s t ↦ absurd (longer y c (c ++ b) w (subst (λ z. BeginsAlike rest z) t on) (subst (λ z. P z w) s other))
    | Shorter y c s t ↦ inr (subst (λ z. BeginsIn (p w) z) (sym t) (shorter a y c w s other))
  ];
}

-- ---- an octet

pub octet_viable : (x : ℕ) → IsViable (IsOctet x) []
octet_viable x = record { rest = x ∷ []; value = x; is_word = (refl, refl) }

pub octet_more : (x : ℕ) (text : List ℕ) → length text ≡ 0 → IsViable (IsOctet x) text
octet_more x text e = rw (no_octets text e) (octet_viable x)

pub octet_never : (x y : ℕ) → (y ≡ x → ⊥) → NeverAt (IsOctet x) y
octet_never x y other a b v more is e = other (first_is x y a b more is.0 e)
  where
    first_is : (x y : ℕ) (a b more : List ℕ) → a ≡ x ∷ [] → a ++ b ≡ y ∷ more → y ≡ x
    first_is x y [] b more is e = cc is
    first_is x y (z ∷ a) b more is e = cc (is, e)

pub octet_fails : (x y : ℕ) (text rest : List ℕ) → text ≡ y ∷ rest → (y ≡ x → ⊥) → FailsAt (IsOctet x) never text (length text)
octet_fails x y text rest e other = rw e (fails_first (IsOctet x) never y rest (octet_viable x) (octet_never x y other))

-- ---- a number

pub decimal_append : (n : ℕ) (a b : List ℕ) → decimal_from n (a ++ b) ≡ decimal_from (decimal_from n a) b
decimal_append n [] b = refl
decimal_append n (x ∷ a) b = decimal_append (n * 10 + (x - 48)) a b

pub decimal_grows : (n : ℕ) (xs : List ℕ) → n ≤ decimal_from n xs
decimal_grows n [] = omega arith
decimal_grows n (x ∷ xs) = omega (arith, decimal_grows (n * 10 + (x - 48)) xs)

pub all_push : (p : ℕ → Bool) (a : List ℕ) (x : ℕ) → list_all p a ≡ true → p x ≡ true → list_all p (a ++ x ∷ []) ≡ true
all_push p [] x h e = grind (arith, common_steps, e)
all_push p (y ∷ a) x h e =
    let parts = and_parts (p y) (list_all p a) h in
    let tail = all_push p a x parts.1 e in
    grind (arith, common_steps, parts.0, tail)

-- what a loop has read
pub record Counted (text : List ℕ) (value : ℕ) (rest : List ℕ) : Type 0 where
  pub word : List ℕ
  pub whole : text ≡ word ++ rest
  pub is_number : IsNumber32 word value

pub number_reads : (text : List ℕ) (value : ℕ) (rest : List ℕ) (x : ℕ) (others : List ℕ) → Counted text value rest → rest ≡ x ∷ others
    → (is_digit x ≡ true → value * 10 + (x - 48) < 2 ^ 32 → ⊥) → Reads IsNumber32 (always is_digit) text value rest
number_reads text value rest x others counted e none =
    greedy_reads IsNumber32 (always is_digit) text counted.word value rest counted.whole counted.is_number
    (λ w is. is.value_is ∙ sym counted.is_number.value_is)
    (λ y c more w on is. too_large y c w (subst (λ z. BeginsAlike z (y ∷ more)) e on) is)
    (λ a y c w s is. (and_parts (is_digit y) (list_all is_digit c) (all_append is_digit a (y ∷ c) (subst (λ z. list_all is_digit z ≡ true) s counted.is_number.digits)).1).0)
  where
    too_large : (y : ℕ) (c : List ℕ) (w : ℕ) → x ≡ y → IsNumber32 (counted.word ++ y ∷ c) w → ⊥
    too_large y c w same is =
        let digit : is_digit y ≡ true = (and_parts (is_digit y) (list_all is_digit c) (all_append is_digit counted.word (y ∷ c) is.digits).1).0 in
        let sum : w ≡ decimal_from (value * 10 + (y - 48)) c = is.value_is ∙ (decimal_append 0 counted.word (y ∷ c) ∙ ap (λ n. decimal_from (n * 10 + (y - 48)) c) (sym counted.is_number.value_is)) in
        let grows = decimal_grows (value * 10 + (y - 48)) c in
        let small : value * 10 + (y - 48) < 2 ^ 32 = omega (arith, sum, grows, is.bound) in
        none (rw same digit) (rw same small)

zero_digit : is_digit 48 ≡ true
unfolding is_digit
zero_digit = refl

pub number_viable : IsViable IsNumber32 []
number_viable = record { rest = 48 ∷ []; value = 0; is_word = record { some = omega arith; digits = grind (arith, common_steps, zero_digit); value_is = refl; bound = omega arith } }

pub number_never : (x : ℕ) → is_digit x ≡ false → NeverAt IsNumber32 x
number_never x bad a b v more is e = head_of a is.some is.digits e
  where
    head_of : (a : List ℕ) → 0 < length a → list_all is_digit a ≡ true → a ++ b ≡ x ∷ more → ⊥
    head_of [] some passes e = omega (arith, some)
    head_of (y ∷ a) some passes e =
        let same : y ≡ x = cc e in
        both_ways (is_digit x) bad (subst (λ z. is_digit z ≡ true) same (and_parts (is_digit y) (list_all is_digit a) passes).0)

-- a single digit is none too large
small : (x : ℕ) → is_digit x ≡ true → 0 * 10 + (x - 48) < 2 ^ 32
unfolding is_digit
small x e = grind (arith, common_steps, nat_tests)

either_bit : (b : Bool) → (b ≡ true → ⊥) → b ≡ false
either_bit true h = absurd (h refl)
either_bit false h = refl

pub number_fails : (text : List ℕ) (x : ℕ) (xs : List ℕ) → text ≡ x ∷ xs → (is_digit x ≡ true → 0 * 10 + (x - 48) < 2 ^ 32 → ⊥) → FailsAt IsNumber32 (always is_digit) text (length text)
number_fails text x xs e none = rw e (fails_first IsNumber32 (always is_digit) x xs number_viable (number_never x (either_bit (is_digit x) (λ d. none d (small x d)))))

pub number_open : (text : List ℕ) (value : ℕ) (rest : List ℕ) → Counted text value rest → length rest ≡ 0 → IsViable IsNumber32 text
number_open text value rest counted e = record {
  rest = [];
  value = value;
  is_word = subst (λ z. IsNumber32 z value) (sym (append-nil counted.word) ∙ (ap (λ z. counted.word ++ z) (sym (no_octets rest e)) ∙ (sym counted.whole ∙ sym (append-nil text)))) counted.is_number;
}

pub counted_first : (text : List ℕ) (x : ℕ) (xs : List ℕ) (value : ℕ) → text ≡ x ∷ xs → is_digit x ≡ true → value ≡ 0 * 10 + (x - 48) → Counted text value xs
counted_first text x xs value e digit v = record {
  word = x ∷ [];
  whole = e;
  is_number = record { some = omega arith; digits = grind (arith, common_steps, digit); value_is = v; bound = rw v (small x digit) };
}

pub counted_more : (text : List ℕ) (value : ℕ) (rest : List ℕ) (x : ℕ) (others : List ℕ) (next : ℕ) → Counted text value rest → rest ≡ x ∷ others
    → is_digit x ≡ true → next ≡ value * 10 + (x - 48) → next < 2 ^ 32 → Counted text next others
counted_more text value rest x others next counted e digit n bound = record {
  word = counted.word ++ x ∷ [];
  whole = counted.whole ∙ (ap (λ z. counted.word ++ z) e ∙ sym (append_assoc counted.word (x ∷ []) others));
  is_number = record {
    some = rw (length-append counted.word (x ∷ [])) (omega arith);
    digits = all_push is_digit counted.word x counted.is_number.digits digit;
    value_is = n ∙ (ap (λ m. m * 10 + (x - 48)) counted.is_number.value_is ∙ sym (decimal_append 0 counted.word (x ∷ [])));
    bound = bound;
  };
}

pub number_more : (text : List ℕ) → length text ≡ 0 → IsViable IsNumber32 text
number_more text e = rw (no_octets text e) number_viable

-- ---- a number that doesn't begin with a zero

one_digit : is_digit 49 ≡ true
unfolding is_digit
one_digit = refl

pub non_zero_viable : IsViable IsNonZero []
non_zero_viable = record {
  rest = 49 ∷ [];
  value = 1;
  is_word = record { is_number = record { some = omega arith; digits = grind (arith, common_steps, one_digit); value_is = refl; bound = omega arith }; begins = λ e. omega (arith, e) };
}

pub non_zero_more : (text : List ℕ) → length text ≡ 0 → IsViable IsNonZero text
non_zero_more text e = rw (no_octets text e) non_zero_viable

zero_never : (x : ℕ) → x ≡ 48 → NeverAt IsNonZero x
zero_never x zero a b v more is e = begun a is.begins is.is_number.some e
  where
    begun : (a : List ℕ) → (BeginsZero a → ⊥) → 0 < length a → a ++ b ≡ x ∷ more → ⊥
    begun [] none some e = omega (arith, some)
    begun (y ∷ a) none some e = let same : y ≡ x = cc e in none (same ∙ zero)

pub zero_fails : (text : List ℕ) (x : ℕ) (xs : List ℕ) → text ≡ x ∷ xs → x ≡ 48 → FailsAt IsNonZero (always is_digit) text (length text)
zero_fails text x xs e zero = rw e (fails_first IsNonZero (always is_digit) x xs non_zero_viable (zero_never x zero))

viable_on : (front : List ℕ) → (BeginsZero front → ⊥) → IsViable IsNumber32 front → IsViable IsNonZero front
viable_on [] none viable = non_zero_viable
viable_on (x ∷ front) none viable = record { rest = viable.rest; value = viable.value; is_word = record { is_number = viable.is_word; begins = none } }

begins_so : (front text back : List ℕ) → text ≡ front ++ back → BeginsZero front → BeginsZero text
begins_so [] text back e zero = absurd zero
begins_so (x ∷ front) text back e zero = rw e zero

pub non_zero_reads : (text : List ℕ) (v : ℕ) (rest : List ℕ) (x : ℕ) (xs : List ℕ) → text ≡ x ∷ xs → (x ≡ 48 → ⊥) → Reads IsNumber32 (always is_digit) text v rest → Reads IsNonZero (always is_digit) text v rest
non_zero_reads text v rest x xs e other r = record {
  word = r.word;
  whole = r.whole;
  is_word = record { is_number = r.is_word; begins = λ zero. other (subst BeginsZero e (begins_so r.word text rest r.whole zero)) };
  only = λ more a b w is on same. r.only more a b w is.is_number on same;
}

pub non_zero_stops : (text : List ℕ) (x : ℕ) (xs : List ℕ) (stop : Stop) → text ≡ x ∷ xs → (x ≡ 48 → ⊥) → StopsReading IsNumber32 (always is_digit) text stop → StopsReading IsNonZero (always is_digit) text stop
non_zero_stops text x xs More e other viable = viable_on text (λ zero. other (subst BeginsZero e zero)) viable
non_zero_stops text x xs (Bad left) e other fails = record {
  front = fails.front;
  octet = fails.octet;
  back = fails.back;
  whole = fails.whole;
  left_is = fails.left_is;
  viable = viable_on fails.front (λ zero. other (subst BeginsZero e (begins_so fails.front text _ fails.whole zero))) fails.viable;
  hopeless = λ more a b w is same. fails.hopeless more a b w is.is_number same;
}
non_zero_stops text x xs Memory e other stops = tt
