-- Deciding by finite searches: over the partings of octets, the entries of a list, the numbers up to one, and short lists.
use Rattle.std.proofs.Common.{◌≡◌, ℕ, zero, suc, ◌<◌, ◌≤◌, nat_lt, Bool, true, false, List, [], ◌∷◌, ◌++◌, length, Contains, ◌⊎◌, inl, inr, refl, sym, ap, subst, arith}
use Rattle.std.proofs.lemmas.Bool.{both_ways, cases_eq, cases_lt, and_parts, and_from, lt-ltb, ltb-true}
use Rattle.std.specs.List.{list_all}
use Rattle.std.proofs.lemmas.List.Elements.{Contains-append_right, Contains-append_cases, Contains-push_cases}

pub decide_by : {P Q : Type 0} → (P → Q) → (Q → P) → Dec P → Dec Q
decide_by to from (yes p) = yes (to p)
decide_by to from (no none) = no (λ q. none (from q))

pub decide_not : {P : Type 0} → Dec P → Dec (P → ⊥)
decide_not (yes p) = no (λ none. none p)
decide_not (no none) = yes none

pub decide_both : {P Q : Type 0} → Dec P → Dec Q → Dec (P × Q)
decide_both (yes p) (yes q) = yes (p, q)
decide_both (yes p) (no none) = no (λ s. none s.1)
decide_both (no none) q = no (λ s. none s.0)

pub decide_either : {P Q : Type 0} → Dec P → Dec Q → Dec (P ⊎ Q)
decide_either (yes p) q = yes (inl p)
decide_either (no none) (yes q) = yes (inr q)
decide_either {P} {Q} (no none) (no other) = no neither
  where
    neither : P ⊎ Q → ⊥
    neither (inl p) = none p
    neither (inr q) = other q

-- ---- tests, numbers and lists

pub decide_true : (b : Bool) → Dec (b ≡ true)
decide_true true = yes refl
decide_true false = no (λ e. both_ways false refl e)

pub decide_same : (a b : ℕ) → Dec (a ≡ b)
decide_same a b = elim (cases_eq a b) [
  | inl same ↦ yes same
  | inr other ↦ no other
]

pub decide_below : (a b : ℕ) → Dec (a < b)
decide_below a b = elim (cases_lt a b) [
  | inl less ↦ yes less
  | inr more ↦ no (λ less. omega (arith, less, more))
]

pub decide_within : (a b : ℕ) → Dec (a ≤ b)
decide_within a b = elim (cases_lt b a) [
  | inl more ↦ no (λ few. omega (arith, few, more))
  | inr few ↦ yes few
]

pub decide_same_list : (a b : List ℕ) → Dec (a ≡ b)
decide_same_list [] [] = yes refl
decide_same_list [] (y ∷ b) = no (λ e. cc e)
decide_same_list (x ∷ a) [] = no (λ e. cc e)
decide_same_list (x ∷ a) (y ∷ b) = decide_by (λ s. joined s.0 s.1) (λ e. (cc e, cc e)) (decide_both (decide_same x y) (decide_same_list a b))
  where
    joined : x ≡ y → a ≡ b → x ∷ a ≡ y ∷ b
    joined h t = cc (h, t)

-- the second list begins with the first
pub decide_begins : (a b : List ℕ) → Dec ((rest : List ℕ) × (b ≡ a ++ rest))
decide_begins [] b = yes (b, refl)
decide_begins (x ∷ a) [] = no (λ s. cc s.1)
decide_begins (x ∷ a) (y ∷ b) = decide_by to from (decide_both (decide_same x y) (decide_begins a b))
  where
    to : (x ≡ y) × ((rest : List ℕ) × (b ≡ a ++ rest)) → (rest : List ℕ) × (y ∷ b ≡ x ∷ (a ++ rest))
    to s = (s.1.0, cc (s.0, s.1.1))

    from : (rest : List ℕ) × (y ∷ b ≡ x ∷ (a ++ rest)) → (x ≡ y) × ((rest : List ℕ) × (b ≡ a ++ rest))
    from s = (cc s.1, (s.0, cc s.1))

-- ---- partings

-- the octets are two parts of which this holds
pub record Parting (Q : List ℕ → List ℕ → Type 0) (octets : List ℕ) : Type 0 where
  pub front : List ℕ
  pub back : List ℕ
  pub whole : octets ≡ front ++ back
  pub holds : Q front back

pub decide_parting : (octets : List ℕ) (Q : List ℕ → List ℕ → Type 0) → ((a b : List ℕ) → octets ≡ a ++ b → Dec (Q a b)) → Dec (Parting Q octets)
decide_parting [] Q decide = decide_by (λ q. record { front = []; back = []; whole = refl; holds = q }) (λ (p : Parting Q []). nothing p.front p.back p.whole p.holds) (decide [] [] refl)
  where
    nothing : (a b : List ℕ) → [] ≡ a ++ b → Q a b → Q [] []
    nothing [] b e q = subst (λ z. Q [] z) (sym e) q
    nothing (y ∷ a) b e q = absurd (cc e)
decide_parting (x ∷ xs) Q decide = decide_by to from (decide_either (decide [] (x ∷ xs) refl) (decide_parting xs (λ a b. Q (x ∷ a) b) (λ a b e. decide (x ∷ a) b (ap (λ z. x ∷ z) e))))
  where
    to : Q [] (x ∷ xs) ⊎ Parting (λ a b. Q (x ∷ a) b) xs → Parting Q (x ∷ xs)
    to (inl q) = record { front = []; back = x ∷ xs; whole = refl; holds = q }
    to (inr p) = record { front = x ∷ p.front; back = p.back; whole = ap (λ z. x ∷ z) p.whole; holds = p.holds }

    by : (a b : List ℕ) → x ∷ xs ≡ a ++ b → Q a b → Q [] (x ∷ xs) ⊎ Parting (λ a b. Q (x ∷ a) b) xs
    by [] b e q = inl (subst (λ z. Q [] z) (sym e) q)
    by (y ∷ a) b e q =
        let same : y ≡ x = cc e in
        inr (record { front = a; back = b; whole = cc e; holds = subst (λ z. Q (z ∷ a) b) same q })

    from : Parting Q (x ∷ xs) → Q [] (x ∷ xs) ⊎ Parting (λ a b. Q (x ∷ a) b) xs
    from p = by p.front p.back p.whole p.holds

-- ---- entries

pub decide_entry : {X : Type 0} (entries : List X) (Q : X → Type 0) → ((x : X) → Dec (Q x)) → Dec ((x : X) × Contains entries x × Q x)
decide_entry [] Q decide = no (λ s. omega (arith, s.1.1))
decide_entry {X} (x ∷ xs) Q decide = decide_by to from (decide_either (decide x) (decide_entry xs Q decide))
  where
    to : Q x ⊎ ((y : X) × Contains xs y × Q y) → (y : X) × Contains (x ∷ xs) y × Q y
    to (inl q) = (x, (0, omega arith, refl), q)
    to (inr s) = (s.0, Contains-append_right (x ∷ []) xs s.0 s.1, s.2)

    only : (y : X) → Contains (x ∷ []) y → x ≡ y
    only y is = elim (Contains-push_cases [] x y is) [
      | inl none ↦ absurd (omega (arith, none.1))
      | inr same ↦ same
    ]

    from : (y : X) × Contains (x ∷ xs) y × Q y → Q x ⊎ ((y : X) × Contains xs y × Q y)
    from s = elim (Contains-append_cases (x ∷ []) xs s.0 s.1) [
      | inl here ↦ inl (subst Q (sym (only s.0 here)) s.2)
      | inr there ↦ inr (s.0, there, s.2)
    ]

-- ---- numbers below one, and short lists of them

decide_number : (most : ℕ) (Q : ℕ → Type 0) → ((n : ℕ) → Dec (Q n)) → Dec ((n : ℕ) × n < most × Q n)
decide_number zero Q decide = no (λ s. omega (arith, s.1))
decide_number (suc most) Q decide = decide_by to from (decide_either (decide most) (decide_number most Q decide))
  where
    to : Q most ⊎ ((n : ℕ) × n < most × Q n) → (n : ℕ) × n < suc most × Q n
    to (inl q) = (most, omega arith, q)
    to (inr s) = (s.0, omega (arith, s.1), s.2)

    from : (n : ℕ) × n < suc most × Q n → Q most ⊎ ((n : ℕ) × n < most × Q n)
    from s = elim (cases_eq s.0 most) [
      | inl last ↦ inl (subst Q last s.2)
      | inr other ↦ inr (s.0, omega (arith, s.1, other), s.2)
    ]

-- so many numbers at most, each below this one
pub record ShortList (len most : ℕ) (Q : List ℕ → Type 0) : Type 0 where
  pub numbers : List ℕ
  pub few : length numbers ≤ len
  pub small : list_all (λ n. nat_lt n most) numbers ≡ true
  pub holds : Q numbers

pub decide_short_list : (len most : ℕ) (Q : List ℕ → Type 0) → ((numbers : List ℕ) → Dec (Q numbers)) → Dec (ShortList len most Q)
decide_short_list zero most Q decide = decide_by (λ q. record { numbers = []; few = omega arith; small = refl; holds = q }) (λ (s : ShortList zero most Q). at s.numbers s.few s.holds) (decide [])
  where
    at : (xs : List ℕ) → length xs ≤ zero → Q xs → Q []
    at [] few q = q
    at (x ∷ xs) few q = absurd (omega (arith, few))
decide_short_list (suc len) most Q decide =
    decide_by to from (decide_either (decide []) (decide_number most (λ n. ShortList len most (λ ns. Q (n ∷ ns))) (λ n. decide_short_list len most (λ ns. Q (n ∷ ns)) (λ ns. decide (n ∷ ns)))))
  where
    to : Q [] ⊎ ((n : ℕ) × n < most × ShortList len most (λ ns. Q (n ∷ ns))) → ShortList (suc len) most Q
    to (inl q) = record { numbers = []; few = omega arith; small = refl; holds = q }
    to (inr s) = record {
      numbers = s.0 ∷ s.2.numbers;
      few = omega (arith, s.2.few);
      small = and_from (nat_lt s.0 most) (list_all (λ n. nat_lt n most) s.2.numbers) (lt-ltb s.0 most s.1) s.2.small;
      holds = s.2.holds;
    }

    by : (ns : List ℕ) → length ns ≤ suc len → list_all (λ n. nat_lt n most) ns ≡ true → Q ns → Q [] ⊎ ((n : ℕ) × n < most × ShortList len most (λ more. Q (n ∷ more)))
    by [] few small q = inl q
    by (n ∷ ns) few small q =
        let parts = and_parts (nat_lt n most) (list_all (λ m. nat_lt m most) ns) small in
        inr (n, ltb-true n most parts.0, record { numbers = ns; few = omega (arith, few); small = parts.1; holds = q })

    from : ShortList (suc len) most Q → Q [] ⊎ ((n : ℕ) × n < most × ShortList len most (λ ns. Q (n ∷ ns)))
    from s = by s.numbers s.few s.small s.holds

-- ---- the least number above 0

pub record Least (most : ℕ) (P : ℕ → Type 0) : Type 0 where
  pub number : ℕ
  pub some : 0 < number
  pub few : number ≤ most
  pub holds : P number
  pub none_below : (n : ℕ) → 0 < n → n < number → P n → ⊥

pub find_least : (most : ℕ) (P : ℕ → Type 0) → ((n : ℕ) → Dec (P n)) → Least most P ⊎ ((n : ℕ) → 0 < n → n ≤ most → P n → ⊥)
find_least zero P decide = inr (λ n some few p. omega (arith, some, few))
find_least (suc most) P decide = elim (find_least most P decide) [
  | inl found ↦ inl (record { number = found.number; some = found.some; few = omega (arith, found.few); holds = found.holds; none_below = found.none_below })
  | inr none ↦ elim (decide (suc most)) [
    | yes p ↦ inl (record { number = suc most; some = omega arith; few = omega arith; holds = p; none_below = λ n some less q. none n some (omega (arith, less)) q })
    | no other ↦ inr (λ n some few p. elim (cases_eq n (suc most)) [
      | inl last ↦ other (subst P last p)
      | inr less ↦ none n some (omega (arith, few, less)) p
    ])
  ]
]
