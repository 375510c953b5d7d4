-- A field that is read is the field that was written, and what was written is read again.
use Rattle.std.proofs.Common.{◌≡◌, ℕ, zero, suc, ◌+◌, ◌^◌, ◌<◌, ◌≤◌, Bool, true, false, cond, ltb, List, [], ◌∷◌, ◌++◌, length, get_or, take, drop, Option, Some, None, refl, sym, ap, subst, ◌∙◌, append_assoc, arith, inl, inr}
use Rattle.std.specs.Int.{w32, from_be_bytes}
use Rattle.std.specs.List.{flat_map, AllByRecursion}
use Rattle.std.proofs.lemmas.Bool.{cases_lt, ltb-false, le-ltb}
use Rattle.std.proofs.lemmas.List.{take_at, drop_at, take-append-drop, length-append, length-take, get_or-drop, get_or-take, get_or_past, append-nil, nil_from_length}
use Rattle.std.proofs.lemmas.List.Concat.{flat_map-cons}
use Rattle.std.proofs.lemmas.Nat.{be_bytes_4, from_be_bytes-to_be_bytes_4}
use Rattle.journal_records.specs.Spelling.{number, octet_list, HasLength}
use Rattle.journal_records.specs.private.Reading.{◌>>=◌, number_at, octet_at, list_at, lists_at}

-- each is an octet
abbrev pub AreOctets : List ℕ → Type 0
AreOctets octets = (i : ℕ) → get_or octets i 0 < 256

pub AreOctets-drop : (n : ℕ) (octets : List ℕ) → AreOctets octets → AreOctets (drop n octets)
AreOctets-drop n octets h i = rw get_or-drop (h (n + i))

pub AreOctets-take : (n : ℕ) (octets : List ℕ) → AreOctets octets → AreOctets (take n octets)
AreOctets-take n octets h i =
    elim (cases_lt i n) [
      | inl lt ↦ rw (get_or-take n octets i 0 lt) (h i)
      | inr le ↦ rw (get_or_past (take n octets) i 0 (omega (arith, length-take n octets))) (omega arith)
    ]

pub AreOctets-rest : (x : ℕ) (octets : List ℕ) → AreOctets (x ∷ octets) → AreOctets octets
AreOctets-rest x octets h i = h (suc i)

-- the value of a step that did not fail
pub bind_some : {A B : Type 0} (r : Option A) (f : A → Option B) (y : B) → (r >>= f) ≡ Some y → (x : A) × (r ≡ Some x) × (f x ≡ Some y)
bind_some (Some x) f y e = (x, refl, e)
bind_some None f y e = absurd cc

-- a test that did not fail
pub guard_some : {A : Type 0} (b : Bool) (x y : A) → cond b None (Some x) ≡ Some y → (b ≡ false) × (x ≡ y)
guard_some true x y e = absurd cc
guard_some false x y e = (refl, cc)

-- a test that held
pub guard_held : {A : Type 0} (b : Bool) (x y : A) → cond b (Some x) None ≡ Some y → (b ≡ true) × (x ≡ y)
guard_held true x y e = (refl, cc)
guard_held false x y e = absurd cc

abbrev some : {A : Type 0} → A → Option A
some x = Some x

pub some_is : {A : Type 0} (x y : A) → some x ≡ some y → x ≡ y
some_is x y e = cc

-- what a reader took from the front
pub record Takes (octets text rest : List ℕ) : Type 0 where
  pub parts : octets ≡ text ++ rest
  pub rest_fits : AreOctets rest

pub Takes-then : (a x b y c : List ℕ) → Takes a x b → Takes b y c → Takes a (x ++ y) c
Takes-then a x b y c p q = record { parts = p.parts ∙ ap (λ (t : List ℕ). x ++ t) q.parts ∙ sym (append_assoc x y c); rest_fits = q.rest_fits }

-- the last field fills the octets
pub Takes-all : (a x b : List ℕ) → Takes a x b → length b ≡ 0 → a ≡ x
Takes-all a x b p none = p.parts ∙ ap (λ (t : List ℕ). x ++ t) (nil_from_length b none) ∙ append-nil x

-- ---- numbers and octets

pub number_takes : (octets : List ℕ) (n : ℕ) (rest : List ℕ) → AreOctets octets → number_at octets ≡ Some (n, rest) → Takes octets (number n) rest × (n < 2 ^ 32)
number_takes octets n rest fits e =
    let g = guard_some (ltb (length octets) 4) (from_be_bytes w32 (take 4 octets), drop 4 octets) (n, rest) e in
    let long : 4 ≤ length octets = ltb-false _ _ g.0 in
    let n-is : from_be_bytes w32 (take 4 octets) ≡ n = ap (λ (p : ℕ × List ℕ). p.0) g.1 in
    let rest-is : drop 4 octets ≡ rest = ap (λ (p : ℕ × List ℕ). p.1) g.1 in
    let small = AreOctets-take 4 octets fits in
    let front : number n ≡ take 4 octets = ap number (sym n-is) ∙ be_bytes_4 (take 4 octets) _ (omega (arith, length-take 4 octets)) small refl in
    let below : from_be_bytes w32 (take 4 octets) < 2 ^ 32 = omega (arith, small 0, small 1, small 2, small 3) in (
      record {
        parts = sym (take-append-drop 4 octets) ∙ ap (λ (t : List ℕ). t ++ drop 4 octets) (sym front) ∙ ap (λ (t : List ℕ). number n ++ t) rest-is;
        rest_fits = subst AreOctets rest-is (AreOctets-drop 4 octets fits);
      },
      subst (λ (k : ℕ). k < 2 ^ 32) n-is below,
    )

again_at : (spelled rest : List ℕ) (n : ℕ) → length spelled ≡ 4 → from_be_bytes w32 spelled ≡ n → number_at (spelled ++ rest) ≡ Some (n, rest)
again_at spelled rest n len value =
    let long : ltb (length (spelled ++ rest)) 4 ≡ false = le-ltb _ _ (omega (arith, length-append spelled rest)) in
    rw (long, take_at spelled rest 4 len, drop_at spelled rest 4 len) (ap (λ (k : ℕ). Some (k, rest)) value)

pub number_again : (n : ℕ) (rest : List ℕ) → n < 2 ^ 32 → number_at (number n ++ rest) ≡ Some (n, rest)
number_again n rest lt = again_at (number n) rest n refl (from_be_bytes-to_be_bytes_4 n lt)

pub octet_takes : (octets : List ℕ) (n : ℕ) (rest : List ℕ) → AreOctets octets → octet_at octets ≡ Some (n, rest) → Takes octets (n ∷ []) rest
octet_takes [] n rest fits e = absurd cc
octet_takes (x ∷ octets) n rest fits e =
    let same = some_is (x, octets) (n, rest) e in
    let x-is : x ≡ n = ap (λ (p : ℕ × List ℕ). p.0) same in
    let rest-is : octets ≡ rest = ap (λ (p : ℕ × List ℕ). p.1) same in
    record { parts = rw (x-is, rest-is) refl; rest_fits = rw (← rest-is) (AreOctets-rest x octets fits) }

-- ---- lists of octets

pub list_takes : (octets text rest : List ℕ) → AreOctets octets → list_at octets ≡ Some (text, rest) → Takes octets (octet_list text) rest × HasLength text
unfolding list_at
list_takes octets text rest fits e =
    let b = bind_some (number_at octets) (λ n. cond (ltb (length n.1) n.0) None (Some (take n.0 n.1, drop n.0 n.1))) (text, rest) e in
    let n = b.0 in
    let t = number_takes octets n.0 n.1 fits b.1 in
    let g = guard_some (ltb (length n.1) n.0) (take n.0 n.1, drop n.0 n.1) (text, rest) b.2 in
    let long : n.0 ≤ length n.1 = ltb-false _ _ g.0 in
    let len : length (take n.0 n.1) ≡ n.0 = omega (arith, length-take n.0 n.1) in
    let second : Takes n.1 (take n.0 n.1) (drop n.0 n.1) = record { parts = sym (take-append-drop n.0 n.1); rest_fits = AreOctets-drop n.0 n.1 t.0.rest_fits } in
    let both = Takes-then octets (number n.0) n.1 (take n.0 n.1) (drop n.0 n.1) t.0 second in
    let whole : Takes octets (octet_list (take n.0 n.1)) (drop n.0 n.1) = subst (λ (k : ℕ). Takes octets (number k ++ take n.0 n.1) (drop n.0 n.1)) (sym len) both in
    subst (λ (p : List ℕ × List ℕ). Takes octets (octet_list p.0) p.1 × (length p.0 < 2 ^ 32)) g.1 (whole, omega (arith, t.1))

pub list_again : (text rest : List ℕ) → HasLength text → list_at (octet_list text ++ rest) ≡ Some (text, rest)
unfolding list_at
list_again text rest lt =
    let long : ltb (length (text ++ rest)) (length text) ≡ false = le-ltb _ _ (omega (arith, length-append text rest)) in
    let regrouped : octet_list text ++ rest ≡ number (length text) ++ (text ++ rest) = append_assoc (number (length text)) text rest in
    ap list_at regrouped ∙ rw (number_again (length text) (text ++ rest) lt, long, take_at text rest (length text) refl, drop_at text rest (length text) refl) refl

pub lists_take : (n : ℕ) (octets : List ℕ) (x : List (List ℕ) × List ℕ) → AreOctets octets → lists_at n octets ≡ Some x → Takes octets (flat_map octet_list x.0) x.1 × (length x.0 ≡ n) × AllByRecursion HasLength x.0
unfolding lists_at
lists_take zero octets x fits e =
    subst (λ (y : List (List ℕ) × List ℕ). Takes octets (flat_map octet_list y.0) y.1 × (length y.0 ≡ 0) × AllByRecursion HasLength y.0) (some_is ([], octets) x e) (record { parts = refl; rest_fits = fits }, refl, tt)
lists_take (suc n) octets x fits e =
    let a = bind_some (list_at octets) (λ first. lists_at n first.1 >>= λ others. Some (first.0 ∷ others.0, others.1)) x e in
    let b = bind_some (lists_at n a.0.1) (λ others. Some (a.0.0 ∷ others.0, others.1)) x a.2 in
    let first = list_takes octets a.0.0 a.0.1 fits a.1 in
    let second = lists_take n a.0.1 b.0 first.0.rest_fits b.1 in
    let both = Takes-then octets (octet_list a.0.0) a.0.1 (flat_map octet_list b.0.0) b.0.1 first.0 second.0 in
    let made : List (List ℕ) × List ℕ = (a.0.0 ∷ b.0.0, b.0.1) in
    subst (λ (y : List (List ℕ) × List ℕ). Takes octets (flat_map octet_list y.0) y.1 × (length y.0 ≡ suc n) × AllByRecursion HasLength y.0) (some_is made x b.2) (rw flat_map-cons both, ap suc second.1, (first.1, second.2))

pub lists_again : (ns : List (List ℕ)) (rest : List ℕ) → AllByRecursion HasLength ns → lists_at (length ns) (flat_map octet_list ns ++ rest) ≡ Some (ns, rest)
unfolding lists_at
lists_again [] rest fits = refl
lists_again (n ∷ ns) rest fits =
    let regrouped : flat_map octet_list (n ∷ ns) ++ rest ≡ octet_list n ++ (flat_map octet_list ns ++ rest) = ap (λ (x : List ℕ). x ++ rest) (flat_map-cons octet_list n ns) ∙ append_assoc (octet_list n) (flat_map octet_list ns) rest in
    ap (lists_at (suc (length ns))) regrouped ∙ rw (list_again n (flat_map octet_list ns ++ rest) fits.0, lists_again ns rest fits.1) refl
