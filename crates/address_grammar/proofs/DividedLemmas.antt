-- Parts divided by commas are read in one way.
use Rattle.std.proofs.Common.{◌≡◌, ℕ, true, List, [], ◌∷◌, ◌++◌, Option, Some, None, refl, sym, ap, ◌∙◌}
use Rattle.std.proofs.lemmas.List.{append_assoc, append-nil}
use Rattle.field_tokens.specs.Tokens.{TokenValue}
use Rattle.address_grammar.specs.private.Lexemes.{is_special_of}
use Rattle.address_grammar.specs.private.Walks.{awaited_after, and_then, walk, SplitsPlace, IsLastPlace}
use Rattle.address_grammar.specs.AddressLists.{Divided, SayParts, AreDivided}
use Rattle.address_grammar.proofs.WalkLemmas.{walked_not, not_last}

-- no place ends within what is said
abbrev pub Walked : {E : Type 0} → (List TokenValue → List E → Type 0) → Type 0
Walked {E = E} Says = (ts : List TokenValue) (es : List E) → Says ts es → walk None ts ≡ Some None

-- a place and what follows its comma, twice
pub record SamePlace (a b : List TokenValue) (x y : List TokenValue) : Type 0 where
  pub place : a ≡ b
  pub rest : x ≡ y

record Step (o : Option (Option ℕ)) (a : List TokenValue) : Type 0 where
  next : Option ℕ
  is : o ≡ Some next
  walked : walk next a ≡ Some None

step : (o : Option (Option ℕ)) (a : List TokenValue) → and_then o (λ n. walk n a) ≡ Some None → Step o a
step None a e = cc e
step (Some n) a e = record { next = n; is = refl; walked = e }

stop : (w : Option ℕ) (h : TokenValue) (b : List TokenValue) → w ≡ None → is_special_of 44 h ≡ true → walk w (h ∷ b) ≡ Some None → ⊥
stop w h b none mark walked = cc (rw (mark) at (rw (none) at walked))

cut_walk : (w : Option ℕ) (a b : List TokenValue) (s t : TokenValue) (x y : List TokenValue) → walk w a ≡ Some None → walk w b ≡ Some None → is_special_of 44 s ≡ true → is_special_of 44 t ≡ true
    → a ++ s ∷ x ≡ b ++ t ∷ y → SamePlace a b x y
cut_walk w [] [] s t x y wa wb is it e = record { place = refl; rest = cc e }
cut_walk w [] (h ∷ b) s t x y wa wb is it e =
    let none : w ≡ None = cc wa in
    let same : s ≡ h = cc e in
    absurd (stop w h b none (sym (ap (is_special_of 44) same) ∙ is) wb)
cut_walk w (h ∷ a) [] s t x y wa wb is it e =
    let none : w ≡ None = cc wb in
    let same : h ≡ t = cc e in
    absurd (stop w h a none (ap (is_special_of 44) same ∙ it) wa)
cut_walk w (h ∷ a) (k ∷ b) s t x y wa wb is it e =
    let same : h ≡ k = cc e in
    let rest : a ++ s ∷ x ≡ b ++ t ∷ y = cc e in
    let first = step (awaited_after w h) a wa in
    let second = step (awaited_after w k) b wb in
    let next : first.next ≡ second.next = cc (sym first.is ∙ ap (awaited_after w) same ∙ second.is) in
    let more = cut_walk first.next a b s t x y first.walked (rw (next) second.walked) is it rest in
    let front : a ≡ b = more.place in
    record { place = cc; rest = more.rest }

pub cut_place : (a b : List TokenValue) (s t : TokenValue) (x y : List TokenValue) → walk None a ≡ Some None → walk None b ≡ Some None → is_special_of 44 s ≡ true → is_special_of 44 t ≡ true
    → a ++ s ∷ x ≡ b ++ t ∷ y → SamePlace a b x y
cut_place a b s t x y wa wb is it e = cut_walk None a b s t x y wa wb is it e

some_none : (o : Option (Option ℕ)) → o ≡ Some None → o ≡ None → ⊥
some_none o p q = cc (sym p ∙ q)

-- the first part says the first values, and the rest the others
pub record FirstPart {E : Type 0} (Says : List TokenValue → List E → Type 0) (place rest : List TokenValue) (es : List E) : Type 0 where
  pub first : List E
  pub others : List E
  pub whole : es ≡ first ++ others
  pub says : Says place first
  pub divided : AreDivided Says rest others

pub divided_first : {E : Type 0} (Says : List TokenValue → List E → Type 0) (walked : Walked Says) (ts place rest : List TokenValue) (es : List E) → SplitsPlace ts place rest → AreDivided Says ts es → FirstPart Says place rest es
divided_first {E = E} Says walked ts place rest es s d = by d.parts d.divided d.say
  where
    by : (parts : List (List TokenValue)) → Divided 44 parts ts → SayParts Says parts es → FirstPart Says place rest es
    by [] div say = absurd div
    by (p ∷ []) div say =
        absurd (some_none (walk None ts) (rw (div) (walked p say.0 say.3)) (rw (s.whole) (walked_not place s.comma rest s.walked s.is_comma)))
    by (p ∷ n ∷ parts) div say =
        let cut = cut_place place p s.comma div.0 rest div.1 s.walked (walked p say.0 say.3) s.is_comma div.3 (sym s.whole ∙ div.2) in
        record { first = say.0; others = say.1; whole = say.2; says = rw (cut.place) say.3; divided = rw (cut.rest) (record { parts = n ∷ parts; divided = div.4; say = say.4 }) }

pub divided_more : {E : Type 0} (Says : List TokenValue → List E → Type 0) (ts place rest : List TokenValue) (first others : List E) → SplitsPlace ts place rest → Says place first → AreDivided Says rest others
    → AreDivided Says ts (first ++ others)
divided_more {E = E} Says ts place rest first others s says d = by d.parts d.divided d.say
  where
    by : (parts : List (List TokenValue)) → Divided 44 parts rest → SayParts Says parts others → AreDivided Says ts (first ++ others)
    by [] div say = absurd div
    by (n ∷ parts) div say = record { parts = place ∷ n ∷ parts; divided = (s.comma, rest, s.whole, s.is_comma, div); say = (first, others, refl, says, say) }

pub divided_one : {E : Type 0} (Says : List TokenValue → List E → Type 0) (ts : List TokenValue) (es : List E) → Says ts es → AreDivided Says ts es
divided_one Says ts es says = record { parts = ts ∷ []; divided = refl; say = (es, [], sym (append-nil es), says, refl) }

pub divided_last : {E : Type 0} (Says : List TokenValue → List E → Type 0) (walked : Walked Says) (ts : List TokenValue) (es : List E) → IsLastPlace ts → AreDivided Says ts es → Says ts es
divided_last {E = E} Says walked ts es last d = by d.parts d.divided d.say
  where
    by : (parts : List (List TokenValue)) → Divided 44 parts ts → SayParts Says parts es → Says ts es
    by [] div say = absurd div
    by (p ∷ []) div say =
        let all : es ≡ say.0 = say.2 ∙ ap (λ r. say.0 ++ r) say.4 ∙ append-nil say.0 in
        rw (div, all) say.3
    by (p ∷ n ∷ parts) div say = absurd (not_last p div.0 div.1 (walked p say.0 say.3) div.3 (rw (div.2) at last))

-- ---- a loop over the parts

pub record ReadsParts {E : Type 0} (Says : List TokenValue → List E → Type 0) (ts : List TokenValue) (done : List E) (rest : List TokenValue) : Type 0 where
  pub onward : (es : List E) → AreDivided Says rest es → AreDivided Says ts (done ++ es)
  pub back : (es : List E) → AreDivided Says ts es → (fs : List E) × AreDivided Says rest fs

pub parts_start : {E : Type 0} (Says : List TokenValue → List E → Type 0) (ts : List TokenValue) (done : List E) → done ≡ [] → ReadsParts Says ts done ts
parts_start Says ts done e = rw (e) (record { onward = λ es d. d; back = λ es d. (es, d) })

pub parts_turn : {E : Type 0} (Says : List TokenValue → List E → Type 0) (walked : Walked Says) (ts rest place after : List TokenValue) (done first new : List E)
    → ReadsParts Says ts done rest → SplitsPlace rest place after → Says place first → new ≡ done ++ first → ReadsParts Says ts new after
parts_turn Says walked ts rest place after done first new r s says e = rw (e) (record {
  onward = λ es d. rw (append_assoc done first es) (r.onward (first ++ es) (divided_more Says rest place after first es s says d));
  back = λ es d. let old = r.back es d in let part = divided_first Says walked rest place after old.0 s old.1 in (part.others, part.divided);
})

pub parts_end : {E : Type 0} (Says : List TokenValue → List E → Type 0) (ts rest : List TokenValue) (done first new : List E) → ReadsParts Says ts done rest → Says rest first → new ≡ done ++ first → AreDivided Says ts new
parts_end Says ts rest done first new r says e = rw (e) (r.onward first (divided_one Says rest first says))

pub parts_stuck : {E : Type 0} (Says : List TokenValue → List E → Type 0) (walked : Walked Says) (ts rest place after : List TokenValue) (done : List E) → ReadsParts Says ts done rest → SplitsPlace rest place after
    → ((es : List E) → Says place es → ⊥) → (es : List E) → AreDivided Says ts es → ⊥
parts_stuck Says walked ts rest place after done r s none es d = let old = r.back es d in let part = divided_first Says walked rest place after old.0 s old.1 in none part.first part.says

pub parts_stuck_last : {E : Type 0} (Says : List TokenValue → List E → Type 0) (walked : Walked Says) (ts rest : List TokenValue) (done : List E) → ReadsParts Says ts done rest → IsLastPlace rest
    → ((es : List E) → Says rest es → ⊥) → (es : List E) → AreDivided Says ts es → ⊥
parts_stuck_last Says walked ts rest done r last none es d = let old = r.back es d in none old.0 (divided_last Says walked rest old.0 last old.1)

-- ---- one reading

abbrev pub SaysOnce : {E : Type 0} → (List TokenValue → List E → Type 0) → Type 0
SaysOnce {E = E} Says = (ts : List TokenValue) (es fs : List E) → Says ts es → Says ts fs → es ≡ fs

parts_once : {E : Type 0} (Says : List TokenValue → List E → Type 0) (walked : Walked Says) (once : SaysOnce Says) (ps qs : List (List TokenValue)) (ts : List TokenValue) (es fs : List E)
    → Divided 44 ps ts → SayParts Says ps es → Divided 44 qs ts → SayParts Says qs fs → es ≡ fs
parts_once Says walked once [] qs ts es fs dp sp dq sq = absurd dp
parts_once Says walked once (p ∷ ps) [] ts es fs dp sp dq sq = absurd dq
parts_once Says walked once (p ∷ []) (q ∷ []) ts es fs dp sp dq sq =
    let first : sp.0 ≡ sq.0 = once p sp.0 sq.0 sp.3 (rw (sym dp ∙ dq) sq.3) in
    sp.2 ∙ ap (λ r. sp.0 ++ r) sp.4 ∙ ap (λ r. r ++ []) first ∙ sym (ap (λ r. sq.0 ++ r) sq.4) ∙ sym sq.2
parts_once Says walked once (p ∷ []) (q ∷ n ∷ qs) ts es fs dp sp dq sq =
    absurd (some_none (walk None ts) (rw (dp) (walked p sp.0 sp.3)) (rw (dq.2) (walked_not q dq.0 dq.1 (walked q sq.0 sq.3) dq.3)))
parts_once Says walked once (p ∷ m ∷ ps) (q ∷ []) ts es fs dp sp dq sq =
    absurd (some_none (walk None ts) (rw (dq) (walked q sq.0 sq.3)) (rw (dp.2) (walked_not p dp.0 dp.1 (walked p sp.0 sp.3) dp.3)))
parts_once Says walked once (p ∷ m ∷ ps) (q ∷ n ∷ qs) ts es fs dp sp dq sq =
    let cut = cut_place p q dp.0 dq.0 dp.1 dq.1 (walked p sp.0 sp.3) (walked q sq.0 sq.3) dp.3 dq.3 (sym dp.2 ∙ dq.2) in
    let first : sp.0 ≡ sq.0 = once p sp.0 sq.0 sp.3 (rw (cut.place) sq.3) in
    let others : sp.1 ≡ sq.1 = parts_once Says walked once (m ∷ ps) (n ∷ qs) dp.1 sp.1 sq.1 dp.4 sp.4 (rw (cut.rest) dq.4) sq.4 in
    sp.2 ∙ ap (λ r. r ++ sp.1) first ∙ ap (λ r. sq.0 ++ r) others ∙ sym sq.2

pub divided_once : {E : Type 0} (Says : List TokenValue → List E → Type 0) (walked : Walked Says) (once : SaysOnce Says) (ts : List TokenValue) (es fs : List E) → AreDivided Says ts es → AreDivided Says ts fs → es ≡ fs
divided_once Says walked once ts es fs p q = parts_once Says walked once p.parts q.parts ts es fs p.divided p.say q.divided q.say

-- the parts themselves are one
pub parts_same : {E : Type 0} (Says : List TokenValue → List E → Type 0) (walked : Walked Says) (ps qs : List (List TokenValue)) (ts : List TokenValue) (es fs : List E)
    → Divided 44 ps ts → SayParts Says ps es → Divided 44 qs ts → SayParts Says qs fs → ps ≡ qs
parts_same Says walked [] qs ts es fs dp sp dq sq = absurd dp
parts_same Says walked (p ∷ ps) [] ts es fs dp sp dq sq = absurd dq
parts_same Says walked (p ∷ []) (q ∷ []) ts es fs dp sp dq sq = ap (λ r. r ∷ []) (sym dp ∙ dq)
parts_same Says walked (p ∷ []) (q ∷ n ∷ qs) ts es fs dp sp dq sq =
    absurd (some_none (walk None ts) (rw (dp) (walked p sp.0 sp.3)) (rw (dq.2) (walked_not q dq.0 dq.1 (walked q sq.0 sq.3) dq.3)))
parts_same Says walked (p ∷ m ∷ ps) (q ∷ []) ts es fs dp sp dq sq =
    absurd (some_none (walk None ts) (rw (dq) (walked q sq.0 sq.3)) (rw (dp.2) (walked_not p dp.0 dp.1 (walked p sp.0 sp.3) dp.3)))
parts_same Says walked (p ∷ m ∷ ps) (q ∷ n ∷ qs) ts es fs dp sp dq sq =
    let cut = cut_place p q dp.0 dq.0 dp.1 dq.1 (walked p sp.0 sp.3) (walked q sq.0 sq.3) dp.3 dq.3 (sym dp.2 ∙ dq.2) in
    let more = parts_same Says walked (m ∷ ps) (n ∷ qs) dp.1 sp.1 sq.1 dp.4 sp.4 (rw (cut.rest) dq.4) sq.4 in
    ap (λ r. r ∷ m ∷ ps) cut.place ∙ ap (λ r. q ∷ r) more
