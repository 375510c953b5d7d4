-- The place of `global` in a body.
use Rattle.std.proofs.Common.{◌≡◌, ℕ, suc, ◌+◌, ◌-◌, ◌<◌, ◌≤◌, Bool, true, false, ◌||◌, inl, inr, List, [], ◌∷◌, ◌++◌, length, get_or, take, drop, refl, sym, ap, ◌∙◌, subst, arith}
use Rattle.std.proofs.lemmas.Bool.{cases_lt, true≢false, and_parts, and_from}
use Rattle.std.proofs.lemmas.Bool.Decides.{nat_tests}
use Rattle.std.proofs.lemmas.List.{append_assoc, length-append, take_at, drop_at, drop_more, drop_all, get_or_append_left}
use Rattle.std.proofs.Math.Seq.{get_or-append_seam}
use Rattle.std.specs.List.{list_all}
use Rattle.std.specs.Prelude.{codes}
use Rattle.mail_wire.specs.Octets.{is_white, is_line_end}
use Rattle.mail_wire.specs.Folds.{IsFolded}
use Rattle.mail_wire.specs.Spans.{Stops, IsSpan}
use Rattle.mail_wire.proofs.Folded.{without_ends, without_ends-append, unfolded-folded, BeginsText, IsFolded-cut, IsFolded-append}
use Rattle.mail_wire.proofs.SpanLemmas.{span_once}
use Rattle.utf8_fields.specs.Parts.{HasValue}
use Rattle.field_tokens.proofs.Parts.{stops_more}
use Rattle.param_2231.specs.GlobalTypes.{NamesGlobal}
use Rattle.param_2231.proofs.GlobalLemmas.{IsGlobalAt, global_at}
use Rattle.field_downgrade.specs.GlobalBodies.{ChangesGlobal}
use Rattle.field_downgrade.proofs.GlobalBodiesShown.{HasAtomAt, find_atom, BeginsShown, begins_shown}

-- ---- the value's parts

pub front_is : (value : List ℕ) (at : ℕ) (g : IsGlobalAt value at) → take at value ≡ g.front
front_is value at g = ap (take at) g.whole ∙ take_at g.front (g.word ++ g.rest) at (sym g.at_is)

pub following_is : (value : List ℕ) (at : ℕ) (g : IsGlobalAt value at) → drop at value ≡ g.word ++ g.rest
following_is value at g = ap (drop at) g.whole ∙ drop_at g.front (g.word ++ g.rest) at (sym g.at_is)

pub word_is : (value : List ℕ) (at : ℕ) (g : IsGlobalAt value at) → take 6 (drop at value) ≡ g.word
word_is value at g = ap (take 6) (following_is value at g) ∙ take_at g.word g.rest 6 g.size

pub word_some : (value : List ℕ) (at : ℕ) (g : IsGlobalAt value at) → 0 < length g.word
word_some value at g = omega (arith, g.size)

pub value_stops : (value trail : List ℕ) (at : ℕ) → IsGlobalAt value at → Stops is_white value → Stops is_white (value ++ trail)
value_stops value trail at g stops =
    stops_more is_white value trail (omega (arith, g.size, ap length g.whole, length-append g.front (g.word ++ g.rest), length-append g.word g.rest)) stops

-- ---- the word in a folded text that shows the value

pub value_place : (text lead value trail : List ℕ) (at : ℕ) → IsFolded text → (g : IsGlobalAt value at) → without_ends text ≡ lead ++ (value ++ trail)
    → HasAtomAt text (lead ++ take at value) g.word (g.rest ++ trail)
value_place text lead value trail at is g e =
    let split : value ++ trail ≡ g.front ++ (g.word ++ (g.rest ++ trail)) = ap (λ v. v ++ trail) g.whole ∙ append_assoc g.front (g.word ++ g.rest) trail ∙ ap (λ r. g.front ++ r) (append_assoc g.word g.rest trail) in
    let shown : without_ends text ≡ (lead ++ take at value) ++ (g.word ++ (g.rest ++ trail)) =
    e ∙ ap (λ r. lead ++ r) split ∙ sym (append_assoc lead g.front (g.word ++ (g.rest ++ trail))) ∙ ap (λ f. (lead ++ f) ++ (g.word ++ (g.rest ++ trail))) (sym (front_is value at g)) in
    find_atom text (lead ++ take at value) g.word (g.rest ++ trail) is (word_some value at g) g.atom shown

pub shown_value : (body value : List ℕ) → IsFolded body → (has : HasValue body value) → without_ends body ≡ has.lead ++ (value ++ has.trail)
shown_value body value is has = sym (unfolded-folded body is) ∙ has.whole

-- a body that names message/global has one with message/rfc822 in its place
pub ChangesGlobal-made : (body value : List ℕ) (at : ℕ) (before after : List ℕ) → IsFolded body → (has : HasValue body value) → (names : NamesGlobal value at) → IsFolded before
    → body ≡ before ++ ((global_at value at names).word ++ after) → without_ends before ≡ has.lead ++ take at value → ChangesGlobal body (before ++ (codes "rfc822" ++ after))
ChangesGlobal-made body value at before after is has names folded whole shown = record {
  value = value;
  at = at;
  has = has;
  names = names;
  before = before;
  word = (global_at value at names).word;
  after = after;
  whole = whole;
  place = unfolded-folded before folded ∙ shown;
  word_is = sym (word_is value at (global_at value at names));
  changed_is = refl;
}

pub ChangesGlobal-some : (body value : List ℕ) (at : ℕ) → IsFolded body → HasValue body value → NamesGlobal value at → (changed : List ℕ) × ChangesGlobal body changed
ChangesGlobal-some body value at is has names =
    let p = value_place body has.lead value has.trail at is (global_at value at names) (shown_value body value is has) in
    (p.before ++ (codes "rfc822" ++ p.after), ChangesGlobal-made body value at p.before p.after is has names p.before_folded p.whole p.front_is)

-- ---- the white before the value

abbrev pub is_lead : ℕ → Bool
is_lead x = is_white x || is_line_end x

lead_nonwhite : (x : ℕ) → is_lead x ≡ false → is_white x ≡ false
lead_nonwhite x h = grind (arith, nat_tests)

lead_shown : (x : ℕ) → is_lead x ≡ false → is_line_end x ≡ false
lead_shown x h = grind (arith, nat_tests)

lead_white : (x : ℕ) → is_lead x ≡ true → is_line_end x ≡ false → is_white x ≡ true
lead_white x h k = grind (arith, nat_tests)

white_shown : (xs : List ℕ) → list_all is_lead xs ≡ true → list_all is_white (without_ends xs) ≡ true
white_shown [] all = refl
white_shown (x ∷ xs) all = by (is_line_end x) refl (and_parts (is_lead x) (list_all is_lead xs) all).0 (white_shown xs (and_parts (is_lead x) (list_all is_lead xs) all).1)
  where
    by : (b : Bool) → is_line_end x ≡ b → is_lead x ≡ true → list_all is_white (without_ends xs) ≡ true → list_all is_white (without_ends (x ∷ xs)) ≡ true
    by true is lead more = rw (is) more
    by false is lead more = rw (is) (and_from (is_white x) (list_all is_white (without_ends xs)) (lead_white x lead is) more)

begins_after : (following : List ℕ) → Stops is_lead following → BeginsText following × Stops is_white (without_ends following)
begins_after [] stops = (tt, tt)
begins_after (x ∷ following) stops = ((lead_nonwhite x stops, lead_shown x stops), rw (lead_shown x stops) (lead_nonwhite x stops))

pub record IsAfterLead (lead following shown rest : List ℕ) : Type 0 where
  pub lead_folded : IsFolded lead
  pub following_folded : IsFolded following
  pub lead_is : without_ends lead ≡ shown
  pub following_is : without_ends following ≡ rest

pub after_lead : (body lead following shown rest : List ℕ) → IsFolded body → IsSpan is_lead body lead following → without_ends body ≡ shown ++ rest → list_all is_white shown ≡ true → Stops is_white rest
    → IsAfterLead lead following shown rest
after_lead body lead following shown rest is span e white stops =
    let begins = begins_after following span.stops in
    let folded = IsFolded-cut lead following (subst IsFolded span.whole is) begins.0 in
    let both : without_ends lead ++ without_ends following ≡ shown ++ rest = sym (without_ends-append lead following) ∙ sym (ap without_ends span.whole) ∙ e in
    let same = span_once is_white (without_ends lead) shown (without_ends following) rest (white_shown lead span.passes) white begins.1 stops both in
    record { lead_folded = folded.0; following_folded = folded.1; lead_is = same.0; following_is = same.1 }

-- ---- the place as the code counts it

-- whatever octet stands after so many that are shown stands there
abbrev pub IsPlaceAfter : List ℕ → ℕ → ℕ → Type 0
IsPlaceAfter octets count place = (before rest : List ℕ) (x : ℕ) → octets ≡ before ++ x ∷ rest → is_line_end x ≡ false → length (without_ends before) ≡ count → place ≡ length before

pub record IsCounted (body following lead : List ℕ) (place : ℕ) : Type 0 where
  pub room : 6 ≤ length (drop place following)
  pub changes : ChangesGlobal body ((lead ++ take place following) ++ (codes "rfc822" ++ drop 6 (drop place following)))

first_of : (word after : List ℕ) → 0 < length word → (x : ℕ) × (more : List ℕ) × (word ++ after ≡ x ∷ more)
first_of [] after some = absurd (omega (arith, some))
first_of (x ∷ word) after some = (x, word ++ after, refl)

pub counted : (body lead following value : List ℕ) (at place : ℕ) → IsFolded body → HasValue body value → NamesGlobal value at → IsSpan is_lead body lead following → IsPlaceAfter following at place
    → IsCounted body following lead place
counted body lead following value at place is has names span found =
    let g = global_at value at names in
    let b = after_lead body lead following has.lead (value ++ has.trail) is span (shown_value body value is has) has.lead_passes (value_stops value has.trail at g has.begins) in
    let p = value_place following [] value has.trail at b.following_folded g b.following_is in
    let first = first_of g.word p.after (word_some value at g) in
    let octet : is_line_end first.0 ≡ false = begins_octet (g.word ++ p.after) first.0 first.1 first.2 (begins_shown g.word p.after (word_some value at g) g.atom) in
    let size : length (without_ends p.before) ≡ at = ap length p.front_is ∙ ap length (front_is value at g) ∙ sym g.at_is in
    let place_is = found p.before first.1 first.0 (p.whole ∙ ap (λ r. p.before ++ r) first.2) octet size in
    let front : take place following ≡ p.before = ap (take place) p.whole ∙ take_at p.before (g.word ++ p.after) place (sym place_is) in
    let rest : drop place following ≡ g.word ++ p.after = ap (drop place) p.whole ∙ drop_at p.before (g.word ++ p.after) place (sym place_is) in
    let after : drop 6 (drop place following) ≡ p.after = ap (drop 6) rest ∙ drop_at g.word p.after 6 g.size in
    let whole : body ≡ (lead ++ p.before) ++ (g.word ++ p.after) = span.whole ∙ ap (λ r. lead ++ r) p.whole ∙ sym (append_assoc lead p.before (g.word ++ p.after)) in
    let shown : without_ends (lead ++ p.before) ≡ has.lead ++ take at value =
    without_ends-append lead p.before ∙ ap (λ r. r ++ without_ends p.before) b.lead_is ∙ ap (λ r. has.lead ++ r) p.front_is in
    let made = ChangesGlobal-made body value at (lead ++ p.before) p.after is has names (IsFolded-append lead p.before b.lead_folded p.before_folded) whole shown in
    record {
      room = omega (arith, ap length rest, length-append g.word p.after, g.size);
      changes = subst (λ f. ChangesGlobal body ((lead ++ f) ++ (codes "rfc822" ++ drop 6 (drop place following)))) (sym front)
          (subst (λ a. ChangesGlobal body ((lead ++ p.before) ++ (codes "rfc822" ++ a))) (sym after) made);
    }
  where
    begins_octet : (xs : List ℕ) (x : ℕ) (more : List ℕ) → xs ≡ x ∷ more → BeginsShown xs → is_line_end x ≡ false
    begins_octet [] x more e begins = absurd begins
    begins_octet (y ∷ xs) x more e begins = let same : y ≡ x = cc e in subst (λ z. is_line_end z ≡ false) same begins

-- what is pushed, piece by piece
pub pushed_changes : (body lead following front rest after made one two three : List ℕ) (place : ℕ) → IsCounted body following lead place → front ≡ take place following → rest ≡ drop place following
    → after ≡ drop 6 rest → made ≡ lead → one ≡ made ++ front → two ≡ one ++ codes "rfc822" → three ≡ two ++ after → ChangesGlobal body three
pushed_changes body lead following front rest after made one two three place counts front_is rest_is after_is made_is one_is two_is three_is =
    let begins : one ≡ lead ++ take place following = one_is ∙ ap (λ m. m ++ front) made_is ∙ ap (λ f. lead ++ f) front_is in
    let ends : after ≡ drop 6 (drop place following) = after_is ∙ ap (drop 6) rest_is in
    let whole : three ≡ (lead ++ take place following) ++ (codes "rfc822" ++ drop 6 (drop place following)) =
    three_is ∙ ap (λ t. t ++ after) (two_is ∙ ap (λ o. o ++ codes "rfc822") begins) ∙ append_assoc (lead ++ take place following) (codes "rfc822") after
    ∙ ap (λ a. (lead ++ take place following) ++ (codes "rfc822" ++ a)) ends in
    subst (ChangesGlobal body) (sym whole) counts.changes

-- ---- counting octet by octet

-- so many octets are left to count before the place, from here on
pub record Counts (octets : List ℕ) (count at left : ℕ) : Type 0 where
  pub onward : (before rest : List ℕ) (x : ℕ) → octets ≡ before ++ x ∷ rest → is_line_end x ≡ false → length (without_ends before) ≡ count
      → (at ≤ length before) × (left ≡ length (without_ends (drop at before)))

pub Counts-none : (octets : List ℕ) (count : ℕ) → Counts octets count 0 count
Counts-none octets count = record { onward = λ before rest x e shown size. (omega arith, sym size) }

-- before the place, or at it
octet_at : (before rest : List ℕ) (x at : ℕ) (octets : List ℕ) → octets ≡ before ++ x ∷ rest → at ≡ length before → get_or octets at 0 ≡ x
octet_at before rest x at octets e place = ap (λ o. get_or o at 0) e ∙ ap (λ n. get_or (before ++ x ∷ rest) n 0) place ∙ get_or-append_seam before x rest 0

octet_before : (before rest : List ℕ) (x at : ℕ) (octets : List ℕ) → octets ≡ before ++ x ∷ rest → at < length before → get_or octets at 0 ≡ get_or before at 0
octet_before before rest x at octets e below = ap (λ o. get_or o at 0) e ∙ get_or_append_left before (x ∷ rest) 0 at below

shown_length : (before : List ℕ) (at octet : ℕ) → at < length before → octet ≡ get_or before at 0 → is_line_end octet ≡ false
    → length (without_ends (drop at before)) ≡ suc (length (without_ends (drop (at + 1) before)))
shown_length before at octet below e shown =
    ap (λ d. length (without_ends d)) (drop_more before at 0 below ∙ ap (λ z. z ∷ drop (at + 1) before) (sym e)) ∙ rw (shown) refl

ends_length : (before : List ℕ) (at octet : ℕ) → at < length before → octet ≡ get_or before at 0 → is_line_end octet ≡ true
    → length (without_ends (drop at before)) ≡ length (without_ends (drop (at + 1) before))
ends_length before at octet below e ends =
    ap (λ d. length (without_ends d)) (drop_more before at 0 below ∙ ap (λ z. z ∷ drop (at + 1) before) (sym e)) ∙ rw (ends) refl

pub Counts-end : (octets : List ℕ) (count at left octet : ℕ) → Counts octets count at left → octet ≡ get_or octets at 0 → is_line_end octet ≡ true → Counts octets count (at + 1) left
Counts-end octets count at left octet counts here ends = record { onward = λ before rest x e shown size. by before rest x e shown (counts.onward before rest x e shown size) }
  where
    by : (before rest : List ℕ) (x : ℕ) → octets ≡ before ++ x ∷ rest → is_line_end x ≡ false → (at ≤ length before) × (left ≡ length (without_ends (drop at before)))
        → (at + 1 ≤ length before) × (left ≡ length (without_ends (drop (at + 1) before)))
    by before rest x e shown old = elim (cases_lt at (length before)) [
      | inl below ↦ (omega (arith, below), old.1 ∙ ends_length before at octet below (here ∙ octet_before before rest x at octets e below) ends)
      | inr past ↦ absurd (true≢false (sym ends ∙ ap is_line_end (here ∙ octet_at before rest x at octets e (omega (arith, past, old.0))) ∙ shown))
    ]

pub Counts-octet : (octets : List ℕ) (count at left octet : ℕ) → Counts octets count at left → octet ≡ get_or octets at 0 → is_line_end octet ≡ false → 0 < left → Counts octets count (at + 1) (left - 1)
Counts-octet octets count at left octet counts here kept some = record { onward = λ before rest x e shown size. by before rest x e (counts.onward before rest x e shown size) }
  where
    by : (before rest : List ℕ) (x : ℕ) → octets ≡ before ++ x ∷ rest → (at ≤ length before) × (left ≡ length (without_ends (drop at before)))
        → (at + 1 ≤ length before) × (left - 1 ≡ length (without_ends (drop (at + 1) before)))
    by before rest x e old = elim (cases_lt at (length before)) [
      | inl below ↦ (omega (arith, below), omega (arith, some, old.1, shown_length before at octet below (here ∙ octet_before before rest x at octets e below) kept))
      | inr past ↦ absurd (let none : drop at before ≡ [] = drop_all at before past in omega (arith, some, old.1, ap (λ d. length (without_ends d)) none))
    ]

pub Counts-found : (octets : List ℕ) (count at left octet : ℕ) → Counts octets count at left → octet ≡ get_or octets at 0 → is_line_end octet ≡ false → left ≡ 0 → IsPlaceAfter octets count at
Counts-found octets count at left octet counts here kept none before rest x e shown size =
    let old = counts.onward before rest x e shown size in
    elim (cases_lt at (length before)) [
      | inl below ↦ absurd (let more = shown_length before at octet below (here ∙ octet_before before rest x at octets e below) kept in omega (arith, none, old.1, more))
      | inr past ↦ omega (arith, past, old.0)
    ]

pub Counts-all : (octets : List ℕ) (count at left : ℕ) → Counts octets count at left → length octets ≤ at → IsPlaceAfter octets count at
Counts-all octets count at left counts end before rest x e shown size =
    let old = counts.onward before rest x e shown size in
    absurd (omega (arith, end, old.0, ap length e, length-append before (x ∷ rest)))
