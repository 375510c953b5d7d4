-- Pieces that stand for others have the same parameters.
use Rattle.std.proofs.Common.{◌≡◌, ◌≢◌, ℕ, suc, ◌+◌, ◌≤◌, ◌⊎◌, inl, inr, Bool, true, false, ◌&&◌, ◌||◌, cond, nat_lt, List, [], ◌∷◌, ◌++◌, length, filter, is_some, None, refl, sym, ap, ◌∙◌, subst, arith}
use Rattle.std.proofs.lemmas.Bool.{cases_Bool, true≢false, cond-true, cond-false}
use Rattle.std.proofs.lemmas.List.{append_assoc, append-nil, length-append}
use Rattle.std.proofs.lemmas.List.Elements.{filter-append}
use Rattle.std.proofs.lemmas.List.Folds.{list_any-append}
use Rattle.std.proofs.lemmas.Slice.Eq.{bytes_eq-Decides}
use Rattle.std.proofs.lemmas.Bool.Decides.{nat_tests}
use Rattle.std.specs.List.{AllByRecursion, list_any, list_all}
use Rattle.std.specs.Str.{bytes_eq}
use Rattle.mail_wire.specs.Octets.{is_ascii}
use Rattle.encoded_words.specs.Words.{UnitValue}
use Rattle.encoded_words.proofs.Deciding.{decide_same}
use Rattle.param_grammar.specs.declared.Piece.{Piece}
use Rattle.param_grammar.specs.Extended.{unit_of}
use Rattle.param_grammar.specs.Joining.{is_part_of, parts_named, AreNumbered, joined_unit, ParamValue, unit_at, goes_on, params_after, params_of, AreParams, is_ascii_parameter, is_doubled}

-- ---- what stands for a piece

-- parts of one name, with the numbers from 0 on, that say a unit
pub record IsSeries (base : List ℕ) (unit : UnitValue) (made : List Piece) : Type 0 where
  pub first : Piece
  pub others : List Piece
  pub made_are : made ≡ first ∷ others
  pub parts : AllByRecursion (λ (m : Piece). (m.base ≡ base) × (is_some m.number ≡ true)) made
  pub are_numbered : AreNumbered made
  pub joined : joined_unit made ≡ unit

-- what stands for a piece, after those before it: itself, nothing, one whole parameter, or a series
pub data StandsFor (all before : List Piece) (piece : Piece) (made : List Piece) : Type 0 where
  Copied : is_ascii_parameter all piece ≡ true → made ≡ piece ∷ [] → StandsFor all before piece made
  Nothing : is_ascii_parameter all piece ≡ false → goes_on before piece ≡ true → made ≡ [] → StandsFor all before piece made
  One : is_ascii_parameter all piece ≡ false → goes_on before piece ≡ false → (m : Piece) → m.number ≡ None → m.base ≡ piece.base
      → unit_of m.charset m.octets ≡ unit_at all piece → made ≡ m ∷ [] → StandsFor all before piece made
  Series : is_ascii_parameter all piece ≡ false → goes_on before piece ≡ false → is_doubled (params_of all) piece.base ≡ false
      → IsSeries piece.base (unit_at all piece) made → StandsFor all before piece made

abbrev pub StandForAll : List Piece → List Piece → List Piece → List Piece → Type 0
StandForAll all before [] made = made ≡ []
StandForAll all before (piece ∷ more) made = (first others : List Piece) × (made ≡ first ++ others) × StandsFor all before piece first × StandForAll all (before ++ piece ∷ []) more others

StandForAll-append : (all before xs ys made others : List Piece) → StandForAll all before xs made → StandForAll all (before ++ xs) ys others → StandForAll all before (xs ++ ys) (made ++ others)
StandForAll-append all before [] ys made others a b = rw (a) (rw (append-nil before) at b)
StandForAll-append all before (x ∷ xs) ys made others a b =
    let rest : StandForAll all ((before ++ x ∷ []) ++ xs) ys others = rw (append_assoc before (x ∷ []) xs) b in
    (a.0, a.1 ++ others, ap (λ r. r ++ others) a.2 ∙ append_assoc a.0 a.1 others, a.3, StandForAll-append all (before ++ x ∷ []) xs ys a.1 others a.4 rest)

stand_after : (all before mb : List Piece) (piece : Piece) (first : List Piece) → StandForAll all [] before mb → StandsFor all before piece first
    → StandForAll all [] (before ++ piece ∷ []) (mb ++ first)
stand_after all before mb piece first a s = StandForAll-append all [] before (piece ∷ []) mb first a (first, [], sym (append-nil first), s, refl)

-- ---- names

not_named : (b : List ℕ) (p : Piece) → p.base ≢ b → is_part_of b p ≡ false
not_named b p n = elim (cases_Bool (bytes_eq p.base b)) [
  | inl t ↦ absurd (n ((bytes_eq-Decides p.base b).0 t))
  | inr f ↦ by (is_some p.number) f
]
  where
    by : (s : Bool) → bytes_eq p.base b ≡ false → (s && bytes_eq p.base b) ≡ false
    by true f = f
    by false f = refl

pub part_named : (b : List ℕ) (p : Piece) → is_some p.number ≡ true → p.base ≡ b → is_part_of b p ≡ true
part_named b p s e = rw (s) ((bytes_eq-Decides p.base b).1 e)

part_parts : (b : List ℕ) (p : Piece) → is_part_of b p ≡ true → (is_some p.number ≡ true) × (p.base ≡ b)
part_parts b p h = by (is_some p.number) refl h
  where
    by : (s : Bool) → is_some p.number ≡ s → (s && bytes_eq p.base b) ≡ true → (is_some p.number ≡ true) × (p.base ≡ b)
    by true e h = (e, (bytes_eq-Decides p.base b).0 h)
    by false e h = absurd (true≢false (sym h))

unnumbered : (b : List ℕ) (p : Piece) → is_some p.number ≡ false → is_part_of b p ≡ false
unnumbered b p s = rw (s) refl

named_one : (b : List ℕ) (p : Piece) → is_part_of b p ≡ false → parts_named b (p ∷ []) ≡ []
named_one b p h = cond-false _ _ _ h

abbrev NoneNamed : List ℕ → List Piece → Type 0
NoneNamed b xs = AllByRecursion (λ (p : Piece). p.base ≢ b) xs

none_parts : (b : List ℕ) (xs : List Piece) → NoneNamed b xs → parts_named b xs ≡ []
none_parts b [] all = refl
none_parts b (x ∷ xs) all = cond-false _ _ _ (not_named b x all.0) ∙ none_parts b xs all.1

series_other : (b base : List ℕ) (xs : List Piece) → base ≢ b → AllByRecursion (λ (m : Piece). (m.base ≡ base) × (is_some m.number ≡ true)) xs → parts_named b xs ≡ []
series_other b base [] n all = refl
series_other b base (x ∷ xs) n all = cond-false _ _ _ (not_named b x (λ e. n (sym all.0.0 ∙ e))) ∙ series_other b base xs n all.1

series_own : (base : List ℕ) (xs : List Piece) → AllByRecursion (λ (m : Piece). (m.base ≡ base) × (is_some m.number ≡ true)) xs → parts_named base xs ≡ xs
series_own base [] all = refl
series_own base (x ∷ xs) all = cond-true _ _ _ (part_named base x all.0.1 all.0.0) ∙ ap (λ r. x ∷ r) (series_own base xs all.1)

pub parts_append : (b : List ℕ) (xs ys : List Piece) → parts_named b (xs ++ ys) ≡ parts_named b xs ++ parts_named b ys
parts_append b xs ys = filter-append (is_part_of b) xs ys

-- ---- parts of one name are ASCII together

abbrev ascii_parts : List Piece → List ℕ → Bool
ascii_parts all b = list_all (λ own. list_all is_ascii own.written) (parts_named b all)

ascii_of_part : (all : List Piece) (b : List ℕ) (p : Piece) → is_part_of b p ≡ true → is_ascii_parameter all p ≡ ascii_parts all b
ascii_of_part all b p h =
    let parts = part_parts b p h in
    ap (list_all (λ own. list_all is_ascii own.written)) (cond-true _ _ _ parts.0) ∙ ap (ascii_parts all) parts.1

ascii_step : (all : List Piece) (b : List ℕ) (x : Piece) (xs : List Piece) (c : Bool) → is_part_of b x ≡ true → is_ascii_parameter all x ≡ c
    → parts_named b (filter (is_ascii_parameter all) xs) ≡ cond c (parts_named b xs) [] → parts_named b (filter (is_ascii_parameter all) (x ∷ xs)) ≡ cond c (parts_named b (x ∷ xs)) []
ascii_step all b x xs true part e more = ap (parts_named b) (cond-true _ _ _ e) ∙ cond-true _ _ _ part ∙ ap (λ r. x ∷ r) more ∙ sym (cond-true _ _ _ part)
ascii_step all b x xs false part e more = ap (parts_named b) (cond-false _ _ _ e) ∙ more

skipped : (all : List Piece) (b : List ℕ) (x : Piece) (xs : List Piece) (c : Bool) → is_part_of b x ≡ false → is_ascii_parameter all x ≡ c
    → parts_named b (filter (is_ascii_parameter all) (x ∷ xs)) ≡ parts_named b (filter (is_ascii_parameter all) xs)
skipped all b x xs true other e = ap (parts_named b) (cond-true _ _ _ e) ∙ cond-false _ _ _ other
skipped all b x xs false other e = ap (parts_named b) (cond-false _ _ _ e)

nothing_either : (none : List Piece) (c : Bool) → none ≡ cond c none none
nothing_either none true = refl
nothing_either none false = refl

ascii_named : (all : List Piece) (b : List ℕ) (xs : List Piece) → parts_named b (filter (is_ascii_parameter all) xs) ≡ cond (ascii_parts all b) (parts_named b xs) []
ascii_named all b [] = nothing_either [] (ascii_parts all b)
ascii_named all b (x ∷ xs) = elim (cases_Bool (is_part_of b x)) [
  | inl part ↦ ascii_step all b x xs (ascii_parts all b) part (ascii_of_part all b x part) (ascii_named all b xs)
  | inr other ↦ skipped all b x xs (is_ascii_parameter all x) other refl ∙ ascii_named all b xs ∙ ap (λ r. cond (ascii_parts all b) r []) (sym (cond-false _ _ _ other))
]

-- ---- what begins, by name

abbrev has_name : List ℕ → ParamValue → Bool
has_name b param = bytes_eq param.name b

abbrev count : List ℕ → List ParamValue → ℕ
count b params = length (filter (λ (param : ParamValue). bytes_eq param.name b) params)

count_append : (b : List ℕ) (xs ys : List ParamValue) → count b (xs ++ ys) ≡ count b xs + count b ys
count_append b xs ys = ap length (filter-append (has_name b) xs ys) ∙ length-append (filter (has_name b) xs) (filter (has_name b) ys)

count_named : (b : List ℕ) (x : ParamValue) (xs : List ParamValue) → x.name ≡ b → count b (x ∷ xs) ≡ suc (count b xs)
count_named b x xs e = ap length (cond-true _ _ _ ((bytes_eq-Decides x.name b).1 e))

count_none : (b : List ℕ) (x : ParamValue) (xs : List ParamValue) → count b (x ∷ xs) ≡ 0 → (x.name ≢ b) × (count b xs ≡ 0)
count_none b x xs e = elim (cases_Bool (bytes_eq x.name b)) [
  | inl t ↦ absurd (omega (arith, e, count_named b x xs ((bytes_eq-Decides x.name b).0 t)))
  | inr f ↦ ((λ same. true≢false (sym ((bytes_eq-Decides x.name b).1 same) ∙ f)), sym (ap length (cond-false _ _ _ f)) ∙ e)
]

abbrev begun : List Piece → Piece → ParamValue
begun all p = record { name = p.base; unit = unit_at all p }

going : (all before : List Piece) (p : Piece) (more : List Piece) → goes_on before p ≡ true → params_after all before (p ∷ more) ≡ params_after all (before ++ p ∷ []) more
going all before p more h = cond-true _ _ _ h

beginning : (all before : List Piece) (p : Piece) (more : List Piece) → goes_on before p ≡ false → params_after all before (p ∷ more) ≡ begun all p ∷ params_after all (before ++ p ∷ []) more
beginning all before p more h = cond-false _ _ _ h

params_append : (all before xs ys : List Piece) → params_after all before (xs ++ ys) ≡ params_after all before xs ++ params_after all (before ++ xs) ys
params_append all before [] ys = rw (append-nil before) refl
params_append all before (x ∷ xs) ys =
    let more : params_after all (before ++ x ∷ []) (xs ++ ys) ≡ params_after all (before ++ x ∷ []) xs ++ params_after all (before ++ x ∷ xs) ys =
    params_append all (before ++ x ∷ []) xs ys ∙ ap (λ r. params_after all (before ++ x ∷ []) xs ++ params_after all r ys) (append_assoc before (x ∷ []) xs) in
    elim (cases_Bool (goes_on before x)) [
      | inl t ↦ going all before x (xs ++ ys) t ∙ more ∙ ap (λ r. r ++ params_after all (before ++ x ∷ xs) ys) (sym (going all before x xs t))
      | inr f ↦ beginning all before x (xs ++ ys) f ∙ ap (λ r. begun all x ∷ r) more ∙ ap (λ r. r ++ params_after all (before ++ x ∷ xs) ys) (sym (beginning all before x xs f))
    ]

-- each piece of this name goes on
abbrev GoOn : List ℕ → List Piece → List Piece → Type 0
GoOn b before [] = Unit {0}
GoOn b before (p ∷ more) = (p.base ≡ b → goes_on before p ≡ true) × GoOn b (before ++ p ∷ []) more

go_on : (b : List ℕ) (all before xs : List Piece) → count b (params_after all before xs) ≡ 0 → GoOn b before xs
go_on b all before [] e = tt
go_on b all before (x ∷ xs) e = elim (cases_Bool (goes_on before x)) [
  | inl t ↦ ((λ same. t), go_on b all (before ++ x ∷ []) xs (sym (ap (count b) (going all before x xs t)) ∙ e))
  | inr f ↦
      let none = count_none b (begun all x) (params_after all (before ++ x ∷ []) xs) (sym (ap (count b) (beginning all before x xs f)) ∙ e) in
      ((λ same. absurd (none.0 same)), go_on b all (before ++ x ∷ []) xs none.1)
]

go_on_front : (b : List ℕ) (before xs ys : List Piece) → GoOn b before (xs ++ ys) → GoOn b before xs
go_on_front b before [] ys all = tt
go_on_front b before (x ∷ xs) ys all = (all.0, go_on_front b (before ++ x ∷ []) xs ys all.1)

go_on_at : (b : List ℕ) (before xs : List Piece) (p : Piece) (ys : List Piece) → GoOn b before (xs ++ p ∷ ys) → p.base ≡ b → goes_on (before ++ xs) p ≡ true
go_on_at b before [] p ys all e = rw (append-nil before) (all.0 e)
go_on_at b before (x ∷ xs) p ys all e = rw (append_assoc before (x ∷ []) xs) at (go_on_at b (before ++ x ∷ []) xs p ys all.1 e)

-- after no part of this name, pieces that go on don't have it
none_named : (b : List ℕ) (before xs : List Piece) → list_any (is_part_of b) before ≡ false → GoOn b before xs → NoneNamed b xs
none_named b before [] h all = tt
none_named b before (x ∷ xs) h all = elim (decide_same x.base b) [
  | inl e ↦ absurd (true≢false (sym (part (is_some x.number) (subst (λ n. (is_some x.number && list_any (is_part_of n) before) ≡ true) e (all.0 e))) ∙ h))
  | inr n ↦ (n, none_named b (before ++ x ∷ []) xs (list_any-append (is_part_of b) before (x ∷ []) ∙ rw (h, not_named b x n) refl) all.1)
]
  where
    part : (s : Bool) {c : Bool} → (s && c) ≡ true → c ≡ true
    part true e = e
    part false e = absurd (true≢false (sym e))

none_at : (b : List ℕ) (xs : List Piece) (p : Piece) (ys : List Piece) → NoneNamed b (xs ++ p ∷ ys) → p.base ≡ b → ⊥
none_at b [] p ys all e = all.0 e
none_at b (x ∷ xs) p ys all e = none_at b xs p ys all.1 e

-- Where a name isn't doubled, no piece before the one that begins has it, and those after go on.
record IsAlone (b : List ℕ) (before : List Piece) (q : Piece) (following : List Piece) : Type 0 where
  before_none : NoneNamed b before
  after_on : GoOn b (before ++ q ∷ []) following

at_most_one : (n : ℕ) → nat_lt 1 n ≡ false → n ≤ 1
at_most_one n h = grind (arith, nat_tests)

alone : (all before : List Piece) (q : Piece) (following : List Piece) → all ≡ before ++ q ∷ following → goes_on before q ≡ false → is_doubled (params_of all) q.base ≡ false → IsAlone q.base before q following
alone all before q following e begins single =
    let b : List ℕ = q.base in
    let total : count b (params_of all) ≡ count b (params_after all [] before) + suc (count b (params_after all (before ++ q ∷ []) following)) =
    ap (λ r. count b (params_after all [] r)) e ∙ ap (count b) (params_append all [] before (q ∷ following)) ∙ count_append b (params_after all [] before) (params_after all before (q ∷ following))
    ∙ ap (λ r. count b (params_after all [] before) + r) (ap (count b) (beginning all before q following begins) ∙ count_named b (begun all q) (params_after all (before ++ q ∷ []) following) refl) in
    let most = at_most_one (count b (params_of all)) single in
    record {
      before_none = none_named b [] before refl (go_on b all [] before (omega (arith, total, most)));
      after_on = go_on b all (before ++ q ∷ []) following (omega (arith, total, most));
    }

-- ---- what stands for pieces, by name

-- among the pieces is one with this name that a series stands for
record HasSeries (b : List ℕ) (all before xs made : List Piece) : Type 0 where
  x : List Piece
  q : Piece
  y : List Piece
  mx : List Piece
  series : List Piece
  my : List Piece
  xs_are : xs ≡ x ++ q ∷ y
  made_are : made ≡ mx ++ (series ++ my)
  front : StandForAll all before x mx
  back : StandForAll all ((before ++ x) ++ q ∷ []) y my
  high : is_ascii_parameter all q ≡ false
  begins : goes_on (before ++ x) q ≡ false
  single : is_doubled (params_of all) q.base ≡ false
  is_series : IsSeries q.base (unit_at all q) series
  named : q.base ≡ b

abbrev IsPlainFor : List ℕ → List Piece → List Piece → List Piece → Type 0
IsPlainFor b all xs made = parts_named b made ≡ parts_named b (filter (is_ascii_parameter all) xs)

high_none : (b : List ℕ) (all : List Piece) (p : Piece) → is_ascii_parameter all p ≡ false → parts_named b (filter (is_ascii_parameter all) (p ∷ [])) ≡ []
high_none b all p h = ap (parts_named b) (cond-false _ _ _ h)

has_more : (b : List ℕ) (all before : List Piece) (p : Piece) (xs first others made : List Piece) → made ≡ first ++ others → StandsFor all before p first
    → HasSeries b all (before ++ p ∷ []) xs others → HasSeries b all before (p ∷ xs) made
has_more b all before p xs first others made e s h = record {
  x = p ∷ h.x;
  q = h.q;
  y = h.y;
  mx = first ++ h.mx;
  series = h.series;
  my = h.my;
  xs_are = ap (λ r. p ∷ r) h.xs_are;
  made_are = e ∙ ap (λ r. first ++ r) h.made_are ∙ sym (append_assoc first h.mx (h.series ++ h.my));
  front = (first, h.mx, refl, s, h.front);
  back = subst (λ r. StandForAll all (r ++ h.q ∷ []) h.y h.my) (append_assoc before (p ∷ []) h.x) h.back;
  high = h.high;
  begins = subst (λ r. goes_on r h.q ≡ false) (append_assoc before (p ∷ []) h.x) h.begins;
  single = h.single;
  is_series = h.is_series;
  named = h.named;
}

plain_more : (b : List ℕ) (all : List Piece) (p : Piece) (xs first others made : List Piece) → made ≡ first ++ others → IsPlainFor b all (p ∷ []) first → IsPlainFor b all xs others
    → IsPlainFor b all (p ∷ xs) made
plain_more b all p xs first others made e one more =
    ap (parts_named b) e ∙ parts_append b first others ∙ ap (λ r. r ++ parts_named b others) one ∙ ap (λ r. parts_named b (filter (is_ascii_parameter all) (p ∷ [])) ++ r) more
    ∙ sym (ap (parts_named b) (filter-append (is_ascii_parameter all) (p ∷ []) xs) ∙ parts_append b (filter (is_ascii_parameter all) (p ∷ [])) (filter (is_ascii_parameter all) xs))

decide_series : (b : List ℕ) (all before xs made : List Piece) → StandForAll all before xs made → IsPlainFor b all xs made ⊎ HasSeries b all before xs made
decide_series b all before [] made stand = inl (ap (parts_named b) stand)
decide_series b all before (p ∷ xs) made stand = by (decide_series b all (before ++ p ∷ []) xs stand.1 stand.4) stand.3
  where
    onward : IsPlainFor b all xs stand.1 ⊎ HasSeries b all (before ++ p ∷ []) xs stand.1 → IsPlainFor b all (p ∷ []) stand.0 → IsPlainFor b all (p ∷ xs) made ⊎ HasSeries b all before (p ∷ xs) made
    onward more one = elim more [
      | inl plain ↦ inl (plain_more b all p xs stand.0 stand.1 made stand.2 one plain)
      | inr has ↦ inr (has_more b all before p xs stand.0 stand.1 made stand.2 stand.3 has)
    ]

    by : IsPlainFor b all xs stand.1 ⊎ HasSeries b all (before ++ p ∷ []) xs stand.1 → StandsFor all before p stand.0 → IsPlainFor b all (p ∷ xs) made ⊎ HasSeries b all before (p ∷ xs) made
    by more (Copied ascii e) = onward more (ap (parts_named b) (e ∙ sym (cond-true _ _ _ ascii)))
    by more (Nothing high goes e) = onward more (ap (parts_named b) e ∙ sym (high_none b all p high))
    by more (One high begins m n named unit e) = onward more (ap (parts_named b) e ∙ named_one b m (unnumbered b m (ap is_some n)) ∙ sym (high_none b all p high))
    by more (Series high begins single is) = elim (decide_same p.base b) [
      | inr n ↦ onward more (series_other b p.base stand.0 n is.parts ∙ sym (high_none b all p high))
      | inl e ↦ inr (record {
        x = [];
        q = p;
        y = xs;
        mx = [];
        series = stand.0;
        my = stand.1;
        xs_are = refl;
        made_are = stand.2;
        front = refl;
        back = rw (append-nil before) stand.4;
        high = high;
        begins = rw (append-nil before) begins;
        single = single;
        is_series = is;
        named = e;
      })
    ]

-- the parts of a name that a series stands for are the series
record AreSeries (b : List ℕ) (made front series : List Piece) : Type 0 where
  front_none : parts_named b front ≡ []
  parts_are : parts_named b made ≡ series

none_ascii : (b : List ℕ) (all xs : List Piece) → parts_named b xs ≡ [] → parts_named b (filter (is_ascii_parameter all) xs) ≡ []
none_ascii b all xs none = ascii_named all b xs ∙ ap (λ r. cond (ascii_parts all b) r []) none ∙ sym (nothing_either [] (ascii_parts all b))

-- after the piece that a series stands for, no part of the name is ASCII
quiet_after : (b : List ℕ) (all x : List Piece) (q : Piece) (y : List Piece) → NoneNamed b x → GoOn b (x ++ q ∷ []) y → is_ascii_parameter all q ≡ false → q.base ≡ b
    → parts_named b (filter (is_ascii_parameter all) y) ≡ []
quiet_after b all x q y none on high named = elim (cases_Bool (is_some q.number)) [
  | inl s ↦ ascii_named all b y ∙ cond-false _ _ _ (sym (ascii_of_part all b q (part_named b q s named)) ∙ high)
  | inr u ↦
      let no_part : list_any (is_part_of b) (x ++ q ∷ []) ≡ false = list_any-append (is_part_of b) x (q ∷ []) ∙ rw (any_none b x none, unnumbered b q u) refl in
      none_ascii b all y (none_parts b y (none_named b (x ++ q ∷ []) y no_part on))
]
  where
    any_none : (b : List ℕ) (xs : List Piece) → NoneNamed b xs → list_any (is_part_of b) xs ≡ false
    any_none b [] all = refl
    any_none b (x ∷ xs) all = rw (not_named b x all.0) (any_none b xs all.1)

front_parts : (b : List ℕ) (all x mx : List Piece) → NoneNamed b x → StandForAll all [] x mx → parts_named b mx ≡ []
front_parts b all x mx none stand = elim (decide_series b all [] x mx stand) [
  | inl plain ↦ plain ∙ none_ascii b all x (none_parts b x none)
  | inr h ↦ absurd (none_at b h.x h.q h.y (subst (NoneNamed b) h.xs_are none) h.named)
]

after_parts : (b : List ℕ) (all x : List Piece) (q : Piece) (y my : List Piece) → NoneNamed b x → GoOn b (x ++ q ∷ []) y → is_ascii_parameter all q ≡ false → q.base ≡ b
    → StandForAll all (x ++ q ∷ []) y my → parts_named b my ≡ []
after_parts b all x q y my none on high named stand = elim (decide_series b all (x ++ q ∷ []) y my stand) [
  | inl plain ↦ plain ∙ quiet_after b all x q y none on high named
  | inr h ↦ absurd (true≢false (sym (go_on_at b (x ++ q ∷ []) h.x h.q h.y (subst (GoOn b (x ++ q ∷ [])) h.xs_are on) h.named) ∙ h.begins))
]

series_parts : (b : List ℕ) (all z w made : List Piece) → all ≡ z ++ w → (h : HasSeries b all [] z made) → AreSeries b made h.mx h.series
series_parts b all z w made e h =
    let whole : all ≡ h.x ++ h.q ∷ (h.y ++ w) = e ∙ ap (λ r. r ++ w) h.xs_are ∙ append_assoc h.x (h.q ∷ h.y) w in
    let a : IsAlone b h.x h.q (h.y ++ w) = subst (λ n. IsAlone n h.x h.q (h.y ++ w)) h.named (alone all h.x h.q (h.y ++ w) whole h.begins h.single) in
    let f : parts_named b h.mx ≡ [] = front_parts b all h.x h.mx a.before_none h.front in
    let o : parts_named b h.series ≡ h.series = subst (λ n. parts_named n h.series ≡ h.series) h.named (series_own h.q.base h.series h.is_series.parts) in
    let k : parts_named b h.my ≡ [] = after_parts b all h.x h.q h.y h.my a.before_none (go_on_front b (h.x ++ h.q ∷ []) h.y w a.after_on) h.high h.named h.back in
    record {
      front_none = f;
      parts_are = ap (parts_named b) h.made_are ∙ parts_append b h.mx (h.series ++ h.my) ∙ rw (f) (parts_append b h.series h.my ∙ rw (o, k) (append-nil h.series));
    }

-- no series stands for ASCII parts
no_series : (b : List ℕ) (all z w made : List Piece) (u : List Piece) (p : Piece) (v : List Piece) → all ≡ z ++ w → HasSeries b all [] z made → all ≡ u ++ p ∷ v → is_part_of b p ≡ true
    → is_ascii_parameter all p ≡ true → ⊥
no_series b all z w made u p v e h at part ascii =
    let whole : all ≡ h.x ++ h.q ∷ (h.y ++ w) = e ∙ ap (λ r. r ++ w) h.xs_are ∙ append_assoc h.x (h.q ∷ h.y) w in
    let a : IsAlone b h.x h.q (h.y ++ w) = subst (λ n. IsAlone n h.x h.q (h.y ++ w)) h.named (alone all h.x h.q (h.y ++ w) whole h.begins h.single) in
    let b_ascii : ascii_parts all b ≡ true = sym (ascii_of_part all b p part) ∙ ascii in
    let none : parts_named b (filter (is_ascii_parameter all) all) ≡ [] =
    ap (λ r. parts_named b (filter (is_ascii_parameter all) r)) whole ∙ ap (parts_named b) (filter-append (is_ascii_parameter all) h.x (h.q ∷ (h.y ++ w)))
    ∙ parts_append b (filter (is_ascii_parameter all) h.x) (filter (is_ascii_parameter all) (h.q ∷ (h.y ++ w)))
    ∙ rw (none_ascii b all h.x (none_parts b h.x a.before_none))
    (ap (parts_named b) (cond-false _ _ _ h.high) ∙ quiet_after b all h.x h.q (h.y ++ w) a.before_none a.after_on h.high h.named) in
    let some : parts_named b all ≡ parts_named b u ++ p ∷ parts_named b v =
    ap (parts_named b) at ∙ parts_append b u (p ∷ v) ∙ ap (λ r. parts_named b u ++ r) (cond-true _ _ _ part) in
    let same : parts_named b all ≡ [] = sym (cond-true _ _ _ b_ascii) ∙ sym (ascii_named all b all) ∙ none in
    omega (arith, ap length (sym some ∙ same), length-append (parts_named b u) (p ∷ parts_named b v))

-- ASCII parts stand for themselves
same_parts : (b : List ℕ) (all z w made : List Piece) (u : List Piece) (p : Piece) (v : List Piece) → all ≡ z ++ w → StandForAll all [] z made → all ≡ u ++ p ∷ v → is_part_of b p ≡ true
    → is_ascii_parameter all p ≡ true → parts_named b made ≡ parts_named b z
same_parts b all z w made u p v e stand at part ascii = elim (decide_series b all [] z made stand) [
  | inl plain ↦ plain ∙ ascii_named all b z ∙ cond-true _ _ _ (sym (ascii_of_part all b p part) ∙ ascii)
  | inr h ↦ absurd (no_series b all z w made u p v e h at part ascii)
]

-- ---- the parts are numbered

none_numbered : AreNumbered []
none_numbered n l = absurd (omega (arith, l))

numbered_either : (c : Bool) (xs : List Piece) → AreNumbered xs → AreNumbered (cond c xs [])
numbered_either true xs are = are
numbered_either false xs are = none_numbered

made_numbered : (all made : List Piece) → StandForAll all [] all made → ((base : List ℕ) → AreNumbered (parts_named base all)) → (base : List ℕ) → AreNumbered (parts_named base made)
made_numbered all made stand are base = elim (decide_series base all [] all made stand) [
  | inl plain ↦ subst AreNumbered (sym (plain ∙ ascii_named all base all)) (numbered_either (ascii_parts all base) (parts_named base all) (are base))
  | inr h ↦ subst AreNumbered (sym (series_parts base all all [] made (sym (append-nil all)) h).parts_are) h.is_series.are_numbered
]

-- ---- the parameters are the same

abbrev there : List Piece → Bool
there [] = false
there (x ∷ xs) = true

any_there : (b : List ℕ) (xs : List Piece) → list_any (is_part_of b) xs ≡ there (parts_named b xs)
any_there b [] = refl
any_there b (x ∷ xs) = elim (cases_Bool (is_part_of b x)) [
  | inl t ↦ rw (t) refl
  | inr f ↦ rw (f) (any_there b xs)
]

any_same : (b : List ℕ) (xs ys : List Piece) → parts_named b xs ≡ parts_named b ys → list_any (is_part_of b) xs ≡ list_any (is_part_of b) ys
any_same b xs ys e = any_there b xs ∙ ap there e ∙ sym (any_there b ys)

-- parts after the first go on
parts_go_on : (base : List ℕ) (made before os rest : List Piece) → list_any (is_part_of base) before ≡ true → AllByRecursion (λ (m : Piece). (m.base ≡ base) × (is_some m.number ≡ true)) os
    → params_after made before (os ++ rest) ≡ params_after made (before ++ os) rest
parts_go_on base made before [] rest h all = rw (append-nil before) refl
parts_go_on base made before (o ∷ os) rest h all =
    let goes : goes_on before o ≡ true = rw (all.0.0, all.0.1) h in
    going made before o (os ++ rest) goes
    ∙ parts_go_on base made (before ++ o ∷ []) os rest (list_any-append (is_part_of base) before (o ∷ []) ∙ rw (h) refl) all.1
    ∙ ap (λ r. params_after made r rest) (append_assoc before (o ∷ []) os)

goes_alike : (p : Piece) (xs ys : List Piece) → (is_some p.number ≡ true → list_any (is_part_of p.base) xs ≡ list_any (is_part_of p.base) ys) → goes_on xs p ≡ goes_on ys p
goes_alike p xs ys same = elim (cases_Bool (is_some p.number)) [
  | inl s ↦ ap (λ r. is_some p.number && r) (same s)
  | inr u ↦ rw (u) refl
]

unit_alike : (p : Piece) (xs ys : List Piece) → (is_some p.number ≡ true → parts_named p.base xs ≡ parts_named p.base ys) → unit_at xs p ≡ unit_at ys p
unit_alike p xs ys same = elim (cases_Bool (is_some p.number)) [
  | inl s ↦ cond-true _ _ _ s ∙ ap joined_unit (same s) ∙ sym (cond-true _ _ _ s)
  | inr u ↦ cond-false _ _ _ u ∙ sym (cond-false _ _ _ u)
]

param_alike : (a b : List ℕ) (u v : UnitValue) (xs ys : List ParamValue) → a ≡ b → u ≡ v → xs ≡ ys → record { name = a; unit = u } ∷ xs ≡ record { name = b; unit = v } ∷ ys
param_alike a b u v xs ys e f g = cc (e, f, g)

-- the facts of one turn: the pieces before and what stands for them
record Turn (all made before : List Piece) (p : Piece) (xs mb first others : List Piece) : Type 0 where
  stand : StandForAll all [] all made
  whole : all ≡ before ++ p ∷ xs
  made_are : made ≡ mb ++ (first ++ others)
  before_stand : StandForAll all [] before mb
  next : params_after made (mb ++ first) others ≡ params_after all (before ++ p ∷ []) xs

-- one piece of another begins where that began
one_begins : (all made before : List Piece) (p : Piece) (xs mb first others : List Piece) → Turn all made before p xs mb first others → (m : Piece) → first ≡ m ∷ [] → goes_on mb m ≡ false
    → goes_on before p ≡ false → m.base ≡ p.base → unit_at made m ≡ unit_at all p → params_after made mb (first ++ others) ≡ params_after all before (p ∷ xs)
one_begins all made before p xs mb first others turn m e new old named unit =
    ap (λ r. params_after made mb (r ++ others)) e ∙ beginning made mb m others new
    ∙ param_alike m.base p.base (unit_at made m) (unit_at all p) (params_after made (mb ++ m ∷ []) others) (params_after all (before ++ p ∷ []) xs) named unit
    (ap (λ r. params_after made (mb ++ r) others) (sym e) ∙ turn.next)
    ∙ sym (beginning all before p xs old)

copied_turn : (all made before : List Piece) (p : Piece) (xs mb first others : List Piece) → Turn all made before p xs mb first others → is_ascii_parameter all p ≡ true → first ≡ p ∷ []
    → params_after made mb (first ++ others) ≡ params_after all before (p ∷ xs)
copied_turn all made before p xs mb first others turn ascii e =
    let same : ((z w mz : List Piece) → all ≡ z ++ w → StandForAll all [] z mz → is_some p.number ≡ true → parts_named p.base mz ≡ parts_named p.base z) =
    λ z w mz cut stand s. same_parts p.base all z w mz before p xs cut stand turn.whole (part_named p.base p s refl) ascii in
    let goes : goes_on mb p ≡ goes_on before p =
    goes_alike p mb before (λ s. any_same p.base mb before (same before (p ∷ xs) mb turn.whole turn.before_stand s)) in
    let unit : unit_at made p ≡ unit_at all p = unit_alike p made all (same all [] made (sym (append-nil all)) turn.stand) in
    elim (cases_Bool (goes_on before p)) [
      | inl t ↦
          ap (λ r. params_after made mb (r ++ others)) e ∙ going made mb p others (goes ∙ t) ∙ ap (λ r. params_after made (mb ++ r) others) (sym e) ∙ turn.next
          ∙ sym (going all before p xs t)
      | inr f ↦ one_begins all made before p xs mb first others turn p e (goes ∙ f) f refl unit
    ]

series_turn : (all made before : List Piece) (p : Piece) (xs mb first others : List Piece) → Turn all made before p xs mb first others → StandForAll all (before ++ p ∷ []) xs others
    → is_ascii_parameter all p ≡ false → goes_on before p ≡ false → is_doubled (params_of all) p.base ≡ false → IsSeries p.base (unit_at all p) first
    → params_after made mb (first ++ others) ≡ params_after all before (p ∷ xs)
series_turn all made before p xs mb first others turn back high begins single is =
    let b : List ℕ = p.base in
    let h : HasSeries b all [] all made = record {
      x = before;
      q = p;
      y = xs;
      mx = mb;
      series = first;
      my = others;
      xs_are = turn.whole;
      made_are = turn.made_are;
      front = turn.before_stand;
      back = back;
      high = high;
      begins = begins;
      single = single;
      is_series = is;
      named = refl;
    } in
    let s : AreSeries b made mb first = series_parts b all all [] made (sym (append-nil all)) h in
    let f : Piece = is.first in
    let parts = subst (AllByRecursion (λ (m : Piece). (m.base ≡ b) × (is_some m.number ≡ true))) is.made_are is.parts in
    let named : f.base ≡ b = parts.0.0 in
    let new : goes_on mb f ≡ false = rw (named, parts.0.1) (any_there b mb ∙ ap there s.front_none) in
    let unit : unit_at made f ≡ unit_at all p = cond-true _ _ _ parts.0.1 ∙ ap (λ n. joined_unit (parts_named n made)) named ∙ ap joined_unit s.parts_are ∙ is.joined in
    let has : list_any (is_part_of b) (mb ++ f ∷ []) ≡ true = list_any-append (is_part_of b) mb (f ∷ []) ∙ last (list_any (is_part_of b) mb) (part_named b f parts.0.1 named) in
    let rest : params_after made (mb ++ f ∷ []) (is.others ++ others) ≡ params_after all (before ++ p ∷ []) xs =
    parts_go_on b made (mb ++ f ∷ []) is.others others has parts.1 ∙ ap (λ r. params_after made r others) (append_assoc mb (f ∷ []) is.others)
    ∙ ap (λ r. params_after made (mb ++ r) others) (sym is.made_are) ∙ turn.next in
    ap (λ r. params_after made mb (r ++ others)) is.made_are ∙ beginning made mb f (is.others ++ others) new
    ∙ param_alike f.base b (unit_at made f) (unit_at all p) (params_after made (mb ++ f ∷ []) (is.others ++ others)) (params_after all (before ++ p ∷ []) xs) named unit rest
    ∙ sym (beginning all before p xs begins)
  where
    last : (c : Bool) {d : Bool} → d ≡ true → (c || (d || false)) ≡ true
    last true e = refl
    last false e = rw (e) refl

turn_by : (all made before : List Piece) (p : Piece) (xs mb first others : List Piece) → Turn all made before p xs mb first others → StandForAll all (before ++ p ∷ []) xs others
    → StandsFor all before p first → params_after made mb (first ++ others) ≡ params_after all before (p ∷ xs)
turn_by all made before p xs mb first others turn back (Copied ascii e) = copied_turn all made before p xs mb first others turn ascii e
turn_by all made before p xs mb first others turn back (Nothing high goes e) =
    ap (λ r. params_after made mb (r ++ others)) e ∙ ap (λ r. params_after made r others) (sym (append-nil mb) ∙ ap (λ r. mb ++ r) (sym e)) ∙ turn.next ∙ sym (going all before p xs goes)
turn_by all made before p xs mb first others turn back (One high begins m n named unit e) =
    let none : is_some m.number ≡ false = ap is_some n in
    one_begins all made before p xs mb first others turn m e (rw (none) refl) begins named (cond-false _ _ _ none ∙ unit)
turn_by all made before p xs mb first others turn back (Series high begins single is) = series_turn all made before p xs mb first others turn back high begins single is

params_same : (all made : List Piece) → StandForAll all [] all made → (before xs mb rest : List Piece) → all ≡ before ++ xs → made ≡ mb ++ rest → StandForAll all [] before mb → StandForAll all before xs rest
    → params_after made mb rest ≡ params_after all before xs
params_same all made stand before [] mb rest cut e s r = ap (params_after made mb) r
params_same all made stand before (p ∷ xs) mb rest cut e s r =
    let next = params_same all made stand (before ++ p ∷ []) xs (mb ++ r.0) r.1 (cut ∙ sym (append_assoc before (p ∷ []) xs)) (e ∙ ap (λ t. mb ++ t) r.2 ∙ sym (append_assoc mb r.0 r.1))
    (stand_after all before mb p r.0 s r.3) r.4 in
    let turn : Turn all made before p xs mb r.0 r.1 = record { stand = stand; whole = cut; made_are = e ∙ ap (λ t. mb ++ t) r.2; before_stand = s; next = next } in
    ap (params_after made mb) r.2 ∙ turn_by all made before p xs mb r.0 r.1 turn r.4 r.3

-- Pieces that stand for all of others are the same parameters.
pub AreParams-again : (all made : List Piece) (params : List ParamValue) → StandForAll all [] all made → AreParams all params → AreParams made params
AreParams-again all made params stand are = record {
  are_numbered = made_numbered all made stand are.are_numbered;
  params_are = are.params_are ∙ sym (params_same all made stand [] all [] made refl refl refl stand);
}
