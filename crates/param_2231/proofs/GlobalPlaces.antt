-- The main part of a Content-Type is the first three words of its text.
use Rattle.std.proofs.Common.{◌≡◌, ℕ, zero, suc, ◌+◌, ◌<◌, Bool, true, false, not, ◌&&◌, inl, inr, List, [], ◌∷◌, ◌++◌, length, filter, refl, sym, ap, ◌∙◌, subst, arith}
use Rattle.std.proofs.lemmas.Bool.{cases_Bool, cond-true, and_parts, and_from}
use Rattle.std.proofs.lemmas.List.{append-nil, length-map, map-append}
use Rattle.std.proofs.lemmas.List.Elements.{filter-append}
use Rattle.std.proofs.lemmas.Slice.Eq.{bytes_eq-Decides}
use Rattle.std.specs.List.{AllByRecursion, list_all}
use Rattle.std.specs.Str.{bytes_eq, str_to_ascii_lowercase}
use Rattle.std.specs.Prelude.{codes}
use Rattle.mail_wire.specs.Octets.{is_ascii}
use Rattle.encoded_words.specs.private.Parts.{lacks}
use Rattle.encoded_words.proofs.Cuts.{not_in, rest_lacks}
use Rattle.field_tokens.specs.declared.Token.{Token}
use Rattle.field_tokens.specs.Tokens.{TokenValue, tokens_from, octets_at}
use Rattle.field_tokens.specs.Squeezed.{is_blank, run_octets, words_of, is_atom_kind}
use Rattle.param_grammar.specs.declared.ParamKind.TheVariants.{Content}
use Rattle.param_grammar.specs.declared.Piece.{Piece}
use Rattle.param_grammar.specs.Bodies.{solid, is_ascii_atom, is_main, is_mark_at, IsBody, is_filled}
use Rattle.param_2231.proofs.ChangedTokens.{IsSameAt, AreSameAt}
use Rattle.param_2231.proofs.SameOctets.{all_filter, all_parts, split_alike, same_marks, same_mark, same_pieces, Following, first_part}

abbrev keeps : Token → Bool
keeps token = not (is_blank token.kind)

-- ---- words by places, and words by octets

pub solid-words : (at : ℕ) (ts : List TokenValue) → length (solid (tokens_from at ts)) ≡ length (words_of ts)
solid-words at [] = refl
solid-words at (t ∷ ts) = elim (cases_Bool (is_blank t.kind)) [
  | inl blank ↦ rw (blank) (solid-words (at + length t.octets) ts)
  | inr kept ↦ rw (kept) (ap suc (solid-words (at + length t.octets) ts))
]

-- the word after so many others
pub record HasWord (ts : List TokenValue) (n : ℕ) : Type 0 where
  pub front : List TokenValue
  pub rest : List TokenValue
  pub word : TokenValue
  pub whole : ts ≡ front ++ word ∷ rest
  pub before : length (words_of front) ≡ n
  pub kept : is_blank word.kind ≡ false

pub find_word : (n : ℕ) (ts : List TokenValue) → n < length (words_of ts) → HasWord ts n
find_word n [] some = absurd (omega (arith, some))
find_word n (t ∷ ts) some = elim (cases_Bool (is_blank t.kind)) [
  | inl blank ↦ after_blank blank (find_word n ts (rw (blank) at some))
  | inr kept ↦ by n (λ m. find_word m ts) kept (rw (kept) at some)
]
  where
    after_blank : is_blank t.kind ≡ true → HasWord ts n → HasWord (t ∷ ts) n
    after_blank blank has = record {
      front = t ∷ has.front;
      rest = has.rest;
      word = has.word;
      whole = ap (λ r. t ∷ r) has.whole;
      before = rw (blank) has.before;
      kept = has.kept;
    }

    by : (m : ℕ) → ((k : ℕ) → k < length (words_of ts) → HasWord ts k) → is_blank t.kind ≡ false → m < suc (length (words_of ts)) → HasWord (t ∷ ts) m
    by zero more kept some = record { front = []; rest = ts; word = t; whole = refl; before = refl; kept = kept }
    by (suc m) more kept some = let has = more m (omega (arith, some)) in record {
      front = t ∷ has.front;
      rest = has.rest;
      word = has.word;
      whole = ap (λ r. t ∷ r) has.whole;
      before = rw (kept) (ap suc has.before);
      kept = has.kept;
    }

-- ---- the first section has the word

below_after : (t : Token) (xs ys : List Token) → length (solid (t ∷ xs)) < length (solid (t ∷ ys)) → length (solid xs) < length (solid ys)
below_after t xs ys below = elim (cases_Bool (is_blank t.kind)) [
  | inl blank ↦ rw (blank) at below
  | inr kept ↦ fewer (rw (kept) at below)
]
  where
    fewer : suc (length (solid xs)) < suc (length (solid ys)) → length (solid xs) < length (solid ys)
    fewer less = omega (arith, less)

abbrev Reaches : List Token → List Token → List Token → List Token → Token → Type 0
Reaches first tail tf tr t = (mid : List Token) × (first ≡ tf ++ t ∷ mid) × (tr ≡ mid ++ tail)

reaches_more : (f x : Token) (first tail tf tr : List Token) (t : Token) → f ≡ x → Reaches first tail tf tr t → Reaches (f ∷ first) tail (x ∷ tf) tr t
reaches_more f x first tail tf tr t here rest = (rest.0, ap (λ r. f ∷ r) rest.1 ∙ ap (λ y. y ∷ (tf ++ t ∷ rest.0)) here, rest.2)

-- a front with more words than another reaches over the token after that
reaches : (first tail tf tr : List Token) (t : Token) → first ++ tail ≡ tf ++ t ∷ tr → length (solid tf) < length (solid first) → Reaches first tail tf tr t
reaches [] tail tf tr t e below = absurd (omega (arith, below))
reaches (f ∷ first) tail [] tr t e below =
    let here : f ≡ t = cc e in
    let more : first ++ tail ≡ tr = cc e in
    (first, ap (λ x. x ∷ first) here, sym more)
reaches (f ∷ first) tail (x ∷ tf) tr t e below =
    let here : f ≡ x = cc e in
    let more : first ++ tail ≡ tf ++ t ∷ tr = cc e in
    let less : length (solid (f ∷ tf)) < length (solid (f ∷ first)) = subst (λ y. length (solid (y ∷ tf)) < length (solid (f ∷ first))) (sym here) below in
    let rest = reaches first tail tf tr t more (below_after f tf first less) in
    reaches_more f x first tail tf tr t here rest

-- ---- the main part

record HasType (text : List ℕ) (ts : List Token) : Type 0 where
  a : Token
  b : Token
  c : Token
  are : ts ≡ a ∷ b ∷ c ∷ []
  first : is_ascii_atom text a ≡ true
  slash : is_mark_at text 47 b ≡ true
  second : is_ascii_atom text c ≡ true

main_has : (text : List ℕ) (ts : List Token) → is_main Content text ts ≡ true → HasType text ts
main_has text [] h = cc h
main_has text (a ∷ []) h = cc h
main_has text (a ∷ b ∷ []) h = cc h
main_has text (a ∷ b ∷ c ∷ []) h =
    let p = and_parts (is_ascii_atom text a) (is_mark_at text 47 b && is_ascii_atom text c) h in
    let q = and_parts (is_mark_at text 47 b) (is_ascii_atom text c) p.1 in
    record { a = a; b = b; c = c; are = refl; first = p.0; slash = q.0; second = q.1 }
main_has text (a ∷ b ∷ c ∷ d ∷ more) h = cc h

pub main_size : (text : List ℕ) (ts : List Token) → is_main Content text ts ≡ true → length ts ≡ 3
main_size text ts h = ap length (main_has text ts h).are

two_of : (xs : List Token) → length xs ≡ 2 → (a : Token) × (b : Token) × (xs ≡ a ∷ b ∷ [])
two_of [] e = absurd (omega (arith, e))
two_of (a ∷ []) e = absurd (omega (arith, e))
two_of (a ∷ b ∷ []) e = (a, b, refl)
two_of (a ∷ b ∷ c ∷ xs) e = absurd (omega (arith, e))

-- the third word is the last one of the main part
pub record IsSubtype (text : List ℕ) (first tail tf tr : List Token) (t : Token) : Type 0 where
  pub a : Token
  pub b : Token
  pub before : solid tf ≡ a ∷ b ∷ []
  pub solid_is : solid first ≡ a ∷ b ∷ t ∷ []
  pub mid : List Token
  pub following : tr ≡ mid ++ tail
  pub first_word : is_ascii_atom text a ≡ true
  pub slash : is_mark_at text 47 b ≡ true
  pub second_word : is_ascii_atom text t ≡ true

subtype_of : (text : List ℕ) (first tail tf tr : List Token) (t : Token) → first ++ tail ≡ tf ++ t ∷ tr → length (solid tf) ≡ 2 → is_blank t.kind ≡ false → is_main Content text (solid first) ≡ true
    → IsSubtype text first tail tf tr t
subtype_of text first tail tf tr t e size kept main =
    let has = main_has text (solid first) main in
    let three = main_size text (solid first) main in
    let cut = reaches first tail tf tr t e (omega (arith, three, size)) in
    let two = two_of (solid tf) size in
    let words : solid first ≡ two.0 ∷ two.1 ∷ t ∷ solid cut.0 =
    ap solid cut.1 ∙ filter-append keeps tf (t ∷ cut.0) ∙ ap (λ r. r ++ filter keeps (t ∷ cut.0)) two.2 ∙ ap (λ r. two.0 ∷ two.1 ∷ r) (cond-true _ _ _ (ap not kept)) in
    let all : two.0 ∷ two.1 ∷ t ∷ solid cut.0 ≡ has.a ∷ has.b ∷ has.c ∷ [] = sym words ∙ has.are in
    let same_a : has.a ≡ two.0 = sym (cc all) in
    let same_b : has.b ≡ two.1 = sym (cc all) in
    let same_c : has.c ≡ t = sym (cc all) in
    let none : solid cut.0 ≡ [] = cc all in
    record {
      a = two.0;
      b = two.1;
      before = two.2;
      solid_is = words ∙ ap (λ r. two.0 ∷ two.1 ∷ t ∷ r) none;
      mid = cut.0;
      following = cut.2;
      first_word = subst (λ x. is_ascii_atom text x ≡ true) same_a has.first;
      slash = subst (λ x. is_mark_at text 47 x ≡ true) same_b has.slash;
      second_word = subst (λ x. is_ascii_atom text x ≡ true) same_c has.second;
    }

pub record BodySubtype (P : Token → Type 0) (text : List ℕ) (tokens first : List Token) (others : List (List Token)) (tf tr : List Token) (t : Token) : Type 0 where
  pub following : Following P tokens first others
  pub subtype : IsSubtype text first following.tail tf tr t

pub body_subtype : (P : Token → Type 0) (text : List ℕ) (tokens tf tr : List Token) (t : Token) (main : List ℕ) (pieces : List Piece) → tokens ≡ tf ++ t ∷ tr → length (solid tf) ≡ 2
    → is_blank t.kind ≡ false → (is : IsBody Content text tokens main pieces) → BodySubtype P text tokens is.first is.others tf tr t
body_subtype P text tokens tf tr t main pieces e size kept is =
    let following = first_part P (is_mark_at text 59) tokens is.first is.others is.sections in
    record { following = following; subtype = subtype_of text is.first following.tail tf tr t (sym following.whole ∙ e) size kept is.is_main_part }

-- ---- the octets of the main part

not_lacking : (c : ℕ) (a x v : List ℕ) → a ++ c ∷ x ≡ v → lacks c v ≡ true → ⊥
not_lacking c [] x [] e l = cc e
not_lacking c [] x (h ∷ v) e l = not_in c h v l (sym (cc e))
not_lacking c (g ∷ a) x [] e l = cc e
not_lacking c (g ∷ a) x (h ∷ v) e l = not_lacking c a x v (cc e) (rest_lacks c h v l)

-- an octet that stands once stands at one place
place_once : (c : ℕ) (x y w v : List ℕ) → x ++ c ∷ y ≡ w ++ c ∷ v → lacks c w ≡ true → lacks c v ≡ true → (x ≡ w) × (y ≡ v)
place_once c [] y [] v e p q = (refl, cc e)
place_once c [] y (d ∷ w) v e p q = absurd (not_in c d w p (sym (cc e)))
place_once c (d ∷ x) y [] v e p q = absurd (not_lacking c x y v (cc e) q)
place_once c (d ∷ x) y (f ∷ w) v e p q =
    let same : d ≡ f = cc e in
    let rest : x ++ c ∷ y ≡ w ++ c ∷ v = cc e in
    let r = place_once c x y w v rest (rest_lacks c f w p) q in
    let front : x ≡ w = r.0 in
    (cc (same, front), r.1)

pub record IsGlobal (a b g : List ℕ) : Type 0 where
  pub size : length g ≡ 6
  pub changed : codes "message/rfc822" ≡ str_to_ascii_lowercase (a ++ (b ++ (codes "rfc822" ++ [])))

pub global_octets : (a b g : List ℕ) → bytes_eq b (47 ∷ []) ≡ true → codes "message/global" ≡ str_to_ascii_lowercase (a ++ (b ++ (g ++ []))) → IsGlobal a b g
global_octets a b g is e =
    let mark : b ≡ 47 ∷ [] = (bytes_eq-Decides b (47 ∷ [])).0 is in
    let whole : str_to_ascii_lowercase (a ++ (b ++ (g ++ []))) ≡ str_to_ascii_lowercase a ++ 47 ∷ str_to_ascii_lowercase g =
    ap (λ r. str_to_ascii_lowercase (a ++ (b ++ r))) (append-nil g) ∙ ap (λ r. str_to_ascii_lowercase (a ++ (r ++ g))) mark ∙ map-append _ a (47 ∷ g) in
    let parts = place_once 47 (str_to_ascii_lowercase a) (str_to_ascii_lowercase g) (codes "message") (codes "global") (sym whole ∙ sym e) refl refl in
    let len : length (str_to_ascii_lowercase g) ≡ 6 = ap length parts.1 in
    let made : str_to_ascii_lowercase (a ++ (b ++ (codes "rfc822" ++ []))) ≡ str_to_ascii_lowercase a ++ codes "/rfc822" =
    ap (λ r. str_to_ascii_lowercase (a ++ (r ++ (codes "rfc822" ++ [])))) mark ∙ map-append _ a (codes "/rfc822") in
    record { size = sym (length-map g _) ∙ len; changed = sym (made ∙ ap (λ r. r ++ codes "/rfc822") parts.0) }

-- ---- the body of the changed text

pub record IsGlobalBody (text : List ℕ) (t : Token) : Type 0 where
  pub size : length (octets_at text t.span) ≡ 6
  pub is_ascii : is_ascii_atom text t ≡ true

pub global_body : (text : List ℕ) (tokens tf tr : List Token) (t : Token) (pieces : List Piece) → tokens ≡ tf ++ t ∷ tr → length (solid tf) ≡ 2 → is_blank t.kind ≡ false
    → IsBody Content text tokens (codes "message/global") pieces → IsGlobalBody text t
global_body text tokens tf tr t pieces e size kept is =
    let s = (body_subtype (IsSameAt text text) text tokens tf tr t (codes "message/global") pieces e size kept is).subtype in
    let octets = global_octets (octets_at text s.a.span) (octets_at text s.b.span) (octets_at text t.span) s.slash (is.main_is ∙ ap (λ r. str_to_ascii_lowercase (run_octets text r)) s.solid_is) in
    record { size = octets.size; is_ascii = s.second_word }

no_mark : (octets : List ℕ) (mark : ℕ) → length octets ≡ 6 → bytes_eq octets (mark ∷ []) ≡ false
no_mark octets mark size = elim (cases_Bool (bytes_eq octets (mark ∷ []))) [
  | inl is ↦ absurd (let one : length octets ≡ 1 = ap length ((bytes_eq-Decides octets (mark ∷ [])).0 is) in omega (arith, one, size))
  | inr other ↦ other
]

all_with : {X : Type 0} (P : X → Type 0) (xs ys : List X) (x : X) → AllByRecursion P xs → P x → AllByRecursion P ys → AllByRecursion P (xs ++ x ∷ ys)
all_with P [] ys x all here more = (here, more)
all_with P (y ∷ xs) ys x all here more = (all.0, all_with P xs ys x all.1 here more)

pub body_changed : (text changed : List ℕ) (tokens tf tr : List Token) (t : Token) (pieces : List Piece) → tokens ≡ tf ++ t ∷ tr → AreSameAt text changed tf → AreSameAt text changed tr
    → length (solid tf) ≡ 2 → is_blank t.kind ≡ false → octets_at changed t.span ≡ codes "rfc822" → IsBody Content text tokens (codes "message/global") pieces
    → IsBody Content changed tokens (codes "message/rfc822") pieces
body_changed text changed tokens tf tr t pieces e front rest size kept new is =
    let found = body_subtype (IsSameAt text changed) text tokens tf tr t (codes "message/global") pieces e size kept is in
    let s = found.subtype in
    let octets = global_octets (octets_at text s.a.span) (octets_at text s.b.span) (octets_at text t.span) s.slash (is.main_is ∙ ap (λ r. str_to_ascii_lowercase (run_octets text r)) s.solid_is) in
    let words = subst (AreSameAt text changed) s.before (all_filter (IsSameAt text changed) keeps tf front) in
    let tail = (all_parts (IsSameAt text changed) s.mid found.following.tail (subst (AreSameAt text changed) s.following rest)).1 in
    let here : is_mark_at text 59 t ≡ is_mark_at changed 59 t = no_mark (octets_at text t.span) 59 octets.size ∙ sym (ap (λ o. bytes_eq o (59 ∷ [])) new) in
    let marks = all_with (λ x. is_mark_at text 59 x ≡ is_mark_at changed 59 x) tf tr t (same_marks text changed 59 tf front) here (same_marks text changed 59 tr rest) in
    let atom = and_parts (is_atom_kind t.kind) (list_all is_ascii (octets_at text t.span)) s.second_word in
    let second : is_ascii_atom changed t ≡ true = and_from (is_atom_kind t.kind) (list_all is_ascii (octets_at changed t.span)) atom.0 (ap (list_all is_ascii) new) in
    let first : is_ascii_atom changed s.a ≡ true = subst (λ o. (is_atom_kind s.a.kind && list_all is_ascii o) ≡ true) words.0 s.first_word in
    let slash : is_mark_at changed 47 s.b ≡ true = sym (same_mark text changed 47 s.b words.1.0) ∙ s.slash in
    let run : run_octets changed (s.a ∷ s.b ∷ t ∷ []) ≡ octets_at text s.a.span ++ (octets_at text s.b.span ++ (codes "rfc822" ++ [])) = rw (words.0, words.1.0, new) refl in
    record {
      first = is.first;
      others = is.others;
      sections = sym (split_alike (is_mark_at text 59) (is_mark_at changed 59) tokens (subst (AllByRecursion (λ x. is_mark_at text 59 x ≡ is_mark_at changed 59 x)) (sym e) marks)) ∙ is.sections;
      is_main_part = subst (λ r. is_main Content changed r ≡ true) (sym s.solid_is) (and_from (is_ascii_atom changed s.a) (is_mark_at changed 47 s.b && is_ascii_atom changed t) first (and_from (is_mark_at changed 47 s.b) (is_ascii_atom changed t) slash second));
      main_is = octets.changed ∙ sym (ap str_to_ascii_lowercase run) ∙ sym (ap (λ r. str_to_ascii_lowercase (run_octets changed r)) s.solid_is);
      are_pieces = same_pieces text changed (filter is_filled is.others) pieces (all_filter (AreSameAt text changed) is_filled is.others (found.following.onward tail)) is.are_pieces;
    }
