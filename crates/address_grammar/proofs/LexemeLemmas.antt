-- Tokens, and where they are cut.
use Rattle.std.proofs.Common.{◌≡◌, ◌≢◌, ℕ, ◌-◌, ◌<◌, true, false, not, inl, inr, List, [], ◌∷◌, ◌++◌, length, take, refl, sym, ap, ◌∙◌, arith}
use Rattle.std.specs.Str.{bytes_eq}
use Rattle.std.proofs.lemmas.Bool.{and_parts, and_from, not-true, both_ways, cases_Bool}
use Rattle.std.proofs.lemmas.List.{append_assoc, append-nil, length-append, take_at}
use Rattle.std.proofs.lemmas.List.Folds.{list_all-append}
use Rattle.std.proofs.lemmas.Slice.Eq.{bytes_eq-Decides}
use Rattle.field_tokens.specs.declared.TokenKind.{TokenKind}
use Rattle.field_tokens.specs.declared.TokenKind.TheVariants.{Atom, Quoted, Literal, Special, Gap, Comment}
use Rattle.field_tokens.specs.Tokens.{TokenValue}
use Rattle.field_tokens.specs.Squeezed.{is_blank, is_special_kind, words_of}
use Rattle.address_grammar.specs.private.Lexemes.{is_blank_token, are_blank, is_special_of, lacks_special, SplitsAt}

-- what stands before the first mark, as far as it was looked at
pub record BeforeMark (mark : ℕ) (all rest : List TokenValue) : Type 0 where
  pub front : List TokenValue
  pub whole : all ≡ front ++ rest
  pub lacks : lacks_special mark front ≡ true

pub mark_start : (mark : ℕ) (ts : List TokenValue) → BeforeMark mark ts ts
mark_start mark ts = record { front = []; whole = refl; lacks = refl }

pub mark_turn : (mark : ℕ) (all rest following : List TokenValue) (t : TokenValue) → BeforeMark mark all rest → rest ≡ t ∷ following → is_special_of mark t ≡ false → BeforeMark mark all following
mark_turn mark all rest following t b e other = record {
  front = b.front ++ t ∷ [];
  whole = b.whole ∙ ap (λ r. b.front ++ r) e ∙ sym (append_assoc b.front (t ∷ []) following);
  lacks = list_all-append (λ u. not (is_special_of mark u)) b.front (t ∷ []) ∙ rw (b.lacks, other) refl;
}

pub mark_found : (mark : ℕ) (all rest following before : List TokenValue) (t : TokenValue) → BeforeMark mark all rest → rest ≡ t ∷ following → is_special_of mark t ≡ true
    → ((front : List TokenValue) → all ≡ front ++ rest → before ≡ front) → SplitsAt mark all before following
mark_found mark all rest following before t b e is front_is =
    let front : before ≡ b.front = front_is b.front b.whole in
    record { at = t; whole = b.whole ∙ ap (λ r. b.front ++ r) e ∙ ap (λ r. r ++ t ∷ following) (sym front); is_at = is; first = ap (lacks_special mark) front ∙ b.lacks }

pub mark_shorter : (mark : ℕ) (all rest following : List TokenValue) (t : TokenValue) → BeforeMark mark all rest → rest ≡ t ∷ following → length following < length all
mark_shorter mark all rest following t b e = omega (arith, ap length b.whole, length-append b.front rest, ap length e)

pub mark_missing : (mark : ℕ) (all rest : List TokenValue) → BeforeMark mark all rest → rest ≡ [] → lacks_special mark all ≡ true
mark_missing mark all rest b e = ap (lacks_special mark) (b.whole ∙ ap (λ r. b.front ++ r) e ∙ append-nil b.front) ∙ b.lacks

-- fewer tokens stand after the first one
pub less_after : (rest following : List TokenValue) (t : TokenValue) → rest ≡ t ∷ following → length following < length rest
less_after rest following t e = omega (arith, ap length e)

-- what is taken before the tokens at the end
pub front_taken : (all front rest : List TokenValue) → all ≡ front ++ rest → take (length all - length rest) all ≡ front
front_taken all front rest e = ap (take (length all - length rest)) e ∙ take_at front rest (length all - length rest) (omega (arith, ap length e, length-append front rest))

pub word_turn : (rest following : List TokenValue) (t : TokenValue) → rest ≡ t ∷ following → is_blank_token t ≡ true → words_of rest ≡ words_of following
word_turn rest following t e blank = ap words_of e ∙ rw blank refl

pub word_here : (rest following : List TokenValue) (t : TokenValue) → rest ≡ t ∷ following → is_blank_token t ≡ false → words_of rest ≡ t ∷ words_of following
word_here rest following t e word = ap words_of e ∙ rw word refl

-- ---- marks

marks_same : (m n : ℕ) (octets : List ℕ) → bytes_eq octets (m ∷ []) ≡ true → bytes_eq octets (n ∷ []) ≡ true → m ≡ n
marks_same m n octets p q =
    let e : octets ≡ m ∷ [] = (bytes_eq-Decides octets (m ∷ [])).0 p in
    let f : octets ≡ n ∷ [] = (bytes_eq-Decides octets (n ∷ [])).0 q in
    cc (sym e ∙ f)

-- a token is one mark
pub other_mark : (m n : ℕ) (t : TokenValue) → m ≢ n → is_special_of m t ≡ true → is_special_of n t ≡ false
other_mark m n t ne h = elim (cases_Bool (is_special_of n t)) [
  | inl is ↦ absurd (ne (marks_same m n t.octets (and_parts (is_special_kind t.kind) (bytes_eq t.octets (m ∷ [])) h).1 (and_parts (is_special_kind t.kind) (bytes_eq t.octets (n ∷ [])) is).1))
  | inr other ↦ other
]

-- a token that is no special is no mark
pub no_mark : (m : ℕ) (t : TokenValue) → is_special_kind t.kind ≡ false → is_special_of m t ≡ false
no_mark m t h = rw h refl

blank_kind : (k : TokenKind) → is_blank k ≡ true → is_special_kind k ≡ false
blank_kind Atom h = refl
blank_kind Quoted h = refl
blank_kind Literal h = refl
blank_kind Special h = cc h
blank_kind Gap h = refl
blank_kind Comment h = refl

pub blank_lacks : (m : ℕ) (ts : List TokenValue) → are_blank ts ≡ true → lacks_special m ts ≡ true
blank_lacks m [] h = refl
blank_lacks m (t ∷ ts) h =
    let parts = and_parts (is_blank_token t) (are_blank ts) h in
    and_from (not (is_special_of m t)) (lacks_special m ts) (ap not (no_mark m t (blank_kind t.kind parts.0))) (blank_lacks m ts parts.1)

-- what the words lack the tokens lack
pub words_lack : (m : ℕ) (ts : List TokenValue) → lacks_special m (words_of ts) ≡ true → lacks_special m ts ≡ true
words_lack m [] h = refl
words_lack m (t ∷ ts) h = elim (cases_Bool (is_blank_token t)) [
  | inl blank ↦ and_from (not (is_special_of m t)) (lacks_special m ts) (ap not (no_mark m t (blank_kind t.kind blank))) (words_lack m ts (rw blank at h))
  | inr word ↦
      let parts = and_parts (not (is_special_of m t)) (lacks_special m (words_of ts)) (rw word at h) in
      and_from (not (is_special_of m t)) (lacks_special m ts) parts.0 (words_lack m ts parts.1)
]

not_in : (m : ℕ) (t h : TokenValue) (ts : List TokenValue) → is_special_of m t ≡ true → lacks_special m (h ∷ ts) ≡ true → h ≡ t → ⊥
not_in m t h ts is l e = both_ways (is_special_of m h) (not-true (is_special_of m h) (and_parts (not (is_special_of m h)) (lacks_special m ts) l).0) (ap (is_special_of m) e ∙ is)

rest_lacks : (m : ℕ) (h : TokenValue) (ts : List TokenValue) → lacks_special m (h ∷ ts) ≡ true → lacks_special m ts ≡ true
rest_lacks m h ts l = (and_parts (not (is_special_of m h)) (lacks_special m ts) l).1

pub not_lacking : (m : ℕ) (a b : List TokenValue) (t : TokenValue) → is_special_of m t ≡ true → lacks_special m (a ++ t ∷ b) ≡ true → ⊥
not_lacking m [] b t is l = not_in m t t b is l refl
not_lacking m (h ∷ a) b t is l = not_lacking m a b t is (rest_lacks m h (a ++ t ∷ b) l)

-- tokens are cut in one way at the first mark
pub record SameCut (a b : List TokenValue) (s t : TokenValue) (x y : List TokenValue) : Type 0 where
  pub front : a ≡ b
  pub mark : s ≡ t
  pub rest : x ≡ y

pub cut_once : (m : ℕ) (a b : List TokenValue) (s t : TokenValue) (x y : List TokenValue) → lacks_special m a ≡ true → lacks_special m b ≡ true → is_special_of m s ≡ true → is_special_of m t ≡ true
    → a ++ s ∷ x ≡ b ++ t ∷ y → SameCut a b s t x y
cut_once m [] [] s t x y la lb is it e = record { front = refl; mark = cc e; rest = cc e }
cut_once m [] (h ∷ b) s t x y la lb is it e = absurd (not_in m s h b is lb (cc e))
cut_once m (h ∷ a) [] s t x y la lb is it e = absurd (not_in m t h a it la (cc e))
cut_once m (h ∷ a) (k ∷ b) s t x y la lb is it e =
    let same : h ≡ k = cc e in
    let rest : a ++ s ∷ x ≡ b ++ t ∷ y = cc e in
    let r = cut_once m a b s t x y (rest_lacks m h a la) (rest_lacks m k b lb) is it rest in
    let front : a ≡ b = r.front in
    record { front = cc; mark = r.mark; rest = r.rest }

pub mark_in : (mark : ℕ) (ts before following : List TokenValue) → SplitsAt mark ts before following → false ≡ lacks_special mark ts
mark_in mark ts before following s = elim (cases_Bool (lacks_special mark ts)) [
  | inl lacks ↦ absurd (not_lacking mark before following s.at s.is_at (rw (s.whole) at lacks))
  | inr other ↦ sym other
]
