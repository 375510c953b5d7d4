-- What a word says is decided.
use Rattle.std.proofs.Common.{◌≡◌, ◌≢◌, ◌==◌, ℕ, ◌<◌, ◌≤◌, Bool, true, false, eqb, get_or, ◌+◌, ◌⊎◌, inl, inr, List, [], ◌∷◌, ◌++◌, length, map, take, drop, position, Option, Some, None, IfSome, Result, Ok, Err, refl, sym, ap, ◌∙◌, subst, arith}
use Rattle.std.proofs.lemmas.Bool.{eqb-true, cases_Bool, cases_lt, lt-ltb, eq-eqb, true≢false}
use Rattle.std.proofs.lemmas.List.{append-nil, length-append}
use Rattle.std.specs.List.{AllByRecursion, flat_map, list_all}
use Rattle.std.specs.Char.{digit_value, to_ascii_uppercase}
use Rattle.base64.specs.Engines.{standard}
use Rattle.base64.specs.GeneralPurpose.{IsBytes, encode_of, decode_of}
use Rattle.base64.proofs.EngineFacts.{decode_of-encode_of}
use Rattle.mail_wire.proofs.SpanLemmas.{all_from_places}
use Rattle.encoded_words.specs.Words.{WordParts, HasWordParts, IsName, IsWordText, IsBText, QItem, Space, Escape, Plain, IsQItem, q_spelling, q_octet, IsQText, IsTextOf, UnitValue, Says, SaysWhere, language_suffix, is_token_octet, is_text_octet, unit_of}
use Rattle.encoded_words.specs.private.Parts.{lacks, wrapped, IsCharsetName}
use Rattle.encoded_words.proofs.Cuts.{position_found, position_missing, not_lacking, name_of, inner_of, wrapped_word, word_of-wrapped, inner_is, name_is, named_from, IsNamed-once, HasParts-once}
use Rattle.encoded_words.proofs.QText.{item_once, no_items}
use Rattle.encoded_words.proofs.Octets.{is_byte, IsBytes-from_all}

-- it holds for some value, or for none
abbrev Decided : {A : Type 0} → (A → Type 0) → Type 0
Decided {A} P = ((x : A) × P x) ⊎ ((x : A) → P x → ⊥)

cases_eq : (x y : ℕ) → (x ≡ y) ⊎ (x ≢ y)
cases_eq x y = elim (cases_Bool (eqb x y)) [ inl t ↦ inl (eqb-true x y t) | inr f ↦ inr (λ e. true≢false (sym (eq-eqb x y e) ∙ f)) ]

-- The cut at the first such octet.
pub record CutAt (c : ℕ) (xs front rest : List ℕ) : Type 0 where
  pub whole : xs ≡ front ++ c ∷ rest
  pub first : lacks c front ≡ true

pub cut_at : (c : ℕ) (xs : List ℕ) → ((front : List ℕ) × (rest : List ℕ) × CutAt c xs front rest) ⊎ (lacks c xs ≡ true)
cut_at c xs = by (position (λ x. x == c) xs) refl
  where
    by : (o : Option ℕ) → position (λ x. x == c) xs ≡ o → ((front : List ℕ) × (rest : List ℕ) × CutAt c xs front rest) ⊎ (lacks c xs ≡ true)
    by (Some i) e = let found = position_found c xs i e in inl (take i xs, drop (i + 1) xs, record { whole = found.1; first = found.2 })
    by None e = inr (position_missing c xs e)

-- What stands between `=?` and `?=`.
decide_end : (xs : List ℕ) → Decided (λ inner. xs ≡ inner ++ 63 ∷ 61 ∷ [])
decide_end [] = inr (λ inner e. omega (arith, ap length e, length-append inner (63 ∷ 61 ∷ [])))
decide_end (x ∷ []) = inr (λ inner e. omega (arith, ap length e, length-append inner (63 ∷ 61 ∷ [])))
decide_end (x ∷ y ∷ []) = elim (cases_eq x 63) [
  | inr fails ↦ inr (λ inner e. fails (last_two inner e).0)
  | inl f ↦ elim (cases_eq y 61) [
    | inr fails ↦ inr (λ inner e. fails (last_two inner e).1)
    | inl g ↦ inl ([], rw (f, g) refl)
  ]
]
  where
    last_two : (inner : List ℕ) → x ∷ y ∷ [] ≡ inner ++ 63 ∷ 61 ∷ [] → (x ≡ 63) × (y ≡ 61)
    last_two [] e = (cc e, cc e)
    last_two (i ∷ inner) e = absurd (omega (arith, ap length e, length-append inner (63 ∷ 61 ∷ [])))
decide_end (x ∷ y ∷ z ∷ xs) = elim (decide_end (y ∷ z ∷ xs)) [
  | inl found ↦ inl (x ∷ found.0, ap (λ ys. x ∷ ys) found.1)
  | inr none ↦ inr (λ inner e. shorter inner none e)
]
  where
    shorter : (inner : List ℕ) → ((inner : List ℕ) → y ∷ z ∷ xs ≡ inner ++ 63 ∷ 61 ∷ [] → ⊥) → x ∷ y ∷ z ∷ xs ≡ inner ++ 63 ∷ 61 ∷ [] → ⊥
    shorter [] none e = omega (arith, ap length e)
    shorter (i ∷ inner) none e = none inner (cc e)

decide_wrapped : (word : List ℕ) → Decided (λ inner. word ≡ wrapped inner)
decide_wrapped [] = inr (λ inner e. cc e)
decide_wrapped (x ∷ []) = inr (λ inner e. cc e)
decide_wrapped (x ∷ y ∷ xs) = elim (cases_eq x 61) [
  | inr fails ↦ inr (λ inner e. fails (cc e))
  | inl f ↦ elim (cases_eq y 63) [
    | inr fails ↦ inr (λ inner e. fails (cc e))
    | inl g ↦ elim (decide_end xs) [
      | inl found ↦ inl (found.0, rw (f, g) (ap (λ ys. 61 ∷ 63 ∷ ys) found.1))
      | inr none ↦ inr (λ inner e. none inner (cc e))
    ]
  ]
]

decide_name : (xs : List ℕ) → IsName xs ⊎ (IsName xs → ⊥)
decide_name [] = inr (λ is. omega (arith, is.0))
decide_name (x ∷ xs) = elim (cases_Bool (list_all is_token_octet (x ∷ xs))) [ inl t ↦ inl (omega arith, t) | inr f ↦ inr (λ is. true≢false (sym is.1 ∙ f)) ]

decide_language : (l : Option (List ℕ)) → IfSome l IsName ⊎ (IfSome l IsName → ⊥)
decide_language None = inl tt
decide_language (Some l) = decide_name l

-- A charset, and a language where there is one.
record Name : Type 0 where
  charset : List ℕ
  language : Option (List ℕ)

named_at : (name charset : List ℕ) (language : Option (List ℕ)) → name ≡ charset ++ language_suffix language → lacks 42 charset ≡ true → Decided (λ (n : Name). IsCharsetName name n.charset n.language)
named_at name charset language spelled first = elim (decide_name charset) [
  | inr fails ↦ inr (λ n is. fails (subst IsName (IsNamed-once name charset n.charset language n.language spelled first is).0 is.charset_is))
  | inl yes_charset ↦ elim (decide_language language) [
    | inr fails ↦ inr (λ n is. fails (subst (λ l. IfSome l IsName) (IsNamed-once name charset n.charset language n.language spelled first is).1 is.language_is))
    | inl yes_language ↦ inl (record { charset = charset; language = language }, record { spelled = spelled; charset_is = yes_charset; language_is = yes_language })
  ]
]

decide_named : (name : List ℕ) → Decided (λ (n : Name). IsCharsetName name n.charset n.language)
decide_named name = elim (cut_at 42 name) [
  | inl cut ↦ named_at name cut.0 (Some cut.1) cut.2.whole cut.2.first
  | inr none ↦ named_at name name None (sym (append-nil name)) none
]

-- The letter of a word, and its text.
record Coded : Type 0 where
  letter : ℕ
  text : List ℕ

decide_coded : (coded : List ℕ) → Decided (λ (k : Coded). (coded ≡ k.letter ∷ 63 ∷ k.text) × IsWordText k.text)
decide_coded [] = inr (λ k is. let e = is.0 in cc e)
decide_coded (x ∷ []) = inr (λ k is. let e = is.0 in cc e)
decide_coded (x ∷ y ∷ []) = inr (λ k is. none k.text is.0 is.1)
  where
    none : {l : ℕ} (text : List ℕ) → x ∷ y ∷ [] ≡ l ∷ 63 ∷ text → IsWordText text → ⊥
    none [] e is = omega (arith, is.0)
    none (t ∷ text) e is = cc e
decide_coded (x ∷ y ∷ z ∷ xs) = elim (cases_eq y 63) [
  | inr fails ↦ inr (λ k is. let e = is.0 in fails (cc e))
  | inl f ↦ elim (cases_Bool (list_all is_text_octet (z ∷ xs))) [
    | inl t ↦ inl (record { letter = x; text = z ∷ xs }, (rw f refl, (omega arith, t)))
    | inr fails ↦ inr (λ k is. let e = is.0 in let same : z ∷ xs ≡ k.text = cc e in true≢false (sym (subst (λ ys. list_all is_text_octet ys ≡ true) (sym same) is.1.1) ∙ fails))
  ]
]

decide_inner : (word inner : List ℕ) → word ≡ wrapped inner → length word ≤ 75 → Decided (HasWordParts word)
decide_inner word inner whole short = elim (cut_at 63 inner) [
  | inr none ↦ inr (λ p has. not_lacking 63 (name_of p) (p.letter ∷ 63 ∷ p.text) (subst (λ xs. lacks 63 xs ≡ true) (inner_is word inner p whole has) none))
  | inl cut ↦ elim (decide_named cut.0) [
    | inr none ↦ inr (λ p has. none (record { charset = p.charset; language = p.language }) (rw ((name_is word inner cut.0 cut.1 p whole cut.2.whole cut.2.first has).0) (named_from word p has)))
    | inl named ↦ elim (decide_coded cut.1) [
      | inr none ↦ inr (λ p has. none (record { letter = p.letter; text = p.text }) ((name_is word inner cut.0 cut.1 p whole cut.2.whole cut.2.first has).1, has.text))
      | inl coded ↦
          let p : WordParts = record { charset = named.0.charset; language = named.0.language; letter = coded.0.letter; text = coded.0.text } in
          inl (
            p,
            record {
              spelled = whole ∙ ap wrapped (cut.2.whole ∙ rw (named.1.spelled, coded.1.0) refl) ∙ sym (word_of-wrapped p);
              charset = named.1.charset_is;
              language = named.1.language_is;
              text = coded.1.1;
              short = short;
            },
          )
    ]
  ]
]

decide_parts : (word : List ℕ) → Decided (HasWordParts word)
decide_parts word = elim (cases_lt 75 (length word)) [
  | inl long ↦ inr (λ p has. let short = has.short in omega (arith, long, short))
  | inr short ↦ elim (decide_wrapped word) [
    | inr none ↦ inr (λ p has. none (inner_of p) (wrapped_word word p has))
    | inl found ↦ decide_inner word found.0 found.1 short
  ]
]

-- The octets of a text.
more_q : (i : QItem) (rest : List ℕ) → IsQItem i → Decided (IsQText rest) → Decided (IsQText (q_spelling i ++ rest))
more_q i rest is (inl found) = inl (q_octet i ∷ found.0, (i ∷ found.1.0, (is, found.1.1), ap (λ t. q_spelling i ++ t) found.1.2, ap (λ t. q_octet i ∷ t) found.1.3))
more_q i rest is (inr none) = inr (λ octets q. stuck q.0 q.1 q.2)
  where
    stuck : (items : List QItem) → AllByRecursion IsQItem items → q_spelling i ++ rest ≡ flat_map q_spelling items → ⊥
    stuck [] all e = no_items i rest e
    stuck (j ∷ items) all e = none (map q_octet items) (items, all.1, (item_once i j rest (flat_map q_spelling items) is all.0 e).1, refl)

-- where two digits don't follow a `=`, nothing is spelled
no_escape : (rest : List ℕ) → ((high low : ℕ) (after : List ℕ) → rest ≡ high ∷ low ∷ after → digit_value high < 16 → digit_value low < 16 → ⊥) → Decided (IsQText (61 ∷ rest))
no_escape rest none = inr (λ octets q. stuck q.0 q.1 q.2)
  where
    stuck : (items : List QItem) → AllByRecursion IsQItem items → 61 ∷ rest ≡ flat_map q_spelling items → ⊥
    stuck [] all e = cc e
    stuck (Space ∷ items) all e = let w : ◌≡◌ {A = ℕ} 61 95 = cc e in omega arith
    stuck (Escape high low ∷ items) all e = none high low (flat_map q_spelling items) (cc e) all.0.0 all.0.1
    stuck (Plain b ∷ items) all e = all.0.0 (sym (cc e))

decide_escape : (high low : ℕ) (rest : List ℕ) → Decided (IsQText rest) → Decided (IsQText (61 ∷ high ∷ low ∷ rest))
decide_escape high low rest decided = elim (cases_lt (digit_value high) 16) [
  | inr fails ↦ no_escape (high ∷ low ∷ rest) (λ h l after e a b. let same : high ≡ h = cc e in omega (arith, fails, a, ap digit_value same))
  | inl yes_high ↦ elim (cases_lt (digit_value low) 16) [
    | inr fails ↦ no_escape (high ∷ low ∷ rest) (λ h l after e a b. let same : low ≡ l = cc e in omega (arith, fails, b, ap digit_value same))
    | inl yes_low ↦ more_q (Escape high low) rest (yes_high, yes_low) decided
  ]
]

first_q : (x : ℕ) (rest : List ℕ) → Decided (IsQText rest) → (x ≡ 61 → Decided (IsQText (61 ∷ rest))) → Decided (IsQText (x ∷ rest))
first_q x rest decided escaped = elim (cases_eq x 61) [
  | inl e ↦ rw e (escaped e)
  | inr fails ↦ elim (cases_eq x 95) [
    | inl e ↦ rw e (more_q Space rest tt decided)
    | inr other ↦ more_q (Plain x) rest (fails, other) decided
  ]
]

decide_q : (text : List ℕ) → Decided (IsQText text)
decide_q [] = inl ([], ([], tt, refl, refl))
decide_q (x ∷ []) = first_q x [] (decide_q []) (λ e. no_escape [] (λ h l after e a b. cc e))
decide_q (x ∷ y ∷ []) = first_q x (y ∷ []) (decide_q (y ∷ [])) (λ e. no_escape (y ∷ []) (λ h l after e a b. cc e))
decide_q (x ∷ y ∷ z ∷ rest) = first_q x (y ∷ z ∷ rest) (decide_q (y ∷ z ∷ rest)) (λ e. decide_escape y z rest (decide_q rest))

pub decide_same : (xs ys : List ℕ) → (xs ≡ ys) ⊎ (xs ≢ ys)
decide_same [] [] = inl refl
decide_same [] (y ∷ ys) = inr (λ e. cc e)
decide_same (x ∷ xs) [] = inr (λ e. cc e)
decide_same (x ∷ xs) (y ∷ ys) = elim (cases_eq x y) [
  | inr fails ↦ inr (λ e. fails (cc e))
  | inl e ↦ elim (decide_same xs ys) [ inl same ↦ inl (rw (e, same) refl) | inr other ↦ inr (λ f. other (cc f)) ]
]

all_bytes : (bs : List ℕ) → IsBytes bs → list_all is_byte bs ≡ true
all_bytes bs is = all_from_places is_byte bs (λ k l. lt-ltb (get_or bs k 0) 256 (is k))

-- the octets that a decoder answers are those, or none are
decide_from : {E : Type 0} (text : List ℕ) (r : Result (List ℕ) E) → ((octets : List ℕ) → IsBText text octets → r ≡ Ok octets) → Decided (IsBText text)
decide_from text (Err x) only = inr (λ octets is. let e = only octets is in cc e)
decide_from text (Ok bs) only = elim (cases_Bool (list_all is_byte bs)) [
  | inr fails ↦ inr (λ octets is. true≢false (sym (subst (λ xs. list_all is_byte xs ≡ true) (sym (same octets is)) (all_bytes octets is.0)) ∙ fails))
  | inl bytes ↦ elim (decide_same text (encode_of standard bs)) [
    | inl spelled ↦ inl (bs, (IsBytes-from_all bs bytes, spelled))
    | inr other ↦ inr (λ octets is. other (is.1 ∙ ap (encode_of standard) (sym (same octets is))))
  ]
]
  where
    same : (octets : List ℕ) → IsBText text octets → bs ≡ octets
    same octets is = let e = only octets is in cc e

decide_b : (text : List ℕ) → Decided (IsBText text)
decide_b text = decide_from text (decode_of standard text) (λ octets is. ap (decode_of standard) is.1 ∙ decode_of-encode_of standard octets refl is.0)

decide_text : (letter : ℕ) (text : List ℕ) → Decided (IsTextOf letter text)
decide_text letter text = elim (cases_eq (to_ascii_uppercase letter) 66) [
  | inl b ↦ elim (decide_b text) [
    | inl found ↦ inl (found.0, inl (b, found.1))
    | inr none ↦ inr (λ octets is. elim is [ inl p ↦ none octets p.1 | inr q ↦ omega (arith, sym b ∙ q.0) ])
  ]
  | inr no_b ↦ elim (cases_eq (to_ascii_uppercase letter) 81) [
    | inl q ↦ elim (decide_q text) [
      | inl found ↦ inl (found.0, inr (q, found.1))
      | inr none ↦ inr (λ octets is. elim is [ inl p ↦ no_b p.0 | inr p ↦ none octets p.1 ])
    ]
    | inr no_q ↦ inr (λ octets is. elim is [ inl p ↦ no_b p.0 | inr p ↦ no_q p.0 ])
  ]
]

-- what a word says
pub decide_says : (word : List ℕ) → (says : Option UnitValue) × Says word says
decide_says word = elim (decide_parts word) [
  | inr none ↦ (None, λ u is. none is.parts is.has_parts)
  | inl parts ↦ elim (decide_text parts.0.letter parts.0.text) [
    | inl found ↦ (Some (unit_of parts.0.charset found.0 word), record { parts = parts.0; octets = found.0; has_parts = parts.1; spells = found.1; says = refl })
    | inr none ↦ (None, λ u is. none is.octets (subst (λ (p : WordParts). IsTextOf p.letter p.text is.octets) (HasParts-once word is.parts parts.0 is.has_parts parts.1) is.spells))
  ]
]

pub decide_where : (b : Bool) (word : List ℕ) → (says : Option UnitValue) × SaysWhere b word says
decide_where true word = decide_says word
decide_where false word = (None, refl)
