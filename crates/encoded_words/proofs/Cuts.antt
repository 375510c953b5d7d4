-- A list is cut at the first such octet in one way.
use Rattle.std.proofs.Common.{◌≡◌, ℕ, ◌+◌, ◌<◌, ◌≤◌, true, false, not, eqb, List, [], ◌∷◌, ◌++◌, length, get_or, take, drop, Option, Some, None, refl, sym, ap, ◌∙◌, arith, position, ◌==◌}
use Rattle.std.proofs.lemmas.Bool.{and_parts, and_from, eqb-true, eq-eqb, not-true, true≢false}
use Rattle.std.proofs.lemmas.Bool.Decides.{nat_tests}
use Rattle.std.proofs.lemmas.Grind.{common_steps}
use Rattle.std.proofs.lemmas.List.{take-append-drop, drop_more, length-take-le, get_or-take, append_assoc, append-nil, append_cancel_right}
use Rattle.std.proofs.lemmas.List.Quantifiers.{position-Some}
use Rattle.std.proofs.lemmas.List.Recursion.{and_from_places}
use Rattle.std.proofs.lemmas.List.Sums.{fails_before_first}
use Rattle.std.specs.Prelude.{IfSome}
use Rattle.std.specs.List.{list_all, position_or_len}
use Rattle.mail_wire.proofs.AllLemmas.{pass-append}
use Rattle.encoded_words.specs.Words.{WordParts, HasWordParts, word_of, IsName, language_suffix, is_token_octet}
use Rattle.encoded_words.specs.private.Parts.{lacks, wrapped, IsCharsetName}

-- no such octet at any place
pub lacks_from_places : (c : ℕ) (xs : List ℕ) → ((k : ℕ) → k < length xs → eqb (get_or xs k 0) c ≡ false) → lacks c xs ≡ true
lacks_from_places c xs h = and_from_places (lacks c) (λ x. not (eqb x c)) refl (λ _ _. refl) xs 0 (λ k l. ap not (h k l))

pub position_found : (c : ℕ) (xs : List ℕ) (i : ℕ) → position (λ x. x == c) xs ≡ Some i
    → (i < length xs) × (xs ≡ take i xs ++ c ∷ drop (i + 1) xs) × (lacks c (take i xs) ≡ true)
position_found c xs i e =
    let at = position-Some (λ x. x == c) xs i 0 e in
    let here : get_or xs i 0 ≡ c = eqb-true (get_or xs i 0) c at.1 in
    let len : length (take i xs) ≡ i = length-take-le i xs (omega arith) in (
      at.0,
      sym (take-append-drop i xs) ∙ ap (λ ys. take i xs ++ ys) (drop_more xs i 0 at.0 ∙ ap (λ x. x ∷ drop (i + 1) xs) here),
      lacks_from_places c (take i xs) (λ k l. rw (get_or-take i xs k 0 (omega arith)) (at.2 k (omega arith))),
    )

pub position_missing : (c : ℕ) (xs : List ℕ) → position (λ x. x == c) xs ≡ None → lacks c xs ≡ true
position_missing c xs e =
    let past : length xs ≤ position_or_len (λ x. x == c) xs = grind (arith, common_steps) in
    lacks_from_places c xs (λ k l. fails_before_first (λ x. x == c) xs k 0 (omega arith))

-- an octet that the front lacks is not in the front
pub not_in : (c h : ℕ) (xs : List ℕ) → lacks c (h ∷ xs) ≡ true → h ≡ c → ⊥
not_in c h xs l e = let parts = and_parts (not (eqb h c)) (lacks c xs) l in true≢false (sym (eq-eqb h c e) ∙ not-true (eqb h c) parts.0)

pub rest_lacks : (c h : ℕ) (xs : List ℕ) → lacks c (h ∷ xs) ≡ true → lacks c xs ≡ true
rest_lacks c h xs l = (and_parts (not (eqb h c)) (lacks c xs) l).1

pub cut_once : (c : ℕ) (a b x y : List ℕ) → lacks c a ≡ true → lacks c b ≡ true → a ++ c ∷ x ≡ b ++ c ∷ y → (a ≡ b) × (x ≡ y)
cut_once c [] [] x y la lb e = (refl, cc e)
cut_once c [] (h ∷ b) x y la lb e = absurd (not_in c h b lb (cc e))
cut_once c (h ∷ a) [] x y la lb e = absurd (not_in c h a la (cc e))
cut_once c (h ∷ a) (k ∷ b) x y la lb e =
    let same : h ≡ k = cc e in
    let rest : a ++ c ∷ x ≡ b ++ c ∷ y = cc e in
    let r = cut_once c a b x y (rest_lacks c h a la) (rest_lacks c k b lb) rest in
    let front : a ≡ b = r.0 in
    (cc, r.1)

pub not_lacking : (c : ℕ) (a x : List ℕ) → lacks c (a ++ c ∷ x) ≡ true → ⊥
not_lacking c [] x l = not_in c c x l refl
not_lacking c (h ∷ a) x l = not_lacking c a x (rest_lacks c h (a ++ c ∷ x) l)

pub suffix_once : (a b : List ℕ) (l m : Option (List ℕ)) → lacks 42 a ≡ true → lacks 42 b ≡ true → a ++ language_suffix l ≡ b ++ language_suffix m → (a ≡ b) × (l ≡ m)
suffix_once a b None None la lb e = (sym (append-nil a) ∙ e ∙ append-nil b, refl)
suffix_once a b None (Some m) la lb e = absurd (not_lacking 42 b m (rw (← e, append-nil) la))
suffix_once a b (Some l) None la lb e = absurd (not_lacking 42 a l (rw (e, append-nil) lb))
suffix_once a b (Some l) (Some m) la lb e = let r = cut_once 42 a b l m la lb e in (r.0, ap (λ x. Some x) r.1)

-- octets of a name are neither stars nor question marks
name_octet : (b : ℕ) → is_token_octet b ≡ true → (eqb b 42 ≡ false) × (eqb b 63 ≡ false)
name_octet b h = (grind (arith, nat_tests), grind (arith, nat_tests))

pub name_lacks : (xs : List ℕ) → list_all is_token_octet xs ≡ true → (lacks 42 xs ≡ true) × (lacks 63 xs ≡ true)
name_lacks [] h = (refl, refl)
name_lacks (x ∷ xs) h =
    let parts = and_parts (is_token_octet x) (list_all is_token_octet xs) h in
    let one = name_octet x parts.0 in
    let rest = name_lacks xs parts.1 in
    (and_from (not (eqb x 42)) (lacks 42 xs) (ap not one.0) rest.0, and_from (not (eqb x 63)) (lacks 63 xs) (ap not one.1) rest.1)

-- where a name is cut at its first star, it is a charset and language in that way alone
pub IsNamed-once : (name charset cs : List ℕ) (language ls : Option (List ℕ)) → name ≡ charset ++ language_suffix language → lacks 42 charset ≡ true
    → IsCharsetName name cs ls → (cs ≡ charset) × (ls ≡ language)
IsNamed-once name charset cs language ls spelled first is =
    suffix_once cs charset ls language (name_lacks cs is.charset_is.1).0 first (sym is.spelled ∙ spelled)

abbrev pub name_of : WordParts → List ℕ
name_of p = p.charset ++ language_suffix p.language

abbrev pub inner_of : WordParts → List ℕ
inner_of p = name_of p ++ 63 ∷ p.letter ∷ 63 ∷ p.text

pub word_of-wrapped : (p : WordParts) → word_of p ≡ wrapped (inner_of p)
word_of-wrapped p =
    let end : List ℕ = 63 ∷ 61 ∷ [] in
    let coded : List ℕ = 63 ∷ p.letter ∷ 63 ∷ p.text in
    rw (append_assoc (name_of p) coded end, append_assoc p.charset (language_suffix p.language) (coded ++ end)) refl

-- a word with these parts is this between its marks
pub wrapped_word : (word : List ℕ) (p : WordParts) → HasWordParts word p → word ≡ wrapped (inner_of p)
wrapped_word word p has = has.spelled ∙ word_of-wrapped p

pub inner_is : (word inner : List ℕ) (p : WordParts) → word ≡ wrapped inner → HasWordParts word p → inner ≡ inner_of p
inner_is word inner p whole has =
    let same : wrapped inner ≡ wrapped (inner_of p) = sym whole ∙ wrapped_word word p has in
    append_cancel_right inner (inner_of p) (63 ∷ 61 ∷ []) (cc same)

language_lacks : (l : Option (List ℕ)) → IfSome l IsName → lacks 63 (language_suffix l) ≡ true
language_lacks None h = refl
language_lacks (Some l) h = (name_lacks l h.1).1

lacks_append : (c : ℕ) (xs ys : List ℕ) → lacks c xs ≡ true → lacks c ys ≡ true → lacks c (xs ++ ys) ≡ true
lacks_append c xs ys a b = pass-append (λ x. not (eqb x c)) xs ys a b

pub name_of-lacks : (word : List ℕ) (p : WordParts) → HasWordParts word p → lacks 63 (name_of p) ≡ true
name_of-lacks word p has = lacks_append 63 p.charset (language_suffix p.language) (name_lacks p.charset has.charset.1).1 (language_lacks p.language has.language)

-- and how it is cut at its first question mark
pub name_is : (word inner name coded : List ℕ) (p : WordParts) → word ≡ wrapped inner → inner ≡ name ++ 63 ∷ coded → lacks 63 name ≡ true
    → HasWordParts word p → (name ≡ name_of p) × (coded ≡ p.letter ∷ 63 ∷ p.text)
name_is word inner name coded p whole cut first has =
    cut_once 63 name (name_of p) coded (p.letter ∷ 63 ∷ p.text) first (name_of-lacks word p has) (sym cut ∙ inner_is word inner p whole has)

pub named_from : (word : List ℕ) (p : WordParts) → HasWordParts word p → IsCharsetName (name_of p) p.charset p.language
named_from word p has = record { spelled = refl; charset_is = has.charset; language_is = has.language }

abbrev parts : List ℕ → Option (List ℕ) → ℕ → List ℕ → WordParts
parts charset language letter text = record { charset = charset; language = language; letter = letter; text = text }

made : (a b : List ℕ) (l m : Option (List ℕ)) (x y : ℕ) (t u : List ℕ) → a ≡ b → l ≡ m → x ≡ y → t ≡ u → parts a l x t ≡ parts b m y u
made a b l m x y t u e f g h = cc

same_parts : (p q : WordParts) → p.charset ≡ q.charset → p.language ≡ q.language → p.letter ≡ q.letter → p.text ≡ q.text → p ≡ q
same_parts p q a b d e = made p.charset q.charset p.language q.language p.letter q.letter p.text q.text a b d e

-- A word has one list of parts.
pub HasParts-once : (word : List ℕ) (p q : WordParts) → HasWordParts word p → HasWordParts word q → p ≡ q
HasParts-once word p q hp hq =
    let cut = name_is word (inner_of q) (name_of q) (q.letter ∷ 63 ∷ q.text) p (wrapped_word word q hq) refl (name_of-lacks word q hq) hp in
    let names = suffix_once q.charset p.charset q.language p.language (name_lacks q.charset hq.charset.1).0 (name_lacks p.charset hp.charset.1).0 cut.0 in
    let a : p.charset ≡ q.charset = sym names.0 in
    let b : p.language ≡ q.language = sym names.1 in
    let rest = cut.1 in
    let d : p.letter ≡ q.letter = cc rest in
    let e : p.text ≡ q.text = cc rest in
    same_parts p q a b d e
