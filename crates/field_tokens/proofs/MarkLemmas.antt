-- Tokens by their marks.
use Rattle.std.proofs.Common.{◌≡◌, ℕ, zero, suc, ◌+◌, ◌-◌, ◌<◌, ◌≤◌, List, [], ◌∷◌, ◌++◌, length, get_or, min, take, drop, refl, sym, ap, ◌∙◌, subst, arith, Bool, true, ◌==◌, ◌↔◌, IsTrue}
use Rattle.std.proofs.lemmas.Bool.{and_parts, and_from}
use Rattle.std.proofs.lemmas.Bool.Decides.{nat_tests}
use Rattle.std.specs.List.{list_all}
use Rattle.field_tokens.specs.TokenOctets.{is_above_cr, is_line_octet}
use Rattle.std.proofs.lemmas.List.{length-append, append_assoc, take-append-drop, take_at, drop_at, take_min, drop_min, drop_more, drop_all}
use Rattle.field_tokens.specs.declared.Style.{Style}
use Rattle.field_tokens.specs.declared.TokenKind.{TokenKind}
use Rattle.field_tokens.specs.declared.lexemes.Mark.{Mark}
use Rattle.field_tokens.specs.Tokens.{BeginsToken, TokenValue, IsLine, HasTokenValues}
use Rattle.field_tokens.specs.Squeezed.{octets_of}
use Rattle.field_tokens.specs.Lexemes.{marked_kind, marked_len, lexemes_in}
use Rattle.field_tokens.proofs.TokenLists.{ReadsTokens, ReadsTokens-none, ReadsTokens-push, no_tokens, all_tokens, token_some}

line_octet : (x : ℕ) → is_above_cr x ≡ true → is_line_octet x ≡ true
line_octet x above = grind (arith, nat_tests)

-- no octet above CR ends a line
pub above_cr : (text : List ℕ) → list_all is_above_cr text ≡ true → list_all is_line_octet text ≡ true
above_cr [] above = refl
above_cr (x ∷ xs) above =
    let parts = and_parts (is_above_cr x) (list_all is_above_cr xs) above in
    and_from (is_line_octet x) (list_all is_line_octet xs) (line_octet x parts.0) (above_cr xs parts.1)

-- what stands after the tokens of marks
abbrev pub after_marks : List ℕ → List Mark → List ℕ
after_marks text [] = text
after_marks text (m ∷ ms) = after_marks (drop (marked_len m) text) ms

lexemes_in-append : (text : List ℕ) (ms ns : List Mark) → lexemes_in text (ms ++ ns) ≡ lexemes_in text ms ++ lexemes_in (after_marks text ms) ns
lexemes_in-append text [] ns = refl
lexemes_in-append text (m ∷ ms) ns = ap (λ r. record { kind = marked_kind m; octets = take (marked_len m) text } ∷ r) (lexemes_in-append (drop (marked_len m) text) ms ns)

after_marks-append : (text : List ℕ) (ms ns : List Mark) → after_marks text (ms ++ ns) ≡ after_marks (after_marks text ms) ns
after_marks-append text [] ns = refl
after_marks-append text (m ∷ ms) ns = after_marks-append (drop (marked_len m) text) ms ns

pub lexemes_in-length : (text : List ℕ) (ms : List Mark) → length (lexemes_in text ms) ≡ length ms
lexemes_in-length text [] = refl
lexemes_in-length text (m ∷ ms) = ap suc (lexemes_in-length (drop (marked_len m) text) ms)

pub lexemes_in-empty : (text : List ℕ) (ms : List Mark) (is_empty : Bool) → is_empty ≡ (length ms == 0) → IsTrue is_empty ↔ (lexemes_in text ms ≡ [])
lexemes_in-empty text [] is_empty e = (λ _. refl, λ _. e)
lexemes_in-empty text (m ∷ ms) is_empty e = (λ t. absurd (grind (arith, nat_tests, e, t)), λ none. cc none)

lexemes_in-take : (n : ℕ) (text : List ℕ) (ms : List Mark) → lexemes_in text (take n ms) ≡ take n (lexemes_in text ms)
lexemes_in-take zero text ms = refl
lexemes_in-take (suc n) text [] = refl
lexemes_in-take (suc n) text (m ∷ ms) = ap (λ r. record { kind = marked_kind m; octets = take (marked_len m) text } ∷ r) (lexemes_in-take n (drop (marked_len m) text) ms)

-- the first so many marks are of the first tokens
pub front_marks : (n k : ℕ) (text : List ℕ) (ms front : List Mark) → k ≡ min n (length ms) → front ≡ take k ms → lexemes_in text front ≡ take n (lexemes_in text ms)
front_marks n k text ms front k_is e = ap (lexemes_in text) (e ∙ ap (λ j. take j ms) k_is ∙ take_min n ms) ∙ lexemes_in-take n text ms

octets_joined : (text : List ℕ) (ms : List Mark) → octets_of (lexemes_in text ms) ++ after_marks text ms ≡ text
octets_joined text [] = refl
octets_joined text (m ∷ ms) =
    let n = marked_len m in
    append_assoc (take n text) (octets_of (lexemes_in (drop n text) ms)) (after_marks (drop n text) ms) ∙ ap (λ r. take n text ++ r) (octets_joined (drop n text) ms) ∙ take-append-drop n text

-- the next mark was passed
pub marks_turn : (text rest after : List ℕ) (ms : List Mark) (d : Mark) (i n k : ℕ) → after_marks rest (drop i ms) ≡ after_marks text ms → i < length ms
    → after ≡ drop k rest → k ≡ min n (length rest) → n ≡ marked_len (get_or ms i d) → after_marks after (drop (i + 1) ms) ≡ after_marks text ms
marks_turn text rest after ms d i n k so more e k_is n_is =
    let m = get_or ms i d in
    let next : drop i ms ≡ m ∷ drop (i + 1) ms = drop_more ms i d more in
    let left : after ≡ drop (marked_len m) rest = e ∙ ap (λ j. drop j rest) k_is ∙ drop_min n rest ∙ ap (λ k. drop k rest) n_is in
    ap (λ r. after_marks r (drop (i + 1) ms)) left ∙ sym (ap (after_marks rest) next) ∙ so

-- what stands before what is left after all marks
pub marks_octets : (text rest out : List ℕ) (ms : List Mark) (i n : ℕ) → after_marks rest (drop i ms) ≡ after_marks text ms → length ms ≤ i → out ≡ take n text → n ≡ length text - length rest
    → out ≡ octets_of (lexemes_in text ms)
marks_octets text rest out ms i n passed end e n_is =
    let so : rest ≡ after_marks text ms = sym (ap (after_marks rest) (drop_all i ms end)) ∙ passed in
    let o = octets_of (lexemes_in text ms) in
    let whole : o ++ rest ≡ text = ap (λ r. o ++ r) so ∙ octets_joined text ms in
    let size : length o ≡ length text - length rest = omega (arith, ap length whole, length-append o rest) in
    let same : n ≡ length o = n_is ∙ sym size in
    e ∙ ap (take n) (sym whole) ∙ take_at o rest n (sym same)

-- the marks of the tokens before rest
pub record ReadsMarks (style : Style) (text : List ℕ) (marks : List Mark) (rest : List ℕ) : Type 0 where
  pub reads : ReadsTokens style text (lexemes_in text marks) rest
  pub following : after_marks text marks ≡ rest

pub ReadsMarks-none : (style : Style) (text : List ℕ) (marks : List Mark) → marks ≡ [] → ReadsMarks style text marks text
ReadsMarks-none style text marks e = rw e (record { reads = ReadsTokens-none style text; following = refl })

pub ReadsMarks-turn : (style : Style) (text rest after : List ℕ) (old new : List Mark) (m : Mark) (kind : TokenKind) → ReadsMarks style text old rest → 0 < length rest
    → BeginsToken style kind rest after → marked_kind m ≡ kind → marked_len m ≡ length rest - length after → new ≡ old ++ m ∷ [] → ReadsMarks style text new after
ReadsMarks-turn style text rest after old new m kind r some b kind_is len_is pushed =
    let size : length b.octets ≡ marked_len m = omega (arith, ap length b.whole, length-append b.octets after, len_is) in
    let octets : take (marked_len m) rest ≡ b.octets = ap (take (marked_len m)) b.whole ∙ take_at b.octets after (marked_len m) size in
    let left : drop (marked_len m) rest ≡ after = ap (drop (marked_len m)) b.whole ∙ drop_at b.octets after (marked_len m) size in
    let value : lexemes_in (after_marks text old) (m ∷ []) ≡ record { kind = kind; octets = b.octets } ∷ []
    = rw (r.following, octets, kind_is) refl in
    let values : lexemes_in text new ≡ lexemes_in text old ++ record { kind = kind; octets = b.octets } ∷ []
    = ap (lexemes_in text) pushed ∙ lexemes_in-append text old (m ∷ []) ∙ ap (λ r. lexemes_in text old ++ r) value in
    record {
      reads = subst (λ done. ReadsTokens style text done after) (sym values) (ReadsTokens-push style kind text rest after (lexemes_in text old) r.reads some b);
      following = ap (after_marks text) pushed ∙ after_marks-append text old (m ∷ []) ∙ ap (drop (marked_len m)) r.following ∙ left;
    }

pub never_marks : (style : Style) (text rest : List ℕ) (marks : List Mark) → ReadsMarks style text marks rest → 0 < length rest → ((kind : TokenKind) (after : List ℕ) → BeginsToken style kind rest after → ⊥)
    → (tokens : List TokenValue) → HasTokenValues style text tokens → ⊥
never_marks style text rest marks r some none tokens has = no_tokens style text rest (lexemes_in text marks) r.reads some none tokens has.are_tokens

pub marks_found : (style : Style) (text rest : List ℕ) (marks : List Mark) → IsLine text → ReadsMarks style text marks rest → length rest ≡ 0 → HasTokenValues style text (lexemes_in text marks)
marks_found style text rest marks line r end = record { is_line = line; are_tokens = all_tokens style text rest (lexemes_in text marks) r.reads end }

-- so many tokens stand before rest
pub record CountsTokens (style : Style) (text : List ℕ) (count : ℕ) (rest : List ℕ) : Type 0 where
  pub done : List TokenValue
  pub reads : ReadsTokens style text done rest
  pub few : count + length rest ≤ length text

pub CountsTokens-none : (style : Style) (text : List ℕ) → CountsTokens style text 0 text
CountsTokens-none style text = record { done = []; reads = ReadsTokens-none style text; few = omega arith }

pub CountsTokens-turn : (style : Style) (text rest after : List ℕ) (count : ℕ) (kind : TokenKind) → CountsTokens style text count rest → 0 < length rest → BeginsToken style kind rest after
    → CountsTokens style text (count + 1) after
CountsTokens-turn style text rest after count kind c some b = record {
  done = c.done ++ record { kind = kind; octets = b.octets } ∷ [];
  reads = ReadsTokens-push style kind text rest after c.done c.reads some b;
  few = omega (arith, c.few, token_some style kind rest after b);
}

pub counts_never : (style : Style) (text rest : List ℕ) (count : ℕ) → CountsTokens style text count rest → 0 < length rest → ((kind : TokenKind) (after : List ℕ) → BeginsToken style kind rest after → ⊥)
    → (tokens : List TokenValue) → HasTokenValues style text tokens → ⊥
counts_never style text rest count c some none tokens has = no_tokens style text rest c.done c.reads some none tokens has.are_tokens
