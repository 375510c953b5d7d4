-- Where values stand.
use Rattle.std.proofs.Common.{◌≡◌, ℕ, zero, suc, ◌+◌, ◌-◌, ◌≤◌, ◌==◌, ◌&&◌, Bool, true, false, List, [], ◌∷◌, ◌++◌, take, drop, refl, sym, ap, ◌∙◌, arith}
use Rattle.std.specs.List.{list_all}
use Rattle.std.proofs.lemmas.Bool.{true≢false}
use Rattle.std.proofs.lemmas.Bool.Decides.{nat_tests}
use Rattle.std.proofs.lemmas.List.{append_assoc, append-nil, drop-drop}
use Rattle.std.proofs.lemmas.List.Concat.{flat_map-append}
use Rattle.std.proofs.lemmas.List.Folds.{list_all-append}
use Rattle.mail_wire.specs.declared.values.Span.{Span}
use Rattle.field_tokens.specs.declared.Token.{Token}
use Rattle.field_tokens.specs.Squeezed.{run_octets}
use Rattle.field_tokens.specs.Tokens.{octets_at}
use Rattle.encoded_words.proofs.Reading.{and_false}
use Rattle.param_grammar.specs.Bodies.{is_plain_token, touch, are_quoted, are_plain}
use Rattle.param_grammar.specs.private.Placing.{is_value, IsPlainAt, IsValueAt}

nothing : (n : ℕ) → take {A = ℕ} n [] ≡ []
nothing zero = refl
nothing (suc n) = refl

joined : (n b : ℕ) (xs : List ℕ) → take n xs ++ take b (drop n xs) ≡ take (n + b) xs
joined zero b xs = ap (λ m. take m xs) (let e : b ≡ 0 + b = omega arith in e)
joined (suc n) b [] = nothing b ∙ sym (nothing (suc n + b))
joined (suc n) b (x ∷ xs) = let e : suc n + b ≡ suc (n + b) = omega arith in rw e (ap (λ r. x ∷ r) (joined n b xs))

-- neighbouring stretches are one
pub together : (text : List ℕ) (at a b : ℕ) → take a (drop at text) ++ take b (drop (at + a) text) ≡ take (a + b) (drop at text)
together text at a b = ap (λ r. take a (drop at text) ++ take b r) (sym (drop-drop a at text)) ∙ joined a b (drop at text)

-- ---- unquoted values

-- The tokens of a value before rest stand together, and end there.
pub record PlainTo (text : List ℕ) (first : Token) (value : List Token) (end : ℕ) (rest : List Token) : Type 0 where
  pub more : List Token
  pub whole : value ≡ (first ∷ more) ++ rest
  pub plain : list_all (is_plain_token text) (first ∷ more) ≡ true
  pub begins : first.span.at ≤ end
  pub octets : run_octets text (first ∷ more) ≡ octets_at text (record { at = first.span.at; len = end - first.span.at })
  pub touching : (next : Token) (others : List Token) → touch ((first ∷ more) ++ next ∷ others) ≡ ((end == next.span.at) && touch (next ∷ others))
  pub touched : touch (first ∷ more) ≡ true

run_one : (text : List ℕ) (token : Token) → run_octets text (token ∷ []) ≡ octets_at text token.span
run_one text token = append-nil (octets_at text token.span)

and_one : (b : Bool) → (b && true) ≡ b
and_one true = refl
and_one false = refl

and_all : (a b c : Bool) → ((a && b) && c) ≡ (a && (b && c))
and_all true b c = refl
and_all false b c = refl

pub PlainTo-first : (text : List ℕ) (first : Token) (rest : List Token) (end : ℕ) → is_plain_token text first ≡ true → end ≡ first.span.at + first.span.len → PlainTo text first (first ∷ rest) end rest
PlainTo-first text first rest end is at = record {
  more = [];
  whole = refl;
  plain = rw is refl;
  begins = omega (arith, at);
  octets = let len : end - first.span.at ≡ first.span.len = omega (arith, at) in rw len (run_one text first);
  touching = λ next others. rw at refl;
  touched = refl;
}

both_true : (a b : Bool) → (a && b) ≡ true → (a ≡ true) × (b ≡ true)
both_true true b e = (refl, e)
both_true false b e = absurd (true≢false (sym e))

pub PlainTo-more : (text : List ℕ) (first token : Token) (value rest following : List Token) (end : ℕ) → PlainTo text first value end rest → rest ≡ token ∷ following
    → ((end == token.span.at) && is_plain_token text token) ≡ true → PlainTo text first value (token.span.at + token.span.len) following
PlainTo-more text first token value rest following end p cut fits =
    let same : (end == token.span.at) ≡ true = (both_true (end == token.span.at) (is_plain_token text token) fits).0 in
    let is : is_plain_token text token ≡ true = (both_true (end == token.span.at) (is_plain_token text token) fits).1 in
    let at : token.span.at ≡ end = grind (arith, nat_tests, same) in
    let onward : ℕ = token.span.at + token.span.len in
    let begins = p.begins in
    let stands : octets_at text token.span ≡ take token.span.len (drop (first.span.at + (end - first.span.at)) text)
    = let place : token.span.at ≡ first.span.at + (end - first.span.at) = omega (arith, at, begins) in ap (λ n. take token.span.len (drop n text)) place in
    let long : (end - first.span.at) + token.span.len ≡ onward - first.span.at = omega (arith, at, begins) in
    record {
      more = p.more ++ token ∷ [];
      whole = p.whole ∙ ap (λ r. (first ∷ p.more) ++ r) cut ∙ sym (append_assoc (first ∷ p.more) (token ∷ []) following);
      plain = list_all-append (is_plain_token text) (first ∷ p.more) (token ∷ []) ∙ rw (p.plain, is) refl;
      begins = omega (arith, at, begins);
      octets = flat_map-append (λ (t : Token). octets_at text t.span) (first ∷ p.more) (token ∷ []) ∙ ap (λ r. r ++ run_octets text (token ∷ [])) p.octets
          ∙ ap (λ r. octets_at text (record { at = first.span.at; len = end - first.span.at }) ++ r) (run_one text token ∙ stands)
          ∙ together text first.span.at (end - first.span.at) token.span.len ∙ ap (λ n. take n (drop first.span.at text)) long;
      touching = λ after others.
          ap touch (append_assoc (first ∷ p.more) (token ∷ []) (after ∷ others)) ∙ p.touching token (after ∷ others)
          ∙ rw same refl;
      touched = p.touching token [] ∙ rw same refl;
    }

pub IsPlainAt-end : (text : List ℕ) (first : Token) (value rest : List Token) (end : ℕ) → PlainTo text first value end rest → rest ≡ [] → IsPlainAt text value (record { at = first.span.at; len = end - first.span.at })
IsPlainAt-end text first value rest end p none =
    let all : value ≡ first ∷ p.more = p.whole ∙ ap (λ r. (first ∷ p.more) ++ r) none ∙ append-nil (first ∷ p.more) in
    record { plain = ap (are_plain text) all ∙ rw (p.plain, p.touched) refl; octets = ap (run_octets text) all ∙ p.octets }

-- a token that is none of an unquoted value, or stands apart
pub not-are_plain : (text : List ℕ) (first token : Token) (value rest following : List Token) (end : ℕ) → PlainTo text first value end rest → rest ≡ token ∷ following
    → ((end == token.span.at) && is_plain_token text token) ≡ false → are_plain text value ≡ false
not-are_plain text first token value rest following end p cut isnt =
    let whole : value ≡ (first ∷ p.more) ++ token ∷ following = p.whole ∙ ap (λ r. (first ∷ p.more) ++ r) cut in
    let plain : list_all (is_plain_token text) ((first ∷ p.more) ++ token ∷ following) ≡ (is_plain_token text token && list_all (is_plain_token text) following)
    = list_all-append (is_plain_token text) (first ∷ p.more) (token ∷ following) ∙ rw (p.plain) refl in
    let both : are_plain text value ≡ ((is_plain_token text token && list_all (is_plain_token text) following) && ((end == token.span.at) && touch (token ∷ following)))
    = ap (are_plain text) whole ∙ ap (λ b. b && touch ((first ∷ p.more) ++ token ∷ following)) plain ∙ ap (λ b. (is_plain_token text token && list_all (is_plain_token text) following) && b) (p.touching token following) in
    both ∙ by (end == token.span.at) (is_plain_token text token) (list_all (is_plain_token text) following) (touch (token ∷ following)) isnt
  where
    by : (a b c d : Bool) → (a && b) ≡ false → ((b && c) && (a && d)) ≡ false
    by true true c d e = absurd (true≢false e)
    by true false c d e = refl
    by false b c d e = and_false (b && c)

pub not-are_plain-first : (text : List ℕ) (first : Token) (rest : List Token) → is_plain_token text first ≡ false → are_plain text (first ∷ rest) ≡ false
not-are_plain-first text first rest isnt = rw isnt refl

-- ---- values

pub IsValueAt-quoted : (text : List ℕ) (first : Token) (value others : List Token) → value ≡ first ∷ others → are_quoted (first ∷ others) ≡ true → IsValueAt text value first.span true
IsValueAt-quoted text first value [] cut is = record { is = ap (is_value text) cut ∙ rw is refl; quoted_is = sym (ap are_quoted cut ∙ is); octets = ap (run_octets text) cut ∙ run_one text first }
IsValueAt-quoted text first value (other ∷ others) cut is = absurd (true≢false (sym is))

pub IsValueAt-plain : (text : List ℕ) (value : List Token) (span : Span) → are_quoted value ≡ false → IsPlainAt text value span → IsValueAt text value span false
IsValueAt-plain text value span isnt p = record { is = rw (isnt, p.plain) refl; quoted_is = sym isnt; octets = p.octets }

pub not-is_value : (text : List ℕ) (value : List Token) → are_quoted value ≡ false → are_plain text value ≡ false → is_value text value ≡ false
not-is_value text value isnt none = rw (isnt, none) refl
