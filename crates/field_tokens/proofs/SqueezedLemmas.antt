-- Squeezed text, one token at a time.
use Rattle.std.proofs.Common.{◌≡◌, ◌≢◌, ℕ, ◌+◌, ◌<◌, ◌≤◌, Bool, true, false, not, cond, List, [], ◌∷◌, ◌++◌, length, drop, get_or, map, filter, refl, sym, ap, ◌∙◌, arith, add-one, zero, suc, inl, inr}
use Rattle.std.specs.List.{slice_split, onto_first, join_with_byte}
use Rattle.std.proofs.Math.Seq.{drop-cons}
use Rattle.std.proofs.lemmas.List.{append_assoc, append-nil, length-append, get_or-append-add, get_or_append_left}
use Rattle.field_tokens.specs.declared.Token.{Token}
use Rattle.field_tokens.specs.declared.TokenKind.TheVariants.{Atom}
use Rattle.field_tokens.specs.Tokens.{IsTokenOf, octets_at}
use Rattle.field_tokens.specs.Squeezed.{is_blank, run_octets, is_there, squeezed_text, AreNeighbours}
use Rattle.field_tokens.proofs.CommentTokens.{token_placed}
use Rattle.field_tokens.proofs.TokenLists.{token_octets_some}

abbrev pub space : Bool → List ℕ
space has_space_before = cond has_space_before (32 ∷ []) []

-- what tokens add after others: after a gap or a comment a space comes first
abbrev pub following : List ℕ → Bool → List Token → List ℕ
following text has_space_before [] = []
following text has_space_before (t ∷ ts) = cond (is_blank t.kind) (following text true ts) (space has_space_before ++ (octets_at text t.span ++ following text false ts))

abbrev pieces : List ℕ → List (List Token) → List (List ℕ)
pieces text runs = map (run_octets text) (filter is_there runs)

-- what tokens add, by their runs
abbrev AddsRuns : List ℕ → List Token → List (List Token) → Type 0
AddsRuns text ts [] = ⊥
AddsRuns text ts (run ∷ runs) =
    (following text false ts ≡ join_with_byte 32 (run_octets text run ∷ pieces text runs)) × (following text true ts ≡ join_with_byte 32 ([] ∷ pieces text (run ∷ runs)))

join_front : (octets first : List ℕ) (others : List (List ℕ)) → octets ++ join_with_byte 32 (first ∷ others) ≡ join_with_byte 32 ((octets ++ first) ∷ others)
join_front octets first [] = refl
join_front octets first (next ∷ others) = sym (append_assoc octets first (32 ∷ join_with_byte 32 (next ∷ others)))

adds_more : (text : List ℕ) (b : Bool) (t : Token) (ts : List Token) (runs : List (List Token)) → is_blank t.kind ≡ b → AddsRuns text ts runs → AddsRuns text (t ∷ ts) (cond b ([] ∷ runs) (onto_first t runs))
adds_more text b t ts [] e adds = absurd adds
adds_more text true t ts (run ∷ runs) e adds = (rw (e) adds.1, rw (e) adds.1)
adds_more text false t ts (run ∷ runs) e adds =
    let front : octets_at text t.span ++ following text false ts ≡ join_with_byte 32 (run_octets text (t ∷ run) ∷ pieces text runs)
    = ap (λ r. octets_at text t.span ++ r) adds.0 ∙ join_front (octets_at text t.span) (run_octets text run) (pieces text runs) in
    (rw (e) front, rw (e) (ap (λ r. 32 ∷ r) front))

adds_runs : (text : List ℕ) (ts : List Token) → AddsRuns text ts (slice_split (λ token. is_blank token.kind) ts)
adds_runs text [] = (refl, refl)
adds_runs text (t ∷ ts) = adds_more text (is_blank t.kind) t ts (slice_split (λ token. is_blank token.kind) ts) refl (adds_runs text ts)

squeezed_blank : (text : List ℕ) (t : Token) (ts : List Token) → is_blank t.kind ≡ true → squeezed_text text (t ∷ ts) ≡ squeezed_text text ts
squeezed_blank text t ts e = rw (e) refl

squeezed_kept : (text : List ℕ) (t : Token) (ts : List Token) → is_blank t.kind ≡ false → squeezed_text text (t ∷ ts) ≡ octets_at text t.span ++ following text false ts
squeezed_kept text t ts e = rw (e) (by (slice_split (λ token. is_blank token.kind) ts) (adds_runs text ts))
  where
    by : (runs : List (List Token)) → AddsRuns text ts runs → join_with_byte 32 (pieces text (onto_first t runs)) ≡ octets_at text t.span ++ following text false ts
    by [] adds = absurd adds
    by (run ∷ runs) adds = sym (ap (λ r. octets_at text t.span ++ r) adds.0 ∙ join_front (octets_at text t.span) (run_octets text run) (pieces text runs))

-- with what is made so far, the rest gives the squeezed text
pub data Squeezes : List ℕ → List Token → List ℕ → Bool → List Token → Type 0 where
  Nothing : {text : List ℕ} {tokens : List Token} {made : List ℕ} {has_space_before : Bool} {rest : List Token} → made ≡ [] → has_space_before ≡ false → squeezed_text text rest ≡ squeezed_text text tokens → Squeezes text tokens made has_space_before rest
  Something : {text : List ℕ} {tokens : List Token} {made : List ℕ} {has_space_before : Bool} {rest : List Token} → made ≢ [] → made ++ following text has_space_before rest ≡ squeezed_text text tokens → Squeezes text tokens made has_space_before rest

pub Squeezes-blank : (text : List ℕ) (tokens : List Token) (made : List ℕ) (old new : Bool) (t : Token) (rest : List Token) → Squeezes text tokens made old (t ∷ rest) → is_blank t.kind ≡ true
    → (made ≡ [] → new ≡ false) → (made ≢ [] → new ≡ true) → Squeezes text tokens made new rest
Squeezes-blank text tokens made old new t rest (Nothing none apart e) blank empty some = Nothing none (empty none) (sym (squeezed_blank text t rest blank) ∙ e)
Squeezes-blank text tokens made old new t rest (Something is e) blank empty some = Something is (rw (some is) (rw (blank) at e))

pub Squeezes-kept : (text : List ℕ) (tokens : List Token) (made new : List ℕ) (has_space_before : Bool) (t : Token) (rest : List Token) → Squeezes text tokens made has_space_before (t ∷ rest) → is_blank t.kind ≡ false
    → 0 < length (octets_at text t.span) → new ≡ made ++ (space has_space_before ++ octets_at text t.span) → Squeezes text tokens new false rest
Squeezes-kept text tokens made new has_space_before t rest (Nothing none apart e) kept some new_is =
    let same : new ≡ octets_at text t.span = new_is ∙ rw (none, apart) refl in
    Something (λ no. omega (arith, some, ap length same, ap length no)) (rw (same) (sym (squeezed_kept text t rest kept) ∙ e))
Squeezes-kept text tokens made new has_space_before t rest (Something is e) kept some new_is =
    let octets : List ℕ = octets_at text t.span in
    let size : length new ≡ length made + (length (space has_space_before) + length octets) = ap length new_is ∙ length-append made (space has_space_before ++ octets) ∙ ap (λ n. length made + n) (length-append (space has_space_before) octets) in
    let whole : made ++ (space has_space_before ++ (octets ++ following text false rest)) ≡ squeezed_text text tokens = rw (kept) at e in
    let joined : new ++ following text false rest ≡ made ++ (space has_space_before ++ (octets ++ following text false rest))
    = ap (λ r. r ++ following text false rest) new_is ∙ append_assoc made (space has_space_before ++ octets) (following text false rest) ∙ ap (λ r. made ++ r) (append_assoc (space has_space_before) octets (following text false rest)) in
    Something (λ no. omega (arith, some, size, ap length no)) (joined ∙ whole)

pub Squeezes-all : (text : List ℕ) (tokens : List Token) (made : List ℕ) (has_space_before : Bool) (rest : List Token) → Squeezes text tokens made has_space_before rest → rest ≡ [] → made ≡ squeezed_text text tokens
Squeezes-all text tokens made has_space_before rest (Nothing none apart e) end = none ∙ rw (end) at e
Squeezes-all text tokens made has_space_before rest (Something is e) end = sym (append-nil made) ∙ rw (end) at e

-- each of the neighbours stands in the text and has octets
pub record StandsIn (text : List ℕ) (token : Token) : Type 0 where
  pub within : token.span.at + token.span.len ≤ length text
  pub some : 0 < length (octets_at text token.span)

stands_in : (text : List ℕ) (token : Token) → IsTokenOf text token → StandsIn text token
stands_in text token is =
    let p = token_placed text token is in
    record { within = p.within; some = token_octets_some is.style token.kind (octets_at text token.span) p.rest p.is_token }

get_or_any : (ts : List Token) (k : ℕ) (d e : Token) → k < length ts → get_or ts k d ≡ get_or ts k e
get_or_any [] k d e below = absurd (omega (arith, below))
get_or_any (t ∷ ts) zero d e below = refl
get_or_any (t ∷ ts) (suc k) d e below = get_or_any ts k d e (omega (arith, below))

pub neighbour_stands : (text : List ℕ) (tokens : List Token) (k : ℕ) (d : Token) → AreNeighbours text tokens → k < length tokens → StandsIn text (get_or tokens k d)
neighbour_stands text tokens k d (inl none) below = absurd (omega (arith, ap length none, below))
neighbour_stands text tokens k d (inr s) below =
    let token : Token = get_or tokens k d in
    let size : length (s.before ++ (tokens ++ s.after)) ≡ length s.before + (length tokens + length s.after) = length-append s.before (tokens ++ s.after) ∙ ap (λ n. length s.before + n) (length-append tokens s.after) in
    stands_in text token (record {
      style = s.style;
      tokens = s.before ++ (tokens ++ s.after);
      has = s.has;
      among = (length s.before + k, omega (arith, size, below), get_or-append-add s.before (tokens ++ s.after) k token ∙ get_or_append_left tokens s.after token k below ∙ get_or_any tokens k token d below);
    })

-- the next token, and what is after it
pub Squeezes-at : (text : List ℕ) (tokens : List Token) (made : List ℕ) (has_space_before : Bool) (k : ℕ) (d : Token) → Squeezes text tokens made has_space_before (drop k tokens) → k < length tokens
    → Squeezes text tokens made has_space_before (get_or tokens k d ∷ drop (k + 1) tokens)
Squeezes-at text tokens made has_space_before k d s below = rw (add-one) (rw (drop-cons tokens k d below) at s)

-- a token as the code reads it past the end of a list
abbrev pub no_token : Token
no_token = record { kind = Atom; span = record { at = 0; len = 0 } }

pub not_empty : (made : List ℕ) (b : Bool) → (b ≡ true → made ≡ []) → made ≢ [] → not b ≡ true
not_empty made true empty some = absurd (some (empty refl))
not_empty made false empty some = refl
