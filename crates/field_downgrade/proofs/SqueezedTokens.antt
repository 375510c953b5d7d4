-- Squeezed text, one token at a time.
use Rattle.std.proofs.Common.{◌≡◌, ℕ, Bool, true, false, cond, List, [], ◌∷◌, ◌++◌, map, filter, refl, sym, ap, ◌∙◌}
use Rattle.std.specs.List.{slice_split, onto_first, join_with_byte}
use Rattle.std.proofs.lemmas.List.{append_assoc, append-nil}
use Rattle.field_tokens.specs.Tokens.{TokenValue}
use Rattle.field_tokens.specs.Squeezed.{is_blank, is_there, octets_of, squeezed_values}

abbrev pub space : Bool → List ℕ
space has_space_before = cond has_space_before (32 ∷ []) []

-- what tokens add after others: after a gap or a comment a space comes first
abbrev pub following : Bool → List TokenValue → List ℕ
following has_space_before [] = []
following has_space_before (t ∷ ts) = cond (is_blank t.kind) (following true ts) (space has_space_before ++ (t.octets ++ following false ts))

abbrev pieces : List (List TokenValue) → List (List ℕ)
pieces runs = map octets_of (filter is_there runs)

-- what tokens add, by their runs
abbrev AddsRuns : List TokenValue → List (List TokenValue) → Type 0
AddsRuns ts [] = ⊥
AddsRuns ts (run ∷ runs) = (following false ts ≡ join_with_byte 32 (octets_of run ∷ pieces runs)) × (following true ts ≡ join_with_byte 32 ([] ∷ pieces (run ∷ runs)))

join_front : (octets first : List ℕ) (others : List (List ℕ)) → octets ++ join_with_byte 32 (first ∷ others) ≡ join_with_byte 32 ((octets ++ first) ∷ others)
join_front octets first [] = refl
join_front octets first (next ∷ others) = sym (append_assoc octets first (32 ∷ join_with_byte 32 (next ∷ others)))

adds_more : (b : Bool) (t : TokenValue) (ts : List TokenValue) (runs : List (List TokenValue)) → is_blank t.kind ≡ b → AddsRuns ts runs → AddsRuns (t ∷ ts) (cond b ([] ∷ runs) (onto_first t runs))
adds_more b t ts [] e adds = absurd adds
adds_more true t ts (run ∷ runs) e adds = (rw (e) adds.1, rw (e) adds.1)
adds_more false t ts (run ∷ runs) e adds =
    let front : t.octets ++ following false ts ≡ join_with_byte 32 (octets_of (t ∷ run) ∷ pieces runs)
    = ap (λ r. t.octets ++ r) adds.0 ∙ join_front t.octets (octets_of run) (pieces runs) in
    (rw (e) front, rw (e) (ap (λ r. 32 ∷ r) front))

adds_runs : (ts : List TokenValue) → AddsRuns ts (slice_split (λ token. is_blank token.kind) ts)
adds_runs [] = (refl, refl)
adds_runs (t ∷ ts) = adds_more (is_blank t.kind) t ts (slice_split (λ token. is_blank token.kind) ts) refl (adds_runs ts)

squeezed_blank : (t : TokenValue) (ts : List TokenValue) → is_blank t.kind ≡ true → squeezed_values (t ∷ ts) ≡ squeezed_values ts
squeezed_blank t ts e = rw (e) refl

squeezed_kept : (t : TokenValue) (ts : List TokenValue) → is_blank t.kind ≡ false → squeezed_values (t ∷ ts) ≡ t.octets ++ following false ts
squeezed_kept t ts e = rw (e) (by (slice_split (λ token. is_blank token.kind) ts) (adds_runs ts))
  where
    by : (runs : List (List TokenValue)) → AddsRuns ts runs → join_with_byte 32 (pieces (onto_first t runs)) ≡ t.octets ++ following false ts
    by [] adds = absurd adds
    by (run ∷ runs) adds = sym (ap (λ r. t.octets ++ r) adds.0 ∙ join_front t.octets (octets_of run) (pieces runs))

-- With what is made so far, the tokens that are left give the whole text. It is told whether there is a token before them, and whether they stand apart from it.
abbrev pub Squeezes : List ℕ → List ℕ → Bool → Bool → List TokenValue → Type 0
Squeezes whole made false has_space_before rest = (has_space_before ≡ false) × (made ++ squeezed_values rest ≡ whole)
Squeezes whole made true has_space_before rest = made ++ following has_space_before rest ≡ whole

pub Squeezes-blank : (whole made : List ℕ) (some has_space_before : Bool) (t : TokenValue) (rest : List TokenValue) → Squeezes whole made some has_space_before (t ∷ rest) → is_blank t.kind ≡ true → Squeezes whole made some some rest
Squeezes-blank whole made false has_space_before t rest s e = (refl, ap (λ r. made ++ r) (sym (squeezed_blank t rest e)) ∙ s.1)
Squeezes-blank whole made true has_space_before t rest s e = rw (e) at s

pub Squeezes-kept : (whole made new : List ℕ) (some has_space_before : Bool) (t : TokenValue) (rest : List TokenValue) → Squeezes whole made some has_space_before (t ∷ rest) → is_blank t.kind ≡ false
    → new ≡ made ++ (space has_space_before ++ t.octets) → Squeezes whole new true false rest
Squeezes-kept whole made new false has_space_before t rest s e new_is =
    let same : new ≡ made ++ t.octets = new_is ∙ ap (λ b. made ++ (space b ++ t.octets)) s.0 in
    ap (λ r. r ++ following false rest) same ∙ append_assoc made t.octets (following false rest) ∙ ap (λ r. made ++ r) (sym (squeezed_kept t rest e)) ∙ s.1
Squeezes-kept whole made new true has_space_before t rest s e new_is =
    let all : made ++ (space has_space_before ++ (t.octets ++ following false rest)) ≡ whole = rw (e) at s in
    ap (λ r. r ++ following false rest) new_is ∙ append_assoc made (space has_space_before ++ t.octets) (following false rest)
    ∙ ap (λ r. made ++ r) (append_assoc (space has_space_before) t.octets (following false rest)) ∙ all

pub Squeezes-end : (whole made : List ℕ) (some has_space_before : Bool) (rest : List TokenValue) → Squeezes whole made some has_space_before rest → rest ≡ [] → made ≡ whole
Squeezes-end whole made false has_space_before rest s end = sym (append-nil made) ∙ ap (λ ts. made ++ squeezed_values ts) (sym end) ∙ s.1
Squeezes-end whole made true has_space_before rest s end = sym (append-nil made) ∙ ap (λ ts. made ++ following has_space_before ts) (sym end) ∙ s
