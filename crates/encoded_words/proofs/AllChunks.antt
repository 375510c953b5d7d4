-- Every text has encoded words.
use Rattle.std.proofs.Common.{◌≡◌, ℕ, ◌<◌, ◌≤◌, ◌⊎◌, inl, inr, zero, suc, List, [], ◌∷◌, ◌++◌, length, map, take, drop, get_or, refl, sym, ap, ◌∙◌, subst, arith}
use Rattle.std.proofs.lemmas.Bool.{cases_lt}
use Rattle.std.proofs.lemmas.List.{append-nil, take-append-drop}
use Rattle.std.proofs.lemmas.Str.{IsCharBoundary-start, IsUtf8-drop}
use Rattle.std.specs.List.{concat}
use Rattle.std.specs.Str.{IsUtf8, IsCharBoundary}
use Rattle.encoded_words.specs.WrittenWords.{written_word, IsChunk, AreChunks, AreWordsOf}
use Rattle.encoded_words.proofs.Chunks.{IsChunk-take, chunk_shortens}

decide_boundary : (bs : List ℕ) (i : ℕ) → IsCharBoundary bs i ⊎ ¬ (IsCharBoundary bs i)
decide_boundary bs i = elim (cases_lt (length bs) i) [
  | inl past ↦ inr (λ at. omega (arith, past, at.0))
  | inr within ↦ elim (cases_lt i (length bs)) [
    | inr end ↦ inl (within, λ l a. absurd (omega (arith, l, end)))
    | inl before ↦ elim (cases_lt (get_or bs i 0) 128) [
      | inl ascii ↦ inl (within, λ l a. absurd (omega (arith, ascii, a)))
      | inr other ↦ elim (cases_lt (get_or bs i 0) 192) [
        | inl later ↦ inr (λ at. omega (arith, later, at.1 before other))
        | inr first ↦ inl (within, λ l a. first)
      ]
    ]
  ]
]

-- the last boundary up to a place
record LastBoundary (bs : List ℕ) (n : ℕ) : Type 0 where
  at : ℕ
  bound : at ≤ n
  boundary : IsCharBoundary bs at
  last : (i : ℕ) → at < i → i ≤ n → ¬ (IsCharBoundary bs i)

last_boundary : (bs : List ℕ) (n : ℕ) → IsUtf8 bs → LastBoundary bs n
last_boundary bs zero u = record { at = 0; bound = omega arith; boundary = IsCharBoundary-start bs u; last = λ i l h. absurd (omega (arith, l, h)) }
last_boundary bs (suc n) u = elim (decide_boundary bs (suc n)) [
  | inl is ↦ record { at = suc n; bound = omega arith; boundary = is; last = λ i l h. absurd (omega (arith, l, h)) }
  | inr none ↦ let b = last_boundary bs n u in record { at = b.at; bound = further b.at b.bound; boundary = b.boundary; last = λ i l h. later i none (b.last i l) h }
]
  where
    further : (at : ℕ) → at ≤ n → at ≤ suc n
    further at h = omega (arith, h)

    later : (i : ℕ) → ¬ (IsCharBoundary bs (suc n)) → (i ≤ n → ¬ (IsCharBoundary bs i)) → i ≤ suc n → ¬ (IsCharBoundary bs i)
    later i none below h = elim (cases_lt n i) [
      | inl past ↦ let same : i ≡ suc n = omega (arith, past, h) in subst (λ k. ¬ (IsCharBoundary bs k)) (sym same) none
      | inr up_to ↦ below up_to
    ]

chunks_of : (n : ℕ) (text : List ℕ) → length text ≤ n → IsUtf8 text → (chunks : List (List ℕ)) × AreChunks chunks [] × (text ≡ concat chunks)
chunks_of n [] small u = ([], tt, refl)
chunks_of zero (x ∷ text) small u = absurd (omega (arith, small))
chunks_of (suc n) (x ∷ text) small u =
    let all : List ℕ = x ∷ text in
    let b = last_boundary all 45 u in
    let is : IsChunk (take b.at all) (drop b.at all) = IsChunk-take all b.at u (omega arith) b.bound b.boundary b.last in
    let whole : all ≡ take b.at all ++ drop b.at all = sym (take-append-drop b.at all) in
    let shorter = chunk_shortens all (take b.at all) (drop b.at all) whole is in
    let more = chunks_of n (drop b.at all) (omega (arith, small, shorter)) (IsUtf8-drop all b.at u b.boundary) in
    (take b.at all ∷ more.0, (subst (IsChunk (take b.at all)) (more.2 ∙ sym (append-nil (concat more.0))) is, more.1), whole ∙ ap (λ t. take b.at all ++ t) more.2)

pub AreWordsOf-some : (text : List ℕ) → IsUtf8 text → (words : List (List ℕ)) × AreWordsOf text words
AreWordsOf-some text u =
    let c = chunks_of (length text) text (omega arith) u in
    (map written_word c.0, record { chunks = c.0; are_chunks = c.1; whole = c.2 ∙ sym (append-nil (concat c.0)); spelled = refl })
