-- Every field that can be rewritten has a served form.
use Rattle.std.proofs.Common.{◌≡◌, ℕ, ◌≤◌, Bool, true, false, not, inl, inr, zero, suc, List, [], ◌∷◌, ◌++◌, length, refl, sym, ap, ◌∙◌, arith}
use Rattle.std.proofs.lemmas.Bool.{and_parts, and_from, both_ways, cases_Bool, not-true}
use Rattle.std.specs.List.{list_all}
use Rattle.mail_wire.specs.Octets.{is_ascii}
use Rattle.encoded_words.specs.Folding.{word_pieces, made_body}
use Rattle.encoded_words.proofs.AllChunks.{AreWordsOf-some}
use Rattle.utf8_fields.specs.Parts.{FieldParts, IsField, field_octets}
use Rattle.field_downgrade.specs.declared.segments.Side.{Side}
use Rattle.field_downgrade.specs.declared.segments.Side.TheVariants.{Edge, Encoded, Plain}
use Rattle.field_downgrade.specs.Words.{Word, plain_text, last_run, is_high_word}
use Rattle.field_downgrade.specs.Layout.{CutsLeft, CutsRight, IsCopied, begins_high, ends_high, first_side, last_side, copied_pieces, made_of}
use Rattle.field_downgrade.specs.private.Steps.{NeedsRun, SplitsCopied, SplitsCore, BeginsCore, BeginsEncoded, CanWrite, WritesSegment, WritesWords, MakesUnstructured}
use Rattle.field_downgrade.specs.Stands.{IsHighField}
use Rattle.field_downgrade.specs.Message.{IsServedField}
use Rattle.field_downgrade.proofs.SegmentLemmas.{NotEncoded, EndsHigh}
use Rattle.field_downgrade.proofs.Writing.{WritesOn, WritesOn-start, WritesOn-step, WritesOn-begins, WritesOn-end, WritesSegment-from, CanWrite-from, needs_left, needs_right, text_utf8, shorter}
use Rattle.field_downgrade.proofs.Rewriting.{IsServed-words, IsServed-other}
use Rattle.field_downgrade.proofs.AllStructured.{structured_some, decide_words}
use Rattle.field_downgrade.proofs.NamingLemmas.{IsServed-ascii}
use Rattle.field_downgrade.proofs.AllWords.{HasWords-some}

-- The words before the first high one.
split_copied : (ws : List Word) → (copied : List Word) × (rest : List Word) × SplitsCopied ws copied rest
split_copied [] = ([], [], record { whole = refl; is_copied = refl; begins = tt })
split_copied (w ∷ ws) = elim (cases_Bool (is_high_word w)) [
  | inl high ↦ ([], w ∷ ws, record { whole = refl; is_copied = refl; begins = high })
  | inr low ↦
      let s = split_copied ws in
      (w ∷ s.0, s.1, record { whole = ap (λ vs. w ∷ vs) s.2.whole; is_copied = and_from (not (is_high_word w)) (list_all (λ (v : Word). not (is_high_word v)) s.0) (ap not low) s.2.is_copied; begins = s.2.begins })
]

-- The words up to the last high one before an encoded word.
record HasCore (ws : List Word) : Type 0 where
  core : List Word
  low : List Word
  after : List Word
  whole : ws ≡ core ++ (low ++ after)
  plain : NotEncoded core
  ends : EndsHigh core
  is_low : IsCopied low
  stops : BeginsEncoded after

core_more : (w : Word) (ws core low after : List Word) → w.is_encoded ≡ false → ws ≡ core ++ (low ++ after) → NotEncoded core → EndsHigh core → IsCopied low → BeginsEncoded after → HasCore (w ∷ ws)
core_more w ws [] low after plain whole all ends is_low stops = elim (cases_Bool (is_high_word w)) [
  | inl high ↦ record { core = w ∷ []; low = low; after = after; whole = ap (λ vs. w ∷ vs) whole; plain = rw plain refl; ends = high; is_low = is_low; stops = stops }
  | inr w_low ↦ record {
    core = [];
    low = w ∷ low;
    after = after;
    whole = ap (λ vs. w ∷ vs) whole;
    plain = refl;
    ends = tt;
    is_low = and_from (not (is_high_word w)) (list_all (λ (v : Word). not (is_high_word v)) low) (ap not w_low) is_low;
    stops = stops;
  }
]
core_more w ws (k ∷ core) low after plain whole all ends is_low stops = record {
  core = w ∷ k ∷ core;
  low = low;
  after = after;
  whole = ap (λ vs. w ∷ vs) whole;
  plain = and_from (not w.is_encoded) (list_all (λ (v : Word). not v.is_encoded) (k ∷ core)) (ap not plain) all;
  ends = ends;
  is_low = is_low;
  stops = stops;
}

core_of : (ws : List Word) → HasCore ws
core_of [] = record { core = []; low = []; after = []; whole = refl; plain = refl; ends = tt; is_low = refl; stops = tt }
core_of (w ∷ ws) = elim (cases_Bool w.is_encoded) [
  | inl encoded ↦ record { core = []; low = []; after = w ∷ ws; whole = refl; plain = refl; ends = tt; is_low = refl; stops = encoded }
  | inr plain ↦ let c = core_of ws in core_more w ws c.core c.low c.after plain c.whole c.plain c.ends c.is_low c.stops
]

pub core_ends : (w : Word) (ws core low after : List Word) → BeginsCore (w ∷ ws) → w ∷ ws ≡ core ++ (low ++ after) → EndsHigh core → IsCopied low → BeginsEncoded after
    → (begins_high core ≡ true) × (ends_high core ≡ true)
core_ends w ws [] [] [] begins whole ends low stops = cc whole
core_ends w ws [] [] (x ∷ after) begins whole ends low stops =
    let same : w ≡ x = cc whole in
    absurd (both_ways x.is_encoded (ap (λ (v : Word). v.is_encoded) (sym same) ∙ begins.1) stops)
core_ends w ws [] (l ∷ low) after begins whole ends is_low stops =
    let same : w ≡ l = cc whole in
    let l_low = (and_parts (not (is_high_word l)) (list_all (λ (v : Word). not (is_high_word v)) low) is_low).0 in
    absurd (both_ways (is_high_word l) (not-true (is_high_word l) l_low) (ap is_high_word (sym same) ∙ begins.0))
core_ends w ws (k ∷ core) low after begins whole ends is_low stops = let same : w ≡ k = cc whole in (ap is_high_word (sym same) ∙ begins.0, ends)

split_core : (w : Word) (ws : List Word) → BeginsCore (w ∷ ws) → (core : List Word) × (rest : List Word) × SplitsCore (w ∷ ws) core rest
split_core w ws begins =
    let c = core_of (w ∷ ws) in
    let high = core_ends w ws c.core c.low c.after begins c.whole c.ends c.is_low c.stops in
    (c.core, c.low ++ c.after, record { low = c.low; after = c.after; whole = c.whole; begins = high.0; ends = high.1; plain = c.plain; rest_is = refl; is_low = c.is_low; stops = c.stops })

-- The parts of the runs beside a core.
cut_left : (side : Side) (run : List ℕ) → NeedsRun side run → (part : List ℕ) × (white : ℕ) × CutsLeft side run part white
cut_left Edge run needs = ([], 32, (refl, refl))
cut_left Encoded run needs = (run, 32, (refl, refl))
cut_left Plain [] needs = absurd (omega (arith, needs))
cut_left Plain (x ∷ run) needs = (run, x, refl)

cut_last : (x : ℕ) (xs : List ℕ) → (part : List ℕ) × (white : ℕ) × (x ∷ xs ≡ part ++ white ∷ [])
cut_last x [] = ([], x, refl)
cut_last x (y ∷ xs) = let c = cut_last y xs in (x ∷ c.0, c.1, ap (λ t. x ∷ t) c.2)

cut_right : (side : Side) (run : List ℕ) → NeedsRun side run → (part : List ℕ) × (white : ℕ) × CutsRight side run part white
cut_right Edge run needs = ([], 32, (refl, refl))
cut_right Encoded run needs = (run, 32, (refl, refl))
cut_right Plain [] needs = absurd (omega (arith, needs))
cut_right Plain (x ∷ run) needs = cut_last x run

segment_lines : (before core copied : List Word) (old : List ℕ) → CanWrite before core copied → (new : List ℕ) × WritesSegment before core copied old new
segment_lines before core copied old can =
    let left = cut_left (last_side before) (last_run before) (needs_left before core copied can) in
    let right = cut_right (first_side copied) (last_run core) (needs_right before core copied can) in
    let text : List ℕ = (left.0 ++ plain_text core) ++ right.0 in
    let words = AreWordsOf-some text (text_utf8 before core copied left.0 right.0 left.1 right.1 can left.2 right.2) in
    let mid : List ℕ = old ++ made_body (word_pieces left.1 words.0) in
    let new : List ℕ = mid ++ made_body (copied_pieces right.1 copied) in (
      new,
      WritesSegment-from before core copied left.0 right.0 text old mid new left.1 right.1 left.2 right.2 refl (record { words = words.0; are_words = words.1; added = refl }) refl,
    )

more_lines : (n : ℕ) (words : List Word) (start made : List ℕ) (copied rest : List Word) → length rest ≤ n → WritesOn words start made copied rest → (new : List ℕ) × WritesWords words start new
more_lines n words start made copied [] small on = (made, WritesOn-end words copied [] start made on refl)
more_lines zero words start made copied (w ∷ rest) small on = absurd (omega (arith, small))
more_lines (suc n) words start made copied (w ∷ rest) small on =
    let core = split_core w rest (WritesOn-begins words copied (w ∷ rest) start made on) in
    let next = split_copied core.1 in
    let lines = segment_lines copied core.0 next.0 made (CanWrite-from words copied (w ∷ rest) core.0 core.1 next.0 next.1 start made on core.2 next.2) in
    more_lines n words start lines.0 next.0 next.1 (omega (arith, small, shorter (w ∷ rest) core.0 core.1 next.0 next.1 core.2 next.2))
    (WritesOn-step words copied (w ∷ rest) core.0 core.1 next.0 next.1 start made lines.0 on core.2 next.2 lines.1)

-- the layout of an unstructured field
unstructured_some : (octets : List ℕ) (f : FieldParts) → IsHighField octets f → (made : List ℕ) × MakesUnstructured f made
unstructured_some octets f high =
    let words = HasWords-some f.body high.is_field.body high.is_field.utf8 in
    let copied = split_copied words.0 in
    let first : List ℕ = made_body (copied_pieces 32 copied.0) in
    let lines = more_lines (length copied.1) words.0 [] first copied.0 copied.1 (omega arith) (WritesOn-start words.0 copied.0 copied.1 [] first words.1.are_words words.2 copied.2 refl) in
    (field_octets (made_of f lines.1.pieces), record { words = words.0; pieces = lines.1.pieces; has_words = words.1; are_utf8 = words.2; have_pieces = lines.1.have; made_is = refl })

pub IsServed-some : (open_global : Bool) (octets : List ℕ) → IsField octets → (made : List ℕ) × IsServedField open_global octets made
IsServed-some open_global octets is_any = elim (cases_Bool (list_all is_ascii octets)) [
  | inl ascii ↦ IsServed-ascii open_global octets is_any ascii
  | inr other ↦
      let f = is_any.parts in
      let high : IsHighField octets f = record { is_field = is_any.has_parts; high = other } in
      elim (decide_words f) [
        | inl keeps ↦ let made = unstructured_some octets f high in (made.0, IsServed-words open_global octets made.0 f high keeps made.1)
        | inr other ↦ let g = structured_some open_global octets f high other in (field_octets g.0, IsServed-other open_global octets (field_octets g.0) f g.0 high other g.1 refl)
      ]
]
