-- The units of a comment's text are written as they are read.
use Rattle.std.proofs.Common.{◌≡◌, ℕ, ◌<◌, Bool, true, false, List, [], ◌∷◌, ◌++◌, length, map, refl, sym, ap, ◌∙◌, subst}
use Rattle.std.proofs.lemmas.Bool.{and_parts, both_ways}
use Rattle.std.specs.List.{AllByRecursion, list_all, flat_map}
use Rattle.std.specs.Str.{IsUtf8}
use Rattle.mail_wire.specs.Octets.{is_white}
use Rattle.mail_wire.specs.Spans.{Stops, IsSpan}
use Rattle.encoded_words.specs.declared.Unit.{Unit as CodeUnit}
use Rattle.encoded_words.specs.declared.units.Merging.{Merging}
use Rattle.encoded_words.specs.private.Merging.{IsMerging, done_values, all_units_then}
use Rattle.encoded_words.specs.private.CommentReading.{TakesFirst}
use Rattle.encoded_words.specs.private.Values.{value_of}
use Rattle.encoded_words.specs.Words.{UnitValue}
use Rattle.encoded_words.specs.Units.{with_text}
use Rattle.encoded_words.specs.CommentUnits.{TextItem, Plain, Pair, AreTextItems, item_spelling, is_white_item, CommentWord, word_items, AreCommentWords, HasCommentUnits}
use Rattle.encoded_words.specs.Folding.{AddsLines}
use Rattle.encoded_words.specs.Written.{WriteAll, IsWritable, AreWritable, WritesCommentText}
use Rattle.encoded_words.proofs.AddedUnits.{write_append}
use Rattle.encoded_words.proofs.AllUnits.{HasCommentUnits-some}
use Rattle.encoded_words.proofs.CommentReading.{following, ReadsComment, ReadsComment-start, ReadsComment-step, ReadsComment-taken, ReadsComment-end}
use Rattle.encoded_words.proofs.LineLemmas.{adds_none, adds_both, adds_as}
use Rattle.encoded_words.proofs.WritableUnits.{HasCommentUnits-writable}

writable_parts : (us vs : List UnitValue) → AreWritable (us ++ vs) → AreWritable us × AreWritable vs
writable_parts [] vs all = (tt, all)
writable_parts (u ∷ us) vs all = let more = writable_parts us vs all.1 in ((all.0, more.0), more.1)

-- words of a text that doesn't begin with white
record HasWords (text : List ℕ) : Type 0 where
  words : List CommentWord
  are : AreCommentWords words
  items : AreTextItems (flat_map word_items words)
  whole : text ≡ flat_map item_spelling (flat_map word_items words)

words_there : (text : List ℕ) → Stops is_white text → HasWords text
words_there text stops = let has = (HasCommentUnits-some text).1 in by has.lead has.words has.white has.are_words has.are_items has.whole
  where
    by : (lead : List TextItem) (words : List CommentWord) → list_all is_white_item lead ≡ true → AreCommentWords words → AreTextItems (lead ++ flat_map word_items words)
        → text ≡ flat_map item_spelling (lead ++ flat_map word_items words) → HasWords text
    by [] words white are items whole = record { words = words; are = are; items = items; whole = whole }
    by (Plain x ∷ lead) words white are items whole =
        absurd (both_ways (is_white x) (subst (Stops is_white) whole stops) (and_parts (is_white x) (list_all is_white_item lead) white).0)
    by (Pair x ∷ lead) words white are items whole = cc white

-- the units that are done can be written
pub done_writable : (text run rest : List ℕ) (taken : List UnitValue) (m : Merging) (was : Bool) → IsUtf8 text → ReadsComment text taken m run was rest → AreWritable (done_values m)
done_writable text run rest taken m was utf8 reads =
    let has = words_there rest reads.stops in
    let all = HasCommentUnits-writable text (taken ++ all_units_then m (following run was has.words)) utf8 (reads.units has.words has.are has.items has.whole) in
    (writable_parts (done_values m) (with_text m.text.items (following run was has.words)) (writable_parts taken (all_units_then m (following run was has.words)) all).1).0

-- the units that were taken away were written
pub record WritesSoFar (text : List ℕ) (m : Merging) (run : List ℕ) (was : Bool) (rest old new : List ℕ) : Type 0 where
  pub taken : List UnitValue
  pub reads : ReadsComment text taken m run was rest
  pub adds : AddsLines (WriteAll taken) old new

pub WritesSoFar-start : (text lead rest : List ℕ) (m : Merging) (old : List ℕ) → IsSpan is_white text lead rest → IsMerging m [] [] → WritesSoFar text m [] false rest old old
WritesSoFar-start text lead rest m old span empty = record { taken = []; reads = ReadsComment-start text lead rest m span empty; adds = adds_none old refl }

-- more units after those that were written
more_written : (us vs : List UnitValue) (old mid new : List ℕ) → AddsLines (WriteAll us) old mid → AddsLines (WriteAll vs) mid new → AddsLines (WriteAll (us ++ vs)) old new
more_written us vs old mid new a b = adds_both (write_append us vs) a b

pub step_writable : (text run rest next_run next_rest : List ℕ) (m next : Merging) (was encoded : Bool) (old mid : List ℕ) → IsUtf8 text → WritesSoFar text m run was rest old mid → 0 < length rest
    → TakesFirst m next run was rest next_run encoded next_rest → (units : List CodeUnit) → map value_of units ≡ done_values next → AreWritable (map value_of units)
step_writable text run rest next_run next_rest m next was encoded old mid utf8 w some one units e =
    rw e (done_writable text next_run next_rest w.taken next encoded utf8 (ReadsComment-step text run rest next_run next_rest w.taken m next was encoded w.reads some one))

pub WritesSoFar-step : (text run rest next_run next_rest : List ℕ) (m next left : Merging) (was encoded : Bool) (old mid new : List ℕ) → WritesSoFar text m run was rest old mid → 0 < length rest
    → TakesFirst m next run was rest next_run encoded next_rest → (units : List CodeUnit) → map value_of units ≡ done_values next → IsMerging left [] next.text.items
    → AddsLines (WriteAll (map value_of units)) mid new → WritesSoFar text left next_run encoded next_rest old new
WritesSoFar-step text run rest next_run next_rest m next left was encoded old mid new w some one units e left_is put = record {
  taken = w.taken ++ done_values next;
  reads = ReadsComment-taken text next_run next_rest w.taken next left encoded (ReadsComment-step text run rest next_run next_rest w.taken m next was encoded w.reads some one) left_is;
  adds = more_written w.taken (done_values next) old mid new w.adds (subst (λ us. AddsLines (WriteAll us) mid new) e put);
}

-- all units of the text
pub last_writable : (text run rest : List ℕ) (m end : Merging) (was : Bool) (old mid : List ℕ) → IsUtf8 text → WritesSoFar text m run was rest old mid → length rest ≡ 0
    → IsMerging end (done_values m ++ with_text m.text.items []) [] → AreWritable (done_values end)
last_writable text run rest m end was old mid utf8 w none end_is =
    (writable_parts w.taken (done_values end) (HasCommentUnits-writable text (w.taken ++ done_values end) utf8 (ReadsComment-end text run rest w.taken m end was w.reads none end_is))).1

pub WritesSoFar-end : (text run rest : List ℕ) (m end : Merging) (was : Bool) (old mid new : List ℕ) → WritesSoFar text m run was rest old mid → length rest ≡ 0
    → IsMerging end (done_values m ++ with_text m.text.items []) [] → AddsLines (WriteAll (done_values end)) mid new → AddsLines (WritesCommentText text) old new
WritesSoFar-end text run rest m end was old mid new w none end_is put =
    let units : List UnitValue = w.taken ++ done_values end in
    let has : HasCommentUnits text units = ReadsComment-end text run rest w.taken m end was w.reads none end_is in
    adds_as (λ pieces writes. (units, has, writes)) (more_written w.taken (done_values end) old mid new w.adds put)
