-- The words of a body, written one segment after another.
use Rattle.std.proofs.Common.{◌≡◌, true, not, ℕ, ◌<◌, List, [], ◌∷◌, ◌++◌, length, sym, ap, ◌∙◌, subst, arith}
use Rattle.std.proofs.lemmas.Grind.{flat_map-append}
use Rattle.std.proofs.lemmas.List.{append-nil, length-append, nil_from_length}
use Rattle.std.specs.List.{flat_map, list_all}
use Rattle.std.specs.Str.{IsUtf8}
use Rattle.mail_wire.specs.Folds.{IsFolded, unfolded}
use Rattle.mail_wire.specs.Octets.{is_line_end}
use Rattle.mail_wire.specs.Spans.{IsSpan}
use Rattle.mail_wire.proofs.Folded.{IsFolded-plain, unfolded-folded}
use Rattle.mail_wire.proofs.SpanLemmas.{span_once}
use Rattle.encoded_words.specs.Folding.{AddsWordLines, made_body}
use Rattle.field_downgrade.specs.declared.words.Stretch.{Stretch}
use Rattle.field_downgrade.specs.Words.{Word, AreWords, AreUtf8, HasWords, word_octets, is_gap_octet, last_run, plain_text}
use Rattle.field_downgrade.specs.Layout.{CutsLeft, CutsRight, begins_high, first_side, last_side, copied_pieces}
use Rattle.field_downgrade.specs.private.Steps.{NeedsRun, CanWrite}
use Rattle.field_downgrade.specs.private.Stretches.{IsStretch, SplitsLow, IsSplitLow, SplitsFirst, IsSplitCore, piece_where, CanWriteStretches, WritesStretches, WritesUnstructuredBody}
use Rattle.field_downgrade.proofs.AllWords.{HasWords-some}
use Rattle.field_downgrade.proofs.LineLemmas.{gap_run, copied_plain, copied_piece}
use Rattle.field_downgrade.proofs.OneLayout.{words_first}
use Rattle.field_downgrade.proofs.Pieces.{AreWords-front, AreWords-back, keeps_all}
use Rattle.field_downgrade.proofs.StretchLemmas.{no_words, some_words}
use Rattle.field_downgrade.proofs.Writing.{needs_left, needs_right, text_utf8, WritesSegment-from, CutsLeft-at, CutsRight-at, WritesOn, WritesOn-start, WritesOn-step, WritesOn-begins, WritesOn-end, CanWrite-from}

-- ---- a segment

-- a core without line ends is its own text
pub whole_text : (left core right : List ℕ) → length left ≡ 0 → length right ≡ 0 → list_all (λ x. not (is_line_end x)) core ≡ true → (left ++ unfolded core) ++ right ≡ core
whole_text left core right no_left no_right plain =
    rw (nil_from_length left no_left, nil_from_length right no_right) (append-nil (unfolded core) ∙ unfolded-folded core (IsFolded-plain core plain) ∙ keeps_all core plain)

core_are : (before core copied : List Word) → CanWrite before core copied → AreWords core
core_are before core copied can = AreWords-front core copied (AreWords-back before (core ++ copied) can.are_words)

copied_are : (before core copied : List Word) → CanWrite before core copied → AreWords copied
copied_are before core copied can = AreWords-back core copied (AreWords-back before (core ++ copied) can.are_words)

-- the run beside a core
run_is : (s : Stretch) (words : List Word) (run : List ℕ) → IsStretch s words → run ≡ unfolded s.gap.now → run ≡ last_run words
run_is s words run is e = e ∙ ap unfolded is.gap ∙ gap_run words

pub left_needs : (before core copied : Stretch) (run : List ℕ) → CanWriteStretches before core copied → run ≡ unfolded before.gap.now → NeedsRun before.last run
left_needs before core copied run w e = rw (w.before_is.last, run_is before w.before_words run w.before_is e) (needs_left w.before_words w.core_words w.copied_words w.can)

pub right_needs : (before core copied : Stretch) (run : List ℕ) → CanWriteStretches before core copied → run ≡ unfolded core.gap.now → NeedsRun copied.first run
right_needs before core copied run w e = rw (w.copied_is.first, run_is core w.core_words run w.core_is e) (needs_right w.before_words w.core_words w.copied_words w.can)

core_text : (core : Stretch) (words : List Word) → IsStretch core words → AreWords words → unfolded core.octets.now ≡ plain_text words
core_text core words is are = ap unfolded is.octets ∙ copied_plain words are

pub segment_utf8 : (before core copied : Stretch) (left_run right_run left right : List ℕ) (white next : ℕ) → CanWriteStretches before core copied → left_run ≡ unfolded before.gap.now → right_run ≡ unfolded core.gap.now
    → CutsLeft before.last left_run left white → CutsRight copied.first right_run right next → IsUtf8 ((left ++ unfolded core.octets.now) ++ right)
segment_utf8 before core copied left_run right_run left right white next w left_is right_is cuts_left cuts_right =
    let l = CutsLeft-at before.last (last_side w.before_words) left_run (last_run w.before_words) left white w.before_is.last (run_is before w.before_words left_run w.before_is left_is) cuts_left in
    let r = CutsRight-at copied.first (first_side w.copied_words) right_run (last_run w.core_words) right next w.copied_is.first (run_is core w.core_words right_run w.core_is right_is) cuts_right in
    let same : unfolded core.octets.now ≡ plain_text w.core_words = core_text core w.core_words w.core_is (core_are w.before_words w.core_words w.copied_words w.can) in
    subst (λ t. IsUtf8 ((left ++ t) ++ right)) (sym same) (text_utf8 w.before_words w.core_words w.copied_words left right white next w.can l r)

pub segment_written : (before core copied : Stretch) (left_run right_run left right old mid new : List ℕ) (white next : ℕ) → left_run ≡ unfolded before.gap.now → right_run ≡ unfolded core.gap.now
    → CutsLeft before.last left_run left white → CutsRight copied.first right_run right next → AddsWordLines ((left ++ unfolded core.octets.now) ++ right) white old mid
    → new ≡ mid ++ made_body (piece_where next copied.octets.now) → WritesStretches before core copied old new
segment_written before core copied left_run right_run left right old mid new white next left_is right_is cuts_left cuts_right adds new_is = λ bs cs ds b c d can.
    let l = CutsLeft-at before.last (last_side bs) left_run (last_run bs) left white b.last (run_is before bs left_run b left_is) cuts_left in
    let r = CutsRight-at copied.first (first_side ds) right_run (last_run cs) right next d.first (run_is core cs right_run c right_is) cuts_right in
    let text : List ℕ = (left ++ unfolded core.octets.now) ++ right in
    let text_is : text ≡ (left ++ plain_text cs) ++ right = ap (λ t. (left ++ t) ++ right) (core_text core cs c (core_are bs cs ds can)) in
    let piece : piece_where next copied.octets.now ≡ copied_pieces next ds = ap (piece_where next) d.octets ∙ copied_piece next ds (copied_are bs cs ds can) in
    WritesSegment-from bs cs ds left right text old mid new white next l r text_is adds (new_is ∙ ap (λ p. mid ++ made_body p) piece)

-- ---- all segments

-- what is put are the lines of the words before those that are left
pub record WritesSoFar (body start made : List ℕ) (copied : Stretch) (rest : List ℕ) : Type 0 where
  pub words : List Word
  pub before : List Word
  pub left : List Word
  pub has : HasWords body words
  pub utf8 : AreUtf8 words
  pub is : IsStretch copied before
  pub rest_is : rest ≡ flat_map word_octets left
  pub on : WritesOn words start made before left

pub body_start : (body lead all start made following : List ℕ) (copied : Stretch) → IsFolded body → IsUtf8 body → IsSpan is_gap_octet body lead all → SplitsLow all copied following
    → made ≡ start ++ made_body (piece_where 32 copied.octets.now) → WritesSoFar body start made copied following
body_start body lead all start made following copied folded utf8 span splits made_is =
    let found = HasWords-some body folded utf8 in
    let has = found.1 in
    let same = span_once is_gap_octet lead has.lead all (flat_map word_octets found.0) span.passes has.is_lead.octets span.stops (words_first found.0 has.are_words) (sym span.whole ∙ has.whole) in
    let s = splits found.0 (record { are = has.are_words; whole = same.1 }) in
    let are : AreWords s.copied = AreWords-front s.copied s.others (subst AreWords s.splits.whole has.are_words) in
    let piece : piece_where 32 copied.octets.now ≡ copied_pieces 32 s.copied = ap (piece_where 32) s.is.octets ∙ copied_piece 32 s.copied are in
    record {
      words = found.0;
      before = s.copied;
      left = s.others;
      has = has;
      utf8 = found.2;
      is = s.is;
      rest_is = s.rest_is;
      on = WritesOn-start found.0 s.copied s.others start made has.are_words found.2 s.splits (made_is ∙ ap (λ p. start ++ made_body p) piece);
    }

-- what the next segment is
pub record Turn (body start made : List ℕ) (copied core next_copied : Stretch) (rest following next : List ℕ) : Type 0 where
  pub so : WritesSoFar body start made copied rest
  pub split : IsSplitCore so.left core following
  pub low : IsSplitLow split.others next_copied next
  pub can : CanWrite so.before split.core_words low.copied

pub turn : (body start made : List ℕ) (copied core next_copied : Stretch) (rest following next : List ℕ) → WritesSoFar body start made copied rest → 0 < length rest → SplitsFirst rest core following
    → SplitsLow following next_copied next → Turn body start made copied core next_copied rest following next
turn body start made copied core next_copied rest following next so some first low =
    let are : AreWords so.left = AreWords-back so.before so.left so.on.are in
    let s = first so.left (record { are = are; whole = so.rest_is }) (some_words so.left rest so.rest_is some) (WritesOn-begins so.words so.before so.left start made so.on) in
    let others : AreWords s.others = AreWords-back s.core_words s.others (subst AreWords s.splits.whole are) in
    let l = low s.others (record { are = others; whole = s.rest_is }) in
    record { so = so; split = s; low = l; can = CanWrite-from so.words so.before so.left s.core_words s.others l.copied l.others start made so.on s.splits l.splits }

pub turn_can : (body start made : List ℕ) (copied core next_copied : Stretch) (rest following next : List ℕ) → Turn body start made copied core next_copied rest following next → CanWriteStretches copied core next_copied
turn_can body start made copied core next_copied rest following next t =
    record { before_words = t.so.before; core_words = t.split.core_words; copied_words = t.low.copied; before_is = t.so.is; core_is = t.split.is; copied_is = t.low.is; can = t.can }

pub turn_next : (body start made new : List ℕ) (copied core next_copied : Stretch) (rest following next : List ℕ) → Turn body start made copied core next_copied rest following next
    → WritesStretches copied core next_copied made new → WritesSoFar body start new next_copied next
turn_next body start made new copied core next_copied rest following next t writes =
    let segment = writes t.so.before t.split.core_words t.low.copied t.so.is t.split.is t.low.is t.can in
    record {
      words = t.so.words;
      before = t.low.copied;
      left = t.low.others;
      has = t.so.has;
      utf8 = t.so.utf8;
      is = t.low.is;
      rest_is = t.low.rest_is;
      on = WritesOn-step t.so.words t.so.before t.so.left t.split.core_words t.split.others t.low.copied t.low.others start made new t.so.on t.split.splits t.low.splits segment;
    }

core_some : (core : List Word) → begins_high core ≡ true → AreWords core → 0 < length (flat_map word_octets core)
core_some [] begins are = cc begins
core_some (w ∷ core) begins are =
    let some = are.0.some in omega (arith, length-append (w.octets ++ w.gap) (flat_map word_octets core), length-append w.octets w.gap)

pub turn_smaller : (body start made : List ℕ) (copied core next_copied : Stretch) (rest following next : List ℕ) → Turn body start made copied core next_copied rest following next → length next < length rest
turn_smaller body start made copied core next_copied rest following next t =
    let c : List Word = t.split.core_words in
    let some = core_some c t.split.splits.begins (core_are t.so.before c t.low.copied t.can) in
    let first : rest ≡ flat_map word_octets c ++ following
    = t.so.rest_is ∙ ap (flat_map word_octets) t.split.splits.whole ∙ flat_map-append word_octets c t.split.others ∙ ap (λ r. flat_map word_octets c ++ r) (sym t.split.rest_is) in
    let second : following ≡ flat_map word_octets t.low.copied ++ next
    = t.split.rest_is ∙ ap (flat_map word_octets) t.low.splits.whole ∙ flat_map-append word_octets t.low.copied t.low.others ∙ ap (λ r. flat_map word_octets t.low.copied ++ r) (sym t.low.rest_is) in
    omega (arith, some, ap length first, ap length second, length-append (flat_map word_octets c) following, length-append (flat_map word_octets t.low.copied) next)

pub body_end : (body start made : List ℕ) (copied : Stretch) (rest : List ℕ) → WritesSoFar body start made copied rest → length rest ≡ 0 → WritesUnstructuredBody body start made
body_end body start made copied rest so none =
    let left : so.left ≡ [] = no_words so.left rest (AreWords-back so.before so.left so.on.are) so.rest_is none in
    record { words = so.words; has = so.has; utf8 = so.utf8; writes = WritesOn-end so.words so.before so.left start made so.on left }
