-- The words of a body, found one after another.
use Rattle.std.proofs.Common.{◌≡◌, ℕ, ◌<◌, Bool, true, false, not, List, [], ◌∷◌, ◌++◌, length, refl, sym, ap, ◌∙◌, subst, arith}
use Rattle.std.proofs.lemmas.Bool.{and_parts, not-true}
use Rattle.std.proofs.lemmas.Grind.{flat_map-append}
use Rattle.std.proofs.lemmas.List.{append_assoc, length-append}
use Rattle.std.specs.List.{list_all, flat_map}
use Rattle.mail_wire.specs.Octets.{is_ascii}
use Rattle.mail_wire.specs.Spans.{IsSpan}
use Rattle.mail_wire.proofs.AllLemmas.{pass-append}
use Rattle.mail_wire.proofs.SpanLemmas.{span_once}
use Rattle.field_downgrade.specs.declared.segments.Side.{Side}
use Rattle.field_downgrade.specs.declared.segments.Side.TheVariants.{Edge, Encoded, Plain}
use Rattle.field_downgrade.specs.declared.words.Stretch.{Stretch}
use Rattle.field_downgrade.specs.Words.{Word, AreWords, TellsEncoded, word_octets, is_word_octet, is_gap_octet, is_high_word, copied_octets}
use Rattle.field_downgrade.specs.Layout.{IsCopied, side_of, first_side}
use Rattle.field_downgrade.specs.private.Steps.{BeginsCore, BeginsHigh, BeginsEncoded}
use Rattle.field_downgrade.specs.private.Stretches.{last_gap, first_where, TellsSide, IsStretch, StandIn, IsSplitLow, IsSplitCore}
use Rattle.field_downgrade.proofs.AllLayouts.{core_ends}
use Rattle.field_downgrade.proofs.LineLemmas.{last_gap-push, last_side-push, copied-push, words_whole}
use Rattle.field_downgrade.proofs.OneLayout.{gap_first, gap_none, words_first, tells_once}
use Rattle.field_downgrade.proofs.Pieces.{AreWords-back}
use Rattle.field_downgrade.proofs.SegmentLemmas.{NotEncoded, EndsHigh, EndsHigh-push}

-- ---- the next word

-- what is cut from octets that begin with a word
pub record IsNext (w : Word) (ws : List Word) (word following gap next : List ℕ) : Type 0 where
  pub word_is : word ≡ w.octets
  pub following_is : following ≡ w.gap ++ flat_map word_octets ws
  pub gap_is : gap ≡ w.gap
  pub next_is : next ≡ flat_map word_octets ws

next_word : (w : Word) (ws : List Word) (rest word following gap next : List ℕ) → AreWords (w ∷ ws) → rest ≡ flat_map word_octets (w ∷ ws) → IsSpan is_word_octet rest word following → IsSpan is_gap_octet following gap next
    → IsNext w ws word following gap next
next_word w ws rest word following gap next are is words gaps =
    let others : List ℕ = flat_map word_octets ws in
    let first = span_once is_word_octet word w.octets following (w.gap ++ others) words.passes are.0.octets words.stops (gap_first w.gap ws are.0.gap.octets (gap_none w ws are.1))
    (sym words.whole ∙ is ∙ append_assoc w.octets w.gap others) in
    let second = span_once is_gap_octet gap w.gap next others gaps.passes are.0.gap.octets gaps.stops (words_first ws are.2) (sym gaps.whole ∙ first.1) in
    record { word_is = first.0; following_is = first.1; gap_is = second.0; next_is = second.1 }

first_word : (w : Word) (ws : List Word) (rest word following : List ℕ) → AreWords (w ∷ ws) → rest ≡ flat_map word_octets (w ∷ ws) → IsSpan is_word_octet rest word following → word ≡ w.octets
first_word w ws rest word following are is words =
    let others : List ℕ = flat_map word_octets ws in
    (span_once is_word_octet word w.octets following (w.gap ++ others) words.passes are.0.octets words.stops (gap_first w.gap ws are.0.gap.octets (gap_none w ws are.1))
    (sym words.whole ∙ is ∙ append_assoc w.octets w.gap others)).0

-- octets that are some words begin with one
pub some_words : (ws : List Word) (rest : List ℕ) → rest ≡ flat_map word_octets ws → 0 < length rest → 0 < length ws
some_words [] rest is some = absurd (omega (arith, some, ap length is))
some_words (w ∷ ws) rest is some = omega arith

pub no_words : (ws : List Word) (rest : List ℕ) → AreWords ws → rest ≡ flat_map word_octets ws → length rest ≡ 0 → ws ≡ []
no_words [] rest are is none = refl
no_words (w ∷ ws) rest are is none =
    let some = are.0.some in
    absurd (omega (arith, none, ap length is, length-append (w.octets ++ w.gap) (flat_map word_octets ws), length-append w.octets w.gap))

-- what stands up to one more word
reaches : (done : List Word) (w : Word) (ws : List Word) (body following : List ℕ) → body ≡ flat_map word_octets (done ++ w ∷ ws) → following ≡ w.gap ++ flat_map word_octets ws
    → body ≡ copied_octets (done ++ w ∷ []) ++ following
reaches done w ws body following is following_is =
    let others : List ℕ = flat_map word_octets ws in
    is ∙ flat_map-append word_octets done (w ∷ ws) ∙ ap (λ t. t ++ ((w.octets ++ w.gap) ++ others)) (words_whole done)
    ∙ append_assoc (copied_octets done) (last_gap done) ((w.octets ++ w.gap) ++ others)
    ∙ ap (λ t. copied_octets done ++ (last_gap done ++ t)) (append_assoc w.octets w.gap others ∙ ap (λ t. w.octets ++ t) (sym following_is))
    ∙ ap (λ t. copied_octets done ++ t) (sym (append_assoc (last_gap done) w.octets following))
    ∙ sym (append_assoc (copied_octets done) (last_gap done ++ w.octets) following) ∙ ap (λ t. t ++ following) (sym (copied-push done w))

-- ---- sides

tells_side : (side : Side) (w : Word) (octets : List ℕ) → TellsSide side octets → octets ≡ w.octets → TellsEncoded w.is_encoded w.octets → side ≡ side_of w
tells_side Edge w octets observed is encoded = absurd observed
tells_side Encoded w octets observed is encoded =
    let same : true ≡ w.is_encoded = tells_once true w.is_encoded w.octets (subst (TellsEncoded true) is observed) encoded in rw (← same) refl
tells_side Plain w octets observed is encoded =
    let same : false ≡ w.is_encoded = tells_once false w.is_encoded w.octets (subst (TellsEncoded false) is observed) encoded in rw (← same) refl

no_edge : (w : Word) (next : Side) → first_where (side_of w) next ≡ side_of w
no_edge w next = by w.is_encoded refl
  where
    by : (b : Bool) → w.is_encoded ≡ b → first_where (side_of w) next ≡ side_of w
    by true e = rw e refl
    by false e = rw e refl

first_push : (done : List Word) (w : Word) (first next : Side) → first ≡ first_side done → next ≡ side_of w → first_where first next ≡ first_side (done ++ w ∷ [])
first_push [] w first next is next_is = rw is next_is
first_push (d ∷ done) w first next is next_is = rw is (no_edge d next)

plain_side : (w : Word) → w.is_encoded ≡ false → Plain ≡ side_of w
plain_side w e = rw e refl

plain_first : (ws : List Word) (w : Word) → NotEncoded (ws ++ w ∷ []) → Plain ≡ first_side (ws ++ w ∷ [])
plain_first [] w plain = plain_side w (not-true w.is_encoded (and_parts (not w.is_encoded) true plain).0)
plain_first (v ∷ ws) w plain = plain_side v (not-true v.is_encoded (and_parts (not v.is_encoded) (list_all (λ (u : Word). not u.is_encoded) (ws ++ w ∷ [])) plain).0)

-- ---- the words before a high one

-- none of the words that were passed is high
pub record LowSoFar (words : List Word) (low : Stretch) (rest : List ℕ) : Type 0 where
  pub done : List Word
  pub left : List Word
  pub whole : words ≡ done ++ left
  pub is_low : IsCopied done
  pub is : IsStretch low done
  pub rest_is : rest ≡ flat_map word_octets left

abbrev pub PassesLow : List ℕ → Stretch → List ℕ → Type 0
PassesLow body low rest = (words : List Word) → StandIn words body → LowSoFar words low rest

pub low_start : (body : List ℕ) (low : Stretch) → low.octets.now ≡ [] → low.gap.now ≡ [] → low.first ≡ Edge → low.last ≡ Edge → PassesLow body low body
low_start body low octets gap first last = λ words stand.
    record { done = []; left = words; whole = refl; is_low = refl; is = record { octets = octets; gap = gap; first = first; last = last }; rest_is = stand.whole }

-- one more word that isn't high
pub low_turn : (body : List ℕ) (low more : Stretch) (rest word following gap next : List ℕ) (side : Side) → PassesLow body low rest → 0 < length rest → IsSpan is_word_octet rest word following
    → IsSpan is_gap_octet following gap next → list_all is_ascii word ≡ true → TellsSide side word → ((front : List ℕ) → body ≡ front ++ following → more.octets.now ≡ front) → more.gap.now ≡ gap
    → more.first ≡ first_where low.first side → more.last ≡ side → PassesLow body more next
low_turn body low more rest word following gap next side so some words gaps ascii observed octets_are gap_is first_is last_is = λ all stand. by all stand (so all stand)
  where
    by : (all : List Word) → StandIn all body → LowSoFar all low rest → LowSoFar all more next
    by all stand l = go l.left l.whole l.rest_is
      where
        go : (left : List Word) → all ≡ l.done ++ left → rest ≡ flat_map word_octets left → LowSoFar all more next
        go [] whole is = absurd (omega (arith, some, ap length is))
        go (w ∷ ws) whole is =
            let are : AreWords (w ∷ ws) = AreWords-back l.done (w ∷ ws) (subst AreWords whole stand.are) in
            let n = next_word w ws rest word following gap next are is words gaps in
            let low_word : is_high_word w ≡ false = rw (← n.word_is, ascii) refl in
            record {
              done = l.done ++ w ∷ [];
              left = ws;
              whole = whole ∙ sym (append_assoc l.done (w ∷ []) ws);
              is_low = pass-append (λ (v : Word). not (is_high_word v)) l.done (w ∷ []) l.is_low (rw low_word refl);
              is = record {
                octets = octets_are (copied_octets (l.done ++ w ∷ [])) (reaches l.done w ws body following (stand.whole ∙ ap (flat_map word_octets) whole) n.following_is);
                gap = gap_is ∙ n.gap_is ∙ sym (last_gap-push l.done w);
                first = first_is ∙ first_push l.done w low.first side l.is.first (tells_side side w word observed n.word_is are.0.encoded);
                last = last_is ∙ tells_side side w word observed n.word_is are.0.encoded ∙ sym (last_side-push l.done w);
              };
              rest_is = n.next_is;
            }

low_split : (words : List Word) (low : Stretch) (rest : List ℕ) → (l : LowSoFar words low rest) → BeginsHigh l.left → IsSplitLow words low rest
low_split words low rest l begins = record { copied = l.done; others = l.left; splits = record { whole = l.whole; is_copied = l.is_low; begins = begins }; is = l.is; rest_is = l.rest_is }

-- the next word is high
pub low_high : (body : List ℕ) (low : Stretch) (rest word following : List ℕ) → PassesLow body low rest → IsSpan is_word_octet rest word following → list_all is_ascii word ≡ false
    → (words : List Word) → StandIn words body → IsSplitLow words low rest
low_high body low rest word following so span high = λ all stand. by all stand (so all stand)
  where
    by : (all : List Word) → StandIn all body → LowSoFar all low rest → IsSplitLow all low rest
    by all stand l = low_split all low rest l (go l.left l.whole l.rest_is)
      where
        go : (left : List Word) → all ≡ l.done ++ left → rest ≡ flat_map word_octets left → BeginsHigh left
        go [] whole is = tt
        go (w ∷ ws) whole is =
            let are : AreWords (w ∷ ws) = AreWords-back l.done (w ∷ ws) (subst AreWords whole stand.are) in
            let first = first_word w ws rest word following are is span in rw (← first, high) refl

-- no word is left
pub low_end : (body : List ℕ) (low : Stretch) (rest : List ℕ) → PassesLow body low rest → length rest ≡ 0 → (words : List Word) → StandIn words body → IsSplitLow words low rest
low_end body low rest so none = λ all stand. by all stand (so all stand)
  where
    by : (all : List Word) → StandIn all body → LowSoFar all low rest → IsSplitLow all low rest
    by all stand l =
        let are : AreWords l.left = AreWords-back l.done l.left (subst AreWords l.whole stand.are) in
        let left : l.left ≡ [] = no_words l.left rest are l.rest_is none in
        low_split all low rest l (rw left tt)

-- ---- the words of a core

-- the words up to the last high one, and those after it, of which none is high; none is an encoded word
pub record CoreSoFar (words : List Word) (core : Stretch) (after_core rest : List ℕ) : Type 0 where
  pub done : List Word
  pub low : List Word
  pub left : List Word
  pub whole : words ≡ done ++ (low ++ left)
  pub plain : NotEncoded done
  pub plain_low : NotEncoded low
  pub is_low : IsCopied low
  pub ends : EndsHigh done
  pub is : IsStretch core done
  pub following_is : after_core ≡ flat_map word_octets (low ++ left)
  pub rest_is : rest ≡ flat_map word_octets left

abbrev pub PassesCore : List ℕ → Stretch → List ℕ → List ℕ → Type 0
PassesCore body core after_core rest = (words : List Word) → StandIn words body → CoreSoFar words core after_core rest

pub core_start : (body : List ℕ) (core : Stretch) → core.octets.now ≡ [] → core.gap.now ≡ [] → core.first ≡ Edge → core.last ≡ Edge → PassesCore body core body body
core_start body core octets gap first last = λ words stand. record {
  done = [];
  low = [];
  left = words;
  whole = refl;
  plain = refl;
  plain_low = refl;
  is_low = refl;
  ends = tt;
  is = record { octets = octets; gap = gap; first = first; last = last };
  following_is = stand.whole;
  rest_is = stand.whole;
}

-- what is known of the next word
record IsNextPlain (w : Word) (ws : List Word) (word following gap next : List ℕ) : Type 0 where
  cut : IsNext w ws word following gap next
  plain : w.is_encoded ≡ false

next_plain : (w : Word) (ws : List Word) (rest word following gap next : List ℕ) → AreWords (w ∷ ws) → rest ≡ flat_map word_octets (w ∷ ws) → IsSpan is_word_octet rest word following
    → IsSpan is_gap_octet following gap next → TellsEncoded false word → IsNextPlain w ws word following gap next
next_plain w ws rest word following gap next are is words gaps observed =
    let n = next_word w ws rest word following gap next are is words gaps in
    record { cut = n; plain = sym (tells_once false w.is_encoded w.octets (subst (TellsEncoded false) n.word_is observed) are.0.encoded) }

left_words : (all done low left : List Word) (body : List ℕ) → StandIn all body → all ≡ done ++ (low ++ left) → AreWords left
left_words all done low left body stand whole = AreWords-back low left (AreWords-back done (low ++ left) (subst AreWords whole stand.are))

not_encoded-push : (ws : List Word) (w : Word) → NotEncoded ws → w.is_encoded ≡ false → NotEncoded (ws ++ w ∷ [])
not_encoded-push ws w plain e = pass-append (λ (v : Word). not v.is_encoded) ws (w ∷ []) plain (rw e refl)

-- one more word that isn't high
pub core_low : (body : List ℕ) (core : Stretch) (after_core rest word following gap next : List ℕ) → PassesCore body core after_core rest → 0 < length rest → IsSpan is_word_octet rest word following
    → IsSpan is_gap_octet following gap next → TellsEncoded false word → list_all is_ascii word ≡ true → PassesCore body core after_core next
core_low body core after_core rest word following gap next so some words gaps observed ascii = λ all stand. by all stand (so all stand)
  where
    by : (all : List Word) → StandIn all body → CoreSoFar all core after_core rest → CoreSoFar all core after_core next
    by all stand c = go c.left c.whole c.following_is c.rest_is
      where
        go : (left : List Word) → all ≡ c.done ++ (c.low ++ left) → after_core ≡ flat_map word_octets (c.low ++ left) → rest ≡ flat_map word_octets left → CoreSoFar all core after_core next
        go [] whole following_is is = absurd (omega (arith, some, ap length is))
        go (w ∷ ws) whole following_is is =
            let n = next_plain w ws rest word following gap next (left_words all c.done c.low (w ∷ ws) body stand whole) is words gaps observed in
            let low_word : is_high_word w ≡ false = rw (← n.cut.word_is, ascii) refl in
            let more : c.low ++ w ∷ ws ≡ (c.low ++ w ∷ []) ++ ws = sym (append_assoc c.low (w ∷ []) ws) in
            record {
              done = c.done;
              low = c.low ++ w ∷ [];
              left = ws;
              whole = whole ∙ ap (λ r. c.done ++ r) more;
              plain = c.plain;
              plain_low = not_encoded-push c.low w c.plain_low n.plain;
              is_low = pass-append (λ (v : Word). not (is_high_word v)) c.low (w ∷ []) c.is_low (rw low_word refl);
              ends = c.ends;
              is = c.is;
              following_is = following_is ∙ ap (flat_map word_octets) more;
              rest_is = n.cut.next_is;
            }

-- one more word that is high
pub core_high : (body : List ℕ) (core longer : Stretch) (after_core rest word following gap next : List ℕ) → PassesCore body core after_core rest → 0 < length rest → IsSpan is_word_octet rest word following
    → IsSpan is_gap_octet following gap next → TellsEncoded false word → list_all is_ascii word ≡ false → ((front : List ℕ) → body ≡ front ++ following → longer.octets.now ≡ front) → longer.gap.now ≡ gap
    → longer.first ≡ Plain → longer.last ≡ Plain → PassesCore body longer next next
core_high body core longer after_core rest word following gap next so some words gaps observed high octets_are gap_is first_is last_is = λ all stand. by all stand (so all stand)
  where
    by : (all : List Word) → StandIn all body → CoreSoFar all core after_core rest → CoreSoFar all longer next next
    by all stand c = go c.left c.whole c.rest_is
      where
        go : (left : List Word) → all ≡ c.done ++ (c.low ++ left) → rest ≡ flat_map word_octets left → CoreSoFar all longer next next
        go [] whole is = absurd (omega (arith, some, ap length is))
        go (w ∷ ws) whole is =
            let n = next_plain w ws rest word following gap next (left_words all c.done c.low (w ∷ ws) body stand whole) is words gaps observed in
            let high_word : is_high_word w ≡ true = rw (← n.cut.word_is, high) refl in
            let passed : List Word = c.done ++ c.low in
            let plain : NotEncoded (passed ++ w ∷ []) = not_encoded-push passed w (pass-append (λ (v : Word). not v.is_encoded) c.done c.low c.plain c.plain_low) n.plain in
            let all_is : all ≡ passed ++ w ∷ ws = whole ∙ sym (append_assoc c.done c.low (w ∷ ws)) in
            record {
              done = passed ++ w ∷ [];
              low = [];
              left = ws;
              whole = all_is ∙ sym (append_assoc passed (w ∷ []) ws);
              plain = plain;
              plain_low = refl;
              is_low = refl;
              ends = EndsHigh-push passed w high_word;
              is = record {
                octets = octets_are (copied_octets (passed ++ w ∷ [])) (reaches passed w ws body following (stand.whole ∙ ap (flat_map word_octets) all_is) n.cut.following_is);
                gap = gap_is ∙ n.cut.gap_is ∙ sym (last_gap-push passed w);
                first = first_is ∙ plain_first passed w plain;
                last = last_is ∙ plain_side w n.plain ∙ sym (last_side-push passed w);
              };
              following_is = n.cut.next_is;
              rest_is = n.cut.next_is;
            }

core_split : (words : List Word) (core : Stretch) (after_core rest : List ℕ) → (c : CoreSoFar words core after_core rest) → BeginsEncoded c.left → 0 < length words → BeginsCore words
    → IsSplitCore words core after_core
core_split [] core after_core rest c stops some begins = absurd (omega (arith, some))
core_split (v ∷ vs) core after_core rest c stops some begins =
    let high = core_ends v vs c.done c.low c.left begins c.whole c.ends c.is_low stops in
    record {
      core_words = c.done;
      others = c.low ++ c.left;
      splits = record { low = c.low; after = c.left; whole = c.whole; begins = high.0; ends = high.1; plain = c.plain; rest_is = refl; is_low = c.is_low; stops = stops };
      is = c.is;
      rest_is = c.following_is;
    }

-- the next word is an encoded word
pub core_stops : (body : List ℕ) (core : Stretch) (after_core rest word following : List ℕ) → PassesCore body core after_core rest → IsSpan is_word_octet rest word following → TellsEncoded true word
    → (words : List Word) → StandIn words body → 0 < length words → BeginsCore words → IsSplitCore words core after_core
core_stops body core after_core rest word following so span observed = λ all stand some begins. by all stand some begins (so all stand)
  where
    by : (all : List Word) → StandIn all body → 0 < length all → BeginsCore all → CoreSoFar all core after_core rest → IsSplitCore all core after_core
    by all stand some begins c = core_split all core after_core rest c (go c.left c.whole c.rest_is) some begins
      where
        go : (left : List Word) → all ≡ c.done ++ (c.low ++ left) → rest ≡ flat_map word_octets left → BeginsEncoded left
        go [] whole is = tt
        go (w ∷ ws) whole is =
            let are = left_words all c.done c.low (w ∷ ws) body stand whole in
            let first = first_word w ws rest word following are is span in
            sym (tells_once true w.is_encoded w.octets (subst (TellsEncoded true) first observed) are.0.encoded)

-- no word is left
pub core_end : (body : List ℕ) (core : Stretch) (after_core rest : List ℕ) → PassesCore body core after_core rest → length rest ≡ 0
    → (words : List Word) → StandIn words body → 0 < length words → BeginsCore words → IsSplitCore words core after_core
core_end body core after_core rest so none = λ all stand some begins. by all stand some begins (so all stand)
  where
    by : (all : List Word) → StandIn all body → 0 < length all → BeginsCore all → CoreSoFar all core after_core rest → IsSplitCore all core after_core
    by all stand some begins c =
        let left : c.left ≡ [] = no_words c.left rest (left_words all c.done c.low c.left body stand c.whole) c.rest_is none in
        core_split all core after_core rest c (rw left tt) some begins
