-- The words of a body.
use Rattle.std.proofs.Common.{◌≡◌, ℕ, ◌<◌, Bool, true, false, not, ◌&&◌, List, [], ◌∷◌, ◌++◌, length, refl, sym, ap, ◌∙◌, subst, arith}
use Rattle.std.proofs.lemmas.Bool.{and_parts, and_from}
use Rattle.std.proofs.lemmas.Bool.Decides.{nat_tests}
use Rattle.std.proofs.lemmas.List.{append_assoc, append-nil, length-append, nil_from_length}
use Rattle.std.specs.List.{list_all, flat_map}
use Rattle.std.specs.Str.{IsUtf8}
use Rattle.mail_wire.specs.Octets.{is_white, is_nonwhite, is_line_end, is_ascii}
use Rattle.mail_wire.specs.Folds.{IsFolded}
use Rattle.mail_wire.proofs.Folded.{BeginsText, IsFolded-cut, IsFolded-drop_plain, unfolded-folded, without_ends-some}
use Rattle.mail_wire.specs.Spans.{Stops, IsSpan}
use Rattle.mail_wire.proofs.SpanLemmas.{Opposite}
use Rattle.encoded_words.proofs.WritableUnits.{BeginsAscii, before_ascii, all_ascii}
use Rattle.field_downgrade.specs.Words.{Word, IsWord, IsGap, AreWords, AreUtf8, HasWords, DividesWords, TellsEncoded, run_of, word_octets, is_word_octet, is_gap_octet}

not_not : (b : Bool) → b ≡ not (not b)
not_not true = refl
not_not false = refl

pub gap_opposite : Opposite is_gap_octet is_word_octet
gap_opposite x = refl

pub word_opposite : Opposite is_word_octet is_gap_octet
word_opposite x = not_not (is_word_octet x)

pub ascii_small : (x : ℕ) → is_ascii x ≡ true → x < 128
ascii_small x h = grind (arith, nat_tests)

gap_octet_ascii : (x : ℕ) → is_gap_octet x ≡ true → is_ascii x ≡ true
gap_octet_ascii x h = grind (arith, nat_tests)

pub gap_ascii : (xs : List ℕ) → list_all is_gap_octet xs ≡ true → list_all is_ascii xs ≡ true
gap_ascii [] h = refl
gap_ascii (x ∷ xs) h =
    let parts = and_parts (is_gap_octet x) (list_all is_gap_octet xs) h in
    and_from (is_ascii x) (list_all is_ascii xs) (gap_octet_ascii x parts.0) (gap_ascii xs parts.1)

gap_small : (x : ℕ) → is_gap_octet x ≡ true → x < 128
gap_small x h = ascii_small x (gap_octet_ascii x h)

stops_word : (ys : List ℕ) → Stops is_word_octet ys → BeginsAscii ys
stops_word [] stops = tt
stops_word (y ∷ ys) stops = gap_small y (rw stops refl)

stops_gap : (ys : List ℕ) → Stops is_gap_octet ys → BeginsText ys
stops_gap [] stops = tt
stops_gap (y ∷ ys) stops = by (is_white y) (is_line_end y) stops
  where
    by : (w e : Bool) → not (not w && not e) ≡ false → (w ≡ false) × (e ≡ false)
    by true e h = cc h
    by false true h = cc h
    by false false h = (refl, refl)

pub word_no_end : (xs : List ℕ) → list_all is_word_octet xs ≡ true → list_all (λ x. not (is_line_end x)) xs ≡ true
word_no_end [] h = refl
word_no_end (x ∷ xs) h =
    let parts = and_parts (is_word_octet x) (list_all is_word_octet xs) h in
    and_from (not (is_line_end x)) (list_all (λ x. not (is_line_end x)) xs) (and_parts (is_nonwhite x) (not (is_line_end x)) parts.0).1 (word_no_end xs parts.1)

-- what a gap is cut from
pub record HasGap (octets gap rest : List ℕ) : Type 0 where
  pub is_gap : IsGap gap
  pub folded : IsFolded rest
  pub utf8 : IsUtf8 rest
  pub stops : Stops is_gap_octet rest

HasGap-from : (octets gap rest : List ℕ) → IsFolded octets → IsUtf8 octets → IsSpan is_gap_octet octets gap rest → HasGap octets gap rest
HasGap-from octets gap rest folded utf8 span =
    let cut = IsFolded-cut gap rest (subst IsFolded span.whole folded) (stops_gap rest span.stops) in
    record {
      is_gap = record { octets = span.passes; folded = cut.0 };
      folded = cut.1;
      utf8 = (all_ascii is_gap_octet gap_small gap rest span.passes (subst IsUtf8 span.whole utf8)).rest;
      stops = span.stops;
    }

-- The words so far: whatever words the rest has, they complete those of the body.
pub record Reads (body : List ℕ) (done : List Word) (rest : List ℕ) : Type 0 where
  pub folded : IsFolded rest
  pub utf8 : IsUtf8 rest
  pub stops : Stops is_gap_octet rest
  pub complete : (ws : List Word) → AreWords ws → AreUtf8 ws → rest ≡ flat_map word_octets ws → HasWords body (done ++ ws) × AreUtf8 (done ++ ws)

pub Reads-start : (body lead rest : List ℕ) → IsFolded body → IsUtf8 body → IsSpan is_gap_octet body lead rest → Reads body [] rest
Reads-start body lead rest folded utf8 span =
    let has = HasGap-from body lead rest folded utf8 span in
    record {
      folded = has.folded;
      utf8 = has.utf8;
      stops = has.stops;
      complete = λ ws are u e. (record { lead = lead; is_lead = has.is_gap; are_words = are; whole = span.whole ∙ ap (λ t. lead ++ t) e }, u);
    }

both_stop : (xs : List ℕ) → Stops is_gap_octet xs → Stops is_word_octet xs → length xs ≡ 0
both_stop [] a b = refl
both_stop (x ∷ xs) a b = by (is_word_octet x) a b
  where
    by : (w : Bool) → not w ≡ false → w ≡ false → length (x ∷ xs) ≡ 0
    by true a b = cc b
    by false a b = cc a

pub word_some : (rest word after : List ℕ) → 0 < length rest → Stops is_gap_octet rest → IsSpan is_word_octet rest word after → 0 < length word
word_some rest [] after some stops span =
    let same : after ≡ rest = sym span.whole in
    absurd (omega (arith, both_stop rest stops (subst (Stops is_word_octet) same span.stops)))
word_some rest (x ∷ word) after some stops span = omega arith

divides : (after gap rest : List ℕ) (ws : List Word) → Stops is_word_octet after → IsSpan is_gap_octet after gap rest → IsGap gap → AreWords ws → rest ≡ flat_map word_octets ws
    → (w : Word) → w.gap ≡ gap → DividesWords (run_of w) ws
divides after gap rest [] stops span is are e w gap_is = tt
divides after [] rest (v ∷ ws) stops span is are e w gap_is =
    let same : after ≡ rest = span.whole in
    let none : length rest ≡ 0 = both_stop rest span.stops (subst (Stops is_word_octet) same stops) in
    let some = are.0.some in
    absurd (omega (arith, ap length e, length-append (v.octets ++ v.gap) (flat_map word_octets ws), length-append v.octets v.gap))
divides after (x ∷ gap) rest (v ∷ ws) stops span is are e w gap_is =
    rw (gap_is, unfolded-folded (x ∷ gap) is.folded) (without_ends-some (x ∷ gap) is.folded (omega arith))

pub Reads-step : (body : List ℕ) (done : List Word) (rest octets after gap next : List ℕ) (encoded : Bool) → Reads body done rest → 0 < length rest
    → IsSpan is_word_octet rest octets after → IsSpan is_gap_octet after gap next → TellsEncoded encoded octets
    → Reads body (done ++ record { octets = octets; is_encoded = encoded; gap = gap } ∷ []) next
Reads-step body done rest octets after gap next encoded reads some word_span gap_span observed =
    let w : Word = record { octets = octets; is_encoded = encoded; gap = gap } in
    let cut = before_ascii octets after (stops_word after word_span.stops) (subst IsUtf8 word_span.whole reads.utf8) in
    let folded = IsFolded-drop_plain octets after (word_no_end octets word_span.passes) (subst IsFolded word_span.whole reads.folded) in
    let has = HasGap-from after gap next folded cut.rest gap_span in
    let is : IsWord w = record {
      some = word_some rest octets after some reads.stops word_span;
      octets = word_span.passes;
      encoded = observed;
      gap = has.is_gap;
    } in
    record {
      folded = has.folded;
      utf8 = has.utf8;
      stops = has.stops;
      complete = λ ws are u e.
          let whole : rest ≡ flat_map word_octets (w ∷ ws) = word_span.whole ∙ rw (gap_span.whole, e) (sym (append_assoc octets gap (flat_map word_octets ws))) in
          let all = reads.complete (w ∷ ws) (is, divides after gap next ws word_span.stops gap_span has.is_gap are e w refl, are) (cut.front, u) whole in
          rw (append_assoc done (w ∷ []) ws) all;
    }

pub Reads-end : (body : List ℕ) (done : List Word) (rest : List ℕ) → Reads body done rest → length rest ≡ 0 → HasWords body done × AreUtf8 done
Reads-end body done rest reads none = rw append-nil at (reads.complete [] tt tt (nil_from_length rest none))
