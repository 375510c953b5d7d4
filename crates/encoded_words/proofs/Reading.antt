-- Units are read place by place.
use Rattle.std.proofs.Common.{◌≡◌, ℕ, ◌<◌, Bool, true, false, ◌&&◌, cond, not, List, [], ◌∷◌, ◌++◌, length, Some, None, refl, sym, ap, ◌∙◌, subst, arith}
use Rattle.std.proofs.lemmas.Bool.{true≢false}
use Rattle.std.proofs.lemmas.List.{append_assoc, length-append, nil_from_length}
use Rattle.std.specs.List.{flat_map}
use Rattle.encoded_words.specs.declared.units.Merging.{Merging}
use Rattle.encoded_words.specs.Words.{UnitValue, Text, Opaque, Says}
use Rattle.encoded_words.specs.Units.{Place, IsPlace, ArePlaces, Divides, HasUnits, place_octets, raw_units, merged, with_text, word_unit, begins_encoded, run_text}
use Rattle.mail_wire.specs.Octets.{is_white, is_nonwhite}
use Rattle.mail_wire.specs.Spans.{Stops, IsSpan}
use Rattle.encoded_words.specs.private.Merging.{IsMerging, AddsUnit, TakesWord, done_values, all_units_then, onto}
use Rattle.encoded_words.proofs.WithText.{with_text-append}

with_text-opaque : (bs charset octets source : List ℕ) (us : List UnitValue) → with_text bs (Opaque charset octets source ∷ us) ≡ with_text bs [] ++ Opaque charset octets source ∷ us
with_text-opaque [] charset octets source us = refl
with_text-opaque (b ∷ bs) charset octets source us = refl

pub merged-onto : (u : UnitValue) (us : List UnitValue) → merged (u ∷ us) ≡ onto u (merged us)
merged-onto (Text octets) us = refl
merged-onto (Opaque charset octets source) us = refl

-- what a push of text means, whatever follows
pub then_text : (old new : Merging) (text : List ℕ) (us : List UnitValue) → IsMerging new (done_values old) (old.text.items ++ text) → all_units_then new us ≡ all_units_then old (with_text text us)
then_text old new text us is = rw (is.done_is, is.text_is, ← with_text-append old.text.items text us) refl

then_unit : (old new : Merging) (u : UnitValue) (us : List UnitValue) → AddsUnit old new u → all_units_then new us ≡ all_units_then old (onto u us)
then_unit old new (Text octets) us is = then_text old new octets us is
then_unit old new (Opaque charset octets source) us is =
    rw (is.done_is, is.text_is, with_text-opaque old.text.items charset octets source us)
    (append_assoc (done_values old ++ with_text old.text.items []) (Opaque charset octets source ∷ []) us ∙ append_assoc (done_values old) (with_text old.text.items []) (Opaque charset octets source ∷ us))

pub and_true : (b : Bool) → (b && true) ≡ b
and_true true = refl
and_true false = refl

pub and_false : (b : Bool) → (b && false) ≡ false
and_false true = refl
and_false false = refl

pub TakesWord-encoded : (old mid new : Merging) (run kept word : List ℕ) (was : Bool) (u : UnitValue) → Says word (Some u) → kept ≡ cond was [] run
    → IsMerging mid (done_values old) (old.text.items ++ kept) → AddsUnit mid new u → TakesWord old new run was word true
TakesWord-encoded old mid new run kept word was u says kept_is text_is adds = record {
  says = Some u;
  says_is = says;
  encoded_is = refl;
  units = λ us. then_unit mid new u us adds ∙ then_text old mid kept (onto u us) text_is ∙ rw (and_true was, kept_is) refl;
}

pub TakesWord-plain : (old mid new : Merging) (run word : List ℕ) (was : Bool) → Says word None
    → IsMerging mid (done_values old) (old.text.items ++ run) → IsMerging new (done_values mid) (mid.text.items ++ word) → TakesWord old new run was word false
TakesWord-plain old mid new run word was says run_is word_is = record {
  says = None;
  says_is = says;
  encoded_is = refl;
  units = λ us. then_text mid new word us word_is ∙ then_text old mid run (with_text word us) run_is ∙ rw (and_false was) refl;
}

-- The reader has come so far: whatever places the rest has, they complete the units of the text.
pub record Reads (text : List ℕ) (m : Merging) (run : List ℕ) (was : Bool) (rest : List ℕ) : Type 0 where
  pub stops : Stops is_white rest
  pub units : (ps : List Place) → ArePlaces ps → rest ≡ flat_map place_octets ps
      → HasUnits text (all_units_then m (with_text (cond (was && begins_encoded ps) [] run) (merged (raw_units ps))))

pub Reads-start : (text lead rest : List ℕ) (m : Merging) → IsSpan is_white text lead rest → IsMerging m [] [] → Reads text m lead false rest
Reads-start text lead rest m span empty = record {
  stops = span.stops;
  units = λ ps are e. record {
    lead = lead;
    places = ps;
    white = span.passes;
    are_places = are;
    whole = span.whole ∙ ap (λ r. lead ++ r) e;
    says = rw (empty.done_is, empty.text_is) refl;
  };
}

-- octets that are neither white nor black at their front are none
pub stops_both : (xs : List ℕ) → Stops is_white xs → Stops is_nonwhite xs → length xs ≡ 0
stops_both [] w b = refl
stops_both (x ∷ xs) w b = absurd (true≢false (sym (ap not w) ∙ b))

pub word_some : (rest word after : List ℕ) → Stops is_white rest → 0 < length rest → IsSpan is_nonwhite rest word after → 0 < length word
word_some rest [] after stops some span =
    let same : after ≡ rest = sym span.whole in
    absurd (omega (arith, stops_both rest stops (subst (Stops is_nonwhite) same span.stops)))
word_some rest (x ∷ word) after stops some span = omega arith

divides : (after run rest : List ℕ) (ps : List Place) → Stops is_nonwhite after → IsSpan is_white after run rest → ArePlaces ps → rest ≡ flat_map place_octets ps → Divides run ps
divides after run rest [] stops span are e = tt
divides after [] rest (p ∷ ps) stops span are e =
    let same : after ≡ rest = span.whole in
    let none : length rest ≡ 0 = stops_both rest span.stops (subst (Stops is_nonwhite) same stops) in
    let some = are.0.is_word in
    absurd (omega (arith, ap length e, length-append (p.word ++ p.run) (flat_map place_octets ps), length-append p.word p.run))
divides after (x ∷ run) rest (p ∷ ps) stops span are e = omega arith

pub Reads-step : (text run rest word after next_run next_rest : List ℕ) (old new : Merging) (was encoded : Bool) → Reads text old run was rest → 0 < length rest
    → IsSpan is_nonwhite rest word after → IsSpan is_white after next_run next_rest → TakesWord old new run was word encoded → Reads text new next_run encoded next_rest
Reads-step text run rest word after next_run next_rest old new was encoded reads some first second takes = record {
  stops = second.stops;
  units = λ ps are e.
      let p : Place = record { word = word; says = takes.says; run = next_run } in
      let is : IsPlace p = record {
        is_word = word_some rest word after reads.stops some first;
        nonwhite = first.passes;
        white = second.passes;
        says = takes.says_is;
      } in
      let whole : rest ≡ flat_map place_octets (p ∷ ps) = first.whole ∙ rw (second.whole, e, append_assoc) refl in
      let has = reads.units (p ∷ ps) (is, divides after next_run next_rest ps first.stops second are e, are) whole in
      let following : List UnitValue = with_text (cond (encoded && begins_encoded ps) [] next_run) (merged (raw_units ps)) in
      let same = takes.units following in
      let raw : merged (raw_units (p ∷ ps)) ≡ onto (word_unit takes.says word) following
      = merged-onto (word_unit takes.says word) (Text (run_text p (begins_encoded ps)) ∷ raw_units ps)
      ∙ rw (← takes.encoded_is) refl in
      rw (same, ← raw, takes.encoded_is) has;
}

pub Reads-end : (text run rest : List ℕ) (m mid end : Merging) (was : Bool) → Reads text m run was rest → length rest ≡ 0 → IsMerging mid (done_values m) (m.text.items ++ run)
    → IsMerging end (done_values mid ++ with_text mid.text.items []) [] → HasUnits text (done_values end)
Reads-end text run rest m mid end was reads empty run_is end_is =
    let has = reads.units [] tt (nil_from_length rest empty) in
    rw (end_is.done_is, then_text m mid run [] run_is) (rw (and_false was) at has)
