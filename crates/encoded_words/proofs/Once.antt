-- A text has one list of units.
use Rattle.std.proofs.Common.{◌≡◌, ℕ, ◌<◌, true, List, [], ◌∷◌, ◌++◌, length, Option, Some, None, refl, sym, ap, ◌∙◌, subst, arith, inl, inr}
use Rattle.std.proofs.lemmas.Bool.{and_parts, not-true, not_from_true}
use Rattle.std.proofs.lemmas.List.{append_assoc}
use Rattle.std.specs.List.{list_all, flat_map}
use Rattle.std.specs.Char.{to_ascii_uppercase}
use Rattle.base64.specs.Engines.{standard}
use Rattle.base64.specs.GeneralPurpose.{encode_of, decode_of}
use Rattle.base64.proofs.EngineFacts.{decode_of-encode_of}
use Rattle.encoded_words.specs.Words.{WordParts, UnitValue, IsBText, IsTextOf, IsEncodedWord, Says, unit_of}
use Rattle.encoded_words.specs.Units.{Place, ArePlaces, HasUnits, place_octets, Divides}
use Rattle.mail_wire.specs.Octets.{is_white, is_nonwhite}
use Rattle.mail_wire.specs.Spans.{Stops}
use Rattle.encoded_words.proofs.Cuts.{HasParts-once}
use Rattle.encoded_words.proofs.QText.{IsQText-once}
use Rattle.mail_wire.proofs.SpanLemmas.{span_once}

b_text_once : (text a b : List ℕ) → IsBText text a → IsBText text b → a ≡ b
b_text_once text a b p q =
    let da = decode_of-encode_of standard a refl p.0 in
    let db = decode_of-encode_of standard b refl q.0 in
    let same : decode_of standard (encode_of standard a) ≡ decode_of standard (encode_of standard b) = ap (decode_of standard) (sym p.1 ∙ q.1) in
    let both = sym da ∙ same ∙ db in
    cc both

not_both : (letter : ℕ) → to_ascii_uppercase letter ≡ 66 → to_ascii_uppercase letter ≡ 81 → ⊥
not_both letter a b = omega (arith, sym a ∙ b)

text_once : (letter : ℕ) (text a b : List ℕ) → IsTextOf letter text a → IsTextOf letter text b → a ≡ b
text_once letter text a b (inl p) (inl q) = b_text_once text a b p.1 q.1
text_once letter text a b (inl p) (inr q) = absurd (not_both letter p.0 q.0)
text_once letter text a b (inr p) (inl q) = absurd (not_both letter q.0 p.0)
text_once letter text a b (inr p) (inr q) = IsQText-once text a b p.1 q.1

pub IsEncodedWord-once : (word : List ℕ) (u v : UnitValue) → IsEncodedWord word u → IsEncodedWord word v → u ≡ v
IsEncodedWord-once word u v p q =
    let same : p.parts ≡ q.parts = HasParts-once word p.parts q.parts p.has_parts q.has_parts in
    let spells = subst (λ (w : WordParts). IsTextOf w.letter w.text p.octets) same p.spells in
    let octets : p.octets ≡ q.octets = text_once q.parts.letter q.parts.text p.octets q.octets spells q.spells in
    p.says ∙ ap (λ (w : WordParts). unit_of w.charset p.octets word) same ∙ ap (λ o. unit_of q.parts.charset o word) octets ∙ sym q.says

pub says_once : (word : List ℕ) (a b : Option UnitValue) → Says word a → Says word b → a ≡ b
says_once word None None p q = refl
says_once word None (Some v) p q = absurd (p v q)
says_once word (Some u) None p q = absurd (q u p)
says_once word (Some u) (Some v) p q = ap (λ x. Some x) (IsEncodedWord-once word u v p q)

-- a word begins what is left, and white or the end follows it
pub begins_nonwhite : (ps : List Place) → ArePlaces ps → Stops is_white (flat_map place_octets ps)
begins_nonwhite [] are = tt
begins_nonwhite (p ∷ ps) are = first p.word p.run (flat_map place_octets ps) are.0.is_word are.0.nonwhite
  where
    first : (word run rest : List ℕ) → 0 < length word → list_all is_nonwhite word ≡ true → Stops is_white ((word ++ run) ++ rest)
    first [] run rest some nonwhite = absurd (omega arith)
    first (x ∷ word) run rest some nonwhite = not-true (is_white x) (and_parts (is_nonwhite x) (list_all is_nonwhite word) nonwhite).0

pub after_word : (p : Place) (ps : List Place) → ArePlaces (p ∷ ps) → Stops is_nonwhite (p.run ++ flat_map place_octets ps)
after_word p ps are = by p.run ps are.0.white are.1
  where
    by : (run : List ℕ) (ps : List Place) → list_all is_white run ≡ true → Divides run ps → Stops is_nonwhite (run ++ flat_map place_octets ps)
    by [] [] white divides = tt
    by [] (q ∷ ps) white divides = absurd (omega arith)
    by (x ∷ run) ps white divides = not_from_true (is_white x) (and_parts (is_white x) (list_all is_white run) white).0

abbrev place : List ℕ → Option UnitValue → List ℕ → Place
place word says run = record { word = word; says = says; run = run }

made : (a b : List ℕ) (s t : Option UnitValue) (x y : List ℕ) → a ≡ b → s ≡ t → x ≡ y → place a s x ≡ place b t y
made a b s t x y e f g = cc

pub same_place : (p q : Place) → p.word ≡ q.word → p.says ≡ q.says → p.run ≡ q.run → p ≡ q
same_place p q e f g = made p.word q.word p.says q.says p.run q.run e f g

places_once : (ps qs : List Place) → ArePlaces ps → ArePlaces qs → flat_map place_octets ps ≡ flat_map place_octets qs → ps ≡ qs
places_once [] [] hp hq e = refl
places_once [] (q ∷ qs) hp hq e = absurd (nothing q.word q.run (flat_map place_octets qs) hq.0.is_word (sym e))
  where
    nothing : (word run rest : List ℕ) → 0 < length word → (word ++ run) ++ rest ≡ [] → ⊥
    nothing [] run rest some e = omega arith
    nothing (x ∷ word) run rest some e = cc e
places_once (p ∷ ps) [] hp hq e = absurd (nothing p.word p.run (flat_map place_octets ps) hp.0.is_word e)
  where
    nothing : (word run rest : List ℕ) → 0 < length word → (word ++ run) ++ rest ≡ [] → ⊥
    nothing [] run rest some e = omega arith
    nothing (x ∷ word) run rest some e = cc e
places_once (p ∷ ps) (q ∷ qs) hp hq e =
    let a = flat_map place_octets ps in
    let b = flat_map place_octets qs in
    let whole : p.word ++ (p.run ++ a) ≡ q.word ++ (q.run ++ b) = sym (append_assoc p.word p.run a) ∙ e ∙ append_assoc q.word q.run b in
    let words = span_once is_nonwhite p.word q.word (p.run ++ a) (q.run ++ b) hp.0.nonwhite hq.0.nonwhite (after_word p ps hp) (after_word q qs hq) whole in
    let runs = span_once is_white p.run q.run a b hp.0.white hq.0.white (begins_nonwhite ps hp.2) (begins_nonwhite qs hq.2) words.1 in
    let says : p.says ≡ q.says = says_once q.word p.says q.says (subst (λ w. Says w p.says) words.0 hp.0.says) hq.0.says in
    let head : p ≡ q = made p.word q.word p.says q.says p.run q.run words.0 says runs.0 in
    let tail : ps ≡ qs = places_once ps qs hp.2 hq.2 runs.1 in
    cc

-- A text has one list of units.
pub HasUnits-once : (text : List ℕ) (us vs : List UnitValue) → HasUnits text us → HasUnits text vs → us ≡ vs
HasUnits-once text us vs p q =
    let both = span_once is_white p.lead q.lead (flat_map place_octets p.places) (flat_map place_octets q.places) p.white q.white
    (begins_nonwhite p.places p.are_places) (begins_nonwhite q.places q.are_places) (sym p.whole ∙ q.whole) in
    let lead : p.lead ≡ q.lead = both.0 in
    let places : p.places ≡ q.places = places_once p.places q.places p.are_places q.are_places both.1 in
    p.says ∙ rw (lead, places) (sym q.says)
