-- The units of a UTF-8 text can be written.
use Rattle.std.proofs.Common.{◌≡◌, ℕ, ◌<◌, Bool, true, false, ltb, ◌&&◌, ◌||◌, ◌⊎◌, inl, inr, cond, not, List, [], ◌∷◌, ◌++◌, length, map, is_some, Option, Some, None, refl, sym, subst, arith}
use Rattle.std.proofs.lemmas.Bool.{and_parts, and_from, cases_Bool, lt-ltb}
use Rattle.std.proofs.lemmas.List.{append_assoc, append-nil, map-append, take_at, drop_at, length-append}
use Rattle.std.proofs.lemmas.Str.{IsUtf8-nil, IsUtf8-take, IsUtf8-drop, IsUtf8-append, IsUtf8-from_ascii, IsUtf8-from_is_utf8, IsCharBoundary-before_ascii, IsCharBoundary-after_ascii}
use Rattle.std.proofs.Math.Seq.{get_or-append_seam}
use Rattle.std.specs.List.{AllByRecursion, list_all, list_any, flat_map}
use Rattle.std.specs.Str.{IsUtf8, IsCharBoundary, is_utf8, str_to_ascii_lowercase}
use Rattle.mail_wire.specs.Octets.{is_white, is_nonwhite}
use Rattle.mail_wire.specs.Spans.{Stops}
use Rattle.mail_wire.proofs.OctetLemmas.{white_below}
use Rattle.encoded_words.specs.Words.{UnitValue, Text, Opaque, IsEncodedWord, Says, SaysWhere, gives_text, unit_of}
use Rattle.encoded_words.specs.Units.{Place, ArePlaces, HasUnits, place_octets, word_unit, begins_encoded, raw_units, with_text, merged}
use Rattle.encoded_words.specs.CommentUnits.{TextItem, Plain, Pair, item_spelling, item_octet, has_backslash, is_white_item, CommentWord, word_items, ItemsDivide, AreCommentWords, comment_places, HasCommentUnits}
use Rattle.encoded_words.specs.PhraseUnits.{PhraseItem, Atom, Content, Dot, Separator, IsUtf8Item, PhraseWord, phrase_words, ArePhrasePlaces, HasPhraseUnits, begins_free, has_word}
use Rattle.encoded_words.specs.Written.{IsWritable, AreWritable}
use Rattle.encoded_words.proofs.WrittenWords.{ascii_literal}
use Rattle.encoded_words.proofs.Once.{after_word}

-- What an encoded word says.
one_of : (a b c d : Bool) → ((a && b) || (c && d)) ≡ true → (b ≡ true) ⊎ (d ≡ true)
one_of true true c d h = inl refl
one_of true false true d h = inr h
one_of true false false d h = cc h
one_of false b true d h = inr h
one_of false b false d h = cc h

unit_writable : (charset octets word : List ℕ) → IsEncodedWord word (unit_of charset octets word) → IsWritable (unit_of charset octets word)
unfolding unit_of
unit_writable charset octets word is = elim (cases_Bool (gives_text (str_to_ascii_lowercase charset) octets)) [
  | inl gives ↦ rw gives (elim (one_of _ (is_utf8 octets) _ (list_all (λ b. ltb b 128) octets) gives) [
    | inl u ↦ IsUtf8-from_is_utf8 octets u
    | inr a ↦ IsUtf8-from_ascii octets (ascii_literal octets a)
  ])
  | inr other ↦ rw other (rw other at is)
]

says_writable : (word : List ℕ) (says : Option UnitValue) → Says word says → IsUtf8 word → IsWritable (word_unit says word)
says_writable word None is u = u
says_writable word (Some unit) is u = subst IsWritable (sym is.says) (unit_writable is.parts.charset is.octets word (subst (IsEncodedWord word) is.says is))

says_where_writable : (b : Bool) (word : List ℕ) (says : Option UnitValue) → SaysWhere b word says → IsUtf8 word → IsWritable (word_unit says word)
says_where_writable true word says is u = says_writable word says is u
says_where_writable false word says is u = rw is u

-- a place that gives UTF-8
record IsUtf8Place (p : Place) : Type 0 where
  word : IsWritable (word_unit p.says p.word)
  run : IsUtf8 p.run

pub with_text_writable : (bs : List ℕ) (us : List UnitValue) → IsUtf8 bs → AreWritable us → AreWritable (with_text bs us)
with_text_writable [] us u all = all
with_text_writable (b ∷ bs) [] u all = (u, tt)
with_text_writable (b ∷ bs) (Text more ∷ us) u all = (IsUtf8-append (b ∷ bs) more u all.0, all.1)
with_text_writable (b ∷ bs) (Opaque charset octets source ∷ us) u all = (u, all)

pub merged_writable : (us : List UnitValue) → AreWritable us → AreWritable (merged us)
merged_writable [] all = tt
merged_writable (Text bs ∷ us) all = with_text_writable bs (merged us) all.0 (merged_writable us all.1)
merged_writable (Opaque charset octets source ∷ us) all = (all.0, merged_writable us all.1)

run_utf8 : (b : Bool) (run : List ℕ) → IsUtf8 run → IsUtf8 (cond b [] run)
run_utf8 true run u = IsUtf8-nil
run_utf8 false run u = u

raw_writable : (ps : List Place) → AllByRecursion IsUtf8Place ps → AreWritable (raw_units ps)
raw_writable [] all = tt
raw_writable (p ∷ ps) all = (all.0.word, (run_utf8 (is_some p.says && begins_encoded ps) p.run all.0.run, raw_writable ps all.1))

-- A UTF-8 text is cut before and after ASCII.
pub record BothUtf8 (a b : List ℕ) : Type 0 where
  pub front : IsUtf8 a
  pub rest : IsUtf8 b

cut_utf8 : (a b : List ℕ) → IsUtf8 (a ++ b) → IsCharBoundary (a ++ b) (length a) → BothUtf8 a b
cut_utf8 a b u cut = record {
  front = rw (take_at a b (length a) refl) at (IsUtf8-take (a ++ b) (length a) u cut);
  rest = rw (drop_at a b (length a) refl) at (IsUtf8-drop (a ++ b) (length a) u cut);
}

abbrev pub BeginsAscii : List ℕ → Type 0
BeginsAscii [] = Unit {0}
BeginsAscii (x ∷ xs) = x < 128

pub before_ascii : (a b : List ℕ) → BeginsAscii b → IsUtf8 (a ++ b) → BothUtf8 a b
before_ascii a [] ascii u = record { front = rw append-nil at u; rest = IsUtf8-nil }
before_ascii a (x ∷ b) ascii u =
    cut_utf8 a (x ∷ b) u (IsCharBoundary-before_ascii (a ++ x ∷ b) (length a) (omega (arith, length-append a (x ∷ b))) (rw (get_or-append_seam a x b 0) ascii))

pub following_ascii : (x : ℕ) (b : List ℕ) → x < 128 → IsUtf8 (x ∷ b) → IsUtf8 b
following_ascii x b ascii u = (cut_utf8 (x ∷ []) b u (IsCharBoundary-after_ascii (x ∷ b) 0 u (omega arith) ascii)).rest

pub one_ascii : (x : ℕ) → x < 128 → IsUtf8 (x ∷ [])
one_ascii x h = IsUtf8-from_ascii (x ∷ []) (ascii_literal (x ∷ []) (and_from (ltb x 128) true (lt-ltb x 128 h) refl))

-- an ASCII octet ends the front
pub ends_ascii : (a : List ℕ) (x : ℕ) (rest : List ℕ) → x < 128 → IsUtf8 ((a ++ x ∷ []) ++ rest) → BothUtf8 (a ++ x ∷ []) rest
ends_ascii a x rest ascii u =
    let cut = before_ascii a (x ∷ rest) ascii (rw (append_assoc a (x ∷ []) rest) at u) in
    record { front = IsUtf8-append a (x ∷ []) cut.front (one_ascii x ascii); rest = following_ascii x rest ascii cut.rest }

-- a front of ASCII octets
pub all_ascii : (p : ℕ → Bool) → ((x : ℕ) → p x ≡ true → x < 128) → (a rest : List ℕ) → list_all p a ≡ true → IsUtf8 (a ++ rest) → BothUtf8 a rest
all_ascii p small [] rest h u = record { front = IsUtf8-nil; rest = u }
all_ascii p small (x ∷ a) rest h u =
    let parts = and_parts (p x) (list_all p a) h in
    let more = all_ascii p small a rest parts.1 (following_ascii x (a ++ rest) (small x parts.0) u) in
    record { front = IsUtf8-append (x ∷ []) a (one_ascii x (small x parts.0)) more.front; rest = more.rest }

white_utf8 : (run rest : List ℕ) → list_all is_white run ≡ true → IsUtf8 (run ++ rest) → BothUtf8 run rest
white_utf8 run rest white u = all_ascii is_white white_below run rest white u

-- Unstructured texts.
begins_white : (xs : List ℕ) → Stops is_nonwhite xs → BeginsAscii xs
begins_white [] stops = tt
begins_white (x ∷ xs) stops = white_below x (not_not (is_white x) stops)
  where
    not_not : (b : Bool) → not b ≡ false → b ≡ true
    not_not true h = refl
    not_not false h = cc h

places_utf8 : (ps : List Place) → ArePlaces ps → IsUtf8 (flat_map place_octets ps) → AllByRecursion IsUtf8Place ps
places_utf8 [] are u = tt
places_utf8 (p ∷ ps) are u =
    let rest : List ℕ = flat_map place_octets ps in
    let word = before_ascii p.word (p.run ++ rest) (begins_white (p.run ++ rest) (after_word p ps are)) (rw append_assoc at u) in
    let run = white_utf8 p.run rest are.0.white word.rest in
    (record { word = says_writable p.word p.says are.0.says word.front; run = run.front }, places_utf8 ps are.2 run.rest)

pub HasUnits-writable : (text : List ℕ) (units : List UnitValue) → IsUtf8 text → HasUnits text units → AreWritable units
HasUnits-writable text units u has =
    let both = white_utf8 has.lead (flat_map place_octets has.places) has.white (subst IsUtf8 has.whole u) in
    rw has.says (merged_writable (Text has.lead ∷ raw_units has.places) (both.front, raw_writable has.places (places_utf8 has.places has.are_places both.rest)))

-- Comments: a text stays UTF-8 where its backslashes are left out.
abbrev octets_of : List TextItem → List ℕ
octets_of items = map item_octet items

unquoted : (front : List ℕ) (items : List TextItem) → IsUtf8 (front ++ flat_map item_spelling items) → IsUtf8 (front ++ octets_of items)
unquoted front [] u = u
unquoted front (Plain x ∷ items) u =
    rw (append_assoc front (x ∷ []) (octets_of items)) at (unquoted (front ++ x ∷ []) items (rw (append_assoc front (x ∷ []) (flat_map item_spelling items)) u))
unquoted front (Pair x ∷ items) u =
    let rest : List ℕ = flat_map item_spelling items in
    let cut = before_ascii front (92 ∷ x ∷ rest) (omega arith) u in
    let whole : IsUtf8 (front ++ x ∷ rest) = IsUtf8-append front (x ∷ rest) cut.front (following_ascii 92 (x ∷ rest) (omega arith) cut.rest) in
    rw (append_assoc front (x ∷ []) (octets_of items)) at (unquoted (front ++ x ∷ []) items (rw (append_assoc front (x ∷ []) rest) whole))

white_octets : (run : List TextItem) → list_all is_white_item run ≡ true → list_all is_white (octets_of run) ≡ true
white_octets [] h = refl
white_octets (Plain x ∷ run) h =
    let parts = and_parts (is_white x) (list_all is_white_item run) h in
    and_from (is_white x) (list_all is_white (octets_of run)) parts.0 (white_octets run parts.1)
white_octets (Pair x ∷ run) h = cc h

begins_run : (run : List TextItem) (ws : List CommentWord) → list_all is_white_item run ≡ true → ItemsDivide run ws → BeginsAscii (octets_of run ++ octets_of (flat_map word_items ws))
begins_run [] [] white divides = tt
begins_run [] (w ∷ ws) white divides = absurd (omega arith)
begins_run (Plain x ∷ run) ws white divides = white_below x (and_parts (is_white x) (list_all is_white_item run) white).0
begins_run (Pair x ∷ run) ws white divides = cc white

words_utf8 : (ws : List CommentWord) → AreCommentWords ws → IsUtf8 (octets_of (flat_map word_items ws)) → AllByRecursion IsUtf8Place (comment_places ws)
words_utf8 [] are u = tt
words_utf8 (w ∷ ws) are u = by ws are.2 (says_where_writable (not (list_any has_backslash w.items)) (octets_of w.items) w.says are.0.says word.front) run.front (words_utf8 ws are.2 run.rest)
  where
    rest : List ℕ
    rest = octets_of (flat_map word_items ws)

    whole : octets_of ((w.items ++ w.run) ++ flat_map word_items ws) ≡ octets_of w.items ++ (octets_of w.run ++ rest)
    whole = rw (map-append item_octet (w.items ++ w.run) (flat_map word_items ws), map-append item_octet w.items w.run) (append_assoc (octets_of w.items) (octets_of w.run) rest)

    word : BothUtf8 (octets_of w.items) (octets_of w.run ++ rest)
    word = before_ascii (octets_of w.items) (octets_of w.run ++ rest) (begins_run w.run ws are.0.white are.1) (subst IsUtf8 whole u)

    run : BothUtf8 (octets_of w.run) rest
    run = white_utf8 (octets_of w.run) rest (white_octets w.run are.0.white) word.rest

    by : (vs : List CommentWord) → AreCommentWords vs → IsWritable (word_unit w.says (octets_of w.items)) → IsUtf8 (octets_of w.run) → AllByRecursion IsUtf8Place (comment_places vs)
        → AllByRecursion IsUtf8Place (comment_places (w ∷ vs))
    by [] are said run more = (record { word = said; run = IsUtf8-nil }, tt)
    by (v ∷ vs) are said run more = (record { word = said; run = run }, more)

pub HasCommentUnits-writable : (text : List ℕ) (units : List UnitValue) → IsUtf8 text → HasCommentUnits text units → AreWritable units
HasCommentUnits-writable text units u has =
    let words : List TextItem = flat_map word_items has.words in
    let octets = rw (map-append item_octet has.lead words) at (unquoted [] (has.lead ++ words) (subst IsUtf8 has.whole u)) in
    let both = white_utf8 (octets_of has.lead) (octets_of words) (white_octets has.lead has.white) octets in
    rw has.says (merged_writable (raw_units (comment_places has.words)) (raw_writable (comment_places has.words) (words_utf8 has.words has.are_words both.rest)))

-- Phrases.
record IsUtf8Word (w : PhraseWord) : Type 0 where
  octets : IsUtf8 w.octets
  gap : IsUtf8 w.gap

gap_utf8 : (b : Bool) → IsUtf8 (cond b (32 ∷ []) [])
gap_utf8 true = IsUtf8-from_ascii (32 ∷ []) (ascii_literal (32 ∷ []) refl)
gap_utf8 false = IsUtf8-nil

phrase_words_utf8 : (is_free : Bool) (items : List PhraseItem) → AllByRecursion IsUtf8Item items → AllByRecursion IsUtf8Word (phrase_words is_free items)
phrase_words_utf8 is_free [] all = tt
phrase_words_utf8 is_free (Separator ∷ items) all = phrase_words_utf8 true items all.1
phrase_words_utf8 is_free (Atom octets ∷ items) all = (record { octets = all.0; gap = gap_utf8 (begins_free items && has_word items) }, phrase_words_utf8 false items all.1)
phrase_words_utf8 is_free (Content octets ∷ items) all = (record { octets = all.0; gap = gap_utf8 (begins_free items && has_word items) }, phrase_words_utf8 false items all.1)
phrase_words_utf8 is_free (Dot ∷ items) all =
    (record { octets = IsUtf8-from_ascii (46 ∷ []) (ascii_literal (46 ∷ []) refl); gap = gap_utf8 (begins_free items && has_word items) }, phrase_words_utf8 false items all.1)

phrase_places_utf8 : (ws : List PhraseWord) (ps : List Place) → AllByRecursion IsUtf8Word ws → ArePhrasePlaces ws ps → AllByRecursion IsUtf8Place ps
phrase_places_utf8 [] [] all are = tt
phrase_places_utf8 [] (p ∷ ps) all are = absurd are
phrase_places_utf8 (w ∷ ws) [] all are = tt
phrase_places_utf8 (w ∷ ws) (p ∷ ps) all are =
    let is = are.0 in (
      record {
        word = rw is.word (says_where_writable w.may_be_encoded w.octets p.says is.says all.0.octets);
        run = rw is.run all.0.gap;
      },
      phrase_places_utf8 ws ps all.1 are.1,
    )

pub HasPhraseUnits-writable : (items : List PhraseItem) (units : List UnitValue) → AllByRecursion IsUtf8Item items → HasPhraseUnits items units → AreWritable units
HasPhraseUnits-writable items units all has =
    rw has.says (merged_writable (raw_units has.places) (raw_writable has.places (phrase_places_utf8 (phrase_words true items) has.places (phrase_words_utf8 true items all) has.are_places)))
