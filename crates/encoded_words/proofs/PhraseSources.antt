-- What is written of units, what the opaque units of a phrase come from, and separators around a phrase.
use Rattle.std.proofs.Common.{◌≡◌, ℕ, Bool, true, false, inl, inr, List, [], ◌∷◌, ◌++◌, Option, Some, None, map, refl, sym, ◌∙◌, subst}
use Rattle.std.proofs.lemmas.Bool.{cases_Bool}
use Rattle.std.proofs.lemmas.List.{append-nil}
use Rattle.std.specs.List.{AllByRecursion, concat}
use Rattle.std.specs.Str.{IsUtf8, str_to_ascii_lowercase}
use Rattle.encoded_words.specs.Words.{UnitValue, Text, Opaque, SaysWhere, gives_text, unit_of}
use Rattle.encoded_words.specs.Units.{Place, word_unit, raw_units, with_text, merged}
use Rattle.encoded_words.specs.PhraseUnits.{PhraseItem, Atom, Content, Dot, Separator, PhraseWord, phrase_words, ArePhrasePlaces, HasPhraseUnits, begins_free, has_word}
use Rattle.encoded_words.specs.WrittenWords.{written_word, IsChunk, AreChunks, AreWordsOf}
use Rattle.encoded_words.specs.Written.{WriteAll, AreWritable}
use Rattle.encoded_words.proofs.WrittenWords.{chunk_utf8}

-- ---- pieces

-- What is written as nothing says nothing.
no_text : (octets : List ℕ) → AreWordsOf octets [] → octets ≡ []
no_text octets are = by are.chunks are.whole are.spelled
  where
    by : (chunks : List (List ℕ)) → octets ≡ concat chunks ++ [] → [] ≡ map written_word chunks → octets ≡ []
    by [] whole spelled = whole
    by (c ∷ chunks) whole spelled = cc spelled

pub no_front : (a b : List (List ℕ)) → [] ≡ a ++ b → (a ≡ []) × (b ≡ [])
no_front [] b e = (refl, sym e)
no_front (x ∷ a) b e = cc e

pub WriteAll-nil : (us : List UnitValue) → WriteAll us [] → merged us ≡ []
WriteAll-nil [] writes = refl
WriteAll-nil (Text octets ∷ us) writes =
    let none = no_front writes.0 writes.1 writes.2 in
    let text : octets ≡ [] = no_text octets (subst (AreWordsOf octets) none.0 writes.3) in
    rw (text) (WriteAll-nil us (subst (WriteAll us) none.1 writes.4))
WriteAll-nil (Opaque charset octets source ∷ us) writes =
    let none = no_front writes.0 writes.1 writes.2 in
    let one : source ∷ [] ≡ [] = sym writes.3 ∙ none.0 in
    cc one

-- what holds of each encoded word, and of what each opaque unit comes from, holds of each piece
abbrev pub SourceHas : (List ℕ → Type 0) → UnitValue → Type 0
SourceHas P (Text octets) = Unit {0}
SourceHas P (Opaque charset octets source) = P source

written_words_have : (P : List ℕ → Type 0) → ((chunk : List ℕ) → IsUtf8 chunk → P (written_word chunk)) → (chunks more : List (List ℕ)) → AreChunks chunks [] → IsUtf8 (concat chunks)
    → AllByRecursion P more → AllByRecursion P (map written_word chunks ++ more)
written_words_have P words [] more are u all = all
written_words_have P words (c ∷ chunks) more are u all =
    let is : IsChunk c (concat chunks) = rw append-nil at are.0 in
    let both = chunk_utf8 c (concat chunks) u is in
    (words c both.0, written_words_have P words chunks more are.1 both.1 all)

pub WriteAll-each : (P : List ℕ → Type 0) → ((chunk : List ℕ) → IsUtf8 chunk → P (written_word chunk)) → (us : List UnitValue) (pieces : List (List ℕ)) → AreWritable us
    → AllByRecursion (SourceHas P) us → WriteAll us pieces → AllByRecursion P pieces
WriteAll-each P words [] pieces can have writes = rw writes tt
WriteAll-each P words (Text octets ∷ us) pieces can have writes =
    let are : AreWordsOf octets writes.0 = writes.3 in
    let whole : octets ≡ concat are.chunks = are.whole ∙ append-nil (concat are.chunks) in
    rw (writes.2, are.spelled) (written_words_have P words are.chunks writes.1 are.are_chunks (subst IsUtf8 whole can.0) (WriteAll-each P words us writes.1 can.1 have.1 writes.4))
WriteAll-each P words (Opaque charset octets source ∷ us) pieces can have writes = rw (writes.2, writes.3) ((have.0, WriteAll-each P words us writes.1 can.1 have.1 writes.4))

-- ---- sources

abbrev pub AtomHas : (List ℕ → Type 0) → PhraseItem → Type 0
AtomHas P (Atom octets) = P octets
AtomHas P (Content octets) = Unit {0}
AtomHas P Dot = Unit {0}
AtomHas P Separator = Unit {0}

abbrev WordHas : (List ℕ → Type 0) → PhraseWord → Type 0
WordHas P w = w.may_be_encoded ≡ true → P w.octets

abbrev PlaceHas : (List ℕ → Type 0) → Place → Type 0
PlaceHas P p = SourceHas P (word_unit p.says p.word)

words_have : (P : List ℕ → Type 0) (is_free : Bool) (items : List PhraseItem) → AllByRecursion (AtomHas P) items → AllByRecursion (WordHas P) (phrase_words is_free items)
words_have P is_free [] all = tt
words_have P is_free (Separator ∷ items) all = words_have P true items all.1
words_have P is_free (Atom octets ∷ items) all = ((λ e. all.0), words_have P false items all.1)
words_have P is_free (Content octets ∷ items) all = ((λ e. cc e), words_have P false items all.1)
words_have P is_free (Dot ∷ items) all = ((λ e. cc e), words_have P false items all.1)

unit_has : (P : List ℕ → Type 0) (charset octets word : List ℕ) → P word → SourceHas P (unit_of charset octets word)
unfolding unit_of
unit_has P charset octets word h = elim (cases_Bool (gives_text (str_to_ascii_lowercase charset) octets)) [
  | inl gives ↦ rw gives tt
  | inr other ↦ rw other h
]

says_have : (P : List ℕ → Type 0) (b : Bool) (word : List ℕ) (says : Option UnitValue) → (b ≡ true → P word) → SaysWhere b word says → SourceHas P (word_unit says word)
says_have P b word None h is = tt
says_have P true word (Some unit) h is = subst (SourceHas P) (sym is.says) (unit_has P is.parts.charset is.octets word (h refl))
says_have P false word (Some unit) h is = cc is

places_have : (P : List ℕ → Type 0) (ws : List PhraseWord) (ps : List Place) → AllByRecursion (WordHas P) ws → ArePhrasePlaces ws ps → AllByRecursion (PlaceHas P) ps
places_have P [] [] all are = tt
places_have P [] (p ∷ ps) all are = absurd are
places_have P (w ∷ ws) [] all are = tt
places_have P (w ∷ ws) (p ∷ ps) all are =
    let is = are.0 in
    (rw is.word (says_have P w.may_be_encoded w.octets p.says all.0 is.says), places_have P ws ps all.1 are.1)

raw_have : (P : List ℕ → Type 0) (ps : List Place) → AllByRecursion (PlaceHas P) ps → AllByRecursion (SourceHas P) (raw_units ps)
raw_have P [] all = tt
raw_have P (p ∷ ps) all = (all.0, (tt, raw_have P ps all.1))

with_text_have : (P : List ℕ → Type 0) (bs : List ℕ) (us : List UnitValue) → AllByRecursion (SourceHas P) us → AllByRecursion (SourceHas P) (with_text bs us)
with_text_have P [] us all = all
with_text_have P (b ∷ bs) [] all = (tt, tt)
with_text_have P (b ∷ bs) (Text more ∷ us) all = (tt, all.1)
with_text_have P (b ∷ bs) (Opaque charset octets source ∷ us) all = (tt, all)

pub merged_have : (P : List ℕ → Type 0) (us : List UnitValue) → AllByRecursion (SourceHas P) us → AllByRecursion (SourceHas P) (merged us)
merged_have P [] all = tt
merged_have P (Text bs ∷ us) all = with_text_have P bs (merged us) (merged_have P us all.1)
merged_have P (Opaque charset octets source ∷ us) all = (all.0, merged_have P us all.1)

-- an opaque unit comes from an atom
pub HasPhraseUnits-sources : (P : List ℕ → Type 0) (items : List PhraseItem) (us : List UnitValue) → AllByRecursion (AtomHas P) items → HasPhraseUnits items us → AllByRecursion (SourceHas P) us
HasPhraseUnits-sources P items us all has =
    rw has.says (merged_have P (raw_units has.places) (raw_have P has.places (places_have P (phrase_words true items) has.places (words_have P true items all) has.are_places)))

-- ---- separators

abbrev pub AreSeparators : List PhraseItem → Type 0
AreSeparators items = AllByRecursion (λ i. i ≡ Separator) items

words_after : (seps items : List PhraseItem) → AreSeparators seps → phrase_words true (seps ++ items) ≡ phrase_words true items
words_after [] items are = refl
words_after (s ∷ seps) items are = rw are.0 (words_after seps items are.1)

free_after : (items seps : List PhraseItem) → AreSeparators seps → begins_free (items ++ seps) ≡ begins_free items
free_after [] [] are = refl
free_after [] (s ∷ seps) are = rw are.0 refl
free_after (Separator ∷ items) seps are = refl
free_after (Atom octets ∷ items) seps are = refl
free_after (Content octets ∷ items) seps are = refl
free_after (Dot ∷ items) seps are = refl

none_there : (seps : List PhraseItem) → AreSeparators seps → has_word seps ≡ false
none_there [] are = refl
none_there (s ∷ seps) are = rw are.0 (none_there seps are.1)

word_there : (items seps : List PhraseItem) → AreSeparators seps → has_word (items ++ seps) ≡ has_word items
word_there [] seps are = none_there seps are
word_there (Separator ∷ items) seps are = word_there items seps are
word_there (Atom octets ∷ items) seps are = refl
word_there (Content octets ∷ items) seps are = refl
word_there (Dot ∷ items) seps are = refl

no_words : (is_free : Bool) (seps : List PhraseItem) → AreSeparators seps → phrase_words is_free seps ≡ []
no_words is_free [] are = refl
no_words is_free (s ∷ seps) are = rw are.0 (no_words true seps are.1)

words_before : (is_free : Bool) (items seps : List PhraseItem) → AreSeparators seps → phrase_words is_free (items ++ seps) ≡ phrase_words is_free items
words_before is_free [] seps are = no_words is_free seps are
words_before is_free (Separator ∷ items) seps are = words_before true items seps are
words_before is_free (Atom octets ∷ items) seps are = rw (words_before false items seps are, free_after items seps are, word_there items seps are) refl
words_before is_free (Content octets ∷ items) seps are = rw (words_before false items seps are, free_after items seps are, word_there items seps are) refl
words_before is_free (Dot ∷ items) seps are = rw (words_before false items seps are, free_after items seps are, word_there items seps are) refl

words_within : (lead items trail : List PhraseItem) → AreSeparators lead → AreSeparators trail → phrase_words true (lead ++ (items ++ trail)) ≡ phrase_words true items
words_within lead items trail a b = words_after lead (items ++ trail) a ∙ words_before true items trail b

-- separators at the ends of a phrase change nothing
pub HasPhraseUnits-around : (lead items trail : List PhraseItem) (us : List UnitValue) → AreSeparators lead → AreSeparators trail → HasPhraseUnits items us → HasPhraseUnits (lead ++ (items ++ trail)) us
HasPhraseUnits-around lead items trail us a b has =
    record { places = has.places; are_places = rw (words_within lead items trail a b) has.are_places; says = has.says }

pub HasPhraseUnits-within : (lead items trail : List PhraseItem) (us : List UnitValue) → AreSeparators lead → AreSeparators trail → HasPhraseUnits (lead ++ (items ++ trail)) us → HasPhraseUnits items us
HasPhraseUnits-within lead items trail us a b has =
    record { places = has.places; are_places = rw (words_within lead items trail a b) at has.are_places; says = has.says }
