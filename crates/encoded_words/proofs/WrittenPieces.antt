-- The pieces of a comment's units hold no parenthesis and no backslash, and there are some where the text is not white.
use Rattle.std.proofs.Common.{◌≡◌, ◌==◌, ℕ, ◌<◌, Bool, true, false, ◌&&◌, ◌||◌, ◌⊎◌, not, inl, inr, List, [], ◌∷◌, ◌++◌, length, map, Option, Some, None, refl, sym, ap, ◌∙◌, subst, arith}
use Rattle.std.proofs.lemmas.Bool.{and_parts, and_from, both_ways, cases_Bool}
use Rattle.std.proofs.lemmas.Bool.Decides.{nat_tests}
use Rattle.std.proofs.lemmas.List.{append-nil, length-append, length-map}
use Rattle.std.proofs.lemmas.List.Folds.{list_all-append}
use Rattle.std.specs.List.{AllByRecursion, list_all, list_any, flat_map, concat, join_with_byte}
use Rattle.std.specs.Str.{IsUtf8, str_to_ascii_lowercase}
use Rattle.std.specs.Char.{to_ascii_uppercase}
use Rattle.base64.specs.Engines.{standard}
use Rattle.base64.specs.GeneralPurpose.{encode_of}
use Rattle.mail_wire.proofs.AllLemmas.{all-append, pass-append}
use Rattle.encoded_words.specs.Words.{UnitValue, Text, Opaque, IsEncodedWord, IsTextOf, q_spelling, q_octet, QItem, SaysWhere, is_visible, gives_text, unit_of}
use Rattle.encoded_words.specs.Units.{word_unit, raw_units, with_text, merged}
use Rattle.encoded_words.specs.CommentUnits.{TextItem, Plain, Pair, AreTextItems, item_spelling, item_octet, has_backslash, is_white_item, CommentWord, word_items, AreCommentWords, comment_places, HasCommentUnits}
use Rattle.encoded_words.specs.WrittenWords.{is_safe_octet, written_word, IsChunk, AreChunks, AreWordsOf}
use Rattle.encoded_words.specs.Written.{WriteAll, AreUnits, AreWritable}
use Rattle.encoded_words.proofs.WrittenWords.{written_word-all, written_word_some, length-encode_of, chunk_utf8}
use Rattle.encoded_words.proofs.EncodedOctets.{encoded_all, encoded_some}
use Rattle.encoded_words.proofs.CommentLemmas.{items_once}

-- no parenthesis and no backslash
abbrev pub is_no_mark : ℕ → Bool
is_no_mark x = not (x == 40) && (not (x == 41) && not (x == 92))

-- ... and visible
abbrev pub is_plain : ℕ → Bool
is_plain x = is_visible x && is_no_mark x

pub record IsPlainPiece (piece : List ℕ) : Type 0 where
  pub some : 0 < length piece
  pub plain : list_all is_plain piece ≡ true

-- what an opaque unit comes from holds these octets only
abbrev pub HoldsSource : (ℕ → Bool) → UnitValue → Type 0
HoldsSource p (Text octets) = Unit {0}
HoldsSource p (Opaque charset octets source) = list_all p source ≡ true

-- the item is a quoted pair, or the octet passes
abbrev pub passes_alone : (ℕ → Bool) → TextItem → Bool
passes_alone p (Plain x) = p x
passes_alone p (Pair x) = true

item_parts : (q : TextItem → Bool) (xs ys : List TextItem) → list_all q (xs ++ ys) ≡ true → (list_all q xs ≡ true) × (list_all q ys ≡ true)
item_parts q xs ys h = and_parts (list_all q xs) (list_all q ys) (sym (list_all-append q xs ys) ∙ h)

-- Sources.
unit_source : (p : ℕ → Bool) (charset octets word : List ℕ) → list_all p word ≡ true → HoldsSource p (unit_of charset octets word)
unfolding unit_of
unit_source p charset octets word h = elim (cases_Bool (gives_text (str_to_ascii_lowercase charset) octets)) [
  | inl gives ↦ rw gives tt
  | inr other ↦ rw other h
]

alone_octets : (p : ℕ → Bool) (items : List TextItem) → list_any has_backslash items ≡ false → list_all (passes_alone p) items ≡ true → list_all p (map item_octet items) ≡ true
alone_octets p [] none h = refl
alone_octets p (Plain x ∷ items) none h =
    let parts = and_parts (p x) (list_all (passes_alone p) items) h in
    and_from (p x) (list_all p (map item_octet items)) parts.0 (alone_octets p items (later (x == 92) (list_any has_backslash items) none) parts.1)
  where
    later : (a b : Bool) → (a || b) ≡ false → b ≡ false
    later true b e = cc e
    later false b e = e
alone_octets p (Pair x ∷ items) none h = cc none

says_source : (p : ℕ → Bool) (items : List TextItem) (says : Option UnitValue) → SaysWhere (not (list_any has_backslash items)) (map item_octet items) says → list_all (passes_alone p) items ≡ true
    → HoldsSource p (word_unit says (map item_octet items))
says_source p items None is h = tt
says_source p items (Some unit) is h = elim (cases_Bool (list_any has_backslash items)) [
  | inl some ↦ cc (rw some at is)
  | inr none ↦
      let w : IsEncodedWord (map item_octet items) unit = rw none at is in
      rw (w.says) (unit_source p w.parts.charset w.octets (map item_octet items) (alone_octets p items none h))
]

words_source : (p : ℕ → Bool) (ws : List CommentWord) → AreCommentWords ws → list_all (passes_alone p) (flat_map word_items ws) ≡ true → AllByRecursion (HoldsSource p) (raw_units (comment_places ws))
words_source p [] are h = tt
words_source p (w ∷ []) are h =
    let here = item_parts (passes_alone p) (word_items w) [] h in
    (says_source p w.items w.says are.0.says (item_parts (passes_alone p) w.items w.run here.0).0, (tt, tt))
words_source p (w ∷ v ∷ ws) are h =
    let here = item_parts (passes_alone p) (word_items w) (flat_map word_items (v ∷ ws)) h in
    (says_source p w.items w.says are.0.says (item_parts (passes_alone p) w.items w.run here.0).0, (tt, words_source p (v ∷ ws) are.2 here.1))

with_text_source : (p : ℕ → Bool) (bs : List ℕ) (us : List UnitValue) → AllByRecursion (HoldsSource p) us → AllByRecursion (HoldsSource p) (with_text bs us)
with_text_source p [] us all = all
with_text_source p (b ∷ bs) [] all = (tt, tt)
with_text_source p (b ∷ bs) (Text more ∷ us) all = (tt, all.1)
with_text_source p (b ∷ bs) (Opaque charset octets source ∷ us) all = (tt, all)

merged_source : (p : ℕ → Bool) (us : List UnitValue) → AllByRecursion (HoldsSource p) us → AllByRecursion (HoldsSource p) (merged us)
merged_source p [] all = tt
merged_source p (Text bs ∷ us) all = with_text_source p bs (merged us) (merged_source p us all.1)
merged_source p (Opaque charset octets source ∷ us) all = (all.0, merged_source p us all.1)

pub HasCommentUnits-sources : (p : ℕ → Bool) (items : List TextItem) (units : List UnitValue) → AreTextItems items → list_all (passes_alone p) items ≡ true → HasCommentUnits (flat_map item_spelling items) units
    → AllByRecursion (HoldsSource p) units
HasCommentUnits-sources p items units are h has =
    let words : List TextItem = flat_map word_items has.words in
    let same : items ≡ has.lead ++ words = items_once items (has.lead ++ words) are has.are_items has.whole in
    rw (has.says) (merged_source p (raw_units (comment_places has.words)) (words_source p has.words has.are_words (item_parts (passes_alone p) has.lead words (subst (λ xs. list_all (passes_alone p) xs ≡ true) same h)).1))

-- The pieces of units.
plain_safe : (x : ℕ) → is_safe_octet x ≡ true → is_plain x ≡ true
plain_safe x h = grind (arith, nat_tests)

pub written_word-plain : (chunk : List ℕ) → IsUtf8 chunk → IsPlainPiece (written_word chunk)
written_word-plain chunk u = record { some = written_word_some chunk; plain = written_word-all is_plain (record { safe = plain_safe; marks = refl }) chunk u }

visible_letter : (x : ℕ) → (to_ascii_uppercase x ≡ 66) ⊎ (to_ascii_uppercase x ≡ 81) → is_visible x ≡ true
visible_letter x (inl h) = grind (arith, nat_tests)
visible_letter x (inr h) = grind (arith, nat_tests)

pub both_hold : (p q : ℕ → Bool) (xs : List ℕ) → list_all p xs ≡ true → list_all q xs ≡ true → list_all (λ x. p x && q x) xs ≡ true
both_hold p q [] a b = refl
both_hold p q (x ∷ xs) a b =
    let here = and_parts (p x) (list_all p xs) a in
    let there = and_parts (q x) (list_all q xs) b in
    and_from (p x && q x) (list_all (λ x. p x && q x) xs) (and_from (p x) (q x) here.0 there.0) (both_hold p q xs here.1 there.1)

source_plain : (source : List ℕ) (unit : UnitValue) → IsEncodedWord source unit → list_all is_no_mark source ≡ true → IsPlainPiece source
source_plain source unit is h =
    let visible : list_all is_visible source ≡ true
    = encoded_all is_visible (record { name = λ x n. (and_parts (is_visible x) _ n).0; text = λ x t. (and_parts (is_visible x) _ t).0; letter = visible_letter; marks = refl }) source unit is in
    record { some = encoded_some source unit is; plain = both_hold is_visible is_no_mark source visible h }

chunks_plain : (chunks : List (List ℕ)) → AreChunks chunks [] → IsUtf8 (concat chunks) → AllByRecursion IsPlainPiece (map written_word chunks)
chunks_plain [] are u = tt
chunks_plain (chunk ∷ chunks) are u =
    let is : IsChunk chunk (concat chunks) = rw append-nil at are.0 in
    let both = chunk_utf8 chunk (concat chunks) u is in
    (written_word-plain chunk both.0, chunks_plain chunks are.1 both.1)

pub WriteAll-plain : (us : List UnitValue) (pieces : List (List ℕ)) → AreWritable us → AllByRecursion (HoldsSource is_no_mark) us → WriteAll us pieces → AllByRecursion IsPlainPiece pieces
WriteAll-plain [] pieces can all writes = rw writes tt
WriteAll-plain (Text octets ∷ us) pieces can all writes =
    let are : AreWordsOf octets writes.0 = writes.3 in
    let whole : octets ≡ concat are.chunks = are.whole ∙ append-nil (concat are.chunks) in
    rw (writes.2, are.spelled) (all-append IsPlainPiece (map written_word are.chunks) writes.1 (chunks_plain are.chunks are.are_chunks (subst IsUtf8 whole can.0)) (WriteAll-plain us writes.1 can.1 all.1 writes.4))
WriteAll-plain (Opaque charset octets source ∷ us) pieces can all writes =
    rw (writes.2, writes.3) (source_plain source (Opaque charset octets source) can.0 all.0, WriteAll-plain us writes.1 can.1 all.1 writes.4)

-- Text that is not white gives units.
q_some : (items : List QItem) → 0 < length (flat_map q_spelling items) → 0 < length (map q_octet items)
q_some [] h = absurd (omega (arith, h))
q_some (i ∷ items) h = omega arith

encode_nothing : (octets text : List ℕ) → text ≡ encode_of standard octets → 0 < length text → 0 < length octets
encode_nothing [] text e h = omega (arith, ap length e, length-encode_of [])
encode_nothing (x ∷ octets) text e h = omega arith

text_some : (letter : ℕ) (text octets : List ℕ) → IsTextOf letter text octets → 0 < length text → 0 < length octets
text_some letter text octets (inl b) h = encode_nothing octets text b.1.1 h
text_some letter text octets (inr q) h =
    let items = q.1.0 in
    let spelled : 0 < length (flat_map q_spelling items) = rw (q.1.2) at h in
    rw (q.1.3) (q_some items spelled)

-- no text without octets
abbrev SaysSome : UnitValue → Type 0
SaysSome (Text octets) = 0 < length octets
SaysSome (Opaque charset octets source) = Unit {0}

unit_some : (charset octets word : List ℕ) → 0 < length octets → SaysSome (unit_of charset octets word)
unfolding unit_of
unit_some charset octets word h = elim (cases_Bool (gives_text (str_to_ascii_lowercase charset) octets)) [
  | inl gives ↦ rw gives h
  | inr other ↦ rw other tt
]

word_some : (b : Bool) (word : List ℕ) (says : Option UnitValue) → SaysWhere b word says → 0 < length word → SaysSome (word_unit says word)
word_some b word None is h = h
word_some false word (Some unit) is h = cc is
word_some true word (Some unit) is h = rw (is.says) (unit_some is.parts.charset is.octets word (text_some is.parts.letter is.parts.text is.octets is.spells is.has_parts.text.0))

with_text_some : (bs : List ℕ) (us : List UnitValue) → 0 < length bs → 0 < length (with_text bs us)
with_text_some [] us h = absurd (omega (arith, h))
with_text_some (b ∷ bs) [] h = omega arith
with_text_some (b ∷ bs) (Text more ∷ us) h = omega arith
with_text_some (b ∷ bs) (Opaque charset octets source ∷ us) h = omega arith

merged_some : (u : UnitValue) (us : List UnitValue) → SaysSome u → 0 < length (merged (u ∷ us))
merged_some (Text octets) us h = with_text_some octets (merged us) h
merged_some (Opaque charset octets source) us h = omega arith

words_some : (w : CommentWord) (ws : List CommentWord) → AreCommentWords (w ∷ ws) → 0 < length (merged (raw_units (comment_places (w ∷ ws))))
words_some w ws are = by ws
  where
    first : SaysSome (word_unit w.says (map item_octet w.items))
    first = word_some (not (list_any has_backslash w.items)) (map item_octet w.items) w.says are.0.says (omega (arith, are.0.is_word, length-map w.items item_octet))

    by : (ws : List CommentWord) → 0 < length (merged (raw_units (comment_places (w ∷ ws))))
    by [] = merged_some (word_unit w.says (map item_octet w.items)) _ first
    by (v ∷ ws) = merged_some (word_unit w.says (map item_octet w.items)) _ first

all_white : (i : TextItem) (items lead : List TextItem) → is_white_item i ≡ false → list_all is_white_item lead ≡ true → i ∷ items ≡ lead ++ [] → ⊥
all_white i items [] nonwhite white e = cc e
all_white i items (j ∷ lead) nonwhite white e =
    let same : i ≡ j = cc e in
    both_ways (is_white_item j) (ap is_white_item (sym same) ∙ nonwhite) (and_parts (is_white_item j) (list_all is_white_item lead) white).0

pub HasCommentUnits-not_empty : (i : TextItem) (items : List TextItem) (units : List UnitValue) → AreTextItems (i ∷ items) → is_white_item i ≡ false → HasCommentUnits (flat_map item_spelling (i ∷ items)) units
    → 0 < length units
HasCommentUnits-not_empty i items units are nonwhite has = by has.words has.are_words (items_once (i ∷ items) (has.lead ++ flat_map word_items has.words) are has.are_items has.whole) has.says
  where
    by : (ws : List CommentWord) → AreCommentWords ws → i ∷ items ≡ has.lead ++ flat_map word_items ws → units ≡ merged (raw_units (comment_places ws)) → 0 < length units
    by [] words same says = absurd (all_white i items has.lead nonwhite has.white same)
    by (w ∷ ws) words same says = rw says (words_some w ws words)

-- No text of units is empty, so they have pieces.
with_text_says : (bs : List ℕ) (us : List UnitValue) → AllByRecursion SaysSome us → AllByRecursion SaysSome (with_text bs us)
with_text_says [] us all = all
with_text_says (b ∷ bs) [] all = (omega arith, tt)
with_text_says (b ∷ bs) (Text more ∷ us) all = (omega arith, all.1)
with_text_says (b ∷ bs) (Opaque charset octets source ∷ us) all = (omega arith, all)

merged_says : (us : List UnitValue) → AllByRecursion SaysSome (merged us)
merged_says [] = tt
merged_says (Text bs ∷ us) = with_text_says bs (merged us) (merged_says us)
merged_says (Opaque charset octets source ∷ us) = (tt, merged_says us)

words_there : (octets : List ℕ) (chunks words : List (List ℕ)) → octets ≡ concat chunks ++ [] → words ≡ map written_word chunks → 0 < length octets → 0 < length words
words_there octets [] words whole spelled h = absurd (omega (arith, h, ap length whole))
words_there octets (chunk ∷ chunks) words whole spelled h = rw spelled (omega arith)

pieces_there : (us : List UnitValue) (pieces : List (List ℕ)) → AllByRecursion SaysSome us → 0 < length us → WriteAll us pieces → 0 < length pieces
pieces_there [] pieces all h writes = absurd (omega (arith, h))
pieces_there (Text octets ∷ us) pieces all h writes =
    let are : AreWordsOf octets writes.0 = writes.3 in
    let first = words_there octets are.chunks writes.0 are.whole are.spelled all.0 in
    omega (arith, first, ap length writes.2, length-append writes.0 writes.1)
pieces_there (Opaque charset octets source ∷ us) pieces all h writes =
    omega (arith, ap length writes.2, length-append writes.0 writes.1, ap length writes.3)

pub WriteAll-some_piece : (us : List UnitValue) (pieces : List (List ℕ)) → AreUnits us → 0 < length us → WriteAll us pieces → 0 < length pieces
WriteAll-some_piece us pieces are h writes = pieces_there us pieces (subst (AllByRecursion SaysSome) are (merged_says us)) h writes

-- What holds of each piece, and of a space, holds of the pieces with a space between two.
pub joined_all : (p : ℕ → Bool) → p 32 ≡ true → (pieces : List (List ℕ)) → AllByRecursion (λ w. list_all p w ≡ true) pieces → list_all p (join_with_byte 32 pieces) ≡ true
joined_all p space [] all = refl
joined_all p space (w ∷ []) all = all.0
joined_all p space (w ∷ v ∷ ws) all =
    pass-append p w (32 ∷ join_with_byte 32 (v ∷ ws)) all.0 (and_from (p 32) (list_all p (join_with_byte 32 (v ∷ ws))) space (joined_all p space (v ∷ ws) all.1))
