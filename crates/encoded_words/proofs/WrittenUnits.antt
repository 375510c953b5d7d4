-- Units that are written are read back.
use Rattle.std.proofs.Common.{◌≡◌, ℕ, ◌<◌, true, not, List, [], ◌∷◌, ◌++◌, length, map, Some, refl, sym, ap, ◌∙◌, subst, arith}
use Rattle.std.proofs.lemmas.Bool.{and_parts}
use Rattle.std.proofs.lemmas.List.{append_assoc, append-nil, append_cancel_left, nil_from_length, map-append}
use Rattle.std.specs.List.{list_all, flat_map, concat, join_with_byte}
use Rattle.std.specs.Str.{IsUtf8}
use Rattle.mail_wire.specs.Octets.{is_white}
use Rattle.encoded_words.specs.Words.{UnitValue, Text, Opaque, IsEncodedWord}
use Rattle.encoded_words.specs.Units.{Place, ArePlaces, Divides, HasUnits, place_octets, raw_units, run_text, begins_encoded, merged, with_text}
use Rattle.encoded_words.specs.CommentUnits.{Plain, is_white_item, CommentWord, word_items, ItemsDivide, AreCommentWords, comment_places, HasCommentUnits}
use Rattle.encoded_words.specs.PhraseUnits.{has_word, separated, phrase_words, ArePhrasePlaces, HasPhraseUnits}
use Rattle.encoded_words.specs.WrittenWords.{written_word, IsChunk, AreChunks, AreWordsOf, AreFirstWords, AddsWords, ReadBack, AreShort}
use Rattle.encoded_words.specs.Written.{WriteAll, AreUnits, AreWritable, has_no_backslash}
use Rattle.encoded_words.proofs.WrittenWords.{written_word-says, chunk_utf8, AreShort-written_words}
use Rattle.encoded_words.proofs.PlainItems.{plain_octets, plain_spelling, plain_items, plain_no_backslash, no_backslash_parts}
use Rattle.encoded_words.proofs.EncodedOctets.{encoded_nonwhite, encoded_some}
use Rattle.encoded_words.proofs.Reading.{merged-onto}
use Rattle.encoded_words.proofs.WithText.{with_text-append}

-- each piece is an encoded word that says its unit
abbrev Say : List (List ℕ) → List UnitValue → Type 0
Say [] [] = Unit {0}
Say [] (u ∷ us) = ⊥
Say (w ∷ ws) [] = ⊥
Say (w ∷ ws) (u ∷ us) = IsEncodedWord w u × Say ws us

-- encoded words say their chunks, and units that touch are put together
record Spoken (pieces : List (List ℕ)) (units : List UnitValue) : Type 0 where
  says : List UnitValue
  say : Say pieces says
  same : merged says ≡ merged units

spoken_text : (chunks : List (List ℕ)) (more : List (List ℕ)) (us : List UnitValue) → AreChunks chunks [] → IsUtf8 (concat chunks) → Spoken more us
    → Spoken (map written_word chunks ++ more) (Text (concat chunks) ∷ us)
spoken_text [] more us are u s = record { says = s.says; say = s.say; same = s.same }
spoken_text (c ∷ cs) more us are u s =
    let is : IsChunk c (concat cs) = rw append-nil at are.0 in
    let both = chunk_utf8 c (concat cs) u is in
    let rest = spoken_text cs more us are.1 both.1 s in
    record {
      says = Text c ∷ rest.says;
      say = (written_word-says c both.0 is.some is.fits, rest.say);
      same = ap (with_text c) rest.same ∙ with_text-append c (concat cs) (merged us);
    }

spoken : (us : List UnitValue) (pieces : List (List ℕ)) → AreWritable us → WriteAll us pieces → Spoken pieces us
spoken [] pieces can writes = rw writes (record { says = []; say = tt; same = refl })
spoken (Text octets ∷ us) pieces can writes =
    let are : AreWordsOf octets writes.0 = writes.3 in
    let whole : octets ≡ concat are.chunks = are.whole ∙ append-nil (concat are.chunks) in
    rw (writes.2, are.spelled, whole) (spoken_text are.chunks writes.1 us are.are_chunks (subst IsUtf8 whole can.0) (spoken us writes.1 can.1 writes.4))
spoken (Opaque charset octets source ∷ us) pieces can writes =
    let s = spoken us writes.1 can.1 writes.4 in
    rw (writes.2, writes.3) (record {
      says = Opaque charset octets source ∷ s.says;
      say = (can.0, s.say);
      same = ap (λ vs. Opaque charset octets source ∷ vs) s.same;
    })

-- Encoded words with a space between two, as an unstructured text.
abbrev gap : List (List ℕ) → List ℕ
gap [] = []
gap (w ∷ ws) = 32 ∷ []

abbrev places_of : List (List ℕ) → List UnitValue → List Place
places_of [] us = []
places_of (w ∷ ws) [] = []
places_of (w ∷ ws) (u ∷ us) = record { word = w; says = Some u; run = gap ws } ∷ places_of ws us

gap_white : (ws : List (List ℕ)) → list_all is_white (gap ws) ≡ true
gap_white [] = refl
gap_white (w ∷ ws) = refl

gap_divides : (ws : List (List ℕ)) (us : List UnitValue) → Divides (gap ws) (places_of ws us)
gap_divides [] us = tt
gap_divides (w ∷ ws) [] = tt
gap_divides (w ∷ ws) (u ∷ us) = omega arith

ArePlaces-of : (ws : List (List ℕ)) (us : List UnitValue) → Say ws us → ArePlaces (places_of ws us)
ArePlaces-of [] us say = tt
ArePlaces-of (w ∷ ws) [] say = tt
ArePlaces-of (w ∷ ws) (u ∷ us) say = (
  record { is_word = encoded_some w u say.0; nonwhite = encoded_nonwhite w u say.0; white = gap_white ws; says = say.0 },
  gap_divides ws us,
  ArePlaces-of ws us say.1,
)

octets-places_of : (ws : List (List ℕ)) (us : List UnitValue) → Say ws us → flat_map place_octets (places_of ws us) ≡ join_with_byte 32 ws
octets-places_of [] us say = refl
octets-places_of (w ∷ ws) [] say = absurd say
octets-places_of (w ∷ []) (u ∷ us) say = append-nil (w ++ []) ∙ append-nil w
octets-places_of (w ∷ v ∷ ws) (u ∷ us) say = rw (octets-places_of (v ∷ ws) us say.1) (append_assoc w (32 ∷ []) (join_with_byte 32 (v ∷ ws)))

-- the run between two words, and the end, give nothing
no_run : (w : List ℕ) (u : UnitValue) (ws : List (List ℕ)) (us : List UnitValue) → Say ws us
    → run_text (record { word = w; says = Some u; run = gap ws }) (begins_encoded (places_of ws us)) ≡ []
no_run w u [] us say = refl
no_run w u (v ∷ ws) [] say = absurd say
no_run w u (v ∷ ws) (x ∷ us) say = refl

merged-places_of : (ws : List (List ℕ)) (us : List UnitValue) → Say ws us → merged (raw_units (places_of ws us)) ≡ merged us
merged-places_of [] [] say = refl
merged-places_of [] (u ∷ us) say = absurd say
merged-places_of (w ∷ ws) [] say = absurd say
merged-places_of (w ∷ ws) (u ∷ us) say =
    rw (
      merged-onto u (Text (run_text (record { word = w; says = Some u; run = gap ws }) (begins_encoded (places_of ws us))) ∷ raw_units (places_of ws us)),
      no_run w u ws us say.1,
      merged-places_of ws us say.1,
    ) (sym (merged-onto u us))

HasUnits-merged : (us : List UnitValue) (pieces : List (List ℕ)) → AreWritable us → WriteAll us pieces → HasUnits (join_with_byte 32 pieces) (merged us)
HasUnits-merged us pieces can writes =
    let s = spoken us pieces can writes in
    record {
      lead = [];
      places = places_of pieces s.says;
      white = refl;
      are_places = ArePlaces-of pieces s.says s.say;
      whole = sym (octets-places_of pieces s.says s.say);
      says = sym s.same ∙ sym (merged-places_of pieces s.says s.say);
    }

pub HasUnits-written : (us : List UnitValue) (pieces : List (List ℕ)) → AreUnits us → AreWritable us → WriteAll us pieces → HasUnits (join_with_byte 32 pieces) us
HasUnits-written us pieces are can writes = subst (HasUnits (join_with_byte 32 pieces)) are (HasUnits-merged us pieces can writes)

-- ... as the text of a comment.
plain_nonwhite : (xs : List ℕ) → list_all (λ x. not (is_white x)) xs ≡ true → list_all (λ i. not (is_white_item i)) (map Plain xs) ≡ true
plain_nonwhite [] h = refl
plain_nonwhite (x ∷ xs) h =
    let parts = and_parts (not (is_white x)) (list_all (λ x. not (is_white x)) xs) h in rw (parts.0) (plain_nonwhite xs parts.1)

plain_some : (xs : List ℕ) → 0 < length xs → 0 < length (map Plain xs)
plain_some [] h = absurd (omega arith)
plain_some (x ∷ xs) h = omega arith

abbrev words_of : List (List ℕ) → List UnitValue → List CommentWord
words_of [] us = []
words_of (w ∷ ws) [] = []
words_of (w ∷ ws) (u ∷ us) = record { items = map Plain w; says = Some u; run = map Plain (gap ws) } ∷ words_of ws us

items_divide : (ws : List (List ℕ)) (us : List UnitValue) → ItemsDivide (map Plain (gap ws)) (words_of ws us)
items_divide [] us = tt
items_divide (w ∷ ws) [] = tt
items_divide (w ∷ ws) (u ∷ us) = omega arith

gap_items : (ws : List (List ℕ)) → list_all is_white_item (map Plain (gap ws)) ≡ true
gap_items [] = refl
gap_items (w ∷ ws) = refl

-- neither the first piece nor the others have a backslash
quotes : (w : List ℕ) (ws : List (List ℕ)) → has_no_backslash (join_with_byte 32 (w ∷ ws)) ≡ true
    → (has_no_backslash w ≡ true) × (has_no_backslash (join_with_byte 32 ws) ≡ true)
quotes w [] none = (none, refl)
quotes w (v ∷ ws) none =
    let parts = no_backslash_parts w (32 ∷ join_with_byte 32 (v ∷ ws)) none in (parts.0, parts.1)

AreCommentWords-of : (ws : List (List ℕ)) (us : List UnitValue) → has_no_backslash (join_with_byte 32 ws) ≡ true → Say ws us → AreCommentWords (words_of ws us)
AreCommentWords-of [] us none say = tt
AreCommentWords-of (w ∷ ws) [] none say = tt
AreCommentWords-of (w ∷ ws) (u ∷ us) none say = (
  record {
    is_word = plain_some w (encoded_some w u say.0);
    nonwhite = plain_nonwhite w (encoded_nonwhite w u say.0);
    white = gap_items ws;
    says = rw (plain_no_backslash w (quotes w ws none).0, plain_octets w) say.0;
  },
  items_divide ws us,
  AreCommentWords-of ws us (quotes w ws none).1 say.1,
)

items-words_of : (ws : List (List ℕ)) (us : List UnitValue) → Say ws us → flat_map word_items (words_of ws us) ≡ map Plain (join_with_byte 32 ws)
items-words_of [] us say = refl
items-words_of (w ∷ ws) [] say = absurd say
items-words_of (w ∷ []) (u ∷ us) say = append-nil (map Plain w ++ []) ∙ append-nil (map Plain w)
items-words_of (w ∷ v ∷ ws) (u ∷ us) say =
    rw (items-words_of (v ∷ ws) us say.1) (append_assoc (map Plain w) (Plain 32 ∷ []) (map Plain (join_with_byte 32 (v ∷ ws))) ∙ sym (map-append Plain w (32 ∷ join_with_byte 32 (v ∷ ws))))

comment-places_of : (ws : List (List ℕ)) (us : List UnitValue) → Say ws us → comment_places (words_of ws us) ≡ places_of ws us
comment-places_of [] us say = refl
comment-places_of (w ∷ ws) [] say = absurd say
comment-places_of (w ∷ []) (u ∷ us) say = rw (plain_octets w) refl
comment-places_of (w ∷ v ∷ ws) (u ∷ []) say = absurd say.1
comment-places_of (w ∷ v ∷ ws) (u ∷ x ∷ us) say = rw (plain_octets w, comment-places_of (v ∷ ws) (x ∷ us) say.1) refl

pub HasCommentUnits-written : (us : List UnitValue) (pieces : List (List ℕ)) → AreUnits us → AreWritable us → WriteAll us pieces → has_no_backslash (join_with_byte 32 pieces) ≡ true
    → HasCommentUnits (join_with_byte 32 pieces) us
HasCommentUnits-written us pieces are can writes none =
    let s = spoken us pieces can writes in
    let text : List ℕ = join_with_byte 32 pieces in
    let items = items-words_of pieces s.says s.say in
    record {
      lead = [];
      words = words_of pieces s.says;
      white = refl;
      are_words = AreCommentWords-of pieces s.says none s.say;
      are_items = rw items (plain_items text none);
      whole = rw items (sym (plain_spelling text));
      says = sym are ∙ sym s.same ∙ sym (merged-places_of pieces s.says s.say) ∙ ap (λ ps. merged (raw_units ps)) (sym (comment-places_of pieces s.says s.say));
    }

-- ... as the atoms of a phrase.
separated_word : (w : List ℕ) (ws : List (List ℕ)) → has_word (separated (w ∷ ws)) ≡ true
separated_word w [] = refl
separated_word w (v ∷ ws) = refl

ArePhrasePlaces-of : (ws : List (List ℕ)) (us : List UnitValue) → Say ws us → ArePhrasePlaces (phrase_words true (separated ws)) (places_of ws us)
ArePhrasePlaces-of [] us say = tt
ArePhrasePlaces-of (w ∷ ws) [] say = absurd say
ArePhrasePlaces-of (w ∷ []) (u ∷ us) say = (record { word = refl; says = say.0; run = refl }, tt)
ArePhrasePlaces-of (w ∷ v ∷ ws) (u ∷ us) say = (record { word = refl; says = say.0; run = rw (separated_word v ws) refl }, ArePhrasePlaces-of (v ∷ ws) us say.1)

pub HasPhraseUnits-written : (us : List UnitValue) (pieces : List (List ℕ)) → AreUnits us → AreWritable us → WriteAll us pieces → HasPhraseUnits (separated pieces) us
HasPhraseUnits-written us pieces are can writes =
    let s = spoken us pieces can writes in
    record {
      places = places_of pieces s.says;
      are_places = ArePhrasePlaces-of pieces s.says s.say;
      says = sym are ∙ sym s.same ∙ sym (merged-places_of pieces s.says s.say);
    }

-- What the writer of encoded words added is read back as the text.
pub ReadBack-added : (text rest : List ℕ) (old new words : List (List ℕ)) → IsUtf8 text → AddsWords text old new rest → length rest ≡ 0 → new ≡ old ++ words → ReadBack text words
ReadBack-added text rest old new words u adds end new_is =
    let same : adds.words ≡ words = append_cancel_left old adds.words words (sym adds.added ∙ new_is) in
    let nil : rest ≡ [] = nil_from_length rest end in
    let are : AreWordsOf text words = subst (λ ws. AreFirstWords text ws []) same (subst (AreFirstWords text adds.words) nil adds.are_words) in
    let whole : text ≡ concat are.chunks = are.whole ∙ append-nil (concat are.chunks) in
    let writes : WriteAll (Text text ∷ []) words = (words, [], sym (append-nil words), are, refl) in
    record {
      short = subst AreShort (sym are.spelled) (AreShort-written_words are.chunks are.are_chunks (subst IsUtf8 whole u));
      units = HasUnits-merged (Text text ∷ []) words (u, tt) writes;
    }
