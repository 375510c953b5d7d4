-- A `Downgraded-` field is ASCII, and says the value that it keeps.
use Rattle.std.proofs.Common.{◌≡◌, ℕ, ◌<◌, Bool, true, not, List, [], ◌∷◌, ◌++◌, length, map, codes, refl, sym, ap, ◌∙◌, subst, arith, ◌⊎◌, inl, inr}
use Rattle.std.proofs.lemmas.Bool.{and_parts, not-true}
use Rattle.std.proofs.lemmas.Bool.Decides.{nat_tests}
use Rattle.std.proofs.lemmas.List.{append_assoc, append-nil}
use Rattle.std.specs.List.{AllByRecursion, list_all, flat_map, concat, join_with_byte}
use Rattle.std.specs.Str.{IsUtf8}
use Rattle.std.specs.Char.{to_ascii_uppercase}
use Rattle.mail_wire.specs.Octets.{is_ascii, is_nonwhite, is_white, is_line_end, is_field_name_octet}
use Rattle.mail_wire.specs.Lines.{crlf}
use Rattle.mail_wire.specs.Folds.{unfolded}
use Rattle.mail_wire.specs.Spans.{Stops, StopsAfter, IsTrimmed}
use Rattle.mail_wire.proofs.Unfolded.{unfolded-fold, unfolded-other, unfolded-nil}
use Rattle.mail_wire.proofs.AllLemmas.{pass-weaker, pass-append}
use Rattle.mail_wire.proofs.OctetLemmas.{no_fold}
use Rattle.encoded_words.specs.Words.{UnitValue, Text, IsEncodedWord, is_token_octet as is_charset_octet, is_text_octet}
use Rattle.encoded_words.specs.Units.{HasUnits, merged}
use Rattle.encoded_words.specs.WrittenWords.{written_word, AreWordsOf, AreChunks, IsChunk}
use Rattle.encoded_words.specs.Folding.{Piece, made_body, word_pieces, AddsWordLines}
use Rattle.encoded_words.specs.Written.{WriteAll}
use Rattle.encoded_words.proofs.WrittenWords.{written_word-says, chunk_utf8}
use Rattle.encoded_words.proofs.Chunks.{AreWordsOf-once}
use Rattle.encoded_words.proofs.EncodedOctets.{encoded_all, encoded_ascii, encoded_nonwhite, encoded_some}
use Rattle.encoded_words.proofs.WrittenUnits.{HasUnits-written}
use Rattle.encapsulated_fields.specs.Encapsulated.{IsFieldName, downgraded_name, field_of, Encapsulates, FieldSays}

-- an octet that is neither CR nor LF
abbrev in_line : ℕ → Bool
in_line x = not (is_line_end x)

-- what is known of the octets of an encoded word
record IsWord (w : List ℕ) : Type 0 where
  some : 0 < length w
  nonwhite : list_all is_nonwhite w ≡ true
  line : list_all in_line w ≡ true
  ascii : list_all is_ascii w ≡ true

line_charset : (x : ℕ) → is_charset_octet x ≡ true → in_line x ≡ true
line_charset x h = grind (arith, nat_tests)

line_text : (x : ℕ) → is_text_octet x ≡ true → in_line x ≡ true
line_text x h = grind (arith, nat_tests)

line_letter : (x : ℕ) → (to_ascii_uppercase x ≡ 66) ⊎ (to_ascii_uppercase x ≡ 81) → in_line x ≡ true
line_letter x (inl h) = grind (arith, nat_tests)
line_letter x (inr h) = grind (arith, nat_tests)

IsWord-encoded : (w : List ℕ) (u : UnitValue) → IsEncodedWord w u → IsWord w
IsWord-encoded w u is = record {
  some = encoded_some w u is;
  nonwhite = encoded_nonwhite w u is;
  line = encoded_all in_line (record { name = line_charset; text = line_text; letter = line_letter; marks = refl }) w u is;
  ascii = encoded_ascii w u is;
}

chunks_are_words : (chunks : List (List ℕ)) → AreChunks chunks [] → IsUtf8 (concat chunks) → AllByRecursion IsWord (map written_word chunks)
chunks_are_words [] are u = tt
chunks_are_words (c ∷ cs) are u =
    let is : IsChunk c (concat cs) = rw append-nil at are.0 in
    let both = chunk_utf8 c (concat cs) u is in
    (IsWord-encoded (written_word c) (Text c) (written_word-says c both.0 is.some is.fits), chunks_are_words cs are.1 both.1)

written_words_are_words : (text : List ℕ) (words : List (List ℕ)) → IsUtf8 text → AreWordsOf text words → AllByRecursion IsWord words
written_words_are_words text words u are =
    let whole : text ≡ concat are.chunks = are.whole ∙ append-nil (concat are.chunks) in
    rw are.spelled (chunks_are_words are.chunks are.are_chunks (subst IsUtf8 whole u))

-- The lines of words, as they are unfolded.
abbrev line_of : Piece → List ℕ
line_of p = crlf ++ p.white ∷ p.octets

abbrev after_space : List ℕ → Piece
after_space w = record { white = 32; octets = w }

abbrev spaced : List (List ℕ) → List ℕ
spaced words = flat_map (λ w. 32 ∷ w) words

unfolded-in_line : (xs rest : List ℕ) → list_all in_line xs ≡ true → unfolded (xs ++ rest) ≡ xs ++ unfolded rest
unfolded-in_line [] rest h = refl
unfolded-in_line (x ∷ xs) rest h =
    let parts = and_parts (in_line x) (list_all in_line xs) h in
    unfolded-other x (xs ++ rest) (no_fold x (xs ++ rest) (not-true (is_line_end x) parts.0)) ∙ ap (λ zs. x ∷ zs) (unfolded-in_line xs rest parts.1)

unfolded-line : (w rest : List ℕ) → list_all in_line w ≡ true → unfolded (13 ∷ 10 ∷ 32 ∷ (w ++ rest)) ≡ 32 ∷ (w ++ unfolded rest)
unfolded-line w rest h = unfolded-fold (13 ∷ 10 ∷ 32 ∷ (w ++ rest)) refl ∙ unfolded-in_line (32 ∷ w) rest h

unfolded-lines : (words : List (List ℕ)) → AllByRecursion IsWord words → unfolded (flat_map line_of (map after_space words)) ≡ spaced words
unfolded-lines [] are = unfolded-nil
unfolded-lines (w ∷ ws) are =
    unfolded-line w (flat_map line_of (map after_space ws)) are.0.line ∙ ap (λ zs. 32 ∷ (w ++ zs)) (unfolded-lines ws are.1)

body_is : (words : List (List ℕ)) → made_body (word_pieces 32 words) ≡ flat_map line_of (map after_space words)
body_is [] = refl
body_is (w ∷ ws) = refl

spaced_is : (w : List ℕ) (ws : List (List ℕ)) → spaced (w ∷ ws) ≡ 32 ∷ join_with_byte 32 (w ∷ ws)
spaced_is w [] = ap (λ zs. 32 ∷ zs) (append-nil w)
spaced_is w (v ∷ ws) = ap (λ zs. 32 ∷ (w ++ zs)) (spaced_is v ws)

-- Words with a space between two have no white at their ends.
Stops-word : (w rest : List ℕ) → IsWord w → Stops is_white (w ++ rest)
Stops-word [] rest is = let some = is.some in absurd (omega arith)
Stops-word (x ∷ xs) rest is = not-true (is_white x) (and_parts (is_nonwhite x) (list_all is_nonwhite xs) is.nonwhite).0

StopsAfter-nonwhite : (xs : List ℕ) → list_all is_nonwhite xs ≡ true → StopsAfter is_white xs
StopsAfter-nonwhite [] h = tt
StopsAfter-nonwhite (x ∷ []) h = not-true (is_white x) (and_parts (is_nonwhite x) true h).0
StopsAfter-nonwhite (x ∷ y ∷ xs) h = StopsAfter-nonwhite (y ∷ xs) (and_parts (is_nonwhite x) (list_all is_nonwhite (y ∷ xs)) h).1

StopsAfter-append : (p : ℕ → Bool) (xs ys : List ℕ) → 0 < length ys → StopsAfter p ys → StopsAfter p (xs ++ ys)
StopsAfter-append p [] ys some h = h
StopsAfter-append p (x ∷ []) [] some h = absurd (omega arith)
StopsAfter-append p (x ∷ []) (y ∷ ys) some h = h
StopsAfter-append p (x ∷ z ∷ xs) ys some h = StopsAfter-append p (z ∷ xs) ys some h

join_some : (w : List ℕ) (ws : List (List ℕ)) → IsWord w → 0 < length (join_with_byte 32 (w ∷ ws))
join_some [] ws is = let some = is.some in absurd (omega arith)
join_some (x ∷ xs) [] is = omega arith
join_some (x ∷ xs) (v ∷ ws) is = omega arith

Stops-joined : (w : List ℕ) (ws : List (List ℕ)) → IsWord w → Stops is_white (join_with_byte 32 (w ∷ ws))
Stops-joined w [] is = rw append-nil at (Stops-word w [] is)
Stops-joined w (v ∷ ws) is = Stops-word w (32 ∷ join_with_byte 32 (v ∷ ws)) is

StopsAfter-joined : (w : List ℕ) (ws : List (List ℕ)) → IsWord w → AllByRecursion IsWord ws → StopsAfter is_white (join_with_byte 32 (w ∷ ws))
StopsAfter-joined w [] is are = StopsAfter-nonwhite w is.nonwhite
StopsAfter-joined w (v ∷ ws) is are =
    let rest : List ℕ = join_with_byte 32 (v ∷ ws) in
    StopsAfter-append is_white w (32 ∷ rest) (omega arith)
    (StopsAfter-append is_white (32 ∷ []) rest (join_some v ws are.0) (StopsAfter-joined v ws are.0 are.1))

IsTrimmed-body : (w : List ℕ) (ws : List (List ℕ)) → IsWord w → AllByRecursion IsWord ws
    → IsTrimmed is_white (unfolded (made_body (word_pieces 32 (w ∷ ws)))) (join_with_byte 32 (w ∷ ws))
IsTrimmed-body w ws is are = record {
  lead = 32 ∷ [];
  trail = [];
  lead_passes = refl;
  trail_passes = refl;
  begins = Stops-joined w ws is;
  ends = StopsAfter-joined w ws is are;
  whole = ap unfolded (body_is (w ∷ ws)) ∙ unfolded-lines (w ∷ ws) (is, are) ∙ spaced_is w ws ∙ ap (λ zs. 32 ∷ zs) (sym (append-nil (join_with_byte 32 (w ∷ ws))));
}

-- The field says the one text.
text_stays : (text : List ℕ) → 0 < length text → merged (Text text ∷ []) ≡ Text text ∷ []
text_stays [] some = absurd (omega arith)
text_stays (b ∷ bs) some = refl

no_words : (text : List ℕ) → 0 < length text → AreWordsOf text [] → ⊥
no_words text some are = by are.chunks are.spelled (are.whole ∙ append-nil (concat are.chunks))
  where
    by : (chunks : List (List ℕ)) → [] ≡ map written_word chunks → text ≡ concat chunks → ⊥
    by [] e whole = omega (arith, ap length whole)
    by (c ∷ cs) e whole = cc e

-- the body says the text
pub record BodySays (value : List ℕ) (words : List (List ℕ)) : Type 0 where
  pub trimmed : IsTrimmed is_white (unfolded (made_body (word_pieces 32 words))) (join_with_byte 32 words)
  pub says : HasUnits (join_with_byte 32 words) (Text value ∷ [])

body_says : (value : List ℕ) (words : List (List ℕ)) → IsUtf8 value → 0 < length value → AreWordsOf value words → AllByRecursion IsWord words → BodySays value words
body_says value [] u some are of = absurd (no_words value some are)
body_says value (w ∷ ws) u some are of =
    let writes : WriteAll (Text value ∷ []) (w ∷ ws) = (w ∷ ws, [], sym (append-nil (w ∷ ws)), are, refl) in
    record { trimmed = IsTrimmed-body w ws of.0 of.1; says = HasUnits-written (Text value ∷ []) (w ∷ ws) (text_stays value some) (u, tt) writes }

pub words_say : (value : List ℕ) (words : List (List ℕ)) → IsUtf8 value → 0 < length value → AreWordsOf value words → BodySays value words
words_say value words u some are = body_says value words u some are (written_words_are_words value words u are)

pub FieldSays-encapsulated : (name value field : List ℕ) → IsUtf8 value → 0 < length value → Encapsulates name value field → FieldSays (downgraded_name name) field (Text value ∷ [])
FieldSays-encapsulated name value field u some is =
    let says = words_say value is.words u some is.are_words in
    record {
      body = made_body (word_pieces 32 is.words);
      text = join_with_byte 32 is.words;
      spelled = is.spelled;
      text_is = says.trimmed;
      says = says.says;
    }

-- The field is ASCII.
ascii_name : (x : ℕ) → is_field_name_octet x ≡ true → is_ascii x ≡ true
ascii_name x h = grind (arith, nat_tests)

ascii_lines : (words : List (List ℕ)) → AllByRecursion IsWord words → list_all is_ascii (flat_map line_of (map after_space words)) ≡ true
ascii_lines [] are = refl
ascii_lines (w ∷ ws) are = pass-append is_ascii w (flat_map line_of (map after_space ws)) are.0.ascii (ascii_lines ws are.1)

pub ascii-encapsulated : (name value field : List ℕ) → IsFieldName name → IsUtf8 value → Encapsulates name value field → list_all is_ascii field ≡ true
ascii-encapsulated name value field is_name u is =
    let body : List ℕ = made_body (word_pieces 32 is.words) in
    let lines : list_all is_ascii body ≡ true = rw (body_is is.words) (ascii_lines is.words (written_words_are_words value is.words u is.are_words)) in
    let head : list_all is_ascii (downgraded_name name) ≡ true = pass-append is_ascii (codes "Downgraded-") name refl (pass-weaker is_field_name_octet is_ascii ascii_name name is_name.1) in
    rw (is.spelled) (pass-append is_ascii (downgraded_name name) (58 ∷ (body ++ crlf)) head (pass-append is_ascii body crlf lines refl))

-- One field keeps a value under a name.
pub Encapsulates-once : (name value field other : List ℕ) → Encapsulates name value field → Encapsulates name value other → field ≡ other
Encapsulates-once name value field other a b =
    let same : a.words ≡ b.words = AreWordsOf-once value a.words b.words a.are_words b.are_words in
    a.spelled ∙ ap (λ ws. field_of (downgraded_name name) (made_body (word_pieces 32 ws))) same ∙ sym b.spelled

-- what the writer puts one after the other is the field
pub Encapsulates-made : (name value start named before lines field : List ℕ) → start ≡ codes "Downgraded-" → named ≡ start ++ name → before ≡ named ++ 58 ∷ []
    → AddsWordLines value 32 before lines → field ≡ lines ++ crlf → Encapsulates name value field
Encapsulates-made name value start named before lines field a b d adds e = record {
  words = adds.words;
  are_words = adds.are_words;
  spelled = e ∙ rw (adds.added, d, b, a) (simp append_assoc);
}
