-- The chunks of a text, one after the other.
use Rattle.std.proofs.Common.{◌≡◌, ℕ, ◌<◌, ◌≤◌, List, [], ◌∷◌, ◌++◌, length, map, take, drop, refl, sym, ap, ◌∙◌, subst, arith, true, inl, inr}
use Rattle.std.proofs.lemmas.Bool.{cases_lt, and_parts}
use Rattle.std.proofs.lemmas.List.{append_assoc, append-nil, map-append, length-append, length-take-le, take-append-drop, take_at, append_cancel_left, nil_from_length}
use Rattle.std.proofs.lemmas.Str.{IsCharBoundary-at_seam, len_utf8_bounds, length-encode}
use Rattle.std.specs.List.{concat}
use lib.Utf8.{scalar}
use Rattle.std.specs.Char.{encode_utf8, len_utf8}
use Rattle.std.specs.Str.{IsUtf8, IsCharBoundary, encode_utf8_all, all_scalars}
use Rattle.mail_wire.specs.Lines.{crlf}
use Rattle.encoded_words.specs.WrittenWords.{written_word, IsChunk, AreChunks, AreFirstWords, AreWordsOf, AddsWords}
use Rattle.encoded_words.specs.Folding.{Piece, made_body, word_pieces, AddsWordLines}

concat-append : (xs ys : List (List ℕ)) → concat (xs ++ ys) ≡ concat xs ++ concat ys
concat-append [] ys = refl
concat-append (x ∷ xs) ys = rw (concat-append xs ys, ← append_assoc) refl

-- one more chunk after the others
AreChunks-push : (chunks : List (List ℕ)) (chunk rest : List ℕ) → AreChunks chunks (chunk ++ rest) → IsChunk chunk rest → AreChunks (chunks ++ chunk ∷ []) rest
AreChunks-push [] chunk rest are is = (is, tt)
AreChunks-push (c ∷ cs) chunk rest are is =
    let e : concat (cs ++ chunk ∷ []) ++ rest ≡ concat cs ++ (chunk ++ rest) =
    rw (concat-append cs (chunk ∷ []), append-nil, append_assoc) refl in
    (subst (IsChunk c) (sym e) are.0, AreChunks-push cs chunk rest are.1 is)

-- no words yet
pub AddsWords-none : (text : List ℕ) (old : List (List ℕ)) → AddsWords text old old text
AddsWords-none text old = record {
  words = [];
  are_words = record { chunks = []; are_chunks = tt; whole = refl; spelled = refl };
  added = sym (append-nil old);
}

-- one word more
AreFirstWords-push : (text : List ℕ) (words : List (List ℕ)) (chunk rest : List ℕ) → AreFirstWords text words (chunk ++ rest) → IsChunk chunk rest
    → AreFirstWords text (words ++ written_word chunk ∷ []) rest
AreFirstWords-push text words chunk rest were is = record {
  chunks = were.chunks ++ chunk ∷ [];
  are_chunks = AreChunks-push were.chunks chunk rest were.are_chunks is;
  whole = were.whole ∙ rw (concat-append were.chunks (chunk ∷ []), append-nil, append_assoc) refl;
  spelled = ap (λ ws. ws ++ written_word chunk ∷ []) were.spelled ∙ sym (map-append written_word were.chunks (chunk ∷ []));
}

-- A text that is not empty has a boundary after its first character.
pub first_boundary : (cs bs : List ℕ) → all_scalars cs ≡ true → encode_utf8_all cs ≡ bs → 0 < length bs → (i : ℕ) × (0 < i) × (i ≤ 4) × IsCharBoundary bs i
first_boundary [] bs ok e some = absurd (omega (arith, ap length e))
first_boundary (c ∷ cs) bs ok e some =
    let n : length (encode_utf8 c) ≡ len_utf8 c = length-encode c in
    let b = len_utf8_bounds c in
    (length (encode_utf8 c), omega arith, omega arith, IsCharBoundary-at_seam bs (encode_utf8 c) (encode_utf8_all cs) (sym e) (cs, ((and_parts (scalar c) (all_scalars cs) ok).1, refl)))

-- where the last boundary within 45 octets of a text that is not empty is, something stands before it
pub boundary_moves : (text : List ℕ) (n : ℕ) → IsUtf8 text → 0 < length text
    → ((i : ℕ) → n < i → i ≤ 45 → ¬ (IsCharBoundary text i)) → 0 < n
boundary_moves text n utf8 some most =
    let first = first_boundary utf8.0 text utf8.1.0 utf8.1.1 some in
    elim (cases_lt 0 n) [
      | inl lt ↦ lt
      | inr ge ↦ absurd (most first.0 (omega (arith, first.1)) (omega (arith, first.2)) first.3)
    ]

-- what `floor_char_boundary` cuts off a text that is not empty is a chunk of it
pub IsChunk-take : (text : List ℕ) (n : ℕ) → IsUtf8 text → 0 < length text → n ≤ 45 → IsCharBoundary text n
    → ((i : ℕ) → n < i → i ≤ 45 → ¬ (IsCharBoundary text i)) → IsChunk (take n text) (drop n text)
IsChunk-take text n utf8 some fits cut most =
    let len : length (take n text) ≡ n = length-take-le n text cut.0 in
    let whole : take n text ++ drop n text ≡ text = take-append-drop n text in
    let moved : 0 < n = boundary_moves text n utf8 some most in
    record {
      some = omega arith;
      fits = omega arith;
      cut = rw (whole, len) cut;
      most = λ i l h. rw whole (most i (omega arith) h);
    }

-- one turn of the loop that writes the words
pub AddsWords-turn : (text rest chunk after word : List ℕ) (old mid new : List (List ℕ)) → rest ≡ chunk ++ after → IsChunk chunk after
    → word ≡ written_word chunk → new ≡ mid ++ word ∷ [] → AddsWords text old mid rest → AddsWords text old new after
AddsWords-turn text rest chunk after word old mid new whole is word_is pushed adds = record {
  words = adds.words ++ written_word chunk ∷ [];
  are_words = AreFirstWords-push text adds.words chunk after (subst (AreFirstWords text adds.words) whole adds.are_words) is;
  added = pushed ∙ rw (word_is, adds.added) (append_assoc old adds.words (written_word chunk ∷ []));
}

-- what is left is shorter after a chunk
pub chunk_shortens : (rest chunk after : List ℕ) → rest ≡ chunk ++ after → IsChunk chunk after → length after < length rest
chunk_shortens rest chunk after whole is = let some = is.some in omega (arith, ap length whole, length-append chunk after)

-- the white octet before the next of words
abbrev next_white : ℕ → List (List ℕ) → ℕ
next_white white [] = white
next_white white (w ∷ ws) = 32

pub made_body-append : (xs ys : List Piece) → made_body (xs ++ ys) ≡ made_body xs ++ made_body ys
made_body-append [] ys = refl
made_body-append (x ∷ xs) ys = rw (made_body-append xs ys) (sym (append_assoc (crlf ++ x.white ∷ x.octets) (made_body xs) (made_body ys)))

word_pieces-push : (white : ℕ) (ws : List (List ℕ)) (w : List ℕ) → word_pieces white (ws ++ w ∷ []) ≡ word_pieces white ws ++ record { white = next_white white ws; octets = w } ∷ []
word_pieces-push white [] w = refl
word_pieces-push white (v ∷ ws) w = ap (λ ps. record { white = white; octets = v } ∷ ps) (map-append (λ x. record { white = 32; octets = x }) ws (w ∷ []))

next_white-push : (white : ℕ) (ws : List (List ℕ)) (w : List ℕ) → next_white white (ws ++ w ∷ []) ≡ 32
next_white-push white [] w = refl
next_white-push white (v ∷ ws) w = refl

-- the lines of the first encoded words were added, and this white octet comes before the next one
pub record AddsFirstLines (text : List ℕ) (white : ℕ) (old new : List ℕ) (before : ℕ) (rest : List ℕ) : Type 0 where
  pub words : List (List ℕ)
  pub are_words : AreFirstWords text words rest
  pub added : new ≡ old ++ made_body (word_pieces white words)
  pub before_is : before ≡ next_white white words

pub AddsFirstLines-none : (text : List ℕ) (white : ℕ) (old : List ℕ) → AddsFirstLines text white old old white text
AddsFirstLines-none text white old = record {
  words = [];
  are_words = record { chunks = []; are_chunks = tt; whole = refl; spelled = refl };
  added = sym (append-nil old);
  before_is = refl;
}

-- one turn of the loop that puts the lines
pub AddsFirstLines-turn : (text : List ℕ) (white : ℕ) (old made new : List ℕ) (before : ℕ) (rest chunk after : List ℕ) → rest ≡ chunk ++ after → IsChunk chunk after
    → new ≡ ((made ++ crlf) ++ before ∷ []) ++ written_word chunk → AddsFirstLines text white old made before rest → AddsFirstLines text white old new 32 after
AddsFirstLines-turn text white old made new before rest chunk after whole is put adds =
    let word : List ℕ = written_word chunk in
    let b : ℕ = next_white white adds.words in
    let done : List ℕ = made_body (word_pieces white adds.words) in
    record {
      words = adds.words ++ word ∷ [];
      are_words = AreFirstWords-push text adds.words chunk after (subst (AreFirstWords text adds.words) whole adds.are_words) is;
      added = put ∙ rw (adds.added, adds.before_is, word_pieces-push white adds.words word, made_body-append (word_pieces white adds.words) (record { white = b; octets = word } ∷ []))
          (append_assoc ((old ++ done) ++ crlf) (b ∷ []) word ∙ append_assoc (old ++ done) crlf (b ∷ word) ∙ append_assoc old done (crlf ++ b ∷ word)
          ∙ ap (λ t. old ++ (done ++ t)) (sym (append-nil (crlf ++ b ∷ word))));
      before_is = sym (next_white-push white adds.words word);
    }

pub AddsFirstLines-end : (text : List ℕ) (white : ℕ) (old new : List ℕ) (before : ℕ) (rest : List ℕ) → length rest ≡ 0 → AddsFirstLines text white old new before rest
    → AddsWordLines text white old new
AddsFirstLines-end text white old new before rest end adds = record {
  words = adds.words;
  are_words = subst (AreFirstWords text adds.words) (nil_from_length rest end) adds.are_words;
  added = adds.added;
}

-- There is one list of encoded words.
chunk_once : (c d rest more : List ℕ) → IsChunk c rest → IsChunk d more → c ++ rest ≡ d ++ more → (c ≡ d) × (rest ≡ more)
chunk_once c d rest more p q e =
    let not_less : length c < length d → ⊥ = λ l. p.most (length d) l q.fits (rw e q.cut) in
    let not_more : length d < length c → ⊥ = λ l. q.most (length c) l p.fits (rw (← e) p.cut) in
    let same : length c ≡ length d = elim (cases_lt (length c) (length d)) [
      | inl l ↦ absurd (not_less l)
      | inr g ↦ elim (cases_lt (length d) (length c)) [ inl l ↦ absurd (not_more l) | inr h ↦ omega arith ]
    ] in
    let fronts : c ≡ d = sym (take_at c rest (length c) refl) ∙ ap (take (length c)) e ∙ take_at d more (length c) (sym same) in
    (fronts, append_cancel_left d rest more (ap (λ x. x ++ rest) (sym fronts) ∙ e))

chunks_once : (cs ds : List (List ℕ)) → AreChunks cs [] → AreChunks ds [] → concat cs ≡ concat ds → cs ≡ ds
chunks_once [] [] p q e = refl
chunks_once [] (d ∷ ds) p q e = let some = q.0.some in absurd (omega (arith, ap length e, length-append d (concat ds)))
chunks_once (c ∷ cs) [] p q e = let some = p.0.some in absurd (omega (arith, ap length e, length-append c (concat cs)))
chunks_once (c ∷ cs) (d ∷ ds) p q e =
    let is_c : IsChunk c (concat cs) = rw append-nil at p.0 in
    let is_d : IsChunk d (concat ds) = rw append-nil at q.0 in
    let both = chunk_once c d (concat cs) (concat ds) is_c is_d e in
    let head : c ≡ d = both.0 in
    let tail : cs ≡ ds = chunks_once cs ds p.1 q.1 both.1 in
    cc

pub AreWordsOf-once : (text : List ℕ) (ws vs : List (List ℕ)) → AreWordsOf text ws → AreWordsOf text vs → ws ≡ vs
AreWordsOf-once text ws vs p q =
    let whole : concat p.chunks ≡ concat q.chunks = sym (p.whole ∙ append-nil (concat p.chunks)) ∙ q.whole ∙ append-nil (concat q.chunks) in
    p.spelled ∙ ap (map written_word) (chunks_once p.chunks q.chunks p.are_chunks q.are_chunks whole) ∙ sym q.spelled
