-- A made field has no NUL where the original has none.
use Rattle.std.proofs.Common.{◌≡◌, ℕ, zero, suc, ◌==◌, Bool, true, not, List, [], ◌∷◌, ◌++◌, map, Some, inl, inr, refl, ap, ◌∙◌, subst, arith}
use Rattle.std.proofs.lemmas.Bool.{and_parts, and_from, cases_Bool, eqb-true}
use Rattle.std.proofs.lemmas.Bool.Decides.{nat_tests}
use Rattle.std.proofs.lemmas.List.{append-nil}
use Rattle.std.specs.List.{AllByRecursion, concat, flat_map, list_all}
use Rattle.std.specs.Str.{IsUtf8}
use Rattle.mail_wire.specs.Octets.{is_white, is_field_name_octet}
use Rattle.mail_wire.specs.Lines.{crlf}
use Rattle.mail_wire.specs.Message.{IsNul}
use Rattle.mail_wire.proofs.AllLemmas.{pass-append, pass-weaker, pass-front, pass-back}
use Rattle.encoded_words.specs.Folding.{Piece, made_body, word_pieces}
use Rattle.encoded_words.specs.WrittenWords.{AreWordsOf, AreChunks, is_safe_octet, written_word}
use Rattle.encoded_words.proofs.WrittenWords.{written_word-all}
use Rattle.field_tokens.specs.Comments.{IsLinePiece}
use Rattle.field_tokens.specs.TokenOctets.{is_line_octet}
use Rattle.utf8_fields.specs.Parts.{FieldParts, HasParts, field_octets}
use Rattle.field_downgrade.specs.Words.{AreUtf8, AreWords, HasWords, Word, copied_octets, last_run, word_octets}
use Rattle.field_downgrade.specs.Layout.{GiveAll, GivesPieces, HavePieces, Segment, copied_pieces, last_side, made_of, segment_words, spaced}
use Rattle.field_downgrade.specs.declared.segments.Side.{Side}
use Rattle.field_downgrade.proofs.Pieces.{AreUtf8-back, AreUtf8-front, AreWords-back, AreWords-front, chunks_first, last_white}
use Rattle.field_downgrade.proofs.Made.{ArePieces, ArePieces-from, gives_utf8}

abbrev pub not_nul : ℕ → Bool
not_nul x = not (x == 0)

-- no NUL stands at any place
abbrev pub LacksNul : List ℕ → Type 0
LacksNul octets = (place : ℕ) → ¬ IsNul octets place

-- such octets pass a test one by one
lacks_all : (xs : List ℕ) → LacksNul xs → list_all not_nul xs ≡ true
lacks_all [] lacks = refl
lacks_all (x ∷ xs) lacks = and_from (not_nul x) (list_all not_nul xs) (first x (λ e. lacks 0 (ap Some e))) (lacks_all xs (λ place nul. lacks (suc place) nul))
  where
    first : (x : ℕ) → ¬ (x ≡ 0) → not_nul x ≡ true
    first x other = elim (cases_Bool (x == 0)) [ inl t ↦ absurd (other (eqb-true x 0 t)) | inr f ↦ ap not f ]

all_lacks : (xs : List ℕ) → list_all not_nul xs ≡ true → LacksNul xs
all_lacks [] h place nul = cc nul
all_lacks (x ∷ xs) h zero nul = first x (and_parts (not_nul x) (list_all not_nul xs) h).0 nul
  where
    first : (x : ℕ) → not_nul x ≡ true → Some x ≡ Some 0 → ⊥
    first zero h e = cc h
    first (suc x) h e = cc e
all_lacks (x ∷ xs) h (suc place) nul = all_lacks xs (and_parts (not_nul x) (list_all not_nul xs) h).1 place nul

-- the made octets have no NUL where the others have none
abbrev pub KeepsNoNul : List ℕ → List ℕ → Type 0
KeepsNoNul octets made = LacksNul octets → LacksNul made

-- it is enough that what passes the test gives what passes it
pub KeepsNoNul-from : (octets made : List ℕ) → (list_all not_nul octets ≡ true → list_all not_nul made ≡ true) → KeepsNoNul octets made
KeepsNoNul-from octets made keeps lacks = all_lacks made (keeps (lacks_all octets lacks))

name_not_nul : (x : ℕ) → is_field_name_octet x ≡ true → not_nul x ≡ true
name_not_nul x h = grind (arith, nat_tests)

white_not_nul : (x : ℕ) → is_white x ≡ true → not_nul x ≡ true
white_not_nul x h = grind (arith, nat_tests)

line_not_nul : (x : ℕ) → is_line_octet x ≡ true → not_nul x ≡ true
line_not_nul x h = (and_parts (not_nul x) _ h).0

-- ---- pieces

-- no piece has a NUL
abbrev pub LackNul : List Piece → Type 0
LackNul pieces = AllByRecursion (λ (p : Piece). list_all not_nul p.octets ≡ true) pieces

LackNul-append : (xs ys : List Piece) → LackNul xs → LackNul ys → LackNul (xs ++ ys)
LackNul-append [] ys a b = b
LackNul-append (x ∷ xs) ys a b = (a.0, LackNul-append xs ys a.1 b)

-- those of a structured field
pub LackNul-spaced : (pieces : List (List ℕ)) → AllByRecursion IsLinePiece pieces → LackNul (spaced pieces)
LackNul-spaced [] lines = tt
LackNul-spaced (p ∷ ps) lines = (pass-weaker is_line_octet not_nul line_not_nul p lines.0.line, LackNul-spaced ps lines.1)

-- those of encoded words
safe_not_nul : (x : ℕ) → is_safe_octet x ≡ true → not_nul x ≡ true
safe_not_nul x h = grind (arith, nat_tests)

written_word_lacks : (chunk : List ℕ) → IsUtf8 chunk → list_all not_nul (written_word chunk) ≡ true
written_word_lacks chunk u = written_word-all not_nul (record { safe = safe_not_nul; marks = refl }) chunk u

others_lack : (chunks : List (List ℕ)) → AreChunks chunks [] → IsUtf8 (concat chunks) → LackNul (map (λ w. record { white = 32; octets = w }) (map written_word chunks))
others_lack [] are u = tt
others_lack (c ∷ cs) are u = let first = chunks_first c cs are u in (written_word_lacks c first.1, others_lack cs are.1 first.2)

chunks_lack : (white : ℕ) (chunks : List (List ℕ)) → AreChunks chunks [] → IsUtf8 (concat chunks) → LackNul (word_pieces white (map written_word chunks))
chunks_lack white [] are u = tt
chunks_lack white (c ∷ cs) are u = let first = chunks_first c cs are u in (written_word_lacks c first.1, others_lack cs are.1 first.2)

pub LackNul-words : (white : ℕ) (text : List ℕ) (words : List (List ℕ)) → IsUtf8 text → AreWordsOf text words → LackNul (word_pieces white words)
LackNul-words white text words u are =
    let whole : text ≡ concat are.chunks = are.whole ∙ append-nil (concat are.chunks) in
    rw (are.spelled) (chunks_lack white are.chunks are.are_chunks (subst IsUtf8 whole u))

-- ---- the words of an unstructured body

-- no word has a NUL, nor the gap after it
abbrev word_lacks : Word → Bool
word_lacks w = list_all not_nul (word_octets w)

words_lack : (ws : List Word) → list_all not_nul (flat_map word_octets ws) ≡ true → list_all word_lacks ws ≡ true
words_lack [] h = refl
words_lack (w ∷ ws) h =
    and_from (word_lacks w) (list_all word_lacks ws) (pass-front not_nul (word_octets w) (flat_map word_octets ws) h)
    (words_lack ws (pass-back not_nul (word_octets w) (flat_map word_octets ws) h))

copied_lack : (ws : List Word) → list_all word_lacks ws ≡ true → list_all not_nul (copied_octets ws) ≡ true
copied_lack [] h = refl
copied_lack (w ∷ []) h = pass-front not_nul w.octets w.gap (and_parts (word_lacks w) true h).0
copied_lack (w ∷ v ∷ ws) h =
    let parts = and_parts (word_lacks w) (list_all word_lacks (v ∷ ws)) h in
    pass-append not_nul w.octets (w.gap ++ copied_octets (v ∷ ws)) (pass-front not_nul w.octets w.gap parts.0)
    (pass-append not_nul w.gap (copied_octets (v ∷ ws)) (pass-back not_nul w.octets w.gap parts.0) (copied_lack (v ∷ ws) parts.1))

copied_pieces_lack : (white : ℕ) (ws : List Word) → list_all word_lacks ws ≡ true → LackNul (copied_pieces white ws)
copied_pieces_lack white [] h = tt
copied_pieces_lack white (w ∷ ws) h = (copied_lack (w ∷ ws) h, tt)

gives_lack : (side : Side) (run : List ℕ) (s : Segment) (pieces : List Piece) → AreWords (segment_words s) → AreUtf8 (segment_words s) → list_all is_white run ≡ true
    → list_all word_lacks (segment_words s) ≡ true → GivesPieces side run s pieces → LackNul pieces
gives_lack side run s pieces are u white h g =
    let text = gives_utf8 side run s pieces are u white g in
    rw (g.pieces_are) (LackNul-append (word_pieces g.white g.made_words) (copied_pieces g.next s.copied) (LackNul-words g.white _ g.made_words text g.are_made_words)
    (copied_pieces_lack g.next s.copied (pass-back word_lacks s.core s.copied h)))

all_lack : (ss : List Segment) (side : Side) (run : List ℕ) (pieces : List Piece) → AreWords (flat_map segment_words ss) → AreUtf8 (flat_map segment_words ss) → list_all is_white run ≡ true
    → list_all word_lacks (flat_map segment_words ss) ≡ true → GiveAll side run ss pieces → LackNul pieces
all_lack [] side run pieces are u white h give = rw give tt
all_lack (s ∷ ss) side run pieces are u white h give =
    let ws : List Word = flat_map segment_words ss in
    let are_first = AreWords-front (segment_words s) ws are in
    let are_copied = AreWords-back s.core s.copied are_first in
    rw (give.2) (LackNul-append give.0 give.1
    (gives_lack side run s give.0 are_first (AreUtf8-front (segment_words s) ws u) white (pass-front word_lacks (segment_words s) ws h) give.3)
    (all_lack ss (last_side s.copied) (last_run s.copied) give.1 (AreWords-back (segment_words s) ws are) (AreUtf8-back (segment_words s) ws u) (last_white s.copied are_copied)
    (pass-back word_lacks (segment_words s) ws h) give.4))

-- the pieces of words without NUL
pieces_lack : (words : List Word) (pieces : List Piece) → AreWords words → AreUtf8 words → HavePieces words pieces → list_all word_lacks words ≡ true → LackNul pieces
pieces_lack words pieces are u have h =
    let ws : List Word = flat_map segment_words have.segments in
    let are_all = subst AreWords have.whole are in
    let u_all = subst AreUtf8 have.whole u in
    let h_all = subst (λ (all : List Word). list_all word_lacks all ≡ true) have.whole h in
    let are_front = AreWords-front have.front ws are_all in
    rw (have.pieces_are) (LackNul-append (copied_pieces 32 have.front) have.more (copied_pieces_lack 32 have.front (pass-front word_lacks have.front ws h_all))
    (all_lack have.segments (last_side have.front) (last_run have.front) have.more (AreWords-back have.front ws are_all) (AreUtf8-back have.front ws u_all)
    (last_white have.front are_front) (pass-back word_lacks have.front ws h_all) have.give))

-- ---- the made field

-- the body of such pieces
body_lacks : (pieces : List Piece) → ArePieces pieces → LackNul pieces → list_all not_nul (made_body pieces) ≡ true
body_lacks [] are lack = refl
body_lacks (p ∷ ps) are lack =
    pass-append not_nul (crlf ++ p.white ∷ p.octets) (made_body ps)
    (and_from (not_nul p.white) (list_all not_nul p.octets) (white_not_nul p.white are.0.white) lack.0) (body_lacks ps are.1 lack.1)

-- a field of such pieces
pub field_lacks : (octets : List ℕ) (f g : FieldParts) (pieces : List Piece) → HasParts octets f → ArePieces pieces → LackNul pieces → list_all is_field_name_octet g.name ≡ true → g.white ≡ []
    → g.body ≡ made_body pieces → g.ending ≡ f.ending → list_all not_nul (field_octets g) ≡ true
field_lacks octets f g pieces is are lack name white body end =
    let ending : list_all not_nul f.ending ≡ true = elim is.ending [ inl e ↦ rw e refl | inr e ↦ rw e refl ] in
    rw (white, body, end)
    (pass-append not_nul g.name (58 ∷ (made_body pieces ++ f.ending)) (pass-weaker is_field_name_octet not_nul name_not_nul g.name name)
    (pass-append not_nul (made_body pieces) f.ending (body_lacks pieces are lack) ending))

-- such a field gains no NUL, ...
pub KeepsNoNul-pieces : (octets made : List ℕ) (f g : FieldParts) (pieces : List Piece) → HasParts octets f → ArePieces pieces → LackNul pieces → list_all is_field_name_octet g.name ≡ true → g.white ≡ []
    → g.body ≡ made_body pieces → g.ending ≡ f.ending → made ≡ field_octets g → KeepsNoNul octets made
KeepsNoNul-pieces octets made f g pieces is are lack name white body end made_is =
    KeepsNoNul-from octets made (λ h. rw made_is (field_lacks octets f g pieces is are lack name white body end))

-- the words of a field without NUL
field_words_lack : (octets : List ℕ) (f : FieldParts) (words : List Word) → HasParts octets f → HasWords f.body words → list_all not_nul octets ≡ true → list_all word_lacks words ≡ true
field_words_lack octets f words is has h =
    let all : list_all not_nul (field_octets f) ≡ true = subst (λ xs. list_all not_nul xs ≡ true) is.spelled h in
    let following = pass-back not_nul f.name (f.white ++ 58 ∷ (f.body ++ f.ending)) all in
    let colon : list_all not_nul (f.body ++ f.ending) ≡ true = pass-back not_nul f.white (58 ∷ (f.body ++ f.ending)) following in
    let body = pass-front not_nul f.body f.ending colon in
    let whole : list_all not_nul (has.lead ++ flat_map word_octets words) ≡ true = subst (λ xs. list_all not_nul xs ≡ true) has.whole body in
    words_lack words (pass-back not_nul has.lead (flat_map word_octets words) whole)

-- ... and neither does an unstructured one
pub KeepsNoNul-made : (octets made : List ℕ) (f : FieldParts) (words : List Word) (pieces : List Piece) → HasParts octets f → HasWords f.body words → AreUtf8 words → HavePieces words pieces
    → made ≡ field_octets (made_of f pieces) → KeepsNoNul octets made
KeepsNoNul-made octets made f words pieces is has u have made_is =
    KeepsNoNul-from octets made
    (λ h. rw made_is (field_lacks octets f (made_of f pieces) pieces is (ArePieces-from words pieces has.are_words u have)
    (pieces_lack words pieces has.are_words u have (field_words_lack octets f words is has h)) is.name refl refl refl))
