-- What pieces and places show.
use Rattle.std.proofs.Common.{◌≡◌, ℕ, ◌<◌, true, not, List, [], ◌∷◌, ◌++◌, length, map, Some, refl, sym, ap, ◌∙◌, arith, zero, suc, ◌⊎◌, inl, inr}
use Rattle.std.proofs.lemmas.Bool.{and_parts, not-true}
use Rattle.std.proofs.lemmas.List.{append_assoc, append-nil, length-append}
use Rattle.std.specs.List.{list_all, flat_map, concat}
use Rattle.std.specs.Str.{IsUtf8, IsAscii}
use Rattle.std.proofs.lemmas.Str.{IsUtf8-append, IsUtf8-from_ascii, IsUtf8-nil}
use Rattle.std.proofs.lemmas.Bool.Decides.{nat_tests}
use Rattle.mail_wire.specs.Octets.{is_white, is_nonwhite, is_line_end}
use Rattle.mail_wire.proofs.Folded.{without_ends, without_ends-append, unfolded-folded}
use Rattle.encoded_words.specs.Words.{Text, is_token_octet, is_text_octet}
use Rattle.encoded_words.specs.Units.{Place, IsPlace, ArePlaces, Divides as PlaceDivides, place_octets}
use Rattle.encoded_words.specs.WrittenWords.{written_word, IsChunk, AreChunks}
use Rattle.encoded_words.proofs.WrittenWords.{written_word-says, written_word-nonwhite, written_word_some, chunk_utf8}
use Rattle.encoded_words.proofs.EncodedOctets.{encoded_all}
use Rattle.std.specs.Char.{to_ascii_uppercase}
use Rattle.mail_wire.specs.Spans.{StopsAfter}
use Rattle.mail_wire.proofs.OctetLemmas.{white_below}
use Rattle.field_downgrade.specs.Words.{AreUtf8, Word, AreWords, DividesWords, run_of, last_run, plain_text, copied_octets, is_word_octet}
use Rattle.encoded_words.specs.Folding.{Piece, word_pieces}
use Rattle.field_downgrade.proofs.Units.{encoded_places}
use Rattle.field_downgrade.proofs.Places.{places, place_of, Joint, joint_white, run-white, ArePlaces-cons}

-- what pieces show without their folds: each with the white octet before it, and without that of the first
abbrev pub following : List Piece → List ℕ
following pieces = flat_map (λ (p : Piece). p.white ∷ without_ends p.octets) pieces

abbrev pub shown : List Piece → List ℕ
shown [] = []
shown (p ∷ ps) = without_ends p.octets ++ following ps

pub following-append : (xs ys : List Piece) → following (xs ++ ys) ≡ following xs ++ following ys
following-append [] ys = refl
following-append (x ∷ xs) ys = rw (following-append xs ys) (sym (append_assoc (x.white ∷ without_ends x.octets) (following xs) (following ys)))

pub shown-append : (x : Piece) (xs ys : List Piece) → shown ((x ∷ xs) ++ ys) ≡ shown (x ∷ xs) ++ following ys
shown-append x xs ys = rw (following-append xs ys) (sym (append_assoc (without_ends x.octets) (following xs) (following ys)))

-- the texts after words
pub AreWords-front : (xs ys : List Word) → AreWords (xs ++ ys) → AreWords xs
AreWords-front [] ys are = tt
AreWords-front (x ∷ xs) ys are = (are.0, by xs are.1, AreWords-front xs ys are.2)
  where
    by : (xs : List Word) → DividesWords (run_of x) (xs ++ ys) → DividesWords (run_of x) xs
    by [] h = tt
    by (v ∷ xs) h = h

pub AreWords-back : (xs ys : List Word) → AreWords (xs ++ ys) → AreWords ys
AreWords-back [] ys are = are
AreWords-back (x ∷ xs) ys are = AreWords-back xs ys are.2

-- white stands after the last of words that others follow
pub last_some : (x : Word) (xs : List Word) (y : Word) (ys : List Word) → AreWords ((x ∷ xs) ++ (y ∷ ys)) → 0 < length (last_run (x ∷ xs))
last_some x [] y ys are = are.1
last_some x (v ∷ xs) y ys are = last_some v xs y ys are.2

pub last_white : (ws : List Word) → AreWords ws → list_all is_white (last_run ws) ≡ true
last_white [] are = refl
last_white (w ∷ []) are = run-white w.gap are.0.gap
last_white (w ∷ v ∷ ws) are = last_white (v ∷ ws) are.2

pub plain_text-append : (x : Word) (xs : List Word) (y : Word) (ys : List Word) → plain_text ((x ∷ xs) ++ (y ∷ ys)) ≡ plain_text (x ∷ xs) ++ (last_run (x ∷ xs) ++ plain_text (y ∷ ys))
plain_text-append x [] y ys = refl
plain_text-append x (v ∷ xs) y ys =
    let rest : List ℕ = last_run (v ∷ xs) ++ plain_text (y ∷ ys) in
    ap (λ t. x.octets ++ (run_of x ++ t)) (plain_text-append v xs y ys)
    ∙ ap (λ t. x.octets ++ t) (sym (append_assoc (run_of x) (plain_text (v ∷ xs)) rest))
    ∙ sym (append_assoc x.octets (run_of x ++ plain_text (v ∷ xs)) rest)

-- a copied piece without its folds
pub word_keeps : (xs : List ℕ) → list_all is_word_octet xs ≡ true → without_ends xs ≡ xs
word_keeps [] h = refl
word_keeps (x ∷ xs) h =
    let parts = and_parts (is_word_octet x) (list_all is_word_octet xs) h in
    let no_end = (and_parts (is_nonwhite x) (not (is_line_end x)) parts.0).1 in
    rw (no_end, word_keeps xs parts.1) refl

pub copied_text : (ws : List Word) → AreWords ws → without_ends (copied_octets ws) ≡ plain_text ws
copied_text [] are = refl
copied_text (w ∷ []) are = word_keeps w.octets are.0.octets
copied_text (w ∷ v ∷ ws) are =
    without_ends-append w.octets (w.gap ++ copied_octets (v ∷ ws))
    ∙ rw (word_keeps w.octets are.0.octets, without_ends-append w.gap (copied_octets (v ∷ ws)), copied_text (v ∷ ws) are.2, unfolded-folded w.gap are.0.gap.folded) refl

-- encoded words have neither CR nor LF
name_no_end : (x : ℕ) → is_token_octet x ≡ true → not (is_line_end x) ≡ true
name_no_end x h = grind (arith, nat_tests)

text_no_end : (x : ℕ) → is_text_octet x ≡ true → not (is_line_end x) ≡ true
text_no_end x h = grind (arith, nat_tests)

letter_no_end : (x : ℕ) → (to_ascii_uppercase x ≡ 66) ⊎ (to_ascii_uppercase x ≡ 81) → not (is_line_end x) ≡ true
letter_no_end x (inl h) = grind (arith, nat_tests)
letter_no_end x (inr h) = grind (arith, nat_tests)

pub written_word-no_end : (chunk rest : List ℕ) → IsUtf8 chunk → IsChunk chunk rest → list_all (λ x. not (is_line_end x)) (written_word chunk) ≡ true
written_word-no_end chunk rest u is =
    encoded_all (λ x. not (is_line_end x)) (record { name = name_no_end; text = text_no_end; letter = letter_no_end; marks = refl }) (written_word chunk) (Text chunk)
    (written_word-says chunk u is.some is.fits)

pub keeps_all : (xs : List ℕ) → list_all (λ x. not (is_line_end x)) xs ≡ true → without_ends xs ≡ xs
keeps_all [] h = refl
keeps_all (x ∷ xs) h =
    let parts = and_parts (not (is_line_end x)) (list_all (λ x. not (is_line_end x)) xs) h in
    rw (parts.0, keeps_all xs parts.1) refl

written_word_keeps : (chunk rest : List ℕ) → IsUtf8 chunk → IsChunk chunk rest → without_ends (written_word chunk) ≡ written_word chunk
written_word_keeps chunk rest u is = keeps_all (written_word chunk) (written_word-no_end chunk rest u is)

pub chunks_first : (c : List ℕ) (cs : List (List ℕ)) → AreChunks (c ∷ cs) [] → IsUtf8 (concat (c ∷ cs)) → IsChunk c (concat cs) × IsUtf8 c × IsUtf8 (concat cs)
chunks_first c cs are u =
    let is : IsChunk c (concat cs) = rw append-nil at are.0 in
    let both = chunk_utf8 c (concat cs) u is in
    (is, both.0, both.1)

encoded_place_is : (c rest run : List ℕ) → IsChunk c rest → IsUtf8 c → list_all is_white run ≡ true → IsPlace (record { word = written_word c; says = Some (Text c); run = run })
encoded_place_is c rest run is u white = record {
  is_word = written_word_some c;
  nonwhite = written_word-nonwhite c u;
  white = white;
  says = written_word-says c u is.some is.fits;
}

pub ArePlaces-encoded_places : (chunks : List (List ℕ)) (last : List ℕ) (rest : List Place) → AreChunks chunks [] → IsUtf8 (concat chunks) → Joint last rest → ArePlaces rest
    → ArePlaces (encoded_places chunks last rest)
ArePlaces-encoded_places [] last rest are u joint all = all
ArePlaces-encoded_places (c ∷ []) last rest are u joint all =
    let first = chunks_first c [] are u in
    ArePlaces-cons (record { word = written_word c; says = Some (Text c); run = last }) rest (encoded_place_is c (concat []) last first.0 first.1 (joint_white last rest joint)) joint all
ArePlaces-encoded_places (c ∷ d ∷ cs) last rest are u joint all =
    let first = chunks_first c (d ∷ cs) are u in
    let more = ArePlaces-encoded_places (d ∷ cs) last rest are.1 first.2 joint all in
    (encoded_place_is c (concat (d ∷ cs)) (32 ∷ []) first.0 first.1 refl, by cs, more)
  where
    by : (cs : List (List ℕ)) → PlaceDivides (32 ∷ []) (encoded_places (d ∷ cs) last rest)
    by [] = omega arith
    by (e ∷ cs) = omega arith

-- the pieces of encoded words show them
pub octets-encoded_places : (white : ℕ) (c : List ℕ) (cs : List (List ℕ)) (last : List ℕ) (rest : List Place) → AreChunks (c ∷ cs) [] → IsUtf8 (concat (c ∷ cs))
    → flat_map place_octets (encoded_places (c ∷ cs) last rest) ≡ shown (word_pieces white (map written_word (c ∷ cs))) ++ (last ++ flat_map place_octets rest)
octets-encoded_places white c [] last rest are u =
    let first = chunks_first c [] are u in
    rw (written_word_keeps c _ first.1 are.0, append-nil) (append_assoc (written_word c) last (flat_map place_octets rest))
octets-encoded_places white c (d ∷ cs) last rest are u =
    let first = chunks_first c (d ∷ cs) are u in
    let more = octets-encoded_places 32 d cs last rest are.1 first.2 in
    let others : List Piece = map (λ w. record { white = 32; octets = w }) (map written_word cs) in
    let text : List ℕ = without_ends (written_word d) ++ following others in
    let after : List ℕ = last ++ flat_map place_octets rest in
    ap (λ t. (written_word c ++ 32 ∷ []) ++ t) more ∙ append_assoc (written_word c) (32 ∷ []) (text ++ after) ∙ sym (append_assoc (written_word c) (32 ∷ text) after)
    ∙ ap (λ t. (t ++ 32 ∷ text) ++ after) (sym (written_word_keeps c _ first.1 are.0))

-- UTF-8 of a core's text
pub AreUtf8-front : (xs ys : List Word) → AreUtf8 (xs ++ ys) → AreUtf8 xs
AreUtf8-front [] ys u = tt
AreUtf8-front (x ∷ xs) ys u = (u.0, AreUtf8-front xs ys u.1)

pub AreUtf8-back : (xs ys : List Word) → AreUtf8 (xs ++ ys) → AreUtf8 ys
AreUtf8-back [] ys u = u
AreUtf8-back (x ∷ xs) ys u = AreUtf8-back xs ys u.1

pub white_utf8 : (xs : List ℕ) → list_all is_white xs ≡ true → IsUtf8 xs
white_utf8 [] h = IsUtf8-nil
white_utf8 (x ∷ xs) h =
    let parts = and_parts (is_white x) (list_all is_white xs) h in
    IsUtf8-append (x ∷ []) xs (IsUtf8-from_ascii (x ∷ []) (one x (white_below x parts.0))) (white_utf8 xs parts.1)
  where
    one : (x : ℕ) → x < 128 → IsAscii (x ∷ [])
    one x h zero = h
    one x h (suc i) = omega arith

pub plain_utf8 : (ws : List Word) → AreWords ws → AreUtf8 ws → IsUtf8 (plain_text ws)
plain_utf8 [] are u = IsUtf8-nil
plain_utf8 (w ∷ []) are u = u.0
plain_utf8 (w ∷ v ∷ ws) are u =
    IsUtf8-append w.octets (run_of w ++ plain_text (v ∷ ws)) u.0
    (IsUtf8-append (run_of w) (plain_text (v ∷ ws)) (white_utf8 (run_of w) (run-white w.gap are.0.gap)) (plain_utf8 (v ∷ ws) are.2 u.1))

-- the ends of a value
abbrev pub Ends : List ℕ → Type 0
Ends xs = StopsAfter is_white xs

Ends-append : (xs : List ℕ) (y : ℕ) (ys : List ℕ) → Ends (y ∷ ys) → Ends (xs ++ (y ∷ ys))
Ends-append [] y ys h = h
Ends-append (x ∷ []) y ys h = h
Ends-append (x ∷ z ∷ xs) y ys h = Ends-append (z ∷ xs) y ys h

Ends-nonwhite : (xs : List ℕ) → list_all is_nonwhite xs ≡ true → Ends xs
Ends-nonwhite [] h = tt
Ends-nonwhite (x ∷ []) h = not-true (is_white x) (and_parts (is_nonwhite x) true h).0
Ends-nonwhite (x ∷ y ∷ xs) h = Ends-nonwhite (y ∷ xs) (and_parts (is_nonwhite x) (list_all is_nonwhite (y ∷ xs)) h).1

-- Places whose last run is nothing end in no white.
abbrev pub IsBare : List Place → Type 0
IsBare [] = Unit {0}
IsBare (p ∷ []) = p.run ≡ []
IsBare (p ∷ q ∷ ps) = IsBare (q ∷ ps)

pub Ends-places : (ps : List Place) → ArePlaces ps → IsBare ps → Ends (flat_map place_octets ps)
Ends-places [] are bare = tt
Ends-places (p ∷ []) are bare = rw (bare, append-nil, append-nil) (Ends-nonwhite p.word are.0.nonwhite)
Ends-places (p ∷ q ∷ ps) are bare = go (flat_map place_octets (q ∷ ps)) (some q ps are.2.0.is_word) (Ends-places (q ∷ ps) are.2 bare)
  where
    go : (ys : List ℕ) → 0 < length ys → Ends ys → Ends ((p.word ++ p.run) ++ ys)
    go [] some h = absurd (omega arith)
    go (y ∷ ys) some h = Ends-append (p.word ++ p.run) y ys h

    some : (q : Place) (ps : List Place) → 0 < length q.word → 0 < length ((q.word ++ q.run) ++ flat_map place_octets ps)
    some q ps h = omega (arith, length-append (q.word ++ q.run) (flat_map place_octets ps), length-append q.word q.run)

bare_after : (last : List ℕ) (rest : List Place) → Joint last rest → (p : Place) → p.run ≡ last → IsBare rest → IsBare (p ∷ rest)
bare_after last [] joint p e bare = e ∙ joint
bare_after last (q ∷ rest) joint p e bare = bare

bare_cons : (p : Place) (q : Place) (ps : List Place) → IsBare (q ∷ ps) → IsBare (p ∷ q ∷ ps)
bare_cons p q ps h = h

pub bare-places : (w : Word) (ws : List Word) (are : AreWords (w ∷ ws)) (last : List ℕ) (rest : List Place) → Joint last rest → IsBare rest → IsBare (places (w ∷ ws) are last rest)
bare-places w [] are last rest joint bare = bare_after last rest joint (place_of w are.0 last) refl bare
bare-places w (v ∷ []) are last rest joint bare = bare-places v [] are.2 last rest joint bare
bare-places w (v ∷ u ∷ ws) are last rest joint bare = bare-places v (u ∷ ws) are.2 last rest joint bare

pub bare-encoded_places : (c : List ℕ) (cs : List (List ℕ)) (last : List ℕ) (rest : List Place) → Joint last rest → IsBare rest → IsBare (encoded_places (c ∷ cs) last rest)
bare-encoded_places c [] last rest joint bare = bare_after last rest joint (record { word = written_word c; says = Some (Text c); run = last }) refl bare
bare-encoded_places c (d ∷ []) last rest joint bare = bare-encoded_places d [] last rest joint bare
bare-encoded_places c (d ∷ e ∷ cs) last rest joint bare = bare-encoded_places d (e ∷ cs) last rest joint bare
