-- The words of a text read back.
use Rattle.std.proofs.Common.{◌≡◌, ℕ, ◌+◌, ◌*◌, ◌/◌, ◌%◌, ◌<◌, ◌≤◌, min, nat_lt, Bool, true, List, [], ◌∷◌, ◌++◌, length, map, codes, None, refl, ◌∙◌, arith, inl, inr, replicate, ltb, get_or}
use Rattle.std.proofs.lemmas.List.{append-nil, length-append, length-replicate, take_at, drop_at, get_or_past}
use Rattle.std.proofs.lemmas.Bool.{and_parts, and_from, cases_Bool, cases_lt, ltb-true, ltb-false}
use Rattle.std.proofs.lemmas.Bool.Decides.{nat_tests}
use Rattle.std.proofs.lemmas.Str.{is_utf8-from_IsUtf8, IsUtf8-take, IsUtf8-drop}
use Rattle.std.proofs.lemmas.List.Sums.{AllPass-from_list_all}
use Rattle.std.specs.List.{count_by, list_all, concat}
use Rattle.std.specs.Str.{IsAscii, IsUtf8}
use Rattle.base64.specs.Engines.{standard}
use Rattle.base64.specs.GeneralPurpose.{encode_of, engine_symbols}
use Rattle.base64.specs.Rfc4648.{encode_symbols, unpadded_len, padding_len}
use Rattle.base64.proofs.RoundTrip.{length-encode_symbols}
use Rattle.encoded_words.specs.Words.{WordParts, IsEncodedWord, Text, unit_of, word_of, is_text_octet}
use Rattle.mail_wire.specs.Octets.{is_nonwhite}
use Rattle.mail_wire.proofs.AllLemmas.{pass-append, pass-weaker}
use Rattle.encoded_words.specs.WrittenWords.{is_safe_octet, q_text, b_word, q_word, written_word, IsChunk, AreChunks, AreShort}
use Rattle.encoded_words.proofs.Octets.{bytes-IsUtf8, IsBytes-from_all, encoded_hold, encoded_passes}
use Rattle.encoded_words.specs.private.Escapes.{is_escaped}
use Rattle.encoded_words.proofs.QWords.{q_text-is, q_text-all, q_text_some, length-q_text}

-- what holds of both words holds of the one that is written
by_word : (P : List ℕ → Type 0) (octets : List ℕ) → P (b_word octets) → (length (q_word octets) ≤ length (b_word octets) → P (q_word octets)) → P (written_word octets)
unfolding written_word
by_word P octets b q = elim (cases_Bool (ltb (length (b_word octets)) (length (q_word octets)))) [
  | inl shorter ↦ rw shorter b
  | inr other ↦ rw other (q (ltb-false (length (b_word octets)) (length (q_word octets)) other))
]

abbrev b_parts : List ℕ → WordParts
b_parts chunk = record { charset = codes "UTF-8"; language = None; letter = 66; text = encode_of standard chunk }

b_word_is : (chunk : List ℕ) → b_word chunk ≡ word_of (b_parts chunk)
unfolding b_word
b_word_is chunk = refl

-- the length of padded base64
pub length-encode_of : (octets : List ℕ) → length (encode_of standard octets) ≡ unpadded_len (length octets) + padding_len (length octets)
length-encode_of octets =
    let symbols = length-encode_symbols (engine_symbols standard) octets in
    length-append (encode_symbols (engine_symbols standard) octets) (replicate (padding_len (length octets)) 61)
    ∙ rw (symbols, length-replicate {A = ℕ} (padding_len (length octets)) 61) refl

size_fits : (n : ℕ) → n ≤ 45 → unpadded_len n + padding_len n ≤ 60
size_fits n h = omega arith

size_some : (n : ℕ) → 0 < n → 0 < unpadded_len n + padding_len n
size_some n h = omega arith

unit_is : (chunk word : List ℕ) → IsUtf8 chunk → Text chunk ≡ unit_of (codes "UTF-8") chunk word
unfolding unit_of
unit_is chunk word u = rw (is_utf8-from_IsUtf8 chunk u) refl

b_word-says : (chunk : List ℕ) → IsUtf8 chunk → 0 < length chunk → length chunk ≤ 45 → IsEncodedWord (b_word chunk) (Text chunk)
b_word-says chunk u some fits =
    let bytes = bytes-IsUtf8 chunk u in
    let size = length-encode_of chunk in
    let some_text : 0 < length (encode_of standard chunk) = rw size (size_some (length chunk) some) in
    let short_text : length (encode_of standard chunk) ≤ 60 = rw size (size_fits (length chunk) fits) in
    record {
      parts = b_parts chunk;
      octets = chunk;
      has_parts = record {
        spelled = b_word_is chunk;
        charset = (omega arith, refl);
        language = tt;
        text = (some_text, encoded_passes chunk bytes);
        short = rw (b_word_is chunk) (omega (arith, length-append (encode_of standard chunk) (63 ∷ 61 ∷ [])));
      };
      spells = inl (refl, (IsBytes-from_all chunk bytes, refl));
      says = unit_is chunk (b_word chunk) u;
    }

abbrev q_parts : List ℕ → WordParts
q_parts chunk = record { charset = codes "UTF-8"; language = None; letter = 81; text = q_text chunk }

q_word_is : (chunk : List ℕ) → q_word chunk ≡ word_of (q_parts chunk)
unfolding q_word
q_word_is chunk = refl

text_safe : (b : ℕ) → is_safe_octet b ≡ true → is_text_octet b ≡ true
text_safe b h = grind (arith, nat_tests)

q_word-says : (chunk : List ℕ) → IsUtf8 chunk → 0 < length chunk → length (q_word chunk) ≤ 75 → IsEncodedWord (q_word chunk) (Text chunk)
q_word-says chunk u some short =
    let bytes = bytes-IsUtf8 chunk u in
    record {
      parts = q_parts chunk;
      octets = chunk;
      has_parts = record {
        spelled = q_word_is chunk;
        charset = (omega arith, refl);
        language = tt;
        text = (q_text_some chunk some, q_text-all is_text_octet text_safe refl refl chunk bytes);
        short = short;
      };
      spells = inr (refl, q_text-is chunk bytes);
      says = unit_is chunk (q_word chunk) u;
    }

-- a word says its chunk
pub written_word-says : (chunk : List ℕ) → IsUtf8 chunk → 0 < length chunk → length chunk ≤ 45 → IsEncodedWord (written_word chunk) (Text chunk)
written_word-says chunk u some fits =
    let b = b_word-says chunk u some fits in
    by_word (λ w. IsEncodedWord w (Text chunk)) chunk b (λ no_longer. q_word-says chunk u some (omega (arith, no_longer, b.has_parts.short)))

-- what holds of each octet that a written word may have
pub record HoldsInWrittenWords (p : ℕ → Bool) : Type 0 where
  pub safe : (b : ℕ) → is_safe_octet b ≡ true → p b ≡ true
  pub marks : list_all p (codes "=?_") ≡ true

-- base64 has safe octets, but for the one that pads
symbols_hold : (p : ℕ → Bool) → HoldsInWrittenWords p → list_all p (engine_symbols standard) ≡ true
symbols_hold p holds = pass-weaker is_safe_octet p holds.safe (engine_symbols standard) refl

pub written_word-all : (p : ℕ → Bool) → HoldsInWrittenWords p → (chunk : List ℕ) → IsUtf8 chunk → list_all p (written_word chunk) ≡ true
unfolding b_word q_word
written_word-all p holds chunk u =
    let bytes = bytes-IsUtf8 chunk u in
    let equals = and_parts (p 61) (list_all p (codes "?_")) holds.marks in
    let question = and_parts (p 63) (list_all p (codes "_")) equals.1 in
    let low_line = and_parts (p 95) true question.1 in
    let name : list_all p (codes "UTF-8") ≡ true = pass-weaker is_safe_octet p holds.safe (codes "UTF-8") refl in
    let start : (letter : ℕ) → is_safe_octet letter ≡ true → list_all p (codes "=?UTF-8?" ++ letter ∷ codes "?") ≡ true
    = λ letter h. and_from (p 61) (list_all p (codes "?UTF-8?" ++ letter ∷ codes "?")) equals.0 (and_from (p 63) (list_all p (codes "UTF-8?" ++ letter ∷ codes "?")) question.0
    (pass-append p (codes "UTF-8") (63 ∷ letter ∷ codes "?") name
    (and_from (p 63) (list_all p (letter ∷ codes "?")) question.0 (and_from (p letter) (list_all p (codes "?")) (holds.safe letter h) (and_from (p 63) true question.0 refl))))) in
    let end : list_all p (codes "?=") ≡ true = and_from (p 63) (list_all p (codes "=")) question.0 (and_from (p 61) true equals.0 refl) in
    by_word (λ w. list_all p w ≡ true) chunk
    (pass-append p (codes "=?UTF-8?B?") (encode_of standard chunk ++ codes "?=") (start 66 refl)
    (pass-append p (encode_of standard chunk) (codes "?=") (encoded_hold p (symbols_hold p holds) equals.0 chunk bytes) end))
    (λ _. pass-append p (codes "=?UTF-8?Q?") (q_text chunk ++ codes "?=") (start 81 refl)
    (pass-append p (q_text chunk) (codes "?=") (q_text-all p holds.safe equals.0 low_line.0 chunk bytes) end))

nonwhite_safe : (b : ℕ) → is_safe_octet b ≡ true → is_nonwhite b ≡ true
nonwhite_safe b h = grind (arith, nat_tests)

pub written_word-nonwhite : (chunk : List ℕ) → IsUtf8 chunk → list_all is_nonwhite (written_word chunk) ≡ true
written_word-nonwhite chunk u = written_word-all is_nonwhite (record { safe = nonwhite_safe; marks = refl }) chunk u

-- a word begins with `=`
pub written_word-first : (chunk : List ℕ) → (rest : List ℕ) × (written_word chunk ≡ 61 ∷ rest)
unfolding b_word q_word
written_word-first chunk = by_word (λ w. (rest : List ℕ) × (w ≡ 61 ∷ rest)) chunk (_, refl) (λ _. (_, refl))

pub written_word_some : (chunk : List ℕ) → 0 < length (written_word chunk)
written_word_some chunk = let first = written_word-first chunk in rw (first.1) (omega arith)

-- a chunk of a text and what follows it are texts
pub chunk_utf8 : (chunk rest : List ℕ) → IsUtf8 (chunk ++ rest) → IsChunk chunk rest → IsUtf8 chunk × IsUtf8 rest
chunk_utf8 chunk rest u is = (
  rw (take_at chunk rest (length chunk) refl) at (IsUtf8-take (chunk ++ rest) (length chunk) u is.cut),
  rw (drop_at chunk rest (length chunk) refl) at (IsUtf8-drop (chunk ++ rest) (length chunk) u is.cut),
)

pub ascii_literal : (bs : List ℕ) → list_all (λ b. ltb b 128) bs ≡ true → IsAscii bs
ascii_literal bs h i = elim (cases_lt i (length bs)) [
  | inl l ↦ ltb-true (get_or bs i 0) 128 (AllPass-from_list_all (λ b. ltb b 128) bs h i 0 l)
  | inr g ↦ rw (get_or_past bs i 0 g) (omega arith)
]

ascii_safe : (b : ℕ) → is_safe_octet b ≡ true → ltb b 128 ≡ true
ascii_safe b h = grind (arith, nat_tests)

pub written_word-ascii : (chunk : List ℕ) → IsUtf8 chunk → IsAscii (written_word chunk)
written_word-ascii chunk u = ascii_literal (written_word chunk) (written_word-all (λ b. ltb b 128) (record { safe = ascii_safe; marks = refl }) chunk u)

pub AreShort-written_words : (chunks : List (List ℕ)) → AreChunks chunks [] → IsUtf8 (concat chunks) → AreShort (map written_word chunks)
AreShort-written_words [] are u = tt
AreShort-written_words (chunk ∷ chunks) are u =
    let is : IsChunk chunk (concat chunks) = rw append-nil at are.0 in
    let both = chunk_utf8 chunk (concat chunks) u is in
    let says = written_word-says chunk both.0 is.some is.fits in
    (says.has_parts.short, written_word-ascii chunk both.0, AreShort-written_words chunks are.1 both.1)

-- Which of both words is shorter.
length-b_word : (octets : List ℕ) → length (b_word octets) ≡ 12 + (unpadded_len (length octets) + padding_len (length octets))
unfolding b_word
length-b_word octets = omega (arith, length-encode_of octets, length-append (encode_of standard octets) (codes "?="))

length-q_word : (octets : List ℕ) → length (q_word octets) ≡ 12 + (length octets + 2 * count_by is_escaped octets)
unfolding q_word
length-q_word octets = omega (arith, length-q_text octets, length-append (q_text octets) (codes "?="))

padded_size : (n : ℕ) → unpadded_len n + padding_len n ≡ (n / 3 + min 1 (n % 3)) * 4
padded_size n = omega arith

pub b_shorter : (octets : List ℕ) (groups escaped : ℕ) → groups ≡ length octets / 3 + min 1 (length octets % 3) → escaped ≡ count_by is_escaped octets
    → nat_lt (groups * 4) (length octets + 2 * escaped) ≡ nat_lt (length (b_word octets)) (length (q_word octets))
b_shorter octets groups escaped g e =
    let b = length-b_word octets in
    let q = length-q_word octets in
    let size = padded_size (length octets) in
    grind (arith, nat_tests)
