-- Units are written one after another.
use Rattle.std.proofs.Common.{◌≡◌, ℕ, ◌+◌, ◌<◌, ◌≤◌, List, [], ◌∷◌, ◌++◌, length, get_or, take, drop, map, refl, sym, ap, ◌∙◌, subst}
use Rattle.std.proofs.lemmas.List.{append_assoc, append-nil, map-append, take_more, take_all, drop_more}
use Rattle.encoded_words.specs.declared.Unit.{Unit as CodeUnit}
use Rattle.encoded_words.specs.private.Values.{value_of}
use Rattle.encoded_words.specs.Words.{UnitValue, Text, Opaque}
use Rattle.encoded_words.specs.Folding.{AddsWordLines, lines_of, AddsLines}
use Rattle.encoded_words.specs.Written.{WritesUnit, WriteAll, IsWritable, AreWritable}
use Rattle.encoded_words.proofs.Chunks.{AreWordsOf-once}
use Rattle.encoded_words.proofs.LineLemmas.{adds_none, adds_these, adds_both, made-lines}
use Rattle.encoded_words.proofs.AllChunks.{AreWordsOf-some}

pub write_append : (us vs : List UnitValue) (a b : List (List ℕ)) → WriteAll us a → WriteAll vs b → WriteAll (us ++ vs) (a ++ b)
write_append [] vs a b p q = rw (p) q
write_append (u ∷ us) vs a b p q =
    (p.0, p.1 ++ b, ap (λ r. r ++ b) p.2 ∙ append_assoc p.0 p.1 b, p.3, write_append us vs p.1 b p.4 q)

one_unit : (u : UnitValue) (pieces : List (List ℕ)) → WritesUnit u pieces → WriteAll (u ∷ []) pieces
one_unit u pieces w = (pieces, [], sym (append-nil pieces), w, refl)

-- these units were written, and those that are left can be
pub record WritesSo (units : List CodeUnit) (i : ℕ) (old new : List ℕ) : Type 0 where
  pub adds : AddsLines (WriteAll (map value_of (take i units))) old new
  pub can : AreWritable (map value_of (drop i units))

pub writes_start : (units : List CodeUnit) (old : List ℕ) → AreWritable (map value_of units) → WritesSo units 0 old old
writes_start units old can = record { adds = adds_none old refl; can = can }

pub next_writable : (units : List CodeUnit) (i : ℕ) (d : CodeUnit) (old new : List ℕ) → i < length units → WritesSo units i old new → IsWritable (value_of (get_or units i d))
next_writable units i d old new h w = (subst (λ r. AreWritable (map value_of r)) (drop_more units i d h) w.can).0

pub writes_turn : (units : List CodeUnit) (i : ℕ) (d : CodeUnit) (old mid new : List ℕ) → i < length units → WritesSo units i old mid → AddsLines (WritesUnit (value_of (get_or units i d))) mid new → WritesSo units (i + 1) old new
writes_turn units i d old mid new h w a =
    let u : UnitValue = value_of (get_or units i d) in
    let done : List UnitValue = map value_of (take i units) in
    let one : List CodeUnit = get_or units i d ∷ [] in
    let values : map value_of (take (i + 1) units) ≡ done ++ u ∷ [] = rw (take_more units i d h) (map-append value_of (take i units) one) in
    record {
      adds = adds_both (λ first more p q. rw values (write_append done (u ∷ []) first more p (one_unit u more q))) w.adds a;
      can = (subst (λ r. AreWritable (map value_of r)) (drop_more units i d h) w.can).1;
    }

pub writes_all : (units : List CodeUnit) (i : ℕ) (old new : List ℕ) → length units ≤ i → WritesSo units i old new → AddsLines (WriteAll (map value_of units)) old new
writes_all units i old new h w = rw (take_all i units h) at w.adds

-- the lines of a text's words are those of its pieces
pub adds_words : (text old new : List ℕ) → AddsWordLines text 32 old new → AddsLines (WritesUnit (Text text)) old new
adds_words text old new adds = adds_these adds.words adds.are_words (adds.added ∙ ap (λ r. old ++ r) (made-lines adds.words))

-- There is one list of pieces of units.
Writes-once : (u : UnitValue) (ps qs : List (List ℕ)) → WritesUnit u ps → WritesUnit u qs → ps ≡ qs
Writes-once (Text octets) ps qs p q = AreWordsOf-once octets ps qs p q
Writes-once (Opaque charset octets source) ps qs p q = p ∙ sym q

pub WriteAll-once : (us : List UnitValue) (ps qs : List (List ℕ)) → WriteAll us ps → WriteAll us qs → ps ≡ qs
WriteAll-once [] ps qs p q = p ∙ sym q
WriteAll-once (u ∷ us) ps qs p q =
    let first : p.0 ≡ q.0 = Writes-once u p.0 q.0 p.3 q.3 in
    let more : p.1 ≡ q.1 = WriteAll-once us p.1 q.1 p.4 q.4 in
    p.2 ∙ rw (first, more) refl ∙ sym q.2

-- Units that can be written have pieces.
Writes-some : (u : UnitValue) → IsWritable u → (pieces : List (List ℕ)) × WritesUnit u pieces
Writes-some (Text octets) can = AreWordsOf-some octets can
Writes-some (Opaque charset octets source) can = (source ∷ [], refl)

pub WriteAll-some : (us : List UnitValue) → AreWritable us → (pieces : List (List ℕ)) × WriteAll us pieces
WriteAll-some [] can = ([], refl)
WriteAll-some (u ∷ us) can =
    let first = Writes-some u can.0 in
    let more = WriteAll-some us can.1 in
    (first.0 ++ more.0, (first.0, more.0, refl, first.1, more.1))
