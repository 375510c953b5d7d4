-- Every body has words.
use Rattle.std.proofs.Common.{ℕ, ◌≤◌, Bool, true, false, zero, suc, List, [], ◌∷◌, ◌++◌, length, Option, Some, None, refl, ap, arith}
use Rattle.std.proofs.lemmas.List.{length-append}
use Rattle.std.specs.Str.{IsUtf8}
use Rattle.mail_wire.specs.Folds.{IsFolded}
use Rattle.utf8_fields.proofs.AllSpans.{span_of}
use Rattle.encoded_words.specs.Words.{UnitValue, Says}
use Rattle.encoded_words.proofs.Deciding.{decide_says}
use Rattle.field_downgrade.specs.Words.{Word, AreUtf8, HasWords, TellsEncoded, is_word_octet, is_gap_octet}
use Rattle.field_downgrade.proofs.WordLemmas.{Reads, Reads-start, Reads-step, Reads-end, word_some}

-- whether a word is an encoded word
told : (word : List ℕ) → (is : Bool) × TellsEncoded is word
told word = let says = decide_says word in by says.0 says.1
  where
    by : (says : Option UnitValue) → Says word says → (is : Bool) × TellsEncoded is word
    by (Some unit) is = (true, (unit, is))
    by None none = (false, none)

more_words : (n : ℕ) (body : List ℕ) (done : List Word) (rest : List ℕ) → length rest ≤ n → Reads body done rest → (words : List Word) × HasWords body words × AreUtf8 words
more_words n body done [] small reads = let end = Reads-end body done [] reads refl in (done, end.0, end.1)
more_words zero body done (x ∷ rest) small reads = absurd (omega (arith, small))
more_words (suc n) body done (x ∷ rest) small reads =
    let word = span_of is_word_octet (x ∷ rest) in
    let gap = span_of is_gap_octet word.1 in
    let is = told word.0 in
    let some = word_some (x ∷ rest) word.0 word.1 (omega arith) reads.stops word.2 in
    more_words n body (done ++ record { octets = word.0; is_encoded = is.0; gap = gap.0 } ∷ []) gap.1
    (omega (arith, small, some, ap length word.2.whole, length-append word.0 word.1, ap length gap.2.whole, length-append gap.0 gap.1))
    (Reads-step body done (x ∷ rest) word.0 word.1 gap.0 gap.1 is.0 reads (omega arith) word.2 gap.2 is.1)

pub HasWords-some : (body : List ℕ) → IsFolded body → IsUtf8 body → (words : List Word) × HasWords body words × AreUtf8 words
HasWords-some body folded u =
    let lead = span_of is_gap_octet body in
    more_words (length lead.1) body [] lead.1 (omega arith) (Reads-start body lead.0 lead.1 folded u lead.2)
