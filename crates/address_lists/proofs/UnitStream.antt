-- What a phrase says is written token by token.
use Rattle.std.proofs.Common.{◌≡◌, ℕ, Bool, true, false, ◌||◌, List, [], ◌∷◌, ◌++◌, refl, sym, ap, ◌∙◌, subst}
use Rattle.std.proofs.lemmas.List.{append_assoc, append-nil}
use Rattle.std.specs.List.{AllByRecursion, list_all}
use Rattle.mail_wire.proofs.AllLemmas.{all-back}
use Rattle.encoded_words.specs.Folding.{lines_of, AddsLines}
use Rattle.encoded_words.specs.Words.{UnitValue}
use Rattle.encoded_words.specs.PhraseUnits.{IsUtf8Item, HasPhraseUnits}
use Rattle.encoded_words.specs.Written.{IsWritable, AreWritable, WriteAll}
use Rattle.encoded_words.specs.private.Merging.{all_units_then}
use Rattle.encoded_words.proofs.LineLemmas.{adds_none, adds_both}
use Rattle.encoded_words.proofs.WritableUnits.{HasPhraseUnits-writable}
use Rattle.field_tokens.specs.Tokens.{TokenValue}
use Rattle.field_tokens.specs.Squeezed.{is_there}
use Rattle.address_grammar.specs.declared.phrases.PhraseReader.{PhraseReader}
use Rattle.address_grammar.specs.Phrases.{may_stand_in_phrase, IsPhrase, phrase_items}
use Rattle.address_grammar.specs.private.PhraseSteps.{IsFreshReader, ReadsPhraseOn, ReadsToken}
use Rattle.address_grammar.proofs.PhraseReading.{fresh_reads, given_writable, rest_stands, token_reads, rest_reads}
use Rattle.address_lists.specs.PhrasePieces.{UnitsPieces}
use Rattle.address_lists.specs.private.Emptied.{GivesUnits}

pub WriteAll-append : (us vs : List UnitValue) (xs ys : List (List ℕ)) → WriteAll us xs → WriteAll vs ys → WriteAll (us ++ vs) (xs ++ ys)
WriteAll-append [] vs xs ys p q = subst (λ r. WriteAll vs (r ++ ys)) (sym p) q
WriteAll-append (u ∷ us) vs xs ys p q = (p.0, p.1 ++ ys, ap (λ r. r ++ ys) p.2 ∙ append_assoc p.0 p.1 ys, p.3, WriteAll-append us vs p.1 ys p.4 q)

-- ---- a phrase that is read

-- these units were given of the phrase, and rest is left
pub record Streams (all : List TokenValue) (r : PhraseReader) (rest : List TokenValue) (given : List UnitValue) : Type 0 where
  pub stands : list_all may_stand_in_phrase rest ≡ true
  pub reads : ReadsPhraseOn (phrase_items all) given r (phrase_items rest)

pub stream_start : (ts : List TokenValue) (r : PhraseReader) → IsPhrase ts → IsFreshReader r → Streams ts r ts []
stream_start ts r is fresh = record { stands = is.each; reads = fresh_reads (phrase_items ts) r fresh }

pub stream_turn : (all rest following : List TokenValue) (t : TokenValue) (old new : PhraseReader) (given said : List UnitValue) → Streams all old rest given → rest ≡ t ∷ following → ReadsToken old new t following said
    → Streams all new following (given ++ said)
stream_turn all rest following t old new given said s e read = record {
  stands = rest_stands rest following t e s.stands;
  reads = read (phrase_items all) given (token_reads (phrase_items all) given old rest following t e s.reads);
}

-- what is given next can be written
pub said_writable : (all rest : List TokenValue) (r : PhraseReader) (given said : List UnitValue) → AllByRecursion IsUtf8Item (phrase_items all) → Streams all r rest (given ++ said) → AreWritable said
said_writable all rest r given said utf8 s = all-back IsWritable given said (given_writable (phrase_items all) (phrase_items rest) (given ++ said) r utf8 s.reads)

pub stream_end : (all rest : List TokenValue) (r : PhraseReader) (given last : List UnitValue) → Streams all r rest given → rest ≡ [] → last ≡ all_units_then r.units [] → HasPhraseUnits (phrase_items all) (given ++ last)
stream_end all rest r given last s e is = subst (λ u. HasPhraseUnits (phrase_items all) (given ++ u)) (sym is) (rest_reads (phrase_items all) given r rest e s.reads)

pub last_writable : (all : List TokenValue) (given last : List UnitValue) → AllByRecursion IsUtf8Item (phrase_items all) → HasPhraseUnits (phrase_items all) (given ++ last) → AreWritable last
last_writable all given last utf8 has = all-back IsWritable given last (HasPhraseUnits-writable (phrase_items all) (given ++ last) utf8 has)

-- ---- and written

pub there_more : (given said : List UnitValue) (before : Bool) → before ≡ is_there given → (is_there said || before) ≡ is_there (given ++ said)
there_more given said before e = ap (λ b. is_there said || b) e ∙ by given said
  where
    by : (us vs : List UnitValue) → (is_there vs || is_there us) ≡ is_there (us ++ vs)
    by [] [] = refl
    by [] (v ∷ vs) = refl
    by (u ∷ us) [] = refl
    by (u ∷ us) (v ∷ vs) = refl

-- the units of the first tokens were written
pub record WritesStream (all : List TokenValue) (old new : List ℕ) (r : PhraseReader) (is_said : Bool) (rest : List TokenValue) : Type 0 where
  pub given : List UnitValue
  pub streams : Streams all r rest given
  pub lines : AddsLines (WriteAll given) old new
  pub there : is_said ≡ is_there given

pub writes_start : (ts : List TokenValue) (made : List ℕ) (r : PhraseReader) → IsPhrase ts → IsFreshReader r → WritesStream ts made made r false ts
writes_start ts made r is fresh = record { given = []; streams = stream_start ts r is fresh; lines = adds_none made refl; there = refl }

pub writes_can : (all : List TokenValue) (old mid : List ℕ) (r n : PhraseReader) (is_said : Bool) (rest following : List TokenValue) (t : TokenValue) (said : List UnitValue) → AllByRecursion IsUtf8Item (phrase_items all)
    → WritesStream all old mid r is_said rest → rest ≡ t ∷ following → ReadsToken r n t following said → AreWritable said
writes_can all old mid r n is_said rest following t said utf8 w e read = said_writable all following n w.given said utf8 (stream_turn all rest following t r n w.given said w.streams e read)

pub writes_turn : (all : List TokenValue) (old mid new : List ℕ) (r n : PhraseReader) (is_said next : Bool) (rest following : List TokenValue) (t : TokenValue) (said : List UnitValue)
    → WritesStream all old mid r is_said rest → rest ≡ t ∷ following → ReadsToken r n t following said → next ≡ (is_there said || is_said) → AddsLines (WriteAll said) mid new → WritesStream all old new n next following
writes_turn all old mid new r n is_said next rest following t said w e read is a = record {
  given = w.given ++ said;
  streams = stream_turn all rest following t r n w.given said w.streams e read;
  lines = adds_both (λ xs ys p q. WriteAll-append w.given said xs ys p q) w.lines a;
  there = is ∙ there_more w.given said is_said w.there;
}

pub writes_last : (all : List TokenValue) (old mid : List ℕ) (r : PhraseReader) (is_said : Bool) (rest : List TokenValue) (last : List UnitValue) → AllByRecursion IsUtf8Item (phrase_items all) → WritesStream all old mid r is_said rest
    → rest ≡ [] → last ≡ all_units_then r.units [] → AreWritable last
writes_last all old mid r is_said rest last utf8 w e is = last_writable all w.given last utf8 (stream_end all rest r w.given last w.streams e is)

units_said : (us : List UnitValue) → is_there us ≡ true → (xs : List (List ℕ)) → WriteAll us xs → UnitsPieces us xs
units_said [] h xs p = cc h
units_said (u ∷ us) h xs p = p

pub writes_some : (all : List TokenValue) (old mid new : List ℕ) (r : PhraseReader) (is_said : Bool) (rest : List TokenValue) (last : List UnitValue) → WritesStream all old mid r is_said rest
    → rest ≡ [] → last ≡ all_units_then r.units [] → AddsLines (WriteAll last) mid new → (is_there last || is_said) ≡ true → AddsLines (GivesUnits all) old new
writes_some all old mid new r is_said rest last w e is a some =
    let there : is_there (w.given ++ last) ≡ true = sym (there_more w.given last is_said w.there) ∙ some in
    adds_both (λ xs ys p q. (w.given ++ last, stream_end all rest r w.given last w.streams e is, units_said (w.given ++ last) there (xs ++ ys) (WriteAll-append w.given last xs ys p q))) w.lines a

nothing_there : (us : List UnitValue) → is_there us ≡ false → us ≡ []
nothing_there [] h = refl
nothing_there (u ∷ us) h = cc h

nothing_written : (us : List UnitValue) (old new : List ℕ) → us ≡ [] → AddsLines (WriteAll us) old new → new ≡ old
nothing_written [] old new e a = a.added ∙ ap (λ r. old ++ lines_of r) a.holds ∙ append-nil old
nothing_written (u ∷ us) old new e a = cc e

pub writes_none : (all : List TokenValue) (old mid put new : List ℕ) (r : PhraseReader) (is_said : Bool) (rest : List TokenValue) (last : List UnitValue) → WritesStream all old mid r is_said rest
    → rest ≡ [] → last ≡ all_units_then r.units [] → AddsLines (WriteAll last) mid put → (is_there last || is_said) ≡ false → new ≡ put ++ lines_of ((34 ∷ 34 ∷ []) ∷ []) → AddsLines (GivesUnits all) old new
writes_none all old mid put new r is_said rest last w e is a none f =
    let nothing : w.given ++ last ≡ [] = nothing_there (w.given ++ last) (sym (there_more w.given last is_said w.there) ∙ none) in
    let all_lines : AddsLines (WriteAll (w.given ++ last)) old put = adds_both (λ xs ys p q. WriteAll-append w.given last xs ys p q) w.lines a in
    record {
      pieces = (34 ∷ 34 ∷ []) ∷ [];
      holds = ([], subst (HasPhraseUnits (phrase_items all)) nothing (stream_end all rest r w.given last w.streams e is), refl);
      added = f ∙ ap (λ r. r ++ lines_of ((34 ∷ 34 ∷ []) ∷ [])) (nothing_written (w.given ++ last) old put nothing all_lines);
    }
