-- The units of a phrase are read token by token.
use Rattle.std.proofs.Common.{◌≡◌, ℕ, Bool, true, false, not, ◌&&◌, ◌||◌, cond, List, [], ◌∷◌, ◌++◌, is_some, None, refl, sym, ap, ◌∙◌, subst}
use Rattle.std.proofs.lemmas.Bool.{and_parts, or_right}
use Rattle.std.proofs.lemmas.List.{append_assoc}
use Rattle.std.proofs.lemmas.Slice.Eq.{bytes_eq-Decides}
use Rattle.mail_wire.proofs.AllLemmas.{all-front}
use Rattle.encoded_words.specs.declared.units.Merging.{Merging}
use Rattle.encoded_words.specs.Words.{UnitValue, Text}
use Rattle.encoded_words.specs.Units.{Place, with_text, word_unit, merged, raw_units, begins_encoded, run_text}
use Rattle.encoded_words.specs.private.Merging.{IsMerging, TakesWord, done_values, all_units_then, onto}
use Rattle.encoded_words.specs.PhraseUnits.{PhraseItem, Content, Separator, IsUtf8Item, word_before, gap_before, begins_free, has_word, phrase_words, IsPhrasePlace, ArePhrasePlaces, HasPhraseUnits}
use Rattle.encoded_words.specs.Written.{IsWritable, AreWritable}
use Rattle.encoded_words.proofs.AllUnits.{HasPhraseUnits-some}
use Rattle.encoded_words.proofs.WritableUnits.{HasPhraseUnits-writable}
use Rattle.encoded_words.proofs.Reading.{merged-onto, and_false, then_text, and_true}
use Rattle.std.specs.List.{AllByRecursion, list_all}
use Rattle.field_tokens.specs.declared.TokenKind.{TokenKind}
use Rattle.field_tokens.specs.declared.TokenKind.TheVariants.{Atom, Quoted, Literal, Special, Gap, Comment}
use Rattle.address_grammar.specs.declared.phrases.PhraseReader.{PhraseReader}
use Rattle.address_grammar.specs.private.Lexemes.{is_blank_token, is_special_of, said_content}
use Rattle.field_tokens.specs.Tokens.{TokenValue}
use Rattle.address_grammar.specs.Phrases.{may_stand_in_phrase, item_of, phrase_items}
use Rattle.address_grammar.specs.private.PhraseSteps.{TakesPart, IsFreshReader, ReadsPhraseOn}
use Rattle.field_tokens.specs.Squeezed.{is_atom_kind}

-- ---- one word

pub part_encoded : (old new : Merging) (run word : List ℕ) (was encoded : Bool) → TakesWord old new run was word encoded → TakesPart old new run was word true encoded
part_encoded old new run word was encoded t = record { says = t.says; says_is = t.says_is; encoded_is = t.encoded_is; units = t.units }

pub part_plain : (old mid new : Merging) (run word : List ℕ) (was : Bool) → IsMerging mid (done_values old) (old.text.items ++ run) → IsMerging new (done_values mid) (mid.text.items ++ word)
    → TakesPart old new run was word false false
part_plain old mid new run word was run_is word_is = record {
  says = None;
  says_is = refl;
  encoded_is = refl;
  units = λ us. then_text mid new word us word_is ∙ then_text old mid run (with_text word us) run_is ∙ rw (and_false was) refl;
}

-- ---- one token

-- what ReadsPhraseOn says, over the parts of the reader
abbrev pub SoFar : List PhraseItem → List UnitValue → Merging → Bool → Bool → Bool → List PhraseItem → Type 0
SoFar phrase given m first free encoded items = (places : List Place) → ArePhrasePlaces (phrase_words free items) places
    → HasPhraseUnits phrase (given ++ all_units_then m (with_text (cond (encoded && begins_encoded places) [] (cond (not first && ((free || begins_free items) && has_word items)) (32 ∷ []) [])) (merged (raw_units places))))

pub separator : (phrase items : List PhraseItem) (given : List UnitValue) (m : Merging) (first free encoded : Bool) → SoFar phrase given m first free encoded (Separator ∷ items) → SoFar phrase given m first true encoded items
separator phrase items given m first free encoded reads = λ places are. rw (or_right free true refl) at (reads places are)

run_is : (first free : Bool) → (free && not first) ≡ (not first && ((free || false) && true))
run_is true true = refl
run_is true false = refl
run_is false true = refl
run_is false false = refl

word_turn : (phrase items : List PhraseItem) (given : List UnitValue) (octets : List ℕ) (old new : Merging) (first free was may encoded : Bool)
    → TakesPart old new (cond (free && not first) (32 ∷ []) []) was octets may encoded
    → ((p : Place) (places : List Place) → IsPhrasePlace (word_before octets may items) p → ArePhrasePlaces (phrase_words false items) places
    → HasPhraseUnits phrase (given ++ all_units_then old (with_text (cond (was && is_some p.says) [] (cond (not first && ((free || false) && true)) (32 ∷ []) [])) (merged (raw_units (p ∷ places))))))
    → SoFar phrase given new false false encoded items
word_turn phrase items given octets old new first free was may encoded t reads = λ places are.
    let p : Place = record { word = octets; says = t.says; run = gap_before items } in
    let has = reads p places (record { word = refl; says = t.says_is; run = refl }) are in
    let following : List UnitValue = with_text (cond (is_some t.says && begins_encoded places) [] (gap_before items)) (merged (raw_units places)) in
    let raw : merged (raw_units (p ∷ places)) ≡ onto (word_unit t.says octets) following = merged-onto (word_unit t.says octets) (Text (run_text p (begins_encoded places)) ∷ raw_units places) in
    let same = t.units following in
    rw (t.encoded_is, same, t.encoded_is, run_is first free, ← raw) has

dot_octets : (octets : List ℕ) → is_special_of 46 (record { kind = Special; octets = octets }) ≡ true → octets ≡ 46 ∷ []
dot_octets octets h = (bytes_eq-Decides octets (46 ∷ [])).0 h

pub token_turn : (kind : TokenKind) (octets : List ℕ) (phrase items : List PhraseItem) (given : List UnitValue) (old new : Merging) (first free was next encoded : Bool)
    → may_stand_in_phrase (record { kind = kind; octets = octets }) ≡ true → is_blank_token (record { kind = kind; octets = octets }) ≡ false
    → TakesPart old new (cond (free && not first) (32 ∷ []) []) was (said_content kind octets) ((free && next) && is_atom_kind kind) encoded
    → begins_free items ≡ next → SoFar phrase given old first free was (item_of kind octets ∷ items) → SoFar phrase given new false false encoded items
token_turn Atom octets phrase items given old new first free was next encoded may word t free_after reads =
    word_turn phrase items given octets old new first free was (free && begins_free items) encoded (rw (free_after) (rw (and_true (free && next)) at t)) (λ p places is are. reads (p ∷ places) (is, are))
token_turn Quoted octets phrase items given old new first free was next encoded may word t free_after reads =
    word_turn phrase items given (said_content Quoted octets) old new first free was false encoded (rw (and_false (free && next)) at t) (λ p places is are. reads (p ∷ places) (is, are))
token_turn Special octets phrase items given old new first free was next encoded may word t free_after reads =
    word_turn phrase items given (46 ∷ []) old new first free was false encoded (rw (and_false (free && next), dot_octets octets may) at t) (λ p places is are. reads (p ∷ places) (is, are))
token_turn Literal octets phrase items given old new first free was next encoded may word t free_after reads = cc may
token_turn Gap octets phrase items given old new first free was next encoded may word t free_after reads = cc word
token_turn Comment octets phrase items given old new first free was next encoded may word t free_after reads = cc word

pub blank_item : (kind : TokenKind) (octets : List ℕ) → is_blank_token (record { kind = kind; octets = octets }) ≡ true → item_of kind octets ≡ Separator
blank_item Gap octets h = refl
blank_item Comment octets h = refl
blank_item Atom octets h = cc h
blank_item Quoted octets h = cc h
blank_item Literal octets h = cc h
blank_item Special octets h = cc h

-- ---- a phrase

pub fresh_reads : (phrase : List PhraseItem) (r : PhraseReader) → IsFreshReader r → ReadsPhraseOn phrase [] r phrase
fresh_reads phrase r fresh = λ places are.
    rw (fresh.is_first, fresh.after_encoded, fresh.units.done_is, fresh.units.text_is) (record { places = places; are_places = rw (fresh.is_free) at are; says = refl })

pub end_reads : (phrase : List PhraseItem) (given : List UnitValue) (r : PhraseReader) → ReadsPhraseOn phrase given r [] → HasPhraseUnits phrase (given ++ all_units_then r.units [])
end_reads phrase given r reads = rw (no_run r.is_first r.is_free r.after_encoded) at (reads [] tt)
  where
    no_run : (first free encoded : Bool) → cond {A = List ℕ} (encoded && false) [] (cond {A = List ℕ} (not first && ((free || true) && false)) (32 ∷ []) []) ≡ []
    no_run first free encoded = rw (and_false encoded, or_right free true refl, and_false (not first)) refl

-- ---- units that are given

units_left : (m n : Merging) (said us : List UnitValue) → said ≡ done_values m → IsMerging n [] m.text.items → all_units_then m us ≡ said ++ all_units_then n us
units_left m n said us e is = rw (e, is.done_is, is.text_is) refl

pub gives_done : (phrase items : List PhraseItem) (given said : List UnitValue) (m n : Merging) (first free encoded : Bool) → said ≡ done_values m → IsMerging n [] m.text.items → SoFar phrase given m first free encoded items
    → SoFar phrase (given ++ said) n first free encoded items
gives_done phrase items given said m n first free encoded e is reads = λ places are.
    let us : List UnitValue = with_text (cond (encoded && begins_encoded places) [] (cond (not first && ((free || begins_free items) && has_word items)) (32 ∷ []) [])) (merged (raw_units places)) in
    subst (HasPhraseUnits phrase) (ap (λ r. given ++ r) (units_left m n said us e is) ∙ sym (append_assoc given said (all_units_then n us))) (reads places are)

-- some places complete the units
places_some : (free : Bool) (items : List PhraseItem) → (ps : List Place) × ArePhrasePlaces (phrase_words free items) ps
places_some true items = let some = HasPhraseUnits-some items in (some.1.places, some.1.are_places)
places_some false items = let some = HasPhraseUnits-some (Content [] ∷ items) in by some.1.places some.1.are_places
  where
    by : (ps : List Place) → ArePhrasePlaces (word_before [] false items ∷ phrase_words false items) ps → (ps : List Place) × ArePhrasePlaces (phrase_words false items) ps
    by [] are = absurd are
    by (p ∷ ps) are = (ps, are.1)

-- what was given can be written
pub given_writable : (phrase items : List PhraseItem) (given : List UnitValue) (r : PhraseReader) → AllByRecursion IsUtf8Item phrase → ReadsPhraseOn phrase given r items → AreWritable given
given_writable phrase items given r utf8 reads =
    let some = places_some r.is_free items in
    all-front IsWritable given _ (HasPhraseUnits-writable phrase _ utf8 (reads some.0 some.1))

-- ---- token by token

pub token_stands : (rest following : List TokenValue) (t : TokenValue) → rest ≡ t ∷ following → list_all may_stand_in_phrase rest ≡ true → may_stand_in_phrase t ≡ true
token_stands rest following t e all = (and_parts (may_stand_in_phrase t) (list_all may_stand_in_phrase following) (rw (e) at all)).0

pub rest_stands : (rest following : List TokenValue) (t : TokenValue) → rest ≡ t ∷ following → list_all may_stand_in_phrase rest ≡ true → list_all may_stand_in_phrase following ≡ true
rest_stands rest following t e all = (and_parts (may_stand_in_phrase t) (list_all may_stand_in_phrase following) (rw (e) at all)).1

pub token_reads : (phrase : List PhraseItem) (given : List UnitValue) (r : PhraseReader) (rest following : List TokenValue) (t : TokenValue) → rest ≡ t ∷ following → ReadsPhraseOn phrase given r (phrase_items rest)
    → ReadsPhraseOn phrase given r (item_of t.kind t.octets ∷ phrase_items following)
token_reads phrase given r rest following t e reads = rw (e) at reads

pub rest_reads : (phrase : List PhraseItem) (given : List UnitValue) (r : PhraseReader) (rest : List TokenValue) → rest ≡ [] → ReadsPhraseOn phrase given r (phrase_items rest) → HasPhraseUnits phrase (given ++ all_units_then r.units [])
rest_reads phrase given r rest e reads = end_reads phrase given r (rw (e) at reads)
