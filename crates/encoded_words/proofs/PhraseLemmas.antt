-- A phrase has one list of units.
use Rattle.std.proofs.Common.{◌≡◌, ℕ, Bool, true, false, List, [], ◌∷◌, Option, refl, sym, ap, ◌∙◌}
use Rattle.encoded_words.specs.Words.{UnitValue, SaysWhere}
use Rattle.encoded_words.specs.Units.{Place, raw_units, merged}
use Rattle.encoded_words.specs.PhraseUnits.{PhraseItem, PhraseWord, ArePhrasePlaces, HasPhraseUnits}
use Rattle.encoded_words.proofs.Once.{says_once, same_place}

pub says_where_once : (b : Bool) (word : List ℕ) (s t : Option UnitValue) → SaysWhere b word s → SaysWhere b word t → s ≡ t
says_where_once true word s t p q = says_once word s t p q
says_where_once false word s t p q = p ∙ sym q

phrase_places_once : (ws : List PhraseWord) (ps qs : List Place) → ArePhrasePlaces ws ps → ArePhrasePlaces ws qs → ps ≡ qs
phrase_places_once [] [] [] hp hq = refl
phrase_places_once [] [] (q ∷ qs) hp hq = absurd hq
phrase_places_once [] (p ∷ ps) qs hp hq = absurd hp
phrase_places_once (w ∷ ws) [] qs hp hq = absurd hp
phrase_places_once (w ∷ ws) (p ∷ ps) [] hp hq = absurd hq
phrase_places_once (w ∷ ws) (p ∷ ps) (q ∷ qs) hp hq =
    let says : p.says ≡ q.says = says_where_once w.may_be_encoded w.octets p.says q.says hp.0.says hq.0.says in
    let head : p ≡ q = same_place p q (hp.0.word ∙ sym hq.0.word) says (hp.0.run ∙ sym hq.0.run) in
    let tail : ps ≡ qs = phrase_places_once ws ps qs hp.1 hq.1 in
    cc

pub HasPhraseUnits-once : (items : List PhraseItem) (us vs : List UnitValue) → HasPhraseUnits items us → HasPhraseUnits items vs → us ≡ vs
HasPhraseUnits-once items us vs p q =
    p.says ∙ ap (λ ps. merged (raw_units ps)) (phrase_places_once _ p.places q.places p.are_places q.are_places) ∙ sym q.says
