-- Every text has units.
use Rattle.std.proofs.Common.{◌≡◌, ◌==◌, ℕ, true, not, List, [], ◌∷◌, ◌++◌, map, Option, refl, sym, ap, ◌∙◌, arith, inl, inr}
use Rattle.std.proofs.lemmas.Bool.{and_from, cases_Bool, eqb-true, eq-eqb, true≢false}
use Rattle.std.specs.List.{list_all, list_any, flat_map}
use Rattle.mail_wire.specs.Octets.{is_white, is_nonwhite}
use Rattle.encoded_words.specs.Words.{UnitValue, Text, SaysWhere}
use Rattle.encoded_words.specs.Units.{Place, Divides, ArePlaces, HasUnits, place_octets, raw_units, merged}
use Rattle.encoded_words.specs.CommentUnits.{TextItem, Plain, Pair, AreTextItems, item_spelling, item_octet, has_backslash, is_white_item, CommentWord, word_items, ItemsDivide, AreCommentWords, comment_places, HasCommentUnits}
use Rattle.encoded_words.specs.PhraseUnits.{PhraseItem, PhraseWord, phrase_words, ArePhrasePlaces, HasPhraseUnits}
use Rattle.encoded_words.proofs.Deciding.{decide_says, decide_where}

-- a text is divided into places, and so it is with an octet more at its front
record Divided (text : List ℕ) : Type 0 where
  lead : List ℕ
  places : List Place
  white : list_all is_white lead ≡ true
  are : ArePlaces places
  whole : text ≡ lead ++ flat_map place_octets places

white_more : (x : ℕ) (text : List ℕ) → is_white x ≡ true → Divided text → Divided (x ∷ text)
white_more x text is d = record {
  lead = x ∷ d.lead;
  places = d.places;
  white = and_from (is_white x) (list_all is_white d.lead) is d.white;
  are = d.are;
  whole = ap (λ t. x ∷ t) d.whole;
}

abbrev with_octet : ℕ → Place → Place
with_octet x p = record { word = x ∷ p.word; says = (decide_says (x ∷ p.word)).0; run = p.run }

nonwhite_more : (x : ℕ) (text lead : List ℕ) (ps : List Place) → is_nonwhite x ≡ true → list_all is_white lead ≡ true → ArePlaces ps → text ≡ lead ++ flat_map place_octets ps → Divided (x ∷ text)
nonwhite_more x text [] [] is white are whole = record {
  lead = [];
  places = record { word = x ∷ []; says = (decide_says (x ∷ [])).0; run = [] } ∷ [];
  white = refl;
  are = (record { is_word = omega arith; nonwhite = rw is refl; white = refl; says = (decide_says (x ∷ [])).1 }, tt, tt);
  whole = ap (λ t. x ∷ t) whole;
}
nonwhite_more x text [] (p ∷ ps) is white are whole = record {
  lead = [];
  places = with_octet x p ∷ ps;
  white = refl;
  are = (record { is_word = omega arith; nonwhite = and_from (is_nonwhite x) (list_all is_nonwhite p.word) is are.0.nonwhite; white = are.0.white; says = (decide_says (x ∷ p.word)).1 }, are.1, are.2);
  whole = ap (λ t. x ∷ t) whole;
}
nonwhite_more x text (w ∷ lead) ps is white are whole = record {
  lead = [];
  places = record { word = x ∷ []; says = (decide_says (x ∷ [])).0; run = w ∷ lead } ∷ ps;
  white = refl;
  are = (record { is_word = omega arith; nonwhite = rw is refl; white = white; says = (decide_says (x ∷ [])).1 }, parts ps, are);
  whole = ap (λ t. x ∷ t) whole;
}
  where
    parts : (ps : List Place) → Divides (w ∷ lead) ps
    parts [] = tt
    parts (p ∷ ps) = omega arith

divided : (text : List ℕ) → Divided text
divided [] = record { lead = []; places = []; white = refl; are = tt; whole = refl }
divided (x ∷ text) =
    let d = divided text in
    elim (cases_Bool (is_white x)) [
      | inl is ↦ white_more x text is d
      | inr fails ↦ nonwhite_more x text d.lead d.places (ap not fails) d.white d.are d.whole
    ]

pub HasUnits-some : (text : List ℕ) → (units : List UnitValue) × HasUnits text units
HasUnits-some text =
    let d = divided text in
    (merged (Text d.lead ∷ raw_units d.places), record { lead = d.lead; places = d.places; white = d.white; are_places = d.are; whole = d.whole; says = refl })

-- The same with the items of a comment's text.
record ItemsDivided (items : List TextItem) : Type 0 where
  lead : List TextItem
  words : List CommentWord
  white : list_all is_white_item lead ≡ true
  are : AreCommentWords words
  whole : items ≡ lead ++ flat_map word_items words

white_item_more : (i : TextItem) (items : List TextItem) → is_white_item i ≡ true → ItemsDivided items → ItemsDivided (i ∷ items)
white_item_more i items is d = record {
  lead = i ∷ d.lead;
  words = d.words;
  white = and_from (is_white_item i) (list_all is_white_item d.lead) is d.white;
  are = d.are;
  whole = ap (λ t. i ∷ t) d.whole;
}

-- what the word of these items says
said : (items : List TextItem) → (says : Option UnitValue) × SaysWhere (not (list_any has_backslash items)) (map item_octet items) says
said items = decide_where (not (list_any has_backslash items)) (map item_octet items)

nonwhite_item_more : (i : TextItem) (items lead : List TextItem) (ws : List CommentWord) → not (is_white_item i) ≡ true → list_all is_white_item lead ≡ true → AreCommentWords ws
    → items ≡ lead ++ flat_map word_items ws → ItemsDivided (i ∷ items)
nonwhite_item_more i items [] [] is white are whole = record {
  lead = [];
  words = record { items = i ∷ []; says = (said (i ∷ [])).0; run = [] } ∷ [];
  white = refl;
  are = (record { is_word = omega arith; nonwhite = rw is refl; white = refl; says = (said (i ∷ [])).1 }, tt, tt);
  whole = ap (λ t. i ∷ t) whole;
}
nonwhite_item_more i items [] (w ∷ ws) is white are whole = record {
  lead = [];
  words = record { items = i ∷ w.items; says = (said (i ∷ w.items)).0; run = w.run } ∷ ws;
  white = refl;
  are = (record { is_word = omega arith; nonwhite = and_from (not (is_white_item i)) (list_all (λ j. not (is_white_item j)) w.items) is are.0.nonwhite; white = are.0.white; says = (said (i ∷ w.items)).1 }, are.1, are.2);
  whole = ap (λ t. i ∷ t) whole;
}
nonwhite_item_more i items (j ∷ lead) ws is white are whole = record {
  lead = [];
  words = record { items = i ∷ []; says = (said (i ∷ [])).0; run = j ∷ lead } ∷ ws;
  white = refl;
  are = (record { is_word = omega arith; nonwhite = rw is refl; white = white; says = (said (i ∷ [])).1 }, parts ws, are);
  whole = ap (λ t. i ∷ t) whole;
}
  where
    parts : (ws : List CommentWord) → ItemsDivide (j ∷ lead) ws
    parts [] = tt
    parts (w ∷ ws) = omega arith

items_divided : (items : List TextItem) → ItemsDivided items
items_divided [] = record { lead = []; words = []; white = refl; are = tt; whole = refl }
items_divided (i ∷ items) =
    let d = items_divided items in
    elim (cases_Bool (is_white_item i)) [
      | inl is ↦ white_item_more i items is d
      | inr fails ↦ nonwhite_item_more i items d.lead d.words (ap not fails) d.white d.are d.whole
    ]

-- a text is spelled by items
record Spelled (text : List ℕ) : Type 0 where
  items : List TextItem
  are : AreTextItems items
  whole : text ≡ flat_map item_spelling items

octet_more : (x : ℕ) (text : List ℕ) → (x ≡ 92 → ⊥) → Spelled text → Spelled (x ∷ text)
octet_more x text other s = record { items = Plain x ∷ s.items; are = ((λ e. absurd (other e)), s.are); whole = ap (λ t. x ∷ t) s.whole }

pair_more : (x y : ℕ) (text : List ℕ) → x ≡ 92 → Spelled text → Spelled (x ∷ y ∷ text)
pair_more x y text is s = record { items = Pair y ∷ s.items; are = s.are; whole = rw is (ap (λ t. 92 ∷ y ∷ t) s.whole) }

spelled : (text : List ℕ) → Spelled text
spelled [] = record { items = []; are = tt; whole = refl }
spelled (x ∷ []) = record { items = Plain x ∷ []; are = ((λ e. refl), tt); whole = refl }
spelled (x ∷ y ∷ text) = elim (cases_Bool (x == 92)) [
  | inl is ↦ pair_more x y text (eqb-true x 92 is) (spelled text)
  | inr other ↦ octet_more x (y ∷ text) (λ e. true≢false (sym (eq-eqb x 92 e) ∙ other)) (spelled (y ∷ text))
]

pub HasCommentUnits-some : (text : List ℕ) → (units : List UnitValue) × HasCommentUnits text units
HasCommentUnits-some text =
    let s = spelled text in
    let d = items_divided s.items in (
      merged (raw_units (comment_places d.words)),
      record {
        lead = d.lead;
        words = d.words;
        white = d.white;
        are_words = d.are;
        are_items = rw (← d.whole) s.are;
        whole = s.whole ∙ ap (flat_map item_spelling) d.whole;
        says = refl;
      },
    )

-- The words of a phrase.
phrase_places : (ws : List PhraseWord) → (ps : List Place) × ArePhrasePlaces ws ps
phrase_places [] = ([], tt)
phrase_places (w ∷ ws) =
    let says = decide_where w.may_be_encoded w.octets in
    let more = phrase_places ws in
    (record { word = w.octets; says = says.0; run = w.gap } ∷ more.0, (record { word = refl; says = says.1; run = refl }, more.1))

pub HasPhraseUnits-some : (items : List PhraseItem) → (units : List UnitValue) × HasPhraseUnits items units
HasPhraseUnits-some items =
    let p = phrase_places (phrase_words true items) in
    (merged (raw_units p.0), record { places = p.0; are_places = p.1; says = refl })
