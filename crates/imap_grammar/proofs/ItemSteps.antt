-- The steps of reading the items of FETCH.
use Rattle.std.proofs.Common.{◌≡◌, ℕ, ◌==◌, Bool, true, false, not, List, [], ◌∷◌, ◌++◌, length, Option, inl, inr, refl, sym, subst, arith}
use Rattle.std.proofs.lemmas.Bool.{both_ways, not-true}
use Rattle.std.proofs.lemmas.List.Sums.{AllPass-from_list_all}
use Rattle.std.proofs.lemmas.List.Elements.{All-contains, Contains-append_left, Contains-append_right, Contains-append_cases}
use Rattle.imap_words.specs.Languages.{Then, After, Or, Is, IsMoreThan, IsList, IsViable}
use Rattle.imap_words.specs.Reading.{never, StopsReading}
use Rattle.imap_words.specs.Going.{Leaves}
use Rattle.imap_words.specs.declared.stop.Stop.TheVariants.{More}
use Rattle.imap_words.specs.Tokens.{IsSpace, IsOpenParenthesis, IsCloseParenthesis}
use Rattle.imap_words.specs.Sets.{IsSetAndSpace}
use Rattle.imap_words.specs.Keywords.{Named, IsTable, IsWordOf}
use Rattle.imap_words.proofs.Passing.{no_octets}
use Rattle.imap_words.proofs.Composing.{Avoids, NeverAt}
use Rattle.imap_words.proofs.Going.{Within, then_viable, then_never, never_avoids}
use Rattle.imap_words.proofs.Choosing.{octet_at, seq_never}
use Rattle.imap_words.proofs.Leaving.{here, leaves_all, leaves_then}
use Rattle.imap_words.proofs.KeywordSteps.{word_viable}
use Rattle.imap_words.proofs.TableSteps.{is_table, word_never}
use Rattle.imap_grammar.specs.declared.command.Command.{Command}
use Rattle.imap_grammar.specs.declared.command.Command.TheVariants as command
use Rattle.imap_grammar.specs.declared.command.FetchItem.{FetchItem}
use Rattle.imap_grammar.specs.declared.command.FetchItem.TheVariants as item
use Rattle.imap_grammar.specs.declared.words.ItemWord.{ItemWord}
use Rattle.imap_grammar.specs.declared.words.ItemWord.TheVariants as word
use Rattle.imap_grammar.specs.declared.awaited.Fetching.{Fetching}
use Rattle.imap_grammar.specs.Fetching.{item_words, macro_words, after_item_word, IsSectionItem, IsAfterItem, IsFetchAtt, macro_items, IsFetchItems}
use Rattle.imap_grammar.specs.Commands.{IsBareCommand}
use Rattle.imap_grammar.specs.Awaiting.{IsAfterItems}
use Rattle.imap_grammar.specs.FetchParts.{IsAfterThese, IsSectionOf, IsAfterAny, IsRestOf, IsListed, IsLoneItem}
use Rattle.imap_grammar.proofs.Sames.{Same, same_self, same_on, same_turned, first_same, second_same, then_apart, is_then, or_same, or_then, more_steps, avoids_same, viable_same, never_same, or_avoids, left_viable, avoids_never, leaves_same, leaves_left, leaves_right}
use Rattle.imap_grammar.proofs.FetchEnds.{these_avoid, these_viable, items_viable}
use Rattle.imap_grammar.proofs.StoreSteps.{set_viable}
use Rattle.imap_grammar.proofs.SectionSteps.{told, section_never, section_viable, section_avoids}

-- of the words of the first part alone it is asked that the second one is the same
pub second_at : {V W : Type 0} (A : List ℕ → V → Type 0) (C D : V → List ℕ → W → Type 0) → ((octets : List ℕ) (v : V) → A octets v → Same (C v) (D v)) → Same (Then A C) (Then A D)
second_at A C D second = (
  λ octets w is. record { value = is.value; front = is.front; back = is.back; whole = is.whole; first = is.first; second = (second is.front is.value is.first).0 is.back w is.second },
  λ octets w is. record { value = is.value; front = is.front; back = is.back; whole = is.whole; first = is.first; second = (second is.front is.value is.first).1 is.back w is.second },
)

-- ---- two tables are one

module _ {V W : Type 0} (a b : List (Named V)) (C : V → List ℕ → W → Type 0) where
  to_one : Within (Or (Then (IsWordOf b) C) (Then (IsWordOf a) C)) (Then (IsWordOf (a ++ b)) C)
  to_one octets w (inl is) = record {
    value = is.value;
    front = is.front;
    back = is.back;
    whole = is.whole;
    first = record { entry = is.first.entry; known = Contains-append_right a b is.first.entry is.first.known; word = is.first.word; says = is.first.says };
    second = is.second;
  }
  to_one octets w (inr is) = record {
    value = is.value;
    front = is.front;
    back = is.back;
    whole = is.whole;
    first = record { entry = is.first.entry; known = Contains-append_left a b is.first.entry is.first.known; word = is.first.word; says = is.first.says };
    second = is.second;
  }

  from_one : Within (Then (IsWordOf (a ++ b)) C) (Or (Then (IsWordOf b) C) (Then (IsWordOf a) C))
  from_one octets w is = elim (Contains-append_cases a b is.first.entry is.first.known) [
    | inl here ↦ inr (record { value = is.value; front = is.front; back = is.back; whole = is.whole; first = record { entry = is.first.entry; known = here; word = is.first.word; says = is.first.says }; second = is.second })
    | inr there ↦ inl (record { value = is.value; front = is.front; back = is.back; whole = is.whole; first = record { entry = is.first.entry; known = there; word = is.first.word; says = is.first.says }; second = is.second })
  ]

  pub one_table : Same (Or (Then (IsWordOf b) C) (Then (IsWordOf a) C)) (Then (IsWordOf (a ++ b)) C)
  one_table = (to_one, from_one)

-- ---- words of items and macros

abbrev pub is_macro : ItemWord → Bool
is_macro word.All = true
is_macro word.Fast = true
is_macro word.Full = true
is_macro w = false

pub item_says : (octets : List ℕ) (w : ItemWord) → IsWordOf item_words octets w → is_macro w ≡ false
item_says octets w is =
    subst (λ z. is_macro z ≡ false) (sym is.says) (not-true _ (All-contains (λ (e : Named ItemWord). not (is_macro e.says) ≡ true) item_words is.entry (AllPass-from_list_all (λ (e : Named ItemWord). not (is_macro e.says)) item_words refl) is.known))

macro_says : (octets : List ℕ) (w : ItemWord) → IsWordOf macro_words octets w → is_macro w ≡ true
macro_says octets w is = subst (λ z. is_macro z ≡ true) (sym is.says) (All-contains (λ (e : Named ItemWord). is_macro e.says ≡ true) macro_words is.entry (AllPass-from_list_all (λ (e : Named ItemWord). is_macro e.says) macro_words refl) is.known)

item_table : IsTable item_words
item_table = is_table _ _ refl refl

any_table : IsTable (item_words ++ macro_words)
any_table = is_table _ _ refl refl

-- what follows a word
module _ (utf8 : Bool) where
  item_follows : (w : ItemWord) → is_macro w ≡ false → Same (Then (IsAfterItem utf8 w) (λ i. Is (i ∷ []))) (IsAfterAny utf8 w)
  item_follows word.Flags e = same_self (IsAfterAny utf8 word.Flags)
  item_follows word.Uid e = same_self (IsAfterAny utf8 word.Uid)
  item_follows word.InternalDate e = same_self (IsAfterAny utf8 word.InternalDate)
  item_follows word.Size e = same_self (IsAfterAny utf8 word.Size)
  item_follows word.Rfc822 e = same_self (IsAfterAny utf8 word.Rfc822)
  item_follows word.Rfc822Header e = same_self (IsAfterAny utf8 word.Rfc822Header)
  item_follows word.Rfc822Text e = same_self (IsAfterAny utf8 word.Rfc822Text)
  item_follows word.Envelope e = same_self (IsAfterAny utf8 word.Envelope)
  item_follows word.BodyStructure e = same_self (IsAfterAny utf8 word.BodyStructure)
  item_follows word.Body e = same_self (IsAfterAny utf8 word.Body)
  item_follows word.BodyPeek e = same_self (IsAfterAny utf8 word.BodyPeek)
  item_follows word.All e = absurd (both_ways true e refl)
  item_follows word.Fast e = absurd (both_ways true e refl)
  item_follows word.Full e = absurd (both_ways true e refl)

  macro_follows : (w : ItemWord) → is_macro w ≡ true → Same (Is (macro_items w)) (IsAfterAny utf8 w)
  macro_follows word.Flags e = absurd (both_ways false refl e)
  macro_follows word.Uid e = absurd (both_ways false refl e)
  macro_follows word.InternalDate e = absurd (both_ways false refl e)
  macro_follows word.Size e = absurd (both_ways false refl e)
  macro_follows word.Rfc822 e = absurd (both_ways false refl e)
  macro_follows word.Rfc822Header e = absurd (both_ways false refl e)
  macro_follows word.Rfc822Text e = absurd (both_ways false refl e)
  macro_follows word.Envelope e = absurd (both_ways false refl e)
  macro_follows word.BodyStructure e = absurd (both_ways false refl e)
  macro_follows word.Body e = absurd (both_ways false refl e)
  macro_follows word.BodyPeek e = absurd (both_ways false refl e)
  macro_follows word.All e = same_self (IsAfterAny utf8 word.All)
  macro_follows word.Fast e = same_self (IsAfterAny utf8 word.Fast)
  macro_follows word.Full e = same_self (IsAfterAny utf8 word.Full)

-- ---- after a word

module _ (utf8 : Bool) (f : Fetching) where
  abbrev pub These : List FetchItem → List ℕ → Command → Type 0
  These = IsAfterThese utf8 f

  -- an item that is its word
  pub plain_rest : (i : FetchItem) → Same (Then (Then (Is i) (λ j. Is (j ∷ []))) These) (These (i ∷ []))
  plain_rest i = same_on _ (Then (Is i) (λ j. These (j ∷ []))) _ (told (Is i) (λ j. j ∷ []) These) (is_then i (λ j. These (j ∷ [])))

  pub macro_rest : (items : List FetchItem) → Same (Then (Is items) These) (These items)
  macro_rest items = is_then items These

  -- the word is this one
  pub rest_left : {is w : ItemWord} {Q : List ℕ → Command → Type 0} (text : List ℕ) → is ≡ w → Same (IsRestOf utf8 f w) Q → Leaves (IsRestOf utf8 f is) text Q text
  rest_left {is} {w} {Q} text e same = subst (λ z. Leaves (IsRestOf utf8 f z) text Q text) (sym e) (leaves_same Q (leaves_all (IsRestOf utf8 f w) text) same)

  pub peek_rest : Same (IsRestOf utf8 f word.BodyPeek) (IsSectionOf utf8 f true)
  peek_rest = told (IsSectionItem utf8 true) (λ i. i ∷ []) These

  abbrev pub BodyOrSection : List ℕ → Command → Type 0
  BodyOrSection = Or (These (item.Body ∷ [])) (IsSectionOf utf8 f false)

  pub body_rest : Same (IsRestOf utf8 f word.Body) BodyOrSection
  body_rest =
      same_on (IsRestOf utf8 f word.Body) (Then (Or (Is item.Body) (IsSectionItem utf8 false)) (λ i. These (i ∷ []))) BodyOrSection (told (Or (Is item.Body) (IsSectionItem utf8 false)) (λ i. i ∷ []) These)
      (same_on _ _ BodyOrSection (or_then (Is item.Body) (IsSectionItem utf8 false) (λ i. These (i ∷ [])))
      (or_same _ (These (item.Body ∷ [])) (IsSectionOf utf8 f false) (IsSectionOf utf8 f false) (is_then item.Body (λ i. These (i ∷ []))) (same_self (IsSectionOf utf8 f false))))

  body_viable : IsViable BodyOrSection []
  body_viable = left_viable (These (item.Body ∷ [])) (IsSectionOf utf8 f false) [] (these_viable utf8 f (item.Body ∷ []))

  pub body_open : (text : List ℕ) → length text ≡ 0 → IsViable (IsRestOf utf8 f word.Body) text
  body_open text e = viable_same (IsRestOf utf8 f word.Body) BodyOrSection text body_rest (subst (λ z. IsViable BodyOrSection z) (sym (no_octets text e)) body_viable)

  module _ (text : List ℕ) (x : ℕ) (xs : List ℕ) (e : text ≡ x ∷ xs) where
    at_body : Leaves (IsRestOf utf8 f word.Body) text BodyOrSection text
    at_body = leaves_same BodyOrSection (leaves_all (IsRestOf utf8 f word.Body) text) body_rest

    pub body_section : x ≡ 91 → Leaves (IsRestOf utf8 f word.Body) text (IsSectionOf utf8 f false) text
    body_section same =
        leaves_right (These (item.Body ∷ [])) (IsSectionOf utf8 f false) at_body x xs e
        (subst (λ z. NeverAt (These (item.Body ∷ [])) z) (sym same) (avoids_never (λ y. y == 91) (These (item.Body ∷ [])) 91 refl (these_avoid utf8 f (λ y. y == 91) (refl, refl, refl) (item.Body ∷ []))))

    pub body_alone : (x ≡ 91 → ⊥) → Leaves (IsRestOf utf8 f word.Body) text (These (item.Body ∷ [])) text
    body_alone other = leaves_left (These (item.Body ∷ [])) (IsSectionOf utf8 f false) at_body x xs e (section_never utf8 f false x other)

  -- ---- any word

  plain_viable : (i : FetchItem) → IsViable (Then (Then (Is i) (λ j. Is (j ∷ []))) These) []
  plain_viable i = viable_same _ (These (i ∷ [])) [] (plain_rest i) (these_viable utf8 f (i ∷ []))

  macro_viable : (items : List FetchItem) → IsViable (Then (Is items) These) []
  macro_viable items = viable_same _ (These items) [] (macro_rest items) (these_viable utf8 f items)

  pub rest_viable : (w : ItemWord) → IsViable (IsRestOf utf8 f w) []
  rest_viable word.Flags = plain_viable item.Flags
  rest_viable word.Uid = plain_viable item.Uid
  rest_viable word.InternalDate = plain_viable item.InternalDate
  rest_viable word.Size = plain_viable item.Size
  rest_viable word.Rfc822 = plain_viable item.Rfc822
  rest_viable word.Rfc822Header = plain_viable item.Rfc822Header
  rest_viable word.Rfc822Text = plain_viable item.Rfc822Text
  rest_viable word.Envelope = plain_viable item.Envelope
  rest_viable word.BodyStructure = plain_viable item.BodyStructure
  rest_viable word.Body = viable_same (IsRestOf utf8 f word.Body) BodyOrSection [] body_rest body_viable
  rest_viable word.BodyPeek = viable_same (IsRestOf utf8 f word.BodyPeek) (IsSectionOf utf8 f true) [] peek_rest (section_viable utf8 f true)
  rest_viable word.All = macro_viable (macro_items word.All)
  rest_viable word.Fast = macro_viable (macro_items word.Fast)
  rest_viable word.Full = macro_viable (macro_items word.Full)

  pub rest_avoids : (w : ItemWord) → Avoids (after_item_word w) (IsRestOf utf8 f w)
  rest_avoids word.Flags = never_avoids (IsRestOf utf8 f word.Flags)
  rest_avoids word.Uid = never_avoids (IsRestOf utf8 f word.Uid)
  rest_avoids word.InternalDate = never_avoids (IsRestOf utf8 f word.InternalDate)
  rest_avoids word.Size = never_avoids (IsRestOf utf8 f word.Size)
  rest_avoids word.Rfc822 =
      avoids_same (after_item_word word.Rfc822) (IsRestOf utf8 f word.Rfc822) (These (item.Rfc822 ∷ [])) (plain_rest item.Rfc822) (these_avoid utf8 f (after_item_word word.Rfc822) (refl, refl, refl) (item.Rfc822 ∷ []))
  rest_avoids word.Rfc822Header = never_avoids (IsRestOf utf8 f word.Rfc822Header)
  rest_avoids word.Rfc822Text = never_avoids (IsRestOf utf8 f word.Rfc822Text)
  rest_avoids word.Envelope = never_avoids (IsRestOf utf8 f word.Envelope)
  rest_avoids word.BodyStructure = never_avoids (IsRestOf utf8 f word.BodyStructure)
  rest_avoids word.Body =
      avoids_same (after_item_word word.Body) (IsRestOf utf8 f word.Body) BodyOrSection body_rest
      (or_avoids (after_item_word word.Body) (These (item.Body ∷ [])) (IsSectionOf utf8 f false) (these_avoid utf8 f (after_item_word word.Body) (refl, refl, refl) (item.Body ∷ []))
      (section_avoids utf8 f false (after_item_word word.Body) refl))
  rest_avoids word.BodyPeek = never_avoids (IsRestOf utf8 f word.BodyPeek)
  rest_avoids word.All = never_avoids (IsRestOf utf8 f word.All)
  rest_avoids word.Fast = never_avoids (IsRestOf utf8 f word.Fast)
  rest_avoids word.Full = never_avoids (IsRestOf utf8 f word.Full)

  -- ---- a word, and what follows it

  abbrev pub ListedWord : List ℕ → Command → Type 0
  ListedWord = Then (IsWordOf item_words) (IsRestOf utf8 f)

  pub listed_same : Same (IsListed utf8 f) ListedWord
  listed_same =
      same_on (IsListed utf8 f) (Then (IsWordOf item_words) (λ w. Then (IsAfterItem utf8 w) (λ i. These (i ∷ [])))) ListedWord (then_apart (IsWordOf item_words) (IsAfterItem utf8) (λ i. These (i ∷ [])))
      (second_at (IsWordOf item_words) (λ w. Then (IsAfterItem utf8 w) (λ i. These (i ∷ []))) (IsRestOf utf8 f)
      (λ octets w is. same_on _ (Then (Then (IsAfterItem utf8 w) (λ i. Is (i ∷ []))) These) _ (same_turned _ _ (told (IsAfterItem utf8 w) (λ i. i ∷ []) These)) (first_same _ _ These (item_follows utf8 w (item_says octets w is)))))

  pub listed_viable : IsViable (IsListed utf8 f) []
  listed_viable = viable_same (IsListed utf8 f) ListedWord [] listed_same (then_viable (IsWordOf item_words) (IsRestOf utf8 f) (word_viable item_words item_table) rest_viable)

  abbrev pub AnyWord : List ℕ → Command → Type 0
  AnyWord = Then (IsWordOf (item_words ++ macro_words)) (IsRestOf utf8 f)

  abbrev pub Macro : List ℕ → List FetchItem → Type 0
  Macro = Then (IsWordOf macro_words) (λ w. Is (macro_items w))

  abbrev pub One : List ℕ → List FetchItem → Type 0
  One = Then (IsFetchAtt utf8) (λ i. Is (i ∷ []))

  macros_same : Same Macro (Then (IsWordOf macro_words) (IsAfterAny utf8))
  macros_same = second_at (IsWordOf macro_words) (λ w. Is (macro_items w)) (IsAfterAny utf8) (λ octets w is. macro_follows utf8 w (macro_says octets w is))

  one_same : Same One (Then (IsWordOf item_words) (IsAfterAny utf8))
  one_same =
      same_on _ (Then (IsWordOf item_words) (λ w. Then (IsAfterItem utf8 w) (λ i. Is (i ∷ [])))) _ (then_apart (IsWordOf item_words) (IsAfterItem utf8) (λ i. Is (i ∷ [])))
      (second_at (IsWordOf item_words) (λ w. Then (IsAfterItem utf8 w) (λ i. Is (i ∷ []))) (IsAfterAny utf8) (λ octets w is. item_follows utf8 w (item_says octets w is)))

  any_same : Same (Or Macro One) (Then (IsWordOf (item_words ++ macro_words)) (IsAfterAny utf8))
  any_same =
      same_on (Or Macro One) (Or (Then (IsWordOf macro_words) (IsAfterAny utf8)) (Then (IsWordOf item_words) (IsAfterAny utf8))) (Then (IsWordOf (item_words ++ macro_words)) (IsAfterAny utf8))
      (or_same Macro (Then (IsWordOf macro_words) (IsAfterAny utf8)) One (Then (IsWordOf item_words) (IsAfterAny utf8)) macros_same one_same) (one_table item_words macro_words (IsAfterAny utf8))

  pub alone_same : Same (IsLoneItem utf8 f) AnyWord
  alone_same =
      same_on (IsLoneItem utf8 f) (Then (Then (IsWordOf (item_words ++ macro_words)) (IsAfterAny utf8)) These) AnyWord (first_same (Or Macro One) (Then (IsWordOf (item_words ++ macro_words)) (IsAfterAny utf8)) These any_same)
      (then_apart (IsWordOf (item_words ++ macro_words)) (IsAfterAny utf8) These)

  pub alone_viable : IsViable (IsLoneItem utf8 f) []
  alone_viable = viable_same (IsLoneItem utf8 f) AnyWord [] alone_same (then_viable (IsWordOf (item_words ++ macro_words)) (IsRestOf utf8 f) (word_viable (item_words ++ macro_words) any_table) rest_viable)

  pub alone_never : (x : ℕ) → x ≡ 40 → NeverAt (IsLoneItem utf8 f) x
  alone_never x same =
      never_same x (IsLoneItem utf8 f) AnyWord alone_same (seq_never (IsWordOf (item_words ++ macro_words)) _ x (subst (λ z. NeverAt (IsWordOf (item_words ++ macro_words)) z) (sym same) (word_never (item_words ++ macro_words) 40 refl)))

-- ---- more items, or the end

module _ (utf8 : Bool) (f : Fetching) where
  abbrev pub Whole : List ℕ → Command → Type 0
  Whole = IsBareCommand (command.Fetch f.uid f.set f.items)

  abbrev pub Rest : List ℕ → Command → Type 0
  Rest = IsAfterItems f.listed utf8 f.uid f.set.ranges f.items

  abbrev pub Closed : List ℕ → Command → Type 0
  Closed = After IsCloseParenthesis Whole

  abbrev pub NextItem : List ℕ → Command → Type 0
  NextItem = Then (IsFetchAtt utf8) (λ i. IsAfterItems true utf8 f.uid f.set.ranges (f.items ++ i ∷ []))

  items_steps : Same (IsAfterItems true utf8 f.uid f.set.ranges f.items) (Or Closed (After IsSpace NextItem))
  items_steps = more_steps IsSpace (IsFetchAtt utf8) IsCloseParenthesis (λ all. IsBareCommand (command.Fetch f.uid (record { ranges = f.set.ranges }) all)) f.items

  pub rest_open : (text : List ℕ) → length text ≡ 0 → IsViable Rest text
  rest_open text e = subst (λ z. IsViable Rest z) (sym (no_octets text e)) (items_viable f.listed utf8 f.uid f.set.ranges f.items)

  pub rest_stops : {L : List ℕ → Command → Type 0} {text rest : List ℕ} → Leaves L text Rest rest → length rest ≡ 0 → StopsReading L never text More
  rest_stops {L} {text} {rest} l e = (here l).stops never More (rest_open rest e)

  module _ {L : List ℕ → Command → Type 0} {text rest : List ℕ} (l : Leaves L text Rest rest) where
    pub not_listed : f.listed ≡ false → Leaves L text Whole rest
    not_listed e = subst (λ z. Leaves L text (IsAfterItems z utf8 f.uid f.set.ranges f.items) rest) e l

    module _ (listed : f.listed ≡ true) (x : ℕ) (xs : List ℕ) (e : rest ≡ x ∷ xs) where
      by_steps : Leaves L text (Or Closed (After IsSpace NextItem)) rest
      by_steps = leaves_same (Or Closed (After IsSpace NextItem)) (subst (λ z. Leaves L text (IsAfterItems z utf8 f.uid f.set.ranges f.items) rest) listed l) items_steps

      pub items_close : (x ≡ 32 → ⊥) → Leaves L text Closed rest
      items_close other = leaves_left Closed (After IsSpace NextItem) by_steps x xs e (then_never 32 x (λ _. NextItem) other)

      pub items_next : x ≡ 32 → Leaves L text (IsListed utf8 f) xs
      items_next same =
          subst (λ z. Leaves L text (Then (IsFetchAtt utf8) (λ i. IsAfterItems z utf8 f.uid f.set.ranges (f.items ++ i ∷ []))) xs) (sym listed)
          (leaves_then (leaves_right Closed (After IsSpace NextItem) by_steps x xs e (then_never 41 x (λ _. Whole) (λ bad. omega (arith, same, bad)))) (octet_at rest x 32 xs e same) (λ _. never_avoids _))

-- ---- all items

module _ (utf8 by_uid : Bool) (set : List (Option ℕ × Option ℕ)) where
  abbrev pub Asks : List FetchItem → List ℕ → Command → Type 0
  Asks items = IsBareCommand (command.Fetch by_uid (record { ranges = set }) items)

  abbrev pub begun_with : Bool → List FetchItem → Fetching
  begun_with listed items = record { uid = by_uid; set = record { ranges = set }; items = items; listed = listed }

  abbrev pub Items : List ℕ → Command → Type 0
  Items = Then (IsFetchItems utf8) Asks

  abbrev pub MacroWord : List ℕ → List FetchItem → Type 0
  MacroWord = Then (IsWordOf macro_words) (λ w. Is (macro_items w))

  abbrev pub LoneItem : List ℕ → List FetchItem → Type 0
  LoneItem = Then (IsFetchAtt utf8) (λ i. Is (i ∷ []))

  abbrev pub ItemList : List ℕ → List FetchItem → Type 0
  ItemList = After IsOpenParenthesis (IsList IsSpace (IsFetchAtt utf8) IsCloseParenthesis)

  abbrev pub AloneOrList : List ℕ → Command → Type 0
  AloneOrList = Or (IsLoneItem utf8 (begun_with false [])) (After IsOpenParenthesis (IsListed utf8 (begun_with true [])))

  items_apart : Same (IsFetchItems utf8) (Or (Or MacroWord LoneItem) ItemList)
  items_apart = (to, from)
    where
      to : Within (IsFetchItems utf8) (Or (Or MacroWord LoneItem) ItemList)
      to octets v (inl is) = inl (inl is)
      to octets v (inr (inl is)) = inl (inr is)
      to octets v (inr (inr is)) = inr is

      from : Within (Or (Or MacroWord LoneItem) ItemList) (IsFetchItems utf8)
      from octets v (inl (inl is)) = inl is
      from octets v (inl (inr is)) = inr (inl is)
      from octets v (inr is) = inr (inr is)

  list_same : Same (Then ItemList Asks) (After IsOpenParenthesis (IsListed utf8 (begun_with true [])))
  list_same =
      same_on (Then ItemList Asks) (After IsOpenParenthesis (Then (IsList IsSpace (IsFetchAtt utf8) IsCloseParenthesis) Asks)) (After IsOpenParenthesis (IsListed utf8 (begun_with true []))) (then_apart IsOpenParenthesis (λ _. IsList IsSpace (IsFetchAtt utf8) IsCloseParenthesis) Asks)
      (second_same IsOpenParenthesis (λ _. Then (IsList IsSpace (IsFetchAtt utf8) IsCloseParenthesis) Asks) (λ _. IsListed utf8 (begun_with true [])) (λ _. then_apart (IsFetchAtt utf8) (λ first. IsMoreThan IsSpace (IsFetchAtt utf8) IsCloseParenthesis (first ∷ [])) Asks))

  items_same : Same Items AloneOrList
  items_same =
      same_on Items (Then (Or (Or MacroWord LoneItem) ItemList) Asks) AloneOrList (first_same (IsFetchItems utf8) (Or (Or MacroWord LoneItem) ItemList) Asks items_apart)
      (same_on _ (Or (Then (Or MacroWord LoneItem) Asks) (Then ItemList Asks)) AloneOrList (or_then (Or MacroWord LoneItem) ItemList Asks)
      (or_same (Then (Or MacroWord LoneItem) Asks) (IsLoneItem utf8 (begun_with false [])) (Then ItemList Asks) (After IsOpenParenthesis (IsListed utf8 (begun_with true []))) (same_self (IsLoneItem utf8 (begun_with false []))) list_same))

  pub all_viable : IsViable Items []
  all_viable = viable_same Items AloneOrList [] items_same (left_viable (IsLoneItem utf8 (begun_with false [])) (After IsOpenParenthesis (IsListed utf8 (begun_with true []))) [] (alone_viable utf8 (begun_with false [])))

  pub all_open : (text : List ℕ) → length text ≡ 0 → IsViable Items text
  all_open text e = subst (λ z. IsViable Items z) (sym (no_octets text e)) all_viable

  pub all_stops : {L : List ℕ → Command → Type 0} {text rest : List ℕ} → Leaves L text Items rest → length rest ≡ 0 → StopsReading L never text More
  all_stops {L} {text} {rest} l e = (here l).stops never More (all_open rest e)

  module _ {L : List ℕ → Command → Type 0} {text rest : List ℕ} (l : Leaves L text Items rest) (x : ℕ) (xs : List ℕ) (e : rest ≡ x ∷ xs) (items : List FetchItem) (none : items ≡ []) where
    pub at_list : x ≡ 40 → Leaves L text (IsListed utf8 (begun_with true items)) xs
    at_list same =
        subst (λ z. Leaves L text (IsListed utf8 (begun_with true z)) xs) (sym none)
        (leaves_then
        (leaves_right (IsLoneItem utf8 (begun_with false [])) (After IsOpenParenthesis (IsListed utf8 (begun_with true []))) (leaves_same AloneOrList l items_same) x xs e (alone_never utf8 (begun_with false []) x same))
        (octet_at rest x 40 xs e same) (λ _. never_avoids _))

    pub at_alone : (x ≡ 40 → ⊥) → Leaves L text (IsLoneItem utf8 (begun_with false items)) rest
    at_alone other =
        subst (λ z. Leaves L text (IsLoneItem utf8 (begun_with false z)) rest) (sym none)
        (leaves_left (IsLoneItem utf8 (begun_with false [])) (After IsOpenParenthesis (IsListed utf8 (begun_with true []))) (leaves_same AloneOrList l items_same) x xs e (then_never 40 x (λ _. IsListed utf8 (begun_with true [])) other))

pub after_fetch_viable : (utf8 by_uid : Bool) → IsViable (Then IsSetAndSpace (Items utf8 by_uid)) []
after_fetch_viable utf8 by_uid = then_viable IsSetAndSpace (Items utf8 by_uid) set_viable (all_viable utf8 by_uid)
