-- The words of a phrase as they stand, item by item.
use Rattle.std.proofs.Common.{◌≡◌, ℕ, Bool, true, false, not, if◌then◌else◌, List, [], ◌∷◌, ◌++◌, map, refl, sym, ap, ◌∙◌, subst, append_assoc}
use Rattle.std.proofs.lemmas.List.{append-nil}
use Rattle.std.specs.List.{flat_map}
use Rattle.encoded_words.specs.PhraseUnits.{PhraseItem, Atom as AtomItem, Content, Dot, Separator, PhraseWord, has_word, gap_before, phrase_words}
use Rattle.field_tokens.specs.declared.TokenKind.{TokenKind}
use Rattle.field_tokens.specs.declared.TokenKind.TheVariants.{Atom, Quoted, Literal, Special, Gap, Comment}
use Rattle.field_tokens.specs.Tokens.{TokenValue}
use Rattle.field_tokens.specs.Squeezed.{is_blank}
use Rattle.address_grammar.specs.private.Lexemes.{said_content, is_blank_token, content}
use Rattle.imap_views.specs.Addresses.{plain_item}

abbrev pub items_of : List TokenValue → List PhraseItem
items_of tokens = map (λ (t : TokenValue). plain_item t.kind t.octets) tokens

abbrev pub words_said : List PhraseWord → List ℕ
words_said words = flat_map (λ (w : PhraseWord). w.octets ++ w.gap) words

abbrev pub items_said : List PhraseItem → List ℕ
items_said items = words_said (phrase_words true items)

-- what the words say doesn't turn on whether an atom may be encoded
said_after : (items : List PhraseItem) → words_said (phrase_words false items) ≡ items_said items
said_after [] = refl
said_after (Separator ∷ items) = refl
said_after (AtomItem octets ∷ items) = refl
said_after (Content octets ∷ items) = refl
said_after (Dot ∷ items) = refl

abbrev pub space_where : Bool → List ℕ
space_where is = if is then 32 ∷ [] else []

-- What was made and the items that are left say the whole, where no word was made yet or one was, and where the last word
-- is apart from what is left or not.
abbrev pub SaysOn : Bool → Bool → List ℕ → List PhraseItem → List ℕ → Type 0
SaysOn true true made left whole = ⊥
SaysOn true false made left whole = made ++ items_said left ≡ whole
SaysOn false true made left whole = made ++ (space_where (has_word left) ++ items_said left) ≡ whole
SaysOn false false made left whole = made ++ (gap_before left ++ items_said left) ≡ whole

separator_turn : (is_first has_space_before : Bool) (made : List ℕ) (left : List PhraseItem) (whole : List ℕ) → SaysOn is_first has_space_before made (Separator ∷ left) whole → SaysOn is_first (not is_first) made left whole
separator_turn true true made left whole says = absurd says
separator_turn true false made left whole says = says
separator_turn false true made left whole says = says
separator_turn false false made left whole says = says

joined : (made octets gap rest later : List ℕ) → rest ≡ later → made ++ ((octets ++ gap) ++ rest) ≡ (made ++ octets) ++ (gap ++ later)
joined made octets gap rest later e = ap (λ r. made ++ r) (append_assoc octets gap rest) ∙ sym (append_assoc made octets (gap ++ rest)) ∙ ap (λ r. (made ++ octets) ++ (gap ++ r)) e

content_turn : (is_first has_space_before : Bool) (made octets : List ℕ) (left : List PhraseItem) (whole : List ℕ) → SaysOn is_first has_space_before made (Content octets ∷ left) whole
    → SaysOn false false ((made ++ space_where has_space_before) ++ octets) left whole
content_turn true true made octets left whole says = absurd says
content_turn true false made octets left whole says = rw (append-nil made) (sym (joined made octets (gap_before left) _ _ (said_after left)) ∙ says)
content_turn false true made octets left whole says = sym (joined (made ++ 32 ∷ []) octets (gap_before left) _ _ (said_after left)) ∙ append_assoc made (32 ∷ []) _ ∙ says
content_turn false false made octets left whole says = rw (append-nil made) (sym (joined made octets (gap_before left) _ _ (said_after left)) ∙ says)

blank_turn : (kind : TokenKind) (octets : List ℕ) (is_first has_space_before : Bool) (made : List ℕ) (left : List PhraseItem) (whole : List ℕ) → is_blank kind ≡ true
    → SaysOn is_first has_space_before made (plain_item kind octets ∷ left) whole → SaysOn is_first (not is_first) made left whole
blank_turn Atom octets is_first has_space_before made left whole h says = cc h
blank_turn Quoted octets is_first has_space_before made left whole h says = cc h
blank_turn Literal octets is_first has_space_before made left whole h says = cc h
blank_turn Special octets is_first has_space_before made left whole h says = cc h
blank_turn Gap octets is_first has_space_before made left whole h says = separator_turn is_first has_space_before made left whole says
blank_turn Comment octets is_first has_space_before made left whole h says = separator_turn is_first has_space_before made left whole says

word_turn : (kind : TokenKind) (octets : List ℕ) (is_first has_space_before : Bool) (made : List ℕ) (left : List PhraseItem) (whole : List ℕ) → is_blank kind ≡ false
    → SaysOn is_first has_space_before made (plain_item kind octets ∷ left) whole → SaysOn false false ((made ++ space_where has_space_before) ++ said_content kind octets) left whole
word_turn Atom octets is_first has_space_before made left whole h says = content_turn is_first has_space_before made octets left whole says
word_turn Quoted octets is_first has_space_before made left whole h says = content_turn is_first has_space_before made (said_content Quoted octets) left whole says
word_turn Literal octets is_first has_space_before made left whole h says = content_turn is_first has_space_before made octets left whole says
word_turn Special octets is_first has_space_before made left whole h says = content_turn is_first has_space_before made octets left whole says
word_turn Gap octets is_first has_space_before made left whole h says = cc h
word_turn Comment octets is_first has_space_before made left whole h says = cc h

-- ---- token by token

pub blank_at : (rest following : List TokenValue) (t : TokenValue) (is_first has_space_before : Bool) (made whole : List ℕ) → rest ≡ t ∷ following → is_blank_token t ≡ true → SaysOn is_first has_space_before made (items_of rest) whole
    → SaysOn is_first (not is_first) made (items_of following) whole
blank_at rest following t is_first has_space_before made whole e blank says = blank_turn t.kind t.octets is_first has_space_before made (items_of following) whole blank (subst (λ r. SaysOn is_first has_space_before made (items_of r) whole) e says)

pub word_at : (rest following : List TokenValue) (t : TokenValue) (is_first has_space_before : Bool) (made whole : List ℕ) → rest ≡ t ∷ following → is_blank_token t ≡ false → SaysOn is_first has_space_before made (items_of rest) whole
    → SaysOn false false ((made ++ space_where has_space_before) ++ content t) (items_of following) whole
word_at rest following t is_first has_space_before made whole e word says = word_turn t.kind t.octets is_first has_space_before made (items_of following) whole word (subst (λ r. SaysOn is_first has_space_before made (items_of r) whole) e says)

pub says_all : (is_first has_space_before : Bool) (made : List ℕ) (rest : List TokenValue) (whole : List ℕ) → rest ≡ [] → SaysOn is_first has_space_before made (items_of rest) whole → made ≡ whole
says_all is_first has_space_before made rest whole e says = by is_first has_space_before (subst (λ r. SaysOn is_first has_space_before made (items_of r) whole) e says)
  where
    by : (is_first has_space_before : Bool) → SaysOn is_first has_space_before made [] whole → made ≡ whole
    by true true says = absurd says
    by true false says = sym (append-nil made) ∙ says
    by false true says = sym (append-nil made) ∙ says
    by false false says = sym (append-nil made) ∙ says
