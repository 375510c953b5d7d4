-- The addresses of an ASCII field are ASCII.
use Rattle.std.proofs.Common.{◌≡◌, ℕ, ◌==◌, Bool, true, false, ◌&&◌, inl, inr, cond, List, [], ◌∷◌, ◌++◌, map, drop, Option, Some, None, IfSome, refl}
use Rattle.std.proofs.lemmas.Bool.{and_parts, and_from}
use Rattle.std.specs.List.{list_all}
use Rattle.mail_wire.specs.Octets.{is_ascii}
use Rattle.mail_wire.proofs.AllLemmas.{pass-append, pass-parts, pass-take, pass-drop}
use Rattle.encoded_words.specs.PhraseUnits.{PhraseItem, Atom as AtomItem, Content, Dot, Separator, PhraseWord, begins_free, has_word, gap_before, phrase_words}
use Rattle.field_tokens.specs.declared.Style.{Style}
use Rattle.field_tokens.specs.declared.Style.TheVariants.{Mail}
use Rattle.field_tokens.specs.declared.TokenKind.{TokenKind}
use Rattle.field_tokens.specs.declared.TokenKind.TheVariants.{Atom, Quoted, Literal, Special, Gap, Comment}
use Rattle.field_tokens.specs.Tokens.{TokenValue, AreTokens}
use Rattle.address_grammar.specs.declared.Address.{Address}
use Rattle.address_grammar.specs.private.Lexemes.{unquoted, inner_octets, said_content, content, contents}
use Rattle.address_grammar.specs.Addresses.{IsAddress, quoted_string}
use Rattle.address_grammar.specs.AddressLists.{Divided, MailboxValue, IsRoutedOrNot, IsMailbox, SayParts, AreDivided}
use Rattle.imap_views.specs.Strings.{nil, nstring}
use Rattle.imap_views.specs.Addresses.{plain_item, plain_words, plain_text, IsPhraseName, address_form, IsMailboxForm, AreMemberForms, group_start, group_end, IsGroupForm, IsPlaceForm, HasForms, list_form, IsListForm, IsAddressesForm}
use Rattle.imap_views.proofs.AsciiTexts.{AreAscii, ascii_flat, quoted_ascii, nstring_ascii, parentheses_ascii, form_ascii}

-- ---- tokens

abbrev pub is_ascii_token : TokenValue → Bool
is_ascii_token t = list_all is_ascii t.octets

abbrev pub AreAsciiTokens : List TokenValue → Type 0
AreAsciiTokens ts = list_all is_ascii_token ts ≡ true

pub tokens_ascii : (style : Style) (ts : List TokenValue) (text : List ℕ) → AreTokens style ts text → AreAscii text → AreAsciiTokens ts
tokens_ascii style [] text are h = refl
tokens_ascii style (t ∷ ts) text are h =
    let parts = pass-parts is_ascii t.octets are.0 (rw (are.1) at h) in
    and_from (is_ascii_token t) (list_all is_ascii_token ts) parts.0 (tokens_ascii style ts are.0 are.3 parts.1)

unquoted_ascii : (is_quoted : Bool) (octets : List ℕ) → AreAscii octets → AreAscii (unquoted is_quoted octets)
unquoted_ascii true [] h = refl
unquoted_ascii false [] h = refl
unquoted_ascii true (x ∷ octets) h =
    let parts = and_parts (is_ascii x) (list_all is_ascii octets) h in
    and_from (is_ascii x) (list_all is_ascii (unquoted false octets)) parts.0 (unquoted_ascii false octets parts.1)
unquoted_ascii false (x ∷ octets) h =
    let parts = and_parts (is_ascii x) (list_all is_ascii octets) h in
    by (x == 92) parts.0 (unquoted_ascii true octets parts.1) (unquoted_ascii false octets parts.1)
  where
    by : (b : Bool) → is_ascii x ≡ true → AreAscii (unquoted true octets) → AreAscii (unquoted false octets) → AreAscii (cond b (unquoted true octets) (x ∷ unquoted false octets))
    by true first quoted more = quoted
    by false first quoted more = and_from (is_ascii x) (list_all is_ascii (unquoted false octets)) first more

said_ascii : (kind : TokenKind) (octets : List ℕ) → AreAscii octets → AreAscii (said_content kind octets)
said_ascii Atom octets h = h
said_ascii Quoted octets h = unquoted_ascii false (inner_octets octets) (pass-take is_ascii _ (drop 1 octets) (pass-drop is_ascii 1 octets h))
said_ascii Literal octets h = h
said_ascii Special octets h = h
said_ascii Gap octets h = refl
said_ascii Comment octets h = refl

contents_ascii : (ts : List TokenValue) → AreAsciiTokens ts → AreAscii (contents ts)
contents_ascii ts h = ascii_flat is_ascii_token content (λ t. said_ascii t.kind t.octets) ts h

-- what stands before and after a token
before_token : (ts front : List TokenValue) (t : TokenValue) (back : List TokenValue) → ts ≡ front ++ t ∷ back → AreAsciiTokens ts → AreAsciiTokens front
before_token ts front t back e h = (pass-parts is_ascii_token front (t ∷ back) (rw (e) at h)).0

after_token : (ts front : List TokenValue) (t : TokenValue) (back : List TokenValue) → ts ≡ front ++ t ∷ back → AreAsciiTokens ts → AreAsciiTokens back
after_token ts front t back e h =
    (and_parts (is_ascii_token t) (list_all is_ascii_token back) (pass-parts is_ascii_token front (t ∷ back) (rw (e) at h)).1).1

-- ---- phrases

abbrev is_ascii_item : PhraseItem → Bool
is_ascii_item (AtomItem octets) = list_all is_ascii octets
is_ascii_item (Content octets) = list_all is_ascii octets
is_ascii_item Dot = true
is_ascii_item Separator = true

abbrev is_ascii_word : PhraseWord → Bool
is_ascii_word w = list_all is_ascii w.octets && list_all is_ascii w.gap

item_ascii : (kind : TokenKind) (octets : List ℕ) → AreAscii octets → is_ascii_item (plain_item kind octets) ≡ true
item_ascii Atom octets h = h
item_ascii Quoted octets h = said_ascii Quoted octets h
item_ascii Literal octets h = h
item_ascii Special octets h = h
item_ascii Gap octets h = refl
item_ascii Comment octets h = refl

items_ascii : (ts : List TokenValue) → AreAsciiTokens ts → list_all is_ascii_item (map (λ (t : TokenValue). plain_item t.kind t.octets) ts) ≡ true
items_ascii [] h = refl
items_ascii (t ∷ ts) h =
    let parts = and_parts (is_ascii_token t) (list_all is_ascii_token ts) h in
    and_from (is_ascii_item (plain_item t.kind t.octets)) (list_all is_ascii_item (map (λ (t : TokenValue). plain_item t.kind t.octets) ts)) (item_ascii t.kind t.octets parts.0) (items_ascii ts parts.1)

gap_ascii : (items : List PhraseItem) → AreAscii (gap_before items)
gap_ascii items = by (begins_free items && has_word items)
  where
    by : (b : Bool) → AreAscii (cond b (32 ∷ []) [])
    by true = refl
    by false = refl

words_ascii : (free : Bool) (items : List PhraseItem) → list_all is_ascii_item items ≡ true → list_all is_ascii_word (phrase_words free items) ≡ true
words_ascii free [] h = refl
words_ascii free (Separator ∷ items) h = words_ascii true items h
words_ascii free (AtomItem octets ∷ items) h =
    let parts = and_parts (list_all is_ascii octets) (list_all is_ascii_item items) h in
    and_from (list_all is_ascii octets && list_all is_ascii (gap_before items)) (list_all is_ascii_word (phrase_words false items))
    (and_from (list_all is_ascii octets) (list_all is_ascii (gap_before items)) parts.0 (gap_ascii items)) (words_ascii false items parts.1)
words_ascii free (Content octets ∷ items) h =
    let parts = and_parts (list_all is_ascii octets) (list_all is_ascii_item items) h in
    and_from (list_all is_ascii octets && list_all is_ascii (gap_before items)) (list_all is_ascii_word (phrase_words false items))
    (and_from (list_all is_ascii octets) (list_all is_ascii (gap_before items)) parts.0 (gap_ascii items)) (words_ascii false items parts.1)
words_ascii free (Dot ∷ items) h =
    and_from (list_all is_ascii (gap_before items)) (list_all is_ascii_word (phrase_words false items)) (gap_ascii items) (words_ascii false items h)

word_ascii : (w : PhraseWord) → is_ascii_word w ≡ true → AreAscii (w.octets ++ w.gap)
word_ascii w h = let parts = and_parts (list_all is_ascii w.octets) (list_all is_ascii w.gap) h in pass-append is_ascii w.octets w.gap parts.0 parts.1

plain_ascii : (ts : List TokenValue) → AreAsciiTokens ts → AreAscii (plain_text ts)
plain_ascii ts h = ascii_flat is_ascii_word (λ (w : PhraseWord). w.octets ++ w.gap) word_ascii (plain_words ts) (words_ascii true (map (λ (t : TokenValue). plain_item t.kind t.octets) ts) (items_ascii ts h))

-- ---- mailboxes

record IsAsciiAddress (a : Address) : Type 0 where
  local : AreAscii a.local
  domain : AreAscii a.domain

address_ascii : (ts : List TokenValue) (a : Address) → IsAddress ts a → AreAsciiTokens ts → IsAsciiAddress a
address_ascii ts a is h = record {
  local = rw (is.local_says) (contents_ascii is.local (before_token ts is.local is.at is.domain is.whole h));
  domain = rw (is.domain_says) (contents_ascii is.domain (after_token ts is.local is.at is.domain is.whole h));
}

routed_ascii : (ts : List TokenValue) (a : Address) → IsRoutedOrNot ts a → AreAsciiTokens ts → IsAsciiAddress a
routed_ascii ts a (inl is) h = address_ascii ts a is h
routed_ascii ts a (inr is) h = address_ascii is.following a is.is_address (after_token ts is.route is.colon is.following is.whole h)

mailbox_ascii : (ts : List TokenValue) (m : MailboxValue) → IsMailbox ts m → AreAsciiTokens ts → IsAsciiAddress m.address
mailbox_ascii ts m (inl is) h = address_ascii ts m.address is.is_address h
mailbox_ascii ts m (inr is) h =
    let a = is.angled in
    let following = after_token ts is.before a.open_mark (is.inner ++ a.close_mark ∷ a.after) a.whole h in
    routed_ascii is.inner m.address is.named.address (pass-parts is_ascii_token is.inner (a.close_mark ∷ a.after) following).0

name_ascii : (ts : List TokenValue) (phrase : Bool) (name : Option (List ℕ)) → IsPhraseName ts phrase name → AreAsciiTokens ts → IfSome name AreAscii
name_ascii ts false name is h = rw (is) tt
name_ascii ts true name is h = rw (is.3) (plain_ascii is.0 (before_token ts is.0 is.2.at is.1 is.2.whole h))

address_form_ascii : (name : Option (List ℕ)) (a : Address) → IfSome name AreAscii → IsAsciiAddress a → AreAscii (address_form name a)
address_form_ascii name a n is =
    form_ascii (nstring name ∷ nil ∷ quoted_string a.local ∷ quoted_string a.domain ∷ []) (nstring_ascii name n, (refl, (quoted_ascii a.local is.local, (quoted_ascii a.domain is.domain, tt))))

mailbox_form_ascii : (ts : List TokenValue) (text : List ℕ) → IsMailboxForm ts text → AreAsciiTokens ts → AreAscii text
mailbox_form_ascii ts text is h =
    rw (is.text_is) (address_form_ascii is.name is.mailbox.address (name_ascii ts is.mailbox.phrase is.name is.is_name h) (mailbox_ascii ts is.mailbox is.is_mailbox h))

-- ---- parts divided by commas

abbrev KeepsAscii : (List TokenValue → List ℕ → Type 0) → Type 0
KeepsAscii Says = (ts : List TokenValue) (text : List ℕ) → Says ts text → AreAsciiTokens ts → AreAscii text

parts_ascii : (Says : List TokenValue → List ℕ → Type 0) → KeepsAscii Says → (parts : List (List TokenValue)) (ts : List TokenValue) (text : List ℕ) → Divided 44 parts ts → SayParts Says parts text → AreAsciiTokens ts → AreAscii text
parts_ascii Says each [] ts text d say h = absurd d
parts_ascii Says each (p ∷ []) ts text d say h =
    rw (say.2, say.4) (pass-append is_ascii say.0 [] (each p say.0 say.3 (rw (d) at h)) refl)
parts_ascii Says each (p ∷ n ∷ parts) ts text d say h =
    rw (say.2) (pass-append is_ascii say.0 say.1 (each p say.0 say.3 (before_token ts p d.0 d.1 d.2 h)) (parts_ascii Says each (n ∷ parts) d.1 say.1 d.4 say.4 (after_token ts p d.0 d.1 d.2 h)))

divided_ascii : (Says : List TokenValue → List ℕ → Type 0) → KeepsAscii Says → KeepsAscii (AreDivided Says)
divided_ascii Says each ts text d h = parts_ascii Says each d.parts ts text d.divided d.say h

-- ---- groups and lists

members_ascii : (ts : List TokenValue) (text : List ℕ) → AreMemberForms ts text → AreAsciiTokens ts → AreAscii text
members_ascii ts text (inl none) h = rw (none.1) refl
members_ascii ts text (inr d) h = divided_ascii IsMailboxForm mailbox_form_ascii ts text d h

group_start_ascii : (name : List ℕ) → AreAscii name → AreAscii (group_start name)
group_start_ascii name h = form_ascii (nil ∷ nil ∷ quoted_string name ∷ nil ∷ []) (refl, (refl, (quoted_ascii name h, (refl, tt))))

group_end_ascii : AreAscii group_end
group_end_ascii = form_ascii (nil ∷ nil ∷ nil ∷ nil ∷ []) (refl, (refl, (refl, (refl, tt))))

group_ascii : (ts : List TokenValue) (text : List ℕ) → IsGroupForm ts text → AreAsciiTokens ts → AreAscii text
group_ascii ts text is h =
    let start = group_start_ascii (plain_text is.before) (plain_ascii is.before (before_token ts is.before is.named.at is.following is.named.whole h)) in
    let following = after_token ts is.before is.named.at is.following is.named.whole h in
    let members = members_ascii is.inner is.members is.are_members (before_token is.following is.inner is.ended.at is.after is.ended.whole following) in
    rw (is.text_is) (pass-append is_ascii (group_start (plain_text is.before)) (is.members ++ group_end) start (pass-append is_ascii is.members group_end members group_end_ascii))

place_ascii : (ts : List TokenValue) (text : List ℕ) → IsPlaceForm ts text → AreAsciiTokens ts → AreAscii text
place_ascii ts text (inl none) h = rw (none.1) refl
place_ascii ts text (inr (inl is)) h = mailbox_form_ascii ts text is h
place_ascii ts text (inr (inr is)) h = group_ascii ts text is h

forms_ascii : (text forms : List ℕ) → HasForms text forms → AreAscii text → AreAscii forms
forms_ascii text forms has h = divided_ascii IsPlaceForm place_ascii has.tokens forms has.are_forms (tokens_ascii Mail has.tokens text has.has_tokens.are_tokens h)

list_form_ascii : (forms : List ℕ) → AreAscii forms → AreAscii (list_form forms)
list_form_ascii [] h = refl
list_form_ascii (x ∷ forms) h = parentheses_ascii (x ∷ forms) h

list_ascii : (value text : List ℕ) → IsListForm value text → AreAscii value → AreAscii text
list_ascii value text (inl has) h = rw (has.2) (list_form_ascii has.0 (forms_ascii value has.0 has.1 h))
list_ascii value text (inr none) h = rw (none.1) refl

pub addresses_ascii : (value : Option (List ℕ)) (text : List ℕ) → IsAddressesForm value text → IfSome value AreAscii → AreAscii text
addresses_ascii None text is h = rw (is) refl
addresses_ascii (Some value) text is h = list_ascii value text is h
