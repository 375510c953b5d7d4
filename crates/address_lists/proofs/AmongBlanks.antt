-- Gaps and comments before and after an element.
use Rattle.std.proofs.Common.{◌≡◌, ℕ, Bool, true, false, not, inl, inr, List, [], ◌∷◌, ◌++◌, refl, sym, ap, ◌∙◌, subst}
use Rattle.std.proofs.lemmas.Bool.{and_parts, and_from}
use Rattle.std.proofs.lemmas.List.{append_assoc, append-nil}
use Rattle.std.proofs.lemmas.List.Elements.{filter-append}
use Rattle.std.proofs.lemmas.List.Folds.{list_all-append}
use Rattle.std.specs.List.{list_all}
use Rattle.std.specs.Str.{bytes_eq}
use Rattle.encoded_words.specs.Words.{UnitValue}
use Rattle.encoded_words.specs.PhraseUnits.{HasPhraseUnits}
use Rattle.encoded_words.proofs.PhraseSources.{HasPhraseUnits-around, HasPhraseUnits-within}
use Rattle.field_tokens.specs.declared.TokenKind.{TokenKind}
use Rattle.field_tokens.specs.declared.TokenKind.TheVariants.{Atom, Quoted, Literal, Special, Gap, Comment}
use Rattle.field_tokens.specs.Tokens.{TokenValue}
use Rattle.address_grammar.specs.declared.Address.{Address}
use Rattle.address_grammar.specs.private.Lexemes.{is_blank_token, are_blank, is_special_of, contents}
use Rattle.address_grammar.specs.Addresses.{IsAddress}
use Rattle.address_grammar.specs.Phrases.{may_stand_in_phrase, IsPhrase, phrase_items, SaysPhrase}
use Rattle.address_grammar.specs.AddressLists.{Divided, MailboxValue, IsBare, IsNamed, IsMailbox, SayParts, AreDivided, IsOneMailbox, ElementValue, One, Group, IsGroup, IsElement, SaysPlace}
use Rattle.address_grammar.proofs.SoundLemmas.{contents-words}
use Rattle.address_lists.proofs.PhrasesAgain.{blank_separators}
use Rattle.field_tokens.specs.Squeezed.{is_special_kind, words_of}

-- What may be said of tokens with gaps and comments at their ends as well as without.
pub record StandsAmongBlanks (P : List TokenValue → Type 0) : Type 0 where
  pub after_one : (t : TokenValue) (ts : List TokenValue) → is_blank_token t ≡ true → P ts → P (t ∷ ts)
  pub before_one : (ts : List TokenValue) (t : TokenValue) → is_blank_token t ≡ true → P ts → P (ts ++ t ∷ [])
  pub without_first : (t : TokenValue) (ts : List TokenValue) → is_blank_token t ≡ true → P (t ∷ ts) → P ts
  pub without_last : (ts : List TokenValue) (t : TokenValue) → is_blank_token t ≡ true → P (ts ++ t ∷ []) → P ts

pub after_blanks : (P : List TokenValue → Type 0) → StandsAmongBlanks P → (a ts : List TokenValue) → are_blank a ≡ true → P ts → P (a ++ ts)
after_blanks P among [] ts blank p = p
after_blanks P among (t ∷ a) ts blank p =
    let parts = and_parts (is_blank_token t) (are_blank a) blank in
    among.after_one t (a ++ ts) parts.0 (after_blanks P among a ts parts.1 p)

pub before_blanks : (P : List TokenValue → Type 0) → StandsAmongBlanks P → (ts b : List TokenValue) → are_blank b ≡ true → P ts → P (ts ++ b)
before_blanks P among ts [] blank p = rw (append-nil ts) p
before_blanks P among ts (t ∷ b) blank p =
    let parts = and_parts (is_blank_token t) (are_blank b) blank in
    rw (append_assoc ts (t ∷ []) b) at (before_blanks P among (ts ++ t ∷ []) b parts.1 (among.before_one ts t parts.0 p))

without_front : (P : List TokenValue → Type 0) → StandsAmongBlanks P → (a ts : List TokenValue) → are_blank a ≡ true → P (a ++ ts) → P ts
without_front P among [] ts blank p = p
without_front P among (t ∷ a) ts blank p =
    let parts = and_parts (is_blank_token t) (are_blank a) blank in
    without_front P among a ts parts.1 (among.without_first t (a ++ ts) parts.0 p)

without_after : (P : List TokenValue → Type 0) → StandsAmongBlanks P → (ts b : List TokenValue) → are_blank b ≡ true → P (ts ++ b) → P ts
without_after P among ts [] blank p = rw (append-nil ts) at p
without_after P among ts (t ∷ b) blank p =
    let parts = and_parts (is_blank_token t) (are_blank b) blank in
    among.without_last ts t parts.0 (without_after P among (ts ++ t ∷ []) b parts.1 (rw (append_assoc ts (t ∷ []) b) p))

pub without_blanks : (P : List TokenValue → Type 0) → StandsAmongBlanks P → (a ts b : List TokenValue) → are_blank a ≡ true → are_blank b ≡ true → P (a ++ (ts ++ b)) → P ts
without_blanks P among a ts b p q h = without_after P among ts b q (without_front P among a (ts ++ b) p h)

-- ---- where a mark stands among blanks

blank_no_special : (k : TokenKind) (octets : List ℕ) → is_blank_token (record { kind = k; octets = octets }) ≡ true → is_special_kind k ≡ true → ⊥
blank_no_special Gap octets h s = cc s
blank_no_special Comment octets h s = cc s
blank_no_special Atom octets h s = cc h
blank_no_special Quoted octets h s = cc h
blank_no_special Literal octets h s = cc h
blank_no_special Special octets h s = cc h

mark_not_blank : (m : ℕ) (t u : TokenValue) → is_blank_token t ≡ true → is_special_of m u ≡ true → t ≡ u → ⊥
mark_not_blank m t u blank is e =
    let here : is_special_of m t ≡ true = ap (is_special_of m) e ∙ is in
    blank_no_special t.kind t.octets blank (and_parts (is_special_kind t.kind) (bytes_eq t.octets (m ∷ [])) here).0

-- the first token stands before the mark
record FirstBefore (t : TokenValue) (ts l r : List TokenValue) (m : TokenValue) : Type 0 where
  left : List TokenValue
  is_left : l ≡ t ∷ left
  whole : ts ≡ left ++ m ∷ r

first_before : (n : ℕ) (t : TokenValue) (ts l : List TokenValue) (m : TokenValue) (r : List TokenValue) → is_blank_token t ≡ true → is_special_of n m ≡ true → t ∷ ts ≡ l ++ m ∷ r → FirstBefore t ts l r m
first_before n t ts [] m r blank is e = absurd (mark_not_blank n t m blank is (cc e))
first_before n t ts (k ∷ l) m r blank is e =
    let head : t ≡ k = cc e in
    let tail : ts ≡ l ++ m ∷ r = cc e in
    record { left = l; is_left = ap (λ x. x ∷ l) (sym head); whole = tail }

-- the last token stands after the mark
record LastAfter (ts : List TokenValue) (t : TokenValue) (l r : List TokenValue) (m : TokenValue) : Type 0 where
  right : List TokenValue
  is_right : r ≡ right ++ t ∷ []
  whole : ts ≡ l ++ m ∷ right

nothing_left : (l : List TokenValue) (m : TokenValue) (r : List TokenValue) → [] ≡ l ++ m ∷ r → ⊥
nothing_left [] m r e = cc e
nothing_left (k ∷ l) m r e = cc e

last_after : (n : ℕ) (ts : List TokenValue) (t : TokenValue) (l : List TokenValue) (m : TokenValue) (r : List TokenValue) → is_blank_token t ≡ true → is_special_of n m ≡ true → ts ++ t ∷ [] ≡ l ++ m ∷ r → LastAfter ts t l r m
last_after n [] t [] m r blank is e = absurd (mark_not_blank n t m blank is (cc e))
last_after n (u ∷ ts) t [] m r blank is e =
    let head : u ≡ m = cc e in
    let tail : ts ++ t ∷ [] ≡ r = cc e in
    record { right = ts; is_right = sym tail; whole = ap (λ x. x ∷ ts) head }
last_after n [] t (k ∷ l) m r blank is e = let tail : [] ≡ l ++ m ∷ r = cc e in absurd (nothing_left l m r tail)
last_after n (u ∷ ts) t (k ∷ l) m r blank is e =
    let head : u ≡ k = cc e in
    let tail : ts ++ t ∷ [] ≡ l ++ m ∷ r = cc e in
    let more = last_after n ts t l m r blank is tail in
    record { right = more.right; is_right = more.is_right; whole = ap (λ x. x ∷ ts) head ∙ ap (λ x. k ∷ x) more.whole }

-- ---- addresses

words_first : (t : TokenValue) (ts : List TokenValue) → is_blank_token t ≡ true → words_of (t ∷ ts) ≡ words_of ts
words_first t ts blank = rw (blank) refl

words_last : (ts : List TokenValue) (t : TokenValue) → is_blank_token t ≡ true → words_of (ts ++ t ∷ []) ≡ words_of ts
words_last ts t blank = filter-append (λ u. not (is_blank_token u)) ts (t ∷ []) ∙ ap (λ r. words_of ts ++ r) (words_first t [] blank) ∙ append-nil (words_of ts)

-- an address with the same words
address_alike : (ts us : List TokenValue) (a : Address) (is : IsAddress ts a) (local domain : List TokenValue) → words_of local ≡ words_of is.local → words_of domain ≡ words_of is.domain → us ≡ local ++ is.at ∷ domain → IsAddress us a
address_alike ts us a is local domain p q whole = record {
  local = local;
  at = is.at;
  domain = domain;
  whole = whole;
  is_at = is.is_at;
  is_local = rw (p) is.is_local;
  is_domain = rw (q) is.is_domain;
  local_says = is.local_says ∙ contents-words is.local ∙ ap contents (sym p) ∙ sym (contents-words local);
  domain_says = is.domain_says ∙ contents-words is.domain ∙ ap contents (sym q) ∙ sym (contents-words domain);
}

pub address_among : (a : Address) → StandsAmongBlanks (λ ts. IsAddress ts a)
address_among a = record {
  after_one = λ t ts blank is. address_alike ts (t ∷ ts) a is (t ∷ is.local) is.domain (words_first t is.local blank) refl (ap (λ r. t ∷ r) is.whole);
  before_one = λ ts t blank is.
      address_alike ts (ts ++ t ∷ []) a is is.local (is.domain ++ t ∷ []) refl (words_last is.domain t blank) (ap (λ r. r ++ t ∷ []) is.whole ∙ append_assoc is.local (is.at ∷ is.domain) (t ∷ []));
  without_first = λ t ts blank is.
      let cut = first_before 64 t ts is.local is.at is.domain blank is.is_at is.whole in
      address_alike (t ∷ ts) ts a is cut.left is.domain (sym (ap words_of cut.is_left ∙ words_first t cut.left blank)) refl cut.whole;
  without_last = λ ts t blank is.
      let cut = last_after 64 ts t is.local is.at is.domain blank is.is_at is.whole in
      address_alike (ts ++ t ∷ []) ts a is is.local cut.right refl (sym (ap words_of cut.is_right ∙ words_last cut.right t blank)) cut.whole;
}

-- ---- phrases

pub phrase_after : (t : TokenValue) (ts : List TokenValue) (us : List UnitValue) → is_blank_token t ≡ true → IsPhrase ts × HasPhraseUnits (phrase_items ts) us → IsPhrase (t ∷ ts) × HasPhraseUnits (phrase_items (t ∷ ts)) us
phrase_after t ts us blank says = (
  record { some = rw (blank) says.0.some; each = and_from (may_stand_in_phrase t) (list_all may_stand_in_phrase ts) (rw (blank) refl) says.0.each },
  rw (append-nil (phrase_items ts)) at (HasPhraseUnits-around (phrase_items (t ∷ [])) (phrase_items ts) [] us (blank_separators (t ∷ []) (and_from (is_blank_token t) true blank refl)) tt says.1),
)

pub phrase_without : (t : TokenValue) (ts : List TokenValue) (us : List UnitValue) → is_blank_token t ≡ true → IsPhrase (t ∷ ts) × HasPhraseUnits (phrase_items (t ∷ ts)) us → IsPhrase ts × HasPhraseUnits (phrase_items ts) us
phrase_without t ts us blank says = (
  record { some = rw (blank) at says.0.some; each = (and_parts (may_stand_in_phrase t) (list_all may_stand_in_phrase ts) says.0.each).1 },
  HasPhraseUnits-within (phrase_items (t ∷ [])) (phrase_items ts) [] us (blank_separators (t ∷ []) (and_from (is_blank_token t) true blank refl)) tt (rw (append-nil (phrase_items ts)) says.1),
)

says_after : (t : TokenValue) (ts : List TokenValue) (phrase : Bool) (us : List UnitValue) → is_blank_token t ≡ true → SaysPhrase ts phrase us → SaysPhrase (t ∷ ts) phrase us
says_after t ts true us blank says = phrase_after t ts us blank says
says_after t ts false us blank says = (and_from (is_blank_token t) (are_blank ts) blank says.0, says.1)

says_without : (t : TokenValue) (ts : List TokenValue) (phrase : Bool) (us : List UnitValue) → is_blank_token t ≡ true → SaysPhrase (t ∷ ts) phrase us → SaysPhrase ts phrase us
says_without t ts true us blank says = phrase_without t ts us blank says
says_without t ts false us blank says = ((and_parts (is_blank_token t) (are_blank ts) says.0).1, says.1)

-- ---- mailboxes

pub blank_more : (ts : List TokenValue) (t : TokenValue) → are_blank ts ≡ true → is_blank_token t ≡ true → are_blank (ts ++ t ∷ []) ≡ true
blank_more ts t p q = list_all-append is_blank_token ts (t ∷ []) ∙ and_from (are_blank ts) (are_blank (t ∷ [])) p (and_from (is_blank_token t) true q refl)

blank_less : (ts : List TokenValue) (t : TokenValue) → are_blank (ts ++ t ∷ []) ≡ true → are_blank ts ≡ true
blank_less ts t h = (and_parts (are_blank ts) (are_blank (t ∷ [])) (sym (list_all-append is_blank_token ts (t ∷ [])) ∙ h)).0

bare_among : (m : MailboxValue) → StandsAmongBlanks (λ ts. IsBare ts m)
bare_among m =
    let among = address_among m.address in
    record {
      after_one = λ t ts blank is. record { is_address = among.after_one t ts blank is.is_address; phrase = is.phrase; display = is.display; angle = is.angle };
      before_one = λ ts t blank is. record { is_address = among.before_one ts t blank is.is_address; phrase = is.phrase; display = is.display; angle = is.angle };
      without_first = λ t ts blank is. record { is_address = among.without_first t ts blank is.is_address; phrase = is.phrase; display = is.display; angle = is.angle };
      without_last = λ ts t blank is. record { is_address = among.without_last ts t blank is.is_address; phrase = is.phrase; display = is.display; angle = is.angle };
    }

-- the same brackets among other tokens
named_alike : (ts us : List TokenValue) (m : MailboxValue) (is : IsNamed ts m) (before after : List TokenValue) → SaysPhrase before m.phrase m.display → are_blank after ≡ true
    → us ≡ before ++ is.angled.open_mark ∷ (is.inner ++ is.angled.close_mark ∷ after) → IsNamed us m
named_alike ts us m is before after says blank whole = record {
  before = before;
  inner = is.inner;
  angled = record { open_mark = is.angled.open_mark; close_mark = is.angled.close_mark; after = after; whole = whole; opens = is.angled.opens; closes = is.angled.closes; following = blank };
  named = record { says = says; address = is.named.address; angle = is.named.angle };
}

named_among : (m : MailboxValue) → StandsAmongBlanks (λ ts. IsNamed ts m)
named_among m = record {
  after_one = λ t ts blank is.
      named_alike ts (t ∷ ts) m is (t ∷ is.before) is.angled.after (says_after t is.before m.phrase m.display blank is.named.says) is.angled.following (ap (λ r. t ∷ r) is.angled.whole);
  before_one = λ ts t blank is.
      named_alike ts (ts ++ t ∷ []) m is is.before (is.angled.after ++ t ∷ []) is.named.says (blank_more is.angled.after t is.angled.following blank)
      (ap (λ r. r ++ t ∷ []) is.angled.whole ∙ append_assoc is.before (is.angled.open_mark ∷ (is.inner ++ is.angled.close_mark ∷ is.angled.after)) (t ∷ [])
      ∙ ap (λ r. is.before ++ is.angled.open_mark ∷ r) (append_assoc is.inner (is.angled.close_mark ∷ is.angled.after) (t ∷ [])));
  without_first = λ t ts blank is.
      let cut = first_before 60 t ts is.before is.angled.open_mark (is.inner ++ is.angled.close_mark ∷ is.angled.after) blank is.angled.opens is.angled.whole in
      named_alike (t ∷ ts) ts m is cut.left is.angled.after (says_without t cut.left m.phrase m.display blank (subst (λ r. SaysPhrase r m.phrase m.display) cut.is_left is.named.says)) is.angled.following cut.whole;
  without_last = λ ts t blank is.
      let whole : ts ++ t ∷ [] ≡ (is.before ++ is.angled.open_mark ∷ is.inner) ++ is.angled.close_mark ∷ is.angled.after
      = is.angled.whole ∙ sym (append_assoc is.before (is.angled.open_mark ∷ is.inner) (is.angled.close_mark ∷ is.angled.after)) in
      let cut = last_after 62 ts t (is.before ++ is.angled.open_mark ∷ is.inner) is.angled.close_mark is.angled.after blank is.angled.closes whole in
      named_alike (ts ++ t ∷ []) ts m is is.before cut.right is.named.says (blank_less cut.right t (subst (λ r. are_blank r ≡ true) cut.is_right is.angled.following))
      (cut.whole ∙ append_assoc is.before (is.angled.open_mark ∷ is.inner) (is.angled.close_mark ∷ cut.right));
}

pub mailbox_among : (m : MailboxValue) → StandsAmongBlanks (λ ts. IsMailbox ts m)
mailbox_among m = record {
  after_one = λ t ts blank is. by_after t ts blank is;
  before_one = λ ts t blank is. by_before ts t blank is;
  without_first = λ t ts blank is. by_first t ts blank is;
  without_last = λ ts t blank is. by_last ts t blank is;
}
  where
    by_after : (t : TokenValue) (ts : List TokenValue) → is_blank_token t ≡ true → IsMailbox ts m → IsMailbox (t ∷ ts) m
    by_after t ts blank (inl is) = inl ((bare_among m).after_one t ts blank is)
    by_after t ts blank (inr is) = inr ((named_among m).after_one t ts blank is)

    by_before : (ts : List TokenValue) (t : TokenValue) → is_blank_token t ≡ true → IsMailbox ts m → IsMailbox (ts ++ t ∷ []) m
    by_before ts t blank (inl is) = inl ((bare_among m).before_one ts t blank is)
    by_before ts t blank (inr is) = inr ((named_among m).before_one ts t blank is)

    by_first : (t : TokenValue) (ts : List TokenValue) → is_blank_token t ≡ true → IsMailbox (t ∷ ts) m → IsMailbox ts m
    by_first t ts blank (inl is) = inl ((bare_among m).without_first t ts blank is)
    by_first t ts blank (inr is) = inr ((named_among m).without_first t ts blank is)

    by_last : (ts : List TokenValue) (t : TokenValue) → is_blank_token t ≡ true → IsMailbox (ts ++ t ∷ []) m → IsMailbox ts m
    by_last ts t blank (inl is) = inl ((bare_among m).without_last ts t blank is)
    by_last ts t blank (inr is) = inr ((named_among m).without_last ts t blank is)

-- ---- groups

-- the same group among other tokens
group_alike : (ts us : List TokenValue) (name : List UnitValue) (ms : List MailboxValue) (is : IsGroup ts name ms) (before after : List TokenValue) → IsPhrase before × HasPhraseUnits (phrase_items before) name → are_blank after ≡ true
    → us ≡ before ++ is.colon ∷ (is.group.inner ++ is.group.semicolon ∷ after) → IsGroup us name ms
group_alike ts us name ms is before after says blank whole = record {
  before = before;
  colon = is.colon;
  following = is.group.inner ++ is.group.semicolon ∷ after;
  whole = whole;
  is_colon = is.is_colon;
  group = record {
    inner = is.group.inner;
    semicolon = is.group.semicolon;
    after = after;
    whole = refl;
    is_semicolon = is.group.is_semicolon;
    nothing_after = blank;
    is_phrase = says.0;
    says = says.1;
    are_members = is.group.are_members;
  };
}

group_whole : (ts : List TokenValue) (name : List UnitValue) (ms : List MailboxValue) (is : IsGroup ts name ms) → ts ≡ is.before ++ is.colon ∷ (is.group.inner ++ is.group.semicolon ∷ is.group.after)
group_whole ts name ms is = is.whole ∙ ap (λ r. is.before ++ is.colon ∷ r) is.group.whole

group_says : (ts : List TokenValue) (name : List UnitValue) (ms : List MailboxValue) (is : IsGroup ts name ms) → IsPhrase is.before × HasPhraseUnits (phrase_items is.before) name
group_says ts name ms is = (is.group.is_phrase, is.group.says)

group_among : (name : List UnitValue) (ms : List MailboxValue) → StandsAmongBlanks (λ ts. IsGroup ts name ms)
group_among name ms = record {
  after_one = λ t ts blank is.
      group_alike ts (t ∷ ts) name ms is (t ∷ is.before) is.group.after (phrase_after t is.before name blank (group_says ts name ms is)) is.group.nothing_after (ap (λ r. t ∷ r) (group_whole ts name ms is));
  before_one = λ ts t blank is.
      group_alike ts (ts ++ t ∷ []) name ms is is.before (is.group.after ++ t ∷ []) (group_says ts name ms is) (blank_more is.group.after t is.group.nothing_after blank)
      (ap (λ r. r ++ t ∷ []) (group_whole ts name ms is) ∙ append_assoc is.before (is.colon ∷ (is.group.inner ++ is.group.semicolon ∷ is.group.after)) (t ∷ [])
      ∙ ap (λ r. is.before ++ is.colon ∷ r) (append_assoc is.group.inner (is.group.semicolon ∷ is.group.after) (t ∷ [])));
  without_first = λ t ts blank is.
      let cut = first_before 58 t ts is.before is.colon (is.group.inner ++ is.group.semicolon ∷ is.group.after) blank is.is_colon (group_whole (t ∷ ts) name ms is) in
      group_alike (t ∷ ts) ts name ms is cut.left is.group.after (phrase_without t cut.left name blank (subst (λ r. IsPhrase r × HasPhraseUnits (phrase_items r) name) cut.is_left (group_says (t ∷ ts) name ms is)))
      is.group.nothing_after cut.whole;
  without_last = λ ts t blank is.
      let whole : ts ++ t ∷ [] ≡ (is.before ++ is.colon ∷ is.group.inner) ++ is.group.semicolon ∷ is.group.after
      = group_whole (ts ++ t ∷ []) name ms is ∙ sym (append_assoc is.before (is.colon ∷ is.group.inner) (is.group.semicolon ∷ is.group.after)) in
      let cut = last_after 59 ts t (is.before ++ is.colon ∷ is.group.inner) is.group.semicolon is.group.after blank is.group.is_semicolon whole in
      group_alike (ts ++ t ∷ []) ts name ms is is.before cut.right (group_says (ts ++ t ∷ []) name ms is) (blank_less cut.right t (subst (λ r. are_blank r ≡ true) cut.is_right is.group.nothing_after))
      (cut.whole ∙ append_assoc is.before (is.colon ∷ is.group.inner) (is.group.semicolon ∷ cut.right));
}

pub element_among : (e : ElementValue) → StandsAmongBlanks (λ ts. IsElement ts e)
element_among (One m) = mailbox_among m
element_among (Group name ms) = group_among name ms

-- ---- parts

-- what parts say they say with gaps and comments before the first one
pub divided_after : {E : Type 0} (Says : List TokenValue → List E → Type 0) → ((a ts : List TokenValue) (es : List E) → are_blank a ≡ true → Says ts es → Says (a ++ ts) es)
    → (a ts : List TokenValue) (es : List E) → are_blank a ≡ true → AreDivided Says ts es → AreDivided Says (a ++ ts) es
divided_after {E = E} Says more a ts es blank d = by d.parts d.divided d.say
  where
    by : (parts : List (List TokenValue)) → Divided 44 parts ts → SayParts Says parts es → AreDivided Says (a ++ ts) es
    by [] div say = absurd div
    by (p ∷ []) div say = record { parts = (a ++ p) ∷ []; divided = ap (λ r. a ++ r) div; say = (say.0, say.1, say.2, more a p say.0 blank say.3, say.4) }
    by (p ∷ n ∷ parts) div say = record {
      parts = (a ++ p) ∷ n ∷ parts;
      divided = (div.0, div.1, ap (λ r. a ++ r) div.2 ∙ sym (append_assoc a p (div.0 ∷ div.1)), div.3, div.4);
      say = (say.0, say.1, say.2, more a p say.0 blank say.3, say.4);
    }

-- a part, a comma and the rest
pub divided_put : {E : Type 0} (Says : List TokenValue → List E → Type 0) (p us rest : List TokenValue) (c : TokenValue) (first others : List E) → us ≡ p ++ c ∷ rest → is_special_of 44 c ≡ true → Says p first
    → AreDivided Says rest others → AreDivided Says us (first ++ others)
divided_put {E = E} Says p us rest c first others whole comma says d = by d.parts d.divided d.say
  where
    by : (parts : List (List TokenValue)) → Divided 44 parts rest → SayParts Says parts others → AreDivided Says us (first ++ others)
    by [] div say = absurd div
    by (n ∷ parts) div say = record { parts = p ∷ n ∷ parts; divided = (c, rest, whole, comma, div); say = (first, others, refl, says, say) }

-- and with gaps and comments after the last one
pub divided_before : {E : Type 0} (Says : List TokenValue → List E → Type 0) → ((ts b : List TokenValue) (es : List E) → are_blank b ≡ true → Says ts es → Says (ts ++ b) es)
    → (ts b : List TokenValue) (es : List E) → are_blank b ≡ true → AreDivided Says ts es → AreDivided Says (ts ++ b) es
divided_before {E = E} Says more ts b es blank d = by d.parts ts es d.divided d.say
  where
    by : (parts : List (List TokenValue)) (us : List TokenValue) (fs : List E) → Divided 44 parts us → SayParts Says parts fs → AreDivided Says (us ++ b) fs
    by [] us fs div say = absurd div
    by (p ∷ []) us fs div say = record { parts = (p ++ b) ∷ []; divided = ap (λ r. r ++ b) div; say = (say.0, say.1, say.2, more p b say.0 blank say.3, say.4) }
    by (p ∷ n ∷ parts) us fs div say =
        let rest = by (n ∷ parts) div.1 say.1 div.4 say.4 in
        rw (say.2) (divided_put Says p (us ++ b) (div.1 ++ b) div.0 say.0 say.1 (ap (λ r. r ++ b) div.2 ∙ append_assoc p (div.0 ∷ div.1) b) div.3 say.3 rest)

-- ---- several mailboxes, and places

one_after : (a ts : List TokenValue) (ms : List MailboxValue) → are_blank a ≡ true → IsOneMailbox ts ms → IsOneMailbox (a ++ ts) ms
one_after a ts [] blank is = is
one_after a ts (m ∷ []) blank is = after_blanks (λ r. IsMailbox r m) (mailbox_among m) a ts blank is
one_after a ts (m ∷ n ∷ ms) blank is = is

one_before : (ts b : List TokenValue) (ms : List MailboxValue) → are_blank b ≡ true → IsOneMailbox ts ms → IsOneMailbox (ts ++ b) ms
one_before ts b [] blank is = is
one_before ts b (m ∷ []) blank is = before_blanks (λ r. IsMailbox r m) (mailbox_among m) ts b blank is
one_before ts b (m ∷ n ∷ ms) blank is = is

pub mailboxes_after : (a ts : List TokenValue) (ms : List MailboxValue) → are_blank a ≡ true → AreDivided IsOneMailbox ts ms → AreDivided IsOneMailbox (a ++ ts) ms
mailboxes_after a ts ms blank d = divided_after IsOneMailbox one_after a ts ms blank d

pub mailboxes_before : (ts b : List TokenValue) (ms : List MailboxValue) → are_blank b ≡ true → AreDivided IsOneMailbox ts ms → AreDivided IsOneMailbox (ts ++ b) ms
mailboxes_before ts b ms blank d = divided_before IsOneMailbox one_before ts b ms blank d

place_following : (a ts : List TokenValue) (es : List ElementValue) → are_blank a ≡ true → SaysPlace ts es → SaysPlace (a ++ ts) es
place_following a ts [] blank says = list_all-append is_blank_token a ts ∙ and_from (are_blank a) (are_blank ts) blank says
place_following a ts (e ∷ []) blank says = after_blanks (λ r. IsElement r e) (element_among e) a ts blank says
place_following a ts (e ∷ f ∷ es) blank says = says

pub places_after : (a ts : List TokenValue) (es : List ElementValue) → are_blank a ≡ true → AreDivided SaysPlace ts es → AreDivided SaysPlace (a ++ ts) es
places_after a ts es blank d = divided_after SaysPlace place_following a ts es blank d
