-- An element that is ASCII stands for itself.
use Rattle.std.proofs.Common.{◌≡◌, ℕ, ◌-◌, Bool, true, false, inl, inr, List, [], ◌∷◌, ◌++◌, length, drop, is_some, Some, refl, ap, ◌∙◌, subst, arith}
use Rattle.std.proofs.lemmas.Bool.{and_from}
use Rattle.std.proofs.lemmas.List.{append-nil}
use Rattle.std.proofs.lemmas.List.Folds.{list_all-append}
use Rattle.std.specs.List.{AllByRecursion, AllZip, list_all}
use Rattle.mail_wire.specs.Octets.{is_ascii}
use Rattle.mail_wire.proofs.AllLemmas.{all-append, pass-parts, pass-front, pass-back, pass-take, pass-drop}
use Rattle.field_tokens.specs.declared.Style.TheVariants.{Mail}
use Rattle.field_tokens.specs.declared.TokenKind.{TokenKind}
use Rattle.field_tokens.specs.declared.TokenKind.TheVariants.{Atom, Quoted, Literal, Special, Gap, Comment}
use Rattle.field_tokens.specs.Tokens.{TokenValue, AreTokens}
use Rattle.field_tokens.specs.Squeezed.{octets_of, comments_of}
use Rattle.field_tokens.specs.Comments.{CommentValue, CommentsSay}
use Rattle.field_tokens.proofs.Parts.{EndsNoGap-append, tokens_some, comments_of-append, octets_of-append}
use Rattle.address_grammar.specs.declared.Address.{Address}
use Rattle.address_grammar.specs.private.Lexemes.{HasMailTokens, inner_octets, said_content, content, contents}
use Rattle.address_grammar.specs.Addresses.{IsAddress}
use Rattle.address_grammar.specs.AddressLists.{Divided, MailboxValue, IsRoutedOrNot, IsMailbox, SayParts, IsOneMailbox, AreMembers, ElementValue, One, Group, IsElement}
use Rattle.address_lists.specs.ListPieces.{served_address, has_served_address, HasText}
use Rattle.address_lists.specs.ListReadBack.{IsServedMailbox, StandsForElement}
use Rattle.address_grammar.proofs.SoundLemmas.{unquoted_all}
use Rattle.address_lists.proofs.PlaceTokens.{HasTokenValues-part}
use Rattle.address_lists.proofs.PhraseWriting.{gaps_blank, gaps_no_comments}
use Rattle.address_lists.proofs.ServedLemmas.{served_ascii}
use Rattle.address_lists.proofs.MadeTokens.{AreMade}
use Rattle.address_lists.proofs.AmongBlanks.{StandsAmongBlanks, without_blanks, mailbox_among, element_among}
use Rattle.address_lists.proofs.MailboxesAgain.{IsMailboxAgain, IsElementAgain, IsMailboxIn}

-- ---- what ASCII tokens say is ASCII

abbrev pub AreAscii : List TokenValue → Type 0
AreAscii ts = list_all is_ascii (octets_of ts) ≡ true

pub ascii_front : (a b : List TokenValue) → AreAscii (a ++ b) → AreAscii a
ascii_front a b h = pass-front is_ascii (octets_of a) (octets_of b) (rw (octets_of-append a b) at h)

pub ascii_rest : (a b : List TokenValue) → AreAscii (a ++ b) → AreAscii b
ascii_rest a b h = pass-back is_ascii (octets_of a) (octets_of b) (rw (octets_of-append a b) at h)

ascii_tail : (t : TokenValue) (ts : List TokenValue) → AreAscii (t ∷ ts) → AreAscii ts
ascii_tail t ts h = pass-back is_ascii t.octets (octets_of ts) h

content_all : (q : ℕ → Bool) (kind : TokenKind) (octets : List ℕ) → list_all q octets ≡ true → list_all q (said_content kind octets) ≡ true
content_all q Atom octets h = h
content_all q Literal octets h = h
content_all q Special octets h = h
content_all q Gap octets h = refl
content_all q Comment octets h = refl
content_all q Quoted octets h = unquoted_all q false (inner_octets octets) (pass-take q (length octets - 2) (drop 1 octets) (pass-drop q 1 octets h))

contents_ascii : (ts : List TokenValue) → AreAscii ts → list_all is_ascii (contents ts) ≡ true
contents_ascii [] h = refl
contents_ascii (t ∷ ts) h =
    let parts = pass-parts is_ascii t.octets (octets_of ts) h in
    list_all-append is_ascii (content t) (contents ts) ∙ and_from (list_all is_ascii (content t)) (list_all is_ascii (contents ts)) (content_all is_ascii t.kind t.octets parts.0) (contents_ascii ts parts.1)

-- ---- what is ASCII is served as it stands

abbrev IsAsServed : MailboxValue → Type 0
IsAsServed m = served_address m.address ≡ Some m.address

ascii_address : (ts : List TokenValue) (a : Address) → AreAscii ts → IsAddress ts a → served_address a ≡ Some a
ascii_address ts a h is =
    let all : AreAscii (is.local ++ is.at ∷ is.domain) = rw (is.whole) at h in
    let local : list_all is_ascii a.local ≡ true = rw (is.local_says) (contents_ascii is.local (ascii_front is.local (is.at ∷ is.domain) all)) in
    let domain : list_all is_ascii a.domain ≡ true = rw (is.domain_says) (contents_ascii is.domain (ascii_tail is.at is.domain (ascii_rest is.local (is.at ∷ is.domain) all))) in
    served_ascii a local domain

ascii_routed : (ts : List TokenValue) (a : Address) → AreAscii ts → IsRoutedOrNot ts a → served_address a ≡ Some a
ascii_routed ts a h (inl is) = ascii_address ts a h is
ascii_routed ts a h (inr is) =
    let all : AreAscii (is.route ++ is.colon ∷ is.following) = rw (is.whole) at h in
    ascii_address is.following a (ascii_tail is.colon is.following (ascii_rest is.route (is.colon ∷ is.following) all)) is.is_address

pub ascii_mailbox : (ts : List TokenValue) (m : MailboxValue) → AreAscii ts → IsMailbox ts m → IsAsServed m
ascii_mailbox ts m h (inl is) = ascii_address ts m.address h is.is_address
ascii_mailbox ts m h (inr is) =
    let all : AreAscii (is.before ++ is.angled.open_mark ∷ (is.inner ++ is.angled.close_mark ∷ is.angled.after)) = rw (is.angled.whole) at h in
    let following = ascii_tail is.angled.open_mark (is.inner ++ is.angled.close_mark ∷ is.angled.after) (ascii_rest is.before (is.angled.open_mark ∷ (is.inner ++ is.angled.close_mark ∷ is.angled.after)) all) in
    ascii_routed is.inner m.address (ascii_front is.inner (is.angled.close_mark ∷ is.angled.after) following) is.named.address

ascii_one : (ts : List TokenValue) (ms : List MailboxValue) → AreAscii ts → IsOneMailbox ts ms → AllByRecursion IsAsServed ms
ascii_one ts [] h is = tt
ascii_one ts (m ∷ []) h is = (ascii_mailbox ts m h is, tt)
ascii_one ts (m ∷ n ∷ ms) h is = absurd is

ascii_parts : (parts : List (List TokenValue)) (ts : List TokenValue) (ms : List MailboxValue) → AreAscii ts → Divided 44 parts ts → SayParts IsOneMailbox parts ms → AllByRecursion IsAsServed ms
ascii_parts [] ts ms h d say = absurd d
ascii_parts (p ∷ []) ts ms h d say = rw (say.2) (all-append IsAsServed say.0 say.1 (ascii_one p say.0 (rw (d) at h) say.3) (rw (say.4) tt))
ascii_parts (p ∷ n ∷ parts) ts ms h d say =
    let all : AreAscii (p ++ d.0 ∷ d.1) = rw (d.2) at h in
    rw (say.2) (all-append IsAsServed say.0 say.1 (ascii_one p say.0 (ascii_front p (d.0 ∷ d.1) all) say.3) (ascii_parts (n ∷ parts) d.1 say.1 (ascii_tail d.0 d.1 (ascii_rest p (d.0 ∷ d.1) all)) d.4 say.4))

ascii_members : (ts : List TokenValue) (ms : List MailboxValue) → AreAscii ts → AreMembers ts ms → AllByRecursion IsAsServed ms
ascii_members ts ms h (inl none) = rw (none.1) tt
ascii_members ts ms h (inr d) = ascii_parts d.parts ts ms h d.divided d.say

pub own_mailbox : (m : MailboxValue) → IsAsServed m → IsServedMailbox m m
own_mailbox m h = record { phrase = refl; display = refl; angle = refl; address = h }

own_plain : (ms : List MailboxValue) → AllByRecursion IsAsServed ms → list_all has_served_address ms ≡ true
own_plain [] all = refl
own_plain (m ∷ ms) all = and_from (has_served_address m) (list_all has_served_address ms) (ap is_some all.0) (own_plain ms all.1)

own_mailboxes : (ms : List MailboxValue) → AllByRecursion IsAsServed ms → AllZip IsServedMailbox ms ms
own_mailboxes [] all = tt
own_mailboxes (m ∷ ms) all = (own_mailbox m all.0, own_mailboxes ms all.1)

ascii_stands : (ts : List TokenValue) (e : ElementValue) → AreAscii ts → IsElement ts e → StandsForElement e e
ascii_stands ts (One m) h is = let own = ascii_mailbox ts m h is in rw (ap is_some own) (own_mailbox m own)
ascii_stands ts (Group name ms) h is =
    let whole : AreAscii (is.before ++ is.colon ∷ is.following) = rw (is.whole) at h in
    let following : AreAscii (is.group.inner ++ is.group.semicolon ∷ is.group.after) = rw (is.group.whole) at (ascii_tail is.colon is.following (ascii_rest is.before (is.colon ∷ is.following) whole)) in
    let own = ascii_members is.group.inner ms (ascii_front is.group.inner (is.group.semicolon ∷ is.group.after) following) is.group.are_members in
    rw (own_plain ms own) ((refl, own_mailboxes ms own))

-- ---- the tokens without gaps at both ends

text_made : (ts text : List TokenValue) → HasMailTokens (octets_of ts) ts → AreAscii ts → HasText ts text → AreMade text (octets_of text ∷ [])
text_made ts text has h is =
    let part = HasTokenValues-part (octets_of ts) is.lead text is.trail (subst (HasMailTokens (octets_of ts)) is.whole has) in
    let whole : AreAscii (is.lead ++ (text ++ is.trail)) = subst AreAscii is.whole h in
    record {
      are_tokens = part.are_tokens;
      begins = rw (is.begins.2) is.begins.3;
      ends = rw (is.ends.2) (EndsNoGap-append is.ends.0 (is.ends.1 ∷ []) (omega arith) is.ends.3);
      there = omega (arith, ap length is.begins.2);
      some = omega arith;
      each = (
        record {
          some = tokens_some Mail is.begins.0 is.begins.1 (octets_of text) (subst (λ r. AreTokens Mail r (octets_of text)) is.begins.2 part.are_tokens);
          ascii = ascii_front text is.trail (ascii_rest is.lead (text ++ is.trail) whole);
          line = part.is_line.plain;
        },
        tt,
      );
    }

text_comments : (ts text : List TokenValue) → HasText ts text → comments_of ts ≡ comments_of text
text_comments ts text is =
    ap comments_of is.whole ∙ comments_of-append is.lead (text ++ is.trail) ∙ ap (λ r. r ++ comments_of (text ++ is.trail)) (gaps_no_comments is.lead is.lead_gaps) ∙ comments_of-append text is.trail
    ∙ ap (λ r. comments_of text ++ r) (gaps_no_comments is.trail is.trail_gaps) ∙ append-nil (comments_of text)

text_says : (P : List TokenValue → Type 0) → StandsAmongBlanks P → (ts text : List TokenValue) → HasText ts text → P ts → P text
text_says P among ts text is p = without_blanks P among is.lead text is.trail (gaps_blank is.lead is.lead_gaps) (gaps_blank is.trail is.trail_gaps) (subst P is.whole p)

pub ascii_member_again : (ts text : List TokenValue) (m : MailboxValue) (values : List CommentValue) → IsMailboxIn ts m values → AreAscii ts → HasText ts text → IsMailboxAgain m values (octets_of text ∷ [])
ascii_member_again ts text m values is h has = record {
  made = m;
  same = own_mailbox m (ascii_mailbox ts m h is.is_mailbox);
  tokens = text;
  is_mailbox = text_says (λ r. IsMailbox r m) (mailbox_among m) ts text has is.is_mailbox;
  say = subst (λ r. CommentsSay r values) (text_comments ts text has) is.say;
  are_made = text_made ts text is.text h has;
}

-- what is known of an element in its place
pub record IsElementIn (ts : List TokenValue) (e : ElementValue) (values : List CommentValue) : Type 0 where
  pub text : HasMailTokens (octets_of ts) ts
  pub is_element : IsElement ts e
  pub say : CommentsSay (comments_of ts) values

pub ascii_element_again : (ts text : List TokenValue) (e : ElementValue) (values : List CommentValue) → IsElementIn ts e values → AreAscii ts → HasText ts text → IsElementAgain e values (octets_of text ∷ [])
ascii_element_again ts text e values is h has = record {
  made = e;
  stands = ascii_stands ts e h is.is_element;
  tokens = text;
  is_element = text_says (λ r. IsElement r e) (element_among e) ts text has is.is_element;
  say = subst (λ r. CommentsSay r values) (text_comments ts text has) is.say;
  are_made = text_made ts text is.text h has;
}
