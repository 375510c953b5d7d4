-- What stands in a text can be written, and what it says.
use Rattle.std.proofs.Common.{◌≡◌, ℕ, Bool, true, false, inl, inr, List, [], ◌∷◌, ◌++◌, subst, arith}
use Rattle.std.proofs.lemmas.Bool.{cases_Bool}
use Rattle.std.proofs.lemmas.Str.{IsUtf8-nil, IsUtf8-append}
use Rattle.std.specs.List.{AllByRecursion, flat_map}
use Rattle.std.specs.Str.{IsUtf8}
use Rattle.mail_wire.proofs.AllLemmas.{all-front, all-back}
use Rattle.encoded_words.specs.Words.{UnitValue}
use Rattle.encoded_words.specs.PhraseUnits.{IsUtf8Item}
use Rattle.encoded_words.specs.Written.{AreWritable}
use Rattle.encoded_words.proofs.WritableUnits.{HasPhraseUnits-writable, one_ascii}
use Rattle.field_tokens.specs.Tokens.{TokenValue}
use Rattle.field_tokens.specs.Squeezed.{comments_of}
use Rattle.field_tokens.specs.Comments.{AreWritableComments}
use Rattle.field_tokens.proofs.Parts.{comments_of-append}
use Rattle.address_grammar.specs.declared.Address.{Address}
use Rattle.address_grammar.specs.private.Lexemes.{HasMailTokens, content, contents}
use Rattle.address_grammar.specs.Addresses.{IsAddress, is_dot_atom, quoted_octet, local_text, address_text}
use Rattle.address_grammar.specs.Phrases.{phrase_items, SaysPhrase}
use Rattle.address_grammar.specs.AddressLists.{Divided, MailboxValue, IsRoutedOrNot, IsMailbox, SayParts, IsOneMailbox, AreMembers, IsGroup}
use Rattle.address_lists.specs.private.ListWriting.{SaysUtf8, CanBeWritten, IsWritableMailbox, AreWritableMailboxes}
use Rattle.address_grammar.proofs.SoundLemmas.{IsSound, tokens_sound}
use Rattle.address_lists.proofs.SoundPhrases.{text_items, text_comments}
use Rattle.address_grammar.proofs.Utf8Lemmas.{quoted_utf8}
use Rattle.address_lists.proofs.PhraseWriting.{phrase_items-append, writable_front, writable_rest}

sound_says : (ts : List TokenValue) → AllByRecursion IsSound ts → AllByRecursion SaysUtf8 ts
sound_says [] s = tt
sound_says (t ∷ ts) s = (s.0.utf8, sound_says ts s.1)

pub text_can : (text : List ℕ) (ts : List TokenValue) → HasMailTokens text ts → CanBeWritten ts
text_can text ts has = record { items = text_items text ts has; comments = text_comments text ts has; says = sound_says ts (tokens_sound ts text has.are_tokens has.is_line) }

pub front_can : (a b : List TokenValue) → CanBeWritten (a ++ b) → CanBeWritten a
front_can a b can = record {
  items = all-front IsUtf8Item (phrase_items a) (phrase_items b) (subst (AllByRecursion IsUtf8Item) (phrase_items-append a b) can.items);
  comments = writable_front (comments_of a) (comments_of b) (subst AreWritableComments (comments_of-append a b) can.comments);
  says = all-front SaysUtf8 a b can.says;
}

pub rest_can : (a b : List TokenValue) → CanBeWritten (a ++ b) → CanBeWritten b
rest_can a b can = record {
  items = all-back IsUtf8Item (phrase_items a) (phrase_items b) (subst (AllByRecursion IsUtf8Item) (phrase_items-append a b) can.items);
  comments = writable_rest (comments_of a) (comments_of b) (subst AreWritableComments (comments_of-append a b) can.comments);
  says = all-back SaysUtf8 a b can.says;
}

-- what stands before and after a token
pub before_can : (ts a b : List TokenValue) (t : TokenValue) → ts ≡ a ++ t ∷ b → CanBeWritten ts → CanBeWritten a
before_can ts a b t whole can = front_can a (t ∷ b) (subst CanBeWritten whole can)

pub following_can : (ts a b : List TokenValue) (t : TokenValue) → ts ≡ a ++ t ∷ b → CanBeWritten ts → CanBeWritten b
following_can ts a b t whole can = rest_can (t ∷ []) b (rest_can a (t ∷ b) (subst CanBeWritten whole can))

-- ---- addresses

contents_says : (ts : List TokenValue) → AllByRecursion SaysUtf8 ts → IsUtf8 (contents ts)
contents_says [] s = IsUtf8-nil
contents_says (t ∷ ts) s = IsUtf8-append (content t) (contents ts) s.0 (contents_says ts s.1)

pub local_utf8 : (local : List ℕ) → IsUtf8 local → IsUtf8 (local_text local)
local_utf8 local u = elim (cases_Bool (is_dot_atom local)) [
  | inl dotted ↦ rw (dotted) u
  | inr other ↦ rw (other)
      (IsUtf8-append (34 ∷ []) (flat_map quoted_octet local ++ 34 ∷ []) (one_ascii 34 (omega arith)) (IsUtf8-append (flat_map quoted_octet local) (34 ∷ []) (quoted_utf8 local u) (one_ascii 34 (omega arith))))
]

-- an address of UTF-8
record IsUtf8Address (a : Address) : Type 0 where
  text : IsUtf8 (address_text a)
  domain : IsUtf8 a.domain

address_utf8 : (ts : List TokenValue) (a : Address) → CanBeWritten ts → IsAddress ts a → IsUtf8Address a
address_utf8 ts a can is =
    let domain : IsUtf8 a.domain = rw (is.domain_says) (contents_says is.domain (following_can ts is.local is.domain is.at is.whole can).says) in
    let local : IsUtf8 a.local = rw (is.local_says) (contents_says is.local (before_can ts is.local is.domain is.at is.whole can).says) in
    record {
      text = IsUtf8-append (local_text a.local) (64 ∷ a.domain) (local_utf8 a.local local) (IsUtf8-append (64 ∷ []) a.domain (one_ascii 64 (omega arith)) domain);
      domain = domain;
    }

routed_utf8 : (ts : List TokenValue) (a : Address) → CanBeWritten ts → IsRoutedOrNot ts a → IsUtf8Address a
routed_utf8 ts a can (inl is) = address_utf8 ts a can is
routed_utf8 ts a can (inr is) = address_utf8 is.following a (following_can ts is.route is.following is.colon is.whole can) is.is_address

-- ---- mailboxes

display_writable : (ts : List TokenValue) (phrase : Bool) (us : List UnitValue) → SaysPhrase ts phrase us → CanBeWritten ts → AreWritable us
display_writable ts true us says can = HasPhraseUnits-writable (phrase_items ts) us can.items says.1
display_writable ts false us says can = rw (says.1) tt

pub mailbox_writable : (ts : List TokenValue) (m : MailboxValue) → CanBeWritten ts → IsMailbox ts m → IsWritableMailbox m
mailbox_writable ts m can (inl is) =
    let address = address_utf8 ts m.address can is.is_address in
    record { display = rw (is.display) tt; text = address.text; domain = address.domain }
mailbox_writable ts m can (inr is) =
    let a = is.angled in
    let following = following_can ts is.before (is.inner ++ a.close_mark ∷ a.after) a.open_mark a.whole can in
    let address = routed_utf8 is.inner m.address (front_can is.inner (a.close_mark ∷ a.after) following) is.named.address in
    record {
      display = display_writable is.before m.phrase m.display is.named.says (before_can ts is.before (is.inner ++ a.close_mark ∷ a.after) a.open_mark a.whole can);
      text = address.text;
      domain = address.domain;
    }

one_writable : (ts : List TokenValue) (ms : List MailboxValue) → CanBeWritten ts → IsOneMailbox ts ms → AreWritableMailboxes ms
one_writable ts [] can is = absurd is
one_writable ts (m ∷ []) can is = (mailbox_writable ts m can is, tt)
one_writable ts (m ∷ n ∷ ms) can is = absurd is

all_append : (a b : List MailboxValue) → AreWritableMailboxes a → AreWritableMailboxes b → AreWritableMailboxes (a ++ b)
all_append [] b p q = q
all_append (m ∷ a) b p q = (p.0, all_append a b p.1 q)

parts_writable : (parts : List (List TokenValue)) (ts : List TokenValue) (ms : List MailboxValue) → CanBeWritten ts → Divided 44 parts ts → SayParts IsOneMailbox parts ms → AreWritableMailboxes ms
parts_writable [] ts ms can d say = absurd d
parts_writable (p ∷ []) ts ms can d say =
    rw (say.2, say.4) (all_append say.0 [] (one_writable p say.0 (subst CanBeWritten d can) say.3) tt)
parts_writable (p ∷ n ∷ parts) ts ms can d say =
    rw (say.2) (all_append say.0 say.1 (one_writable p say.0 (before_can ts p d.1 d.0 d.2 can) say.3) (parts_writable (n ∷ parts) d.1 say.1 (following_can ts p d.1 d.0 d.2 can) d.4 say.4))

pub members_writable : (ts : List TokenValue) (ms : List MailboxValue) → CanBeWritten ts → AreMembers ts ms → AreWritableMailboxes ms
members_writable ts ms can (inl none) = rw (none.1) tt
members_writable ts ms can (inr d) = parts_writable d.parts ts ms can d.divided d.say

-- ---- groups

pub record IsWritableGroup (us : List UnitValue) (ms : List MailboxValue) : Type 0 where
  pub name : AreWritable us
  pub members : AreWritableMailboxes ms

pub group_writable : (ts : List TokenValue) (name : List UnitValue) (ms : List MailboxValue) → CanBeWritten ts → IsGroup ts name ms → IsWritableGroup name ms
group_writable ts us ms can is =
    let g = is.group in record {
      name = HasPhraseUnits-writable (phrase_items is.before) us (before_can ts is.before is.following is.colon is.whole can).items g.says;
      members = members_writable g.inner ms (before_can is.following g.inner g.after g.semicolon g.whole (following_can ts is.before is.following is.colon is.whole can)) g.are_members;
    }
