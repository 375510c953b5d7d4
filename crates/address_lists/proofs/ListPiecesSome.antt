-- Lists of addresses have pieces.
use Rattle.std.proofs.Common.{◌≡◌, ℕ, Bool, true, false, if◌then◌else◌, ◌⊎◌, inl, inr, List, [], ◌∷◌, ◌++◌, Option, Some, None, codes, refl, sym, ap, ◌∙◌, subst, arith}
use Rattle.std.proofs.lemmas.Bool.{cases_Bool, and_from, both_ways}
use Rattle.std.proofs.lemmas.Str.{IsUtf8-append, IsUtf8-from_ascii}
use Rattle.std.specs.List.{AllByRecursion, list_all}
use Rattle.std.specs.Str.{IsUtf8}
use Rattle.mail_wire.specs.Octets.{is_ascii}
use Rattle.mail_wire.proofs.AllLemmas.{all-append}
use Rattle.encoded_words.specs.Words.{UnitValue, Text}
use Rattle.encoded_words.specs.Written.{IsWritable, AreWritable}
use Rattle.encoded_words.proofs.WrittenWords.{ascii_literal}
use Rattle.encoded_words.proofs.AddedUnits.{WriteAll-some}
use Rattle.encoded_words.proofs.WritableUnits.{merged_writable, HasPhraseUnits-writable, one_ascii}
use Rattle.field_tokens.specs.Tokens.{TokenValue}
use Rattle.field_tokens.specs.Squeezed.{is_gap, octets_of, comments_of}
use Rattle.field_tokens.specs.Comments.{CommentValue, CommentsPieces, AreWritableComments}
use Rattle.field_tokens.proofs.CommentValues.{CommentsPieces-some}
use Rattle.field_tokens.proofs.Parts.{comments_of-append}
use Rattle.address_grammar.specs.declared.Address.{Address}
use Rattle.address_grammar.specs.private.Lexemes.{are_blank}
use Rattle.address_grammar.specs.Addresses.{IsAddress, local_text, address_text}
use Rattle.address_grammar.specs.Paths.{IsAngled, in_angles}
use Rattle.address_grammar.specs.Phrases.{IsPhrase, phrase_items, SaysPhrase}
use Rattle.address_lists.specs.PhrasePieces.{HasCore}
use Rattle.address_grammar.specs.private.PhraseSteps.{BeginsNoGap}
use Rattle.address_grammar.specs.AddressLists.{Divided, MailboxValue, IsRoutedOrNot, IsNamedBy, IsMailbox, SayParts, IsOneMailbox, AreMembers, ElementValue, One, Group, IsGroup, IsElement, SaysPlace}
use Rattle.address_lists.specs.ListPieces.{served_address, has_served_address, mailbox_units, member_units, members_units, group_units, no_members, MailboxPieces, Bare, Angled, Named, Emptied, HasText, MemberPieces, with_comma, MembersPieces, InnerPieces, GroupPieces, Kept, ElementPieces, PlaceOfListPieces, comma_followed, PlacesPieces, SaysAddresses, AddressesPieces}
use Rattle.address_grammar.proofs.SoundLemmas.{IsSound, tokens_sound, sound_front, sound_rest, contents_utf8}
use Rattle.address_lists.proofs.SoundPhrases.{sound_items, text_comments}
use Rattle.address_lists.proofs.PhraseWriting.{gaps_blank, blank-append, core_utf8, core_writable, trail_writable, CommentsPieces-append, writable_front, writable_rest}
use Rattle.address_lists.proofs.WrittenPhrases.{skips_some, HasCore-some, PhrasePieces-some, PlacePieces-some}
use Rattle.address_grammar.proofs.ListLemmas.{one_not_blank, members_not_blank, element_not_blank}
use Rattle.address_lists.proofs.WritableTokens.{local_utf8}

-- ---- what can be written

record CanServe (ts : List TokenValue) : Type 0 where
  sound : AllByRecursion IsSound ts
  comments : AreWritableComments (comments_of ts)

serve_front : (a b : List TokenValue) → CanServe (a ++ b) → CanServe a
serve_front a b can = record { sound = sound_front a b can.sound; comments = writable_front (comments_of a) (comments_of b) (subst AreWritableComments (comments_of-append a b) can.comments) }

serve_rest : (a b : List TokenValue) → CanServe (a ++ b) → CanServe b
serve_rest a b can = record { sound = sound_rest a b can.sound; comments = writable_rest (comments_of a) (comments_of b) (subst AreWritableComments (comments_of-append a b) can.comments) }

-- tokens, a mark and tokens
record ServesBoth (a b : List TokenValue) : Type 0 where
  front : CanServe a
  rest : CanServe b

serves_both : (ts a : List TokenValue) (t : TokenValue) (b : List TokenValue) → ts ≡ a ++ t ∷ b → CanServe ts → ServesBoth a b
serves_both ts a t b e can =
    let whole : CanServe (a ++ t ∷ b) = subst CanServe e can in
    record { front = serve_front a (t ∷ b) whole; rest = serve_rest (t ∷ []) b (serve_rest a (t ∷ b) whole) }

address_utf8 : (ts : List TokenValue) (a : Address) → CanServe ts → IsAddress ts a → IsUtf8 (address_text a)
address_utf8 ts a can is =
    let both = serves_both ts is.local is.at is.domain is.whole can in
    let local : IsUtf8 a.local = subst IsUtf8 (sym is.local_says) (contents_utf8 is.local both.front.sound) in
    let domain : IsUtf8 a.domain = subst IsUtf8 (sym is.domain_says) (contents_utf8 is.domain both.rest.sound) in
    IsUtf8-append (local_text a.local) (64 ∷ a.domain) (local_utf8 a.local local) (IsUtf8-append (64 ∷ []) a.domain (one_ascii 64 (omega arith)) domain)

routed_utf8 : (ts : List TokenValue) (a : Address) → CanServe ts → IsRoutedOrNot ts a → IsUtf8 (address_text a)
routed_utf8 ts a can (inl is) = address_utf8 ts a can is
routed_utf8 ts a can (inr is) = address_utf8 is.following a (serves_both ts is.route is.colon is.following is.whole can).rest is.is_address

says_writable : (ts : List TokenValue) (phrase : Bool) (units : List UnitValue) → CanServe ts → SaysPhrase ts phrase units → AreWritable units
says_writable ts true units can s = HasPhraseUnits-writable (phrase_items ts) units (sound_items ts can.sound) s.1
says_writable ts false units can s = subst AreWritable (sym s.1) tt

record CanWriteMailbox (m : MailboxValue) : Type 0 where
  display : AreWritable m.display
  address : IsUtf8 (address_text m.address)

-- what stands before, between and after angle brackets
record ServesAngled (before inner after : List TokenValue) : Type 0 where
  front : CanServe before
  within : CanServe inner
  following : CanServe after

serves_angled : (ts before inner : List TokenValue) (a : IsAngled ts before inner) → CanServe ts → ServesAngled before inner a.after
serves_angled ts before inner a can =
    let both = serves_both ts before a.open_mark (inner ++ a.close_mark ∷ a.after) a.whole can in
    let more = serves_both (inner ++ a.close_mark ∷ a.after) inner a.close_mark a.after refl both.rest in
    record { front = both.front; within = more.front; following = more.rest }

mailbox_can : (ts : List TokenValue) (m : MailboxValue) → CanServe ts → IsMailbox ts m → CanWriteMailbox m
mailbox_can ts m can (inl is) = record { display = subst AreWritable (sym is.display) tt; address = address_utf8 ts m.address can is.is_address }
mailbox_can ts m can (inr is) =
    let parts = serves_angled ts is.before is.inner is.angled can in
    record { display = says_writable is.before m.phrase m.display parts.front is.named.says; address = routed_utf8 is.inner m.address parts.within is.named.address }

space_writable : (b : Bool) → AreWritable (if b then Text (32 ∷ []) ∷ [] else [])
space_writable true = (one_ascii 32 (omega arith), tt)
space_writable false = tt

mailbox_writable : (m : MailboxValue) → CanWriteMailbox m → AreWritable (mailbox_units m)
mailbox_writable m can =
    let gap : List UnitValue = if m.phrase then Text (32 ∷ []) ∷ [] else [] in
    merged_writable (m.display ++ gap ++ Text (address_text m.address) ∷ [])
    (all-append IsWritable (m.display ++ gap) (Text (address_text m.address) ∷ []) (all-append IsWritable m.display gap can.display (space_writable m.phrase)) (can.address, tt))

ascii_utf8 : (octets : List ℕ) → list_all is_ascii octets ≡ true → IsUtf8 octets
ascii_utf8 octets h = IsUtf8-from_ascii octets (ascii_literal octets h)

member_writable : (m : MailboxValue) → CanWriteMailbox m → AreWritable (member_units m)
member_writable m can = elim (cases_Bool m.phrase) [
  | inl some ↦ rw (some) (all-append IsWritable m.display (Text (codes " <") ∷ Text (address_text m.address) ∷ Text (codes ">") ∷ []) can.display
      (ascii_utf8 (codes " <") refl, (can.address, (ascii_utf8 (codes ">") refl, tt))))
  | inr none ↦ rw (none) ((can.address, tt))
]

members_writable : (ms : List MailboxValue) → AllByRecursion CanWriteMailbox ms → AreWritable (members_units ms)
members_writable [] all = tt
members_writable (m ∷ []) all = member_writable m all.0
members_writable (m ∷ n ∷ ms) all =
    all-append IsWritable (member_units m) (Text (codes ", ") ∷ members_units (n ∷ ms)) (member_writable m all.0) (ascii_utf8 (codes ", ") refl, members_writable (n ∷ ms) all.1)

group_writable : (name : List UnitValue) (ms : List MailboxValue) → AreWritable name → AllByRecursion CanWriteMailbox ms → AreWritable (group_units name ms)
group_writable name ms can all =
    merged_writable (name ++ Text (32 ∷ []) ∷ members_units ms) (all-append IsWritable name (Text (32 ∷ []) ∷ members_units ms) can (one_ascii 32 (omega arith), members_writable ms all))

-- ---- texts

-- what goes to the last token that is no gap, and the gaps after it
record EndsText (ts : List TokenValue) : Type 0 where
  others : List TokenValue
  last : TokenValue
  trail : List TokenValue
  whole : ts ≡ (others ++ last ∷ []) ++ trail
  ends : is_gap last.kind ≡ false
  gaps : list_all (λ t. is_gap t.kind) trail ≡ true

ends_text : (ts : List TokenValue) → EndsText ts ⊎ (list_all (λ t. is_gap t.kind) ts ≡ true)
ends_text [] = inr refl
ends_text (t ∷ ts) = elim (ends_text ts) [
  | inl e ↦ inl (record { others = t ∷ e.others; last = e.last; trail = e.trail; whole = ap (λ r. t ∷ r) e.whole; ends = e.ends; gaps = e.gaps })
  | inr gaps ↦ elim (cases_Bool (is_gap t.kind)) [
    | inl gap ↦ inr (and_from (is_gap t.kind) (list_all (λ t. is_gap t.kind) ts) gap gaps)
    | inr other ↦ inl (record { others = []; last = t; trail = ts; whole = refl; ends = other; gaps = gaps })
  ]
]

begins_of : (others : List TokenValue) (last : TokenValue) (trail : List TokenValue) → BeginsNoGap ((others ++ last ∷ []) ++ trail)
    → (first : TokenValue) × (more : List TokenValue) × (others ++ last ∷ [] ≡ first ∷ more) × (is_gap first.kind ≡ false)
begins_of [] last trail b = (last, [], refl, b)
begins_of (t ∷ others) last trail b = (t, others ++ last ∷ [], refl, b)

HasText-some : (ts : List TokenValue) → are_blank ts ≡ false → (text : List TokenValue) × HasText ts text
HasText-some ts some =
    let skips = skips_some ts in
    elim (ends_text skips.0) [
      | inr gaps ↦ absurd (both_ways (are_blank ts) some (rw (skips.1.whole) (blank-append skips.1.lead skips.0 (gaps_blank skips.1.lead skips.1.gaps) (gaps_blank skips.0 gaps))))
      | inl e ↦ (
        e.others ++ e.last ∷ [],
        record {
          lead = skips.1.lead;
          trail = e.trail;
          lead_gaps = skips.1.gaps;
          trail_gaps = e.gaps;
          begins = begins_of e.others e.last e.trail (subst BeginsNoGap e.whole skips.1.begins);
          ends = (e.others, e.last, refl, e.ends);
          whole = skips.1.whole ∙ ap (λ r. skips.1.lead ++ r) e.whole;
        },
      )
    ]

-- ---- mailboxes

phrase_said : (ts : List TokenValue) (phrase : Bool) (units : List UnitValue) → phrase ≡ true → SaysPhrase ts phrase units → IsPhrase ts
phrase_said ts true units e s = s.0
phrase_said ts false units e s = cc e

pieces-append : (a b : List TokenValue) (ps qs : List (List ℕ)) → CommentsPieces (comments_of a) ps → CommentsPieces (comments_of b) qs → CommentsPieces (comments_of (a ++ b)) (ps ++ qs)
pieces-append a b ps qs p q = subst (λ r. CommentsPieces r (ps ++ qs)) (sym (comments_of-append a b)) (CommentsPieces-append (comments_of a) (comments_of b) ps qs p q)

abbrev MailboxHas : List TokenValue → Type 0
MailboxHas ts = (ps : List (List ℕ)) × MailboxPieces ts ps

angled_some : (ts before inner : List TokenValue) (m : MailboxValue) (served : Address) → CanServe ts → IsAngled ts before inner → IsNamedBy before inner m → served_address m.address ≡ Some served → MailboxHas ts
angled_some ts before inner m served can angled named e = elim (cases_Bool m.phrase) [
  | inr none ↦
      let comments = CommentsPieces-some (comments_of ts) can.comments in
      (in_angles (address_text served) ∷ comments.0, Angled m served before inner comments.0 angled named none e comments.1 refl)
  | inl some ↦
      let parts = serves_angled ts before inner angled can in
      let c = HasCore-some before (phrase_said before m.phrase m.display some named.says) in
      let has : HasCore before c.0 c.1 = c.2 in
      let first = PhrasePieces-some (list_all is_ascii (octets_of c.0)) c.0 (core_utf8 before c.0 c.1 (sound_items before parts.front.sound) has) (core_writable before c.0 c.1 parts.front.comments has) in
      let trail = CommentsPieces-some (comments_of c.1) (trail_writable before c.0 c.1 parts.front.comments has) in
      let within = CommentsPieces-some (comments_of inner) parts.within.comments in
      let following = CommentsPieces-some (comments_of angled.after) parts.following.comments in
      let two = pieces-append c.1 inner trail.0 within.0 trail.1 within.1 in
      let all = pieces-append (c.1 ++ inner) angled.after (trail.0 ++ within.0) following.0 two following.1 in
      let comments : List (List ℕ) = (trail.0 ++ within.0) ++ following.0 in
      (first.0 ++ in_angles (address_text served) ∷ comments, Named m served before inner c.0 c.1 first.0 comments angled named some has first.1 e all refl)
]

served_some : (ts : List TokenValue) (m : MailboxValue) (served : Address) → CanServe ts → IsMailbox ts m → served_address m.address ≡ Some served → MailboxHas ts
served_some ts m served can (inl is) e =
    let comments = CommentsPieces-some (comments_of ts) can.comments in
    (address_text served ∷ comments.0, Bare m served comments.0 is e comments.1 refl)
served_some ts m served can (inr is) e = angled_some ts is.before is.inner m served can is.angled is.named e

MailboxPieces-some : (ts : List TokenValue) (m : MailboxValue) → CanServe ts → IsMailbox ts m → MailboxHas ts
MailboxPieces-some ts m can is = by (served_address m.address) refl
  where
    by : (served : Option Address) → served_address m.address ≡ served → MailboxHas ts
    by (Some served) e = served_some ts m served can is e
    by None e =
        let words = WriteAll-some (mailbox_units m) (mailbox_writable m (mailbox_can ts m can is)) in
        let comments = CommentsPieces-some (comments_of ts) can.comments in
        (words.0 ++ no_members ∷ comments.0, Emptied m words.0 comments.0 is e words.1 comments.1 refl)

-- ---- members

not_blank : (ts : List TokenValue) → (are_blank ts ≡ true → ⊥) → are_blank ts ≡ false
not_blank ts none = elim (cases_Bool (are_blank ts)) [
  | inl blank ↦ absurd (none blank)
  | inr some ↦ some
]

one_some : (ts : List TokenValue) (ms : List MailboxValue) → CanServe ts → IsOneMailbox ts ms → MailboxHas ts
one_some ts [] can is = absurd is
one_some ts (m ∷ []) can is = MailboxPieces-some ts m can is
one_some ts (m ∷ n ∷ ms) can is = absurd is

MemberPieces-some : (b : Bool) (ts : List TokenValue) (ms : List MailboxValue) → CanServe ts → IsOneMailbox ts ms → (ps : List (List ℕ)) × MemberPieces b ts ps
MemberPieces-some true ts ms can is = let text = HasText-some ts (not_blank ts (one_not_blank ts ms is)) in (octets_of text.0 ∷ [], (text.0, text.1, refl))
MemberPieces-some false ts ms can is = one_some ts ms can is

MembersPieces-some : (parts : List (List TokenValue)) (ts : List TokenValue) (ms : List MailboxValue) → Divided 44 parts ts → SayParts IsOneMailbox parts ms → CanServe ts → (ps : List (List ℕ)) × MembersPieces parts ps
MembersPieces-some [] ts ms d say can = absurd d
MembersPieces-some (p ∷ []) ts ms d say can = MemberPieces-some (list_all is_ascii (octets_of p)) p say.0 (subst CanServe d can) say.3
MembersPieces-some (p ∷ next ∷ parts) ts ms d say can =
    let both = serves_both ts p d.0 d.1 d.2 can in
    let first = MemberPieces-some (list_all is_ascii (octets_of p)) p say.0 both.front say.3 in
    let more = MembersPieces-some (next ∷ parts) d.1 say.1 d.4 say.4 both.rest in
    (with_comma first.0 ++ more.0, (first.0, more.0, first.1, more.1, refl))

InnerPieces-some : (ts : List TokenValue) (ms : List MailboxValue) → CanServe ts → AreMembers ts ms → (ps : List (List ℕ)) × InnerPieces ts ps
InnerPieces-some ts ms can (inl none) = let comments = CommentsPieces-some (comments_of ts) can.comments in (comments.0, inl (none.0, comments.1))
InnerPieces-some ts ms can (inr d) =
    let pieces = MembersPieces-some d.parts ts ms d.divided d.say can in
    (pieces.0, inr (not_blank ts (members_not_blank ts ms d), (ms, d, pieces.1)))

one_can : (ts : List TokenValue) (ms : List MailboxValue) → CanServe ts → IsOneMailbox ts ms → AllByRecursion CanWriteMailbox ms
one_can ts [] can is = tt
one_can ts (m ∷ []) can is = (mailbox_can ts m can is, tt)
one_can ts (m ∷ n ∷ ms) can is = absurd is

parts_can : (parts : List (List TokenValue)) (ts : List TokenValue) (ms : List MailboxValue) → Divided 44 parts ts → SayParts IsOneMailbox parts ms → CanServe ts → AllByRecursion CanWriteMailbox ms
parts_can [] ts ms d say can = absurd d
parts_can (p ∷ []) ts ms d say can = subst (AllByRecursion CanWriteMailbox) (sym say.2) (all-append CanWriteMailbox say.0 say.1 (one_can p say.0 (subst CanServe d can) say.3) (subst (AllByRecursion CanWriteMailbox) (sym say.4) tt))
parts_can (p ∷ next ∷ parts) ts ms d say can =
    let both = serves_both ts p d.0 d.1 d.2 can in
    subst (AllByRecursion CanWriteMailbox) (sym say.2) (all-append CanWriteMailbox say.0 say.1 (one_can p say.0 both.front say.3) (parts_can (next ∷ parts) d.1 say.1 d.4 say.4 both.rest))

members_can : (ts : List TokenValue) (ms : List MailboxValue) → CanServe ts → AreMembers ts ms → AllByRecursion CanWriteMailbox ms
members_can ts ms can (inl none) = subst (AllByRecursion CanWriteMailbox) (sym none.1) tt
members_can ts ms can (inr d) = parts_can d.parts ts ms d.divided d.say can

-- ---- groups

GroupPieces-some : (ts : List TokenValue) (name : List UnitValue) (ms : List MailboxValue) → CanServe ts → IsGroup ts name ms → (ps : List (List ℕ)) × GroupPieces ts ps
GroupPieces-some ts name ms can is =
    let g = is.group in
    let both = serves_both ts is.before is.colon is.following is.whole can in
    let more = serves_both is.following g.inner g.semicolon g.after g.whole both.rest in
    elim (cases_Bool (list_all has_served_address ms)) [
      | inl plain ↦
          let first = PlacePieces-some is.before g.is_phrase (sound_items is.before both.front.sound) both.front.comments in
          let inner = InnerPieces-some g.inner ms more.front g.are_members in
          let comments = CommentsPieces-some (comments_of g.after) more.rest.comments in
          (first.0 ++ (58 ∷ []) ∷ (inner.0 ++ (59 ∷ []) ∷ comments.0), Kept name ms first.0 inner.0 comments.0 is plain first.1 inner.1 comments.1 refl)
      | inr other ↦
          let named = HasPhraseUnits-writable (phrase_items is.before) name (sound_items is.before both.front.sound) g.says in
          let words = WriteAll-some (group_units name ms) (group_writable name ms named (members_can g.inner ms more.front g.are_members)) in
          let comments = CommentsPieces-some (comments_of ts) can.comments in
          (words.0 ++ no_members ∷ comments.0, Emptied name ms words.0 comments.0 is other words.1 comments.1 refl)
    ]

-- ---- lists

abbrev ElementHas : Bool → List TokenValue → Type 0
ElementHas b ts = (ps : List (List ℕ)) × ElementPieces b ts ps

ElementPieces-some : (b : Bool) (ts : List TokenValue) (e : ElementValue) → CanServe ts → IsElement ts e → ElementHas b ts
ElementPieces-some true ts e can is = let text = HasText-some ts (not_blank ts (element_not_blank ts e is)) in (octets_of text.0 ∷ [], (text.0, text.1, refl))
ElementPieces-some false ts (One m) can is = let pieces = MailboxPieces-some ts m can is in (pieces.0, inl pieces.1)
ElementPieces-some false ts (Group name ms) can is = let pieces = GroupPieces-some ts name ms can is in (pieces.0, inr pieces.1)

element_some : (ts : List TokenValue) (es : List ElementValue) → CanServe ts → are_blank ts ≡ false → SaysPlace ts es → ElementHas (list_all is_ascii (octets_of ts)) ts
element_some ts [] can some is = absurd (both_ways (are_blank ts) some is)
element_some ts (e ∷ []) can some is = ElementPieces-some (list_all is_ascii (octets_of ts)) ts e can is
element_some ts (e ∷ f ∷ es) can some is = absurd is

place_some : (b : Bool) (ts : List TokenValue) (es : List ElementValue) → CanServe ts → are_blank ts ≡ b → SaysPlace ts es → (ps : List (List ℕ)) × PlaceOfListPieces b ts ps
place_some true ts es can e is = CommentsPieces-some (comments_of ts) can.comments
place_some false ts es can e is = element_some ts es can e is

abbrev PlacesHave : List (List TokenValue) → Type 0
PlacesHave places = (ps : List (List ℕ)) × PlacesPieces places ps

places_more : (place : List TokenValue) (places : List (List TokenValue)) (es : List ElementValue) → CanServe place → SaysPlace place es → PlacesHave places → PlacesHave (place ∷ places)
places_more place places es can is more =
    let first = place_some (are_blank place) place es can refl is in
    (comma_followed place places first.0 ++ more.0, (first.0, more.0, first.1, more.1, refl))

PlacesPieces-some : (places : List (List TokenValue)) (ts : List TokenValue) (es : List ElementValue) → Divided 44 places ts → SayParts SaysPlace places es → CanServe ts → PlacesHave places
PlacesPieces-some [] ts es d say can = absurd d
PlacesPieces-some (p ∷ []) ts es d say can = places_more p [] say.0 (subst CanServe d can) say.3 ([], refl)
PlacesPieces-some (p ∷ next ∷ places) ts es d say can =
    let both = serves_both ts p d.0 d.1 d.2 can in
    places_more p (next ∷ places) say.0 both.front say.3 (PlacesPieces-some (next ∷ places) d.1 say.1 d.4 say.4 both.rest)

-- what says a list of addresses has pieces
pub AddressesPieces-some : (text : List ℕ) (es : List ElementValue) (cs : List CommentValue) → SaysAddresses text es cs → (ps : List (List ℕ)) × AddressesPieces text ps
AddressesPieces-some text es cs says =
    let can : CanServe says.tokens = record { sound = tokens_sound says.tokens text says.has.are_tokens says.has.is_line; comments = text_comments text says.tokens says.has } in
    let d = says.are_elements in
    let pieces = PlacesPieces-some d.parts says.tokens es d.divided d.say can in
    (pieces.0, record { tokens = says.tokens; has = says.has; elements = es; are_elements = d; pieces_are = pieces.1 })
