-- Whether a text says a list of addresses is decided.
use Rattle.std.proofs.Common.{◌≡◌, ℕ, Bool, true, false, ◌⊎◌, inl, inr, List, [], ◌∷◌, refl, arith}
use Rattle.std.proofs.lemmas.Bool.{cases_Bool, both_ways}
use Rattle.std.specs.List.{AllByRecursion}
use Rattle.encoded_words.specs.Words.{UnitValue}
use Rattle.encoded_words.proofs.AllUnits.{HasPhraseUnits-some}
use Rattle.field_tokens.specs.declared.Style.TheVariants.{Mail}
use Rattle.field_tokens.specs.Tokens.{TokenValue}
use Rattle.field_tokens.specs.Squeezed.{comments_of}
use Rattle.field_tokens.specs.Comments.{CommentValue}
use Rattle.field_tokens.proofs.CommentValues.{CommentsSay-some}
use Rattle.field_tokens.proofs.DecideTokens.{decide_tokens}
use Rattle.address_grammar.specs.declared.Address.{Address}
use Rattle.address_grammar.specs.private.Lexemes.{lacks_special, are_blank, SplitsAt}
use Rattle.address_grammar.specs.Addresses.{is_domain}
use Rattle.address_grammar.specs.Phrases.{IsPhrase, phrase_items, SaysPhrase}
use Rattle.address_grammar.specs.AddressLists.{IsHop, IsRoute, MailboxValue, IsRoutedOrNot, IsNamed, IsMailbox, SayParts, IsOneMailbox, AreMembers, ElementValue, One, Group, IsGroupBy, IsElement, SaysPlace}
use Rattle.address_lists.specs.ListPieces.{SaysAddresses}
use Rattle.address_grammar.specs.private.ListSteps.{SplitsName, SaysGroup}
use Rattle.address_grammar.proofs.LexemeLemmas.{not_lacking}
use Rattle.address_grammar.proofs.DecidePaths.{Found, splits_or_lacks, decide_address}
use Rattle.address_grammar.proofs.PathLemmas.{angled_made, no_close, something_after}
use Rattle.address_grammar.proofs.MailboxLemmas.{no_says, hop_lacks, hop_parts, hop_made, no_hop, routed_parts, routed_made, unrouted, named_angles, named_parts, bare_lacks, only_bare, named_made}
use Rattle.address_grammar.proofs.DividedLemmas.{Walked}
use Rattle.address_lists.proofs.DecideDivided.{Known, decide_divided}
use Rattle.address_grammar.proofs.ListLemmas.{walk_plain, one_walked, place_walked, element_group, group_element, no_name, name_open}
use Rattle.address_grammar.proofs.WholeLists.{members_malformed, group_unclosed, group_followed, group_members, single_malformed}
use Rattle.address_lists.proofs.PhraseListTexts.{decide_phrase}
use Rattle.address_lists.proofs.SoundPhrases.{text_comments}
use Rattle.address_lists.proofs.AddressListTexts.{addresses_of}

-- ---- routes

-- A hop says nothing.
abbrev SaysHop : List TokenValue → List Bool → Type 0
SaysHop ts es = IsHop ts

hop_walked : Walked SaysHop
hop_walked ts es is =
    walk_plain ts (hop_lacks 44 ts (λ e. omega (arith, e)) (λ e. omega (arith, e)) is) (hop_lacks 60 ts (λ e. omega (arith, e)) (λ e. omega (arith, e)) is) (hop_lacks 58 ts (λ e. omega (arith, e)) (λ e. omega (arith, e)) is)

decide_hop : (ts : List TokenValue) → Known SaysHop ts
decide_hop ts = elim (splits_or_lacks 64 ts) [
  | inr l ↦ inr (λ es is. no_hop ts l is)
  | inl s ↦ elim (cases_Bool (are_blank s.0)) [
    | inr other ↦ inr (λ es is. both_ways (are_blank s.0) other (hop_parts ts s.0 s.1 s.2 is).nothing_before)
    | inl blank ↦ elim (cases_Bool (is_domain s.1)) [
      | inr other ↦ inr (λ es is. both_ways (is_domain s.1) other (hop_parts ts s.0 s.1 s.2 is).is_domain)
      | inl domain ↦ inl ([], hop_made ts s.0 s.1 s.2 blank domain)
    ]
  ]
]

hops_said : (parts : List (List TokenValue)) (es : List Bool) → SayParts SaysHop parts es → AllByRecursion IsHop parts
hops_said [] es say = tt
hops_said (p ∷ parts) es say = (say.3, hops_said parts say.1 say.4)

hops_say : (parts : List (List TokenValue)) → AllByRecursion IsHop parts → SayParts SaysHop parts []
hops_say [] all = refl
hops_say (p ∷ parts) all = ([], [], refl, all.0, hops_say parts all.1)

decide_route : (ts : List TokenValue) → IsRoute ts ⊎ ¬ IsRoute ts
decide_route ts = elim (decide_divided SaysHop hop_walked decide_hop ts) [
  | inl d ↦ inl (record { hops = d.1.parts; divided = d.1.divided; each = hops_said d.1.parts d.0 d.1.say })
  | inr none ↦ inr (λ r. none [] (record { parts = r.hops; divided = r.divided; say = hops_say r.hops r.each }))
]

decide_routed : (ts : List TokenValue) → Found (IsRoutedOrNot ts)
decide_routed ts = elim (splits_or_lacks 58 ts) [
  | inr l ↦ elim (decide_address ts) [
    | inl a ↦ inl (a.0, inl a.1)
    | inr none ↦ inr (λ a is. none a (unrouted ts a l is))
  ]
  | inl s ↦ elim (decide_route s.0) [
    | inr other ↦ inr (λ a is. other (routed_parts ts s.0 s.1 a s.2 is).0)
    | inl route ↦ elim (decide_address s.1) [
      | inl a ↦ inl (a.0, routed_made ts s.0 s.1 a.0 s.2 route a.1)
      | inr none ↦ inr (λ a is. none a (routed_parts ts s.0 s.1 a s.2 is).1)
    ]
  ]
]

-- ---- mailboxes

decide_says : (ts : List TokenValue) → ((phrase : Bool) × (units : List UnitValue) × SaysPhrase ts phrase units) ⊎ ((phrase : Bool) (units : List UnitValue) → ¬ SaysPhrase ts phrase units)
decide_says ts = elim (cases_Bool (are_blank ts)) [
  | inl blank ↦ inl (false, [], (blank, refl))
  | inr some ↦ elim (decide_phrase ts) [
    | inl is ↦ let units = HasPhraseUnits-some (phrase_items ts) in inl (true, units.0, (is, units.1))
    | inr none ↦ inr (no_says ts some none)
  ]
]

opened : (ts before following : List TokenValue) (m : MailboxValue) → SplitsAt 60 ts before following → IsMailbox ts m → IsNamed ts m
opened ts before following m s (inl is) = absurd (not_lacking 60 before following s.at s.is_at (rw (s.whole) at (bare_lacks 60 ts m (λ e. omega (arith, e)) (λ e. omega (arith, e)) is)))
opened ts before following m s (inr is) = is

bare_value : Address → MailboxValue
bare_value a = record { phrase = false; display = []; angle = false; address = a }

named_value : Bool → List UnitValue → Address → MailboxValue
named_value phrase units a = record { phrase = phrase; display = units; angle = true; address = a }

decide_mailbox : (ts : List TokenValue) → Found (IsMailbox ts)
unfolding bare_value named_value
decide_mailbox ts = elim (splits_or_lacks 60 ts) [
  | inr l ↦ elim (decide_address ts) [
    | inl a ↦ inl (bare_value a.0, inl (record { is_address = a.1; phrase = refl; display = refl; angle = refl }))
    | inr none ↦ inr (λ m is. none m.address (only_bare ts m l is).is_address)
  ]
  | inl s ↦ elim (splits_or_lacks 62 s.1) [
    | inr l ↦ inr (λ m is. let named = opened ts s.0 s.1 m s.2 is in no_close ts s.0 s.1 named.before named.inner s.2 l (named_angles ts m named))
    | inl c ↦ elim (cases_Bool (are_blank c.1)) [
      | inr other ↦ inr (λ m is. let named = opened ts s.0 s.1 m s.2 is in something_after ts s.0 s.1 c.0 c.1 named.before named.inner s.2 c.2 other (named_angles ts m named))
      | inl blank ↦
          let first = angled_made ts s.0 s.1 c.0 c.1 s.2 c.2 blank in
          elim (decide_says s.0) [
            | inr none ↦ inr (λ m is. none m.phrase m.display (named_parts ts s.0 c.0 m first (opened ts s.0 s.1 m s.2 is)).says)
            | inl says ↦ elim (decide_routed c.0) [
              | inr none ↦ inr (λ m is. none m.address (named_parts ts s.0 c.0 m first (opened ts s.0 s.1 m s.2 is)).address)
              | inl a ↦ inl (named_value says.0 says.1 a.0, named_made ts s.0 c.0 (named_value says.0 says.1 a.0) first (record { says = says.2; address = a.1; angle = refl }))
            ]
          ]
    ]
  ]
]

-- ---- groups

no_one : (ts : List TokenValue) → ((m : MailboxValue) → ¬ IsMailbox ts m) → (ms : List MailboxValue) → IsOneMailbox ts ms → ⊥
no_one ts none [] is = is
no_one ts none (m ∷ []) is = none m is
no_one ts none (m ∷ n ∷ ms) is = is

decide_one : (ts : List TokenValue) → Known IsOneMailbox ts
decide_one ts = elim (decide_mailbox ts) [
  | inl m ↦ inl (m.0 ∷ [], m.1)
  | inr none ↦ inr (no_one ts none)
]

decide_members : (ts : List TokenValue) → Known AreMembers ts
decide_members ts = elim (cases_Bool (are_blank ts)) [
  | inl blank ↦ inl ([], inl (blank, refl))
  | inr some ↦ elim (decide_divided IsOneMailbox one_walked decide_one ts) [
    | inl d ↦ inl (d.0, inr d.1)
    | inr none ↦ inr (members_malformed ts some none)
  ]
]

no_group_name : (before following : List TokenValue) (e : ElementValue) → ¬ IsPhrase before → SaysGroup before following e → ⊥
no_group_name before following (One m) none is = is
no_group_name before following (Group name ms) none is = none is.is_phrase

decide_group : (before following : List TokenValue) → Found (SaysGroup before following)
decide_group before following = elim (decide_phrase before) [
  | inr none ↦ inr (λ e is. no_group_name before following e none is)
  | inl phrase ↦ elim (splits_or_lacks 59 following) [
    | inr l ↦ inr (group_unclosed before following l)
    | inl s ↦ elim (cases_Bool (are_blank s.1)) [
      | inr other ↦ inr (group_followed before following s.0 s.1 s.2 other)
      | inl blank ↦ elim (decide_members s.0) [
        | inr none ↦ inr (group_members before following s.0 s.1 s.2 none)
        | inl members ↦
            let units = HasPhraseUnits-some (phrase_items before) in
            let by : IsGroupBy before following units.0 members.0
            = record { inner = s.0; semicolon = s.2.at; after = s.1; whole = s.2.whole; is_semicolon = s.2.is_at; nothing_after = blank; is_phrase = phrase; says = units.1; are_members = members.1 } in
            inl (Group units.0 members.0, by)
      ]
    ]
  ]
]

-- ---- elements

decide_single : (ts : List TokenValue) → ((before following : List TokenValue) → SplitsName ts before following → ⊥) → Found (IsElement ts)
decide_single ts unnamed = elim (decide_mailbox ts) [
  | inl m ↦ inl (One m.0, m.1)
  | inr none ↦ inr (single_malformed ts unnamed none)
]

decide_element : (ts : List TokenValue) → Found (IsElement ts)
decide_element ts = elim (splits_or_lacks 58 ts) [
  | inr l ↦ decide_single ts (no_name ts l)
  | inl s ↦ elim (cases_Bool (lacks_special 60 s.0)) [
    | inr other ↦ decide_single ts (name_open ts s.0 s.1 s.2 other)
    | inl closed ↦
        let name : SplitsName ts s.0 s.1 = record { splits = s.2; closed = closed } in
        elim (decide_group s.0 s.1) [
          | inl e ↦ inl (e.0, group_element ts s.0 s.1 e.0 name e.1)
          | inr none ↦ inr (λ e is. none e (element_group ts s.0 s.1 e name is))
        ]
  ]
]

no_place : (ts : List TokenValue) → are_blank ts ≡ false → ((e : ElementValue) → ¬ IsElement ts e) → (es : List ElementValue) → SaysPlace ts es → ⊥
no_place ts some none [] is = both_ways (are_blank ts) some is
no_place ts some none (e ∷ []) is = none e is
no_place ts some none (e ∷ f ∷ es) is = is

decide_place : (ts : List TokenValue) → Known SaysPlace ts
decide_place ts = elim (cases_Bool (are_blank ts)) [
  | inl blank ↦ inl ([], blank)
  | inr some ↦ elim (decide_element ts) [
    | inl e ↦ inl (e.0 ∷ [], e.1)
    | inr none ↦ inr (no_place ts some none)
  ]
]

-- ---- texts

-- A text says a list of addresses, or it doesn't.
pub decide_addresses : (text : List ℕ)
    → ((elements : List ElementValue) × (comments : List CommentValue) × SaysAddresses text elements comments) ⊎ ((elements : List ElementValue) (comments : List CommentValue) → ¬ SaysAddresses text elements comments)
decide_addresses text = elim (decide_tokens Mail text) [
  | inr none ↦ inr (λ elements comments says. none says.tokens says.has)
  | inl found ↦ elim (decide_divided SaysPlace place_walked decide_place found.0) [
    | inr none ↦ inr (λ elements comments says. none elements (addresses_of text found.0 elements comments found.1 says))
    | inl are ↦
        let comments = CommentsSay-some (comments_of found.0) (text_comments text found.0 found.1) in
        inl (are.0, comments.0, record { tokens = found.0; has = found.1; are_elements = are.1; comments_say = comments.1 })
  ]
]
