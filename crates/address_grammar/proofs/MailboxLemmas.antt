-- A mailbox is read in one way.
use Rattle.std.proofs.Common.{◌≡◌, ◌≢◌, ℕ, ◌<◌, Bool, true, false, not, ◌||◌, ◌⊎◌, inl, inr, List, [], ◌∷◌, ◌++◌, refl, sym, ap, ◌∙◌, subst, arith}
use Rattle.std.proofs.lemmas.Bool.{and_parts, and_from, both_ways}
use Rattle.std.specs.List.{AllByRecursion, list_all}
use Rattle.encoded_words.specs.Words.{UnitValue}
use Rattle.encoded_words.specs.PhraseUnits.{HasPhraseUnits}
use Rattle.encoded_words.proofs.AllUnits.{HasPhraseUnits-some}
use Rattle.encoded_words.proofs.PhraseLemmas.{HasPhraseUnits-once}
use Rattle.field_tokens.specs.declared.TokenKind.{TokenKind}
use Rattle.field_tokens.specs.declared.TokenKind.TheVariants.{Atom, Quoted, Literal, Special, Gap, Comment}
use Rattle.field_tokens.specs.Tokens.{TokenValue}
use Rattle.address_grammar.specs.declared.Address.{Address}
use Rattle.address_grammar.specs.declared.FoundMailbox.{FoundMailbox}
use Rattle.address_grammar.specs.Found.{found_value, SaysSomePhrase, IsFoundBy}
use Rattle.address_grammar.specs.private.Lexemes.{is_blank_token, are_blank, is_word_kind, is_special_of, lacks_special, SplitsAt}
use Rattle.address_grammar.specs.Addresses.{is_domain, IsAddress}
use Rattle.address_grammar.specs.Paths.{IsFirstAngled}
use Rattle.address_grammar.specs.Phrases.{may_stand_in_phrase, IsPhrase, phrase_items, SaysPhrase, SaysNothing}
use Rattle.address_grammar.specs.AddressLists.{Divided, IsHop, IsRoute, MailboxValue, IsBare, IsRoutedOrNot, IsNamedBy, IsNamed, IsMailbox}
use Rattle.address_grammar.proofs.LexemeLemmas.{no_mark, other_mark, blank_lacks, cut_once, not_lacking}
use Rattle.address_grammar.proofs.AddressLemmas.{domain_lacks, lacks-append, address_lacks}
use Rattle.address_grammar.proofs.PathLemmas.{angles_once}
use Rattle.field_tokens.specs.Squeezed.{is_special_kind}

-- ---- phrases

blank_or_word : (k : TokenKind) (b : Bool) → (is_blank_token (record { kind = k; octets = [] }) || (is_word_kind k || b)) ≡ true → (is_special_kind k ≡ false) ⊎ (b ≡ true)
blank_or_word Atom b h = inl refl
blank_or_word Quoted b h = inl refl
blank_or_word Literal b h = inr h
blank_or_word Special b h = inr h
blank_or_word Gap b h = inl refl
blank_or_word Comment b h = inl refl

phrase_tokens_lack : (m : ℕ) (ts : List TokenValue) → m ≢ 46 → list_all may_stand_in_phrase ts ≡ true → lacks_special m ts ≡ true
phrase_tokens_lack m [] ne h = refl
phrase_tokens_lack m (t ∷ ts) ne h =
    let parts = and_parts (may_stand_in_phrase t) (list_all may_stand_in_phrase ts) h in
    let rest = phrase_tokens_lack m ts ne parts.1 in
    elim (blank_or_word t.kind (is_special_of 46 t) parts.0) [
      | inl plain ↦ and_from (not (is_special_of m t)) (lacks_special m ts) (ap not (no_mark m t plain)) rest
      | inr dot ↦ and_from (not (is_special_of m t)) (lacks_special m ts) (ap not (other_mark 46 m t (λ e. ne (sym e)) dot)) rest
    ]

pub phrase_lacks : (m : ℕ) (ts : List TokenValue) → m ≢ 46 → IsPhrase ts → lacks_special m ts ≡ true
phrase_lacks m ts ne p = phrase_tokens_lack m ts ne p.each

pub says_lacks : (m : ℕ) (ts : List TokenValue) (phrase : Bool) (units : List UnitValue) → m ≢ 46 → SaysPhrase ts phrase units → lacks_special m ts ≡ true
says_lacks m ts true units ne s = phrase_lacks m ts ne s.0
says_lacks m ts false units ne s = blank_lacks m ts s.0

pub no_says : (ts : List TokenValue) → are_blank ts ≡ false → (IsPhrase ts → ⊥) → (phrase : Bool) (units : List UnitValue) → SaysPhrase ts phrase units → ⊥
no_says ts not_blank not_phrase true units s = not_phrase s.0
no_says ts not_blank not_phrase false units s = both_ways (are_blank ts) not_blank s.0

-- ---- angle brackets

not_true : (b : Bool) → (b ≡ true → ⊥) → b ≡ false
not_true true other = absurd (other refl)
not_true false other = refl

pub angled_opens : (ts before inner : List TokenValue) → IsFirstAngled ts before inner → lacks_special 60 ts ≡ false
angled_opens ts before inner is =
    let a = is.angled in
    not_true (lacks_special 60 ts) (λ lacks. not_lacking 60 before (inner ++ a.close_mark ∷ a.after) a.open_mark a.opens (rw (a.whole) at lacks))

-- ---- routes

pub hop_lacks : (m : ℕ) (ts : List TokenValue) → m ≢ 46 → m ≢ 64 → IsHop ts → lacks_special m ts ≡ true
hop_lacks m ts dot at is =
    rw (is.whole) (lacks-append m is.before (is.at ∷ is.domain) (blank_lacks m is.before is.nothing_before)
    (and_from (not (is_special_of m is.at)) (lacks_special m is.domain) (ap not (other_mark 64 m is.at (λ e. at (sym e)) is.is_at)) (domain_lacks m is.domain dot is.is_domain)))

pub record HopParts (before domain : List TokenValue) : Type 0 where
  pub nothing_before : are_blank before ≡ true
  pub is_domain : is_domain domain ≡ true

pub hop_parts : (ts before domain : List TokenValue) → SplitsAt 64 ts before domain → IsHop ts → HopParts before domain
hop_parts ts before domain s is =
    let cut = cut_once 64 before is.before s.at is.at domain is.domain s.first (blank_lacks 64 is.before is.nothing_before) s.is_at is.is_at (sym s.whole ∙ is.whole) in
    record { nothing_before = rw (cut.front) is.nothing_before; is_domain = rw (cut.rest) is.is_domain }

pub hop_made : (ts before domain : List TokenValue) → SplitsAt 64 ts before domain → are_blank before ≡ true → is_domain domain ≡ true → IsHop ts
hop_made ts before domain s blank dom = record { before = before; at = s.at; domain = domain; whole = s.whole; nothing_before = blank; is_at = s.is_at; is_domain = dom }

pub no_hop : (ts : List TokenValue) → lacks_special 64 ts ≡ true → IsHop ts → ⊥
no_hop ts l is = not_lacking 64 is.before is.domain is.at is.is_at (rw (is.whole) at l)

no_comma_dot : ◌≡◌ {A = ℕ} 44 46 → ⊥
no_comma_dot e = omega (arith, e)

no_comma_at : ◌≡◌ {A = ℕ} 44 64 → ⊥
no_comma_at e = omega (arith, e)

hop_comma : (ts : List TokenValue) → IsHop ts → lacks_special 44 ts ≡ true
hop_comma ts is = hop_lacks 44 ts no_comma_dot no_comma_at is

pub route_last : (ts : List TokenValue) → lacks_special 44 ts ≡ true → IsRoute ts → IsHop ts
route_last ts l r = by r.hops r.divided r.each
  where
    by : (hops : List (List TokenValue)) → Divided 44 hops ts → AllByRecursion IsHop hops → IsHop ts
    by [] d e = absurd d
    by (h ∷ []) d e = rw (d) e.0
    by (h ∷ n ∷ hops) d e = absurd (not_lacking 44 h d.1 d.0 d.3 (rw (d.2) at l))

pub route_one : (ts : List TokenValue) → IsHop ts → IsRoute ts
route_one ts h = record { hops = ts ∷ []; divided = refl; each = (h, tt) }

-- the first hop of a route, and what follows its comma
pub record RouteParts (hop rest : List TokenValue) : Type 0 where
  pub is_hop : IsHop hop
  pub is_route : IsRoute rest

pub route_parts : (ts hop rest : List TokenValue) → SplitsAt 44 ts hop rest → IsRoute ts → RouteParts hop rest
route_parts ts hop rest s r = by r.hops r.divided r.each
  where
    by : (hops : List (List TokenValue)) → Divided 44 hops ts → AllByRecursion IsHop hops → RouteParts hop rest
    by [] d e = absurd d
    by (h ∷ []) d e = absurd (not_lacking 44 hop rest s.at s.is_at (rw (s.whole) at (hop_comma ts (rw (d) e.0))))
    by (h ∷ n ∷ hops) d e =
        let cut = cut_once 44 hop h s.at d.0 rest d.1 s.first (hop_comma h e.0) s.is_at d.3 (sym s.whole ∙ d.2) in
        record { is_hop = rw (cut.front) e.0; is_route = rw (cut.rest) (record { hops = n ∷ hops; divided = d.4; each = e.1 }) }

pub route_more : (ts hop rest : List TokenValue) → SplitsAt 44 ts hop rest → IsHop hop → IsRoute rest → IsRoute ts
route_more ts hop rest s h r = by r.hops r.divided r.each
  where
    by : (hops : List (List TokenValue)) → Divided 44 hops rest → AllByRecursion IsHop hops → IsRoute ts
    by [] d e = absurd d
    by (n ∷ hops) d e = record { hops = hop ∷ n ∷ hops; divided = (s.at, rest, s.whole, s.is_at, d); each = (h, e) }

-- what stands after hops is a route exactly where all is
pub record SameRoute (ts rest : List TokenValue) : Type 0 where
  pub onward : IsRoute rest → IsRoute ts
  pub back : IsRoute ts → IsRoute rest

pub same_route : (ts : List TokenValue) → SameRoute ts ts
same_route ts = record { onward = λ r. r; back = λ r. r }

pub same_more : (ts old hop new : List TokenValue) → SameRoute ts old → SplitsAt 44 old hop new → IsHop hop → SameRoute ts new
same_more ts old hop new same s h = record { onward = λ r. same.onward (route_more old hop new s h r); back = λ r. (route_parts old hop new s (same.back r)).is_route }

pub route_is : (ts rest : List TokenValue) (hop : Bool) → SameRoute ts rest → lacks_special 44 rest ≡ true → (hop ≡ true → IsHop rest) × (IsHop rest → hop ≡ true) → (hop ≡ true → IsRoute ts) × (IsRoute ts → hop ≡ true)
route_is ts rest hop same l is = (λ t. same.onward (route_one rest (is.0 t)), λ r. is.1 (route_last rest l (same.back r)))

pub route_not : (ts rest hop after : List TokenValue) (b : Bool) → SameRoute ts rest → SplitsAt 44 rest hop after → b ≡ false → (IsHop hop → b ≡ true) → (false ≡ true → IsRoute ts) × (IsRoute ts → false ≡ true)
route_not ts rest hop after b same s e h = (λ t. cc t, λ r. sym e ∙ h (route_parts rest hop after s (same.back r)).is_hop)

pub route_lacks : (m : ℕ) (ts : List TokenValue) → m ≢ 46 → m ≢ 64 → m ≢ 44 → IsRoute ts → lacks_special m ts ≡ true
route_lacks m ts dot at comma r = by r.hops ts r.divided r.each
  where
    by : (hops : List (List TokenValue)) (us : List TokenValue) → Divided 44 hops us → AllByRecursion IsHop hops → lacks_special m us ≡ true
    by [] us d e = absurd d
    by (h ∷ []) us d e = rw (d) (hop_lacks m h dot at e.0)
    by (h ∷ n ∷ hops) us d e =
        rw (d.2) (lacks-append m h (d.0 ∷ d.1) (hop_lacks m h dot at e.0)
        (and_from (not (is_special_of m d.0)) (lacks_special m d.1) (ap not (other_mark 44 m d.0 (λ e. comma (sym e)) d.3)) (by (n ∷ hops) d.1 d.4 e.1)))

-- ---- routed addresses

pub routed_lacks : (m : ℕ) (ts : List TokenValue) (a : Address) → m ≢ 46 → m ≢ 64 → m ≢ 44 → m ≢ 58 → IsRoutedOrNot ts a → lacks_special m ts ≡ true
routed_lacks m ts a dot at comma colon (inl is) = address_lacks m ts a dot at is
routed_lacks m ts a dot at comma colon (inr is) =
    rw (is.whole) (lacks-append m is.route (is.colon ∷ is.following) (route_lacks m is.route dot at comma is.is_route)
    (and_from (not (is_special_of m is.colon)) (lacks_special m is.following) (ap not (other_mark 58 m is.colon (λ e. colon (sym e)) is.is_colon)) (address_lacks m is.following a dot at is.is_address)))

pub routed_parts : (ts route following : List TokenValue) (a : Address) → SplitsAt 58 ts route following → IsRoutedOrNot ts a → IsRoute route × IsAddress following a
routed_parts ts route following a s (inl is) =
    absurd (not_lacking 58 route following s.at s.is_at (rw (s.whole) at (address_lacks 58 ts a (λ e. omega (arith, e)) (λ e. omega (arith, e)) is)))
routed_parts ts route following a s (inr is) =
    let cut = cut_once 58 route is.route s.at is.colon following is.following s.first
    (route_lacks 58 is.route (λ e. omega (arith, e)) (λ e. omega (arith, e)) (λ e. omega (arith, e)) is.is_route) s.is_at is.is_colon (sym s.whole ∙ is.whole) in
    (rw (cut.front) is.is_route, rw (cut.rest) is.is_address)

pub routed_made : (ts route following : List TokenValue) (a : Address) → SplitsAt 58 ts route following → IsRoute route → IsAddress following a → IsRoutedOrNot ts a
routed_made ts route following a s r is = inr (record { route = route; colon = s.at; following = following; whole = s.whole; is_colon = s.is_at; is_route = r; is_address = is })

pub unrouted : (ts : List TokenValue) (a : Address) → lacks_special 58 ts ≡ true → IsRoutedOrNot ts a → IsAddress ts a
unrouted ts a l (inl is) = is
unrouted ts a l (inr is) = absurd (not_lacking 58 is.route is.following is.colon is.is_colon (rw (is.whole) at l))

-- ---- mailboxes

pub named_angles : (ts : List TokenValue) (m : MailboxValue) (is : IsNamed ts m) → IsFirstAngled ts is.before is.inner
named_angles ts m is = record {
  angled = is.angled;
  first_open = says_lacks 60 is.before m.phrase m.display (λ e. omega (arith, e)) is.named.says;
  first_close = routed_lacks 62 is.inner m.address (λ e. omega (arith, e)) (λ e. omega (arith, e)) (λ e. omega (arith, e)) (λ e. omega (arith, e)) is.named.address;
}

pub named_parts : (ts before inner : List TokenValue) (m : MailboxValue) → IsFirstAngled ts before inner → IsNamed ts m → IsNamedBy before inner m
named_parts ts before inner m first is =
    let same = angles_once ts before is.before inner is.inner first (named_angles ts m is) in
    rw (same.before, same.inner) is.named

pub bare_lacks : (mark : ℕ) (ts : List TokenValue) (m : MailboxValue) → mark ≢ 46 → mark ≢ 64 → IsBare ts m → lacks_special mark ts ≡ true
bare_lacks mark ts m dot at is = address_lacks mark ts m.address dot at is.is_address

-- without an opening bracket a mailbox is an address
pub only_bare : (ts : List TokenValue) (m : MailboxValue) → lacks_special 60 ts ≡ true → IsMailbox ts m → IsBare ts m
only_bare ts m l (inl is) = is
only_bare ts m l (inr is) = absurd (not_lacking 60 is.before _ is.angled.open_mark is.angled.opens (rw (is.angled.whole) at l))

pub only_named : (ts : List TokenValue) (m : MailboxValue) → lacks_special 60 ts ≡ false → IsMailbox ts m → IsNamed ts m
only_named ts m l (inl is) = absurd (both_ways (lacks_special 60 ts) l (bare_lacks 60 ts m (λ e. omega (arith, e)) (λ e. omega (arith, e)) is))
only_named ts m l (inr is) = is

pub named_made : (ts before inner : List TokenValue) (m : MailboxValue) → IsFirstAngled ts before inner → IsNamedBy before inner m → IsMailbox ts m
named_made ts before inner m first named = inr (record { before = before; inner = inner; angled = first.angled; named = named })

-- ---- what the phrase says

-- what stands before angle brackets is a phrase that says these units
pub named_phrase : (ts before following : List TokenValue) (m : MailboxValue) → SplitsAt 60 ts before following → IsNamed ts m → m.phrase ≡ true → IsPhrase before × HasPhraseUnits (phrase_items before) m.display
named_phrase ts before following m s is phrase =
    let a = is.angled in
    let cut = cut_once 60 before is.before s.at a.open_mark following (is.inner ++ a.close_mark ∷ a.after) s.first (named_angles ts m is).first_open s.is_at a.opens (sym s.whole ∙ a.whole) in
    rw (cut.front) (by m.phrase phrase is.named.says)
  where
    by : (b : Bool) → b ≡ true → SaysPhrase is.before b m.display → IsPhrase is.before × HasPhraseUnits (phrase_items is.before) m.display
    by true h says = says
    by false h says = cc h

pub is_named : (ts : List TokenValue) (m : MailboxValue) → m.phrase ≡ true → IsMailbox ts m → IsNamed ts m
is_named ts m h (inl is) = absurd (both_ways m.phrase is.phrase h)
is_named ts m h (inr is) = is

pub not_open : (ts : List TokenValue) (m : MailboxValue) → IsNamed ts m → lacks_special 60 ts ≡ true → ⊥
not_open ts m is l = not_lacking 60 is.before _ is.angled.open_mark is.angled.opens (rw (is.angled.whole) at l)

-- a mailbox without a phrase says no units
pub nothing_said : (ts : List TokenValue) (m : MailboxValue) → m.phrase ≡ false → IsMailbox ts m → m.display ≡ []
nothing_said ts m h (inl is) = is.display
nothing_said ts m h (inr is) = by m.phrase h is.named.says
  where
    by : (b : Bool) → b ≡ false → SaysPhrase is.before b m.display → m.display ≡ []
    by true h says = cc h
    by false h says = says.1

-- units that were read of the phrase are those of the mailbox
pub display_read : (ts before following : List TokenValue) (m : FoundMailbox) (display units : List UnitValue) → SplitsAt 60 ts before following → m.phrase ≡ true → IsMailbox ts (found_value m display)
    → HasPhraseUnits (phrase_items before) units → IsMailbox ts (found_value m units)
display_read ts before following m display units s phrase is has =
    let said = named_phrase ts before following (found_value m display) s (is_named ts (found_value m display) phrase is) phrase in
    subst (λ r. IsMailbox ts (found_value m r)) (HasPhraseUnits-once (phrase_items before) display units said.1 has) is

pub display_none : (ts : List TokenValue) (m : FoundMailbox) (display units : List UnitValue) → m.phrase ≡ false → units ≡ [] → IsMailbox ts (found_value m display) → IsMailbox ts (found_value m units)
display_none ts m display units bare none is = subst (λ r. IsMailbox ts (found_value m r)) (nothing_said ts (found_value m display) bare is ∙ sym none) is

-- a phrase says something
pub some_phrase : (ts : List TokenValue) → IsPhrase ts → SaysSomePhrase ts true
some_phrase ts is = let units = HasPhraseUnits-some (phrase_items ts) in (units.0, (is, units.1))

pub found_by : (before inner : List TokenValue) (m : FoundMailbox) → SaysSomePhrase before m.phrase → IsRoutedOrNot inner m.address → m.angle ≡ true → IsFoundBy before inner m
found_by before inner m says address angle = (says.0, record { says = says.1; address = address; angle = angle })

pub no_phrase : (ts : List TokenValue) → are_blank ts ≡ true → SaysSomePhrase ts false
no_phrase ts blank = ([], (blank, refl))

pub nothing_says : (ts : List TokenValue) → are_blank ts ≡ false → (IsPhrase ts → ⊥) → SaysNothing ts
nothing_says ts some none true units says = none says.0
nothing_says ts some none false units says = both_ways (are_blank ts) some says.0
