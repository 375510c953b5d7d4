-- Elements are read in one way, and no place ends within one.
use Rattle.std.proofs.Common.{◌≡◌, ℕ, Bool, true, false, not, inl, inr, List, [], ◌∷◌, ◌++◌, Some, None, refl, sym, ap, ◌∙◌, arith}
use Rattle.std.proofs.lemmas.Bool.{and_parts, and_from, not-true, both_ways}
use Rattle.encoded_words.specs.Words.{UnitValue}
use Rattle.encoded_words.proofs.PhraseLemmas.{HasPhraseUnits-once}
use Rattle.field_tokens.specs.Tokens.{TokenValue}
use Rattle.address_grammar.specs.declared.Address.{Address}
use Rattle.address_grammar.specs.private.Lexemes.{is_special_of, lacks_special, are_blank, SplitsAt}
use Rattle.address_grammar.specs.Addresses.{IsAddress}
use Rattle.address_grammar.specs.Phrases.{phrase_items, SaysPhrase}
use Rattle.address_grammar.specs.AddressLists.{Divided, IsRoute, MailboxValue, IsBare, IsRoutedOrNot, IsNamed, IsMailbox, SayParts, AreDivided, IsOneMailbox, AreMembers, ElementValue, One, Group, IsGroupBy, IsGroup, IsElement, SaysPlace}
use Rattle.address_grammar.specs.private.Walks.{awaited_after, walk}
use Rattle.address_grammar.specs.private.ListSteps.{SplitsName, SaysGroup, SaysSingle}
use Rattle.address_grammar.proofs.LexemeLemmas.{other_mark, blank_lacks, cut_once, not_lacking}
use Rattle.address_grammar.proofs.AddressLemmas.{lacks-append, address_lacks, IsAddress-once}
use Rattle.address_grammar.proofs.MailboxLemmas.{phrase_lacks, says_lacks, route_lacks, routed_lacks, routed_parts, named_angles, named_parts, bare_lacks}
use Rattle.address_grammar.proofs.WalkLemmas.{walk-append}
use Rattle.address_grammar.proofs.DividedLemmas.{Walked, SaysOnce, divided_once}

-- ---- walks

-- nothing is awaited after tokens without a comma, an opening bracket and a colon
pub walk_plain : (ts : List TokenValue) → lacks_special 44 ts ≡ true → lacks_special 60 ts ≡ true → lacks_special 58 ts ≡ true → walk None ts ≡ Some None
walk_plain [] a b c = refl
walk_plain (t ∷ ts) a b c =
    let p = and_parts (not (is_special_of 44 t)) (lacks_special 44 ts) a in
    let q = and_parts (not (is_special_of 60 t)) (lacks_special 60 ts) b in
    let r = and_parts (not (is_special_of 58 t)) (lacks_special 58 ts) c in
    rw (not-true (is_special_of 44 t) p.0, not-true (is_special_of 60 t) q.0, not-true (is_special_of 58 t) r.0) (walk_plain ts p.1 q.1 r.1)

walk_awaits : (m : ℕ) (ts : List TokenValue) → lacks_special m ts ≡ true → walk (Some m) ts ≡ Some (Some m)
walk_awaits m [] l = refl
walk_awaits m (t ∷ ts) l =
    let p = and_parts (not (is_special_of m t)) (lacks_special m ts) l in
    rw (not-true (is_special_of m t) p.0) (walk_awaits m ts p.1)

walk_blank : (ts : List TokenValue) → are_blank ts ≡ true → walk None ts ≡ Some None
walk_blank ts h = walk_plain ts (blank_lacks 44 ts h) (blank_lacks 60 ts h) (blank_lacks 58 ts h)

-- what stands between a mark and the one that it awaits
walk_between : (n : ℕ) (before inner after : List TokenValue) (s t : TokenValue) → walk None before ≡ Some None → awaited_after None s ≡ Some (Some n) → lacks_special n inner ≡ true → is_special_of n t ≡ true → are_blank after ≡ true
    → walk None (before ++ s ∷ (inner ++ t ∷ after)) ≡ Some None
walk_between n before inner after s t front opens l closes blank =
    rw (walk-append before (s ∷ (inner ++ t ∷ after)) None, front, opens, walk-append inner (t ∷ after) (Some n), walk_awaits n inner l, closes) (walk_blank after blank)

opens_angle : (t : TokenValue) → is_special_of 60 t ≡ true → awaited_after None t ≡ Some (Some 62)
opens_angle t h = rw (other_mark 60 44 t (λ e. omega (arith, e)) h, h) refl

opens_group : (t : TokenValue) → is_special_of 58 t ≡ true → awaited_after None t ≡ Some (Some 59)
opens_group t h = rw (other_mark 58 44 t (λ e. omega (arith, e)) h, other_mark 58 60 t (λ e. omega (arith, e)) h, h) refl

says_walked : (ts : List TokenValue) (phrase : Bool) (units : List UnitValue) → SaysPhrase ts phrase units → walk None ts ≡ Some None
says_walked ts phrase units s =
    walk_plain ts (says_lacks 44 ts phrase units (λ e. omega (arith, e)) s) (says_lacks 60 ts phrase units (λ e. omega (arith, e)) s) (says_lacks 58 ts phrase units (λ e. omega (arith, e)) s)

mailbox_walked : (ts : List TokenValue) (m : MailboxValue) → IsMailbox ts m → walk None ts ≡ Some None
mailbox_walked ts m (inl is) =
    walk_plain ts (bare_lacks 44 ts m (λ e. omega (arith, e)) (λ e. omega (arith, e)) is) (bare_lacks 60 ts m (λ e. omega (arith, e)) (λ e. omega (arith, e)) is)
    (bare_lacks 58 ts m (λ e. omega (arith, e)) (λ e. omega (arith, e)) is)
mailbox_walked ts m (inr is) =
    let first = named_angles ts m is in
    rw (is.angled.whole) (walk_between 62 is.before is.inner is.angled.after is.angled.open_mark is.angled.close_mark
    (says_walked is.before m.phrase m.display is.named.says) (opens_angle is.angled.open_mark is.angled.opens) first.first_close is.angled.closes is.angled.following)

pub one_walked : Walked IsOneMailbox
one_walked ts [] is = absurd is
one_walked ts (m ∷ []) is = mailbox_walked ts m is
one_walked ts (m ∷ n ∷ ms) is = absurd is

-- ---- a mailbox has no semicolon

mailbox_lacks : (ts : List TokenValue) (m : MailboxValue) → IsMailbox ts m → lacks_special 59 ts ≡ true
mailbox_lacks ts m (inl is) = bare_lacks 59 ts m (λ e. omega (arith, e)) (λ e. omega (arith, e)) is
mailbox_lacks ts m (inr is) =
    let a = is.angled in
    rw (a.whole) (lacks-append 59 is.before (a.open_mark ∷ (is.inner ++ a.close_mark ∷ a.after)) (says_lacks 59 is.before m.phrase m.display (λ e. omega (arith, e)) is.named.says)
    (and_from (not (is_special_of 59 a.open_mark)) (lacks_special 59 (is.inner ++ a.close_mark ∷ a.after)) (ap not (other_mark 60 59 a.open_mark (λ e. omega (arith, e)) a.opens))
    (lacks-append 59 is.inner (a.close_mark ∷ a.after) (routed_lacks 59 is.inner m.address (λ e. omega (arith, e)) (λ e. omega (arith, e)) (λ e. omega (arith, e)) (λ e. omega (arith, e)) is.named.address)
    (and_from (not (is_special_of 59 a.close_mark)) (lacks_special 59 a.after) (ap not (other_mark 62 59 a.close_mark (λ e. omega (arith, e)) a.closes)) (blank_lacks 59 a.after a.following)))))

one_lacks : (ts : List TokenValue) (ms : List MailboxValue) → IsOneMailbox ts ms → lacks_special 59 ts ≡ true
one_lacks ts [] is = absurd is
one_lacks ts (m ∷ []) is = mailbox_lacks ts m is
one_lacks ts (m ∷ n ∷ ms) is = absurd is

parts_lack : (parts : List (List TokenValue)) (ts : List TokenValue) (ms : List MailboxValue) → Divided 44 parts ts → SayParts IsOneMailbox parts ms → lacks_special 59 ts ≡ true
parts_lack [] ts ms d say = absurd d
parts_lack (p ∷ []) ts ms d say = rw (d) (one_lacks p say.0 say.3)
parts_lack (p ∷ n ∷ parts) ts ms d say =
    rw (d.2) (lacks-append 59 p (d.0 ∷ d.1) (one_lacks p say.0 say.3)
    (and_from (not (is_special_of 59 d.0)) (lacks_special 59 d.1) (ap not (other_mark 44 59 d.0 (λ e. omega (arith, e)) d.3)) (parts_lack (n ∷ parts) d.1 say.1 d.4 say.4)))

pub members_lack : (ts : List TokenValue) (ms : List MailboxValue) → AreMembers ts ms → lacks_special 59 ts ≡ true
members_lack ts ms (inl none) = blank_lacks 59 ts none.0
members_lack ts ms (inr d) = parts_lack d.parts ts ms d.divided d.say

-- ---- groups

group_walked : (ts : List TokenValue) (name : List UnitValue) (ms : List MailboxValue) → IsGroup ts name ms → walk None ts ≡ Some None
group_walked ts name ms is =
    let g = is.group in
    rw (is.whole, g.whole) (walk_between 59 is.before g.inner g.after is.colon g.semicolon
    (says_walked is.before true name (g.is_phrase, g.says)) (opens_group is.colon is.is_colon) (members_lack g.inner ms g.are_members) g.is_semicolon g.nothing_after)

element_walked : (ts : List TokenValue) (e : ElementValue) → IsElement ts e → walk None ts ≡ Some None
element_walked ts (One m) is = mailbox_walked ts m is
element_walked ts (Group name ms) is = group_walked ts name ms is

pub place_walked : Walked SaysPlace
place_walked ts [] is = walk_blank ts is
place_walked ts (e ∷ []) is = element_walked ts e is
place_walked ts (e ∷ f ∷ es) is = absurd is

-- ---- one reading

record SameSays (p q : Bool) (us vs : List UnitValue) : Type 0 where
  phrase : p ≡ q
  units : us ≡ vs

says_once : (ts : List TokenValue) (p q : Bool) (us vs : List UnitValue) → SaysPhrase ts p us → SaysPhrase ts q vs → SameSays p q us vs
says_once ts true true us vs h k = record { phrase = refl; units = HasPhraseUnits-once (phrase_items ts) us vs h.1 k.1 }
says_once ts true false us vs h k = absurd (both_ways (are_blank ts) h.0.some k.0)
says_once ts false true us vs h k = absurd (both_ways (are_blank ts) k.0.some h.0)
says_once ts false false us vs h k = record { phrase = refl; units = h.1 ∙ sym k.1 }

no_colon : (ts : List TokenValue) (a : Address) → IsAddress ts a → lacks_special 58 ts ≡ true
no_colon ts a is = address_lacks 58 ts a (λ e. omega (arith, e)) (λ e. omega (arith, e)) is

route_colon : (ts : List TokenValue) → IsRoute ts → lacks_special 58 ts ≡ true
route_colon ts r = route_lacks 58 ts (λ e. omega (arith, e)) (λ e. omega (arith, e)) (λ e. omega (arith, e)) r

routed_once : (ts : List TokenValue) (a b : Address) → IsRoutedOrNot ts a → IsRoutedOrNot ts b → a ≡ b
routed_once ts a b (inl p) (inl q) = IsAddress-once ts a b p q
routed_once ts a b (inl p) (inr q) = absurd (not_lacking 58 q.route q.following q.colon q.is_colon (rw (q.whole) at (no_colon ts a p)))
routed_once ts a b (inr p) (inl q) = absurd (not_lacking 58 p.route p.following p.colon p.is_colon (rw (p.whole) at (no_colon ts b q)))
routed_once ts a b (inr p) (inr q) = IsAddress-once p.following a b p.is_address (routed_parts ts p.route p.following b (record { at = p.colon; whole = p.whole; is_at = p.is_colon; first = route_colon p.route p.is_route }) (inr q)).1

same_mailbox : (m n : MailboxValue) → m.phrase ≡ n.phrase → m.display ≡ n.display → m.angle ≡ n.angle → m.address ≡ n.address → m ≡ n
same_mailbox m n p d g a = let eta : m ≡ record { phrase = n.phrase; display = n.display; angle = n.angle; address = n.address } = rw (← p, ← d, ← g, ← a) refl in eta

pub not_both : (ts : List TokenValue) (m n : MailboxValue) → IsBare ts m → IsNamed ts n → ⊥
not_both ts m n bare named =
    not_lacking 60 named.before _ named.angled.open_mark named.angled.opens (rw (named.angled.whole) at (bare_lacks 60 ts m (λ e. omega (arith, e)) (λ e. omega (arith, e)) bare))

pub IsMailbox-once : (ts : List TokenValue) (m n : MailboxValue) → IsMailbox ts m → IsMailbox ts n → m ≡ n
IsMailbox-once ts m n (inl p) (inl q) = same_mailbox m n (p.phrase ∙ sym q.phrase) (p.display ∙ sym q.display) (p.angle ∙ sym q.angle) (IsAddress-once ts m.address n.address p.is_address q.is_address)
IsMailbox-once ts m n (inl p) (inr q) = absurd (not_both ts m n p q)
IsMailbox-once ts m n (inr p) (inl q) = absurd (not_both ts n m q p)
IsMailbox-once ts m n (inr p) (inr q) =
    let other = named_parts ts p.before p.inner n (named_angles ts m p) q in
    let says = says_once p.before m.phrase n.phrase m.display n.display p.named.says other.says in
    same_mailbox m n says.phrase says.units (p.named.angle ∙ sym other.angle) (routed_once p.inner m.address n.address p.named.address other.address)

pub one_once : SaysOnce IsOneMailbox
one_once ts [] ns p q = absurd p
one_once ts (m ∷ n ∷ ms) ns p q = absurd p
one_once ts (m ∷ []) [] p q = absurd q
one_once ts (m ∷ []) (n ∷ []) p q = ap (λ r. r ∷ []) (IsMailbox-once ts m n p q)
one_once ts (m ∷ []) (n ∷ k ∷ ns) p q = absurd q

-- a mailbox is not blank
pub mailbox_not_blank : (ts : List TokenValue) (m : MailboxValue) → IsMailbox ts m → are_blank ts ≡ true → ⊥
mailbox_not_blank ts m (inl is) h = not_lacking 64 is.is_address.local is.is_address.domain is.is_address.at is.is_address.is_at (rw (is.is_address.whole) at (blank_lacks 64 ts h))
mailbox_not_blank ts m (inr is) h = not_lacking 60 is.before _ is.angled.open_mark is.angled.opens (rw (is.angled.whole) at (blank_lacks 60 ts h))

pub one_not_blank : (ts : List TokenValue) (ms : List MailboxValue) → IsOneMailbox ts ms → are_blank ts ≡ true → ⊥
one_not_blank ts [] is h = is
one_not_blank ts (m ∷ []) is h = mailbox_not_blank ts m is h
one_not_blank ts (m ∷ n ∷ ms) is h = is

pub members_not_blank : (ts : List TokenValue) (ms : List MailboxValue) → AreDivided IsOneMailbox ts ms → are_blank ts ≡ true → ⊥
members_not_blank ts ms d h = by d.parts d.divided d.say
  where
    by : (parts : List (List TokenValue)) → Divided 44 parts ts → SayParts IsOneMailbox parts ms → ⊥
    by [] div say = div
    by (p ∷ []) div say = one_not_blank p say.0 say.3 (rw (div) at h)
    by (p ∷ n ∷ parts) div say = not_lacking 44 p div.1 div.0 div.3 (rw (div.2) at (blank_lacks 44 ts h))

pub members_once : (ts : List TokenValue) (ms ns : List MailboxValue) → AreMembers ts ms → AreMembers ts ns → ms ≡ ns
members_once ts ms ns (inl p) (inl q) = p.1 ∙ sym q.1
members_once ts ms ns (inl p) (inr q) = absurd (members_not_blank ts ns q p.0)
members_once ts ms ns (inr p) (inl q) = absurd (members_not_blank ts ms p q.0)
members_once ts ms ns (inr p) (inr q) = divided_once IsOneMailbox one_walked one_once ts ms ns p q

-- the parts of a group after its name
pub record SameGroup (us vs : List UnitValue) (ms ns : List MailboxValue) : Type 0 where
  pub name : us ≡ vs
  pub members : ms ≡ ns

pub group_inner : (before following inner after : List TokenValue) (name : List UnitValue) (ms : List MailboxValue) → SplitsAt 59 following inner after → IsGroupBy before following name ms → (are_blank after ≡ true) × AreMembers inner ms
group_inner before following inner after name ms s g =
    let cut = cut_once 59 inner g.inner s.at g.semicolon after g.after s.first (members_lack g.inner ms g.are_members) s.is_at g.is_semicolon (sym s.whole ∙ g.whole) in
    (rw (cut.rest) g.nothing_after, rw (cut.front) g.are_members)

pub group_once : (before following : List TokenValue) (us vs : List UnitValue) (ms ns : List MailboxValue) → IsGroupBy before following us ms → IsGroupBy before following vs ns → SameGroup us vs ms ns
group_once before following us vs ms ns p q = record {
  name = HasPhraseUnits-once (phrase_items before) us vs p.says q.says;
  members = members_once p.inner ms ns p.are_members (group_inner before following p.inner p.after vs ns (record { at = p.semicolon; whole = p.whole; is_at = p.is_semicolon; first = members_lack p.inner ms p.are_members }) q).1;
}

-- ---- which kind of element stands in a place

pub group_name : (ts : List TokenValue) (name : List UnitValue) (ms : List MailboxValue) → (is : IsGroup ts name ms) → SplitsName ts is.before is.following
group_name ts name ms is = record {
  splits = record { at = is.colon; whole = is.whole; is_at = is.is_colon; first = phrase_lacks 58 is.before (λ e. omega (arith, e)) is.group.is_phrase };
  closed = phrase_lacks 60 is.before (λ e. omega (arith, e)) is.group.is_phrase;
}

-- the first of two marks stands before the other
two_marks : (a b : List TokenValue) (s t : TokenValue) (x y : List TokenValue) → lacks_special 60 a ≡ true → lacks_special 58 b ≡ true → is_special_of 58 s ≡ true → is_special_of 60 t ≡ true → a ++ s ∷ x ≡ b ++ t ∷ y → ⊥
two_marks [] [] s t x y la lb is it e = let same : s ≡ t = cc e in both_ways (is_special_of 58 t) (other_mark 60 58 t (λ e. omega (arith, e)) it) (sym (ap (is_special_of 58) same) ∙ is)
two_marks [] (h ∷ b) s t x y la lb is it e =
    let same : s ≡ h = cc e in
    both_ways (is_special_of 58 h) (not-true (is_special_of 58 h) (and_parts (not (is_special_of 58 h)) (lacks_special 58 b) lb).0) (sym (ap (is_special_of 58) same) ∙ is)
two_marks (h ∷ a) [] s t x y la lb is it e =
    let same : h ≡ t = cc e in
    both_ways (is_special_of 60 h) (not-true (is_special_of 60 h) (and_parts (not (is_special_of 60 h)) (lacks_special 60 a) la).0) (ap (is_special_of 60) same ∙ it)
two_marks (h ∷ a) (k ∷ b) s t x y la lb is it e =
    let rest : a ++ s ∷ x ≡ b ++ t ∷ y = cc e in
    two_marks a b s t x y (and_parts (not (is_special_of 60 h)) (lacks_special 60 a) la).1 (and_parts (not (is_special_of 58 k)) (lacks_special 58 b) lb).1 is it rest

-- where a name is split off, the element is a group
pub mailbox_no_name : (ts before following : List TokenValue) (m : MailboxValue) → SplitsName ts before following → IsMailbox ts m → ⊥
mailbox_no_name ts before following m s (inl is) =
    not_lacking 58 before following s.splits.at s.splits.is_at (rw (s.splits.whole) at (bare_lacks 58 ts m (λ e. omega (arith, e)) (λ e. omega (arith, e)) is))
mailbox_no_name ts before following m s (inr is) =
    two_marks before is.before s.splits.at is.angled.open_mark following (is.inner ++ is.angled.close_mark ∷ is.angled.after) s.closed (says_lacks 58 is.before m.phrase m.display (λ e. omega (arith, e)) is.named.says)
    s.splits.is_at is.angled.opens (sym s.splits.whole ∙ is.angled.whole)

pub group_parts : (ts before following : List TokenValue) (name : List UnitValue) (ms : List MailboxValue) → SplitsName ts before following → IsGroup ts name ms → IsGroupBy before following name ms
group_parts ts before following name ms s is =
    let other = group_name ts name ms is in
    let cut = cut_once 58 before is.before s.splits.at is.colon following is.following s.splits.first other.splits.first s.splits.is_at is.is_colon (sym s.splits.whole ∙ is.whole) in
    rw (cut.front, cut.rest) is.group

pub element_group : (ts before following : List TokenValue) (e : ElementValue) → SplitsName ts before following → IsElement ts e → SaysGroup before following e
element_group ts before following (One m) s is = absurd (mailbox_no_name ts before following m s is)
element_group ts before following (Group name ms) s is = group_parts ts before following name ms s is

pub group_element : (ts before following : List TokenValue) (e : ElementValue) → SplitsName ts before following → SaysGroup before following e → IsElement ts e
group_element ts before following (One m) s is = absurd is
group_element ts before following (Group name ms) s is = record { before = before; colon = s.splits.at; following = following; whole = s.splits.whole; is_colon = s.splits.is_at; group = is }

pub element_single : (ts : List TokenValue) (e : ElementValue) → ((before following : List TokenValue) → SplitsName ts before following → ⊥) → IsElement ts e → SaysSingle ts e
element_single ts (One m) none is = is
element_single ts (Group name ms) none is = absurd (none is.before is.following (group_name ts name ms is))

pub single_element : (ts : List TokenValue) (e : ElementValue) → SaysSingle ts e → IsElement ts e
single_element ts (One m) is = is
single_element ts (Group name ms) is = absurd is

pub IsElement-once : (ts : List TokenValue) (e f : ElementValue) → IsElement ts e → IsElement ts f → e ≡ f
IsElement-once ts (One m) (One n) p q = ap One (IsMailbox-once ts m n p q)
IsElement-once ts (One m) (Group vs ns) p q = absurd (mailbox_no_name ts q.before q.following m (group_name ts vs ns q) p)
IsElement-once ts (Group us ms) (One n) p q = absurd (mailbox_no_name ts p.before p.following n (group_name ts us ms p) q)
IsElement-once ts (Group us ms) (Group vs ns) p q =
    let same = group_once p.before p.following us vs ms ns p.group (group_parts ts p.before p.following vs ns (group_name ts us ms p) q) in
    let name : us ≡ vs = same.name in
    let members : ms ≡ ns = same.members in
    cc

pub element_not_blank : (ts : List TokenValue) (e : ElementValue) → IsElement ts e → are_blank ts ≡ true → ⊥
element_not_blank ts (One m) is h = mailbox_not_blank ts m is h
element_not_blank ts (Group name ms) is h = not_lacking 58 is.before is.following is.colon is.is_colon (rw (is.whole) at (blank_lacks 58 ts h))

pub place_once : SaysOnce SaysPlace
place_once ts [] [] p q = refl
place_once ts [] (f ∷ []) p q = absurd (element_not_blank ts f q p)
place_once ts [] (f ∷ g ∷ fs) p q = absurd q
place_once ts (e ∷ []) [] p q = absurd (element_not_blank ts e p q)
place_once ts (e ∷ []) (f ∷ []) p q = ap (λ r. r ∷ []) (IsElement-once ts e f p q)
place_once ts (e ∷ []) (f ∷ g ∷ fs) p q = absurd q
place_once ts (e ∷ d ∷ es) fs p q = absurd p

-- ---- where a name is split off

pub no_name : (ts : List TokenValue) → lacks_special 58 ts ≡ true → (before following : List TokenValue) → SplitsName ts before following → ⊥
no_name ts l before following s = not_lacking 58 before following s.splits.at s.splits.is_at (rw (s.splits.whole) at l)

pub name_open : (ts before following : List TokenValue) → SplitsAt 58 ts before following → lacks_special 60 before ≡ false → (a b : List TokenValue) → SplitsName ts a b → ⊥
name_open ts before following s l a b n =
    let cut = cut_once 58 before a s.at n.splits.at following b s.first n.splits.first s.is_at n.splits.is_at (sym s.whole ∙ n.splits.whole) in
    both_ways (lacks_special 60 a) (rw (cut.front) at l) n.closed
