-- Lists of addresses are written in one way.
use Rattle.std.proofs.Common.{◌≡◌, ℕ, Bool, true, false, inl, inr, List, [], ◌∷◌, ◌++◌, Some, None, refl, sym, ap, ◌∙◌, subst, arith}
use Rattle.std.proofs.lemmas.Bool.{both_ways}
use Rattle.std.specs.List.{list_all}
use Rattle.mail_wire.specs.Octets.{is_ascii}
use Rattle.encoded_words.specs.Words.{UnitValue}
use Rattle.encoded_words.specs.Written.{WriteAll}
use Rattle.encoded_words.proofs.AddedUnits.{WriteAll-once}
use Rattle.field_tokens.specs.Tokens.{TokenValue}
use Rattle.field_tokens.specs.Squeezed.{is_gap, octets_of, comments_of}
use Rattle.field_tokens.specs.Comments.{CommentsPieces}
use Rattle.field_tokens.proofs.CommentValues.{CommentsPieces-once}
use Rattle.address_grammar.specs.declared.Address.{Address}
use Rattle.address_grammar.specs.private.Lexemes.{lacks_special, are_blank}
use Rattle.address_grammar.specs.Addresses.{address_text}
use Rattle.address_grammar.specs.Paths.{IsAngled, IsFirstAngled, in_angles}
use Rattle.address_lists.specs.PhrasePieces.{HasCore, PhrasePieces, PlacePieces}
use Rattle.address_grammar.specs.private.PhraseSteps.{BeginsNoGap}
use Rattle.address_grammar.specs.AddressLists.{Divided, MailboxValue, IsNamedBy, IsNamed, IsMailbox, IsOneMailbox, IsGroup, SaysPlace}
use Rattle.address_lists.specs.ListPieces.{served_address, has_served_address, mailbox_units, group_units, no_members, MailboxPieces, Bare, Angled, Named, Emptied, HasText, MemberPieces, with_comma, MembersPieces, InnerPieces, GroupPieces, Kept, ElementPieces, PlaceOfListPieces, comma_followed, PlacesPieces, AddressesPieces}
use Rattle.address_grammar.proofs.LexemeLemmas.{cut_once}
use Rattle.address_grammar.proofs.PathLemmas.{SameAngles, angles_once, HasTokenValues-once}
use Rattle.address_grammar.proofs.MailboxLemmas.{phrase_lacks, says_lacks, routed_lacks}
use Rattle.address_grammar.proofs.DividedLemmas.{parts_same}
use Rattle.address_lists.proofs.WrittenPhrases.{gaps_once, trail_once, core_once, PhrasePieces-once, PlacePieces-once}
use Rattle.address_grammar.proofs.ListLemmas.{one_walked, not_both, IsMailbox-once, mailbox_no_name, members_lack, SameGroup, group_name, group_parts, group_once, place_walked}

-- ---- texts

text_begins : (tokens text : List TokenValue) (has : HasText tokens text) → BeginsNoGap (text ++ has.trail)
text_begins tokens text has = rw (has.begins.2) (has.begins.3)

HasText-once : (tokens text other : List TokenValue) → HasText tokens text → HasText tokens other → text ≡ other
HasText-once tokens text other p q =
    let lead = gaps_once p.lead q.lead (text ++ p.trail) (other ++ q.trail) p.lead_gaps q.lead_gaps (text_begins tokens text p) (text_begins tokens other q) (sym p.whole ∙ q.whole) in
    let same : (p.ends.0 ++ p.ends.1 ∷ []) ++ p.trail ≡ (q.ends.0 ++ q.ends.1 ∷ []) ++ q.trail
    = ap (λ r. r ++ p.trail) (sym p.ends.2) ∙ lead.rest ∙ ap (λ r. r ++ q.trail) q.ends.2 in
    let r = trail_once (λ t. is_gap t.kind) p.ends.0 q.ends.0 p.ends.1 q.ends.1 p.trail q.trail p.ends.3 q.ends.3 p.trail_gaps q.trail_gaps same in
    p.ends.2 ∙ r.front ∙ sym q.ends.2

-- ---- mailboxes

named_by : (ts before inner : List TokenValue) (m : MailboxValue) → IsAngled ts before inner → IsNamedBy before inner m → IsNamed ts m
named_by ts before inner m angled named = record { before = before; inner = inner; angled = angled; named = named }

-- a mailbox that can be served, and one that can't
served_or_not : (ts : List TokenValue) (m n : MailboxValue) (served : Address) → IsMailbox ts m → IsMailbox ts n → served_address m.address ≡ Some served → served_address n.address ≡ None → ⊥
served_or_not ts m n served p q e f =
    let same : served_address m.address ≡ served_address n.address = ap (λ (k : MailboxValue). served_address k.address) (IsMailbox-once ts m n p q) in
    cc (sym e ∙ same ∙ f)

phrase_or_not : (ts : List TokenValue) (m n : MailboxValue) → IsMailbox ts m → IsMailbox ts n → m.phrase ≡ true → n.phrase ≡ false → ⊥
phrase_or_not ts m n p q e f = both_ways n.phrase f (sym (ap (λ (k : MailboxValue). k.phrase) (IsMailbox-once ts m n p q)) ∙ e)

served_same : (ts : List TokenValue) (m n : MailboxValue) (s t : Address) → IsMailbox ts m → IsMailbox ts n → served_address m.address ≡ Some s → served_address n.address ≡ Some t → s ≡ t
served_same ts m n s t p q e f =
    let same : served_address m.address ≡ served_address n.address = ap (λ (k : MailboxValue). served_address k.address) (IsMailbox-once ts m n p q) in
    cc (sym e ∙ same ∙ f)

units_same : (ts : List TokenValue) (m n : MailboxValue) (vs ws : List (List ℕ)) → IsMailbox ts m → IsMailbox ts n → WriteAll (mailbox_units m) vs → WriteAll (mailbox_units n) ws → vs ≡ ws
units_same ts m n vs ws p q v w = WriteAll-once (mailbox_units n) vs ws (subst (λ k. WriteAll (mailbox_units k) vs) (IsMailbox-once ts m n p q) v) w

open_first : (before inner : List TokenValue) (m : MailboxValue) → IsNamedBy before inner m → lacks_special 60 before ≡ true
open_first before inner m named = says_lacks 60 before m.phrase m.display (λ e. omega (arith, e)) named.says

close_first : (before inner : List TokenValue) (m : MailboxValue) → IsNamedBy before inner m → lacks_special 62 inner ≡ true
close_first before inner m named = routed_lacks 62 inner m.address (λ e. omega (arith, e)) (λ e. omega (arith, e)) (λ e. omega (arith, e)) (λ e. omega (arith, e)) named.address

abbrev first_angled : (ts before inner : List TokenValue) (m : MailboxValue) → IsAngled ts before inner → IsNamedBy before inner m → IsFirstAngled ts before inner
first_angled ts before inner m angled named = record { angled = angled; first_open = open_first before inner m named; first_close = close_first before inner m named }

angles_same : (ts a b x y : List TokenValue) (m n : MailboxValue) (p : IsAngled ts a x) (q : IsAngled ts b y) → IsNamedBy a x m → IsNamedBy b y n → SameAngles a b x y p.after q.after
angles_same ts a b x y m n p q pn qn = angles_once ts a b x y (first_angled ts a x m p pn) (first_angled ts b y n q qn)

firsts_same : (a b core trail other following : List TokenValue) (ps qs : List (List ℕ)) → a ≡ b → HasCore a core trail → HasCore b other following
    → PhrasePieces (list_all is_ascii (octets_of core)) core ps → PhrasePieces (list_all is_ascii (octets_of other)) other qs → (trail ≡ following) × (ps ≡ qs)
firsts_same a b core trail other following ps qs e p q f g =
    let same = core_once b core trail other following (subst (λ r. HasCore r core trail) e p) q in
    (same.rest, PhrasePieces-once (list_all is_ascii (octets_of other)) other ps qs (subst (λ ts. PhrasePieces (list_all is_ascii (octets_of ts)) ts ps) same.front f) g)

comments_same : (ts us : List TokenValue) (ps qs : List (List ℕ)) → ts ≡ us → CommentsPieces (comments_of ts) ps → CommentsPieces (comments_of us) qs → ps ≡ qs
comments_same ts us ps qs e p q = CommentsPieces-once (comments_of us) ps qs (subst (λ r. CommentsPieces (comments_of r) ps) e p) q

MailboxPieces-once : (ts : List TokenValue) (ps qs : List (List ℕ)) → MailboxPieces ts ps → MailboxPieces ts qs → ps ≡ qs
MailboxPieces-once ts ps qs (Bare m s cs is e c w) (Bare n t ds js f d v) =
    let served : s ≡ t = served_same ts m n s t (inl is) (inl js) e f in
    w ∙ ap (λ (a : Address). address_text a ∷ cs) served ∙ ap (λ r. address_text t ∷ r) (comments_same ts ts cs ds refl c d) ∙ sym v
MailboxPieces-once ts ps qs (Bare m s cs is e c w) (Angled n t before inner ds a js none f d v) = absurd (not_both ts m n is (named_by ts before inner n a js))
MailboxPieces-once ts ps qs (Bare m s cs is e c w) (Named n t before inner core trail first ds a js some has phrase f d v) = absurd (not_both ts m n is (named_by ts before inner n a js))
MailboxPieces-once ts ps qs (Bare m s cs is e c w) (Emptied n words ds js f write d v) = absurd (served_or_not ts m n s (inl is) js e f)
MailboxPieces-once ts ps qs (Angled m s before inner cs a is none e c w) (Bare n t ds js f d v) = absurd (not_both ts n m js (named_by ts before inner m a is))
MailboxPieces-once ts ps qs (Angled m s before inner cs a is none e c w) (Angled n t x y ds b js nothing f d v) =
    let served : s ≡ t = served_same ts m n s t (inr (named_by ts before inner m a is)) (inr (named_by ts x y n b js)) e f in
    w ∙ ap (λ (a : Address). in_angles (address_text a) ∷ cs) served ∙ ap (λ r. in_angles (address_text t) ∷ r) (comments_same ts ts cs ds refl c d) ∙ sym v
MailboxPieces-once ts ps qs (Angled m s before inner cs a is none e c w) (Named n t x y core trail first ds b js some has phrase f d v) =
    absurd (phrase_or_not ts n m (inr (named_by ts x y n b js)) (inr (named_by ts before inner m a is)) some none)
MailboxPieces-once ts ps qs (Angled m s before inner cs a is none e c w) (Emptied n words ds js f write d v) = absurd (served_or_not ts m n s (inr (named_by ts before inner m a is)) js e f)
MailboxPieces-once ts ps qs (Named m s before inner core trail first cs a is some has phrase e c w) (Bare n t ds js f d v) = absurd (not_both ts n m js (named_by ts before inner m a is))
MailboxPieces-once ts ps qs (Named m s before inner core trail first cs a is some has phrase e c w) (Angled n t x y ds b js none f d v) =
    absurd (phrase_or_not ts m n (inr (named_by ts before inner m a is)) (inr (named_by ts x y n b js)) some none)
MailboxPieces-once ts ps qs (Named m s before inner core trail first cs a is some has phrase e c w) (Named n t x y other following front ds b js one haves words f d v) =
    let served : s ≡ t = served_same ts m n s t (inr (named_by ts before inner m a is)) (inr (named_by ts x y n b js)) e f in
    let angles = angles_same ts before x inner y m n a b is js in
    let firsts = firsts_same before x core trail other following first front angles.before has haves phrase words in
    let rest : trail ++ inner ++ a.after ≡ following ++ y ++ b.after
    = ap (λ r. (r ++ inner) ++ a.after) firsts.0 ∙ ap (λ r. (following ++ r) ++ a.after) angles.inner ∙ ap (λ r. (following ++ y) ++ r) angles.after in
    let comments = comments_same (trail ++ inner ++ a.after) (following ++ y ++ b.after) cs ds rest c d in
    w ∙ ap (λ r. r ++ in_angles (address_text s) ∷ cs) firsts.1 ∙ ap (λ (k : Address). front ++ in_angles (address_text k) ∷ cs) served ∙ ap (λ r. front ++ in_angles (address_text t) ∷ r) comments ∙ sym v
MailboxPieces-once ts ps qs (Named m s before inner core trail first cs a is some has phrase e c w) (Emptied n words ds js f write d v) =
    absurd (served_or_not ts m n s (inr (named_by ts before inner m a is)) js e f)
MailboxPieces-once ts ps qs (Emptied n words ds js f write d v) (Bare m s cs is e c w) = absurd (served_or_not ts m n s (inl is) js e f)
MailboxPieces-once ts ps qs (Emptied n words ds js f write d v) (Angled m s before inner cs a is none e c w) = absurd (served_or_not ts m n s (inr (named_by ts before inner m a is)) js e f)
MailboxPieces-once ts ps qs (Emptied n words ds js f write d v) (Named m s before inner core trail first cs a is some has phrase e c w) =
    absurd (served_or_not ts m n s (inr (named_by ts before inner m a is)) js e f)
MailboxPieces-once ts ps qs (Emptied m vs cs is e p c w) (Emptied n ws ds js f q d v) =
    w ∙ ap (λ r. r ++ no_members ∷ cs) (units_same ts m n vs ws is js p q) ∙ ap (λ r. ws ++ no_members ∷ r) (comments_same ts ts cs ds refl c d) ∙ sym v

-- ---- members

MemberPieces-once : (b : Bool) (ts : List TokenValue) (ps qs : List (List ℕ)) → MemberPieces b ts ps → MemberPieces b ts qs → ps ≡ qs
MemberPieces-once true ts ps qs p q = p.2 ∙ ap (λ r. octets_of r ∷ []) (HasText-once ts p.0 q.0 p.1 q.1) ∙ sym q.2
MemberPieces-once false ts ps qs p q = MailboxPieces-once ts ps qs p q

MembersPieces-once : (parts : List (List TokenValue)) (ps qs : List (List ℕ)) → MembersPieces parts ps → MembersPieces parts qs → ps ≡ qs
MembersPieces-once [] ps qs p q = absurd p
MembersPieces-once (t ∷ []) ps qs p q = MemberPieces-once (list_all is_ascii (octets_of t)) t ps qs p q
MembersPieces-once (t ∷ u ∷ parts) ps qs p q =
    let first = MemberPieces-once (list_all is_ascii (octets_of t)) t p.0 q.0 p.2 q.2 in
    let more = MembersPieces-once (u ∷ parts) p.1 q.1 p.3 q.3 in
    p.4 ∙ ap (λ r. with_comma r ++ p.1) first ∙ ap (λ r. with_comma q.0 ++ r) more ∙ sym q.4

InnerPieces-once : (ts : List TokenValue) (ps qs : List (List ℕ)) → InnerPieces ts ps → InnerPieces ts qs → ps ≡ qs
InnerPieces-once ts ps qs (inl p) (inl q) = comments_same ts ts ps qs refl p.1 q.1
InnerPieces-once ts ps qs (inl p) (inr q) = absurd (both_ways (are_blank ts) q.0 p.0)
InnerPieces-once ts ps qs (inr p) (inl q) = absurd (both_ways (are_blank ts) p.0 q.0)
InnerPieces-once ts ps qs (inr p) (inr q) =
    let d = p.1.1 in
    let e = q.1.1 in
    let same = parts_same IsOneMailbox one_walked d.parts e.parts ts p.1.0 q.1.0 d.divided d.say e.divided e.say in
    MembersPieces-once e.parts ps qs (subst (λ r. MembersPieces r ps) same p.1.2) q.1.2

-- ---- groups

IsGroup-once : (ts : List TokenValue) (us vs : List UnitValue) (ms ns : List MailboxValue) → IsGroup ts us ms → IsGroup ts vs ns → SameGroup us vs ms ns
IsGroup-once ts us vs ms ns p q = group_once p.before p.following us vs ms ns p.group (group_parts ts p.before p.following vs ns (group_name ts us ms p) q)

groups_same : (ts : List TokenValue) (us vs : List UnitValue) (ms ns : List MailboxValue) (p : IsGroup ts us ms) (q : IsGroup ts vs ns)
    → SameAngles p.before q.before p.group.inner q.group.inner p.group.after q.group.after
groups_same ts us vs ms ns p q =
    let name = cut_once 58 p.before q.before p.colon q.colon p.following q.following (phrase_lacks 58 p.before (λ e. omega (arith, e)) p.group.is_phrase) (phrase_lacks 58 q.before (λ e. omega (arith, e)) q.group.is_phrase)
    p.is_colon q.is_colon (sym p.whole ∙ q.whole) in
    let inner = cut_once 59 p.group.inner q.group.inner p.group.semicolon q.group.semicolon p.group.after q.group.after (members_lack p.group.inner ms p.group.are_members) (members_lack q.group.inner ns q.group.are_members)
    p.group.is_semicolon q.group.is_semicolon (sym p.group.whole ∙ name.rest ∙ q.group.whole) in
    record { before = name.front; inner = inner.front; after = inner.rest }

plain_or_not : (ts : List TokenValue) (us vs : List UnitValue) (ms ns : List MailboxValue) → IsGroup ts us ms → IsGroup ts vs ns → list_all has_served_address ms ≡ true → list_all has_served_address ns ≡ false → ⊥
plain_or_not ts us vs ms ns p q e f = both_ways (list_all has_served_address ns) f (sym (ap (list_all has_served_address) (IsGroup-once ts us vs ms ns p q).members) ∙ e)

group_units_same : (ts : List TokenValue) (us vs : List UnitValue) (ms ns : List MailboxValue) (ps qs : List (List ℕ)) → IsGroup ts us ms → IsGroup ts vs ns
    → WriteAll (group_units us ms) ps → WriteAll (group_units vs ns) qs → ps ≡ qs
group_units_same ts us vs ms ns ps qs p q v w =
    let same = IsGroup-once ts us vs ms ns p q in
    let units : group_units us ms ≡ group_units vs ns = ap (λ r. group_units r ms) same.name ∙ ap (λ r. group_units vs r) same.members in
    WriteAll-once (group_units vs ns) ps qs (subst (λ r. WriteAll r ps) units v) w

GroupPieces-once : (ts : List TokenValue) (ps qs : List (List ℕ)) → GroupPieces ts ps → GroupPieces ts qs → ps ≡ qs
GroupPieces-once ts ps qs (Kept us ms first inner cs g plain place within c w) (Kept vs ns front middle ds h served name between d v) =
    let same = groups_same ts us vs ms ns g h in
    let one : first ≡ front = PlacePieces-once h.before first front (subst (λ r. PlacePieces r first) same.before place) name in
    let two : inner ≡ middle = InnerPieces-once h.group.inner inner middle (subst (λ r. InnerPieces r inner) same.inner within) between in
    let three : cs ≡ ds = comments_same g.group.after h.group.after cs ds same.after c d in
    w ∙ ap (λ r. r ++ (58 ∷ []) ∷ (inner ++ (59 ∷ []) ∷ cs)) one ∙ ap (λ r. front ++ (58 ∷ []) ∷ (r ++ (59 ∷ []) ∷ cs)) two ∙ ap (λ r. front ++ (58 ∷ []) ∷ (middle ++ (59 ∷ []) ∷ r)) three ∙ sym v
GroupPieces-once ts ps qs (Kept us ms first inner cs g plain place within c w) (Emptied vs ns words ds h none write d v) = absurd (plain_or_not ts us vs ms ns g h plain none)
GroupPieces-once ts ps qs (Emptied vs ns words ds h none write d v) (Kept us ms first inner cs g plain place within c w) = absurd (plain_or_not ts us vs ms ns g h plain none)
GroupPieces-once ts ps qs (Emptied us ms xs cs g none p c w) (Emptied vs ns ys ds h other q d v) =
    w ∙ ap (λ r. r ++ no_members ∷ cs) (group_units_same ts us vs ms ns xs ys g h p q) ∙ ap (λ r. ys ++ no_members ∷ r) (comments_same ts ts cs ds refl c d) ∙ sym v

-- ---- lists

pub mailbox_pieces : (ts : List TokenValue) (ps : List (List ℕ)) → MailboxPieces ts ps → (m : MailboxValue) × IsMailbox ts m
mailbox_pieces ts ps (Bare m s cs is e c w) = (m, inl is)
mailbox_pieces ts ps (Angled m s before inner cs a is none e c w) = (m, inr (named_by ts before inner m a is))
mailbox_pieces ts ps (Named m s before inner core trail first cs a is some has phrase e c w) = (m, inr (named_by ts before inner m a is))
mailbox_pieces ts ps (Emptied m words cs is e write c w) = (m, is)

mailbox_or_group : (ts : List TokenValue) (ps qs : List (List ℕ)) → MailboxPieces ts ps → GroupPieces ts qs → ⊥
mailbox_or_group ts ps qs p (Kept us ms first inner cs g plain place within c w) = let m = mailbox_pieces ts ps p in mailbox_no_name ts g.before g.following m.0 (group_name ts us ms g) m.1
mailbox_or_group ts ps qs p (Emptied us ms words cs g none write c w) = let m = mailbox_pieces ts ps p in mailbox_no_name ts g.before g.following m.0 (group_name ts us ms g) m.1

ElementPieces-once : (b : Bool) (ts : List TokenValue) (ps qs : List (List ℕ)) → ElementPieces b ts ps → ElementPieces b ts qs → ps ≡ qs
ElementPieces-once true ts ps qs p q = p.2 ∙ ap (λ r. octets_of r ∷ []) (HasText-once ts p.0 q.0 p.1 q.1) ∙ sym q.2
ElementPieces-once false ts ps qs (inl p) (inl q) = MailboxPieces-once ts ps qs p q
ElementPieces-once false ts ps qs (inl p) (inr q) = absurd (mailbox_or_group ts ps qs p q)
ElementPieces-once false ts ps qs (inr p) (inl q) = absurd (mailbox_or_group ts qs ps q p)
ElementPieces-once false ts ps qs (inr p) (inr q) = GroupPieces-once ts ps qs p q

PlaceOfListPieces-once : (b : Bool) (ts : List TokenValue) (ps qs : List (List ℕ)) → PlaceOfListPieces b ts ps → PlaceOfListPieces b ts qs → ps ≡ qs
PlaceOfListPieces-once true ts ps qs p q = comments_same ts ts ps qs refl p q
PlaceOfListPieces-once false ts ps qs p q = ElementPieces-once (list_all is_ascii (octets_of ts)) ts ps qs p q

PlacesPieces-once : (places : List (List TokenValue)) (ps qs : List (List ℕ)) → PlacesPieces places ps → PlacesPieces places qs → ps ≡ qs
PlacesPieces-once [] ps qs p q = p ∙ sym q
PlacesPieces-once (t ∷ places) ps qs p q =
    let first = PlaceOfListPieces-once (are_blank t) t p.0 q.0 p.2 q.2 in
    let more = PlacesPieces-once places p.1 q.1 p.3 q.3 in
    p.4 ∙ ap (λ r. comma_followed t places r ++ p.1) first ∙ ap (λ r. comma_followed t places q.0 ++ r) more ∙ sym q.4

-- a list of addresses has one list of pieces
pub AddressesPieces-once : (text : List ℕ) (ps qs : List (List ℕ)) → AddressesPieces text ps → AddressesPieces text qs → ps ≡ qs
AddressesPieces-once text ps qs p q =
    let a = p.are_elements in
    let b = q.are_elements in
    let tokens : q.tokens ≡ p.tokens = HasTokenValues-once text q.tokens p.tokens q.has p.has in
    let same = parts_same SaysPlace place_walked a.parts b.parts p.tokens p.elements q.elements a.divided a.say (subst (Divided 44 b.parts) tokens b.divided) b.say in
    PlacesPieces-once b.parts ps qs (subst (λ r. PlacesPieces r ps) same p.pieces_are) q.pieces_are
