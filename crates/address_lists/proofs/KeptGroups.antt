-- Groups are written.
use Rattle.std.proofs.Common.{◌≡◌, ◌≢◌, ℕ, Bool, true, false, inl, inr, List, [], ◌∷◌, ◌++◌, refl, sym, ap, ◌∙◌, subst, arith}
use Rattle.std.proofs.lemmas.Bool.{both_ways}
use Rattle.std.proofs.lemmas.List.{append_assoc}
use Rattle.std.specs.List.{list_all}
use Rattle.mail_wire.specs.Octets.{is_ascii}
use Rattle.encoded_words.specs.Folding.{lines_of, AddsLines}
use Rattle.encoded_words.proofs.LineLemmas.{adds_both, adds_as}
use Rattle.field_tokens.specs.Tokens.{TokenValue}
use Rattle.field_tokens.specs.Squeezed.{octets_of, comments_of}
use Rattle.field_tokens.specs.Comments.{CommentsPieces}
use Rattle.address_grammar.specs.private.Lexemes.{lacks_special, are_blank, SplitsAt}
use Rattle.address_lists.specs.PhrasePieces.{PlacePieces}
use Rattle.address_grammar.specs.AddressLists.{Divided, SayParts, AreDivided, MailboxValue, IsMailbox, IsOneMailbox, AreMembers, IsGroupBy, IsGroup}
use Rattle.address_lists.specs.ListPieces.{has_served_address, MailboxPieces, with_comma, MemberPieces, MembersPieces, InnerPieces, GroupPieces}
use Rattle.address_lists.specs.private.ListWriting.{CanBeWritten, AsciiPieces, IsServedGroup, IsSomeMailbox, AreSomeMailboxes, AreSomeMembers, GivesMember, GivesMembers}
use Rattle.address_lists.specs.private.Emptied.{GivesGroupUnits, NoMembersPieces}
use Rattle.address_grammar.specs.private.Walks.{SplitsPlace, IsLastPlace}
use Rattle.address_grammar.proofs.LexemeLemmas.{not_lacking, cut_once}
use Rattle.address_grammar.proofs.MailboxLemmas.{phrase_lacks}
use Rattle.address_grammar.proofs.DividedLemmas.{divided_first, divided_last}
use Rattle.address_grammar.proofs.ListLemmas.{one_walked, mailbox_not_blank, group_inner, members_once}
use Rattle.address_lists.proofs.AddedPieces.{adds_piece, adds_comma, some_after}
use Rattle.address_lists.proofs.WritableTokens.{following_can}
use Rattle.address_lists.proofs.ServedMailboxes.{mailbox_some}

-- ---- members

pub false_where : (b : Bool) → (b ≡ true → ⊥) → b ≡ false
false_where true none = absurd (none refl)
false_where false none = refl

pub member_blank : (ts : List TokenValue) (m : MailboxValue) → IsMailbox ts m → are_blank ts ≡ false
member_blank ts m is = false_where (are_blank ts) (mailbox_not_blank ts m is)

pub ascii_member : (ts : List TokenValue) (m : MailboxValue) (old new : List ℕ) → IsMailbox ts m → list_all is_ascii (octets_of ts) ≡ true → AddsLines (AsciiPieces ts) old new → AddsLines (GivesMember ts) old new
ascii_member ts m old new is h a = adds_as (λ ps g. record { member = m; says = is; gives = rw (h) g }) a

pub other_member : (ts : List TokenValue) (m : MailboxValue) (old new : List ℕ) → IsMailbox ts m → list_all is_ascii (octets_of ts) ≡ false → AddsLines (MailboxPieces ts) old new → AddsLines (GivesMember ts) old new
other_member ts m old new is h a = adds_as (λ ps g. record { member = m; says = is; gives = rw (h) g }) a

member_some : (b : Bool) (ts : List TokenValue) (ps : List (List ℕ)) → MemberPieces b ts ps → ps ≢ []
member_some true ts ps is = λ none. some_after [] [] _ (sym is.2 ∙ none)
member_some false ts ps is = mailbox_some ts ps is

-- the members of some parts were written, and rest is left
pub record WritesMembers (ts rest : List TokenValue) (written : List (List ℕ)) : Type 0 where
  pub onward : (ms : List MailboxValue) (d : AreDivided IsOneMailbox rest ms) (more : List (List ℕ)) → MembersPieces d.parts more → GivesMembers ts (written ++ more)
  pub can : CanBeWritten rest
  pub left : AreSomeMailboxes rest

pub members_start : (ts : List TokenValue) → CanBeWritten ts → AreSomeMailboxes ts → WritesMembers ts ts []
members_start ts can known = record { onward = λ ms d more p. record { members = ms; are_members = d; pieces_are = p }; can = can; left = known }

one_some : (ts : List TokenValue) (ms : List MailboxValue) → IsOneMailbox ts ms → IsSomeMailbox ts
one_some ts [] is = absurd is
one_some ts (m ∷ []) is = (m, is)
one_some ts (m ∷ n ∷ ms) is = absurd is

pub part_known : (rest part after : List TokenValue) → AreSomeMailboxes rest → SplitsPlace rest part after → IsSomeMailbox part
part_known rest part after known s = let first = divided_first IsOneMailbox one_walked rest part after known.0 s known.1 in one_some part first.first first.says

pub last_known : (rest : List TokenValue) → AreSomeMailboxes rest → IsLastPlace rest → IsSomeMailbox rest
last_known rest known last = one_some rest known.0 (divided_last IsOneMailbox one_walked rest known.0 last known.1)

pub members_left : (rest part after : List TokenValue) → AreSomeMailboxes rest → SplitsPlace rest part after → AreSomeMailboxes after
members_left rest part after known s = let first = divided_first IsOneMailbox one_walked rest part after known.0 s known.1 in (first.others, first.divided)

members_onward : (ts rest part after : List TokenValue) (written first : List (List ℕ)) → (w : WritesMembers ts rest written) → SplitsPlace rest part after → GivesMember part first
    → (parts : List (List TokenValue)) (ms : List MailboxValue) (more : List (List ℕ)) → Divided 44 parts after → SayParts IsOneMailbox parts ms → MembersPieces parts more
    → GivesMembers ts (written ++ (with_comma first ++ more))
members_onward ts rest part after written first w s g [] ms more d say p = absurd d
members_onward ts rest part after written first w s g (q ∷ parts) ms more d say p =
    let whole : AreDivided IsOneMailbox rest ((g.member ∷ []) ++ ms)
    = record { parts = part ∷ q ∷ parts; divided = (s.comma, after, s.whole, s.is_comma, d); say = (g.member ∷ [], ms, refl, g.says, say) } in
    w.onward ((g.member ∷ []) ++ ms) whole (with_comma first ++ more) (first, more, g.gives, p, refl)

-- a member with a comma after it
abbrev GivesWithComma : List TokenValue → List (List ℕ) → Type 0
GivesWithComma part pieces = (first : List (List ℕ)) × GivesMember part first × (pieces ≡ with_comma first)

members_turn : (ts rest part after : List TokenValue) (written put : List (List ℕ)) → SplitsPlace rest part after → WritesMembers ts rest written → GivesWithComma part put → WritesMembers ts after (written ++ put)
members_turn ts rest part after written put s w g = subst (λ r. WritesMembers ts after (written ++ r)) (sym g.2) (record {
  onward = λ ms d more p. subst (GivesMembers ts) (sym (append_assoc written (with_comma g.0) more)) (members_onward ts rest part after written g.0 w s g.1 d.parts ms more d.divided d.say p);
  can = following_can rest part after s.comma s.whole w.can;
  left = members_left rest part after w.left s;
})

pub members_adds : (ts rest part after : List TokenValue) (old mid put new : List ℕ) → SplitsPlace rest part after → AddsLines (WritesMembers ts rest) old mid → AddsLines (GivesMember part) mid put → new ≡ put ++ 44 ∷ []
    → AddsLines (WritesMembers ts after) old new
members_adds ts rest part after old mid put new s w a e = adds_both (λ xs ys p q. members_turn ts rest part after xs ys s p q) w
    (adds_comma {Q = GivesWithComma part} (λ ps g. member_some (list_all is_ascii (octets_of part)) part ps g.gives) (λ ps g. (ps, g, refl)) a e)

members_end : (ts rest : List TokenValue) (written put : List (List ℕ)) → WritesMembers ts rest written → GivesMember rest put → GivesMembers ts (written ++ put)
members_end ts rest written put w g =
    let last : AreDivided IsOneMailbox rest (g.member ∷ []) = record { parts = rest ∷ []; divided = refl; say = (g.member ∷ [], [], refl, g.says, refl) } in
    w.onward (g.member ∷ []) last put g.gives

pub members_all : (ts rest : List TokenValue) (old mid new : List ℕ) → AddsLines (WritesMembers ts rest) old mid → AddsLines (GivesMember rest) mid new → AddsLines (GivesMembers ts) old new
members_all ts rest old mid new w a = adds_both (λ xs ys p q. members_end ts rest xs ys p q) w a

-- ---- what stands in a group

pub blank_inner : (ts : List TokenValue) (old new : List ℕ) → are_blank ts ≡ true → AddsLines (CommentsPieces (comments_of ts)) old new → AddsLines (InnerPieces ts) old new
blank_inner ts old new h a = adds_as (λ ps p. inl (h, p)) a

pub some_inner : (ts : List TokenValue) (old new : List ℕ) → are_blank ts ≡ false → AddsLines (GivesMembers ts) old new → AddsLines (InnerPieces ts) old new
some_inner ts old new h a = adds_as (λ ps g. inr (h, (g.members, g.are_members, g.pieces_are))) a

members_divided : (ts : List TokenValue) (ms : List MailboxValue) → are_blank ts ≡ false → AreMembers ts ms → AreSomeMailboxes ts
members_divided ts ms some (inl none) = absurd (both_ways (are_blank ts) some none.0)
members_divided ts ms some (inr divided) = (ms, divided)

pub inner_mailboxes : (ts : List TokenValue) → are_blank ts ≡ false → AreSomeMembers ts → AreSomeMailboxes ts
inner_mailboxes ts some known = members_divided ts known.0 some known.1

-- ---- groups

pub no_colon : (ts : List TokenValue) (served : Bool) → IsServedGroup ts served → lacks_special 58 ts ≡ true → ⊥
no_colon ts served g l = let is = g.group in not_lacking 58 is.before is.following is.colon is.is_colon (rw (is.whole) at l)

pub group_at : (ts before following : List TokenValue) (served : Bool) (g : IsServedGroup ts served) → SplitsAt 58 ts before following → IsGroupBy before following g.name g.members
group_at ts before following served g s =
    let is = g.group in
    let cut = cut_once 58 before is.before s.at is.colon following is.following s.first (phrase_lacks 58 is.before (λ e. omega (arith, e)) is.group.is_phrase) s.is_at is.is_colon (sym s.whole ∙ is.whole) in
    rw (cut.front, cut.rest) is.group

pub no_semicolon : (ts before following : List TokenValue) (served : Bool) → IsServedGroup ts served → SplitsAt 58 ts before following → lacks_special 59 following ≡ true → ⊥
no_semicolon ts before following served g s l = let is = group_at ts before following served g s in not_lacking 59 is.inner is.after is.semicolon is.is_semicolon (rw (is.whole) at l)

pub inner_members : (ts before following inner after : List TokenValue) (served : Bool) (g : IsServedGroup ts served) → SplitsAt 58 ts before following → SplitsAt 59 following inner after → AreMembers inner g.members
inner_members ts before following inner after served g s t = (group_inner before following inner after g.name g.members t (group_at ts before following served g s)).1

pub inner_known : (ts before following inner after : List TokenValue) (served : Bool) → IsServedGroup ts served → SplitsAt 58 ts before following → SplitsAt 59 following inner after → AreSomeMembers inner
inner_known ts before following inner after served g s t = (g.members, inner_members ts before following inner after served g s t)

pub group_with : (ts before following inner after : List TokenValue) (served : Bool) (g : IsServedGroup ts served) (s : SplitsAt 58 ts before following) (t : SplitsAt 59 following inner after) → IsGroupBy before following g.name g.members
group_with ts before following inner after served g s t =
    let is = group_at ts before following served g s in
    let both = group_inner before following inner after g.name g.members t is in
    record {
      inner = inner;
      semicolon = t.at;
      after = after;
      whole = t.whole;
      is_semicolon = t.is_at;
      nothing_after = both.0;
      is_phrase = is.is_phrase;
      says = is.says;
      are_members = both.1;
    }

-- a mark and pieces after it
abbrev MarkThen : ℕ → (List (List ℕ) → Type 0) → List (List ℕ) → Type 0
MarkThen mark P pieces = (more : List (List ℕ)) × P more × (pieces ≡ (mark ∷ []) ∷ more)

abbrev Both : (List (List ℕ) → Type 0) → (List (List ℕ) → Type 0) → List (List ℕ) → Type 0
Both P Q pieces = (first more : List (List ℕ)) × P first × Q more × (pieces ≡ first ++ more)

mark_then : {P : List (List ℕ) → Type 0} → {old mid new : List ℕ} → (mark : ℕ) → mid ≡ old ++ lines_of ((mark ∷ []) ∷ []) → AddsLines P mid new → AddsLines (MarkThen mark P) old new
mark_then {old = old} {mid = mid} mark e a = adds_both (λ xs ys is p. (ys, p, ap (λ r. r ++ ys) is)) (adds_piece (mark ∷ []) old mid e) a

both : {P Q : List (List ℕ) → Type 0} → {old mid new : List ℕ} → AddsLines P old mid → AddsLines Q mid new → AddsLines (Both P Q) old new
both a b = adds_both (λ xs ys p q. (xs, ys, p, q, refl)) a b

kept_made : (ts before following inner after : List TokenValue) (pieces : List (List ℕ)) → (g : IsServedGroup ts true) → (s : SplitsAt 58 ts before following) → (t : SplitsAt 59 following inner after)
    → Both (PlacePieces before) (MarkThen 58 (Both (InnerPieces inner) (MarkThen 59 (CommentsPieces (comments_of after))))) pieces → GroupPieces ts pieces
unfolding group_with
kept_made ts before following inner after pieces g s t p =
    let marked = p.3 in
    let rest = marked.1 in
    let closed = rest.3 in
    GroupPieces.Kept g.name g.members p.0 rest.0 closed.0
    (record { before = before; colon = s.at; following = following; whole = s.whole; is_colon = s.is_at; group = group_with ts before following inner after true g s t }) (sym g.served) p.2 rest.2 closed.1
    (p.4 ∙ ap (λ r. p.0 ++ r) (marked.2 ∙ ap (λ r. (58 ∷ []) ∷ r) (rest.4 ∙ ap (λ r. rest.0 ++ r) closed.2)))

pub kept_adds : (ts before following inner after : List TokenValue) (old a b c d new : List ℕ) → IsServedGroup ts true → SplitsAt 58 ts before following → SplitsAt 59 following inner after
    → AddsLines (PlacePieces before) old a → b ≡ a ++ lines_of ((58 ∷ []) ∷ []) → AddsLines (InnerPieces inner) b c → d ≡ c ++ lines_of ((59 ∷ []) ∷ []) → AddsLines (CommentsPieces (comments_of after)) d new
    → AddsLines (GroupPieces ts) old new
kept_adds ts before following inner after old a b c d new g s t p e q f r = adds_as (λ ps x. kept_made ts before following inner after ps g s t x) (both p (mark_then 58 e (both q (mark_then 59 f r))))

-- the members that aren't all served are some
pub not_kept_members : (ts before following inner after : List TokenValue) → IsServedGroup ts false → SplitsAt 58 ts before following → SplitsAt 59 following inner after → AreSomeMailboxes inner
not_kept_members ts before following inner after g s t = by g.members g.served (inner_members ts before following inner after false g s t)
  where
    by : (ms : List MailboxValue) → false ≡ list_all has_served_address ms → AreMembers inner ms → AreSomeMailboxes inner
    by ms e (inl none) = cc (e ∙ ap (list_all has_served_address) none.1)
    by ms e (inr divided) = (ms, divided)

pub emptied_group : (ts before following inner after : List TokenValue) (old mid new : List ℕ) → (g : IsServedGroup ts false) → SplitsAt 58 ts before following → SplitsAt 59 following inner after
    → AddsLines (GivesGroupUnits before inner) old mid → AddsLines (NoMembersPieces ts) mid new → AddsLines (GroupPieces ts) old new
emptied_group ts before following inner after old mid new g s t a b = adds_both (λ words rest p q.
    let is = group_at ts before following false g s in
    let both = group_inner before following inner after g.name g.members t is in
    let same : g.members ≡ p.members = members_once inner g.members p.members both.1 (inr p.are_members) in
    let whole : IsGroup ts p.said p.members
    = record {
      before = before;
      colon = s.at;
      following = following;
      whole = s.whole;
      is_colon = s.is_at;
      group = record { inner = inner; semicolon = t.at; after = after; whole = t.whole; is_semicolon = t.is_at; nothing_after = both.0; is_phrase = is.is_phrase; says = p.has_units; are_members = inr p.are_members };
    } in
    GroupPieces.Emptied p.said p.members words q.0 whole (ap (list_all has_served_address) (sym same) ∙ sym g.served) p.write q.1 (ap (λ r. words ++ r) q.2)) a b

pub group_some : (ts : List TokenValue) (ps : List (List ℕ)) → GroupPieces ts ps → ps ≢ []
group_some ts ps (GroupPieces.Kept name members first inner comments g plain p i cs e) = λ none. some_after first (inner ++ (59 ∷ []) ∷ comments) (58 ∷ []) (sym e ∙ none)
group_some ts ps (GroupPieces.Emptied name members words comments g plain w cs e) = λ none. some_after words comments _ (sym e ∙ none)
