-- What the pieces of a group read as.
use Rattle.std.proofs.Common.{◌≡◌, ℕ, Bool, true, false, inl, inr, List, [], ◌∷◌, ◌++◌, refl, sym, ap, ◌∙◌, subst, arith}
use Rattle.std.proofs.lemmas.Bool.{and_parts, and_from, both_ways}
use Rattle.std.proofs.lemmas.List.{append_assoc, append-nil}
use Rattle.std.proofs.lemmas.List.Folds.{list_all-append}
use Rattle.std.specs.List.{AllByRecursion, AllZip, list_all}
use Rattle.mail_wire.specs.Octets.{is_ascii}
use Rattle.encoded_words.specs.Words.{UnitValue}
use Rattle.encoded_words.specs.Written.{WriteAll}
use Rattle.field_tokens.specs.Tokens.{TokenValue}
use Rattle.field_tokens.specs.Squeezed.{octets_of, comments_of, space}
use Rattle.field_tokens.specs.Comments.{CommentValue, CommentsSay, CommentsPieces}
use Rattle.field_tokens.proofs.Parts.{comments_of-append}
use Rattle.address_grammar.specs.private.Lexemes.{HasMailTokens, is_blank_token, is_special_of, are_blank}
use Rattle.address_lists.specs.PhrasePieces.{PlacePieces}
use Rattle.address_grammar.specs.AddressLists.{Divided, MailboxValue, SayParts, AreDivided, IsOneMailbox, AreMembers, Group, IsGroup}
use Rattle.address_lists.specs.ListPieces.{has_served_address, group_units, no_members, MemberPieces, with_comma, MembersPieces, InnerPieces, GroupPieces, Kept, Emptied}
use Rattle.address_lists.specs.ListReadBack.{IsServedMailbox}
use Rattle.address_grammar.proofs.SoundLemmas.{IsSound, sound_front, sound_rest}
use Rattle.address_lists.proofs.PlaceTokens.{HasTokenValues-part}
use Rattle.address_grammar.proofs.WritingLemmas.{mark}
use Rattle.address_grammar.proofs.ListLemmas.{one_walked, one_once, members_not_blank, IsElement-once}
use Rattle.address_grammar.proofs.DividedLemmas.{divided_once}
use Rattle.address_lists.proofs.PhrasesAgain.{CommentsSay-append, say_both, phrase_before, units_before, PlacePieces-read}
use Rattle.address_lists.proofs.PhraseListsAgain.{comma}
use Rattle.address_lists.proofs.MadeTokens.{AreMade, made_two, made_divided, made_mark, MadePhrase, again_phrase, text_line_comments, MadeAfter, comments_after}
use Rattle.address_lists.proofs.AmongBlanks.{divided_put, mailboxes_after, mailboxes_before}
use Rattle.address_lists.proofs.EmptiedGroups.{members_sound, group_stands, emptied_again}
use Rattle.address_lists.proofs.MailboxesAgain.{IsMailboxAgain, IsElementAgain, text_sound, mark_comments, IsMailboxIn, plain_again}
use Rattle.address_lists.proofs.AsciiElements.{ascii_member_again}

-- ---- tokens around a mark

-- what stands before a mark in a text, and what stands after it
pub record CutsText (n : ℕ) (ts before after : List TokenValue) : Type 0 where
  pub front : HasMailTokens (octets_of before) before
  pub rest : HasMailTokens (octets_of after) after
  pub comments : comments_of ts ≡ comments_of before ++ comments_of after

pub cut_text : (n : ℕ) (ts before after : List TokenValue) (t : TokenValue) → HasMailTokens (octets_of ts) ts → ts ≡ before ++ t ∷ after → is_special_of n t ≡ true → CutsText n ts before after
cut_text n ts before after t has whole is =
    let following : ts ≡ (before ++ t ∷ []) ++ (after ++ []) = whole ∙ sym (append_assoc before (t ∷ []) after) ∙ ap (λ r. (before ++ t ∷ []) ++ r) (sym (append-nil after)) in
    record {
      front = HasTokenValues-part (octets_of ts) [] before (t ∷ after) (subst (HasMailTokens (octets_of ts)) whole has);
      rest = HasTokenValues-part (octets_of ts) (before ++ t ∷ []) after [] (subst (HasMailTokens (octets_of ts)) following has);
      comments = ap comments_of whole ∙ mark_comments n before after t is;
    }

-- ---- members

member_again : (b : Bool) (ts : List TokenValue) (m : MailboxValue) (values : List CommentValue) (pieces : List (List ℕ)) → list_all is_ascii (octets_of ts) ≡ b → IsMailboxIn ts m values → has_served_address m ≡ true
    → MemberPieces b ts pieces → IsMailboxAgain m values pieces
member_again true ts m values pieces ascii is plain given = rw (given.2) (ascii_member_again ts given.0 m values is ascii given.1)
member_again false ts m values pieces other is plain given = plain_again ts m values pieces is plain given

-- the pieces are these mailboxes, with their addresses as they are served
pub record AreMailboxesAgain (ms : List MailboxValue) (values : List CommentValue) (pieces : List (List ℕ)) : Type 0 where
  pub made : List MailboxValue
  pub same : AllZip IsServedMailbox ms made
  pub tokens : List TokenValue
  pub divided : AreDivided IsOneMailbox tokens made
  pub say : CommentsSay (comments_of tokens) values
  pub are_made : AreMade tokens pieces

last_member : (m : MailboxValue) (values : List CommentValue) (pieces : List (List ℕ)) → IsMailboxAgain m values pieces → AreMailboxesAgain (m ∷ []) values pieces
last_member m values pieces is = record {
  made = is.made ∷ [];
  same = (is.same, tt);
  tokens = is.tokens;
  divided = record { parts = is.tokens ∷ []; divided = refl; say = (is.made ∷ [], [], refl, is.is_mailbox, refl) };
  say = is.say;
  are_made = is.are_made;
}

next_member : (m : MailboxValue) (ms : List MailboxValue) (front following : List CommentValue) (first others : List (List ℕ)) → IsMailboxAgain m front first → AreMailboxesAgain ms following others
    → AreMailboxesAgain (m ∷ ms) (front ++ following) (with_comma first ++ others)
next_member m ms front following first others one more = record {
  made = one.made ∷ more.made;
  same = (one.same, more.same);
  tokens = one.tokens ++ comma ∷ space ∷ more.tokens;
  divided = divided_put IsOneMailbox one.tokens (one.tokens ++ comma ∷ space ∷ more.tokens) (space ∷ more.tokens) comma (one.made ∷ []) more.made refl refl one.is_mailbox
      (mailboxes_after (space ∷ []) more.tokens more.made refl more.divided);
  say = subst (λ r. CommentsSay r (front ++ following)) (sym (mark_comments 44 one.tokens (space ∷ more.tokens) comma refl))
      (CommentsSay-append (comments_of one.tokens) (comments_of more.tokens) front following one.say more.say);
  are_made = made_divided one.tokens more.tokens first others one.are_made more.are_made;
}

all_plain : (m : MailboxValue) (ms : List MailboxValue) → list_all has_served_address (m ∷ ms) ≡ true → (has_served_address m ≡ true) × (list_all has_served_address ms ≡ true)
all_plain m ms h = and_parts (has_served_address m) (list_all has_served_address ms) h

one_member : (p : List TokenValue) (ms : List MailboxValue) (values : List CommentValue) (pieces : List (List ℕ)) → HasMailTokens (octets_of p) p → IsOneMailbox p ms → list_all has_served_address ms ≡ true
    → CommentsSay (comments_of p) values → MemberPieces (list_all is_ascii (octets_of p)) p pieces → AreMailboxesAgain ms values pieces
one_member p [] values pieces has is plain say given = absurd is
one_member p (m ∷ []) values pieces has is plain say given =
    last_member m values pieces (member_again (list_all is_ascii (octets_of p)) p m values pieces refl (record { text = has; is_mailbox = is; say = say }) (all_plain m [] plain).0 given)
one_member p (m ∷ n ∷ ms) values pieces has is plain say given = absurd is

more_members : (p : List TokenValue) (ms ns : List MailboxValue) (front following : List CommentValue) (first others : List (List ℕ)) → HasMailTokens (octets_of p) p → IsOneMailbox p ms → list_all has_served_address (ms ++ ns) ≡ true
    → CommentsSay (comments_of p) front → MemberPieces (list_all is_ascii (octets_of p)) p first → (list_all has_served_address ns ≡ true → AreMailboxesAgain ns following others)
    → AreMailboxesAgain (ms ++ ns) (front ++ following) (with_comma first ++ others)
more_members p [] ns front following first others has is plain say given more = absurd is
more_members p (m ∷ []) ns front following first others has is plain say given more =
    let parts = all_plain m ns plain in
    next_member m ns front following first others (member_again (list_all is_ascii (octets_of p)) p m front first refl (record { text = has; is_mailbox = is; say = say }) parts.0 given) (more parts.1)
more_members p (m ∷ n ∷ ms) ns front following first others has is plain say given more = absurd is

pub MembersPieces-read : (parts : List (List TokenValue)) (ts : List TokenValue) (ms : List MailboxValue) (values : List CommentValue) (pieces : List (List ℕ)) → HasMailTokens (octets_of ts) ts → Divided 44 parts ts
    → SayParts IsOneMailbox parts ms → list_all has_served_address ms ≡ true → CommentsSay (comments_of ts) values → MembersPieces parts pieces → AreMailboxesAgain ms values pieces
MembersPieces-read [] ts ms values pieces has d say plain comments given = absurd d
MembersPieces-read (p ∷ []) ts ms values pieces has d say plain comments given =
    let all : ms ≡ say.0 = say.2 ∙ ap (λ r. say.0 ++ r) say.4 ∙ append-nil say.0 in
    rw (all) (one_member p say.0 values pieces (subst (λ r. HasMailTokens (octets_of r) r) d has) say.3 (rw (← all) plain) (subst (λ r. CommentsSay (comments_of r) values) d comments) given)
MembersPieces-read (p ∷ q ∷ parts) ts ms values pieces has d say plain comments given =
    let cut = cut_text 44 ts p d.1 d.0 has d.2 d.3 in
    let both = say_both (comments_of p) (comments_of d.1) values (subst (λ r. CommentsSay r values) cut.comments comments) in
    let both_plain : list_all has_served_address (say.0 ++ say.1) ≡ true = subst (λ r. list_all has_served_address r ≡ true) say.2 plain in
    let made = more_members p say.0 say.1 both.first both.more given.0 given.1 cut.front say.3 both_plain both.first_say given.2
    (λ rest_plain. MembersPieces-read (q ∷ parts) d.1 say.1 both.more given.1 cut.rest d.4 say.4 rest_plain both.more_say given.3) in
    subst (λ r. AreMailboxesAgain r values pieces) (sym say.2) (subst (λ r. AreMailboxesAgain (say.0 ++ say.1) r pieces) (sym both.whole) (subst (AreMailboxesAgain (say.0 ++ say.1) (both.first ++ both.more)) (sym given.4) made))

-- ---- between the colon and the semicolon

-- what may stand after others: nothing, or members or comments after a space
record IsInnerAgain (ms : List MailboxValue) (values : List CommentValue) (pieces : List (List ℕ)) : Type 0 where
  made : List MailboxValue
  same : AllZip IsServedMailbox ms made
  tokens : List TokenValue
  are_members : AreMembers (tokens ++ space ∷ []) made
  say : CommentsSay (comments_of tokens) values
  onto : (front : List TokenValue) (first : List (List ℕ)) → AreMade front first → AreMade (front ++ tokens) (first ++ pieces)

no_members_said : (ts : List TokenValue) (ms : List MailboxValue) → are_blank ts ≡ true → AreMembers ts ms → ms ≡ []
no_members_said ts ms blank (inl none) = none.1
no_members_said ts ms blank (inr d) = absurd (members_not_blank ts ms d blank)

some_members_said : (ts : List TokenValue) (ms : List MailboxValue) → are_blank ts ≡ false → AreMembers ts ms → AreDivided IsOneMailbox ts ms
some_members_said ts ms filled (inl none) = absurd (both_ways (are_blank ts) filled none.0)
some_members_said ts ms filled (inr d) = d

inner_again : (ts : List TokenValue) (ms : List MailboxValue) (values : List CommentValue) (pieces : List (List ℕ)) → HasMailTokens (octets_of ts) ts → AreMembers ts ms → list_all has_served_address ms ≡ true → CommentsSay (comments_of ts) values
    → InnerPieces ts pieces → IsInnerAgain ms values pieces
inner_again ts ms values pieces has are plain say (inl given) =
    let b = comments_after (comments_of ts) values pieces (text_line_comments (octets_of ts) ts has) say given.1 in
    rw (no_members_said ts ms given.0 are) (record {
      made = [];
      same = tt;
      tokens = b.tokens;
      are_members = inl (list_all-append is_blank_token b.tokens (space ∷ []) ∙ and_from (are_blank b.tokens) true b.blank refl, refl);
      say = b.say;
      onto = b.onto;
    })
inner_again ts ms values pieces has are plain say (inr given) =
    let members : List MailboxValue = given.1.0 in
    let d : AreDivided IsOneMailbox ts members = given.1.1 in
    let same : members ≡ ms = divided_once IsOneMailbox one_walked one_once ts members ms d (some_members_said ts ms given.0 are) in
    let parts_say : SayParts IsOneMailbox d.parts ms = subst (SayParts IsOneMailbox d.parts) same d.say in
    let again = MembersPieces-read d.parts ts ms values pieces has d.divided parts_say plain say given.1.2 in
    record {
      made = again.made;
      same = again.same;
      tokens = space ∷ again.tokens;
      are_members = inr (mailboxes_before (space ∷ again.tokens) (space ∷ []) again.made refl (mailboxes_after (space ∷ []) again.tokens again.made refl again.divided));
      say = again.say;
      onto = λ front first made. made_two front again.tokens first pieces made again.are_made;
    }

-- ---- groups

kept_whole : (n i b : List TokenValue) (c s : TokenValue) → (((n ++ space ∷ c ∷ []) ++ i) ++ space ∷ s ∷ []) ++ b ≡ (n ++ space ∷ []) ++ c ∷ ((i ++ space ∷ []) ++ s ∷ b)
kept_whole n i b c s =
    append_assoc ((n ++ space ∷ c ∷ []) ++ i) (space ∷ s ∷ []) b ∙ append_assoc (n ++ space ∷ c ∷ []) i (space ∷ s ∷ b) ∙ append_assoc n (space ∷ c ∷ []) (i ++ space ∷ s ∷ b)
    ∙ sym (append_assoc n (space ∷ []) (c ∷ (i ++ space ∷ s ∷ b))) ∙ ap (λ r. (n ++ space ∷ []) ++ c ∷ r) (sym (append_assoc i (space ∷ []) (s ∷ b)))

kept_pieces : (first inner comments : List (List ℕ)) (c s : List ℕ) → (((first ++ c ∷ []) ++ inner) ++ s ∷ []) ++ comments ≡ first ++ c ∷ (inner ++ s ∷ comments)
kept_pieces first inner comments c s =
    append_assoc ((first ++ c ∷ []) ++ inner) (s ∷ []) comments ∙ append_assoc (first ++ c ∷ []) inner (s ∷ comments) ∙ append_assoc first (c ∷ []) (inner ++ s ∷ comments)

spaced_comments : (ts : List TokenValue) → comments_of (ts ++ space ∷ []) ≡ comments_of ts
spaced_comments ts = comments_of-append ts (space ∷ []) ∙ append-nil (comments_of ts)

-- the comments of a name, of what stands between a colon and a semicolon, and of what stands after it
kept_comments : (n i b : List TokenValue) → comments_of ((n ++ space ∷ []) ++ mark 58 ∷ ((i ++ space ∷ []) ++ mark 59 ∷ b)) ≡ comments_of n ++ (comments_of i ++ comments_of b)
kept_comments n i b =
    mark_comments 58 (n ++ space ∷ []) ((i ++ space ∷ []) ++ mark 59 ∷ b) (mark 58) refl ∙ ap (λ r. r ++ comments_of ((i ++ space ∷ []) ++ mark 59 ∷ b)) (spaced_comments n)
    ∙ ap (λ r. comments_of n ++ r) (mark_comments 59 (i ++ space ∷ []) b (mark 59) refl ∙ ap (λ r. r ++ comments_of b) (spaced_comments i))

-- the three parts of a group that are written beside each other
kept_made : (name : List UnitValue) (ms : List MailboxValue) (v w x : List CommentValue) (first inner comments : List (List ℕ)) → list_all has_served_address ms ≡ true → MadePhrase name v first → IsInnerAgain ms w inner → MadeAfter x comments
    → IsElementAgain (Group name ms) (v ++ (w ++ x)) (first ++ (58 ∷ []) ∷ (inner ++ (59 ∷ []) ∷ comments))
kept_made name ms v w x first inner comments plain n i b =
    let whole : List TokenValue = (n.tokens ++ space ∷ []) ++ mark 58 ∷ ((i.tokens ++ space ∷ []) ++ mark 59 ∷ b.tokens) in
    let colon = made_mark 58 ([], refl, (58, refl, refl), refl) (record { some = omega arith; ascii = refl; line = refl }) in
    let semicolon = made_mark 59 ([], refl, (59, refl, refl), refl) (record { some = omega arith; ascii = refl; line = refl }) in
    let one : List TokenValue = n.tokens ++ space ∷ mark 58 ∷ [] in
    let two : List TokenValue = one ++ i.tokens in
    let three : List TokenValue = two ++ space ∷ mark 59 ∷ [] in
    let pieces_one : List (List ℕ) = first ++ (58 ∷ []) ∷ [] in
    let pieces_two : List (List ℕ) = pieces_one ++ inner in
    let pieces_three : List (List ℕ) = pieces_two ++ (59 ∷ []) ∷ [] in
    let made_one : AreMade one pieces_one = made_two n.tokens (mark 58 ∷ []) first ((58 ∷ []) ∷ []) n.are_made colon in
    let made_three : AreMade three pieces_three = made_two two (mark 59 ∷ []) pieces_two ((59 ∷ []) ∷ []) (i.onto one pieces_one made_one) semicolon in
    record {
      made = Group name i.made;
      stands = rw (plain) ((refl, i.same));
      tokens = whole;
      is_element = record {
        before = n.tokens ++ space ∷ [];
        colon = mark 58;
        following = (i.tokens ++ space ∷ []) ++ mark 59 ∷ b.tokens;
        whole = refl;
        is_colon = refl;
        group = record {
          inner = i.tokens ++ space ∷ [];
          semicolon = mark 59;
          after = b.tokens;
          whole = refl;
          is_semicolon = refl;
          nothing_after = b.blank;
          is_phrase = phrase_before n.tokens (space ∷ []) n.is_phrase refl;
          says = units_before n.tokens (space ∷ []) name refl n.has_units;
          are_members = i.are_members;
        };
      };
      say = subst (λ r. CommentsSay r (v ++ (w ++ x))) (sym (kept_comments n.tokens i.tokens b.tokens))
          (CommentsSay-append (comments_of n.tokens) (comments_of i.tokens ++ comments_of b.tokens) v (w ++ x) n.say (CommentsSay-append (comments_of i.tokens) (comments_of b.tokens) w x i.say b.say));
      are_made = subst (AreMade whole) (kept_pieces first inner comments (58 ∷ []) (59 ∷ []))
          (subst (λ r. AreMade r (pieces_three ++ comments)) (kept_whole n.tokens i.tokens b.tokens (mark 58) (mark 59)) (b.onto three pieces_three made_three));
    }

-- the pieces of a group whose members can be served
kept_again : (ts : List TokenValue) (name : List UnitValue) (ms : List MailboxValue) (values : List CommentValue) (first inner comments : List (List ℕ)) → HasMailTokens (octets_of ts) ts → (g : IsGroup ts name ms)
    → CommentsSay (comments_of ts) values → list_all has_served_address ms ≡ true → PlacePieces g.before first → InnerPieces g.group.inner inner → CommentsPieces (comments_of g.group.after) comments
    → IsElementAgain (Group name ms) values (first ++ (58 ∷ []) ∷ (inner ++ (59 ∷ []) ∷ comments))
kept_again ts name ms values first inner comments has g say plain place members following =
    let outer = cut_text 58 ts g.before g.following g.colon has g.whole g.is_colon in
    let within = cut_text 59 g.following g.group.inner g.group.after g.group.semicolon outer.rest g.group.whole g.group.is_semicolon in
    let one = say_both (comments_of g.before) (comments_of g.following) values (subst (λ r. CommentsSay r values) outer.comments say) in
    let two = say_both (comments_of g.group.inner) (comments_of g.group.after) one.more (subst (λ r. CommentsSay r one.more) within.comments one.more_say) in
    let n = again_phrase name one.first first (PlacePieces-read g.before name one.first first outer.front g.group.is_phrase g.group.says one.first_say place) in
    let i = inner_again g.group.inner ms two.first inner within.front g.group.are_members plain two.first_say members in
    let b = comments_after (comments_of g.group.after) two.more comments (text_line_comments (octets_of g.group.after) g.group.after within.rest) two.more_say following in
    let all : values ≡ one.first ++ (two.first ++ two.more) = one.whole ∙ ap (λ r. one.first ++ r) two.whole in
    subst (λ r. IsElementAgain (Group name ms) r (first ++ (58 ∷ []) ∷ (inner ++ (59 ∷ []) ∷ comments))) (sym all) (kept_made name ms one.first two.first two.more first inner comments plain n i b)

group_sound : (ts : List TokenValue) (name : List UnitValue) (ms : List MailboxValue) → AllByRecursion IsSound ts → (g : IsGroup ts name ms) → AllByRecursion IsSound g.before × AllByRecursion IsSound g.group.inner
group_sound ts name ms sound g =
    let outer : AllByRecursion IsSound (g.before ++ g.colon ∷ g.following) = subst (AllByRecursion IsSound) g.whole sound in
    let within : AllByRecursion IsSound (g.group.inner ++ g.group.semicolon ∷ g.group.after) = subst (AllByRecursion IsSound) g.group.whole (sound_rest g.before (g.colon ∷ g.following) outer).1 in
    (sound_front g.before (g.colon ∷ g.following) outer, sound_front g.group.inner (g.group.semicolon ∷ g.group.after) within)

-- the pieces of a group with an address that can't be served
emptied_group : (ts : List TokenValue) (name : List UnitValue) (ms : List MailboxValue) (values : List CommentValue) (words comments : List (List ℕ)) → HasMailTokens (octets_of ts) ts → IsGroup ts name ms → CommentsSay (comments_of ts) values
    → list_all has_served_address ms ≡ false → WriteAll (group_units name ms) words → CommentsPieces (comments_of ts) comments → IsElementAgain (Group name ms) values (words ++ no_members ∷ comments)
emptied_group ts name ms values words comments has g say other writes are =
    let sound = group_sound ts name ms (text_sound ts has) g in
    let stand = group_stands g.before name ms sound.0 g.group.says (members_sound g.group.inner ms sound.1 g.group.are_members) in
    let again = emptied_again (group_units name ms) words (comments_of ts) comments values stand writes (text_line_comments (octets_of ts) ts has) say are in
    record {
      made = Group (group_units name ms) [];
      stands = rw (other) refl;
      tokens = again.tokens;
      is_element = again.is_group;
      say = again.say;
      are_made = again.are_made;
    }

-- the pieces of a group
pub GroupPieces-read : (ts : List TokenValue) (name : List UnitValue) (ms : List MailboxValue) (values : List CommentValue) (pieces : List (List ℕ)) → HasMailTokens (octets_of ts) ts → IsGroup ts name ms
    → CommentsSay (comments_of ts) values → GroupPieces ts pieces → IsElementAgain (Group name ms) values pieces
GroupPieces-read ts name ms values pieces has is say (Kept n ns first inner comments g plain place members following whole) =
    let same : Group name ms ≡ Group n ns = IsElement-once ts (Group name ms) (Group n ns) is g in
    rw (whole, same) (kept_again ts n ns values first inner comments has g say plain place members following)
GroupPieces-read ts name ms values pieces has is say (Emptied n ns words comments g other writes are whole) =
    let same : Group name ms ≡ Group n ns = IsElement-once ts (Group name ms) (Group n ns) is g in
    rw (whole, same) (emptied_group ts n ns values words comments has g say other writes are)
