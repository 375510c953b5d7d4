-- What the pieces of a mailbox read as.
use Rattle.std.proofs.Common.{◌≡◌, ℕ, Bool, true, false, inl, inr, List, [], ◌∷◌, ◌++◌, is_some, Some, None, refl, sym, ap, ◌∙◌, subst, arith}
use Rattle.std.proofs.lemmas.Bool.{and_parts, and_from}
use Rattle.std.proofs.lemmas.List.{append_assoc, append-nil}
use Rattle.std.proofs.lemmas.List.Folds.{list_all-append}
use Rattle.std.specs.List.{AllByRecursion, list_all}
use Rattle.std.specs.Str.{bytes_eq}
use Rattle.mail_wire.specs.Octets.{is_ascii}
use Rattle.encoded_words.specs.Words.{UnitValue}
use Rattle.encoded_words.specs.PhraseUnits.{HasPhraseUnits}
use Rattle.encoded_words.specs.Written.{WriteAll}
use Rattle.field_tokens.specs.TokenOctets.{is_line_octet}
use Rattle.field_tokens.specs.Tokens.{TokenValue}
use Rattle.field_tokens.specs.Squeezed.{octets_of, comments_of, space, is_special_kind}
use Rattle.field_tokens.specs.Comments.{CommentValue, CommentsSay, CommentsPieces}
use Rattle.field_tokens.proofs.Parts.{EndsNoGap-append, comments_of-append}
use Rattle.address_grammar.specs.declared.Address.{Address}
use Rattle.address_grammar.specs.private.Lexemes.{HasMailTokens, is_special_of, are_blank}
use Rattle.address_grammar.specs.Addresses.{address_text}
use Rattle.address_grammar.specs.Paths.{IsAngled, in_angles}
use Rattle.address_grammar.specs.Phrases.{IsPhrase, phrase_items, SaysPhrase}
use Rattle.address_lists.specs.PhrasePieces.{PhrasePieces, HasCore}
use Rattle.address_lists.specs.private.PhraseReadBack.{IsPhraseAgain}
use Rattle.address_grammar.specs.AddressLists.{MailboxValue, IsBare, IsRoutedOrNot, IsNamedBy, IsMailbox, ElementValue, One, Group, IsElement}
use Rattle.address_lists.specs.ListPieces.{served_address, has_served_address, mailbox_units, no_members, MailboxPieces, Bare, Angled, Named, Emptied}
use Rattle.address_lists.specs.ListReadBack.{IsServedMailbox, StandsForElement}
use Rattle.address_grammar.proofs.SoundLemmas.{IsSound, tokens_sound, sound_front, sound_rest}
use Rattle.address_lists.proofs.PlaceTokens.{HasTokenValues-part}
use Rattle.address_grammar.proofs.WritingLemmas.{mark}
use Rattle.address_lists.proofs.PhraseWriting.{phrase_core, core_comments}
use Rattle.address_lists.proofs.PhrasesAgain.{CommentsSay-append, say_both, phrase_before, units_before, core_units, PlacePieces-read}
use Rattle.address_grammar.proofs.ListLemmas.{IsMailbox-once}
use Rattle.address_lists.proofs.ServedLemmas.{WritesAddress, address_served}
use Rattle.address_lists.proofs.MadeTokens.{AreMade, made_two, made_address, no_blank_comments, again_phrase, AreCommentsOfLine, text_line_comments, comments_after}
use Rattle.address_lists.proofs.AmongBlanks.{before_blanks, mailbox_among}
use Rattle.address_lists.proofs.EmptiedGroups.{mailbox_sound, mailbox_stands, emptied_again}
use Rattle.address_lists.proofs.PhraseListsAgain.{special_no_comment}

-- the pieces are a mailbox whose address is served
pub record IsMailboxAgain (m : MailboxValue) (values : List CommentValue) (pieces : List (List ℕ)) : Type 0 where
  pub made : MailboxValue
  pub same : IsServedMailbox m made
  pub tokens : List TokenValue
  pub is_mailbox : IsMailbox tokens made
  pub say : CommentsSay (comments_of tokens) values
  pub are_made : AreMade tokens pieces

-- the pieces are what stands for the element
pub record IsElementAgain (e : ElementValue) (values : List CommentValue) (pieces : List (List ℕ)) : Type 0 where
  pub made : ElementValue
  pub stands : StandsForElement e made
  pub tokens : List TokenValue
  pub is_element : IsElement tokens made
  pub say : CommentsSay (comments_of tokens) values
  pub are_made : AreMade tokens pieces

plain_stands : (m made : MailboxValue) → IsServedMailbox m made → StandsForElement (One m) (One made)
plain_stands m made same = rw (same.address) same

pub mailbox_element : (m : MailboxValue) (values : List CommentValue) (pieces : List (List ℕ)) → IsMailboxAgain m values pieces → IsElementAgain (One m) values pieces
mailbox_element m values pieces is = record {
  made = One is.made;
  stands = plain_stands m is.made is.same;
  tokens = is.tokens;
  is_element = is.is_mailbox;
  say = is.say;
  are_made = is.are_made;
}

-- the mailbox with this address
abbrev with_address : MailboxValue → Address → MailboxValue
with_address m served = record { phrase = m.phrase; display = m.display; angle = m.angle; address = served }

same_served : (m : MailboxValue) (served : Address) → served_address m.address ≡ Some served → IsServedMailbox m (with_address m served)
same_served m served e = record { phrase = refl; display = refl; angle = refl; address = e }

pub text_sound : (ts : List TokenValue) → HasMailTokens (octets_of ts) ts → AllByRecursion IsSound ts
text_sound ts has = tokens_sound ts (octets_of ts) has.are_tokens has.is_line

-- ---- an address by itself

bare_again : (ts : List TokenValue) (m : MailboxValue) (served : Address) (values : List CommentValue) (comments : List (List ℕ)) → HasMailTokens (octets_of ts) ts → IsBare ts m → served_address m.address ≡ Some served
    → CommentsSay (comments_of ts) values → CommentsPieces (comments_of ts) comments → IsMailboxAgain m values (address_text served ∷ comments)
bare_again ts m served values comments has is e say are =
    let w = address_served ts m.address served (text_sound ts has) is.is_address e in
    let b = comments_after (comments_of ts) values comments (text_line_comments (octets_of ts) ts has) say are in
    let made : MailboxValue = with_address m served in
    let comments_are : comments_of (w.tokens ++ b.tokens) ≡ comments_of b.tokens = comments_of-append w.tokens b.tokens ∙ ap (λ r. r ++ comments_of b.tokens) (no_blank_comments w.tokens w.no_blank) in
    record {
      made = made;
      same = same_served m served e;
      tokens = w.tokens ++ b.tokens;
      is_mailbox = before_blanks (λ r. IsMailbox r made) (mailbox_among made) w.tokens b.tokens b.blank (inl (record { is_address = w.is_address; phrase = is.phrase; display = is.display; angle = is.angle }));
      say = subst (λ r. CommentsSay r values) (sym comments_are) b.say;
      are_made = b.onto w.tokens (address_text served ∷ []) (made_address served w);
    }

-- ---- angle brackets

abbrev pub bracketed : List TokenValue → List TokenValue
bracketed ts = mark 60 ∷ (ts ++ mark 62 ∷ [])

angles_all : (q : ℕ → Bool) → q 60 ≡ true → q 62 ≡ true → (text : List ℕ) → list_all q text ≡ true → list_all q (in_angles text) ≡ true
angles_all q a b text h =
    and_from (q 60) (list_all q (text ++ 62 ∷ [])) a (list_all-append q text (62 ∷ []) ∙ and_from (list_all q text) (list_all q (62 ∷ [])) h (and_from (q 62) true b refl))

pub made_angles : (served : Address) (w : WritesAddress served) → AreMade (bracketed w.tokens) (in_angles (address_text served) ∷ [])
made_angles served w = record {
  are_tokens = (address_text served ++ 62 ∷ [], refl, (60, refl, refl), w.writes.are_tokens (mark 62 ∷ []) (62 ∷ []) refl ([], refl, (62, refl, refl), refl));
  begins = refl;
  ends = EndsNoGap-append (mark 60 ∷ w.tokens) (mark 62 ∷ []) (omega arith) refl;
  there = omega arith;
  some = omega arith;
  each = (record { some = omega arith; ascii = angles_all is_ascii refl refl (address_text served) w.ascii; line = angles_all is_line_octet refl refl (address_text served) w.line }, tt);
}

pub brackets_no_comments : (served : Address) (w : WritesAddress served) → comments_of (bracketed w.tokens) ≡ []
brackets_no_comments served w = comments_of-append w.tokens (mark 62 ∷ []) ∙ ap (λ r. r ++ []) (no_blank_comments w.tokens w.no_blank)

routed_served : (ts : List TokenValue) (a served : Address) → AllByRecursion IsSound ts → IsRoutedOrNot ts a → served_address a ≡ Some served → WritesAddress served
routed_served ts a served sound (inl is) e = address_served ts a served sound is e
routed_served ts a served sound (inr is) e = address_served is.following a served (sound_rest is.route (is.colon ∷ is.following) (rw (is.whole) at sound)).1 is.is_address e

angled_served : (ts before inner : List TokenValue) (m : MailboxValue) (served : Address) → HasMailTokens (octets_of ts) ts → IsAngled ts before inner → IsNamedBy before inner m → served_address m.address ≡ Some served → WritesAddress served
angled_served ts before inner m served has angled named e =
    let all : AllByRecursion IsSound (before ++ angled.open_mark ∷ (inner ++ angled.close_mark ∷ angled.after)) = rw (angled.whole) at (text_sound ts has) in
    routed_served inner m.address served (sound_front inner (angled.close_mark ∷ angled.after) (sound_rest before (angled.open_mark ∷ (inner ++ angled.close_mark ∷ angled.after)) all).1) named.address e

-- the brackets with this before them, and comments after them
brackets_mailbox : (before following : List TokenValue) (m : MailboxValue) (served : Address) (w : WritesAddress served) → SaysPhrase before m.phrase m.display → m.angle ≡ true → are_blank following ≡ true
    → IsMailbox (before ++ (bracketed w.tokens ++ following)) (with_address m served)
brackets_mailbox before following m served w says angle blank = inr (record {
  before = before;
  inner = w.tokens;
  angled = record {
    open_mark = mark 60;
    close_mark = mark 62;
    after = following;
    whole = ap (λ r. before ++ mark 60 ∷ r) (append_assoc w.tokens (mark 62 ∷ []) following);
    opens = refl;
    closes = refl;
    following = blank;
  };
  named = record { says = says; address = inl w.is_address; angle = angle };
})

nothing_says : (ts : List TokenValue) (phrase : Bool) (us : List UnitValue) → phrase ≡ false → SaysPhrase ts phrase us → SaysPhrase [] phrase us
nothing_says ts true us e says = cc e
nothing_says ts false us e says = (refl, says.1)

angled_again : (ts before inner : List TokenValue) (m : MailboxValue) (served : Address) (values : List CommentValue) (comments : List (List ℕ)) → HasMailTokens (octets_of ts) ts → IsAngled ts before inner → IsNamedBy before inner m
    → m.phrase ≡ false → served_address m.address ≡ Some served → CommentsSay (comments_of ts) values → CommentsPieces (comments_of ts) comments → IsMailboxAgain m values (in_angles (address_text served) ∷ comments)
angled_again ts before inner m served values comments has angled named none e say are =
    let w = angled_served ts before inner m served has angled named e in
    let b = comments_after (comments_of ts) values comments (text_line_comments (octets_of ts) ts has) say are in
    let comments_are : comments_of (bracketed w.tokens ++ b.tokens) ≡ comments_of b.tokens
    = comments_of-append (bracketed w.tokens) b.tokens ∙ ap (λ r. r ++ comments_of b.tokens) (brackets_no_comments served w) in
    record {
      made = with_address m served;
      same = same_served m served e;
      tokens = bracketed w.tokens ++ b.tokens;
      is_mailbox = brackets_mailbox [] b.tokens m served w (nothing_says before m.phrase m.display none named.says) named.angle b.blank;
      say = subst (λ r. CommentsSay r values) (sym comments_are) b.say;
      are_made = b.onto (bracketed w.tokens) (in_angles (address_text served) ∷ []) (made_angles served w);
    }

-- ---- a phrase and angle brackets

-- a phrase by itself
pub core_again : (ts core trail : List TokenValue) (us : List UnitValue) (values : List CommentValue) (first : List (List ℕ)) → HasMailTokens (octets_of core) core → IsPhrase ts → HasPhraseUnits (phrase_items ts) us → HasCore ts core trail
    → CommentsSay (comments_of core) values → PhrasePieces (list_all is_ascii (octets_of core)) core first → IsPhraseAgain us values first
core_again ts core trail us values first has p units is say pieces =
    PlacePieces-read core us values first has (phrase_core ts core trail p is) (core_units ts core trail us is units) say (record {
      core = core;
      trail = [];
      has_core = record { lead = []; gaps = refl; begins = is.begins; ends = is.ends; blank = refl; whole = sym (append-nil core) };
      first = first;
      more = [];
      phrase = pieces;
      comments = refl;
      pieces_are = sym (append-nil first);
    })

-- a mark is no comment
pub mark_comments : (n : ℕ) (a b : List TokenValue) (t : TokenValue) → is_special_of n t ≡ true → comments_of (a ++ t ∷ b) ≡ comments_of a ++ comments_of b
mark_comments n a b t is = comments_of-append a (t ∷ b) ∙ rw (special_no_comment t.kind (and_parts (is_special_kind t.kind) (bytes_eq t.octets (n ∷ [])) is).0) refl

angled_comments : (ts before inner : List TokenValue) (angled : IsAngled ts before inner) → comments_of ts ≡ comments_of before ++ (comments_of inner ++ comments_of angled.after)
angled_comments ts before inner angled =
    ap comments_of angled.whole ∙ mark_comments 60 before (inner ++ angled.close_mark ∷ angled.after) angled.open_mark angled.opens
    ∙ ap (λ r. comments_of before ++ r) (mark_comments 62 inner angled.after angled.close_mark angled.closes)

-- the comments of the core, and then the others
named_comments : (ts before inner core trail : List TokenValue) (angled : IsAngled ts before inner) → HasCore before core trail → comments_of ts ≡ comments_of core ++ comments_of ((trail ++ inner) ++ angled.after)
named_comments ts before inner core trail angled is =
    let following : comments_of ((trail ++ inner) ++ angled.after) ≡ (comments_of trail ++ comments_of inner) ++ comments_of angled.after
    = comments_of-append (trail ++ inner) angled.after ∙ ap (λ r. r ++ comments_of angled.after) (comments_of-append trail inner) in
    angled_comments ts before inner angled ∙ ap (λ r. r ++ (comments_of inner ++ comments_of angled.after)) (core_comments before core trail is)
    ∙ append_assoc (comments_of core) (comments_of trail) (comments_of inner ++ comments_of angled.after)
    ∙ ap (λ r. comments_of core ++ r) (sym (append_assoc (comments_of trail) (comments_of inner) (comments_of angled.after)) ∙ sym following)

core_text : (ts before core trail rest : List TokenValue) → HasMailTokens (octets_of ts) ts → ts ≡ before ++ rest → HasCore before core trail → HasMailTokens (octets_of core) core
core_text ts before core trail rest has whole is =
    let all : ts ≡ is.lead ++ (core ++ (trail ++ rest))
    = whole ∙ ap (λ r. r ++ rest) is.whole ∙ append_assoc is.lead (core ++ trail) rest ∙ ap (λ r. is.lead ++ r) (append_assoc core trail rest) in
    HasTokenValues-part (octets_of ts) is.lead core (trail ++ rest) (subst (HasMailTokens (octets_of ts)) all has)

pub line_rest : (a b : List (List ℕ)) → AreCommentsOfLine (a ++ b) → AreCommentsOfLine b
line_rest [] b all = all
line_rest (c ∷ a) b all = line_rest a b all.1

says_phrase : (ts : List TokenValue) (phrase : Bool) (us : List UnitValue) → phrase ≡ true → SaysPhrase ts phrase us → IsPhrase ts × HasPhraseUnits (phrase_items ts) us
says_phrase ts true us e says = says
says_phrase ts false us e says = cc e

phrase_says : (ts : List TokenValue) (phrase : Bool) (us : List UnitValue) → phrase ≡ true → IsPhrase ts → HasPhraseUnits (phrase_items ts) us → SaysPhrase ts phrase us
phrase_says ts true us e p units = (p, units)
phrase_says ts false us e p units = cc e

named_again : (ts before inner core trail : List TokenValue) (m : MailboxValue) (served : Address) (values : List CommentValue) (first comments : List (List ℕ)) → HasMailTokens (octets_of ts) ts → (angled : IsAngled ts before inner)
    → IsNamedBy before inner m → m.phrase ≡ true → HasCore before core trail → PhrasePieces (list_all is_ascii (octets_of core)) core first → served_address m.address ≡ Some served → CommentsSay (comments_of ts) values
    → CommentsPieces (comments_of ((trail ++ inner) ++ angled.after)) comments → IsMailboxAgain m values (first ++ in_angles (address_text served) ∷ comments)
named_again ts before inner core trail m served values first comments has angled named phrase is pieces e say are =
    let others : List (List ℕ) = comments_of ((trail ++ inner) ++ angled.after) in
    let all : comments_of ts ≡ comments_of core ++ others = named_comments ts before inner core trail angled is in
    let both = say_both (comments_of core) others values (subst (λ r. CommentsSay r values) all say) in
    let w = angled_served ts before inner m served has angled named e in
    let says = says_phrase before m.phrase m.display phrase named.says in
    let core_has = core_text ts before core trail (angled.open_mark ∷ (inner ++ angled.close_mark ∷ angled.after)) has angled.whole is in
    let name = again_phrase m.display both.first first (core_again before core trail m.display both.first first core_has says.0 says.1 is both.first_say pieces) in
    let line = line_rest (comments_of core) others (subst AreCommentsOfLine all (text_line_comments (octets_of ts) ts has)) in
    let b = comments_after others both.more comments line both.more_say are in
    let front : List TokenValue = name.tokens ++ space ∷ bracketed w.tokens in
    let whole : front ++ b.tokens ≡ (name.tokens ++ space ∷ []) ++ (bracketed w.tokens ++ b.tokens)
    = append_assoc name.tokens (space ∷ bracketed w.tokens) b.tokens ∙ sym (append_assoc name.tokens (space ∷ []) (bracketed w.tokens ++ b.tokens)) in
    let inside : comments_of front ≡ comments_of name.tokens
    = comments_of-append name.tokens (space ∷ bracketed w.tokens) ∙ ap (λ r. comments_of name.tokens ++ r) (brackets_no_comments served w) ∙ append-nil (comments_of name.tokens) in
    let comments_are : comments_of (front ++ b.tokens) ≡ comments_of name.tokens ++ comments_of b.tokens = comments_of-append front b.tokens ∙ ap (λ r. r ++ comments_of b.tokens) inside in
    let said : SaysPhrase (name.tokens ++ space ∷ []) m.phrase m.display
    = phrase_says (name.tokens ++ space ∷ []) m.phrase m.display phrase (phrase_before name.tokens (space ∷ []) name.is_phrase refl) (units_before name.tokens (space ∷ []) m.display refl name.has_units) in
    record {
      made = with_address m served;
      same = same_served m served e;
      tokens = front ++ b.tokens;
      is_mailbox = rw (whole) (brackets_mailbox (name.tokens ++ space ∷ []) b.tokens m served w said named.angle b.blank);
      say = subst (CommentsSay (comments_of (front ++ b.tokens))) (sym both.whole)
          (subst (λ r. CommentsSay r (both.first ++ both.more)) (sym comments_are) (CommentsSay-append (comments_of name.tokens) (comments_of b.tokens) both.first both.more name.say b.say));
      are_made = rw (append_assoc first (in_angles (address_text served) ∷ []) comments) at (b.onto front (first ++ in_angles (address_text served) ∷ [])
          (made_two name.tokens (bracketed w.tokens) first (in_angles (address_text served) ∷ []) name.are_made (made_angles served w)));
    }

-- ---- any mailbox

-- what is known of a mailbox in its place
pub record IsMailboxIn (ts : List TokenValue) (m : MailboxValue) (values : List CommentValue) : Type 0 where
  pub text : HasMailTokens (octets_of ts) ts
  pub is_mailbox : IsMailbox ts m
  pub say : CommentsSay (comments_of ts) values

bare_is : (ts : List TokenValue) (m n : MailboxValue) → IsMailbox ts m → IsBare ts n → m ≡ n
bare_is ts m n is bare = IsMailbox-once ts m n is (inl bare)

named_is : (ts before inner : List TokenValue) (m n : MailboxValue) → IsMailbox ts m → IsAngled ts before inner → IsNamedBy before inner n → m ≡ n
named_is ts before inner m n is angled named = IsMailbox-once ts m n is (inr (record { before = before; inner = inner; angled = angled; named = named }))

-- the pieces of a mailbox whose address can be served
pub plain_again : (ts : List TokenValue) (m : MailboxValue) (values : List CommentValue) (pieces : List (List ℕ)) → IsMailboxIn ts m values → has_served_address m ≡ true → MailboxPieces ts pieces → IsMailboxAgain m values pieces
plain_again ts m values pieces is plain (Bare n served comments bare e are whole) =
    rw (whole, bare_is ts m n is.is_mailbox bare) (bare_again ts n served values comments is.text bare e is.say are)
plain_again ts m values pieces is plain (Angled n served before inner comments angled named none e are whole) =
    rw (whole, named_is ts before inner m n is.is_mailbox angled named) (angled_again ts before inner n served values comments is.text angled named none e is.say are)
plain_again ts m values pieces is plain (Named n served before inner core trail first comments angled named phrase core_is given e are whole) =
    rw (whole, named_is ts before inner m n is.is_mailbox angled named) (named_again ts before inner core trail n served values first comments is.text angled named phrase core_is given e is.say are)
plain_again ts m values pieces is plain (Emptied n words comments other none writes are whole) =
    let same : m ≡ n = IsMailbox-once ts m n is.is_mailbox other in
    cc (sym plain ∙ ap has_served_address same ∙ ap is_some none)

emptied_mailbox : (ts : List TokenValue) (m : MailboxValue) (values : List CommentValue) (words comments : List (List ℕ)) → IsMailboxIn ts m values → served_address m.address ≡ None → WriteAll (mailbox_units m) words
    → CommentsPieces (comments_of ts) comments → IsElementAgain (One m) values (words ++ no_members ∷ comments)
emptied_mailbox ts m values words comments is none writes are =
    let stand = mailbox_stands m (mailbox_sound ts m (text_sound ts is.text) is.is_mailbox) in
    let again = emptied_again (mailbox_units m) words (comments_of ts) comments values stand writes (text_line_comments (octets_of ts) ts is.text) is.say are in
    record {
      made = Group (mailbox_units m) [];
      stands = rw (none) refl;
      tokens = again.tokens;
      is_element = again.is_group;
      say = again.say;
      are_made = again.are_made;
    }

served_plain : (m : MailboxValue) (served : Address) → served_address m.address ≡ Some served → has_served_address m ≡ true
served_plain m served e = ap is_some e

-- the pieces of a mailbox
pub MailboxPieces-read : (ts : List TokenValue) (m : MailboxValue) (values : List CommentValue) (pieces : List (List ℕ)) → IsMailboxIn ts m values → MailboxPieces ts pieces → IsElementAgain (One m) values pieces
MailboxPieces-read ts m values pieces is (Bare n served comments bare e are whole) =
    let plain : has_served_address m ≡ true = ap has_served_address (bare_is ts m n is.is_mailbox bare) ∙ served_plain n served e in
    mailbox_element m values pieces (plain_again ts m values pieces is plain (Bare n served comments bare e are whole))
MailboxPieces-read ts m values pieces is (Angled n served before inner comments angled named none e are whole) =
    let plain : has_served_address m ≡ true = ap has_served_address (named_is ts before inner m n is.is_mailbox angled named) ∙ served_plain n served e in
    mailbox_element m values pieces (plain_again ts m values pieces is plain (Angled n served before inner comments angled named none e are whole))
MailboxPieces-read ts m values pieces is (Named n served before inner core trail first comments angled named phrase core_is given e are whole) =
    let plain : has_served_address m ≡ true = ap has_served_address (named_is ts before inner m n is.is_mailbox angled named) ∙ served_plain n served e in
    mailbox_element m values pieces (plain_again ts m values pieces is plain (Named n served before inner core trail first comments angled named phrase core_is given e are whole))
MailboxPieces-read ts m values pieces is (Emptied n words comments other none writes are whole) =
    let same : m ≡ n = IsMailbox-once ts m n is.is_mailbox other in
    rw (whole) (emptied_mailbox ts m values words comments is (rw (same) none) (rw (same) writes) are)
