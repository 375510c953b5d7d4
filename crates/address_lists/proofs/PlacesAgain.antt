-- What the pieces of a list's places read as.
use Rattle.std.proofs.Common.{◌≡◌, ℕ, ◌<◌, Bool, true, false, not, ◌&&◌, ◌||◌, if◌then◌else◌, inl, inr, List, [], ◌∷◌, ◌++◌, length, refl, sym, ap, ◌∙◌, subst, arith}
use Rattle.std.proofs.lemmas.Bool.{and_parts, and_from, both_ways, cases_Bool, or_cases, or_parts, not-true, not-false}
use Rattle.std.proofs.lemmas.Bool.Decides.{nat_tests}
use Rattle.std.proofs.lemmas.List.{append_assoc, append-nil}
use Rattle.std.proofs.lemmas.List.Folds.{list_all-append}
use Rattle.std.specs.List.{AllZip, list_all, list_any, join_with_byte}
use Rattle.mail_wire.specs.Octets.{is_white, is_ascii}
use Rattle.mail_wire.proofs.AllLemmas.{pass-weaker}
use Rattle.encoded_words.specs.Words.{UnitValue}
use Rattle.field_tokens.specs.declared.Style.TheVariants.{Mail}
use Rattle.field_tokens.specs.declared.TokenKind.{TokenKind}
use Rattle.field_tokens.specs.declared.TokenKind.TheVariants.{Atom, Quoted, Literal, Special, Gap, Comment}
use Rattle.field_tokens.specs.Tokens.{TokenValue, IsToken, AreTokens}
use Rattle.field_tokens.specs.Squeezed.{is_gap, octets_of, comments_of, space}
use Rattle.field_tokens.specs.Comments.{CommentValue, CommentsSay, CommentsPieces}
use Rattle.field_tokens.proofs.Parts.{AreTokens-begin, AreTokens-end, octets_of-tokens, comments_of-append}
use Rattle.field_tokens.proofs.TokenLines.{joined_line}
use Rattle.field_tokens.proofs.PieceLemmas.{pieces_lines}
use Rattle.address_grammar.specs.private.Lexemes.{HasMailTokens, is_blank_token, is_special_of, are_blank}
use Rattle.address_grammar.specs.AddressLists.{Divided, MailboxValue, SayParts, AreDivided, ElementValue, One, Group, IsGroup, IsElement, SaysPlace}
use Rattle.address_lists.specs.ListPieces.{GroupPieces, Kept, Emptied as EmptiedGroup, ElementPieces, PlaceOfListPieces, with_comma, comma_followed, PlacesPieces, SaysAddresses, AddressesPieces}
use Rattle.address_lists.specs.ListReadBack.{StandsForElement, AreAddressesAgain}
use Rattle.address_grammar.proofs.ListLemmas.{place_walked, IsElement-once, element_not_blank, place_once}
use Rattle.address_grammar.proofs.DividedLemmas.{divided_once}
use Rattle.address_grammar.proofs.PathLemmas.{HasTokenValues-once}
use Rattle.address_grammar.proofs.WritingLemmas.{mark_is}
use Rattle.address_lists.proofs.PhraseWriting.{CommentsPieces-append}
use Rattle.address_lists.proofs.PhrasesAgain.{CommentsSay-append, say_both}
use Rattle.address_lists.proofs.PhraseListsAgain.{comma}
use Rattle.address_lists.proofs.MadeTokens.{AreMade, made_two, made_divided, AreCommentsOfLine, text_line_comments, comments_made, comments_after}
use Rattle.address_lists.proofs.AmongBlanks.{before_blanks, blank_more, element_among, divided_put, places_after}
use Rattle.address_lists.proofs.MailboxesAgain.{IsElementAgain, mark_comments, MailboxPieces-read}
use Rattle.address_lists.proofs.AsciiElements.{IsElementIn, ascii_element_again}
use Rattle.address_lists.proofs.GroupsAgain.{cut_text, GroupPieces-read}
use Rattle.address_lists.proofs.ListPiecesOnce.{mailbox_pieces}

-- ---- elements

group_of : (ts : List TokenValue) (pieces : List (List ℕ)) → GroupPieces ts pieces → (name : List UnitValue) × (ms : List MailboxValue) × IsGroup ts name ms
group_of ts pieces (Kept name ms first inner comments g plain place members following whole) = (name, ms, g)
group_of ts pieces (EmptiedGroup name ms words comments g other writes are whole) = (name, ms, g)

no_group : (ts : List TokenValue) (m : MailboxValue) (name : List UnitValue) (ms : List MailboxValue) → IsElement ts (One m) → IsElement ts (Group name ms) → ⊥
no_group ts m name ms p q = let same : One m ≡ Group name ms = IsElement-once ts (One m) (Group name ms) p q in cc same

ElementPieces-read : (b : Bool) (ts : List TokenValue) (e : ElementValue) (values : List CommentValue) (pieces : List (List ℕ)) → list_all is_ascii (octets_of ts) ≡ b → IsElementIn ts e values → ElementPieces b ts pieces
    → IsElementAgain e values pieces
ElementPieces-read true ts e values pieces ascii is given = rw (given.2) (ascii_element_again ts given.0 e values is ascii given.1)
ElementPieces-read false ts (One m) values pieces other is (inl given) = MailboxPieces-read ts m values pieces (record { text = is.text; is_mailbox = is.is_element; say = is.say }) given
ElementPieces-read false ts (One m) values pieces other is (inr given) = let g = group_of ts pieces given in absurd (no_group ts m g.0 g.1 is.is_element g.2)
ElementPieces-read false ts (Group name ms) values pieces other is (inl given) = let m = mailbox_pieces ts pieces given in absurd (no_group ts m.0 name ms m.1 is.is_element)
ElementPieces-read false ts (Group name ms) values pieces other is (inr given) = GroupPieces-read ts name ms values pieces is.text is.is_element is.say given

-- ---- places

-- the pieces are a list of what stands for these elements
pub record ArePlacesAgain (es : List ElementValue) (values : List CommentValue) (pieces : List (List ℕ)) : Type 0 where
  pub made : List ElementValue
  pub each : AllZip StandsForElement es made
  pub tokens : List TokenValue
  pub divided : AreDivided SaysPlace tokens made
  pub say : CommentsSay (comments_of tokens) values
  pub are_made : AreMade tokens pieces

one_place : (ts : List TokenValue) (es : List ElementValue) → SaysPlace ts es → AreDivided SaysPlace ts es
one_place ts es says = record { parts = ts ∷ []; divided = refl; say = (es, [], sym (append-nil es), says, refl) }

-- an element, and comments after it
last_place : (e : ElementValue) (front following : List CommentValue) (first comments cs : List (List ℕ)) → IsElementAgain e front first → AreCommentsOfLine cs → CommentsSay cs following → CommentsPieces cs comments
    → ArePlacesAgain (e ∷ []) (front ++ following) (first ++ comments)
last_place e front following first comments cs one all say are =
    let b = comments_after cs following comments all say are in
    record {
      made = one.made ∷ [];
      each = (one.stands, tt);
      tokens = one.tokens ++ b.tokens;
      divided = one_place (one.tokens ++ b.tokens) (one.made ∷ []) (before_blanks (λ r. IsElement r one.made) (element_among one.made) one.tokens b.tokens b.blank one.is_element);
      say = subst (λ r. CommentsSay r (front ++ following)) (sym (comments_of-append one.tokens b.tokens)) (CommentsSay-append (comments_of one.tokens) (comments_of b.tokens) front following one.say b.say);
      are_made = b.onto one.tokens first one.are_made;
    }

-- an element, a comma, and other places
next_place : (e : ElementValue) (es : List ElementValue) (front following : List CommentValue) (first others : List (List ℕ)) → IsElementAgain e front first → ArePlacesAgain es following others
    → ArePlacesAgain (e ∷ es) (front ++ following) (with_comma first ++ others)
next_place e es front following first others one more = record {
  made = one.made ∷ more.made;
  each = (one.stands, more.each);
  tokens = one.tokens ++ comma ∷ space ∷ more.tokens;
  divided = divided_put SaysPlace one.tokens (one.tokens ++ comma ∷ space ∷ more.tokens) (space ∷ more.tokens) comma (one.made ∷ []) more.made refl refl one.is_element
      (places_after (space ∷ []) more.tokens more.made refl more.divided);
  say = subst (λ r. CommentsSay r (front ++ following)) (sym (mark_comments 44 one.tokens (space ∷ more.tokens) comma refl))
      (CommentsSay-append (comments_of one.tokens) (comments_of more.tokens) front following one.say more.say);
  are_made = made_divided one.tokens more.tokens first others one.are_made more.are_made;
}

-- comments, and other places
comments_place : (es : List ElementValue) (front following : List CommentValue) (first others cs : List (List ℕ)) → AreCommentsOfLine cs → CommentsSay cs front → CommentsPieces cs first → ArePlacesAgain es following others
    → ArePlacesAgain es (front ++ following) (first ++ others)
comments_place es front following first others [] all say are more = rw (are, say) more
comments_place es front following first others (c ∷ cs) all say are more =
    let b = comments_made (c ∷ cs) front first (omega arith) all say are in
    let whole : (b.tokens ++ space ∷ []) ++ more.tokens ≡ b.tokens ++ space ∷ more.tokens = append_assoc b.tokens (space ∷ []) more.tokens in
    let blank : are_blank (b.tokens ++ space ∷ []) ≡ true = blank_more b.tokens space b.blank refl in
    record {
      made = more.made;
      each = more.each;
      tokens = b.tokens ++ space ∷ more.tokens;
      divided = subst (λ r. AreDivided SaysPlace r more.made) whole (places_after (b.tokens ++ space ∷ []) more.tokens more.made blank more.divided);
      say = subst (λ r. CommentsSay r (front ++ following)) (sym (comments_of-append b.tokens (space ∷ more.tokens))) (CommentsSay-append (comments_of b.tokens) (comments_of more.tokens) front following b.say more.say);
      are_made = made_two b.tokens more.tokens first others b.are_made more.are_made;
    }

-- ---- places in which nothing but comments stand

abbrev is_there : List TokenValue → Bool
is_there ts = not (are_blank ts)

none_said : (ts : List TokenValue) (es : List ElementValue) → are_blank ts ≡ true → SaysPlace ts es → es ≡ []
none_said ts [] blank says = refl
none_said ts (e ∷ []) blank says = absurd (element_not_blank ts e says blank)
none_said ts (e ∷ f ∷ es) blank says = absurd says

-- the pieces of a blank place are those of its comments
blank_pieces : (ts : List TokenValue) (first : List (List ℕ)) → are_blank ts ≡ true → PlaceOfListPieces (are_blank ts) ts first → CommentsPieces (comments_of ts) first
blank_pieces ts first blank given = subst (λ b. PlaceOfListPieces b ts first) blank given

blank_followed : (ts : List TokenValue) (places : List (List TokenValue)) (first : List (List ℕ)) → are_blank ts ≡ true → comma_followed ts places first ≡ first
blank_followed ts places first blank = rw (blank) refl

-- what blank places give
record GiveComments (ts : List TokenValue) (es : List ElementValue) (pieces : List (List ℕ)) : Type 0 where
  none : es ≡ []
  are_pieces : CommentsPieces (comments_of ts) pieces

blank_places : (places : List (List TokenValue)) (ts : List TokenValue) (es : List ElementValue) (pieces : List (List ℕ)) → Divided 44 places ts → SayParts SaysPlace places es → list_any is_there places ≡ false → PlacesPieces places pieces
    → GiveComments ts es pieces
blank_places [] ts es pieces d say none given = absurd d
blank_places (p ∷ []) ts es pieces d say none given =
    let blank : are_blank p ≡ true = not-false (are_blank p) (or_parts (is_there p) false none).0 in
    let whole : pieces ≡ given.0 = given.4 ∙ ap (λ r. r ++ given.1) (blank_followed p [] given.0 blank) ∙ ap (λ r. given.0 ++ r) given.3 ∙ append-nil given.0 in
    record {
      none = say.2 ∙ ap (λ r. r ++ say.1) (none_said p say.0 blank say.3) ∙ say.4;
      are_pieces = subst (λ r. CommentsPieces (comments_of r) pieces) (sym d) (subst (CommentsPieces (comments_of p)) (sym whole) (blank_pieces p given.0 blank given.2));
    }
blank_places (p ∷ q ∷ places) ts es pieces d say none given =
    let parts = or_parts (is_there p) (list_any is_there (q ∷ places)) none in
    let blank : are_blank p ≡ true = not-false (are_blank p) parts.0 in
    let more = blank_places (q ∷ places) d.1 say.1 given.1 d.4 say.4 parts.1 given.3 in
    let whole : pieces ≡ given.0 ++ given.1 = given.4 ∙ ap (λ r. r ++ given.1) (blank_followed p (q ∷ places) given.0 blank) in
    let comments : comments_of ts ≡ comments_of p ++ comments_of d.1 = ap comments_of d.2 ∙ mark_comments 44 p d.1 d.0 d.3 in
    record {
      none = say.2 ∙ ap (λ r. r ++ say.1) (none_said p say.0 blank say.3) ∙ more.none;
      are_pieces = subst (λ r. CommentsPieces r pieces) (sym comments) (subst (CommentsPieces (comments_of p ++ comments_of d.1)) (sym whole)
          (CommentsPieces-append (comments_of p) (comments_of d.1) given.0 given.1 (blank_pieces p given.0 blank given.2) more.are_pieces));
    }

-- ---- all places

place_element : (ts : List TokenValue) (e : ElementValue) (values : List CommentValue) (first : List (List ℕ)) → HasMailTokens (octets_of ts) ts → are_blank ts ≡ false → IsElement ts e → CommentsSay (comments_of ts) values
    → PlaceOfListPieces (are_blank ts) ts first → IsElementAgain e values first
place_element ts e values first has filled is say given =
    ElementPieces-read (list_all is_ascii (octets_of ts)) ts e values first refl (record { text = has; is_element = is; say = say }) (subst (λ b. PlaceOfListPieces b ts first) filled given)

-- a place that isn't blank, and only comments after it
filled_last : (ts : List TokenValue) (es : List ElementValue) (front following : List CommentValue) (first comments cs : List (List ℕ)) → HasMailTokens (octets_of ts) ts → are_blank ts ≡ false → SaysPlace ts es
    → CommentsSay (comments_of ts) front → PlaceOfListPieces (are_blank ts) ts first → AreCommentsOfLine cs → CommentsSay cs following → CommentsPieces cs comments → ArePlacesAgain es (front ++ following) (first ++ comments)
filled_last ts [] front following first comments cs has filled says say given all rest are = absurd (both_ways (are_blank ts) filled says)
filled_last ts (e ∷ []) front following first comments cs has filled says say given all rest are =
    last_place e front following first comments cs (place_element ts e front first has filled says say given) all rest are
filled_last ts (e ∷ f ∷ es) front following first comments cs has filled says say given all rest are = absurd says

-- and other places after it
filled_next : (ts : List TokenValue) (es fs : List ElementValue) (front following : List CommentValue) (first others : List (List ℕ)) → HasMailTokens (octets_of ts) ts → are_blank ts ≡ false → SaysPlace ts es
    → CommentsSay (comments_of ts) front → PlaceOfListPieces (are_blank ts) ts first → ArePlacesAgain fs following others → ArePlacesAgain (es ++ fs) (front ++ following) (with_comma first ++ others)
filled_next ts [] fs front following first others has filled says say given more = absurd (both_ways (are_blank ts) filled says)
filled_next ts (e ∷ []) fs front following first others has filled says say given more = next_place e fs front following first others (place_element ts e front first has filled says say given) more
filled_next ts (e ∷ d ∷ es) fs front following first others has filled says say given more = absurd says

-- the last place is followed by none
last_followed : (ts : List TokenValue) (first : List (List ℕ)) → comma_followed ts [] first ≡ first
last_followed ts first = by (is_there ts)
  where
    by : (b : Bool) → (if b && false then with_comma first else first) ≡ first
    by true = refl
    by false = refl

only_followed : (ts : List TokenValue) (places : List (List TokenValue)) (first : List (List ℕ)) → are_blank ts ≡ false → list_any is_there places ≡ false → comma_followed ts places first ≡ first
only_followed ts places first filled none = rw (filled, none) refl

more_followed : (ts : List TokenValue) (places : List (List TokenValue)) (first : List (List ℕ)) → are_blank ts ≡ false → list_any is_there places ≡ true → comma_followed ts places first ≡ with_comma first
more_followed ts places first filled some = rw (filled, some) refl

or_false : (b : Bool) → (b || false) ≡ true → b ≡ true
or_false true h = refl
or_false false h = cc h

-- places of which some isn't blank
pub PlacesPieces-read : (places : List (List TokenValue)) (ts : List TokenValue) (es : List ElementValue) (values : List CommentValue) (pieces : List (List ℕ)) → HasMailTokens (octets_of ts) ts → Divided 44 places ts
    → SayParts SaysPlace places es → CommentsSay (comments_of ts) values → list_any is_there places ≡ true → PlacesPieces places pieces → ArePlacesAgain es values pieces
PlacesPieces-read [] ts es values pieces has d say comments some given = absurd d
PlacesPieces-read (p ∷ []) ts es values pieces has d say comments some given =
    let filled : are_blank p ≡ false = not-true (are_blank p) (or_false (is_there p) some) in
    let whole : pieces ≡ given.0 ++ [] = given.4 ∙ ap (λ r. r ++ given.1) (last_followed p given.0) ∙ ap (λ r. given.0 ++ r) given.3 in
    let all : es ≡ say.0 = say.2 ∙ ap (λ r. say.0 ++ r) say.4 ∙ append-nil say.0 in
    let one = filled_last p say.0 values [] given.0 [] [] (subst (λ r. HasMailTokens (octets_of r) r) d has) filled say.3 (subst (λ r. CommentsSay (comments_of r) values) d comments) given.2 tt refl refl in
    subst (λ r. ArePlacesAgain r values pieces) (sym all) (subst (ArePlacesAgain say.0 values) (sym whole) (subst (λ r. ArePlacesAgain say.0 r (given.0 ++ [])) (append-nil values) one))
PlacesPieces-read (p ∷ q ∷ places) ts es values pieces has d say comments some given =
    let cut = cut_text 44 ts p d.1 d.0 has d.2 d.3 in
    let both = say_both (comments_of p) (comments_of d.1) values (subst (λ r. CommentsSay r values) cut.comments comments) in
    let put : (fs : List ElementValue) (qs : List (List ℕ)) → es ≡ fs → pieces ≡ qs → ArePlacesAgain fs (both.first ++ both.more) qs → ArePlacesAgain es values pieces
    = λ fs qs x y again. subst (λ r. ArePlacesAgain r values pieces) (sym x) (subst (ArePlacesAgain fs values) (sym y) (subst (λ r. ArePlacesAgain fs r qs) (sym both.whole) again)) in
    elim (cases_Bool (are_blank p)) [
      | inl blank ↦
          let rest : list_any is_there (q ∷ places) ≡ true = rw (blank) at some in
          let more = PlacesPieces-read (q ∷ places) d.1 say.1 both.more given.1 cut.rest d.4 say.4 both.more_say rest given.3 in
          put say.1 (given.0 ++ given.1) (say.2 ∙ ap (λ r. r ++ say.1) (none_said p say.0 blank say.3)) (given.4 ∙ ap (λ r. r ++ given.1) (blank_followed p (q ∷ places) given.0 blank))
          (comments_place say.1 both.first both.more given.0 given.1 (comments_of p) (text_line_comments (octets_of p) p cut.front) both.first_say (blank_pieces p given.0 blank given.2) more)
      | inr filled ↦ elim (cases_Bool (list_any is_there (q ∷ places))) [
        | inl rest ↦
            let more = PlacesPieces-read (q ∷ places) d.1 say.1 both.more given.1 cut.rest d.4 say.4 both.more_say rest given.3 in
            put (say.0 ++ say.1) (with_comma given.0 ++ given.1) say.2 (given.4 ∙ ap (λ r. r ++ given.1) (more_followed p (q ∷ places) given.0 filled rest))
            (filled_next p say.0 say.1 both.first both.more given.0 given.1 cut.front filled say.3 both.first_say given.2 more)
        | inr none ↦
            let more = blank_places (q ∷ places) d.1 say.1 given.1 d.4 say.4 none given.3 in
            put say.0 (given.0 ++ given.1) (say.2 ∙ ap (λ r. say.0 ++ r) more.none ∙ append-nil say.0) (given.4 ∙ ap (λ r. r ++ given.1) (only_followed p (q ∷ places) given.0 filled none))
            (filled_last p say.0 both.first both.more given.0 given.1 (comments_of d.1) cut.front filled say.3 both.first_say given.2 (text_line_comments (octets_of d.1) d.1 cut.rest) both.more_say more.are_pieces)
      ]
    ]

-- ---- places with comments alone

-- a gap or a comma
abbrev gap_or_comma : TokenValue → Bool
gap_or_comma t = is_gap t.kind || is_special_of 44 t

no_comment_gap : (kind : TokenKind) (octets : List ℕ) (b : Bool) (cs : List (List ℕ)) → is_blank_token (record { kind = kind; octets = octets }) ≡ true → comments_of (record { kind = kind; octets = octets } ∷ []) ++ cs ≡ [] → (is_gap kind || b) ≡ true
no_comment_gap Gap octets b cs h e = refl
no_comment_gap Comment octets b cs h e = cc e
no_comment_gap Atom octets b cs h e = cc h
no_comment_gap Quoted octets b cs h e = cc h
no_comment_gap Literal octets b cs h e = cc h
no_comment_gap Special octets b cs h e = cc h

nothing_following : (a b : List (List ℕ)) → a ++ b ≡ [] → b ≡ []
nothing_following [] b e = e
nothing_following (c ∷ a) b e = cc e

nothing_before : (a b : List (List ℕ)) → a ++ b ≡ [] → a ≡ []
nothing_before [] b e = refl
nothing_before (c ∷ a) b e = cc e

blank_gaps : (ts : List TokenValue) → are_blank ts ≡ true → comments_of ts ≡ [] → list_all gap_or_comma ts ≡ true
blank_gaps [] blank none = refl
blank_gaps (t ∷ ts) blank none =
    let parts = and_parts (is_blank_token t) (are_blank ts) blank in
    let both : comments_of (t ∷ []) ++ comments_of ts ≡ [] = sym (comments_of-append (t ∷ []) ts) ∙ none in
    and_from (gap_or_comma t) (list_all gap_or_comma ts) (no_comment_gap t.kind t.octets (is_special_of 44 t) (comments_of ts) parts.0 both) (blank_gaps ts parts.1 (nothing_following (comments_of (t ∷ [])) (comments_of ts) both))

or_right : (a b : Bool) → b ≡ true → (a || b) ≡ true
or_right true b h = refl
or_right false b h = h

places_gaps : (places : List (List TokenValue)) (ts : List TokenValue) → Divided 44 places ts → list_any is_there places ≡ false → comments_of ts ≡ [] → list_all gap_or_comma ts ≡ true
places_gaps [] ts d none nothing = absurd d
places_gaps (p ∷ []) ts d none nothing = rw (d) (blank_gaps p (not-false (are_blank p) (or_parts (is_there p) false none).0) (rw (d) at nothing))
places_gaps (p ∷ q ∷ places) ts d none nothing =
    let parts = or_parts (is_there p) (list_any is_there (q ∷ places)) none in
    let both : comments_of p ++ comments_of d.1 ≡ [] = sym (mark_comments 44 p d.1 d.0 d.3) ∙ sym (ap comments_of d.2) ∙ nothing in
    rw (d.2) (list_all-append gap_or_comma p (d.0 ∷ d.1)
    ∙ and_from (list_all gap_or_comma p) (list_all gap_or_comma (d.0 ∷ d.1)) (blank_gaps p (not-false (are_blank p) parts.0) (nothing_before (comments_of p) (comments_of d.1) both))
    (and_from (gap_or_comma d.0) (list_all gap_or_comma d.1) (or_right (is_gap d.0.kind) (is_special_of 44 d.0) d.3) (places_gaps (q ∷ places) d.1 d.4 parts.1 (nothing_following (comments_of p) (comments_of d.1) both))))

pub white_ascii : (x : ℕ) → is_white x ≡ true → is_ascii x ≡ true
white_ascii x h = grind (arith, nat_tests)

gap_ascii : (kind : TokenKind) (octets rest : List ℕ) → is_gap kind ≡ true → IsToken Mail kind octets rest → list_all is_ascii octets ≡ true
gap_ascii Gap octets rest h is = pass-weaker is_white is_ascii white_ascii octets is.1.passes
gap_ascii Comment octets rest h is = cc h
gap_ascii Atom octets rest h is = cc h
gap_ascii Quoted octets rest h is = cc h
gap_ascii Literal octets rest h is = cc h
gap_ascii Special octets rest h is = cc h

comma_ascii : (t : TokenValue) → is_special_of 44 t ≡ true → list_all is_ascii t.octets ≡ true
comma_ascii t h = rw (mark_is 44 t h) refl

gaps_ascii : (ts : List TokenValue) (text : List ℕ) → AreTokens Mail ts text → list_all gap_or_comma ts ≡ true → list_all is_ascii text ≡ true
gaps_ascii [] text are h = rw (are) refl
gaps_ascii (t ∷ ts) text are h =
    let parts = and_parts (gap_or_comma t) (list_all gap_or_comma ts) h in
    let front : list_all is_ascii t.octets ≡ true = elim (or_cases (is_gap t.kind) (is_special_of 44 t) parts.0) [
      | inl gap ↦ gap_ascii t.kind t.octets are.0 gap are.2
      | inr is ↦ comma_ascii t is
    ] in
    rw (are.1) (list_all-append is_ascii t.octets are.0 ∙ and_from (list_all is_ascii t.octets) (list_all is_ascii are.0) front (gaps_ascii ts are.0 are.3 parts.1))

-- comments stand in a text that isn't ASCII
comments_there : (places : List (List TokenValue)) (ts : List TokenValue) (text : List ℕ) → AreTokens Mail ts text → Divided 44 places ts → list_any is_there places ≡ false → list_all is_ascii text ≡ false → 0 < length (comments_of ts)
comments_there places ts text are d none high = by (comments_of ts) refl
  where
    by : (cs : List (List ℕ)) → comments_of ts ≡ cs → 0 < length cs
    by [] e = absurd (both_ways (list_all is_ascii text) high (gaps_ascii ts text are (places_gaps places ts d none e)))
    by (c ∷ cs) e = omega arith

-- the pieces of comments alone
pub blank_again : (places : List (List TokenValue)) (ts : List TokenValue) (text : List ℕ) (es : List ElementValue) (values : List CommentValue) (pieces : List (List ℕ)) → HasMailTokens text ts → Divided 44 places ts
    → SayParts SaysPlace places es → CommentsSay (comments_of ts) values → list_any is_there places ≡ false → list_all is_ascii text ≡ false → PlacesPieces places pieces → ArePlacesAgain es values pieces
blank_again places ts text es values pieces has d say comments none high given =
    let blank = blank_places places ts es pieces d say none given in
    let b = comments_made (comments_of ts) values pieces (comments_there places ts text has.are_tokens d none high) (text_line_comments text ts has) comments blank.are_pieces in
    rw (blank.none) (record {
      made = [];
      each = tt;
      tokens = b.tokens;
      divided = one_place b.tokens [] b.blank;
      say = b.say;
      are_made = b.are_made;
    })

-- ---- whole lists

-- the joined text
places_read : (es : List ElementValue) (values : List CommentValue) (pieces : List (List ℕ)) → ArePlacesAgain es values pieces → AreAddressesAgain es values pieces
places_read es values pieces is = record {
  made = is.made;
  each = is.each;
  says = record {
    tokens = is.tokens;
    has = record { is_line = joined_line pieces (pieces_lines pieces is.are_made.each); are_tokens = is.are_made.are_tokens };
    are_elements = is.divided;
    comments_say = is.say;
  };
  begins = AreTokens-begin Mail is.tokens (join_with_byte 32 pieces) is.are_made.are_tokens is.are_made.begins;
  ends = AreTokens-end Mail is.tokens (join_with_byte 32 pieces) is.are_made.are_tokens is.are_made.ends;
  some = is.are_made.some;
  are_pieces = is.are_made.each;
}

any_places : (b : Bool) (places : List (List TokenValue)) (ts : List TokenValue) (text : List ℕ) (es : List ElementValue) (values : List CommentValue) (pieces : List (List ℕ)) → list_any is_there places ≡ b
    → HasMailTokens text ts → Divided 44 places ts → SayParts SaysPlace places es → CommentsSay (comments_of ts) values → list_all is_ascii text ≡ false → PlacesPieces places pieces → ArePlacesAgain es values pieces
any_places true places ts text es values pieces some has d say comments high given =
    let own : HasMailTokens (octets_of ts) ts = subst (λ r. HasMailTokens r ts) (sym (octets_of-tokens Mail ts text has.are_tokens)) has in
    PlacesPieces-read places ts es values pieces own d say comments some given
any_places false places ts text es values pieces none has d say comments high given = blank_again places ts text es values pieces has d say comments none high given

-- the pieces of a list of addresses are a list of what stands for its elements
pub AddressesPieces-read : (text : List ℕ) (pieces : List (List ℕ)) (es : List ElementValue) (values : List CommentValue) → list_all is_ascii text ≡ false → AddressesPieces text pieces → SaysAddresses text es values
    → AreAddressesAgain es values pieces
AddressesPieces-read text pieces es values high is says =
    let tokens : is.tokens ≡ says.tokens = HasTokenValues-once text is.tokens says.tokens is.has says.has in
    let divided : AreDivided SaysPlace is.tokens es = subst (λ r. AreDivided SaysPlace r es) (sym tokens) says.are_elements in
    let say : CommentsSay (comments_of is.tokens) values = subst (λ r. CommentsSay (comments_of r) values) (sym tokens) says.comments_say in
    let same : is.elements ≡ es = divided_once SaysPlace place_walked place_once is.tokens is.elements es is.are_elements divided in
    let parts : List (List TokenValue) = is.are_elements.parts in
    let again = any_places (list_any is_there parts) parts is.tokens text is.elements values pieces refl is.has is.are_elements.divided is.are_elements.say say high is.pieces_are in
    subst (λ r. AreAddressesAgain r values pieces) same (places_read is.elements values pieces again)
