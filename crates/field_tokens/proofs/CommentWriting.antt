-- The writer of comments goes from text to comment, whatever follows.
use Rattle.std.proofs.Common.{◌≡◌, ◌≢◌, ℕ, ◌+◌, ◌-◌, ◌<◌, ◌≤◌, ◌⊎◌, inl, inr, Bool, true, false, ◌&&◌, if◌then◌else◌, List, [], ◌∷◌, ◌++◌, length, map, take, refl, sym, ap, ◌∙◌, subst, arith}
use Rattle.std.proofs.lemmas.Bool.{lt-ltb}
use Rattle.std.proofs.lemmas.List.{append_assoc, append-nil, append_cancel_right, length-append, take_at}
use Rattle.std.proofs.lemmas.List.Folds.{list_all-append}
use Rattle.std.specs.List.{list_all}
use Rattle.std.specs.Str.{IsUtf8}
use Rattle.mail_wire.specs.Octets.{is_white, is_ascii}
use Rattle.mail_wire.specs.Spans.{IsSpan}
use Rattle.mail_wire.proofs.AllLemmas.{pass-weaker}
use Rattle.mail_wire.proofs.OctetLemmas.{white_below}
use Rattle.encoded_words.specs.CommentUnits.{TextItem, Plain, is_white_item}
use Rattle.encoded_words.specs.Folding.{lines_of, AddsLines}
use Rattle.encoded_words.specs.Written.{WritesCommentText}
use Rattle.encoded_words.proofs.LineLemmas.{lines_of-append, adds_none, adds_these, adds_as}
use Rattle.encoded_words.proofs.PlainItems.{plain_white}
use Rattle.encoded_words.proofs.WritableUnits.{following_ascii}
use Rattle.field_tokens.specs.Trees.{spelling, Body, Last, Before, body_octets, IsCommentBody, IsRun}
use Rattle.field_tokens.specs.private.Bodies.{SplitsRun, body_depth, HoldsBody}
use Rattle.field_tokens.specs.Comments.{IsComment, comment_of, HasRunOf, RunPieces, White, Run, WrappedPieces, BodyPieces, CommentPieces}
use Rattle.field_tokens.specs.private.CommentWriting.{BeginsComment, WritesRun, WritesText, WritesComment}
use Rattle.field_tokens.proofs.Texts.{spelling-append, text_once, open_stops, close_stops, AreText-append, AreText-white}
use Rattle.field_tokens.proofs.BodyLemmas.{grouped, body_once}
use Rattle.field_tokens.proofs.Runs.{lead_whole, run_some}
use Rattle.field_tokens.proofs.Insides.{comment_within}
use Rattle.field_tokens.proofs.Utf8Cuts.{following_white, after_text, before_white, comment_utf8, white_spelling}

-- ---- whether octets are ASCII

and_true : (a : Bool) → (a && true) ≡ a
and_true true = refl
and_true false = refl

and_assoc : (a b c : Bool) → ((a && b) && c) ≡ (a && (b && c))
and_assoc true b c = refl
and_assoc false b c = refl

white_ascii : (white : List TextItem) → list_all is_white_item white ≡ true → list_all is_ascii (spelling white) ≡ true
white_ascii white all = pass-weaker is_white is_ascii (λ x e. lt-ltb x 128 (white_below x e)) (spelling white) (white_spelling white all)

-- white at the ends of a text
within_white : (lead run trail : List TextItem) → list_all is_white_item lead ≡ true → list_all is_white_item trail ≡ true
    → list_all is_ascii (spelling (lead ++ (run ++ trail))) ≡ list_all is_ascii (spelling run)
within_white lead run trail before following =
    let all : List TextItem → Bool = λ text. list_all is_ascii (spelling text) in
    let parts : (a b : List TextItem) → list_all is_ascii (spelling (a ++ b)) ≡ (list_all is_ascii (spelling a) && list_all is_ascii (spelling b))
    = λ a b. ap (list_all is_ascii) (spelling-append a b) ∙ list_all-append is_ascii (spelling a) (spelling b) in
    parts lead (run ++ trail) ∙ ap (λ b. b && all (run ++ trail)) (white_ascii lead before) ∙ parts run trail ∙ ap (λ b. all run && b) (white_ascii trail following) ∙ and_true (all run)

-- what stands between the parentheses
comment_ascii : (inside : List ℕ) → list_all is_ascii (40 ∷ (inside ++ 41 ∷ [])) ≡ list_all is_ascii inside
comment_ascii inside = list_all-append is_ascii inside (41 ∷ []) ∙ and_true (list_all is_ascii inside)

-- ---- the run of a text

pub run_ascii : (octets old new : List ℕ) → list_all is_ascii octets ≡ true → new ≡ old ++ lines_of (octets ∷ []) → WritesRun octets true old new
run_ascii octets old new ascii e = record { ascii_is = sym ascii; adds = adds_these (octets ∷ []) (rw ascii refl) e }

pub run_encoded : (octets old new : List ℕ) → list_all is_ascii octets ≡ false → AddsLines (WritesCommentText octets) old new → WritesRun octets false old new
run_encoded octets old new other adds = record { ascii_is = sym other; adds = adds_as (λ pieces writes. rw other writes) adds }

no_run : (run : List TextItem) (len : ℕ) → (run ≡ []) ⊎ IsRun run → len ≡ length (spelling run) → len ≡ 0 → run ≡ []
no_run run len (inl none) size zero_is = none
no_run run len (inr is) size zero_is = absurd (omega (arith, run_some run is, size))

some_run : (run : List TextItem) (len : ℕ) → (run ≡ []) ⊎ IsRun run → len ≡ length (spelling run) → len ≢ 0 → IsRun run
some_run run len (inl none) size some = absurd (some (size ∙ rw none refl))
some_run run len (inr is) size some = is

pub WritesText-none : (octets lead following after : List ℕ) (len : ℕ) (made : List ℕ) → IsSpan is_white octets lead following → SplitsRun following len after → len ≡ 0 → WritesText octets true after made made
WritesText-none octets lead following after len made span split none = record {
  text = map Plain lead ++ (split.run ++ split.trail);
  are_text = AreText-append (map Plain lead) (split.run ++ split.trail) (AreText-white lead span.passes) split.are_text;
  whole = lead_whole lead following octets after (split.run ++ split.trail) span.whole split.whole;
  stops = split.stops;
  ascii_is = sym (white_ascii (map Plain lead ++ (split.run ++ split.trail)) blank);
  adds = adds_none made (White blank refl);
}
  where
    blank : list_all is_white_item (map Plain lead ++ (split.run ++ split.trail)) ≡ true
    blank = rw (no_run split.run len split.is_run split.len_is none, list_all-append is_white_item (map Plain lead) split.trail, plain_white lead span.passes) split.trail_white

-- the octets of the run
pub run_octets : (following after : List ℕ) (len : ℕ) → (split : SplitsRun following len after) → take len following ≡ spelling split.run
run_octets following after len split =
    let whole : following ≡ spelling split.run ++ (spelling split.trail ++ after) = split.whole ∙ ap (λ r. r ++ after) (spelling-append split.run split.trail) ∙ append_assoc (spelling split.run) (spelling split.trail) after in
    ap (take len) whole ∙ take_at (spelling split.run) (spelling split.trail ++ after) len (sym split.len_is)

pub run_within : (following after : List ℕ) (len : ℕ) → SplitsRun following len after → len ≤ length following
run_within following after len split =
    omega (arith, ap length split.whole, length-append (spelling (split.run ++ split.trail)) after, ap length (spelling-append split.run split.trail), length-append (spelling split.run) (spelling split.trail), split.len_is)

pub run_utf8 : (octets lead following after run : List ℕ) (len : ℕ) → IsSpan is_white octets lead following → SplitsRun following len after → run ≡ take len following → IsUtf8 octets → IsUtf8 run
run_utf8 octets lead following after run len span split run_is u =
    rw (run_is, run_octets following after len split) (before_white split.run split.trail following after split.whole split.trail_white split.stops (following_white lead following span.passes (subst IsUtf8 span.whole u)))

pub WritesText-some : (octets lead following after run : List ℕ) (len : ℕ) (ascii : Bool) (old new : List ℕ) → IsSpan is_white octets lead following → SplitsRun following len after → len ≢ 0 → run ≡ take len following
    → WritesRun run ascii old new → WritesText octets ascii after old new
WritesText-some octets lead following after run len ascii old new span split some run_is writes = record {
  text = map Plain lead ++ (split.run ++ split.trail);
  are_text = AreText-append (map Plain lead) (split.run ++ split.trail) (AreText-white lead span.passes) split.are_text;
  whole = lead_whole lead following octets after (split.run ++ split.trail) span.whole split.whole;
  stops = split.stops;
  ascii_is = writes.ascii_is ∙ ap (list_all is_ascii) (run_is ∙ run_octets following after len split)
      ∙ sym (within_white (map Plain lead) split.run split.trail (plain_white lead span.passes) split.trail_white);
  adds = adds_as (λ pieces given. Run split.run has (subst (λ r. RunPieces (list_all is_ascii r) r pieces) (run_is ∙ run_octets following after len split) given)) writes.adds;
}
  where
    has : HasRunOf (map Plain lead ++ (split.run ++ split.trail)) split.run
    has = record { lead = map Plain lead; trail = split.trail; lead_white = plain_white lead span.passes; trail_white = split.trail_white; is_run = some_run split.run len split.is_run split.len_is some; whole = refl }

-- ---- what follows the text

-- the octets are a comment, and what a body holds
pub record OpensMore (levels : ℕ) (octets : List ℕ) : Type 0 where
  pub inner : Body
  pub more : Body
  pub following : List ℕ
  pub is_inner : IsCommentBody inner
  pub is_more : IsCommentBody more
  pub inner_shallow : body_depth inner + 1 < levels
  pub more_shallow : body_depth more < levels
  pub whole : octets ≡ 40 ∷ (body_octets inner ++ 41 ∷ (body_octets more ++ 41 ∷ following))

pub data Follows (levels : ℕ) (after : List ℕ) : Type 0 where
  Closes : (following : List ℕ) → after ≡ 41 ∷ following → Follows levels after
  Opens : OpensMore levels after → Follows levels after

pub follows : (levels : ℕ) (rest : List ℕ) (ascii : Bool) (after old new : List ℕ) → HoldsBody levels rest → WritesText rest ascii after old new → Follows levels after
follows levels rest ascii after old new holds w = by holds.body holds.is_body holds.shallow holds.whole
  where
    by : (body : Body) → IsCommentBody body → body_depth body < levels → rest ≡ body_octets body ++ 41 ∷ holds.following → Follows levels after
    by (Last text) is deep e = Closes holds.following (text_once w.text text after (41 ∷ holds.following) w.are_text is w.stops (close_stops holds.following) (sym w.whole ∙ e)).1
    by (Before text inner more) is deep e =
        let following : List ℕ = body_octets inner ++ 41 ∷ (body_octets more ++ 41 ∷ holds.following) in
        let whole : rest ≡ spelling text ++ 40 ∷ following = e ∙ grouped (spelling text) (body_octets inner) (body_octets more) (41 ∷ holds.following) in
        Opens (record {
          inner = inner;
          more = more;
          following = holds.following;
          is_inner = is.1;
          is_more = is.2;
          inner_shallow = omega arith;
          more_shallow = omega arith;
          whole = (text_once w.text text after (40 ∷ following) w.are_text is.0 w.stops (open_stops following) (sym w.whole ∙ whole)).1;
        })

pub mark_some : (levels : ℕ) (after : List ℕ) → Follows levels after → 0 < length after
mark_some levels after (Closes following e) = omega (arith, ap length e)
mark_some levels after (Opens o) = omega (arith, ap length o.whole)

-- another mark than a closing parenthesis opens a comment
pub opens_more : (levels mark : ℕ) (after following : List ℕ) → Follows levels after → after ≡ mark ∷ following → mark ≢ 41 → OpensMore levels after
opens_more levels mark after following (Closes rest e) is other = let whole : mark ∷ following ≡ 41 ∷ rest = sym is ∙ e in absurd (other (cc whole))
opens_more levels mark after following (Opens o) is other = o

-- the comment that is opened
pub OpensMore-begins : (levels : ℕ) (after : List ℕ) → OpensMore levels after → BeginsComment (levels - 1) after
OpensMore-begins levels after o =
    record { body = o.inner; following = body_octets o.more ++ 41 ∷ o.following; is_body = o.is_inner; shallow = omega (arith, o.inner_shallow); whole = o.whole }

pub OpensMore-some : (levels : ℕ) (after : List ℕ) → OpensMore levels after → 1 ≤ levels
OpensMore-some levels after o = omega (arith, o.inner_shallow)

-- a comment with what follows it
following_comment : (body : Body) (rest : List ℕ) → comment_of body ++ rest ≡ 40 ∷ (body_octets body ++ 41 ∷ rest)
following_comment body rest = ap (λ r. 40 ∷ r) (append_assoc (body_octets body) (41 ∷ []) rest)

-- what was written as a comment
comment_is : (octets : List ℕ) (ascii : Bool) (rest old new : List ℕ) → (w : WritesComment octets ascii rest old new) → octets ≡ 40 ∷ (body_octets w.adds.holds.body ++ 41 ∷ rest)
comment_is octets ascii rest old new w = w.whole ∙ ap (λ c. c ++ rest) w.adds.holds.spelled ∙ following_comment w.adds.holds.body rest

-- what is left after the comment
left_following : (levels : ℕ) (after : List ℕ) (ascii : Bool) (next old new : List ℕ) → OpensMore levels after → WritesComment after ascii next old new → HoldsBody levels next
left_following levels after ascii next old new o w =
    let whole : 40 ∷ (body_octets w.adds.holds.body ++ 41 ∷ next) ≡ 40 ∷ (body_octets o.inner ++ 41 ∷ (body_octets o.more ++ 41 ∷ o.following)) = sym (comment_is after ascii next old new w) ∙ o.whole in
    let same = body_once w.adds.holds.body o.inner next (body_octets o.more ++ 41 ∷ o.following) w.adds.holds.is_body o.is_inner (cc whole) in
    record { body = o.more; following = o.following; is_body = o.is_more; shallow = o.more_shallow; whole = same.1 }

pub after_utf8 : (rest : List ℕ) (ascii : Bool) (after old new : List ℕ) → IsUtf8 rest → WritesText rest ascii after old new → IsUtf8 after
after_utf8 rest ascii after old new u w = after_text w.text rest after w.whole w.stops u

next_utf8 : (after : List ℕ) (ascii : Bool) (next old new : List ℕ) → IsUtf8 after → WritesComment after ascii next old new → IsUtf8 next
next_utf8 after ascii next old new u w = (comment_utf8 w.adds.holds.body next (subst IsUtf8 (w.whole ∙ ap (λ c. c ++ next) w.adds.holds.spelled) u)).rest

-- ---- from text to comment

-- the octets are a body with these pieces, a closing parenthesis and what follows it
pub record HasPieces (octets : List ℕ) (pieces : List (List ℕ)) (following : List ℕ) : Type 0 where
  pub body : Body
  pub is_body : IsCommentBody body
  pub whole : octets ≡ body_octets body ++ 41 ∷ following
  pub pieces_are : BodyPieces body pieces

-- The pieces put so far stand before those of any body of the rest, and this tells whether what was passed is ASCII.
pub record WritesOn (levels : ℕ) (inside rest : List ℕ) (ascii : Bool) (old new : List ℕ) : Type 0 where
  pub holds : HoldsBody levels rest
  pub utf8 : IsUtf8 rest
  pub front : List ℕ
  pub passed : inside ≡ front ++ rest
  pub ascii_is : ascii ≡ list_all is_ascii front
  pub made : List (List ℕ)
  pub added : new ≡ old ++ lines_of made
  pub onward : (body : Body) (more : List (List ℕ)) (following : List ℕ) → IsCommentBody body → rest ≡ body_octets body ++ 41 ∷ following → BodyPieces body more → HasPieces inside (made ++ more) following

pub comment_there : (levels : ℕ) (octets : List ℕ) → BeginsComment levels octets → 0 < length octets
comment_there levels octets b = omega (arith, ap length b.whole)

pub WritesOn-none : (levels mark : ℕ) (octets inside made : List ℕ) → BeginsComment levels octets → IsUtf8 octets → octets ≡ mark ∷ inside → WritesOn levels inside inside true made made
WritesOn-none levels mark octets inside made b u e =
    let whole : mark ∷ inside ≡ 40 ∷ (body_octets b.body ++ 41 ∷ b.following) = sym e ∙ b.whole in
    let opened : mark ≡ 40 = cc whole in
    let inside_is : inside ≡ body_octets b.body ++ 41 ∷ b.following = cc whole in
    record {
      holds = record { body = b.body; following = b.following; is_body = b.is_body; shallow = b.shallow; whole = inside_is };
      utf8 = following_ascii mark inside (omega (arith, opened)) (subst IsUtf8 e u);
      front = [];
      passed = refl;
      ascii_is = refl;
      made = [];
      added = sym (append-nil made);
      onward = λ body more following is_body whole has. record { body = body; is_body = is_body; whole = whole; pieces_are = has };
    }

-- lines after lines
put_more : (old mid new : List ℕ) (xs ys : List (List ℕ)) → mid ≡ old ++ lines_of xs → new ≡ mid ++ lines_of ys → new ≡ old ++ lines_of (xs ++ ys)
put_more old mid new xs ys a b = b ∙ ap (λ r. r ++ lines_of ys) a ∙ append_assoc old (lines_of xs) (lines_of ys) ∙ ap (λ r. old ++ r) (sym (lines_of-append xs ys))

-- octets after octets
passed_more : (inside front rest text after : List ℕ) (ascii ascii_text : Bool) → inside ≡ front ++ rest → rest ≡ text ++ after → ascii ≡ list_all is_ascii front → ascii_text ≡ list_all is_ascii text
    → (inside ≡ (front ++ text) ++ after) × ((ascii && ascii_text) ≡ list_all is_ascii (front ++ text))
passed_more inside front rest text after ascii ascii_text e f a b =
    (e ∙ ap (λ r. front ++ r) f ∙ sym (append_assoc front text after), rw (a, b) (sym (list_all-append is_ascii front text)))

pub WritesOn-turn : (levels : ℕ) (inside rest after next : List ℕ) (ascii ascii_text ascii_nested : Bool) (old new mid last : List ℕ) → WritesOn levels inside rest ascii old new
    → WritesText rest ascii_text after new mid → OpensMore levels after → WritesComment after ascii_nested next mid last → WritesOn levels inside next ((ascii && ascii_text) && ascii_nested) old last
WritesOn-turn levels inside rest after next ascii ascii_text ascii_nested old new mid last on w o c =
    let p = c.adds.holds in
    let one = passed_more inside on.front rest (spelling w.text) after ascii ascii_text on.passed w.whole on.ascii_is w.ascii_is in
    let two = passed_more inside (on.front ++ spelling w.text) after c.comment next (ascii && ascii_text) ascii_nested one.0 c.whole one.1 c.ascii_is in
    record {
      holds = left_following levels after ascii_nested next mid last o c;
      utf8 = next_utf8 after ascii_nested next mid last (after_utf8 rest ascii_text after new mid on.utf8 w) c;
      front = (on.front ++ spelling w.text) ++ c.comment;
      passed = two.0;
      ascii_is = two.1;
      made = (on.made ++ w.adds.pieces) ++ c.adds.pieces;
      added = put_more old mid last (on.made ++ w.adds.pieces) c.adds.pieces (put_more old new mid on.made w.adds.pieces on.added w.adds.added) c.adds.added;
      onward = λ body more following is e has.
          let wrapped : WrappedPieces (list_all is_ascii (comment_of p.body)) (comment_of p.body) (BodyPieces p.body) c.adds.pieces = subst (λ x. WrappedPieces (list_all is_ascii x) x (BodyPieces p.body) c.adds.pieces) p.spelled p.pieces_are in
          let after_is : after ≡ 40 ∷ (body_octets p.body ++ 41 ∷ (body_octets body ++ 41 ∷ following))
          = comment_is after ascii_nested next mid last c ∙ ap (λ r. 40 ∷ (body_octets p.body ++ 41 ∷ r)) e in
          let whole : rest ≡ body_octets (Before w.text p.body body) ++ 41 ∷ following
          = w.whole ∙ ap (λ r. spelling w.text ++ r) after_is ∙ sym (grouped (spelling w.text) (body_octets p.body) (body_octets body) (41 ∷ following)) in
          let h = on.onward (Before w.text p.body body) (w.adds.pieces ++ (c.adds.pieces ++ more)) following (w.are_text, p.is_body, is) whole (w.adds.pieces, c.adds.pieces, more, w.adds.holds, wrapped, has, refl) in
          let same : on.made ++ (w.adds.pieces ++ (c.adds.pieces ++ more)) ≡ ((on.made ++ w.adds.pieces) ++ c.adds.pieces) ++ more
          = sym (append_assoc on.made w.adds.pieces (c.adds.pieces ++ more)) ∙ sym (append_assoc (on.made ++ w.adds.pieces) c.adds.pieces more) in
          subst (λ r. HasPieces inside r following) same h;
    }

-- the octets of a comment that ends here
pub ends_so : (octets inside after following comment : List ℕ) (mark : ℕ) (text : List TextItem) (front rest : List ℕ) → octets ≡ mark ∷ inside → inside ≡ front ++ rest → rest ≡ spelling text ++ after → after ≡ 41 ∷ following
    → comment ≡ take (length octets - length following) octets → comment ≡ mark ∷ ((front ++ spelling text) ++ 41 ∷ [])
ends_so octets inside after following comment mark text front rest e f g h cut =
    let all : List ℕ = mark ∷ ((front ++ spelling text) ++ 41 ∷ []) in
    let whole : octets ≡ all ++ following
    = e ∙ ap (λ r. mark ∷ r) (f ∙ ap (λ r. front ++ r) (g ∙ ap (λ r. spelling text ++ r) h) ∙ sym (append_assoc front (spelling text) (41 ∷ following)) ∙ sym (append_assoc (front ++ spelling text) (41 ∷ []) following)) in
    let size : length all ≡ length octets - length following = omega (arith, ap length whole, length-append all following) in
    cut ∙ ap (take (length octets - length following)) whole ∙ take_at all following (length octets - length following) size

-- the closing parenthesis ends the comment
pub WritesComment-end : (levels mark : ℕ) (octets inside rest after following comment : List ℕ) (close start_len : ℕ) (ascii ascii_text : Bool) (start old new mid last : List ℕ) → BeginsComment levels octets
    → octets ≡ mark ∷ inside → old ≡ start ++ lines_of ((40 ∷ []) ∷ []) → start_len ≡ length start → WritesOn levels inside rest ascii old new → WritesText rest ascii_text after new mid → after ≡ close ∷ following → close ≡ 41
    → comment ≡ take (length octets - length following) octets
    → last ≡ (if ascii && ascii_text then take start_len mid ++ lines_of (comment ∷ []) else mid ++ lines_of ((41 ∷ []) ∷ [])) → WritesComment octets (ascii && ascii_text) following start last
WritesComment-end levels mark octets inside rest after following comment close start_len ascii ascii_text start old new mid last b e opened len_is on w close_is closes cut put = record {
  comment = comment;
  whole = by_parts;
  ascii_is = ascii_comment;
  adds = of_kind (ascii && ascii_text) refl;
}
  where
    after_is : after ≡ 41 ∷ following
    after_is = close_is ∙ ap (λ r. r ∷ following) closes

    mark_is : mark ≡ 40
    mark_is = let whole : mark ∷ inside ≡ 40 ∷ (body_octets b.body ++ 41 ∷ b.following) = sym e ∙ b.whole in cc whole

    inner : List ℕ
    inner = on.front ++ spelling w.text

    comment_octets : comment ≡ 40 ∷ (inner ++ 41 ∷ [])
    comment_octets = ends_so octets inside after following comment mark w.text on.front rest e on.passed w.whole after_is cut ∙ ap (λ m. m ∷ (inner ++ 41 ∷ [])) mark_is

    passed : (inside ≡ inner ++ after) × ((ascii && ascii_text) ≡ list_all is_ascii inner)
    passed = passed_more inside on.front rest (spelling w.text) after ascii ascii_text on.passed w.whole on.ascii_is w.ascii_is

    by_parts : octets ≡ comment ++ following
    by_parts = e ∙ ap (λ m. m ∷ inside) mark_is ∙ ap (λ r. 40 ∷ r) (passed.0 ∙ ap (λ r. inner ++ r) after_is ∙ sym (append_assoc inner (41 ∷ []) following)) ∙ ap (λ r. r ++ following) (sym comment_octets)

    ascii_comment : (ascii && ascii_text) ≡ list_all is_ascii comment
    ascii_comment = passed.1 ∙ sym (ap (list_all is_ascii) comment_octets ∙ comment_ascii inner)

    has : HasPieces inside (on.made ++ w.adds.pieces) following
    has = on.onward (Last w.text) w.adds.pieces following w.are_text (w.whole ∙ ap (λ r. spelling w.text ++ r) after_is) w.adds.holds

    spelled : comment ≡ comment_of has.body
    spelled =
        let whole : inner ++ 41 ∷ following ≡ body_octets has.body ++ 41 ∷ following = ap (λ r. inner ++ r) (sym after_is) ∙ sym passed.0 ∙ has.whole in
        comment_octets ∙ ap (λ r. 40 ∷ (r ++ 41 ∷ [])) (append_cancel_right inner (body_octets has.body) (41 ∷ following) whole)

    mid_is : mid ≡ start ++ lines_of ((40 ∷ []) ∷ (on.made ++ w.adds.pieces))
    mid_is = put_more start old mid ((40 ∷ []) ∷ []) (on.made ++ w.adds.pieces) opened (put_more old new mid on.made w.adds.pieces on.added w.adds.added)

    of_kind : (kind : Bool) → (ascii && ascii_text) ≡ kind → AddsLines (CommentPieces comment) start last
    of_kind true is =
        let put_is : last ≡ take start_len mid ++ lines_of (comment ∷ []) = put ∙ ap (λ k. if k then take start_len mid ++ lines_of (comment ∷ []) else mid ++ lines_of ((41 ∷ []) ∷ [])) is in
        let back : take start_len mid ≡ start = ap (take start_len) mid_is ∙ take_at start (lines_of ((40 ∷ []) ∷ (on.made ++ w.adds.pieces))) start_len (sym len_is) in
        adds_these (comment ∷ []) (record { body = has.body; is_body = has.is_body; spelled = spelled; pieces_are = rw (sym ascii_comment ∙ is) refl }) (put_is ∙ ap (λ r. r ++ lines_of (comment ∷ [])) back)
    of_kind false is =
        let put_is : last ≡ mid ++ lines_of ((41 ∷ []) ∷ []) = put ∙ ap (λ k. if k then take start_len mid ++ lines_of (comment ∷ []) else mid ++ lines_of ((41 ∷ []) ∷ [])) is in
        let pieces : List (List ℕ) = (40 ∷ []) ∷ ((on.made ++ w.adds.pieces) ++ (41 ∷ []) ∷ []) in
        adds_these pieces (record { body = has.body; is_body = has.is_body; spelled = spelled; pieces_are = rw (sym ascii_comment ∙ is) (on.made ++ w.adds.pieces, has.pieces_are, refl) })
        (put_more start mid last ((40 ∷ []) ∷ (on.made ++ w.adds.pieces)) ((41 ∷ []) ∷ []) mid_is put_is)

-- ---- a comment by itself

pub comment_begins : (octets : List ℕ) → IsComment octets → BeginsComment 64 octets
comment_begins octets is =
    let c = comment_within octets is in
    record { body = c.body; following = []; is_body = c.is_body; shallow = c.shallow; whole = c.spelled }

-- an ASCII comment is one piece
pub comment_kept : (comment old new : List ℕ) → IsComment comment → list_all is_ascii comment ≡ true → new ≡ old ++ lines_of (comment ∷ []) → AddsLines (CommentPieces comment) old new
comment_kept comment old new is ascii e =
    let c = comment_within comment is in
    adds_these (comment ∷ []) (record { body = c.body; is_body = c.is_body; spelled = c.spelled; pieces_are = rw ascii refl }) e

-- nothing follows a comment that is all
pub comment_written : (comment : List ℕ) (ascii : Bool) (rest old new : List ℕ) → IsComment comment → WritesComment comment ascii rest old new → AddsLines (CommentPieces comment) old new
comment_written comment ascii rest old new is w =
    let c = comment_within comment is in
    let whole : 40 ∷ (body_octets w.adds.holds.body ++ 41 ∷ rest) ≡ 40 ∷ (body_octets c.body ++ 41 ∷ []) = sym (comment_is comment ascii rest old new w) ∙ c.spelled in
    let same = body_once w.adds.holds.body c.body rest [] w.adds.holds.is_body c.is_body (cc whole) in
    let comment_is : w.comment ≡ comment = sym (append-nil w.comment) ∙ ap (λ r. w.comment ++ r) (sym same.1) ∙ sym w.whole in
    subst (λ x. AddsLines (CommentPieces x) old new) comment_is w.adds
