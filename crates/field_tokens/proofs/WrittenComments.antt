-- Comments that are written are read back.
use Rattle.std.proofs.Common.{◌≡◌, ◌==◌, ℕ, ◌<◌, ◌≤◌, Bool, true, false, ◌||◌, not, ◌≢◌, List, [], ◌∷◌, ◌++◌, length, map, Option, Some, None, refl, sym, ap, ◌∙◌, subst, arith}
use Rattle.std.proofs.lemmas.Bool.{and_parts, or_left}
use Rattle.std.proofs.lemmas.Bool.Decides.{nat_tests}
use Rattle.std.proofs.lemmas.List.{append_assoc, append-nil, map-append, length-append}
use Rattle.std.specs.List.{AllByRecursion, list_all, join_with_byte}
use Rattle.std.specs.Str.{IsUtf8}
use Rattle.mail_wire.specs.Octets.{is_white, is_ascii}
use Rattle.mail_wire.proofs.AllLemmas.{pass-weaker}
use Rattle.encoded_words.specs.CommentUnits.{TextItem, Plain, AreTextItems, comment_places, HasCommentUnits}
use Rattle.encoded_words.specs.Units.{raw_units}
use Rattle.encoded_words.specs.Words.{UnitValue}
use Rattle.encoded_words.specs.Written.{WriteAll, AreUnits, has_no_backslash}
use Rattle.encoded_words.proofs.CommentLemmas.{HasCommentUnits-once}
use Rattle.encoded_words.proofs.PlainItems.{plain_spelling}
use Rattle.encoded_words.proofs.WithText.{AreUnits-merged}
use Rattle.encoded_words.proofs.WritableUnits.{HasCommentUnits-writable}
use Rattle.encoded_words.proofs.WrittenUnits.{HasCommentUnits-written}
use Rattle.encoded_words.proofs.WrittenPieces.{is_plain, IsPlainPiece, HasCommentUnits-not_empty, WriteAll-some_piece, joined_all}
use Rattle.field_tokens.specs.Trees.{StandsInText, AreText, spelling, Body, Last, Before, body_octets, IsCommentBody, IsRun}
use Rattle.field_tokens.specs.private.Bodies.{body_depth}
use Rattle.field_tokens.specs.Comments.{IsComment, CommentValue, TextSays, BodySays, comment_of, CommentSays, RunPieces, TextPieces, White, Run, WrappedPieces, BodyPieces, CommentPieces, CommentsSay, CommentsPieces, AreWritableComments, IsWritten, IsAsciiComment, AreWritten}
use Rattle.field_tokens.proofs.Texts.{AreText-append, spelling-append, HasRunOf-once, HasRunOf-nonwhite}
use Rattle.field_tokens.proofs.Insides.{IsComment-of, comment_within}
use Rattle.field_tokens.proofs.Utf8Cuts.{body_utf8, run_of_utf8, inside_utf8}
use Rattle.field_tokens.proofs.LinePieces.{AreTextItems-text, run_text, run_plain, HoldsPiece, CommentPieces-hold, CommentPieces-there}
use Rattle.field_tokens.proofs.CommentValues.{one_body}

-- each piece with a space before it
abbrev spaced : List (List ℕ) → List ℕ
spaced [] = []
spaced (w ∷ ws) = 32 ∷ (w ++ spaced ws)

spaced-append : (a b : List (List ℕ)) → spaced (a ++ b) ≡ spaced a ++ spaced b
spaced-append [] b = refl
spaced-append (w ∷ a) b = ap (λ r. 32 ∷ r) (ap (λ r. w ++ r) (spaced-append a b) ∙ sym (append_assoc w (spaced a) (spaced b)))

joined-spaced : (w : List ℕ) (ws : List (List ℕ)) → join_with_byte 32 (w ∷ ws) ≡ w ++ spaced ws
joined-spaced w [] = sym (append-nil w)
joined-spaced w (v ∷ ws) = ap (λ r. w ++ 32 ∷ r) (joined-spaced v ws)

spaced-joined : (pieces : List (List ℕ)) → 0 < length pieces → spaced pieces ≡ 32 ∷ join_with_byte 32 pieces
spaced-joined [] some = absurd (omega (arith, some))
spaced-joined (w ∷ ws) some = ap (λ r. 32 ∷ r) (sym (joined-spaced w ws))

-- Plain pieces as a run.
plain_nonwhite : (x : ℕ) → is_plain x ≡ true → is_white x ≡ false
plain_nonwhite x h = grind (arith, nat_tests)

plain_quotes : (x : ℕ) → is_plain x ≡ true → not (x == 92) ≡ true
plain_quotes x h = grind (arith, nat_tests)

text_octet : (x : ℕ) → (is_plain x || x == 32) ≡ true → (x ≢ 40) × (x ≢ 41) × (x ≢ 92)
text_octet x h = ((λ e. cc (e, h)), (λ e. cc (e, h)), (λ e. cc (e, h)))

octets_text : (xs : List ℕ) → list_all (λ x. is_plain x || x == 32) xs ≡ true → AreText (map Plain xs)
octets_text [] all = tt
octets_text (x ∷ xs) all =
    let parts = and_parts (is_plain x || x == 32) (list_all (λ x. is_plain x || x == 32) xs) all in
    (text_octet x parts.0, octets_text xs parts.1)

all_weaker : (q : ℕ → Bool) → ((x : ℕ) → is_plain x ≡ true → q x ≡ true) → (pieces : List (List ℕ)) → AllByRecursion IsPlainPiece pieces → AllByRecursion (λ w. list_all q w ≡ true) pieces
all_weaker q imp [] all = tt
all_weaker q imp (w ∷ ws) all = (pass-weaker is_plain q imp w all.0.plain, all_weaker q imp ws all.1)

-- the last octet is not white
record EndsNonwhite (octets : List ℕ) : Type 0 where
  others : List ℕ
  last : ℕ
  whole : octets ≡ others ++ last ∷ []
  nonwhite : is_white last ≡ false

piece_ends : (x : ℕ) (xs : List ℕ) → list_all is_plain (x ∷ xs) ≡ true → EndsNonwhite (x ∷ xs)
piece_ends x [] all = record { others = []; last = x; whole = refl; nonwhite = plain_nonwhite x (and_parts (is_plain x) true all).0 }
piece_ends x (y ∷ xs) all =
    let e = piece_ends y xs (and_parts (is_plain x) (list_all is_plain (y ∷ xs)) all).1 in
    record { others = x ∷ e.others; last = e.last; whole = ap (λ r. x ∷ r) e.whole; nonwhite = e.nonwhite }

one_ends : (w : List ℕ) → IsPlainPiece w → EndsNonwhite w
one_ends [] is = absurd (omega (arith, is.some))
one_ends (x ∷ w) is = piece_ends x w is.plain

joined_ends : (w : List ℕ) (ws : List (List ℕ)) → AllByRecursion IsPlainPiece (w ∷ ws) → EndsNonwhite (join_with_byte 32 (w ∷ ws))
joined_ends w [] all = one_ends w all.0
joined_ends w (v ∷ ws) all =
    let e = joined_ends v ws all.1 in
    record { others = w ++ 32 ∷ e.others; last = e.last; whole = ap (λ r. w ++ 32 ∷ r) e.whole ∙ sym (append_assoc w (32 ∷ e.others) (e.last ∷ [])); nonwhite = e.nonwhite }

joined_run : (pieces : List (List ℕ)) → 0 < length pieces → AllByRecursion IsPlainPiece pieces → IsRun (map Plain (join_with_byte 32 pieces))
joined_run [] some all = absurd (omega (arith, some))
joined_run ([] ∷ ws) some all = absurd (omega (arith, all.0.some))
joined_run ((x ∷ w) ∷ ws) some all =
    let e = joined_ends (x ∷ w) ws all in
    record {
      begins = (Plain x, map Plain (w ++ spaced ws), ap (map Plain) (joined-spaced (x ∷ w) ws), plain_nonwhite x (and_parts (is_plain x) (list_all is_plain w) all.0.plain).0);
      ends = (map Plain e.others, Plain e.last, ap (map Plain) e.whole ∙ map-append Plain e.others (e.last ∷ []), e.nonwhite);
    }

-- Text that is written: a space, the pieces with a space between two, and a space.
record SpacedText (pieces : List (List ℕ)) (units : Option (List UnitValue)) : Type 0 where
  made : List TextItem
  are_text : AreText made
  spelled : spelling made ≡ spaced pieces ++ 32 ∷ []
  says : TextSays made units

space_stands : StandsInText (Plain 32)
space_stands = ((λ e. omega (arith, e)), (λ e. omega (arith, e)), (λ e. omega (arith, e)))

made_text : (run : List TextItem) (units : List UnitValue) (pieces : List (List ℕ)) → IsRun run → AreText run → HasCommentUnits (spelling run) units → spaced pieces ≡ 32 ∷ spelling run → SpacedText pieces (Some units)
made_text run units pieces is are has spelled = record {
  made = Plain 32 ∷ (run ++ Plain 32 ∷ []);
  are_text = (space_stands, AreText-append run (Plain 32 ∷ []) are (space_stands, tt));
  spelled = ap (λ r. 32 ∷ r) (spelling-append run (Plain 32 ∷ [])) ∙ ap (λ r. r ++ 32 ∷ []) (sym spelled);
  says = (run, record { lead = Plain 32 ∷ []; trail = Plain 32 ∷ []; lead_white = refl; trail_white = refl; is_run = is; whole = refl }, has);
}

some_units : (run : List TextItem) (units : List UnitValue) → IsRun run → AreText run → HasCommentUnits (spelling run) units → 0 < length units
some_units run units is are has =
    let b = is.begins in
    HasCommentUnits-not_empty b.0 b.1 units (subst AreTextItems b.2 (AreTextItems-text run are)) b.3 (subst (λ r. HasCommentUnits (spelling r) units) b.2 has)

run_spaced : (b : Bool) (run : List TextItem) (units : List UnitValue) (pieces : List (List ℕ)) → IsRun run → AreText run → IsUtf8 (spelling run) → HasCommentUnits (spelling run) units → RunPieces b (spelling run) pieces
    → SpacedText pieces (Some units)
run_spaced true run units pieces is are u has given = made_text run units pieces is are has (rw given (ap (λ r. 32 ∷ r) (append-nil (spelling run))))
run_spaced false run units pieces is are u has given =
    let same : given.0 ≡ units = HasCommentUnits-once (spelling run) given.0 units given.1 has in
    let writes : WriteAll units pieces = subst (λ us. WriteAll us pieces) same given.2 in
    let apart : AreUnits units = AreUnits-merged (raw_units (comment_places has.words)) units has.says in
    let plain = run_plain run units pieces are u has writes in
    let some = WriteAll-some_piece units pieces apart (some_units run units is are has) writes in
    let joined : List ℕ = join_with_byte 32 pieces in
    let quotes : has_no_backslash joined ≡ true = joined_all (λ x. not (x == 92)) refl pieces (all_weaker (λ x. not (x == 92)) plain_quotes pieces plain) in
    let text = octets_text joined (joined_all (λ x. is_plain x || x == 32) refl pieces (all_weaker (λ x. is_plain x || x == 32) (λ x h. or_left (is_plain x) (x == 32) h) pieces plain)) in
    let read = HasCommentUnits-written units pieces apart (HasCommentUnits-writable (spelling run) units u has) writes quotes in
    made_text (map Plain joined) units pieces (joined_run pieces some plain) text (subst (λ o. HasCommentUnits o units) (sym (plain_spelling joined)) read)
    (spaced-joined pieces some ∙ ap (λ r. 32 ∷ r) (sym (plain_spelling joined)))

text_spaced : (text : List TextItem) (pieces : List (List ℕ)) (says : Option (List UnitValue)) → AreText text → IsUtf8 (spelling text) → TextPieces text pieces → TextSays text says → SpacedText pieces says
text_spaced text pieces None are u (White blank none) said = rw none (record { made = Plain 32 ∷ []; are_text = (space_stands, tt); spelled = refl; says = refl })
text_spaced text pieces (Some units) are u (White blank none) said = absurd (HasRunOf-nonwhite text said.0 said.1 blank)
text_spaced text pieces None are u (Run run h given) said = absurd (HasRunOf-nonwhite text run h said)
text_spaced text pieces (Some units) are u (Run run h given) said =
    let same : said.0 ≡ run = (HasRunOf-once text said.0 run said.1 h).1 in
    run_spaced (list_all is_ascii (spelling run)) run units pieces h.is_run (run_text text run h are) (run_of_utf8 text run h u) (subst (λ r. HasCommentUnits (spelling r) units) same said.2) given

-- A body that is written, no deeper than this.
record SpacedBody (depth : ℕ) (pieces : List (List ℕ)) (value : CommentValue) : Type 0 where
  body : Body
  is_body : IsCommentBody body
  shallow : body_depth body ≤ depth
  spelled : body_octets body ≡ spaced pieces ++ 32 ∷ []
  says : BodySays body value

-- a comment that is written
record SpacedComment (depth : ℕ) (pieces : List (List ℕ)) (value : CommentValue) : Type 0 where
  body : Body
  is_body : IsCommentBody body
  shallow : body_depth body ≤ depth
  spelled : spaced pieces ≡ 32 ∷ comment_of body
  says : BodySays body value

-- the spaces around what stands between two parentheses
between : (inner : List (List ℕ)) → spaced (inner ++ (41 ∷ []) ∷ []) ≡ (spaced inner ++ 32 ∷ []) ++ 41 ∷ []
between inner = spaced-append inner ((41 ∷ []) ∷ []) ∙ sym (append_assoc (spaced inner) (32 ∷ []) (41 ∷ []))

wrapped_spaced : (b : Bool) (body : Body) (pieces : List (List ℕ)) (value : CommentValue) → IsCommentBody body → BodySays body value → ((inner : List (List ℕ)) → BodyPieces body inner → SpacedBody (body_depth body) inner value)
    → WrappedPieces b (comment_of body) (BodyPieces body) pieces → SpacedComment (body_depth body) pieces value
wrapped_spaced true body pieces value is says inside given = record {
  body = body;
  is_body = is;
  shallow = omega arith;
  spelled = rw given (ap (λ r. 32 ∷ r) (append-nil (comment_of body)));
  says = says;
}
wrapped_spaced false body pieces value is says inside given =
    let s = inside given.0 given.1 in
    record {
      body = s.body;
      is_body = s.is_body;
      shallow = s.shallow;
      spelled = rw (given.2) (ap (λ r. 32 ∷ 40 ∷ r) (between given.0 ∙ ap (λ r. r ++ 41 ∷ []) (sym s.spelled)));
      says = s.says;
    }

regroup : (a n b : List ℕ) → (a ++ 32 ∷ []) ++ 40 ∷ (n ++ 41 ∷ (b ++ 32 ∷ [])) ≡ (a ++ ((32 ∷ 40 ∷ (n ++ 41 ∷ [])) ++ b)) ++ 32 ∷ []
regroup a n b =
    let inside : ((n ++ 41 ∷ []) ++ b) ++ 32 ∷ [] ≡ n ++ 41 ∷ (b ++ 32 ∷ []) = ap (λ r. r ++ 32 ∷ []) (append_assoc n (41 ∷ []) b) ∙ append_assoc n (41 ∷ b) (32 ∷ []) in
    append_assoc a (32 ∷ []) (40 ∷ (n ++ 41 ∷ (b ++ 32 ∷ []))) ∙ ap (λ r. a ++ 32 ∷ 40 ∷ r) (sym inside) ∙ sym (append_assoc a ((32 ∷ 40 ∷ (n ++ 41 ∷ [])) ++ b) (32 ∷ []))

body_spaced : (body : Body) (pieces : List (List ℕ)) (value : CommentValue) → IsCommentBody body → IsUtf8 (body_octets body) → BodyPieces body pieces → BodySays body value → SpacedBody (body_depth body) pieces value
body_spaced (Last text) pieces value is u given says =
    let t = text_spaced text pieces says.0 is u given says.1 in
    record { body = Last t.made; is_body = t.are_text; shallow = omega arith; spelled = t.spelled; says = (says.0, t.says, says.2) }
body_spaced (Before text inner more) pieces value is u given says =
    let parts = body_utf8 text inner more u in
    let t = text_spaced text given.0 says.0 is.0 parts.of_text given.3 says.3 in
    let n = wrapped_spaced (list_all is_ascii (comment_of inner)) inner given.1 says.1 is.1 says.4 (λ pieces has. body_spaced inner pieces says.1 is.1 parts.of_inner has says.4) given.4 in
    let r = body_spaced more given.2 says.2 is.2 parts.of_more given.5 says.5 in
    let whole : spaced pieces ≡ spaced given.0 ++ ((32 ∷ comment_of n.body) ++ spaced given.2)
    = ap spaced given.6 ∙ spaced-append given.0 (given.1 ++ given.2) ∙ ap (λ x. spaced given.0 ++ x) (spaced-append given.1 given.2 ∙ ap (λ x. x ++ spaced given.2) n.spelled) in
    record {
      body = Before t.made n.body r.body;
      is_body = (t.are_text, n.is_body, r.is_body);
      shallow = omega (arith, n.shallow, r.shallow);
      spelled = rw (t.spelled, r.spelled, whole) (regroup (spaced given.0) (body_octets n.body) (spaced given.2));
      says = (says.0, says.1, says.2, t.says, n.says, r.says, says.6);
    }

pieces_ascii : (pieces : List (List ℕ)) → AllByRecursion (HoldsPiece (λ x. true)) pieces → AllByRecursion (λ w. list_all is_ascii w ≡ true) pieces
pieces_ascii [] all = tt
pieces_ascii (w ∷ ws) all = (all.0.ascii, pieces_ascii ws all.1)

any_octets : (xs : List ℕ) → list_all (λ x. true) xs ≡ true
any_octets [] = refl
any_octets (x ∷ xs) = any_octets xs

written : (b : Bool) (octets : List ℕ) (value : CommentValue) (pieces : List (List ℕ)) → IsUtf8 octets → IsComment octets → CommentSays octets value → list_all is_ascii octets ≡ b → (p : CommentPieces octets pieces)
    → WrappedPieces b octets (BodyPieces p.body) pieces → list_all is_ascii (join_with_byte 32 pieces) ≡ true → IsWritten value pieces
written true octets value pieces u is says e p given ascii = record { is_comment = rw given is; says = rw given says; ascii = ascii }
written false octets value pieces u is says e p given ascii =
    let c = comment_within octets is in
    let depth : body_depth p.body < 64 = subst (λ b. body_depth b < 64) (one_body octets c.body p.body c.is_body p.is_body c.spelled p.spelled) c.shallow in
    let said : BodySays p.body value = subst (λ b. BodySays b value) (one_body octets says.body p.body says.is_body p.is_body says.spelled p.spelled) says.says in
    let s = body_spaced p.body given.0 value p.is_body (inside_utf8 p.body (subst IsUtf8 p.spelled u)) given.1 said in
    let joined : join_with_byte 32 pieces ≡ comment_of s.body
    = ap (join_with_byte 32) given.2 ∙ joined-spaced (40 ∷ []) (given.0 ++ (41 ∷ []) ∷ []) ∙ ap (λ r. 40 ∷ r) (between given.0 ∙ ap (λ r. r ++ 41 ∷ []) (sym s.spelled)) in
    record {
      is_comment = subst IsComment (sym joined) (IsComment-of s.body s.is_body (omega (arith, s.shallow, depth)));
      says = record { body = s.body; is_body = s.is_body; spelled = joined; says = s.says };
      ascii = ascii;
    }

pub CommentPieces-written : (octets : List ℕ) (value : CommentValue) (pieces : List (List ℕ)) → IsUtf8 octets → IsComment octets → CommentSays octets value → CommentPieces octets pieces → IsWritten value pieces
CommentPieces-written octets value pieces u is says p =
    let each = CommentPieces-hold (λ x. true) (record { plain = λ x h. refl; opening = refl; closing = refl }) octets pieces u (any_octets octets) p in
    written (list_all is_ascii octets) octets value pieces u is says refl p p.pieces_are (joined_all is_ascii refl pieces (pieces_ascii pieces each))

-- Several comments.
joined_append : (a b : List (List ℕ)) → 0 < length a → join_with_byte 32 (a ++ b) ≡ join_with_byte 32 a ++ spaced b
joined_append [] b some = absurd (omega (arith, some))
joined_append (w ∷ a) b some =
    joined-spaced w (a ++ b) ∙ ap (λ r. w ++ r) (spaced-append a b) ∙ sym (append_assoc w (spaced a) (spaced b)) ∙ ap (λ r. r ++ spaced b) (sym (joined-spaced w a))

-- the comments, with a space before each
record SpacedComments (values : List CommentValue) (pieces : List (List ℕ)) : Type 0 where
  made : List (List ℕ)
  are_comments : AllByRecursion IsAsciiComment made
  say : CommentsSay made values
  spaced_is : spaced made ≡ spaced pieces

comments_spaced : (comments : List (List ℕ)) (values : List CommentValue) (pieces : List (List ℕ)) → AreWritableComments comments → CommentsSay comments values → CommentsPieces comments pieces → SpacedComments values pieces
comments_spaced [] values pieces can say given = record { made = []; are_comments = tt; say = say; spaced_is = rw given refl }
comments_spaced (c ∷ cs) values pieces can say given =
    let w = CommentPieces-written c say.0 given.0 can.1 can.0 say.3 given.3 in
    let more = comments_spaced cs say.1 given.1 can.2 say.4 given.4 in
    record {
      made = join_with_byte 32 given.0 ∷ more.made;
      are_comments = (record { is_comment = w.is_comment; ascii = w.ascii }, more.are_comments);
      say = (say.0, say.1, say.2, w.says, more.say);
      spaced_is = ap (λ r. 32 ∷ r) (ap (λ r. join_with_byte 32 given.0 ++ r) more.spaced_is ∙ sym (joined_append given.0 given.1 (CommentPieces-there c given.0 given.3)) ∙ ap (join_with_byte 32) (sym given.2))
          ∙ sym (spaced-joined pieces (pieces_some pieces given.0 given.1 given.2 (CommentPieces-there c given.0 given.3)));
    }
  where
    pieces_some : (pieces a b : List (List ℕ)) → pieces ≡ a ++ b → 0 < length a → 0 < length pieces
    pieces_some pieces a b e some = omega (arith, some, ap length e, length-append a b)

-- lists with these spaces are joined alike
spaced_same : (made pieces : List (List ℕ)) → spaced made ≡ spaced pieces → join_with_byte 32 made ≡ join_with_byte 32 pieces
spaced_same [] [] e = refl
spaced_same [] (w ∷ ws) e = cc e
spaced_same (w ∷ ws) [] e = cc e
spaced_same (w ∷ ws) (v ∷ vs) e = joined-spaced w ws ∙ cc e ∙ sym (joined-spaced v vs)

none_say : (made comments : List (List ℕ)) (values : List CommentValue) → CommentsSay made values → CommentsSay comments values → made ≡ [] → comments ≡ []
none_say [] [] values p q e = refl
none_say [] (c ∷ cs) values p q e = cc (sym p ∙ q.2)
none_say (m ∷ made) comments values p q e = cc e

pub CommentsPieces-written : (comments : List (List ℕ)) (values : List CommentValue) (pieces : List (List ℕ)) → AreWritableComments comments → CommentsSay comments values → CommentsPieces comments pieces
    → AreWritten comments values pieces
CommentsPieces-written comments values pieces can say given =
    let s = comments_spaced comments values pieces can say given in
    record {
      made = s.made;
      are_comments = s.are_comments;
      say = s.say;
      joined = spaced_same s.made pieces s.spaced_is;
      none = (none_say s.made comments values s.say say, none_say comments s.made values say s.say);
    }
