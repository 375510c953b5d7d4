-- The pieces of comments: none is empty, each is ASCII, and what holds of a comment's octets holds of theirs.
use Rattle.std.proofs.Common.{◌≡◌, ◌≢◌, ℕ, ◌<◌, Bool, true, false, List, [], ◌∷◌, ◌++◌, length, refl, ap, ◌∙◌, subst, arith}
use Rattle.std.proofs.lemmas.Bool.{and_parts, and_from, ne_eqb}
use Rattle.std.proofs.lemmas.Bool.Decides.{nat_tests}
use Rattle.std.proofs.lemmas.List.{length-append}
use Rattle.std.proofs.lemmas.List.Folds.{list_all-append}
use Rattle.std.specs.List.{AllByRecursion, list_all}
use Rattle.std.specs.Str.{IsUtf8}
use Rattle.mail_wire.specs.Octets.{is_ascii}
use Rattle.mail_wire.proofs.AllLemmas.{all-append, pass-parts, pass-weaker}
use Rattle.encoded_words.specs.CommentUnits.{TextItem, Plain, Pair, AreTextItems, HasCommentUnits}
use Rattle.encoded_words.specs.Words.{UnitValue}
use Rattle.encoded_words.specs.Written.{WriteAll}
use Rattle.encoded_words.proofs.WritableUnits.{HasCommentUnits-writable}
use Rattle.encoded_words.proofs.WrittenPieces.{is_no_mark, is_plain, IsPlainPiece, passes_alone, HasCommentUnits-sources, WriteAll-plain}
use Rattle.field_tokens.specs.TokenOctets.{is_line_octet}
use Rattle.field_tokens.specs.Trees.{AreText, spelling, Body, Last, Before, body_octets, IsCommentBody}
use Rattle.field_tokens.specs.Comments.{HasRunOf, RunPieces, TextPieces, White, Run, WrappedPieces, BodyPieces, comment_of, CommentPieces, CommentsPieces, AreWritableComments, IsLinePiece, AreLineComments}
use Rattle.field_tokens.proofs.Texts.{AreText-parts, spelling-append}
use Rattle.field_tokens.proofs.Runs.{run_some}
use Rattle.field_tokens.proofs.Utf8Cuts.{body_utf8, run_of_utf8, inside_utf8}

-- Text as the items of a comment's units.
pub AreTextItems-text : (text : List TextItem) → AreText text → AreTextItems text
AreTextItems-text [] are = tt
AreTextItems-text (Plain x ∷ text) are = ((λ e. absurd (are.0.2 e)), AreTextItems-text text are.1)
AreTextItems-text (Pair x ∷ text) are = AreTextItems-text text are.1

no_mark : (x : ℕ) → x ≢ 40 → x ≢ 41 → x ≢ 92 → is_no_mark x ≡ true
no_mark x a b c = rw (ne_eqb x 40 a, ne_eqb x 41 b, ne_eqb x 92 c) refl

text_alone : (text : List TextItem) → AreText text → list_all (passes_alone is_no_mark) text ≡ true
text_alone [] are = refl
text_alone (Plain x ∷ text) are = and_from (is_no_mark x) (list_all (passes_alone is_no_mark) text) (no_mark x are.0.0 are.0.1 are.0.2) (text_alone text are.1)
text_alone (Pair x ∷ text) are = text_alone text are.1

-- the run of text is text
pub run_text : (text run : List TextItem) → HasRunOf text run → AreText text → AreText run
run_text text run h are = (AreText-parts run h.trail (AreText-parts h.lead (run ++ h.trail) (subst AreText h.whole are)).1).0

-- the pieces of a run's units
pub run_plain : (run : List TextItem) (units : List UnitValue) (pieces : List (List ℕ)) → AreText run → IsUtf8 (spelling run) → HasCommentUnits (spelling run) units → WriteAll units pieces → AllByRecursion IsPlainPiece pieces
run_plain run units pieces are u has writes =
    WriteAll-plain units pieces (HasCommentUnits-writable (spelling run) units u has) (HasCommentUnits-sources is_no_mark run units (AreTextItems-text run are) (text_alone run are) has) writes

-- a piece that is not empty and ASCII, of which this holds
pub record HoldsPiece (q : ℕ → Bool) (piece : List ℕ) : Type 0 where
  pub some : 0 < length piece
  pub ascii : list_all is_ascii piece ≡ true
  pub holds : list_all q piece ≡ true

-- it holds of each octet that a written word or a parenthesis may have
pub record HoldsInPlain (q : ℕ → Bool) : Type 0 where
  pub plain : (x : ℕ) → is_plain x ≡ true → q x ≡ true
  pub opening : q 40 ≡ true
  pub closing : q 41 ≡ true

plain_ascii : (x : ℕ) → is_plain x ≡ true → is_ascii x ≡ true
plain_ascii x h = grind (arith, nat_tests)

plain_hold : (q : ℕ → Bool) → HoldsInPlain q → (pieces : List (List ℕ)) → AllByRecursion IsPlainPiece pieces → AllByRecursion (HoldsPiece q) pieces
plain_hold q in_plain [] all = tt
plain_hold q in_plain (w ∷ ws) all = (
  record { some = all.0.some; ascii = pass-weaker is_plain is_ascii plain_ascii w all.0.plain; holds = pass-weaker is_plain q in_plain.plain w all.0.plain },
  plain_hold q in_plain ws all.1,
)

run_holds : (q : ℕ → Bool) → HoldsInPlain q → (b : Bool) (text run : List TextItem) (pieces : List (List ℕ)) → AreText text → IsUtf8 (spelling text) → list_all q (spelling text) ≡ true → HasRunOf text run
    → list_all is_ascii (spelling run) ≡ b → RunPieces b (spelling run) pieces → AllByRecursion (HoldsPiece q) pieces
run_holds q in_plain true text run pieces are u all h ascii has =
    let whole : spelling text ≡ spelling h.lead ++ (spelling run ++ spelling h.trail) = ap spelling h.whole ∙ spelling-append h.lead (run ++ h.trail) ∙ ap (λ r. spelling h.lead ++ r) (spelling-append run h.trail) in
    let following = pass-parts q (spelling h.lead) (spelling run ++ spelling h.trail) (subst (λ t. list_all q t ≡ true) whole all) in
    rw has (record { some = run_some run h.is_run; ascii = ascii; holds = (pass-parts q (spelling run) (spelling h.trail) following.1).0 }, tt)
run_holds q in_plain false text run pieces are u all h other has =
    plain_hold q in_plain pieces (run_plain run has.0 pieces (run_text text run h are) (run_of_utf8 text run h u) has.1 has.2)

text_holds : (q : ℕ → Bool) → HoldsInPlain q → (text : List TextItem) (pieces : List (List ℕ)) → AreText text → IsUtf8 (spelling text) → list_all q (spelling text) ≡ true → TextPieces text pieces
    → AllByRecursion (HoldsPiece q) pieces
text_holds q in_plain text pieces are u all (White blank none) = rw none tt
text_holds q in_plain text pieces are u all (Run run h has) = run_holds q in_plain (list_all is_ascii (spelling run)) text run pieces are u all h refl has

wrapped_holds : (q : ℕ → Bool) → HoldsInPlain q → (b : Bool) (octets : List ℕ) (Inner : List (List ℕ) → Type 0) (pieces : List (List ℕ)) → 0 < length octets → list_all q octets ≡ true → list_all is_ascii octets ≡ b
    → ((inner : List (List ℕ)) → Inner inner → AllByRecursion (HoldsPiece q) inner) → WrappedPieces b octets Inner pieces → AllByRecursion (HoldsPiece q) pieces
wrapped_holds q in_plain true octets Inner pieces some all ascii inside has = rw has (record { some = some; ascii = ascii; holds = all }, tt)
wrapped_holds q in_plain false octets Inner pieces some all other inside has =
    let close : HoldsPiece q (41 ∷ []) = record { some = omega arith; ascii = refl; holds = rw (in_plain.closing) refl } in
    rw (has.2) (record { some = omega arith; ascii = refl; holds = rw (in_plain.opening) refl }, all-append (HoldsPiece q) has.0 ((41 ∷ []) ∷ []) (inside has.0 has.1) (close, tt))

comment_holds : (q : ℕ → Bool) → HoldsInPlain q → (body : Body) → list_all q (body_octets body) ≡ true → list_all q (comment_of body) ≡ true
comment_holds q in_plain body all =
    and_from (q 40) (list_all q (body_octets body ++ 41 ∷ [])) in_plain.opening
    (list_all-append q (body_octets body) (41 ∷ []) ∙ and_from (list_all q (body_octets body)) (list_all q (41 ∷ [])) all (rw (in_plain.closing) refl))

comment_some : (body : Body) → 0 < length (comment_of body)
comment_some body = omega arith

body_holds : (q : ℕ → Bool) → HoldsInPlain q → (body : Body) (pieces : List (List ℕ)) → IsCommentBody body → IsUtf8 (body_octets body) → list_all q (body_octets body) ≡ true → BodyPieces body pieces
    → AllByRecursion (HoldsPiece q) pieces
body_holds q in_plain (Last text) pieces is u all has = text_holds q in_plain text pieces is u all has
body_holds q in_plain (Before text inner more) pieces is u all has =
    let parts = body_utf8 text inner more u in
    let first = pass-parts q (spelling text) (40 ∷ (body_octets inner ++ 41 ∷ body_octets more)) all in
    let second = pass-parts q (body_octets inner) (41 ∷ body_octets more) (and_parts (q 40) (list_all q (body_octets inner ++ 41 ∷ body_octets more)) first.1).1 in
    let third : list_all q (body_octets more) ≡ true = (and_parts (q 41) (list_all q (body_octets more)) second.1).1 in
    let one = text_holds q in_plain text has.0 is.0 parts.of_text first.0 has.3 in
    let two = wrapped_holds q in_plain (list_all is_ascii (comment_of inner)) (comment_of inner) (BodyPieces inner) has.1 (comment_some inner) (comment_holds q in_plain inner second.0) refl
    (λ pieces given. body_holds q in_plain inner pieces is.1 parts.of_inner second.0 given) has.4 in
    let three = body_holds q in_plain more has.2 is.2 parts.of_more third has.5 in
    rw (has.6) (all-append (HoldsPiece q) has.0 (has.1 ++ has.2) one (all-append (HoldsPiece q) has.1 has.2 two three))

-- the pieces of a comment
pub CommentPieces-hold : (q : ℕ → Bool) → HoldsInPlain q → (octets : List ℕ) (pieces : List (List ℕ)) → IsUtf8 octets → list_all q octets ≡ true → CommentPieces octets pieces → AllByRecursion (HoldsPiece q) pieces
CommentPieces-hold q in_plain octets pieces u all p =
    let utf8 = inside_utf8 p.body (subst IsUtf8 p.spelled u) in
    let inside : list_all q (body_octets p.body) ≡ true
    = (pass-parts q (body_octets p.body) (41 ∷ []) (and_parts (q 40) (list_all q (body_octets p.body ++ 41 ∷ [])) (subst (λ o. list_all q o ≡ true) p.spelled all)).1).0 in
    wrapped_holds q in_plain (list_all is_ascii octets) octets (BodyPieces p.body) pieces (omega (arith, ap length p.spelled)) all refl
    (λ pieces given. body_holds q in_plain p.body pieces p.is_body utf8 inside given) p.pieces_are

wrapped_some : (b : Bool) (octets : List ℕ) (Inner : List (List ℕ) → Type 0) (pieces : List (List ℕ)) → WrappedPieces b octets Inner pieces → 0 < length pieces
wrapped_some true octets Inner pieces has = rw has (omega arith)
wrapped_some false octets Inner pieces has = rw (has.2) (omega arith)

-- there are some
pub CommentPieces-there : (octets : List ℕ) (pieces : List (List ℕ)) → CommentPieces octets pieces → 0 < length pieces
CommentPieces-there octets pieces p = wrapped_some (list_all is_ascii octets) octets (BodyPieces p.body) pieces p.pieces_are

plain_line : (x : ℕ) → is_plain x ≡ true → is_line_octet x ≡ true
plain_line x h = grind (arith, nat_tests)

line_pieces : (pieces : List (List ℕ)) → AllByRecursion (HoldsPiece is_line_octet) pieces → AllByRecursion IsLinePiece pieces
line_pieces [] all = tt
line_pieces (w ∷ ws) all = (record { some = all.0.some; ascii = all.0.ascii; line = all.0.holds }, line_pieces ws all.1)

-- the pieces of a comment that can stand in a line
pub record AreLinePieces (pieces : List (List ℕ)) : Type 0 where
  pub each : AllByRecursion IsLinePiece pieces
  pub some : 0 < length pieces

pub CommentPieces-line : (octets : List ℕ) (pieces : List (List ℕ)) → IsUtf8 octets → list_all is_line_octet octets ≡ true → CommentPieces octets pieces → AreLinePieces pieces
CommentPieces-line octets pieces u line p = record {
  each = line_pieces pieces (CommentPieces-hold is_line_octet (record { plain = plain_line; opening = refl; closing = refl }) octets pieces u line p);
  some = CommentPieces-there octets pieces p;
}

-- the same of several comments
pub CommentsPieces-line : (comments pieces : List (List ℕ)) → AreWritableComments comments → AreLineComments comments → CommentsPieces comments pieces → AllByRecursion IsLinePiece pieces
CommentsPieces-line [] pieces can line has = rw has tt
CommentsPieces-line (c ∷ cs) pieces can line has =
    rw (has.2) (all-append IsLinePiece has.0 has.1 (CommentPieces-line c has.0 can.1 line.0 has.3).each (CommentsPieces-line cs has.1 can.2 line.1 has.4))

pub CommentsPieces-there : (comments pieces : List (List ℕ)) → 0 < length comments → CommentsPieces comments pieces → 0 < length pieces
CommentsPieces-there [] pieces some has = absurd (omega (arith, some))
CommentsPieces-there (c ∷ cs) pieces some has = omega (arith, ap length has.2, length-append has.0 has.1, CommentPieces-there c has.0 has.3)
