-- A comment says one thing, and is written in one way.
use Rattle.std.proofs.Common.{◌≡◌, ℕ, Bool, true, false, inl, inr, List, [], ◌∷◌, ◌++◌, Option, Some, None, refl, sym, ap, ◌∙◌, subst}
use Rattle.std.proofs.lemmas.Bool.{and_from, cases_Bool}
use Rattle.std.proofs.lemmas.List.{append_assoc}
use Rattle.std.specs.List.{list_all}
use Rattle.std.specs.Str.{IsUtf8}
use Rattle.mail_wire.specs.Octets.{is_ascii}
use Rattle.encoded_words.specs.CommentUnits.{TextItem, is_white_item, HasCommentUnits}
use Rattle.encoded_words.specs.Words.{UnitValue}
use Rattle.encoded_words.specs.Written.{WriteAll}
use Rattle.encoded_words.proofs.AddedUnits.{WriteAll-once, WriteAll-some}
use Rattle.encoded_words.proofs.AllUnits.{HasCommentUnits-some}
use Rattle.encoded_words.proofs.CommentLemmas.{HasCommentUnits-once}
use Rattle.encoded_words.proofs.WritableUnits.{HasCommentUnits-writable}
use Rattle.field_tokens.specs.Trees.{spelling, Body, Last, Before, body_octets, IsCommentBody}
use Rattle.field_tokens.specs.Comments.{IsComment, CommentValue, End, NestedThen, HasRunOf, TextSays, units_then, BodySays, comment_of, CommentSays, RunPieces, TextPieces, White, Run, WrappedPieces, BodyPieces, CommentPieces, CommentsSay, CommentsPieces, AreWritableComments}
use Rattle.field_tokens.proofs.Texts.{HasRunOf-once, HasRunOf-nonwhite}
use Rattle.field_tokens.proofs.BodyLemmas.{body_once}
use Rattle.field_tokens.proofs.Insides.{comment_within}
use Rattle.field_tokens.proofs.Utf8Cuts.{body_utf8, run_of_utf8, inside_utf8}

-- What is said is one.
TextSays-once : (text : List TextItem) (r s : Option (List UnitValue)) → TextSays text r → TextSays text s → r ≡ s
TextSays-once text None None p q = refl
TextSays-once text None (Some us) p q = absurd (HasRunOf-nonwhite text q.0 q.1 p)
TextSays-once text (Some us) None p q = absurd (HasRunOf-nonwhite text p.0 p.1 q)
TextSays-once text (Some us) (Some vs) p q =
    let same : p.0 ≡ q.0 = (HasRunOf-once text p.0 q.0 p.1 q.1).1 in
    ap Some (HasCommentUnits-once (spelling q.0) us vs (subst (λ r. HasCommentUnits (spelling r) us) same p.2) q.2)

BodySays-once : (body : Body) (v w : CommentValue) → BodySays body v → BodySays body w → v ≡ w
BodySays-once (Last text) v w p q = p.2 ∙ ap (λ us. units_then us End) (TextSays-once text p.0 q.0 p.1 q.1) ∙ sym q.2
BodySays-once (Before text inner more) v w p q =
    let units : p.0 ≡ q.0 = TextSays-once text p.0 q.0 p.3 q.3 in
    let nested : p.1 ≡ q.1 = BodySays-once inner p.1 q.1 p.4 q.4 in
    let following : p.2 ≡ q.2 = BodySays-once more p.2 q.2 p.5 q.5 in
    p.6 ∙ ap (λ us. units_then us (NestedThen p.1 p.2)) units ∙ ap (λ n. units_then q.0 n) (rw (nested, following) refl) ∙ sym q.6

pub one_body : (octets : List ℕ) (a b : Body) → IsCommentBody a → IsCommentBody b → octets ≡ comment_of a → octets ≡ comment_of b → a ≡ b
one_body octets a b p q e f =
    let whole : 40 ∷ (body_octets a ++ 41 ∷ []) ≡ 40 ∷ (body_octets b ++ 41 ∷ []) = sym e ∙ f in
    (body_once a b [] [] p q (cc whole)).0

pub CommentSays-once : (octets : List ℕ) (v w : CommentValue) → CommentSays octets v → CommentSays octets w → v ≡ w
CommentSays-once octets v w p q =
    let same = one_body octets p.body q.body p.is_body q.is_body p.spelled q.spelled in
    BodySays-once q.body v w (subst (λ b. BodySays b v) same p.says) q.says

pub CommentsSay-once : (comments : List (List ℕ)) (vs ws : List CommentValue) → CommentsSay comments vs → CommentsSay comments ws → vs ≡ ws
CommentsSay-once [] vs ws p q = p ∙ sym q
CommentsSay-once (c ∷ cs) vs ws p q =
    let first : p.0 ≡ q.0 = CommentSays-once c p.0 q.0 p.3 q.3 in
    let more : p.1 ≡ q.1 = CommentsSay-once cs p.1 q.1 p.4 q.4 in
    p.2 ∙ rw (first, more) refl ∙ sym q.2

-- Pieces are one list.
RunPieces-once : (b : Bool) (octets : List ℕ) (ps qs : List (List ℕ)) → RunPieces b octets ps → RunPieces b octets qs → ps ≡ qs
RunPieces-once true octets ps qs p q = p ∙ sym q
RunPieces-once false octets ps qs p q =
    let same : p.0 ≡ q.0 = HasCommentUnits-once octets p.0 q.0 p.1 q.1 in
    WriteAll-once q.0 ps qs (subst (λ us. WriteAll us ps) same p.2) q.2

TextPieces-once : (text : List TextItem) (ps qs : List (List ℕ)) → TextPieces text ps → TextPieces text qs → ps ≡ qs
TextPieces-once text ps qs (White blank none) (White other nothing) = none ∙ sym nothing
TextPieces-once text ps qs (White blank none) (Run run h has) = absurd (HasRunOf-nonwhite text run h blank)
TextPieces-once text ps qs (Run run h has) (White blank none) = absurd (HasRunOf-nonwhite text run h blank)
TextPieces-once text ps qs (Run run h has) (Run other k given) =
    let same : run ≡ other = (HasRunOf-once text run other h k).1 in
    RunPieces-once (list_all is_ascii (spelling other)) (spelling other) ps qs (subst (λ r. RunPieces (list_all is_ascii (spelling r)) (spelling r) ps) same has) given

WrappedPieces-once : (b : Bool) (octets : List ℕ) (Inner : List (List ℕ) → Type 0) (ps qs : List (List ℕ)) → ((xs ys : List (List ℕ)) → Inner xs → Inner ys → xs ≡ ys) → WrappedPieces b octets Inner ps
    → WrappedPieces b octets Inner qs → ps ≡ qs
WrappedPieces-once true octets Inner ps qs once p q = p ∙ sym q
WrappedPieces-once false octets Inner ps qs once p q = p.2 ∙ ap (λ inner. (40 ∷ []) ∷ (inner ++ (41 ∷ []) ∷ [])) (once p.0 q.0 p.1 q.1) ∙ sym q.2

BodyPieces-once : (body : Body) (ps qs : List (List ℕ)) → BodyPieces body ps → BodyPieces body qs → ps ≡ qs
BodyPieces-once (Last text) ps qs p q = TextPieces-once text ps qs p q
BodyPieces-once (Before text inner more) ps qs p q =
    let first : p.0 ≡ q.0 = TextPieces-once text p.0 q.0 p.3 q.3 in
    let nested : p.1 ≡ q.1 = WrappedPieces-once (list_all is_ascii (comment_of inner)) (comment_of inner) (BodyPieces inner) p.1 q.1 (λ xs ys a b. BodyPieces-once inner xs ys a b) p.4 q.4 in
    let following : p.2 ≡ q.2 = BodyPieces-once more p.2 q.2 p.5 q.5 in
    p.6 ∙ rw (first, nested, following) refl ∙ sym q.6

pub CommentPieces-once : (octets : List ℕ) (ps qs : List (List ℕ)) → CommentPieces octets ps → CommentPieces octets qs → ps ≡ qs
CommentPieces-once octets ps qs p q =
    let same = one_body octets p.body q.body p.is_body q.is_body p.spelled q.spelled in
    WrappedPieces-once (list_all is_ascii octets) octets (BodyPieces q.body) ps qs (BodyPieces-once q.body) (subst (λ b. WrappedPieces (list_all is_ascii octets) octets (BodyPieces b) ps) same p.pieces_are) q.pieces_are

pub CommentsPieces-once : (comments ps qs : List (List ℕ)) → CommentsPieces comments ps → CommentsPieces comments qs → ps ≡ qs
CommentsPieces-once [] ps qs p q = p ∙ sym q
CommentsPieces-once (c ∷ cs) ps qs p q =
    let first : p.0 ≡ q.0 = CommentPieces-once c p.0 q.0 p.3 q.3 in
    let more : p.1 ≡ q.1 = CommentsPieces-once cs p.1 q.1 p.4 q.4 in
    p.2 ∙ rw (first, more) refl ∙ sym q.2

-- Text is white, or has a run.
data RunIn (text : List TextItem) : Type 0 where
  AllWhite : list_all is_white_item text ≡ true → RunIn text
  OneRun : (run : List TextItem) → HasRunOf text run → RunIn text

white_more : (i : TextItem) (text : List TextItem) → is_white_item i ≡ true → RunIn text → RunIn (i ∷ text)
white_more i text white (AllWhite blank) = AllWhite (and_from (is_white_item i) (list_all is_white_item text) white blank)
white_more i text white (OneRun run h) = OneRun run (record {
  lead = i ∷ h.lead;
  trail = h.trail;
  lead_white = and_from (is_white_item i) (list_all is_white_item h.lead) white h.lead_white;
  trail_white = h.trail_white;
  is_run = h.is_run;
  whole = ap (λ t. i ∷ t) h.whole;
})

nonwhite_more : (i : TextItem) (text : List TextItem) → is_white_item i ≡ false → RunIn text → RunIn (i ∷ text)
nonwhite_more i text nonwhite (AllWhite blank) = OneRun (i ∷ []) (record {
  lead = [];
  trail = text;
  lead_white = refl;
  trail_white = blank;
  is_run = record { begins = (i, [], refl, nonwhite); ends = ([], i, refl, nonwhite) };
  whole = refl;
})
nonwhite_more i text nonwhite (OneRun run h) =
    let e = h.is_run.ends in
    OneRun (i ∷ (h.lead ++ run)) (record {
      lead = [];
      trail = h.trail;
      lead_white = refl;
      trail_white = h.trail_white;
      is_run = record {
        begins = (i, h.lead ++ run, refl, nonwhite);
        ends = (i ∷ (h.lead ++ e.0), e.1, ap (λ r. i ∷ (h.lead ++ r)) e.2 ∙ ap (λ r. i ∷ r) (sym (append_assoc h.lead e.0 (e.1 ∷ []))), e.3);
      };
      whole = ap (λ t. i ∷ t) (h.whole ∙ sym (append_assoc h.lead run h.trail));
    })

run_in : (text : List TextItem) → RunIn text
run_in [] = AllWhite refl
run_in (i ∷ text) = elim (cases_Bool (is_white_item i)) [
  | inl white ↦ white_more i text white (run_in text)
  | inr nonwhite ↦ nonwhite_more i text nonwhite (run_in text)
]

-- A comment says something.
text_said : (text : List TextItem) → RunIn text → (units : Option (List UnitValue)) × TextSays text units
text_said text (AllWhite blank) = (None, blank)
text_said text (OneRun run h) = let units = HasCommentUnits-some (spelling run) in (Some units.0, (run, h, units.1))

body_said : (body : Body) → (value : CommentValue) × BodySays body value
body_said (Last text) = let t = text_said text (run_in text) in (units_then t.0 End, (t.0, t.1, refl))
body_said (Before text inner more) =
    let t = text_said text (run_in text) in
    let nested = body_said inner in
    let following = body_said more in
    (units_then t.0 (NestedThen nested.0 following.0), (t.0, nested.0, following.0, t.1, nested.1, following.1, refl))

pub CommentSays-some : (octets : List ℕ) → IsComment octets → (value : CommentValue) × CommentSays octets value
CommentSays-some octets is =
    let c = comment_within octets is in
    let said = body_said c.body in
    (said.0, record { body = c.body; is_body = c.is_body; spelled = c.spelled; says = said.1 })

pub CommentsSay-some : (comments : List (List ℕ)) → AreWritableComments comments → (values : List CommentValue) × CommentsSay comments values
CommentsSay-some [] can = ([], refl)
CommentsSay-some (c ∷ cs) can =
    let first = CommentSays-some c can.0 in
    let more = CommentsSay-some cs can.2 in
    (first.0 ∷ more.0, (first.0, more.0, refl, first.1, more.1))

-- A comment of UTF-8 has pieces.
run_pieces : (b : Bool) (octets : List ℕ) → IsUtf8 octets → (pieces : List (List ℕ)) × RunPieces b octets pieces
run_pieces true octets u = (octets ∷ [], refl)
run_pieces false octets u =
    let units = HasCommentUnits-some octets in
    let pieces = WriteAll-some units.0 (HasCommentUnits-writable octets units.0 u units.1) in
    (pieces.0, (units.0, units.1, pieces.1))

text_pieces : (text : List TextItem) → IsUtf8 (spelling text) → RunIn text → (pieces : List (List ℕ)) × TextPieces text pieces
text_pieces text u (AllWhite blank) = ([], White blank refl)
text_pieces text u (OneRun run h) =
    let pieces = run_pieces (list_all is_ascii (spelling run)) (spelling run) (run_of_utf8 text run h u) in
    (pieces.0, Run run h pieces.1)

wrapped_pieces : (b : Bool) (octets : List ℕ) (Inner : List (List ℕ) → Type 0) → ((inner : List (List ℕ)) × Inner inner) → (pieces : List (List ℕ)) × WrappedPieces b octets Inner pieces
wrapped_pieces true octets Inner inside = (octets ∷ [], refl)
wrapped_pieces false octets Inner inside = ((40 ∷ []) ∷ (inside.0 ++ (41 ∷ []) ∷ []), (inside.0, inside.1, refl))

body_pieces : (body : Body) → IsUtf8 (body_octets body) → (pieces : List (List ℕ)) × BodyPieces body pieces
body_pieces (Last text) u = text_pieces text u (run_in text)
body_pieces (Before text inner more) u =
    let parts = body_utf8 text inner more u in
    let first = text_pieces text parts.of_text (run_in text) in
    let nested = wrapped_pieces (list_all is_ascii (comment_of inner)) (comment_of inner) (BodyPieces inner) (body_pieces inner parts.of_inner) in
    let following = body_pieces more parts.of_more in
    (first.0 ++ (nested.0 ++ following.0), (first.0, nested.0, following.0, first.1, nested.1, following.1, refl))

pub CommentPieces-some : (octets : List ℕ) → IsComment octets → IsUtf8 octets → (pieces : List (List ℕ)) × CommentPieces octets pieces
CommentPieces-some octets is u =
    let c = comment_within octets is in
    let made = wrapped_pieces (list_all is_ascii octets) octets (BodyPieces c.body) (body_pieces c.body (inside_utf8 c.body (subst IsUtf8 c.spelled u))) in
    (made.0, record { body = c.body; is_body = c.is_body; spelled = c.spelled; pieces_are = made.1 })

pub CommentsPieces-some : (comments : List (List ℕ)) → AreWritableComments comments → (pieces : List (List ℕ)) × CommentsPieces comments pieces
CommentsPieces-some [] can = ([], refl)
CommentsPieces-some (c ∷ cs) can =
    let first = CommentPieces-some c can.0 can.1 in
    let more = CommentsPieces-some cs can.2 in
    (first.0 ++ more.0, (first.0, more.0, refl, first.1, more.1))
