-- The pieces of parameters are read back.
use Rattle.std.proofs.Common.{◌≡◌, ℕ, ◌<◌, Bool, true, List, [], ◌∷◌, ◌++◌, length, refl, sym, ap, ◌∙◌, subst, arith}
use Rattle.std.proofs.lemmas.Bool.{and_from}
use Rattle.std.proofs.lemmas.List.{length-append}
use Rattle.std.proofs.lemmas.List.Folds.{list_all-append}
use Rattle.std.specs.List.{AllByRecursion, list_all, join_with_byte}
use Rattle.mail_wire.specs.Octets.{is_ascii}
use Rattle.mail_wire.proofs.AllLemmas.{all-append}
use Rattle.field_tokens.specs.declared.Style.TheVariants.{Mime}
use Rattle.field_tokens.specs.TokenOctets.{is_line_octet}
use Rattle.field_tokens.specs.Tokens.{TokenValue, AreTokens, tokens_from, HasTokens}
use Rattle.field_tokens.specs.Squeezed.{run_octets, octets_of, comments_of}
use Rattle.field_tokens.specs.Comments.{CommentValue, CommentsSay, CommentsPieces, AreWritableComments, AreLineComments, AreWritten, IsLinePiece}
use Rattle.field_tokens.proofs.TokenLists.{AreTokens-once, HasTokens-once}
use Rattle.field_tokens.proofs.Parts.{AreTokens-begin, AreTokens-end, tokens_some}
use Rattle.field_tokens.proofs.SqueezedValues.{values_at}
use Rattle.field_tokens.proofs.TokenLines.{joined_line, comments_are_writable, comments_are_plain}
use Rattle.field_tokens.proofs.LinePieces.{CommentsPieces-line}
use Rattle.field_tokens.proofs.WrittenComments.{CommentsPieces-written}
use Rattle.field_tokens.proofs.PieceLemmas.{spaced, no_pieces, no_comments, comments_groups, join_alike, pieces_lines}
use Rattle.param_grammar.specs.declared.ParamKind.{ParamKind}
use Rattle.param_grammar.specs.declared.Piece.{Piece}
use Rattle.param_grammar.specs.Bodies.{solid, IsBody}
use Rattle.param_grammar.specs.Joining.{ParamValue, params_of, AreParams, HasSaidBody, SaysParams}
use Rattle.param_2231.specs.Layout.{with_semicolons, written_main, ParamsPieces}
use Rattle.param_2231.specs.ParamsReadBack.{served_main, AreParamsAgain}
use Rattle.param_grammar.proofs.BodyLemmas.{IsBody-once}
use Rattle.param_2231.proofs.JoinedAgain.{AreParams-again}
use Rattle.param_2231.proofs.CoresAgain.{CanStand, HasCore}
use Rattle.param_2231.proofs.PlacedAgain.{kept_solid, CanBeCopied, body_copied}
use Rattle.param_2231.proofs.SectionsAgain.{following, IsTail, tail_is, kept_begins, core_tokens, after_tokens, made_ends, made_comments, cores_of, cores_stand, body_made, made_octets, semicolons_some}
use Rattle.param_2231.proofs.MadePiecesAgain.{IsMade, written_all}
use Rattle.param_2231.proofs.GivenAgain.{AllGiven, pieces_given}
use Rattle.param_2231.proofs.MainAgain.{MainAgain, main_again}

-- ---- the text has what the other had

-- what the two readings of a text have in common
record IsOne (kind : ParamKind) (text main other : List ℕ) (params others : List ParamValue) (p : HasSaidBody kind text main params) (q : HasSaidBody kind text other others) : Type 0 where
  main_same : main ≡ other
  params_same : params ≡ others
  values_same : p.has_tokens.values ≡ q.has_tokens.values

one_body : (kind : ParamKind) (text main other : List ℕ) (params others : List ParamValue) (p : HasSaidBody kind text main params) (q : HasSaidBody kind text other others)
    → IsOne kind text main other params others p q
one_body kind text main other params others p q =
    let tokens : p.tokens ≡ q.tokens = HasTokens-once Mime text p.tokens q.tokens p.has_tokens q.has_tokens in
    let body = IsBody-once kind text q.tokens main other p.pieces q.pieces (subst (λ ts. IsBody kind text ts main p.pieces) tokens p.is_body) q.is_body in
    record {
      main_same = body.0;
      params_same = p.are_params.params_are ∙ ap params_of body.1 ∙ sym q.are_params.params_are;
      values_same = AreTokens-once Mime text p.has_tokens.values q.has_tokens.values p.has_tokens.are_tokens q.has_tokens.are_tokens;
    }

-- ---- the pieces joined

join_after : (front made pieces : List (List ℕ)) → (made ≡ [] → pieces ≡ []) → (pieces ≡ [] → made ≡ []) → join_with_byte 32 made ≡ join_with_byte 32 pieces
    → join_with_byte 32 (front ++ made) ≡ join_with_byte 32 (front ++ pieces)
join_after [] made pieces a b e = e
join_after (x ∷ []) made pieces a b e = join_alike x made pieces a b e
join_after (x ∷ y ∷ front) made pieces a b e = ap (λ r. x ++ (32 ∷ r)) (join_after (y ∷ front) made pieces a b e)

-- ---- the pieces on lines

stand_some : (core : List TokenValue) → CanStand core → 0 < length (octets_of core)
stand_some core stands = by core stands.are_tokens stands.some
  where
    by : (ts : List TokenValue) → AreTokens Mime ts (octets_of ts) → 0 < length ts → 0 < length (octets_of ts)
    by [] are some = absurd (omega (arith, some))
    by (t ∷ ts) are some = tokens_some Mime t ts (octets_of (t ∷ ts)) are

core_line : (core : List TokenValue) (written : List ℕ) → octets_of core ≡ written → CanStand core → list_all is_ascii written ≡ true → IsLinePiece written
core_line core written e stands ascii = record {
  some = omega (arith, stand_some core stands, ap length e);
  ascii = ascii;
  line = sym (ap (list_all is_line_octet) e) ∙ stands.line;
}

made_lines : (pieces : List Piece) → AllByRecursion IsMade pieces → AllByRecursion IsLinePiece (written_all pieces)
made_lines [] all = tt
made_lines (p ∷ pieces) all =
    let core = all.0.has_core in
    (core_line core.core p.written (sym core.is_core.written_is) core.stands all.0.ascii, made_lines pieces all.1)

made_cores : (pieces : List Piece) → AllByRecursion IsMade pieces → AllByRecursion HasCore pieces
made_cores [] all = tt
made_cores (p ∷ pieces) all = (all.0.has_core, made_cores pieces all.1)

semicolon_line : (p : List ℕ) → IsLinePiece p → IsLinePiece (p ++ 59 ∷ [])
semicolon_line p is = record {
  some = omega (arith, length-append p (59 ∷ []));
  ascii = list_all-append is_ascii p (59 ∷ []) ∙ and_from (list_all is_ascii p) true is.ascii refl;
  line = list_all-append is_line_octet p (59 ∷ []) ∙ and_from (list_all is_line_octet p) true is.line refl;
}

semicolon_lines : (ps : List (List ℕ)) → AllByRecursion IsLinePiece ps → AllByRecursion IsLinePiece (with_semicolons ps)
semicolon_lines [] all = tt
semicolon_lines (p ∷ []) all = all
semicolon_lines (p ∷ q ∷ ps) all = (semicolon_line p all.0, semicolon_lines (q ∷ ps) all.1)

-- ---- what is made of a main part, pieces and comments

-- A main part, pieces that were made, and the pieces of comments are read as that.
pub made_again : (kind : ParamKind) (open_global : Bool) (main : List ℕ) (params : List ParamValue) (values : List CommentValue) (w : List ℕ) (made : List Piece) (comments written : List (List ℕ))
    → MainAgain kind (served_main open_global kind main) w → AllByRecursion IsMade made → AreParams made params → AreWritableComments comments → AreLineComments comments
    → CommentsSay comments values → CommentsPieces comments written → AreParamsAgain kind open_global main params values (with_semicolons (w ∷ written_all made) ++ written)
made_again kind open_global main params values w made comments written again are_made are_params writable plain say pieces_are =
    let c : AreWritten comments values written = CommentsPieces-written comments values written writable say pieces_are in
    let front : List (List ℕ) = with_semicolons (w ∷ written_all made) in
    let pieces : List (List ℕ) = front ++ written in
    let text : List ℕ = join_with_byte 32 pieces in
    let cores : AllByRecursion HasCore made = made_cores made are_made in
    let tail : List TokenValue = spaced c.made in
    let ts : List TokenValue = again.core ++ following (cores_of made cores) tail in
    let is_tail : IsTail tail = tail_is c.made (comments_groups c.made c.are_comments) in
    let stand : AllByRecursion CanStand (cores_of made cores) = cores_stand made cores in
    let main_stands : CanStand again.core = again.stands.stands in
    let joined : octets_of ts ≡ text =
    made_octets w again.core made cores c.made again.octets
    ∙ join_after front c.made written (λ none. no_pieces comments written pieces_are (c.none.0 none)) (λ none. c.none.1 (no_comments comments written pieces_are none)) c.joined in
    let are : AreTokens Mime ts text =
    subst (AreTokens Mime ts) joined (core_tokens again.core (cores_of made cores) tail main_stands is_tail (after_tokens (cores_of made cores) tail stand is_tail)) in
    let each : AllByRecursion IsLinePiece pieces =
    all-append IsLinePiece front written (semicolon_lines (w ∷ written_all made) (core_line again.core w again.octets main_stands (sym (ap (list_all is_ascii) again.octets) ∙ again.stands.ascii), made_lines made are_made))
    (CommentsPieces-line comments written writable plain pieces_are) in
    record {
      says = record {
        body = record {
          tokens = tokens_from 0 ts;
          has_tokens = record { is_line = joined_line pieces (pieces_lines pieces each); values = ts; are_tokens = are; placed = refl };
          pieces = made;
          is_body = body_made kind text (served_main open_global kind main) again.core made cores tail again.is_main main_stands is_tail (values_at Mime text ts are);
          are_params = are_params;
        };
        comments_say = subst (λ cs. CommentsSay cs values) (sym (made_comments again.core (cores_of made cores) c.made main_stands stand)) c.say;
      };
      begins = AreTokens-begin Mime ts text are (kept_begins again.core (following (cores_of made cores) tail) main_stands.some main_stands.kept);
      ends = AreTokens-end Mime ts text are (made_ends again.core (cores_of made cores) tail main_stands stand is_tail);
      some = semicolons_some w (written_all made) written;
      are_pieces = each;
    }

pub ParamsPieces-read : (kind : ParamKind) (open_global : Bool) (text : List ℕ) (pieces : List (List ℕ)) (main : List ℕ) (params : List ParamValue) (comments : List CommentValue)
    → ParamsPieces kind open_global text pieces → SaysParams kind text main params comments → AreParamsAgain kind open_global main params comments pieces
ParamsPieces-read kind open_global text pieces main params comments p s =
    let b : HasSaidBody kind text p.main p.params = p.body in
    let one = one_body kind text main p.main params p.params s.body b in
    let has : HasTokens Mime text b.tokens = b.has_tokens in
    let left : CanBeCopied text b.pieces b.is_body.first = body_copied kind text b.tokens p.main b.pieces has b.is_body in
    let run : List ℕ = run_octets text (solid b.is_body.first) in
    let w : List ℕ = written_main open_global kind p.main run in
    let given : AllGiven b.pieces [] b.pieces p.given = pieces_given b.pieces p.params p.given b.are_params.params_are left.cores p.give in
    let again : MainAgain kind (served_main open_global kind p.main) w =
    main_again kind open_global text p.main (solid b.is_body.first) left.placed (kept_solid text b.is_body.first) b.is_body.is_main_part b.is_body.main_is in
    let cs : List (List ℕ) = comments_of has.values in
    let say : CommentsSay cs comments = subst (λ vs. CommentsSay (comments_of vs) comments) one.values_same s.comments_say in
    let made = made_again kind open_global p.main p.params comments w given.made cs p.comments again given.are_made (AreParams-again b.pieces given.made p.params given.stand b.are_params)
    (comments_are_writable Mime has.values text has.are_tokens has.is_line) (comments_are_plain Mime has.values text has.are_tokens has.is_line) say p.comments_are in
    let whole : with_semicolons (w ∷ written_all given.made) ++ p.comments ≡ pieces = ap (λ g. with_semicolons (w ∷ g) ++ p.comments) (sym given.written) ∙ sym p.pieces_are in
    subst (λ m. AreParamsAgain kind open_global m params comments pieces) (sym one.main_same)
    (subst (λ ps. AreParamsAgain kind open_global p.main ps comments pieces) (sym one.params_same) (subst (AreParamsAgain kind open_global p.main p.params comments) whole made))
