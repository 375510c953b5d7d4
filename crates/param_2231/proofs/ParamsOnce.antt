-- A text says one main part, one list of parameters and one list of comments, and has one list of pieces.
use Rattle.std.proofs.Common.{◌≡◌, ℕ, Bool, List, [], ◌∷◌, ◌++◌, refl, sym, ap, ◌∙◌, subst}
use Rattle.field_tokens.specs.declared.Token.{Token}
use Rattle.field_tokens.specs.Squeezed.{comments_of, run_octets}
use Rattle.field_tokens.specs.Comments.{CommentsPieces}
use Rattle.field_tokens.proofs.CommentValues.{CommentsPieces-once}
use Rattle.param_grammar.specs.declared.ParamKind.{ParamKind}
use Rattle.param_grammar.specs.declared.Piece.{Piece}
use Rattle.param_grammar.specs.Bodies.{solid}
use Rattle.param_grammar.specs.Joining.{ParamValue, goes_on, unit_at, is_ascii_parameter, is_doubled}
use Rattle.param_2231.specs.Layout.{PiecesGive, with_semicolons, written_main, ParamsPieces}
use Rattle.param_grammar.proofs.SaidParams.{HasSaidBody-once}
use Rattle.param_2231.proofs.ParamWriting.{GivesWhere-once}

PiecesGive-once : (all : List Piece) (params : List ParamValue) (before following : List Piece) (ps qs : List (List ℕ)) → PiecesGive all params before following ps → PiecesGive all params before following qs
    → ps ≡ qs
PiecesGive-once all params before [] ps qs a b = a ∙ sym b
PiecesGive-once all params before (piece ∷ following) ps qs a b =
    let first : a.0 ≡ b.0 = GivesWhere-once (is_ascii_parameter all piece) (goes_on before piece) (is_doubled params piece.base) piece.written piece.base (unit_at all piece) a.0 b.0 a.3 b.3 in
    let others : a.1 ≡ b.1 = PiecesGive-once all params (before ++ piece ∷ []) following a.1 b.1 a.4 b.4 in
    a.2 ∙ rw (first, others) refl ∙ sym b.2

pieces_made : (open_global : Bool) (kind : ParamKind) (text m n : List ℕ) (f g : List Token) (x y c d : List (List ℕ)) → m ≡ n → f ≡ g → x ≡ y → c ≡ d
    → with_semicolons (written_main open_global kind m (run_octets text (solid f)) ∷ x) ++ c ≡ with_semicolons (written_main open_global kind n (run_octets text (solid g)) ∷ y) ++ d
pieces_made open_global kind text m n f g x y c d main first given comments =
    ap (λ k. with_semicolons (written_main open_global kind k (run_octets text (solid f)) ∷ x) ++ c) main
    ∙ ap (λ k. with_semicolons (written_main open_global kind n (run_octets text (solid k)) ∷ x) ++ c) first
    ∙ ap (λ k. with_semicolons (written_main open_global kind n (run_octets text (solid g)) ∷ k) ++ c) given
    ∙ ap (λ k. with_semicolons (written_main open_global kind n (run_octets text (solid g)) ∷ y) ++ k) comments

pub ParamsPieces-once : (kind : ParamKind) (open_global : Bool) (text : List ℕ) (ps qs : List (List ℕ)) → ParamsPieces kind open_global text ps → ParamsPieces kind open_global text qs → ps ≡ qs
ParamsPieces-once kind open_global text ps qs a b =
    let same = HasSaidBody-once kind text a.main b.main a.params b.params a.body b.body in
    let with_params : PiecesGive a.body.pieces b.params [] a.body.pieces a.given = subst (λ params. PiecesGive a.body.pieces params [] a.body.pieces a.given) same.params a.give in
    let moved : PiecesGive b.body.pieces b.params [] b.body.pieces a.given = subst (λ pieces. PiecesGive pieces b.params [] pieces a.given) same.pieces with_params in
    let given : a.given ≡ b.given = PiecesGive-once b.body.pieces b.params [] b.body.pieces a.given b.given moved b.give in
    let comments : a.comments ≡ b.comments = CommentsPieces-once (comments_of b.body.has_tokens.values) a.comments b.comments
    (subst (λ ts. CommentsPieces (comments_of ts) a.comments) same.values a.comments_are) b.comments_are in
    a.pieces_are
    ∙ pieces_made open_global kind text a.main b.main a.body.is_body.first b.body.is_body.first a.given b.given a.comments b.comments same.main same.first given comments
    ∙ sym b.pieces_are
