-- The pieces of a body, and of a text with its comments.
use Rattle.std.proofs.Common.{◌≡◌, ℕ, Bool, List, [], ◌∷◌, ◌++◌, refl, sym, ap, ◌∙◌, subst}
use Rattle.std.specs.Str.{str_to_ascii_lowercase}
use Rattle.std.specs.Prelude.{codes}
use Rattle.std.proofs.lemmas.List.{append_assoc, append-nil}
use Rattle.mail_wire.specs.Lines.{crlf}
use Rattle.encoded_words.specs.Folding.{lines_of, AddsLines}
use Rattle.encoded_words.proofs.LineLemmas.{adds_both}
use Rattle.field_tokens.specs.declared.Style.TheVariants.{Mime}
use Rattle.field_tokens.specs.declared.Token.{Token}
use Rattle.field_tokens.specs.Comments.{CommentsPieces}
use Rattle.field_tokens.specs.Squeezed.{comments_of}
use Rattle.field_tokens.specs.Tokens.{HasTokens, HasTokenValues}
use Rattle.param_grammar.specs.declared.ParamKind.{ParamKind}
use Rattle.param_grammar.specs.declared.Piece.{Piece}
use Rattle.param_grammar.specs.declared.role.Placed.{Placed}
use Rattle.param_grammar.specs.Bodies.{IsBody, WritesBody}
use Rattle.param_grammar.specs.Joining.{ParamValue, params_of, AreParams, HasSaidBody}
use Rattle.param_grammar.proofs.BodyLemmas.{IsBody-once}
use Rattle.param_2231.specs.Layout.{PiecesGive, with_semicolons, written_main, ParamsPieces}
use Rattle.param_2231.specs.private.Given.{SaysPlaced}
use Rattle.param_2231.specs.private.Lines.{lines_after, AddsAfter}
use Rattle.param_grammar.proofs.SaidParams.{by_tokens}

-- ---- where there is none

pub no_body : (kind : ParamKind) (text : List ℕ) (tokens : List Token) → HasTokens Mime text tokens → ((main : List ℕ) (pieces : List Piece) → IsBody kind text tokens main pieces → ⊥)
    → (main : List ℕ) (params : List ParamValue) → HasSaidBody kind text main params → ⊥
no_body kind text tokens has none main params b = none main b.pieces (by_tokens kind text main params tokens has b)

pub no_params : (kind : ParamKind) (text written : List ℕ) (tokens : List Token) (pieces : List Piece) → HasTokens Mime text tokens → WritesBody kind text tokens written pieces
    → ((params : List ParamValue) → AreParams pieces params → ⊥) → (main : List ℕ) (params : List ParamValue) → HasSaidBody kind text main params → ⊥
no_params kind text written tokens pieces has w none main params b =
    let is : IsBody kind text tokens main b.pieces = by_tokens kind text main params tokens has b in
    let same : b.pieces ≡ pieces = (IsBody-once kind text tokens main (str_to_ascii_lowercase written) b.pieces pieces is w.body).1 in
    none params (subst (λ ps. AreParams ps params) same b.are_params)

-- ---- the pieces

abbrev line : List ℕ → List ℕ
line piece = crlf ++ 32 ∷ piece

one_line : (piece : List ℕ) → lines_of (piece ∷ []) ≡ line piece
one_line piece = append-nil (line piece)

-- a semicolon is put after each piece but the last where the next one begins
given_lines : (main : List ℕ) (given : List (List ℕ)) → lines_of (with_semicolons (main ∷ given)) ≡ lines_of (main ∷ []) ++ lines_after (codes ";") given
given_lines main [] = sym (append-nil (lines_of (main ∷ [])))
given_lines main (piece ∷ given) =
    let ended : List ℕ = line (main ++ 59 ∷ []) in
    let following : List ℕ = lines_after (codes ";") given in
    let more : lines_of (with_semicolons (main ∷ piece ∷ given)) ≡ ended ++ (lines_of (piece ∷ []) ++ following) = ap (λ r. ended ++ r) (given_lines piece given) in
    let first : ended ++ (lines_of (piece ∷ []) ++ following) ≡ ended ++ (line piece ++ following) = ap (λ r. ended ++ (r ++ following)) (one_line piece) in
    let parted : ended ++ (line piece ++ following) ≡ line main ++ (59 ∷ (line piece ++ following)) = ap (λ r. 13 ∷ 10 ∷ 32 ∷ r) (append_assoc main (59 ∷ []) (line piece ++ following)) in
    more ∙ first ∙ parted ∙ ap (λ r. r ++ (59 ∷ (line piece ++ following))) (sym (one_line main))

-- a main part, and what pieces give, with semicolons
abbrev GiveBody : List Piece → List ℕ → List (List ℕ) → Type 0
GiveBody pieces main made = (given : List (List ℕ)) × PiecesGive pieces (params_of pieces) [] pieces given × (made ≡ with_semicolons (main ∷ given))

body_made : (pieces : List Piece) (main old mid new : List ℕ) → mid ≡ old ++ lines_of (main ∷ []) → AddsAfter (codes ";") (PiecesGive pieces (params_of pieces) [] pieces) mid new
    → AddsLines (GiveBody pieces main) old new
body_made pieces main old mid new put gives = record {
  pieces = with_semicolons (main ∷ gives.pieces);
  holds = let same : with_semicolons (main ∷ gives.pieces) ≡ with_semicolons (main ∷ gives.pieces) = refl in (gives.pieces, gives.holds, same);
  added = gives.added ∙ ap (λ r. r ++ lines_after (codes ";") gives.pieces) put ∙ append_assoc old (lines_of (main ∷ [])) (lines_after (codes ";") gives.pieces)
      ∙ ap (λ r. old ++ r) (sym (given_lines main gives.pieces));
}

ParamsPieces-made : (kind : ParamKind) (open_global : Bool) (text written main : List ℕ) (placed : Placed) → (says : SaysPlaced kind text written placed)
    → main ≡ written_main open_global kind (str_to_ascii_lowercase written) written → (made comments : List (List ℕ)) → GiveBody says.pieces main made
    → CommentsPieces (comments_of says.has_tokens.values) comments → ParamsPieces kind open_global text (made ++ comments)
ParamsPieces-made kind open_global text written main placed says main_is made comments gives comments_are = record {
  main = str_to_ascii_lowercase written;
  params = params_of says.pieces;
  body = record {
    tokens = says.tokens;
    has_tokens = says.has_tokens;
    pieces = says.pieces;
    is_body = says.writes.body;
    are_params = record { are_numbered = says.has_placed.are_numbered; params_are = refl };
  };
  given = gives.0;
  give = gives.1;
  comments = comments;
  comments_are = comments_are;
  pieces_are = ap (λ m. m ++ comments) gives.2
      ∙ ap (λ m. with_semicolons (m ∷ gives.0) ++ comments) (main_is ∙ ap (written_main open_global kind (str_to_ascii_lowercase written)) says.writes.written_is);
}

-- the tokens of a text with placed pieces, by their octets
pub said_tokens : (kind : ParamKind) (text written : List ℕ) (placed : Placed) → (says : SaysPlaced kind text written placed) → HasTokenValues Mime text says.has_tokens.values
said_tokens kind text written placed says = record { is_line = says.has_tokens.is_line; are_tokens = says.has_tokens.are_tokens }

-- ---- the pieces on their lines

pub params_made : (kind : ParamKind) (open_global : Bool) (text written main : List ℕ) (placed : Placed) (old first mid new : List ℕ) → (says : SaysPlaced kind text written placed)
    → main ≡ written_main open_global kind (str_to_ascii_lowercase written) written → first ≡ old ++ lines_of (main ∷ [])
    → AddsAfter (codes ";") (PiecesGive says.pieces (params_of says.pieces) [] says.pieces) first mid → AddsLines (CommentsPieces (comments_of says.has_tokens.values)) mid new
    → AddsLines (ParamsPieces kind open_global text) old new
params_made kind open_global text written main placed old first mid new says main_is put given comments =
    adds_both (ParamsPieces-made kind open_global text written main placed says main_is) (body_made says.pieces main old first mid put given) comments
