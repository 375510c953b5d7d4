-- A text without a parenthesis has no comments.
use Rattle.std.proofs.Common.{◌≡◌, ℕ, true, false, List, [], ◌∷◌, ◌++◌, refl, sym, ap, ◌∙◌}
use Rattle.std.proofs.lemmas.Bool.{and_parts}
use Rattle.std.proofs.lemmas.List.Folds.{list_all-append}
use Rattle.std.specs.List.{list_all}
use Rattle.encoded_words.specs.Folding.{AddsLines}
use Rattle.encoded_words.proofs.LineLemmas.{adds_none}
use Rattle.field_tokens.specs.declared.Style.TheVariants.{Mime}
use Rattle.field_tokens.specs.declared.TokenKind.{TokenKind}
use Rattle.field_tokens.specs.declared.TokenKind.TheVariants.{Atom, Quoted, Literal, Special, Gap, Comment}
use Rattle.field_tokens.specs.Tokens.{TokenValue, IsToken, AreTokens, HasTokenValues}
use Rattle.field_tokens.specs.Squeezed.{is_comment, comments_of}
use Rattle.field_tokens.specs.Comments.{CommentsPieces}
use Rattle.param_2231.specs.private.Given.{is_no_parenthesis}

other_kind : (kind : TokenKind) (octets rest : List ℕ) → IsToken Mime kind octets rest → list_all is_no_parenthesis octets ≡ true → is_comment kind ≡ false
other_kind Comment octets rest is all = let h = rw (is.spelled) at all in cc h
other_kind Atom octets rest is all = refl
other_kind Quoted octets rest is all = refl
other_kind Literal octets rest is all = refl
other_kind Special octets rest is all = refl
other_kind Gap octets rest is all = refl

no_comments : (ts : List TokenValue) (text : List ℕ) → AreTokens Mime ts text → list_all is_no_parenthesis text ≡ true → comments_of ts ≡ []
no_comments [] text are all = refl
no_comments (t ∷ ts) text are all =
    let split : list_all is_no_parenthesis (t.octets ++ are.0) ≡ true = sym (ap (list_all is_no_parenthesis) are.1) ∙ all in
    let parts = and_parts (list_all is_no_parenthesis t.octets) (list_all is_no_parenthesis are.0) (sym (list_all-append is_no_parenthesis t.octets are.0) ∙ split) in
    rw (other_kind t.kind t.octets are.0 are.2 parts.0) (no_comments ts are.0 are.3 parts.1)

pub no_comments_add : (text : List ℕ) (tokens : List TokenValue) (made : List ℕ) → HasTokenValues Mime text tokens → list_all is_no_parenthesis text ≡ true
    → AddsLines (CommentsPieces (comments_of tokens)) made made
no_comments_add text tokens made has all = rw (no_comments tokens text has.are_tokens all) (adds_none made refl)
