-- A text whose only token is a comment is one.
use Rattle.std.proofs.Common.{◌≡◌, ℕ, true, List, [], ◌∷◌, ◌++◌, refl, sym, ap, ◌∙◌, subst}
use Rattle.std.proofs.lemmas.List.{append-nil}
use Rattle.field_tokens.specs.declared.Style.{Style}
use Rattle.field_tokens.specs.declared.Token.{Token}
use Rattle.field_tokens.specs.declared.TokenKind.{TokenKind}
use Rattle.field_tokens.specs.declared.TokenKind.TheVariants.{Atom, Quoted, Literal, Special, Gap, Comment}
use Rattle.field_tokens.specs.Tokens.{IsToken, TokenValue, AreTokens, tokens_from, HasTokens}
use Rattle.field_tokens.specs.Squeezed.{is_comment}
use Rattle.field_tokens.specs.Comments.{IsComment}
use Rattle.field_tokens.proofs.TokenLists.{token_at}

comment_kind : (kind : TokenKind) → is_comment kind ≡ true → kind ≡ Comment
comment_kind Comment e = refl
comment_kind Atom e = cc e
comment_kind Quoted e = cc e
comment_kind Literal e = cc e
comment_kind Special e = cc e
comment_kind Gap e = cc e

only_value : (style : Style) (values : List TokenValue) (text : List ℕ) (token : Token) → AreTokens style values text
    → token ∷ [] ≡ tokens_from 0 values → is_comment token.kind ≡ true → IsComment text
only_value style [] text token are e kind = absurd (cc e)
only_value style (v ∷ []) text token are e kind =
    let same : token ≡ token_at 0 v = cc e in
    let is_kind : v.kind ≡ Comment = comment_kind v.kind (ap (λ (t : Token). is_comment t.kind) (sym same) ∙ kind) in
    let is_token : IsToken style Comment v.octets are.0 = subst (λ k. IsToken style k v.octets are.0) is_kind are.2 in
    subst IsComment (sym (are.1 ∙ ap (λ r. v.octets ++ r) are.3 ∙ append-nil v.octets)) is_token
only_value style (v ∷ w ∷ values) text token are e kind = absurd (cc e)

pub one_comment : (style : Style) (text : List ℕ) (tokens : List Token) → HasTokens style text tokens
    → (token : Token) × (tokens ≡ token ∷ []) × (is_comment token.kind ≡ true) → IsComment text
one_comment style text tokens has one = only_value style has.values text one.0 has.are_tokens (sym one.1 ∙ has.placed) one.2
