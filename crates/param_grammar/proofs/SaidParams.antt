-- A text says one main part, one list of parameters and one list of comments.
use Rattle.std.proofs.Common.{◌≡◌, ℕ, List, ◌∷◌, sym, ap, ◌∙◌, subst}
use Rattle.field_tokens.specs.declared.Style.TheVariants.{Mime}
use Rattle.field_tokens.specs.declared.Token.{Token}
use Rattle.field_tokens.specs.Tokens.{HasTokens}
use Rattle.field_tokens.specs.Squeezed.{comments_of}
use Rattle.field_tokens.specs.Comments.{CommentValue, CommentsSay}
use Rattle.field_tokens.proofs.TokenLists.{AreTokens-once, HasTokens-once}
use Rattle.field_tokens.proofs.TokenLines.{comments_are_writable}
use Rattle.field_tokens.proofs.CommentValues.{CommentsSay-once, CommentsSay-some}
use Rattle.param_grammar.specs.declared.ParamKind.{ParamKind}
use Rattle.param_grammar.specs.Bodies.{sections_of, IsBody}
use Rattle.param_grammar.specs.Joining.{ParamValue, params_of, HasSaidBody, SaysParams}
use Rattle.param_grammar.proofs.BodyLemmas.{IsBody-once}

-- what two readings of a text share
pub record SameBody (kind : ParamKind) (text m n : List ℕ) (ps qs : List ParamValue) (a : HasSaidBody kind text m ps) (b : HasSaidBody kind text n qs) : Type 0 where
  pub main : m ≡ n
  pub params : ps ≡ qs
  pub values : a.has_tokens.values ≡ b.has_tokens.values
  pub pieces : a.pieces ≡ b.pieces
  pub first : a.is_body.first ≡ b.is_body.first

pub HasSaidBody-once : (kind : ParamKind) (text main other : List ℕ) (params others : List ParamValue) (a : HasSaidBody kind text main params) (b : HasSaidBody kind text other others)
    → SameBody kind text main other params others a b
HasSaidBody-once kind text main other params others a b =
    let tokens : a.tokens ≡ b.tokens = HasTokens-once Mime text a.tokens b.tokens a.has_tokens b.has_tokens in
    let body = IsBody-once kind text b.tokens main other a.pieces b.pieces (subst (λ r. IsBody kind text r main a.pieces) tokens a.is_body) b.is_body in
    let sections : a.is_body.first ∷ a.is_body.others ≡ b.is_body.first ∷ b.is_body.others = sym a.is_body.sections ∙ ap (sections_of text) tokens ∙ b.is_body.sections in
    record {
      main = body.0;
      params = a.are_params.params_are ∙ ap params_of body.1 ∙ sym b.are_params.params_are;
      values = AreTokens-once Mime text a.has_tokens.values b.has_tokens.values a.has_tokens.are_tokens b.has_tokens.are_tokens;
      pieces = body.1;
      first = cc sections;
    }

pub record SameSaying (m n : List ℕ) (ps qs : List ParamValue) (cs ds : List CommentValue) : Type 0 where
  pub main : m ≡ n
  pub params : ps ≡ qs
  pub comments : cs ≡ ds

pub SaysParams-once : (kind : ParamKind) (text main other : List ℕ) (params others : List ParamValue) (comments more : List CommentValue) → SaysParams kind text main params comments
    → SaysParams kind text other others more → SameSaying main other params others comments more
SaysParams-once kind text main other params others comments more a b =
    let same = HasSaidBody-once kind text main other params others a.body b.body in
    record {
      main = same.main;
      params = same.params;
      comments = CommentsSay-once (comments_of b.body.has_tokens.values) comments more (subst (λ ts. CommentsSay (comments_of ts) comments) same.values a.comments_say) b.comments_say;
    }

pub by_tokens : (kind : ParamKind) (text main : List ℕ) (params : List ParamValue) (tokens : List Token) → HasTokens Mime text tokens → (b : HasSaidBody kind text main params) → IsBody kind text tokens main b.pieces
by_tokens kind text main params tokens has b = subst (λ ts. IsBody kind text ts main b.pieces) (HasTokens-once Mime text b.tokens tokens b.has_tokens has) b.is_body

-- the comments of a text with parameters say something
pub said_comments : (kind : ParamKind) (text main : List ℕ) (params : List ParamValue) → HasSaidBody kind text main params → (said : List CommentValue) × SaysParams kind text main params said
said_comments kind text main params body =
    let tokens = body.has_tokens in
    let said = CommentsSay-some (comments_of tokens.values) (comments_are_writable Mime tokens.values text tokens.are_tokens tokens.is_line) in
    (said.0, record { body = body; comments_say = said.1 })

abbrev pub SaysSome : ParamKind → List ℕ → Type 0
SaysSome kind text = (main : List ℕ) × (params : List ParamValue) × (comments : List CommentValue) × SaysParams kind text main params comments

pub HasSaidBody-says : (kind : ParamKind) (text main : List ℕ) (params : List ParamValue) → HasSaidBody kind text main params → SaysSome kind text
HasSaidBody-says kind text main params body = let said = said_comments kind text main params body in (main, params, said.0, said.1)
