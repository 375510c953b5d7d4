-- The comments of a text can be written.
use Rattle.std.proofs.Common.{◌≡◌, ℕ, List, subst, sym, ap, ◌∙◌}
use Rattle.field_tokens.specs.declared.Style.TheVariants.{Mail}
use Rattle.field_tokens.specs.declared.lexemes.Mark.{Mark}
use Rattle.field_tokens.specs.Comments.{AreWritableComments}
use Rattle.field_tokens.specs.Lexemes.{lexemes_in}
use Rattle.field_tokens.specs.Squeezed.{comments_of}
use Rattle.field_tokens.specs.Tokens.{TokenValue, HasTokenValues}
use Rattle.field_tokens.proofs.TokenLines.{comments_are_writable}

pub writable_comments : (text : List ℕ) (marks shown : List Mark) (values : List TokenValue) → HasTokenValues Mail text (lexemes_in text marks) → shown ≡ marks → values ≡ lexemes_in text shown → AreWritableComments (comments_of values)
writable_comments text marks shown values has same are =
    subst (λ tokens. AreWritableComments (comments_of tokens)) (sym (are ∙ ap (lexemes_in text) same)) (comments_are_writable Mail (lexemes_in text marks) text has.are_tokens has.is_line)
