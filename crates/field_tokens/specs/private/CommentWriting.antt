-- What the writer of comments finds and puts.
use Rattle.std.specs.Prelude.{◌≡◌, ℕ, ◌<◌, Bool, List, ◌∷◌, ◌++◌}
use Rattle.std.specs.List.{list_all}
use Rattle.mail_wire.specs.Octets.{is_ascii}
use Rattle.encoded_words.specs.CommentUnits.{TextItem}
use Rattle.encoded_words.specs.Folding.{AddsLines}
use Rattle.field_tokens.specs.Trees.{AreText, spelling, Body, body_octets, IsCommentBody}
use Rattle.field_tokens.specs.private.Bodies.{BeginsNoItem, body_depth}
use Rattle.field_tokens.specs.Comments.{comment_of, RunPieces, TextPieces, CommentPieces}

-- the octets are a comment in which fewer are open than this
pub record IsCommentWithin (levels : ℕ) (octets : List ℕ) : Type 0 where
  pub body : Body
  pub is_body : IsCommentBody body
  pub shallow : body_depth body < levels
  pub spelled : octets ≡ comment_of body

-- such a comment comes first
pub record BeginsComment (levels : ℕ) (octets : List ℕ) : Type 0 where
  pub body : Body
  pub following : List ℕ
  pub is_body : IsCommentBody body
  pub shallow : body_depth body < levels
  pub whole : octets ≡ 40 ∷ (body_octets body ++ 41 ∷ following)

-- a run's pieces were put, and this tells whether it is ASCII
pub record WritesRun (run : List ℕ) (ascii : Bool) (old new : List ℕ) : Type 0 where
  pub ascii_is : ascii ≡ list_all is_ascii run
  pub adds : AddsLines (RunPieces (list_all is_ascii run) run) old new

-- the octets are text and what follows it, the text's pieces were put, and this tells whether it is ASCII
pub record WritesText (octets : List ℕ) (ascii : Bool) (after : List ℕ) (old new : List ℕ) : Type 0 where
  pub text : List TextItem
  pub are_text : AreText text
  pub whole : octets ≡ spelling text ++ after
  pub stops : BeginsNoItem after
  pub ascii_is : ascii ≡ list_all is_ascii (spelling text)
  pub adds : AddsLines (TextPieces text) old new

-- the octets are a comment and what follows it, the comment's pieces were put, and this tells whether it is ASCII
pub record WritesComment (octets : List ℕ) (ascii : Bool) (rest : List ℕ) (old new : List ℕ) : Type 0 where
  pub comment : List ℕ
  pub whole : octets ≡ comment ++ rest
  pub ascii_is : ascii ≡ list_all is_ascii comment
  pub adds : AddsLines (CommentPieces comment) old new
