-- What a comment says, and how it is written in ASCII (RFC 5322, 3.2.2; RFC 2047, 5, rule 2; RFC 6857, 3.2).
use Rattle.std.specs.Prelude.{◌≡◌, ◌↔◌, ◌<◌, ℕ, Bool, true, false, List, [], ◌∷◌, ◌++◌, length, Option, Some, None, ⊤, IsUtf8}
use Rattle.std.specs.List.{AllByRecursion, list_all, join_with_byte}
use Rattle.mail_wire.specs.Characters.{space, left_parenthesis, right_parenthesis}
use Rattle.mail_wire.specs.Octets.{is_ascii}
use Rattle.encoded_words.specs.Words.{UnitValue}
use Rattle.encoded_words.specs.CommentUnits.{TextItem, is_white_item, HasCommentUnits}
use Rattle.encoded_words.specs.Written.{WriteAll}
use Rattle.field_tokens.specs.TokenOctets.{is_line_octet}
use Rattle.field_tokens.specs.Groups.{IsEnclosed}
use Rattle.field_tokens.specs.Tokens.{comment_marks}
use Rattle.field_tokens.specs.Trees.{spelling, Body, Last, Before, body_octets, IsCommentBody, IsRun}

-- the octets are a comment, at most 64 deep
abbrev pub IsComment : List ℕ → Type 0
IsComment octets = IsEnclosed comment_marks octets

-- what stands in a comment: nothing more, or the units of a run or a comment, and then more
pub data CommentValue : Type 0 where
  End : CommentValue
  UnitsThen : List UnitValue → CommentValue → CommentValue
  NestedThen : CommentValue → CommentValue → CommentValue

-- the text without the white at its ends
pub record HasRunOf (text run : List TextItem) : Type 0 where
  pub lead : List TextItem
  pub trail : List TextItem
  pub lead_white : list_all is_white_item lead ≡ true
  pub trail_white : list_all is_white_item trail ≡ true
  pub is_run : IsRun run
  pub whole : text ≡ lead ++ (run ++ trail)

-- Text says the units of its run. Where it is white only it says nothing.
abbrev pub TextSays : List TextItem → Option (List UnitValue) → Type 0
TextSays text None = list_all is_white_item text ≡ true
TextSays text (Some units) = (run : List TextItem) × HasRunOf text run × HasCommentUnits (spelling run) units

-- The units of a text before what follows in a comment, where it says something.
abbrev pub units_then : Option (List UnitValue) → CommentValue → CommentValue
units_then None more = more
units_then (Some units) more = UnitsThen units more

-- What the content of a comment says: its texts and nested comments, in their order (RFC 5322, 3.2.2).
abbrev pub BodySays : Body → CommentValue → Type 0
BodySays (Last text) value = (units : Option (List UnitValue)) × TextSays text units × (value ≡ units_then units End)
BodySays (Before text inner more) value = (units : Option (List UnitValue)) × (nested following : CommentValue) × TextSays text units × BodySays inner nested × BodySays more following
    × (value ≡ units_then units (NestedThen nested following))

-- a comment with this between its parentheses
abbrev pub comment_of : Body → List ℕ
comment_of body = left_parenthesis ∷ (body_octets body ++ right_parenthesis ∷ [])

-- the octets are a comment that says this
pub record CommentSays (octets : List ℕ) (value : CommentValue) : Type 0 where
  pub body : Body
  pub is_body : IsCommentBody body
  pub spelled : octets ≡ comment_of body
  pub says : BodySays body value

-- a run is one piece where it is ASCII, and else its units are written
abbrev pub RunPieces : Bool → List ℕ → List (List ℕ) → Type 0
RunPieces true octets pieces = pieces ≡ octets ∷ []
RunPieces false octets pieces = (units : List UnitValue) × HasCommentUnits octets units × WriteAll units pieces

-- Text gives the pieces of its run. Where it is white only it gives none.
pub data TextPieces (text : List TextItem) (pieces : List (List ℕ)) : Type 0 where
  White : list_all is_white_item text ≡ true → pieces ≡ [] → TextPieces text pieces
  Run : (run : List TextItem) → HasRunOf text run → RunPieces (list_all is_ascii (spelling run)) (spelling run) pieces → TextPieces text pieces

-- a comment is one piece where it is ASCII, and else its parentheses are a piece each, with the pieces between them
abbrev pub WrappedPieces : Bool → List ℕ → (List (List ℕ) → Type 0) → List (List ℕ) → Type 0
WrappedPieces true octets Inner pieces = pieces ≡ octets ∷ []
WrappedPieces false octets Inner pieces = (inner : List (List ℕ)) × Inner inner × (pieces ≡ (left_parenthesis ∷ []) ∷ (inner ++ (right_parenthesis ∷ []) ∷ []))

-- The pieces of a comment's content in ASCII: those of its texts and of its nested comments, in their order (RFC 2047, 5, rule 2).
abbrev pub BodyPieces : Body → List (List ℕ) → Type 0
BodyPieces (Last text) pieces = TextPieces text pieces
BodyPieces (Before text inner more) pieces = (first nested following : List (List ℕ)) × TextPieces text first
    × WrappedPieces (list_all is_ascii (comment_of inner)) (comment_of inner) (BodyPieces inner) nested × BodyPieces more following
    × (pieces ≡ first ++ (nested ++ following))

-- the pieces of a comment
pub record CommentPieces (octets : List ℕ) (pieces : List (List ℕ)) : Type 0 where
  pub body : Body
  pub is_body : IsCommentBody body
  pub spelled : octets ≡ comment_of body
  pub pieces_are : WrappedPieces (list_all is_ascii octets) octets (BodyPieces body) pieces

-- what each of several comments says
abbrev pub CommentsSay : List (List ℕ) → List CommentValue → Type 0
CommentsSay [] values = values ≡ []
CommentsSay (comment ∷ comments) values = (first : CommentValue) × (more : List CommentValue) × (values ≡ first ∷ more)
    × CommentSays comment first × CommentsSay comments more

-- the pieces of several comments, one after another
abbrev pub CommentsPieces : List (List ℕ) → List (List ℕ) → Type 0
CommentsPieces [] pieces = pieces ≡ []
CommentsPieces (comment ∷ comments) pieces = (first more : List (List ℕ)) × (pieces ≡ first ++ more)
    × CommentPieces comment first × CommentsPieces comments more

-- comments of UTF-8
abbrev pub AreWritableComments : List (List ℕ) → Type 0
AreWritableComments [] = ⊤
AreWritableComments (comment ∷ comments) = IsComment comment × IsUtf8 comment × AreWritableComments comments

-- the pieces, with a space between two, are an ASCII comment that says this
pub record IsWritten (value : CommentValue) (pieces : List (List ℕ)) : Type 0 where
  pub is_comment : IsComment (join_with_byte space pieces)
  pub says : CommentSays (join_with_byte space pieces) value
  pub ascii : list_all is_ascii (join_with_byte space pieces) ≡ true

-- an ASCII comment
pub record IsAsciiComment (octets : List ℕ) : Type 0 where
  pub is_comment : IsComment octets
  pub ascii : list_all is_ascii octets ≡ true

-- The pieces of comments, with a space between two, are ASCII comments with a space between two, which say these. There
-- are some where there were some.
pub record AreWritten (comments : List (List ℕ)) (values : List CommentValue) (pieces : List (List ℕ)) : Type 0 where
  pub made : List (List ℕ)
  pub are_comments : AllByRecursion IsAsciiComment made
  pub say : CommentsSay made values
  pub joined : join_with_byte space made ≡ join_with_byte space pieces
  pub none : (made ≡ []) ↔ (comments ≡ [])

-- a piece that can stand on a line of its own
pub record IsLinePiece (piece : List ℕ) : Type 0 where
  pub some : 0 < length piece
  pub ascii : list_all is_ascii piece ≡ true
  pub line : list_all is_line_octet piece ≡ true

-- comments that can stand in a line
abbrev pub AreLineComments : List (List ℕ) → Type 0
AreLineComments comments = AllByRecursion (λ comment. list_all is_line_octet comment ≡ true) comments
