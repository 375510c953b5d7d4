-- How parameters are written in ASCII (RFC 2231, 3, 4 and 7).
use Rattle.std.specs.Prelude.{◌≡◌, ℕ, zero, suc, ◌+◌, ◌<◌, ◌≤◌, Bool, true, false, not, ◌&&◌, ◌||◌, if◌then◌else◌, nat_lt, List, [], ◌∷◌, ◌++◌, length, take, map, codes, ⊤}
use Rattle.std.specs.List.{concat}
use Rattle.std.specs.Str.{IsCharBoundary, bytes_eq}
use Rattle.std.specs.Int.Digits.{digits_of}
use Rattle.mail_wire.specs.Characters.{digit_zero, semicolon}
use Rattle.encoded_words.specs.Words.{UnitValue, Text, Opaque}
use Rattle.field_tokens.specs.Squeezed.{comments_of, run_octets}
use Rattle.field_tokens.specs.Comments.{CommentsPieces}
use Rattle.param_grammar.specs.declared.ParamKind.{ParamKind}
use Rattle.param_grammar.specs.declared.ParamKind.TheVariants.{Content, Disposition}
use Rattle.param_grammar.specs.declared.Piece.{Piece}
use Rattle.param_grammar.specs.Escapes.{escaped}
use Rattle.param_grammar.specs.Bodies.{solid}
use Rattle.param_grammar.specs.Joining.{ParamValue, goes_on, unit_at, is_ascii_parameter, is_doubled, HasSaidBody}

-- ---- one parameter

-- what a charset is called
abbrev pub charset_of : UnitValue → List ℕ
charset_of (Text octets) = codes "UTF-8"
charset_of (Opaque charset octets source) = charset

-- The octets of a value, in its charset.
abbrev pub octets_in : UnitValue → List ℕ
octets_in (Text octets) = octets
octets_in (Opaque charset octets source) = octets

-- A part of a text ends between two characters, and one of another value between any two octets.
abbrev pub EndsPart : UnitValue → List ℕ → ℕ → Type 0
EndsPart (Text octets) whole n = IsCharBoundary whole n
EndsPart (Opaque charset octets source) whole n = n ≤ length whole

-- Before rest, this part is the longest one that at most 60 octets spell.
pub record IsPartOf (unit : UnitValue) (part rest : List ℕ) : Type 0 where
  pub some : 0 < length part
  pub fits : length (escaped part) ≤ 60
  pub ends : EndsPart unit (part ++ rest) (length part)
  pub most : (n : ℕ) → length part < n → EndsPart unit (part ++ rest) n → 60 < length (escaped (take n (part ++ rest)))

-- The parts of a value, each the longest one that fits (RFC 2231, 3).
abbrev pub AreSectionTexts : UnitValue → List (List ℕ) → Type 0
AreSectionTexts unit [] = ⊤
AreSectionTexts unit (part ∷ parts) = IsPartOf unit part (concat parts) × AreSectionTexts unit parts

-- `''` after the charset: no language is given
abbrev pub charset_part : UnitValue → List ℕ
charset_part unit = charset_of unit ++ codes "''"

-- a whole value
abbrev pub whole_piece : List ℕ → UnitValue → List ℕ
whole_piece name unit = name ++ codes "*=" ++ charset_part unit ++ escaped (octets_in unit)

-- the decimal digits of a number
abbrev pub number_digits : ℕ → List ℕ
number_digits zero = digit_zero ∷ []
number_digits (suc n) = map (λ d. 48 + d) (digits_of 10 (suc n))

-- the piece of this number
abbrev pub numbered_piece : List ℕ → ℕ → List ℕ → List ℕ
numbered_piece name n said = name ++ codes "*" ++ number_digits n ++ codes "*=" ++ said

-- the pieces from this number on
abbrev pub numbered_pieces : List ℕ → ℕ → List (List ℕ) → List (List ℕ)
numbered_pieces name n [] = []
numbered_pieces name n (part ∷ parts) = numbered_piece name n (escaped part) ∷ numbered_pieces name (suc n) parts

-- the value can be written whole
abbrev pub is_short : UnitValue → Bool
is_short unit = not (nat_lt 60 (length (escaped (octets_in unit))))

-- The pieces of a parameter: one where its value is short or has to be whole, and else as many as its parts. The first alone
-- tells the charset.
pub data ParamPieces (whole : Bool) (name : List ℕ) (unit : UnitValue) (pieces : List (List ℕ)) : Type 0 where
  Whole : (whole || is_short unit) ≡ true → pieces ≡ whole_piece name unit ∷ [] → ParamPieces whole name unit pieces
  Parts : (first : List ℕ) (parts : List (List ℕ)) → (whole || is_short unit) ≡ false → AreSectionTexts unit (first ∷ parts) → octets_in unit ≡ first ++ concat parts
      → pieces ≡ numbered_piece name 0 (charset_part unit ++ escaped first) ∷ numbered_pieces name 1 parts → ParamPieces whole name unit pieces

-- ---- all parameters

-- the pieces of a parameter, where it is ASCII, where it goes on, and where it is doubled
abbrev pub GivesWhere : Bool → Bool → Bool → List ℕ → List ℕ → UnitValue → List (List ℕ) → Type 0
GivesWhere true goes_on doubled written name unit pieces = pieces ≡ written ∷ []
GivesWhere false true doubled written name unit pieces = pieces ≡ []
GivesWhere false false doubled written name unit pieces = ParamPieces doubled name unit pieces

-- What a piece gives: itself where its parameter is ASCII, and else all pieces of its parameter where that begins with it.
-- One of two parameters of a name is written whole: its parts would count as parts of both.
abbrev pub PieceGives : List Piece → List ParamValue → List Piece → Piece → List (List ℕ) → Type 0
PieceGives all params before piece pieces =
    GivesWhere (is_ascii_parameter all piece) (goes_on before piece) (is_doubled params piece.base) piece.written piece.base (unit_at all piece) pieces

-- what the pieces after those before give
abbrev pub PiecesGive : List Piece → List ParamValue → List Piece → List Piece → List (List ℕ) → Type 0
PiecesGive all params before [] pieces = pieces ≡ []
PiecesGive all params before (piece ∷ more) pieces = (first others : List (List ℕ)) × (pieces ≡ first ++ others) × PieceGives all params before piece first
    × PiecesGive all params (before ++ piece ∷ []) more others

-- a semicolon after each piece but the last
abbrev pub with_semicolons : List (List ℕ) → List (List ℕ)
with_semicolons [] = []
with_semicolons (piece ∷ []) = piece ∷ []
with_semicolons (piece ∷ next ∷ pieces) = (piece ++ semicolon ∷ []) ∷ with_semicolons (next ∷ pieces)

-- The type of a message whose headers are UTF-8 is the one of a message (RFC 6532, 3.7) where its headers are shown as ASCII.
abbrev pub is_global : ParamKind → List ℕ → Bool
is_global Content main = bytes_eq main (codes "message/global")
is_global Disposition main = false

-- the main part as it is written, without gaps and comments
abbrev pub written_main : Bool → ParamKind → List ℕ → List ℕ → List ℕ
written_main open_global kind main written = if open_global && is_global kind main then codes "message/rfc822" else written

-- The text has a main part and parameters, with these pieces.
pub record ParamsPieces (kind : ParamKind) (open_global : Bool) (text : List ℕ) (pieces : List (List ℕ)) : Type 0 where
  pub main : List ℕ
  pub params : List ParamValue
  pub body : HasSaidBody kind text main params
  pub given : List (List ℕ)
  pub give : PiecesGive body.pieces params [] body.pieces given
  pub comments : List (List ℕ)
  pub comments_are : CommentsPieces (comments_of body.has_tokens.values) comments
  pub pieces_are : pieces ≡ with_semicolons (written_main open_global kind main (run_octets text (solid body.is_body.first)) ∷ given) ++ comments
