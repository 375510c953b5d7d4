-- What says parameters has pieces, and what has pieces says parameters.
use Rattle.std.proofs.Common.{◌≡◌, ℕ, Bool, true, false, ◌&&◌, ◌||◌, ltb, ◌⊎◌, inl, inr, List, [], ◌∷◌, ◌++◌, is_some, refl}
use Rattle.std.proofs.lemmas.Bool.{cases_Bool}
use Rattle.std.proofs.lemmas.Str.{IsUtf8-from_is_utf8, IsUtf8-from_ascii}
use Rattle.std.specs.List.{list_all, flat_map}
use Rattle.std.specs.Str.{IsUtf8, is_utf8, bytes_eq, str_to_ascii_lowercase}
use Rattle.std.specs.Prelude.{codes, length}
use Rattle.encoded_words.proofs.WrittenWords.{ascii_literal}
use Rattle.field_tokens.specs.declared.Style.TheVariants.{Mime}
use Rattle.field_tokens.specs.Squeezed.{comments_of, run_octets}
use Rattle.field_tokens.specs.Comments.{CommentValue, AreWritableComments}
use Rattle.field_tokens.specs.Tokens.{HasTokens}
use Rattle.field_tokens.specs.declared.Token.{Token}
use Rattle.field_tokens.proofs.TokenLines.{comments_are_writable}
use Rattle.field_tokens.proofs.CommentValues.{CommentsPieces-some}
use Rattle.param_grammar.specs.declared.ParamKind.{ParamKind}
use Rattle.param_grammar.specs.declared.Piece.{Piece}
use Rattle.param_grammar.specs.Extended.{is_nothing, is_text_of, unit_of}
use Rattle.param_grammar.specs.Bodies.{solid}
use Rattle.param_grammar.specs.Joining.{ParamValue, parts_named, numbered, first_parts, joined_unit, unit_at, goes_on, is_ascii_parameter, is_doubled, HasSaidBody, SaysParams}
use Rattle.param_2231.specs.Layout.{PiecesGive, with_semicolons, written_main, ParamsPieces}
use Rattle.param_2231.specs.private.Parts.{IsWritableUnit}
use Rattle.param_grammar.proofs.SaidParams.{SaysSome, HasSaidBody-says}
use Rattle.param_2231.proofs.ParamWriting.{GivesWhere-some}

-- ---- what is said as text is UTF-8

utf8_or_ascii : (a b c d e f : Bool) → ((a && b) || ((c && d) || (e && f))) ≡ true → (b ≡ true) ⊎ ((d ≡ true) ⊎ (f ≡ true))
utf8_or_ascii true true c d e f h = inl refl
utf8_or_ascii true false true true e f h = inr (inl refl)
utf8_or_ascii true false true false true true h = inr (inr refl)
utf8_or_ascii true false true false true false h = cc h
utf8_or_ascii true false true false false f h = cc h
utf8_or_ascii true false false d true true h = inr (inr refl)
utf8_or_ascii true false false d true false h = cc h
utf8_or_ascii true false false d false f h = cc h
utf8_or_ascii false b true true e f h = inr (inl refl)
utf8_or_ascii false b true false true true h = inr (inr refl)
utf8_or_ascii false b true false true false h = cc h
utf8_or_ascii false b true false false f h = cc h
utf8_or_ascii false b false d true true h = inr (inr refl)
utf8_or_ascii false b false d true false h = cc h
utf8_or_ascii false b false d false f h = cc h

text_is_utf8 : (name octets : List ℕ) → is_text_of name octets ≡ true → IsUtf8 octets
text_is_utf8 name octets is =
    elim (utf8_or_ascii (is_nothing name) (is_utf8 octets) (bytes_eq name (codes "utf-8")) (is_utf8 octets) (bytes_eq name (codes "us-ascii")) (list_all (λ b. ltb b 128) octets) is) [
      | inl u ↦ IsUtf8-from_is_utf8 octets u
      | inr more ↦ elim more [
        | inl u ↦ IsUtf8-from_is_utf8 octets u
        | inr ascii ↦ IsUtf8-from_ascii octets (ascii_literal octets ascii)
      ]
    ]

pub unit_of-writable : (charset octets : List ℕ) → IsWritableUnit (unit_of charset octets)
unfolding unit_of
unit_of-writable charset octets = elim (cases_Bool (is_text_of (str_to_ascii_lowercase charset) octets)) [
  | inl text ↦ rw text (text_is_utf8 (str_to_ascii_lowercase charset) octets text)
  | inr other ↦ rw other tt
]

pub unit_at-writable : (all : List Piece) (piece : Piece) → IsWritableUnit (unit_at all piece)
unit_at-writable all piece = elim (cases_Bool (is_some piece.number)) [
  | inl part ↦ rw part (joined (parts_named piece.base all))
  | inr whole ↦ rw whole (unit_of-writable piece.charset piece.octets)
]
  where
    joined : (parts : List Piece) → IsWritableUnit (joined_unit parts)
    joined parts = unit_of-writable (flat_map (λ (part : Piece). part.charset) (numbered 0 parts)) (flat_map (λ (part : Piece). part.octets) (first_parts (length parts) parts))

-- ---- pieces

PiecesGive-some : (all : List Piece) (params : List ParamValue) (before following : List Piece) → (given : List (List ℕ)) × PiecesGive all params before following given
PiecesGive-some all params before [] = ([], refl)
PiecesGive-some all params before (piece ∷ following) =
    let first = GivesWhere-some (is_ascii_parameter all piece) (goes_on before piece) (is_doubled params piece.base) piece.written piece.base (unit_at all piece) (unit_at-writable all piece) in
    let others = PiecesGive-some all params (before ++ piece ∷ []) following in
    (first.0 ++ others.0, (first.0, others.0, refl, first.1, others.1))

-- the comments of a text can be written
text_comments : (text : List ℕ) (tokens : List Token) → (has : HasTokens Mime text tokens) → AreWritableComments (comments_of has.values)
text_comments text tokens has = comments_are_writable Mime has.values text has.are_tokens has.is_line

pub HasSaidBody-pieces : (kind : ParamKind) (open_global : Bool) (text main : List ℕ) (params : List ParamValue) → HasSaidBody kind text main params
    → (pieces : List (List ℕ)) × ParamsPieces kind open_global text pieces
HasSaidBody-pieces kind open_global text main params body =
    let given = PiecesGive-some body.pieces params [] body.pieces in
    let comments = CommentsPieces-some (comments_of body.has_tokens.values) (text_comments text body.tokens body.has_tokens) in (
      with_semicolons (written_main open_global kind main (run_octets text (solid body.is_body.first)) ∷ given.0) ++ comments.0,
      record {
        main = main;
        params = params;
        body = body;
        given = given.0;
        give = given.1;
        comments = comments.0;
        comments_are = comments.1;
        pieces_are = refl;
      },
    )

pub ParamsPieces-some : (kind : ParamKind) (open_global : Bool) (text main : List ℕ) (params : List ParamValue) (comments : List CommentValue) → SaysParams kind text main params comments
    → (pieces : List (List ℕ)) × ParamsPieces kind open_global text pieces
ParamsPieces-some kind open_global text main params comments says = HasSaidBody-pieces kind open_global text main params says.body

-- ---- what is said

pub ParamsPieces-says : (kind : ParamKind) (open_global : Bool) (text : List ℕ) (pieces : List (List ℕ)) → ParamsPieces kind open_global text pieces → SaysSome kind text
ParamsPieces-says kind open_global text pieces p = HasSaidBody-says kind text p.main p.params p.body
