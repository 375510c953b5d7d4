-- What a part says of itself in an ASCII header is ASCII.
use Rattle.std.proofs.Common.{◌≡◌, ℕ, ◌==◌, Bool, true, false, inl, inr, cond, List, [], ◌∷◌, ◌++◌, map, filter, drop, Option, Some, None, IfSome, refl}
use Rattle.std.proofs.lemmas.Bool.{and_parts, and_from}
use Rattle.std.specs.List.{list_all, AllByRecursion}
use Rattle.mail_wire.specs.Octets.{is_ascii}
use Rattle.mail_wire.specs.declared.values.Span.{Span}
use Rattle.mail_wire.proofs.AllLemmas.{pass-append, pass-take, pass-drop}
use Rattle.field_tokens.specs.declared.Token.{Token}
use Rattle.field_tokens.specs.Tokens.{octets_at}
use Rattle.field_tokens.specs.Squeezed.{run_octets}
use Rattle.param_2231.proofs.WordsAgain.{lower-ascii, lower-all}
use Rattle.param_grammar.specs.declared.ParamKind.{ParamKind}
use Rattle.param_grammar.specs.declared.Piece.{Piece}
use Rattle.param_grammar.specs.Bodies.{inner, unquoted, is_filled, IsPiece, ArePieces, solid}
use Rattle.address_grammar.specs.Addresses.{quoted_string}
use Rattle.imap_views.specs.Strings.{before_mark, after_mark}
use Rattle.imap_views.specs.Parts.{HasPieces, value_said, pair_of, pairs_of, TypeValue, usual_type, IsTypeSaid, IsTypeBy, IsDispositionBy, IsEncodingBy, PartValue, SaysPart}
use Rattle.imap_views.proofs.AsciiTexts.{AreAscii, AreAllAscii, quoted_ascii, parentheses_ascii, listed_ascii, before_ascii, following_ascii}
use Rattle.imap_views.proofs.AsciiFields.{first_ascii}

-- ---- runs of tokens

octets_ascii : (text : List ℕ) (span : Span) → AreAscii text → AreAscii (octets_at text span)
octets_ascii text span h = pass-take is_ascii span.len (drop span.at text) (pass-drop is_ascii span.at text h)

run_ascii : (text : List ℕ) (tokens : List Token) → AreAscii text → AreAscii (run_octets text tokens)
run_ascii text [] h = refl
run_ascii text (token ∷ tokens) h = pass-append is_ascii (octets_at text token.span) (run_octets text tokens) (octets_ascii text token.span h) (run_ascii text tokens h)

-- ---- parameters

-- each piece is written in ASCII
abbrev AreAsciiPieces : List Piece → Type 0
AreAsciiPieces pieces = AllByRecursion (λ (piece : Piece). AreAscii piece.written) pieces

piece_ascii : (text : List ℕ) (section : List Token) (piece : Piece) → IsPiece text section piece → AreAscii text → AreAscii piece.written
piece_ascii text section piece is h =
    rw (is.is_piece.written_is, is.is_parameter.name_is)
    (pass-append is_ascii (octets_at text is.is_parameter.atom.span) (61 ∷ run_octets text is.value) (octets_ascii text is.is_parameter.atom.span h) (run_ascii text is.value h))

pieces_ascii : (text : List ℕ) (sections : List (List Token)) (pieces : List Piece) → ArePieces text sections pieces → AreAscii text → AreAsciiPieces pieces
pieces_ascii text [] pieces are h = rw (are) tt
pieces_ascii text (section ∷ sections) pieces are h = rw (are.4) (piece_ascii text section are.0 are.2 h, pieces_ascii text sections are.1 are.3 h)

unquoted_ascii : (octets : List ℕ) → AreAscii octets → AreAscii (unquoted octets)
unfolding unquoted
unquoted_ascii [] h = refl
unquoted_ascii (x ∷ []) h = h
unquoted_ascii (x ∷ y ∷ rest) h =
    let first = and_parts (is_ascii x) (list_all is_ascii (y ∷ rest)) h in
    let second = and_parts (is_ascii y) (list_all is_ascii rest) first.1 in
    by (x == 92) first.0 second.0 (unquoted_ascii rest second.1) (unquoted_ascii (y ∷ rest) first.1)
  where
    by : (b : Bool) → is_ascii x ≡ true → is_ascii y ≡ true → AreAscii (unquoted rest) → AreAscii (unquoted (y ∷ rest)) → AreAscii (cond b (y ∷ unquoted rest) (x ∷ unquoted (y ∷ rest)))
    by true p q r s = and_from (is_ascii y) (list_all is_ascii (unquoted rest)) q r
    by false p q r s = and_from (is_ascii x) (list_all is_ascii (unquoted (y ∷ rest))) p s

value_ascii : (octets : List ℕ) → AreAscii octets → AreAscii (value_said octets)
value_ascii [] h = refl
value_ascii (x ∷ octets) h = by (x == 34)
  where
    by : (b : Bool) → AreAscii (cond b (unquoted (inner (x ∷ octets))) (x ∷ octets))
    by true = unquoted_ascii (inner (x ∷ octets)) (pass-take is_ascii _ (drop 1 (x ∷ octets)) (pass-drop is_ascii 1 (x ∷ octets) h))
    by false = h

pair_ascii : (piece : Piece) → AreAscii piece.written → AreAscii (pair_of piece)
pair_ascii piece h =
    pass-append is_ascii (quoted_string (before_mark 61 piece.written)) (32 ∷ quoted_string (value_said (after_mark 61 piece.written)))
    (quoted_ascii (before_mark 61 piece.written) (before_ascii 61 piece.written h))
    (quoted_ascii (value_said (after_mark 61 piece.written)) (value_ascii (after_mark 61 piece.written) (following_ascii 61 piece.written h)))

all_pairs : (pieces : List Piece) → AreAsciiPieces pieces → AreAllAscii (map pair_of pieces)
all_pairs [] h = tt
all_pairs (piece ∷ pieces) h = (pair_ascii piece h.0, all_pairs pieces h.1)

pairs_ascii : (pieces : List Piece) → AreAsciiPieces pieces → AreAscii (pairs_of pieces)
pairs_ascii pieces h = listed_ascii (map pair_of pieces) (all_pairs pieces h)

record AreAsciiParts (main : List ℕ) (pieces : List Piece) : Type 0 where
  main_part : AreAscii main
  each : AreAsciiPieces pieces

has_pieces_ascii : (kind : ParamKind) (text main : List ℕ) (pieces : List Piece) → HasPieces kind text main pieces → AreAscii text → AreAsciiParts main pieces
has_pieces_ascii kind text main pieces has h =
    let body = has.has_body.is_body in
    record {
      main_part = rw (body.main_is) (lower-all is_ascii lower-ascii (run_octets text (solid body.first)) (run_ascii text (solid body.first) h));
      each = pieces_ascii text (filter is_filled body.others) pieces body.are_pieces h;
    }

-- ---- types, dispositions and encodings

record IsAsciiType (said : TypeValue) : Type 0 where
  main : AreAscii said.main
  params : AreAscii said.params

usual_ascii : (digest : Bool) → IsAsciiType (usual_type digest)
usual_ascii true = record { main = refl; params = refl }
usual_ascii false = record { main = refl; params = refl }

said_ascii : (text : List ℕ) (said : TypeValue) → IsTypeSaid text said → AreAscii text → IsAsciiType said
said_ascii text said is h =
    let has = has_pieces_ascii _ text said.main is.0 is.1 h in
    record { main = has.main_part; params = rw (is.2) (pairs_ascii is.0 has.each) }

type_ascii : (digest : Bool) (value : Option (List ℕ)) (said : TypeValue) → IsTypeBy digest value said → IfSome value AreAscii → IsAsciiType said
type_ascii digest None said is h = rw (is) (usual_ascii digest)
type_ascii digest (Some text) said (inl is) h = said_ascii text said is h
type_ascii digest (Some text) said (inr is) h = rw (is.1) (usual_ascii false)

disposition_ascii : (value : Option (List ℕ)) (form : List ℕ) → IsDispositionBy value form → IfSome value AreAscii → AreAscii form
disposition_ascii None form is h = rw (is) refl
disposition_ascii (Some text) form (inl is) h =
    let has = has_pieces_ascii _ text is.0 is.1 is.2 h in
    rw (is.3) (parentheses_ascii (quoted_string is.0 ++ 32 ∷ pairs_of is.1) (pass-append is_ascii (quoted_string is.0) (32 ∷ pairs_of is.1) (quoted_ascii is.0 has.main_part) (pairs_ascii is.1 has.each)))
disposition_ascii (Some text) form (inr is) h = rw (is.1) refl

encoding_ascii : (value : Option (List ℕ)) (name : List ℕ) → IsEncodingBy value name → AreAscii name
encoding_ascii None name is = rw (is) refl
encoding_ascii (Some text) name (inl is) = is.ascii
encoding_ascii (Some text) name (inr is) = rw (is.1) refl

-- ---- all of it

pub record IsAsciiPart (part : PartValue) : Type 0 where
  pub main : AreAscii part.typed.main
  pub params : AreAscii part.typed.params
  pub id : IfSome part.id AreAscii
  pub description : IfSome part.description AreAscii
  pub encoding : AreAscii part.encoding
  pub disposition : AreAscii part.disposition

pub part_ascii : (digest : Bool) (raws : List (List ℕ)) (part : PartValue) → SaysPart digest raws part → AreAllAscii raws → IsAsciiPart part
part_ascii digest raws part says h =
    let typed = type_ascii digest says.typed.0 part.typed says.typed.2 (first_ascii _ raws says.typed.0 h says.typed.1) in
    record {
      main = typed.main;
      params = typed.params;
      id = first_ascii _ raws part.id h says.id;
      description = first_ascii _ raws part.description h says.description;
      encoding = encoding_ascii says.encoding.0 part.encoding says.encoding.2;
      disposition = disposition_ascii says.disposition.0 part.disposition says.disposition.2 (first_ascii _ raws says.disposition.0 h says.disposition.1);
    }
