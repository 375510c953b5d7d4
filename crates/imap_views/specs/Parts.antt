-- What a part says of itself in its header block (RFC 2045, 5 and 6.1; RFC 2046, 5.1.5; RFC 2183).
use Rattle.std.specs.Prelude.{◌≡◌, ℕ, ◌⊎◌, ◌==◌, Bool, true, if◌then◌else◌, List, [], ◌∷◌, ◌++◌, map, codes, Option, Some, None}
use Rattle.std.specs.List.{list_all}
use Rattle.mail_wire.specs.Octets.{is_ascii}
use Rattle.mail_wire.specs.Characters.{space, quote, slash, equals_sign}
use Rattle.field_tokens.specs.declared.Style.TheVariants.{Mime}
use Rattle.field_tokens.specs.declared.TokenKind.TheVariants.{Atom}
use Rattle.field_tokens.specs.Tokens.{TokenValue, HasTokenValues}
use Rattle.field_tokens.specs.Squeezed.{words_of}
use Rattle.field_tokens.specs.Trees.{Tree}
use Rattle.param_grammar.specs.declared.ParamKind.{ParamKind}
use Rattle.param_grammar.specs.declared.ParamKind.TheVariants.{Content, Disposition}
use Rattle.param_grammar.specs.declared.Piece.{Piece}
use Rattle.param_grammar.specs.Bodies.{HasBody, inner, unquoted}
use Rattle.param_grammar.specs.Joining.{ParamValue, AreParams}
use Rattle.mime_tree.specs.Openings.{IsFirstValue}
use Rattle.address_grammar.specs.Addresses.{quoted_string}
use Rattle.imap_views.specs.Strings.{nil, in_parentheses, listed, before_mark, after_mark}

-- ---- parameters

-- the text has this main part, in lower case, and these parameters as they are written
pub record HasPieces (kind : ParamKind) (text main : List ℕ) (pieces : List Piece) : Type 0 where
  pub comments : List Tree
  pub has_body : HasBody kind text main pieces comments
  pub params : List ParamValue
  pub are_params : AreParams pieces params

-- the text is no such field
abbrev pub IsNoField : ParamKind → List ℕ → Type 0
IsNoField kind text = (main : List ℕ) (pieces : List Piece) → ¬ HasPieces kind text main pieces

-- a value as it is written, and what a quoted one holds
abbrev pub value_said : List ℕ → List ℕ
value_said [] = []
value_said (x ∷ octets) = if x == quote then unquoted (inner (x ∷ octets)) else x ∷ octets

-- the name of a parameter as it is written, with stars and number, and its value
abbrev pub pair_of : Piece → List ℕ
pair_of piece = quoted_string (before_mark equals_sign piece.written) ++ space ∷ quoted_string (value_said (after_mark equals_sign piece.written))

-- The parameters of a part as a list of names and values, or NIL (RFC 3501, 7.4.2).
abbrev pub pairs_of : List Piece → List ℕ
pairs_of pieces = listed (map pair_of pieces)

-- ---- types

-- a type, in lower case, and its parameters
pub record TypeValue : Type 0 where
  pub main : List ℕ
  pub params : List ℕ

-- The parameters of a part that doesn't say its type: charset us-ascii (RFC 2045, 5.2).
abbrev pub usual_params : List ℕ
usual_params = in_parentheses (quoted_string (codes "charset") ++ space ∷ quoted_string (codes "us-ascii"))

-- what a part is that doesn't say it: text, and inside a digest a message
abbrev pub usual_type : Bool → TypeValue
usual_type digest = record { main = if digest then codes "message/rfc822" else codes "text/plain"; params = usual_params }

-- The type of a part that doesn't say one: text/plain (RFC 2045, 5.2).
abbrev pub plain_text_type : TypeValue
plain_text_type = record { main = codes "text/plain"; params = usual_params }

-- The value of a Content-Type says this type and these parameters (RFC 2045, 5.1).
abbrev pub IsTypeSaid : List ℕ → TypeValue → Type 0
IsTypeSaid text said = (pieces : List Piece) × HasPieces Content text said.main pieces × (said.params ≡ pairs_of pieces)

-- a malformed type is text
abbrev pub IsTypeBy : Bool → Option (List ℕ) → TypeValue → Type 0
IsTypeBy digest None said = said ≡ usual_type digest
IsTypeBy digest (Some text) said = IsTypeSaid text said ⊎ (IsNoField Content text × (said ≡ plain_text_type))

-- ---- dispositions and encodings

-- (main parameters)
abbrev pub disposition_form : List ℕ → List Piece → List ℕ
disposition_form main pieces = in_parentheses (quoted_string main ++ space ∷ pairs_of pieces)

-- a disposition, and NIL where there is none or a malformed one
abbrev pub IsDispositionBy : Option (List ℕ) → List ℕ → Type 0
IsDispositionBy None form = form ≡ nil
IsDispositionBy (Some text) form =
    ((main : List ℕ) × (pieces : List Piece) × HasPieces Disposition text main pieces × (form ≡ disposition_form main pieces))
    ⊎ (IsNoField Disposition text × (form ≡ nil))

-- the text is this atom, with gaps and comments around it
pub record IsSoleAtom (text octets : List ℕ) : Type 0 where
  pub tokens : List TokenValue
  pub has : HasTokenValues Mime text tokens
  pub atom : TokenValue
  pub words : words_of tokens ≡ atom ∷ []
  pub kind : atom.kind ≡ Atom
  pub octets_are : atom.octets ≡ octets

-- The text names this mechanism: one token, which is ASCII (RFC 2045, 5.1 and 6.1), with gaps and comments around it.
pub record IsMechanism (text octets : List ℕ) : Type 0 where
  pub sole : IsSoleAtom text octets
  pub ascii : list_all is_ascii octets ≡ true

-- an encoding as it is written; `7bit` where there is none or a malformed one
abbrev pub IsEncodingBy : Option (List ℕ) → List ℕ → Type 0
IsEncodingBy None name = name ≡ codes "7bit"
IsEncodingBy (Some text) name = IsMechanism text name ⊎ (((octets : List ℕ) → ¬ IsMechanism text octets) × (name ≡ codes "7bit"))

-- ---- all of it

-- What a part says of itself: its type, id, description, encoding and disposition (RFC 2045; RFC 2183).
pub record PartValue : Type 0 where
  pub typed : TypeValue
  pub id : Option (List ℕ)
  pub description : Option (List ℕ)
  pub encoding : List ℕ
  pub disposition : List ℕ

-- the first field of a name has a value of which this holds
abbrev pub IsByFirst : {A : Type 0} → List ℕ → (Option (List ℕ) → A → Type 0) → List (List ℕ) → A → Type 0
IsByFirst name IsBy raws a = (value : Option (List ℕ)) × IsFirstValue name raws value × IsBy value a

-- A part with these raw fields, in a digest or not, says this of itself.
pub record SaysPart (digest : Bool) (raws : List (List ℕ)) (part : PartValue) : Type 0 where
  pub typed : IsByFirst (codes "Content-Type") (IsTypeBy digest) raws part.typed
  pub id : IsFirstValue (codes "Content-ID") raws part.id
  pub description : IsFirstValue (codes "Content-Description") raws part.description
  pub encoding : IsByFirst (codes "Content-Transfer-Encoding") IsEncodingBy raws part.encoding
  pub disposition : IsByFirst (codes "Content-Disposition") IsDispositionBy raws part.disposition

-- ---- as texts

-- type subtype parameters id description encoding
abbrev pub main_type : List ℕ → List ℕ
main_type main = quoted_string (before_mark slash main)

-- The subtype of a part, as a quoted string (RFC 3501, 7.4.2).
abbrev pub sub_type : List ℕ → List ℕ
sub_type main = quoted_string (after_mark slash main)
