-- The layout of a field, and when a made field stands for the original (RFC 6857, 3). What it keeps of lines lets a multipart keep its parts (RFC 2046,
-- 5.1.1).
use Rattle.std.specs.Prelude.{◌≡◌, ℕ, Bool, true, false, ◌||◌, List, [], ◌∷◌, codes, Option, Some, None}
use Rattle.std.specs.List.{AllZip, list_all}
use Rattle.std.specs.Str.{bytes_eq}
use Rattle.mail_wire.specs.Characters.{space, dash}
use Rattle.mail_wire.specs.Octets.{is_ascii, same_name}
use Rattle.mail_wire.specs.Message.{IsNul}
use Rattle.encoded_words.specs.Words.{UnitValue, Text}
use Rattle.encoded_words.specs.Units.{HasUnits}
use Rattle.encoded_words.specs.WrittenWords.{AreWordsOf}
use Rattle.encoded_words.specs.Folding.{Piece, made_body, word_pieces}
use Rattle.field_tokens.specs.Comments.{CommentValue}
use Rattle.address_grammar.specs.declared.Address.{Address}
use Rattle.address_grammar.specs.AddressLists.{ElementValue}
use Rattle.address_lists.specs.PhraseLists.{SaysPhrases, PhrasesPieces}
use Rattle.address_lists.specs.ListPieces.{SaysAddresses, AddressesPieces, served_address}
use Rattle.address_lists.specs.ListReadBack.{StandsForElement}
use Rattle.address_lists.specs.PathPieces.{SaysPath, PathPieces}
use Rattle.param_grammar.specs.declared.ParamKind.TheVariants.{Content}
use Rattle.param_grammar.specs.Joining.{ParamValue, SaysParams}
use Rattle.param_2231.specs.Layout.{ParamsPieces}
use Rattle.param_2231.specs.ParamsReadBack.{served_main}
use Rattle.encapsulated_fields.specs.Encapsulated.{downgraded_name}
use Rattle.field_downgrade.specs.declared.kind.Kind.{Kind}
use Rattle.field_downgrade.specs.declared.kind.Kind.TheVariants.{Unstructured, Addresses, Phrases, Params, Ids, Path, Typed, Trace, Plain}
use Rattle.field_downgrade.specs.Kinds.{kind_named}
use Rattle.utf8_fields.specs.Parts.{FieldParts, HasParts, HasValue, field_octets}
use Rattle.field_downgrade.specs.PlainTexts.{SaysPlain, PlainPieces}
use Rattle.field_downgrade.specs.Typed.{utf8_type, SaysTyped, TypedPieces}
use Rattle.field_downgrade.specs.Received.{Clause, SaysReceived, ReceivedPieces, served_clauses}
use Rattle.field_downgrade.specs.GlobalBodies.{ChangesGlobal}
use Rattle.field_downgrade.specs.Layout.{HasUnstructuredLayout, made_of, spaced}

-- the octets are a field with an octet above 127, of these parts
pub record IsHighField (octets : List ℕ) (f : FieldParts) : Type 0 where
  pub is_field : HasParts octets f
  pub high : list_all is_ascii octets ≡ false

-- the octets are a field without an octet above 127, of these parts
pub record IsAsciiField (octets : List ℕ) (f : FieldParts) : Type 0 where
  pub is_field : HasParts octets f
  pub ascii : list_all is_ascii octets ≡ true

-- the name begins with `-`
abbrev pub BeginsHyphen : List ℕ → Type 0
BeginsHyphen [] = ⊥
BeginsHyphen (x ∷ xs) = x ≡ dash

-- The field Content-Transfer-Encoding (RFC 2045, 6).
unfoldable pub is_encoding_name : List ℕ → Bool
is_encoding_name name = same_name name (codes "Content-Transfer-Encoding")

-- The fields that tell how a body is read keep their names, so that the body is still read so (RFC 2045, 5 and 6).
unfoldable pub keeps_name : List ℕ → Bool
keeps_name name = same_name name (codes "Content-Type") || is_encoding_name name

-- ---- what a field means

-- what the value of a field says
pub data Meaning : Type 0 where
  -- the units of a text
  Units : List UnitValue → Meaning
  -- the units of phrases, and comments
  Keywords : List (List UnitValue) → List CommentValue → Meaning
  -- the elements of a list of addresses, and comments
  AddressList : List ElementValue → List CommentValue → Meaning
  -- a main part, parameters, and comments
  Parameters : List ℕ → List ParamValue → List CommentValue → Meaning
  -- the octets of identifiers
  Identifiers : List ℕ → Meaning
  -- the address of a path, which the null path hasn't, and comments
  PathTo : Option Address → List CommentValue → Meaning
  -- the type of an address, and the address
  TypedAddress : List ℕ → List ℕ → Meaning
  -- clauses, a date or none, and comments
  Clauses : List Clause → Option (List ℕ) → List CommentValue → Meaning
  -- a text without its comments, and the comments
  PlainText : List ℕ → List CommentValue → Meaning

-- the value of a field of this kind and name says this
abbrev pub SaysAs : Kind → List ℕ → List ℕ → Meaning → Type 0
SaysAs Unstructured name value meaning = (units : List UnitValue) × (meaning ≡ Units units) × HasUnits value units
SaysAs Phrases name value meaning = (phrases : List (List UnitValue)) × (comments : List CommentValue) × (meaning ≡ Keywords phrases comments) × SaysPhrases value phrases comments
SaysAs Addresses name value meaning = (elements : List ElementValue) × (comments : List CommentValue) × (meaning ≡ AddressList elements comments) × SaysAddresses value elements comments
SaysAs (Params kind) name value meaning = (main : List ℕ) × (params : List ParamValue) × (comments : List CommentValue) × (meaning ≡ Parameters main params comments)
    × SaysParams kind value main params comments
SaysAs Ids name value meaning = meaning ≡ Identifiers value
SaysAs Path name value meaning = (answer : Option Address) × (comments : List CommentValue) × (meaning ≡ PathTo answer comments) × SaysPath value answer comments
SaysAs Typed name value meaning = (type : List ℕ) × (text : List ℕ) × (meaning ≡ TypedAddress type text) × SaysTyped value type text
SaysAs Trace name value meaning = (clauses : List Clause) × (date : Option (List ℕ)) × (comments : List CommentValue) × (meaning ≡ Clauses clauses date comments)
    × SaysReceived value clauses date comments
SaysAs Plain name value meaning = (said : List ℕ) × (comments : List CommentValue) × (meaning ≡ PlainText said comments) × SaysPlain (is_encoding_name name) value said comments

-- what a field means, by its kind
pub record Means (f : FieldParts) (meaning : Meaning) : Type 0 where
  pub value : List ℕ
  pub has_value : HasValue f.body value
  pub says : SaysAs (kind_named f.name) f.name value meaning

-- the value of the field isn't one of its kind
abbrev pub IsMalformed : FieldParts → Type 0
IsMalformed f = (meaning : Meaning) → ¬ Means f meaning

-- ---- the layout

-- The pieces of the value of a structured field of this kind and name. Identifiers have none.
abbrev pub PiecesAs : Kind → Bool → List ℕ → List ℕ → List (List ℕ) → Type 0
PiecesAs Unstructured open_global name value pieces = ⊥
PiecesAs Phrases open_global name value pieces = PhrasesPieces value pieces
PiecesAs Addresses open_global name value pieces = AddressesPieces value pieces
PiecesAs (Params kind) open_global name value pieces = ParamsPieces kind open_global value pieces
PiecesAs Ids open_global name value pieces = ⊥
PiecesAs Path open_global name value pieces = PathPieces value pieces
PiecesAs Typed open_global name value pieces = TypedPieces value pieces
PiecesAs Trace open_global name value pieces = ReceivedPieces value pieces
PiecesAs Plain open_global name value pieces = PlainPieces (is_encoding_name name) value pieces

-- `Downgraded-` before the name, colon, the pieces, and CRLF where the original has it (RFC 6857, 3.1)
abbrev pub downgraded_of : FieldParts → List Piece → FieldParts
downgraded_of f pieces = record { name = downgraded_name f.name; white = []; body = made_body pieces; ending = f.ending }

-- why a field is kept under another name
pub data IsKeptAside (f : FieldParts) : Type 0 where
  -- a line that begins with `-` could be read as the delimiter of a multipart
  ByHyphen : BeginsHyphen f.name → IsKeptAside f
  -- identifiers with an octet above 127 have no ASCII form
  ByIdentifiers : kind_named f.name ≡ Ids → IsKeptAside f
  -- the null path, and one whose address can't be served
  ByNullPath : (comments : List CommentValue) → Means f (PathTo None comments) → IsKeptAside f
  ByPath : (address : Address) (comments : List CommentValue) → Means f (PathTo (Some address) comments) → served_address address ≡ None → IsKeptAside f
  -- an address of a type that has no ASCII form
  ByType : (type text : List ℕ) → Means f (TypedAddress type text) → bytes_eq type utf8_type ≡ false → IsKeptAside f
  -- a value that isn't one of its kind
  ByMalformed : IsMalformed f → keeps_name f.name ≡ false → IsKeptAside f

-- the field that the layout rule gives one with an octet above 127
pub data HasHighLayout (open_global : Bool) (f g : FieldParts) : Type 0 where
  -- the words of an unstructured field are copied or encoded
  OfWords : kind_named f.name ≡ Unstructured → ¬ BeginsHyphen f.name → HasUnstructuredLayout f g → HasHighLayout open_global f g
  -- another field is made of its pieces
  OfPieces : (value : List ℕ) (pieces : List (List ℕ)) → HasValue f.body value → PiecesAs (kind_named f.name) open_global f.name value pieces → g ≡ made_of f (spaced pieces) → HasHighLayout open_global f g
  -- one that can't be is kept under another name
  Encapsulated : (value : List ℕ) (words : List (List ℕ)) → IsKeptAside f → HasValue f.body value → AreWordsOf value words → g ≡ downgraded_of f (word_pieces space words) → HasHighLayout open_global f g
  -- one that tells how a body is read keeps its name
  KeptMalformed : (value : List ℕ) (words : List (List ℕ)) → IsMalformed f → keeps_name f.name ≡ true → HasValue f.body value → AreWordsOf value words → g ≡ made_of f (word_pieces space words)
      → HasHighLayout open_global f g

-- The field with this body.
abbrev pub with_body : FieldParts → List ℕ → FieldParts
with_body f body = record { name = f.name; white = f.white; body = body; ending = f.ending }

-- The field is the ASCII Content-Type of an opened message/global, and the other one the same for a message (RFC 6532, 3.7).
pub record NamesMessage (octets made : List ℕ) : Type 0 where
  pub f : FieldParts
  pub is_field : IsAsciiField octets f
  pub kind : kind_named f.name ≡ Params Content
  pub changed : List ℕ
  pub changes : ChangesGlobal f.body changed
  pub made_is : made ≡ field_octets (with_body f changed)

-- an ASCII field changes where it is the type of an opened message/global
abbrev pub IsChangedType : Bool → List ℕ → Type 0
IsChangedType false octets = ⊥
IsChangedType true octets = (made : List ℕ) × NamesMessage octets made

-- the field that the layout rule gives
pub data HasFieldLayout (open_global : Bool) (octets made : List ℕ) : Type 0 where
  -- an ASCII field is copied
  Copied : list_all is_ascii octets ≡ true → ¬ IsChangedType open_global octets → made ≡ octets → HasFieldLayout open_global octets made
  -- but for the type of an opened message/global
  Changed : open_global ≡ true → NamesMessage octets made → HasFieldLayout open_global octets made
  -- another one is made anew
  Made : (f g : FieldParts) → IsHighField octets f → HasHighLayout open_global f g → made ≡ field_octets g → HasFieldLayout open_global octets made

-- ---- what stands for it

-- what the main part of a field of this kind is called
abbrev pub main_for : Bool → Kind → List ℕ → List ℕ
main_for open_global Unstructured main = main
main_for open_global Phrases main = main
main_for open_global Addresses main = main
main_for open_global (Params kind) main = served_main open_global kind main
main_for open_global Ids main = main
main_for open_global Path main = main
main_for open_global Typed main = main
main_for open_global Trace main = main
main_for open_global Plain main = main

-- The same meaning stands for a meaning, but for these cases: the elements of a list of addresses, and the address of a path, are
-- served; a message/global that is opened is called message/rfc822; clauses that can't be served are dropped.
abbrev pub StandsForMeaning : Bool → Kind → Meaning → Meaning → Type 0
StandsForMeaning open_global kind (Units units) made = made ≡ Units units
StandsForMeaning open_global kind (Keywords phrases comments) made = made ≡ Keywords phrases comments
StandsForMeaning open_global kind (AddressList elements comments) made = (served : List ElementValue) × (made ≡ AddressList served comments) × AllZip StandsForElement elements served
StandsForMeaning open_global kind (Parameters main params comments) made = made ≡ Parameters (main_for open_global kind main) params comments
StandsForMeaning open_global kind (Identifiers octets) made = ⊥
StandsForMeaning open_global kind (PathTo None comments) made = ⊥
StandsForMeaning open_global kind (PathTo (Some address) comments) made = (served : Address) × (served_address address ≡ Some served) × (made ≡ PathTo (Some served) comments)
StandsForMeaning open_global kind (TypedAddress type text) made = (bytes_eq type utf8_type ≡ true) × (made ≡ TypedAddress type text)
StandsForMeaning open_global kind (Clauses clauses date comments) made = made ≡ Clauses (served_clauses clauses) date comments
StandsForMeaning open_global kind (PlainText said comments) made = made ≡ PlainText said comments

-- the name is the same, and the meaning stands for the other
pub record IsSameMeaning (open_global : Bool) (f g : FieldParts) : Type 0 where
  pub name : g.name ≡ f.name
  pub no_hyphen : ¬ BeginsHyphen f.name
  pub meaning : Meaning
  pub made_meaning : Meaning
  pub means : Means f meaning
  pub made_means : Means g made_meaning
  pub stands : StandsForMeaning open_global (kind_named f.name) meaning made_meaning

-- the units of the one value are the other value as text
pub record KeepsValue (f g : FieldParts) : Type 0 where
  pub value : List ℕ
  pub has_value : HasValue f.body value
  pub made_value : List ℕ
  pub has_made_value : HasValue g.body made_value
  pub says : HasUnits made_value (Text value ∷ [])

-- the field keeps the value under a `Downgraded-` name
pub record IsEncapsulated (f g : FieldParts) : Type 0 where
  pub aside : IsKeptAside f
  pub name : g.name ≡ downgraded_name f.name
  pub keeps : KeepsValue f g

-- the field keeps the value, which isn't one of its kind, under its name
pub record IsKeptMalformed (f g : FieldParts) : Type 0 where
  pub malformed : IsMalformed f
  pub kept : keeps_name f.name ≡ true
  pub name : g.name ≡ f.name
  pub still_malformed : IsMalformed g
  pub keeps : KeepsValue f g

-- how the made field stands for the original: one case fits each
pub data StandsSo (open_global : Bool) (f g : FieldParts) : Type 0 where
  SameMeaning : IsSameMeaning open_global f g → StandsSo open_global f g
  UnderOtherName : IsEncapsulated f g → StandsSo open_global f g
  StillMalformed : IsKeptMalformed f g → StandsSo open_global f g

-- The made field stands for the original.
pub data Stands (octets made : List ℕ) (open_global : Bool) : Type 0 where
  -- an ASCII field stands as it is
  Same : list_all is_ascii octets ≡ true → ¬ IsChangedType open_global octets → made ≡ octets → Stands octets made open_global
  -- the type of an opened message/global stands for itself, but for its subtype
  Renamed : (f g : FieldParts) → open_global ≡ true → IsAsciiField octets f → IsChangedType open_global octets → IsAsciiField made g → IsSameMeaning open_global f g → Stands octets made open_global
  -- another one is ASCII then
  Ascii : (f g : FieldParts) → IsHighField octets f → IsAsciiField made g → StandsSo open_global f g → Stands octets made open_global

-- The made field is a field, so each of its further lines begins with white. Its first line doesn't begin with `-`, and
-- its last CRLF is there exactly where the original has it, and it has no NUL where the original has none.
pub record KeepsLines (octets made : List ℕ) : Type 0 where
  pub f : FieldParts
  pub g : FieldParts
  pub is_field : HasParts octets f
  pub made_field : HasParts made g
  pub ending : g.ending ≡ f.ending
  pub no_nul : ((place : ℕ) → ¬ IsNul octets place) → (place : ℕ) → ¬ IsNul made place
  pub no_hyphen : list_all is_ascii octets ≡ false → ¬ BeginsHyphen g.name
