-- Parameters by the octets of their tokens.
use Rattle.std.proofs.Common.{◌≡◌, ℕ, ◌<◌, nat_lt, Bool, true, false, ◌&&◌, ◌||◌, if◌then◌else◌, inl, inr, List, [], ◌∷◌, ◌++◌, length, map, codes, refl, sym, ap, ◌∙◌, subst}
use Rattle.std.proofs.lemmas.Bool.{cases_Bool, true≢false, and_parts, and_from}
use Rattle.std.proofs.lemmas.List.Folds.{list_all-map, flat_map-map}
use Rattle.std.proofs.lemmas.Slice.Eq.{bytes_eq-Decides}
use Rattle.std.specs.List.{AllByRecursion, list_all, list_any}
use Rattle.std.specs.Str.{bytes_eq, str_to_ascii_lowercase}
use Rattle.mail_wire.specs.Octets.{is_ascii}
use Rattle.field_tokens.specs.declared.Style.TheVariants.{Mime}
use Rattle.field_tokens.specs.declared.Token.{Token}
use Rattle.field_tokens.specs.TokenOctets.{is_line_octet}
use Rattle.field_tokens.specs.Tokens.{TokenValue, AreTokens, octets_at}
use Rattle.field_tokens.specs.Squeezed.{run_octets, octets_of, is_atom_kind}
use Rattle.field_tokens.proofs.SqueezedValues.{value_at, AreKept}
use Rattle.param_grammar.specs.declared.ParamKind.{ParamKind}
use Rattle.param_grammar.specs.declared.ParamKind.TheVariants.{Content, Disposition}
use Rattle.param_grammar.specs.declared.Piece.{Piece}
use Rattle.param_grammar.specs.Names.{NameParts, HasNameParts}
use Rattle.param_grammar.specs.Bodies.{is_quoted, is_main, is_plain_token, are_quoted, are_plain, touches_first, touch, unquoted, inner, value_content, is_first, SaysOctets, IsPiece, solid}

abbrev pub is_octet : ℕ → Bool
is_octet x = nat_lt x 256

abbrev pub is_mark : ℕ → TokenValue → Bool
is_mark mark t = bytes_eq t.octets (mark ∷ [])

abbrev pub is_ascii_name : TokenValue → Bool
is_ascii_name t = is_atom_kind t.kind && list_all is_ascii t.octets

abbrev pub are_main : ParamKind → List TokenValue → Bool
are_main Content [] = false
are_main Content (a ∷ []) = false
are_main Content (a ∷ b ∷ []) = false
are_main Content (a ∷ b ∷ c ∷ []) = is_ascii_name a && (is_mark 47 b && is_ascii_name c)
are_main Content (a ∷ b ∷ c ∷ d ∷ more) = false
are_main Disposition [] = false
are_main Disposition (a ∷ []) = is_ascii_name a
are_main Disposition (a ∷ b ∷ more) = false

pub are_main-at : (kind : ParamKind) (text : List ℕ) (tokens : List Token) → is_main kind text tokens ≡ are_main kind (map (value_at text) tokens)
are_main-at Content text [] = refl
are_main-at Content text (a ∷ []) = refl
are_main-at Content text (a ∷ b ∷ []) = refl
are_main-at Content text (a ∷ b ∷ c ∷ []) = refl
are_main-at Content text (a ∷ b ∷ c ∷ d ∷ more) = refl
are_main-at Disposition text [] = refl
are_main-at Disposition text (a ∷ []) = refl
are_main-at Disposition text (a ∷ b ∷ more) = refl

-- an atom, or one of the specials that an unquoted value may hold
abbrev pub is_plain : TokenValue → Bool
is_plain t = is_atom_kind t.kind || list_any (λ mark. is_mark mark t) (codes "/[]?=")

abbrev pub is_quoted_string : List TokenValue → Bool
is_quoted_string [] = false
is_quoted_string (a ∷ []) = is_quoted a.kind
is_quoted_string (a ∷ b ∷ more) = false

abbrev pub is_unquoted : List TokenValue → Bool
is_unquoted [] = false
is_unquoted (a ∷ more) = list_all is_plain (a ∷ more)

abbrev pub content : List TokenValue → List ℕ
content value = if is_quoted_string value then unquoted (inner (octets_of value)) else octets_of value

pub octets-at : (text : List ℕ) (tokens : List Token) → octets_of (map (value_at text) tokens) ≡ run_octets text tokens
octets-at text tokens = flat_map-map (λ (t : TokenValue). t.octets) (value_at text) tokens

quoted-at : (text : List ℕ) (tokens : List Token) → is_quoted_string (map (value_at text) tokens) ≡ are_quoted tokens
quoted-at text [] = refl
quoted-at text (a ∷ []) = refl
quoted-at text (a ∷ b ∷ more) = refl

pub content-at : (text : List ℕ) (tokens : List Token) → content (map (value_at text) tokens) ≡ value_content text tokens
content-at text tokens = rw (octets-at text tokens, quoted-at text tokens) refl

plain-at : (text : List ℕ) (tokens : List Token) → list_all is_plain (map (value_at text) tokens) ≡ list_all (is_plain_token text) tokens
plain-at text tokens = list_all-map is_plain (value_at text) tokens

-- ---- one parameter

-- the tokens are a parameter, and are this piece
pub record IsCore (core : List TokenValue) (piece : Piece) : Type 0 where
  pub atom : TokenValue
  pub equals : TokenValue
  pub value : List TokenValue
  pub core_is : core ≡ atom ∷ equals ∷ value
  pub is_name : is_atom_kind atom.kind ≡ true
  pub is_equals : is_mark 61 equals ≡ true
  pub is_value : (is_quoted_string value || is_unquoted value) ≡ true
  pub parts : NameParts
  pub has_parts : HasNameParts atom.octets parts
  pub says : SaysOctets parts.is_extended (is_first parts.number) (content value) piece.charset piece.octets
  pub base_is : piece.base ≡ str_to_ascii_lowercase parts.base
  pub number_is : piece.number ≡ parts.number
  pub written_is : piece.written ≡ octets_of core

-- tokens that can stand between semicolons, and may have anything after them
pub record CanStand (core : List TokenValue) : Type 0 where
  pub are_tokens : AreTokens Mime core (octets_of core)
  pub kept : AreKept core
  pub no_semicolon : AllByRecursion (λ (t : TokenValue). is_mark 59 t ≡ false) core
  pub line : list_all is_line_octet (octets_of core) ≡ true
  pub octets : list_all is_octet (octets_of core) ≡ true
  pub some : 0 < length core

pub record HasCore (piece : Piece) : Type 0 where
  pub core : List TokenValue
  pub is_core : IsCore core piece
  pub stands : CanStand core

touch_quoted : (ts : List Token) → are_quoted ts ≡ true → touch ts ≡ true
touch_quoted [] h = refl
touch_quoted (a ∷ []) h = refl
touch_quoted (a ∷ b ∷ more) h = absurd (true≢false (sym h))

-- a value of a text by its octets
pub value_to : (text : List ℕ) (value : List Token) → (are_quoted value || are_plain text value) ≡ true
    → (touch value ≡ true) × ((is_quoted_string (map (value_at text) value) || is_unquoted (map (value_at text) value)) ≡ true)
value_to text [] h = absurd (true≢false (sym h))
value_to text (a ∷ more) h = elim (cases_Bool (are_quoted (a ∷ more))) [
  | inl q ↦ (touch_quoted (a ∷ more) q, rw (quoted-at text (a ∷ more), q) refl)
  | inr n ↦
      let parts = and_parts (list_all (is_plain_token text) (a ∷ more)) (touch (a ∷ more)) (rw (n) at h) in
      (parts.1, rw (quoted-at text (a ∷ more), n) (plain-at text (a ∷ more) ∙ parts.0))
]

pub value_from : (text : List ℕ) (value : List Token) → touch value ≡ true → (is_quoted_string (map (value_at text) value) || is_unquoted (map (value_at text) value)) ≡ true
    → (are_quoted value || are_plain text value) ≡ true
value_from text [] t h = absurd (true≢false (sym h))
value_from text (a ∷ more) t h = elim (cases_Bool (are_quoted (a ∷ more))) [
  | inl q ↦ rw (q) refl
  | inr n ↦ rw (n) (and_from (list_all (is_plain_token text) (a ∷ more)) (touch (a ∷ more)) (sym (plain-at text (a ∷ more)) ∙ (rw (quoted-at text (a ∷ more), n) at h)) t)
]

core_octets : (core : List TokenValue) (atom equals : TokenValue) (value : List TokenValue) → core ≡ atom ∷ equals ∷ value → is_mark 61 equals ≡ true
    → octets_of core ≡ atom.octets ++ 61 ∷ octets_of value
core_octets core atom equals value e is = ap octets_of e ∙ ap (λ r. atom.octets ++ (r ++ octets_of value)) ((bytes_eq-Decides equals.octets (61 ∷ [])).0 is)

-- tokens of a text that are a piece
pub IsPiece-core : (text : List ℕ) (section : List Token) (piece : Piece) → IsPiece text section piece → IsCore (map (value_at text) (solid section)) piece
IsPiece-core text section piece is =
    let p = is.is_parameter in
    let n = is.is_piece in
    let core : List TokenValue = map (value_at text) (solid section) in
    let value : List TokenValue = map (value_at text) is.value in
    let core_is : core ≡ value_at text p.atom ∷ value_at text p.equals ∷ value = ap (map (value_at text)) p.tokens_are in
    record {
      atom = value_at text p.atom;
      equals = value_at text p.equals;
      value = value;
      core_is = core_is;
      is_name = p.is_name;
      is_equals = p.is_equals;
      is_value = (value_to text is.value p.is_value).1;
      parts = n.parts;
      has_parts = subst (λ name. HasNameParts name n.parts) p.name_is n.has_parts;
      says = subst (λ c. SaysOctets n.parts.is_extended (is_first n.parts.number) c piece.charset piece.octets) (sym (content-at text is.value)) n.says;
      base_is = n.base_is;
      number_is = n.number_is;
      written_is = n.written_is ∙ ap (λ name. name ++ 61 ∷ run_octets text is.value) p.name_is ∙ ap (λ r. octets_at text p.atom.span ++ 61 ∷ r) (sym (octets-at text is.value))
          ∙ sym (core_octets core (value_at text p.atom) (value_at text p.equals) value core_is p.is_equals);
    }

-- and the other way round, where the tokens of the value have nothing between them
pub core-IsPiece : (text : List ℕ) (section solids : List Token) (core : List TokenValue) (piece : Piece) → solid section ≡ solids → map (value_at text) solids ≡ core → touch solids ≡ true
    → IsCore core piece → IsPiece text section piece
core-IsPiece text section [] core piece s e t is = let none = e ∙ is.core_is in cc none
core-IsPiece text section (a ∷ []) core piece s e t is = let none = e ∙ is.core_is in cc none
core-IsPiece text section (a ∷ b ∷ v) core piece s e t is =
    let whole : value_at text a ∷ value_at text b ∷ map (value_at text) v ≡ is.atom ∷ is.equals ∷ is.value = e ∙ is.core_is in
    let atom : value_at text a ≡ is.atom = cc whole in
    let equals : value_at text b ≡ is.equals = cc whole in
    let value : map (value_at text) v ≡ is.value = cc whole in
    let name : octets_at text a.span ≡ is.atom.octets = ap (λ (t : TokenValue). t.octets) atom in
    let touches : touch v ≡ true = (and_parts (touches_first b v) (touch v) (and_parts (touches_first a (b ∷ v)) (touch (b ∷ v)) t).1).1 in
    record {
      name = octets_at text a.span;
      value = v;
      is_parameter = record {
        atom = a;
        equals = b;
        tokens_are = s;
        is_name = ap (λ (t : TokenValue). is_atom_kind t.kind) atom ∙ is.is_name;
        is_equals = ap (is_mark 61) equals ∙ is.is_equals;
        is_value = value_from text v touches (ap (λ r. is_quoted_string r || is_unquoted r) value ∙ is.is_value);
        name_is = refl;
      };
      is_piece = record {
        parts = is.parts;
        has_parts = subst (λ n. HasNameParts n is.parts) (sym name) is.has_parts;
        says = subst (λ c. SaysOctets is.parts.is_extended (is_first is.parts.number) c piece.charset piece.octets) (ap content (sym value) ∙ content-at text v) is.says;
        base_is = is.base_is;
        number_is = is.number_is;
        written_is = is.written_is ∙ core_octets core is.atom is.equals is.value is.core_is is.is_equals ∙ ap (λ n. n ++ 61 ∷ octets_of is.value) (sym name)
            ∙ ap (λ r. octets_at text a.span ++ 61 ∷ r) (ap octets_of (sym value) ∙ octets-at text v);
      };
    }
