-- Pieces at their places.
use Rattle.std.proofs.Common.{◌≡◌, ℕ, zero, suc, ◌<◌, ◌==◌, ◌&&◌, Bool, true, false, List, [], ◌∷◌, ◌++◌, length, take, drop, get_or, Option, Some, None, refl, sym, ap, ◌∙◌, subst, arith, inl, inr}
use Rattle.std.specs.Prelude.{is_some}
use Rattle.std.specs.Borrow.{Bor}
use Rattle.std.specs.List.{list_all, slice_get}
use Rattle.std.specs.Option.{SomeIff, option_copied, option_map_or}
use Rattle.std.specs.Str.{str_to_ascii_lowercase}
use Rattle.std.proofs.lemmas.Bool.{cases_Bool, true≢false}
use Rattle.std.proofs.lemmas.Bool.Decides.{nat_tests}
use Rattle.std.proofs.lemmas.List.Folds.{list_all-append}
use Rattle.mail_wire.specs.Octets.{is_ascii}
use Rattle.mail_wire.specs.declared.values.Span.{Span}
use Rattle.field_tokens.specs.declared.Token.{Token}
use Rattle.field_tokens.specs.Squeezed.{is_atom_kind}
use Rattle.field_tokens.specs.Tokens.{octets_at}
use Rattle.param_grammar.specs.declared.Piece.{Piece}
use Rattle.param_grammar.specs.declared.places.Place.{Place}
use Rattle.param_grammar.specs.Joining.{decimal_value}
use Rattle.param_grammar.specs.Names.{NameParts, HasNameParts, number_suffix, star_suffix}
use Rattle.param_grammar.specs.Bodies.{is_mark_at, solid, is_first, SaysOctets, value_content, IsParameterOf, IsPieceOf, IsPiece}
use Rattle.param_grammar.specs.Places.{span_of, base_span, IsPlaced, ArePlaced, piece_in}
use Rattle.param_grammar.specs.private.Placing.{is_value, content_by, SaysSome, SaysThese, IsPieceBy, IsSides, IsValueAt}
use Rattle.param_grammar.specs.private.Putting.{PlacesPiece}
use Rattle.param_grammar.proofs.BodyLemmas.{SaysOctets-once, piece_made, piece_moved}
use Rattle.param_grammar.proofs.NameLemmas.{HasNameParts-once}
use Rattle.param_grammar.proofs.SectionLemmas.{ReadsPieces, ReadsPieces-push}
use Rattle.param_grammar.specs.Bodies.{SplitsSection}

-- ---- names and values

pub IsPieceBy-once : (name : List ℕ) (quoted : Bool) (value : List ℕ) (p q : Piece) → IsPieceBy name quoted value p → IsPieceBy name quoted value q → p ≡ q
IsPieceBy-once name quoted value p q a b =
    let parts = HasNameParts-once name a.parts b.parts a.has_parts b.has_parts in
    let moved : SaysOctets b.parts.is_extended (is_first b.parts.number) (content_by quoted value) p.charset p.octets =
    subst (λ (n : NameParts). SaysOctets n.is_extended (is_first n.number) (content_by quoted value) p.charset p.octets) parts a.says in
    let says = SaysOctets-once b.parts.is_extended (is_first b.parts.number) (content_by quoted value) p.charset p.octets q.charset q.octets moved b.says in
    piece_made p.base q.base p.number q.number p.charset q.charset p.octets q.octets p.written q.written
    (a.base_is ∙ ap (λ (n : NameParts). str_to_ascii_lowercase n.base) parts ∙ sym b.base_is) (a.number_is ∙ ap (λ (n : NameParts). n.number) parts ∙ sym b.number_is) says.0 says.1
    (a.written_is ∙ sym b.written_is)

pub not-IsPieceBy-octets : (name : List ℕ) (quoted : Bool) (value : List ℕ) (p : NameParts) → HasNameParts name p
    → ((charset octets : List ℕ) → SaysOctets p.is_extended (is_first p.number) (content_by quoted value) charset octets → ⊥) → (piece : Piece) → IsPieceBy name quoted value piece → ⊥
not-IsPieceBy-octets name quoted value p has none piece is =
    let parts = HasNameParts-once name is.parts p is.has_parts has in
    none piece.charset piece.octets (subst (λ (n : NameParts). SaysOctets n.is_extended (is_first n.number) (content_by quoted value) piece.charset piece.octets) parts is.says)

pub says_as : (name : List ℕ) (quoted : Bool) (value : List ℕ) (p : NameParts) (charset octets : List ℕ) → HasNameParts name p
    → SaysOctets p.is_extended (is_first p.number) (content_by quoted value) charset octets → SaysThese name quoted value charset octets
says_as name quoted value p charset octets has says piece is =
    let parts = HasNameParts-once name is.parts p is.has_parts has in
    let moved : SaysOctets p.is_extended (is_first p.number) (content_by quoted value) piece.charset piece.octets =
    subst (λ (n : NameParts). SaysOctets n.is_extended (is_first n.number) (content_by quoted value) piece.charset piece.octets) parts is.says in
    SaysOctets-once p.is_extended (is_first p.number) (content_by quoted value) charset octets piece.charset piece.octets says moved

-- what is not extended says its octets
pub says_plain : (extended first : Bool) (content : List ℕ) → extended ≡ false → SaysSome extended first content
says_plain false first content e = ([], content, (refl, refl))
says_plain true first content e = cc e

pub says_some : (extended first : Bool) (content charset octets : List ℕ) → extended ≡ true → SaysOctets true first content charset octets → SaysSome extended first content
says_some true first content charset octets e says = (charset, octets, says)
says_some false first content charset octets e says = cc e

pub says_none : (extended first : Bool) (content : List ℕ) → extended ≡ true → ((charset octets : List ℕ) → SaysOctets true first content charset octets → ⊥) → SaysSome extended first content → ⊥
says_none true first content e none says = none says.0 says.1 says.2
says_none false first content e none says = cc e

same_content : (text : List ℕ) (value : List Token) (span : Span) (quoted : Bool) → IsValueAt text value span quoted → value_content text value ≡ content_by quoted (octets_at text span)
same_content text value span quoted at = rw (sym at.quoted_is, at.octets) refl

-- a piece by its octets is one by its tokens, and the other way round
pub piece_by_tokens : (text name : List ℕ) (value : List Token) (span : Span) (quoted : Bool) (piece : Piece) → IsValueAt text value span quoted → IsPieceBy name quoted (octets_at text span) piece
    → IsPieceOf text name value piece
piece_by_tokens text name value span quoted piece at is = record {
  parts = is.parts;
  has_parts = is.has_parts;
  says = subst (λ c. SaysOctets is.parts.is_extended (is_first is.parts.number) c piece.charset piece.octets) (sym (same_content text value span quoted at)) is.says;
  base_is = is.base_is;
  number_is = is.number_is;
  written_is = is.written_is ∙ ap (λ o. name ++ 61 ∷ o) (sym at.octets);
}

pub piece_by_octets : (text name : List ℕ) (value : List Token) (span : Span) (quoted : Bool) (piece : Piece) → IsValueAt text value span quoted → IsPieceOf text name value piece
    → IsPieceBy name quoted (octets_at text span) piece
piece_by_octets text name value span quoted piece at is = record {
  parts = is.parts;
  has_parts = is.has_parts;
  says = subst (λ c. SaysOctets is.parts.is_extended (is_first is.parts.number) c piece.charset piece.octets) (same_content text value span quoted at) is.says;
  base_is = is.base_is;
  number_is = is.number_is;
  written_is = is.written_is ∙ ap (λ o. name ++ 61 ∷ o) at.octets;
}

-- ---- sections that are no parameter

pub no_name : (text : List ℕ) (tokens : List Token) → tokens ≡ [] → (name : List ℕ) (value : List Token) → IsParameterOf text tokens name value → ⊥
no_name text tokens none name value is = let both = sym none ∙ is.tokens_are in absurd cc

pub no_equals : (text : List ℕ) (tokens following : List Token) (atom : Token) → tokens ≡ atom ∷ following → following ≡ [] → (name : List ℕ) (value : List Token) → IsParameterOf text tokens name value → ⊥
no_equals text tokens following atom cut none name value is = let both = sym (cut ∙ ap (λ r. atom ∷ r) none) ∙ is.tokens_are in absurd cc

-- the same parameter
parameter_is : (text : List ℕ) (tokens following value : List Token) (atom equals : Token) → tokens ≡ atom ∷ following → following ≡ equals ∷ value → (name : List ℕ) (other : List Token)
    → (is : IsParameterOf text tokens name other) → (is.atom ≡ atom) × (is.equals ≡ equals) × (other ≡ value)
parameter_is text tokens following value atom equals cut parted name other is =
    let both : is.atom ∷ is.equals ∷ other ≡ atom ∷ equals ∷ value = sym is.tokens_are ∙ cut ∙ ap (λ r. atom ∷ r) parted in
    let a : is.atom ≡ atom = cc both in
    let e : is.equals ≡ equals = cc both in
    let v : other ≡ value = cc both in
    (a, e, v)

and_of : (a b : Bool) → a ≡ true → b ≡ true → (a && b) ≡ true
and_of true b e f = f
and_of false b e f = absurd (true≢false (sym e))

pub not_named : (text : List ℕ) (tokens following value : List Token) (atom equals : Token) → tokens ≡ atom ∷ following → following ≡ equals ∷ value
    → (is_atom_kind atom.kind && is_mark_at text 61 equals) ≡ false → (name : List ℕ) (other : List Token) → IsParameterOf text tokens name other → ⊥
not_named text tokens following value atom equals cut parted isnt name other is =
    let same = parameter_is text tokens following value atom equals cut parted name other is in
    true≢false (sym (and_of _ _ (ap (λ (t : Token). is_atom_kind t.kind) (sym same.0) ∙ is.is_name) (ap (is_mark_at text 61) (sym same.1) ∙ is.is_equals)) ∙ isnt)

pub no_value : (text : List ℕ) (tokens following value : List Token) (atom equals : Token) → tokens ≡ atom ∷ following → following ≡ equals ∷ value → is_value text value ≡ false
    → (name : List ℕ) (other : List Token) → IsParameterOf text tokens name other → ⊥
no_value text tokens following value atom equals cut parted none name other is =
    let same = parameter_is text tokens following value atom equals cut parted name other is in
    true≢false (sym (ap (is_value text) (sym same.2) ∙ is.is_value) ∙ none)

both_of : (a b : Bool) → (a && b) ≡ true → (a ≡ true) × (b ≡ true)
both_of true b e = (refl, e)
both_of false b e = absurd (true≢false (sym e))

pub IsSides-found : (text : List ℕ) (section : List Token) (following value : List Token) (atom equals : Token) (span : Span) (quoted : Bool) → solid section ≡ atom ∷ following → following ≡ equals ∷ value
    → (is_atom_kind atom.kind && is_mark_at text 61 equals) ≡ true → IsValueAt text value span quoted → IsSides text section atom.span span quoted
IsSides-found text section following value atom equals span quoted cut parted is at =
    let named = both_of (is_atom_kind atom.kind) (is_mark_at text 61 equals) is in
    record {
      tokens = value;
      is_parameter = record { atom = atom; equals = equals; tokens_are = cut ∙ ap (λ r. atom ∷ r) parted; is_name = named.0; is_equals = named.1; is_value = at.is; name_is = refl };
      value_at = at;
    }

pub not-IsPiece-sides : (text : List ℕ) (section : List Token) → ((name : List ℕ) (value : List Token) → IsParameterOf text (solid section) name value → ⊥) → (piece : Piece) → IsPiece text section piece → ⊥
not-IsPiece-sides text section none piece is = none is.name is.value is.is_parameter

-- a piece of a section is one of its sides
by_sides : (text : List ℕ) (section : List Token) (name value : Span) (quoted : Bool) (piece : Piece) → IsSides text section name value quoted → IsPiece text section piece
    → IsPieceBy (octets_at text name) quoted (octets_at text value) piece
by_sides text section name value quoted piece sides is =
    piece_by_octets text (octets_at text name) sides.tokens value quoted piece sides.value_at
    (piece_moved text section (octets_at text name) sides.tokens piece sides.is_parameter is)

pub not-IsPiece-name : (text : List ℕ) (section : List Token) (name value : Span) (quoted : Bool) → IsSides text section name value quoted → ((p : NameParts) → HasNameParts (octets_at text name) p → ⊥)
    → (piece : Piece) → IsPiece text section piece → ⊥
not-IsPiece-name text section name value quoted sides none piece is = let by = by_sides text section name value quoted piece sides is in none by.parts by.has_parts

pub not-IsPiece-octets : (text : List ℕ) (section : List Token) (name value : Span) (quoted : Bool) (p : NameParts) → IsSides text section name value quoted → HasNameParts (octets_at text name) p
    → (SaysSome p.is_extended (is_first p.number) (content_by quoted (octets_at text value)) → ⊥) → (piece : Piece) → IsPiece text section piece → ⊥
not-IsPiece-octets text section name value quoted p sides has none piece is =
    not-IsPieceBy-octets (octets_at text name) quoted (octets_at text value) p has (λ charset octets says. none (charset, octets, says)) piece (by_sides text section name value quoted piece sides is)

-- ---- places

-- what begins a front begins the whole
front_of : (xs : List ℕ) (n : ℕ) (base more : List ℕ) → take n xs ≡ base ++ more → take (length base) xs ≡ base
front_of xs n [] more e = refl
front_of xs zero (b ∷ base) more e = absurd cc
front_of [] (suc n) (b ∷ base) more e = absurd cc
front_of (x ∷ xs) (suc n) (b ∷ base) more e =
    let head : x ≡ b = cc e in
    let tail : take n xs ≡ base ++ more = cc e in
    let rest = front_of xs n base more tail in
    cc (head, rest)

pub IsPlaced-made : (text : List ℕ) (section : List Token) (name value : Span) (quoted : Bool) (p : NameParts) (place : Place) → IsSides text section name value quoted → HasNameParts (octets_at text name) p
    → SaysSome p.is_extended (is_first p.number) (content_by quoted (octets_at text value)) → span_of place.name ≡ name → span_of place.value ≡ value → place.is_quoted ≡ quoted
    → place.base_len ≡ length p.base → place.is_numbered ≡ is_some p.number → place.is_ascii ≡ (list_all is_ascii (octets_at text name) && list_all is_ascii (octets_at text value))
    → (piece : Piece) × IsPiece text section piece × IsPlaced text place piece
IsPlaced-made text section name value quoted p place sides has says name_is value_is quoted_is base_is numbered_is ascii_is =
    let piece : Piece = record { base = str_to_ascii_lowercase p.base; number = p.number; charset = says.0; octets = says.1; written = octets_at text name ++ 61 ∷ octets_at text value } in
    let by : IsPieceBy (octets_at text name) quoted (octets_at text value) piece = record { parts = p; has_parts = has; says = says.2; base_is = refl; number_is = refl; written_is = refl } in
    let at : name.at ≡ place.name.at = ap (λ (s : Span). s.at) (sym name_is) in
    let base : octets_at text (base_span place) ≡ p.base
    = ap (λ n. take n (drop place.name.at text)) base_is ∙ ap (λ a. take (length p.base) (drop a text)) (sym at)
    ∙ front_of (drop name.at text) name.len p.base (number_suffix p.number ++ star_suffix p.is_extended) has.spelled in (
      piece,
      record {
        name = octets_at text name;
        value = sides.tokens;
        is_parameter = sides.is_parameter;
        is_piece = piece_by_tokens text (octets_at text name) sides.tokens value quoted piece sides.value_at by;
      },
      record {
        by_octets = subst (λ s. IsPieceBy (octets_at text s) place.is_quoted (octets_at text (span_of place.value)) piece) (sym name_is)
            (subst (λ s. IsPieceBy (octets_at text name) place.is_quoted (octets_at text s) piece) (sym value_is)
            (subst (λ q. IsPieceBy (octets_at text name) q (octets_at text value) piece) (sym quoted_is) by));
        base_is = ap str_to_ascii_lowercase (sym base);
        numbered_is = sym numbered_is;
        ascii_is = list_all-append is_ascii (octets_at text name) (61 ∷ octets_at text value) ∙ sym ascii_is;
      },
    )

pub IsPlaced-once : (text : List ℕ) (place : Place) (p q : Piece) → IsPlaced text place p → IsPlaced text place q → p ≡ q
IsPlaced-once text place p q a b = IsPieceBy-once (octets_at text (span_of place.name)) place.is_quoted (octets_at text (span_of place.value)) p q a.by_octets b.by_octets

pub placed_by : (text : List ℕ) (place : Place) (piece : Piece) (name value : List ℕ) → name ≡ octets_at text (span_of place.name) → value ≡ octets_at text (span_of place.value) → IsPlaced text place piece
    → IsPieceBy name place.is_quoted value piece
placed_by text place piece name value e f is = subst (λ n. IsPieceBy n place.is_quoted value piece) (sym e) (subst (λ v. IsPieceBy (octets_at text (span_of place.name)) place.is_quoted v piece) (sym f) is.by_octets)

pub number_of_placed : (text : List ℕ) (place : Place) (piece : Piece) (name : List ℕ) (p : NameParts) → name ≡ octets_at text (span_of place.name) → HasNameParts name p → IsPlaced text place piece
    → p.number ≡ piece.number
number_of_placed text place piece name p e has is =
    let by = is.by_octets in
    let same = HasNameParts-once (octets_at text (span_of place.name)) p by.parts (subst (λ n. HasNameParts n p) e has) by.has_parts in
    ap (λ (n : NameParts). n.number) same ∙ sym by.number_is

pub some_copied : (o : Option (Bor (List ℕ))) → is_some o ≡ is_some (option_copied o)
some_copied None = refl
some_copied (Some r) = refl

pub ArePlaced-push : (text : List ℕ) (places : List Place) (pieces : List Piece) (place : Place) (piece : Piece) → ArePlaced text places pieces → IsPlaced text place piece
    → ArePlaced text (places ++ place ∷ []) (pieces ++ piece ∷ [])
ArePlaced-push text [] pieces place piece are is = (piece, [], is, refl, ap (λ ps. ps ++ piece ∷ []) are)
ArePlaced-push text (first ∷ places) pieces place piece are is =
    (are.0, are.1 ++ piece ∷ [], are.2, ArePlaced-push text places are.1 place piece are.3 is, ap (λ ps. ps ++ piece ∷ []) are.4)

pub ArePlaced-length : (text : List ℕ) (places : List Place) (pieces : List Piece) → ArePlaced text places pieces → length pieces ≡ length places
ArePlaced-length text [] pieces are = ap length are
ArePlaced-length text (place ∷ places) pieces are = ap length are.4 ∙ ap suc (ArePlaced-length text places are.1 are.3)

pub ArePlaced-at : (text : List ℕ) (places : List Place) (pieces : List Piece) (i : ℕ) (d : Place) → ArePlaced text places pieces → i < length places → IsPlaced text (get_or places i d) (piece_in pieces i)
ArePlaced-at text [] pieces i d are l = absurd (omega (arith, l))
ArePlaced-at text (place ∷ places) pieces zero d are l = subst (λ ps. IsPlaced text place (piece_in ps 0)) (sym are.4) are.2
ArePlaced-at text (place ∷ places) pieces (suc i) d are l =
    subst (λ ps. IsPlaced text (get_or places i d) (piece_in ps (suc i))) (sym are.4) (ArePlaced-at text places are.1 i d are.3 (omega (arith, l)))

pub placed_get : (text : List ℕ) (places : List Place) (pieces : List Piece) (i : ℕ) (place : Place) → ArePlaced text places pieces → slice_get places i ≡ Some place → IsPlaced text place (piece_in pieces i)
placed_get text [] pieces i place are e = absurd cc
placed_get text (first ∷ places) pieces zero place are e =
    let same : first ≡ place = cc e in
    subst (λ p. IsPlaced text p (piece_in pieces 0)) same (subst (λ ps. IsPlaced text first (piece_in ps 0)) (sym are.4) are.2)
placed_get text (first ∷ places) pieces (suc i) place are e = subst (λ ps. IsPlaced text place (piece_in ps (suc i))) (sym are.4) (placed_get text places are.1 i place are.3 e)

-- the number of a piece below a bound
pub number_found : (o : Option (List ℕ)) (digits : List ℕ) (r : Option ℕ) (n bound : ℕ) → o ≡ Some digits → SomeIff r (decimal_value digits < bound) (decimal_value digits) → n < bound
    → option_map_or (λ d. decimal_value d == n) o false ≡ option_map_or (λ number. number == n) r false
number_found o digits (Some m) n bound e iff small = ap (λ p. option_map_or (λ d. decimal_value d == n) p false) e ∙ ap (λ k. k == n) (sym iff.1)
number_found o digits None n bound e iff small =
    let other : (decimal_value digits == n) ≡ false = elim (cases_Bool (decimal_value digits == n)) [
      | inl same ↦ absurd (iff (let is : decimal_value digits ≡ n = grind (arith, nat_tests, same) in omega (arith, is, small)))
      | inr isnt ↦ isnt
    ] in
    ap (λ p. option_map_or (λ d. decimal_value d == n) p false) e ∙ other

pub number_none : (o : Option (List ℕ)) (n : ℕ) → o ≡ None → option_map_or (λ d. decimal_value d == n) o false ≡ false
number_none o n e = ap (λ p. option_map_or (λ d. decimal_value d == n) p false) e

-- ---- the places of sections

pub record PlacesGo (text : List ℕ) (tokens : List Token) (places : List Place) (rest : List Token) : Type 0 where
  pub pieces : List Piece
  pub reads : ReadsPieces text tokens pieces rest
  pub are : ArePlaced text places pieces

pub PlacesGo-push : (text : List ℕ) (tokens rest section following : List Token) (old new : List Place) → PlacesGo text tokens old rest → SplitsSection text rest section following → PlacesPiece text section old new
    → PlacesGo text tokens new following
PlacesGo-push text tokens rest section following old new go s (inl blank) = record {
  pieces = go.pieces;
  reads = ReadsPieces-push text tokens rest section following go.pieces go.pieces go.reads s (inl (blank.0, refl));
  are = subst (λ ps. ArePlaced text ps go.pieces) (sym blank.1) go.are;
}
PlacesGo-push text tokens rest section following old new go s (inr full) = record {
  pieces = go.pieces ++ full.1 ∷ [];
  reads = ReadsPieces-push text tokens rest section following go.pieces (go.pieces ++ full.1 ∷ []) go.reads s (inr (full.1, full.2, full.3, refl));
  are = subst (λ ps. ArePlaced text ps (go.pieces ++ full.1 ∷ [])) (sym full.5) (ArePlaced-push text old go.pieces full.0 full.1 go.are full.4);
}
