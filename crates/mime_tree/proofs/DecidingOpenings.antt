-- Fields open an entity in some way.
use Rattle.std.proofs.Common.{◌≡◌, inl, inr, ℕ, List, [], ◌∷◌, Bool, true, false, map, Option, Some, None, refl, sym, ap, ◌∙◌, subst}
use Rattle.std.specs.Prelude.{codes}
use Rattle.std.specs.List.{AllByRecursion}
use Rattle.std.proofs.lemmas.Bool.{cases_Bool, both_ways}
use Rattle.std.proofs.lemmas.List.Elements.{recursion_from_All}
use Rattle.mail_wire.specs.Octets.{is_white, same_name}
use Rattle.mail_wire.specs.Folds.{unfolded}
use Rattle.utf8_fields.specs.declared.block.Field.{Field}
use Rattle.utf8_fields.specs.Parts.{FieldParts, IsField}
use Rattle.utf8_fields.specs.Block.{raw_of}
use Rattle.utf8_fields.proofs.TrimLemmas.{trimmed}
use Rattle.field_tokens.specs.declared.Style.TheVariants.{Mime}
use Rattle.field_tokens.specs.declared.TokenKind.{TokenKind}
use Rattle.field_tokens.specs.declared.TokenKind.TheVariants.{Atom, Quoted, Literal, Special, Gap, Comment}
use Rattle.field_tokens.specs.Tokens.{TokenValue}
use Rattle.field_tokens.specs.Squeezed.{words_of}
use Rattle.field_tokens.proofs.DecideTokens.{decide_tokens}
use Rattle.field_tokens.proofs.TokenLists.{AreTokens-once}
use Rattle.param_grammar.specs.declared.ParamKind.TheVariants.{Content}
use Rattle.param_grammar.proofs.DecideParams.{decide_params}
use Rattle.mime_tree.specs.declared.openings.Opening.{Opening}
use Rattle.mime_tree.specs.declared.openings.Opening.TheVariants.{Nothing}
use Rattle.mime_tree.specs.Openings.{opening_said, OpensByText, opening_by_default, OpensByType, is_identity_name, KeepsOctets, IsIdentity, IsValueWhere, IsFirstValue, OpensByFields, Opens, AreFieldsWithin}
use Rattle.utf8_fields.proofs.DecidingBlocks.{Decided}
use Rattle.mime_tree.proofs.FieldsWithin.{IsFieldWithin}

-- each of the raw octets is a field
abbrev pub AreRawFields : List (List ℕ) → Type 0
AreRawFields raws = AllByRecursion IsField raws

-- Some value or none is the first of a name.
value_where : (is : Bool) (body : List ℕ) (IsLater : Option (List ℕ) → Type 0) → ((v : Option (List ℕ)) × IsLater v) → (v : Option (List ℕ)) × IsValueWhere is body IsLater v
value_where true body IsLater later = let text = trimmed is_white (unfolded body) in (Some text.0, (text.0, text.1, refl))
value_where false body IsLater later = later

first_value : (name : List ℕ) (raws : List (List ℕ)) → AreRawFields raws → (v : Option (List ℕ)) × IsFirstValue name raws v
first_value name [] are = (None, refl)
first_value name (raw ∷ raws) are =
    let f : FieldParts = are.0.parts in
    let value = value_where (same_name f.name name) f.body (IsFirstValue name raws) (first_value name raws are.1) in
    (value.0, (f, are.0.has_parts, value.1))

-- Whether an encoding leaves the octets as they are is decided.
decide_atom : (kind : TokenKind) → Decided (kind ≡ Atom)
decide_atom Atom = inl refl
decide_atom Quoted = inr (λ e. cc e)
decide_atom Literal = inr (λ e. cc e)
decide_atom Special = inr (λ e. cc e)
decide_atom Gap = inr (λ e. cc e)
decide_atom Comment = inr (λ e. cc e)

-- the words are one atom that names such an encoding
record AreIdentity (words : List TokenValue) : Type 0 where
  atom : TokenValue
  words_are : words ≡ atom ∷ []
  kind : atom.kind ≡ Atom
  named : is_identity_name atom.octets ≡ true

one_word : (word atom : TokenValue) → word ∷ [] ≡ atom ∷ [] → atom ≡ word
one_word word atom e = cc e

decide_words : (words : List TokenValue) → Decided (AreIdentity words)
decide_words [] = inr (λ are. let e = are.words_are in cc e)
decide_words (word ∷ next ∷ words) = inr (λ are. let e = are.words_are in cc e)
decide_words (word ∷ []) = elim (decide_atom word.kind) [
  | inr other ↦ inr (λ are. other (subst (λ t. t.kind ≡ Atom) (one_word word are.atom are.words_are) are.kind))
  | inl kind ↦ elim (cases_Bool (is_identity_name word.octets)) [
    | inl named ↦ inl (record { atom = word; words_are = refl; kind = kind; named = named })
    | inr other ↦ inr (λ are. both_ways (is_identity_name word.octets) other (subst (λ t. is_identity_name t.octets ≡ true) (one_word word are.atom are.words_are) are.named))
  ]
]

decide_keeps : (text : List ℕ) → Decided (KeepsOctets text)
decide_keeps text = elim (decide_tokens Mime text) [
  | inr none ↦ inr (λ keeps. none keeps.tokens keeps.has)
  | inl found ↦ elim (decide_words (words_of found.0)) [
    | inl are ↦ inl (record { tokens = found.0; has = found.1; atom = are.atom; words = are.words_are; kind = are.kind; named = are.named })
    | inr other ↦ inr (λ keeps.
        let same : keeps.tokens ≡ found.0 = AreTokens-once Mime text keeps.tokens found.0 keeps.has.are_tokens found.1.are_tokens in
        other (record { atom = keeps.atom; words_are = ap words_of (sym same) ∙ keeps.words; kind = keeps.kind; named = keeps.named }))
  ]
]

decide_identity : (encoding : Option (List ℕ)) → Decided (IsIdentity encoding)
decide_identity None = inl tt
decide_identity (Some text) = decide_keeps text

-- A type opens an entity in some way.
by_text : (text : List ℕ) → (opening : Opening) × OpensByText text opening
by_text text = elim (decide_params Content text) [
  | inl says ↦ (opening_said says.0 says.1, inl (says.0, says.1, says.2, says.3, refl))
  | inr malformed ↦ (Nothing, inr (malformed, refl))
]

by_type : (digest : Bool) (text : Option (List ℕ)) → (opening : Opening) × OpensByType digest text opening
by_type digest None = (opening_by_default digest, refl)
by_type digest (Some text) = by_text text

by_fields : (digest : Bool) (raws : List (List ℕ)) → AreRawFields raws → (opening : Opening) × OpensByFields digest raws opening
by_fields digest raws are =
    let text = first_value (codes "Content-Type") raws are in
    let opening = by_type digest text.0 in
    (opening.0, (text.0, text.1, opening.1))

-- Raw fields open an entity in some way.
pub some_opening : (digest : Bool) (raws : List (List ℕ)) → AreRawFields raws → (opening : Opening) × Opens digest raws opening
some_opening digest raws are =
    let encoding = first_value (codes "Content-Transfer-Encoding") raws are in
    elim (decide_identity encoding.0) [
      | inl is ↦ let fields = by_fields digest raws are in (fields.0, record { encoding = encoding.0; is_encoding = encoding.1; opened = inl (is, fields.1) })
      | inr other ↦ (Nothing, record { encoding = encoding.0; is_encoding = encoding.1; opened = inr (other, refl) })
    ]

-- the raw octets of fields that stand in the octets are fields
pub raws_each : (octets : List ℕ) (fields : List Field) → AllByRecursion (IsFieldWithin octets) fields → AreRawFields (map (raw_of octets) fields)
raws_each octets [] all = tt
raws_each octets (field ∷ fields) all = (all.0.1, raws_each octets fields all.1)

pub raws_within : (octets : List ℕ) (fields : List Field) → AreFieldsWithin octets fields → AreRawFields (map (raw_of octets) fields)
raws_within octets fields are = raws_each octets fields (recursion_from_All (IsFieldWithin octets) fields are)
