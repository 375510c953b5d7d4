-- Every structured field that can be rewritten has a layout.
use Rattle.std.proofs.Common.{◌≡◌, ◌≢◌, ℕ, Bool, ◌⊎◌, inl, inr, eqb, List, [], ◌∷◌, refl}
use Rattle.std.proofs.lemmas.Bool.{both_ways, cases_Bool, eqb-true, eq-eqb}
use Rattle.mail_wire.specs.Octets.{is_white}
use Rattle.mail_wire.specs.Folds.{unfolded}
use Rattle.encoded_words.specs.Folding.{word_pieces}
use Rattle.encoded_words.proofs.AllChunks.{AreWordsOf-some}
use Rattle.utf8_fields.specs.Parts.{FieldParts}
use Rattle.field_downgrade.specs.declared.kind.Kind.{Kind}
use Rattle.field_downgrade.specs.declared.kind.Kind.TheVariants.{Unstructured, Addresses, Phrases, Params, Ids, Path, Typed, Trace, Plain}
use Rattle.field_downgrade.specs.Kinds.{kind_named}
use Rattle.field_downgrade.specs.Layout.{made_of, spaced}
use Rattle.field_downgrade.specs.private.Steps.{HasNoPieces, IsOther, KeepsWords}
use Rattle.field_downgrade.specs.Stands.{BeginsHyphen, IsHighField, ByHyphen, HasHighLayout, OfPieces, Encapsulated, KeptMalformed, downgraded_of, keeps_name}
use Rattle.utf8_fields.proofs.TrimLemmas.{trimmed}
use Rattle.field_downgrade.proofs.KindValues.{decide_pieces, no_form_no_pieces}
use Rattle.field_downgrade.proofs.StructuredFields.{value_utf8}
use Rattle.field_downgrade.proofs.StructuredWriting.{aside_why, kept_why}

-- the layout of a structured field, or of one whose name begins with `-`
pub structured_some : (open_global : Bool) (octets : List ℕ) (f : FieldParts) → IsHighField octets f → IsOther f → (g : FieldParts) × HasHighLayout open_global f g
structured_some open_global octets f high other =
    let value = trimmed is_white (unfolded f.body) in
    let words = AreWordsOf-some value.0 (value_utf8 octets f value.0 high value.1) in
    elim other [
      | inr begins ↦ (downgraded_of f (word_pieces 32 words.0), Encapsulated value.0 words.0 (ByHyphen begins) value.1 words.1 refl)
      | inl kind ↦ elim (decide_pieces (kind_named f.name) open_global f.name value.0 kind) [
        | inl pieces ↦ (made_of f (spaced pieces.0), OfPieces value.0 pieces.0 value.1 pieces.1 refl)
        | inr why ↦
            let none : HasNoPieces (kind_named f.name) open_global f.name value.0 = λ pieces p. no_form_no_pieces (kind_named f.name) open_global f.name value.0 pieces why p in
            elim (cases_Bool (keeps_name f.name)) [
              | inl keeps ↦ (made_of f (word_pieces 32 words.0), KeptMalformed value.0 words.0 (kept_why open_global f value.0 value.1 keeps none) keeps value.1 words.1 refl)
              | inr gives ↦ (downgraded_of f (word_pieces 32 words.0), Encapsulated value.0 words.0 (aside_why open_global f value.0 (inl kind) value.1 gives none) value.1 words.1 refl)
            ]
      ]
    ]

-- the words of a field are rewritten, or it is another one
decide_kind : (kind : Kind) → (kind ≡ Unstructured) ⊎ (kind ≢ Unstructured)
decide_kind Unstructured = inl refl
decide_kind Addresses = inr (λ e. cc e)
decide_kind Phrases = inr (λ e. cc e)
decide_kind (Params kind) = inr (λ e. cc e)
decide_kind Ids = inr (λ e. cc e)
decide_kind Path = inr (λ e. cc e)
decide_kind Typed = inr (λ e. cc e)
decide_kind Trace = inr (λ e. cc e)
decide_kind Plain = inr (λ e. cc e)

decide_hyphen : (name : List ℕ) → BeginsHyphen name ⊎ ¬ (BeginsHyphen name)
decide_hyphen [] = inr (λ h. h)
decide_hyphen (x ∷ name) = elim (cases_Bool (eqb x 45)) [ inl t ↦ inl (eqb-true x 45 t) | inr f ↦ inr (λ e. both_ways (eqb x 45) f (eq-eqb x 45 e)) ]

pub decide_words : (f : FieldParts) → KeepsWords f.name ⊎ IsOther f
decide_words f = elim (decide_kind (kind_named f.name)) [
  | inr other ↦ inr (inl other)
  | inl kind ↦ elim (decide_hyphen f.name) [ inl begins ↦ inr (inr begins) | inr none ↦ inl (record { kind = kind; no_hyphen = none }) ]
]
