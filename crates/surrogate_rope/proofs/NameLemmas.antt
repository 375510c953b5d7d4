-- Names of the fields that tell how an entity is opened, and the names that stand for others.
use Rattle.std.proofs.Common.{◌≡◌, ℕ, true, false, ◌⊎◌, inl, inr, List, ◌++◌, Some, None, codes, refl, sym, ◌∙◌, subst}
use Rattle.std.proofs.lemmas.Bool.{cases_Bool, or_parts}
use Rattle.mail_wire.specs.Octets.{same_name}
use Rattle.field_tokens.specs.Comments.{CommentValue}
use Rattle.param_grammar.specs.declared.ParamKind.TheVariants.{Content}
use Rattle.param_grammar.specs.Joining.{ParamValue}
use Rattle.utf8_fields.specs.Parts.{FieldParts}
use Rattle.field_downgrade.specs.declared.kind.Kind.TheVariants.{Params, Plain}
use Rattle.field_downgrade.specs.Kinds.{kind_named}
use Rattle.field_downgrade.specs.Stands.{Meaning, Parameters, PlainText, PathTo, TypedAddress, Means, SaysAs, IsKeptAside, ByHyphen, ByIdentifiers, ByNullPath, ByPath, ByType, ByMalformed, is_encoding_name, keeps_name}
use Rattle.field_downgrade.proofs.StructuredFields.{KeptKind, KeptType, KeptEncoding, kept_kind, kept_structured, structured_no_hyphen}

pub is_encoding : (name : List ℕ) → same_name name (codes "Content-Transfer-Encoding") ≡ true → is_encoding_name name ≡ true
unfolding is_encoding_name
is_encoding name is = is

-- a field of a kept name means parameters or a plain text
data KeptMeaning (meaning : Meaning) : Type 0 where
  OfType : (main : List ℕ) (params : List ParamValue) (comments : List CommentValue) → meaning ≡ Parameters main params comments → KeptMeaning meaning
  OfEncoding : (said : List ℕ) (comments : List CommentValue) → meaning ≡ PlainText said comments → KeptMeaning meaning

kept_meaning : (name value : List ℕ) (meaning : Meaning) → KeptKind name → SaysAs (kind_named name) name value meaning → KeptMeaning meaning
kept_meaning name value meaning (KeptType kind) says =
    let params : SaysAs (Params Content) name value meaning = subst (λ k. SaysAs k name value meaning) kind says in
    OfType params.0 params.1 params.2 params.3
kept_meaning name value meaning (KeptEncoding kind encoding) says =
    let plain : SaysAs Plain name value meaning = subst (λ k. SaysAs k name value meaning) kind says in
    OfEncoding plain.0 plain.1 plain.2

kept_means : (f : FieldParts) (meaning : Meaning) → keeps_name f.name ≡ true → Means f meaning → KeptMeaning meaning
kept_means f meaning keeps means = kept_meaning f.name means.value meaning (kept_kind f.name keeps) means.says

-- a field that is kept aside has another name than the two
aside_other : (f : FieldParts) → IsKeptAside f → keeps_name f.name ≡ true → ⊥
aside_other f (ByHyphen begins) keeps = structured_no_hyphen f.name (kept_structured f.name keeps) begins
aside_other f (ByIdentifiers kind) keeps = by (kept_kind f.name keeps)
  where
    by : KeptKind f.name → ⊥
    by (KeptType e) = let no = sym kind ∙ e in cc no
    by (KeptEncoding e encoding) = let no = sym kind ∙ e in cc no
aside_other f (ByNullPath comments means) keeps = by (kept_means f (PathTo None comments) keeps means)
  where
    by : KeptMeaning (PathTo None comments) → ⊥
    by (OfType main params more e) = cc e
    by (OfEncoding said more e) = cc e
aside_other f (ByPath address comments means unserved) keeps = by (kept_means f (PathTo (Some address) comments) keeps means)
  where
    by : KeptMeaning (PathTo (Some address) comments) → ⊥
    by (OfType main params more e) = cc e
    by (OfEncoding said more e) = cc e
aside_other f (ByType type text means differs) keeps = by (kept_means f (TypedAddress type text) keeps means)
  where
    by : KeptMeaning (TypedAddress type text) → ⊥
    by (OfType main params more e) = cc e
    by (OfEncoding said more e) = cc e
aside_other f (ByMalformed malformed other) keeps = let no : false ≡ true = sym other ∙ keeps in cc no

-- The name is one of the two.
abbrev pub IsOpening : List ℕ → Type 0
IsOpening name = (name ≡ codes "Content-Type") ⊎ (name ≡ codes "Content-Transfer-Encoding")

other_names : (name : List ℕ) → keeps_name name ≡ false → (same_name name (codes "Content-Type") ≡ false) × (same_name name (codes "Content-Transfer-Encoding") ≡ false)
unfolding keeps_name is_encoding_name
other_names name e = or_parts (same_name name (codes "Content-Type")) (same_name name (codes "Content-Transfer-Encoding")) e

pub aside_differs : (f : FieldParts) (name : List ℕ) → IsOpening name → IsKeptAside f → same_name f.name name ≡ false
aside_differs f name is aside = elim (cases_Bool (keeps_name f.name)) [
  | inl keeps ↦ absurd (aside_other f aside keeps)
  | inr other ↦ elim is [
    | inl type ↦ rw type (other_names f.name other).0
    | inr encoding ↦ rw encoding (other_names f.name other).1
  ]
]

-- a name that stands for another is none of the two
downgraded_names : (name : List ℕ) → (same_name (codes "Downgraded-" ++ name) (codes "Content-Type") ≡ false) × (same_name (codes "Downgraded-" ++ name) (codes "Content-Transfer-Encoding") ≡ false)
unfolding same_name
downgraded_names name = (refl, refl)

pub downgraded_differs : (name opening : List ℕ) → IsOpening opening → same_name (codes "Downgraded-" ++ name) opening ≡ false
downgraded_differs name opening (inl type) = rw type (downgraded_names name).0
downgraded_differs name opening (inr encoding) = rw encoding (downgraded_names name).1
