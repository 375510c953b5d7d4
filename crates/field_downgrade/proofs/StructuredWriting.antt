-- The writer of structured fields.
use Rattle.std.specs.Prelude.{IfOk}
use Rattle.std.proofs.Common.{◌≡◌, ℕ, Bool, true, false, inl, inr, List, [], ◌∷◌, ◌++◌, length, take, Result, Ok, Err, refl, sym, ap, ◌∙◌, subst}
use Rattle.std.proofs.lemmas.List.{append_assoc, take_at}
use Rattle.mail_wire.specs.Lines.{crlf}
use Rattle.encoded_words.specs.Folding.{made_body, word_pieces, lines_of, AddsLines}
use Rattle.utf8_fields.specs.Parts.{FieldParts, HasValue, field_octets}
use Rattle.field_downgrade.specs.declared.kind.Kind.TheVariants.{Params, Ids, Path, Typed, Plain}
use Rattle.field_downgrade.specs.declared.kind.Kind.{Kind}
use Rattle.param_grammar.specs.declared.ParamKind.TheVariants.{Content}
use Rattle.field_downgrade.specs.Kinds.{kind_named}
use Rattle.field_downgrade.specs.Layout.{made_of, spaced}
use Rattle.field_downgrade.specs.Stands.{IsMalformed, SaysAs, PiecesAs, IsKeptAside, ByHyphen, ByIdentifiers, ByNullPath, ByPath, ByType, ByMalformed, OfPieces, Encapsulated, KeptMalformed, downgraded_of, keeps_name}
use Rattle.field_downgrade.specs.private.Steps.{AddsOctets, AddsWordField, HasNoPieces, IsOther, MakesField, OfOther, PutsPieces, WritesWhere}
use Rattle.field_downgrade.proofs.KindValues.{SaysNothing, HasNoForm, Nothing, OfIds, OfNullPath, OfPath, OfType, no_pieces_why}
use Rattle.field_downgrade.proofs.StructuredFields.{KeptKind, KeptType, KeptEncoding, kept_kind, kept_structured}
use Rattle.field_downgrade.proofs.OneMeaning.{HasValue-once}

-- where one value of the body says nothing, the field is malformed
pub IsMalformed-nothing : (f : FieldParts) (value : List ℕ) → HasValue f.body value → SaysNothing (kind_named f.name) f.name value → IsMalformed f
IsMalformed-nothing f value has none meaning means = none meaning (subst (λ v. SaysAs (kind_named f.name) f.name v meaning) (HasValue-once f.body means.value value means.has_value has) means.says)

-- a field whose value has no form is kept aside, ...
aside_by : (f : FieldParts) (value : List ℕ) → HasValue f.body value → keeps_name f.name ≡ false → HasNoForm (kind_named f.name) f.name value → IsKeptAside f
aside_by f value has other (Nothing none) = ByMalformed (IsMalformed-nothing f value has none) other
aside_by f value has other (OfIds kind) = ByIdentifiers kind
aside_by f value has other (OfNullPath comments says kind) = ByNullPath comments (record { value = value; has_value = has; says = says })
aside_by f value has other (OfPath address comments says unserved kind) = ByPath address comments (record { value = value; has_value = has; says = says }) unserved
aside_by f value has other (OfType type text says differs kind) = ByType type text (record { value = value; has_value = has; says = says }) differs

pub aside_why : (open_global : Bool) (f : FieldParts) (value : List ℕ) → IsOther f → HasValue f.body value → keeps_name f.name ≡ false → HasNoPieces (kind_named f.name) open_global f.name value → IsKeptAside f
aside_why open_global f value (inr begins) has other none = ByHyphen begins
aside_why open_global f value (inl kind) has other none = aside_by f value has other (no_pieces_why (kind_named f.name) open_global f.name value kind none)

-- ... and where its name is kept, it is malformed
not_kept_kind : (name : List ℕ) (kind : Kind) → KeptKind name → kind_named name ≡ kind → (kind ≡ Params Content → ⊥) → (kind ≡ Plain → ⊥) → ⊥
not_kept_kind name kind (KeptType e) same not_type not_plain = not_type (sym same ∙ e)
not_kept_kind name kind (KeptEncoding e encoding) same not_type not_plain = not_plain (sym same ∙ e)

kept_by : (f : FieldParts) (value : List ℕ) → HasValue f.body value → KeptKind f.name → HasNoForm (kind_named f.name) f.name value → IsMalformed f
kept_by f value has keeps (Nothing none) = IsMalformed-nothing f value has none
kept_by f value has keeps (OfIds kind) = absurd (not_kept_kind f.name Ids keeps kind (λ e. cc e) (λ e. cc e))
kept_by f value has keeps (OfNullPath comments says kind) = absurd (not_kept_kind f.name Path keeps kind (λ e. cc e) (λ e. cc e))
kept_by f value has keeps (OfPath address comments says unserved kind) = absurd (not_kept_kind f.name Path keeps kind (λ e. cc e) (λ e. cc e))
kept_by f value has keeps (OfType type text says differs kind) = absurd (not_kept_kind f.name Typed keeps kind (λ e. cc e) (λ e. cc e))

pub kept_why : (open_global : Bool) (f : FieldParts) (value : List ℕ) → HasValue f.body value → keeps_name f.name ≡ true → HasNoPieces (kind_named f.name) open_global f.name value → IsMalformed f
kept_why open_global f value has keeps none =
    kept_by f value has (kept_kind f.name keeps) (no_pieces_why (kind_named f.name) open_global f.name value (kept_structured f.name keeps) none)

pub Adds-kept : (open_global : Bool) (f : FieldParts) (value old new : List ℕ) → HasNoPieces (kind_named f.name) open_global f.name value → keeps_name f.name ≡ true → HasValue f.body value → AddsWordField (made_of f) value old new
    → AddsOctets (MakesField open_global f) old new
Adds-kept open_global f value old new none keeps has adds = record {
  more = field_octets (made_of f (word_pieces 32 adds.words));
  added = adds.added;
  holds = OfOther (made_of f (word_pieces 32 adds.words)) (inl (kept_structured f.name keeps)) (KeptMalformed value adds.words (kept_why open_global f value has keeps none) keeps has adds.are_words refl) refl;
}

pub Adds-encapsulated : (open_global : Bool) (f : FieldParts) (value old new : List ℕ) → IsOther f → HasNoPieces (kind_named f.name) open_global f.name value → keeps_name f.name ≡ false → HasValue f.body value
    → AddsWordField (downgraded_of f) value old new → AddsOctets (MakesField open_global f) old new
Adds-encapsulated open_global f value old new other none keeps has adds = record {
  more = field_octets (downgraded_of f (word_pieces 32 adds.words));
  added = adds.added;
  holds = OfOther (downgraded_of f (word_pieces 32 adds.words)) other (Encapsulated value adds.words (aside_why open_global f value other has keeps none) has adds.are_words refl) refl;
}

-- pieces on lines are the body of the field
lines_body : (pieces : List (List ℕ)) → lines_of pieces ≡ made_body (spaced pieces)
lines_body [] = refl
lines_body (piece ∷ pieces) = ap (λ r. (crlf ++ 32 ∷ piece) ++ r) (lines_body pieces)

pub puts_pieces : (open_global : Bool) (f : FieldParts) (value old start mid new : List ℕ) → start ≡ (old ++ f.name) ++ 58 ∷ [] → WritesWhere true (PiecesAs (kind_named f.name) open_global f.name value) start mid
    → new ≡ mid ++ f.ending → PutsPieces true open_global f value old new
puts_pieces open_global f value old start mid new start_is adds new_is =
    let body : List ℕ = made_body (spaced adds.pieces) in
    let whole : mid ≡ (old ++ (f.name ++ 58 ∷ [])) ++ body = adds.added ∙ ap (λ r. r ++ lines_of adds.pieces) (start_is ∙ append_assoc old f.name (58 ∷ [])) ∙ ap (λ r. (old ++ (f.name ++ 58 ∷ [])) ++ r) (lines_body adds.pieces) in (
      adds.pieces,
      adds.holds,
      new_is ∙ ap (λ r. r ++ f.ending) whole ∙ append_assoc (old ++ (f.name ++ 58 ∷ [])) body f.ending ∙ append_assoc old (f.name ++ 58 ∷ []) (body ++ f.ending)
          ∙ ap (λ r. old ++ r) (append_assoc f.name (58 ∷ []) (body ++ f.ending)),
    )

pub puts_none : (open_global : Bool) (f : FieldParts) (value old start new : List ℕ) → start ≡ (old ++ f.name) ++ 58 ∷ [] → WritesWhere false (PiecesAs (kind_named f.name) open_global f.name value) start new
    → PutsPieces false open_global f value old new
puts_none open_global f value old start new start_is none = (none.0, none.1 ∙ start_is ∙ append_assoc old f.name (58 ∷ []))

-- what is put last is taken away again
pub cut_old : (old more made cut : List ℕ) → made ≡ old ++ more → cut ≡ take (length old) made → cut ≡ old
cut_old old more made cut made_is cut_is = cut_is ∙ ap (take (length old)) made_is ∙ take_at old more (length old) refl

-- three clauses on a path that is written or not
pub path_written : {E : Type 0} (P : List (List ℕ) → Type 0) (old new : List ℕ) (r : Result Bool E) → IfOk r (λ is. is ≡ true → AddsLines P old new) → IfOk r (λ is. is ≡ false → (pieces : List (List ℕ)) → ¬ P pieces)
    → IfOk r (λ is. is ≡ false → new ≡ old) → IfOk r (λ wrote. WritesWhere wrote P old new)
path_written P old new (Ok true) some none same = some refl
path_written P old new (Ok false) some none same = (none refl, same refl)
path_written P old new (Err e) some none same = tt

pub Adds-pieces : (open_global : Bool) (f : FieldParts) (value old new : List ℕ) (pieces : List (List ℕ)) → IsOther f → HasValue f.body value → PiecesAs (kind_named f.name) open_global f.name value pieces
    → new ≡ old ++ field_octets (made_of f (spaced pieces)) → AddsOctets (MakesField open_global f) old new
Adds-pieces open_global f value old new pieces other has values new_is = record {
  more = field_octets (made_of f (spaced pieces));
  added = new_is;
  holds = OfOther (made_of f (spaced pieces)) other (OfPieces value pieces has values refl) refl;
}
