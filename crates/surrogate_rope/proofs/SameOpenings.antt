-- The fields of a surrogate open an entity as the message's do.
use Rattle.std.proofs.Common.{◌≡◌, ℕ, List, [], ◌∷◌, Bool, true, false, ◌⊎◌, inl, inr, Option, Some, None, codes, refl, sym, ◌∙◌, subst}
use Rattle.std.specs.List.{AllZip}
use Rattle.mail_wire.specs.Octets.{is_white, same_name}
use Rattle.mail_wire.specs.Folds.{unfolded}
use Rattle.utf8_fields.specs.Parts.{FieldParts, HasParts, HasValue}
use Rattle.mime_tree.specs.declared.entity.Entity.{Entity}
use Rattle.mime_tree.specs.declared.openings.Opening.{Opening}
use Rattle.mime_tree.specs.declared.openings.Opening.TheVariants.{Nothing}
use Rattle.mime_tree.specs.Openings.{IsIdentity, IsValueWhere, IsFirstValue, OpensByText, OpensByType, OpensByFields, Opens}
use Rattle.mime_tree.specs.Tree.{raws_of}
use Rattle.field_downgrade.specs.Message.{IsServedField}
use Rattle.utf8_fields.proofs.TrimLemmas.{trimmed}
use Rattle.surrogate_rope.specs.Layout.{InEntity}
use Rattle.surrogate_rope.proofs.NameLemmas.{IsOpening}
use Rattle.surrogate_rope.proofs.FieldPairs.{Keeps, Pair, pair_of}
use Rattle.surrogate_rope.proofs.SameTexts.{type_alike, encoding_alike}

-- no field of the two lists has the name, or the first ones that have it stand at the same place
data FirstAlike (name : List ℕ) (mades : List (List ℕ)) (value : Option (List ℕ)) : Type 0 where
  Neither : value ≡ None → IsFirstValue name mades None → FirstAlike name mades value
  Both : (text made : List ℕ) (open_global : Bool) (f g : FieldParts) → value ≡ Some text → IsFirstValue name mades (Some made) → same_name f.name name ≡ true
      → HasValue f.body text → HasValue g.body made → Keeps open_global f g → FirstAlike name mades value

-- a field of another name is passed over
passed : (name made : List ℕ) (mades : List (List ℕ)) (value : Option (List ℕ)) (g : FieldParts) → HasParts made g → same_name g.name name ≡ false → IsFirstValue name mades value
    → IsFirstValue name (made ∷ mades) value
passed name made mades value g has other later = (g, has, subst (λ b. IsValueWhere b g.body (IsFirstValue name mades) value) (sym other) later)

-- and one of this name is the first
found : (name made : List ℕ) (mades : List (List ℕ)) (text : List ℕ) (g : FieldParts) → HasParts made g → same_name g.name name ≡ true → HasValue g.body text → IsFirstValue name (made ∷ mades) (Some text)
found name made mades text g has is value = (g, has, subst (λ b. IsValueWhere b g.body (IsFirstValue name mades) (Some text)) (sym is) (text, value, refl))

pass : (name made : List ℕ) (mades : List (List ℕ)) (value : Option (List ℕ)) (g : FieldParts) → HasParts made g → same_name g.name name ≡ false → FirstAlike name mades value
    → FirstAlike name (made ∷ mades) value
pass name made mades value g has other (Neither none first) = Neither none (passed name made mades None g has other first)
pass name made mades value g has other (Both text shown open_global p q e first is has_value made_value keeps) =
    Both text shown open_global p q e (passed name made mades (Some shown) g has other first) is has_value made_value keeps

-- one pair of fields, and the further ones
first_pair : (is : Bool) (name made : List ℕ) (raws mades : List (List ℕ)) (value : Option (List ℕ)) (open_global : Bool) (f : FieldParts) → IsOpening name → Pair open_global made f → same_name f.name name ≡ is
    → IsValueWhere is f.body (IsFirstValue name raws) value → (IsFirstValue name raws value → FirstAlike name mades value) → FirstAlike name (made ∷ mades) value
first_pair true name made raws mades value open_global f opens pair e here later =
    let shown = trimmed is_white (unfolded pair.g.body) in
    Both here.0 shown.0 open_global f pair.g here.2 (found name made mades shown.0 pair.g pair.has (pair.named name opens ∙ e) shown.1) e here.1 shown.1 (pair.keeps name opens e)
first_pair false name made raws mades value open_global f opens pair e here later = pass name made mades value pair.g pair.has (pair.named name opens ∙ e) (later here)

first_alike : (msg : List ℕ) (entity : Entity) (name : List ℕ) (raws mades : List (List ℕ)) (value : Option (List ℕ)) → IsOpening name → AllZip (InEntity IsServedField msg entity) raws mades
    → IsFirstValue name raws value → FirstAlike name mades value
first_alike msg entity name [] [] value opens all first = Neither first refl
first_alike msg entity name [] (made ∷ mades) value opens all first = absurd all
first_alike msg entity name (raw ∷ raws) [] value opens all first = absurd all
first_alike msg entity name (raw ∷ raws) (made ∷ mades) value opens all first =
    let pair = pair_of all.0.open_global raw made first.0 first.1 all.0.holds.stands in
    first_pair (same_name first.0.name name) name made raws mades value all.0.open_global first.0 opens pair refl first.2 (λ later. first_alike msg entity name raws mades value opens all.1 later)

-- the first types open alike
types_open : (digest : Bool) (mades : List (List ℕ)) (value : Option (List ℕ)) (opening : Opening) → FirstAlike (codes "Content-Type") mades value → OpensByType digest value opening
    → OpensByFields digest mades opening
types_open digest mades value opening (Neither none first) opens = (None, first, subst (λ v. OpensByType digest v opening) none opens)
types_open digest mades value opening (Both text made open_global f g e first is has made_has keeps) opens =
    let by_text : OpensByText text opening = subst (λ v. OpensByType digest v opening) e opens in
    (Some made, first, type_alike open_global f g text made opening is has made_has keeps by_text)

-- what the first encoding of the made fields is
record SameEncoding (mades : List (List ℕ)) (value : Option (List ℕ)) : Type 0 where
  encoding : Option (List ℕ)
  is_encoding : IsFirstValue (codes "Content-Transfer-Encoding") mades encoding
  there : IsIdentity value → IsIdentity encoding
  back : IsIdentity encoding → IsIdentity value

same_encoding : (mades : List (List ℕ)) (value : Option (List ℕ)) → FirstAlike (codes "Content-Transfer-Encoding") mades value → SameEncoding mades value
same_encoding mades value (Neither none first) = record { encoding = None; is_encoding = first; there = λ is. tt; back = λ is. subst (λ v. IsIdentity v) (sym none) tt }
same_encoding mades value (Both text made open_global f g e first is has made_has keeps) =
    let alike = encoding_alike open_global f g text made is has made_has keeps in
    record {
      encoding = Some made;
      is_encoding = first;
      there = λ kept. alike.0 (subst (λ v. IsIdentity v) e kept);
      back = λ kept. subst (λ v. IsIdentity v) (sym e) (alike.1 kept);
    }

pub same_openings : (msg : List ℕ) (entity : Entity) (fields : List (List ℕ)) (digest : Bool) (opening : Opening) → AllZip (InEntity IsServedField msg entity) (raws_of msg entity.block) fields
    → Opens digest (raws_of msg entity.block) opening → Opens digest fields opening
same_openings msg entity fields digest opening all opens =
    let raws = raws_of msg entity.block in
    let same = same_encoding fields opens.encoding (first_alike msg entity (codes "Content-Transfer-Encoding") raws fields opens.encoding (inr refl) all opens.is_encoding) in
    record { encoding = same.encoding; is_encoding = same.is_encoding; opened = by same opens.opened }
  where
    by : (same : SameEncoding fields opens.encoding) → (IsIdentity opens.encoding × OpensByFields digest (raws_of msg entity.block) opening) ⊎ ((¬ IsIdentity opens.encoding) × (opening ≡ Nothing))
        → (IsIdentity same.encoding × OpensByFields digest fields opening) ⊎ ((¬ IsIdentity same.encoding) × (opening ≡ Nothing))
    by same (inl x) =
        let first = first_alike msg entity (codes "Content-Type") (raws_of msg entity.block) fields x.1.0 (inl refl) all x.1.1 in
        inl (same.there x.0, types_open digest fields x.1.0 opening first x.1.2)
    by same (inr x) = inr (λ is. x.0 (same.back is), x.1)
