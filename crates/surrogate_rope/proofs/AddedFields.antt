-- Fields that are put last, one after the other.
use Rattle.std.proofs.Common.{◌≡◌, ◌≢◌, ◌↔◌, ℕ, ◌+◌, ◌<◌, inl, inr, Bool, false, List, [], ◌∷◌, ◌++◌, length, take, get_or, map, refl, sym, ◌∙◌, subst, arith, if◌then◌else◌, append_assoc, IsTrue}
use Rattle.std.specs.List.{AllZip, concat}
use Rattle.std.specs.Str.{bytes_eq}
use Rattle.std.proofs.lemmas.Bool.{cases_Bool}
use Rattle.std.proofs.lemmas.List.{append-nil, map-append, take_more}
use Rattle.std.proofs.lemmas.List.Folds.{concat-append}
use Rattle.std.proofs.lemmas.Slice.Eq.{bytes_eq-Decides}
use Rattle.utf8_fields.specs.declared.block.Field.{Field}
use Rattle.utf8_fields.specs.Block.{raw_of}
use Rattle.field_downgrade.specs.Message.{IsServedField}
use Rattle.mime_tree.specs.declared.entity.Entity.{Entity}
use Rattle.surrogate_rope.specs.Layout.{IsOpenGlobal, InEntity}
use Rattle.surrogate_rope.specs.Ropes.{changed_by}
use Rattle.surrogate_rope.specs.private.Building.{one, Written, AddsField, AddsBlock}

not_same : (raw made : List ℕ) → made ≢ raw → bytes_eq raw made ≡ false
not_same raw made differs = elim (cases_Bool (bytes_eq raw made)) [
  | inl is ↦ absurd (differs (sym ((bytes_eq-Decides raw made).0 is)))
  | inr is ↦ is
]

-- the field itself was put last
pub field_kept : (open_global : Bool) (raw octets : List ℕ) (old : Written) → IsServedField open_global raw raw → octets ≡ old.octets ++ raw
    → AddsField (IsServedField open_global raw) raw old (record { octets = octets; rewritten = old.rewritten; fresh = old.fresh })
field_kept open_global raw octets old served added = record {
  field = raw;
  holds = served;
  octets = added;
  counted = rw ((bytes_eq-Decides raw raw).1 refl) (omega arith);
  sized = rw ((bytes_eq-Decides raw raw).1 refl) (omega arith);
}

-- another field was, and counted
pub field_made : (open_global : Bool) (raw made octets : List ℕ) (count fresh : ℕ) (old : Written) → IsServedField open_global raw made → made ≢ raw → count ≡ old.rewritten + 1 → fresh ≡ old.fresh + length made
    → octets ≡ old.octets ++ made → AddsField (IsServedField open_global raw) raw old (record { octets = octets; rewritten = count; fresh = fresh })
field_made open_global raw made octets count fresh old served differs counted sized added = record {
  field = made;
  holds = served;
  octets = added;
  counted = rw (not_same raw made differs) (omega (arith, counted));
  sized = rw (not_same raw made differs) (omega (arith, sized));
}

-- what those weigh that are others, one more field considered
changed-push : (weigh : List ℕ → ℕ) (raws fields : List (List ℕ)) (raw field : List ℕ) → length raws ≡ length fields
    → changed_by weigh (raws ++ raw ∷ []) (fields ++ field ∷ []) ≡ (if bytes_eq raw field then 0 else weigh field) + changed_by weigh raws fields
changed-push weigh [] [] raw field same = refl
changed-push weigh [] (y ∷ fields) raw field same = absurd (omega (arith, same))
changed-push weigh (x ∷ raws) [] raw field same = absurd (omega (arith, same))
changed-push weigh (x ∷ raws) (y ∷ fields) raw field same = omega (arith, changed-push weigh raws fields raw field (omega (arith, same)))

zip_length : (R : List ℕ → List ℕ → Type 0) (xs ys : List (List ℕ)) → AllZip R xs ys → length xs ≡ length ys
zip_length R [] [] all = refl
zip_length R [] (y ∷ ys) all = absurd all
zip_length R (x ∷ xs) [] all = absurd all
zip_length R (x ∷ xs) (y ∷ ys) all = omega (arith, zip_length R xs ys all.1)

zip_push : (R : List ℕ → List ℕ → Type 0) (xs ys : List (List ℕ)) (x y : List ℕ) → AllZip R xs ys → R x y → AllZip R (xs ++ x ∷ []) (ys ++ y ∷ [])
zip_push R [] [] x y all is = (is, tt)
zip_push R [] (z ∷ ys) x y all is = absurd all
zip_push R (z ∷ xs) [] x y all is = absurd all
zip_push R (z ∷ xs) (w ∷ ys) x y all is = (all.0, zip_push R xs ys x y all.1 is)

pub no_fields : (R : List ℕ → List ℕ → Type 0) (made : Written) → AddsBlock R [] made made
no_fields R made = record { fields = []; each = tt; octets = sym (append-nil made.octets); counted = omega arith; sized = omega arith }

-- one more field of a block
pub field_more : (IsMade : List ℕ → List ℕ → Type 0) (msg : List ℕ) (old middle new : Written) (fields : List Field) (i : ℕ) (d : Field) → i < length fields → AddsBlock IsMade (map (raw_of msg) (take i fields)) old middle
    → AddsField (IsMade (raw_of msg (get_or fields i d))) (raw_of msg (get_or fields i d)) middle new → AddsBlock IsMade (map (raw_of msg) (take (i + 1) fields)) old new
field_more IsMade msg old middle new fields i d inside block more =
    let raw : List ℕ = raw_of msg (get_or fields i d) in
    let before : List (List ℕ) = map (raw_of msg) (take i fields) in
    let raws : map (raw_of msg) (take (i + 1) fields) ≡ before ++ raw ∷ [] = rw (take_more fields i d inside, map-append) refl in
    subst (λ xs. AddsBlock IsMade xs old new) (sym raws)
    (record {
      fields = block.fields ++ more.field ∷ [];
      each = zip_push IsMade before block.fields raw more.field block.each more.holds;
      octets = more.octets ∙ rw (block.octets, concat-append block.fields (more.field ∷ []), append-nil more.field) (append_assoc old.octets (concat block.fields) more.field);
      counted = omega (arith, more.counted, block.counted, changed-push one before block.fields raw more.field (zip_length IsMade before block.fields block.each));
      sized = omega (arith, more.sized, block.sized, changed-push length before block.fields raw more.field (zip_length IsMade before block.fields block.each));
    })

-- a field of the entity
pub in_entity : (msg : List ℕ) (entity : Entity) (open_global : Bool) (raw : List ℕ) (old new : Written) → (IsTrue open_global ↔ IsOpenGlobal msg entity) → AddsField (IsServedField open_global raw) raw old new
    → AddsField (InEntity IsServedField msg entity raw) raw old new
in_entity msg entity open_global raw old new is_open adds = record {
  field = adds.field;
  holds = record { open_global = open_global; is_open = is_open; holds = adds.holds };
  octets = adds.octets;
  counted = adds.counted;
  sized = adds.sized;
}
