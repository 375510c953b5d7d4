-- A made field and the one that it stands for, where its name tells how an entity is opened.
use Rattle.std.proofs.Common.{◌≡◌, ℕ, Bool, true, false, List, refl, sym, ap, ◌∙◌, subst}
use Rattle.mail_wire.specs.Octets.{same_name}
use Rattle.utf8_fields.specs.Parts.{FieldParts, HasParts}
use Rattle.utf8_fields.proofs.OneField.{HasParts-once}
use Rattle.field_downgrade.specs.Stands.{Stands, Same, Renamed, Ascii, StandsSo, SameMeaning, UnderOtherName, StillMalformed, IsSameMeaning, IsKeptMalformed}
use Rattle.surrogate_rope.proofs.NameLemmas.{IsOpening, aside_differs, downgraded_differs}

-- how a field that keeps its name stands for the other one
pub data Keeps (open_global : Bool) (f g : FieldParts) : Type 0 where
  KeepsParts : g ≡ f → Keeps open_global f g
  KeepsMeaning : IsSameMeaning open_global f g → Keeps open_global f g
  KeepsFault : IsKeptMalformed f g → Keeps open_global f g

-- the parts of the made field
pub record Pair (open_global : Bool) (made : List ℕ) (f : FieldParts) : Type 0 where
  pub g : FieldParts
  pub has : HasParts made g
  pub named : (name : List ℕ) → IsOpening name → same_name g.name name ≡ same_name f.name name
  pub keeps : (name : List ℕ) → IsOpening name → same_name f.name name ≡ true → Keeps open_global f g

alike : (f g : FieldParts) → g.name ≡ f.name → (name : List ℕ) → IsOpening name → same_name g.name name ≡ same_name f.name name
alike f g e name is = ap (λ n. same_name n name) e

pair_so : (open_global : Bool) (made : List ℕ) (f g : FieldParts) → HasParts made g → StandsSo open_global f g → Pair open_global made f
pair_so open_global made f g has (SameMeaning same) = record { g = g; has = has; named = alike f g same.name; keeps = λ name is e. KeepsMeaning same }
pair_so open_global made f g has (StillMalformed kept) = record { g = g; has = has; named = alike f g kept.name; keeps = λ name is e. KeepsFault kept }
pair_so open_global made f g has (UnderOtherName e) = record {
  g = g;
  has = has;
  named = λ name is. ap (λ n. same_name n name) e.name ∙ downgraded_differs f.name name is ∙ sym (aside_differs f name is e.aside);
  keeps = λ name is same. let no : false ≡ true = sym (aside_differs f name is e.aside) ∙ same in cc no;
}

pub pair_of : (open_global : Bool) (raw made : List ℕ) (f : FieldParts) → HasParts raw f → Stands raw made open_global → Pair open_global made f
pair_of open_global raw made f has (Same ascii unchanged e) = record {
  g = f;
  has = subst (λ xs. HasParts xs f) (sym e) has;
  named = λ name is. refl;
  keeps = λ name is same. KeepsParts refl;
}
pair_of open_global raw made f has (Renamed p g opened is changed made_is same) =
    pair_so open_global made f g made_is.is_field (SameMeaning (subst (λ (q : FieldParts). IsSameMeaning open_global q g) (HasParts-once raw p f is.is_field has) same))
pair_of open_global raw made f has (Ascii p g high made_is so) =
    pair_so open_global made f g made_is.is_field (subst (λ (q : FieldParts). StandsSo open_global q g) (HasParts-once raw p f high.is_field has) so)
