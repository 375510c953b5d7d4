-- Names in a map.
use Rattle.std.proofs.Common.{◌≡◌, ℕ, List, Bool, true, false, Option, Some, None, refl, sym, ap, ◌∙◌, inl, inr}
use Rattle.std.specs.Prelude.{is_some}
use Rattle.std.specs.Global.{Vec}
use Rattle.std.specs.Ordering.{is_eq, nat_cmp}
use Rattle.std.specs.Cmp.{eq_by_cmp_equiv}
use Rattle.std.specs.Cmp.Lexicographic.{slice_cmp, nat_list_cmp_total, nat_list_eq_equiv}
use Rattle.std.specs.Str.{bytes_eq}
use Rattle.std.specs.BTreeMap.{BTreeMap, UpdatesBy}
use Rattle.std.specs.Map.{lookup, IsKeyTest, AreApart, KeepsOthers}
use Rattle.std.proofs.lemmas.Bool.{cases_Bool}
use Rattle.std.proofs.lemmas.Map.Text.{is_eq-slice_cmp}
use Rattle.std.proofs.lemmas.Slice.Eq.{bytes_eq-Decides}
use Rattle.kept_mail.specs.private.Names.{number_named, kept_first}

apart : (key name other : List ℕ) → bytes_eq key name ≡ false → is_eq (slice_cmp nat_cmp key other) ≡ true → is_eq (slice_cmp nat_cmp name other) ≡ false
apart key name other n y =
    let its : bytes_eq key other ≡ true = sym (is_eq-slice_cmp key other) ∙ y in
    is_eq-slice_cmp name other ∙ nat_list_eq_equiv.symm name other ∙ sym (nat_list_eq_equiv.congr key other name its) ∙ n

module _ {K : Type 0} (eq : K → K → Bool) (test : K → Bool) where
  other_entries : {X : Type 0} (old new : List (K × X)) → KeepsOthers eq test old new → (other : K → Bool) → IsKeyTest eq other → AreApart test other → lookup other new ≡ lookup other old
  unfolding KeepsOthers
  other_entries old new h = h

pub none_of : (o : Option ℕ) → is_some o ≡ false → o ≡ None
none_of None e = refl
none_of (Some m) e = absurd cc

pub kept_other : (o : Option ℕ) (key name : List ℕ) (n : ℕ) → bytes_eq key name ≡ false → o ≡ kept_first o key name n
kept_other None key name n e = rw e refl
kept_other (Some m) key name n e = refl

-- what was put at a key, or taken away there, leaves the other names
pub keeps_others : (old new : BTreeMap (Vec ℕ) ℕ) (key : List ℕ) (there : Option ℕ)
    → UpdatesBy (λ x y. slice_cmp nat_cmp x.items y.items) (λ k. slice_cmp nat_cmp key k.items) old new there
    → (name : List ℕ) → bytes_eq key name ≡ false → number_named new name ≡ number_named old name
keeps_others old new key there h name other =
    other_entries _ _ _ _ h.3 _ (λ x y. (eq_by_cmp_equiv nat_list_cmp_total).congr name x.items y.items) (λ k. apart key name k.items other)

-- a number put at a key that had none
pub puts_first : (old new : BTreeMap (Vec ℕ) ℕ) (key : List ℕ) (n : ℕ) → is_some (number_named old key) ≡ false
    → UpdatesBy (λ x y. slice_cmp nat_cmp x.items y.items) (λ k. slice_cmp nat_cmp key k.items) old new (Some n)
    → (name : List ℕ) → number_named new name ≡ kept_first (number_named old name) key name n
puts_first old new key n none h name =
    elim (cases_Bool (bytes_eq key name)) [
      | inl same ↦
          let is : key ≡ name = (bytes_eq-Decides key name).0 same in
          let gone : number_named old name ≡ None = ap (number_named old) (sym is) ∙ none_of _ none in
          let here : number_named new name ≡ Some n = ap (number_named new) (sym is) ∙ h.1 in
          rw (gone, same) here
      | inr other ↦
          let kept : number_named new name ≡ number_named old name = keeps_others old new key (Some n) h name other in
          kept ∙ kept_other (number_named old name) key name n other
    ]

-- a number taken away from a key
pub takes_others : (old new : BTreeMap (Vec ℕ) ℕ) (key : List ℕ)
    → UpdatesBy (λ x y. slice_cmp nat_cmp x.items y.items) (λ k. slice_cmp nat_cmp key k.items) old new None
    → (name : List ℕ) → ¬ (name ≡ key) → number_named new name ≡ number_named old name
takes_others old new key h name differs =
    elim (cases_Bool (bytes_eq key name)) [
      | inl same ↦ absurd (differs (sym ((bytes_eq-Decides key name).0 same)))
      | inr other ↦ keeps_others old new key None h name other
    ]
