-- Numbers by name in a hash map.
use Rattle.std.proofs.Common.{◌≡◌, ℕ, List, Bool, true, false, Option, Some, None, sym, ap, ◌∙◌, inl, inr}
use Rattle.std.specs.Prelude.{is_some}
use Rattle.std.specs.Global.{Vec}
use Rattle.std.specs.Cmp.Lexicographic.{nat_list_eq_equiv}
use Rattle.std.specs.Str.{bytes_eq}
use Rattle.std.specs.HashMap.{HashMap, UpdatesBy}
use Rattle.std.specs.Map.{lookup, IsKeyTest, AreApart, KeepsOthers}
use Rattle.std.proofs.lemmas.Bool.{cases_Bool}
use Rattle.std.proofs.lemmas.Slice.Eq.{bytes_eq-Decides}
use Rattle.kept_mail.specs.private.Names.{kept_first}
use Rattle.kept_mail.proofs.NameLemmas.{none_of, kept_other}
use Rattle.mail_store.specs.private.Names.{number_hashed}

apart : (key name other : List ℕ) → bytes_eq key name ≡ false → bytes_eq key other ≡ true → bytes_eq name other ≡ false
apart key name other n its = nat_list_eq_equiv.symm name other ∙ sym (nat_list_eq_equiv.congr key other name its) ∙ n

module _ {K : Type 0} (eq : K → K → Bool) (test : K → Bool) where
  other_entries : {X : Type 0} (old new : List (K × X)) → KeepsOthers eq test old new → (other : K → Bool) → IsKeyTest eq other → AreApart test other → lookup other new ≡ lookup other old
  unfolding KeepsOthers
  other_entries old new h = h

-- what was put at a key, or taken away there, leaves the other names
pub keeps_others : {S : Type 0} (old new : HashMap (Vec ℕ) ℕ S) (key : List ℕ) (there : Option ℕ)
    → UpdatesBy (λ x y. bytes_eq x.items y.items) (λ k. bytes_eq key k.items) old new there
    → (name : List ℕ) → bytes_eq key name ≡ false → number_hashed new name ≡ number_hashed old name
keeps_others old new key there h name other =
    other_entries _ _ _ _ h.3 _ (λ x y. nat_list_eq_equiv.congr name x.items y.items) (λ k. apart key name k.items other)

-- a number put at a key that had none
pub puts_number : {S : Type 0} (old new : HashMap (Vec ℕ) ℕ S) (key : List ℕ) (n : ℕ) → is_some (number_hashed old key) ≡ false
    → UpdatesBy (λ x y. bytes_eq x.items y.items) (λ k. bytes_eq key k.items) old new (Some n)
    → (name : List ℕ) → number_hashed new name ≡ kept_first (number_hashed old name) key name n
puts_number old new key n none h name =
    elim (cases_Bool (bytes_eq key name)) [
      | inl same ↦
          let is : key ≡ name = (bytes_eq-Decides key name).0 same in
          let gone : number_hashed old name ≡ None = ap (number_hashed old) (sym is) ∙ none_of _ none in
          let here : number_hashed new name ≡ Some n = ap (number_hashed new) (sym is) ∙ h.1 in
          rw (gone, same) here
      | inr other ↦
          let kept : number_hashed new name ≡ number_hashed old name = keeps_others old new key (Some n) h name other in
          kept ∙ kept_other (number_hashed old name) key name n other
    ]

-- a number taken away from a key
pub takes_number : {S : Type 0} (old new : HashMap (Vec ℕ) ℕ S) (key : List ℕ)
    → UpdatesBy (λ x y. bytes_eq x.items y.items) (λ k. bytes_eq key k.items) old new None
    → (name : List ℕ) → ¬ (name ≡ key) → number_hashed new name ≡ number_hashed old name
takes_number old new key h name differs =
    elim (cases_Bool (bytes_eq key name)) [
      | inl same ↦ absurd (differs (sym ((bytes_eq-Decides key name).0 same)))
      | inr other ↦ keeps_others old new key None h name other
    ]
