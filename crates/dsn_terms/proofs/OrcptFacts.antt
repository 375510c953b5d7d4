-- The values of ORCPT.
use Rattle.std.proofs.Common.{◌≡◌, ℕ, ◌<◌, Bool, List, ◌++◌, codes, length, Option, Some, None, Result, Ok, Err, IfOk, IfNone, is_some, sym, ap, ◌∙◌, subst, arith, inl, inr}
use Rattle.encapsulated_fields.specs.AddressForms.{xtext_form}
use Rattle.encapsulated_fields.specs.Xtext.{ReadsAs}
use Rattle.encapsulated_fields.proofs.XtextLemmas.{ReadsAs-once}
use Rattle.dsn_terms.specs.Xtexts.{IsPrintableXtext}
use Rattle.dsn_terms.specs.Parameters.{behind}
use Rattle.dsn_terms.specs.RecipientTerms.{IsRfc822Recipient, IsUtf8Recipient, IsOrcpt, OrcptSays}
use Rattle.dsn_terms.proofs.XtextUnits.{IsXtext-once}
use Rattle.dsn_terms.proofs.ParameterFacts.{fronts_differ}

pub IsPrintableXtext-once : (text a b : List ℕ) → IsPrintableXtext text a → IsPrintableXtext text b → a ≡ b
IsPrintableXtext-once text a b p q = IsXtext-once text a b p.reads q.reads

-- ---- one reading

same_some : {A : Type 0} (x y : A) (o : Option A) → o ≡ Some x → o ≡ Some y → x ≡ y
same_some x y o p q = let same : Some x ≡ Some y = sym p ∙ q in cc same

IsRfc822-once : (text a b : List ℕ) → IsRfc822Recipient text a → IsRfc822Recipient text b → a ≡ b
IsRfc822-once text a b p q = p.orcpt_is ∙ ap (λ address. codes "rfc822;" ++ address) (IsPrintableXtext-once text p.address q.address p.reads q.reads) ∙ sym q.orcpt_is

IsUtf8-once : (utf8 : Bool) (text a b : List ℕ) → IsUtf8Recipient utf8 text a → IsUtf8Recipient utf8 text b → a ≡ b
IsUtf8-once utf8 text a b p q = p.orcpt_is ∙ ap (λ address. codes "utf-8;" ++ address) (ReadsAs-once text p.address q.address p.reads q.reads) ∙ sym q.orcpt_is

-- a value is of one type
one_type : (value a b : List ℕ) → behind (codes "rfc822;") value ≡ Some a → behind (codes "utf-8;") value ≡ Some b → ⊥
one_type value a b p q = fronts_differ 114 117 (codes "fc822;") (codes "tf-8;") value (λ e. let same : 114 ≡ 117 = e in omega (arith, same)) (ap is_some p) (ap is_some q)

IsOrcpt-once : (utf8 : Bool) (value a b : List ℕ) → IsOrcpt utf8 value a → IsOrcpt utf8 value b → a ≡ b
IsOrcpt-once utf8 value a b p q = elim p [
  | inl x ↦ elim q [
    | inl y ↦ IsRfc822-once x.rest a b x.holds (subst (λ t. IsRfc822Recipient t b) (same_some y.rest x.rest (behind (codes "rfc822;") value) y.rest_is x.rest_is) y.holds)
    | inr y ↦ absurd (one_type value x.rest y.rest x.rest_is y.rest_is)
  ]
  | inr x ↦ elim q [
    | inl y ↦ absurd (one_type value y.rest x.rest y.rest_is x.rest_is)
    | inr y ↦ IsUtf8-once utf8 x.rest a b x.holds (subst (λ t. IsUtf8Recipient utf8 t b) (same_some y.rest x.rest (behind (codes "utf-8;") value) y.rest_is x.rest_is) y.holds)
  ]
]

pub OrcptSays-once : (utf8 : Bool) (value : Option (List ℕ)) (a b : List ℕ) → OrcptSays utf8 value a → OrcptSays utf8 value b → a ≡ b
OrcptSays-once utf8 None a b p q = p ∙ sym q
OrcptSays-once utf8 (Some value) a b p q = IsOrcpt-once utf8 value a b p q

-- ---- what isn't there

pub not-Utf8 : (utf8 : Bool) (text : List ℕ) → ((address : List ℕ) → ReadsAs text address → ⊥) → (orcpt : List ℕ) → IsUtf8Recipient utf8 text orcpt → ⊥
not-Utf8 utf8 text none orcpt is = none is.address is.reads

pub not-Utf8-long : (utf8 : Bool) (text address form : List ℕ) → ReadsAs text address → form ≡ xtext_form address → 500 < length form → (orcpt : List ℕ) → IsUtf8Recipient utf8 text orcpt → ⊥
not-Utf8-long utf8 text address form reads is long orcpt says =
    let same = ReadsAs-once text says.address address says.reads reads in
    omega (arith, ap length is, ap (λ a. length (xtext_form a)) same, says.most)

not-Orcpt-rfc822 : (utf8 : Bool) (value text : List ℕ) → behind (codes "rfc822;") value ≡ Some text → ((orcpt : List ℕ) → IsRfc822Recipient text orcpt → ⊥) → (orcpt : List ℕ) → IsOrcpt utf8 value orcpt → ⊥
not-Orcpt-rfc822 utf8 value text e none orcpt is = elim is [
  | inl x ↦ none orcpt (subst (λ t. IsRfc822Recipient t orcpt) (same_some x.rest text (behind (codes "rfc822;") value) x.rest_is e) x.holds)
  | inr x ↦ one_type value text x.rest e x.rest_is
]

not-Orcpt-utf8 : (utf8 : Bool) (value text : List ℕ) → behind (codes "utf-8;") value ≡ Some text → ((orcpt : List ℕ) → IsUtf8Recipient utf8 text orcpt → ⊥) → (orcpt : List ℕ) → IsOrcpt utf8 value orcpt → ⊥
not-Orcpt-utf8 utf8 value text e none orcpt is = elim is [
  | inl x ↦ one_type value x.rest text x.rest_is e
  | inr x ↦ none orcpt (subst (λ t. IsUtf8Recipient utf8 t orcpt) (same_some x.rest text (behind (codes "utf-8;") value) x.rest_is e) x.holds)
]

-- where nothing is read of the text after a type, nothing is of the value
pub none-rfc822 : {E : Type 0} (read : Result (Option (List ℕ)) E) (utf8 : Bool) (value text : List ℕ) → behind (codes "rfc822;") value ≡ Some text
    → IfOk read (λ o. IfNone o ((orcpt : List ℕ) → IsRfc822Recipient text orcpt → ⊥)) → IfOk read (λ o. IfNone o ((orcpt : List ℕ) → IsOrcpt utf8 value orcpt → ⊥))
none-rfc822 (Ok None) utf8 value text e none = not-Orcpt-rfc822 utf8 value text e none
none-rfc822 (Ok (Some x)) utf8 value text e none = tt
none-rfc822 (Err x) utf8 value text e none = tt

pub none-utf8 : {E : Type 0} (read : Result (Option (List ℕ)) E) (utf8 : Bool) (value text : List ℕ) → behind (codes "utf-8;") value ≡ Some text
    → IfOk read (λ o. IfNone o ((orcpt : List ℕ) → IsUtf8Recipient utf8 text orcpt → ⊥)) → IfOk read (λ o. IfNone o ((orcpt : List ℕ) → IsOrcpt utf8 value orcpt → ⊥))
none-utf8 (Ok None) utf8 value text e none = not-Orcpt-utf8 utf8 value text e none
none-utf8 (Ok (Some x)) utf8 value text e none = tt
none-utf8 (Err x) utf8 value text e none = tt
