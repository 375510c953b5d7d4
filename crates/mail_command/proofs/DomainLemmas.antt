-- Whether a store has a domain, by its name.
use Rattle.std.proofs.Common.{◌≡◌, ℕ, List, [], ◌∷◌, Bool, true, false, codes, refl, sym, ap, ◌∙◌}
use Rattle.std.specs.Prelude.{◌↔◌, IfOk, IsTrue, Result, Ok, Err, slice_index_or}
use Rattle.std.specs.List.{list_any}
use Rattle.std.proofs.lemmas.Slice.Eq.{bytes_eq-Decides}
use Rattle.ace_domains.specs.Domains.{compared_form}
use Rattle.journal_records.specs.Addresses.{is_same_domain}

-- one with another name has a domain
pub named_otherwise : (domains : List (List ℕ)) (name : List ℕ) → name ≡ slice_index_or domains 0 (codes "localhost") → (name ≡ codes "localhost" → ⊥) → domains ≡ [] → ⊥
named_otherwise [] name is other none = other is
named_otherwise (one ∷ others) name is other none = cc

-- one with this name has a domain if the name is local
pub named_so : (domains : List (List ℕ)) (name : List ℕ) → name ≡ slice_index_or domains 0 (codes "localhost") → name ≡ codes "localhost"
    → IsTrue (list_any (λ one. is_same_domain one (codes "localhost")) domains) ↔ (domains ≡ [] → ⊥)
named_so [] name is so = (λ has. let differs : false ≡ true = has in absurd (cc differs), λ some. absurd (some refl))
named_so (one ∷ others) name is so =
    let same : one ≡ codes "localhost" = sym is ∙ so in
    let met : is_same_domain one (codes "localhost") ≡ true = (bytes_eq-Decides (compared_form one) (compared_form (codes "localhost"))).1 (ap compared_form same) in
    (λ has none. cc, λ some. rw met refl)

-- what was told of that name
pub told_of : {E : Type 0} (told : Result Bool E) (domains : List (List ℕ)) (name : List ℕ) → IfOk told (λ is. is ≡ list_any (λ one. is_same_domain one (codes "localhost")) domains)
    → name ≡ slice_index_or domains 0 (codes "localhost") → name ≡ codes "localhost" → IfOk told (λ has. IsTrue has ↔ (domains ≡ [] → ⊥))
told_of (Ok has) domains name told is so = rw told (named_so domains name is so)
told_of (Err failed) domains name told is so = tt
