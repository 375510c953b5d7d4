-- Sections: the children of an entity, and the numbers of a path.
use Rattle.std.proofs.Common.{◌≡◌, ℕ, zero, suc, ◌+◌, ◌-◌, ◌<◌, ◌≤◌, List, ◌∷◌, length, drop, get_or, true, false, arith, refl, sym, ap, ◌∙◌, map, Option, Some, None, slice_get, option_and_then}
use Rattle.std.specs.Prelude.{if◌then◌else◌}
use Rattle.std.proofs.lemmas.List.{drop_more, drop_all}
use Rattle.mime_tree.specs.Outlines.{Outline}
use Rattle.mime_tree.specs.Sections.{is_in, children_from, next, named_on}

-- the children from a place on
abbrev pub children_at : {X : Type 0} → (X → Outline) → List X → ℕ → ℕ → List ℕ
children_at outlined entities place number = children_from place (map outlined (drop place entities)) number

-- an entity is a child or it isn't, and the others follow
pub children_here : {X : Type 0} (outlined : X → Outline) (entities : List X) (place number : ℕ) (entity : X) → place < length entities → entity ≡ get_or entities place entity
    → children_at outlined entities place number
    ≡ (if is_in (outlined entity).parent number then place ∷ children_at outlined entities (place + 1) number else children_at outlined entities (place + 1) number)
unfolding children_from
children_here outlined entities place number entity within is = rw (drop_more entities place entity within, ← is) refl

-- the child that stands here is the one, where none is to pass
pub search_ends : {X : Type 0} (outlined : X → Outline) (entities : List X) (place number left : ℕ) (entity : X) (outline : Outline) → place < length entities → entity ≡ get_or entities place entity → outline ≡ outlined entity
    → is_in outline.parent number ≡ true → left ≡ 0 → slice_get (children_at outlined entities place number) left ≡ Some place
search_ends outlined entities place number left entity outline within is told inside none =
    rw (children_here outlined entities place number entity within is, ap (λ (o : Outline). is_in o.parent number) (sym told) ∙ inside, none) refl

-- it is passed otherwise
pub child_passed : {X : Type 0} (outlined : X → Outline) (entities : List X) (place number left rest : ℕ) (entity : X) (outline : Outline) → place < length entities → entity ≡ get_or entities place entity → outline ≡ outlined entity
    → is_in outline.parent number ≡ true → 0 < left → rest ≡ left - 1 → slice_get (children_at outlined entities place number) left ≡ slice_get (children_at outlined entities (place + 1) number) rest
child_passed outlined entities place number zero rest entity outline within is told inside some rest_is = absurd (omega arith)
child_passed outlined entities place number (suc left) rest entity outline within is told inside some rest_is =
    let same : rest ≡ left = omega arith in
    rw (children_here outlined entities place number entity within is, ap (λ (o : Outline). is_in o.parent number) (sym told) ∙ inside, same) refl

-- an entity that is no child is passed
pub other_passed : {X : Type 0} (outlined : X → Outline) (entities : List X) (place number left : ℕ) (entity : X) (outline : Outline) → place < length entities → entity ≡ get_or entities place entity → outline ≡ outlined entity
    → is_in outline.parent number ≡ false → slice_get (children_at outlined entities place number) left ≡ slice_get (children_at outlined entities (place + 1) number) left
other_passed outlined entities place number left entity outline within is told other =
    rw (children_here outlined entities place number entity within is, ap (λ (o : Outline). is_in o.parent number) (sym told) ∙ other) refl

-- past the last entity there is no child
pub search_fails : {X : Type 0} (outlined : X → Outline) (entities : List X) (place number left : ℕ) → length entities ≤ place → slice_get (children_at outlined entities place number) left ≡ None
unfolding children_from
search_fails outlined entities place number left past = rw (drop_all place entities past) refl

-- a number of a path names this or nothing, and the others follow
pub path_read : (outlines : List Outline) (path : List ℕ) (place number : ℕ) (found : Option ℕ) → place < length path → found ≡ next outlines number (get_or path place 0)
    → named_on outlines (drop place path) number ≡ option_and_then (named_on outlines (drop (place + 1) path)) found
unfolding named_on
path_read outlines path place number found within is = rw (drop_more path place 0 within, is) refl

-- at the end of a path the entity is named
pub path_ends : (outlines : List Outline) (path : List ℕ) (place number : ℕ) → length path ≤ place → named_on outlines (drop place path) number ≡ Some number
unfolding named_on
path_ends outlines path place number past = rw (drop_all place path past) refl
