-- The children of entities, as they are found one after another.
use Rattle.std.proofs.Common.{◌≡◌, ℕ, ◌+◌, ◌<◌, ◌≤◌, List, [], ◌∷◌, ◌++◌, Bool, true, false, ◌⊎◌, inl, inr, length, take, replicate, map, get_or, set, Some, None, arith, refl, sym, ap, ◌∙◌, append-nil, eq-eqb, ne_eqb, get_or-set_same, get_or-set_other}
use Rattle.std.specs.Prelude.{◌==◌, if◌then◌else◌}
use Rattle.std.proofs.lemmas.Bool.{cases_eq}
use Rattle.std.proofs.lemmas.List.{map-append, length-map, length-set, length-take-le, length-replicate, get_or-replicate, take_more, take_all}
use Rattle.std.proofs.lemmas.Option.{slice_get-get_or}
use Rattle.mime_tree.specs.declared.entity.Shape.TheVariants.{Leaf}
use Rattle.mime_tree.specs.Outlines.{Outline}
use Rattle.mime_tree.specs.Sections.{is_in, children_from}
use Rattle.mime_tree.specs.declared.outlines.Outline.{Outline as OutlineOf}
use Rattle.surrogate_rope.specs.Served.{seen_outline}
use Rattle.imap_views.specs.private.Reading.{HasChildren}

-- the children among entities, and among those after them
pub children-append : (from number : ℕ) (outlines more : List Outline)
    → children_from from (outlines ++ more) number ≡ children_from from outlines number ++ children_from (from + length outlines) more number
unfolding children_from
children-append from number [] more = let same : from + 0 ≡ from = omega arith in rw same refl
children-append from number (outline ∷ outlines) more =
    let same : from + length (outline ∷ outlines) ≡ from + 1 + length outlines = omega arith in
    rw (same, children-append (from + 1) number outlines more)
    (go (is_in outline.parent number) (children_from (from + 1) outlines number) (children_from (from + 1 + length outlines) more number))
  where
    go : (b : Bool) (front back : List ℕ) → (if b then from ∷ (front ++ back) else front ++ back) ≡ (if b then from ∷ front else front) ++ back
    go true front back = refl
    go false front back = refl

-- for each entity those of the first entities that are directly in it
pub record HasChildrenOf (outlines : List OutlineOf) (at : ℕ) (children : List (List ℕ)) : Type 0 where
  pub count : length children ≡ length outlines
  pub each : (number : ℕ) → number < length outlines → get_or children number [] ≡ children_from 0 (map seen_outline (take at outlines)) number

pub children_none : (outlines : List OutlineOf) (children : List (List ℕ)) → children ≡ replicate (length outlines) [] → HasChildrenOf outlines 0 children
unfolding children_from
children_none outlines children is = record {
  count = ap length is ∙ length-replicate (length outlines) [];
  each = λ number below. ap (λ list. get_or list number []) is ∙ get_or-replicate (length outlines) number [] [] below;
}

-- what stands for an entity where there is none
abbrev nothing : OutlineOf
nothing = record { parent = None; depth = 0; at = 0; body = 0; end = 0; shape = Leaf }

-- one entity more
one_more : (outlines : List OutlineOf) (at : ℕ) (outline : OutlineOf) (number : ℕ) → at < length outlines → outline ≡ get_or outlines at nothing
    → children_from 0 (map seen_outline (take (at + 1) outlines)) number ≡ children_from 0 (map seen_outline (take at outlines)) number ++ (if is_in outline.parent number then at ∷ [] else [])
unfolding children_from
one_more outlines at outline number within is =
    let first : List OutlineOf = take at outlines in
    let taken : take (at + 1) outlines ≡ first ++ outline ∷ [] = take_more outlines at nothing within ∙ ap (λ one. first ++ one ∷ []) (sym is) in
    let place : 0 + length (map seen_outline first) ≡ at = omega (arith, length-map first seen_outline, length-take-le at outlines (omega arith)) in
    ap (λ list. children_from 0 (map seen_outline list) number) taken ∙ ap (λ list. children_from 0 list number) (map-append seen_outline first (outline ∷ []))
    ∙ children-append 0 number (map seen_outline first) (seen_outline outline ∷ []) ∙ rw place refl

-- it is in none
pub children_alone : (outlines : List OutlineOf) (at : ℕ) (outline : OutlineOf) (children : List (List ℕ)) → at < length outlines → outline ≡ get_or outlines at nothing → outline.parent ≡ None
    → HasChildrenOf outlines at children → HasChildrenOf outlines (at + 1) children
children_alone outlines at outline children within is alone has = record {
  count = has.count;
  each = λ number below. has.each number below ∙ sym (one_more outlines at outline number within is ∙ rw alone (append-nil (children_from 0 (map seen_outline (take at outlines)) number)));
}

-- it is in this one
pub children_more : (outlines : List OutlineOf) (at : ℕ) (outline : OutlineOf) (parent : ℕ) (children more : List (List ℕ)) → at < length outlines → outline ≡ get_or outlines at nothing
    → outline.parent ≡ Some parent → more ≡ set children parent (get_or children parent [] ++ at ∷ []) → HasChildrenOf outlines at children → HasChildrenOf outlines (at + 1) more
children_more outlines at outline parent children more within is inside more_is has = record {
  count = ap length more_is ∙ length-set children parent (get_or children parent [] ++ at ∷ []) ∙ has.count;
  each = λ number below. ap (λ list. get_or list number []) more_is ∙ go number below (cases_eq parent number) ∙ sym (one_more outlines at outline number within is);
}
  where
    go : (number : ℕ) → number < length outlines → (parent ≡ number) ⊎ (parent ≡ number → ⊥)
        → get_or (set children parent (get_or children parent [] ++ at ∷ [])) number [] ≡ children_from 0 (map seen_outline (take at outlines)) number ++ (if is_in outline.parent number then at ∷ [] else [])
    go number below (inl same) =
        let count = has.count in
        let test : (parent == number) ≡ true = eq-eqb parent number same in
        let place : number < length children = omega arith in
        rw (inside, test, same, get_or-set_same children number (get_or children number [] ++ at ∷ []) [] place) (ap (λ front. front ++ at ∷ []) (has.each number below))
    go number below (inr other) =
        let test : (parent == number) ≡ false = ne_eqb parent number other in
        rw (inside, test, get_or-set_other children parent number (get_or children parent [] ++ at ∷ []) [] (λ same. other (sym same)))
        (has.each number below ∙ sym (append-nil (children_from 0 (map seen_outline (take at outlines)) number)))

-- all entities
pub children_all : (outlines : List OutlineOf) (at : ℕ) (children : List (List ℕ)) → length outlines ≤ at → HasChildrenOf outlines at children → HasChildren (map seen_outline outlines) children
children_all outlines at children past has =
    let count = has.count in
    let all : take at outlines ≡ outlines = take_all at outlines past in
    let same : length (map seen_outline outlines) ≡ length outlines = length-map outlines seen_outline in (
      has.count ∙ sym same,
      λ number below.
          let within : number < length outlines = omega arith in
          slice_get-get_or children number [] (omega arith) ∙ ap Some (has.each number within ∙ ap (λ list. children_from 0 (map seen_outline list) number) all),
    )
