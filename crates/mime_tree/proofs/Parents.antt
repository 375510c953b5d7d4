-- The numbers of the entities that others are in are below the number of all.
use Rattle.std.proofs.Common.{ℕ, zero, suc, ◌+◌, ◌<◌, ◌≤◌, List, [], ◌∷◌, ◌++◌, Bool, false, length, Option, Some, None, arith, length-append}
use Rattle.std.specs.List.{AllByRecursion}
use Rattle.mail_wire.specs.Lines.{lines_of}
use Rattle.mail_wire.proofs.AllLemmas.{all-append}
use Rattle.mime_tree.specs.declared.entity.Entity.{Entity}
use Rattle.mime_tree.specs.declared.entity.Shape.{Shape}
use Rattle.mime_tree.specs.declared.openings.Opening.{Opening}
use Rattle.mime_tree.specs.declared.openings.Opening.TheVariants.{Nothing, Message, Parts}
use Rattle.mime_tree.specs.Parts.{Part, parts_of}
use Rattle.mime_tree.specs.Tree.{IsWithInner, EntityRelation, AreParts, IsDivided, IsOpened, IsEntity, HasTree, depth_max}

abbrev pub IsBelow : ℕ → Option ℕ → Type 0
IsBelow limit None = Unit {0}
IsBelow limit (Some parent) = parent < limit

abbrev pub HasParentBelow : ℕ → Entity → Type 0
HasParentBelow limit entity = IsBelow limit entity.parent

-- no entity of these is in one whose number reaches a limit that none of their numbers reaches
unfoldable pub KeepsBelow : EntityRelation → Type 0
KeepsBelow IsOne = (parent : Option ℕ) (digest : Bool) (number at : ℕ) (lines : List (List ℕ)) (entities : List Entity) (limit : ℕ) → IsOne parent digest number at lines entities → IsBelow limit parent
    → number + length entities ≤ limit → AllByRecursion (HasParentBelow limit) entities

parts_below : (IsOne : EntityRelation) → KeepsBelow IsOne → (parent : Option ℕ) (digest : Bool) (number : ℕ) (parts : List Part) (entities : List Entity) (limit : ℕ) → AreParts IsOne parent digest number parts entities
    → IsBelow limit parent → number + length entities ≤ limit → AllByRecursion (HasParentBelow limit) entities
unfolding KeepsBelow
parts_below IsOne keeps parent digest number [] entities limit are below fits = rw are tt
parts_below IsOne keeps parent digest number (part ∷ parts) entities limit are below fits =
    let all : number + length (are.0 ++ are.1) ≤ limit = rw are.2 at fits in
    let sizes = length-append are.0 are.1 in
    rw are.2 (all-append (HasParentBelow limit) are.0 are.1 (keeps parent digest number part.at part.lines are.0 limit are.3 below (omega arith))
    (parts_below IsOne keeps parent digest (number + length are.0) parts are.1 limit are.4 below (omega arith)))

divided_below : (IsOne : EntityRelation) → KeepsBelow IsOne → (digest : Bool) (number : ℕ) (parts : List Part) (shape : Shape) (inner : List Entity) (limit : ℕ) → IsDivided IsOne digest number parts shape inner
    → number + 1 + length inner ≤ limit → AllByRecursion (HasParentBelow limit) inner
divided_below IsOne keeps digest number [] shape inner limit is fits = rw is.1 tt
divided_below IsOne keeps digest number (part ∷ parts) shape inner limit is fits = parts_below IsOne keeps (Some number) digest (number + 1) (part ∷ parts) inner limit is.1 (omega arith) fits

opened_below : (IsOne : EntityRelation) → KeepsBelow IsOne → (opening : Opening) (number body : ℕ) (content : List (List ℕ)) (shape : Shape) (inner : List Entity) (limit : ℕ)
    → IsOpened IsOne opening number body content shape inner → number + 1 + length inner ≤ limit → AllByRecursion (HasParentBelow limit) inner
unfolding KeepsBelow
opened_below IsOne keeps Nothing number body content shape inner limit is fits = rw is.1 tt
opened_below IsOne keeps Message number body content shape inner limit is fits = keeps (Some number) false (number + 1) body content inner limit is.1 (omega arith) fits
opened_below IsOne keeps (Parts boundary digest) number body content shape inner limit is fits = divided_below IsOne keeps digest number (parts_of boundary body content) shape inner limit is fits

with_below : (parent : Option ℕ) (depth at : ℕ) (lines : List (List ℕ)) (entities : List Entity) (is : IsWithInner parent depth at lines entities) (number limit : ℕ) → IsBelow limit parent → number + length entities ≤ limit
    → (number + 1 + length is.inner ≤ limit → AllByRecursion (HasParentBelow limit) is.inner) → AllByRecursion (HasParentBelow limit) entities
with_below parent depth at lines entities is number limit below fits inner =
    let all : number + length (is.entity ∷ is.inner) ≤ limit = rw is.entities_are at fits in
    rw is.entities_are (rw is.parent_is below, inner (omega arith))

keeps_below : (levels : ℕ) (octets : List ℕ) → KeepsBelow (IsEntity levels octets)
unfolding KeepsBelow IsEntity
keeps_below zero octets = λ parent digest number at lines entities limit is below fits. with_below parent _ at lines entities is.0 number limit below fits (λ less. rw is.2 tt)
keeps_below (suc levels) octets = λ parent digest number at lines entities limit is below fits.
    with_below parent _ at lines entities is.0 number limit below fits
    (λ less. opened_below (IsEntity levels octets) (keeps_below levels octets) is.1 number is.0.entity.body is.0.content is.0.entity.shape is.0.inner limit is.3 less)

pub tree_parents : (octets : List ℕ) (entities : List Entity) → HasTree octets entities → AllByRecursion (HasParentBelow (length entities)) entities
unfolding KeepsBelow
tree_parents octets entities tree = keeps_below depth_max octets None false 0 0 (lines_of octets) entities (length entities) tree.root tt (omega arith)
