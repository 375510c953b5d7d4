-- There are functions that give the entities of octets and their views.
use Rattle.std.proofs.Common.{◌≡◌, inl, inr, ℕ, List, [], Bool, ap}
use Rattle.mime_tree.specs.declared.entity.Entity.{Entity}
use Rattle.mime_tree.specs.Outlines.{Outline, outlines_of}
use Rattle.mime_tree.specs.Tree.{HasTree}
use Rattle.mime_tree.proofs.DecidingTrees.{decide_tree}
use Rattle.mime_tree.proofs.OneTree.{one_tree}
use Rattle.address_grammar.proofs.DecidePaths.{Found}
use Rattle.imap_views.specs.Views.{View, envelope, fields, structure, IsStructureOf, IsView, GivesViews, GivesOutlines}
use Rattle.imap_views.proofs.GivenEnvelopes.{Given, given_of, given_envelope, given_chosen}
use Rattle.imap_views.proofs.OneStructure.{structure_once}
use Rattle.imap_views.proofs.GivenStructures.{structure_given}

-- whatever are the entities of octets is this
outlines_by : (octets : List ℕ) → (made : List Outline) × ((entities : List Entity) → HasTree octets entities → outlines_of entities ≡ made)
outlines_by octets = elim (decide_tree octets) [
  | inr none ↦ ([], λ entities tree. absurd (none entities tree))
  | inl found ↦ (outlines_of found.0, λ entities tree. ap outlines_of (one_tree octets entities found.0 tree found.1))
]

pub outlines_given : (outlines : List ℕ → List Outline) × GivesOutlines outlines
outlines_given = (λ octets. (outlines_by octets).0, λ octets. (outlines_by octets).1)

-- octets have a structure, or none
decide_structure : (extended : Bool) (octets : List ℕ) → Found (IsStructureOf extended octets)
decide_structure extended octets = elim (decide_tree octets) [
  | inr none ↦ inr (λ text is. none is.entities is.tree)
  | inl found ↦ inl (structure_given extended octets found.0 found.1)
]

view_by : (view : View) (octets : List ℕ) → Given (IsView view octets)
view_by envelope octets = given_envelope octets
view_by (fields names negated) octets = given_chosen octets names negated
view_by (structure extended) octets = given_of (IsStructureOf extended octets) (structure_once extended octets) (decide_structure extended octets)

pub views_given : (view_of : View → List ℕ → List ℕ) × GivesViews view_of
views_given = (λ view octets. (view_by view octets).0, λ view octets. (view_by view octets).1)
