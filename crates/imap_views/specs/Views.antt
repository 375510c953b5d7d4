-- The views of octets: what FETCH tells of a header or of a message beside its octets (RFC 3501, 6.4.5 and 7.4.2).
use Rattle.std.specs.Prelude.{◌≡◌, ℕ, Bool, List}
use Rattle.mime_tree.specs.declared.entity.Entity.{Entity}
use Rattle.mime_tree.specs.Outlines.{Outline, outlines_of}
use Rattle.mime_tree.specs.Tree.{HasTree}
use Rattle.imap_views.specs.Chosen.{AreChosen}
use Rattle.imap_views.specs.Envelopes.{HasEnvelope}
use Rattle.imap_views.specs.Structures.{HasStructure}

-- What is told of a header or of a message beside its octets.
pub data View : Type 0 where
  -- the envelope of a header
  envelope : View
  -- the fields of a header that have these names, or all others
  fields : (names : List (List ℕ)) (negated : Bool) → View
  -- the structure of a message, with the extension data or without
  structure : (extended : Bool) → View

-- the structure of octets that have a tree
pub record IsStructureOf (extended : Bool) (octets text : List ℕ) : Type 0 where
  pub entities : List Entity
  pub tree : HasTree octets entities
  pub structure : HasStructure (record { octets = octets; outlines = outlines_of entities; extended = extended }) text

-- the text is this view of the octets
abbrev pub IsView : View → List ℕ → List ℕ → Type 0
IsView envelope octets text = HasEnvelope octets text
IsView (fields names negated) octets text = AreChosen octets names negated text
IsView (structure extended) octets text = IsStructureOf extended octets text

-- Whatever is a view of octets is what the function gives of it. (Octets have one such view at most, so there is such a function.)
abbrev pub GivesViews : (View → List ℕ → List ℕ) → Type 0
GivesViews view_of = (view : View) (octets text : List ℕ) → IsView view octets text → text ≡ view_of view octets

-- Whatever are the entities of octets is what the function gives. (Octets have one tree at most.)
abbrev pub GivesOutlines : (List ℕ → List Outline) → Type 0
GivesOutlines outlines = (octets : List ℕ) (entities : List Entity) → HasTree octets entities → outlines_of entities ≡ outlines octets
