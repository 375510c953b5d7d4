-- What is shown of a message.
use Rattle.std.specs.Prelude.{ℕ, List}
pub use Rattle.mime_tree.specs.Outlines.{seen_outline}
use Rattle.mime_tree.specs.Outlines.{Outline, outlines_of}
use Rattle.mime_tree.specs.Tree.{HasTree}
use Rattle.surrogate_rope.specs.declared.shown.Shown.{Shown}
use Rattle.surrogate_rope.specs.declared.shown.Shown.TheVariants.{Whole, Rope}
use Rattle.surrogate_rope.specs.Ropes.{IsRopeOf, octets_of}

-- the tree or the rope is the message's
abbrev pub IsShownOf : List ℕ → Shown → Type 0
IsShownOf msg (Whole tree) = HasTree msg tree.entities
IsShownOf msg (Rope rope) = IsRopeOf msg rope

-- the octets that are shown
abbrev pub shown_octets : List ℕ → Shown → List ℕ
shown_octets msg (Whole tree) = msg
shown_octets msg (Rope rope) = octets_of msg rope

-- the entities of what is shown
abbrev pub shown_outlines : Shown → List Outline
shown_outlines (Whole tree) = outlines_of tree.entities
shown_outlines (Rope rope) = rope.entities
