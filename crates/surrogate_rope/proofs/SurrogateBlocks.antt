-- What a surrogate is: one at most, with ASCII blocks, and what a rope gives.
use Rattle.std.proofs.Common.{◌≡◌, true, ℕ, List, [], ◌∷◌}
use Rattle.std.specs.List.{list_all, AllByRecursion, AllZip}
use Rattle.mail_wire.specs.Octets.{is_ascii}
use Rattle.mime_tree.specs.declared.entity.Entity.{Entity}
use Rattle.mime_tree.specs.Rewriting.{AreSame}
use Rattle.mime_tree.specs.Tree.{raws_of}
use Rattle.surrogate_rope.specs.Layout.{InEntity, StandsInAscii, HasSurrogate, HasAsciiBlocks}
use Rattle.surrogate_rope.specs.Ropes.{RopeValue, IsRopeOf, octets_of}
use Rattle.surrogate_rope.proofs.OneLayout.{one_layout}

-- the made fields of an entity are ASCII
pub ascii_fields : (msg : List ℕ) (entity : Entity) (raws mades : List (List ℕ)) → AllZip (InEntity StandsInAscii msg entity) raws mades → AllByRecursion (λ raw. list_all is_ascii raw ≡ true) mades
ascii_fields msg entity [] [] all = tt
ascii_fields msg entity [] (made ∷ mades) all = absurd all
ascii_fields msg entity (raw ∷ raws) [] all = absurd all
ascii_fields msg entity (raw ∷ raws) (made ∷ mades) all = (all.0.holds.1, ascii_fields msg entity raws mades all.1)

-- so are those of all entities
ascii_blocks : (msg : List ℕ) (to : ℕ) (entities : List Entity) (made : List ℕ) (made_to : ℕ) (others : List Entity) → AreSame (InEntity StandsInAscii msg) msg to entities made made_to others
    → AllByRecursion (λ (entity : Entity). AllByRecursion (λ raw. list_all is_ascii raw ≡ true) (raws_of made entity.block)) others
ascii_blocks msg to [] made made_to [] are = tt
ascii_blocks msg to [] made made_to (other ∷ others) are = absurd are
ascii_blocks msg to (entity ∷ entities) made made_to [] are = absurd are
ascii_blocks msg to (entity ∷ entities) made made_to (other ∷ others) are =
    (ascii_fields msg entity (raws_of msg entity.block) (raws_of made other.block) are.0.fields, ascii_blocks msg to entities made made_to others are.1)

-- Every octet of every header block of a surrogate is ASCII.
pub surrogate_blocks : (msg made : List ℕ) → HasSurrogate msg made → HasAsciiBlocks made
surrogate_blocks msg made has =
    let is = has.surrogate in
    record { entities = is.others; tree = is.made_tree; ascii = ascii_blocks msg _ is.entities made _ is.others is.same }

-- A message has one surrogate at most.
pub one_surrogate : (msg made other : List ℕ) → HasSurrogate msg made → HasSurrogate msg other → made ≡ other
one_surrogate msg made other has also = one_layout msg made other has.entities also.entities has.tree also.tree has.layout also.layout

-- What a rope gives is the surrogate of its message.
pub rope_surrogate : (msg : List ℕ) (rope : RopeValue) → IsRopeOf msg rope → HasSurrogate msg (octets_of msg rope)
rope_surrogate msg rope is = record { entities = is.entities; tree = is.tree; layout = is.layout; surrogate = is.surrogate }
