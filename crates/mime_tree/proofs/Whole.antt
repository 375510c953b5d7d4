-- The whole message as an entity.
use Rattle.std.proofs.Common.{◌≡◌, ℕ, List, [], ◌∷◌, Bool, false, refl, ap, ◌∙◌, None}
use Rattle.utf8_fields.specs.declared.block.FieldFault.{FieldFault}
use Rattle.utf8_fields.specs.declared.block.FieldFault.TheVariants.{NotField as FieldNotField, NotUtf8 as FieldNotUtf8, Memory as FieldMemory}
use Rattle.mime_tree.specs.declared.entity.Entity.{Entity}
use Rattle.mime_tree.specs.declared.reading.Stop.{Stop}
use Rattle.mail_wire.specs.Message.{IsSound}
use Rattle.mime_tree.specs.private.Open.{is_marked_text, begins_marked, region}
use Rattle.mime_tree.specs.Tree.{HasTree}
use Rattle.mime_tree.specs.Faults.{IsTreeFault, IsFaultOf, told_of}
use Rattle.mime_tree.specs.private.Reading.{region_at, IsEntityRead}
use Rattle.mime_tree.proofs.LinesAt.{no_mark}

none_by : (line : List ℕ) (rest : List (List ℕ)) → region [] rest ≡ rest → (b : Bool) → begins_marked [] rest ≡ b → b ≡ false → region [] (line ∷ rest) ≡ line ∷ rest
unfolding region is_marked_text
none_by line rest same b b_is other = rw (b_is ∙ other) (ap (λ all. line ∷ all) same)

-- with no open boundary all lines are the entity's
pub region-none : (lines : List (List ℕ)) → region [] lines ≡ lines
unfolding region is_marked_text
region-none [] = refl
region-none (line ∷ rest) = none_by line rest (region-none rest) (begins_marked [] rest) refl (no_mark rest)

pub whole_tree : (octets : List ℕ) (entities : List Entity) (stop : Stop) → IsSound octets → IsEntityRead 32 [] octets None false (record { from = 0; at = 0 }) [] entities stop → HasTree octets entities
whole_tree octets entities stop message read = record { is_message = message; root = rw read.added (rw region-none at read.entity) }

pub whole_fault : (octets : List ℕ) (fault : FieldFault) → IsSound octets → IsFaultOf 32 octets false 0 (region_at [] octets 0) fault → IsTreeFault octets (told_of fault)
whole_fault octets (FieldNotField at) message is = (message, rw region-none at is)
whole_fault octets (FieldNotUtf8 at) message is = (message, rw region-none at is)
whole_fault octets FieldMemory message is = tt
