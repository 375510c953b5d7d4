-- The marks of octets in ASCII.
use Rattle.std.proofs.Common.{◌≡◌, ℕ, ◌+◌, ◌-◌, List, [], ◌∷◌, true, false, not, map, drop, refl, ap}
use Rattle.std.specs.Prelude.{slice_range}
use Rattle.std.specs.List.{list_all, list_any}
use Rattle.journal_records.specs.Stored.{HasMark, IsStored}
use Rattle.mail_wire.specs.Octets.{is_ascii, is_high}
use Rattle.mail_wire.proofs.AllLemmas.{pass-drop, pass-take}
use Rattle.mime_tree.specs.Tree.{has_high_block}
use Rattle.mime_tree.specs.declared.entity.Entity.{Entity}
use Rattle.session_core.proofs.StoredLemmas.{stored-nothing}

-- a part of them is in ASCII too
low_part : (octets : List ℕ) (at end : ℕ) → list_all is_ascii octets ≡ true → is_high (slice_range octets at end) ≡ false
low_part octets at end low = ap not (pass-take is_ascii (end - at) (drop at octets) (pass-drop is_ascii at octets low))

none_high : {X : Type 0} (part_of : X → List ℕ) (xs : List X) → ((x : X) → is_high (part_of x) ≡ false) → list_any is_high (map part_of xs) ≡ false
none_high part_of [] low = refl
none_high part_of (x ∷ xs) low = rw (low x, none_high part_of xs low) refl

low_blocks : (octets : List ℕ) (entities : List Entity) → list_all is_ascii octets ≡ true → has_high_block octets entities ≡ false
low_blocks octets [] low = refl
low_blocks octets (entity ∷ entities) low =
    rw (none_high _ entity.block.fields (λ field. low_part octets field.raw.at (field.raw.at + field.raw.len) low), low_blocks octets entities low) refl

-- their mark is 0
pub ascii_mark : (octets : List ℕ) → IsStored octets → list_all is_ascii octets ≡ true → HasMark octets 0
ascii_mark octets stored low = record { entities = stored.entities; tree = stored.tree; mark_is = rw (low_blocks octets stored.entities low, low) refl }

-- so is that of no octets
pub marked-nothing : HasMark [] 0
marked-nothing = ascii_mark [] stored-nothing refl
