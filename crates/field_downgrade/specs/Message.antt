-- What a field is served as (RFC 6857).
use Rattle.std.specs.Prelude.{◌≡◌, ◌≢◌, ℕ, Bool, true, false, List, ◌++◌}
use Rattle.std.specs.List.{list_all}
use Rattle.mail_wire.specs.Octets.{is_ascii}
use Rattle.field_downgrade.specs.Stands.{HasFieldLayout, Stands, KeepsLines}

-- The made field is the one of the layout. It stands for the original, is ASCII, and keeps the lines.
pub record IsServedField (open_global : Bool) (raw made : List ℕ) : Type 0 where
  pub layout : HasFieldLayout open_global raw made
  pub stands : Stands raw made open_global
  pub ascii : list_all is_ascii made ≡ true
  pub lines : KeepsLines raw made

-- The served field stands at the end of the octets, where it is another one than the field itself, and else nothing was put there.
abbrev pub PutsServed : Bool → List ℕ → Bool → List ℕ → List ℕ → Type 0
PutsServed open_global raw true old new = (field : List ℕ) × IsServedField open_global raw field × (field ≢ raw) × (new ≡ old ++ field)
PutsServed open_global raw false old new = IsServedField open_global raw raw × (new ≡ old)
