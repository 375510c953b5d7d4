-- A field has one meaning.
use Rattle.std.proofs.Common.{◌≡◌, subst, List, ℕ}
use Rattle.utf8_fields.specs.Parts.{FieldParts}
use Rattle.utf8_fields.proofs.OneValue.{IsTrimmed-once}
use Rattle.mail_wire.specs.Octets.{is_white}
use Rattle.mail_wire.specs.Folds.{unfolded}
use Rattle.mail_wire.specs.Spans.{IsTrimmed}
use Rattle.field_downgrade.specs.Kinds.{kind_named}
use Rattle.field_downgrade.specs.Stands.{Meaning, Means, SaysAs}
use Rattle.field_downgrade.proofs.KindValues.{SaysAs-once}

-- a body has one value
pub HasValue-once : (body value other : List ℕ) → IsTrimmed is_white (unfolded body) value → IsTrimmed is_white (unfolded body) other → value ≡ other
HasValue-once body value other p q = IsTrimmed-once is_white (unfolded body) value other p q

pub Means-once : (f : FieldParts) (meaning other : Meaning) → Means f meaning → Means f other → meaning ≡ other
Means-once f meaning other p q =
    let same = HasValue-once f.body p.value q.value p.has_value q.has_value in
    SaysAs-once (kind_named f.name) f.name q.value meaning other (subst (λ (value : List ℕ). SaysAs (kind_named f.name) f.name value meaning) same p.says) q.says
