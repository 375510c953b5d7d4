-- Fields open an entity in one way at most.
use Rattle.std.proofs.Common.{◌≡◌, ◌∙◌, ◌⊎◌, ℕ, List, [], ◌∷◌, Bool, true, false, Option, Some, None, inl, inr, sym, ap}
use Rattle.std.specs.Prelude.{codes}
use Rattle.mail_wire.specs.Octets.{is_white, same_name}
use Rattle.mail_wire.specs.Folds.{unfolded}
use Rattle.utf8_fields.proofs.OneField.{HasParts-once}
use Rattle.utf8_fields.proofs.OneValue.{IsTrimmed-once}
use Rattle.param_grammar.specs.declared.ParamKind.TheVariants.{Content}
use Rattle.param_grammar.proofs.SaidParams.{SaysParams-once}
use Rattle.mime_tree.specs.declared.openings.Opening.{Opening}
use Rattle.mime_tree.specs.declared.openings.Opening.TheVariants.{Nothing}
use Rattle.mime_tree.specs.Openings.{IsFirstValue, IsValueWhere, IsIdentity, OpensByText, OpensByType, OpensByFields, Opens}

value_once : (is : Bool) (body : List ℕ) (IsLater : Option (List ℕ) → Type 0) → ((v w : Option (List ℕ)) → IsLater v → IsLater w → v ≡ w)
    → (v w : Option (List ℕ)) → IsValueWhere is body IsLater v → IsValueWhere is body IsLater w → v ≡ w
value_once true body IsLater once v w a b = a.2 ∙ ap Some (IsTrimmed-once is_white (unfolded body) a.0 b.0 a.1 b.1) ∙ sym b.2
value_once false body IsLater once v w a b = once v w a b

-- the first value of a name is one
pub first_once : (name : List ℕ) (raws : List (List ℕ)) (v w : Option (List ℕ)) → IsFirstValue name raws v → IsFirstValue name raws w → v ≡ w
first_once name [] v w a b = a ∙ sym b
first_once name (raw ∷ raws) v w a b =
    let parts : a.0 ≡ b.0 = HasParts-once raw a.0 b.0 a.1 b.1 in
    value_once (same_name a.0.name name) a.0.body (IsFirstValue name raws) (first_once name raws) v w a.2 (rw (← parts) at b.2)

text_once : (text : List ℕ) (opening other : Opening) → OpensByText text opening → OpensByText text other → opening ≡ other
text_once text opening other (inl a) (inl b) =
    let same = SaysParams-once Content text a.0 b.0 a.1 b.1 a.2 b.2 a.3 b.3 in
    a.4 ∙ rw (same.main, same.params) (sym b.4)
text_once text opening other (inl a) (inr b) = absurd (b.0 a.0 a.1 a.2 a.3)
text_once text opening other (inr a) (inl b) = absurd (a.0 b.0 b.1 b.2 b.3)
text_once text opening other (inr a) (inr b) = a.1 ∙ sym b.1

type_once : (digest : Bool) (text : Option (List ℕ)) (opening other : Opening) → OpensByType digest text opening → OpensByType digest text other → opening ≡ other
type_once digest None opening other a b = a ∙ sym b
type_once digest (Some text) opening other a b = text_once text opening other a b

fields_once : (digest : Bool) (raws : List (List ℕ)) (opening other : Opening) → OpensByFields digest raws opening → OpensByFields digest raws other → opening ≡ other
fields_once digest raws opening other a b =
    let same : a.0 ≡ b.0 = first_once (codes "Content-Type") raws a.0 b.0 a.1 b.1 in
    type_once digest a.0 opening other a.2 (rw (← same) at b.2)

pub one_opening : (digest : Bool) (raws : List (List ℕ)) (opening other : Opening) → Opens digest raws opening → Opens digest raws other → opening ≡ other
one_opening digest raws opening other a b =
    let same : a.encoding ≡ b.encoding = first_once (codes "Content-Transfer-Encoding") raws a.encoding b.encoding a.is_encoding b.is_encoding in
    go a.opened (rw (← same) at b.opened)
  where
    go : ((IsIdentity a.encoding × OpensByFields digest raws opening) ⊎ ((¬ IsIdentity a.encoding) × (opening ≡ Nothing)))
        → ((IsIdentity a.encoding × OpensByFields digest raws other) ⊎ ((¬ IsIdentity a.encoding) × (other ≡ Nothing))) → opening ≡ other
    go (inl x) (inl y) = fields_once digest raws opening other x.1 y.1
    go (inl x) (inr y) = absurd (y.0 x.0)
    go (inr x) (inl y) = absurd (x.0 y.0)
    go (inr x) (inr y) = x.1 ∙ sym y.1
