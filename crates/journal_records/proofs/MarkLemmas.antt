-- The mark of octets that may be kept.
use Rattle.std.proofs.Common.{◌≡◌, ℕ, ◌+◌, ◌<◌, Bool, true, false, List, Option, Some, refl, sym, ap, subst, ◌∙◌, arith}
use Rattle.std.specs.Prelude.{IfSome, if◌then◌else◌}
use Rattle.mail_wire.specs.Octets.{is_high}
use Rattle.mime_tree.specs.Tree.{has_high_block}
use Rattle.mime_tree.proofs.OneTree.{one_tree}
use Rattle.journal_records.specs.Stored.{IsStored, HasMark, IsStoredWith, mark_in}

-- octets with a tree have a mark
pub mark_there : (octets : List ℕ) → IsStored octets → (mark : ℕ) × HasMark octets mark
mark_there octets stored = (mark_in octets stored.entities, record { entities = stored.entities; tree = stored.tree; mark_is = refl })

pub mark_stored : (octets : List ℕ) (mark : ℕ) → HasMark octets mark → IsStored octets
mark_stored octets mark has = record { entities = has.entities; tree = has.tree }

-- they have one, since they have one tree
pub mark_once : (octets : List ℕ) (mark other : ℕ) → HasMark octets mark → HasMark octets other → mark ≡ other
mark_once octets mark other a b =
    a.mark_is ∙ ap (mark_in octets) (one_tree octets a.entities b.entities a.tree b.tree) ∙ sym b.mark_is

two_bits : (a b : Bool) → (if a then 1 else 0) + (if b then 2 else 0) < 4
two_bits true true = omega arith
two_bits true false = omega arith
two_bits false true = omega arith
two_bits false false = omega arith

pub mark_below : (octets : List ℕ) (mark : ℕ) → HasMark octets mark → mark < 4
mark_below octets mark has = subst (λ (n : ℕ). n < 4) (sym has.mark_is) (two_bits (has_high_block octets has.entities) (is_high octets))

-- another mark than that which was found
pub other_mark : (octets seen : List ℕ) (given found : Option ℕ) (mark own : ℕ) → seen ≡ octets → given ≡ Some mark → found ≡ Some own → IfSome found (HasMark seen)
    → (mark ≡ own → ⊥) → IsStoredWith given octets → ⊥
other_mark octets seen given found mark own same is was has other stored =
    let theirs : HasMark seen own = subst (λ (o : Option ℕ). IfSome o (HasMark seen)) was has in
    let comes : HasMark octets mark = subst (λ (o : Option ℕ). IsStoredWith o octets) is stored in
    other (mark_once octets mark own comes (subst (λ (text : List ℕ). HasMark text own) same theirs))
