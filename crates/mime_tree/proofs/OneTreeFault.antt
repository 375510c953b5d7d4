-- The first fault of octets that have no tree is one.
use Rattle.std.proofs.Common.{◌≡◌, ◌≢◌, ℕ, suc, zero, List, [], ◌∷◌, Bool, false, inl, inr, refl, sym, ap, ◌∙◌, ◌⊎◌, subst, arith}
use Rattle.std.proofs.lemmas.Bool.{cases_lt}
use Rattle.mail_wire.specs.Lines.{lines_of}
use Rattle.mail_wire.specs.Message.{IsFaulty, IsSoundBelow}
use Rattle.mail_wire.proofs.MessageLemmas.{one_octet}
use Rattle.utf8_fields.specs.declared.block.FieldFault.{FieldFault}
use Rattle.utf8_fields.specs.declared.block.FieldFault.TheVariants.{NotField as FieldNotField, NotUtf8 as FieldNotUtf8, Memory as FieldMemory}
use Rattle.utf8_fields.proofs.NoFault.{no_fault}
use Rattle.utf8_fields.proofs.OneFault.{one_fault}
use Rattle.mime_tree.specs.declared.entity.TreeFault.{TreeFault}
use Rattle.mime_tree.specs.declared.entity.TreeFault.TheVariants.{Nul, BareCr, BareLf, NotField, NotUtf8, Memory}
use Rattle.mime_tree.specs.declared.openings.Opening.{Opening}
use Rattle.mime_tree.specs.declared.openings.Opening.TheVariants.{Nothing, Message, Parts}
use Rattle.mime_tree.specs.Parts.{Part, parts_of}
use Rattle.mime_tree.specs.Tree.{EntityRelation, IsEntity, raws_of, depth_max}
use Rattle.mime_tree.specs.Faults.{FaultRelation, IsFaultAmong, IsFaultInside, IsFaultOf, IsLineFault, IsFaultAt, IsOctetFault, IsTreeFault, told_of}
use Rattle.mime_tree.proofs.OneOpening.{one_opening}
use Rattle.mime_tree.proofs.OneTree.{same_head}
use Rattle.mime_tree.proofs.NoFaults.{AreApart, apart_entity}

-- ---- faulty octets

octet_faulty : (octets : List ℕ) (place : ℕ) (fault : TreeFault) → IsFaultAt octets place fault → IsFaulty octets place
octet_faulty octets place (Nul at) is = inl is.1
octet_faulty octets place (BareCr at) is = inr (inl is.1)
octet_faulty octets place (BareLf at) is = inr (inr is.1)
octet_faulty octets place (NotField at) is = absurd is
octet_faulty octets place (NotUtf8 at) is = absurd is
octet_faulty octets place Memory is = absurd is

same_octet : (octets : List ℕ) (place : ℕ) (fault other : TreeFault) → IsFaultAt octets place fault → IsFaultAt octets place other → fault ≡ other
same_octet octets place (Nul at) (Nul at') a b = ap Nul (a.0 ∙ sym b.0)
same_octet octets place (Nul at) (BareCr at') a b = absurd (omega (arith, one_octet octets place 0 13 a.1 b.1.0))
same_octet octets place (Nul at) (BareLf at') a b = absurd (omega (arith, one_octet octets place 0 10 a.1 b.1.0))
same_octet octets place (BareCr at) (Nul at') a b = absurd (omega (arith, one_octet octets place 13 0 a.1.0 b.1))
same_octet octets place (BareCr at) (BareCr at') a b = ap BareCr (a.0 ∙ sym b.0)
same_octet octets place (BareCr at) (BareLf at') a b = absurd (omega (arith, one_octet octets place 13 10 a.1.0 b.1.0))
same_octet octets place (BareLf at) (Nul at') a b = absurd (omega (arith, one_octet octets place 10 0 a.1.0 b.1))
same_octet octets place (BareLf at) (BareCr at') a b = absurd (omega (arith, one_octet octets place 10 13 a.1.0 b.1.0))
same_octet octets place (BareLf at) (BareLf at') a b = ap BareLf (a.0 ∙ sym b.0)
same_octet octets place (NotField at) other a b = absurd a
same_octet octets place (NotUtf8 at) other a b = absurd a
same_octet octets place Memory other a b = absurd a
same_octet octets place (Nul at) (NotField at') a b = absurd b
same_octet octets place (Nul at) (NotUtf8 at') a b = absurd b
same_octet octets place (Nul at) Memory a b = absurd b
same_octet octets place (BareCr at) (NotField at') a b = absurd b
same_octet octets place (BareCr at) (NotUtf8 at') a b = absurd b
same_octet octets place (BareCr at) Memory a b = absurd b
same_octet octets place (BareLf at) (NotField at') a b = absurd b
same_octet octets place (BareLf at) (NotUtf8 at') a b = absurd b
same_octet octets place (BareLf at) Memory a b = absurd b

-- two first places are one
one_place : (octets : List ℕ) (p q : ℕ) → IsFaulty octets p → IsSoundBelow octets p → IsFaulty octets q → IsSoundBelow octets q → p ≡ q
one_place octets p q here below there before = elim (cases_lt p q) [
  | inl early ↦ absurd (before p early here)
  | inr late ↦ elim (cases_lt q p) [
    | inl early ↦ absurd (below q early there)
    | inr other ↦ omega (arith, late, other)
  ]
]

one_octet_fault : (octets : List ℕ) (fault other : TreeFault) → IsOctetFault octets fault → IsOctetFault octets other → fault ≡ other
one_octet_fault octets fault other a b =
    let same : a.0 ≡ b.0 = one_place octets a.0 b.0 (octet_faulty octets a.0 fault a.1) a.2 (octet_faulty octets b.0 other b.1) b.2 in
    same_octet octets b.0 fault other (subst (λ p. IsFaultAt octets p fault) same a.1) b.1

-- ---- faulty lines

-- an entity's first faulty line and its fault are one
AreOneFault : FaultRelation → Type 0
AreOneFault IsFault = (digest : Bool) (at : ℕ) (lines : List (List ℕ)) (fault other : FieldFault) → IsFault digest at lines fault → IsFault digest at lines other
    → fault ≢ FieldMemory → other ≢ FieldMemory → fault ≡ other

one_among : (IsOne : EntityRelation) (IsFault : FaultRelation) → AreOneFault IsFault → AreApart IsOne IsFault → (digest : Bool) (all : List Part) (fault other : FieldFault)
    → IsFaultAmong IsOne IsFault digest all fault → IsFaultAmong IsOne IsFault digest all other → fault ≢ FieldMemory → other ≢ FieldMemory → fault ≡ other
unfolding AreOneFault AreApart
one_among IsOne IsFault one apart digest [] fault other a b some some' = absurd a
one_among IsOne IsFault one apart digest (part ∷ all) fault other (inl a) (inl b) some some' = one digest part.at part.lines fault other a b some some'
one_among IsOne IsFault one apart digest (part ∷ all) fault other (inl a) (inr b) some some' = absurd (some (apart b.0.0 digest b.0.1 part.at part.lines b.0.2 fault b.0.3 a))
one_among IsOne IsFault one apart digest (part ∷ all) fault other (inr a) (inl b) some some' = absurd (some' (apart a.0.0 digest a.0.1 part.at part.lines a.0.2 other a.0.3 b))
one_among IsOne IsFault one apart digest (part ∷ all) fault other (inr a) (inr b) some some' = one_among IsOne IsFault one apart digest all fault other a.1 b.1 some some'

one_inside : (IsOne : EntityRelation) (IsFault : FaultRelation) → AreOneFault IsFault → AreApart IsOne IsFault → (opening : Opening) (body : ℕ) (content : List (List ℕ)) (fault other : FieldFault)
    → IsFaultInside IsOne IsFault opening body content fault → IsFaultInside IsOne IsFault opening body content other → fault ≢ FieldMemory → other ≢ FieldMemory → fault ≡ other
unfolding AreOneFault
one_inside IsOne IsFault one apart Nothing body content fault other a b some some' = absurd a
one_inside IsOne IsFault one apart Message body content fault other a b some some' = one false body content fault other a b some some'
one_inside IsOne IsFault one apart (Parts boundary digest) body content fault other a b some some' =
    one_among IsOne IsFault one apart digest (parts_of boundary body content) fault other a b some some'

one_by : (levels : ℕ) (octets : List ℕ) (digest : Bool) (at : ℕ) (lines : List (List ℕ)) (fault other : FieldFault) → AreOneFault (IsFaultOf levels octets)
    → IsFaultOf (suc levels) octets digest at lines fault → IsFaultOf (suc levels) octets digest at lines other → fault ≢ FieldMemory → other ≢ FieldMemory → fault ≡ other
unfolding IsFaultOf
one_by levels octets digest at lines fault other one (inl a) (inl b) some some' = one_fault lines at fault other a b some some'
one_by levels octets digest at lines fault other one (inl a) (inr b) some some' = absurd (some (no_fault lines at b.0.block.fields b.0.block.end fault b.0.head.has_block a))
one_by levels octets digest at lines fault other one (inr a) (inl b) some some' = absurd (some' (no_fault lines at a.0.block.fields a.0.block.end other a.0.head.has_block b))
one_by levels octets digest at lines fault other one (inr a) (inr b) some some' =
    let same = same_head at lines a.0.block b.0.block a.0.body b.0.body a.0.content b.0.content a.0.head b.0.head in
    let opens = rw (← same.block) at b.2 in
    let opening : a.1 ≡ b.1 = one_opening digest (raws_of octets a.0.block) a.1 b.1 a.2 opens in
    let moved = rw (← same.body_same, ← same.content_same, ← opening) at b.3 in
    one_inside (IsEntity levels octets) (IsFaultOf levels octets) one (apart_entity levels octets) a.1 a.0.body a.0.content fault other a.3 moved some some'

one_line_fault : (levels : ℕ) (octets : List ℕ) → AreOneFault (IsFaultOf levels octets)
unfolding AreOneFault IsFaultOf
one_line_fault zero octets = λ digest at lines fault other a b some some'. one_fault lines at fault other a b some some'
one_line_fault (suc levels) octets = λ digest at lines fault other a b some some'. one_by levels octets digest at lines fault other (one_line_fault levels octets) a b some some'

same_line : (octets : List ℕ) (fault other : FieldFault) → IsLineFault octets fault → IsLineFault octets other → fault ≢ FieldMemory → other ≢ FieldMemory → fault ≡ other
unfolding AreOneFault
same_line octets fault other a b some some' = one_line_fault depth_max octets false 0 (lines_of octets) fault other a.1 b.1 some some'

-- ---- both

-- whether a fault is one of an octet, or one of a line
FaultKind : List ℕ → TreeFault → Type 0
FaultKind octets fault = IsOctetFault octets fault ⊎ ((line : FieldFault) × IsLineFault octets line × (line ≢ FieldMemory) × (fault ≡ told_of line))

kind_of : (octets : List ℕ) (fault : TreeFault) → IsTreeFault octets fault → fault ≢ Memory → FaultKind octets fault
unfolding FaultKind
kind_of octets (Nul at) is some = inl is
kind_of octets (BareCr at) is some = inl is
kind_of octets (BareLf at) is some = inl is
kind_of octets (NotField at) is some = inr (FieldNotField at, is, λ e. cc e, refl)
kind_of octets (NotUtf8 at) is some = inr (FieldNotUtf8 at, is, λ e. cc e, refl)
kind_of octets Memory is some = absurd (some refl)

one_kind : (octets : List ℕ) (fault other : TreeFault) → FaultKind octets fault → FaultKind octets other → fault ≡ other
unfolding FaultKind
one_kind octets fault other (inl a) (inl b) = one_octet_fault octets fault other a b
one_kind octets fault other (inl a) (inr b) = absurd (b.1.0 a.0 (octet_faulty octets a.0 fault a.1))
one_kind octets fault other (inr a) (inl b) = absurd (a.1.0 b.0 (octet_faulty octets b.0 other b.1))
one_kind octets fault other (inr a) (inr b) = a.3 ∙ ap told_of (same_line octets a.0 b.0 a.1 b.1 a.2 b.2) ∙ sym b.3

-- two faults of one message are the same, where memory isn't wanting
pub one_tree_fault : (octets : List ℕ) (fault other : TreeFault) → IsTreeFault octets fault → IsTreeFault octets other → fault ≢ Memory → other ≢ Memory → fault ≡ other
one_tree_fault octets fault other a b some some' = one_kind octets fault other (kind_of octets fault a some) (kind_of octets other b some')

-- a fault that was found is that of the octets, unless memory was wanting
pub found_or_memory : (octets : List ℕ) (found fault : TreeFault) → IsTreeFault octets found → IsTreeFault octets fault → fault ≢ Memory → (found ≡ fault) ⊎ (found ≡ Memory)
found_or_memory octets (Nul at) fault a b some = inl (one_tree_fault octets (Nul at) fault a b (λ e. cc e) some)
found_or_memory octets (BareCr at) fault a b some = inl (one_tree_fault octets (BareCr at) fault a b (λ e. cc e) some)
found_or_memory octets (BareLf at) fault a b some = inl (one_tree_fault octets (BareLf at) fault a b (λ e. cc e) some)
found_or_memory octets (NotField at) fault a b some = inl (one_tree_fault octets (NotField at) fault a b (λ e. cc e) some)
found_or_memory octets (NotUtf8 at) fault a b some = inl (one_tree_fault octets (NotUtf8 at) fault a b (λ e. cc e) some)
found_or_memory octets Memory fault a b some = inr refl
