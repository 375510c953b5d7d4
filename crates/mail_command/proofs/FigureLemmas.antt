-- The figures of a message.
use Rattle.std.proofs.Common.{◌≡◌, ℕ, ◌+◌, List, [], ◌∷◌, length, refl, sym, ap, subst, ◌∙◌}
use Rattle.std.specs.Prelude.{if◌then◌else◌}
use Rattle.std.specs.List.{AllZip}
use Rattle.std.specs.Str.{bytes_eq}
use Rattle.mime_tree.specs.declared.entity.Entity.{Entity}
use Rattle.mime_tree.specs.Rewriting.{FieldRelation}
use Rattle.mime_tree.specs.Tree.{HasTree, has_high_block, raws_of}
use Rattle.mime_tree.proofs.OneTree.{one_tree}
use Rattle.field_downgrade.specs.Stands.{HasFieldLayout}
use Rattle.surrogate_rope.specs.Layout.{InEntity}
use Rattle.surrogate_rope.specs.Ropes.{CountsChanged, IsRopeOf, RopeValue, changed, octets_of, size_of}
use Rattle.surrogate_rope.proofs.OneLayout.{field_once}
use Rattle.surrogate_rope.proofs.RopeSizes.{rope_size}
use Rattle.surrogate_rope.proofs.SurrogateBlocks.{one_surrogate}
use Rattle.mail_command.specs.declared.figures.Figures.{Figures}
use Rattle.mail_command.specs.Checking.{HasFigures, TellsFigures, figures_text}

-- ---- the figures

-- a message's rope, and what is read off its tree
pub figures_had : (msg : List ℕ) (rope : RopeValue) (entities : List Entity) (figures : Figures) → HasTree msg entities → IsRopeOf msg rope → figures.octets ≡ length msg
    → figures.served ≡ size_of rope.pieces → figures.entities ≡ length entities → figures.rewritten ≡ rope.rewritten → figures.utf8 ≡ has_high_block msg entities → HasFigures msg figures
figures_had msg rope entities figures tree is octets served count rewritten high =
    let same : entities ≡ is.entities = one_tree msg entities is.entities tree is.tree in
    record {
      made = octets_of msg rope;
      surrogate = record { entities = is.entities; tree = is.tree; layout = is.layout; surrogate = is.surrogate };
      octets = octets;
      served = served ∙ sym (rope_size msg rope is);
      entities = count ∙ ap length same;
      rewritten = subst (CountsChanged (InEntity HasFieldLayout msg) msg is.entities) (sym rewritten) is.count;
      utf8 = high ∙ ap (has_high_block msg) same;
    }

-- ---- a message has one text of figures

changed_once : (Holds : List ℕ → List ℕ → Type 0) (raws mades others : List (List ℕ)) → ((raw made other : List ℕ) → Holds raw made → Holds raw other → made ≡ other) → AllZip Holds raws mades
    → AllZip Holds raws others → changed raws mades ≡ changed raws others
changed_once Holds [] mades others once all also = refl
changed_once Holds (raw ∷ raws) [] others once all also = absurd all
changed_once Holds (raw ∷ raws) (made ∷ mades) [] once all also = absurd also
changed_once Holds (raw ∷ raws) (made ∷ mades) (other ∷ others) once all also =
    ap (λ x. (if bytes_eq raw x then 0 else 1) + changed raws mades) (once raw made other all.0 also.0)
    ∙ ap (λ n. (if bytes_eq raw other then 0 else 1) + n) (changed_once Holds raws mades others once all.1 also.1)

counted_once : (IsMade : FieldRelation) (msg : List ℕ) (entities : List Entity) (count other : ℕ)
    → ((entity : Entity) (raw one two : List ℕ) → IsMade entity raw one → IsMade entity raw two → one ≡ two) → CountsChanged IsMade msg entities count → CountsChanged IsMade msg entities other → count ≡ other
counted_once IsMade msg [] count other once is also = is ∙ sym also
counted_once IsMade msg (entity ∷ entities) count other once is also =
    let fields = changed_once (IsMade entity) (raws_of msg entity.block) is.0 also.0 (once entity) is.2 also.2 in
    let rest = counted_once IsMade msg entities is.1 also.1 once is.4 also.4 in
    is.3 ∙ ap (λ n. n + is.1) fields ∙ ap (λ n. changed (raws_of msg entity.block) also.0 + n) rest ∙ sym also.3

same_text : (one other : Figures) → one.octets ≡ other.octets → one.served ≡ other.served → one.entities ≡ other.entities → one.rewritten ≡ other.rewritten → one.utf8 ≡ other.utf8
    → figures_text one ≡ figures_text other
same_text one other octets served entities rewritten high = rw (octets, served, entities, rewritten, high) refl

one_text : (msg : List ℕ) (one other : Figures) → HasFigures msg one → HasFigures msg other → figures_text one ≡ figures_text other
one_text msg one other is also =
    let made : is.made ≡ also.made = one_surrogate msg is.made also.made is.surrogate also.surrogate in
    let trees : is.surrogate.entities ≡ also.surrogate.entities = one_tree msg is.surrogate.entities also.surrogate.entities is.surrogate.tree also.surrogate.tree in
    let counts = subst (λ all. CountsChanged (InEntity HasFieldLayout msg) msg all one.rewritten) trees is.rewritten in
    same_text one other (is.octets ∙ sym also.octets) (is.served ∙ ap length made ∙ sym also.served) (is.entities ∙ ap length trees ∙ sym also.entities)
    (counted_once (InEntity HasFieldLayout msg) msg also.surrogate.entities one.rewritten other.rewritten (field_once msg) counts also.rewritten)
    (is.utf8 ∙ ap (has_high_block msg) trees ∙ sym also.utf8)

pub told_once : (msg text other : List ℕ) → TellsFigures msg text → TellsFigures msg other → text ≡ other
told_once msg text other is also = is.text_is ∙ one_text msg is.figures also.figures is.has also.has ∙ sym also.text_is
