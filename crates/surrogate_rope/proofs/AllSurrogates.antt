-- Every message with a tree has a surrogate.
use Rattle.std.proofs.Common.{◌≡◌, ◌↔◌, ◌⊎◌, inl, inr, IsTrue, ℕ, Bool, true, false, List, [], ◌∷◌, ◌++◌, length, map, slice_range, Option, Some, None, refl, sym, subst}
use Rattle.std.proofs.lemmas.Bool.{cases_Bool}
use Rattle.std.proofs.lemmas.List.Elements.{All-head, All-tail}
use Rattle.std.specs.List.{All, AllZip, concat}
use Rattle.std.specs.Prelude.{codes}
use Rattle.mail_wire.specs.Octets.{is_white, same_name}
use Rattle.mail_wire.specs.Folds.{unfolded}
use Rattle.utf8_fields.specs.declared.block.Field.{Field}
use Rattle.utf8_fields.specs.Block.{raw_of}
use Rattle.utf8_fields.proofs.TrimLemmas.{trimmed}
use Rattle.param_grammar.specs.declared.ParamKind.TheVariants.{Content}
use Rattle.param_grammar.proofs.DecideParams.{decide_params}
use Rattle.param_2231.proofs.GlobalLemmas.{decide_global}
use Rattle.mime_tree.specs.declared.entity.Entity.{Entity}
use Rattle.mime_tree.specs.declared.entity.Shape.{Shape}
use Rattle.mime_tree.specs.declared.entity.Shape.TheVariants.{Leaf, Multipart, Message}
use Rattle.mime_tree.specs.Openings.{IsFirstValue, IsValueWhere, AreFieldsWithin}
use Rattle.mime_tree.specs.Rewriting.{RewritesBlocks}
use Rattle.mime_tree.specs.Tree.{HasTree, raws_of}
use Rattle.mime_tree.proofs.TreeFields.{HasFieldsWithin, tree_fields}
use Rattle.mime_tree.proofs.KeptTrees.{trees_are_kept}
use Rattle.mime_tree.proofs.FieldsWithin.{IsFieldWithin}
use Rattle.field_downgrade.specs.Message.{IsServedField}
use Rattle.field_downgrade.specs.Stands.{HasFieldLayout}
use Rattle.field_downgrade.proofs.AllLayouts.{IsServed-some}
use Rattle.surrogate_rope.specs.Layout.{InEntity, IsOpenGlobal, StandsInAscii, HasSurrogate}
use Rattle.surrogate_rope.proofs.OpenGlobals.{closed, without_type, other_type}
use Rattle.surrogate_rope.proofs.ServedLines.{served_keeps_trees}
use Rattle.surrogate_rope.proofs.Weaker.{rewrites_weaker, same_weaker}
use Rattle.surrogate_rope.proofs.BuiltRopes.{served_layout, served_stands}

-- Of fields there is a first value of a name, or none has the name.
pub first_some : (msg name : List ℕ) (fields : List Field) → AreFieldsWithin msg fields → (value : Option (List ℕ)) × IsFirstValue name (map (raw_of msg) fields) value
first_some msg name [] are = (None, refl)
first_some msg name (field ∷ fields) are =
    let is = (All-head (IsFieldWithin msg) field fields are).1 in
    let later = first_some msg name fields (All-tail (IsFieldWithin msg) field fields are) in
    let text = trimmed is_white (unfolded is.parts.body) in
    elim (cases_Bool (same_name is.parts.name name)) [
      | inl same ↦ (
        Some text.0,
        (is.parts, is.has_parts, subst (λ b. IsValueWhere b is.parts.body (IsFirstValue name (map (raw_of msg) fields)) (Some text.0)) (sym same) (text.0, text.1, refl)),
      )
      | inr other ↦ (later.0, (is.parts, is.has_parts, subst (λ b. IsValueWhere b is.parts.body (IsFirstValue name (map (raw_of msg) fields)) later.0) (sym other) later.1))
    ]

-- whether an entity holds one message is decided
decide_shape : (shape : Shape) → (shape ≡ Message) ⊎ ¬ (shape ≡ Message)
decide_shape Message = inl refl
decide_shape Leaf = inr (λ same. cc same)
decide_shape Multipart = inr (λ same. cc same)

-- whether the entity is an opened message/global
record Decided (msg : List ℕ) (entity : Entity) : Type 0 where
  open_global : Bool
  is_open : IsTrue open_global ↔ IsOpenGlobal msg entity

-- it is one
opened : (msg : List ℕ) (entity : Entity) → IsOpenGlobal msg entity → Decided msg entity
opened msg entity is = record { open_global = true; is_open = (λ same. is, λ other. refl) }

-- it isn't one
shut : (msg : List ℕ) (entity : Entity) → ¬ IsOpenGlobal msg entity → Decided msg entity
shut msg entity none = record { open_global = false; is_open = closed msg entity none }

-- the first Content-Type decides
by_value : (msg : List ℕ) (entity : Entity) (value : Option (List ℕ)) → entity.shape ≡ Message → IsFirstValue (codes "Content-Type") (raws_of msg entity.block) value → Decided msg entity
by_value msg entity None shape first = shut msg entity (without_type msg entity first)
by_value msg entity (Some text) shape first = elim (decide_global text (decide_params Content text)) [
  | inl names ↦ opened msg entity (record { shape = shape; text = text; first = first; at = names.0; names = names.1 })
  | inr other ↦ shut msg entity (other_type msg entity text first other)
]

-- Whether an entity is an opened message/global is decided.
decide_open : (msg : List ℕ) (entity : Entity) → AreFieldsWithin msg entity.block.fields → Decided msg entity
decide_open msg entity are = elim (decide_shape entity.shape) [
  | inl shape ↦ let first = first_some msg (codes "Content-Type") entity.block.fields are in by_value msg entity first.0 shape first.1
  | inr other ↦ shut msg entity (λ is. other is.shape)
]

-- each field of an entity has a served form
fields_some : (msg : List ℕ) (entity : Entity) → Decided msg entity → (fields : List Field) → AreFieldsWithin msg fields
    → (mades : List (List ℕ)) × AllZip (InEntity IsServedField msg entity) (map (raw_of msg) fields) mades
fields_some msg entity decided [] are = ([], tt)
fields_some msg entity decided (field ∷ fields) are =
    let first = IsServed-some decided.open_global (raw_of msg field) (All-head (IsFieldWithin msg) field fields are).1 in
    let more = fields_some msg entity decided fields (All-tail (IsFieldWithin msg) field fields are) in
    (first.0 ∷ more.0, (record { open_global = decided.open_global; is_open = decided.is_open; holds = first.1 }, more.1))

-- so the blocks can be written anew
blocks_some : (msg : List ℕ) (from : ℕ) (entities : List Entity) → All (HasFieldsWithin msg) entities → (made : List ℕ) × RewritesBlocks (InEntity IsServedField msg) msg from (length msg) entities made
blocks_some msg from [] are = (slice_range msg from (length msg), refl)
blocks_some msg from (entity ∷ entities) are =
    let within = All-head (HasFieldsWithin msg) entity entities are in
    let fields = fields_some msg entity (decide_open msg entity within) entity.block.fields within in
    let rest = blocks_some msg entity.block.end entities (All-tail (HasFieldsWithin msg) entity entities are) in
    (slice_range msg from entity.at ++ (concat fields.0 ++ rest.0), (fields.0, rest.0, fields.1, refl, rest.1))

-- blocks that are served make a surrogate
served_surrogate : (msg made : List ℕ) (entities : List Entity) → HasTree msg entities → RewritesBlocks (InEntity IsServedField msg) msg 0 (length msg) entities made → HasSurrogate msg made
served_surrogate msg made entities tree blocks =
    let kept = trees_are_kept (InEntity IsServedField msg) msg made entities (served_keeps_trees msg) tree blocks in
    record {
      entities = entities;
      tree = tree;
      layout = rewrites_weaker (InEntity IsServedField msg) (InEntity HasFieldLayout msg) msg 0 (length msg) entities made (served_layout msg) blocks;
      surrogate = record {
        entities = entities;
        others = kept.0;
        tree = tree;
        made_tree = kept.1;
        same = same_weaker (InEntity IsServedField msg) (InEntity StandsInAscii msg) msg (length msg) entities made (length made) kept.0 (served_stands msg) kept.2;
      };
    }

-- A message with a tree has a surrogate.
pub some_surrogate : (msg : List ℕ) (entities : List Entity) → HasTree msg entities → (made : List ℕ) × HasSurrogate msg made
some_surrogate msg entities tree =
    let blocks = blocks_some msg 0 entities (tree_fields msg entities tree) in
    (blocks.0, served_surrogate msg blocks.0 entities tree blocks.1)
