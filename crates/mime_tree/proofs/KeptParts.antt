-- What is in an entity is kept where fields are written anew.
use Rattle.std.proofs.Common.{ℕ, ◌+◌, List, [], false, Some, refl, sym, ◌∙◌}
use Rattle.std.specs.List.{concat}
use Rattle.utf8_fields.proofs.LineShapes.{AreLines}
use Rattle.mime_tree.specs.declared.entity.Entity.{Entity}
use Rattle.mime_tree.specs.declared.entity.Shape.{Shape}
use Rattle.mime_tree.specs.declared.openings.Opening.{Opening}
use Rattle.mime_tree.specs.declared.openings.Opening.TheVariants.{Nothing, Message, Parts}
use Rattle.mime_tree.specs.Parts.{size}
use Rattle.mime_tree.specs.Tree.{IsOpened, IsEntity}
use Rattle.mime_tree.specs.Rewriting.{FieldRelation, RewritesBlocks}
use Rattle.mime_tree.proofs.Standing.{Stands, HasNewLines, Keeps}
use Rattle.mime_tree.proofs.InPlace.{stands_slice}
use Rattle.mime_tree.proofs.KeptPieces.{division_kept}

-- what is in an entity
pub opened_kept : (IsMade : FieldRelation) (levels : ℕ) (octets new : List ℕ) → Keeps IsMade octets new (IsEntity levels octets) (IsEntity levels new) → (opening : Opening) (number at : ℕ) (content : List (List ℕ)) (shape : Shape)
    (inner : List Entity) (made : List ℕ) (new_at : ℕ) → IsOpened (IsEntity levels octets) opening number at content shape inner
    → AreLines content → Stands octets at (concat content) → RewritesBlocks IsMade octets at (at + size content) inner made → Stands new new_at made
    → HasNewLines IsMade octets at content inner new new_at made (λ new_content others. IsOpened (IsEntity levels new) opening number new_at new_content shape others)
opened_kept IsMade levels octets new keeps Nothing number at content shape inner made new_at is are stands rewritten new_stands =
    let nothing = rw is.1 at rewritten in
    record {
      new_lines = content;
      others = [];
      whole = sym (nothing ∙ stands_slice octets at (at + size content) (concat content) refl stands);
      are = are;
      sound = λ sound. sound;
      unmarked = λ boundary unmarked. unmarked;
      holds = (is.0, refl);
      same = rw is.1 tt;
    }
opened_kept IsMade levels octets new keeps Message number at content shape inner made new_at is are stands rewritten new_stands =
    let kept = keeps (Some number) false (number + 1) at content inner made new_at is.1 are stands rewritten new_stands in
    record {
      new_lines = kept.new_lines;
      others = kept.others;
      whole = kept.whole;
      are = kept.are;
      sound = kept.sound;
      unmarked = kept.unmarked;
      holds = (is.0, kept.holds);
      same = kept.same;
    }
opened_kept IsMade levels octets new keeps (Parts boundary digest) number at content shape inner made new_at is are stands rewritten new_stands =
    (division_kept IsMade levels octets new keeps boundary digest number shape content at inner made new_at is are stands rewritten new_stands).has
