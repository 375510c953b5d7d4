-- Fields that are put before a message.
use Rattle.std.proofs.Common.{◌≡◌, ℕ, ◌+◌, List, [], ◌∷◌, ◌++◌, false, ◌||◌, length, map, None, refl, sym, ap, ◌∙◌, arith, subst, append_assoc, length-append}
use Rattle.std.specs.List.{AllByRecursion, concat, list_any}
use Rattle.std.proofs.lemmas.List.Elements.{recursion_from_All}
use Rattle.std.proofs.lemmas.List.Folds.{concat-append}
use Rattle.mail_wire.specs.Lines.{lines_of}
use Rattle.mail_wire.specs.Message.{IsSound}
use Rattle.mail_wire.specs.Octets.{is_high}
use Rattle.mail_wire.proofs.LineLemmas.{concat_lines_of}
use Rattle.mail_wire.proofs.AllLemmas.{all-append}
use Rattle.utf8_fields.specs.declared.block.Field.{Field}
use Rattle.utf8_fields.specs.Block.{IsFieldAt, AreFields, raw_of}
use Rattle.utf8_fields.proofs.Raws.{raw_of-lines}
use Rattle.mime_tree.specs.declared.entity.Entity.{Entity}
use Rattle.mime_tree.specs.Openings.{IsOtherField}
use Rattle.mime_tree.specs.Tree.{IsEntity, HasTree, depth_max, has_high_block}
use Rattle.mime_tree.proofs.Standing.{Stands, AreEnded}
use Rattle.mime_tree.proofs.FieldLines.{field_lines}
use Rattle.mime_tree.proofs.LinesAgain.{lines_of-front, Stands-whole, Stands-back, sound_append, sound_concat}
use Rattle.mime_tree.proofs.MovedTrees.{front_entity}

-- the lines and the fields of raw fields
record HasFrontFields (at : ℕ) (raws : List (List ℕ)) : Type 0 where
  lines : List (List ℕ)
  fields : List Field
  end : ℕ
  whole : concat lines ≡ concat raws
  are : AreFields lines at fields end
  end_is : end ≡ at + length (concat raws)
  ended : AreEnded lines
  sound : AllByRecursion IsSound lines
  raws_are : (octets before after : List ℕ) → octets ≡ before ++ (concat raws ++ after) → length before ≡ at → map (raw_of octets) fields ≡ raws

front_fields : (at : ℕ) (raws : List (List ℕ)) → AllByRecursion IsOtherField raws → HasFrontFields at raws
front_fields at [] all = record {
  lines = [];
  fields = [];
  end = at;
  whole = refl;
  are = (refl, refl);
  end_is = omega arith;
  ended = tt;
  sound = tt;
  raws_are = λ octets before after is place. refl;
}
front_fields at (raw ∷ raws) all =
    let field = all.0 in
    let one = field_lines at raw field.f field.is_field field.no_nul in
    let later = front_fields (at + one.field.raw.len) raws all.1 in
    let is_field : IsFieldAt at one.field one.first one.more = one.is_field in
    let lines : List (List ℕ) = one.first ∷ one.more in
    let raw_len : one.field.raw.len ≡ length raw = is_field.raw_len ∙ ap length one.whole in
    let later_end = later.end_is in
    let sizes = length-append raw (concat raws) in
    record {
      lines = lines ++ later.lines;
      fields = one.field ∷ later.fields;
      end = later.end;
      whole = concat-append lines later.lines ∙ ap (λ text. text ++ concat later.lines) one.whole ∙ ap (λ text. raw ++ text) later.whole;
      are = (one.first, one.more, later.lines, refl, is_field, later.are);
      end_is = omega arith;
      ended = all-append _ lines later.lines (one.ended field.ending) later.ended;
      sound = all-append IsSound lines later.lines (recursion_from_All IsSound lines is_field.sound) later.sound;
      raws_are = λ octets before after is place.
          let split : octets ≡ before ++ (raw ++ (concat raws ++ after)) = is ∙ ap (λ text. before ++ text) (append_assoc raw (concat raws) after) in
          let first = raw_of-lines octets before raw (concat raws ++ after) at one.field split place is_field.raw_at raw_len in
          let rest = later.raws_are octets (before ++ raw) after (split ∙ sym (append_assoc before raw (concat raws ++ after))) (omega (arith, length-append before raw)) in
          ap (λ text. text ∷ map (raw_of octets) later.fields) first ∙ ap (λ all. raw ∷ all) rest;
    }

-- A message with a tree has one too after such fields.
pub front_tree : (octets : List ℕ) (fields : List (List ℕ)) (entities : List Entity) → HasTree octets entities → AllByRecursion IsOtherField fields
    → (others : List Entity) × HasTree (concat fields ++ octets) others × (length others ≡ length entities)
    × (has_high_block (concat fields ++ octets) others ≡ (list_any is_high fields || has_high_block octets entities))
front_tree octets fields entities tree are_others =
    let new : List ℕ = concat fields ++ octets in
    let front = front_fields 0 fields are_others in
    let raws : map (raw_of new) front.fields ≡ fields = front.raws_are new [] octets refl refl in
    let whole = concat_lines_of octets in
    let old : Stands octets 0 (concat (lines_of octets)) = subst (Stands octets 0) (sym whole) (Stands-whole octets) in
    let following : Stands new front.end octets = subst (λ n. Stands new n octets) (sym front.end_is) (Stands-back new 0 (concat fields) octets (Stands-whole new)) in
    let stands : Stands new front.end (concat (lines_of octets)) = subst (Stands new front.end) (sym whole) following in
    let moved = front_entity depth_max octets new front.lines front.fields front.end None false 0 0 0 (lines_of octets) entities front.are (subst (AllByRecursion IsOtherField) (sym raws) are_others) tree.root old stands in
    let lines : lines_of new ≡ front.lines ++ lines_of octets = ap (λ text. lines_of (text ++ octets)) (sym front.whole) ∙ lines_of-front front.lines octets front.ended in
    let front_sound : IsSound (concat fields) = subst IsSound front.whole (sound_concat front.lines front.sound) in (
      moved.others,
      record {
        is_message = sound_append (concat fields) octets front_sound tree.is_message;
        root = subst (λ all. IsEntity depth_max new None false 0 0 all moved.others) (sym lines) moved.is;
      },
      moved.count,
      subst (λ all. has_high_block new moved.others ≡ (list_any is_high all || has_high_block octets entities)) raws moved.high_is,
    )
