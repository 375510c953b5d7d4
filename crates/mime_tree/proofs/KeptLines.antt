-- The lines of fields that keep their lines.
use Rattle.std.proofs.Common.{◌≡◌, ℕ, ◌+◌, Bool, true, false, ◌⊎◌, inl, inr, List, [], ◌∷◌, ◌++◌, length, map, nat_eq, refl, sym, ap, ◌∙◌, subst, arith, append_assoc, append-nil, length-append}
use Rattle.std.specs.List.{AllZip, AllByRecursion, flat_map, concat, starts_with}
use Rattle.std.proofs.lemmas.Bool.Decides.{nat_tests}
use Rattle.std.proofs.lemmas.Bool.{both_ways}
use Rattle.std.proofs.lemmas.List.Folds.{concat-append}
use Rattle.std.proofs.lemmas.List.Elements.{recursion_from_All}
use Rattle.mail_wire.specs.Octets.{is_white, is_line_end}
use Rattle.mail_wire.specs.Lines.{crlf}
use Rattle.mail_wire.specs.Message.{IsNul, IsSound}
use Rattle.mail_wire.specs.Folds.{FoldedItem, Octet, Fold, IsFoldedItem, item_octets}
use Rattle.mail_wire.proofs.AllLemmas.{all-append, all-front, all-back}
use Rattle.utf8_fields.specs.declared.block.Field.{Field}
use Rattle.utf8_fields.specs.Lines.{BeginsWhite}
use Rattle.utf8_fields.specs.Parts.{FieldParts, HasParts}
use Rattle.utf8_fields.specs.Block.{IsFieldAt, AreFields, raw_of}
use Rattle.utf8_fields.proofs.LineShapes.{EndsOnce, AreLines, AreLines-front, AreLines-back}
use Rattle.utf8_fields.proofs.FirstField.{field_of}
use Rattle.utf8_fields.proofs.Raws.{raw_of-lines}
use Rattle.mime_tree.specs.Marks.{text_of, dashes, is_delimiter, is_close}
use Rattle.mime_tree.specs.Rewriting.{KeepsLine}
use Rattle.mime_tree.proofs.Texts.{text_apart}
use Rattle.mime_tree.proofs.Padded.{is_padded-append}
use Rattle.mime_tree.proofs.FieldLines.{HasFieldLines, field_lines, no_nul_in_lines}
use Rattle.mime_tree.proofs.Standing.{Stands, AreEnded, IsUnmarked, AreUnmarked, HasNewBlock}
use Rattle.mime_tree.proofs.LinesAgain.{AreEnded-front, AreLines-ended}

-- a line whose text doesn't begin with hyphens isn't one of a boundary
unmarked_text : (boundary line : List ℕ) → starts_with nat_eq (text_of line) dashes ≡ false → IsUnmarked boundary line
unfolding is_delimiter is_close
unmarked_text boundary line apart = record {
  delimiter = rw (is_padded-append dashes boundary (text_of line), apart) refl;
  close = rw (is_padded-append dashes (boundary ++ dashes) (text_of line), apart) refl;
}

white_apart : (w : ℕ) (t : List ℕ) → is_white w ≡ true → starts_with nat_eq (w ∷ t) dashes ≡ false
white_apart w t white =
    let differ : nat_eq 45 w ≡ false = grind (arith, nat_tests) in rw differ refl

-- lines that begin with white aren't lines of a boundary
white_unmarked : (boundary : List ℕ) (lines : List (List ℕ)) → AllByRecursion BeginsWhite lines → AreUnmarked boundary lines
white_unmarked boundary [] white = tt
white_unmarked boundary ([] ∷ lines) white = absurd white.0
white_unmarked boundary ((w ∷ line) ∷ lines) white = (
  unmarked_text boundary (w ∷ line) (text_apart (w ∷ line) [] (white_apart w (line ++ []) white.0)),
  white_unmarked boundary lines white.1,
)

-- an LF comes last
abbrev ends_lf : List ℕ → Bool
ends_lf [] = false
ends_lf (x ∷ []) = nat_eq x 10
ends_lf (x ∷ y ∷ rest) = ends_lf (y ∷ rest)

lf_after_one : (x : ℕ) (ys : List ℕ) → ends_lf ys ≡ true → ends_lf (x ∷ ys) ≡ true
lf_after_one x [] h = cc h
lf_after_one x (y ∷ ys) h = h

lf_after : (xs ys : List ℕ) → ends_lf ys ≡ true → ends_lf (xs ++ ys) ≡ true
lf_after [] ys h = h
lf_after (x ∷ xs) ys h = lf_after_one x (xs ++ ys) (lf_after xs ys h)

once_lf : (line : List ℕ) → EndsOnce line → ends_lf line ≡ true
once_lf [] once = absurd once
once_lf (x ∷ []) once = absurd once
once_lf (x ∷ y ∷ []) once = grind (arith, nat_tests)
once_lf (x ∷ y ∷ z ∷ rest) once = once_lf (y ∷ z ∷ rest) once.1

ended_lf : (first : List ℕ) (more : List (List ℕ)) → AreEnded (first ∷ more) → ends_lf (concat (first ∷ more)) ≡ true
ended_lf first [] ended = rw (append-nil first) (once_lf first ended.0)
ended_lf first (next ∷ more) ended = lf_after first (concat (next ∷ more)) (ended_lf next more ended.1)

front_lf : (xs : List ℕ) (y : ℕ) (ys : List ℕ) → ends_lf (xs ++ y ∷ ys) ≡ ends_lf (y ∷ ys)
front_lf [] y ys = refl
front_lf (x ∷ []) y ys = refl
front_lf (x ∷ z ∷ xs) y ys = front_lf (z ∷ xs) y ys

no_lf : (x : ℕ) → is_line_end x ≡ false → nat_eq x 10 ≡ false
no_lf x h = grind (arith, nat_tests)

white_no_lf : (x : ℕ) → is_white x ≡ true → nat_eq x 10 ≡ false
white_no_lf x h = grind (arith, nat_tests)

-- a folded text doesn't end with LF
items_lf : (x : ℕ) (items : List FoldedItem) → nat_eq x 10 ≡ false → AllByRecursion IsFoldedItem items → ends_lf (x ∷ flat_map item_octets items) ≡ false
items_lf x [] h are = h
items_lf x (Octet y ∷ items) h are = items_lf y items (no_lf y are.0) are.1
items_lf x (Fold w ∷ items) h are = items_lf w items (white_no_lf w are.0) are.1

-- a field whose lines have their CRLF each ends with CRLF
field_ended : (octets : List ℕ) (f : FieldParts) (first : List ℕ) (more : List (List ℕ)) → HasParts octets f → octets ≡ concat (first ∷ more) → AreEnded (first ∷ more) → f.ending ≡ crlf
field_ended octets f first more is whole ended = by is.ending
  where
    by : (f.ending ≡ []) ⊎ (f.ending ≡ crlf) → f.ending ≡ crlf
    by (inr closed) = closed
    by (inl none) =
        let spelled : octets ≡ (f.name ++ f.white) ++ 58 ∷ flat_map item_octets is.body.items =
        is.spelled ∙ ap (λ rest. f.name ++ (f.white ++ 58 ∷ rest)) (ap (λ end. f.body ++ end) none ∙ append-nil f.body ∙ is.body.spelled)
        ∙ sym (append_assoc f.name f.white (58 ∷ flat_map item_octets is.body.items)) in
        let open_end : ends_lf octets ≡ false =
        ap ends_lf spelled ∙ front_lf (f.name ++ f.white) 58 (flat_map item_octets is.body.items) ∙ items_lf 58 is.body.items refl is.body.are_items in
        let closed : ends_lf octets ≡ true = ap ends_lf whole ∙ ended_lf first more ended in
        absurd (both_ways (ends_lf octets) open_end closed)

-- the lines of a made field, at its place, and what they have of the old ones
pub record HasKeptLines (old : List (List ℕ)) (at : ℕ) (made : List ℕ) : Type 0 where
  pub field : Field
  pub first : List ℕ
  pub more : List (List ℕ)
  pub whole : concat (first ∷ more) ≡ made
  pub is_field : IsFieldAt at field first more
  pub are : AreLines (first ∷ more)
  pub ended : AreEnded old → AreEnded (first ∷ more)
  pub unmarked : (boundary : List ℕ) → AreUnmarked boundary old → AreUnmarked boundary (first ∷ more)

-- the made field has no NUL where the other one has none
abbrev pub GainsNoNul : List ℕ → List ℕ → Type 0
GainsNoNul raw made = ((place : ℕ) → ¬ IsNul raw place) → (place : ℕ) → ¬ IsNul made place

-- the same field at another place
same_lines : (at : ℕ) (field : Field) (first : List ℕ) (more : List (List ℕ)) (new_at : ℕ) (made : List ℕ) → IsFieldAt at field first more → AreLines (first ∷ more) → made ≡ concat (first ∷ more)
    → HasKeptLines (first ∷ more) new_at made
same_lines at field first more new_at made is are whole = record {
  field = field_of new_at field.name.len (length (concat (first ∷ more)));
  first = first;
  more = more;
  whole = sym whole;
  is_field = record { name_at = refl; raw_at = refl; raw_len = refl; begins = is.begins; further = is.further; sound = is.sound; utf8 = is.utf8 };
  are = are;
  ended = λ ended. ended;
  unmarked = λ boundary unmarked. unmarked;
}

kept_lines : (at : ℕ) (field : Field) (first : List ℕ) (more : List (List ℕ)) (new_at : ℕ) (raw made : List ℕ) → IsFieldAt at field first more → AreLines (first ∷ more) → raw ≡ concat (first ∷ more)
    → KeepsLine raw made → GainsNoNul raw made → HasKeptLines (first ∷ more) new_at made
kept_lines at field first more new_at raw made is are whole keeps no_nul = by keeps.no_dashes
  where
    by : (made ≡ raw) ⊎ (starts_with nat_eq made dashes ≡ false) → HasKeptLines (first ∷ more) new_at made
    by (inl same) = same_lines at field first more new_at made is are (same ∙ whole)
    by (inr apart) =
        let old_safe : (place : ℕ) → ¬ IsNul raw place =
        subst (λ text. (place : ℕ) → ¬ IsNul text place) (sym whole) (no_nul_in_lines (first ∷ more) (recursion_from_All IsSound (first ∷ more) is.sound)) in
        let lines : HasFieldLines new_at made keeps.g.ending = field_lines new_at made keeps.g keeps.made_field (no_nul old_safe) in
        record {
          field = lines.field;
          first = lines.first;
          more = lines.more;
          whole = lines.whole;
          is_field = lines.is_field;
          are = lines.are;
          ended = λ ended. lines.ended (keeps.ending ∙ field_ended raw keeps.f first more keeps.is_field whole ended);
          unmarked = λ boundary unmarked. (
            unmarked_text boundary lines.first (text_apart lines.first (concat lines.more) (subst (λ text. starts_with nat_eq text dashes ≡ false) (sym lines.whole) apart)),
            white_unmarked boundary lines.more lines.white,
          );
        }

-- a text after another one
stands_on : (octets : List ℕ) (at : ℕ) (a b : List ℕ) (n : ℕ) → Stands octets at (a ++ b) → n ≡ length a → Stands octets (at + n) b
stands_on octets at a b n stands len =
    let place = stands.place in
    record {
      before = stands.before ++ a;
      after = stands.after;
      whole = stands.whole ∙ ap (λ rest. stands.before ++ rest) (append_assoc a b stands.after) ∙ sym (append_assoc stands.before a (b ++ stands.after));
      place = omega (arith, length-append stands.before a);
    }

stands_raw : (octets : List ℕ) (at : ℕ) (a b : List ℕ) (field : Field) → Stands octets at (a ++ b) → field.raw.at ≡ at → field.raw.len ≡ length a → raw_of octets field ≡ a
stands_raw octets at a b field stands at_is len =
    raw_of-lines octets stands.before a (b ++ stands.after) at field (stands.whole ∙ ap (λ rest. stands.before ++ rest) (append_assoc a b stands.after)) stands.place at_is len

join_lines : (xs ys : List (List ℕ)) → AreLines xs → (ys ≡ []) ⊎ AreEnded xs → AreLines ys → AreLines (xs ++ ys)
join_lines xs ys are (inl none) others = rw (none, append-nil) are
join_lines xs ys are (inr ended) others = AreLines-ended xs ys ended others

no_lines : (octets : List ℕ) (lines : List (List ℕ)) (at : ℕ) (fields : List Field) (end : ℕ) → AreFields lines at fields end → map (raw_of octets) fields ≡ [] → lines ≡ []
no_lines octets lines at [] end are none = are.0
no_lines octets lines at (field ∷ fields) end are none = cc none

-- where fields follow, the lines before them have their CRLF; else no lines follow
last_or_ended : (IsOne : List ℕ → List ℕ → Type 0) (octets new : List ℕ) (old rest : List (List ℕ)) (at : ℕ) (fields : List Field) (end : ℕ) → AreFields rest at fields end → AreLines (old ++ rest)
    → (made : List (List ℕ)) → AllZip IsOne (map (raw_of octets) fields) made → (lines : List (List ℕ)) (new_at : ℕ) (others : List Field) (new_end : ℕ) → AreFields lines new_at others new_end
    → map (raw_of new) others ≡ made → (lines ≡ []) ⊎ AreEnded old
last_or_ended IsOne octets new old rest at [] end fields_are are [] zip lines new_at others new_end others_are raws = inl (no_lines new lines new_at others new_end others_are raws)
last_or_ended IsOne octets new old rest at [] end fields_are are (m ∷ made) zip lines new_at others new_end others_are raws = absurd zip
last_or_ended IsOne octets new old rest at (field ∷ fields) end fields_are are made zip lines new_at others new_end others_are raws =
    inr (AreEnded-front old fields_are.0 (fields_are.1 ++ fields_are.2) (subst (λ lines. AreLines (old ++ lines)) fields_are.3 are))

-- The lines of one field before those of others.
put_block : (new : List ℕ) (new_at : ℕ) (old rest : List (List ℕ)) (m : List ℕ) (made : List (List ℕ)) (kept : HasKeptLines old new_at m)
    (later : HasNewBlock new (new_at + kept.field.raw.len) rest made) → Stands new new_at (m ++ concat made) → kept.field.raw.len ≡ length m → (later.lines ≡ []) ⊎ AreEnded old
    → HasNewBlock new new_at (old ++ rest) (m ∷ made)
put_block new new_at old rest m made kept later stands len last =
    let first_lines : List (List ℕ) = kept.first ∷ kept.more in
    record {
      lines = first_lines ++ later.lines;
      fields = kept.field ∷ later.fields;
      end = later.end;
      whole = concat-append first_lines later.lines ∙ ap (λ text. text ++ concat later.lines) kept.whole ∙ ap (λ text. m ++ text) later.whole;
      fields_are = (kept.first, kept.more, later.lines, refl, kept.is_field, later.fields_are);
      raws = ap (λ one. one ∷ map (raw_of new) later.fields) (stands_raw new new_at m (concat made) kept.field stands kept.is_field.raw_at len) ∙ ap (λ others. m ∷ others) later.raws;
      are = join_lines first_lines later.lines kept.are (by last) later.are;
      sound = all-append IsSound first_lines later.lines (recursion_from_All IsSound first_lines kept.is_field.sound) later.sound;
      ended = λ all. all-append EndsOnce first_lines later.lines (kept.ended (all-front EndsOnce old rest all)) (later.ended (all-back EndsOnce old rest all));
      unmarked = λ boundary all.
          all-append (IsUnmarked boundary) first_lines later.lines (kept.unmarked boundary (all-front (IsUnmarked boundary) old rest all)) (later.unmarked boundary (all-back (IsUnmarked boundary) old rest all));
    }
  where
    by : (later.lines ≡ []) ⊎ AreEnded old → (later.lines ≡ []) ⊎ AreEnded (kept.first ∷ kept.more)
    by (inl none) = inl none
    by (inr closed) = inr (kept.ended closed)

-- The lines of fields that are written anew, where no made field gains a NUL.
pub new_sound_block : (IsOne : List ℕ → List ℕ → Type 0) → ((raw made : List ℕ) → IsOne raw made → KeepsLine raw made) → ((raw made : List ℕ) → IsOne raw made → GainsNoNul raw made)
    → (octets : List ℕ) (at : ℕ) (header : List (List ℕ)) (fields : List Field) (end : ℕ) → AreFields header at fields end → AreLines header → Stands octets at (concat header)
    → (made : List (List ℕ)) → AllZip IsOne (map (raw_of octets) fields) made → (new : List ℕ) (new_at : ℕ) → Stands new new_at (concat made) → HasNewBlock new new_at header made
new_sound_block IsOne keeps no_nul octets at header [] end done are stands [] zip new new_at new_stands = record {
  lines = [];
  fields = [];
  end = new_at;
  whole = refl;
  fields_are = (refl, refl);
  raws = refl;
  are = tt;
  sound = tt;
  ended = λ ended. tt;
  unmarked = λ boundary unmarked. tt;
}
new_sound_block IsOne keeps no_nul octets at header [] end done are stands (m ∷ made) zip new new_at new_stands = absurd zip
new_sound_block IsOne keeps no_nul octets at header (field ∷ fields) end done are stands [] zip new new_at new_stands = absurd zip
new_sound_block IsOne keeps no_nul octets at header (field ∷ fields) end done are stands (m ∷ made) zip new new_at new_stands =
    let old : List (List ℕ) = done.0 ∷ done.1 in
    let is_field : IsFieldAt at field done.0 done.1 = done.4 in
    let lines_are : AreLines (old ++ done.2) = subst AreLines done.3 are in
    let text_stands : Stands octets at (concat old ++ concat done.2) = subst (Stands octets at) (ap concat done.3 ∙ concat-append old done.2) stands in
    let raw : raw_of octets field ≡ concat old = stands_raw octets at (concat old) (concat done.2) field text_stands is_field.raw_at is_field.raw_len in
    let kept : HasKeptLines old new_at m =
    kept_lines at field done.0 done.1 new_at (raw_of octets field) m is_field (AreLines-front old done.2 lines_are) raw (keeps (raw_of octets field) m zip.0) (no_nul (raw_of octets field) m zip.0) in
    let len : kept.field.raw.len ≡ length m = kept.is_field.raw_len ∙ ap length kept.whole in
    let later : HasNewBlock new (new_at + kept.field.raw.len) done.2 made =
    new_sound_block IsOne keeps no_nul octets (at + field.raw.len) done.2 fields end done.5 (AreLines-back old done.2 lines_are)
    (stands_on octets at (concat old) (concat done.2) field.raw.len text_stands is_field.raw_len) made zip.1 new (new_at + kept.field.raw.len)
    (stands_on new new_at m (concat made) kept.field.raw.len new_stands len) in
    let last = last_or_ended IsOne octets new old done.2 (at + field.raw.len) fields end done.5 lines_are made zip.1 later.lines (new_at + kept.field.raw.len) later.fields later.end later.fields_are later.raws in
    subst (λ header. HasNewBlock new new_at header (m ∷ made)) (sym done.3) (put_block new new_at old done.2 m made kept later new_stands len last)
