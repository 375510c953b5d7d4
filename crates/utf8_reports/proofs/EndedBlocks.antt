-- A header block that is cut off, with its last line ended, is a block of its own.
use Rattle.std.proofs.Common.{◌≡◌, ◌≢◌, ℕ, ◌+◌, ◌-◌, ◌≤◌, ◌⊎◌, inl, inr, List, [], ◌∷◌, ◌++◌, length, take, drop, map, arith, refl, sym, ap, ◌∙◌, subst, append_assoc, append-nil, length-append}
use Rattle.std.specs.List.{All, AllZip, AllByRecursion, concat}
use Rattle.std.specs.Str.{IsUtf8}
use Rattle.std.proofs.lemmas.List.{take_at, take-append-le, drop-append-le, length-drop}
use Rattle.std.proofs.lemmas.List.Elements.{All-head, All-tail, All-nil, All-cons}
use Rattle.std.proofs.lemmas.List.Folds.{concat-append}
use Rattle.std.proofs.lemmas.Str.{IsUtf8-append, IsUtf8-from_ascii}
use Rattle.std.proofs.lemmas.Str.Ascii.{IsAscii-nil, IsAscii-cons}
use Rattle.mail_wire.specs.Lines.{crlf, lines_of}
use Rattle.mail_wire.specs.Message.{IsSound, IsEnded}
use Rattle.mail_wire.proofs.LineLemmas.{concat_lines_of}
use Rattle.mail_wire.proofs.AllLemmas.{all-front}
use Rattle.utf8_fields.specs.declared.block.Field.{Field}
use Rattle.utf8_fields.specs.Lines.{BeginsField, BeginsWhite}
use Rattle.utf8_fields.specs.Block.{IsFieldAt, AreFields, HasBlock, raw_of}
use Rattle.utf8_fields.proofs.LineShapes.{AreLines, AreLines-lines_of}
use Rattle.utf8_fields.proofs.Names.{name_below}
use Rattle.utf8_fields.proofs.Raws.{raw_of-lines, HasBlock-whole}
use Rattle.mime_tree.specs.Completing.{IsCompleted, IsLeft}
use Rattle.mime_tree.specs.Marks.{text_of}
use Rattle.mime_tree.specs.Parts.{size}
use Rattle.mime_tree.proofs.EndedLines.{ends_whole, never_ended, sound_ended}
use Rattle.mime_tree.proofs.Heads.{fields_size}
use Rattle.mime_tree.proofs.LinesAgain.{lines_of-front, AreEnded-front, sound_each, sound_concat}
use Rattle.mime_tree.proofs.Standing.{AreEnded}

-- ---- lines that come first

-- they are the lines of what they are joined
pub lines_alone : (octets : List ℕ) (front back : List (List ℕ)) → lines_of octets ≡ front ++ back → lines_of (concat front) ≡ front
unfolding lines_of
lines_alone octets front [] is =
    let all : lines_of octets ≡ front = is ∙ append-nil front in
    ap lines_of (sym (ap concat all) ∙ concat_lines_of octets) ∙ all
lines_alone octets front (line ∷ back) is =
    let ended = AreEnded-front front line back (subst AreLines is (AreLines-lines_of octets)) in
    ap lines_of (sym (append-nil (concat front))) ∙ lines_of-front front [] ended ∙ append-nil front

-- the octets are these and others
pub lines_split : (octets : List ℕ) (front back : List (List ℕ)) → lines_of octets ≡ front ++ back → octets ≡ concat front ++ concat back
lines_split octets front back is = sym (concat_lines_of octets) ∙ ap concat is ∙ concat-append front back

pub lines_taken : (octets : List ℕ) (front back : List (List ℕ)) (n : ℕ) → lines_of octets ≡ front ++ back → size front ≡ n → take n octets ≡ concat front
lines_taken octets front back n is len = ap (take n) (lines_split octets front back is) ∙ take_at (concat front) (concat back) n len

-- ---- the last line with CRLF after it

abbrev pub end_last : List (List ℕ) → List (List ℕ)
end_last [] = []
end_last (line ∷ []) = (line ++ crlf) ∷ []
end_last (line ∷ next ∷ rest) = line ∷ end_last (next ∷ rest)

-- no CRLF comes last
abbrev pub IsOpenText : List ℕ → Type 0
IsOpenText octets = (front : List ℕ) → octets ≢ front ++ crlf

open_after : (a b : List ℕ) → IsOpenText (a ++ b) → IsOpenText b
open_after a b none front is = none (a ++ front) (ap (λ more. a ++ more) is ∙ sym (append_assoc a front crlf))

end_joined : (line : List ℕ) (rest : List (List ℕ)) → concat (end_last (line ∷ rest)) ≡ concat (line ∷ rest) ++ crlf
end_joined line [] = append-nil (line ++ crlf) ∙ ap (λ l. l ++ crlf) (sym (append-nil line))
end_joined line (next ∷ rest) = ap (λ more. line ++ more) (end_joined next rest) ∙ sym (append_assoc line (concat (next ∷ rest)) crlf)

end_following : (front : List (List ℕ)) (line : List ℕ) (rest : List (List ℕ)) → end_last (front ++ line ∷ rest) ≡ front ++ end_last (line ∷ rest)
end_following [] line rest = refl
end_following (first ∷ []) line rest = refl
end_following (first ∷ next ∷ front) line rest = ap (λ more. first ∷ more) (end_following (next ∷ front) line rest)

end_ended : (lines : List (List ℕ)) → AreLines lines → IsOpenText (concat lines) → AreEnded (end_last lines)
end_ended [] are none = tt
end_ended (line ∷ []) are none = elim are.0 [
  | inl once ↦ absurd (none (text_of line) (append-nil line ∙ sym (ends_whole line once).joined))
  | inr never ↦ (never_ended line never.0, tt)
]
end_ended (line ∷ next ∷ rest) are none = elim are.0 [
  | inl once ↦ (once, end_ended (next ∷ rest) are.1 (open_after line (concat (next ∷ rest)) none))
  | inr never ↦ absurd (some never.1)
]
  where
    some : next ∷ rest ≡ [] → ⊥
    some is = cc is

-- they are the lines of the octets with CRLF after them
lines_ended : (octets line : List ℕ) (rest : List (List ℕ)) → lines_of octets ≡ line ∷ rest → IsOpenText octets → lines_of (octets ++ crlf) ≡ end_last (line ∷ rest)
unfolding lines_of
lines_ended octets line rest is none =
    let whole : octets ≡ concat (line ∷ rest) = sym (concat_lines_of octets) ∙ ap concat is in
    let ended = end_ended (line ∷ rest) (subst AreLines is (AreLines-lines_of octets)) (subst IsOpenText whole none) in
    let joined : octets ++ crlf ≡ concat (end_last (line ∷ rest)) = ap (λ l. l ++ crlf) whole ∙ sym (end_joined line rest) in
    ap lines_of (joined ∙ sym (append-nil (concat (end_last (line ∷ rest))))) ∙ lines_of-front (end_last (line ∷ rest)) [] ended ∙ append-nil (end_last (line ∷ rest))

-- what is said of lines is said of them then
end_all : (P : List ℕ → Type 0) → ((line : List ℕ) → P line → P (line ++ crlf)) → (lines : List (List ℕ)) → All P lines → All P (end_last lines)
end_all P longer [] all = All-nil P
end_all P longer (line ∷ []) all = All-cons P (line ++ crlf) [] (longer line (All-head P line [] all)) (All-nil P)
end_all P longer (line ∷ next ∷ rest) all =
    All-cons P line (end_last (next ∷ rest)) (All-head P line (next ∷ rest) all) (end_all P longer (next ∷ rest) (All-tail P line (next ∷ rest) all))

begins_longer : (name line more : List ℕ) → BeginsField name line → BeginsField name (line ++ more)
begins_longer name line more begins =
    let white : List ℕ = begins.colon.0 in
    let rest : List ℕ = begins.colon.1 in
    record {
      some = begins.some;
      octets = begins.octets;
      colon = (white, rest ++ more, begins.colon.2, ap (λ l. l ++ more) begins.colon.3 ∙ append_assoc name (white ++ 58 ∷ rest) more ∙ ap (λ l. name ++ l) (append_assoc white (58 ∷ rest) more));
    }

white_longer : (line : List ℕ) → BeginsWhite line → BeginsWhite (line ++ crlf)
white_longer [] white = absurd white
white_longer (x ∷ line) white = white

utf8_longer : (line : List ℕ) → IsUtf8 line → IsUtf8 (line ++ crlf)
utf8_longer line is = IsUtf8-append line crlf is (IsUtf8-from_ascii crlf (IsAscii-cons 13 (10 ∷ []) (omega arith) (IsAscii-cons 10 [] (omega arith) IsAscii-nil)))

-- ---- the last field with CRLF after it

abbrev longer_field : Field → Field
longer_field field = record { name = field.name; raw = record { at = field.raw.at; len = field.raw.len + 2 } }

longer_len : (field : Field) (line : List ℕ) (rest : List (List ℕ)) → field.raw.len ≡ length (concat (line ∷ rest)) → field.raw.len + 2 ≡ length (concat (end_last (line ∷ rest)))
longer_len field line rest len =
    let joined = ap length (end_joined line rest) in
    let more = length-append (concat (line ∷ rest)) crlf in
    omega arith

-- the lines of that field
record HasLongerField (at : ℕ) (field : Field) (line : List ℕ) (rest : List (List ℕ)) : Type 0 where
  first : List ℕ
  more : List (List ℕ)
  are : end_last (line ∷ rest) ≡ first ∷ more
  is_field : IsFieldAt at (longer_field field) first more

longer : (at : ℕ) (field : Field) (line : List ℕ) (rest : List (List ℕ)) → IsFieldAt at field line rest → HasLongerField at field line rest
longer at field line [] is = record {
  first = line ++ crlf;
  more = [];
  are = refl;
  is_field = record {
    name_at = is.name_at;
    raw_at = is.raw_at;
    raw_len = longer_len field line [] is.raw_len;
    begins =
        let less = name_below field.name.len line is.begins in
        let same : take field.name.len line ≡ take field.name.len (line ++ crlf) = sym (take-append-le field.name.len line crlf (omega arith)) in
        subst (λ name. BeginsField name (line ++ crlf)) same (begins_longer (take field.name.len line) line crlf is.begins);
    further = All-nil BeginsWhite;
    sound = end_all IsSound sound_ended (line ∷ []) is.sound;
    utf8 = end_all IsUtf8 utf8_longer (line ∷ []) is.utf8;
  };
}
longer at field line (next ∷ rest) is = record {
  first = line;
  more = end_last (next ∷ rest);
  are = refl;
  is_field = record {
    name_at = is.name_at;
    raw_at = is.raw_at;
    raw_len = longer_len field line (next ∷ rest) is.raw_len;
    begins = is.begins;
    further = end_all BeginsWhite white_longer (next ∷ rest) is.further;
    sound = end_all IsSound sound_ended (line ∷ next ∷ rest) is.sound;
    utf8 = end_all IsUtf8 utf8_longer (line ∷ next ∷ rest) is.utf8;
  };
}

-- ---- the fields

-- the made field is the other one, or has CRLF after it where that has none
abbrev pub IsEndedField : List ℕ → List ℕ → Type 0
IsEndedField raw made = (made ≡ raw) ⊎ ((made ≡ raw ++ crlf) × IsOpenText raw)

-- the fields of the lines, the last of which has CRLF after it
record HasEndedFields (octets : List ℕ) (lines : List (List ℕ)) (start : ℕ) (fields : List Field) : Type 0 where
  others : List Field
  end : ℕ
  fields_are : AreFields (end_last lines) start others end
  alike : AllZip IsEndedField (map (raw_of octets) fields) (map (raw_of (octets ++ crlf)) others)

no_field : (fields : List Field) (at end : ℕ) → AreFields [] at fields end → fields ≡ []
no_field [] at end are = refl
no_field (field ∷ fields) at end are = cc are.3

-- the octets, with a field's lines between others
record StandsSo (octets before : List ℕ) (lines rest : List (List ℕ)) : Type 0 where
  whole : octets ≡ before ++ (concat lines ++ concat rest)
  longer_whole : octets ++ crlf ≡ before ++ (concat lines ++ (concat rest ++ crlf))
  following : octets ≡ (before ++ concat lines) ++ concat rest

stands_so : (octets before : List ℕ) (all lines rest : List (List ℕ)) → octets ≡ before ++ concat all → all ≡ lines ++ rest → StandsSo octets before lines rest
stands_so octets before all lines rest is split =
    let whole : octets ≡ before ++ (concat lines ++ concat rest) = is ∙ ap (λ text. before ++ text) (ap concat split ∙ concat-append lines rest) in
    record {
      whole = whole;
      longer_whole = ap (λ text. text ++ crlf) whole ∙ append_assoc before (concat lines ++ concat rest) crlf ∙ ap (λ text. before ++ text) (append_assoc (concat lines) (concat rest) crlf);
      following = whole ∙ sym (append_assoc before (concat lines) (concat rest));
    }

-- the last one
end_field : (octets before : List ℕ) (all : List (List ℕ)) (start : ℕ) (field : Field) (fields : List Field) (line : List ℕ) (more : List (List ℕ)) → octets ≡ before ++ concat all → length before ≡ start
    → IsOpenText octets → all ≡ (line ∷ more) ++ [] → IsFieldAt start field line more → fields ≡ [] → HasEndedFields octets all start (field ∷ fields)
end_field octets before all start field fields line more is len none split is_field last =
    let stands = stands_so octets before all (line ∷ more) [] is split in
    let new = longer start field line more is_field in
    let lines : end_last all ≡ (new.first ∷ new.more) ++ [] = ap end_last (split ∙ append-nil (line ∷ more)) ∙ new.are ∙ sym (append-nil (new.first ∷ new.more)) in
    let raw : raw_of octets field ≡ concat (line ∷ more) = raw_of-lines octets before (concat (line ∷ more)) [] start field stands.whole len is_field.raw_at is_field.raw_len in
    let joined : concat (line ∷ more) ++ crlf ≡ concat (new.first ∷ new.more) = sym (end_joined line more) ∙ ap concat new.are in
    let spelled : octets ++ crlf ≡ before ++ (concat (new.first ∷ new.more) ++ []) =
    stands.longer_whole ∙ ap (λ text. before ++ text) (joined ∙ sym (append-nil (concat (new.first ∷ new.more)))) in
    let made : raw_of (octets ++ crlf) (longer_field field) ≡ concat (new.first ∷ new.more) =
    raw_of-lines (octets ++ crlf) before (concat (new.first ∷ new.more)) [] start (longer_field field) spelled len new.is_field.raw_at new.is_field.raw_len in
    let put : raw_of (octets ++ crlf) (longer_field field) ≡ raw_of octets field ++ crlf = made ∙ sym joined ∙ ap (λ text. text ++ crlf) (sym raw) in
    let opened : IsOpenText (raw_of octets field) =
    subst IsOpenText (sym raw) (open_after before (concat (line ∷ more)) (subst IsOpenText (stands.whole ∙ ap (λ text. before ++ text) (append-nil (concat (line ∷ more)))) none)) in
    record {
      others = longer_field field ∷ [];
      end = start + (field.raw.len + 2);
      fields_are = (new.first, new.more, [], lines, new.is_field, (refl, refl));
      alike = subst (λ all. AllZip IsEndedField (map (raw_of octets) (field ∷ all)) (map (raw_of (octets ++ crlf)) (longer_field field ∷ []))) (sym last) (inr (put, opened), tt);
    }

-- one before others
keep_field : (octets before : List ℕ) (all : List (List ℕ)) (start : ℕ) (field : Field) (fields : List Field) (line : List ℕ) (more : List (List ℕ)) (next : List ℕ) (rest : List (List ℕ))
    → octets ≡ before ++ concat all → length before ≡ start → all ≡ (line ∷ more) ++ next ∷ rest → IsFieldAt start field line more
    → HasEndedFields octets (next ∷ rest) (start + field.raw.len) fields → HasEndedFields octets all start (field ∷ fields)
keep_field octets before all start field fields line more next rest is len split is_field later =
    let stands = stands_so octets before all (line ∷ more) (next ∷ rest) is split in
    let raw : raw_of octets field ≡ concat (line ∷ more) = raw_of-lines octets before (concat (line ∷ more)) (concat (next ∷ rest)) start field stands.whole len is_field.raw_at is_field.raw_len in
    let made : raw_of (octets ++ crlf) field ≡ concat (line ∷ more) =
    raw_of-lines (octets ++ crlf) before (concat (line ∷ more)) (concat (next ∷ rest) ++ crlf) start field stands.longer_whole len is_field.raw_at is_field.raw_len in
    record {
      others = field ∷ later.others;
      end = later.end;
      fields_are = (line, more, end_last (next ∷ rest), ap end_last split ∙ end_following (line ∷ more) next rest, is_field, later.fields_are);
      alike = (inl (made ∙ sym raw), later.alike);
    }

ended_fields : (octets before : List ℕ) (lines : List (List ℕ)) (start : ℕ) (fields : List Field) (end : ℕ) → octets ≡ before ++ concat lines → length before ≡ start → IsOpenText octets
    → AreFields lines start fields end → HasEndedFields octets lines start fields
ended_fields octets before lines start [] end is len none are =
    record { others = []; end = start; fields_are = subst (λ all. AreFields (end_last all) start [] start) (sym are.0) (refl, refl); alike = tt }
ended_fields octets before lines start (field ∷ fields) end is len none are =
    let line : List ℕ = are.0 in
    let more : List (List ℕ) = are.1 in
    let stands = stands_so octets before lines (line ∷ more) are.2 is are.3 in
    let raw_len = are.4.raw_len in
    let place : length (before ++ concat (line ∷ more)) ≡ start + field.raw.len = omega (arith, length-append before (concat (line ∷ more))) in
    let later = ended_fields octets (before ++ concat (line ∷ more)) are.2 (start + field.raw.len) fields end stands.following place none are.5 in
    go are.2 refl later
  where
    go : (rest : List (List ℕ)) → are.2 ≡ rest → HasEndedFields octets are.2 (start + field.raw.len) fields → HasEndedFields octets lines start (field ∷ fields)
    go [] rest_is later =
        end_field octets before lines start field fields are.0 are.1 is len none (are.3 ∙ ap (λ rest. (are.0 ∷ are.1) ++ rest) rest_is) are.4
        (no_field fields (start + field.raw.len) end (subst (λ rest. AreFields rest (start + field.raw.len) fields end) rest_is are.5))
    go (next ∷ rest) rest_is later =
        keep_field octets before lines start field fields are.0 are.1 next rest is len (are.3 ∙ ap (λ rest. (are.0 ∷ are.1) ++ rest) rest_is) are.4
        (subst (λ rest. HasEndedFields octets rest (start + field.raw.len) fields) rest_is later)

-- ---- the block

-- The header has a block, which is all of it. Each of its fields is one of the octets', the last one with its CRLF.
pub record HasEndedBlock (octets : List ℕ) (fields : List Field) (header : List ℕ) : Type 0 where
  pub others : List Field
  pub has_block : HasBlock header others (length header)
  pub sound : IsSound header
  pub alike : AllZip IsEndedField (map (raw_of octets) fields) (map (raw_of header) others)

-- a field that stands in the front of octets stands in all of them
raw_front : (front back : List ℕ) (field : Field) → field.raw.at + field.raw.len ≤ length front → raw_of front field ≡ raw_of (front ++ back) field
raw_front front back field fits =
    let n : ℕ = field.raw.at + field.raw.len - field.raw.at in
    let following : drop field.raw.at (front ++ back) ≡ drop field.raw.at front ++ back = drop-append-le field.raw.at front back (omega arith) in
    let left = length-drop field.raw.at front in
    sym (ap (take n) following ∙ take-append-le n (drop field.raw.at front) back (omega arith))

alike_front : (front back : List ℕ) (fields : List Field) → All (λ (field : Field). field.raw.at + field.raw.len ≤ length front) fields
    → AllZip IsEndedField (map (raw_of (front ++ back)) fields) (map (raw_of front) fields)
alike_front front back [] within = tt
alike_front front back (field ∷ fields) within = (
  inl (raw_front front back field (All-head (λ (f : Field). f.raw.at + f.raw.len ≤ length front) field fields within)),
  alike_front front back fields (All-tail (λ (f : Field). f.raw.at + f.raw.len ≤ length front) field fields within),
)

-- the block of lines that are all of the octets
all_lines : (octets : List ℕ) (lines : List (List ℕ)) (fields : List Field) (end : ℕ) → lines_of octets ≡ lines → AreFields lines 0 fields end → HasBlock octets fields (length octets)
all_lines octets lines fields end is are =
    let sizes = fields_size lines 0 fields end are in
    let whole = ap length (sym (concat_lines_of octets) ∙ ap concat is) in
    let len : end ≡ length octets = omega arith in
    record { header = lines; rest = []; lines = is ∙ sym (append-nil lines); fields_are = subst (AreFields lines 0 fields) len are; ends = tt }

-- one whose last line is ended
cut_block : (octets : List ℕ) (fields : List Field) (end : ℕ) → IsSound octets → HasBlock octets fields end → HasEndedBlock octets fields (take end octets)
cut_block octets fields end sound block =
    let split = lines_split octets block.header block.rest block.lines in
    let sizes = fields_size block.header 0 fields end block.fields_are in
    let taken = lines_taken octets block.header block.rest end block.lines (omega arith) in
    let lines = lines_alone octets block.header block.rest block.lines in
    let within = subst (λ n. All (λ (field : Field). field.raw.at + field.raw.len ≤ n) fields) (let len : end ≡ length (concat block.header) = omega arith in len) (HasBlock-whole octets fields end block).within in
    let each = sound_each (lines_of octets) (AreLines-lines_of octets) (subst IsSound (sym (concat_lines_of octets)) sound) in
    let front = all-front IsSound block.header block.rest (subst (AllByRecursion IsSound) block.lines each) in
    subst (HasEndedBlock octets fields) (sym taken) (record {
      others = fields;
      has_block = all_lines (concat block.header) block.header fields end lines block.fields_are;
      sound = sound_concat block.header front;
      alike = subst (λ all. AllZip IsEndedField (map (raw_of all) fields) (map (raw_of (concat block.header)) fields)) (sym split) (alike_front (concat block.header) (concat block.rest) fields within);
    })

-- ended lines end with CRLF
joined_ended : (lines : List (List ℕ)) → AreEnded lines → IsEnded (concat lines)
joined_ended [] ended = inl refl
joined_ended (line ∷ lines) ended =
    let whole = (ends_whole line ended.0).joined in
    elim (joined_ended lines ended.1) [
      | inl none ↦ inr (text_of line, ap (λ more. line ++ more) none ∙ append-nil line ∙ sym whole)
      | inr closed ↦ inr (line ++ closed.0, ap (λ more. line ++ more) closed.1 ∙ sym (append_assoc line closed.0 crlf))
    ]

-- one whose last line is the last of the octets and has no CRLF
put_block : (octets line : List ℕ) (lines : List (List ℕ)) (fields : List Field) (end : ℕ) → IsSound octets → lines_of octets ≡ line ∷ lines → AreFields (line ∷ lines) 0 fields end → IsOpenText octets
    → HasEndedBlock octets fields (octets ++ crlf)
put_block octets line lines fields end sound is are none =
    let whole : octets ≡ [] ++ concat (line ∷ lines) = sym (concat_lines_of octets) ∙ ap concat is in
    let new = ended_fields octets [] (line ∷ lines) 0 fields end whole refl none are in
    record {
      others = new.others;
      has_block = all_lines (octets ++ crlf) (end_last (line ∷ lines)) new.others new.end (lines_ended octets line lines is none) new.fields_are;
      sound = sound_ended octets sound;
      alike = new.alike;
    }

nothing_left : (octets : List ℕ) → lines_of octets ≡ [] → IsLeft octets
nothing_left octets is = inl (inl (sym (concat_lines_of octets) ∙ ap concat is))

not_left : (octets : List ℕ) → ¬ IsLeft octets → IsOpenText octets
not_left octets other front is = other (inl (inr (front, is)))

-- all lines are the block's, and the last one has no CRLF
put_by : (octets header : List ℕ) (fields : List Field) (end : ℕ) (lines : List (List ℕ)) → IsSound octets → lines_of octets ≡ lines → AreFields lines 0 fields end → ¬ IsLeft octets → header ≡ octets ++ crlf
    → HasEndedBlock octets fields header
put_by octets header fields end [] sound lines are other put = absurd (other (nothing_left octets lines))
put_by octets header fields end (line ∷ more) sound lines are other put =
    subst (HasEndedBlock octets fields) (sym put) (put_block octets line more fields end sound lines are (not_left octets other))

-- A block that is cut off, with its last line ended.
pub ended_block : (octets header : List ℕ) (fields : List Field) (end : ℕ) → IsSound octets → HasBlock octets fields end → IsCompleted (take end octets) header → HasEndedBlock octets fields header
ended_block octets header fields end sound block (inl kept) = subst (HasEndedBlock octets fields) (sym kept.1) (cut_block octets fields end sound block)
ended_block octets header fields end sound block (inr put) =
    let sizes = fields_size block.header 0 fields end block.fields_are in
    let len : size block.header ≡ end = omega arith in
    go block.rest refl (lines_taken octets block.header block.rest end block.lines len)
  where
    go : (rest : List (List ℕ)) → block.rest ≡ rest → take end octets ≡ concat block.header → HasEndedBlock octets fields header
    go (line ∷ rest) is taken =
        let lines : lines_of octets ≡ block.header ++ line ∷ rest = block.lines ∙ ap (λ more. block.header ++ more) is in
        let ended = joined_ended block.header (AreEnded-front block.header line rest (subst AreLines lines (AreLines-lines_of octets))) in
        absurd (put.0 (inl (subst IsEnded (sym taken) ended)))
    go [] is taken =
        let lines : lines_of octets ≡ block.header = block.lines ∙ ap (λ more. block.header ++ more) is ∙ append-nil block.header in
        let whole : take end octets ≡ octets = taken ∙ sym (ap concat lines) ∙ concat_lines_of octets in
        put_by octets header fields end block.header sound lines block.fields_are (subst (λ text. ¬ IsLeft text) whole put.0) (put.1 ∙ ap (λ text. text ++ crlf) whole)
