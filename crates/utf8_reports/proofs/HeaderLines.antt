-- The lines of a header whose last line is ended.
use Rattle.std.proofs.Common.{◌≡◌, ℕ, ◌+◌, Bool, true, false, ◌⊎◌, inl, inr, List, [], ◌∷◌, ◌++◌, length, take, refl, sym, ap, ◌∙◌, subst, arith, append-nil, append_assoc}
use Rattle.std.specs.List.{AllByRecursion, list_all, concat}
use Rattle.std.proofs.lemmas.Bool.{and_parts, both_ways}
use Rattle.std.proofs.lemmas.List.{take_at}
use Rattle.std.proofs.lemmas.List.Folds.{concat-append}
use Rattle.mail_wire.specs.Lines.{crlf, lines_of}
use Rattle.mail_wire.specs.Message.{IsSound}
use Rattle.mail_wire.proofs.LineLemmas.{concat_lines_of}
use Rattle.utf8_fields.specs.declared.block.Field.{Field}
use Rattle.utf8_fields.specs.Block.{HasBlock}
use Rattle.utf8_fields.proofs.LineShapes.{EndsOnce, NeverEnds, AreLines, AreLines-front, AreLines-lines_of, is_text, IsTextLine, IsTextLine-sound}
use Rattle.utf8_fields.proofs.Raws.{AreFields-join}
use Rattle.mime_tree.specs.Completing.{IsLeft, IsCompleted}
use Rattle.mime_tree.proofs.EmptyLast.{fields_filled}
use Rattle.mime_tree.proofs.EndedLines.{AreFilled, filled_nothing, put_ending}
use Rattle.mime_tree.proofs.FieldLines.{text_ends_once}
use Rattle.mime_tree.proofs.Standing.{AreEnded, AreUnmarked}
use Rattle.utf8_reports.proofs.WholeLines.{boundary, HoldsLines, fields_lines}

-- this octet is the last one
abbrev EndsIn : ℕ → List ℕ → Type 0
EndsIn x [] = ⊥
EndsIn x (y ∷ []) = y ≡ x
EndsIn x (y ∷ z ∷ rest) = EndsIn x (z ∷ rest)

put_last : (front : List ℕ) (x : ℕ) → EndsIn x (front ++ x ∷ [])
put_last [] x = refl
put_last (y ∷ []) x = refl
put_last (y ∷ z ∷ front) x = put_last (z ∷ front) x

ends_after : (x : ℕ) (front : List ℕ) (y : ℕ) (rest : List ℕ) → EndsIn x (front ++ y ∷ rest) → EndsIn x (y ∷ rest)
ends_after x [] y rest is = is
ends_after x (a ∷ []) y rest is = is
ends_after x (a ∷ b ∷ front) y rest is = ends_after x (b ∷ front) y rest is

no_text_ends : (x : ℕ) (text : List ℕ) → is_text x ≡ false → list_all is_text text ≡ true → EndsIn x text → ⊥
no_text_ends x [] ends plain is = is
no_text_ends x (y ∷ []) ends plain is = both_ways (is_text x) ends (subst (λ z. is_text z ≡ true) is (and_parts (is_text y) true plain).0)
no_text_ends x (y ∷ z ∷ text) ends plain is = no_text_ends x (z ∷ text) ends (and_parts (is_text y) (list_all is_text (z ∷ text)) plain).1 is

-- a sound line at whose end an octet of a line's end stands
ended_by : (line : List ℕ) (after : List (List ℕ)) (x : ℕ) → is_text x ≡ false → EndsIn x line → (text : IsTextLine line after) → (text.ending ≡ crlf) ⊎ ((text.ending ≡ []) × (after ≡ [])) → EndsOnce line
ended_by line after x ends is text (inl ended) = rw (text.whole, ended) (text_ends_once text.text text.plain)
ended_by line after x ends is text (inr last) =
    let same : line ≡ text.text = text.whole ∙ (ap (λ l. text.text ++ l) last.0 ∙ append-nil text.text) in
    absurd (no_text_ends x text.text ends text.plain (subst (EndsIn x) same is))

ended_all : (lines : List (List ℕ)) (x : ℕ) → is_text x ≡ false → AreLines lines → AreFilled lines → AllByRecursion IsSound lines → EndsIn x (concat lines) → AreEnded lines
ended_all [] x ends are filled sound is = tt
ended_all (line ∷ []) x ends are filled sound is =
    let text = IsTextLine-sound line [] sound.0 are.0 in
    (ended_by line [] x ends (subst (EndsIn x) (append-nil line) is) text text.ends, tt)
ended_all (line ∷ [] ∷ rest) x ends are filled sound is = absurd (filled.1.0 refl)
ended_all (line ∷ (y ∷ next) ∷ rest) x ends are filled sound is =
    (by are.0, ended_all ((y ∷ next) ∷ rest) x ends are.1 filled.1 sound.1 (ends_after x line y (next ++ concat rest) is))
  where
    by : EndsOnce line ⊎ (NeverEnds line × ((y ∷ next) ∷ rest ≡ [])) → EndsOnce line
    by (inl once) = once
    by (inr never) = let none = never.1 in cc none

-- lines whose octets need no CRLF
pub left_ended : (lines : List (List ℕ)) → AreLines lines → AreFilled lines → AllByRecursion IsSound lines → IsLeft (concat lines) → AreEnded lines
left_ended lines are filled sound (inl (inl none)) = subst AreEnded (sym (filled_nothing lines filled none)) tt
left_ended lines are filled sound (inl (inr ended)) =
    ended_all lines 10 refl are filled sound (subst (EndsIn 10) (sym (ended.1 ∙ sym (append_assoc ended.0 (13 ∷ []) (10 ∷ [])))) (put_last (ended.0 ++ 13 ∷ []) 10))
left_ended lines are filled sound (inr cr) = ended_all lines 13 refl are filled sound (subst (EndsIn 13) (sym cr.1) (put_last cr.0 13))

completed_lines : (lines : List (List ℕ)) (octets : List ℕ) → AreLines lines → AreFilled lines → AllByRecursion IsSound lines → AreUnmarked boundary lines → IsCompleted (concat lines) octets → HoldsLines octets
completed_lines lines octets are filled sound unmarked (inl same) =
    record { lines = lines; whole = same.1; ended = left_ended lines are filled sound same.0; sound = sound; unmarked = unmarked }
completed_lines lines octets are filled sound unmarked (inr more) =
    let has = put_ending lines are filled in
    record { lines = has.first ∷ has.others; whole = more.1 ∙ sym has.whole; ended = has.ended; sound = has.sound sound; unmarked = has.unmarked boundary unmarked }

-- the lines of a block
pub record HasBlockLines (octets : List ℕ) (end : ℕ) : Type 0 where
  pub lines : List (List ℕ)
  pub whole : take end octets ≡ concat lines
  pub are : AreLines lines
  pub filled : AreFilled lines
  pub sound : AllByRecursion IsSound lines
  pub unmarked : AreUnmarked boundary lines

pub block_lines : (octets : List ℕ) (fields : List Field) (end : ℕ) → HasBlock octets fields end → HasBlockLines octets end
block_lines octets fields end block =
    let lines = block.header in
    let whole : octets ≡ concat lines ++ concat block.rest = sym (concat_lines_of octets) ∙ (ap concat block.lines ∙ concat-append lines block.rest) in
    let joins = AreFields-join octets [] (concat block.rest) lines 0 fields end whole refl block.fields_are in
    let end_is = joins.end_is in
    let own = fields_lines lines 0 fields end block.fields_are in
    record {
      lines = lines;
      whole = ap (take end) whole ∙ take_at (concat lines) (concat block.rest) end (omega arith);
      are = AreLines-front lines block.rest (subst AreLines block.lines (AreLines-lines_of octets));
      filled = fields_filled lines 0 fields end block.fields_are;
      sound = own.sound;
      unmarked = own.unmarked;
    }

pub header_lines : (shown header : List ℕ) (fields : List Field) (end : ℕ) → HasBlock shown fields end → IsCompleted (take end shown) header → HoldsLines header
header_lines shown header fields end block completed =
    let front = block_lines shown fields end block in
    completed_lines front.lines header front.are front.filled front.sound front.unmarked (subst (λ octets. IsCompleted octets header) front.whole completed)
