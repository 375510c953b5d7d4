-- Lines that stand in the octets, and their parts.
use Rattle.std.proofs.Common.{◌≡◌, ℕ, ◌+◌, List, [], ◌∷◌, ◌++◌, Bool, true, false, length, inl, inr, refl, sym, ap, ◌∙◌, subst, append-nil, append_assoc}
use Rattle.std.specs.List.{concat, AllByRecursion}
use Rattle.std.proofs.lemmas.List.Folds.{concat-append}
use Rattle.mail_wire.specs.Lines.{lines_of, is_crlf}
use Rattle.mail_wire.proofs.LineLemmas.{concat_lines_of}
use Rattle.utf8_fields.proofs.LineShapes.{AreLines, AreLines-front, AreLines-back, AreLines-lines_of}
use Rattle.mime_tree.specs.Marks.{text_of, is_delimiter, is_close}
use Rattle.mime_tree.specs.Parts.{Part, shortened, cut_last, size, parts_on, parts_of}
use Rattle.mime_tree.proofs.Texts.{lines_of-text}
use Rattle.mime_tree.proofs.Standing.{Stands}
use Rattle.mime_tree.proofs.InPlace.{stands_front, stands_back}
use Rattle.mime_tree.proofs.PartLemmas.{parts_of-delimiter, parts_of-on, parts_on-close, parts_on-delimiter, parts_on-on}

-- these are lines, which stand in the octets at this place
pub record AreLinesAt (octets : List ℕ) (at : ℕ) (lines : List (List ℕ)) : Type 0 where
  pub are : AreLines lines
  pub stand : Stands octets at (concat lines)

-- the first ones of such lines stand there
pub lines_front : (octets : List ℕ) (at : ℕ) (lines others : List (List ℕ)) → AreLinesAt octets at (lines ++ others) → AreLinesAt octets at lines
lines_front octets at lines others is =
    let stand : Stands octets at (concat lines ++ concat others) = rw (concat-append lines others) at is.stand in
    record { are = AreLines-front lines others is.are; stand = stands_front octets at (concat lines) (concat others) stand }

-- and the ones after them stand after
pub lines_back : (octets : List ℕ) (at : ℕ) (lines others : List (List ℕ)) → AreLinesAt octets at (lines ++ others) → AreLinesAt octets (at + size lines) others
lines_back octets at lines others is =
    let stand : Stands octets at (concat lines ++ concat others) = rw (concat-append lines others) at is.stand in
    record { are = AreLines-back lines others is.are; stand = stands_back octets at (at + size lines) (concat lines) (concat others) refl stand }

-- the lines after the first one
pub lines_tail : (octets : List ℕ) (at : ℕ) (line : List ℕ) (rest : List (List ℕ)) → AreLinesAt octets at (line ∷ rest) → AreLinesAt octets (at + length line) rest
lines_tail octets at line rest is = record { are = is.are.1; stand = stands_back octets at (at + length line) line (concat rest) refl is.stand }

-- all lines of the octets
pub all_lines : (octets : List ℕ) → AreLinesAt octets 0 (lines_of octets)
all_lines octets =
    record { are = AreLines-lines_of octets; stand = record { before = []; after = []; whole = sym (append-nil (concat (lines_of octets)) ∙ concat_lines_of octets); place = refl } }

-- a line begins with its text, if what follows its first octet does
first_by : (x y : ℕ) (rest : List ℕ) (b : Bool) → is_crlf x y ≡ b → ((more : List ℕ) × (y ∷ rest ≡ text_of (y ∷ rest) ++ more)) → (more : List ℕ) × (x ∷ y ∷ rest ≡ text_of (x ∷ y ∷ rest) ++ more)
unfolding text_of
first_by x y rest true h next = (x ∷ y ∷ rest, rw h refl)
first_by x y rest false h next = (next.0, rw h (ap (λ text. x ∷ text) next.1))

-- a line begins with its text
text_first : (line : List ℕ) → (more : List ℕ) × (line ≡ text_of line ++ more)
unfolding text_of
text_first [] = ([], refl)
text_first (x ∷ []) = ([], refl)
text_first (x ∷ y ∷ rest) = first_by x y rest (is_crlf x y) refl (text_first (y ∷ rest))

-- lines without the last CRLF are lines
cut_are : (lines : List (List ℕ)) → AreLines lines → AreLines (cut_last lines)
unfolding cut_last
cut_are [] are = tt
cut_are (line ∷ []) are = subst AreLines (lines_of-text line) (AreLines-lines_of (text_of line))
cut_are (line ∷ next ∷ rest) are = (elim are.0 [ inl once ↦ inl once | inr never ↦ absurd (let clash : next ∷ rest ≡ [] = never.1 in cc) ], cut_are (next ∷ rest) are.1)

-- the lines begin with them
cut_first : (lines : List (List ℕ)) → (more : List ℕ) × (concat lines ≡ concat (cut_last lines) ++ more)
unfolding cut_last
cut_first [] = ([], refl)
cut_first (line ∷ []) =
    let text = text_first line in
    let whole : concat (shortened (text_of line)) ≡ text_of line = ap concat (sym (lines_of-text line)) ∙ concat_lines_of (text_of line) in
    (text.0, append-nil line ∙ text.1 ∙ ap (λ first. first ++ text.0) (sym whole))
cut_first (line ∷ next ∷ rest) =
    let later = cut_first (next ∷ rest) in
    (later.0, ap (λ text. line ++ text) later.1 ∙ sym (append_assoc line (concat (cut_last (next ∷ rest))) later.0))

-- lines that stand in the octets do so without the last CRLF
pub lines_cut : (octets : List ℕ) (at : ℕ) (lines : List (List ℕ)) → AreLinesAt octets at lines → AreLinesAt octets at (cut_last lines)
lines_cut octets at lines is =
    let first = cut_first lines in
    let stand : Stands octets at (concat (cut_last lines) ++ first.0) = rw first.1 at is.stand in
    record { are = cut_are lines is.are; stand = stands_front octets at (concat (cut_last lines)) first.0 stand }

-- the lines of each part stand at its place
abbrev pub ArePartsAt : List ℕ → List Part → Type 0
ArePartsAt octets parts = AllByRecursion (λ part. AreLinesAt octets part.at part.lines) parts

-- one line more of a part, by what the line is
on_by : (octets boundary : List ℕ) (at : ℕ) (passed : List (List ℕ)) (line : List ℕ) (rest : List (List ℕ)) (close delimiter : Bool) → is_close boundary line ≡ close → is_delimiter boundary line ≡ delimiter
    → AreLinesAt octets at (passed ++ line ∷ rest)
    → (AreLinesAt octets (at + size passed + length line) rest → ArePartsAt octets (parts_on boundary (at + size passed + length line) [] rest))
    → (AreLinesAt octets at ((passed ++ line ∷ []) ++ rest) → ArePartsAt octets (parts_on boundary at (passed ++ line ∷ []) rest))
    → ArePartsAt octets (parts_on boundary at passed (line ∷ rest))
on_by octets boundary at passed line rest true delimiter c d is next onward =
    rw (parts_on-close boundary at passed line rest c) (lines_cut octets at passed (lines_front octets at passed (line ∷ rest) is), tt)
on_by octets boundary at passed line rest false true c d is next onward =
    let following = lines_tail octets (at + size passed) line rest (lines_back octets at passed (line ∷ rest) is) in
    rw (parts_on-delimiter boundary at passed line rest c d) (lines_cut octets at passed (lines_front octets at passed (line ∷ rest) is), next following)
on_by octets boundary at passed line rest false false c d is next onward =
    rw (parts_on-on boundary at passed line rest c d) (onward (rw (append_assoc passed (line ∷ []) rest) is))

-- the parts from one on, of which lines have passed
pub parts_on_at : (octets boundary : List ℕ) (at : ℕ) (passed rest : List (List ℕ)) → AreLinesAt octets at (passed ++ rest) → ArePartsAt octets (parts_on boundary at passed rest)
unfolding parts_on
parts_on_at octets boundary at passed [] is = (lines_front octets at passed [] is, tt)
parts_on_at octets boundary at passed (line ∷ rest) is =
    on_by octets boundary at passed line rest (is_close boundary line) (is_delimiter boundary line) refl refl is
    (λ following. parts_on_at octets boundary (at + size passed + length line) [] rest following)
    (λ onward. parts_on_at octets boundary at (passed ++ line ∷ []) rest onward)

-- one line before the first part, by what the line is
of_by : (octets boundary : List ℕ) (at : ℕ) (line : List ℕ) (rest : List (List ℕ)) (delimiter : Bool) → is_delimiter boundary line ≡ delimiter → AreLinesAt octets (at + length line) rest
    → ArePartsAt octets (parts_of boundary (at + length line) rest) → ArePartsAt octets (parts_of boundary at (line ∷ rest))
of_by octets boundary at line rest true d following next = rw (parts_of-delimiter boundary at line rest d) (parts_on_at octets boundary (at + length line) [] rest following)
of_by octets boundary at line rest false d following next = rw (parts_of-on boundary at line rest d) next

-- the parts of lines that stand in the octets stand there
pub parts_of_at : (octets boundary : List ℕ) (at : ℕ) (lines : List (List ℕ)) → AreLinesAt octets at lines → ArePartsAt octets (parts_of boundary at lines)
unfolding parts_of
parts_of_at octets boundary at [] is = tt
parts_of_at octets boundary at (line ∷ rest) is =
    let following = lines_tail octets at line rest is in
    of_by octets boundary at line rest (is_delimiter boundary line) refl following (parts_of_at octets boundary (at + length line) rest following)
