-- The header of an entity, under open boundaries.
use Rattle.std.proofs.Common.{◌≡◌, ℕ, ◌+◌, List, [], ◌∷◌, ◌++◌, Bool, true, false, ◌||◌, arith, refl, sym, ap, ◌∙◌, append-nil, append_assoc}
use Rattle.std.proofs.lemmas.Bool.{or_parts}
use Rattle.std.specs.List.{concat}
use Rattle.mail_wire.specs.Lines.{lines_of, crlf}
use Rattle.mime_tree.specs.Marks.{text_of}
use Rattle.mime_tree.specs.Parts.{shortened, size}
use Rattle.mime_tree.specs.private.Open.{is_marked, begins_marked, region, header, after_header, is_empty_line}
use Rattle.mime_tree.proofs.Texts.{AreLines, lines_of-whole, lines_of-text}
use Rattle.mime_tree.proofs.Regions.{region-begins, region-cut, region-on, size-cons, size-shortened, whole_size, AreLines-tail}

pub header-stop : (s : List (List ℕ)) (line : List ℕ) (rest : List (List ℕ)) → (is_marked s line || is_empty_line line) ≡ true → header s (line ∷ rest) ≡ []
unfolding header
header-stop s line rest stops = rw stops refl

pub header-cut : (s : List (List ℕ)) (line : List ℕ) (rest : List (List ℕ)) → (is_marked s line || is_empty_line line) ≡ false → begins_marked s rest ≡ true → header s (line ∷ rest) ≡ shortened (text_of line)
unfolding header
header-cut s line rest goes begins = rw (goes, begins) refl

pub header-on : (s : List (List ℕ)) (line : List ℕ) (rest : List (List ℕ)) → (is_marked s line || is_empty_line line) ≡ false → begins_marked s rest ≡ false → header s (line ∷ rest) ≡ line ∷ header s rest
unfolding header
header-on s line rest goes begins = rw (goes, begins) refl

pub after_header-stop : (s : List (List ℕ)) (line : List ℕ) (rest : List (List ℕ)) → (is_marked s line || is_empty_line line) ≡ true → after_header s (line ∷ rest) ≡ line ∷ rest
unfolding after_header
after_header-stop s line rest stops = rw stops refl

pub after_header-on : (s : List (List ℕ)) (line : List ℕ) (rest : List (List ℕ)) → (is_marked s line || is_empty_line line) ≡ false → after_header s (line ∷ rest) ≡ after_header s rest
unfolding after_header
after_header-on s line rest goes = rw goes refl

pub after_header-begins : (s lines : List (List ℕ)) → begins_marked s lines ≡ true → after_header s lines ≡ lines
unfolding begins_marked after_header
after_header-begins s [] begins = refl
after_header-begins s (line ∷ rest) begins = rw begins refl

pub header-begins : (s lines : List (List ℕ)) → begins_marked s lines ≡ true → header s lines ≡ []
unfolding begins_marked header
header-begins s [] begins = refl
header-begins s (line ∷ rest) begins = rw begins refl

-- an entity's lines are its header and what follows it
region_by : (s : List (List ℕ)) (line : List ℕ) (rest : List (List ℕ)) (b c : Bool) → (is_marked s line || is_empty_line line) ≡ b → begins_marked s rest ≡ c
    → region s rest ≡ header s rest ++ region s (after_header s rest) → region s (line ∷ rest) ≡ header s (line ∷ rest) ++ region s (after_header s (line ∷ rest))
region_by s line rest true c h i next = rw (header-stop s line rest h, after_header-stop s line rest h) refl
region_by s line rest false true h i next =
    rw (header-cut s line rest h i, after_header-on s line rest h, after_header-begins s rest i, region-begins s rest i, region-cut s line rest (or_parts (is_marked s line) (is_empty_line line) h).0 i)
    (sym (append-nil (shortened (text_of line))))
region_by s line rest false false h i next =
    rw (header-on s line rest h i, after_header-on s line rest h, region-on s line rest (or_parts (is_marked s line) (is_empty_line line) h).0 i) (ap (λ all. line ∷ all) next)

pub region-header : (s lines : List (List ℕ)) → region s lines ≡ header s lines ++ region s (after_header s lines)
unfolding region header after_header
region-header s [] = refl
region-header s (line ∷ rest) = region_by s line rest (is_marked s line || is_empty_line line) (begins_marked s rest) refl refl (region-header s rest)

-- the lines of a header, joined and cut again, are the same
lines_of-shortened : (line : List ℕ) → lines_of (concat (shortened (text_of line))) ≡ shortened (text_of line)
lines_of-shortened line = go (text_of line) (lines_of-text line)
  where
    go : (t : List ℕ) → lines_of t ≡ shortened t → lines_of (concat (shortened t)) ≡ shortened t
    go [] same = same
    go (x ∷ t) same = ap lines_of (append-nil (x ∷ t)) ∙ same

again_by : (s : List (List ℕ)) (line : List ℕ) (rest : List (List ℕ)) (b c : Bool) → (is_marked s line || is_empty_line line) ≡ b → begins_marked s rest ≡ c → AreLines (line ∷ rest)
    → lines_of (concat (header s rest)) ≡ header s rest → lines_of (concat (header s (line ∷ rest))) ≡ header s (line ∷ rest)
unfolding lines_of header
again_by s line rest true c h i are next = rw (header-stop s line rest h) refl
again_by s line rest false true h i are next = rw (header-cut s line rest h i) (lines_of-shortened line)
again_by s line [] false false h i are next = rw (header-on s line [] h i) (ap lines_of (append-nil line) ∙ are)
again_by s line (other ∷ rest) false false h i are next =
    rw (header-on s line (other ∷ rest) h i) (lines_of-whole line (concat (header s (other ∷ rest))) are.0 ∙ ap (λ all. line ∷ all) next)

pub lines_of-header : (s lines : List (List ℕ)) → AreLines lines → lines_of (concat (header s lines)) ≡ header s lines
unfolding lines_of header
lines_of-header s [] are = refl
lines_of-header s (line ∷ rest) are = again_by s line rest (is_marked s line || is_empty_line line) (begins_marked s rest) refl refl are (lines_of-header s rest (AreLines-tail line rest are))

-- the header comes first in the octets
pub record ComesFirst (lines all : List (List ℕ)) : Type 0 where
  pub tail : List ℕ
  pub joined : concat all ≡ concat lines ++ tail

first_by : (s : List (List ℕ)) (line : List ℕ) (rest : List (List ℕ)) (b c : Bool) → (is_marked s line || is_empty_line line) ≡ b → begins_marked s rest ≡ c → AreLines (line ∷ rest)
    → ComesFirst (header s rest) rest → ComesFirst (header s (line ∷ rest)) (line ∷ rest)
unfolding begins_marked
first_by s line rest true c h i are next = record { tail = concat (line ∷ rest); joined = rw (header-stop s line rest h) refl }
first_by s line [] false true h i are next = let clash : false ≡ true = i in cc
first_by s line (other ∷ rest) false true h i are next =
    record {
      tail = crlf ++ concat (other ∷ rest);
      joined = rw (header-cut s line (other ∷ rest) h i) (go (text_of line) are.0.joined);
    }
  where
    go : (t : List ℕ) → t ++ crlf ≡ line → line ++ concat (other ∷ rest) ≡ concat (shortened t) ++ (crlf ++ concat (other ∷ rest))
    go [] joined = rw (← joined) refl
    go (x ∷ t) joined = rw (← joined) (append_assoc (x ∷ t) crlf (concat (other ∷ rest)) ∙ ap (λ all. all ++ (crlf ++ concat (other ∷ rest))) (sym (append-nil (x ∷ t))))
first_by s line rest false false h i are next =
    record { tail = next.tail; joined = rw (header-on s line rest h i) (ap (λ all. line ++ all) next.joined ∙ sym (append_assoc line (concat (header s rest)) next.tail)) }

pub header-first : (s lines : List (List ℕ)) → AreLines lines → ComesFirst (header s lines) lines
unfolding header
header-first s [] are = record { tail = []; joined = refl }
header-first s (line ∷ rest) are = first_by s line rest (is_marked s line || is_empty_line line) (begins_marked s rest) refl refl are (header-first s rest (AreLines-tail line rest are))

-- how long the header is
cut_by : (s : List (List ℕ)) (line : List ℕ) (rest : List (List ℕ)) (b c : Bool) → (is_marked s line || is_empty_line line) ≡ b → begins_marked s rest ≡ c → is_marked s line ≡ false
    → (begins_marked s rest ≡ false → begins_marked s (after_header s rest) ≡ true → size (header s rest) + 2 + size (after_header s rest) ≡ size rest)
    → AreLines (line ∷ rest) → begins_marked s (after_header s (line ∷ rest)) ≡ true → size (header s (line ∷ rest)) + 2 + size (after_header s (line ∷ rest)) ≡ size (line ∷ rest)
unfolding begins_marked
cut_by s line rest true c h i other next are marked = let clash : true ≡ false = sym (rw (after_header-stop s line rest h) at marked) ∙ other in cc
cut_by s line [] false true h i other next are marked = let clash : false ≡ true = i in cc
cut_by s line (more ∷ rest) false true h i other next are marked =
    let here = whole_size line are.0 in
    rw (header-cut s line (more ∷ rest) h i, after_header-on s line (more ∷ rest) h, after_header-begins s (more ∷ rest) i, size-cons line (more ∷ rest), size-shortened) (omega arith)
cut_by s line rest false false h i other next are marked =
    let later = next i (rw (after_header-on s line rest h) at marked) in
    rw (header-on s line rest h i, after_header-on s line rest h, size-cons line (header s rest), size-cons line rest) (omega arith)

pub header-end : (s lines : List (List ℕ)) → AreLines lines → begins_marked s lines ≡ false → begins_marked s (after_header s lines) ≡ true
    → size (header s lines) + 2 + size (after_header s lines) ≡ size lines
unfolding begins_marked after_header
header-end s [] are other marked = let clash : false ≡ true = marked in cc
header-end s (line ∷ rest) are other marked =
    cut_by s line rest (is_marked s line || is_empty_line line) (begins_marked s rest) refl refl other (header-end s rest (AreLines-tail line rest are)) are marked

open_by : (s : List (List ℕ)) (line : List ℕ) (rest : List (List ℕ)) (b c : Bool) → (is_marked s line || is_empty_line line) ≡ b → begins_marked s rest ≡ c
    → (begins_marked s (after_header s rest) ≡ false → size (header s rest) + size (after_header s rest) ≡ size rest)
    → begins_marked s (after_header s (line ∷ rest)) ≡ false → size (header s (line ∷ rest)) + size (after_header s (line ∷ rest)) ≡ size (line ∷ rest)
unfolding begins_marked
open_by s line rest true c h i next none = rw (header-stop s line rest h, after_header-stop s line rest h) (omega arith)
open_by s line rest false true h i next none =
    let same : after_header s (line ∷ rest) ≡ rest = after_header-on s line rest h ∙ after_header-begins s rest i in
    let clash : true ≡ false = sym i ∙ (rw same at none) in cc
open_by s line rest false false h i next none =
    let later = next (rw (after_header-on s line rest h) at none) in
    rw (header-on s line rest h i, after_header-on s line rest h, size-cons line (header s rest), size-cons line rest) (omega arith)

pub header-open : (s lines : List (List ℕ)) → begins_marked s (after_header s lines) ≡ false → size (header s lines) + size (after_header s lines) ≡ size lines
unfolding begins_marked after_header header
header-open s [] none = refl
header-open s (line ∷ rest) none = open_by s line rest (is_marked s line || is_empty_line line) (begins_marked s rest) refl refl (header-open s rest) none
