-- Lines under open boundaries.
use Rattle.std.proofs.Common.{◌≡◌, ℕ, ◌+◌, List, [], ◌∷◌, ◌++◌, length, Bool, true, false, arith, refl, sym, ap, ◌∙◌, length-append, append-nil}
use Rattle.std.specs.List.{concat}
use Rattle.mail_wire.specs.Lines.{crlf}
use Rattle.mime_tree.specs.Marks.{text_of}
use Rattle.mime_tree.specs.Parts.{shortened, size}
use Rattle.mime_tree.specs.private.Open.{is_marked, begins_marked, region, after}
use Rattle.mime_tree.proofs.Texts.{IsWhole, AreLines}

pub region-marked : (s : List (List ℕ)) (line : List ℕ) (rest : List (List ℕ)) → is_marked s line ≡ true → region s (line ∷ rest) ≡ []
unfolding region
region-marked s line rest marked = rw marked refl

pub region-cut : (s : List (List ℕ)) (line : List ℕ) (rest : List (List ℕ)) → is_marked s line ≡ false → begins_marked s rest ≡ true → region s (line ∷ rest) ≡ shortened (text_of line)
unfolding region
region-cut s line rest other begins = rw (other, begins) refl

pub region-on : (s : List (List ℕ)) (line : List ℕ) (rest : List (List ℕ)) → is_marked s line ≡ false → begins_marked s rest ≡ false → region s (line ∷ rest) ≡ line ∷ region s rest
unfolding region
region-on s line rest other begins = rw (other, begins) refl

pub region-begins : (s lines : List (List ℕ)) → begins_marked s lines ≡ true → region s lines ≡ []
unfolding region begins_marked
region-begins s [] begins = refl
region-begins s (line ∷ rest) begins = rw begins refl

pub after-on : (s : List (List ℕ)) (line : List ℕ) (rest : List (List ℕ)) → is_marked s line ≡ false → after s (line ∷ rest) ≡ after s rest
unfolding after
after-on s line rest other = rw other refl

pub after-marked : (s : List (List ℕ)) (line : List ℕ) (rest : List (List ℕ)) → is_marked s line ≡ true → after s (line ∷ rest) ≡ line ∷ rest
unfolding after
after-marked s line rest marked = rw marked refl

pub after-begins : (s lines : List (List ℕ)) → begins_marked s lines ≡ true → after s lines ≡ lines
unfolding after begins_marked
after-begins s [] begins = refl
after-begins s (line ∷ rest) begins = rw begins refl

-- with no marked line nothing is left
pub after_by : (s : List (List ℕ)) (line : List ℕ) (rest : List (List ℕ)) (b : Bool) → is_marked s line ≡ b → (begins_marked s (after s rest) ≡ false → after s rest ≡ []) → begins_marked s (after s (line ∷ rest)) ≡ false
    → after s (line ∷ rest) ≡ []
unfolding begins_marked
after_by s line rest true h next none = let clash : true ≡ false = sym h ∙ rw (after-marked s line rest h) at none in cc
after_by s line rest false h next none = after-on s line rest h ∙ next (rw (after-on s line rest h) at none)

pub after-none : (s lines : List (List ℕ)) → begins_marked s (after s lines) ≡ false → after s lines ≡ []
unfolding after
after-none s [] none = refl
after-none s (line ∷ rest) none = after_by s line rest (is_marked s line) refl (after-none s rest) none

-- the lines of an entity that reaches to the end are all
all_by : (s : List (List ℕ)) (line : List ℕ) (rest : List (List ℕ)) (b c : Bool) → is_marked s line ≡ b → begins_marked s rest ≡ c → (after s rest ≡ [] → region s rest ≡ rest) → after s (line ∷ rest) ≡ [] → region s (line ∷ rest) ≡ line ∷ rest
unfolding begins_marked
all_by s line rest true c h i next none = let clash : line ∷ rest ≡ [] = rw (after-marked s line rest h) at none in cc
all_by s line [] false true h i next none = let clash : false ≡ true = i in cc
all_by s line (other ∷ rest) false true h i next none = let clash : other ∷ rest ≡ [] = sym (after-marked s other rest i) ∙ (rw (after-on s line (other ∷ rest) h) at none) in cc
all_by s line rest false false h i next none = region-on s line rest h i ∙ ap (λ all. line ∷ all) (next (rw (after-on s line rest h) at none))

pub region-all : (s lines : List (List ℕ)) → after s lines ≡ [] → region s lines ≡ lines
unfolding region
region-all s [] none = refl
region-all s (line ∷ rest) none = all_by s line rest (is_marked s line) (begins_marked s rest) refl refl (region-all s rest) none

pub size-shortened : (text : List ℕ) → size (shortened text) ≡ length text
size-shortened [] = refl
size-shortened (x ∷ text) = ap length (append-nil (x ∷ text))

pub size-cons : (line : List ℕ) (lines : List (List ℕ)) → size (line ∷ lines) ≡ length line + size lines
size-cons line lines = length-append line (concat lines)

pub size-append : (lines others : List (List ℕ)) → size (lines ++ others) ≡ size lines + size others
size-append [] others = omega arith
size-append (line ∷ lines) others = size-cons line (lines ++ others) ∙ (let more = size-append lines others in let here = size-cons line lines in omega arith)

pub whole_size : (line : List ℕ) → IsWhole line → length line ≡ length (text_of line) + 2
whole_size line whole = let joined = ap length whole.joined in omega (arith, length-append (text_of line) crlf)

-- what is cut off is two octets
end_by : (s : List (List ℕ)) (line : List ℕ) (rest : List (List ℕ)) (c : Bool) → is_marked s line ≡ false → begins_marked s rest ≡ c
    → (begins_marked s rest ≡ false → begins_marked s (after s rest) ≡ true → size (region s rest) + 2 + size (after s rest) ≡ size rest)
    → AreLines (line ∷ rest) → begins_marked s (after s (line ∷ rest)) ≡ true → size (region s (line ∷ rest)) + 2 + size (after s (line ∷ rest)) ≡ size (line ∷ rest)
unfolding begins_marked
end_by s line [] true h i next are marked = let clash : false ≡ true = i in cc
end_by s line (other ∷ rest) true h i next are marked =
    let here = whole_size line are.0 in
    rw (region-cut s line (other ∷ rest) h i, after-on s line (other ∷ rest) h, after-marked s other rest i, size-cons line (other ∷ rest), size-shortened) (omega arith)
end_by s line rest false h i next are marked =
    let more = next i (rw (after-on s line rest h) at marked) in
    rw (region-on s line rest h i, after-on s line rest h, size-cons line (region s rest), size-cons line rest) (omega arith)

pub AreLines-tail : (line : List ℕ) (rest : List (List ℕ)) → AreLines (line ∷ rest) → AreLines rest
AreLines-tail line [] are = tt
AreLines-tail line (next ∷ rest) are = are.1

pub region-end : (s lines : List (List ℕ)) → AreLines lines → begins_marked s lines ≡ false → begins_marked s (after s lines) ≡ true → size (region s lines) + 2 + size (after s lines) ≡ size lines
unfolding begins_marked after
region-end s [] are other marked = let clash : false ≡ true = marked in cc
region-end s (line ∷ rest) are other marked = end_by s line rest (begins_marked s rest) other refl (region-end s rest (AreLines-tail line rest are)) are marked
