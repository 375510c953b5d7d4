-- The text of a line.
use Rattle.std.proofs.Common.{◌≡◌, ℕ, zero, suc, ◌+◌, ◌<◌, List, [], ◌∷◌, ◌++◌, length, take, Bool, true, false, nat_eq, arith, refl, sym, ap, ◌∙◌, ◌⊎◌, inl, inr, Some, None}
use Rattle.std.specs.List.{starts_with}
use Rattle.std.proofs.lemmas.Bool.{and_right}
use Rattle.std.proofs.Math.Seq.{take-length}
use Rattle.memchr.specs.Find.{FindsNeedle}
use Rattle.mail_wire.specs.Lines.{lines_of, put_before, is_crlf, crlf}
use Rattle.mail_wire.proofs.FirstLine.{IsCrlfAt, is_crlf_true, is_crlf_false, later, before, at_place, place_of, lines_of-crlf, lines_of-other}
use Rattle.utf8_fields.proofs.Heads.{first_line_begins}
use Rattle.mime_tree.specs.Marks.{text_of, dashes}
use Rattle.mime_tree.specs.Parts.{shortened}

pub text_of-crlf : (x y : ℕ) (rest : List ℕ) → is_crlf x y ≡ true → text_of (x ∷ y ∷ rest) ≡ []
unfolding text_of
text_of-crlf x y rest both = rw both refl

pub text_of-other : (x y : ℕ) (rest : List ℕ) → is_crlf x y ≡ false → text_of (x ∷ y ∷ rest) ≡ x ∷ text_of (y ∷ rest)
unfolding text_of
text_of-other x y rest other = rw other refl

pub text_of-first : (xs : List ℕ) (k : ℕ) → IsCrlfAt xs k → ((j : ℕ) → j < k → IsCrlfAt xs j → ⊥) → text_of (take (suc (suc k)) xs) ≡ take k xs
text_of-first [] k h none = let fits = h.fits in absurd (omega arith)
text_of-first (x ∷ []) k h none = let fits = h.fits in absurd (omega arith)
text_of-first (x ∷ y ∷ rest) zero h none = text_of-crlf x y [] (is_crlf_true x y h.cr h.lf)
text_of-first (x ∷ y ∷ rest) (suc k) h none =
    let other : is_crlf x y ≡ false = is_crlf_false x y (λ cr lf. none 0 (omega arith) (record { fits = omega arith; cr = cr; lf = lf })) in
    let next = text_of-first (y ∷ rest) k (later x (y ∷ rest) k h) (λ j lt at. none (suc j) (omega arith) (before x (y ∷ rest) j at)) in
    text_of-other x y (take (suc k) rest) other ∙ ap (λ text. x ∷ text) next

pub text_of-before : (xs : List ℕ) (k : ℕ) → IsCrlfAt xs k → ((j : ℕ) → j < k → IsCrlfAt xs j → ⊥) → text_of xs ≡ take k xs
text_of-before [] k h none = let fits = h.fits in absurd (omega arith)
text_of-before (x ∷ []) k h none = let fits = h.fits in absurd (omega arith)
text_of-before (x ∷ y ∷ rest) zero h none = text_of-crlf x y rest (is_crlf_true x y h.cr h.lf)
text_of-before (x ∷ y ∷ rest) (suc k) h none =
    let other : is_crlf x y ≡ false = is_crlf_false x y (λ cr lf. none 0 (omega arith) (record { fits = omega arith; cr = cr; lf = lf })) in
    let next = text_of-before (y ∷ rest) k (later x (y ∷ rest) k h) (λ j lt at. none (suc j) (omega arith) (before x (y ∷ rest) j at)) in
    text_of-other x y rest other ∙ ap (λ text. x ∷ text) next

pub whole_found : (xs : List ℕ) (k : ℕ) → FindsNeedle xs crlf 0 (Some k) → take k xs ≡ text_of xs
whole_found xs k h = sym (text_of-before xs k (at_place xs k h.1) (λ j lt at. h.0.before j (omega arith) lt (place_of xs j at)))

pub text_of-none : (xs : List ℕ) → ((j : ℕ) → IsCrlfAt xs j → ⊥) → text_of xs ≡ xs
unfolding text_of
text_of-none [] none = refl
text_of-none (x ∷ []) none = refl
text_of-none (x ∷ y ∷ rest) none =
    let other : is_crlf x y ≡ false = is_crlf_false x y (λ cr lf. none 0 (record { fits = omega arith; cr = cr; lf = lf })) in
    text_of-other x y rest other ∙ ap (λ text. x ∷ text) (text_of-none (y ∷ rest) (λ j at. none (suc j) (before x (y ∷ rest) j at)))

pub whole_not_found : (xs : List ℕ) → FindsNeedle xs crlf 0 None → take (length xs) xs ≡ text_of xs
whole_not_found xs h = rw take-length (sym (text_of-none xs (λ j at. let fits = at.fits in h j (omega arith) (omega arith) (place_of xs j at))))

pub text_of-found : (xs : List ℕ) (k : ℕ) → FindsNeedle xs crlf 0 (Some k) → take k xs ≡ text_of (take (k + 2) xs)
text_of-found xs k h =
    let two : k + 2 ≡ suc (suc k) = omega arith in
    rw two (sym (text_of-first xs k (at_place xs k h.1) (λ j lt at. h.0.before j (omega arith) lt (place_of xs j at))))

pub text_of-not_found : (xs : List ℕ) → FindsNeedle xs crlf 0 None → take (length xs) xs ≡ text_of (take (length xs) xs)
text_of-not_found xs h =
    rw take-length (sym (text_of-none xs (λ j at. let fits = at.fits in h j (omega arith) (omega arith) (place_of xs j at))))

-- a line that ends with its CRLF, and has no other
pub record IsWhole (line : List ℕ) : Type 0 where
  pub joined : text_of line ++ crlf ≡ line

-- These are lines, of which only the last may lack its CRLF.
abbrev pub AreLines : List (List ℕ) → Type 0
AreLines [] = Unit {0}
AreLines (line ∷ []) = lines_of line ≡ line ∷ []
AreLines (line ∷ next ∷ rest) = IsWhole line × AreLines (next ∷ rest)

-- a text begins as its line, or is empty
pub text_begins : (y : ℕ) (rest : List ℕ) → (text_of (y ∷ rest) ≡ []) ⊎ ((more : List ℕ) × (text_of (y ∷ rest) ≡ y ∷ more))
unfolding text_of
text_begins y [] = inr ([], refl)
text_begins y (z ∷ rest) = go (is_crlf y z) refl
  where
    go : (b : Bool) → is_crlf y z ≡ b → (text_of (y ∷ z ∷ rest) ≡ []) ⊎ ((more : List ℕ) × (text_of (y ∷ z ∷ rest) ≡ y ∷ more))
    go true h = inl (text_of-crlf y z rest h)
    go false h = inr (text_of (z ∷ rest), text_of-other y z rest h)

longer_text : (x y : ℕ) (t : List ℕ) → is_crlf x y ≡ false → ((t ≡ []) ⊎ ((more : List ℕ) × (t ≡ y ∷ more))) → text_of t ≡ t → text_of (x ∷ t) ≡ x ∷ t
unfolding text_of
longer_text x y t h (inl none) same = rw none refl
longer_text x y t h (inr some) same = rw some.1 (text_of-other x y some.0 h ∙ ap (λ text. x ∷ text) (rw some.1 at same))

text_by : (x y : ℕ) (rest : List ℕ) → text_of (text_of (y ∷ rest)) ≡ text_of (y ∷ rest) → (b : Bool) → is_crlf x y ≡ b → text_of (text_of (x ∷ y ∷ rest)) ≡ text_of (x ∷ y ∷ rest)
unfolding text_of
text_by x y rest same true h = rw (text_of-crlf x y rest h) refl
text_by x y rest same false h = rw (text_of-other x y rest h) (longer_text x y (text_of (y ∷ rest)) h (text_begins y rest) same)

-- the text has no CRLF
pub text_of-text : (line : List ℕ) → text_of (text_of line) ≡ text_of line
unfolding text_of
text_of-text [] = refl
text_of-text (x ∷ []) = refl
text_of-text (x ∷ y ∷ rest) = text_by x y rest (text_of-text (y ∷ rest)) (is_crlf x y) refl

text_of-nil : (line : List ℕ) → text_of line ≡ [] → IsWhole line → line ≡ crlf
text_of-nil line none whole = sym whole.joined ∙ rw none refl

tail_whole : (x y : ℕ) (rest : List ℕ) → is_crlf x y ≡ false → IsWhole (x ∷ y ∷ rest) → IsWhole (y ∷ rest)
tail_whole x y rest other whole =
    let all : x ∷ (text_of (y ∷ rest) ++ crlf) ≡ x ∷ y ∷ rest = rw (text_of-other x y rest other) at whole.joined in
    record { joined = cc }

pub longer_whole : (x y : ℕ) (rest : List ℕ) → is_crlf x y ≡ false → IsWhole (y ∷ rest) → IsWhole (x ∷ y ∷ rest)
longer_whole x y rest other whole = record { joined = rw (text_of-other x y rest other) (ap (λ all. x ∷ all) whole.joined) }

whole_by : (x y : ℕ) (line rest : List ℕ) → IsWhole (x ∷ y ∷ line) → (IsWhole (y ∷ line) → lines_of (y ∷ line ++ rest) ≡ (y ∷ line) ∷ lines_of rest) → (b : Bool) → is_crlf x y ≡ b
    → lines_of (x ∷ y ∷ line ++ rest) ≡ (x ∷ y ∷ line) ∷ lines_of rest
whole_by x y line rest whole next true h =
    let all : crlf ≡ x ∷ y ∷ line = rw (text_of-crlf x y line h) at whole.joined in
    let nil : line ≡ [] = cc in
    let x_is : x ≡ 13 = cc in
    let y_is : y ≡ 10 = cc in
    lines_of-crlf x y (line ++ rest) h ∙ rw (nil, x_is, y_is) refl
whole_by x y line rest whole next false h = lines_of-other x y (line ++ rest) h ∙ ap (put_before x) (next (tail_whole x y line h whole))

-- a whole line is the first one, whatever follows
pub lines_of-whole : (line rest : List ℕ) → IsWhole line → lines_of (line ++ rest) ≡ line ∷ lines_of rest
unfolding text_of
lines_of-whole [] rest whole = let none : crlf ≡ [] = whole.joined in cc
lines_of-whole (x ∷ []) rest whole = let none : x ∷ crlf ≡ x ∷ [] = whole.joined in cc
lines_of-whole (x ∷ y ∷ line) rest whole = whole_by x y line rest whole (λ less. lines_of-whole (y ∷ line) rest less) (is_crlf x y) refl

longer_line : (x y : ℕ) (t : List ℕ) → is_crlf x y ≡ false → ((t ≡ []) ⊎ ((more : List ℕ) × (t ≡ y ∷ more))) → lines_of t ≡ shortened t → lines_of (x ∷ t) ≡ shortened (x ∷ t)
unfolding lines_of
longer_line x y t h (inl none) same = rw none refl
longer_line x y t h (inr some) same = rw some.1 (lines_of-other x y some.0 h ∙ ap (put_before x) (rw some.1 at same))

line_by : (x y : ℕ) (rest : List ℕ) → lines_of (text_of (y ∷ rest)) ≡ shortened (text_of (y ∷ rest)) → (b : Bool) → is_crlf x y ≡ b
    → lines_of (text_of (x ∷ y ∷ rest)) ≡ shortened (text_of (x ∷ y ∷ rest))
unfolding lines_of
line_by x y rest same true h = rw (text_of-crlf x y rest h) refl
line_by x y rest same false h = rw (text_of-other x y rest h) (longer_line x y (text_of (y ∷ rest)) h (text_begins y rest) same)

-- a text is one line, if anything
pub lines_of-text : (line : List ℕ) → lines_of (text_of line) ≡ shortened (text_of line)
unfolding text_of lines_of
lines_of-text [] = refl
lines_of-text (x ∷ []) = refl
lines_of-text (x ∷ y ∷ rest) = line_by x y rest (lines_of-text (y ∷ rest)) (is_crlf x y) refl

crlf_first : (lines : List (List ℕ)) → AreLines lines → AreLines (crlf ∷ lines)
unfolding text_of lines_of
crlf_first [] are = refl
crlf_first (line ∷ lines) are = (record { joined = refl }, are)

are_by : (x y : ℕ) (rest : List ℕ) → AreLines (lines_of rest) → AreLines (lines_of (y ∷ rest)) → (b : Bool) → is_crlf x y ≡ b → AreLines (lines_of (x ∷ y ∷ rest))
are_by x y rest after next true h = rw (lines_of-crlf x y rest h) (crlf_first (lines_of rest) after)
are_by x y rest after next false h =
    let begins = first_line_begins y rest in
    rw (lines_of-other x y rest h) (rw begins.2 (longer begins.0 begins.1 (rw begins.2 at next)))
  where
    longer : (more : List ℕ) (lines : List (List ℕ)) → AreLines ((y ∷ more) ∷ lines) → AreLines (put_before x ((y ∷ more) ∷ lines))
    longer more [] are = lines_of-other x y more h ∙ ap (put_before x) are
    longer more (line ∷ lines) are = (longer_whole x y more h are.0, are.1)

-- the lines of octets are lines
pub lines_of-are : (s : List ℕ) → AreLines (lines_of s)
unfolding lines_of
lines_of-are [] = tt
lines_of-are (x ∷ []) = refl
lines_of-are (x ∷ y ∷ rest) = are_by x y rest (lines_of-are rest) (lines_of-are (y ∷ rest)) (is_crlf x y) refl

two_dashes : (x y : ℕ) (a b : List ℕ) → starts_with nat_eq (x ∷ y ∷ a) dashes ≡ starts_with nat_eq (x ∷ y ∷ b) dashes
two_dashes x y a b = refl

one_dash : (x : ℕ) → starts_with nat_eq (x ∷ []) dashes ≡ false
one_dash x = and_right (nat_eq 45 x) false refl

-- a text doesn't begin with hyphens where its line doesn't
pub text_apart : (line rest : List ℕ) → starts_with nat_eq (line ++ rest) dashes ≡ false → starts_with nat_eq (text_of line) dashes ≡ false
unfolding text_of
text_apart [] rest apart = refl
text_apart (x ∷ []) rest apart = one_dash x
text_apart (x ∷ y ∷ line) rest apart = by (is_crlf x y) refl
  where
    other : (t : List ℕ) → (t ≡ []) ⊎ ((more : List ℕ) × (t ≡ y ∷ more)) → starts_with nat_eq (x ∷ t) dashes ≡ false
    other t (inl none) = rw none (one_dash x)
    other t (inr some) = rw some.1 (two_dashes x y some.0 (line ++ rest) ∙ apart)

    by : (b : Bool) → is_crlf x y ≡ b → starts_with nat_eq (text_of (x ∷ y ∷ line)) dashes ≡ false
    by true h = rw (text_of-crlf x y line h) refl
    by false h = rw (text_of-other x y line h) (other (text_of (y ∷ line)) (text_begins y line))
