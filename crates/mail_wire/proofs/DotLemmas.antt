-- The lines of stuffed octets, and what they say.
use Rattle.std.proofs.Common.{◌≡◌, ℕ, List, [], ◌∷◌, ◌++◌, map, Bool, true, false, ◌==◌, refl, ap, ◌∙◌, arith}
use Rattle.std.specs.List.{concat, flat_map}
use Rattle.std.proofs.lemmas.Bool.Decides.{nat_tests}
use Rattle.mail_wire.specs.Dots.{stuffed, stuffed_line, unstuffed, unstuffed_line}
use Rattle.mail_wire.specs.Lines.{crlf, is_crlf, lines_of, put_before}
use Rattle.mail_wire.proofs.FirstLine.{lines_of-crlf, lines_of-other}
use Rattle.mail_wire.proofs.LineLemmas.{begins, concat_lines_of}

-- the first line as it is, and the others stuffed
abbrev pub others_stuffed : List (List ℕ) → List ℕ
others_stuffed [] = []
others_stuffed (line ∷ lines) = line ++ flat_map stuffed_line lines

-- the same, line by line
abbrev others_kept : List (List ℕ) → List (List ℕ)
others_kept [] = []
others_kept (line ∷ lines) = line ∷ map stuffed_line lines

-- the lines of stuffed octets, from a line's start and from within one
record HaveLines (octets : List ℕ) : Type 0 where
  start : lines_of (flat_map stuffed_line (lines_of octets)) ≡ map stuffed_line (lines_of octets)
  within : lines_of (others_stuffed (lines_of octets)) ≡ others_kept (lines_of octets)

none_left : HaveLines []
unfolding lines_of
none_left = record { start = refl; within = refl }

one_by : (x : ℕ) (b : Bool) → (x == 46) ≡ b → lines_of (flat_map stuffed_line ((x ∷ []) ∷ [])) ≡ map stuffed_line ((x ∷ []) ∷ [])
unfolding lines_of
one_by x true is = rw is refl
one_by x false is = rw is refl

one_left : (x : ℕ) → HaveLines (x ∷ [])
unfolding lines_of
one_left x = record { start = one_by x (x == 46) refl; within = refl }

crlf_first : (rest : List ℕ) → lines_of (13 ∷ 10 ∷ rest) ≡ crlf ∷ lines_of rest
crlf_first rest = lines_of-crlf 13 10 rest refl

-- a line that begins with a dot has one more
dot_by : (x : ℕ) (line others : List ℕ) (lines : List (List ℕ)) → lines_of (x ∷ (line ++ others)) ≡ (x ∷ line) ∷ lines → (b : Bool) → (x == 46) ≡ b
    → lines_of (stuffed_line (x ∷ line) ++ others) ≡ stuffed_line (x ∷ line) ∷ lines
dot_by x line others lines whole true is =
    let dot : x ≡ 46 = grind (arith, nat_tests) in
    let first : lines_of (46 ∷ (line ++ others)) ≡ (46 ∷ line) ∷ lines = rw dot at whole in
    rw dot (lines_of-other 46 46 (line ++ others) refl ∙ ap (put_before 46) first)
dot_by x line others lines whole false is = rw is whole

-- the octets don't begin with CRLF
other_first : (x y : ℕ) (rest line : List ℕ) (lines : List (List ℕ)) → is_crlf x y ≡ false → lines_of (y ∷ rest) ≡ (y ∷ line) ∷ lines
    → lines_of (x ∷ y ∷ rest) ≡ (x ∷ y ∷ line) ∷ lines → HaveLines (y ∷ rest) → HaveLines (x ∷ y ∷ rest)
other_first x y rest line lines apart here longer next =
    let following : lines_of (y ∷ (line ++ flat_map stuffed_line lines)) ≡ (y ∷ line) ∷ map stuffed_line lines = rw here at next.within in
    let whole : lines_of (x ∷ y ∷ (line ++ flat_map stuffed_line lines)) ≡ (x ∷ y ∷ line) ∷ map stuffed_line lines =
    lines_of-other x y (line ++ flat_map stuffed_line lines) apart ∙ ap (put_before x) following in
    record {
      start = rw longer (dot_by x (y ∷ line) (flat_map stuffed_line lines) (map stuffed_line lines) whole (x == 46) refl);
      within = rw longer whole;
    }

-- from the second octet on, and from the third on
lines_by : (x y : ℕ) (rest : List ℕ) → HaveLines (y ∷ rest) → HaveLines rest → (b : Bool) → is_crlf x y ≡ b → HaveLines (x ∷ y ∷ rest)
lines_by x y rest next after true is =
    let both : lines_of (x ∷ y ∷ rest) ≡ crlf ∷ lines_of rest = lines_of-crlf x y rest is in
    let whole = crlf_first (flat_map stuffed_line (lines_of rest)) ∙ ap (λ (lines : List (List ℕ)). crlf ∷ lines) after.start in
    record { start = rw both whole; within = rw both whole }
lines_by x y rest next after false is =
    let first = begins y rest in
    other_first x y rest first.line first.lines is first.split (lines_of-other x y rest is ∙ ap (put_before x) first.split) next

have_lines : (octets : List ℕ) → HaveLines octets
have_lines [] = none_left
have_lines (x ∷ []) = one_left x
have_lines (x ∷ y ∷ rest) = lines_by x y rest (have_lines (y ∷ rest)) (have_lines rest) (is_crlf x y) refl

-- the lines of stuffed octets are the stuffed lines
pub lines_of-stuffed : (octets : List ℕ) → lines_of (stuffed octets) ≡ map stuffed_line (lines_of octets)
unfolding stuffed
lines_of-stuffed octets = (have_lines octets).start

-- ---- the dots

-- a stuffed line without its dot is the line
dot_away : (line : List ℕ) → unstuffed_line (stuffed_line line) ≡ line
dot_away [] = refl
dot_away (x ∷ rest) = by (x == 46) refl
  where
    by : (b : Bool) → (x == 46) ≡ b → unstuffed_line (stuffed_line (x ∷ rest)) ≡ x ∷ rest
    by true is = let dot : x ≡ 46 = grind (arith, nat_tests) in rw dot refl
    by false is = rw (is, is) refl

-- stuffed lines without their dots are the lines
pub dots_away : (lines : List (List ℕ)) → flat_map unstuffed_line (map stuffed_line lines) ≡ concat lines
dots_away [] = refl
dots_away (line ∷ lines) = ap (λ front. front ++ flat_map unstuffed_line (map stuffed_line lines)) (dot_away line) ∙ ap (λ back. line ++ back) (dots_away lines)

-- stuffed octets say the octets
pub unstuffed_back : (octets : List ℕ) → unstuffed (stuffed octets) ≡ octets
unfolding unstuffed
unstuffed_back octets = ap (flat_map unstuffed_line) (lines_of-stuffed octets) ∙ dots_away (lines_of octets) ∙ concat_lines_of octets
