-- The data line by line.
use Rattle.std.proofs.Common.{◌≡◌, ℕ, ◌+◌, ◌<◌, ◌≤◌, ◌==◌, if◌then◌else◌, List, [], ◌∷◌, ◌++◌, length, take, drop, Bool, true, false, arith, refl, sym, ap, ◌∙◌, append_assoc, append-nil, length-append, Some, None, Option}
use Rattle.std.specs.Prelude.{◌≢◌}
use Rattle.std.specs.List.{AllByRecursion, concat, flat_map}
use Rattle.std.specs.Option.{option_map}
use Rattle.std.proofs.lemmas.List.Concat.{flat_map-append}
use Rattle.mail_wire.specs.Dots.{unstuffed, unstuffed_line}
use Rattle.mail_wire.specs.Lines.{Cut, begun_with, crlf, first_line, is_crlf, lines_of, put_before}
use Rattle.mail_wire.proofs.FirstLine.{lines_of-crlf, lines_of-other}
use Rattle.mail_wire.proofs.FirstLineLemmas.{put, first_line-crlf, first_line-other, first_line-cut, put_nothing, put_more}
use Rattle.mail_wire.proofs.LineLemmas.{is_crlf_parts}
use Rattle.smtp_grammar.specs.Data.{end_cut, following_command, data_cut}
use Rattle.smtp_grammar.specs.Reading.{IsDataLine}
use Rattle.smtp_grammar.proofs.DataLemmas.{ends_here, ends_here-false, end_cut-here, end_cut-other, data_cut-parts}
use Rattle.smtp_grammar.proofs.SentLines.{two_other}

-- ---- the first line

-- octets without a line have none after the first octet
pub none_first : (x y : ℕ) (rest : List ℕ) → first_line (x ∷ y ∷ rest) ≡ None → (b : Bool) → is_crlf x y ≡ b → (is_crlf x y ≡ false) × (first_line (y ∷ rest) ≡ None)
none_first x y rest none true is = let some = first_line-crlf x y rest is in cc
none_first x y rest none false is = (is, unmapped (first_line (y ∷ rest)) (sym (first_line-other x y rest is) ∙ none))
  where
    unmapped : (found : Option Cut) → option_map {U = Cut} (begun_with x) found ≡ None → found ≡ None
    unmapped None h = refl
    unmapped (Some cut) h = cc

-- a cut after octets
pub unput : (xs : List ℕ) (cut : Cut) (found : Option Cut) → option_map (put xs) found ≡ Some cut
    → (next : Cut) × (found ≡ Some next) × (cut ≡ record { line = xs ++ next.line; rest = next.rest })
unput xs cut None h = cc
unput xs cut (Some next) h = (next, refl, cc)

-- what the first line of octets shows
pub record IsFirst (octets : List ℕ) (cut : Cut) : Type 0 where
  pub front : List ℕ
  pub line_is : cut.line ≡ front ++ crlf
  pub alone : first_line cut.line ≡ Some (record { line = cut.line; rest = [] })
  pub lines : lines_of octets ≡ cut.line ∷ lines_of cut.rest
  pub end : end_cut octets ≡ option_map (put front) (end_cut (13 ∷ 10 ∷ cut.rest))

-- the line is CRLF
first_crlf : (x y : ℕ) (rest : List ℕ) → is_crlf x y ≡ true → IsFirst (x ∷ y ∷ rest) (record { line = crlf; rest = rest })
first_crlf x y rest is =
    let parts = is_crlf_parts x y is in
    record {
      front = [];
      line_is = refl;
      alone = first_line-crlf 13 10 [] refl;
      lines = lines_of-crlf x y rest is;
      end = rw (parts.0, parts.1) (put_nothing (end_cut (13 ∷ 10 ∷ rest)));
    }

-- two octets at least
two_at_least : (line front : List ℕ) → line ≡ front ++ crlf → (y : ℕ) (rest following : List ℕ) → y ∷ rest ≡ line ++ following → (others : List ℕ) × (line ≡ y ∷ others)
two_at_least [] front is y rest following h = let long = ap length is in absurd (omega (arith, long, length-append front crlf))
two_at_least (x ∷ others) front is y rest following h = let same : y ≡ x = cc in (others, rw same refl)

-- the line goes on after its first octet
first_later : (x y : ℕ) (rest : List ℕ) (next : Cut) → is_crlf x y ≡ false → first_line (y ∷ rest) ≡ Some next → IsFirst (y ∷ rest) next
    → IsFirst (x ∷ y ∷ rest) (record { line = x ∷ next.line; rest = next.rest })
first_later x y rest next other found first =
    let begins = two_at_least next.line first.front first.line_is y rest next.rest (first_line-cut (y ∷ rest) next found).parts in
    let alone : first_line (y ∷ begins.0) ≡ Some (record { line = y ∷ begins.0; rest = [] }) = rw begins.1 at first.alone in
    record {
      front = x ∷ first.front;
      line_is = ap (λ line. x ∷ line) first.line_is;
      alone = rw begins.1 (first_line-other x y begins.0 other ∙ ap (option_map (begun_with x)) alone);
      lines = lines_of-other x y rest other ∙ ap (put_before x) first.lines;
      end = end_cut-other x (y ∷ rest) (two_other x y rest other (x == 13) refl) ∙ ap (option_map (begun_with x)) first.end
          ∙ put_more x first.front (end_cut (13 ∷ 10 ∷ next.rest));
    }

first_by : (x y : ℕ) (rest : List ℕ) (cut : Cut) → first_line (x ∷ y ∷ rest) ≡ Some cut → ((next : Cut) → first_line (y ∷ rest) ≡ Some next → IsFirst (y ∷ rest) next)
    → (b : Bool) → is_crlf x y ≡ b → IsFirst (x ∷ y ∷ rest) cut
first_by x y rest cut h others true is =
    let same : record { line = crlf; rest = rest } ≡ cut = unsome (sym (first_line-crlf x y rest is) ∙ h) in
    rw (← same) (first_crlf x y rest is)
  where
    unsome : {a b : Cut} → Some a ≡ Some b → a ≡ b
    unsome h = cc
first_by x y rest cut h others false is =
    let found = unput (x ∷ []) cut (first_line (y ∷ rest)) (sym (first_line-other x y rest is) ∙ h) in
    rw found.2 (first_later x y rest found.0 is found.1 (others found.0 found.1))

-- the first line of octets
pub is_first : (octets : List ℕ) (cut : Cut) → first_line octets ≡ Some cut → IsFirst octets cut
unfolding first_line
is_first [] cut h = cc
is_first (x ∷ []) cut h = cc
is_first (x ∷ y ∷ rest) cut h = first_by x y rest cut h (λ next found. is_first (y ∷ rest) next found) (is_crlf x y) refl

-- octets without a line have no end
end_cut-no_line : (octets : List ℕ) → first_line octets ≡ None → end_cut octets ≡ None
unfolding end_cut
end_cut-no_line [] none = refl
end_cut-no_line (x ∷ []) none = end_cut-other x [] (ends_here-false (x ∷ []) (λ first. cc) (ends_here (x ∷ [])) refl)
end_cut-no_line (x ∷ y ∷ rest) none =
    let parts = none_first x y rest none (is_crlf x y) refl in
    end_cut-other x (y ∷ rest) (two_other x y rest parts.0 (x == 13) refl) ∙ ap (option_map (begun_with x)) (end_cut-no_line (y ∷ rest) parts.1)

-- a line that ends after octets without one is longer than these
pub longer_line : (xs ys : List ℕ) (cut : Cut) → first_line xs ≡ None → first_line (xs ++ ys) ≡ Some cut → length xs < length cut.line
longer_line [] ys cut none found = let some = (first_line-cut ys cut found).some in omega arith
longer_line (x ∷ []) ys cut none found = let some = (first_line-cut (x ∷ ys) cut found).some in omega arith
longer_line (x ∷ z ∷ xs) ys cut none found =
    let parts = none_first x z xs none (is_crlf x z) refl in
    let next = unput (x ∷ []) cut (first_line (z ∷ (xs ++ ys))) (sym (first_line-other x z (xs ++ ys) parts.0) ∙ found) in
    let longer = longer_line (z ∷ xs) ys next.0 parts.1 next.1 in
    rw next.2 (omega arith)

-- ---- the data and their first line

-- the line that ends the data
abbrev pub last_line : List ℕ
last_line = 46 ∷ 13 ∷ 10 ∷ []

-- where the first line isn't the last, the end doesn't come first
passes_command : (octets : List ℕ) → (take 3 octets ≡ last_line → ⊥) → end_cut (13 ∷ 10 ∷ octets) ≡ option_map (begun_with 13) (option_map (begun_with 10) (end_cut octets))
unfolding ends_here
passes_command octets differ =
    let other : ends_here (13 ∷ 10 ∷ octets) ≡ false = ends_here-false (13 ∷ 10 ∷ octets) (λ first. differ (ap (drop 2) first)) (ends_here (13 ∷ 10 ∷ octets)) refl in
    end_cut-other 13 (10 ∷ octets) other ∙ ap (option_map (begun_with 13)) (end_cut-other 10 octets refl)

-- octets that begin with the last line have it first
begins_last : (octets : List ℕ) → take 3 octets ≡ last_line → first_line octets ≡ Some (record { line = last_line; rest = drop 3 octets })
unfolding first_line
begins_last [] h = cc
begins_last (x ∷ []) h = cc
begins_last (x ∷ y ∷ []) h = cc
begins_last (x ∷ y ∷ z ∷ rest) h =
    let dot : x ≡ 46 = cc in
    let cr : y ≡ 13 = cc in
    let lf : z ≡ 10 = cc in
    rw (dot, cr, lf) refl

-- no line, and so no data
pub data_cut-none : (octets : List ℕ) → first_line octets ≡ None → data_cut octets ≡ None
data_cut-none octets none =
    let passed = passes_command octets (λ first. let found = begins_last octets first in cc) in
    ap (option_map following_command) (passed ∙ ap (λ (found : Option Cut). option_map (begun_with 13) (option_map (begun_with 10) found)) (end_cut-no_line octets none))

-- the last line comes first
pub data_cut-last : (octets rest : List ℕ) → first_line octets ≡ Some (record { line = last_line; rest = rest }) → data_cut octets ≡ Some (record { line = []; rest = rest })
data_cut-last octets rest found =
    let parts : octets ≡ 46 ∷ 13 ∷ 10 ∷ rest = (first_line-cut octets (record { line = last_line; rest = rest }) found).parts in
    ap data_cut parts ∙ ap (option_map following_command) (end_cut-here rest)

-- the end after the command's CRLF, from the data after it
end_following : (octets : List ℕ) (found : Option Cut) → data_cut octets ≡ found → end_cut (13 ∷ 10 ∷ octets) ≡ option_map (put (13 ∷ 10 ∷ [])) found
end_following octets None is = unmapped (end_cut (13 ∷ 10 ∷ octets)) is
  where
    unmapped : (found : Option Cut) → option_map following_command found ≡ None → found ≡ None
    unmapped None h = refl
    unmapped (Some cut) h = cc
end_following octets (Some cut) is = (data_cut-parts octets cut is).whole

-- a line before data, where the line before them ended with CRLF
following_line : (front : List ℕ) (found : Option Cut)
    → option_map following_command (option_map (begun_with 13) (option_map (begun_with 10) (option_map (put front) (option_map (put (13 ∷ 10 ∷ [])) found))))
    ≡ option_map (put (front ++ crlf)) found
following_line front None = refl
following_line front (Some cut) = ap (λ line. Some (record { line = line; rest = cut.rest })) (sym (append_assoc front crlf cut.line))

-- another line comes first
pub data_cut-next : (octets : List ℕ) (cut : Cut) → first_line octets ≡ Some cut → cut.line ≢ last_line → data_cut octets ≡ option_map (put cut.line) (data_cut cut.rest)
data_cut-next octets cut found differs =
    let first = is_first octets cut found in
    let passed = passes_command octets (λ last. differs (same_line (begins_last octets last))) in
    let following = end_following cut.rest (data_cut cut.rest) refl in
    ap (option_map following_command) (passed ∙ ap (λ (at : Option Cut). option_map (begun_with 13) (option_map (begun_with 10) at)) (first.end ∙ ap (option_map (put first.front)) following))
    ∙ following_line first.front (data_cut cut.rest) ∙ ap (λ line. option_map (put line) (data_cut cut.rest)) (sym first.line_is)
  where
    same_line : first_line octets ≡ Some (record { line = last_line; rest = drop 3 octets }) → cut.line ≡ last_line
    same_line h = let both : Some cut ≡ Some (record { line = last_line; rest = drop 3 octets }) = sym found ∙ h in cc

-- ---- lines of data

abbrev pub AreDataLines : List (List ℕ) → Type 0
AreDataLines lines = AllByRecursion IsDataLine lines

-- a line of data before other octets
line_before : (line more : List ℕ) → IsDataLine line → first_line (line ++ more) ≡ Some (record { line = line; rest = more })
line_before line more is = (first_line-cut line (record { line = line; rest = [] }) is.whole).longer more

-- the data after lines of data
pub data_cut-lines : (lines : List (List ℕ)) (more : List ℕ) → AreDataLines lines → data_cut (concat lines ++ more) ≡ option_map (put (concat lines)) (data_cut more)
data_cut-lines [] more are = put_nothing (data_cut more)
data_cut-lines (line ∷ lines) more are =
    ap data_cut (append_assoc line (concat lines) more)
    ∙ data_cut-next (line ++ (concat lines ++ more)) (record { line = line; rest = concat lines ++ more }) (line_before line (concat lines ++ more) are.0) are.0.not_last
    ∙ ap (option_map (put line)) (data_cut-lines lines more are.1)
    ∙ put_both line (concat lines) (data_cut more)
  where
    put_both : (xs ys : List ℕ) (found : Option Cut) → option_map (put xs) (option_map (put ys) found) ≡ option_map (put (xs ++ ys)) found
    put_both xs ys None = refl
    put_both xs ys (Some cut) = ap (λ all. Some (record { line = all; rest = cut.rest })) (sym (append_assoc xs ys cut.line))

-- the lines of lines of data, and of octets after them
pub lines_of-lines : (lines : List (List ℕ)) (more : List ℕ) → AreDataLines lines → lines_of (concat lines ++ more) ≡ lines ++ lines_of more
lines_of-lines [] more are = refl
lines_of-lines (line ∷ lines) more are =
    let first = is_first (line ++ (concat lines ++ more)) (record { line = line; rest = concat lines ++ more }) (line_before line (concat lines ++ more) are.0) in
    ap lines_of (append_assoc line (concat lines) more) ∙ first.lines ∙ ap (λ (others : List (List ℕ)). line ∷ others) (lines_of-lines lines more are.1)

-- what they say
pub unstuffed-lines : (lines : List (List ℕ)) (more : List ℕ) → AreDataLines lines → unstuffed (concat lines ++ more) ≡ flat_map unstuffed_line lines ++ unstuffed more
unfolding unstuffed
unstuffed-lines lines more are = ap (flat_map unstuffed_line) (lines_of-lines lines more are) ∙ flat_map-append unstuffed_line lines (lines_of more)

pub nothing_unstuffed : unstuffed [] ≡ []
unfolding unstuffed lines_of
nothing_unstuffed = refl

pub unstuffed-concat : (lines : List (List ℕ)) → AreDataLines lines → unstuffed (concat lines) ≡ flat_map unstuffed_line lines
unstuffed-concat lines are =
    ap unstuffed (sym (append-nil (concat lines))) ∙ unstuffed-lines lines [] are ∙ ap (λ back. flat_map unstuffed_line lines ++ back) nothing_unstuffed ∙ append-nil (flat_map unstuffed_line lines)

-- ---- how much data say

-- a line loses one octet at most
pub unstuffed_line-short : (line : List ℕ) → length line ≤ length (unstuffed_line line) + 1
unstuffed_line-short [] = omega arith
unstuffed_line-short (x ∷ rest) = by (x == 46)
  where
    by : (b : Bool) → length (x ∷ rest) ≤ length (if b then rest else x ∷ rest) + 1
    by true = omega arith
    by false = omega arith

-- a line before data says as much as it has octets, but for a dot
says_line : (octets : List ℕ) (line next : Cut) → first_line octets ≡ Some line → line.line ≢ last_line → data_cut octets ≡ Some next
    → length line.line ≤ length (unstuffed next.line) + 1
says_line octets line next found differs is =
    let following = unput line.line next (data_cut line.rest) (sym (data_cut-next octets line found differs) ∙ is) in
    let are : AreDataLines (line.line ∷ []) = (record { whole = (is_first octets line found).alone; not_last = differs }, tt) in
    let says : unstuffed ((line.line ++ []) ++ following.0.line) ≡ (unstuffed_line line.line ++ []) ++ unstuffed following.0.line = unstuffed-lines (line.line ∷ []) following.0.line are in
    let count = ap length (rw (append-nil line.line, append-nil (unstuffed_line line.line)) at says) in
    let short = unstuffed_line-short line.line in
    rw following.2 (omega (arith, count, short, length-append (unstuffed_line line.line) (unstuffed following.0.line)))

-- Data that begin with three octets at least of an unfinished line say as many octets.
pub says_front : (front more : List ℕ) (next : Cut) → first_line front ≡ None → 3 ≤ length front → data_cut (front ++ more) ≡ Some next → length front ≤ length (unstuffed next.line)
says_front front more next none three is = by (first_line (front ++ more)) refl
  where
    by : (found : Option Cut) → first_line (front ++ more) ≡ found → length front ≤ length (unstuffed next.line)
    by None lacks = let nothing = data_cut-none (front ++ more) lacks in cc
    by (Some line) found =
        let longer = longer_line front more line none found in
        let says = says_line (front ++ more) line next found (λ last. let count = ap length last in absurd (omega (arith, count, longer, three))) is in
        omega (arith, longer, says)
