-- Reading an octet at a time what TOP shows is taking lines.
use Rattle.std.proofs.Common.{◌≡◌, ◌≤◌, ◌≢◌, ℕ, zero, suc, ◌+◌, ◌-◌, ◌==◌, List, [], ◌∷◌, ◌++◌, length, take, drop, min, Bool, true, false, arith, refl, sym, ap, ◌∙◌, cond}
use Rattle.std.specs.List.{sum_by}
use Rattle.std.specs.Str.{bytes_eq}
use Rattle.std.proofs.lemmas.List.{take-append-drop, take_at, length-take-le, length-drop, drop-drop}
use Rattle.std.proofs.lemmas.List.Sums.{sum_by-cons}
use Rattle.std.proofs.lemmas.Bool.Decides.{nat_tests}
use Rattle.mail_wire.specs.Lines.{lines_of, put_before, is_crlf, crlf}
use Rattle.mail_wire.proofs.FirstLine.{lines_of-crlf, lines_of-other}
use Rattle.mail_wire.proofs.LineLemmas.{begins, is_crlf_parts}
use Rattle.pop_session.specs.declared.stuffing.Place.{Place}
use Rattle.pop_session.specs.declared.stuffing.Place.TheVariants.{LineStart, AfterCr, Within}
use Rattle.pop_session.specs.declared.top.Scan.{Scan}
use Rattle.pop_session.specs.Machine.{top_lines, top_length}
use Rattle.pop_session.specs.private.Stuffing.{is_start, is_after_cr}
use Rattle.pop_session.specs.private.Top.{begin, is_ended, following_octet, all_after, count_from}

-- ---- pieces

-- a read of a message at a place gave this piece
pub record IsRead (octets piece : List ℕ) (at n : ℕ) : Type 0 where
  pub len : length piece ≡ n
  pub parts : drop at octets ≡ piece ++ drop n (drop at octets)

pub read_piece : (octets buffer old piece : List ℕ) (at n : ℕ) → n ≡ min (length old) (length octets - at) → buffer ≡ take n (drop at octets) ++ drop n old → piece ≡ take n buffer
    → IsRead octets piece at n
read_piece octets buffer old piece at n count read is =
    let low : n ≤ length (drop at octets) = rw (length-drop at octets) (omega arith) in
    let len : length (take n (drop at octets)) ≡ n = length-take-le n (drop at octets) low in
    let front : piece ≡ take n (drop at octets) = is ∙ (rw read (take_at (take n (drop at octets)) (drop n old) n len)) in
    record { len = rw front len; parts = rw front (sym (take-append-drop n (drop at octets))) }

-- nothing is shown after the end
pub count_ended : (scan : Scan) (octets : List ℕ) → is_ended scan ≡ true → count_from scan octets ≡ 0
count_ended scan [] ended = refl
count_ended scan (x ∷ octets) ended = rw ended refl

-- nothing is read after the end
pub after_ended : (scan : Scan) (octets : List ℕ) → is_ended scan ≡ true → all_after scan octets ≡ scan
after_ended scan [] ended = refl
after_ended scan (x ∷ octets) ended = rw ended refl

-- no more is shown than is there
pub count_from-le : (scan : Scan) (octets : List ℕ) → count_from scan octets ≤ length octets
count_from-le scan [] = omega arith
count_from-le scan (x ∷ octets) = let more = count_from-le (following_octet scan x) octets in by_end (is_ended scan) (count_from (following_octet scan x) octets) more
  where
    by_end : (b : Bool) (n : ℕ) → n ≤ length octets → cond b 0 (suc n) ≤ suc (length octets)
    by_end true n low = omega arith
    by_end false n low = omega arith

-- two pieces, one after the other
pub count_from-append : (scan : Scan) (xs ys : List ℕ) → count_from scan (xs ++ ys) ≡ count_from scan xs + count_from (all_after scan xs) ys
count_from-append scan [] ys = omega arith
count_from-append scan (x ∷ xs) ys = by_end (is_ended scan) refl (count_from-append (following_octet scan x) xs ys)
  where
    by_end : (b : Bool) → is_ended scan ≡ b → count_from (following_octet scan x) (xs ++ ys) ≡ count_from (following_octet scan x) xs + count_from (all_after (following_octet scan x) xs) ys
        → count_from scan (x ∷ xs ++ ys) ≡ count_from scan (x ∷ xs) + count_from (all_after scan (x ∷ xs)) ys
    by_end true is more = rw is (omega (arith, count_ended scan ys is))
    by_end false is more = rw is (omega (arith, more))

-- a piece that isn't shown whole has the end
pub ended_by : (scan : Scan) (xs : List ℕ) → count_from scan xs ≢ length xs → is_ended (all_after scan xs) ≡ true
ended_by scan [] short = absurd (short refl)
ended_by scan (x ∷ xs) short = by_end (is_ended scan) refl (ended_by (following_octet scan x) xs)
  where
    by_end : (b : Bool) → is_ended scan ≡ b → (count_from (following_octet scan x) xs ≢ length xs → is_ended (all_after (following_octet scan x) xs) ≡ true) → is_ended (all_after scan (x ∷ xs)) ≡ true
    by_end true is more = rw (is, is) refl
    by_end false is more = rw is (more (λ whole. short (rw is (ap suc whole))))

-- ---- lines

-- so many lines, of these
abbrev some_of : ℕ → List (List ℕ) → ℕ
some_of n lines = sum_by length (take n lines)

-- the lines that TOP shows, where the first one isn't empty
abbrev not_at_first : ℕ → List (List ℕ) → ℕ
not_at_first n [] = 0
not_at_first n (line ∷ lines) = length line + sum_by length (top_lines n lines)

-- reading, in the header or after it
abbrev standing : Bool → ℕ → Place → Bool → Scan
standing in_header n place second = record { place = place; is_second = second; in_header = in_header; lines = n }

-- What is shown of octets, from a line's start and from within one, in the header and after it.
record AreShown (n : ℕ) (octets : List ℕ) : Type 0 where
  start : (second : Bool) → count_from (standing true n LineStart second) octets ≡ top_length n octets
  within : (second : Bool) → count_from (standing true n Within second) octets ≡ not_at_first n (lines_of octets)
  start_following : (m : ℕ) (second : Bool) → count_from (standing false m LineStart second) octets ≡ some_of m (lines_of octets)
  within_after : (m : ℕ) (second : Bool) → count_from (standing false (suc m) Within second) octets ≡ some_of (suc m) (lines_of octets)

-- one line more
some_of-suc : (m : ℕ) (line : List ℕ) (lines : List (List ℕ)) → some_of (suc m) (line ∷ lines) ≡ length line + some_of m lines
some_of-suc m line lines = sum_by-cons length line (take m lines)

-- there is no line
some_of-nil : (m : ℕ) → some_of m [] ≡ 0
some_of-nil zero = refl
some_of-nil (suc m) = refl

-- a first line that isn't empty
top_lines-other : (n : ℕ) (line : List ℕ) (lines : List (List ℕ)) → bytes_eq line crlf ≡ false → sum_by length (top_lines n (line ∷ lines)) ≡ not_at_first n (line ∷ lines)
top_lines-other n line lines other = rw other (sum_by-cons length line (top_lines n lines))

-- an octet that isn't LF stands the same after a CR
not_lf : (in_header second : Bool) (n y : ℕ) (rest : List ℕ) → (y == 10) ≡ false → (b : Bool) → (y == 13) ≡ b
    → count_from (standing in_header n AfterCr second) (y ∷ rest) ≡ count_from (standing in_header n Within second) (y ∷ rest)
not_lf in_header second n y rest other true is = rw (other, is) refl
not_lf in_header second n y rest other false is = rw (other, is) refl

-- an octet with which no CRLF begins
next_by : (in_header second : Bool) (n : ℕ) (place : Place) (x y : ℕ) (rest : List ℕ) → is_after_cr place ≡ false → is_crlf x y ≡ false → (b : Bool) → (x == 13) ≡ b
    → count_from (following_octet (standing in_header n place second) x) (y ∷ rest) ≡ count_from (standing in_header n Within (is_start place)) (y ∷ rest)
next_by in_header second n place x y rest other apart true is =
    let lone : (y == 10) ≡ false = rw is at apart in rw is (not_lf in_header (is_start place) n y rest lone (y == 13) refl)
next_by in_header second n place x y rest other apart false is = rw (is, other) refl

-- no octets
shown_none : (n : ℕ) → AreShown n []
unfolding lines_of
shown_none n = record { start = λ second. refl; within = λ second. refl; start_following = λ m second. sym (some_of-nil m); within_after = λ m second. sym (some_of-nil (suc m)) }

-- some lines are left
not_zero : (m : ℕ) → (suc m == 0) ≡ false
not_zero m = grind (arith, nat_tests)

-- a line of one octet isn't empty
one_other : (x : ℕ) (b : Bool) → (x == 13) ≡ b → bytes_eq (x ∷ []) crlf ≡ false
one_other x true is = rw is refl
one_other x false is = rw is refl

-- one octet, after the header
one_after : (m x : ℕ) (second : Bool) → count_from (standing false m LineStart second) (x ∷ []) ≡ some_of m ((x ∷ []) ∷ [])
one_after zero x second = refl
one_after (suc m) x second = rw (not_zero m) (omega (arith, some_of-suc m (x ∷ []) [], some_of-nil m))

-- one octet
shown_one : (n x : ℕ) → AreShown n (x ∷ [])
unfolding lines_of
shown_one n x = record {
  start = λ second. sym (top_lines-other n (x ∷ []) [] (one_other x (x == 13) refl));
  within = λ second. refl;
  start_following = λ m second. one_after m x second;
  within_after = λ m second. rw (not_zero m) (omega (arith, some_of-suc m (x ∷ []) [], some_of-nil m));
}

-- after the header, with CRLF first
crlf_after : (m : ℕ) (place : Place) (second : Bool) (rest : List ℕ) → count_from (standing false m LineStart false) rest ≡ some_of m (lines_of rest)
    → count_from (standing false (suc m) place second) (13 ∷ 10 ∷ rest) ≡ some_of (suc m) (crlf ∷ lines_of rest)
crlf_after m place second rest after =
    let left : suc m - 1 ≡ m = omega arith in
    rw (not_zero m, left) (omega (arith, after, some_of-suc m crlf (lines_of rest)))

-- the same, where there may be no lines left
crlf_start : (m : ℕ) (second : Bool) (rest : List ℕ) → ((k : ℕ) → count_from (standing false k LineStart false) rest ≡ some_of k (lines_of rest))
    → count_from (standing false m LineStart second) (13 ∷ 10 ∷ rest) ≡ some_of m (crlf ∷ lines_of rest)
crlf_start zero second rest after = refl
crlf_start (suc m) second rest after = crlf_after m LineStart second rest (after m)

-- the octets begin with CRLF
shown_crlf : (n : ℕ) (rest : List ℕ) → lines_of (13 ∷ 10 ∷ rest) ≡ crlf ∷ lines_of rest → AreShown n rest → AreShown n (13 ∷ 10 ∷ rest)
shown_crlf n rest lines after = record {
  start = λ second. rw lines (omega (arith, after.start_following n false, sum_by-cons length crlf (take n (lines_of rest))));
  within = λ second. rw lines (omega (arith, after.start false));
  start_following = λ m second. rw lines (crlf_start m second rest (λ k. after.start_following k false));
  within_after = λ m second. rw lines (crlf_after m Within second rest (after.start_following m false));
}

-- a line that begins with other octets isn't empty
two_other : (x y : ℕ) (line : List ℕ) → is_crlf x y ≡ false → (b : Bool) → (x == 13) ≡ b → bytes_eq (x ∷ y ∷ line) crlf ≡ false
two_other x y line apart true is = let lone : (y == 10) ≡ false = rw is at apart in rw (is, lone) refl
two_other x y line apart false is = rw is refl

-- so many lines, the first of which has an octet more
longer_after : (m x y : ℕ) (line : List ℕ) (lines : List (List ℕ)) → some_of (suc m) ((x ∷ y ∷ line) ∷ lines) ≡ suc (some_of (suc m) ((y ∷ line) ∷ lines))
longer_after m x y line lines = omega (arith, some_of-suc m (x ∷ y ∷ line) lines, some_of-suc m (y ∷ line) lines)

-- from a line's start after the header, with a line that isn't empty
start_by : (m x y : ℕ) (second : Bool) (rest line : List ℕ) (lines : List (List ℕ)) → is_crlf x y ≡ false
    → ((k : ℕ) → count_from (standing false (suc k) Within true) (y ∷ rest) ≡ some_of (suc k) ((y ∷ line) ∷ lines))
    → count_from (standing false m LineStart second) (x ∷ y ∷ rest) ≡ some_of m ((x ∷ y ∷ line) ∷ lines)
start_by zero x y second rest line lines apart next = refl
start_by (suc m) x y second rest line lines apart next =
    rw (not_zero m) (ap suc (next_by false second (suc m) LineStart x y rest refl apart (x == 13) refl ∙ next m) ∙ sym (longer_after m x y line lines))

-- the same from within a line
within_by : (m x y : ℕ) (second : Bool) (rest line : List ℕ) (lines : List (List ℕ)) → is_crlf x y ≡ false
    → count_from (standing false (suc m) Within false) (y ∷ rest) ≡ some_of (suc m) ((y ∷ line) ∷ lines)
    → count_from (standing false (suc m) Within second) (x ∷ y ∷ rest) ≡ some_of (suc m) ((x ∷ y ∷ line) ∷ lines)
within_by m x y second rest line lines apart next =
    rw (not_zero m) (ap suc (next_by false second (suc m) Within x y rest refl apart (x == 13) refl ∙ next) ∙ sym (longer_after m x y line lines))

-- the octets don't begin with CRLF
shown_other : (n x y : ℕ) (rest line : List ℕ) (lines : List (List ℕ)) → is_crlf x y ≡ false → lines_of (y ∷ rest) ≡ (y ∷ line) ∷ lines
    → lines_of (x ∷ y ∷ rest) ≡ (x ∷ y ∷ line) ∷ lines → AreShown n (y ∷ rest) → AreShown n (x ∷ y ∷ rest)
shown_other n x y rest line lines apart here longer next = record {
  start = λ second. rw longer
      (let step = next_by true second n LineStart x y rest refl apart (x == 13) refl in
      let more = rw here at (next.within true) in
      omega (arith, step, more, top_lines-other n (x ∷ y ∷ line) lines (two_other x y line apart (x == 13) refl)));
  within = λ second. rw longer
      (let step = next_by true second n Within x y rest refl apart (x == 13) refl in
      let more = rw here at (next.within false) in
      omega (arith, step, more));
  start_following = λ m second. rw longer (start_by m x y second rest line lines apart (λ k. rw here at (next.within_after k true)));
  within_after = λ m second. rw longer (within_by m x y second rest line lines apart (rw here at (next.within_after m false)));
}

-- from the second octet on, and from the third on
shown_by : (n x y : ℕ) (rest : List ℕ) → AreShown n (y ∷ rest) → AreShown n rest → (b : Bool) → is_crlf x y ≡ b → AreShown n (x ∷ y ∷ rest)
shown_by n x y rest next after true is =
    let parts = is_crlf_parts x y is in
    rw (parts.0, parts.1) (shown_crlf n rest (lines_of-crlf 13 10 rest refl) after)
shown_by n x y rest next after false is =
    let first = begins y rest in
    shown_other n x y rest first.line first.lines is first.split (lines_of-other x y rest is ∙ ap (put_before x) first.split) next

-- all octets
all_shown : (n : ℕ) (octets : List ℕ) → AreShown n octets
all_shown n [] = shown_none n
all_shown n (x ∷ []) = shown_one n x
all_shown n (x ∷ y ∷ rest) = shown_by n x y rest (all_shown n (y ∷ rest)) (all_shown n rest) (is_crlf x y) refl

-- the octets that are shown from the beginning are those of the lines of TOP
count_from-begin : (n : ℕ) (octets : List ℕ) → count_from (begin n) octets ≡ top_length n octets
count_from-begin n octets = (all_shown n octets).start false

-- ---- reading in pieces

-- What was shown of octets so far, with what is shown of the others, is all that is shown.
pub record IsCounted (octets : List ℕ) (total at : ℕ) (scan : Scan) : Type 0 where
  pub count : at + count_from scan (drop at octets) ≡ total
  pub within : at ≤ length octets

-- nothing was shown so far
pub none_counted : (octets : List ℕ) (lines : ℕ) (scan : Scan) → scan ≡ begin lines → IsCounted octets (top_length lines octets) 0 scan
none_counted octets lines scan is = rw is (record { count = omega (arith, count_from-begin lines octets); within = omega arith })

-- a count that differs isn't the same
differ : (a b n : ℕ) → b ≡ n → (a == n) ≡ false → a ≢ b
differ a b n len is = λ same. grind (arith, nat_tests)

-- the next piece is counted, be it shown whole or not
counted_by : (octets piece : List ℕ) (total at n : ℕ) (scan : Scan) → IsRead octets piece at n → at + count_from scan (drop at octets) ≡ total → (b : Bool) → (count_from scan piece == n) ≡ b
    → at + count_from scan piece + count_from (all_after scan piece) (drop (at + count_from scan piece) octets) ≡ total
counted_by octets piece total at n scan read so_far true is =
    let whole : count_from scan piece ≡ n = grind (arith, nat_tests) in
    let split : count_from scan (drop at octets) ≡ count_from scan piece + count_from (all_after scan piece) (drop n (drop at octets)) =
    ap (count_from scan) read.parts ∙ count_from-append scan piece (drop n (drop at octets)) in
    let rest : count_from (all_after scan piece) (drop n (drop at octets)) ≡ count_from (all_after scan piece) (drop (at + count_from scan piece) octets) =
    ap (count_from (all_after scan piece)) (drop-drop n at octets ∙ ap (λ k. drop (at + k) octets) (sym whole)) in
    omega (arith, so_far, split, rest)
counted_by octets piece total at n scan read so_far false is =
    let short : count_from scan piece ≢ length piece = differ (count_from scan piece) (length piece) n read.len is in
    let ended : is_ended (all_after scan piece) ≡ true = ended_by scan piece short in
    let split : count_from scan (drop at octets) ≡ count_from scan piece + count_from (all_after scan piece) (drop n (drop at octets)) =
    ap (count_from scan) read.parts ∙ count_from-append scan piece (drop n (drop at octets)) in
    let none : count_from (all_after scan piece) (drop n (drop at octets)) ≡ 0 = count_ended (all_after scan piece) (drop n (drop at octets)) ended in
    let none_later : count_from (all_after scan piece) (drop (at + count_from scan piece) octets) ≡ 0 = count_ended (all_after scan piece) (drop (at + count_from scan piece) octets) ended in
    omega (arith, so_far, split, none, none_later)

-- the next piece is counted
pub piece_counted : (octets piece : List ℕ) (total at n count : ℕ) (scan after : Scan) → IsRead octets piece at n → n ≤ length octets - at → IsCounted octets total at scan
    → after ≡ all_after scan piece → count ≡ count_from scan piece → IsCounted octets total (at + count) after
piece_counted octets piece total at n count scan after read low so_far after_is count_is =
    let most = count_from-le scan piece in
    rw (after_is, count_is) (record {
      count = counted_by octets piece total at n scan read so_far.count (count_from scan piece == n) refl;
      within = let len = read.len in let within = so_far.within in omega (arith, most, len, within, low);
    })
