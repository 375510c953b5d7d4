-- Where the data end, and their lines.
use Rattle.std.proofs.Common.{◌≡◌, ℕ, ◌<◌, ◌≤◌, List, [], ◌∷◌, ◌++◌, length, take, drop, Bool, true, false, arith, refl, sym, ap, ◌∙◌, append_assoc, length-append, inl, inr, Some, None, Option}
use Rattle.std.specs.Prelude.{◌≢◌, codes}
use Rattle.std.specs.List.{All, AllByRecursion, concat}
use Rattle.std.specs.Option.{option_map}
use Rattle.std.specs.Str.{bytes_eq}
use Rattle.std.proofs.lemmas.List.{take-append-drop, take-append-le}
use Rattle.std.proofs.lemmas.List.Elements.{All-from_recursion}
use Rattle.std.proofs.lemmas.Slice.Eq.{bytes_eq-Decides}
use Rattle.mail_wire.specs.Lines.{Cut, begun_with, crlf, is_crlf, lines_of, put_before}
use Rattle.mail_wire.specs.Message.{IsEnded}
use Rattle.mail_wire.proofs.FirstLine.{is_crlf_true, lines_of-crlf, lines_of-other}
use Rattle.mail_wire.proofs.FirstLineLemmas.{unput}
use Rattle.mail_wire.proofs.LineLemmas.{is_crlf_parts, first_line, concat_lines_of}
use Rattle.smtp_grammar.specs.Data.{data_end, end_cut, following_command, data_cut}

-- ---- the end, octet by octet

-- the test whether the end comes first
unfoldable pub ends_here : List ℕ → Bool
ends_here octets = bytes_eq (take 5 octets) data_end

-- octets other than the end don't come first
pub ends_here-false : (octets : List ℕ) → (take 5 octets ≡ data_end → ⊥) → (b : Bool) → ends_here octets ≡ b → ends_here octets ≡ false
unfolding ends_here
ends_here-false octets differ true is = absurd (differ ((bytes_eq-Decides (take 5 octets) data_end).0 is))
ends_here-false octets differ false is = is

-- the end comes first
pub end_cut-here : (rest : List ℕ) → end_cut (13 ∷ 10 ∷ 46 ∷ 13 ∷ 10 ∷ rest) ≡ Some (record { line = crlf; rest = rest })
unfolding end_cut
end_cut-here rest = refl

-- the end doesn't come first
pub end_cut-other : (x : ℕ) (rest : List ℕ) → ends_here (x ∷ rest) ≡ false → end_cut (x ∷ rest) ≡ option_map (begun_with x) (end_cut rest)
unfolding end_cut ends_here
end_cut-other x rest other = rw other refl

-- what octets are where the end comes first
pub data_end-first : (octets : List ℕ) → take 5 octets ≡ data_end → octets ≡ 13 ∷ 10 ∷ 46 ∷ 13 ∷ 10 ∷ drop 5 octets
data_end-first octets first = sym (take-append-drop 5 octets) ∙ ap (λ front. front ++ drop 5 octets) first

-- what octets are where the test says that the end comes first
ends_here-parts : (octets : List ℕ) → ends_here octets ≡ true → octets ≡ 13 ∷ 10 ∷ 46 ∷ 13 ∷ 10 ∷ drop 5 octets
unfolding ends_here
ends_here-parts octets is = data_end-first octets ((bytes_eq-Decides (take 5 octets) data_end).0 is)

-- five octets tell whether the end comes first
ends_here-append : (octets more : List ℕ) → 5 ≤ length octets → ends_here (octets ++ more) ≡ ends_here octets
unfolding ends_here
ends_here-append octets more some = rw (take-append-le 5 octets more some) refl

-- ---- the parts

-- The octets up to the end, the last of which are a CRLF, the line that ends the data, and what follows, also with more octets after.
pub record IsEndCut (octets : List ℕ) (cut : Cut) : Type 0 where
  pub front : List ℕ
  pub line_is : cut.line ≡ front ++ crlf
  pub parts : octets ≡ cut.line ++ (46 ∷ 13 ∷ 10 ∷ cut.rest)
  pub longer : (more : List ℕ) → end_cut (octets ++ more) ≡ Some (record { line = cut.line; rest = cut.rest ++ more })

-- two cuts that are some are one
unsome : {a b : Cut} → Some a ≡ Some b → a ≡ b
unsome h = cc

-- the parts where the end comes first
parts_here : (octets : List ℕ) (cut : Cut) → end_cut octets ≡ Some cut → octets ≡ 13 ∷ 10 ∷ 46 ∷ 13 ∷ 10 ∷ drop 5 octets → IsEndCut octets cut
parts_here octets cut h is =
    let same : record { line = crlf; rest = drop 5 octets } ≡ cut = unsome (sym (end_cut-here (drop 5 octets)) ∙ ap end_cut (sym is) ∙ h) in
    rw (← same) (record {
      front = [];
      line_is = refl;
      parts = is;
      longer = λ more. ap (λ all. end_cut (all ++ more)) is ∙ end_cut-here (drop 5 octets ++ more);
    })

-- the parts where the end comes after the first octet
parts_later : (x : ℕ) (rest : List ℕ) (next : Cut) → ends_here (x ∷ rest) ≡ false → IsEndCut rest next → IsEndCut (x ∷ rest) (record { line = x ∷ next.line; rest = next.rest })
parts_later x rest next other is =
    let long : length rest ≡ length (is.front ++ crlf ++ (46 ∷ 13 ∷ 10 ∷ next.rest)) = rw is.line_is at (ap length is.parts) in
    let lengths = length-append (is.front ++ crlf) (46 ∷ 13 ∷ 10 ∷ next.rest) in
    let front = length-append is.front crlf in
    record {
      front = x ∷ is.front;
      line_is = ap (λ line. x ∷ line) is.line_is;
      parts = ap (λ octets. x ∷ octets) is.parts;
      longer = λ more.
          end_cut-other x (rest ++ more) (ends_here-append (x ∷ rest) more (omega (arith, long, lengths, front)) ∙ other) ∙ ap (option_map (begun_with x)) (is.longer more);
    }

-- the parts, by whether the end comes first
parts_by : (x : ℕ) (rest : List ℕ) (cut : Cut) → end_cut (x ∷ rest) ≡ Some cut → ((next : Cut) → end_cut rest ≡ Some next → IsEndCut rest next)
    → (b : Bool) → ends_here (x ∷ rest) ≡ b → IsEndCut (x ∷ rest) cut
parts_by x rest cut h others true is = parts_here (x ∷ rest) cut h (ends_here-parts (x ∷ rest) is)
parts_by x rest cut h others false is =
    let found = unput x cut (end_cut rest) (sym (end_cut-other x rest is) ∙ h) in
    rw found.2 (parts_later x rest found.0 is (others found.0 found.1))

-- the parts of octets with an end
pub end_cut-parts : (octets : List ℕ) (cut : Cut) → end_cut octets ≡ Some cut → IsEndCut octets cut
unfolding end_cut
end_cut-parts [] cut h = cc
end_cut-parts (x ∷ rest) cut h = parts_by x rest cut h (λ next found. end_cut-parts rest next found) (ends_here (x ∷ rest)) refl

-- ---- the data

-- what the end of the data, after the CRLF of the command, shows of them
record IsDataOf (octets : List ℕ) (cut whole : Cut) : Type 0 where
  found : end_cut (13 ∷ 10 ∷ octets) ≡ Some whole
  cut_is : following_command whole ≡ cut

-- data have a cut after the CRLF of the command
data_of : (octets : List ℕ) (cut : Cut) → data_cut octets ≡ Some cut → (whole : Cut) × IsDataOf octets cut whole
data_of octets cut h = unmapped (end_cut (13 ∷ 10 ∷ octets)) refl h
  where
    unmapped : (found : Option Cut) → end_cut (13 ∷ 10 ∷ octets) ≡ found → option_map following_command found ≡ Some cut → (whole : Cut) × IsDataOf octets cut whole
    unmapped None is h = cc
    unmapped (Some whole) is h = (whole, record { found = is; cut_is = unsome h })

-- CRLF is the last of octets that it also begins
record HasAfter (octets line : List ℕ) : Type 0 where
  begins : line ≡ 13 ∷ 10 ∷ drop 2 line
  ended : IsEnded (drop 2 line)

-- octets that begin with CRLF and end with it are CRLF alone, or have both
after_front : (octets front rest : List ℕ) → 13 ∷ 10 ∷ octets ≡ (front ++ crlf) ++ rest → HasAfter octets (front ++ crlf)
after_front octets [] rest h = record { begins = refl; ended = inl refl }
after_front octets (x ∷ []) rest h = let cr : x ≡ 13 = cc in let lf : ◌≡◌ {A = ℕ} 13 10 = cc in absurd (omega arith)
after_front octets (x ∷ y ∷ front) rest h =
    let cr : x ≡ 13 = cc in
    let lf : y ≡ 10 = cc in
    record { begins = rw (cr, lf) refl; ended = inr (front, refl) }

-- The data end with CRLF, where there are any, and the line that ends them follows, also with more octets after.
pub record IsData (octets : List ℕ) (cut : Cut) : Type 0 where
  pub ended : IsEnded cut.line
  pub whole : end_cut (13 ∷ 10 ∷ octets) ≡ Some (record { line = 13 ∷ 10 ∷ cut.line; rest = cut.rest })
  pub parts : octets ≡ cut.line ++ (46 ∷ 13 ∷ 10 ∷ cut.rest)
  pub longer : (more : List ℕ) → data_cut (octets ++ more) ≡ Some (record { line = cut.line; rest = cut.rest ++ more })

-- the parts of octets with data
pub data_cut-parts : (octets : List ℕ) (cut : Cut) → data_cut octets ≡ Some cut → IsData octets cut
data_cut-parts octets cut h =
    let whole = (data_of octets cut h).0 in
    let is = (data_of octets cut h).1 in
    let found = end_cut-parts (13 ∷ 10 ∷ octets) whole is.found in
    let following : HasAfter octets whole.line = rw found.line_is (after_front octets found.front (46 ∷ 13 ∷ 10 ∷ whole.rest) (rw found.line_is at found.parts)) in
    let parts : 13 ∷ 10 ∷ octets ≡ (13 ∷ 10 ∷ drop 2 whole.line) ++ (46 ∷ 13 ∷ 10 ∷ whole.rest) =
    found.parts ∙ ap (λ line. line ++ (46 ∷ 13 ∷ 10 ∷ whole.rest)) following.begins in
    let with_line : List ℕ → Option Cut = λ line. Some (record { line = line; rest = whole.rest }) in
    rw (← is.cut_is) (record {
      ended = following.ended;
      whole = is.found ∙ ap with_line following.begins;
      parts = ap (drop 2) parts;
      longer = λ more. ap (option_map following_command) (found.longer more);
    })

-- more octets stay after the data
pub data_cut-stays : (octets more : List ℕ) (cut : Cut) → data_cut octets ≡ Some cut → data_cut (octets ++ more) ≡ Some (record { line = cut.line; rest = cut.rest ++ more })
data_cut-stays octets more cut h = (data_cut-parts octets cut h).longer more

-- fewer octets are left than there were
pub data_cut-shorter : (octets : List ℕ) (cut : Cut) → data_cut octets ≡ Some cut → length cut.rest < length octets
data_cut-shorter octets cut h =
    let parts = ap length (data_cut-parts octets cut h).parts in
    omega (arith, parts, length-append cut.line (46 ∷ 13 ∷ 10 ∷ cut.rest))

-- ---- the lines of the data

-- some octets have some line
some_lines : (y : ℕ) (rest : List ℕ) → 0 < length (lines_of (y ∷ rest))
some_lines y rest = rw (first_line y rest).1.lines (omega arith)

-- each line ends with CRLF
abbrev AreEnded : List (List ℕ) → Type 0
AreEnded lines = AllByRecursion (λ line. (front : List ℕ) × (line ≡ front ++ crlf)) lines

-- an octet before lines that end with CRLF
put_before-ended : (x : ℕ) (lines : List (List ℕ)) → 0 < length lines → AreEnded lines → AreEnded (put_before x lines)
put_before-ended x [] some ended = absurd (omega arith)
put_before-ended x (line ∷ lines) some ended = ((x ∷ ended.0.0, ap (λ line. x ∷ line) ended.0.1), ended.1)

-- after a CRLF no octets are left, or they end with CRLF
pub ended_after-crlf : (x y : ℕ) (rest front : List ℕ) → is_crlf x y ≡ true → x ∷ y ∷ rest ≡ front ++ crlf → IsEnded rest
ended_after-crlf x y rest [] both h = inl cc
ended_after-crlf x y rest (a ∷ []) both h =
    let lf : y ≡ 10 = (is_crlf_parts x y both).1 in
    let cr : y ≡ 13 = cc in
    absurd (omega arith)
ended_after-crlf x y rest (a ∷ b ∷ front) both h = inr (front, cc)

-- after an octet with which no CRLF begins the octets end with CRLF
pub ended_after-other : (x y : ℕ) (rest front : List ℕ) → is_crlf x y ≡ false → x ∷ y ∷ rest ≡ front ++ crlf → IsEnded (y ∷ rest)
ended_after-other x y rest [] other h =
    let cr : x ≡ 13 = cc in
    let lf : y ≡ 10 = cc in
    let both = is_crlf_true x y cr lf in
    cc
ended_after-other x y rest (a ∷ front) other h = inr (front, cc)

-- the lines, by whether CRLF comes first
ended_by : (x y : ℕ) (rest : List ℕ) → IsEnded (x ∷ y ∷ rest) → (IsEnded rest → AreEnded (lines_of rest)) → (IsEnded (y ∷ rest) → AreEnded (lines_of (y ∷ rest)))
    → (b : Bool) → is_crlf x y ≡ b → AreEnded (lines_of (x ∷ y ∷ rest))
ended_by x y rest (inl nothing) following next b is = cc
ended_by x y rest (inr ended) following next true is = rw (lines_of-crlf x y rest is) (([], refl), following (ended_after-crlf x y rest ended.0 is ended.1))
ended_by x y rest (inr ended) following next false is =
    rw (lines_of-other x y rest is) (put_before-ended x (lines_of (y ∷ rest)) (some_lines y rest) (next (ended_after-other x y rest ended.0 is ended.1)))

-- the lines of octets that end with CRLF
lines_ended : (octets : List ℕ) → IsEnded octets → AreEnded (lines_of octets)
unfolding lines_of
lines_ended [] ended = tt
lines_ended (x ∷ []) (inl nothing) = cc
lines_ended (x ∷ []) (inr ended) = let lengths = ap length ended.1 in absurd (omega (arith, lengths, length-append ended.0 crlf))
lines_ended (x ∷ y ∷ rest) ended = ended_by x y rest ended (lines_ended rest) (lines_ended (y ∷ rest)) (is_crlf x y) refl

-- the cut after the first octet, where the line before the end goes on
cut_later : (x : ℕ) (rest line left : List ℕ) → 2 ≤ length line → end_cut (x ∷ rest) ≡ Some (record { line = x ∷ line; rest = left })
    → (b : Bool) → ends_here (x ∷ rest) ≡ b → end_cut rest ≡ Some (record { line = line; rest = left })
cut_later x rest line left some h true is =
    let first : end_cut (x ∷ rest) ≡ Some (record { line = crlf; rest = drop 5 (x ∷ rest) }) = ap end_cut (ends_here-parts (x ∷ rest) is) ∙ end_cut-here (drop 5 (x ∷ rest)) in
    let same = ap (λ (cut : Cut). length cut.line) (unsome (sym first ∙ h)) in
    absurd (omega (arith, same, some))
cut_later x rest line left some h false is =
    let found = unput x (record { line = x ∷ line; rest = left }) (end_cut rest) (sym (end_cut-other x rest is) ∙ h) in
    found.1 ∙ ap Some (cut_of found.0 line left (ap (λ (cut : Cut). drop 1 cut.line) found.2) (ap (λ (cut : Cut). cut.rest) found.2))
  where
    cut_of : (cut : Cut) (line rest : List ℕ) → line ≡ cut.line → rest ≡ cut.rest → cut ≡ record { line = line; rest = rest }
    cut_of cut line rest line_is rest_is = rw (line_is, rest_is) refl

-- the same after several octets
cut_after : (front rest line left : List ℕ) → 2 ≤ length line → end_cut (front ++ rest) ≡ Some (record { line = front ++ line; rest = left })
    → end_cut rest ≡ Some (record { line = line; rest = left })
cut_after [] rest line left some h = h
cut_after (x ∷ front) rest line left some h =
    cut_after front rest line left some
    (cut_later x (front ++ rest) (front ++ line) left (omega (arith, some, length-append front line)) h (ends_here (x ∷ (front ++ rest))) refl)

-- none of the lines is a dot alone
abbrev LackDots : List (List ℕ) → Type 0
LackDots lines = AllByRecursion (λ line. line ≢ 46 ∷ 13 ∷ 10 ∷ []) lines

-- no line before the end is a dot alone
lines_dots : (lines : List (List ℕ)) (following left : List ℕ) → AreEnded lines
    → end_cut (13 ∷ 10 ∷ (concat lines ++ following)) ≡ Some (record { line = 13 ∷ 10 ∷ concat lines; rest = left }) → LackDots lines
lines_dots [] following left ended h = tt
lines_dots (line ∷ lines) following left ended h = (
  λ dot.
      let first : end_cut (13 ∷ 10 ∷ ((line ++ concat lines) ++ following)) ≡ Some (record { line = crlf; rest = concat lines ++ following }) =
      ap (λ line. end_cut (13 ∷ 10 ∷ ((line ++ concat lines) ++ following))) dot ∙ end_cut-here (concat lines ++ following) in
      let same = ap (λ (cut : Cut). length cut.line) (unsome (sym first ∙ h)) in
      let count : length line ≡ 3 = ap length dot in
      absurd (omega (arith, same, count, length-append line (concat lines))),
  lines_dots lines following left ended.1
      (let front = ended.0.0 in
      let shown = rw (ended.0.1, append_assoc front crlf (concat lines), append_assoc front (crlf ++ concat lines) following) at h in
      cut_after (13 ∷ 10 ∷ front) (13 ∷ 10 ∷ (concat lines ++ following)) (13 ∷ 10 ∷ concat lines) left (omega arith) shown),
)

-- no line of the data is a dot alone
pub data_dots : (octets : List ℕ) (cut : Cut) → data_cut octets ≡ Some cut → All (λ line. line ≢ codes ".\r\n") (lines_of cut.line)
data_dots octets cut h =
    let parts = data_cut-parts octets cut h in
    All-from_recursion (λ line. line ≢ codes ".\r\n") (lines_of cut.line)
    (lines_dots (lines_of cut.line) (46 ∷ 13 ∷ 10 ∷ cut.rest) cut.rest (lines_ended cut.line parts.ended) (rw (concat_lines_of cut.line) (rw parts.parts at parts.whole)))
