-- Data that were sent are found whole.
use Rattle.std.proofs.Common.{◌≡◌, ℕ, ◌<◌, List, [], ◌∷◌, ◌++◌, length, Bool, true, false, ◌==◌, refl, ap, ◌∙◌, arith, inl, inr, Some}
use Rattle.std.specs.List.{flat_map}
use Rattle.std.specs.Option.{option_map}
use Rattle.std.proofs.lemmas.Bool.Decides.{nat_tests}
use Rattle.mail_wire.specs.Dots.{stuffed, stuffed_line}
use Rattle.mail_wire.specs.Lines.{begun_with, crlf, is_crlf, lines_of, put_before}
use Rattle.mail_wire.specs.Message.{IsEnded}
use Rattle.mail_wire.proofs.DotLemmas.{others_stuffed}
use Rattle.mail_wire.proofs.FirstLine.{lines_of-crlf, lines_of-other}
use Rattle.mail_wire.proofs.LineLemmas.{begins}
use Rattle.smtp_grammar.specs.Data.{following_command, data_cut, end_cut, sent}
use Rattle.smtp_grammar.proofs.DataLemmas.{end_cut-here, end_cut-other, ended_after-crlf, ended_after-other, ends_here}

-- ---- the end

-- the end doesn't come first
passed : (x : ℕ) (octets line rest : List ℕ) → ends_here (x ∷ octets) ≡ false → end_cut octets ≡ Some (record { line = line; rest = rest })
    → end_cut (x ∷ octets) ≡ Some (record { line = x ∷ line; rest = rest })
passed x octets line rest other found = end_cut-other x octets other ∙ ap (option_map (begun_with x)) found

-- nor where CRLF does
crlf_passed : (octets line rest : List ℕ) → ends_here (13 ∷ 10 ∷ octets) ≡ false → end_cut octets ≡ Some (record { line = line; rest = rest })
    → end_cut (13 ∷ 10 ∷ octets) ≡ Some (record { line = 13 ∷ 10 ∷ line; rest = rest })
unfolding ends_here
crlf_passed octets line rest other found = passed 13 (10 ∷ octets) (10 ∷ line) rest other (passed 10 octets line rest refl found)

-- two octets that are no CRLF begin no end
pub two_other : (x y : ℕ) (octets : List ℕ) → is_crlf x y ≡ false → (b : Bool) → (x == 13) ≡ b → ends_here (x ∷ y ∷ octets) ≡ false
unfolding ends_here
two_other x y octets apart true is = let lone : (y == 10) ≡ false = rw is at apart in rw (is, lone) refl
two_other x y octets apart false is = rw is refl

-- what follows the lines begins with the line that ends them
abbrev ended_by : List ℕ → List ℕ
ended_by rest = 46 ∷ 13 ∷ 10 ∷ rest

-- the end after stuffed lines, from a line's start, after CRLF, and from within one
record AreFound (octets rest : List ℕ) : Type 0 where
  start : end_cut (13 ∷ 10 ∷ (flat_map stuffed_line (lines_of octets) ++ ended_by rest)) ≡ Some (record { line = 13 ∷ 10 ∷ flat_map stuffed_line (lines_of octets); rest = rest })
  within : 0 < length octets → end_cut (others_stuffed (lines_of octets) ++ ended_by rest) ≡ Some (record { line = others_stuffed (lines_of octets); rest = rest })

none_found : (rest : List ℕ) → AreFound [] rest
unfolding lines_of
none_found rest = record { start = end_cut-here rest; within = λ some. absurd (omega (arith, some)) }

-- CRLF comes first
crlf_found : (octets rest : List ℕ) (lines : List (List ℕ)) → lines_of octets ≡ crlf ∷ lines
    → end_cut (13 ∷ 10 ∷ (flat_map stuffed_line lines ++ ended_by rest)) ≡ Some (record { line = 13 ∷ 10 ∷ flat_map stuffed_line lines; rest = rest }) → AreFound octets rest
unfolding ends_here
crlf_found octets rest lines is found =
    let lines_after = flat_map stuffed_line lines in
    record {
      start = rw is (crlf_passed (13 ∷ 10 ∷ (lines_after ++ ended_by rest)) (13 ∷ 10 ∷ lines_after) rest refl found);
      within = λ some. rw is found;
    }

-- a line that may begin with a dot
line_found : (x : ℕ) (line others rest : List ℕ) → end_cut (x ∷ ((line ++ others) ++ ended_by rest)) ≡ Some (record { line = x ∷ (line ++ others); rest = rest })
    → (b : Bool) → (x == 46) ≡ b
    → end_cut (13 ∷ 10 ∷ ((stuffed_line (x ∷ line) ++ others) ++ ended_by rest)) ≡ Some (record { line = 13 ∷ 10 ∷ (stuffed_line (x ∷ line) ++ others); rest = rest })
unfolding ends_here
line_found x line others rest whole true is =
    let dot : x ≡ 46 = grind (arith, nat_tests) in
    let octets = (line ++ others) ++ ended_by rest in
    let first : end_cut (46 ∷ octets) ≡ Some (record { line = 46 ∷ (line ++ others); rest = rest }) = rw dot at whole in
    rw dot (crlf_passed (46 ∷ 46 ∷ octets) (46 ∷ 46 ∷ (line ++ others)) rest refl (passed 46 (46 ∷ octets) (46 ∷ (line ++ others)) rest refl first))
line_found x line others rest whole false is =
    rw is (crlf_passed (x ∷ ((line ++ others) ++ ended_by rest)) (x ∷ (line ++ others)) rest (rw is refl) whole)

-- the octets don't begin with CRLF
other_found : (x y : ℕ) (following line rest : List ℕ) (lines : List (List ℕ)) → is_crlf x y ≡ false → lines_of (y ∷ following) ≡ (y ∷ line) ∷ lines
    → lines_of (x ∷ y ∷ following) ≡ (x ∷ y ∷ line) ∷ lines → AreFound (y ∷ following) rest → AreFound (x ∷ y ∷ following) rest
other_found x y following line rest lines apart here longer next =
    let others = flat_map stuffed_line lines in
    let later : end_cut (y ∷ ((line ++ others) ++ ended_by rest)) ≡ Some (record { line = y ∷ (line ++ others); rest = rest }) = rw here at (next.within (omega arith)) in
    let whole = passed x (y ∷ ((line ++ others) ++ ended_by rest)) (y ∷ (line ++ others)) rest (two_other x y ((line ++ others) ++ ended_by rest) apart (x == 13) refl) later in
    record { start = rw longer (line_found x (y ∷ line) others rest whole (x == 46) refl); within = λ some. rw longer whole }

-- from the second octet on, and from the third on
found_by : (x y : ℕ) (following rest : List ℕ) → IsEnded (x ∷ y ∷ following) → (IsEnded (y ∷ following) → AreFound (y ∷ following) rest) → (IsEnded following → AreFound following rest)
    → (b : Bool) → is_crlf x y ≡ b → AreFound (x ∷ y ∷ following) rest
found_by x y following rest (inl nothing) next after b is = cc
found_by x y following rest (inr ended) next after true is =
    crlf_found (x ∷ y ∷ following) rest (lines_of following) (lines_of-crlf x y following is) (after (ended_after-crlf x y following ended.0 is ended.1)).start
found_by x y following rest (inr ended) next after false is =
    let first = begins y following in
    other_found x y following first.line rest first.lines is first.split (lines_of-other x y following is ∙ ap (put_before x) first.split)
    (next (ended_after-other x y following ended.0 is ended.1))

are_found : (octets rest : List ℕ) → IsEnded octets → AreFound octets rest
are_found [] rest ended = none_found rest
are_found (x ∷ []) rest (inl nothing) = cc
are_found (x ∷ []) rest (inr ([], is)) = cc
are_found (x ∷ []) rest (inr (a ∷ [], is)) = cc
are_found (x ∷ []) rest (inr (a ∷ b ∷ front, is)) = cc
are_found (x ∷ y ∷ following) rest ended = found_by x y following rest ended (are_found (y ∷ following) rest) (are_found following rest) (is_crlf x y) refl

-- data that were sent are found whole
pub sent_found : (octets : List ℕ) → IsEnded octets → (rest : List ℕ) → data_cut (sent octets rest) ≡ Some (record { line = stuffed octets; rest = rest })
unfolding stuffed
sent_found octets ended rest = ap (option_map following_command) (are_found octets rest ended).start
