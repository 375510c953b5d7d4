-- The lines of stuffed octets are the stuffed lines.
use Rattle.std.proofs.Common.{◌≡◌, ℕ, List, [], ◌∷◌, ◌++◌, map, Bool, true, false, ◌==◌, refl, sym, ap, ◌∙◌, arith, append-nil}
use Rattle.std.specs.Prelude.{◌≢◌, codes}
use Rattle.std.specs.List.{All, AllByRecursion, flat_map}
use Rattle.std.proofs.lemmas.Bool.Decides.{nat_tests}
use Rattle.std.proofs.lemmas.List.Elements.{All-from_recursion}
use Rattle.mail_wire.specs.Lines.{lines_of, put_before, is_crlf, crlf}
use Rattle.mail_wire.proofs.FirstLine.{lines_of-crlf, lines_of-other}
use Rattle.mail_wire.proofs.LineLemmas.{begins, concat_lines_of, is_crlf_parts}
use Rattle.mail_wire.proofs.DotLemmas.{dots_away, lines_of-stuffed}
use Rattle.pop_session.specs.declared.stuffing.Place.{Place}
use Rattle.pop_session.specs.declared.stuffing.Place.TheVariants.{LineStart, AfterCr, Within}
use Rattle.pop_session.specs.Replies.{multi_line}
use Rattle.mail_wire.specs.Dots.{stuffed, stuffed_line, unstuffed_line, are_complete, missing_end}
use Rattle.pop_session.specs.private.Stuffing.{is_start, next_place, place_after, stuffed_from}
use Rattle.pop_session.proofs.StuffingLemmas.{stuffed-from, stuffed_from-append, place_after-append, are_complete-from}

-- ---- the last line

stuffed-crlf : (place : Place) → stuffed_from place crlf ≡ crlf
stuffed-crlf LineStart = refl
stuffed-crlf AfterCr = refl
stuffed-crlf Within = refl

-- octets that end with CRLF are stuffed with it
crlf_after : (octets : List ℕ) → stuffed octets ++ crlf ≡ stuffed (octets ++ crlf)
crlf_after octets =
    ap (λ front. front ++ crlf) (stuffed-from octets) ∙ ap (λ back. stuffed_from LineStart octets ++ back) (sym (stuffed-crlf (place_after LineStart octets)))
    ∙ sym (stuffed_from-append LineStart octets crlf) ∙ sym (stuffed-from (octets ++ crlf))

-- the last line is complete before or after stuffing
multi_line-stuffed : (octets : List ℕ) → multi_line octets ≡ stuffed (octets ++ missing_end octets)
multi_line-stuffed octets = by (are_complete octets) refl
  where
    by : (b : Bool) → are_complete octets ≡ b → multi_line octets ≡ stuffed (octets ++ missing_end octets)
    by true is = rw (is, append-nil octets) (append-nil (stuffed octets))
    by false is = rw is (crlf_after octets)

lines_of-multi_line : (octets : List ℕ) → lines_of (multi_line octets) ≡ map stuffed_line (lines_of (octets ++ missing_end octets))
lines_of-multi_line octets = ap lines_of (multi_line-stuffed octets) ∙ lines_of-stuffed (octets ++ missing_end octets)

-- ---- dots

not_dot : (line : List ℕ) → stuffed_line line ≡ codes ".\r\n" → ⊥
not_dot [] same = cc
not_dot (x ∷ rest) same = by (x == 46) refl
  where
    by : (b : Bool) → (x == 46) ≡ b → ⊥
    by true is =
        let two : 46 ∷ 46 ∷ rest ≡ 46 ∷ 13 ∷ 10 ∷ [] = rw is at same in
        let dot : ◌≡◌ {A = ℕ} 46 13 = cc in
        absurd (omega arith)
    by false is =
        let one : x ∷ rest ≡ 46 ∷ 13 ∷ 10 ∷ [] = rw is at same in
        let dot : x ≡ 46 = cc in
        let yes : (x == 46) ≡ true = rw dot refl in
        cc

none_by : (lines : List (List ℕ)) → AllByRecursion (λ line. line ≢ codes ".\r\n") (map stuffed_line lines)
none_by [] = tt
none_by (line ∷ lines) = (not_dot line, none_by lines)

-- no line of what is sent of a message is a dot alone
pub no_dots : (octets : List ℕ) → All (λ line. line ≢ codes ".\r\n") (lines_of (multi_line octets))
no_dots octets =
    rw (lines_of-multi_line octets) (All-from_recursion (λ line. line ≢ codes ".\r\n") (map stuffed_line (lines_of (octets ++ missing_end octets))) (none_by (lines_of (octets ++ missing_end octets))))

-- the lines without these dots are the message's
pub lines_back : (octets : List ℕ) → flat_map unstuffed_line (lines_of (multi_line octets)) ≡ octets ++ missing_end octets
lines_back octets =
    ap (flat_map unstuffed_line) (lines_of-multi_line octets) ∙ dots_away (lines_of (octets ++ missing_end octets)) ∙ concat_lines_of (octets ++ missing_end octets)

-- ---- the end of the reply

-- after a CRLF with which complete octets begin
complete_after : (x y : ℕ) (rest : List ℕ) → is_crlf x y ≡ true → are_complete (x ∷ y ∷ rest) ≡ true → are_complete rest ≡ true
unfolding are_complete
complete_after x y [] both complete = refl
complete_after x y (z ∷ []) both complete =
    let lf : y ≡ 10 = (is_crlf_parts x y both).1 in
    let none : ◌≡◌ {A = Bool} false true = rw lf at complete in
    cc
complete_after x y (z ∷ w ∷ rest) both complete = complete

-- after another octet
complete_next : (x y : ℕ) (rest : List ℕ) → is_crlf x y ≡ false → are_complete (x ∷ y ∷ rest) ≡ true → are_complete (y ∷ rest) ≡ true
unfolding are_complete
complete_next x y [] apart complete = cc
complete_next x y (z ∷ rest) apart complete = complete

following_by : (x y : ℕ) (rest more : List ℕ) → are_complete (x ∷ y ∷ rest) ≡ true → (are_complete (y ∷ rest) ≡ true → lines_of (y ∷ (rest ++ more)) ≡ lines_of (y ∷ rest) ++ lines_of more)
    → (are_complete rest ≡ true → lines_of (rest ++ more) ≡ lines_of rest ++ lines_of more) → (b : Bool) → is_crlf x y ≡ b
    → lines_of (x ∷ y ∷ (rest ++ more)) ≡ lines_of (x ∷ y ∷ rest) ++ lines_of more
following_by x y rest more complete next after true is =
    lines_of-crlf x y (rest ++ more) is ∙ ap (λ (lines : List (List ℕ)). crlf ∷ lines) (after (complete_after x y rest is complete))
    ∙ ap (λ (lines : List (List ℕ)). lines ++ lines_of more) (sym (lines_of-crlf x y rest is))
following_by x y rest more complete next after false is =
    let first = begins y rest in
    let here : lines_of (y ∷ (rest ++ more)) ≡ ((y ∷ first.line) ∷ first.lines) ++ lines_of more = next (complete_next x y rest is complete) ∙ ap (λ (lines : List (List ℕ)). lines ++ lines_of more) first.split in
    lines_of-other x y (rest ++ more) is ∙ ap (put_before x) here
    ∙ ap (λ (lines : List (List ℕ)). lines ++ lines_of more) (sym (lines_of-other x y rest is ∙ ap (put_before x) first.split))

-- after complete octets a line begins
after_complete : (octets more : List ℕ) → are_complete octets ≡ true → lines_of (octets ++ more) ≡ lines_of octets ++ lines_of more
unfolding lines_of are_complete
after_complete [] more complete = refl
after_complete (x ∷ []) more complete = cc
after_complete (x ∷ y ∷ rest) more complete =
    following_by x y rest more complete (λ next. after_complete (y ∷ rest) more next) (λ after. after_complete rest more after) (is_crlf x y) refl

-- the place after stuffed octets that begin a line
place_by : (x : ℕ) (rest : List ℕ) → place_after Within (stuffed_from Within rest) ≡ place_after Within rest
    → place_after (next_place LineStart x) (stuffed_from (next_place LineStart x) rest) ≡ place_after (next_place LineStart x) rest → (b : Bool) → (x == 46) ≡ b
    → place_after LineStart (stuffed_from LineStart (x ∷ rest)) ≡ place_after LineStart (x ∷ rest)
place_by x rest dotted plain true is = let dot : x ≡ 46 = grind (arith, nat_tests) in rw dot dotted
place_by x rest dotted plain false is = rw is plain

-- a line begins after stuffed octets where one begins after the octets
place_stuffed : (place : Place) (octets : List ℕ) → place_after place (stuffed_from place octets) ≡ place_after place octets
place_stuffed place [] = refl
place_stuffed LineStart (x ∷ rest) = place_by x rest (place_stuffed Within rest) (place_stuffed (next_place LineStart x) rest) (x == 46) refl
place_stuffed AfterCr (x ∷ rest) = place_stuffed (next_place AfterCr x) rest
place_stuffed Within (x ∷ rest) = place_stuffed (next_place Within x) rest

complete_whole : (octets : List ℕ) → are_complete (octets ++ missing_end octets) ≡ true
complete_whole octets = by (are_complete octets) refl
  where
    by : (b : Bool) → are_complete octets ≡ b → are_complete (octets ++ missing_end octets) ≡ true
    by true is = rw (is, append-nil octets) is
    by false is = rw is (sym (are_complete-from (octets ++ crlf)) ∙ ap is_start (place_after-append LineStart octets crlf))

complete_multi_line : (octets : List ℕ) → are_complete (multi_line octets) ≡ true
complete_multi_line octets =
    let whole = octets ++ missing_end octets in
    ap are_complete (multi_line-stuffed octets ∙ stuffed-from whole) ∙ sym (are_complete-from (stuffed_from LineStart whole)) ∙ ap is_start (place_stuffed LineStart whole)
    ∙ are_complete-from whole ∙ complete_whole octets

end_line : lines_of (codes ".\r\n") ≡ codes ".\r\n" ∷ []
unfolding lines_of
end_line = refl

-- the line that ends the reply stands after the message's lines
pub line_after : (octets : List ℕ) → lines_of (multi_line octets ++ codes ".\r\n") ≡ lines_of (multi_line octets) ++ codes ".\r\n" ∷ []
line_after octets = after_complete (multi_line octets) (codes ".\r\n") (complete_multi_line octets) ∙ ap (λ (lines : List (List ℕ)). lines_of (multi_line octets) ++ lines) end_line
