-- Octets that are given stuffed, run by run.
use Rattle.std.proofs.Common.{◌≡◌, ◌≤◌, ◌+◌, ◌-◌, ℕ, zero, suc, List, [], ◌∷◌, ◌++◌, length, take, drop, min, refl, sym, ap, ◌∙◌, arith, append-nil, append_assoc, Result, cond, codes, Bool}
use Rattle.std.proofs.lemmas.List.{take-append-drop, take-append-le, drop-take, drop-drop, length-take, length-drop, drop_all}
use Rattle.mail_wire.specs.Lines.{crlf}
use Rattle.mail_wire.specs.WireState.{WireState}
use Rattle.mail_wire.specs.Moves.{Gives, GivesPrefix, GivesOrFails, GoesOn}
use Rattle.mail_wire.proofs.Moving.{Gives-trans, Gives-prefix, GivesPrefix-more, GivesOrFails-after, Gives-nil, GoesOn-nil, GoesOn-trans}
use Rattle.pop_session.specs.declared.stuffing.Place.{Place}
use Rattle.pop_session.specs.declared.stuffing.Place.TheVariants.{LineStart}
use Rattle.pop_session.specs.Replies.{ended_lines}
use Rattle.mail_wire.specs.Dots.{stuffed, missing_end, are_complete}
use Rattle.pop_session.specs.private.Stuffing.{is_start, stuffed_from, place_after}
use Rattle.pop_session.proofs.StuffingLemmas.{stuffed_from-append, are_complete-from}
use Rattle.pop_session.proofs.RunLemmas.{last_two}

-- ---- what was given so far

-- Of octets that are to be given a front was given, and these, stuffed from this place on, are left.
pub record HasGiven (before now : WireState) (whole : List ℕ) (place : Place) (rest : List ℕ) : Type 0 where
  pub given : List ℕ
  pub gives : Gives before now given
  pub left : given ++ stuffed_from place rest ≡ whole
  pub on : GoesOn before now

pub nothing_given : (a : WireState) (place : Place) (octets : List ℕ) → HasGiven a a (stuffed_from place octets) place octets
nothing_given a place octets = record { given = []; gives = Gives-nil a; left = refl; on = GoesOn-nil a }

-- more was given
pub more_given : (a b c : WireState) (whole made : List ℕ) (place after : Place) (rest others : List ℕ) → HasGiven a b whole place rest → Gives b c made → GoesOn b c
    → made ++ stuffed_from after others ≡ stuffed_from place rest → HasGiven a c whole after others
more_given a b c whole made place after rest others so_far gives on split = record {
  given = so_far.given ++ made;
  gives = Gives-trans a b c so_far.given made so_far.gives gives;
  left = append_assoc so_far.given made (stuffed_from after others) ∙ ap (λ back. so_far.given ++ back) split ∙ so_far.left;
  on = GoesOn-trans a b c so_far.on on;
}

-- a failure in what is given next
pub broken_off : (a b c : WireState) (whole made more : List ℕ) (place : Place) (rest : List ℕ) → HasGiven a b whole place rest → GivesPrefix b c made → made ++ more ≡ stuffed_from place rest
    → GivesPrefix a c whole
broken_off a b c whole made more place rest so_far gives split =
    let all : so_far.given ++ (made ++ more) ≡ whole = ap (λ back. so_far.given ++ back) split ∙ so_far.left in
    rw all at (Gives-prefix a b c so_far.given (made ++ more) so_far.gives (GivesPrefix-more b c made more gives))

-- nothing is left
pub all_given : (a b : WireState) (whole : List ℕ) (place : Place) (rest : List ℕ) → HasGiven a b whole place rest → rest ≡ [] → Gives a b whole
all_given a b whole place rest so_far none =
    let all : so_far.given ≡ whole = sym (append-nil so_far.given) ∙ (rw none at so_far.left) in
    rw all at so_far.gives

-- ---- runs of a range

-- the first of the first ones are the first ones
take_first : (xs : List ℕ) (n m : ℕ) → n ≤ m → take n (take m xs) ≡ take n xs
take_first xs zero m low = refl
take_first [] (suc n) (suc m) low = refl
take_first (x ∷ xs) (suc n) (suc m) low = ap (λ more. x ∷ more) (take_first xs n m (omega arith))
take_first xs (suc n) zero low = absurd (omega arith)

-- a range without its first octets
range_rest : (shown : List ℕ) (at len given : ℕ) → given ≤ len → drop given (take len (drop at shown)) ≡ take (len - given) (drop (at + given) shown)
range_rest shown at len given low =
    let whole : len ≡ given + (len - given) = omega arith in
    ap (λ k. drop given (take k (drop at shown))) whole ∙ drop-take given (len - given) (drop at shown) ∙ ap (take (len - given)) (drop-drop given at shown)

-- a run of what is shown, cut where the range ends, is what is next of the range
pub next_of_range : (shown run piece : List ℕ) (at len given count : ℕ) → run ≡ take (length run) (drop (at + given) shown) → given ≤ len → count ≡ min (length run) (len - given) → piece ≡ take count run
    → piece ++ drop (given + count) (take len (drop at shown)) ≡ drop given (take len (drop at shown))
next_of_range shown run piece at len given count stands low cut is =
    let octets = take len (drop at shown) in
    let front : piece ≡ take count (drop given octets) =
    is ∙ ap (take count) stands ∙ take_first (drop (at + given) shown) count (length run) (omega arith)
    ∙ sym (ap (take count) (range_rest shown at len given low) ∙ take_first (drop (at + given) shown) count (len - given) (omega arith)) in
    ap (λ xs. xs ++ drop (given + count) octets) front ∙ ap (λ xs. take count (drop given octets) ++ xs) (sym (drop-drop count given octets)) ∙ take-append-drop count (drop given octets)

-- a piece and what is after it
pub piece_split : (place after : Place) (rest piece others : List ℕ) → piece ++ others ≡ rest → after ≡ place_after place piece → stuffed_from place piece ++ stuffed_from after others ≡ stuffed_from place rest
piece_split place after rest piece others split following = rw following (sym (stuffed_from-append place piece others) ∙ ap (stuffed_from place) split)

-- at the end of a range nothing is left of it
pub range_end : (octets : List ℕ) (len given : ℕ) → len ≤ given → drop given (take len octets) ≡ []
range_end octets len given end = drop_all given (take len octets) (let size = length-take len octets in omega arith)

-- ---- the end of a reply

-- the last two of some octets tell the place after them
two_last : (front two : List ℕ) → length two ≡ 2 → place_after LineStart two ≡ place_after LineStart (front ++ two)
two_last front [] long = absurd (omega arith)
two_last front (x ∷ []) long = absurd (omega arith)
two_last front (x ∷ y ∷ []) long = sym (last_two LineStart [] x y) ∙ last_two LineStart front x y
two_last front (x ∷ y ∷ z ∷ rest) long = absurd (omega arith)

take_cut : (m : ℕ) (xs : List ℕ) → take (suc (suc m)) xs ≡ take m xs ++ take 2 (drop m xs)
take_cut zero xs = refl
take_cut (suc m) [] = refl
take_cut (suc m) (x ∷ xs) = ap (λ more. x ∷ more) (take_cut m xs)

-- so they do where the first octets, so many, of what is shown end
pub last_place : (shown old buffer piece : List ℕ) (len count : ℕ) → len ≤ length shown → length old ≡ 2 → count ≡ min (length old) (length shown - (len - 2)) → buffer ≡ take count (drop (len - 2) shown) ++ drop count old
    → piece ≡ take (min count len) buffer → place_after LineStart piece ≡ place_after LineStart (take len shown)
last_place shown old buffer piece zero count low two read filled is =
    let none : min count 0 ≡ 0 = omega arith in
    ap (place_after LineStart) (is ∙ ap (λ k. take k buffer) none)
last_place shown old buffer piece (suc zero) count low two read filled is =
    let one : min count 1 ≡ 1 = omega arith in
    let size : length (take count shown) ≡ min count (length shown) = length-take count shown in
    ap (place_after LineStart) (is ∙ ap (λ k. take k buffer) one ∙ ap (take 1) filled ∙ take-append-le 1 (take count shown) (drop count old) (omega arith) ∙ take_first shown 1 count (omega arith))
last_place shown old buffer piece (suc (suc m)) count low two read filled is =
    let before : suc (suc m) - 2 ≡ m = omega arith in
    let both : min count (suc (suc m)) ≡ 2 = omega arith in
    let left : length (drop m shown) ≡ length shown - m = length-drop m shown in
    let size : length (take count (drop m shown)) ≡ min count (length (drop m shown)) = length-take count (drop m shown) in
    let ends : piece ≡ take 2 (drop m shown) =
    is ∙ ap (λ k. take k buffer) both ∙ ap (take 2) (rw before at filled) ∙ take-append-le 2 (take count (drop m shown)) (drop count old) (omega arith) ∙ take_first (drop m shown) 2 count (omega arith) in
    let long : length (take 2 (drop m shown)) ≡ 2 = length-take 2 (drop m shown) ∙ omega arith in
    ap (place_after LineStart) ends ∙ two_last (take m shown) (take 2 (drop m shown)) long ∙ ap (place_after LineStart) (sym (take_cut m shown))

-- after the stuffed lines the end is given
pub end_given : {T E : Type 0} (a b c : WireState) (result : Result T E) (octets end : List ℕ) (place : Place) → Gives a b (stuffed octets) → place ≡ place_after LineStart octets
    → end ≡ cond (is_start place) [] crlf ++ codes ".\r\n" → GivesOrFails b c result end → GivesOrFails a c result (ended_lines octets)
end_given a b c result octets end place gave here is gives =
    let complete : is_start place ≡ are_complete octets = ap is_start here ∙ are_complete-from octets in
    let whole : stuffed octets ++ end ≡ ended_lines octets =
    ap (λ back. stuffed octets ++ back) (is ∙ ap (λ (b : Bool). cond b [] crlf ++ codes ".\r\n") complete) ∙ sym (append_assoc (stuffed octets) (missing_end octets) (codes ".\r\n")) in
    rw whole at (GivesOrFails-after a b c result (stuffed octets) end gave gives)

-- a failure in the stuffed lines
pub lines_broken_off : (a b : WireState) (octets : List ℕ) → GivesPrefix a b (stuffed octets) → GivesPrefix a b (ended_lines octets)
lines_broken_off a b octets gives = GivesPrefix-more a b (stuffed octets ++ missing_end octets) (codes ".\r\n") (GivesPrefix-more a b (stuffed octets) (missing_end octets) gives)
