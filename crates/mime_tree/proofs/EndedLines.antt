-- Lines whose last CRLF is taken away, or put back.
use Rattle.std.proofs.Common.{◌≡◌, ℕ, zero, suc, ◌+◌, ◌<◌, ◌⊎◌, inl, inr, List, [], ◌∷◌, ◌++◌, length, false, arith, refl, sym, ap, ◌∙◌, Some, append-nil, append_assoc}
use Rattle.std.proofs.lemmas.Bool.{and_right}
use Rattle.std.specs.Prelude.{slice_get, ◌==◌}
use Rattle.std.specs.List.{AllByRecursion, concat}
use Rattle.mail_wire.specs.Lines.{is_crlf, crlf}
use Rattle.mail_wire.specs.Message.{IsSound}
use Rattle.mail_wire.proofs.LineLemmas.{is_crlf_parts}
use Rattle.utf8_fields.proofs.LineShapes.{EndsOnce, NeverEnds, AreLines, before_once}
use Rattle.mime_tree.specs.Marks.{text_of, is_delimiter, is_close}
use Rattle.mime_tree.specs.Parts.{shortened, cut_last}
use Rattle.mime_tree.proofs.Texts.{IsWhole, longer_whole, text_begins, text_of-crlf, text_of-other}
use Rattle.mime_tree.proofs.PartLemmas.{is_delimiter-text, is_close-text}
use Rattle.mime_tree.proofs.Standing.{AreEnded, IsUnmarked, AreUnmarked}

-- octets of a text and of what follows it
in_front : (xs ys : List ℕ) (at x : ℕ) → slice_get xs at ≡ Some x → slice_get (xs ++ ys) at ≡ Some x
in_front [] ys at x is = cc is
in_front (y ∷ xs) ys zero x is = is
in_front (y ∷ xs) ys (suc at) x is = in_front xs ys at x is

inside : (xs : List ℕ) (at x : ℕ) → slice_get xs at ≡ Some x → at < length xs
inside [] at x is = cc is
inside (y ∷ xs) zero x is = omega arith
inside (y ∷ xs) (suc at) x is = let less = inside xs at x is in omega arith

in_back : (xs ys : List ℕ) (k at : ℕ) → at ≡ length xs + k → slice_get (xs ++ ys) at ≡ slice_get ys k
in_back [] ys k at is = ap (slice_get ys) (omega arith)
in_back (x ∷ xs) ys k zero is = absurd (omega arith)
in_back (x ∷ xs) ys k (suc at) is = in_back xs ys k at (omega arith)

record StandsFollowing (xs ys : List ℕ) (at x : ℕ) : Type 0 where
  pub k : ℕ
  pub place : at ≡ length xs + k
  pub is : slice_get ys k ≡ Some x

front_or_back : (xs ys : List ℕ) (at x : ℕ) → slice_get (xs ++ ys) at ≡ Some x → (slice_get xs at ≡ Some x) ⊎ StandsFollowing xs ys at x
front_or_back [] ys at x is = inr (record { k = at; place = omega arith; is = is })
front_or_back (y ∷ xs) ys zero x is = inl is
front_or_back (y ∷ xs) ys (suc at) x is =
    elim (front_or_back xs ys at x is) [ inl front ↦ inl front | inr back ↦ inr (record { k = back.k; place = let place = back.place in omega arith; is = back.is }) ]

lf_second : (k : ℕ) → slice_get crlf k ≡ Some 10 → k ≡ 1
lf_second zero is = cc is
lf_second (suc zero) is = refl
lf_second (suc (suc k)) is = cc is

cr_first : (k : ℕ) → slice_get crlf k ≡ Some 13 → k ≡ 0
cr_first zero is = refl
cr_first (suc zero) is = cc is
cr_first (suc (suc k)) is = cc is

no_nul : (k : ℕ) → slice_get crlf k ≡ Some 0 → ⊥
no_nul zero is = cc is
no_nul (suc zero) is = cc is
no_nul (suc (suc k)) is = cc is

-- a sound line is sound without its CRLF
pub sound_text : (text : List ℕ) → IsSound (text ++ crlf) → IsSound text
sound_text text sound at (inl nul) = sound at (inl (in_front text crlf at 0 nul))
sound_text text sound at (inr (inl cr)) = sound at (inr (inl (in_front text crlf at 13 cr.0, λ lf. go (front_or_back text crlf (at + 1) 10 lf))))
  where
    go : (slice_get text (at + 1) ≡ Some 10) ⊎ StandsFollowing text crlf (at + 1) 10 → ⊥
    go (inl front) = cr.1 front
    go (inr back) =
        let less = inside text at 13 cr.0 in
        let second = lf_second back.k back.is in
        let place = back.place in omega arith
sound_text text sound at (inr (inr lf)) = sound at (inr (inr (in_front text crlf at 10 lf.0, λ before next cr. go before next (front_or_back text crlf before 13 cr))))
  where
    go : (before : ℕ) → at ≡ before + 1 → (slice_get text before ≡ Some 13) ⊎ StandsFollowing text crlf before 13 → ⊥
    go before next (inl front) = lf.1 before next front
    go before next (inr back) =
        let less = inside text at 10 lf.0 in
        let place = back.place in omega arith

-- a sound text is sound with a CRLF after it
pub sound_ended : (text : List ℕ) → IsSound text → IsSound (text ++ crlf)
sound_ended text sound at (inl nul) = elim (front_or_back text crlf at 0 nul) [ inl front ↦ sound at (inl front) | inr back ↦ no_nul back.k back.is ]
sound_ended text sound at (inr (inl cr)) = go (front_or_back text crlf at 13 cr.0)
  where
    go : (slice_get text at ≡ Some 13) ⊎ StandsFollowing text crlf at 13 → ⊥
    go (inl front) = sound at (inr (inl (front, λ lf. cr.1 (in_front text crlf (at + 1) 10 lf))))
    go (inr back) =
        let first = cr_first back.k back.is in
        let place = back.place in cr.1 (in_back text crlf 1 (at + 1) (omega arith))
sound_ended text sound at (inr (inr lf)) = go (front_or_back text crlf at 10 lf.0)
  where
    go : (slice_get text at ≡ Some 10) ⊎ StandsFollowing text crlf at 10 → ⊥
    go (inl front) = sound at (inr (inr (front, λ before next cr. lf.1 before next (in_front text crlf before 13 cr))))
    go (inr back) =
        let second = lf_second back.k back.is in
        let place = back.place in lf.1 (length text) (omega arith) (in_back text crlf 0 (length text) (omega arith))

-- an ended line is its text and CRLF
pub ends_whole : (line : List ℕ) → EndsOnce line → IsWhole line
ends_whole [] once = absurd once
ends_whole (x ∷ []) once = absurd once
ends_whole (x ∷ y ∷ []) once =
    let both = is_crlf_parts x y once in
    record { joined = rw (text_of-crlf x y [] once, both.0, both.1) refl }
ends_whole (x ∷ y ∷ z ∷ rest) once = longer_whole x y (z ∷ rest) once.0 (ends_whole (y ∷ z ∷ rest) once.1)

never_longer : (x y : ℕ) (t : List ℕ) → is_crlf x y ≡ false → ((t ≡ []) ⊎ ((more : List ℕ) × (t ≡ y ∷ more))) → NeverEnds t → NeverEnds (x ∷ t)
never_longer x y t other (inl none) never = rw none tt
never_longer x y t other (inr some) never = rw some.1 (other, rw some.1 at never)

-- its text isn't ended
pub text_never : (line : List ℕ) → EndsOnce line → NeverEnds (text_of line)
text_never [] once = absurd once
text_never (x ∷ []) once = absurd once
text_never (x ∷ y ∷ []) once = rw (text_of-crlf x y [] once) tt
text_never (x ∷ y ∷ z ∷ rest) once =
    rw (text_of-other x y (z ∷ rest) once.0) (never_longer x y (text_of (y ∷ z ∷ rest)) once.0 (text_begins y (z ∷ rest)) (text_never (y ∷ z ∷ rest) once.1))

no_cr_pair : (x : ℕ) → is_crlf x 13 ≡ false
no_cr_pair x = and_right (x == 13) (13 == 10) refl

-- a text with CRLF after it
pub text_of-never : (text : List ℕ) → NeverEnds text → text_of (text ++ crlf) ≡ text
text_of-never [] never = text_of-crlf 13 10 [] refl
text_of-never (x ∷ []) never = text_of-other x 13 (10 ∷ []) (no_cr_pair x) ∙ ap (λ more. x ∷ more) (text_of-crlf 13 10 [] refl)
text_of-never (x ∷ y ∷ rest) never = text_of-other x y (rest ++ crlf) never.0 ∙ ap (λ more. x ∷ more) (text_of-never (y ∷ rest) never.1)

pub never_ended : (text : List ℕ) → NeverEnds text → EndsOnce (text ++ crlf)
never_ended [] never = refl
never_ended (x ∷ []) never = (no_cr_pair x, refl)
never_ended (x ∷ y ∷ rest) never = before_once x y (rest ++ crlf) never.0 (never_ended (y ∷ rest) never.1)

-- the line has an octet
abbrev pub IsFilled : List ℕ → Type 0
IsFilled line = line ≡ [] → ⊥

abbrev pub AreFilled : List (List ℕ) → Type 0
AreFilled lines = AllByRecursion IsFilled lines

pub ended_filled : (lines : List (List ℕ)) → AreEnded lines → AreFilled lines
ended_filled [] ended = tt
ended_filled ([] ∷ lines) ended = absurd ended.0
ended_filled ((x ∷ line) ∷ lines) ended = (λ none. cc none, ended_filled lines ended.1)

pub filled_nothing : (lines : List (List ℕ)) → AreFilled lines → concat lines ≡ [] → lines ≡ []
filled_nothing [] filled none = refl
filled_nothing ([] ∷ lines) filled none = absurd (filled.0 refl)
filled_nothing ((x ∷ line) ∷ lines) filled none = cc none

-- Lines are filled, or ended ones and an empty one.
pub record HasEmptyLast (lines : List (List ℕ)) : Type 0 where
  pub front : List (List ℕ)
  pub whole : lines ≡ front ++ [] ∷ []
  pub ended : AreEnded front

pub filled_or : (lines : List (List ℕ)) → AreLines lines → AreFilled lines ⊎ HasEmptyLast lines
filled_or [] are = inl tt
filled_or ([] ∷ rest) are = elim are.0 [ inl once ↦ absurd once | inr never ↦ inr (record { front = []; whole = ap (λ more. [] ∷ more) never.1; ended = tt }) ]
filled_or ((x ∷ line) ∷ rest) are = elim are.0 [ inl once ↦ on once (filled_or rest are.1) | inr never ↦ inl (λ none. cc none, rw never.1 tt) ]
  where
    on : EndsOnce (x ∷ line) → AreFilled rest ⊎ HasEmptyLast rest → AreFilled ((x ∷ line) ∷ rest) ⊎ HasEmptyLast ((x ∷ line) ∷ rest)
    on once (inl filled) = inl (λ none. cc none, filled)
    on once (inr empty) = inr (record { front = (x ∷ line) ∷ empty.front; whole = ap (λ more. (x ∷ line) ∷ more) empty.whole; ended = (once, empty.ended) })

-- what stands between a part and the mark after it, by the lines that have passed
abbrev pub gap_of : List (List ℕ) → List ℕ
gap_of [] = []
gap_of (line ∷ lines) = crlf

concat_shortened : (text : List ℕ) → concat (shortened text) ≡ text
concat_shortened [] = refl
concat_shortened (x ∷ text) = append-nil (x ∷ text)

-- the last CRLF is cut off
pub cut_concat : (lines : List (List ℕ)) → AreEnded lines → concat lines ≡ concat (cut_last lines) ++ gap_of lines
unfolding cut_last
cut_concat [] ended = refl
cut_concat (line ∷ []) ended = append-nil line ∙ sym (ends_whole line ended.0).joined ∙ ap (λ text. text ++ crlf) (sym (concat_shortened (text_of line)))
cut_concat (line ∷ next ∷ lines) ended = ap (λ more. line ++ more) (cut_concat (next ∷ lines) ended.1) ∙ sym (append_assoc line (concat (cut_last (next ∷ lines))) crlf)

pub cut_are : (lines : List (List ℕ)) → AreEnded lines → AreLines (cut_last lines)
unfolding cut_last
cut_are [] ended = tt
cut_are (line ∷ []) ended = go (text_of line) (text_never line ended.0)
  where
    go : (text : List ℕ) → NeverEnds text → AreLines (shortened text)
    go [] never = tt
    go (x ∷ text) never = (inr (never, refl), tt)
cut_are (line ∷ next ∷ lines) ended = (inl ended.0, cut_are (next ∷ lines) ended.1)

-- what is said of lines and of their texts is said of the lines without the last CRLF
cut_all : (P : List ℕ → Type 0) (lines : List (List ℕ)) → ((line : List ℕ) → EndsOnce line → P line → P (text_of line)) → AreEnded lines → AllByRecursion P lines → AllByRecursion P (cut_last lines)
unfolding cut_last
cut_all P [] text ended all = tt
cut_all P (line ∷ []) text ended all = go (text_of line) (text line ended.0 all.0)
  where
    go : (t : List ℕ) → P t → AllByRecursion P (shortened t)
    go [] is = tt
    go (x ∷ t) is = (is, tt)
cut_all P (line ∷ next ∷ lines) text ended all = (all.0, cut_all P (next ∷ lines) text ended.1 all.1)

pub cut_sound : (lines : List (List ℕ)) → AreEnded lines → AllByRecursion IsSound lines → AllByRecursion IsSound (cut_last lines)
cut_sound lines ended sound = cut_all IsSound lines (λ line once is. sound_text (text_of line) (rw (ends_whole line once).joined is)) ended sound

pub cut_unmarked : (boundary : List ℕ) (lines : List (List ℕ)) → AreEnded lines → AreUnmarked boundary lines → AreUnmarked boundary (cut_last lines)
cut_unmarked boundary lines ended unmarked =
    cut_all (IsUnmarked boundary) lines (λ line once is. record { delimiter = is_delimiter-text boundary line ∙ is.delimiter; close = is_close-text boundary line ∙ is.close }) ended unmarked

-- Lines with a CRLF put on: ended lines, which are these without their last CRLF.
pub record HasEnded (lines : List (List ℕ)) : Type 0 where
  pub first : List ℕ
  pub others : List (List ℕ)
  pub whole : concat (first ∷ others) ≡ concat lines ++ crlf
  pub ended : AreEnded (first ∷ others)
  pub cut : cut_last (first ∷ others) ≡ lines
  pub sound : AllByRecursion IsSound lines → AllByRecursion IsSound (first ∷ others)
  pub unmarked : (boundary : List ℕ) → AreUnmarked boundary lines → AreUnmarked boundary (first ∷ others)

-- an empty line is no mark
crlf_unmarked : (boundary : List ℕ) → IsUnmarked boundary crlf
unfolding text_of is_delimiter is_close
crlf_unmarked boundary = record { delimiter = refl; close = refl }

ended_nothing : HasEnded []
unfolding cut_last text_of
ended_nothing =
    record { first = crlf; others = []; whole = refl; ended = (refl, tt); cut = refl; sound = λ sound. (sound_ended [] sound_nothing, tt); unmarked = λ boundary unmarked. (crlf_unmarked boundary, tt) }
  where
    sound_nothing : IsSound []
    sound_nothing at (inl nul) = cc nul
    sound_nothing at (inr (inl cr)) = cc cr.0
    sound_nothing at (inr (inr lf)) = cc lf.0

ended_last : (line : List ℕ) → NeverEnds line → IsFilled line → HasEnded (line ∷ [])
unfolding cut_last
ended_last line never filled =
    record {
      first = line ++ crlf;
      others = [];
      whole = append-nil (line ++ crlf) ∙ ap (λ text. text ++ crlf) (sym (append-nil line));
      ended = (never_ended line never, tt);
      cut = ap shortened (text_of-never line never) ∙ has line filled;
      sound = λ sound. (sound_ended line sound.0, tt);
      unmarked = λ boundary unmarked. (mark boundary unmarked.0, tt);
    }
  where
    has : (t : List ℕ) → IsFilled t → shortened t ≡ t ∷ []
    has [] some = absurd (some refl)
    has (x ∷ t) some = refl

    mark : (boundary : List ℕ) → IsUnmarked boundary line → IsUnmarked boundary (line ++ crlf)
    mark boundary is =
        let text = text_of-never line never in
        record {
          delimiter = sym (is_delimiter-text boundary (line ++ crlf)) ∙ rw text is.delimiter;
          close = sym (is_close-text boundary (line ++ crlf)) ∙ rw text is.close;
        }

ended_on : (line : List ℕ) (rest : List (List ℕ)) → EndsOnce line → HasEnded rest → HasEnded (line ∷ rest)
unfolding cut_last
ended_on line rest once has =
    record {
      first = line;
      others = has.first ∷ has.others;
      whole = ap (λ more. line ++ more) has.whole ∙ sym (append_assoc line (concat rest) crlf);
      ended = (once, has.ended);
      cut = ap (λ more. line ∷ more) has.cut;
      sound = λ sound. (sound.0, has.sound sound.1);
      unmarked = λ boundary unmarked. (unmarked.0, has.unmarked boundary unmarked.1);
    }

pub put_ending : (lines : List (List ℕ)) → AreLines lines → AreFilled lines → HasEnded lines
put_ending [] are filled = ended_nothing
put_ending (line ∷ rest) are filled = elim are.0 [ inl once ↦ ended_on line rest once (put_ending rest are.1 filled.1) | inr never ↦ rw never.1 (ended_last line never.0 filled.0) ]
