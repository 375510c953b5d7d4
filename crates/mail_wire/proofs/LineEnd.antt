-- The end of the first line, from what `memmem` finds in the piece.
use Rattle.std.proofs.Common.{◌≡◌, ℕ, ◌+◌, ◌-◌, ◌<◌, ◌≤◌, List, [], ◌∷◌, ◌++◌, length, take, drop, Bool, true, false, arith, refl, ap, ◌∙◌, Some, None}
use Rattle.std.specs.Prelude.{IsTrue, ◌↔◌, slice_get}
use Rattle.std.specs.Option.{option_map}
use Rattle.memchr.specs.Find.{FindsNeedle}
use Rattle.mail_wire.specs.Lines.{first_line, crlf}
use Rattle.mail_wire.proofs.FirstLineLemmas.{joins, joins_true, joins_parts, put, first_line-across, first_line-apart, first_line-found, first_line-not_found}

-- CR is the last octet that was kept, and LF the first one of the piece
abbrev pub AreAcross : List ℕ → List ℕ → Type 0
AreAcross kept piece = (slice_get kept (length kept - 1) ≡ Some 13) × (slice_get piece 0 ≡ Some 10)

pub some_first : (kept piece : List ℕ) → AreAcross kept piece → (0 < 1) × (1 ≤ length piece)
some_first kept [] across = let none = across.1 in cc
some_first kept (x ∷ piece) across = (omega arith, omega arith)

pub line_across : (kept piece : List ℕ) → first_line kept ≡ None → AreAcross kept piece
    → first_line (kept ++ piece) ≡ Some (record { line = kept ++ take 1 piece; rest = drop 1 piece })
line_across kept piece none across = first_line-across kept piece none (joins_true kept piece across.0 across.1)

apart_by : (kept piece : List ℕ) → (AreAcross kept piece → ⊥) → (b : Bool) → joins kept piece ≡ b → joins kept piece ≡ false
apart_by kept piece apart true is = absurd (apart (joins_parts kept piece is))
apart_by kept piece apart false is = is

-- the test tells that no CRLF stands across
not_across : (kept piece : List ℕ) (b : Bool) → (IsTrue b ↔ AreAcross kept piece) → b ≡ false → joins kept piece ≡ false
not_across kept piece b means is = apart_by kept piece (λ across. let yes_it_is : IsTrue b = means.1 across in cc) (joins kept piece) refl

pub line_found : (kept piece : List ℕ) (at : ℕ) (b : Bool) → first_line kept ≡ None → (IsTrue b ↔ AreAcross kept piece) → b ≡ false → FindsNeedle piece crlf 0 (Some at)
    → first_line (kept ++ piece) ≡ Some (record { line = kept ++ take (at + 2) piece; rest = drop (at + 2) piece })
line_found kept piece at b none means is found =
    first_line-apart kept piece none (not_across kept piece b means is) ∙ ap (option_map (put kept)) (first_line-found piece at found)

pub line_none : (kept piece : List ℕ) (b : Bool) → first_line kept ≡ None → (IsTrue b ↔ AreAcross kept piece) → b ≡ false → FindsNeedle piece crlf 0 None
    → first_line (kept ++ piece) ≡ None
line_none kept piece b none means is found =
    first_line-apart kept piece none (not_across kept piece b means is) ∙ ap (option_map (put kept)) (first_line-not_found piece found)

first_line-short : (piece : List ℕ) → length piece < 2 → first_line piece ≡ None
unfolding first_line
first_line-short [] short = refl
first_line-short (x ∷ []) short = refl
first_line-short (x ∷ y ∷ piece) short = absurd (omega (arith, short))

pub line_short : (kept piece : List ℕ) (b : Bool) → first_line kept ≡ None → (IsTrue b ↔ AreAcross kept piece) → b ≡ false → length piece < 2
    → first_line (kept ++ piece) ≡ None
line_short kept piece b none means is short =
    first_line-apart kept piece none (not_across kept piece b means is) ∙ ap (option_map (put kept)) (first_line-short piece short)
