-- Lines as they stand: each has its CRLF at its end alone, and the last one may lack it.
use Rattle.std.proofs.Common.{◌≡◌, ℕ, zero, suc, ◌+◌, Bool, true, false, ◌⊎◌, inl, inr, List, [], ◌∷◌, ◌++◌, Some, refl, ap, ◌∙◌, arith, not}
use Rattle.std.specs.List.{list_all}
use Rattle.std.proofs.lemmas.Bool.Decides.{nat_tests}
use Rattle.mail_wire.specs.Octets.{is_line_end}
use Rattle.mail_wire.specs.Lines.{lines_of, put_before, is_crlf, crlf}
use Rattle.mail_wire.specs.Message.{IsFaulty, IsSound, StandsAt}
use Rattle.mail_wire.proofs.FirstLine.{lines_of-crlf, lines_of-other, is_crlf_true}
use Rattle.mail_wire.proofs.LineLemmas.{is_crlf_parts}
use Rattle.utf8_fields.proofs.Heads.{first_line_begins}

-- a line with one CRLF, at its end
abbrev pub EndsOnce : List ℕ → Type 0
EndsOnce [] = ⊥
EndsOnce (x ∷ []) = ⊥
EndsOnce (x ∷ y ∷ []) = is_crlf x y ≡ true
EndsOnce (x ∷ y ∷ z ∷ rest) = (is_crlf x y ≡ false) × EndsOnce (y ∷ z ∷ rest)

-- a line without CRLF
abbrev pub NeverEnds : List ℕ → Type 0
NeverEnds [] = Unit {0}
NeverEnds (x ∷ []) = Unit {0}
NeverEnds (x ∷ y ∷ rest) = (is_crlf x y ≡ false) × NeverEnds (y ∷ rest)

-- each line but the last has its CRLF
abbrev pub AreLines : List (List ℕ) → Type 0
AreLines [] = Unit {0}
AreLines (line ∷ lines) = (EndsOnce line ⊎ (NeverEnds line × (lines ≡ []))) × AreLines lines

nil_front : (xs ys : List (List ℕ)) → xs ++ ys ≡ [] → xs ≡ []
nil_front [] ys e = refl
nil_front (x ∷ xs) ys e = cc e

pub AreLines-front : (xs ys : List (List ℕ)) → AreLines (xs ++ ys) → AreLines xs
AreLines-front [] ys are = tt
AreLines-front (line ∷ xs) ys are = (elim are.0 [ inl once ↦ inl once | inr never ↦ inr (never.0, nil_front xs ys never.1) ], AreLines-front xs ys are.1)

pub AreLines-back : (xs ys : List (List ℕ)) → AreLines (xs ++ ys) → AreLines ys
AreLines-back [] ys are = are
AreLines-back (line ∷ xs) ys are = AreLines-back xs ys are.1

pub before_once : (x y : ℕ) (more : List ℕ) → is_crlf x y ≡ false → EndsOnce (y ∷ more) → EndsOnce (x ∷ y ∷ more)
before_once x y [] other once = absurd once
before_once x y (z ∷ more) other once = (other, once)

put_on : (x y : ℕ) (more : List ℕ) (lines : List (List ℕ)) → is_crlf x y ≡ false → AreLines ((y ∷ more) ∷ lines) → AreLines ((x ∷ y ∷ more) ∷ lines)
put_on x y more lines other are = (elim are.0 [ inl once ↦ inl (before_once x y more other once) | inr never ↦ inr ((other, never.0), never.1) ], are.1)

lines_by : (x y : ℕ) (rest : List ℕ) → AreLines (lines_of (y ∷ rest)) → AreLines (lines_of rest) → (b : Bool) → is_crlf x y ≡ b → AreLines (lines_of (x ∷ y ∷ rest))
lines_by x y rest next after true h = rw (lines_of-crlf x y rest h) (inl refl, after)
lines_by x y rest next after false h =
    let first = first_line_begins y rest in
    let all : lines_of (x ∷ y ∷ rest) ≡ (x ∷ y ∷ first.0) ∷ first.1 = lines_of-other x y rest h ∙ ap (put_before x) first.2 in
    rw all (put_on x y first.0 first.1 h (rw first.2 at next))

-- the lines of octets
pub AreLines-lines_of : (s : List ℕ) → AreLines (lines_of s)
unfolding lines_of
AreLines-lines_of [] = tt
AreLines-lines_of (x ∷ []) = (inr (tt, refl), tt)
AreLines-lines_of (x ∷ y ∷ rest) = lines_by x y rest (AreLines-lines_of (y ∷ rest)) (AreLines-lines_of rest) (is_crlf x y) refl

-- the first octet of a sound line is CR before LF, or no line end
no_ends : (x : ℕ) → (x ≡ 13 → ⊥) → (x ≡ 10 → ⊥) → is_line_end x ≡ false
no_ends x no_cr no_lf = grind (arith, nat_tests)

no_lf_first : (x : ℕ) (rest : List ℕ) → IsSound (x ∷ rest) → x ≡ 10 → ⊥
no_lf_first x rest sound lf = sound 0 (inr (inr (ap Some lf, λ before next. absurd (omega arith))))

head_is_text : (x y : ℕ) (rest : List ℕ) → IsSound (x ∷ y ∷ rest) → is_crlf x y ≡ false → is_line_end x ≡ false
head_is_text x y rest sound other = no_ends x (λ cr. sound 0 (inr (inl (ap Some cr, no_lf cr)))) (no_lf_first x (y ∷ rest) sound)
  where
    no_lf : x ≡ 13 → Some y ≡ Some 10 → ⊥
    no_lf cr lf =
        let is : y ≡ 10 = cc in
        let both = is_crlf_true x y cr is in cc

last_is_text : (x : ℕ) → IsSound (x ∷ []) → is_line_end x ≡ false
last_is_text x sound = no_ends x (λ cr. sound 0 (inr (inl (ap Some cr, nothing)))) (no_lf_first x [] sound)
  where
    nothing : StandsAt (x ∷ []) 1 10 → ⊥
    nothing e = cc e

-- what follows such an octet is sound
pub IsSound-following : (x : ℕ) (xs : List ℕ) → is_line_end x ≡ false → IsSound (x ∷ xs) → IsSound xs
IsSound-following x xs text sound at faulty = sound (suc at) (up faulty)
  where
    first : (before : ℕ) → suc at ≡ before + 1 → ((earlier : ℕ) → at ≡ earlier + 1 → StandsAt xs earlier 13 → ⊥) → StandsAt (x ∷ xs) before 13 → ⊥
    first zero next apart cr =
        let is : x ≡ 13 = cc in
        let clash : true ≡ false = rw is at text in cc clash
    first (suc before) next apart cr = apart before (omega arith) cr

    up : IsFaulty xs at → IsFaulty (x ∷ xs) (suc at)
    up (inl nul) = inl nul
    up (inr (inl cr)) =
        let place : suc at + 1 ≡ suc (at + 1) = omega arith in
        inr (inl (cr.0, rw place cr.1))
    up (inr (inr lf)) = inr (inr (lf.0, λ before next. first before next lf.1))

-- an octet of a text that is neither CR nor LF
abbrev pub is_text : ℕ → Bool
is_text x = not (is_line_end x)

put_text : (x : ℕ) (text : List ℕ) → is_line_end x ≡ false → list_all is_text text ≡ true → list_all is_text (x ∷ text) ≡ true
put_text x text h all = rw (h, all) refl

-- A line of text, and CRLF after it, which the last line may lack.
pub record IsTextLine (line : List ℕ) (after : List (List ℕ)) : Type 0 where
  pub text : List ℕ
  pub ending : List ℕ
  pub whole : line ≡ text ++ ending
  pub plain : list_all is_text text ≡ true
  pub ends : (ending ≡ crlf) ⊎ ((ending ≡ []) × (after ≡ []))

IsTextLine-put : (x : ℕ) (line : List ℕ) (after : List (List ℕ)) → is_line_end x ≡ false → IsTextLine line after → IsTextLine (x ∷ line) after
IsTextLine-put x line after h is = record {
  text = x ∷ is.text;
  ending = is.ending;
  whole = ap (λ t. x ∷ t) is.whole;
  plain = put_text x is.text h is.plain;
  ends = is.ends;
}

once_text : (line : List ℕ) (after : List (List ℕ)) → IsSound line → EndsOnce line → IsTextLine line after
once_text [] after sound once = absurd once
once_text (x ∷ []) after sound once = absurd once
once_text (x ∷ y ∷ []) after sound once =
    let both = is_crlf_parts x y once in record { text = []; ending = crlf; whole = rw (both.0, both.1) refl; plain = refl; ends = inl refl }
once_text (x ∷ y ∷ z ∷ rest) after sound once =
    let text = head_is_text x y (z ∷ rest) sound once.0 in
    IsTextLine-put x (y ∷ z ∷ rest) after text (once_text (y ∷ z ∷ rest) after (IsSound-following x (y ∷ z ∷ rest) text sound) once.1)

never_text : (line : List ℕ) (after : List (List ℕ)) → IsSound line → NeverEnds line → after ≡ [] → IsTextLine line after
never_text [] after sound never last = record { text = []; ending = []; whole = refl; plain = refl; ends = inr (refl, last) }
never_text (x ∷ []) after sound never last =
    IsTextLine-put x [] after (last_is_text x sound) (record { text = []; ending = []; whole = refl; plain = refl; ends = inr (refl, last) })
never_text (x ∷ y ∷ rest) after sound never last =
    let text = head_is_text x y rest sound never.0 in
    IsTextLine-put x (y ∷ rest) after text (never_text (y ∷ rest) after (IsSound-following x (y ∷ rest) text sound) never.1 last)

-- a sound line
pub IsTextLine-sound : (line : List ℕ) (after : List (List ℕ)) → IsSound line → EndsOnce line ⊎ (NeverEnds line × (after ≡ [])) → IsTextLine line after
IsTextLine-sound line after sound (inl once) = once_text line after sound once
IsTextLine-sound line after sound (inr never) = never_text line after sound never.0 never.1
