-- Lines that are joined and divided again, and how they are sound.
use Rattle.std.proofs.Common.{◌≡◌, ℕ, suc, zero, ◌+◌, ◌<◌, ◌⊎◌, inl, inr, List, [], ◌∷◌, ◌++◌, length, Some, refl, sym, ap, ◌∙◌, arith, subst, append_assoc, append-nil, length-append}
use Rattle.std.specs.Prelude.{slice_range}
use Rattle.std.specs.List.{AllByRecursion, concat}
use Rattle.mail_wire.specs.Lines.{lines_of, put_before}
use Rattle.mail_wire.specs.Message.{StandsAt as StandsAt, IsSound}
use Rattle.mail_wire.proofs.FirstLine.{lines_of-crlf, lines_of-other}
use Rattle.mail_wire.proofs.LineLemmas.{is_crlf_parts}
use Rattle.utf8_fields.proofs.LineShapes.{AreLines, EndsOnce, NeverEnds}
use Rattle.utf8_fields.proofs.Raws.{slice_range-following}
use Rattle.mime_tree.proofs.Standing.{Stands, AreEnded}

-- a line with its CRLF is the first one, whatever follows
pub lines_of-ended : (line rest : List ℕ) → EndsOnce line → lines_of (line ++ rest) ≡ line ∷ lines_of rest
lines_of-ended [] rest once = absurd once
lines_of-ended (x ∷ []) rest once = absurd once
lines_of-ended (x ∷ y ∷ []) rest once = let both = is_crlf_parts x y once in lines_of-crlf x y rest once ∙ rw (both.0, both.1) refl
lines_of-ended (x ∷ y ∷ z ∷ more) rest once = lines_of-other x y (z ∷ more ++ rest) once.0 ∙ ap (put_before x) (lines_of-ended (y ∷ z ∷ more) rest once.1)

pub lines_of-never : (x : ℕ) (rest : List ℕ) → NeverEnds (x ∷ rest) → lines_of (x ∷ rest) ≡ (x ∷ rest) ∷ []
unfolding lines_of
lines_of-never x [] never = refl
lines_of-never x (y ∷ rest) never = lines_of-other x y rest never.0 ∙ ap (put_before x) (lines_of-never y rest never.1)

-- lines that are all ended are the first ones
pub lines_of-front : (lines : List (List ℕ)) (rest : List ℕ) → AreEnded lines → lines_of (concat lines ++ rest) ≡ lines ++ lines_of rest
lines_of-front [] rest ended = refl
lines_of-front (line ∷ lines) rest ended =
    ap lines_of (append_assoc line (concat lines) rest) ∙ lines_of-ended line (concat lines ++ rest) ended.0 ∙ ap (λ all. line ∷ all) (lines_of-front lines rest ended.1)

last_again : (line : List ℕ) → NeverEnds line → (line ∷ [] ≡ lines_of (concat (line ∷ []))) ⊎ (line ∷ [] ≡ lines_of (concat (line ∷ [])) ++ [] ∷ [])
unfolding lines_of
last_again [] never = inr refl
last_again (x ∷ rest) never = inl (sym (ap lines_of (append-nil (x ∷ rest)) ∙ lines_of-never x rest never))

-- Lines are those of what they are joined, or an empty one is the last.
pub lines_again : (lines : List (List ℕ)) → AreLines lines → (lines ≡ lines_of (concat lines)) ⊎ (lines ≡ lines_of (concat lines) ++ [] ∷ [])
unfolding lines_of
lines_again [] are = inl refl
lines_again (line ∷ lines) are = elim are.0 [
  | inl once ↦ let first = lines_of-ended line (concat lines) once in elim (lines_again lines are.1) [
    | inl same ↦ inl (ap (λ all. line ∷ all) same ∙ sym first)
    | inr same ↦ inr (ap (λ all. line ∷ all) same ∙ ap (λ all. all ++ [] ∷ []) (sym first))
  ]
  | inr never ↦ subst (λ more. (line ∷ more ≡ lines_of (concat (line ∷ more))) ⊎ (line ∷ more ≡ lines_of (concat (line ∷ more)) ++ [] ∷ [])) (sym never.1) (last_again line never.0)
]

-- lines that others follow are ended
pub AreEnded-front : (lines : List (List ℕ)) (line : List ℕ) (rest : List (List ℕ)) → AreLines (lines ++ line ∷ rest) → AreEnded lines
AreEnded-front [] line rest are = tt
AreEnded-front (first ∷ lines) line rest are = (elim are.0 [ inl once ↦ once | inr never ↦ absurd (some lines never.1) ], AreEnded-front lines line rest are.1)
  where
    some : (lines : List (List ℕ)) → lines ++ line ∷ rest ≡ [] → ⊥
    some [] e = cc e
    some (x ∷ lines) e = cc e

pub AreLines-ended : (lines more : List (List ℕ)) → AreEnded lines → AreLines more → AreLines (lines ++ more)
AreLines-ended [] more ended are = are
AreLines-ended (line ∷ lines) more ended are = (inl ended.0, AreLines-ended lines more ended.1 are)

-- texts that stand
pub Stands-front : (octets : List ℕ) (at : ℕ) (first second : List ℕ) → Stands octets at (first ++ second) → Stands octets at first
Stands-front octets at first second is =
    record { before = is.before; after = second ++ is.after; whole = is.whole ∙ ap (λ text. is.before ++ text) (append_assoc first second is.after); place = is.place }

pub Stands-back : (octets : List ℕ) (at : ℕ) (first second : List ℕ) → Stands octets at (first ++ second) → Stands octets (at + length first) second
Stands-back octets at first second is =
    let place = is.place in
    record {
      before = is.before ++ first;
      after = is.after;
      whole = is.whole ∙ ap (λ text. is.before ++ text) (append_assoc first second is.after) ∙ sym (append_assoc is.before first (second ++ is.after));
      place = omega (arith, length-append is.before first);
    }

pub Stands-whole : (octets : List ℕ) → Stands octets 0 octets
Stands-whole octets = record { before = []; after = []; whole = sym (append-nil octets); place = refl }

pub Stands-slice : (octets : List ℕ) (at : ℕ) (text : List ℕ) → Stands octets at text → slice_range octets at (at + length text) ≡ text
Stands-slice octets at text is = slice_range-following octets is.before text is.after at (length text) is.whole is.place refl

-- octets at a place of joined texts
move : (a : List ℕ) (at to x : ℕ) → at ≡ to → StandsAt a at x → StandsAt a to x
move a at to x same is = rw (← same) is

at_front : (a b : List ℕ) (at x : ℕ) → StandsAt a at x → StandsAt (a ++ b) at x
at_front [] b at x is = cc is
at_front (y ∷ a) b zero x is = is
at_front (y ∷ a) b (suc at) x is = at_front a b at x is

at_back : (a b : List ℕ) (at x : ℕ) → StandsAt b at x → StandsAt (a ++ b) (length a + at) x
at_back [] b at x is = move b at (0 + at) x (omega arith) is
at_back (y ∷ a) b at x is = move (y ∷ a ++ b) (suc (length a + at)) (length (y ∷ a) + at) x (omega arith) (at_back a b at x is)

at_either : (a b : List ℕ) (at x : ℕ) → StandsAt (a ++ b) at x → StandsAt a at x ⊎ ((k : ℕ) × (at ≡ length a + k) × StandsAt b k x)
at_either [] b at x is = inr (at, omega arith, is)
at_either (y ∷ a) b zero x is = inl is
at_either (y ∷ a) b (suc at) x is = elim (at_either a b at x is) [ inl front ↦ inl front | inr back ↦ let place = back.1 in inr (back.0, omega arith, back.2) ]

at_below : (a : List ℕ) (at x : ℕ) → StandsAt a at x → at < length a
at_below [] at x is = cc is
at_below (y ∷ a) zero x is = omega arith
at_below (y ∷ a) (suc at) x is = let later = at_below a at x is in omega arith

pub sound_append : (a b : List ℕ) → IsSound a → IsSound b → IsSound (a ++ b)
sound_append a b sound_a sound_b at (inl nul) = elim (at_either a b at 0 nul) [ inl front ↦ sound_a at (inl front) | inr back ↦ sound_b back.0 (inl back.2) ]
sound_append a b sound_a sound_b at (inr (inl cr)) = elim (at_either a b at 13 cr.0) [
  | inl front ↦ sound_a at (inr (inl (front, λ lf. cr.1 (at_front a b (at + 1) 10 lf))))
  | inr back ↦ let place = back.1 in sound_b back.0 (inr (inl (back.2, λ lf. cr.1 (move (a ++ b) (length a + (back.0 + 1)) (at + 1) 10 (omega arith) (at_back a b (back.0 + 1) 10 lf)))))
]
sound_append a b sound_a sound_b at (inr (inr lf)) = elim (at_either a b at 10 lf.0) [
  | inl front ↦ sound_a at (inr (inr (front, λ before next cr. lf.1 before next (at_front a b before 13 cr))))
  | inr back ↦ let place = back.1 in sound_b back.0 (inr (inr (back.2, λ before next cr. lf.1 (length a + before) (omega arith) (at_back a b before 13 cr))))
]

-- the last octet of a line is an LF
last_lf : (line : List ℕ) (at : ℕ) → EndsOnce line → at + 1 ≡ length line → StandsAt line at 10
last_lf [] at once e = absurd once
last_lf (x ∷ []) at once e = absurd once
last_lf (x ∷ y ∷ []) at once e = let one : 1 ≡ at = omega arith in let both = is_crlf_parts x y once in move (x ∷ y ∷ []) 1 at 10 one (ap Some both.1)
last_lf (x ∷ y ∷ z ∷ more) zero once e = absurd (omega arith)
last_lf (x ∷ y ∷ z ∷ more) (suc at) once e = last_lf (y ∷ z ∷ more) at once.1 (omega arith)

no_cr_last : (line : List ℕ) (at : ℕ) → EndsOnce line → at + 1 ≡ length line → StandsAt line at 13 → ⊥
no_cr_last line at once e cr = let clash : Some 13 ≡ Some 10 = sym cr ∙ last_lf line at once e in cc clash

pub sound_front : (line rest : List ℕ) → EndsOnce line → IsSound (line ++ rest) → IsSound line
sound_front line rest once sound at (inl nul) = sound at (inl (at_front line rest at 0 nul))
sound_front line rest once sound at (inr (inl cr)) = sound at (inr (inl (
  at_front line rest at 13 cr.0,
  λ lf. elim (at_either line rest (at + 1) 10 lf) [
    | inl front ↦ cr.1 front
    | inr back ↦ let place = back.1 in let below = at_below line at 13 cr.0 in no_cr_last line at once (omega arith) cr.0
  ],
)))
sound_front line rest once sound at (inr (inr lf)) = sound at (inr (inr (
  at_front line rest at 10 lf.0,
  λ before next cr. elim (at_either line rest before 13 cr) [
    | inl front ↦ lf.1 before next front
    | inr back ↦ let place = back.1 in let below = at_below line at 10 lf.0 in absurd (omega arith)
  ],
)))

pub sound_back : (line rest : List ℕ) → EndsOnce line → IsSound (line ++ rest) → IsSound rest
sound_back line rest once sound at (inl nul) = sound (length line + at) (inl (at_back line rest at 0 nul))
sound_back line rest once sound at (inr (inl cr)) = sound (length line + at) (inr (inl (
  at_back line rest at 13 cr.0,
  λ lf. elim (at_either line rest (length line + at + 1) 10 lf) [
    | inl front ↦ let below = at_below line (length line + at + 1) 10 front in absurd (omega arith)
    | inr back ↦ let place = back.1 in cr.1 (move rest back.0 (at + 1) 10 (omega arith) back.2)
  ],
)))
sound_back line rest once sound at (inr (inr lf)) = sound (length line + at) (inr (inr (
  at_back line rest at 10 lf.0,
  λ before next cr. elim (at_either line rest before 13 cr) [
    | inl front ↦ let below = at_below line before 13 front in no_cr_last line before once (omega arith) front
    | inr back ↦ let place = back.1 in lf.1 back.0 (omega arith) back.2
  ],
)))

sound_nil : IsSound []
sound_nil at (inl nul) = cc nul
sound_nil at (inr (inl cr)) = cc cr.0
sound_nil at (inr (inr lf)) = cc lf.0

-- sound lines join to sound octets
pub sound_concat : (lines : List (List ℕ)) → AllByRecursion IsSound lines → IsSound (concat lines)
sound_concat [] all = sound_nil
sound_concat (line ∷ lines) all = sound_append line (concat lines) all.0 (sound_concat lines all.1)

-- and sound octets have sound lines
pub sound_each : (lines : List (List ℕ)) → AreLines lines → IsSound (concat lines) → AllByRecursion IsSound lines
sound_each [] are sound = tt
sound_each (line ∷ lines) are sound = elim are.0 [
  | inl once ↦ (sound_front line (concat lines) once sound, sound_each lines are.1 (sound_back line (concat lines) once sound))
  | inr never ↦ last never.1
]
  where
    last : lines ≡ [] → AllByRecursion IsSound (line ∷ lines)
    last none =
        let same : line ++ concat lines ≡ line = ap (λ more. line ++ concat more) none ∙ append-nil line in
        (subst IsSound same sound, subst (AllByRecursion IsSound) (sym none) tt)
