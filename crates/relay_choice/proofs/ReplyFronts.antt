-- The front of a line of a reply, which another octet goes on with or ends.
use Rattle.std.proofs.Common.{◌≡◌, ℕ, ◌+◌, ◌<◌, ◌≤◌, ◌⊎◌, inl, inr, List, [], ◌∷◌, ◌++◌, length, get_or, Bool, true, false, arith, refl, sym, ap, subst, ◌∙◌, Some, None, Option}
use Rattle.std.specs.Option.{option_map}
use Rattle.std.proofs.lemmas.List.{append_assoc, append-nil, length-append, same_from_push, get_or_at}
use Rattle.std.proofs.lemmas.Bool.Decides.{nat_tests}
use Rattle.mail_wire.specs.Lines.{first_line, crlf, is_crlf, Cut, begun_with}
use Rattle.mail_wire.proofs.FirstLine.{is_crlf_true, is_crlf_false}
use Rattle.mail_wire.proofs.FirstLineLemmas.{first_line-cut, first_line-other, first_line-apart, joins}
use Rattle.mail_wire.proofs.LineLemmas.{is_crlf_parts}
use Rattle.relay_choice.specs.declared.replies.TheConstants.{REPLY_LINE_MAX}
use Rattle.relay_choice.specs.Replies.{is_code, IsReplyLine}
use Rattle.relay_choice.specs.private.Places.{sign_fits, first_code_fits, text_fits, EndsReplyLine}
use Rattle.relay_choice.proofs.ReplyLines.{code_length, HasSign, IsWithin, splits, same_fronts}

-- CR is the last of these octets
abbrev pub ends_by_cr : List ℕ → Bool
ends_by_cr xs = joins xs (10 ∷ [])

pub by_cr : (xs : List ℕ) → ends_by_cr (xs ++ 13 ∷ []) ≡ true
by_cr [] = refl
by_cr (x ∷ []) = refl
by_cr (x ∷ y ∷ xs) = by_cr (y ∷ xs)

pub cr_last : (xs : List ℕ) → ends_by_cr xs ≡ true → (front : List ℕ) × (xs ≡ front ++ 13 ∷ [])
cr_last [] is = cc
cr_last (x ∷ []) is = let parts = is_crlf_parts x 10 is in ([], ap (λ z. z ∷ []) parts.0)
cr_last (x ∷ y ∷ xs) is = let more = cr_last (y ∷ xs) is in (x ∷ more.0, ap (λ l. x ∷ l) more.1)

pub joins_after : (xs : List ℕ) (y : ℕ) (ys zs : List ℕ) → joins (xs ++ y ∷ ys) zs ≡ joins (y ∷ ys) zs
joins_after [] y ys zs = refl
joins_after (x ∷ []) y ys zs = refl
joins_after (x ∷ z ∷ xs) y ys zs = joins_after (z ∷ xs) y ys zs

-- an octet after these makes no CRLF with them
pub octet_apart : (xs : List ℕ) (x : ℕ) → (x ≡ 10 → ends_by_cr xs ≡ false) → joins xs (x ∷ []) ≡ false
octet_apart [] x differs = refl
octet_apart (y ∷ []) x differs = is_crlf_false y x (λ cr lf. let no_cr : is_crlf y 10 ≡ false = differs lf in let both = is_crlf_true y 10 cr refl in cc)
octet_apart (y ∷ z ∷ xs) x differs = octet_apart (z ∷ xs) x differs

pub unended_more : (xs : List ℕ) (x : ℕ) → first_line xs ≡ None → joins xs (x ∷ []) ≡ false → first_line (xs ++ x ∷ []) ≡ None
unfolding first_line
unended_more xs x none apart = first_line-apart xs (x ∷ []) none apart

-- a front of octets that have no whole line has none
pub unended_front : (xs ys : List ℕ) → first_line (xs ++ ys) ≡ None → first_line xs ≡ None
unended_front xs ys none = by (first_line xs) refl
  where
    by : (found : Option Cut) → first_line xs ≡ found → first_line xs ≡ None
    by None is = is
    by (Some cut) is = let some = sym ((first_line-cut xs cut is).longer ys) ∙ none in cc

pub code_unended : (code : List ℕ) → is_code code ≡ true → first_line code ≡ None
unfolding first_line
code_unended [] is = cc
code_unended (x ∷ []) is = cc
code_unended (x ∷ y ∷ []) is = cc
code_unended (x ∷ y ∷ z ∷ []) is =
    let high : 50 ≤ x = grind (arith, nat_tests) in
    let digit : 48 ≤ y = grind (arith, nat_tests) in
    first_line-other x y (z ∷ []) (is_crlf_false x y (λ cr lf. omega (arith, high, cr)))
    ∙ ap (option_map (begun_with x)) (first_line-other y z [] (is_crlf_false y z (λ cr lf. omega (arith, digit, cr))))
code_unended (x ∷ y ∷ z ∷ w ∷ more) is = cc

pub code_apart : (code ys : List ℕ) → is_code code ≡ true → joins code ys ≡ false
code_apart [] ys is = cc
code_apart (x ∷ []) ys is = cc
code_apart (x ∷ y ∷ []) ys is = cc
code_apart (x ∷ y ∷ z ∷ []) [] is = refl
code_apart (x ∷ y ∷ z ∷ []) (w ∷ ys) is = let digit : 48 ≤ z = grind (arith, nat_tests) in is_crlf_false z w (λ cr lf. omega (arith, digit, cr))
code_apart (x ∷ y ∷ z ∷ w ∷ more) ys is = cc

-- after the code: a sign, and a text that may go on
pub record IsTextFront (code : List ℕ) (n : ℕ) (front : List ℕ) : Type 0 where
  pub sign : ℕ
  pub text : List ℕ
  pub spelled : front ≡ code ++ sign ∷ text
  pub fits : sign_fits n sign ≡ true
  pub bare : sign ≡ 13 → text ≡ []
  pub unended : first_line front ≡ None
  pub short : (length front + 1 < REPLY_LINE_MAX) ⊎ ((length front < REPLY_LINE_MAX) × (ends_by_cr front ≡ true))

-- the front of the code, or all of it and more
abbrev pub IsLineFront : (code : List ℕ) (n : ℕ) (front : List ℕ) → Type 0
IsLineFront code n front = ((left : List ℕ) × (code ≡ front ++ left)) ⊎ IsTextFront code n front

alone : (text later : List ℕ) (x y : ℕ) → text ++ x ∷ later ≡ y ∷ [] → (text ≡ []) × (x ≡ y)
alone [] later x y same = (refl, cc)
alone (z ∷ []) later x y same = cc
alone (z ∷ w ∷ text) later x y same = cc

-- how much room a front leaves for CRLF
room : (front later text : List ℕ) (x : ℕ) (line : List ℕ) → length line ≤ REPLY_LINE_MAX → line ≡ text ++ crlf → line ≡ front ++ x ∷ later
    → ((later ≡ []) × (x ≡ 10) × (front ≡ text ++ 13 ∷ []) × (length front < REPLY_LINE_MAX))
    ⊎ (((x ≡ 13) × (length front + 1 < REPLY_LINE_MAX)) ⊎ (length front + 2 < REPLY_LINE_MAX))
room front [] text x line short ended is =
    let split = same_from_push front (text ++ 13 ∷ []) x 10 (sym is ∙ ended ∙ sym (append_assoc text (13 ∷ []) (10 ∷ []))) in
    let count = ap (λ (l : List ℕ). length l) is ∙ length-append front (x ∷ []) in
    inl (refl, split.1, split.0, omega (arith, short, count))
room front (y ∷ []) text x line short ended is =
    let whole = append_assoc front (x ∷ []) (y ∷ []) ∙ sym is ∙ ended ∙ sym (append_assoc text (13 ∷ []) (10 ∷ [])) in
    let split = same_from_push (front ++ x ∷ []) (text ++ 13 ∷ []) y 10 whole in
    let cr = (same_from_push front text x 13 split.0).1 in
    let count = ap (λ (l : List ℕ). length l) is ∙ length-append front (x ∷ y ∷ []) in
    inr (inl (cr, omega (arith, short, count)))
room front (y ∷ z ∷ later) text x line short ended is =
    let count = ap (λ (l : List ℕ). length l) is ∙ length-append front (x ∷ y ∷ z ∷ later) in
    inr (inr (omega (arith, short, count)))

-- a front of a line that is within it
pub line_front : (own : List ℕ) (n : ℕ) (front line later : List ℕ) (x : ℕ) → IsReplyLine line → HasSign n own line → first_line front ≡ None → line ≡ front ++ x ∷ later → IsLineFront own n front
line_front own n front line later x is signed unended reaches = elim (splits own (signed.sign ∷ signed.following) front (x ∷ later) (sym signed.spelled ∙ reaches)) [
  | inl p ↦ by p.0 p.1 p.2
  | inr p ↦ inl (p.0, p.1)
]
  where
    left_room : (length front + 1 < REPLY_LINE_MAX) ⊎ ((length front < REPLY_LINE_MAX) × (ends_by_cr front ≡ true))
    left_room = elim (room front later signed.text x line is.short signed.ended reaches) [
      | inl r ↦ inr (r.3, rw r.2 (by_cr signed.text))
      | inr (inl r) ↦ inl r.1
      | inr (inr r) ↦ inl (omega (arith, r))
    ]

    by : (e : List ℕ) → front ≡ own ++ e → signed.sign ∷ signed.following ≡ e ++ x ∷ later → IsLineFront own n front
    by [] is_front left = inl ([], sym (rw (append-nil own) at is_front) ∙ sym (append-nil front))
    by (s ∷ text) is_front left =
        let head : signed.sign ≡ s = cc in
        let tail : signed.following ≡ text ++ x ∷ later = cc in
        inr (record {
          sign = s;
          text = text;
          spelled = is_front;
          fits = subst (λ z. sign_fits n z ≡ true) head signed.fits;
          bare = λ h. (alone text later x 10 (sym tail ∙ signed.bare (head ∙ h))).0;
          unended = unended;
          short = left_room;
        })

-- the octet after a front, by what is there already

code_octet : (front left : List ℕ) (x : ℕ) → is_code (front ++ x ∷ left) ≡ true → first_code_fits (length front) x ≡ true
code_octet [] [] x is = cc
code_octet [] (y ∷ []) x is = cc
code_octet [] (y ∷ z ∷ []) x is = grind (arith, nat_tests)
code_octet [] (y ∷ z ∷ w ∷ left) x is = cc
code_octet (a ∷ []) [] x is = cc
code_octet (a ∷ []) (z ∷ []) x is = grind (arith, nat_tests)
code_octet (a ∷ []) (z ∷ w ∷ left) x is = cc
code_octet (a ∷ b ∷ []) [] x is = grind (arith, nat_tests)
code_octet (a ∷ b ∷ []) (w ∷ left) x is = cc
code_octet (a ∷ b ∷ c ∷ []) left x is = cc
code_octet (a ∷ b ∷ c ∷ d ∷ front) left x is = cc

-- another octet at a place of a code
pub code_with : (front left : List ℕ) (x y : ℕ) → is_code (front ++ y ∷ left) ≡ true → first_code_fits (length front) x ≡ true → is_code (front ++ x ∷ left) ≡ true
code_with [] [] x y is fits = cc
code_with [] (a ∷ []) x y is fits = cc
code_with [] (a ∷ b ∷ []) x y is fits = grind (arith, nat_tests)
code_with [] (a ∷ b ∷ c ∷ left) x y is fits = cc
code_with (a ∷ []) [] x y is fits = cc
code_with (a ∷ []) (b ∷ []) x y is fits = grind (arith, nat_tests)
code_with (a ∷ []) (b ∷ c ∷ left) x y is fits = cc
code_with (a ∷ b ∷ []) [] x y is fits = grind (arith, nat_tests)
code_with (a ∷ b ∷ []) (c ∷ left) x y is fits = cc
code_with (a ∷ b ∷ c ∷ []) left x y is fits = cc
code_with (a ∷ b ∷ c ∷ d ∷ front) left x y is fits = cc

-- within the code
pub within_code : (code : List ℕ) (n : ℕ) (front : List ℕ) (x : ℕ) → length front < 3 → (at : IsWithin code n front x) → (left : List ℕ) × (at.own ≡ front ++ x ∷ left)
within_code code n front x small at = elim (splits front (x ∷ at.later) at.own (at.signed.sign ∷ at.signed.following) (sym at.reaches ∙ at.signed.spelled)) [
  | inl p ↦ by p.0 p.1 p.2
  | inr p ↦
      let three = code_length at.own at.is_code_of in
      let count = ap (λ (l : List ℕ). length l) p.1 ∙ length-append at.own p.0 in
      absurd (omega (arith, small, three, count))
]
  where
    by : (e : List ℕ) → at.own ≡ front ++ e → x ∷ at.later ≡ e ++ at.signed.sign ∷ at.signed.following → (left : List ℕ) × (at.own ≡ front ++ x ∷ left)
    by [] is left =
        let three = code_length at.own at.is_code_of in
        let count = ap (λ (l : List ℕ). length l) (is ∙ append-nil front) in
        absurd (omega (arith, small, three, count))
    by (y ∷ e) is left = let head : x ≡ y = cc in (e, rw head is)

pub first_code_by : (code front : List ℕ) (n x : ℕ) → length front < 3 → IsWithin code n front x → first_code_fits (length front) x ≡ true
first_code_by code front n x small at =
    let found = within_code code n front x small at in
    code_octet front found.0 x (rw found.1 at at.is_code_of)

pub same_code_by : (code front : List ℕ) (n x : ℕ) → length front < 3 → 0 < n → IsWithin code n front x → get_or code (length front) 0 ≡ x
same_code_by code front n x small some at =
    let found = within_code code n front x small at in
    ap (λ (l : List ℕ). get_or l (length front) 0) (sym (at.same some) ∙ found.1) ∙ get_or_at front x found.0 0 (length front) refl

-- after the code
pub sign_by : (code front : List ℕ) (n x : ℕ) → length front ≡ 3 → IsWithin code n front x → sign_fits n x ≡ true
sign_by code front n x three at =
    let both = same_fronts at.own (at.signed.sign ∷ at.signed.following) front (x ∷ at.later) 3 (code_length at.own at.is_code_of) three (sym at.signed.spelled ∙ at.reaches) in
    let head : at.signed.sign ≡ x = cc in
    subst (λ z. sign_fits n z ≡ true) head at.signed.fits

ends_line : (front text : List ℕ) (x : ℕ) → 4 ≤ length front → x ≡ 10 → front ≡ text ++ 13 ∷ [] → EndsReplyLine front x
ends_line front text x long lf cr =
    let count = ap (λ (l : List ℕ). length l) cr ∙ length-append text (13 ∷ []) in
    record { ends = lf; front = text; line_is = cr; after_code = omega (arith, long, count) }

-- within the text
pub text_by : (code front : List ℕ) (n x : ℕ) → 4 ≤ length front → (EndsReplyLine front x → ⊥) → IsWithin code n front x → text_fits front x ≡ true
text_by code front n x long goes at = elim (splits at.own (at.signed.sign ∷ at.signed.following) front (x ∷ at.later) (sym at.signed.spelled ∙ at.reaches)) [
  | inl p ↦ by p.0 p.1 p.2
  | inr p ↦
      let three = code_length at.own at.is_code_of in
      let count = ap (λ (l : List ℕ). length l) p.1 ∙ length-append front p.0 in
      absurd (omega (arith, long, three, count))
]
  where
    left_room : ((x ≡ 13) × (length front + 1 < REPLY_LINE_MAX)) ⊎ (length front + 2 < REPLY_LINE_MAX)
    left_room = elim (room front at.later at.signed.text x at.line at.is_line.short at.signed.ended at.reaches) [
      | inl r ↦ absurd (goes (ends_line front at.signed.text x long r.1 r.2))
      | inr r ↦ r
    ]

    fits : (sign : ℕ) → get_or front 3 0 ≡ sign → (sign ≡ 13 → ⊥) → ((x ≡ 13) × (length front + 1 < REPLY_LINE_MAX)) ⊎ (length front + 2 < REPLY_LINE_MAX) → text_fits front x ≡ true
    fits sign is differs (inl r) =
        let other : get_or front 3 0 ≡ 13 → ⊥ = λ h. differs (sym is ∙ h) in
        let cr = r.0 in
        let few = r.1 in
        grind (arith, nat_tests)
    fits sign is differs (inr r) = let other : get_or front 3 0 ≡ 13 → ⊥ = λ h. differs (sym is ∙ h) in grind (arith, nat_tests)

    by : (e : List ℕ) → front ≡ at.own ++ e → at.signed.sign ∷ at.signed.following ≡ e ++ x ∷ at.later → text_fits front x ≡ true
    by [] is left =
        let three = code_length at.own at.is_code_of in
        let count = ap (λ (l : List ℕ). length l) (is ∙ append-nil at.own) in
        absurd (omega (arith, long, three, count))
    by (s ∷ text) is left =
        let head : at.signed.sign ≡ s = cc in
        let tail : at.signed.following ≡ text ++ x ∷ at.later = cc in
        let third : get_or front 3 0 ≡ s = rw is (get_or_at at.own s text 0 3 (code_length at.own at.is_code_of)) in
        fits s third (λ h.
        let both = alone text at.later x 10 (sym tail ∙ at.signed.bare (head ∙ h)) in
        goes (ends_line front at.own x long both.1 (is ∙ (rw (h, both.0) refl)))) left_room
