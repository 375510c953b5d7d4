-- What `step_by` answers, case by case.
use Rattle.std.proofs.Common.{◌≡◌, ℕ, ◌+◌, ◌-◌, ◌<◌, ◌≤◌, ◌⊎◌, inl, inr, List, [], ◌∷◌, ◌++◌, length, take, drop, get_or, Bool, true, false, not, ◌&&◌, ◌||◌, ◌==◌, nat_lt, arith, refl, sym, ap, subst, ◌∙◌}
use Rattle.std.specs.Prelude.{slice_index, if◌then◌else◌}
use Rattle.std.proofs.lemmas.List.{append_assoc, append-nil, length-append, length_push, get_or_at, get_or_append_left, take_rest, drop_at}
use Rattle.std.proofs.lemmas.Bool.{cases_eq, eqb-true, eq-eqb, both_ways, and_parts, or_cases, ltb-true, lt-ltb, not-true}
use Rattle.relay_choice.specs.declared.replies.TheConstants.{REPLY_LINE_MAX}
use Rattle.relay_choice.specs.declared.steps.Place.{Place}
use Rattle.relay_choice.specs.declared.steps.Step.TheVariants as step
use Rattle.relay_choice.specs.Replies.{is_code, AreFurtherLines, AreReply}
use Rattle.relay_choice.specs.private.Places.{first_code_fits, code_fits, sign_fits, text_fits, EndsReplyLine, IsReplyFront, StepsTo}
use Rattle.relay_choice.proofs.ReplyLines.{code_length}
use Rattle.relay_choice.proofs.ReplyFronts.{IsTextFront, IsLineFront, ends_by_cr, by_cr, cr_last, first_code_by, same_code_by, sign_by, text_by}
use Rattle.relay_choice.proofs.ReplySteps.{IsShaped, shaped, front_of, within_of, are_own, code_grows, sign_stands, text_grows, line_ends, IsEndedLine, made, more_lines}

-- the line that a reply has come to
abbrev pub line_at : List ℕ → Place → List ℕ
line_at octets place = take (length octets - place.start) (drop place.start octets)

front_at : (octets : List ℕ) (place : Place) (further front : List ℕ) → octets ≡ further ++ front → place.start ≡ length further → line_at octets place ≡ front
front_at octets place further front whole start = take_rest octets place.start ∙ ap (λ (o : List ℕ). drop place.start o) whole ∙ drop_at further front place.start (sym start)

front_count : (octets : List ℕ) (place : Place) (further front : List ℕ) → octets ≡ further ++ front → place.start ≡ length further → length octets - place.start ≡ length front
front_count octets place further front whole start =
    let count = ap (λ (o : List ℕ). length o) whole ∙ length-append further front in
    omega (arith, count, start)

-- the code stands first, where there are lines
code_there : (code : List ℕ) (texts : List (List ℕ)) (further : List ℕ) → 0 < length texts → AreFurtherLines code texts further → (more : List ℕ) × (further ≡ code ++ more)
code_there code [] further some none = absurd (omega (arith, some))
code_there code (text ∷ texts) further some are =
    (_, are.2 ∙ ap (λ (l : List ℕ). l ++ are.1) are.3.spelled ∙ append_assoc code _ are.1)

code_read : (octets code further front : List ℕ) (texts : List (List ℕ)) (k : ℕ) → octets ≡ further ++ front → is_code code ≡ true → 0 < length texts → AreFurtherLines code texts further
    → k < 3 → slice_index octets k ≡ get_or code k 0
code_read octets code further front texts k whole is some are small =
    let there = code_there code texts further some are in
    let three = code_length code is in
    let below : k < length code = omega (arith, small, three) in
    ap (λ (o : List ℕ). get_or o k 0) (whole ∙ ap (λ (o : List ℕ). o ++ front) there.1 ∙ append_assoc code there.0 front)
    ∙ get_or_append_left code (there.0 ++ front) 0 k below

fits_first : (before : List ℕ) (place : Place) (k x : ℕ) → place.lines ≡ 0 → length before - place.start ≡ k → code_fits before place x ≡ first_code_fits k x
fits_first before place k x none at = rw (none, at) refl

fits_later : (before : List ℕ) (place : Place) (k x y : ℕ) → 0 < place.lines → length before - place.start ≡ k → slice_index before k ≡ y → code_fits before place x ≡ (y == x)
fits_later before place k x y some at reads = rw (lt-ltb 0 place.lines some, at) (ap (λ z. z == x) reads)

-- one octet more of the line
grown : (octets : List ℕ) (place : Place) (x : ℕ) (code : List ℕ) → (s : IsShaped octets place) → is_code code ≡ true → (0 < length s.texts → code ≡ s.code)
    → IsLineFront code (length s.texts) (s.front ++ x ∷ []) → IsReplyFront (octets ++ x ∷ []) place
grown octets place x code s is same in_line = front_of (octets ++ x ∷ []) place (record {
  code = code;
  is_code_of = is;
  texts = s.texts;
  few = s.few;
  further = s.further;
  front = s.front ++ x ∷ [];
  whole = ap (λ (o : List ℕ). o ++ x ∷ []) s.whole ∙ append_assoc s.further s.front (x ∷ []);
  are_further = are_own s.code code s.texts s.further same s.are_further;
  in_line = in_line;
  start_is = s.start_is;
  lines_are = s.lines_are;
})

pub step_code : (before : List ℕ) (place : Place) (x : ℕ) (b : Bool) → length (line_at before place) < 3 → b ≡ code_fits before place x → IsReplyFront before place
    → StepsTo before x (if b then step.Within place else step.NotReply)
step_code before place x true small fits f =
    let s = shaped before place f in
    let short : length s.front < 3 = subst (λ l. length l < 3) (front_at before place s.further s.front s.whole s.start_is) small in
    let at = front_count before place s.further s.front s.whole s.start_is in
    elim s.in_line [
      | inl p ↦
          let new = code_grows s.code (length s.texts) s.front p.0 x short s.is_code_of p.1
          (λ none. sym (fits_first before place (length s.front) x (s.lines_are ∙ none) at) ∙ sym fits)
          (λ some.
          let reads = code_read before s.code s.further s.front s.texts (length s.front) s.whole s.is_code_of some s.are_further short in
          eqb-true _ x (sym (fits_later before place (length s.front) x _ (subst (λ n. 0 < n) (sym s.lines_are) some) at reads) ∙ sym fits)) in
          grown before place x new.0 s new.1 new.2 new.3
      | inr t ↦
          let three = code_length s.code s.is_code_of in
          let count = ap (λ (l : List ℕ). length l) t.spelled ∙ length-append s.code (t.sign ∷ t.text) in
          absurd (omega (arith, short, three, count))
    ]
step_code before place x false small fits f = λ are.
    let at = within_of before place x f are in
    let short : length f.front < 3 = subst (λ l. length l < 3) (front_at before place f.further f.front f.whole f.start_is) small in
    let count = front_count before place f.further f.front f.whole f.start_is in
    elim (cases_eq (length f.texts) 0) [
      | inl none ↦
          let first = first_code_by f.code f.front (length f.texts) x short at in
          both_ways _ (sym (fits_first before place (length f.front) x (f.lines_are ∙ none) count) ∙ sym fits) first
      | inr some ↦
          let more : 0 < length f.texts = omega (arith, some) in
          let reads = code_read before f.code f.further f.front f.texts (length f.front) f.whole f.is_code_of more f.are_further short in
          let same = same_code_by f.code f.front (length f.texts) x short more at in
          both_ways _ (sym (fits_later before place (length f.front) x _ (subst (λ n. 0 < n) (sym f.lines_are) more) count reads) ∙ sym fits) (eq-eqb _ x same)
    ]

pub step_sign : (before : List ℕ) (place : Place) (x : ℕ) (b : Bool) → length (line_at before place) ≡ 3 → b ≡ sign_fits place.lines x → IsReplyFront before place
    → StepsTo before x (if b then step.Within place else step.NotReply)
step_sign before place x true three fits f =
    let s = shaped before place f in
    let long : length s.front ≡ 3 = subst (λ l. length l ≡ 3) (front_at before place s.further s.front s.whole s.start_is) three in
    grown before place x s.code s s.is_code_of (λ some. refl)
    (inr (sign_stands s.code (length s.texts) s.front x long s.is_code_of s.in_line (subst (λ n. sign_fits n x ≡ true) s.lines_are (sym fits))))
step_sign before place x false three fits f = λ are.
    let long : length f.front ≡ 3 = subst (λ l. length l ≡ 3) (front_at before place f.further f.front f.whole f.start_is) three in
    let stands = sign_by f.code f.front (length f.texts) x long (within_of before place x f are) in
    both_ways _ (sym fits) (subst (λ n. sign_fits n x ≡ true) (sym f.lines_are) stands)

-- the front of a line that is longer than a code
text_of : (code : List ℕ) (n : ℕ) (front : List ℕ) → is_code code ≡ true → 4 ≤ length front → IsLineFront code n front → IsTextFront code n front
text_of code n front is long (inl p) =
    let three = code_length code is in
    let count = ap (λ (l : List ℕ). length l) p.1 ∙ length-append front p.0 in
    absurd (omega (arith, long, three, count))
text_of code n front is long (inr t) = t

sign_read : (code : List ℕ) (n : ℕ) (front : List ℕ) → is_code code ≡ true → (t : IsTextFront code n front) → slice_index front 3 ≡ t.sign
sign_read code n front is t = ap (λ (l : List ℕ). get_or l 3 0) t.spelled ∙ get_or_at code t.sign t.text 0 3 (code_length code is)

text_room : (front : List ℕ) (x : ℕ) → text_fits front x ≡ true
    → (slice_index front 3 ≡ 13 → ⊥) × (((x ≡ 13) × (length front + 1 < REPLY_LINE_MAX)) ⊎ (length front + 2 < REPLY_LINE_MAX))
text_room front x fits =
    let parts = and_parts (not (slice_index front 3 == 13)) (nat_lt (length front) (REPLY_LINE_MAX - 2) || (length front == REPLY_LINE_MAX - 2 && x == 13)) fits in (
      λ h. both_ways _ (not-true (slice_index front 3 == 13) parts.0) (eq-eqb (slice_index front 3) 13 h),
      elim (or_cases (nat_lt (length front) (REPLY_LINE_MAX - 2)) (length front == REPLY_LINE_MAX - 2 && x == 13) parts.1) [
        | inl below ↦ inr (omega (arith, ltb-true (length front) 2046 below))
        | inr last ↦ let both = and_parts (length front == REPLY_LINE_MAX - 2) (x == 13) last in inl (eqb-true x 13 both.1, omega (arith, eqb-true (length front) 2046 both.0))
      ],
    )

no_cr : (front : List ℕ) (x : ℕ) → 4 ≤ length front → (EndsReplyLine front x → ⊥) → x ≡ 10 → (b : Bool) → ends_by_cr front ≡ b → ends_by_cr front ≡ false
no_cr front x long goes lf true is =
    let last = cr_last front is in
    let count = ap (λ (l : List ℕ). length l) last.1 ∙ length-append last.0 (13 ∷ []) in
    absurd (goes (record { ends = lf; front = last.0; line_is = last.1; after_code = omega (arith, long, count) }))
no_cr front x long goes lf false is = is

pub step_text : (before : List ℕ) (place : Place) (x : ℕ) (b : Bool) → 4 ≤ length (line_at before place) → (EndsReplyLine (line_at before place) x → ⊥) → b ≡ text_fits (line_at before place) x
    → IsReplyFront before place → StepsTo before x (if b then step.Within place else step.NotReply)
step_text before place x true long goes fits f =
    let s = shaped before place f in
    let is = front_at before place s.further s.front s.whole s.start_is in
    let long_front : 4 ≤ length s.front = subst (λ l. 4 ≤ length l) is long in
    let goes_on : EndsReplyLine s.front x → ⊥ = subst (λ l. EndsReplyLine l x → ⊥) is goes in
    let t = text_of s.code (length s.texts) s.front s.is_code_of long_front s.in_line in
    let left = text_room s.front x (subst (λ l. text_fits l x ≡ true) is (sym fits)) in
    grown before place x s.code s s.is_code_of (λ some. refl)
    (inr (text_grows s.code (length s.texts) s.front x t (λ lf. no_cr s.front x long_front goes_on lf (ends_by_cr s.front) refl)
    (λ h. left.0 (sign_read s.code (length s.texts) s.front s.is_code_of t ∙ h)) left.1))
step_text before place x false long goes fits f = λ are.
    let is = front_at before place f.further f.front f.whole f.start_is in
    let stands = text_by f.code f.front (length f.texts) x (subst (λ l. 4 ≤ length l) is long) (subst (λ l. EndsReplyLine l x → ⊥) is goes) (within_of before place x f are) in
    both_ways _ (sym fits) (subst (λ l. text_fits l x ≡ true) (sym is) stands)

-- a line that the octet ends
ended_long : (line : List ℕ) (x : ℕ) → EndsReplyLine line x → 4 ≤ length line
ended_long line x ends =
    let count = ap (λ (l : List ℕ). length l) ends.line_is ∙ length-append ends.front (13 ∷ []) in
    let following = ends.after_code in
    omega (arith, count, following)

ended_cr : (line : List ℕ) (x : ℕ) → EndsReplyLine line x → ends_by_cr line ≡ true
ended_cr line x ends = ap ends_by_cr ends.line_is ∙ by_cr ends.front

record IsEnded (before : List ℕ) (place : Place) (x : ℕ) : Type 0 where
  shape : IsShaped before place
  sign : ℕ
  reads : slice_index (line_at before place) 3 ≡ sign
  whole : before ++ x ∷ [] ≡ shape.further ++ (shape.front ++ 10 ∷ [])
  line : IsEndedLine shape.code (length shape.texts) sign (shape.front ++ 10 ∷ [])

ended : (before : List ℕ) (place : Place) (x : ℕ) → EndsReplyLine (line_at before place) x → IsReplyFront before place → IsEnded before place x
ended before place x ends f =
    let s = shaped before place f in
    let is = front_at before place s.further s.front s.whole s.start_is in
    let here : EndsReplyLine s.front x = subst (λ l. EndsReplyLine l x) is ends in
    let t = text_of s.code (length s.texts) s.front s.is_code_of (ended_long s.front x here) s.in_line in
    record {
      shape = s;
      sign = t.sign;
      reads = ap (λ l. slice_index l 3) is ∙ sign_read s.code (length s.texts) s.front s.is_code_of t;
      whole = ap (λ (o : List ℕ). o ++ x ∷ []) s.whole ∙ append_assoc s.further s.front (x ∷ []) ∙ ap (λ z. s.further ++ (s.front ++ z ∷ [])) here.ends;
      line = line_ends s.code (length s.texts) s.front t (ended_cr s.front x here);
    }

pub step_last : (before : List ℕ) (place : Place) (x : ℕ) → EndsReplyLine (line_at before place) x → (slice_index (line_at before place) 3 ≡ 45 → ⊥) → IsReplyFront before place → AreReply (before ++ x ∷ [])
step_last before place x ends last f =
    let e = ended before place x ends f in
    let s = e.shape in
    let line = e.line in
    elim line.1 [
      | inl p ↦ absurd (last (e.reads ∙ p.0))
      | inr p ↦ subst AreReply (sym e.whole) (made s.code s.texts s.further line.0 (s.front ++ 10 ∷ []) s.is_code_of s.few s.are_further p.1)
    ]

pub step_next : (before : List ℕ) (place : Place) (x : ℕ) → EndsReplyLine (line_at before place) x → slice_index (line_at before place) 3 ≡ 45 → IsReplyFront before place
    → IsReplyFront (before ++ x ∷ []) (record { start = length before + 1; lines = place.lines + 1 })
step_next before place x ends hyphen f =
    let e = ended before place x ends f in
    let s = e.shape in
    let line = e.line in
    elim line.1 [
      | inl p ↦ front_of (before ++ x ∷ []) (record { start = length before + 1; lines = place.lines + 1 }) (record {
        code = s.code;
        is_code_of = s.is_code_of;
        texts = s.texts ++ line.0 ∷ [];
        few = omega (arith, p.1, length_push s.texts line.0);
        further = s.further ++ (s.front ++ 10 ∷ []);
        front = [];
        whole = e.whole ∙ sym (append-nil (s.further ++ (s.front ++ 10 ∷ [])));
        are_further = more_lines s.code s.texts s.further line.0 (s.front ++ 10 ∷ []) s.are_further p.2;
        in_line = inl (s.code, refl);
        start_is = sym (length_push before x) ∙ ap (λ (o : List ℕ). length o) e.whole;
        lines_are = ap (λ n. n + 1) s.lines_are ∙ sym (length_push s.texts line.0);
      })
      | inr p ↦ absurd (p.0 (sym e.reads ∙ hyphen))
    ]
