-- What one more octet makes of the front of a reply.
use Rattle.std.proofs.Common.{◌≡◌, ℕ, ◌+◌, ◌-◌, ◌<◌, ◌⊎◌, inl, inr, List, [], ◌∷◌, ◌++◌, length, get_or, Bool, true, false, ◌&&◌, ◌||◌, ◌==◌, nat_lt, arith, refl, sym, ap, subst, ◌∙◌, None}
use Rattle.std.proofs.lemmas.List.{append_assoc, append-nil, length-append, length_push, get_or_at}
use Rattle.std.proofs.lemmas.Bool.{or_cases, and_parts, cases_eq, eqb-true, ltb-true}
use Rattle.mail_wire.specs.Numbers.{number_written}
use Rattle.mail_wire.specs.Lines.{first_line, crlf}
use Rattle.mail_wire.proofs.FirstLineLemmas.{first_line-apart, first_line-across, joins}
use Rattle.mail_wire.proofs.LineLemmas.{is_crlf_parts}
use Rattle.relay_choice.specs.declared.replies.TheConstants.{REPLY_LINES, REPLY_LINE_MAX}
use Rattle.relay_choice.specs.declared.steps.Place.{Place}
use Rattle.relay_choice.specs.Replies.{is_code, IsReplyLine, IsFurtherLine, IsLastLine, AreFurtherLines, IsReply, AreReply, IsBegun, IsFront}
use Rattle.relay_choice.specs.private.Places.{sign_fits, first_code_fits, IsReplyFront}
use Rattle.relay_choice.proofs.ReplyLines.{code_length, same_fronts, within_reply, IsWithin}
use Rattle.relay_choice.proofs.ReplyFronts.{IsTextFront, IsLineFront, line_front, ends_by_cr, by_cr, cr_last, joins_after, octet_apart, unended_more, unended_front, code_unended, code_apart, code_with}

-- lines make a reply
pub made : (code : List ℕ) (texts : List (List ℕ)) (further text last : List ℕ) → is_code code ≡ true → length texts < REPLY_LINES → AreFurtherLines code texts further
    → IsLastLine code text last → AreReply (further ++ last)
made code texts further text last is few are is_last = (
  record { code = number_written code; lines = texts ++ text ∷ [] },
  record {
    code = code;
    is_code_of = is;
    says_code = refl;
    texts = texts;
    text = text;
    says_texts = refl;
    few = few;
    further = further;
    last = last;
    whole = refl;
    are_further = are;
    is_last = is_last;
  },
)

-- one line more
pub more_lines : (code : List ℕ) (texts : List (List ℕ)) (further text line : List ℕ) → AreFurtherLines code texts further → IsFurtherLine code text line
    → AreFurtherLines code (texts ++ text ∷ []) (further ++ line)
more_lines code [] further text line none is = (line, [], ap (λ l. l ++ line) none ∙ sym (append-nil line), is, refl)
more_lines code (first ∷ texts) further text line are is =
    (are.0, are.1 ++ line, ap (λ l. l ++ line) are.2 ∙ append_assoc are.0 are.1 line, are.3, more_lines code texts are.1 text line are.4 is)

-- a code alone is a last line
pub code_line : (code : List ℕ) → is_code code ≡ true → IsLastLine code [] (code ++ crlf)
unfolding first_line
code_line code is = record {
  is_line = record {
    whole = first_line-apart code crlf (code_unended code is) (code_apart code crlf is);
    short = let three = code_length code is in omega (arith, three, length-append code crlf);
  };
  spelled = inr (refl, refl);
}

-- the code with one octet more of it
pub code_grows : (code : List ℕ) (n : ℕ) (front left : List ℕ) (x : ℕ) → length front < 3 → is_code code ≡ true → code ≡ front ++ left
    → (n ≡ 0 → first_code_fits (length front) x ≡ true) → (0 < n → get_or code (length front) 0 ≡ x)
    → (new : List ℕ) × (is_code new ≡ true) × (0 < n → new ≡ code) × IsLineFront new n (front ++ x ∷ [])
code_grows code n front [] x small is spelled first later =
    let three = code_length code is in
    let count = ap (λ (l : List ℕ). length l) (spelled ∙ append-nil front) in
    absurd (omega (arith, small, three, count))
code_grows code n front (y ∷ left) x small is spelled first later = elim (cases_eq n 0) [
  | inl none ↦ (
    front ++ x ∷ left,
    code_with front left x y (rw spelled at is) (first none),
    λ some. absurd (omega (arith, some, none)),
    inl (left, sym (append_assoc front (x ∷ []) left)),
  )
  | inr some ↦
      let same : y ≡ x = sym (get_or_at front y left 0 (length front) refl) ∙ sym (ap (λ (l : List ℕ). get_or l (length front) 0) spelled) ∙ later (omega (arith, some)) in
      (code, is, λ more. refl, inl (left, spelled ∙ ap (λ z. front ++ z ∷ left) same ∙ sym (append_assoc front (x ∷ []) left)))
]

front_is_code : (code front : List ℕ) (n : ℕ) → length front ≡ 3 → is_code code ≡ true → IsLineFront code n front → code ≡ front
front_is_code code front n three is (inl p) = (same_fronts code [] front p.0 3 (code_length code is) three (append-nil code ∙ p.1)).0
front_is_code code front n three is (inr t) =
    let count = ap (λ (l : List ℕ). length l) t.spelled ∙ length-append code (t.sign ∷ t.text) in
    let code_three = code_length code is in
    absurd (omega (arith, three, count, code_three))

-- the code with a sign
pub sign_stands : (code : List ℕ) (n : ℕ) (front : List ℕ) (x : ℕ) → length front ≡ 3 → is_code code ≡ true → IsLineFront code n front → sign_fits n x ≡ true
    → IsTextFront code n (front ++ x ∷ [])
sign_stands code n front x three is in_line fits =
    let same = front_is_code code front n three is in_line in
    record {
      sign = x;
      text = [];
      spelled = ap (λ (l : List ℕ). l ++ x ∷ []) (sym same);
      fits = fits;
      bare = λ h. refl;
      unended = unended_more front x (subst (λ l. first_line l ≡ None) same (code_unended code is)) (subst (λ l. joins l (x ∷ []) ≡ false) same (code_apart code (x ∷ []) is));
      short = inl (omega (arith, three, length-append front (x ∷ [])));
    }

-- the text with one octet more
pub text_grows : (code : List ℕ) (n : ℕ) (front : List ℕ) (x : ℕ) → (t : IsTextFront code n front) → (x ≡ 10 → ends_by_cr front ≡ false) → (t.sign ≡ 13 → ⊥)
    → ((x ≡ 13) × (length front + 1 < REPLY_LINE_MAX)) ⊎ (length front + 2 < REPLY_LINE_MAX) → IsTextFront code n (front ++ x ∷ [])
text_grows code n front x t goes differs left = record {
  sign = t.sign;
  text = t.text ++ x ∷ [];
  spelled = ap (λ (l : List ℕ). l ++ x ∷ []) t.spelled ∙ append_assoc code (t.sign ∷ t.text) (x ∷ []);
  fits = t.fits;
  bare = λ h. absurd (differs h);
  unended = unended_more front x t.unended (octet_apart front x goes);
  short = elim left [
    | inl r ↦ inr (omega (arith, r.1, length-append front (x ∷ [])), subst (λ z. ends_by_cr (front ++ z ∷ []) ≡ true) (sym r.0) (by_cr front))
    | inr r ↦ inl (omega (arith, r, length-append front (x ∷ [])))
  ];
}

-- a line that came to its end: another one follows, or not
abbrev pub IsEndedLine : (code : List ℕ) (n sign : ℕ) (line : List ℕ) → Type 0
IsEndedLine code n sign line = (text : List ℕ) × (((sign ≡ 45) × (n + 1 < REPLY_LINES) × IsFurtherLine code text line) ⊎ ((sign ≡ 45 → ⊥) × IsLastLine code text line))

sign_cases : (n sign : ℕ) → sign_fits n sign ≡ true → ((sign ≡ 32) ⊎ (sign ≡ 13)) ⊎ ((sign ≡ 45) × (n + 1 < REPLY_LINES))
sign_cases n sign fits = elim (or_cases (sign == 32 || sign == 13) (sign == 45 && nat_lt n (REPLY_LINES - 1)) fits) [
  | inl first ↦ elim (or_cases (sign == 32) (sign == 13) first) [ inl h ↦ inl (inl (eqb-true sign 32 h)) | inr h ↦ inl (inr (eqb-true sign 13 h)) ]
  | inr last ↦
      let parts = and_parts (sign == 45) (nat_lt n (REPLY_LINES - 1)) last in
      inr (eqb-true sign 45 parts.0, omega (arith, ltb-true n 99 parts.1))
]

text_ended : (code front : List ℕ) (sign : ℕ) (text : List ℕ) → front ≡ code ++ sign ∷ text → ends_by_cr front ≡ true → (sign ≡ 13 → ⊥)
    → (said : List ℕ) × (front ++ 10 ∷ [] ≡ code ++ sign ∷ (said ++ crlf))
text_ended code front sign [] spelled cr differs =
    let parts = is_crlf_parts sign 10 (sym (joins_after code sign [] (10 ∷ [])) ∙ sym (ap ends_by_cr spelled) ∙ cr) in
    absurd (differs parts.0)
text_ended code front sign (y ∷ text) spelled cr differs =
    let last = cr_last (y ∷ text) (sym (joins_after code sign (y ∷ text) (10 ∷ [])) ∙ sym (ap ends_by_cr spelled) ∙ cr) in (
      last.0,
      ap (λ (l : List ℕ). l ++ 10 ∷ []) (spelled ∙ ap (λ (l : List ℕ). code ++ sign ∷ l) last.1) ∙ append_assoc code (sign ∷ (last.0 ++ 13 ∷ [])) (10 ∷ [])
          ∙ ap (λ (l : List ℕ). code ++ sign ∷ l) (append_assoc last.0 (13 ∷ []) (10 ∷ [])),
    )

pub line_ends : (code : List ℕ) (n : ℕ) (front : List ℕ) → (t : IsTextFront code n front) → ends_by_cr front ≡ true → IsEndedLine code n t.sign (front ++ 10 ∷ [])
line_ends code n front t cr = elim (sign_cases n t.sign t.fits) [
  | inl (inl space) ↦
      let said = text_ended code front t.sign t.text t.spelled cr (λ h. omega (arith, space, h)) in
      (said.0, inr (λ h. omega (arith, space, h), record { is_line = is_line; spelled = inl (said.1 ∙ ap (λ z. code ++ z ∷ (said.0 ++ crlf)) space) }))
  | inl (inr bare) ↦
      let front_is : front ≡ code ++ 13 ∷ [] = t.spelled ∙ rw (bare, t.bare bare) refl in
      ([], inr (λ h. omega (arith, bare, h), record { is_line = is_line; spelled = inr (refl, ap (λ (l : List ℕ). l ++ 10 ∷ []) front_is ∙ append_assoc code (13 ∷ []) (10 ∷ [])) }))
  | inr hyphen ↦
      let said = text_ended code front t.sign t.text t.spelled cr (λ h. omega (arith, hyphen.0, h)) in
      (said.0, inl (hyphen.0, hyphen.1, record { is_line = is_line; spelled = said.1 ∙ ap (λ z. code ++ z ∷ (said.0 ++ crlf)) hyphen.0 }))
]
  where
    few : length front < REPLY_LINE_MAX
    few = elim t.short [ inl r ↦ omega (arith, r) | inr r ↦ r.0 ]

    is_line : IsReplyLine (front ++ 10 ∷ [])
    is_line = record { whole = first_line-across front (10 ∷ []) t.unended cr; short = omega (arith, few, length-append front (10 ∷ [])) }

begun_by : (octets tail : List ℕ) → 0 < length tail → AreReply (octets ++ tail) → IsBegun octets
begun_by octets [] some are = absurd (omega (arith, some))
begun_by octets (x ∷ more) some are = (x, more, are)

-- a line that came to its end, with a last line after it where another one has to follow
ended_begun : (code : List ℕ) (texts : List (List ℕ)) (further front : List ℕ) (sign : ℕ) → is_code code ≡ true → length texts < REPLY_LINES → AreFurtherLines code texts further
    → IsEndedLine code (length texts) sign (front ++ 10 ∷ []) → (tail : List ℕ) × AreReply (further ++ (front ++ 10 ∷ tail))
ended_begun code texts further front sign is few are ended = elim ended.1 [
  | inl p ↦
      let tail : List ℕ = code ++ crlf in (
        tail,
        subst AreReply (append_assoc further (front ++ 10 ∷ []) tail ∙ ap (λ (l : List ℕ). further ++ l) (append_assoc front (10 ∷ []) tail))
            (made code (texts ++ ended.0 ∷ []) (further ++ (front ++ 10 ∷ [])) [] tail is (omega (arith, p.1, length_push texts ended.0)) (more_lines code texts further ended.0 (front ++ 10 ∷ []) are p.2) (code_line code is)),
      )
  | inr p ↦ ([], made code texts further ended.0 (front ++ 10 ∷ []) is few are p.1)
]

cr_lf : (further front tail : List ℕ) → further ++ ((front ++ 13 ∷ []) ++ 10 ∷ tail) ≡ (further ++ front) ++ 13 ∷ 10 ∷ tail
cr_lf further front tail = ap (λ (l : List ℕ). further ++ l) (append_assoc front (13 ∷ []) (10 ∷ tail)) ∙ sym (append_assoc further front (13 ∷ 10 ∷ tail))

cr_begun : (code : List ℕ) (texts : List (List ℕ)) (further front : List ℕ) → is_code code ≡ true → length texts < REPLY_LINES → AreFurtherLines code texts further
    → IsTextFront code (length texts) (front ++ 13 ∷ []) → IsBegun (further ++ front)
cr_begun code texts further front is few are t =
    let done = ended_begun code texts further (front ++ 13 ∷ []) t.sign is few are (line_ends code (length texts) (front ++ 13 ∷ []) t (by_cr front)) in
    begun_by (further ++ front) (13 ∷ 10 ∷ done.0) (omega arith) (subst AreReply (cr_lf further front done.0) done.1)

text_begun : (code : List ℕ) (texts : List (List ℕ)) (further front : List ℕ) → is_code code ≡ true → length texts < REPLY_LINES → AreFurtherLines code texts further
    → IsTextFront code (length texts) front → (b : Bool) → ends_by_cr front ≡ b → IsBegun (further ++ front)
text_begun code texts further front is few are t true cr =
    let done = ended_begun code texts further front t.sign is few are (line_ends code (length texts) front t cr) in
    begun_by (further ++ front) (10 ∷ done.0) (omega arith) (subst AreReply (sym (append_assoc further front (10 ∷ done.0))) done.1)
text_begun code texts further front is few are t false no_cr =
    cr_begun code texts further front is few are
    (text_grows code (length texts) front 13 t (λ h. no_cr) differs (elim t.short [ inl r ↦ inl (refl, r) | inr r ↦ let both = r.1 in cc ]))
  where
    differs : t.sign ≡ 13 → ⊥
    differs h =
        let front_is : front ≡ code ++ 13 ∷ [] = t.spelled ∙ rw (h, t.bare h) refl in
        let yes_it_does : ends_by_cr front ≡ true = ap ends_by_cr front_is ∙ by_cr code in
        cc

pub line_begun : (code : List ℕ) (texts : List (List ℕ)) (further front : List ℕ) → is_code code ≡ true → length texts < REPLY_LINES → AreFurtherLines code texts further
    → IsLineFront code (length texts) front → IsBegun (further ++ front)
line_begun code texts further front is few are (inl p) =
    begun_by (further ++ front) (p.0 ++ crlf) (omega (arith, length-append p.0 crlf))
    (subst AreReply (ap (λ (l : List ℕ). further ++ (l ++ crlf)) p.1 ∙ ap (λ (l : List ℕ). further ++ l) (append_assoc front p.0 crlf) ∙ sym (append_assoc further front (p.0 ++ crlf)))
    (made code texts further [] (code ++ crlf) is few are (code_line code is)))
line_begun code texts further front is few are (inr t) = text_begun code texts further front is few are t (ends_by_cr front) refl

line_unended : (code front : List ℕ) (n : ℕ) → is_code code ≡ true → IsLineFront code n front → first_line front ≡ None
line_unended code front n is (inl p) = unended_front front p.0 (subst (λ l. first_line l ≡ None) p.1 (code_unended code is))
line_unended code front n is (inr t) = t.unended

-- the front of a reply, by what stands in its last line
pub record IsShaped (octets : List ℕ) (place : Place) : Type 0 where
  pub code : List ℕ
  pub is_code_of : is_code code ≡ true
  pub texts : List (List ℕ)
  pub few : length texts < REPLY_LINES
  pub further : List ℕ
  pub front : List ℕ
  pub whole : octets ≡ further ++ front
  pub are_further : AreFurtherLines code texts further
  pub in_line : IsLineFront code (length texts) front
  pub start_is : place.start ≡ length further
  pub lines_are : place.lines ≡ length texts

pub front_of : (octets : List ℕ) (place : Place) → IsShaped octets place → IsReplyFront octets place
front_of octets place s = record {
  begun = subst IsBegun (sym s.whole) (line_begun s.code s.texts s.further s.front s.is_code_of s.few s.are_further s.in_line);
  code = s.code;
  is_code_of = s.is_code_of;
  texts = s.texts;
  further = s.further;
  front = s.front;
  whole = s.whole;
  are_further = s.are_further;
  unended = line_unended s.code s.front (length s.texts) s.is_code_of s.in_line;
  start_is = s.start_is;
  lines_are = s.lines_are;
}

pub are_own : (code own : List ℕ) (texts : List (List ℕ)) (further : List ℕ) → (0 < length texts → own ≡ code) → AreFurtherLines code texts further → AreFurtherLines own texts further
are_own code own [] further same none = none
are_own code own (text ∷ texts) further same are = subst (λ c. AreFurtherLines c (text ∷ texts) further) (sym (same (omega arith))) are

-- where an octet stands that is in a reply
pub within_of : (octets : List ℕ) (place : Place) (x : ℕ) → (f : IsReplyFront octets place) → IsFront (octets ++ x ∷ []) → IsWithin f.code (length f.texts) f.front x
within_of octets place x f (inl are) = within_reply f.code f.texts f.further f.front x [] are.0 f.is_code_of f.are_further f.unended (subst (λ o. IsReply (o ++ x ∷ []) are.0) f.whole are.1)
within_of octets place x f (inr begun) =
    let are : AreReply ((octets ++ x ∷ []) ++ begun.0 ∷ begun.1) = begun.2 in
    within_reply f.code f.texts f.further f.front x (begun.0 ∷ begun.1) are.0 f.is_code_of f.are_further f.unended
    (subst (λ o. IsReply o are.0) (append_assoc octets (x ∷ []) (begun.0 ∷ begun.1) ∙ ap (λ o. o ++ x ∷ begun.0 ∷ begun.1) f.whole) are.1)

pub shaped : (octets : List ℕ) (place : Place) → IsReplyFront octets place → IsShaped octets place
shaped octets place f =
    let x : ℕ = f.begun.0 in
    let more : List ℕ = f.begun.1 in
    let are : AreReply (octets ++ x ∷ more) = f.begun.2 in
    let at = within_reply f.code f.texts f.further f.front x more are.0 f.is_code_of f.are_further f.unended (subst (λ o. IsReply (o ++ x ∷ more) are.0) f.whole are.1) in
    record {
      code = at.own;
      is_code_of = at.is_code_of;
      texts = f.texts;
      few = at.few;
      further = f.further;
      front = f.front;
      whole = f.whole;
      are_further = are_own f.code at.own f.texts f.further at.same f.are_further;
      in_line = line_front at.own (length f.texts) f.front at.line at.later x at.is_line at.signed f.unended at.reaches;
      start_is = f.start_is;
      lines_are = f.lines_are;
    }
