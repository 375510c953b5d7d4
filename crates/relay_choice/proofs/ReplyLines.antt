-- The lines of a reply, one after another.
use Rattle.std.proofs.Common.{◌≡◌, ℕ, suc, ◌+◌, ◌<◌, ◌⊎◌, inl, inr, List, [], ◌∷◌, ◌++◌, length, take, drop, true, arith, refl, sym, ap, subst, ◌∙◌, Some, None, add-zero}
use Rattle.std.proofs.lemmas.List.{append_assoc, append-nil, take_at, drop_at}
use Rattle.std.proofs.lemmas.Bool.{lt-ltb}
use Rattle.mail_wire.specs.Lines.{first_line, crlf, Cut}
use Rattle.mail_wire.proofs.FirstLineLemmas.{first_line-cut}
use Rattle.relay_choice.specs.declared.replies.TheConstants.{REPLY_LINES}
use Rattle.relay_choice.specs.declared.replies.Reply.{Reply}
use Rattle.relay_choice.specs.Replies.{is_code, IsReplyLine, IsFurtherLine, IsLastLine, AreFurtherLines, IsReply}
use Rattle.relay_choice.specs.private.Places.{sign_fits}

-- a line that ends with its first CRLF is the first one, whatever follows
pub whole_first : (line rest : List ℕ) → first_line line ≡ Some (record { line = line; rest = [] }) → first_line (line ++ rest) ≡ Some (record { line = line; rest = rest })
whole_first line rest whole = (first_line-cut line (record { line = line; rest = [] }) whole).longer rest

pub unsome : {a b : Cut} → Some a ≡ Some b → a ≡ b
unsome h = cc

pub same_first : (line rest other others : List ℕ) → first_line line ≡ Some (record { line = line; rest = [] }) → first_line other ≡ Some (record { line = other; rest = [] })
    → line ++ rest ≡ other ++ others → (line ≡ other) × (rest ≡ others)
same_first line rest other others whole other_whole same =
    let cuts : record { line = line; rest = rest } ≡ record { line = other; rest = others } = unsome (sym (whole_first line rest whole) ∙ ap first_line same ∙ whole_first other others other_whole) in
    (ap (λ (cut : Cut). cut.line) cuts, ap (λ (cut : Cut). cut.rest) cuts)

pub code_length : (code : List ℕ) → is_code code ≡ true → length code ≡ 3
code_length [] is = cc
code_length (x ∷ []) is = cc
code_length (x ∷ y ∷ []) is = cc
code_length (x ∷ y ∷ z ∷ []) is = refl
code_length (x ∷ y ∷ z ∷ w ∷ more) is = cc

-- fronts of the same length
pub same_fronts : (a b c d : List ℕ) (n : ℕ) → length a ≡ n → length c ≡ n → a ++ b ≡ c ++ d → (a ≡ c) × (b ≡ d)
same_fronts a b c d n p q same = (sym (take_at a b n p) ∙ ap (take n) same ∙ take_at c d n q, sym (drop_at a b n p) ∙ ap (drop n) same ∙ drop_at c d n q)

pub same_codes : (code own a b : List ℕ) → is_code code ≡ true → is_code own ≡ true → code ++ a ≡ own ++ b → (code ≡ own) × (a ≡ b)
same_codes code own a b is own_is same = same_fronts code a own b 3 (code_length code is) (code_length own own_is) same

-- a line that another one follows isn't the last one
pub not_last : (code own text last_text line last : List ℕ) → is_code code ≡ true → is_code own ≡ true → IsFurtherLine code text line → IsLastLine own last_text last → line ≡ last → ⊥
not_last code own text last_text line last is own_is further is_last same =
    elim is_last.spelled [
      | inl e ↦ let signs = (same_codes code own _ _ is own_is (sym further.spelled ∙ same ∙ e)).1 in cc
      | inr e ↦ let signs = (same_codes code own _ _ is own_is (sym further.spelled ∙ same ∙ e.1)).1 in cc
    ]

-- the rest of a reply after so many lines, which have this code if there are any
pub record IsRest (code : List ℕ) (n : ℕ) (rest : List ℕ) : Type 0 where
  pub own : List ℕ
  pub is_code_of : is_code own ≡ true
  pub same : 0 < n → own ≡ code
  pub texts : List (List ℕ)
  pub text : List ℕ
  pub few : n + length texts < REPLY_LINES
  pub further : List ℕ
  pub last : List ℕ
  pub whole : rest ≡ further ++ last
  pub are_further : AreFurtherLines own texts further
  pub is_last : IsLastLine own text last

pub whole_rest : (code octets : List ℕ) (reply : Reply) → IsReply octets reply → IsRest code 0 octets
whole_rest code octets reply is = record {
  own = is.code;
  is_code_of = is.is_code_of;
  same = λ some. absurd (omega (arith, some));
  texts = is.texts;
  text = is.text;
  few = let few = is.few in omega arith;
  further = is.further;
  last = is.last;
  whole = is.whole;
  are_further = is.are_further;
  is_last = is.is_last;
}

rest_by : (code own : List ℕ) (n : ℕ) (text line rest : List ℕ) → is_code code ≡ true → is_code own ≡ true → IsFurtherLine code text line
    → (texts : List (List ℕ)) (last_text further last : List ℕ) → n + length texts < REPLY_LINES → line ++ rest ≡ further ++ last
    → AreFurtherLines own texts further → IsLastLine own last_text last → IsRest code (n + 1) rest
rest_by code own n text line rest is own_is is_further [] last_text further last few whole none is_last =
    let found = same_first line rest last [] is_further.is_line.whole is_last.is_line.whole (whole ∙ ap (λ all. all ++ last) none ∙ sym (append-nil last)) in
    absurd (not_last code own text last_text line last is own_is is_further is_last found.0)
rest_by code own n text line rest is own_is is_further (other_text ∷ texts) last_text further last few whole are is_last =
    let other : List ℕ = are.0 in
    let others : List ℕ = are.1 in
    let is_other = are.3 in
    let found = same_first line rest other (others ++ last) is_further.is_line.whole is_other.is_line.whole
    (whole ∙ ap (λ all. all ++ last) are.2 ∙ append_assoc other others last) in
    let codes = same_codes code own _ _ is own_is (sym is_further.spelled ∙ found.0 ∙ is_other.spelled) in
    record {
      own = own;
      is_code_of = own_is;
      same = λ some. sym codes.0;
      texts = texts;
      text = last_text;
      few = omega (arith, few);
      further = others;
      last = last;
      whole = found.1;
      are_further = are.4;
      is_last = is_last;
    }

-- after one line more
rest_after : (code : List ℕ) (n : ℕ) (text line rest : List ℕ) → is_code code ≡ true → IsFurtherLine code text line → IsRest code n (line ++ rest) → IsRest code (n + 1) rest
rest_after code n text line rest is is_further of =
    rest_by code of.own n text line rest is of.is_code_of is_further of.texts of.text of.further of.last of.few of.whole of.are_further of.is_last

pub rest_after_all : (code : List ℕ) (n : ℕ) (texts : List (List ℕ)) (further rest : List ℕ) → is_code code ≡ true → AreFurtherLines code texts further
    → IsRest code n (further ++ rest) → IsRest code (n + length texts) rest
rest_after_all code n [] further rest is none of = rw add-zero (subst (λ all. IsRest code n (all ++ rest)) none of)
rest_after_all code n (text ∷ texts) further rest is are of =
    let line : List ℕ = are.0 in
    let others : List ℕ = are.1 in
    let from : IsRest code n (line ++ (others ++ rest)) = subst (IsRest code n) (ap (λ all. all ++ rest) are.2 ∙ append_assoc line others rest) of in
    let count : n + 1 + length texts ≡ n + suc (length texts) = omega arith in
    subst (λ k. IsRest code k rest) count (rest_after_all code (n + 1) texts others rest is are.4 (rest_after code n text line (others ++ rest) is are.3 from))

-- what a line is after its code, and that it has CRLF at its end
pub record HasSign (n : ℕ) (code line : List ℕ) : Type 0 where
  pub sign : ℕ
  pub following : List ℕ
  pub spelled : line ≡ code ++ sign ∷ following
  pub fits : sign_fits n sign ≡ true
  pub bare : sign ≡ 13 → following ≡ 10 ∷ []
  pub text : List ℕ
  pub ended : line ≡ text ++ crlf

-- the next line of a reply
pub record IsNext (code : List ℕ) (n : ℕ) (rest : List ℕ) : Type 0 where
  pub own : List ℕ
  pub is_code_of : is_code own ≡ true
  pub same : 0 < n → own ≡ code
  pub few : n < REPLY_LINES
  pub line : List ℕ
  pub others : List ℕ
  pub whole : rest ≡ line ++ others
  pub is_line : IsReplyLine line
  pub signed : HasSign n own line

last_signed : (n : ℕ) (code text line : List ℕ) → IsLastLine code text line → HasSign n code line
last_signed n code text line is = elim is.spelled [
  | inl e ↦ record {
    sign = 32;
    following = text ++ crlf;
    spelled = e;
    fits = refl;
    bare = λ h. absurd (omega (arith, h));
    text = code ++ 32 ∷ text;
    ended = e ∙ sym (append_assoc code (32 ∷ text) crlf);
  }
  | inr e ↦ record { sign = 13; following = 10 ∷ []; spelled = e.1; fits = refl; bare = λ h. refl; text = code; ended = e.1 }
]

further_signed : (n : ℕ) (code text line : List ℕ) → n + 1 < REPLY_LINES → IsFurtherLine code text line → HasSign n code line
further_signed n code text line few is = record {
  sign = 45;
  following = text ++ crlf;
  spelled = is.spelled;
  fits = lt-ltb n 99 (omega (arith, few));
  bare = λ h. absurd (omega (arith, h));
  text = code ++ 45 ∷ text;
  ended = is.spelled ∙ sym (append_assoc code (45 ∷ text) crlf);
}

next_by : (code : List ℕ) (n : ℕ) (rest : List ℕ) → (of : IsRest code n rest) → (texts : List (List ℕ)) → of.texts ≡ texts → AreFurtherLines of.own texts of.further → IsNext code n rest
next_by code n rest of [] are_texts none = record {
  own = of.own;
  is_code_of = of.is_code_of;
  same = of.same;
  few = let few = of.few in omega (arith, few);
  line = of.last;
  others = [];
  whole = of.whole ∙ ap (λ all. all ++ of.last) none ∙ sym (append-nil of.last);
  is_line = of.is_last.is_line;
  signed = last_signed n of.own of.text of.last of.is_last;
}
next_by code n rest of (text ∷ texts) are_texts are =
    let count = ap (λ (l : List (List ℕ)). length l) are_texts in
    let few = of.few in
    record {
      own = of.own;
      is_code_of = of.is_code_of;
      same = of.same;
      few = omega (arith, few);
      line = are.0;
      others = are.1 ++ of.last;
      whole = of.whole ∙ ap (λ all. all ++ of.last) are.2 ∙ append_assoc are.0 are.1 of.last;
      is_line = are.3.is_line;
      signed = further_signed n of.own text are.0 (omega (arith, few, count)) are.3;
    }

pub next_of : (code : List ℕ) (n : ℕ) (rest : List ℕ) → IsRest code n rest → IsNext code n rest
next_of code n rest of = next_by code n rest of of.texts refl of.are_further

-- of two fronts of the same octets, one is a front of the other
pub splits : (a b c d : List ℕ) → a ++ b ≡ c ++ d → ((e : List ℕ) × (c ≡ a ++ e) × (b ≡ e ++ d)) ⊎ ((e : List ℕ) × (a ≡ c ++ e) × (d ≡ e ++ b))
splits [] b c d h = inl (c, refl, h)
splits (x ∷ a) b [] d h = inr (x ∷ a, refl, sym h)
splits (x ∷ a) b (y ∷ c) d h =
    let head : x ≡ y = cc in
    let tail : a ++ b ≡ c ++ d = cc in
    elim (splits a b c d tail) [
      | inl p ↦ inl (p.0, rw head (ap (λ l. y ∷ l) p.1), p.2)
      | inr p ↦ inr (p.0, rw head (ap (λ l. y ∷ l) p.1), p.2)
    ]

-- a front that has no whole line ends within the first one
pub reaches : (front more line others : List ℕ) (x : ℕ) → first_line front ≡ None → first_line line ≡ Some (record { line = line; rest = [] })
    → front ++ x ∷ more ≡ line ++ others → (later : List ℕ) × (line ≡ front ++ x ∷ later)
reaches front more line others x unended whole same = elim (splits front (x ∷ more) line others same) [
  | inl p ↦ by p.0 p.1 p.2
  | inr p ↦ let some = sym (ap first_line p.1 ∙ whole_first line p.0 whole) ∙ unended in cc
]
  where
    by : (e : List ℕ) → line ≡ front ++ e → x ∷ more ≡ e ++ others → (later : List ℕ) × (line ≡ front ++ x ∷ later)
    by [] is left = let some = sym whole ∙ ap first_line (is ∙ append-nil front) ∙ unended in cc
    by (y ∷ e) is left = let head : x ≡ y = cc in (e, rw head is)

-- where the front of a reply is within its next line
pub record IsWithin (code : List ℕ) (n : ℕ) (front : List ℕ) (x : ℕ) : Type 0 where
  pub own : List ℕ
  pub is_code_of : is_code own ≡ true
  pub same : 0 < n → own ≡ code
  pub few : n < REPLY_LINES
  pub line : List ℕ
  pub is_line : IsReplyLine line
  pub signed : HasSign n own line
  pub later : List ℕ
  pub reaches : line ≡ front ++ x ∷ later

pub within_reply : (code : List ℕ) (texts : List (List ℕ)) (further front : List ℕ) (x : ℕ) (more : List ℕ) (reply : Reply) → is_code code ≡ true → AreFurtherLines code texts further → first_line front ≡ None
    → IsReply ((further ++ front) ++ x ∷ more) reply → IsWithin code (length texts) front x
within_reply code texts further front x more reply is are unended is_reply =
    let all : IsRest code 0 (further ++ (front ++ x ∷ more)) = subst (IsRest code 0) (append_assoc further front (x ∷ more)) (whole_rest code _ reply is_reply) in
    let count : 0 + length texts ≡ length texts = omega arith in
    let rest : IsRest code (length texts) (front ++ x ∷ more) = subst (λ k. IsRest code k (front ++ x ∷ more)) count (rest_after_all code 0 texts further (front ++ x ∷ more) is are all) in
    let next = next_of code (length texts) (front ++ x ∷ more) rest in
    let found = reaches front more next.line next.others x unended next.is_line.whole next.whole in
    record {
      own = next.own;
      is_code_of = next.is_code_of;
      same = next.same;
      few = next.few;
      line = next.line;
      is_line = next.is_line;
      signed = next.signed;
      later = found.0;
      reaches = found.1;
    }
