-- What octets begin with is one thing.
use Rattle.std.proofs.Common.{◌≡◌, ℕ, ◌+◌, ◌-◌, ◌<◌, ◌≤◌, inl, inr, List, [], ◌∷◌, ◌++◌, length, take, drop, map, get_or, Bool, true, false, arith, refl, sym, ap, subst, ◌∙◌, Some, add-zero}
use Rattle.std.proofs.lemmas.List.{append_assoc, append-nil, length-append, length_push, take_at, drop_at, take_all, take-take, take-append-drop, take-append-le, take_more, get_or-drop, nil_from_length, length-take-le}
use Rattle.std.proofs.lemmas.Bool.{le-ltb, cases_order}
use Rattle.mail_wire.specs.Numbers.{number_written}
use Rattle.mail_wire.specs.Lines.{first_line, lines_of, crlf, is_crlf, put_before, Cut}
use Rattle.mail_wire.proofs.FirstLine.{lines_of-crlf, lines_of-other}
use Rattle.mail_wire.proofs.FirstLineLemmas.{first_line-crlf, first_line-other, unput}
use Rattle.relay_choice.specs.declared.replies.Reply.{Reply}
use Rattle.relay_choice.specs.declared.replies.ReplyRead.{ReplyRead}
use Rattle.relay_choice.specs.declared.replies.ReplyRead.TheVariants as read
use Rattle.relay_choice.specs.declared.steps.Place.{Place}
use Rattle.relay_choice.specs.Replies.{is_code, IsFurtherLine, IsLastLine, AreFurtherLines, IsReply, AreReply, IsBegun, IsFront, IsNoFront, IsReplyRead, IsDecided}
use Rattle.relay_choice.specs.Pieces.{DecidesBy}
use Rattle.relay_choice.specs.private.Places.{IsReplyFront}
use Rattle.relay_choice.specs.private.Texts.{text_of_line}
use Rattle.relay_choice.proofs.ReplyLines.{unsome, whole_first, same_first, code_length, not_last, IsRest, whole_rest, rest_after_all}
use Rattle.relay_choice.proofs.ReplySteps.{front_of}

lines_by : (x y : ℕ) (rest : List ℕ) (cut : Cut) → first_line (x ∷ y ∷ rest) ≡ Some cut → ((next : Cut) → first_line (y ∷ rest) ≡ Some next → lines_of (y ∷ rest) ≡ next.line ∷ lines_of next.rest)
    → (b : Bool) → is_crlf x y ≡ b → lines_of (x ∷ y ∷ rest) ≡ cut.line ∷ lines_of cut.rest
lines_by x y rest cut found others true is =
    let same : record { line = crlf; rest = rest } ≡ cut = unsome (sym (first_line-crlf x y rest is) ∙ found) in
    lines_of-crlf x y rest is ∙ ap (λ (c : Cut). c.line ∷ lines_of c.rest) same
lines_by x y rest cut found others false is =
    let next = unput x cut (first_line (y ∷ rest)) (sym (first_line-other x y rest is) ∙ found) in
    lines_of-other x y rest is ∙ ap (put_before x) (others next.0 next.1) ∙ sym (ap (λ (c : Cut). c.line ∷ lines_of c.rest) next.2)

-- the first line is the first of the lines
pub lines_first : (octets : List ℕ) (cut : Cut) → first_line octets ≡ Some cut → lines_of octets ≡ cut.line ∷ lines_of cut.rest
unfolding first_line
lines_first [] cut found = cc
lines_first (x ∷ []) cut found = cc
lines_first (x ∷ y ∷ rest) cut found = lines_by x y rest cut found (λ next is. lines_first (y ∷ rest) next is) (is_crlf x y) refl

-- what a line says

says_after : (code text line : List ℕ) (sign : ℕ) → is_code code ≡ true → line ≡ code ++ sign ∷ (text ++ crlf) → text_of_line line ≡ text
says_after code text line sign is spelled =
    let three = code_length code is in
    let count = ap (λ (l : List ℕ). length l) spelled ∙ length-append code (sign ∷ (text ++ crlf)) in
    let following = length-append text crlf in
    let four : length (code ++ sign ∷ []) ≡ 4 = omega (arith, three, length_push code sign) in
    let parts : line ≡ (code ++ sign ∷ []) ++ (text ++ crlf) = spelled ∙ sym (append_assoc code (sign ∷ []) (text ++ crlf)) in
    let left : drop 4 line ≡ text ++ crlf = ap (λ (l : List ℕ). drop 4 l) parts ∙ drop_at (code ++ sign ∷ []) (text ++ crlf) 4 four in
    let some : length text ≡ length line - 6 = omega (arith, count, three, following) in
    rw (le-ltb (length line) 6 (omega (arith, count, three, following)), left) (take_at text crlf (length line - 6) some)

further_says : (code text line : List ℕ) → is_code code ≡ true → IsFurtherLine code text line → text_of_line line ≡ text
further_says code text line is is_line = says_after code text line 45 is is_line.spelled

last_says : (code text line : List ℕ) → is_code code ≡ true → IsLastLine code text line → text_of_line line ≡ text
last_says code text line is is_line = elim is_line.spelled [
  | inl e ↦ says_after code text line 32 is e
  | inr e ↦
      let three = code_length code is in
      let count : length line ≡ 5 = ap (λ (l : List ℕ). length l) e.1 ∙ omega (arith, three, length-append code crlf) in
      rw count (sym e.0)
]

texts_are : (code : List ℕ) (texts : List (List ℕ)) (further text last : List ℕ) → is_code code ≡ true → AreFurtherLines code texts further → IsLastLine code text last
    → map text_of_line (lines_of (further ++ last)) ≡ texts ++ text ∷ []
unfolding lines_of
texts_are code [] further text last is none is_last =
    ap (λ (l : List ℕ). map text_of_line (lines_of (l ++ last))) none
    ∙ ap (map text_of_line) (lines_first last (record { line = last; rest = [] }) is_last.is_line.whole) ∙ ap (λ t. t ∷ []) (last_says code text last is is_last)
texts_are code (first ∷ texts) further text last is are is_last =
    let line : List ℕ = are.0 in
    let others : List ℕ = are.1 in
    ap (λ (l : List ℕ). map text_of_line (lines_of l)) (ap (λ (l : List ℕ). l ++ last) are.2 ∙ append_assoc line others last)
    ∙ ap (map text_of_line) (lines_first (line ++ (others ++ last)) (record { line = line; rest = others ++ last }) (whole_first line (others ++ last) are.3.is_line.whole))
    ∙ ap (λ t. t ∷ map text_of_line (lines_of (others ++ last))) (further_says code first line is are.3)
    ∙ ap (λ (ts : List (List ℕ)). first ∷ ts) (texts_are code texts others text last is are.4 is_last)

code_first : (code : List ℕ) (texts : List (List ℕ)) (further text last : List ℕ) → is_code code ≡ true → AreFurtherLines code texts further → IsLastLine code text last → take 3 (further ++ last) ≡ code
code_first code [] further text last is none is_last = ap (λ (l : List ℕ). take 3 (l ++ last)) none ∙ elim is_last.spelled [
  | inl e ↦ ap (λ (l : List ℕ). take 3 l) e ∙ take_at code _ 3 (code_length code is)
  | inr e ↦ ap (λ (l : List ℕ). take 3 l) e.1 ∙ take_at code crlf 3 (code_length code is)
]
code_first code (first ∷ texts) further text last is are is_last =
    ap (λ (l : List ℕ). take 3 l) (ap (λ (l : List ℕ). l ++ last) (are.2 ∙ ap (λ (l : List ℕ). l ++ are.1) are.3.spelled) ∙ append_assoc (code ++ 45 ∷ (first ++ crlf)) are.1 last
    ∙ append_assoc code (45 ∷ (first ++ crlf)) (are.1 ++ last)) ∙ take_at code _ 3 (code_length code is)

-- the reply that octets are, if they are one
abbrev pub reply_said : List ℕ → Reply
reply_said octets = record { code = number_written (take 3 octets); lines = map text_of_line (lines_of octets) }

pub said_by : (octets : List ℕ) (reply : Reply) → IsReply octets reply → reply ≡ reply_said octets
said_by octets reply is =
    let code : number_written (take 3 octets) ≡ reply.code = ap number_written (ap (λ (l : List ℕ). take 3 l) is.whole ∙ code_first is.code is.texts is.further is.text is.last is.is_code_of is.are_further is.is_last) ∙ sym is.says_code in
    let lines : map text_of_line (lines_of octets) ≡ reply.lines = ap (λ (l : List ℕ). map text_of_line (lines_of l)) is.whole ∙ texts_are is.code is.texts is.further is.text is.last is.is_code_of is.are_further is.is_last ∙ sym is.says_texts in
    rw (code, lines) refl

pub code_said : (octets : List ℕ) (reply : Reply) → IsReply octets reply → is_code (take 3 octets) ≡ true
code_said octets reply is = ap is_code (ap (λ (l : List ℕ). take 3 l) is.whole ∙ code_first is.code is.texts is.further is.text is.last is.is_code_of is.are_further is.is_last) ∙ is.is_code_of

-- no reply goes on

ends_by : (code : List ℕ) (n : ℕ) (text last more : List ℕ) → is_code code ≡ true → IsLastLine code text last → (of : IsRest code n (last ++ more))
    → (texts : List (List ℕ)) → AreFurtherLines of.own texts of.further → more ≡ []
ends_by code n text last more is is_last of [] none =
    (same_first last more of.last [] is_last.is_line.whole of.is_last.is_line.whole (of.whole ∙ ap (λ (l : List ℕ). l ++ of.last) none ∙ sym (append-nil of.last))).1
ends_by code n text last more is is_last of (first ∷ texts) are =
    let found = same_first last more are.0 (are.1 ++ of.last) is_last.is_line.whole are.3.is_line.whole (of.whole ∙ ap (λ (l : List ℕ). l ++ of.last) are.2 ∙ append_assoc are.0 are.1 of.last) in
    absurd (not_last of.own code first text are.0 last of.is_code_of is are.3 is_last (sym found.0))

pub reply_ends : (octets more : List ℕ) → AreReply octets → AreReply (octets ++ more) → more ≡ []
reply_ends octets more are longer =
    let is = are.1 in
    let all : IsRest is.code 0 (is.further ++ (is.last ++ more)) = subst (IsRest is.code 0) (ap (λ (l : List ℕ). l ++ more) is.whole ∙ append_assoc is.further is.last more) (whole_rest is.code (octets ++ more) longer.0 longer.1) in
    let rest = rest_after_all is.code 0 is.texts is.further (is.last ++ more) is.is_code_of is.are_further all in
    ends_by is.code (0 + length is.texts) is.text is.last more is.is_code_of is.is_last rest rest.texts rest.are_further

pub never_more : (octets : List ℕ) → AreReply octets → IsBegun octets → ⊥
never_more octets are begun = let none : begun.0 ∷ begun.1 ≡ [] = reply_ends octets (begun.0 ∷ begun.1) are begun.2 in cc

begun_before : (octets : List ℕ) (x : ℕ) (more : List ℕ) → IsFront (octets ++ x ∷ more) → IsBegun octets
begun_before octets x more (inl are) = (x, more, are)
begun_before octets x more (inr begun) = (x, more ++ begun.0 ∷ begun.1, subst AreReply (append_assoc octets (x ∷ more) (begun.0 ∷ begun.1)) begun.2)

begun_at : (octets : List ℕ) (k last : ℕ) (more : List ℕ) → take last octets ≡ take k octets ++ more → 0 < length more → IsFront (take last octets) → IsBegun (take k octets)
begun_at octets k last [] whole some front = absurd (omega (arith, some))
begun_at octets k last (x ∷ more) whole some front = begun_before (take k octets) x more (subst IsFront whole front)

-- fewer octets of a front are the front of one that goes on
pub begun_below : (octets : List ℕ) (k last : ℕ) → k < last → last ≤ length octets → IsFront (take last octets) → IsBegun (take k octets)
begun_below octets k last lt fits front =
    let shorter = take-take k last octets (omega (arith, lt)) in
    let whole : take last octets ≡ take k octets ++ drop k (take last octets) = sym (take-append-drop k (take last octets)) ∙ ap (λ (l : List ℕ). l ++ drop k (take last octets)) shorter in
    let count = ap (λ (l : List ℕ). length l) whole ∙ length-append (take k octets) (drop k (take last octets)) in
    begun_at octets k last (drop k (take last octets)) whole (omega (arith, lt, count, length-take-le last octets fits, length-take-le k octets (omega (arith, lt, fits)))) front

front_below : (octets : List ℕ) (k last : ℕ) → k ≤ last → last ≤ length octets → IsFront (take last octets) → IsFront (take k octets)
front_below octets k last le fits front = elim (cases_order k last) [
  | inl same ↦ subst (λ n. IsFront (take n octets)) (sym same) front
  | inr (inl lt) ↦ inr (begun_below octets k last lt fits front)
  | inr (inr gt) ↦ absurd (omega (arith, le, gt))
]

-- the octets that begin none
no_front_at : (octets : List ℕ) (used : ℕ) → used ≤ length octets → IsNoFront (take used octets) → (IsFront (take used octets) → ⊥) × (0 < used) × IsBegun (take (used - 1) octets)
no_front_at octets used fits none =
    let count = length-take-le used octets fits in
    let some = none.some in
    (none.not_front, omega (arith, count, some), subst IsBegun (ap (λ n. take (n - 1) (take used octets)) count ∙ take-take (used - 1) used octets (omega arith)) none.front)

whole_begun : (octets : List ℕ) (k : ℕ) → k ≤ length octets → IsBegun octets → IsFront (take k octets)
whole_begun octets k fits begun = front_below octets k (length octets) fits (omega arith) (inr (subst IsBegun (sym (take_all (length octets) octets (omega arith))) begun))

-- a reply and what is no front, at places of the same octets
reply_none : (octets : List ℕ) (used other : ℕ) → used ≤ length octets → AreReply (take used octets) → other ≤ length octets → IsNoFront (take other octets) → ⊥
reply_none octets used other fits are other_fits none =
    let at = no_front_at octets other other_fits none in
    let some = at.1 in
    elim (cases_order used (other - 1)) [
      | inl same ↦ never_more (take used octets) are (subst (λ n. IsBegun (take n octets)) (sym same) at.2)
      | inr (inl lt) ↦ never_more (take used octets) are (begun_below octets used (other - 1) lt (omega (arith, other_fits)) (inr at.2))
      | inr (inr gt) ↦ at.0 (front_below octets other used (omega (arith, gt, some)) fits (inl are))
    ]

begun_none : (octets : List ℕ) (other : ℕ) → IsBegun octets → other ≤ length octets → IsNoFront (take other octets) → ⊥
begun_none octets other begun fits none = none.not_front (whole_begun octets other fits begun)

reply_begun : (octets : List ℕ) (used : ℕ) → used ≤ length octets → AreReply (take used octets) → IsBegun octets → ⊥
reply_begun octets used fits are begun = elim (cases_order used (length octets)) [
  | inl same ↦ never_more octets (subst AreReply (ap (λ n. take n octets) same ∙ take_all (length octets) octets (omega arith)) are) begun
  | inr (inl lt) ↦ never_more (take used octets) are (begun_below octets used (length octets) lt (omega arith) (inr (subst IsBegun (sym (take_all (length octets) octets (omega arith))) begun)))
  | inr (inr gt) ↦ absurd (omega (arith, fits, gt))
]

same_used : (octets : List ℕ) (used other : ℕ) → other ≤ length octets → AreReply (take used octets) → AreReply (take other octets) → used < other → ⊥
same_used octets used other fits are other_are lt = never_more (take used octets) are (begun_below octets used other lt fits (inl other_are))

none_below : (octets : List ℕ) (used other : ℕ) → other ≤ length octets → IsNoFront (take used octets) → IsNoFront (take other octets) → used < other → ⊥
none_below octets used other fits none other_none lt =
    let at = no_front_at octets other fits other_none in
    none.not_front (front_below octets used (other - 1) (omega (arith, lt)) (omega (arith, fits)) (inr at.2))

pub read_once : (octets : List ℕ) (one other : ReplyRead) → IsReplyRead octets one → IsReplyRead octets other → one ≡ other
read_once octets (read.Whole reply used) (read.Whole other_reply other) one two = elim (cases_order used other) [
  | inl same ↦
      let replies : reply ≡ other_reply = said_by (take used octets) reply one.1 ∙ ap (λ n. reply_said (take n octets)) same ∙ sym (said_by (take other octets) other_reply two.1) in
      rw (same, replies) refl
  | inr (inl lt) ↦ absurd (same_used octets used other two.0 (reply, one.1) (other_reply, two.1) lt)
  | inr (inr gt) ↦ absurd (same_used octets other used one.0 (other_reply, two.1) (reply, one.1) gt)
]
read_once octets (read.Whole reply used) read.More one two = absurd (reply_begun octets used one.0 (reply, one.1) two)
read_once octets (read.Whole reply used) (read.NotReply other) one two = absurd (reply_none octets used other one.0 (reply, one.1) two.0 two.1)
read_once octets read.More (read.Whole other_reply other) one two = absurd (reply_begun octets other two.0 (other_reply, two.1) one)
read_once octets read.More read.More one two = refl
read_once octets read.More (read.NotReply other) one two = absurd (begun_none octets other one two.0 two.1)
read_once octets (read.NotReply used) (read.Whole other_reply other) one two = absurd (reply_none octets other used two.0 (other_reply, two.1) one.0 one.1)
read_once octets (read.NotReply used) read.More one two = absurd (begun_none octets used two one.0 one.1)
read_once octets (read.NotReply used) (read.NotReply other) one two = elim (cases_order used other) [
  | inl same ↦ ap read.NotReply same
  | inr (inl lt) ↦ absurd (none_below octets used other two.0 one.1 two.1 lt)
  | inr (inr gt) ↦ absurd (none_below octets other used one.0 two.1 one.1 gt)
]

-- the beginning of a reply, and the octets after which none goes on

pub nothing_begun : IsReplyFront [] (record { start = 0; lines = 0 })
nothing_begun = front_of [] (record { start = 0; lines = 0 }) (record {
  code = 50 ∷ 48 ∷ 48 ∷ [];
  is_code_of = refl;
  texts = [];
  few = omega arith;
  further = [];
  front = [];
  whole = refl;
  are_further = refl;
  in_line = inl (50 ∷ 48 ∷ 48 ∷ [], refl);
  start_is = refl;
  lines_are = refl;
})

pub no_front : (before : List ℕ) (x : ℕ) → IsBegun before → (IsFront (before ++ x ∷ []) → ⊥) → IsNoFront (before ++ x ∷ [])
no_front before x begun none =
    let count = length_push before x in
    let less : length (before ++ x ∷ []) - 1 ≡ length before = omega (arith, count) in
    record {
      not_front = none;
      some = omega (arith, count);
      front = subst IsBegun (sym (ap (λ n. take n (before ++ x ∷ [])) less ∙ take_at before (x ∷ []) (length before) refl)) begun;
    }

-- one octet more, as it is read

next_octets : (octets before following : List ℕ) (used : ℕ) → used < length octets → before ≡ take used octets → following ≡ drop used octets
    → take (used + 1) octets ≡ before ++ get_or following 0 0 ∷ []
next_octets octets before following used lt front back =
    let first : get_or following 0 0 ≡ get_or octets used 0 = ap (λ (l : List ℕ). get_or l 0 0) back ∙ get_or-drop used octets 0 0 ∙ ap (λ n. get_or octets n 0) (add-zero used) in
    take_more octets used 0 lt ∙ rw (front, first) refl

pub none_read : (octets before following : List ℕ) (used : ℕ) (place : Place) → used < length octets → before ≡ take used octets → following ≡ drop used octets
    → IsReplyFront (take used octets) place → (IsReplyFront before place → IsFront (before ++ get_or following 0 0 ∷ []) → ⊥) → IsReplyRead octets (read.NotReply (used + 1))
none_read octets before following used place lt front back is none =
    let here : IsReplyFront before place = subst (λ l. IsReplyFront l place) (sym front) is in
    (omega (arith, lt), subst IsNoFront (sym (next_octets octets before following used lt front back)) (no_front before (get_or following 0 0) here.begun (none here)))

pub more_read : (octets : List ℕ) (used : ℕ) (place : Place) → length octets ≤ used → IsReplyFront (take used octets) place → IsBegun octets
more_read octets used place all is = subst IsBegun (take_all used octets all) is.begun

pub none_taken : (before piece octets kept made : List ℕ) (used : ℕ) (place : Place) → used < length piece → octets ≡ before ++ take used piece → IsReplyFront octets place → kept ≡ octets
    → (IsReplyFront kept place → IsFront (kept ++ get_or piece used 0 ∷ []) → ⊥) → made ≡ octets ++ get_or piece used 0 ∷ [] → DecidesBy before piece made (used + 1)
none_taken before piece octets kept made used place lt are is same none made_is =
    let here : IsReplyFront kept place = subst (λ l. IsReplyFront l place) (sym same) is in
    let all : made ≡ kept ++ get_or piece used 0 ∷ [] = made_is ∙ ap (λ (l : List ℕ). l ++ get_or piece used 0 ∷ []) (sym same) in
    record {
      some = omega arith;
      fits = omega (arith, lt);
      octets_are = made_is ∙ ap (λ (l : List ℕ). l ++ get_or piece used 0 ∷ []) are ∙ append_assoc before (take used piece) (get_or piece used 0 ∷ [])
          ∙ ap (λ (l : List ℕ). before ++ l) (sym (take_more piece used 0 lt));
      decided = inr (subst IsNoFront (sym all) (no_front kept (get_or piece used 0) here.begun (none here)));
    }

pub reply_made : (octets : List ℕ) (reply : Reply) (code : ℕ) (lines : List (List ℕ)) (rest : List ℕ) → IsReply octets reply → code ≡ number_written (take 3 octets)
    → map text_of_line (lines_of octets) ≡ lines ++ map text_of_line (lines_of rest) → length rest ≡ 0 → IsReply octets (record { code = code; lines = lines })
unfolding lines_of
reply_made octets reply code lines rest is code_is all none =
    let texts : map text_of_line (lines_of octets) ≡ lines = all ∙ ap (λ (l : List ℕ). lines ++ map text_of_line (lines_of l)) (nil_from_length rest none) ∙ append-nil lines in
    let said : reply ≡ record { code = code; lines = lines } = said_by octets reply is ∙ rw (texts, code_is) refl in
    subst (IsReply octets) said is

-- pieces

pub front_read : (before piece octets : List ℕ) (place : Place) → octets ≡ before ++ piece → IsReplyFront octets place → IsReplyRead (before ++ piece) read.More
front_read before piece octets place are is = subst IsBegun are is.begun

pub decided_once : (octets : List ℕ) → IsDecided octets → IsReplyRead octets read.More → ⊥
decided_once octets (inl are) begun = never_more octets are begun
decided_once octets (inr none) begun = none.not_front (inr begun)

read_longer : (octets more : List ℕ) (found : ReplyRead) → IsDecided octets → IsReplyRead octets found → IsReplyRead (octets ++ more) found
read_longer octets more (read.Whole reply used) decided is =
    (omega (arith, is.0, length-append octets more), subst (λ l. IsReply l reply) (sym (take-append-le used octets more is.0)) is.1)
read_longer octets more read.More decided is = absurd (decided_once octets decided is)
read_longer octets more (read.NotReply used) decided is = (omega (arith, is.0, length-append octets more), subst IsNoFront (sym (take-append-le used octets more is.0)) is.1)

pub decided_read : (before piece octets : List ℕ) (used : ℕ) (found : ReplyRead) → DecidesBy before piece octets used → IsReplyRead octets found → IsReplyRead (before ++ piece) found
decided_read before piece octets used found by is =
    let whole : octets ++ drop used piece ≡ before ++ piece = ap (λ (l : List ℕ). l ++ drop used piece) by.octets_are ∙ append_assoc before (take used piece) (drop used piece)
    ∙ ap (λ (l : List ℕ). before ++ l) (take-append-drop used piece) in
    subst (λ l. IsReplyRead l found) whole (read_longer octets (drop used piece) found by.decided is)
