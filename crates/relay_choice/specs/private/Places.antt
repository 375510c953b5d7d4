-- Where the front of a reply has come to, and what one more octet makes of it.
use Rattle.std.specs.Prelude.{◌≡◌, ℕ, ◌-◌, ◌≤◌, List, [], ◌∷◌, ◌++◌, Bool, true, ◌&&◌, ◌||◌, ◌==◌, not, nat_lt, nat_le, if◌then◌else◌, length, slice_index, None}
use Rattle.mail_wire.specs.Numbers.{is_digit}
use Rattle.mail_wire.specs.Lines.{first_line}
use Rattle.relay_choice.specs.declared.replies.TheConstants.{REPLY_LINES, REPLY_LINE_MAX}
use Rattle.relay_choice.specs.declared.steps.Place.{Place}
use Rattle.relay_choice.specs.declared.steps.Step.{Step}
use Rattle.relay_choice.specs.declared.steps.Step.TheVariants as step
use Rattle.relay_choice.specs.Replies.{is_code, AreFurtherLines, AreReply, IsBegun, IsFront}

-- More octets make a reply of these: whole lines, which have this code where there are any, and the front of a next one.
pub record IsReplyFront (octets : List ℕ) (place : Place) : Type 0 where
  pub begun : IsBegun octets
  pub code : List ℕ
  pub is_code_of : is_code code ≡ true
  pub texts : List (List ℕ)
  pub further : List ℕ
  pub front : List ℕ
  pub whole : octets ≡ further ++ front
  pub are_further : AreFurtherLines code texts further
  pub unended : first_line front ≡ None
  pub start_is : place.start ≡ length further
  pub lines_are : place.lines ≡ length texts

-- the line begins in the octets, after no more lines than octets
pub record IsPlaceIn (octets : List ℕ) (place : Place) : Type 0 where
  pub start : place.start ≤ length octets
  pub lines : place.lines ≤ place.start

-- what an octet makes of the front of a reply
abbrev pub StepsTo : (before : List ℕ) (octet : ℕ) → Step → Type 0
StepsTo before octet (step.Within place) = IsReplyFront (before ++ octet ∷ []) place
StepsTo before octet step.Whole = AreReply (before ++ octet ∷ [])
StepsTo before octet step.NotReply = ¬ IsFront (before ++ octet ∷ [])

-- the place after the octet, where the reply goes on
abbrev pub IsStepIn : (before : List ℕ) (octet : ℕ) → Step → Type 0
IsStepIn before octet (step.Within place) = IsPlaceIn (before ++ octet ∷ []) place
IsStepIn before octet step.Whole = Unit {0}
IsStepIn before octet step.NotReply = Unit {0}

-- the first digit of the first line is 2 to 5
abbrev pub first_code_fits : (at octet : ℕ) → Bool
first_code_fits at octet = if at == 0 then nat_le 50 octet && nat_le octet 53 else is_digit octet

abbrev pub code_fits : (before : List ℕ) → Place → (octet : ℕ) → Bool
code_fits before place octet =
    if nat_lt 0 place.lines then slice_index before (length before - place.start) == octet else first_code_fits (length before - place.start) octet

-- after the code of a line with so many before it
abbrev pub sign_fits : (lines octet : ℕ) → Bool
sign_fits lines octet = octet == 32 || octet == 13 || (octet == 45 && nat_lt lines (REPLY_LINES - 1))

abbrev pub text_fits : (line : List ℕ) (octet : ℕ) → Bool
text_fits line octet = not (slice_index line 3 == 13)
    && (nat_lt (length line) (REPLY_LINE_MAX - 2) || (length line == REPLY_LINE_MAX - 2 && octet == 13))

-- the octet is an LF after a CR, which stands after the code or later
pub record EndsReplyLine (line : List ℕ) (octet : ℕ) : Type 0 where
  pub ends : octet ≡ 10
  pub front : List ℕ
  pub line_is : line ≡ front ++ 13 ∷ []
  pub after_code : 3 ≤ length front
