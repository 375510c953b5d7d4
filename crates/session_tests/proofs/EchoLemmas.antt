-- Literals that a line announces, and answers that are their rows.
use Rattle.std.proofs.Common.{◌≡◌, ◌<◌, ◌≤◌, ◌==◌, ◌&&◌, ◌+◌, ◌-◌, ℕ, List, [], ◌∷◌, ◌++◌, length, Bool, true, false, Option, Some, None, Result, refl, arith, append-nil}
use Rattle.std.specs.Prelude.{IfOk, codes, nat_le, slice_index}
use Rattle.std.proofs.lemmas.Bool.Decides.{nat_tests}
use Rattle.std.specs.Str.{bytes_eq}
use Rattle.mail_wire.specs.Lines.{crlf}
use Rattle.mail_wire.specs.declared.outside.Fault.{Fault}
use Rattle.mail_wire.proofs.FramingLemmas.{at_most_of, le_true}
use Rattle.session_core.specs.Around.{Around}
use Rattle.session_core.specs.Doing.{Replies}
use Rattle.session_core.specs.Grammar.{Answers, StandsNext}
use Rattle.session_core.specs.Keeps.{fault_of}
use Rattle.session_core.proofs.AnswerLemmas.{Answers-reply}
use Rattle.session_tests.specs.Echo.{EchoStands, State, announces, echo_grammar, ended, literal, literal_of, quit, replies, row_of, saying, state_of}
use Rattle.session_tests.specs.declared.echo.Echo.{Echo}
use Rattle.session_core.specs.Moments.{Moment}

-- ---- literals

pub short_line : (line : List ℕ) → length line < 5 → None ≡ literal_of line
unfolding literal_of
short_line line low = let is : nat_le 5 (length line) ≡ false = grind (arith, nat_tests) in rw is refl

eq_true : (n m : ℕ) → n ≡ m → (n == m) ≡ true
eq_true n m is = grind (arith, nat_tests)

pub announced : (line : List ℕ) → 5 ≤ length line → slice_index line (length line - 5) ≡ 123 → 49 ≤ slice_index line (length line - 5 + 1) → slice_index line (length line - 5 + 1) ≤ 57
    → slice_index line (length line - 5 + 2) ≡ 125 → Some (slice_index line (length line - 5 + 1) - 48) ≡ literal_of line
unfolding literal_of
announced line long a b c d = rw (le_true 5 (length line) long, eq_true (slice_index line (length line - 5)) 123 a, le_true 49 (slice_index line (length line - 5 + 1)) b, le_true (slice_index line (length line - 5 + 1)) 57 c, eq_true (slice_index line (length line - 5 + 2)) 125 d) refl

none_by : (line : List ℕ) (long is : Bool) → nat_le 5 (length line) ≡ long → announces line (length line - 5) ≡ is → (is ≡ true → long ≡ true → is ≡ false) → None ≡ literal_of line
unfolding literal_of
none_by line false is at also apart = rw at refl
none_by line true true at also apart = let wrong = apart refl refl in cc
none_by line true false at also apart = rw (at, also) refl

eq_of : (n m : ℕ) → (n == m) ≡ true → n ≡ m
eq_of n m is = grind (arith, nat_tests)

-- the four tests of a line that announces one
parts_of : (a b c d : Bool) → (a && b && c && d) ≡ true → (a ≡ true) × (b ≡ true) × (c ≡ true) × (d ≡ true)
parts_of true true true true is = (refl, refl, refl, refl)
parts_of true true true false is = cc
parts_of true true false d is = cc
parts_of true false c d is = cc
parts_of false b c d is = cc

pub not_announced : (line : List ℕ) → (slice_index line (length line - 5) ≡ 123 → 49 ≤ slice_index line (length line - 5 + 1) → slice_index line (length line - 5 + 1) ≤ 57
    → slice_index line (length line - 5 + 2) ≡ 125 → ⊥) → None ≡ literal_of line
not_announced line apart = none_by line (nat_le 5 (length line)) (announces line (length line - 5)) refl refl (λ is long.
    let parts = parts_of (slice_index line (length line - 5) == 123) (nat_le 49 (slice_index line (length line - 5 + 1))) (nat_le (slice_index line (length line - 5 + 1)) 57) (slice_index line (length line - 5 + 2) == 125) is in
    absurd (apart (eq_of (slice_index line (length line - 5)) 123 parts.0) (at_most_of 49 (slice_index line (length line - 5 + 1)) parts.1) (at_most_of (slice_index line (length line - 5 + 1)) 57 parts.2) (eq_of (slice_index line (length line - 5 + 2)) 125 parts.3)))

-- ---- rows

-- a reply of the row
pub echo_answers : (a b : Around) (session : Echo) (unit : List ℕ) (result : Result (Option Echo) Fault) (octets : List ℕ) (after : State) → row_of (state_of session) unit ≡ replies octets after
    → Replies a b (fault_of result) octets → ((more : List Moment) → IfOk result (λ next. StandsNext echo_grammar EchoStands more next b.desk after)) → Answers echo_grammar EchoStands a b session unit result
echo_answers a b session unit result octets after row gave next =
    Answers-reply echo_grammar EchoStands a b session unit result (λ oracles. octets ∷ []) (λ oracles more. after) octets (λ oracles are more state stood. rw stood row) (λ oracles are. append-nil octets) gave
    (λ oracles are more. next more)

-- the rows of a line
pub go_row : (said line command : List ℕ) (n : ℕ) → Some n ≡ literal_of line → command ≡ said ++ line → row_of (saying said) line ≡ replies (codes "+ go" ++ crlf) (literal command n)
go_row said line command n is same = rw (← is, same) refl

pub bye_row : (said line command : List ℕ) → None ≡ literal_of line → command ≡ said ++ line → bytes_eq command quit ≡ true → row_of (saying said) line ≡ replies (codes "bye" ++ crlf) ended
bye_row said line command none same is = rw (← none, ← same, is) refl

pub echo_row : (said line command : List ℕ) → None ≡ literal_of line → command ≡ said ++ line → bytes_eq command quit ≡ false → row_of (saying said) line ≡ replies command (saying [])
echo_row said line command none same other = rw (← none, ← same, other) refl
