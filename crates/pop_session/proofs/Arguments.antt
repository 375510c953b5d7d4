-- The argument of a command.
use Rattle.std.proofs.Common.{◌≡◌, ℕ, ◌-◌, ◌^◌, min, List, take, drop, refl, ap, Option, Some, None}
use Rattle.std.specs.List.{position}
use Rattle.std.specs.Option.{option_map}
use Rattle.std.proofs.lemmas.List.{drop-drop}
use Rattle.pop_session.specs.Commands.{argument_of, text_of, is_space, both_numbers, top_numbers_of}
use Rattle.pop_session.specs.private.Saturated.{saturated}
use Rattle.mail_wire.specs.Numbers.{number_of}

pub argument_some : (line text rest argument : List ℕ) (at : ℕ) → text ≡ text_of line → Some at ≡ position is_space text → rest ≡ drop at text → argument ≡ drop 1 rest
    → Some argument ≡ argument_of (text_of line)
unfolding argument_of
argument_some line text rest argument at is found front back =
    rw (← is, ← found, back, front) (ap Some (drop-drop 1 at text))

pub argument_none : (line text : List ℕ) → text ≡ text_of line → None ≡ position is_space text → None ≡ argument_of (text_of line)
unfolding argument_of
argument_none line text is found = rw (← is, ← found) refl

-- ---- two numbers with a space between them

abbrev pub capped : Option ℕ → Option ℕ
capped number = option_map (λ n. min n (2 ^ 64 - 1)) number

-- without a space there are no two numbers
pub top_numbers-no_space : (text : List ℕ) → None ≡ position is_space text → None ≡ option_map saturated (top_numbers_of text)
unfolding top_numbers_of
top_numbers-no_space text found = rw (← found) refl

-- with a space they stand before and after the first one
top_numbers-space : (text front rest lines : List ℕ) (at : ℕ) → Some at ≡ position is_space text → front ≡ take at text → rest ≡ drop at text → lines ≡ drop 1 rest
    → both_numbers (number_of front) (number_of lines) ≡ top_numbers_of text
unfolding top_numbers_of
top_numbers-space text front rest lines at found before following back = rw (← found, back, following, before, drop-drop 1 at text) refl

first-none : (a b : Option ℕ) → None ≡ capped a → None ≡ option_map saturated (both_numbers a b)
first-none None b none = refl
first-none (Some n) b none = cc

second-none : (a b : Option ℕ) → None ≡ capped b → None ≡ option_map saturated (both_numbers a b)
second-none None b none = refl
second-none (Some n) None none = refl
second-none (Some n) (Some m) none = cc

both-some : (a b : Option ℕ) (n m : ℕ) → Some n ≡ capped a → Some m ≡ capped b → Some (record { number = n; lines = m }) ≡ option_map saturated (both_numbers a b)
both-some None b n m first second = cc
both-some (Some x) None n m first second = cc
both-some (Some x) (Some y) n m first second = cc

-- before the space stands no number
pub top_numbers-no_first : (text front rest lines : List ℕ) (at : ℕ) → Some at ≡ position is_space text → front ≡ take at text → rest ≡ drop at text → lines ≡ drop 1 rest
    → None ≡ capped (number_of front) → None ≡ option_map saturated (top_numbers_of text)
top_numbers-no_first text front rest lines at found before following back none =
    rw (← top_numbers-space text front rest lines at found before following back) (first-none (number_of front) (number_of lines) none)

-- after the space stands no number
pub top_numbers-no_second : (text front rest lines : List ℕ) (at : ℕ) → Some at ≡ position is_space text → front ≡ take at text → rest ≡ drop at text → lines ≡ drop 1 rest
    → None ≡ capped (number_of lines) → None ≡ option_map saturated (top_numbers_of text)
top_numbers-no_second text front rest lines at found before following back none =
    rw (← top_numbers-space text front rest lines at found before following back) (second-none (number_of front) (number_of lines) none)

-- there are two numbers
pub top_numbers-both : (text front rest lines : List ℕ) (at n m : ℕ) → Some at ≡ position is_space text → front ≡ take at text → rest ≡ drop at text → lines ≡ drop 1 rest
    → Some n ≡ capped (number_of front) → Some m ≡ capped (number_of lines) → Some (record { number = n; lines = m }) ≡ option_map saturated (top_numbers_of text)
top_numbers-both text front rest lines at n m found before following back first second =
    rw (← top_numbers-space text front rest lines at found before following back) (both-some (number_of front) (number_of lines) n m first second)
