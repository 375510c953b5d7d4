-- What a command of `clap` makes of plain words: each goes to the next positional argument.
use Rattle.std.proofs.Common.{ap, ap₂, refl, true, false, List, ℕ, None, [], ◌∷◌, ◌≡◌, ◌∙◌, ◌==◌}
use Rattle.std.proofs.Common.{bytes_eq}
use Rattle.std.specs.Prelude.{cond, is_some}
use Rattle.std.specs.Option.{option_map_or}
use Rattle.clap.specs.Lexer.{long_of, short_of}
use Rattle.clap.specs.Walk.{Rule, Text, Held, Walk, word_met, value, trailing, idle, after_step, to_positional, arg_by_index, walked, long_or_other, short_or_plain, settled, finished}
use Rattle.clap.specs.Faults.{word_fault, flag_word_fault, bundle_fault, step_fault, turn_fault, walk_fault, entered_fault, settle_fault, defaults_fault, check_fault}
use Rattle.clap.specs.Simple.{App, Shape, entered}
use Rattle.clap.specs.Kinds.{Kinds, or_else}
use Rattle.std.proofs.lemmas.Bool.{not-true}
use Rattle.setup_command.specs.PlainWords.{is_plain_word}

-- ---- one word

no_long : (x : ℕ) (xs : List ℕ) → (x == 45) ≡ false → long_of (x ∷ xs) ≡ None
no_long x xs is = rw is refl

no_short : (x : ℕ) (xs : List ℕ) → (x == 45) ≡ false → short_of (x ∷ xs) ≡ None
no_short x xs is = rw is refl

no_dashes : (x : ℕ) (xs : List ℕ) → (x == 45) ≡ false → bytes_eq (x ∷ xs) (45 ∷ 45 ∷ []) ≡ false
no_dashes x xs is = rw is refl

plain_met : (c : List Rule) (position x : ℕ) (xs : List ℕ) (h : Held) → (x == 45) ≡ false → word_met c [] false idle position (x ∷ xs) h ≡ (h, value)
plain_met c position x xs h is =
    ap (λ b. cond b (h, trailing position) (long_or_other c idle (x ∷ xs) (long_of (x ∷ xs)) h)) (no_dashes x xs is)
    ∙ ap (λ o. long_or_other c idle (x ∷ xs) o h) (no_long x xs is)
    ∙ ap (λ o. short_or_plain c idle (x ∷ xs) o h) (no_short x xs is)

plain_fault : (s : Shape) (x : ℕ) (xs : List ℕ) (h : Held) → (x == 45) ≡ false → word_fault s [] false idle (x ∷ xs) h ≡ []
plain_fault s x xs h is =
    ap (λ b. cond b [] (flag_word_fault s.rules s.args_override_self (long_of (x ∷ xs)) (x ∷ xs) h)) (no_dashes x xs is)
    ∙ ap (λ o. flag_word_fault s.rules s.args_override_self o (x ∷ xs) h) (no_long x xs is)
    ∙ ap (λ o. option_map_or (λ flags. bundle_fault s.rules s.args_override_self flags h) o []) (no_short x xs is)

-- ---- a walk over such words

-- a walk that stands before a positional
abbrev pub standing : Held → ℕ → Walk
standing h position = record { held = h; waiting = idle; position = position; is_trailing = false; stopped = None }

-- a plain word goes to the positional
pub turned : (c : List Rule) (h : Held) (position : ℕ) (word : Text) → is_plain_word word ≡ true
    → walked c [] (standing h position) word ≡ to_positional c (arg_by_index c position) word (standing h position) h
unfolding walked
turned c h position [] plain = cc
turned c h position (x ∷ xs) plain =
    ap (λ met. after_step c (x ∷ xs) (standing h position) met.0 met.1) (plain_met c position x xs h (not-true (x == 45) plain))

fault_turned : (s : Shape) (h : Held) (position : ℕ) (word : Text) → is_plain_word word ≡ true → turn_fault s [] (standing h position) word ≡ step_fault s position h value
fault_turned s h position [] plain = cc
fault_turned s h position (x ∷ xs) plain =
    let is = not-true (x == 45) plain in
    ap₂ (λ kinds met. or_else kinds (step_fault s position met.0 met.1)) (plain_fault s x xs h is) (plain_met s.rules position x xs h is)

-- the faults of a plain word and of the words after it
pub faults_on : (s : Shape) (h : Held) (position : ℕ) (word : Text) (rest : List Text) → is_plain_word word ≡ true
    → walk_fault s [] (standing h position) (word ∷ rest)
    ≡ or_else (step_fault s position h value) (walk_fault s [] (to_positional s.rules (arg_by_index s.rules position) word (standing h position) h) rest)
unfolding walk_fault
faults_on s h position word rest plain =
    ap₂ (λ kinds w. or_else kinds (walk_fault s [] w rest)) (fault_turned s h position word plain) (turned s.rules h position word plain)

-- the faults of a parse, by its walk and the faults of that
abbrev pub faults_by : App → Walk → Kinds → Kinds
faults_by a w kinds =
    or_else kinds
    (or_else (entered_fault a w.stopped)
    (or_else (settle_fault a.top.rules a.top.args_override_self w.held)
    (or_else (defaults_fault (settled a.top.rules w.held).rows a.top.rules)
    (check_fault a.top (finished a.top.rules w.held) (is_some (entered a w.stopped))))))
