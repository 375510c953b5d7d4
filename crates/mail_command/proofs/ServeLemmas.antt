-- The words of `serve`.
use Rattle.std.proofs.Common.{◌≡◌, ℕ, ◌^◌, ◌<◌, ◌≤◌, List, [], ◌∷◌, length, true, not, codes, Result, Ok, Some, arith, ap, ◌∙◌}
use Rattle.std.specs.List.{slice_get}
use Rattle.std.specs.Str.{bytes_eq}
use Rattle.std.specs.Str.Parse.{ParsesUnsigned}
use Rattle.std.proofs.lemmas.Fmt.{parse-decimal}
use Rattle.std.proofs.lemmas.Slice.Eq.{bytes_eq-Decides}
use Rattle.mail_command.specs.declared.roles.Role.{Role}
use Rattle.mail_command.specs.Words.{IsNoCommand, IsNumberUpTo, IsServeCommand, role_word}
use Rattle.mail_command.proofs.WordsLemmas.{fewer}

-- a text that spells a number is read as it
pub read_as : {E : Type 0} (max number : ℕ) (text : List ℕ) (r : Result ℕ E) → max < 2 ^ 32 → IsNumberUpTo max text number → ParsesUnsigned 32 10 text r → r ≡ Ok number
read_as max number text r fits is parses =
    let bound = is.bound in
    parse-decimal 32 number text r (omega (arith, fits, bound)) (omega (arith, fits, bound)) is.text_is parses

same_number : {E : Type 0} (r : Result ℕ E) (a b : ℕ) → r ≡ Ok a → r ≡ Ok b → a ≡ b
same_number r a b one other = cc

-- what was read is the number that the text spells
pub read_same : {E : Type 0} (max number found : ℕ) (text : List ℕ) (r : Result ℕ E) → max < 2 ^ 32 → IsNumberUpTo max text number → ParsesUnsigned 32 10 text r → r ≡ Ok found → found ≡ number
read_same max number found text r fits is parses reads = same_number r found number reads (read_as max number text r fits is parses)

-- texts that are told to differ aren't the same
pub other_text : (a b : List ℕ) → a ≡ b → true ≡ not (bytes_eq a b) → ⊥
other_text a b same other = let told : true ≡ not true = other ∙ ap not ((bytes_eq-Decides a b).1 same) in cc

-- a list of four words
pub are_four : (words : List (List ℕ)) (a b c d : List ℕ) → slice_get words 0 ≡ Some a → slice_get words 1 ≡ Some b → slice_get words 2 ≡ Some c → slice_get words 3 ≡ Some d
    → length words ≤ 4 → words ≡ a ∷ b ∷ c ∷ d ∷ []
are_four [] a b c d first second third fourth few = cc
are_four (x ∷ []) a b c d first second third fourth few = cc
are_four (x ∷ y ∷ []) a b c d first second third fourth few = cc
are_four (x ∷ y ∷ z ∷ []) a b c d first second third fourth few = cc
are_four (x ∷ y ∷ z ∷ w ∷ []) a b c d first second third fourth few = cc
are_four (x ∷ y ∷ z ∷ w ∷ v ∷ words) a b c d first second third fourth few = absurd (omega arith)

-- a list of two words
pub are_two : (words : List (List ℕ)) (a b : List ℕ) → slice_get words 0 ≡ Some a → slice_get words 1 ≡ Some b → length words ≤ 2 → words ≡ a ∷ b ∷ []
are_two [] a b first second few = cc
are_two (x ∷ []) a b first second few = cc
are_two (x ∷ y ∷ []) a b first second few = cc
are_two (x ∷ y ∷ z ∷ words) a b first second few = absurd (omega arith)

-- ---- the words are those of no command

pub no_command : (words : List (List ℕ)) (role : Role) (port connections : ℕ) → IsServeCommand words role port connections → IsNoCommand words
no_command words role port connections is = record {
  downgrade = λ one. fewer words (codes "downgrade" ∷ []) _ one is.words_are (omega arith);
  check = λ one. fewer words (codes "check" ∷ []) _ one is.words_are (omega arith);
  session = λ other one. fewer words (role_word other ∷ []) _ one is.words_are (omega arith);
  account = λ address password one. fewer words (codes "account" ∷ one.text ∷ password ∷ []) _ one.words_are is.words_are (omega arith);
  by_input = λ address one. fewer words (codes "account" ∷ one.text ∷ []) _ one.words_are is.words_are (omega arith);
  domain = λ name one. fewer words (codes "domain" ∷ name ∷ []) _ one.words_are is.words_are (omega arith);
  help = λ one. fewer words (codes "help" ∷ []) _ one is.words_are (omega arith);
  gen = λ number one. fewer words (codes "gen" ∷ one.text ∷ []) _ one.words_are is.words_are (omega arith);
  relay = λ host one. fewer words (codes "relay" ∷ host ∷ []) _ one.words_are is.words_are (omega arith);
}
