-- The commands of `clap`.
use Rattle.std.specs.Prelude.{ℕ, true, Option, Some, None, List, [], ◌∷◌, codes}
use Rattle.clap.specs.Walk.{Rule}
use Rattle.clap.specs.Simple.{App, new_app, new_rule, with_rule}
use Rattle.clap.specs.declared.builder.action.ArgAction.TheVariants.{Set}

-- a required positional argument of one word
abbrev pub word_rule : List ℕ → Rule
word_rule id = record (new_rule id) { required = true; action = Some Set }

abbrev pub domain_app : App
domain_app = with_rule (new_app (codes "domain")) (word_rule (codes "domain"))

-- one of one word that may be missing
abbrev pub free_rule : List ℕ → Rule
free_rule id = record (new_rule id) { action = Some Set }

abbrev pub account_app : App
account_app = with_rule (with_rule (new_app (codes "account")) (word_rule (codes "address"))) (free_rule (codes "password"))

-- `account`, an address, and a password where there is one
abbrev pub account_words : List ℕ → Option (List ℕ) → List (List ℕ)
account_words address None = codes "account" ∷ address ∷ []
account_words address (Some password) = codes "account" ∷ address ∷ password ∷ []
