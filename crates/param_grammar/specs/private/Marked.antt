-- Tokens by their marks and their places.
use Rattle.std.specs.Prelude.{ℕ, ◌+◌, ◌-◌, if◌then◌else◌, nat_lt, List, [], ◌∷◌}
use Rattle.field_tokens.specs.declared.Token.{Token}
use Rattle.field_tokens.specs.declared.lexemes.Mark.{Mark}
use Rattle.field_tokens.specs.Lexemes.{marked_kind, marked_len}
use Rattle.param_grammar.specs.declared.tokens.Tokens.{Tokens}

-- a length, and no more than what is left
abbrev pub cut_to : ℕ → ℕ → ℕ
cut_to left len = if nat_lt left len then left else len

-- the tokens of marks of a text that ends there, the first one at this place
abbrev pub tokens_in : ℕ → ℕ → List Mark → List Token
tokens_in end at [] = []
tokens_in end at (mark ∷ marks) = record { kind = marked_kind mark; span = record { at = at; len = cut_to (end - at) (marked_len mark) } }
    ∷ tokens_in end (at + cut_to (end - at) (marked_len mark)) marks

abbrev pub tokens_of : Tokens → List Token
tokens_of tokens = tokens_in tokens.end tokens.at tokens.marks.now
