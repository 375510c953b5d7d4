-- Tokens by their octets, as the code holds them.
use Rattle.std.specs.Prelude.{ℕ, ◌/◌, ◌%◌, ◌==◌, if◌then◌else◌, List, [], ◌∷◌, take, drop}
use Rattle.field_tokens.specs.declared.TokenKind.{TokenKind}
use Rattle.field_tokens.specs.declared.TokenKind.TheVariants.{Atom, Quoted, Literal, Special, Gap, Comment}
use Rattle.field_tokens.specs.declared.lexemes.Lexeme.{Lexeme}
use Rattle.field_tokens.specs.declared.lexemes.Mark.{Mark}
use Rattle.field_tokens.specs.declared.lexemes.Lexemes.{Lexemes}
use Rattle.field_tokens.specs.Tokens.{TokenValue}

-- The kind of a token, and its octets.
abbrev pub value_of : Lexeme → TokenValue
value_of l = record { kind = l.kind; octets = l.octets.now }

-- the number of a kind in a mark
abbrev pub kind_number : TokenKind → ℕ
kind_number Atom = 0
kind_number Quoted = 1
kind_number Literal = 2
kind_number Special = 3
kind_number Gap = 4
kind_number Comment = 5

-- The kind of this number.
abbrev pub kind_numbered : ℕ → TokenKind
kind_numbered n = if n == 0 then Atom else if n == 1 then Quoted else if n == 2 then Literal else if n == 3 then Special else if n == 4 then Gap else Comment

-- The kind of a token, which the lowest three bits of its mark say.
abbrev pub marked_kind : Mark → TokenKind
marked_kind m = kind_numbered (m.code % 8)

-- The length of a token, which the other bits of its mark say.
abbrev pub marked_len : Mark → ℕ
marked_len m = m.code / 8

-- The tokens of marks, one after another from the text's beginning on. Where the text ends in one it is as long as that.
abbrev pub lexemes_in : List ℕ → List Mark → List TokenValue
lexemes_in text [] = []
lexemes_in text (m ∷ ms) = record { kind = marked_kind m; octets = take (marked_len m) text } ∷ lexemes_in (drop (marked_len m) text) ms

-- The tokens of a text, by their kinds and octets.
abbrev pub values_of : Lexemes → List TokenValue
values_of ls = lexemes_in ls.text.now ls.marks.now
