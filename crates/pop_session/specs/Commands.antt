-- The words of a command line (RFC 1939, 3).
use Rattle.std.specs.Prelude.{ℕ, ◌+◌, ◌-◌, ◌==◌, List, [], ◌∷◌, Bool, Option, None, Some, length, take, drop, codes, if◌then◌else◌, unwrap_or, option_and_then, position}
use Rattle.std.specs.List.{before_first}
use Rattle.std.specs.Option.{option_map}
use Rattle.http_lines.specs.Requests.{is_http_request}
use Rattle.mail_wire.specs.Characters.{space}
use Rattle.mail_wire.specs.Numbers.{number_of}
use Rattle.mail_wire.specs.Tables.{Named, said_by}
use Rattle.pop_session.specs.declared.command.Keyword.{Keyword}
use Rattle.pop_session.specs.declared.command.TopNumbers.{TopNumbers}
use Rattle.pop_session.specs.declared.command.Keyword.TheVariants as keyword

-- a command: its keyword, and what stands after the first space, where there is one
pub record Command : Type 0 where
  pub keyword : Keyword
  pub argument : Option (List ℕ)

-- the keywords that are read
abbrev pub keywords : List (Named Keyword)
keywords =
    record { word = codes "user"; says = keyword.User }
    ∷ record { word = codes "pass"; says = keyword.Pass }
    ∷ record { word = codes "utf8"; says = keyword.Utf8 }
    ∷ record { word = codes "stat"; says = keyword.Stat }
    ∷ record { word = codes "list"; says = keyword.List }
    ∷ record { word = codes "retr"; says = keyword.Retr }
    ∷ record { word = codes "quit"; says = keyword.Quit }
    ∷ record { word = codes "capa"; says = keyword.Capa }
    ∷ record { word = codes "uidl"; says = keyword.Uidl }
    ∷ record { word = codes "top"; says = keyword.Top }
    ∷ record { word = codes "dele"; says = keyword.Dele }
    ∷ record { word = codes "rset"; says = keyword.Rset }
    ∷ record { word = codes "noop"; says = keyword.Noop } ∷ []

-- Keywords are read in any case (RFC 1939, 3).
abbrev pub keyword_of : List ℕ → Keyword
keyword_of word = unwrap_or (said_by keywords word) keyword.Other

-- A space, which divides a keyword from its argument (RFC 1939, 3).
abbrev pub is_space : ℕ → Bool
is_space x = x == space

-- the line without its CRLF
abbrev pub text_of : List ℕ → List ℕ
text_of line = take (length line - 2) line

-- What follows the first space, if there is one (RFC 1939, 3).
unfoldable pub argument_of : List ℕ → Option (List ℕ)
argument_of text = option_map (λ at. drop (at + 1) text) (position is_space text)

-- a line that begins an HTTP request has a keyword of its own (RFC 9112, 3)
abbrev pub keyword_in : List ℕ → Keyword
keyword_in line = if is_http_request line then keyword.Http else keyword_of (before_first is_space (text_of line))

-- the command of a line
abbrev pub command_of : List ℕ → Command
command_of line = record { keyword = keyword_in line; argument = argument_of (text_of line) }

-- The message number and the number of lines of TOP, where the latter is one (RFC 1939, 7).
abbrev pub with_lines : ℕ → Option ℕ → Option TopNumbers
with_lines number None = None
with_lines number (Some lines) = Some (record { number = number; lines = lines })

-- the number of a message and that of lines (RFC 1939, 7, TOP)
abbrev pub both_numbers : Option ℕ → Option ℕ → Option TopNumbers
both_numbers None lines = None
both_numbers (Some number) lines = with_lines number lines

-- two numbers with one space between them
unfoldable pub top_numbers_of : List ℕ → Option TopNumbers
top_numbers_of text = option_and_then (λ at. both_numbers (number_of (take at text)) (number_of (drop (at + 1) text))) (position is_space text)
