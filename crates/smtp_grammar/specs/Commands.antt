-- The words of a command line (RFC 5321, 4.1; RFC 6531, 3.4).
use Rattle.std.specs.Prelude.{ℕ, ◌+◌, ◌-◌, ◌^◌, ◌==◌, ◌&&◌, ◌||◌, not, List, [], ◌∷◌, Bool, true, false, Option, None, Some, length, take, drop, map, codes, if◌then◌else◌, unwrap_or, nat_le, nat_lt, min, position, filter}
use Rattle.std.specs.Option.{option_map, option_and_then}
use Rattle.std.specs.List.{before_first, list_all, list_any, slice_split, position_or_len, suffix_len}
use Rattle.std.specs.Str.{bytes_eq}
use Rattle.std.specs.Char.{to_ascii_lowercase, is_ascii_alphanumeric}
use Rattle.mail_wire.specs.Characters.{space, quote, left_parenthesis, less_than, equals_sign, greater_than, left_bracket, backslash, right_bracket}
use Rattle.mail_wire.specs.Numbers.{number_of}
use Rattle.mail_wire.specs.Tables.{Named, said_by}
use Rattle.mail_wire.specs.Octets.{is_white, is_nonwhite, same_name}
use Rattle.smtp_grammar.specs.declared.command.Verb.{Verb}
use Rattle.smtp_grammar.specs.declared.command.Verb.TheVariants as verb
use Rattle.smtp_grammar.specs.declared.command.Place.{Place}
use Rattle.smtp_grammar.specs.declared.command.Place.TheVariants as place
use Rattle.smtp_grammar.specs.declared.command.Parameter.{Parameter}
use Rattle.smtp_grammar.specs.declared.command.Parameter.TheVariants as parameter

-- ---- white

-- without the white that it begins with
abbrev pub after_white : List ℕ → List ℕ
after_white text = drop (position_or_len is_nonwhite text) text

-- without the white that it ends with
abbrev pub before_white : List ℕ → List ℕ
before_white text = take (length text - suffix_len is_white text) text

-- ---- the verb

-- the verbs that are read
abbrev pub verbs : List (Named Verb)
verbs =
    record { word = codes "ehlo"; says = verb.Ehlo }
    ∷ record { word = codes "helo"; says = verb.Helo }
    ∷ record { word = codes "mail"; says = verb.Mail }
    ∷ record { word = codes "rcpt"; says = verb.Rcpt }
    ∷ record { word = codes "data"; says = verb.Data }
    ∷ record { word = codes "rset"; says = verb.Rset }
    ∷ record { word = codes "noop"; says = verb.Noop }
    ∷ record { word = codes "vrfy"; says = verb.Vrfy }
    ∷ record { word = codes "quit"; says = verb.Quit } ∷ []

-- verbs are read in any case
abbrev pub verb_of : List ℕ → Verb
verb_of word = unwrap_or (said_by verbs word) verb.Other

-- A command: its verb, which is the first word, and what stands after it, without white at both ends.
pub record Command : Type 0 where
  pub verb : Verb
  pub argument : List ℕ

-- the line without its CRLF, and without white at both ends
abbrev pub text_of : List ℕ → List ℕ
text_of line = after_white (before_white (take (length line - 2) line))

-- The command of a text: its verb up to the first white, and what follows the white (RFC 5321, 2.4).
abbrev pub command_of_text : List ℕ → Command
command_of_text text = record { verb = verb_of (before_first is_white text); argument = after_white (drop (position_or_len is_white text) text) }

-- The command of a line (RFC 5321, 2.4).
abbrev pub command_of : List ℕ → Command
command_of line = command_of_text (text_of line)

-- ---- EHLO and HELO

-- a letter, a digit, or one of `.-_:[]`
abbrev pub is_client_octet : ℕ → Bool
is_client_octet x = is_ascii_alphanumeric x || list_any (λ y. y == x) (codes ".-_:[]")

-- the name that a client may say of itself
abbrev pub is_client : List ℕ → Bool
is_client name = nat_lt 0 (length name) && nat_le (length name) 255 && list_all is_client_octet name

-- ---- the path of MAIL and RCPT

-- The place after an octet. Brackets enclose a literal; a backslash takes the next octet with it in quotes and in a literal.
abbrev pub path_place_after : Place → ℕ → Place
path_place_after place.Plain x = if x == quote then place.Quoted else (if x == left_bracket then place.Literal else place.Plain)
path_place_after place.Quoted x = if x == quote then place.Plain else (if x == backslash then place.QuotedPair else place.Quoted)
path_place_after place.QuotedPair x = place.Quoted
path_place_after place.Literal x = if x == right_bracket then place.Plain else (if x == backslash then place.LiteralPair else place.Literal)
path_place_after place.LiteralPair x = place.Literal

-- The octet stands at this place, outside of quotes and of a literal.
abbrev pub stands_plain : ℕ → Place → ℕ → Bool
stands_plain octet place.Plain x = x == octet
stands_plain octet place.Quoted x = false
stands_plain octet place.QuotedPair x = false
stands_plain octet place.Literal x = false
stands_plain octet place.LiteralPair x = false

-- How long a text is up to the first `>` outside of quotes and of a literal, where no comment begins before it by `(`.
unfoldable pub path_len : Place → List ℕ → Option ℕ
path_len place [] = None
path_len place (x ∷ rest) =
    if stands_plain greater_than place x then Some 1
    else if stands_plain left_parenthesis place x then None
    else option_map (λ n. n + 1) (path_len (path_place_after place x) rest)

-- without one space in front, if there is one
abbrev pub after_space : List ℕ → List ℕ
after_space [] = []
after_space (x ∷ rest) = if x == space then rest else x ∷ rest

-- what follows a word, which may be in any case, and one space, if there is one
abbrev pub after_word : List ℕ → List ℕ → Option (List ℕ)
after_word word text = if same_name (take (length word) text) word then Some (after_space (drop (length word) text)) else None

-- the words that white divides
abbrev pub white_words : List ℕ → List (List ℕ)
white_words text = filter (λ word. not (length word == 0)) (slice_split is_white text)

-- A path, which begins with `<`, and what stands after it, which white divides from it.
pub record PathAndRest : Type 0 where
  pub path : List ℕ
  pub rest : List ℕ

-- nothing follows, or white does
abbrev pub ends_word : List ℕ → Bool
ends_word [] = true
ends_word (x ∷ rest) = is_white x

-- The text begins with `<`, as a path does (RFC 5321, 4.1.2).
abbrev pub begins_path : List ℕ → Bool
begins_path [] = false
begins_path (x ∷ rest) = x == less_than

-- A path of so many octets and what follows it, where this is nothing or begins with white.
abbrev pub path_and_rest : List ℕ → ℕ → Option PathAndRest
path_and_rest text n = if ends_word (drop n text) then Some (record { path = take n text; rest = drop n text }) else None

-- the path that a text begins with
abbrev pub path_in : List ℕ → Option PathAndRest
path_in text = if begins_path text then option_and_then (path_and_rest text) (path_len place.Plain text) else None

-- the path after a word, such as `FROM:`, and one space, if there is one
abbrev pub path_after : List ℕ → List ℕ → Option PathAndRest
path_after word argument = option_and_then path_in (after_word word argument)

-- ---- the parameters of MAIL (RFC 1870, 3; RFC 6152, 2; RFC 6531, 3.4)

-- The `=` between the keyword of a parameter and its value (RFC 5321, 4.1.2).
abbrev pub is_sign : ℕ → Bool
is_sign x = x == equals_sign

-- what stands before the first `=`, or all where none is there, in lower case
abbrev pub parameter_keyword : List ℕ → List ℕ
parameter_keyword word = map to_ascii_lowercase (before_first is_sign word)

-- what stands after the first `=`, where one is there
abbrev pub parameter_value : List ℕ → Option (List ℕ)
parameter_value word = option_map (λ at. drop (at + 1) word) (position is_sign word)

-- SIZE with this number, or with none
abbrev pub size_said : Option ℕ → Parameter
size_said None = parameter.Malformed
size_said (Some number) = parameter.Size number

-- SIZE, with its number, or the greatest of its type
abbrev pub size_parameter : Option (List ℕ) → Parameter
size_parameter None = parameter.Malformed
size_parameter (Some value) = size_said (option_map (λ number. min number (2 ^ 64 - 1)) (number_of value))

-- BODY with 7BIT or 8BITMIME, in any case of their letters (RFC 6152, 2).
abbrev pub body_parameter : Option (List ℕ) → Parameter
body_parameter None = parameter.Malformed
body_parameter (Some value) = if same_name value (codes "7bit") || same_name value (codes "8bitmime") then parameter.Body else parameter.Malformed

-- SMTPUTF8, which has no value (RFC 6531, 3.4).
abbrev pub smtputf8_parameter : Option (List ℕ) → Parameter
smtputf8_parameter None = parameter.Smtputf8
smtputf8_parameter (Some value) = parameter.Malformed

-- the parameter of a keyword in lower case
abbrev pub parameter_named : List ℕ → Option (List ℕ) → Parameter
parameter_named keyword value =
    if bytes_eq keyword (codes "size") then size_parameter value
    else (if bytes_eq keyword (codes "body") then body_parameter value
    else (if bytes_eq keyword (codes "smtputf8") then smtputf8_parameter value else parameter.Unknown))

-- What a word after the path of MAIL asks for.
abbrev pub parameter_of : List ℕ → Parameter
parameter_of word = parameter_named (parameter_keyword word) (parameter_value word)

-- a keyword stands there twice
abbrev pub has_twice : List (List ℕ) → Bool
has_twice [] = false
has_twice (word ∷ words) = list_any (λ other. bytes_eq (parameter_keyword other) (parameter_keyword word)) words || has_twice words

-- The parameter has a value that its keyword doesn't allow.
abbrev pub is_malformed : Parameter → Bool
is_malformed (parameter.Size octets) = false
is_malformed parameter.Body = false
is_malformed parameter.Smtputf8 = false
is_malformed parameter.Malformed = true
is_malformed parameter.Unknown = false

-- The keyword is none that this server offers.
abbrev pub is_unknown : Parameter → Bool
is_unknown (parameter.Size octets) = false
is_unknown parameter.Body = false
is_unknown parameter.Smtputf8 = false
is_unknown parameter.Malformed = false
is_unknown parameter.Unknown = true

-- The parameter is SMTPUTF8 (RFC 6531, 3.4).
abbrev pub is_smtputf8 : Parameter → Bool
is_smtputf8 (parameter.Size octets) = false
is_smtputf8 parameter.Body = false
is_smtputf8 parameter.Smtputf8 = true
is_smtputf8 parameter.Malformed = false
is_smtputf8 parameter.Unknown = false

-- the number of SIZE, and 0 of another parameter
abbrev pub announced : Parameter → ℕ
announced (parameter.Size octets) = octets
announced parameter.Body = 0
announced parameter.Smtputf8 = 0
announced parameter.Malformed = 0
announced parameter.Unknown = 0

-- the words are no parameters: a keyword stands there twice, or a known one has a value that isn't one of its own
abbrev pub are_malformed : List (List ℕ) → Bool
are_malformed words = has_twice words || list_any (λ word. is_malformed (parameter_of word)) words
