-- Octets by the names of their ASCII characters (RFC 20).
use Rattle.std.specs.Prelude.{ℕ}

-- NUL
abbrev pub nul : ℕ
nul = 0

-- horizontal tab (HTAB)
abbrev pub tab : ℕ
tab = 9

-- LF
abbrev pub line_feed : ℕ
line_feed = 10

-- CR
abbrev pub carriage_return : ℕ
carriage_return = 13

-- space (SP)
abbrev pub space : ℕ
space = 32

-- double quote (DQUOTE)
abbrev pub quote : ℕ
quote = 34

-- %
abbrev pub percent : ℕ
percent = 37

-- &
abbrev pub ampersand : ℕ
ampersand = 38

-- '
abbrev pub apostrophe : ℕ
apostrophe = 39

-- (
abbrev pub left_parenthesis : ℕ
left_parenthesis = 40

-- )
abbrev pub right_parenthesis : ℕ
right_parenthesis = 41

-- *
abbrev pub asterisk : ℕ
asterisk = 42

-- +
abbrev pub plus : ℕ
plus = 43

-- ,
abbrev pub comma : ℕ
comma = 44

-- -
abbrev pub dash : ℕ
dash = 45

-- .
abbrev pub dot : ℕ
dot = 46

-- /
abbrev pub slash : ℕ
slash = 47

-- 0
abbrev pub digit_zero : ℕ
digit_zero = 48

-- :
abbrev pub colon : ℕ
colon = 58

-- ;
abbrev pub semicolon : ℕ
semicolon = 59

-- <
abbrev pub less_than : ℕ
less_than = 60

-- =
abbrev pub equals_sign : ℕ
equals_sign = 61

-- >
abbrev pub greater_than : ℕ
greater_than = 62

-- ?
abbrev pub question_mark : ℕ
question_mark = 63

-- @
abbrev pub at_sign : ℕ
at_sign = 64

-- [
abbrev pub left_bracket : ℕ
left_bracket = 91

-- \
abbrev pub backslash : ℕ
backslash = 92

-- ]
abbrev pub right_bracket : ℕ
right_bracket = 93

-- _
abbrev pub underscore : ℕ
underscore = 95

-- {
abbrev pub left_brace : ℕ
left_brace = 123

-- }
abbrev pub right_brace : ℕ
right_brace = 125

-- ~
abbrev pub tilde : ℕ
tilde = 126

-- DEL
abbrev pub delete : ℕ
delete = 127
