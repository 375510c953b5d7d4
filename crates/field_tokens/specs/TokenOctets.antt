-- Kinds of octets in the text of a structured field (RFC 5322, 3.2.3; RFC 2045, 5.1).
use Rattle.std.specs.Prelude.{ℕ, ◌==◌, nat_lt, Bool, true, false, not, ◌&&◌, ◌||◌, codes}
use Rattle.std.specs.List.{list_any}
use Rattle.mail_wire.specs.Characters.{nul, tab, carriage_return, delete}
use Rattle.mail_wire.specs.Octets.{is_white, is_line_end}
use Rattle.field_tokens.specs.declared.Style.{Style}
use Rattle.field_tokens.specs.declared.Style.TheVariants.{Mail, Mime}

-- The field is one of mail (RFC 5322, 3.2.3) and not of MIME (RFC 2045, 5.1).
abbrev pub is_mail : Style → Bool
is_mail Mail = true
is_mail Mime = false

-- octets that are tokens of their own
abbrev pub is_special : Style → ℕ → Bool
is_special Mail x = list_any (λ s. x == s) (codes "<>:;@,.")
is_special Mime x = list_any (λ s. x == s) (codes "<>@,;:/[]?=")

-- octets that begin or end a comment, a quoted string or a literal, or quote
abbrev pub is_mark : Style → ℕ → Bool
is_mark Mail x = list_any (λ s. x == s) (codes "()\"\\[]")
is_mark Mime x = list_any (λ s. x == s) (codes "()\"\\")

-- an octet below 32 other than a tab, or DEL
abbrev pub is_control : ℕ → Bool
is_control x = (nat_lt x 32 && not (x == tab)) || (x == delete)

-- Every other octet stands in atoms, those of characters beyond ASCII too (RFC 6532, 3.2).
abbrev pub is_atom_octet : Style → ℕ → Bool
is_atom_octet style x = not (is_white x) && (not (is_special style x) && (not (is_mark style x) && not (is_control x)))

-- an octet above CR, and so none of NUL, CR and LF
abbrev pub is_above_cr : ℕ → Bool
is_above_cr x = nat_lt carriage_return x

-- no NUL, CR or LF
abbrev pub is_line_octet : ℕ → Bool
is_line_octet x = not (x == nul) && not (is_line_end x)
