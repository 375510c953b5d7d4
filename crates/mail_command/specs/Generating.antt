-- What `gen` makes and tells.
use Rattle.std.specs.Prelude.{◌≡◌, ℕ, zero, suc, List, [], ◌∷◌, ◌++◌, length, sum_by, codes, decimal}
use Rattle.std.specs.List.{AllZip}
use Rattle.mail_wire.specs.Characters.{space}
use Rattle.mail_wire.specs.Lines.{crlf}
use Rattle.surrogate_rope.specs.Layout.{HasSurrogate}
use Rattle.mail_command.specs.declared.generating.Totals.{Totals}
use Rattle.mail_command.specs.Checking.{number_line}

-- a space and é
abbrev pub space_and_e_acute : List ℕ
space_and_e_acute = space ∷ 195 ∷ 169 ∷ []

-- the message of a number: its sender, its subject, the empty line, and a line of the number
abbrev pub generated : ℕ → List ℕ
generated number =
    (codes "From: a@example.org" ++ crlf) ++ (codes "Subject: s" ++ (decimal number ++ (space_and_e_acute ++ (crlf ++ (crlf ++ (decimal number ++ crlf))))))

-- So many generated messages, from the number 0 on.
abbrev pub generated_messages : ℕ → List (List ℕ)
generated_messages zero = []
generated_messages (suc number) = generated_messages number ++ generated number ∷ []

-- the totals of the sizes of so many messages and of their surrogates
pub record AreTotals (number : ℕ) (totals : Totals) : Type 0 where
  pub surrogates : List (List ℕ)
  pub are : AllZip HasSurrogate (generated_messages number) surrogates
  pub stored : totals.stored ≡ sum_by length (generated_messages number)
  pub served : totals.served ≡ sum_by length surrogates

-- The lines that `gen` ends with: how many messages, and how many octets they and their surrogates have.
abbrev pub totals_text : ℕ → Totals → List ℕ
totals_text number totals = number_line (codes "messages ") number ++ (number_line (codes "stored ") totals.stored ++ number_line (codes "served ") totals.served)
