-- Which octets a Q text has by their digits.
use Rattle.std.specs.Prelude.{ℕ, Bool, ◌==◌, ◌&&◌, not}
use Rattle.mail_wire.specs.Characters.{space}
use Rattle.encoded_words.specs.WrittenWords.{is_safe_octet}

-- an octet that is no space and doesn't stand for itself
abbrev pub is_escaped : ℕ → Bool
is_escaped b = not (b == space) && not (is_safe_octet b)
