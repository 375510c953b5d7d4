-- The steps of reading a literal's header.
use Rattle.std.proofs.Common.{◌≡◌, ℕ, [], false, refl}
use Rattle.imap_words.specs.Languages.{Then, Is, IsOctet, IsViable}
use Rattle.imap_words.specs.Tokens.{IsNumber32, IsCrlf, is_digit}
use Rattle.imap_words.specs.Strings.{IsHeader}
use Rattle.imap_words.proofs.Composing.{Avoids}
use Rattle.imap_words.proofs.TokenSteps.{octet_viable, number_viable}
use Rattle.imap_words.proofs.Going.{octet_avoids, then_avoids, then_viable, is_viable}

brace_ends : is_digit 125 ≡ false
unfolding is_digit
brace_ends = refl

pub crlf_viable : IsViable IsCrlf []
crlf_viable = then_viable (IsOctet 13) (λ _. IsOctet 10) (octet_viable 13) (λ _. octet_viable 10)

pub size_ends : (n : ℕ) → IsViable (Then IsCrlf (λ _. Is n)) []
size_ends n = then_viable _ _ crlf_viable (λ _. is_viable n)

pub size_closes : (n : ℕ) → IsViable (Then (IsOctet 125) (λ _. Then IsCrlf (λ _. Is n))) []
size_closes n = then_viable _ _ (octet_viable 125) (λ _. size_ends n)

pub size_viable : IsViable (Then IsNumber32 (λ n. Then (IsOctet 125) (λ _. Then IsCrlf (λ _. Is n)))) []
size_viable = then_viable _ _ number_viable size_closes

pub header_viable : IsViable IsHeader []
header_viable = then_viable (IsOctet 123) _ (octet_viable 123) (λ _. size_viable)

pub brace_avoids : (n : ℕ) → Avoids is_digit (Then (IsOctet 125) (λ _. Then IsCrlf (λ _. Is n)))
brace_avoids n = then_avoids is_digit (IsOctet 125) _ (octet_avoids is_digit 125 brace_ends)
