-- What a client says (RFC 5321, 4.1.1; RFC 6152, 3; RFC 6531, 3.4).
use Rattle.std.specs.Prelude.{ℕ, List, [], ◌∷◌, ◌++◌, Bool, true, false, ◌&&◌, ◌||◌, not, if◌then◌else◌, Option, None, Some, codes, unwrap_or}
use Rattle.std.specs.List.{list_any}
use Rattle.mail_wire.specs.Characters.{less_than, greater_than, at_sign}
use Rattle.mail_wire.specs.Dots.{missing_end, stuffed}
use Rattle.mail_wire.specs.Lines.{crlf}
use Rattle.mail_wire.specs.Octets.{is_high}
use Rattle.ace_domains.specs.Domains.{normal_form}
use Rattle.address_grammar.specs.declared.Address.{Address}
use Rattle.address_grammar.specs.Addresses.{local_text}
use Rattle.relay_choice.specs.declared.plans.Form.{Form}
use Rattle.relay_choice.specs.declared.plans.Form.TheVariants as form
use Rattle.relay_choice.specs.declared.plans.Demands.{Demands}
use Rattle.relay_choice.specs.declared.plans.Offer.{Offer}
use Rattle.relay_choice.specs.declared.mail_objects.Recipient.{Recipient}
use Rattle.relay_choice.specs.declared.mail_objects.MailObject.{MailObject}

-- ---- addresses

-- a domain, in A-labels where it isn't ASCII and SMTPUTF8 isn't offered
abbrev pub said_domain : Offer → List ℕ → List ℕ
said_domain offer domain = if not offer.smtputf8 && is_high domain then unwrap_or (normal_form domain) domain else domain

-- an address, the local part of which stays as it is
abbrev pub said_address : Offer → Address → List ℕ
said_address offer address = local_text address.local ++ at_sign ∷ said_domain offer address.domain

-- a path in angle brackets; the null path has no address (RFC 5321, 4.5.5)
abbrev pub said_path : Offer → Option Address → List ℕ
said_path offer None = codes "<>"
said_path offer (Some address) = less_than ∷ (said_address offer address ++ greater_than ∷ [])

-- ---- commands

-- The EHLO line with the name of this server (RFC 5321, 4.1.1.1).
abbrev pub ehlo_line : (name : List ℕ) → List ℕ
ehlo_line name = codes "EHLO " ++ (name ++ crlf)

-- The address is ASCII.
abbrev pub is_ascii_form : Form → Bool
is_ascii_form form.Ascii = true
is_ascii_form form.Normal = false
is_ascii_form form.Utf8 = false

-- The header, the path or one of these recipients isn't ASCII, so that the message asks for SMTPUTF8 (RFC 6531, 3.4).
abbrev pub needs_smtputf8 : Demands → List Recipient → Bool
needs_smtputf8 demands recipients =
    demands.header || not (is_ascii_form demands.path) || list_any (λ (recipient : Recipient). not (is_ascii_form recipient.form)) recipients

-- The parameter of MAIL for a message with octets above 127, where it is asked for (RFC 6152, 2).
abbrev pub eight_word : Bool → List ℕ
eight_word true = codes " BODY=8BITMIME"
eight_word false = []

-- The parameter of MAIL for a message that is internationalized, where it is asked for (RFC 6531, 3.4).
abbrev pub smtputf8_word : Bool → List ℕ
smtputf8_word true = codes " SMTPUTF8"
smtputf8_word false = []

-- the parameters are asked for only where the server offers them
abbrev pub mail_line : Offer → MailObject → (sent : List Recipient) → List ℕ
mail_line offer mail_object sent =
    codes "MAIL FROM:" ++ (said_path offer mail_object.path ++ (eight_word (mail_object.demands.eight && offer.eight)
    ++ (smtputf8_word (offer.smtputf8 && needs_smtputf8 mail_object.demands sent) ++ crlf)))

-- The RCPT line of a recipient (RFC 5321, 4.1.1.3).
abbrev pub rcpt_line : Offer → Recipient → List ℕ
rcpt_line offer recipient = codes "RCPT TO:" ++ (said_path offer (Some recipient.address) ++ crlf)

-- The DATA line (RFC 5321, 4.1.1.4).
abbrev pub data_line : List ℕ
data_line = codes "DATA\r\n"

-- The RSET line (RFC 5321, 4.1.1.5).
abbrev pub reset_line : List ℕ
reset_line = codes "RSET\r\n"

-- The QUIT line (RFC 5321, 4.1.1.10).
abbrev pub quit_line : List ℕ
quit_line = codes "QUIT\r\n"

-- ---- the data

-- a message as data: a dot before each line that begins with one, and the line of one dot that ends them (RFC 5321, 4.5.2)
abbrev pub data_text : List ℕ → List ℕ
data_text octets = stuffed octets ++ (missing_end octets ++ codes ".\r\n")
