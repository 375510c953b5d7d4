-- What a delivery status tells of one recipient (RFC 3464, 2.3; RFC 6533, 3 and 4).
use Rattle.std.specs.Prelude.{◌≡◌, ◌≤◌, ◌<◌, ℕ, ◌+◌, ◌/◌, ◌%◌, Bool, true, if◌then◌else◌, List, [], ◌∷◌, ◌++◌, length, codes, Option, Some, None, IfSome}
use Rattle.std.specs.List.{list_all}
use Rattle.mail_wire.specs.Characters.{dot}
use Rattle.mail_wire.specs.Lines.{crlf}
use Rattle.mail_wire.specs.Numbers.{is_digit}
use Rattle.mail_wire.specs.Octets.{is_ascii}
use Rattle.address_grammar.specs.Addresses.{address_text}
use Rattle.address_grammar.specs.Paths.{ComesInPath}
use Rattle.encapsulated_fields.specs.AddressForms.{xtext_form, unitext_form}
use Rattle.utf8_reports.specs.declared.failure.FailedRecipient.{FailedRecipient}
use Rattle.utf8_reports.specs.Fields.{text_line, field_line}

-- ---- statuses and codes

-- one or more digits
pub record IsDecimal (text : List ℕ) : Type 0 where
  pub some : 0 < length text
  pub digits : list_all is_digit text ≡ true

-- class, subject and detail, with a dot between each two (RFC 3463, 2). The numbers may have any digits.
pub record IsStatusCode (text : List ℕ) : Type 0 where
  pub class_digits : List ℕ
  pub subject : List ℕ
  pub detail : List ℕ
  pub is_class : IsDecimal class_digits
  pub is_subject : IsDecimal subject
  pub is_detail : IsDecimal detail
  pub whole : text ≡ class_digits ++ dot ∷ (subject ++ dot ∷ detail)

-- the code of a reply (RFC 5321, 4.2): its first digit is 2 to 5
pub record IsReplyCode (code : ℕ) : Type 0 where
  pub least : 200 ≤ code
  pub most : code ≤ 599

-- its three digits
abbrev pub code_digits : ℕ → List ℕ
code_digits code = (48 + code / 100) ∷ (48 + code / 10 % 10) ∷ (48 + code % 10) ∷ []

-- ---- addresses

-- an address that isn't ASCII: with escapes in an ASCII report, and in UTF-8 in a global one (RFC 6533, 3)
abbrev pub utf8_form : Bool → List ℕ → List ℕ
utf8_form global text = if global then unitext_form text else xtext_form text

-- an address after its type: `rfc822` where it is ASCII (RFC 3464, 2.3.2), and else `utf-8` (RFC 6533, 3)
abbrev pub typed_address : Bool → List ℕ → List ℕ
typed_address global text = if list_all is_ascii text then codes "rfc822; " ++ text else codes "utf-8; " ++ utf8_form global text

-- ---- the fields of a recipient

-- the code that the next server answered, where it is kept (RFC 3464, 2.3.6)
abbrev pub diagnostic_field : Option ℕ → List ℕ
diagnostic_field None = []
diagnostic_field (Some code) = field_line (codes "Diagnostic-Code: smtp; ") (code_digits code)

-- An empty line, and the recipient's fields (RFC 3464, 2.1 and 2.3).
unfoldable pub recipient_fields : Bool → FailedRecipient → List ℕ
recipient_fields global one =
    crlf ++ (field_line (codes "Final-Recipient: ") (typed_address global (address_text one.address))
    ++ (text_line (codes "Action: failed")
    ++ (field_line (codes "Status: ") one.status ++ diagnostic_field one.code)))

-- a recipient of which can be reported
pub record IsFailed (one : FailedRecipient) : Type 0 where
  pub address : ComesInPath one.address
  pub status : IsStatusCode one.status
  pub code : IfSome one.code IsReplyCode
