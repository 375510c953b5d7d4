-- The fields of a recipient are read back.
use Rattle.std.proofs.Common.{◌≡◌, ℕ, Bool, List, ◌++◌, codes, Option, sym, ap, ◌∙◌}
use Rattle.std.proofs.lemmas.List.{append_assoc}
use Rattle.std.specs.Prelude.{IfSome}
use Rattle.mail_wire.specs.Lines.{crlf}
use Rattle.address_grammar.specs.declared.Address.{Address}
use Rattle.address_grammar.specs.Addresses.{address_text}
use Rattle.address_grammar.specs.Paths.{ComesInPath}
use Rattle.utf8_reports.specs.declared.failure.FailedRecipient.{FailedRecipient}
use Rattle.utf8_reports.specs.Fields.{text_line, field_line}
use Rattle.utf8_reports.specs.Recipients.{IsFailed, IsStatusCode, IsReplyCode, diagnostic_field, typed_address, recipient_fields}
use Rattle.utf8_reports.specs.private.Reading.{BeginsFieldLine, BeginsRecipient}
use Rattle.utf8_reports.proofs.PlainTexts.{address_plain}
use Rattle.utf8_reports.proofs.ReportLines.{typed_plain}
use Rattle.utf8_reports.proofs.WholeLines.{IsPlain}
use Rattle.utf8_reports.proofs.FieldLines.{SameField, field_begins, field_whole, field_is}
use Rattle.utf8_reports.proofs.OutcomeLines.{outcome_part}

-- the empty line, and the name of the first field
abbrev pub recipient_name : List ℕ
recipient_name = codes "\r\nFinal-Recipient: "

abbrev pub typed_of : Bool → FailedRecipient → List ℕ
typed_of global one = typed_address global (address_text one.address)

own_plain : (global : Bool) (one : FailedRecipient) → IsFailed one → IsPlain (typed_of global one)
own_plain global one is = typed_plain global (address_text one.address) (address_plain one.address is.address)

pub recipient_parts : (global : Bool) (one : FailedRecipient) (rest : List ℕ)
    → recipient_fields global one ++ rest ≡ field_line recipient_name (typed_of global one) ++ outcome_part one.status one.code rest
unfolding recipient_fields
recipient_parts global one rest =
    let address = field_line (codes "Final-Recipient: ") (typed_of global one) in
    let action = text_line (codes "Action: failed") in
    let status = field_line (codes "Status: ") one.status in
    let code = diagnostic_field one.code in
    ap (λ l. crlf ++ l)
    (append_assoc address (action ++ (status ++ code)) rest
    ∙ ap (λ l. address ++ l) (append_assoc action (status ++ code) rest ∙ ap (λ l. action ++ l) (append_assoc status code rest)))

pub recipient_begins : (global : Bool) (octets rest : List ℕ) (one : FailedRecipient) → BeginsRecipient global octets one rest
    → BeginsFieldLine recipient_name octets (typed_of global one) (outcome_part one.status one.code rest)
recipient_begins global octets rest one is =
    field_begins recipient_name octets (typed_of global one) (outcome_part one.status one.code rest) (own_plain global one is.is_failed)
    (is.whole ∙ recipient_parts global one rest)

pub recipient_is : (global : Bool) (octets typed after rest : List ℕ) (one : FailedRecipient) → BeginsFieldLine recipient_name octets typed after
    → BeginsRecipient global octets one rest → SameField typed (typed_of global one) after (outcome_part one.status one.code rest)
recipient_is global octets typed after rest one begins is =
    field_is recipient_name octets typed (typed_of global one) after (outcome_part one.status one.code rest) begins (own_plain global one is.is_failed)
    (is.whole ∙ recipient_parts global one rest)

pub recipient_made : (global : Bool) (octets typed after rest : List ℕ) (one : FailedRecipient) → BeginsFieldLine recipient_name octets typed after
    → ComesInPath one.address → typed ≡ typed_of global one → IsStatusCode one.status → IfSome one.code IsReplyCode
    → after ≡ outcome_part one.status one.code rest → BeginsRecipient global octets one rest
recipient_made global octets typed after rest one begins comes typed_is status code last = record {
  is_failed = record { address = comes; status = status; code = code };
  whole = field_whole recipient_name octets typed after begins
      ∙ (ap (λ t. field_line recipient_name t ++ after) typed_is ∙ (ap (λ l. field_line recipient_name (typed_of global one) ++ l) last ∙ sym (recipient_parts global one rest)));
}

pub same_recipient : (one : FailedRecipient) (address : Address) (status : List ℕ) (code : Option ℕ) → address ≡ one.address → status ≡ one.status → code ≡ one.code
    → record { address = address; status = status; code = code } ≡ one
same_recipient one address status code a s c = λ i. record { address = a i; status = s i; code = c i }
