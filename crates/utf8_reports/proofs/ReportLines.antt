-- The lines that a delivery status tells, and whether they are ASCII.
use Rattle.std.proofs.Common.{◌≡◌, ℕ, ◌+◌, ◌/◌, ◌%◌, ◌<◌, Bool, true, false, List, [], ◌∷◌, ◌++◌, Option, Some, None, refl, arith}
use Rattle.std.specs.Prelude.{codes, if◌then◌else◌, IfSome}
use Rattle.std.specs.List.{All, AllByRecursion, list_all, flat_map}
use Rattle.std.proofs.lemmas.Bool.{and_from}
use Rattle.std.proofs.lemmas.Bool.Decides.{nat_tests}
use Rattle.std.proofs.lemmas.List.Elements.{recursion_from_All}
use Rattle.mail_wire.specs.Lines.{crlf}
use Rattle.mail_wire.specs.Numbers.{is_digit}
use Rattle.mail_wire.specs.Octets.{is_ascii}
use Rattle.mail_wire.proofs.AllLemmas.{pass-append, pass-weaker}
use Rattle.ace_domains.specs.Domains.{is_host_octet}
use Rattle.ace_domains.proofs.FormLemmas.{form_name}
use Rattle.address_grammar.specs.Addresses.{address_text}
use Rattle.field_tokens.specs.TokenOctets.{is_line_octet}
use Rattle.encapsulated_fields.proofs.FormLemmas.{ascii_xtext}
use Rattle.utf8_reports.specs.declared.failure.FailedRecipient.{FailedRecipient}
use Rattle.utf8_reports.specs.Destinations.{IsReporter}
use Rattle.utf8_reports.specs.Fields.{field_line}
use Rattle.utf8_reports.specs.Recipients.{IsStatusCode, IsReplyCode, IsFailed, code_digits, diagnostic_field, recipient_fields, typed_address, utf8_form}
use Rattle.utf8_reports.proofs.PlainTexts.{address_plain, code_plain, digits_plain, name_plain, unitext_form_plain, xtext_form_plain}
use Rattle.utf8_reports.proofs.WholeLines.{HoldsLines, IsPlain, empty_line, more_lines, no_lines, one_line}

-- ---- lines

form_plain : (global : Bool) (text : List ℕ) → IsPlain (utf8_form global text)
form_plain true text = unitext_form_plain text
form_plain false text = xtext_form_plain text

pub typed_plain : (global : Bool) (text : List ℕ) → IsPlain text → IsPlain (typed_address global text)
typed_plain global text plain = by (list_all is_ascii text)
  where
    by : (b : Bool) → IsPlain (if b then codes "rfc822; " ++ text else codes "utf-8; " ++ utf8_form global text)
    by true = plain
    by false = form_plain global text

pub status_plain : (text : List ℕ) → IsStatusCode text → IsPlain text
status_plain text is =
    rw is.whole (pass-append is_line_octet is.class_digits (46 ∷ (is.subject ++ 46 ∷ is.detail)) (digits_plain is.class_digits is.is_class.digits)
    (pass-append is_line_octet is.subject (46 ∷ is.detail) (digits_plain is.subject is.is_subject.digits) (digits_plain is.detail is.is_detail.digits)))

diagnostic_lines : (code : Option ℕ) → HoldsLines (diagnostic_field code)
diagnostic_lines None = no_lines
diagnostic_lines (Some code) = one_line 68 (codes "iagnostic-Code: smtp; " ++ code_digits code) refl (code_plain (code / 100) (code / 10 % 10) (code % 10))

recipient_lines : (global : Bool) (one : FailedRecipient) → IsFailed one → HoldsLines (recipient_fields global one)
unfolding recipient_fields
recipient_lines global one is =
    let text = typed_plain global (address_text one.address) (address_plain one.address is.address) in
    more_lines empty_line (more_lines (one_line 70 (codes "inal-Recipient: " ++ typed_address global (address_text one.address)) refl text)
    (more_lines (one_line 65 (codes "ction: failed") refl refl) (more_lines (one_line 83 (codes "tatus: " ++ one.status) refl (status_plain one.status is.status)) (diagnostic_lines one.code))))

recipients_lines : (global : Bool) (failed : List FailedRecipient) → AllByRecursion IsFailed failed → HoldsLines (flat_map (recipient_fields global) failed)
recipients_lines global [] all = no_lines
recipients_lines global (one ∷ failed) all = more_lines (recipient_lines global one all.0) (recipients_lines global failed all.1)

pub told_lines : (global : Bool) (name : List ℕ) (failed : List FailedRecipient) → IsReporter name → All IsFailed failed
    → HoldsLines (field_line (codes "Reporting-MTA: dns; ") name ++ flat_map (recipient_fields global) failed)
told_lines global name failed reporter all =
    more_lines (one_line 82 (codes "eporting-MTA: dns; " ++ name) refl (name_plain name reporter)) (recipients_lines global failed (recursion_from_All IsFailed failed all))

-- ---- ASCII

abbrev IsAsciiText : List ℕ → Type 0
IsAsciiText text = list_all is_ascii text ≡ true

pub line_ascii : (text : List ℕ) → IsAsciiText text → IsAsciiText (text ++ crlf)
line_ascii text is = pass-append is_ascii text crlf is refl

host_octet_ascii : (x : ℕ) → is_host_octet x ≡ true → is_ascii x ≡ true
host_octet_ascii x is = grind (arith, nat_tests)

pub name_ascii : (name : List ℕ) → IsReporter name → IsAsciiText name
name_ascii name form = pass-weaker is_host_octet is_ascii host_octet_ascii name (form_name name name form).octets

digit_ascii : (x : ℕ) → is_digit x ≡ true → is_ascii x ≡ true
digit_ascii x is = grind (arith, nat_tests)

digits_ascii : (digits : List ℕ) → list_all is_digit digits ≡ true → IsAsciiText digits
digits_ascii digits are = pass-weaker is_digit is_ascii digit_ascii digits are

status_ascii : (text : List ℕ) → IsStatusCode text → IsAsciiText text
status_ascii text is =
    rw is.whole (pass-append is_ascii is.class_digits (46 ∷ (is.subject ++ 46 ∷ is.detail)) (digits_ascii is.class_digits is.is_class.digits)
    (pass-append is_ascii is.subject (46 ∷ is.detail) (digits_ascii is.subject is.is_subject.digits) (digits_ascii is.detail is.is_detail.digits)))

small_digit : (n : ℕ) → n < 10 → is_ascii (48 + n) ≡ true
small_digit n small = grind (arith, nat_tests)

code_ascii : (code : ℕ) → IsReplyCode code → IsAsciiText (code_digits code)
code_ascii code is =
    let most = is.most in
    and_from _ _ (small_digit (code / 100) (omega (arith, most))) (and_from _ _ (small_digit (code / 10 % 10) (omega arith)) (and_from _ true (small_digit (code % 10) (omega arith)) refl))

diagnostic_ascii : (code : Option ℕ) → IfSome code IsReplyCode → IsAsciiText (diagnostic_field code)
diagnostic_ascii None is = refl
diagnostic_ascii (Some code) is = line_ascii (code_digits code) (code_ascii code is)

typed_ascii : (text : List ℕ) (b : Bool) → list_all is_ascii text ≡ b → IsAsciiText (if b then codes "rfc822; " ++ text else codes "utf-8; " ++ utf8_form false text)
typed_ascii text true is = is
typed_ascii text false is = ascii_xtext text

recipient_ascii : (one : FailedRecipient) → IsFailed one → IsAsciiText (recipient_fields false one)
unfolding recipient_fields
recipient_ascii one is =
    let text : List ℕ = typed_address false (address_text one.address) in
    let final = line_ascii text (typed_ascii (address_text one.address) _ refl) in
    pass-append is_ascii (text ++ crlf) _ final (pass-append is_ascii (one.status ++ crlf) (diagnostic_field one.code) (line_ascii one.status (status_ascii one.status is.status)) (diagnostic_ascii one.code is.code))

recipients_by : (failed : List FailedRecipient) → AllByRecursion IsFailed failed → IsAsciiText (flat_map (recipient_fields false) failed)
recipients_by [] all = refl
recipients_by (one ∷ failed) all = pass-append is_ascii (recipient_fields false one) (flat_map (recipient_fields false) failed) (recipient_ascii one all.0) (recipients_by failed all.1)

pub recipients_ascii : (failed : List FailedRecipient) → All IsFailed failed → IsAsciiText (flat_map (recipient_fields false) failed)
recipients_ascii failed all = recipients_by failed (recursion_from_All IsFailed failed all)
