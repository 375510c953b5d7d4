-- Octets that are put last, one piece after the other.
use Rattle.std.proofs.Common.{◌≡◌, ℕ, Bool, List, [], ◌++◌, codes, Result, Ok, Err, OnOk, Some, ap, ◌∙◌}
use Rattle.std.proofs.lemmas.List.{append_assoc}
use Rattle.address_grammar.specs.Addresses.{address_text}
use Rattle.utf8_reports.specs.declared.failure.FailedRecipient.{FailedRecipient}
use Rattle.utf8_reports.specs.Fields.{text_line, field_line}
use Rattle.utf8_reports.specs.Recipients.{code_digits, diagnostic_field, recipient_fields, typed_address}
use Rattle.utf8_reports.specs.Reports.{fixed_lines, heading, status_heading, status_type}
use Rattle.mail_wire.specs.Lines.{crlf}

-- a piece was put last, and then a further one
pub joined : {T E : Type 0} (r : Result T E) (old last new a b : List ℕ) → last ≡ old ++ a → OnOk r (new ≡ last ++ b) → OnOk r (new ≡ old ++ (a ++ b))
joined (Ok x) old last new a b h k = k ∙ (ap (λ l. l ++ b) h ∙ append_assoc old a b)
joined (Err e) old last new a b h k = tt

pub fixed_lines-put : {T E : Type 0} (r : Result T E) (a b c d e f g new : List ℕ)
    → b ≡ a ++ text_line (codes "Subject: Undelivered mail")
    → c ≡ b ++ text_line (codes "MIME-Version: 1.0")
    → d ≡ c ++ text_line (codes "Content-Type: multipart/report; report-type=delivery-status; boundary=report")
    → e ≡ d ++ text_line []
    → f ≡ e ++ text_line (codes "--report")
    → g ≡ f ++ text_line []
    → OnOk r (new ≡ g ++ text_line (codes "Some recipients could not be served."))
    → OnOk r (new ≡ a ++ fixed_lines)
fixed_lines-put r a b c d e f g new subject version type empty boundary again last =
    joined r a b new _ _ subject (joined r b c new _ _ version (joined r c d new _ _ type (joined r d e new _ _ empty
    (joined r e f new _ _ boundary (joined r f g new _ _ again last)))))

pub heading-put : {T E : Type 0} (r : Result T E) (name to date a b c d new : List ℕ)
    → b ≡ a ++ field_line (codes "From: MAILER-DAEMON@") name
    → c ≡ b ++ field_line (codes "To: ") to
    → d ≡ c ++ field_line (codes "Date: ") date
    → OnOk r (new ≡ d ++ fixed_lines)
    → OnOk r (new ≡ a ++ heading name to date)
heading-put r name to date a b c d new from path moment last = joined r a b new _ _ from (joined r b c new _ _ path (joined r c d new _ _ moment last))

pub status_heading-put : {T E : Type 0} (r : Result T E) (global : Bool) (name a b c d new : List ℕ)
    → b ≡ a ++ text_line (codes "--report")
    → c ≡ b ++ text_line (status_type global)
    → d ≡ c ++ text_line []
    → OnOk r (new ≡ d ++ field_line (codes "Reporting-MTA: dns; ") name)
    → OnOk r (new ≡ a ++ status_heading global name)
status_heading-put r global name a b c d new boundary type empty last = joined r a b new _ _ boundary (joined r b c new _ _ type (joined r c d new _ _ empty last))

pub diagnostic-put : {T E : Type 0} (r : Result T E) (code : ℕ) (a b c new : List ℕ)
    → b ≡ a ++ codes "Diagnostic-Code: smtp; "
    → c ≡ b ++ code_digits code
    → OnOk r (new ≡ c ++ crlf)
    → OnOk r (new ≡ a ++ diagnostic_field (Some code))
diagnostic-put r code a b c new name digits last = joined r a b new _ _ name (joined r b c new _ _ digits last)

pub recipient-put : {T E : Type 0} (r : Result T E) (global : Bool) (one : FailedRecipient) (text typed a b c d e new : List ℕ)
    → text ≡ address_text one.address
    → typed ≡ typed_address global text
    → b ≡ a ++ crlf
    → c ≡ b ++ field_line (codes "Final-Recipient: ") typed
    → d ≡ c ++ text_line (codes "Action: failed")
    → e ≡ d ++ field_line (codes "Status: ") one.status
    → OnOk r (new ≡ e ++ diagnostic_field one.code)
    → OnOk r (new ≡ a ++ recipient_fields global one)
unfolding recipient_fields
recipient-put r global one text typed a b c d e new text_is typed_is empty address action status last =
    let form : typed ≡ typed_address global (address_text one.address) = typed_is ∙ ap (typed_address global) text_is in
    let field : c ≡ b ++ field_line (codes "Final-Recipient: ") (typed_address global (address_text one.address)) = address ∙ ap (λ t. b ++ field_line (codes "Final-Recipient: ") t) form in
    joined r a b new _ _ empty (joined r b c new _ _ field (joined r c d new _ _ action (joined r d e new _ _ status last)))
