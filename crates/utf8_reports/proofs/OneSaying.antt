-- A report says one thing.
use Rattle.std.proofs.Common.{◌≡◌, ℕ, ◌+◌, ◌/◌, ◌%◌, ◌≤◌, Bool, true, false, ◌⊎◌, inl, inr, List, [], ◌∷◌, ◌++◌, Option, Some, None, length, refl, sym, ap, ◌∙◌, subst, arith, append_assoc}
use Rattle.std.specs.Prelude.{codes, if◌then◌else◌, slice_get, IfSome}
use Rattle.std.specs.List.{All, AllByRecursion, list_all, flat_map}
use Rattle.std.specs.Str.{IsUtf8}
use Rattle.std.proofs.lemmas.List.Elements.{recursion_from_All}
use Rattle.mail_wire.specs.Lines.{crlf}
use Rattle.mail_wire.specs.Octets.{is_ascii}
use Rattle.mail_wire.proofs.AllLemmas.{pass-weaker}
use Rattle.mail_wire.proofs.SpanLemmas.{span_once}
use Rattle.address_grammar.specs.declared.Address.{Address}
use Rattle.address_grammar.specs.Addresses.{address_text}
use Rattle.address_grammar.specs.Paths.{ComesInPath, HasPath, in_angles}
use Rattle.address_grammar.proofs.PathLemmas.{HasPath-once}
use Rattle.address_grammar.proofs.WritingLemmas.{path_again}
use Rattle.address_lists.specs.ListPieces.{served_address}
use Rattle.encapsulated_fields.specs.Xtext.{ReadsAs}
use Rattle.encapsulated_fields.proofs.FormLemmas.{ReadsAs-xtext, ReadsAs-unitext}
use Rattle.encapsulated_fields.proofs.XtextLemmas.{ReadsAs-once}
use Rattle.field_tokens.specs.TokenOctets.{is_line_octet}
use Rattle.utf8_reports.specs.declared.failure.FailedRecipient.{FailedRecipient}
use Rattle.utf8_reports.specs.declared.failure.Failure.{Failure}
use Rattle.utf8_reports.specs.declared.failure.Report.{Report}
use Rattle.utf8_reports.specs.Destinations.{is_global, shown_path}
use Rattle.utf8_reports.specs.Fields.{text_line, field_line}
use Rattle.utf8_reports.specs.Recipients.{IsFailed, IsReplyCode, code_digits, diagnostic_field, recipient_fields, typed_address, utf8_form}
use Rattle.utf8_reports.specs.Reports.{delimiter, fixed_lines, heading, header_part, status_heading, status_type, IsReport, SaysReport}
use Rattle.utf8_reports.specs.private.Reading.{EndsRecipient}
use Rattle.utf8_reports.proofs.AddressTexts.{text_utf8}
use Rattle.utf8_reports.proofs.DateOctets.{is_printed, date_printed, printed_plain}
use Rattle.utf8_reports.proofs.PlainTexts.{address_plain, code_plain, name_plain}
use Rattle.utf8_reports.proofs.ReportLines.{status_plain, typed_plain}
use Rattle.utf8_reports.proofs.ReportTrees.{before, before-more}
use Rattle.utf8_reports.proofs.Prefixes.{after_same}
use Rattle.utf8_reports.proofs.ServedLines.{shown_comes}
use Rattle.utf8_reports.proofs.WholeLines.{IsPlain}

-- ---- lines

-- the same octets have the same first line
pub line_once : (a b x y : List ℕ) → IsPlain a → IsPlain b → (a ++ crlf) ++ x ≡ (b ++ crlf) ++ y → (a ≡ b) × (x ≡ y)
line_once a b x y p q same =
    let both = span_once is_line_octet a b (crlf ++ x) (crlf ++ y) p q refl refl (sym (append_assoc a crlf x) ∙ (same ∙ append_assoc b crlf y)) in
    (both.0, after_same crlf x y both.1)

-- and the same first field
pub field_once : (name a b x y : List ℕ) → IsPlain a → IsPlain b → field_line name a ++ x ≡ field_line name b ++ y → (a ≡ b) × (x ≡ y)
field_once name a b x y p q same =
    line_once a b x y p q (after_same name ((a ++ crlf) ++ x) ((b ++ crlf) ++ y) (sym (append_assoc name (a ++ crlf) x) ∙ (same ∙ append_assoc name (b ++ crlf) y)))

-- ---- a recipient

same_octet : (x y : ℕ) → Some x ≡ Some y → x ≡ y
same_octet x y h = cc

path_once : (a b : Address) → ComesInPath a → ComesInPath b → address_text a ≡ address_text b → a ≡ b
path_once a b p q same =
    one (HasPath-once (in_angles (address_text b)) (Some a) (Some b) (subst (λ text. HasPath (in_angles text) (Some a)) same (path_again a p)) (path_again b q))
  where
    one : Some a ≡ Some b → a ≡ b
    one h = cc

form_once : (global : Bool) (t u : List ℕ) → IsUtf8 t → IsUtf8 u → utf8_form global t ≡ utf8_form global u → t ≡ u
form_once true t u p q same = ReadsAs-once (utf8_form true u) t u (subst (λ form. ReadsAs form t) same (ReadsAs-unitext t p)) (ReadsAs-unitext u q)
form_once false t u p q same = ReadsAs-once (utf8_form false u) t u (subst (λ form. ReadsAs form t) same (ReadsAs-xtext t p)) (ReadsAs-xtext u q)

typed_by : (global : Bool) (t u : List ℕ) → IsUtf8 t → IsUtf8 u → (b c : Bool)
    → (if b then codes "rfc822; " ++ t else codes "utf-8; " ++ utf8_form global t) ≡ (if c then codes "rfc822; " ++ u else codes "utf-8; " ++ utf8_form global u) → t ≡ u
typed_by global t u p q true true same = after_same (codes "rfc822; ") t u same
typed_by global t u p q true false same = absurd (omega (arith, same_octet 114 117 (ap (λ l. slice_get l 0) same)))
typed_by global t u p q false true same = absurd (omega (arith, same_octet 117 114 (ap (λ l. slice_get l 0) same)))
typed_by global t u p q false false same = form_once global t u p q (after_same (codes "utf-8; ") (utf8_form global t) (utf8_form global u) same)

typed_once : (global : Bool) (t u : List ℕ) → IsUtf8 t → IsUtf8 u → typed_address global t ≡ typed_address global u → t ≡ u
typed_once global t u p q same = typed_by global t u p q (list_all is_ascii t) (list_all is_ascii u) same

three_once : (a b c x y z : ℕ) → (48 + a) ∷ (48 + b) ∷ (48 + c) ∷ [] ≡ (48 + x) ∷ (48 + y) ∷ (48 + z) ∷ [] → (a ≡ x) × (b ≡ y) × (c ≡ z)
three_once a b c x y z same =
    let first : 48 + a ≡ 48 + x = cc in
    let second : 48 + b ≡ 48 + y = cc in
    let third : 48 + c ≡ 48 + z = cc in
    (omega arith, omega arith, omega arith)

code_once : (code other : ℕ) → IsReplyCode code → IsReplyCode other → code_digits code ≡ code_digits other → code ≡ other
code_once code other p q same =
    let digits = three_once (code / 100) (code / 10 % 10) (code % 10) (other / 100) (other / 10 % 10) (other % 10) same in
    omega (arith, digits.0, digits.1, digits.2, p.most, q.most)

no_field : (a rest : List ℕ) → EndsRecipient a → a ≡ 68 ∷ rest → ⊥
no_field a rest (inl crlf_next) same = omega (arith, same_octet 68 13 (sym (ap (λ l. slice_get l 0) same) ∙ crlf_next))
no_field a rest (inr dash_next) same = omega (arith, same_octet 68 45 (sym (ap (λ l. slice_get l 0) same) ∙ dash_next))

diagnostic_once : (code other : Option ℕ) (a b : List ℕ) → IfSome code IsReplyCode → IfSome other IsReplyCode → EndsRecipient a → EndsRecipient b
    → diagnostic_field code ++ a ≡ diagnostic_field other ++ b → (code ≡ other) × (a ≡ b)
diagnostic_once None None a b p q ends too same = (refl, same)
diagnostic_once None (Some other) a b p q ends too same = absurd (no_field a _ ends same)
diagnostic_once (Some code) None a b p q ends too same = absurd (no_field b _ too (sym same))
diagnostic_once (Some code) (Some other) a b p q ends too same =
    let both = field_once (codes "Diagnostic-Code: smtp; ") (code_digits code) (code_digits other) a b (code_plain (code / 100) (code / 10 % 10) (code % 10)) (code_plain (other / 100) (other / 10 % 10) (other % 10)) same in
    (ap Some (code_once code other p q both.0), both.1)

failed_same : (one other : FailedRecipient) → one.address ≡ other.address → one.status ≡ other.status → one.code ≡ other.code → one ≡ other
failed_same one other address status code =
    ap (λ a. record { address = a; status = one.status; code = one.code }) address
    ∙ (ap (λ s. record { address = other.address; status = s; code = one.code }) status ∙ ap (λ c. record { address = other.address; status = other.status; code = c }) code)

-- the pieces of a recipient, and what follows
pieces : (global : Bool) (one : FailedRecipient) (rest : List ℕ) → recipient_fields global one ++ rest
    ≡ before (crlf ∷ field_line (codes "Final-Recipient: ") (typed_address global (address_text one.address)) ∷ text_line (codes "Action: failed") ∷ field_line (codes "Status: ") one.status ∷ [])
    (diagnostic_field one.code ++ rest)
unfolding recipient_fields
pieces global one rest =
    before-more (crlf ∷ field_line (codes "Final-Recipient: ") (typed_address global (address_text one.address)) ∷ text_line (codes "Action: failed") ∷ field_line (codes "Status: ") one.status ∷ [])
    (diagnostic_field one.code) rest

pub recipient_once : (global : Bool) (one other : FailedRecipient) (a b : List ℕ) → IsFailed one → IsFailed other → EndsRecipient a → EndsRecipient b
    → recipient_fields global one ++ a ≡ recipient_fields global other ++ b → (one ≡ other) × (a ≡ b)
recipient_once global one other a b p q ends too same =
    let action = text_line (codes "Action: failed") in
    let typed = typed_address global (address_text one.address) in
    let typed_too = typed_address global (address_text other.address) in
    let status = field_line (codes "Status: ") one.status ++ (diagnostic_field one.code ++ a) in
    let status_too = field_line (codes "Status: ") other.status ++ (diagnostic_field other.code ++ b) in
    let whole = sym (pieces global one a) ∙ (same ∙ pieces global other b) in
    let first = field_once (codes "Final-Recipient: ") typed typed_too (action ++ status) (action ++ status_too) (typed_plain global (address_text one.address) (address_plain one.address p.address))
    (typed_plain global (address_text other.address) (address_plain other.address q.address)) (after_same crlf _ _ whole) in
    let text = typed_once global (address_text one.address) (address_text other.address) (text_utf8 one.address p.address) (text_utf8 other.address q.address) first.0 in
    let next = field_once (codes "Status: ") one.status other.status (diagnostic_field one.code ++ a) (diagnostic_field other.code ++ b) (status_plain one.status p.status) (status_plain other.status q.status)
    (after_same action status status_too first.1) in
    let last = diagnostic_once one.code other.code a b p.code q.code ends too next.1 in
    (failed_same one other (path_once one.address other.address p.address q.address text) next.0 last.0, last.1)

-- ---- recipients

fields_begin : (global : Bool) (one : FailedRecipient) (rest : List ℕ) → slice_get (recipient_fields global one ++ rest) 0 ≡ Some 13
unfolding recipient_fields
fields_begin global one rest = refl

recipients_end : (global : Bool) (failed : List FailedRecipient) (rest : List ℕ) → EndsRecipient (flat_map (recipient_fields global) failed ++ 45 ∷ rest)
recipients_end global [] rest = inr refl
recipients_end global (one ∷ failed) rest =
    inl (ap (λ l. slice_get l 0) (append_assoc (recipient_fields global one) (flat_map (recipient_fields global) failed) (45 ∷ rest)) ∙ fields_begin global one _)

no_recipient : (global : Bool) (one : FailedRecipient) (failed : List FailedRecipient) (x rest : List ℕ) → 45 ∷ x ≡ flat_map (recipient_fields global) (one ∷ failed) ++ rest → ⊥
no_recipient global one failed x rest same =
    let begins = ap (λ l. slice_get l 0) (append_assoc (recipient_fields global one) (flat_map (recipient_fields global) failed) rest) ∙ fields_begin global one _ in
    omega (arith, same_octet 45 13 (ap (λ l. slice_get l 0) same ∙ begins))

pub recipients_once : (global : Bool) (failed others : List FailedRecipient) (x y : List ℕ) → AllByRecursion IsFailed failed → AllByRecursion IsFailed others
    → flat_map (recipient_fields global) failed ++ 45 ∷ x ≡ flat_map (recipient_fields global) others ++ 45 ∷ y → failed ≡ others
recipients_once global [] [] x y p q same = refl
recipients_once global [] (other ∷ others) x y p q same = absurd (no_recipient global other others x (45 ∷ y) same)
recipients_once global (one ∷ failed) [] x y p q same = absurd (no_recipient global one failed y (45 ∷ x) (sym same))
recipients_once global (one ∷ failed) (other ∷ others) x y p q same =
    let fields = recipient_fields global in
    let both = recipient_once global one other (flat_map fields failed ++ 45 ∷ x) (flat_map fields others ++ 45 ∷ y) p.0 q.0 (recipients_end global failed x) (recipients_end global others y)
    (sym (append_assoc (fields one) (flat_map fields failed) (45 ∷ x)) ∙ (same ∙ append_assoc (fields other) (flat_map fields others) (45 ∷ y))) in
    ap (λ o. o ∷ failed) both.0 ∙ ap (λ l. other ∷ l) (recipients_once global failed others x y p.1 q.1 both.1)

-- ---- reports

status_type_plain : (global : Bool) → IsPlain (status_type global)
status_type_plain true = refl
status_type_plain false = refl

one_type : (global other : Bool) → status_type global ≡ status_type other → global ≡ other
one_type true true same = refl
one_type true false same = let size : 44 ≡ 37 = ap length same in absurd (omega (arith, size))
one_type false true same = let size : 37 ≡ 44 = ap length same in absurd (omega (arith, size))
one_type false false same = refl

-- what stands after the fields of a heading
after_heading : (failure other : Failure) (header header_too octets : List ℕ) (a : IsReport failure header octets) (b : IsReport other header_too octets) (x y : List ℕ)
    → heading failure.name (shown_path failure.path) a.date ++ x ≡ heading other.name (shown_path other.path) b.date ++ y → x ≡ y
after_heading failure other header header_too octets a b x y same =
    let to = shown_path failure.path in
    let to_too = shown_path other.path in
    let whole = sym (before-more (field_line (codes "From: MAILER-DAEMON@") failure.name ∷ field_line (codes "To: ") to ∷ field_line (codes "Date: ") a.date ∷ []) fixed_lines x)
    ∙ (same ∙ before-more (field_line (codes "From: MAILER-DAEMON@") other.name ∷ field_line (codes "To: ") to_too ∷ field_line (codes "Date: ") b.date ∷ []) fixed_lines y) in
    let from = field_once (codes "From: MAILER-DAEMON@") failure.name other.name _ _ (name_plain failure.name a.is_failure.name) (name_plain other.name b.is_failure.name) whole in
    let path = field_once (codes "To: ") to to_too _ _ (address_plain _ (shown_comes failure.path a.is_failure.path)) (address_plain _ (shown_comes other.path b.is_failure.path)) from.1 in
    let date = field_once (codes "Date: ") a.date b.date (fixed_lines ++ x) (fixed_lines ++ y) (pass-weaker is_printed is_line_octet printed_plain a.date (date_printed failure.seconds a.date a.is_date))
    (pass-weaker is_printed is_line_octet printed_plain b.date (date_printed other.seconds b.date b.is_date)) path.1 in
    after_same fixed_lines x y date.1

after_status : (global other : Bool) (name name_too x y : List ℕ) → IsPlain name → IsPlain name_too → status_heading global name ++ x ≡ status_heading other name_too ++ y → (global ≡ other) × (x ≡ y)
after_status global other name name_too x y p q same =
    let mta = field_line (codes "Reporting-MTA: dns; ") name in
    let mta_too = field_line (codes "Reporting-MTA: dns; ") name_too in
    let whole = sym (before-more (delimiter ∷ text_line (status_type global) ∷ crlf ∷ []) mta x) ∙ (same ∙ before-more (delimiter ∷ text_line (status_type other) ∷ crlf ∷ []) mta_too y) in
    let type = line_once (status_type global) (status_type other) (crlf ++ (mta ++ x)) (crlf ++ (mta_too ++ y)) (status_type_plain global) (status_type_plain other) (after_same delimiter _ _ whole) in
    let last = field_once (codes "Reporting-MTA: dns; ") name name_too x y p q (after_same crlf (mta ++ x) (mta_too ++ y) type.1) in
    (one_type global other type.0, last.1)

told_once : (global other : Bool) (failed others : List FailedRecipient) (header header_too : List ℕ) → AllByRecursion IsFailed failed → AllByRecursion IsFailed others → global ≡ other
    → flat_map (recipient_fields global) failed ++ header_part global header ≡ flat_map (recipient_fields other) others ++ header_part other header_too → failed ≡ others
told_once global other failed others header header_too p q same whole =
    recipients_once other failed others _ _ p q (subst (λ g. flat_map (recipient_fields g) failed ++ header_part g header ≡ flat_map (recipient_fields other) others ++ header_part other header_too) same whole)

record SaysAlike (failure other : Failure) : Type 0 where
  global : is_global failure.path ≡ is_global other.path
  failed : failure.failed ≡ other.failed

one_saying : (failure other : Failure) (header header_too octets : List ℕ) → IsReport failure header octets → IsReport other header_too octets → SaysAlike failure other
one_saying failure other header header_too octets a b =
    let status = after_heading failure other header header_too octets a b _ _ (sym a.whole ∙ b.whole) in
    let told = after_status (is_global failure.path) (is_global other.path) failure.name other.name _ _ (name_plain failure.name a.is_failure.name) (name_plain other.name b.is_failure.name) status in
    record {
      global = told.0;
      failed = told_once (is_global failure.path) (is_global other.path) failure.failed other.failed header header_too (recursion_from_All IsFailed failure.failed a.is_failure.failed)
          (recursion_from_All IsFailed other.failed b.is_failure.failed) told.0 told.1;
    }

pub says_one : (octets : List ℕ) (report other : Report) → SaysReport octets report → SaysReport octets other → (report.global ≡ other.global) × (report.failed ≡ other.failed)
says_one octets report other a b =
    let alike = one_saying a.failure b.failure a.is_report.header b.is_report.header octets a.is_report.is_report b.is_report.is_report in
    (a.is_said.global ∙ (alike.global ∙ sym b.is_said.global), a.is_said.failed ∙ (alike.failed ∙ sym b.is_said.failed))
