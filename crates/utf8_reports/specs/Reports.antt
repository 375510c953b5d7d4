-- Reports of failed delivery: multipart/report (RFC 6522, 3) with a delivery status (RFC 3464, 2) and the header of the
-- message, in ASCII or, where the path needs it, in UTF-8 (RFC 6533, 4).
use Rattle.std.specs.Prelude.{◌≡◌, ◌<◌, ℕ, Bool, if◌then◌else◌, List, ◌++◌, length, codes}
use Rattle.std.specs.List.{All, flat_map}
use Rattle.mail_wire.specs.declared.clock.TheConstants.{CLOCK_END}
use Rattle.mail_wire.specs.Dates.{IsDateText}
use Rattle.mail_wire.specs.Lines.{crlf}
use Rattle.address_grammar.specs.Paths.{ComesInPath}
use Rattle.utf8_reports.specs.declared.failure.Failure.{Failure}
use Rattle.utf8_reports.specs.declared.failure.Report.{Report}
use Rattle.utf8_reports.specs.Destinations.{is_global, shown_path, IsReporter}
use Rattle.utf8_reports.specs.Fields.{text_line, field_line}
use Rattle.utf8_reports.specs.Recipients.{IsFailed, recipient_fields}
use Rattle.utf8_reports.specs.Shown.{IsShownHeader}

-- ---- the parts of a report

-- the line before each part (RFC 2046, 5.1.1)
abbrev pub delimiter : List ℕ
delimiter = text_line (codes "--report")

-- the line after the last part
abbrev pub close : List ℕ
close = text_line (codes "--report--")

-- the fields of the report itself that are always the same, and the part that a person reads (RFC 6522, 3)
abbrev pub fixed_lines : List ℕ
fixed_lines =
    text_line (codes "Subject: Undelivered mail")
    ++ (text_line (codes "MIME-Version: 1.0")
    ++ (text_line (codes "Content-Type: multipart/report; report-type=delivery-status; boundary=report")
    ++ (crlf ++ (delimiter ++ (crlf ++ text_line (codes "Some recipients could not be served."))))))

-- the report's own fields (RFC 5322, 3.6), and that part
abbrev pub heading : List ℕ → List ℕ → List ℕ → List ℕ
heading name to date =
    field_line (codes "From: MAILER-DAEMON@") name
    ++ (field_line (codes "To: ") to
    ++ (field_line (codes "Date: ") date ++ fixed_lines))

-- the type of a delivery status (RFC 3464, 2.1; RFC 6533, 4)
abbrev pub status_type : Bool → List ℕ
status_type global = if global then codes "Content-Type: message/global-delivery-status" else codes "Content-Type: message/delivery-status"

-- The beginning of the delivery status: what it tells of the whole message (RFC 3464, 2.2).
abbrev pub status_heading : Bool → List ℕ → List ℕ
status_heading global name = delimiter ++ (text_line (status_type global) ++ (crlf ++ field_line (codes "Reporting-MTA: dns; ") name))

-- the type of a returned header (RFC 6522, 4; RFC 6533, 4)
abbrev pub header_type : Bool → List ℕ
header_type global = if global then codes "Content-Type: message/global-headers" else codes "Content-Type: text/rfc822-headers"

-- What a report puts before the returned header: a delimiter, its type and an empty line.
abbrev pub header_heading : Bool → List ℕ
header_heading global = delimiter ++ (text_line (header_type global) ++ crlf)

-- the part with the returned header, and the end
abbrev pub header_part : Bool → List ℕ → List ℕ
header_part global header = header_heading global ++ (header ++ close)

-- ---- reports

-- a failure of which a report can tell
pub record IsFailure (failure : Failure) : Type 0 where
  pub path : ComesInPath failure.path
  pub name : IsReporter failure.name
  pub some : 0 < length failure.failed
  pub failed : All IsFailed failure.failed
  pub seconds : failure.seconds < CLOCK_END

-- The octets are the report of the failure that returns this header.
pub record IsReport (failure : Failure) (header octets : List ℕ) : Type 0 where
  pub is_failure : IsFailure failure
  pub date : List ℕ
  pub is_date : IsDateText failure.seconds date
  pub whole : octets ≡ heading failure.name (shown_path failure.path) date
      ++ (status_heading (is_global failure.path) failure.name
      ++ (flat_map (recipient_fields (is_global failure.path)) failure.failed
      ++ header_part (is_global failure.path) header))

-- The octets are the report of the failure of this message.
pub record IsReportOn (failure : Failure) (msg octets : List ℕ) : Type 0 where
  pub header : List ℕ
  pub is_shown : IsShownHeader (is_global failure.path) msg header
  pub is_report : IsReport failure header octets

-- ---- what a report says

-- The report is what is said of this failure.
pub record IsSaidOf (failure : Failure) (report : Report) : Type 0 where
  pub global : report.global ≡ is_global failure.path
  pub failed : report.failed ≡ failure.failed

-- the octets are a report that says this
pub record SaysReport (octets : List ℕ) (report : Report) : Type 0 where
  pub failure : Failure
  pub msg : List ℕ
  pub is_report : IsReportOn failure msg octets
  pub is_said : IsSaidOf failure report
