-- What the writer of reports makes.
use Rattle.std.specs.Prelude.{ℕ, Bool, List, ◌++◌}
use Rattle.std.specs.List.{flat_map}
use Rattle.utf8_reports.specs.declared.failure.Failure.{Failure}
use Rattle.utf8_reports.specs.Recipients.{recipient_fields}
use Rattle.utf8_reports.specs.Reports.{heading, status_heading, header_part}

-- the report to a destination, of a date, that returns this header
abbrev pub report_text : Failure → List ℕ → Bool → List ℕ → List ℕ → List ℕ
report_text failure to global date header =
    heading failure.name to date ++ (status_heading global failure.name ++ (flat_map (recipient_fields global) failure.failed ++ header_part global header))
