-- A report that is put together, piece by piece.
use Rattle.std.proofs.Common.{◌≡◌, ℕ, Bool, List, [], ◌++◌, ap, subst, ◌∙◌}
use Rattle.std.specs.List.{flat_map}
use Rattle.std.proofs.lemmas.List.{append_assoc}
use Rattle.mail_wire.specs.Dates.{IsDateText}
use Rattle.utf8_reports.specs.declared.failure.Failure.{Failure}
use Rattle.utf8_reports.specs.Destinations.{is_global, shown_path}
use Rattle.utf8_reports.specs.Recipients.{recipient_fields}
use Rattle.utf8_reports.specs.Reports.{heading, header_part, status_heading, IsFailure, IsReportOn}
use Rattle.utf8_reports.specs.Shown.{IsShownHeader}
use Rattle.utf8_reports.specs.private.Writing.{report_text}

pub four_pieces : (a b c d old first second third made : List ℕ) → first ≡ old ++ a → second ≡ first ++ b → third ≡ second ++ c → made ≡ third ++ d → made ≡ old ++ (a ++ (b ++ (c ++ d)))
four_pieces a b c d old first second third made one two three four =
    four ∙ ap (λ l. l ++ d) (three ∙ ap (λ l. l ++ c) (two ∙ ap (λ l. l ++ b) one)) ∙ append_assoc ((old ++ a) ++ b) c d ∙ append_assoc (old ++ a) b (c ++ d) ∙ append_assoc old a (b ++ (c ++ d))

by_path : (failure : Failure) (msg date header made : List ℕ) → IsFailure failure → IsDateText failure.seconds date → IsShownHeader (is_global failure.path) msg header
    → made ≡ heading failure.name (shown_path failure.path) date ++ (status_heading (is_global failure.path) failure.name
    ++ (flat_map (recipient_fields (is_global failure.path)) failure.failed ++ header_part (is_global failure.path) header))
    → IsReportOn failure msg made
by_path failure msg date header made is dated shown whole =
    record { header = header; is_shown = shown; is_report = record { is_failure = is; date = date; is_date = dated; whole = whole } }

-- what a report is made of
pub record HasPieces (failure : Failure) (msg to date header : List ℕ) (global : Bool) : Type 0 where
  pub is_failure : IsFailure failure
  pub to_is : to ≡ shown_path failure.path
  pub global_is : global ≡ is_global failure.path
  pub is_date : IsDateText failure.seconds date
  pub is_shown : IsShownHeader global msg header

pub made_report : (failure : Failure) (msg to date header : List ℕ) (global : Bool) (empty made : List ℕ) → HasPieces failure msg to date header global → empty ≡ [] → made ≡ empty ++ report_text failure to global date header
    → IsReportOn failure msg made
made_report failure msg to date header global empty made is none put =
    let whole : made ≡ report_text failure to global date header = put ∙ ap (λ l. l ++ report_text failure to global date header) none in
    by_path failure msg date header made is.is_failure is.is_date (subst (λ g. IsShownHeader g msg header) is.global_is is.is_shown) (rw (is.to_is, is.global_is) at whole)
