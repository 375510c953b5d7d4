-- A report is read back.
use Rattle.std.proofs.Common.{◌≡◌, ◌≢◌, ℕ, Bool, List, ◌++◌, refl, sym, ap, subst, ◌∙◌}
use Rattle.std.proofs.lemmas.List.{append_assoc, append_cancel_left, append_cancel_right}
use Rattle.std.specs.List.{flat_map}
use Rattle.utf8_reports.specs.declared.failure.FailedRecipient.{FailedRecipient}
use Rattle.utf8_reports.specs.declared.failure.Failure.{Failure}
use Rattle.utf8_reports.specs.Destinations.{is_global, shown_path}
use Rattle.utf8_reports.specs.Fields.{field_line}
use Rattle.utf8_reports.specs.Recipients.{recipient_fields}
use Rattle.utf8_reports.specs.Reports.{close, fixed_lines, heading, status_heading, header_heading, header_part, IsReportOn, SaysReport}
use Rattle.utf8_reports.specs.Shown.{IsShownHeader}
use Rattle.utf8_reports.specs.private.Reading.{BeginsRecipients, BeginsHeading, EndsReport}
use Rattle.utf8_reports.proofs.HeadingLines.{from_name, to_name, date_name}

-- ---- the part with the header

pub no_header : (octets front header : List ℕ) (global : Bool) → front ≡ header_heading global → ((rest : List ℕ) → octets ≢ front ++ rest) → octets ≡ header_part global header → ⊥
no_header octets front header global is none whole = none (header ++ close) (whole ∙ ap (λ f. f ++ (header ++ close)) (sym is))

pub header_whole : (octets front rest header : List ℕ) (global : Bool) → front ≡ header_heading global → octets ≡ front ++ rest → rest ≡ header ++ close → octets ≡ header_part global header
header_whole octets front rest header global is whole last = whole ∙ (ap (λ f. f ++ rest) is ∙ ap (λ r. header_heading global ++ r) last)

pub header_last : (octets front rest header : List ℕ) (global : Bool) → front ≡ header_heading global → octets ≡ front ++ rest → octets ≡ header_part global header → rest ≡ header ++ close
header_last octets front rest header global is whole part =
    append_cancel_left (header_heading global) rest (header ++ close) (ap (λ f. f ++ rest) (sym is) ∙ (sym whole ∙ part))

pub header_once : (global : Bool) (a b : List ℕ) → header_part global a ≡ header_part global b → a ≡ b
header_once global a b same = append_cancel_right a b close (append_cancel_left (header_heading global) (a ++ close) (b ++ close) same)

-- ---- the recipients

pub no_status : (octets front name : List ℕ) (failed : List FailedRecipient) (global : Bool) → front ≡ status_heading global name → ((rest : List ℕ) → octets ≢ front ++ rest)
    → EndsReport global name octets failed → ⊥
no_status octets front name failed global is none ends =
    let rest = flat_map (recipient_fields global) failed ++ header_part global ends.header in
    none rest (ends.whole ∙ ap (λ f. f ++ rest) (sym is))

pub ends_recipients : (octets front fields name : List ℕ) (failed : List FailedRecipient) (global : Bool) → front ≡ status_heading global name → octets ≡ front ++ fields
    → (ends : EndsReport global name octets failed) → BeginsRecipients global fields failed (header_part global ends.header)
ends_recipients octets front fields name failed global is whole ends = record {
  some = ends.some;
  are_failed = ends.are_failed;
  whole = append_cancel_left (status_heading global name) fields (flat_map (recipient_fields global) failed ++ header_part global ends.header)
      (ap (λ f. f ++ fields) (sym is) ∙ (sym whole ∙ ends.whole));
  ends = refl;
}

pub report_ends : (octets front fields rest header name : List ℕ) (failed : List FailedRecipient) (global : Bool) → front ≡ status_heading global name → octets ≡ front ++ fields
    → BeginsRecipients global fields failed rest → rest ≡ header_part global header → ((msg : List ℕ) × IsShownHeader global msg header) → EndsReport global name octets failed
report_ends octets front fields rest header name failed global is whole begins part shown = record {
  header = header;
  is_header = shown;
  some = begins.some;
  are_failed = begins.are_failed;
  whole = whole ∙ (ap (λ f. f ++ fields) is ∙ ap (λ l. status_heading global name ++ l) (begins.whole ∙ ap (λ l. flat_map (recipient_fields global) failed ++ l) part));
}

-- ---- the whole report

heading_parts : (name to date rest : List ℕ) → heading name to date ++ rest ≡ field_line from_name name ++ (field_line to_name to ++ (field_line date_name date ++ (fixed_lines ++ rest)))
heading_parts name to date rest =
    let from = field_line from_name name in
    let path = field_line to_name to in
    let moment = field_line date_name date in
    append_assoc from (path ++ (moment ++ fixed_lines)) rest
    ∙ ap (λ l. from ++ l) (append_assoc path (moment ++ fixed_lines) rest ∙ ap (λ l. path ++ l) (append_assoc moment fixed_lines rest))

-- a heading, and what follows it
pub record HasParts (failure : Failure) (octets : List ℕ) : Type 0 where
  pub rest : List ℕ
  pub begins : BeginsHeading octets failure.name (is_global failure.path) rest
  pub ends : EndsReport (is_global failure.path) failure.name rest failure.failed

pub report_parts : (failure : Failure) (msg octets : List ℕ) → IsReportOn failure msg octets → HasParts failure octets
report_parts failure msg octets on =
    let is = on.is_report in
    let global = is_global failure.path in
    let rest = status_heading global failure.name ++ (flat_map (recipient_fields global) failure.failed ++ header_part global on.header) in
    record {
      rest = rest;
      begins = record {
        to = shown_path failure.path;
        dated = field_line date_name is.date ++ (fixed_lines ++ rest);
        is_reporter = is.is_failure.name;
        is_path = record { path = failure.path; comes = is.is_failure.path; text_is = refl; global_is = refl };
        ends = record { date = is.date; is_date = record { seconds = failure.seconds; bound = is.is_failure.seconds; is_date = is.is_date }; whole = refl };
        whole = is.whole ∙ heading_parts failure.name (shown_path failure.path) is.date rest;
      };
      ends = record { header = on.header; is_header = (msg, on.is_shown); some = is.is_failure.some; are_failed = is.is_failure.failed; whole = refl };
    }

-- what follows a heading that was found
pub same_ends : (failure : Failure) (name rest last : List ℕ) (global : Bool) → name ≡ failure.name → global ≡ is_global failure.path → rest ≡ last
    → EndsReport (is_global failure.path) failure.name last failure.failed → EndsReport global name rest failure.failed
same_ends failure name rest last global n g r ends = rw (n, g, r) ends

whole_on : (octets name to dated date rest header : List ℕ) (global other : Bool) (failed : List FailedRecipient) (shown : List ℕ)
    → octets ≡ field_line from_name name ++ (field_line to_name to ++ dated) → dated ≡ field_line date_name date ++ (fixed_lines ++ rest)
    → rest ≡ status_heading global name ++ (flat_map (recipient_fields global) failed ++ header_part global header) → to ≡ shown → global ≡ other
    → octets ≡ heading name shown date ++ (status_heading other name ++ (flat_map (recipient_fields other) failed ++ header_part other header))
whole_on octets name to dated date rest header global other failed shown begins moment ends path same =
    let tail : Bool → List ℕ = λ g. status_heading g name ++ (flat_map (recipient_fields g) failed ++ header_part g header) in
    begins
    ∙ (ap (λ d. field_line from_name name ++ (field_line to_name to ++ d)) moment
    ∙ (sym (heading_parts name to date rest)
    ∙ (ap (λ t. heading name t date ++ rest) path ∙ ap (λ r. heading name shown date ++ r) (ends ∙ ap tail same))))

-- what a heading and what follows it say
pub report_says : (octets name rest : List ℕ) (global : Bool) (failed : List FailedRecipient) → BeginsHeading octets name global rest → EndsReport global name rest failed
    → SaysReport octets (record { global = global; failed = failed })
report_says octets name rest global failed begins ends =
    let path = begins.is_path in
    let moment = begins.ends.is_date in
    let failure : Failure = record { path = path.path; name = name; failed = failed; seconds = moment.seconds } in
    let same = path.global_is in
    record {
      failure = failure;
      msg = ends.is_header.0;
      is_report = record {
        header = ends.header;
        is_shown = subst (λ g. IsShownHeader g ends.is_header.0 ends.header) same ends.is_header.1;
        is_report = record {
          is_failure = record { path = path.comes; name = begins.is_reporter; some = ends.some; failed = ends.are_failed; seconds = moment.bound };
          date = begins.ends.date;
          is_date = moment.is_date;
          whole = whole_on octets name begins.to begins.dated begins.ends.date rest ends.header global (is_global path.path) failed (shown_path path.path)
              begins.whole begins.ends.whole ends.whole path.text_is same;
        };
      };
      is_said = record { global = same; failed = refl };
    }
