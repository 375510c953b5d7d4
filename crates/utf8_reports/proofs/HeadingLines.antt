-- The heading of a report is read back.
use Rattle.std.proofs.Common.{◌≡◌, ℕ, Bool, List, ◌++◌, codes, sym, ap, subst, ◌∙◌}
use Rattle.std.proofs.lemmas.List.{append_cancel_left}
use Rattle.std.specs.Prelude.{unwrap_or}
use Rattle.address_lists.specs.ListPieces.{served_address}
use Rattle.utf8_reports.specs.Destinations.{IsReporter}
use Rattle.utf8_reports.specs.Fields.{field_line}
use Rattle.utf8_reports.specs.Reports.{fixed_lines}
use Rattle.utf8_reports.specs.private.Reading.{BeginsFieldLine, IsSomeDate, IsShownText, EndsHeading, BeginsHeading}
use Rattle.utf8_reports.proofs.DateTexts.{date_plain}
use Rattle.utf8_reports.proofs.FieldLines.{SameField, field_begins, field_whole, field_is}
use Rattle.utf8_reports.proofs.PlainTexts.{address_plain, name_plain}
use Rattle.utf8_reports.proofs.WholeLines.{IsPlain}
use Rattle.utf8_reports.proofs.ServedLines.{shown_comes}

-- ---- the date and what follows it

abbrev pub date_name : List ℕ
date_name = codes "Date: "

pub date_begins : (octets rest : List ℕ) (is : EndsHeading octets rest) → BeginsFieldLine date_name octets is.date (fixed_lines ++ rest)
date_begins octets rest is = field_begins date_name octets is.date (fixed_lines ++ rest) (date_plain is.date is.is_date) is.whole

pub date_is : (octets date after rest : List ℕ) → BeginsFieldLine date_name octets date after → (is : EndsHeading octets rest) → SameField date is.date after (fixed_lines ++ rest)
date_is octets date after rest begins is = field_is date_name octets date is.date after (fixed_lines ++ rest) begins (date_plain is.date is.is_date) is.whole

pub date_ends : (octets date after rest : List ℕ) → BeginsFieldLine date_name octets date after → IsSomeDate date → after ≡ fixed_lines ++ rest → EndsHeading octets rest
date_ends octets date after rest begins is fixed = record {
  date = date;
  is_date = is;
  whole = field_whole date_name octets date after begins ∙ ap (λ l. field_line date_name date ++ l) fixed;
}

pub ends_once : (octets a b : List ℕ) → EndsHeading octets a → EndsHeading octets b → a ≡ b
ends_once octets a b is other = append_cancel_left fixed_lines a b (date_is octets is.date (fixed_lines ++ a) b (date_begins octets a is) other).rest

-- ---- the sender and the path

abbrev pub from_name : List ℕ
from_name = codes "From: MAILER-DAEMON@"

abbrev pub to_name : List ℕ
to_name = codes "To: "

path_plain : (text : List ℕ) (global : Bool) → IsShownText text global → IsPlain text
path_plain text global is = subst IsPlain (sym is.text_is) (address_plain (unwrap_or (served_address is.path) is.path) (shown_comes is.path is.comes))

pub from_begins : (octets name rest : List ℕ) (global : Bool) (is : BeginsHeading octets name global rest)
    → BeginsFieldLine from_name octets name (field_line to_name is.to ++ is.dated)
from_begins octets name rest global is = field_begins from_name octets name (field_line to_name is.to ++ is.dated) (name_plain name is.is_reporter) is.whole

pub from_is : (octets found after name rest : List ℕ) (global : Bool) → BeginsFieldLine from_name octets found after → (is : BeginsHeading octets name global rest)
    → SameField found name after (field_line to_name is.to ++ is.dated)
from_is octets found after name rest global begins is =
    field_is from_name octets found name after (field_line to_name is.to ++ is.dated) begins (name_plain name is.is_reporter) is.whole

pub to_begins : (octets found after name rest : List ℕ) (global : Bool) → BeginsFieldLine from_name octets found after → (is : BeginsHeading octets name global rest)
    → BeginsFieldLine to_name after is.to is.dated
to_begins octets found after name rest global begins is =
    field_begins to_name after is.to is.dated (path_plain is.to global is.is_path) (from_is octets found after name rest global begins is).rest

pub to_is : (octets found after to following name rest : List ℕ) (global : Bool) → BeginsFieldLine from_name octets found after → BeginsFieldLine to_name after to following
    → (is : BeginsHeading octets name global rest) → SameField to is.to following is.dated
to_is octets found after to following name rest global begins next is =
    field_is to_name after to is.to following is.dated next (path_plain is.to global is.is_path) (from_is octets found after name rest global begins is).rest

pub heading_begins : (octets name after to dated rest : List ℕ) (global : Bool) → BeginsFieldLine from_name octets name after → BeginsFieldLine to_name after to dated
    → IsReporter name → IsShownText to global → EndsHeading dated rest → BeginsHeading octets name global rest
heading_begins octets name after to dated rest global begins next reporter path ends = record {
  to = to;
  dated = dated;
  is_reporter = reporter;
  is_path = path;
  ends = ends;
  whole = field_whole from_name octets name after begins ∙ ap (λ l. field_line from_name name ++ l) (field_whole to_name after to dated next);
}
