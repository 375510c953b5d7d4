-- What the readers of a report's parts find.
use Rattle.std.specs.Prelude.{◌≡◌, ◌<◌, ◌≤◌, ◌⊎◌, ℕ, Bool, List, ◌∷◌, ◌++◌, length, take, codes, Some, slice_get}
use Rattle.std.specs.List.{All, flat_map}
use Rattle.mail_wire.specs.declared.clock.TheConstants.{CLOCK_END}
use Rattle.mail_wire.specs.Dates.{IsDateText}
use Rattle.mail_wire.specs.Lines.{crlf, first_line}
use Rattle.mail_wire.specs.Numbers.{is_digit}
use Rattle.mail_wire.specs.Spans.{IsSpan}
use Rattle.utf8_fields.specs.declared.block.Field.{Field}
use Rattle.utf8_fields.specs.Block.{HasBlock}
use Rattle.address_grammar.specs.declared.Address.{Address}
use Rattle.address_grammar.specs.Addresses.{address_text}
use Rattle.address_grammar.specs.Paths.{ComesInPath}
use Rattle.utf8_reports.specs.declared.failure.FailedRecipient.{FailedRecipient}
use Rattle.utf8_reports.specs.Destinations.{is_global, shown_path, IsReporter}
use Rattle.utf8_reports.specs.Recipients.{IsFailed, recipient_fields}
use Rattle.utf8_reports.specs.Fields.{field_line}
use Rattle.utf8_reports.specs.Reports.{fixed_lines, status_heading, header_part}
use Rattle.utf8_reports.specs.Shown.{IsShownHeader}

-- the octets begin with this line, of which the CRLF is left out
abbrev pub BeginsLine : List ℕ → List ℕ → List ℕ → Type 0
BeginsLine octets line rest = first_line octets ≡ Some (record { line = line ++ crlf; rest = rest })

-- the octets begin with a field on one line, of this name and body
pub record BeginsFieldLine (name octets body rest : List ℕ) : Type 0 where
  pub after : List ℕ
  pub named : octets ≡ name ++ after
  pub line : BeginsLine after body rest

-- the text begins with a number and a dot
pub record BeginsNumber (text rest : List ℕ) : Type 0 where
  pub digits : List ℕ
  pub span : IsSpan is_digit text digits (46 ∷ rest)
  pub some : 0 < length digits

-- it is the date of some moment that a clock tells
pub record IsSomeDate (text : List ℕ) : Type 0 where
  pub seconds : ℕ
  pub bound : seconds < CLOCK_END
  pub is_date : IsDateText seconds text

-- it is the text of this address
pub record SpellsAddress (text : List ℕ) (address : Address) : Type 0 where
  pub comes : ComesInPath address
  pub text_is : text ≡ address_text address

-- it is the text of some path, whose report is in UTF-8 or not
pub record IsShownText (text : List ℕ) (global : Bool) : Type 0 where
  pub path : Address
  pub comes : ComesInPath path
  pub text_is : text ≡ shown_path path
  pub global_is : global ≡ is_global path

-- the octets begin with a date's field and the lines that follow it in each report
pub record EndsHeading (octets rest : List ℕ) : Type 0 where
  pub date : List ℕ
  pub is_date : IsSomeDate date
  pub whole : octets ≡ field_line (codes "Date: ") date ++ (fixed_lines ++ rest)

-- the octets begin with a report's heading
pub record BeginsHeading (octets name : List ℕ) (global : Bool) (rest : List ℕ) : Type 0 where
  pub to : List ℕ
  pub dated : List ℕ
  pub is_reporter : IsReporter name
  pub is_path : IsShownText to global
  pub ends : EndsHeading dated rest
  pub whole : octets ≡ field_line (codes "From: MAILER-DAEMON@") name ++ (field_line (codes "To: ") to ++ dated)

-- An empty line or the line of a boundary comes next, and so no further field of a recipient.
abbrev pub EndsRecipient : List ℕ → Type 0
EndsRecipient rest = (slice_get rest 0 ≡ Some 13) ⊎ (slice_get rest 0 ≡ Some 45)

-- the octets begin with the fields of this recipient
pub record BeginsRecipient (global : Bool) (octets : List ℕ) (one : FailedRecipient) (rest : List ℕ) : Type 0 where
  pub is_failed : IsFailed one
  pub whole : octets ≡ recipient_fields global one ++ rest

-- The octets begin with the fields of some recipients, and the line of a boundary comes next.
pub record BeginsRecipients (global : Bool) (octets : List ℕ) (failed : List FailedRecipient) (rest : List ℕ) : Type 0 where
  pub some : 0 < length failed
  pub are_failed : All IsFailed failed
  pub whole : octets ≡ flat_map (recipient_fields global) failed ++ rest
  pub ends : slice_get rest 0 ≡ Some 45

-- The first octets, so many, have the block of all of them: they are the header and its empty line.
pub record HoldsHeader (octets : List ℕ) (len : ℕ) : Type 0 where
  pub within : len ≤ length octets
  pub fields : List Field
  pub end : ℕ
  pub has_block : HasBlock octets fields end
  pub held : HasBlock (take len octets) fields end

-- some message's header is shown so
abbrev pub IsSomeHeader : Bool → List ℕ → Type 0
IsSomeHeader global header = (msg : List ℕ) × IsShownHeader global msg header

-- The octets are what follows a report's heading, and tell of these recipients.
pub record EndsReport (global : Bool) (name octets : List ℕ) (failed : List FailedRecipient) : Type 0 where
  pub header : List ℕ
  pub is_header : IsSomeHeader global header
  pub some : 0 < length failed
  pub are_failed : All IsFailed failed
  pub whole : octets ≡ status_heading global name ++ (flat_map (recipient_fields global) failed ++ header_part global header)
