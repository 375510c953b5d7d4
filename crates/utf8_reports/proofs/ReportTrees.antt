-- A report has a tree, and is ASCII where its header is.
use Rattle.std.proofs.Common.{◌≡◌, ℕ, ◌+◌, ◌<◌, Bool, true, false, inl, inr, List, [], ◌∷◌, ◌++◌, length, refl, sym, ap, ◌∙◌, subst, arith, append-nil, append_assoc}
use Rattle.std.specs.Prelude.{codes, unwrap_or}
use Rattle.std.specs.List.{AllByRecursion, concat, list_all, flat_map}
use Rattle.std.specs.Str.{IsUtf8}
use Rattle.std.proofs.lemmas.List.Elements.{All-from_recursion}
use Rattle.std.proofs.lemmas.List.Folds.{concat-append}
use Rattle.std.proofs.lemmas.Str.{IsUtf8-append}
use Rattle.mail_wire.specs.Lines.{crlf}
use Rattle.mail_wire.specs.Message.{IsSound}
use Rattle.mail_wire.specs.Octets.{is_ascii, is_field_name_octet, same_name}
use Rattle.mail_wire.proofs.AllLemmas.{all-append, pass-append, pass-weaker}
use Rattle.mail_wire.proofs.Folded.{IsFolded-plain}
use Rattle.address_grammar.specs.Addresses.{address_text}
use Rattle.address_lists.specs.ListPieces.{served_address}
use Rattle.field_tokens.specs.TokenOctets.{is_line_octet}
use Rattle.utf8_fields.proofs.LineShapes.{EndsOnce, is_text}
use Rattle.mime_tree.specs.declared.entity.Entity.{Entity}
use Rattle.mime_tree.specs.Openings.{IsOtherField}
use Rattle.mime_tree.specs.Tree.{HasTree}
use Rattle.mime_tree.proofs.EndedLines.{sound_ended}
use Rattle.mime_tree.proofs.FieldLines.{text_ends_once, is_safe, no_nul_in_safe}
use Rattle.mime_tree.proofs.KeptTrees.{fields_before}
use Rattle.mime_tree.proofs.Standing.{AreEnded}
use Rattle.utf8_reports.specs.declared.failure.Failure.{Failure}
use Rattle.utf8_reports.specs.Destinations.{is_global, shown_path}
use Rattle.utf8_reports.specs.Fields.{text_line, field_line}
use Rattle.utf8_reports.specs.Recipients.{recipient_fields}
use Rattle.utf8_reports.specs.Reports.{close, delimiter, fixed_lines, heading, header_heading, header_part, header_type, status_heading, status_type, IsReport}
use Rattle.utf8_reports.proofs.AddressTexts.{text_utf8}
use Rattle.utf8_reports.proofs.DateOctets.{is_printed, date_printed, printed_ascii, printed_plain}
use Rattle.utf8_reports.proofs.PartTrees.{HasThreeParts, IsBuilt, built_tree}
use Rattle.utf8_reports.proofs.PlainTexts.{address_plain, name_plain}
use Rattle.utf8_reports.proofs.ReportLines.{line_ascii, name_ascii, recipients_ascii, told_lines}
use Rattle.utf8_reports.proofs.ReportTypes.{ascii_utf8, header_line, report_line, status_line}
use Rattle.utf8_reports.proofs.ServedLines.{shown_ascii, shown_comes}
use Rattle.utf8_reports.proofs.WholeLines.{HoldsLines, IsPlain, crlf_sound, line_octet_safe, line_octet_text, one_line, plain_sound}

-- ---- the report's own fields

-- a name that says nothing of how an entity is opened
record IsOtherName (name : List ℕ) : Type 0 where
  some : 0 < length name
  octets : list_all is_field_name_octet name ≡ true
  plain : IsPlain name
  no_type : same_name name (codes "Content-Type") ≡ false
  no_encoding : same_name name (codes "Content-Transfer-Encoding") ≡ false

-- such a field on one line
other_field : (name body : List ℕ) → IsOtherName name → IsPlain body → IsUtf8 body → IsOtherField (name ++ 58 ∷ (body ++ crlf))
other_field name body named plain utf8 = record {
  f = record { name = name; white = []; body = body; ending = crlf };
  is_field = record {
    spelled = refl;
    named = named.some;
    name = named.octets;
    white = refl;
    body = IsFolded-plain body (pass-weaker is_line_octet is_text line_octet_text body plain);
    utf8 = utf8;
    ending = inr refl;
  };
  ending = refl;
  no_nul = no_nul_in_safe (name ++ 58 ∷ (body ++ crlf))
      (pass-append is_safe name (58 ∷ (body ++ crlf)) (pass-weaker is_line_octet is_safe line_octet_safe name named.plain)
      (pass-append is_safe body crlf (pass-weaker is_line_octet is_safe line_octet_safe body plain) refl));
  no_type = named.no_type;
  no_encoding = named.no_encoding;
}

from_name : IsOtherName (codes "From")
unfolding same_name
from_name = record { some = omega arith; octets = refl; plain = refl; no_type = refl; no_encoding = refl }

to_name : IsOtherName (codes "To")
unfolding same_name
to_name = record { some = omega arith; octets = refl; plain = refl; no_type = refl; no_encoding = refl }

date_name : IsOtherName (codes "Date")
unfolding same_name
date_name = record { some = omega arith; octets = refl; plain = refl; no_type = refl; no_encoding = refl }

subject_name : IsOtherName (codes "Subject")
unfolding same_name
subject_name = record { some = omega arith; octets = refl; plain = refl; no_type = refl; no_encoding = refl }

version_name : IsOtherName (codes "MIME-Version")
unfolding same_name
version_name = record { some = omega arith; octets = refl; plain = refl; no_type = refl; no_encoding = refl }

-- the fields before the type
abbrev first_fields : List ℕ → List ℕ → List ℕ → List (List ℕ)
first_fields name to date =
    field_line (codes "From: MAILER-DAEMON@") name ∷ field_line (codes "To: ") to ∷ field_line (codes "Date: ") date
    ∷ text_line (codes "Subject: Undelivered mail") ∷ text_line (codes "MIME-Version: 1.0") ∷ []

are_first_fields : (failure : Failure) (header octets : List ℕ) (is : IsReport failure header octets) → AllByRecursion IsOtherField (first_fields failure.name (shown_path failure.path) is.date)
are_first_fields failure header octets is =
    let name = failure.name in
    let served = unwrap_or (served_address failure.path) failure.path in
    let comes = shown_comes failure.path is.is_failure.path in
    let date = date_printed failure.seconds is.date is.is_date in (
      other_field (codes "From") (codes " MAILER-DAEMON@" ++ name) from_name (name_plain name is.is_failure.name) (ascii_utf8 (codes " MAILER-DAEMON@" ++ name) (name_ascii name is.is_failure.name)),
      (
        other_field (codes "To") (32 ∷ address_text served) to_name (address_plain served comes) (IsUtf8-append (32 ∷ []) (address_text served) (ascii_utf8 (32 ∷ []) refl) (text_utf8 served comes)),
        (
          other_field (codes "Date") (32 ∷ is.date) date_name (pass-weaker is_printed is_line_octet printed_plain is.date date) (ascii_utf8 (32 ∷ is.date) (pass-weaker is_printed is_ascii printed_ascii is.date date)),
          (
            other_field (codes "Subject") (codes " Undelivered mail") subject_name refl (ascii_utf8 (codes " Undelivered mail") refl),
            (other_field (codes "MIME-Version") (codes " 1.0") version_name refl (ascii_utf8 (codes " 1.0") refl), tt),
          ),
        ),
      ),
    )

-- ---- the order of the pieces

-- texts before another
abbrev pub before : List (List ℕ) → List ℕ → List ℕ
before [] rest = rest
before (text ∷ texts) rest = text ++ before texts rest

pub before-more : (texts : List (List ℕ)) (a b : List ℕ) → before texts a ++ b ≡ before texts (a ++ b)
before-more [] a b = refl
before-more (text ∷ texts) a b = append_assoc text (before texts a) b ∙ ap (λ rest. text ++ rest) (before-more texts a b)

before-concat : (texts : List (List ℕ)) (rest : List ℕ) → before texts rest ≡ concat texts ++ rest
before-concat [] rest = refl
before-concat (text ∷ texts) rest = ap (λ more. text ++ more) (before-concat texts rest) ∙ sym (append_assoc text (concat texts) rest)

abbrev type_text : List ℕ
type_text = text_line (codes "Content-Type: multipart/report; report-type=delivery-status; boundary=report")

abbrev person_text : List ℕ
person_text = text_line (codes "Some recipients could not be served.")

-- what stands after the first fields
abbrev body_of : Bool → List ℕ → List ℕ → List ℕ
body_of global told header =
    before (type_text ∷ crlf ∷ delimiter ∷ crlf ∷ person_text ∷ delimiter ∷ text_line (status_type global) ∷ crlf ∷ told ∷ delimiter ∷ text_line (header_type global) ∷ crlf ∷ header ∷ []) close

in_order : (global : Bool) (name to date told header : List ℕ)
    → heading name to date ++ (status_heading global name ++ (told ++ header_part global header))
    ≡ concat (first_fields name to date) ++ body_of global (field_line (codes "Reporting-MTA: dns; ") name ++ told) header
in_order global name to date told header =
    let mta = field_line (codes "Reporting-MTA: dns; ") name in
    let type = text_line (status_type global) in
    let shown : header_part global header ≡ before (delimiter ∷ text_line (header_type global) ∷ crlf ∷ header ∷ []) close =
    before-more (delimiter ∷ text_line (header_type global) ∷ []) crlf (header ++ close) in
    let observed : status_heading global name ++ (told ++ header_part global header) ≡ before (delimiter ∷ type ∷ crlf ∷ (mta ++ told) ∷ []) (header_part global header) =
    before-more (delimiter ∷ type ∷ crlf ∷ []) mta (told ++ header_part global header)
    ∙ ap (λ l. before (delimiter ∷ type ∷ crlf ∷ []) l) (sym (append_assoc mta told (header_part global header))) in
    let last = observed ∙ ap (λ l. before (delimiter ∷ type ∷ crlf ∷ (mta ++ told) ∷ []) l) shown in
    ap (λ l. heading name to date ++ l) last
    ∙ (before-more (field_line (codes "From: MAILER-DAEMON@") name ∷ field_line (codes "To: ") to ∷ field_line (codes "Date: ") date ∷ text_line (codes "Subject: Undelivered mail")
    ∷ text_line (codes "MIME-Version: 1.0") ∷ type_text ∷ crlf ∷ delimiter ∷ crlf ∷ []) person_text _
    ∙ before-concat (first_fields name to date) (body_of global (mta ++ told) header))

-- ---- the body has a tree

joined : {octets : List ℕ} → (has : HoldsLines octets) (rest : List (List ℕ)) → concat (has.lines ++ rest) ≡ octets ++ concat rest
joined {octets} has rest = concat-append has.lines rest ∙ ap (λ l. l ++ concat rest) (sym has.whole)

delimiter_once : EndsOnce delimiter
delimiter_once = text_ends_once (codes "--report") refl

delimiter_sound : IsSound delimiter
delimiter_sound = sound_ended (codes "--report") (plain_sound (codes "--report") refl)

close_once : EndsOnce close
close_once = text_ends_once (codes "--report--") refl

close_sound : IsSound close
close_sound = sound_ended (codes "--report--") (plain_sound (codes "--report--") refl)

person_lines : HoldsLines person_text
person_lines = one_line 83 (codes "ome recipients could not be served.") refl refl

-- the lines after the empty line of the report's header
abbrev content_lines : Bool → List (List ℕ) → List (List ℕ) → List (List ℕ)
content_lines global told header =
    delimiter ∷ crlf ∷ (person_lines.lines ++ delimiter ∷ text_line (status_type global) ∷ crlf ∷ (told ++ delimiter ∷ text_line (header_type global) ∷ crlf ∷ (header ++ close ∷ [])))

content_whole : (global : Bool) (told header : List ℕ) (x : HoldsLines told) (y : HoldsLines header) → concat (type_text ∷ crlf ∷ content_lines global x.lines y.lines) ≡ body_of global told header
content_whole global told header x y =
    let last : concat (y.lines ++ close ∷ []) ≡ header ++ close = joined y (close ∷ []) ∙ ap (λ l. header ++ l) (append-nil close) in
    let observed : concat (x.lines ++ delimiter ∷ text_line (header_type global) ∷ crlf ∷ (y.lines ++ close ∷ [])) ≡ told ++ before (delimiter ∷ text_line (header_type global) ∷ crlf ∷ []) (header ++ close) =
    joined x (delimiter ∷ text_line (header_type global) ∷ crlf ∷ (y.lines ++ close ∷ [])) ∙ ap (λ l. told ++ before (delimiter ∷ text_line (header_type global) ∷ crlf ∷ []) l) last in
    ap (λ l. before (type_text ∷ crlf ∷ delimiter ∷ crlf ∷ []) l)
    (joined person_lines (delimiter ∷ text_line (status_type global) ∷ crlf ∷ (x.lines ++ delimiter ∷ text_line (header_type global) ∷ crlf ∷ (y.lines ++ close ∷ [])))
    ∙ ap (λ l. person_text ++ before (delimiter ∷ text_line (status_type global) ∷ crlf ∷ []) l) observed)

body_tree : (global : Bool) (told header : List ℕ) → HoldsLines told → HoldsLines header → (entities : List Entity) × HasTree (body_of global told header) entities
body_tree global told header x y =
    let status = status_line global in
    let shown = header_line global in
    let parts : HasThreeParts (content_lines global x.lines y.lines) = record {
      status = text_line (status_type global);
      header = text_line (header_type global);
      person = person_lines.lines;
      told = x.lines;
      shown = y.lines;
      is_status = status;
      is_header = shown;
      person_unmarked = person_lines.unmarked;
      told_unmarked = x.unmarked;
      shown_unmarked = y.unmarked;
      whole = refl;
    } in
    let ended : AreEnded (content_lines global x.lines y.lines) = (
      delimiter_once,
      (
        refl,
        all-append EndsOnce person_lines.lines _ person_lines.ended
            (delimiter_once, (status.ended, (refl, all-append EndsOnce x.lines _ x.ended (delimiter_once, (shown.ended, (refl, all-append EndsOnce y.lines (close ∷ []) y.ended (close_once, tt))))))),
      ),
    ) in
    let sound : AllByRecursion IsSound (content_lines global x.lines y.lines) = (
      delimiter_sound,
      (
        crlf_sound,
        all-append IsSound person_lines.lines _ person_lines.sound
            (delimiter_sound, (status.sound, (crlf_sound, all-append IsSound x.lines _ x.sound (delimiter_sound, (shown.sound, (crlf_sound, all-append IsSound y.lines (close ∷ []) y.sound (close_sound, tt))))))),
      ),
    ) in
    let built = built_tree type_text (content_lines global x.lines y.lines) (record { type = report_line; parts = parts; ended = ended; sound = sound }) in
    (built.0, subst (λ octets. HasTree octets built.0) (content_whole global told header x y) built.1)

-- ---- reports

-- a report of whole lines has a tree
pub report_tree : (failure : Failure) (header octets : List ℕ) → IsReport failure header octets → HoldsLines header → (entities : List Entity) × HasTree octets entities
report_tree failure header octets is lines =
    let global = is_global failure.path in
    let name = failure.name in
    let told = told_lines global name failure.failed is.is_failure.name is.is_failure.failed in
    let body = body_tree global _ header told lines in
    let fields = first_fields name (shown_path failure.path) is.date in
    let all = fields_before _ fields body.0 body.1 (All-from_recursion IsOtherField fields (are_first_fields failure header octets is)) in
    let whole = is.whole ∙ in_order global name (shown_path failure.path) is.date (flat_map (recipient_fields global) failure.failed) header in
    (all.0, subst (λ text. HasTree text all.0) (sym whole) all.1)

ascii_by : (global : Bool) (failure : Failure) (header octets : List ℕ) (is : IsReport failure header octets) → is_global failure.path ≡ global → global ≡ false → list_all is_ascii header ≡ true
    → list_all is_ascii (heading failure.name (shown_path failure.path) is.date
    ++ (status_heading global failure.name ++ (flat_map (recipient_fields global) failure.failed ++ header_part global header))) ≡ true
ascii_by true failure header octets is own local ascii = cc
ascii_by false failure header octets is own local ascii =
    let name = name_ascii failure.name is.is_failure.name in
    let to = shown_ascii failure.path is.is_failure.path own in
    let date = pass-weaker is_printed is_ascii printed_ascii is.date (date_printed failure.seconds is.date is.is_date) in
    let moment = pass-append is_ascii (is.date ++ crlf) fixed_lines (line_ascii is.date date) refl in
    let path = pass-append is_ascii (shown_path failure.path ++ crlf) (field_line (codes "Date: ") is.date ++ fixed_lines) (line_ascii (shown_path failure.path) to) moment in
    let front = pass-append is_ascii (failure.name ++ crlf) (field_line (codes "To: ") (shown_path failure.path) ++ (field_line (codes "Date: ") is.date ++ fixed_lines)) (line_ascii failure.name name) path in
    let told = recipients_ascii failure.failed is.is_failure.failed in
    let shown = pass-append is_ascii (header_heading false) (header ++ close) refl (pass-append is_ascii header close ascii refl) in
    pass-append is_ascii (heading failure.name (shown_path failure.path) is.date) _ front
    (pass-append is_ascii (status_heading false failure.name) _ (line_ascii failure.name name) (pass-append is_ascii (flat_map (recipient_fields false) failure.failed) (header_part false header) told shown))

pub report_ascii : (failure : Failure) (header octets : List ℕ) → IsReport failure header octets → is_global failure.path ≡ false → list_all is_ascii header ≡ true → list_all is_ascii octets ≡ true
report_ascii failure header octets is local ascii = rw is.whole (ascii_by (is_global failure.path) failure header octets is refl local ascii)
