-- How the types of a report and of its parts open an entity.
use Rattle.std.proofs.Common.{◌≡◌, ℕ, ◌<◌, Bool, true, false, inl, inr, List, [], ◌∷◌, ◌++◌, length, take, None, Some, refl, sym, arith, append-nil}
use Rattle.std.specs.Prelude.{codes, if◌then◌else◌}
use Rattle.std.specs.List.{list_all}
use Rattle.std.specs.Str.{IsUtf8, is_utf8, str_to_ascii_lowercase}
use Rattle.std.proofs.lemmas.Str.{IsUtf8-from_ascii, is_utf8-from_IsUtf8}
use Rattle.mail_wire.specs.Lines.{crlf}
use Rattle.mail_wire.specs.Message.{IsSound}
use Rattle.mail_wire.specs.Octets.{is_ascii, same_name}
use Rattle.mail_wire.specs.Folds.{unfolded}
use Rattle.mail_wire.specs.Spans.{Stops}
use Rattle.mail_wire.proofs.AllLemmas.{pass-weaker, pass-append}
use Rattle.mail_wire.proofs.Folded.{IsFolded-plain}
use Rattle.encoded_words.proofs.WrittenWords.{ascii_literal}
use Rattle.encoded_words.specs.Words.{Text}
use Rattle.field_tokens.specs.declared.Style.TheVariants.{Mime}
use Rattle.field_tokens.specs.declared.Token.{Token}
use Rattle.field_tokens.specs.declared.TokenKind.{TokenKind}
use Rattle.field_tokens.specs.declared.TokenKind.TheVariants.{Atom, Special, Gap}
use Rattle.field_tokens.specs.TokenOctets.{is_line_octet, is_atom_octet}
use Rattle.field_tokens.specs.Tokens.{TokenValue, IsToken, AreTokens, tokens_from}
use Rattle.field_tokens.specs.Squeezed.{run_octets}
use Rattle.utf8_fields.specs.Lines.{BeginsField}
use Rattle.utf8_fields.specs.Parts.{FieldParts, HasParts, HasValue}
use Rattle.utf8_fields.proofs.LineShapes.{EndsOnce, is_text}
use Rattle.param_grammar.specs.declared.ParamKind.TheVariants.{Content}
use Rattle.param_grammar.specs.declared.Piece.{Piece}
use Rattle.param_grammar.specs.Bodies.{is_main, sections_of, solid, IsPiece}
use Rattle.param_grammar.specs.Extended.{unit_of}
use Rattle.param_grammar.specs.Joining.{AreNumbered, parts_named, params_of}
use Rattle.mime_tree.specs.declared.openings.Opening.{Opening}
use Rattle.mime_tree.specs.declared.openings.Opening.TheVariants.{Nothing, Parts}
use Rattle.mime_tree.specs.Openings.{OpensByText, Opens, opening_said, is_usable, boundary_in}
use Rattle.mime_tree.proofs.EndedLines.{sound_ended}
use Rattle.mime_tree.proofs.FieldLines.{text_ends_once}
use Rattle.mime_tree.proofs.Standing.{IsUnmarked}
use Rattle.utf8_reports.specs.Fields.{text_line}
use Rattle.utf8_reports.specs.Reports.{status_type, header_type}
use Rattle.utf8_reports.proofs.WholeLines.{boundary, IsPlain, line_octet_text, plain_sound, other_first}

-- a whole line that is the one field of an entity, which is opened so
pub record IsTypeLine (line : List ℕ) (opening : Opening) : Type 0 where
  pub name : ℕ
  pub begins : BeginsField (take name line) line
  pub utf8 : IsUtf8 line
  pub ended : EndsOnce line
  pub sound : IsSound line
  pub unmarked : IsUnmarked boundary line
  pub opens : Opens false (line ∷ []) opening

-- ASCII is UTF-8
pub ascii_utf8 : (text : List ℕ) → list_all is_ascii text ≡ true → IsUtf8 text
ascii_utf8 text ascii = IsUtf8-from_ascii text (ascii_literal text ascii)

-- the line of a type
type_line : (value : List ℕ) (opening : Opening) → IsPlain value → list_all is_ascii value ≡ true → HasValue (32 ∷ value) value → OpensByText value opening
    → IsTypeLine (codes "Content-Type: " ++ (value ++ crlf)) opening
unfolding same_name
type_line value opening plain ascii has opens =
    record {
      name = 12;
      begins = record { some = omega arith; octets = refl; colon = ([], 32 ∷ (value ++ crlf), refl, refl) };
      utf8 = ascii_utf8 _ (pass-append is_ascii (codes "Content-Type: ") (value ++ crlf) refl (pass-append is_ascii value crlf ascii refl));
      ended = text_ends_once (codes "Content-Type: " ++ value) (pass-weaker is_line_octet is_text line_octet_text (codes "Content-Type: " ++ value) plain);
      sound = sound_ended (codes "Content-Type: " ++ value) (plain_sound (codes "Content-Type: " ++ value) plain);
      unmarked = other_first 67 (codes "ontent-Type: " ++ (value ++ crlf)) refl;
      opens = record {
        encoding = None;
        is_encoding = (field_of_type, parts, refl);
        opened = inl (tt, (Some value, (field_of_type, parts, (value, has, refl)), opens));
      };
    }
  where
    field_of_type : FieldParts
    field_of_type = record { name = codes "Content-Type"; white = []; body = 32 ∷ value; ending = crlf }

    parts : HasParts (codes "Content-Type: " ++ (value ++ crlf)) field_of_type
    parts = record {
      spelled = refl;
      named = omega arith;
      name = refl;
      white = refl;
      body = IsFolded-plain (32 ∷ value) (pass-weaker is_line_octet is_text line_octet_text value plain);
      utf8 = ascii_utf8 (32 ∷ value) ascii;
      ending = inr refl;
    }

-- ---- types without parameters

atom_token : (octets rest : List ℕ) → 0 < length octets → list_all (is_atom_octet Mime) octets ≡ true → Stops (is_atom_octet Mime) rest → IsToken Mime Atom octets rest
atom_token octets rest some passes stops = (some, record { whole = refl; passes = passes; stops = stops })

-- the tokens of such a type
abbrev type_tokens : List ℕ → List ℕ → List TokenValue
type_tokens main sub = record { kind = Atom; octets = main } ∷ record { kind = Special; octets = 47 ∷ [] } ∷ record { kind = Atom; octets = sub } ∷ []

are_type_tokens : (main sub : List ℕ) → 0 < length main → 0 < length sub → list_all (is_atom_octet Mime) main ≡ true → list_all (is_atom_octet Mime) sub ≡ true
    → AreTokens Mime (type_tokens main sub) (main ++ 47 ∷ sub)
are_type_tokens main sub some more passes too =
    (47 ∷ sub, refl, atom_token main (47 ∷ sub) some passes refl, (sub, refl, (47, refl, refl), ([], sym (append-nil sub), atom_token sub [] more too tt, refl)))

-- a type of a leaf, by what its tokens are
plain_type : (main sub : List ℕ) (all : List Token) → IsPlain (main ++ 47 ∷ sub) → list_all is_ascii (main ++ 47 ∷ sub) ≡ true → AreTokens Mime (type_tokens main sub) (main ++ 47 ∷ sub)
    → all ≡ tokens_from 0 (type_tokens main sub) → sections_of (main ++ 47 ∷ sub) all ≡ all ∷ [] → is_main Content (main ++ 47 ∷ sub) (solid all) ≡ true
    → (said : List ℕ) → said ≡ str_to_ascii_lowercase (run_octets (main ++ 47 ∷ sub) (solid all)) → opening_said said [] ≡ Nothing
    → OpensByText (main ++ 47 ∷ sub) Nothing
plain_type main sub all plain ascii tokens placed sections is_main_part said said_is opening = inl (
  said,
  [],
  [],
  record {
    body = record {
      tokens = all;
      has_tokens = record { is_line = record { utf8 = ascii_utf8 (main ++ 47 ∷ sub) ascii; plain = plain }; values = type_tokens main sub; are_tokens = tokens; placed = placed };
      pieces = [];
      is_body = record { first = all; others = []; sections = sections; is_main_part = is_main_part; main_is = said_is; are_pieces = refl };
      are_params = record { are_numbered = λ base n less. absurd (omega arith); params_are = refl };
    };
    comments_say = refl;
  },
  sym opening,
)

-- the four types of the further parts
status_opens : OpensByText (codes "message/delivery-status") Nothing
status_opens =
    let main : List ℕ = codes "message" in
    let sub : List ℕ = codes "delivery-status" in
    plain_type main sub (tokens_from 0 (type_tokens main sub)) refl refl (are_type_tokens main sub (omega arith) (omega arith) refl refl) refl refl refl (codes "message/delivery-status") refl refl

global_status_opens : OpensByText (codes "message/global-delivery-status") Nothing
global_status_opens =
    let main : List ℕ = codes "message" in
    let sub : List ℕ = codes "global-delivery-status" in
    plain_type main sub (tokens_from 0 (type_tokens main sub)) refl refl (are_type_tokens main sub (omega arith) (omega arith) refl refl) refl refl refl (codes "message/global-delivery-status") refl refl

headers_opens : OpensByText (codes "text/rfc822-headers") Nothing
headers_opens =
    let main : List ℕ = codes "text" in
    let sub : List ℕ = codes "rfc822-headers" in
    plain_type main sub (tokens_from 0 (type_tokens main sub)) refl refl (are_type_tokens main sub (omega arith) (omega arith) refl refl) refl refl refl (codes "text/rfc822-headers") refl refl

global_headers_opens : OpensByText (codes "message/global-headers") Nothing
global_headers_opens =
    let main : List ℕ = codes "message" in
    let sub : List ℕ = codes "global-headers" in
    plain_type main sub (tokens_from 0 (type_tokens main sub)) refl refl (are_type_tokens main sub (omega arith) (omega arith) refl refl) refl refl refl (codes "message/global-headers") refl refl

-- their values
itself_status : HasValue (codes " message/delivery-status") (codes "message/delivery-status")
unfolding unfolded
itself_status = record { lead = 32 ∷ []; trail = []; lead_passes = refl; trail_passes = refl; begins = refl; ends = refl; whole = refl }

itself_global_status : HasValue (codes " message/global-delivery-status") (codes "message/global-delivery-status")
unfolding unfolded
itself_global_status = record { lead = 32 ∷ []; trail = []; lead_passes = refl; trail_passes = refl; begins = refl; ends = refl; whole = refl }

itself_headers : HasValue (codes " text/rfc822-headers") (codes "text/rfc822-headers")
unfolding unfolded
itself_headers = record { lead = 32 ∷ []; trail = []; lead_passes = refl; trail_passes = refl; begins = refl; ends = refl; whole = refl }

itself_global_headers : HasValue (codes " message/global-headers") (codes "message/global-headers")
unfolding unfolded
itself_global_headers = record { lead = 32 ∷ []; trail = []; lead_passes = refl; trail_passes = refl; begins = refl; ends = refl; whole = refl }

-- the field of each
pub status_line : (global : Bool) → IsTypeLine (text_line (status_type global)) Nothing
status_line true = type_line (codes "message/global-delivery-status") Nothing refl refl (itself_global_status) global_status_opens
status_line false = type_line (codes "message/delivery-status") Nothing refl refl (itself_status) status_opens

pub header_line : (global : Bool) → IsTypeLine (text_line (header_type global)) Nothing
header_line true = type_line (codes "message/global-headers") Nothing refl refl (itself_global_headers) global_headers_opens
header_line false = type_line (codes "text/rfc822-headers") Nothing refl refl (itself_headers) headers_opens

-- ---- the type of the report

abbrev report_text : List ℕ
report_text = codes "multipart/report; report-type=delivery-status; boundary=report"

abbrev atom : List ℕ → TokenValue
atom octets = record { kind = Atom; octets = octets }

abbrev mark : ℕ → TokenValue
mark x = record { kind = Special; octets = x ∷ [] }

abbrev gap : TokenValue
gap = record { kind = Gap; octets = 32 ∷ [] }

abbrev report_tokens : List TokenValue
report_tokens =
    atom (codes "multipart") ∷ mark 47 ∷ atom (codes "report") ∷ mark 59 ∷ gap ∷ atom (codes "report-type") ∷ mark 61 ∷ atom (codes "delivery-status") ∷ mark 59 ∷ gap ∷ atom (codes "boundary") ∷ mark 61
    ∷ atom (codes "report") ∷ []

are_report_tokens : AreTokens Mime report_tokens report_text
are_report_tokens = (
  codes "/report; report-type=delivery-status; boundary=report",
  refl,
  atom_token (codes "multipart") _ (omega arith) refl refl,
  (
    codes "report; report-type=delivery-status; boundary=report",
    refl,
    (47, refl, refl),
    (
      codes "; report-type=delivery-status; boundary=report",
      refl,
      atom_token (codes "report") _ (omega arith) refl refl,
      (
        codes " report-type=delivery-status; boundary=report",
        refl,
        (59, refl, refl),
        (
          codes "report-type=delivery-status; boundary=report",
          refl,
          (omega arith, record { whole = refl; passes = refl; stops = refl }),
          (
            codes "=delivery-status; boundary=report",
            refl,
            atom_token (codes "report-type") _ (omega arith) refl refl,
            (
              codes "delivery-status; boundary=report",
              refl,
              (61, refl, refl),
              (
                codes "; boundary=report",
                refl,
                atom_token (codes "delivery-status") _ (omega arith) refl refl,
                (
                  codes " boundary=report",
                  refl,
                  (59, refl, refl),
                  (
                    codes "boundary=report",
                    refl,
                    (omega arith, record { whole = refl; passes = refl; stops = refl }),
                    (
                      codes "=report",
                      refl,
                      atom_token (codes "boundary") _ (omega arith) refl refl,
                      (
                        codes "report",
                        refl,
                        (61, refl, refl),
                        ([], refl, atom_token (codes "report") [] (omega arith) refl tt, refl),
                      ),
                    ),
                  ),
                ),
              ),
            ),
          ),
        ),
      ),
    ),
  ),
)

-- a parameter as it is written
abbrev written_piece : List ℕ → List ℕ → Piece
written_piece name value = record { base = name; number = None; charset = []; octets = value; written = name ++ 61 ∷ value }

abbrev kind_piece : Piece
kind_piece = written_piece (codes "report-type") (codes "delivery-status")

abbrev boundary_piece : Piece
boundary_piece = written_piece (codes "boundary") boundary

abbrev token : TokenKind → ℕ → ℕ → Token
token kind at len = record { kind = kind; span = record { at = at; len = len } }

kind_is : IsPiece report_text (token Gap 17 1 ∷ token Atom 18 11 ∷ token Special 29 1 ∷ token Atom 30 15 ∷ []) kind_piece
kind_is = record {
  name = codes "report-type";
  value = token Atom 30 15 ∷ [];
  is_parameter = record { atom = token Atom 18 11; equals = token Special 29 1; tokens_are = refl; is_name = refl; is_equals = refl; is_value = refl; name_is = refl };
  is_piece = record {
    parts = record { base = codes "report-type"; number = None; is_extended = false };
    has_parts = record { spelled = refl; base = record { some = omega arith; most = omega arith; ascii = refl }; first = refl; number = tt };
    says = (refl, refl);
    base_is = refl;
    number_is = refl;
    written_is = refl;
  };
}

boundary_is : IsPiece report_text (token Gap 46 1 ∷ token Atom 47 8 ∷ token Special 55 1 ∷ token Atom 56 6 ∷ []) boundary_piece
boundary_is = record {
  name = codes "boundary";
  value = token Atom 56 6 ∷ [];
  is_parameter = record { atom = token Atom 47 8; equals = token Special 55 1; tokens_are = refl; is_name = refl; is_equals = refl; is_value = refl; name_is = refl };
  is_piece = record {
    parts = record { base = codes "boundary"; number = None; is_extended = false };
    has_parts = record { spelled = refl; base = record { some = omega arith; most = omega arith; ascii = refl }; first = refl; number = tt };
    says = (refl, refl);
    base_is = refl;
    number_is = refl;
    written_is = refl;
  };
}

abbrev report_pieces : List Piece
report_pieces = kind_piece ∷ boundary_piece ∷ []

-- no part of a parameter is among them
none_numbered : (base : List ℕ) → AreNumbered (parts_named base report_pieces)
none_numbered base n less = absurd (omega (arith, less))

unit_text : (octets : List ℕ) → is_utf8 octets ≡ true → unit_of [] octets ≡ Text octets
unfolding unit_of
unit_text octets utf8 = rw utf8 refl

report_opening : opening_said (codes "multipart/report") (params_of report_pieces) ≡ Parts boundary false
unfolding boundary_in is_usable
report_opening = rw (unit_text boundary (is_utf8-from_IsUtf8 boundary (ascii_utf8 boundary refl))) refl

report_opens : OpensByText report_text (Parts boundary false)
report_opens = inl (
  codes "multipart/report",
  params_of report_pieces,
  [],
  record {
    body = record {
      tokens = tokens_from 0 report_tokens;
      has_tokens = record { is_line = record { utf8 = ascii_utf8 report_text refl; plain = refl }; values = report_tokens; are_tokens = are_report_tokens; placed = refl };
      pieces = report_pieces;
      is_body = record {
        first = token Atom 0 9 ∷ token Special 9 1 ∷ token Atom 10 6 ∷ [];
        others = (token Gap 17 1 ∷ token Atom 18 11 ∷ token Special 29 1 ∷ token Atom 30 15 ∷ []) ∷ (token Gap 46 1 ∷ token Atom 47 8 ∷ token Special 55 1 ∷ token Atom 56 6 ∷ []) ∷ [];
        sections = refl;
        is_main_part = refl;
        main_is = refl;
        are_pieces = (kind_piece, boundary_piece ∷ [], kind_is, (boundary_piece, [], boundary_is, refl, refl), refl);
      };
      are_params = record { are_numbered = none_numbered; params_are = refl };
    };
    comments_say = refl;
  },
  sym report_opening,
)

itself_report : HasValue (codes " multipart/report; report-type=delivery-status; boundary=report") (codes "multipart/report; report-type=delivery-status; boundary=report")
unfolding unfolded
itself_report = record { lead = 32 ∷ []; trail = []; lead_passes = refl; trail_passes = refl; begins = refl; ends = refl; whole = refl }

pub report_line : IsTypeLine (text_line (codes "Content-Type: multipart/report; report-type=delivery-status; boundary=report")) (Parts boundary false)
report_line = type_line report_text (Parts boundary false) refl refl itself_report report_opens
