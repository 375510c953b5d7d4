-- Octets of whole lines, none of which is a line of the report's boundary.
use Rattle.std.proofs.Common.{◌≡◌, ℕ, zero, suc, ◌+◌, Bool, true, false, ◌&&◌, ◌⊎◌, inl, inr, List, [], ◌∷◌, ◌++◌, nat_eq, not, refl, sym, ap, ◌∙◌, subst, arith, append-nil, append_assoc, length, drop}
use Rattle.std.specs.Prelude.{codes, ◌==◌}
use Rattle.std.specs.List.{AllByRecursion, list_all, list_any, concat, starts_with}
use Rattle.std.proofs.lemmas.Bool.{and_parts, and_from, both_ways, or_right, or_parts}
use Rattle.std.proofs.lemmas.Bool.Decides.{nat_tests}
use Rattle.std.proofs.lemmas.List.Elements.{recursion_from_All}
use Rattle.std.proofs.lemmas.List.Folds.{concat-append}
use Rattle.mail_wire.specs.Lines.{crlf, is_crlf}
use Rattle.mail_wire.specs.Message.{IsSound, StandsAt}
use Rattle.mail_wire.specs.Octets.{is_white, is_line_end, is_field_name_octet}
use Rattle.mail_wire.proofs.AllLemmas.{all-append, pass-weaker, pass-append}
use Rattle.field_tokens.specs.TokenOctets.{is_line_octet}
use Rattle.utf8_fields.specs.declared.block.Field.{Field}
use Rattle.utf8_fields.specs.Lines.{BeginsField, BeginsWhite}
use Rattle.utf8_fields.specs.Block.{IsFieldAt, AreFields}
use Rattle.utf8_fields.proofs.LineShapes.{is_text}
use Rattle.utf8_fields.proofs.HaveParts.{white_is_text, name_is_text}
use Rattle.mime_tree.specs.Marks.{text_of, dashes, is_padded, is_delimiter, is_close}
use Rattle.mime_tree.proofs.EndedLines.{sound_ended}
use Rattle.mime_tree.proofs.FieldLines.{text_ends_once, is_safe, no_nul_in_safe}
use Rattle.mime_tree.proofs.Standing.{AreEnded, IsUnmarked, AreUnmarked}
use Rattle.mime_tree.proofs.Texts.{text_begins, text_of-other}

-- the boundary of each report
abbrev pub boundary : List ℕ
boundary = codes "report"

-- the octets are such lines
pub record HoldsLines (octets : List ℕ) : Type 0 where
  pub lines : List (List ℕ)
  pub whole : octets ≡ concat lines
  pub ended : AreEnded lines
  pub sound : AllByRecursion IsSound lines
  pub unmarked : AreUnmarked boundary lines

pub no_lines : HoldsLines []
no_lines = record { lines = []; whole = refl; ended = tt; sound = tt; unmarked = tt }

pub more_lines : {a b : List ℕ} → HoldsLines a → HoldsLines b → HoldsLines (a ++ b)
more_lines {a} {b} x y = record {
  lines = x.lines ++ y.lines;
  whole = ap (λ l. l ++ b) x.whole ∙ (ap (λ l. concat x.lines ++ l) y.whole ∙ sym (concat-append x.lines y.lines));
  ended = all-append _ x.lines y.lines x.ended y.ended;
  sound = all-append _ x.lines y.lines x.sound y.sound;
  unmarked = all-append _ x.lines y.lines x.unmarked y.unmarked;
}

-- ---- a line

-- a text of a line
abbrev pub IsPlain : List ℕ → Type 0
IsPlain text = list_all is_line_octet text ≡ true

pub line_octet_text : (x : ℕ) → is_line_octet x ≡ true → is_text x ≡ true
line_octet_text x is = (and_parts (not (x == 0)) (not (is_line_end x)) is).1

pub line_octet_safe : (x : ℕ) → is_line_octet x ≡ true → is_safe x ≡ true
line_octet_safe x is = (and_parts (not (x == 0)) (not (is_line_end x)) is).0

-- an octet that ends a line stands in no text
no_end : (text : List ℕ) → list_all is_text text ≡ true → (x : ℕ) → is_text x ≡ false → (at : ℕ) → ¬ StandsAt text at x
no_end [] plain x ends at is = cc is
no_end (y ∷ text) plain x ends zero is =
    let same : y ≡ x = cc is in
    both_ways (is_text x) ends (subst (λ z. is_text z ≡ true) same (and_parts (is_text y) (list_all is_text text) plain).0)
no_end (y ∷ text) plain x ends (suc at) is = no_end text (and_parts (is_text y) (list_all is_text text) plain).1 x ends at is

-- octets of a text are sound
pub plain_sound : (text : List ℕ) → IsPlain text → IsSound text
plain_sound text plain at (inl nul) = no_nul_in_safe text (pass-weaker is_line_octet is_safe line_octet_safe text plain) at nul
plain_sound text plain at (inr (inl cr)) = no_end text (pass-weaker is_line_octet is_text line_octet_text text plain) 13 refl at cr.0
plain_sound text plain at (inr (inr lf)) = no_end text (pass-weaker is_line_octet is_text line_octet_text text plain) 10 refl at lf.0

unmarked_by : (x : ℕ) (line : List ℕ) → nat_eq 45 x ≡ false → (text_of line ≡ []) ⊎ ((more : List ℕ) × (text_of line ≡ x ∷ more)) → IsUnmarked boundary line
unfolding is_delimiter is_close
unmarked_by x line other (inl none) = record { delimiter = rw none refl; close = rw none refl }
unmarked_by x line other (inr some) = record { delimiter = rw (some.1, other) refl; close = rw (some.1, other) refl }

-- a line that doesn't begin with a hyphen is none of the boundary
pub other_first : (x : ℕ) (rest : List ℕ) → nat_eq 45 x ≡ false → IsUnmarked boundary (x ∷ rest)
other_first x rest other = unmarked_by x (x ∷ rest) other (text_begins x rest)

-- a text, CRLF after it
pub one_line : (x : ℕ) (rest : List ℕ) → nat_eq 45 x ≡ false → IsPlain (x ∷ rest) → HoldsLines ((x ∷ rest) ++ crlf)
one_line x rest other plain = record {
  lines = ((x ∷ rest) ++ crlf) ∷ [];
  whole = sym (append-nil ((x ∷ rest) ++ crlf));
  ended = (text_ends_once (x ∷ rest) (pass-weaker is_line_octet is_text line_octet_text (x ∷ rest) plain), tt);
  sound = (sound_ended (x ∷ rest) (plain_sound (x ∷ rest) plain), tt);
  unmarked = (other_first x (rest ++ crlf) other, tt);
}

-- and CRLF alone
pub crlf_sound : IsSound crlf
crlf_sound = sound_ended [] (plain_sound [] refl)

pub crlf_unmarked : IsUnmarked boundary crlf
unfolding text_of is_delimiter is_close
crlf_unmarked = record { delimiter = refl; close = refl }

pub empty_line : HoldsLines crlf
empty_line = record { lines = crlf ∷ []; whole = refl; ended = (refl, tt); sound = (crlf_sound, tt); unmarked = (crlf_unmarked, tt) }

-- ---- the lines of fields

abbrev is_colon : ℕ → Bool
is_colon x = nat_eq 58 x

white_no_colon : (x : ℕ) → is_white x ≡ true → is_colon x ≡ false
white_no_colon x white = grind (arith, nat_tests)

no_colon_in_white : (t : List ℕ) → list_all is_white t ≡ true → list_any is_colon t ≡ false
no_colon_in_white [] white = refl
no_colon_in_white (x ∷ t) white =
    let parts = and_parts (is_white x) (list_all is_white t) white in
    rw (white_no_colon x parts.0) (no_colon_in_white t parts.1)

same_octet : (x y : ℕ) → nat_eq x y ≡ true → x ≡ y
same_octet x y is = grind (arith, nat_tests)

-- what is padded has no colon but those of its front
padded_colon : (p t : List ℕ) → list_any is_colon p ≡ false → is_padded p t ≡ true → list_any is_colon t ≡ false
padded_colon [] t none is = no_colon_in_white t is
padded_colon (x ∷ p) [] none is = cc
padded_colon (x ∷ p) (y ∷ t) none is =
    let parts = and_parts (nat_eq x y && starts_with nat_eq t p) (list_all is_white (drop (length p) t)) is in
    let first = and_parts (nat_eq x y) (starts_with nat_eq t p) parts.0 in
    let apart = or_parts (is_colon x) (list_any is_colon p) none in
    rw (subst (λ z. is_colon z ≡ false) (same_octet x y first.0) apart.0) (padded_colon p t apart.1 (and_from (starts_with nat_eq t p) (list_all is_white (drop (length p) t)) first.1 parts.1))

no_crlf : (x y : ℕ) → is_text x ≡ true → is_crlf x y ≡ false
no_crlf x y h = grind (arith, nat_tests)

colon_first : (rest : List ℕ) → list_any is_colon (text_of (58 ∷ rest)) ≡ true
unfolding text_of
colon_first [] = refl
colon_first (y ∷ rest) = refl

-- a colon after a text stands in the line's text
text_colon : (xs rest : List ℕ) → list_all is_text xs ≡ true → list_any is_colon (text_of (xs ++ 58 ∷ rest)) ≡ true
text_colon [] rest plain = colon_first rest
text_colon (x ∷ []) rest plain =
    ap (list_any is_colon) (text_of-other x 58 rest (no_crlf x 58 (and_parts (is_text x) true plain).0)) ∙ or_right (is_colon x) _ (colon_first rest)
text_colon (x ∷ y ∷ xs) rest plain =
    let parts = and_parts (is_text x) (list_all is_text (y ∷ xs)) plain in
    ap (list_any is_colon) (text_of-other x y (xs ++ 58 ∷ rest) (no_crlf x y parts.0)) ∙ or_right (is_colon x) _ (text_colon (y ∷ xs) rest parts.1)

not_padded : (p t : List ℕ) → list_any is_colon p ≡ false → list_any is_colon t ≡ true → (b : Bool) → is_padded p t ≡ b → b ≡ false
not_padded p t none some false is = refl
not_padded p t none some true is = absurd (both_ways (list_any is_colon t) (padded_colon p t none is) some)

-- a line that begins a field is none of the boundary
pub field_first : (name line : List ℕ) → BeginsField name line → IsUnmarked boundary line
unfolding is_delimiter is_close
field_first name line begins =
    let colon = begins.colon in
    let plain = pass-append is_text name colon.0 (pass-weaker is_field_name_octet is_text name_is_text name begins.octets) (pass-weaker is_white is_text white_is_text colon.0 colon.2) in
    let whole : line ≡ (name ++ colon.0) ++ 58 ∷ colon.1 = colon.3 ∙ sym (append_assoc name colon.0 (58 ∷ colon.1)) in
    let some : list_any is_colon (text_of line) ≡ true = rw whole (text_colon (name ++ colon.0) colon.1 plain) in
    record { delimiter = not_padded (dashes ++ boundary) (text_of line) refl some _ refl; close = not_padded (dashes ++ boundary ++ dashes) (text_of line) refl some _ refl }

white_other : (x : ℕ) → is_white x ≡ true → nat_eq 45 x ≡ false
white_other x white = grind (arith, nat_tests)

-- nor are the further lines
further_unmarked : (lines : List (List ℕ)) → AllByRecursion BeginsWhite lines → AreUnmarked boundary lines
further_unmarked [] all = tt
further_unmarked ([] ∷ lines) all = absurd all.0
further_unmarked ((x ∷ line) ∷ lines) all = (other_first x line (white_other x all.0), further_unmarked lines all.1)

-- the lines of fields
pub record AreFieldLines (lines : List (List ℕ)) : Type 0 where
  pub sound : AllByRecursion IsSound lines
  pub unmarked : AreUnmarked boundary lines

pub fields_lines : (lines : List (List ℕ)) (at : ℕ) (fields : List Field) (end : ℕ) → AreFields lines at fields end → AreFieldLines lines
fields_lines lines at [] end are = record { sound = rw are.0 tt; unmarked = rw are.0 tt }
fields_lines lines at (field ∷ fields) end are =
    let first = are.0 in
    let more = are.1 in
    let is_field : IsFieldAt at field first more = are.4 in
    let rest = fields_lines are.2 (at + field.raw.len) fields end are.5 in
    let others = further_unmarked more (recursion_from_All BeginsWhite more is_field.further) in
    record {
      sound = rw are.3 (all-append IsSound (first ∷ more) are.2 (recursion_from_All IsSound (first ∷ more) is_field.sound) rest.sound);
      unmarked = rw are.3 (all-append (IsUnmarked boundary) (first ∷ more) are.2 (field_first _ first is_field.begins, others) rest.unmarked);
    }
