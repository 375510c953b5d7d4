-- The fields of a block have parts.
use Rattle.std.proofs.Common.{◌≡◌, ℕ, ◌+◌, ◌<◌, ◌≤◌, Bool, true, ◌⊎◌, inl, inr, List, [], ◌∷◌, ◌++◌, length, take, drop, refl, sym, ap, ◌∙◌, subst, arith, append_assoc, length-append}
use Rattle.std.specs.Str.{IsUtf8, IsAscii}
use Rattle.std.specs.List.{All, list_all, concat}
use Rattle.std.proofs.lemmas.Bool.Decides.{nat_tests}
use Rattle.std.proofs.lemmas.List.{take-append-drop, length-take-le}
use Rattle.std.proofs.lemmas.List.Elements.{All-head, All-tail, All-nil, All-cons}
use Rattle.std.proofs.lemmas.List.Folds.{concat-append}
use Rattle.std.proofs.lemmas.List.Sums.{AllPass-from_list_all}
use Rattle.std.proofs.lemmas.Str.{IsUtf8-append, IsUtf8-nil}
use Rattle.std.proofs.lemmas.Str.Ascii.{IsAscii-from_all}
use Rattle.simdutf8.proofs.StepsLemmas.{IsUtf8-append_ascii, IsUtf8-after_ascii}
use Rattle.mail_wire.specs.Octets.{is_white, is_line_end, is_field_name_octet}
use Rattle.mail_wire.specs.Lines.{lines_of, crlf}
use Rattle.mail_wire.specs.Message.{IsSound}
use Rattle.mail_wire.proofs.LineLemmas.{concat_lines_of}
use Rattle.mail_wire.proofs.AllLemmas.{pass-weaker}
use Rattle.mail_wire.proofs.OctetLemmas.{white_below}
use Rattle.utf8_fields.specs.declared.block.Field.{Field}
use Rattle.utf8_fields.specs.Lines.{BeginsField, BeginsWhite}
use Rattle.utf8_fields.specs.Parts.{FieldParts, HasParts, IsField}
use Rattle.utf8_fields.specs.Block.{IsFieldAt, AreFields, HasBlockIn, raw_of, name_of}
use Rattle.utf8_fields.specs.Named.{HasFieldName}
use Rattle.utf8_fields.proofs.Names.{name_below}
use Rattle.utf8_fields.proofs.OneField.{HasParts-once}
use Rattle.utf8_fields.proofs.Raws.{raw_of-lines, slice_range-following}
use Rattle.utf8_fields.proofs.LineShapes.{AreLines, AreLines-front, AreLines-back, AreLines-lines_of, is_text, IsTextLine, IsTextLine-sound}
use Rattle.utf8_fields.proofs.Bodies.{HasBody, IsTextLine-drop, IsTextLine-following, body_of}

pub white_is_text : (x : ℕ) → is_white x ≡ true → is_text x ≡ true
white_is_text x h = grind (arith, nat_tests)

pub name_is_text : (x : ℕ) → is_field_name_octet x ≡ true → is_text x ≡ true
name_is_text x h = grind (arith, nat_tests)

pub name_octet_below : (x : ℕ) → is_field_name_octet x ≡ true → x < 128
name_octet_below x h = grind (arith, nat_tests)

all_ascii : (p : ℕ → Bool) → ((x : ℕ) → p x ≡ true → x < 128) → (xs : List ℕ) → list_all p xs ≡ true → IsAscii xs
all_ascii p below xs all = IsAscii-from_all xs (λ k d lt. below _ (AllPass-from_list_all p xs all k d lt))

line_end_below : (x : ℕ) → is_line_end x ≡ true → x < 128
line_end_below x h = grind (arith, nat_tests)

crlf_ascii : (ending : List ℕ) → (ending ≡ []) ⊎ (ending ≡ crlf) → IsAscii ending
crlf_ascii ending (inl none) = rw none (all_ascii is_line_end line_end_below [] refl)
crlf_ascii ending (inr ends) = rw ends (all_ascii is_line_end line_end_below crlf refl)

concat_utf8 : (lines : List (List ℕ)) → All IsUtf8 lines → IsUtf8 (concat lines)
concat_utf8 [] all = IsUtf8-nil
concat_utf8 (line ∷ lines) all = IsUtf8-append line (concat lines) (All-head IsUtf8 line lines all) (concat_utf8 lines (All-tail IsUtf8 line lines all))

lit_below : 58 < 128
lit_below = omega arith

-- the body is UTF-8 where all is
body_utf8 : (name white body ending : List ℕ) → list_all is_field_name_octet name ≡ true → list_all is_white white ≡ true → (ending ≡ []) ⊎ (ending ≡ crlf)
    → IsUtf8 (name ++ (white ++ 58 ∷ (body ++ ending))) → IsUtf8 body
body_utf8 name white body ending names whites ends all =
    let after_name = (IsUtf8-after_ascii name (white ++ 58 ∷ (body ++ ending)) (all_ascii is_field_name_octet name_octet_below name names)).0 all in
    let following_white = (IsUtf8-after_ascii white (58 ∷ (body ++ ending)) (all_ascii is_white white_below white whites)).0 after_name in
    let after_colon = (IsUtf8-after_ascii (58 ∷ []) (body ++ ending) (IsAscii-from_all (58 ∷ []) (All-cons (λ x. x < 128) 58 [] (lit_below) (All-nil (λ x. x < 128))))).0 following_white in
    (IsUtf8-append_ascii body ending (crlf_ascii ending ends)).0 after_colon

-- the lines of a field have parts of this name
pub record LinesHaveParts (lines : List (List ℕ)) (name : List ℕ) : Type 0 where
  pub parts : FieldParts
  pub has_parts : HasParts (concat lines) parts
  pub name_is : parts.name ≡ name

pub LinesHaveParts-from : (name first : List ℕ) (more : List (List ℕ)) → BeginsField name first → All BeginsWhite more → AreLines (first ∷ more) → All IsSound (first ∷ more)
    → All IsUtf8 (first ∷ more) → LinesHaveParts (first ∷ more) name
LinesHaveParts-from name first more begins further are sound utf8 =
    let line = subst (λ text. IsTextLine text more) begins.colon.3 (IsTextLine-sound first more (All-head IsSound first more sound) are.0) in
    let after_name = IsTextLine-following name (begins.colon.0 ++ 58 ∷ begins.colon.1) more (pass-weaker is_field_name_octet is_text name_is_text name begins.octets) line in
    let following_white = IsTextLine-following begins.colon.0 (58 ∷ begins.colon.1) more (pass-weaker is_white is_text white_is_text begins.colon.0 begins.colon.2) after_name in
    let following : HasBody (begins.colon.1 ++ concat more) =
    body_of begins.colon.1 more (IsTextLine-drop 58 begins.colon.1 more refl following_white) are.1 (All-tail IsSound first more sound) further in
    let whole : concat (first ∷ more) ≡ name ++ (begins.colon.0 ++ 58 ∷ (following.body ++ following.ending)) =
    ap (λ text. text ++ concat more) begins.colon.3 ∙ append_assoc name (begins.colon.0 ++ 58 ∷ begins.colon.1) (concat more)
    ∙ ap (λ text. name ++ text) (append_assoc begins.colon.0 (58 ∷ begins.colon.1) (concat more) ∙ ap (λ text. begins.colon.0 ++ 58 ∷ text) following.whole) in
    record {
      parts = record { name = name; white = begins.colon.0; body = following.body; ending = following.ending };
      has_parts = record {
        spelled = whole;
        named = begins.some;
        name = begins.octets;
        white = begins.colon.2;
        body = following.folded;
        utf8 = body_utf8 name begins.colon.0 following.body following.ending begins.octets begins.colon.2 following.ends (subst IsUtf8 whole (concat_utf8 (first ∷ more) utf8));
        ending = following.ends;
      };
      name_is = refl;
    }

-- what a field of a block is
pub record IsFieldOf (octets : List ℕ) (field : Field) : Type 0 where
  pub is_field : IsField (raw_of octets field)
  pub has_name : HasFieldName octets field

IsFieldOf-from : (octets before after : List ℕ) (at : ℕ) (field : Field) (first : List ℕ) (more : List (List ℕ)) → octets ≡ before ++ (concat (first ∷ more) ++ after) → length before ≡ at
    → AreLines (first ∷ more) → IsFieldAt at field first more → IsFieldOf octets field
IsFieldOf-from octets before after at field first more split len are is =
    let n : ℕ = field.name.len in
    let below : field.name.len < length first = name_below field.name.len first is.begins in
    let have = LinesHaveParts-from (take field.name.len first) first more is.begins is.further are is.sound is.utf8 in
    let raw : raw_of octets field ≡ concat (first ∷ more) = raw_of-lines octets before (concat (first ∷ more)) after at field split len is.raw_at is.raw_len in
    let has : HasParts (raw_of octets field) have.parts = subst (λ text. HasParts text have.parts) (sym raw) have.has_parts in
    let cut : octets ≡ before ++ (take field.name.len first ++ (drop field.name.len first ++ (concat more ++ after))) =
    split ∙ ap (λ text. before ++ text) (append_assoc first (concat more) after ∙ ap (λ text. text ++ (concat more ++ after)) (sym (take-append-drop field.name.len first))
    ∙ append_assoc (take field.name.len first) (drop field.name.len first) (concat more ++ after)) in
    let name : name_of octets field ≡ take field.name.len first =
    slice_range-following octets before (take field.name.len first) (drop field.name.len first ++ (concat more ++ after)) field.name.at field.name.len cut (len ∙ sym is.name_at)
    (sym (length-take-le field.name.len first (omega arith))) in
    let raw_len = is.raw_len in
    record {
      is_field = record { parts = have.parts; has_parts = has };
      has_name = record {
        at = is.name_at ∙ sym is.raw_at;
        within = omega (arith, length-append first (concat more));
        named = λ f other. name ∙ sym have.name_is ∙ ap (λ (parts : FieldParts). parts.name) (HasParts-once (raw_of octets field) have.parts f has other);
      };
    }

are_fields : (octets before after : List ℕ) (lines : List (List ℕ)) (start : ℕ) (fields : List Field) (end : ℕ) → octets ≡ before ++ (concat lines ++ after) → length before ≡ start
    → AreLines lines → AreFields lines start fields end → All (IsFieldOf octets) fields
are_fields octets before after lines start [] end is len are done = All-nil (IsFieldOf octets)
are_fields octets before after lines start (field ∷ fields) end is len are done =
    let all : concat lines ≡ concat (done.0 ∷ done.1) ++ concat done.2 = ap concat done.3 ∙ concat-append (done.0 ∷ done.1) done.2 in
    let split : octets ≡ before ++ (concat (done.0 ∷ done.1) ++ (concat done.2 ++ after)) =
    is ∙ ap (λ text. before ++ text) (ap (λ text. text ++ after) all ∙ append_assoc (concat (done.0 ∷ done.1)) (concat done.2) after) in
    let lines_are : AreLines ((done.0 ∷ done.1) ++ done.2) = subst AreLines done.3 are in
    let raw_len = done.4.raw_len in
    All-cons (IsFieldOf octets) field fields
    (IsFieldOf-from octets before (concat done.2 ++ after) start field done.0 done.1 split len (AreLines-front (done.0 ∷ done.1) done.2 lines_are) done.4)
    (are_fields octets (before ++ concat (done.0 ∷ done.1)) after done.2 (start + field.raw.len) fields end
    (split ∙ sym (append_assoc before (concat (done.0 ∷ done.1)) (concat done.2 ++ after))) (omega (arith, length-append before (concat (done.0 ∷ done.1))))
    (AreLines-back (done.0 ∷ done.1) done.2 lines_are) done.5)

pub block_fields : (octets : List ℕ) (start : ℕ) (fields : List Field) (end : ℕ) → start ≤ length octets → HasBlockIn (lines_of (drop start octets)) start fields end
    → All (IsFieldOf octets) fields
block_fields octets start fields end fits block =
    let rest : drop start octets ≡ concat block.header ++ concat block.rest = sym (concat_lines_of (drop start octets)) ∙ ap concat block.lines ∙ concat-append block.header block.rest in
    let split : octets ≡ take start octets ++ (concat block.header ++ concat block.rest) = sym (take-append-drop start octets) ∙ ap (λ text. take start octets ++ text) rest in
    are_fields octets (take start octets) (concat block.rest) block.header start fields end split (length-take-le start octets fits)
    (AreLines-front block.header block.rest (subst AreLines block.lines (AreLines-lines_of (drop start octets)))) block.fields_are

pub have_parts : (octets : List ℕ) (fields : List Field) → All (IsFieldOf octets) fields → All (λ field. IsField (raw_of octets field)) fields
have_parts octets fields all = λ k d lt. (all k d lt).is_field

pub have_names : (octets : List ℕ) (fields : List Field) → All (IsFieldOf octets) fields → All (HasFieldName octets) fields
have_names octets fields all = λ k d lt. (all k d lt).has_name
