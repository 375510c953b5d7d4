-- What is read of an ASCII header is ASCII.
use Rattle.std.proofs.Common.{◌≡◌, ℕ, Bool, true, false, not, List, [], ◌∷◌, ◌++◌, map, drop, Option, Some, IfSome, refl}
use Rattle.std.specs.List.{flat_map}
use Rattle.mail_wire.specs.Octets.{is_ascii, is_line_end, same_name}
use Rattle.mail_wire.specs.Folds.{unfolded}
use Rattle.mail_wire.proofs.AllLemmas.{pass-append, pass-parts, pass-take, pass-drop}
use Rattle.mail_wire.proofs.Folded.{unfolded-folded}
use Rattle.utf8_fields.specs.declared.block.Field.{Field}
use Rattle.utf8_fields.specs.Block.{raw_of}
use Rattle.utf8_fields.specs.Parts.{FieldParts, HasParts, HasValue}
use Rattle.mime_tree.specs.Openings.{IsValueWhere, IsFirstValue}
use Rattle.imap_views.specs.Fields.{HasRaws}
use Rattle.imap_views.proofs.AsciiTexts.{AreAscii, AreAllAscii, pass_filter}

pub raw_ascii : (header : List ℕ) (field : Field) → AreAscii header → AreAscii (raw_of header field)
raw_ascii header field h = pass-take is_ascii _ (drop field.raw.at header) (pass-drop is_ascii field.raw.at header h)

pub raws_ascii : (header : List ℕ) (fields : List Field) → AreAscii header → AreAllAscii (map (raw_of header) fields)
raws_ascii header [] h = tt
raws_ascii header (field ∷ fields) h = (raw_ascii header field h, raws_ascii header fields h)

pub joined_ascii : (octets : List ℕ) (fields : List Field) → AreAllAscii (map (raw_of octets) fields) → AreAscii (flat_map (raw_of octets) fields)
joined_ascii octets [] h = refl
joined_ascii octets (field ∷ fields) h = pass-append is_ascii (raw_of octets field) (flat_map (raw_of octets) fields) h.0 (joined_ascii octets fields h.1)

pub all_raws_ascii : (header : List ℕ) (raws : List (List ℕ)) → HasRaws header raws → AreAscii header → AreAllAscii raws
all_raws_ascii header raws has h = rw (has.raws_are) (raws_ascii header has.fields h)

-- ---- values

body_ascii : (raw : List ℕ) (f : FieldParts) → HasParts raw f → AreAscii raw → AreAscii f.body
body_ascii raw f is h =
    let after_name = pass-parts is_ascii f.name (f.white ++ 58 ∷ (f.body ++ f.ending)) (rw (is.spelled) at h) in
    let following_white = pass-parts is_ascii f.white (58 ∷ (f.body ++ f.ending)) after_name.1 in
    (pass-parts is_ascii f.body f.ending following_white.1).0

value_ascii : (raw value : List ℕ) (f : FieldParts) → HasParts raw f → HasValue f.body value → AreAscii raw → AreAscii value
value_ascii raw value f is has h =
    let plain : AreAscii (unfolded f.body) = rw (unfolded-folded f.body is.body) (pass_filter is_ascii (λ x. not (is_line_end x)) f.body (body_ascii raw f is h)) in
    let following = pass-parts is_ascii has.lead (value ++ has.trail) (rw (has.whole) at plain) in
    (pass-parts is_ascii value has.trail following.1).0

some_ascii : (text : List ℕ) (value : Option (List ℕ)) → value ≡ Some text → AreAscii text → IfSome value AreAscii
some_ascii text value e h = rw (e) h

pub first_ascii : (name : List ℕ) (raws : List (List ℕ)) (value : Option (List ℕ)) → AreAllAscii raws → IsFirstValue name raws value → IfSome value AreAscii
first_ascii name [] value h is = rw (is) tt
first_ascii name (raw ∷ raws) value h is = by (same_name is.0.name name) is.2 (first_ascii name raws value h.1)
  where
    by : (b : Bool) → IsValueWhere b is.0.body (IsFirstValue name raws) value → (IsFirstValue name raws value → IfSome value AreAscii) → IfSome value AreAscii
    by true said later = some_ascii said.0 value said.2 (value_ascii raw said.0 is.0 is.1 said.1 h.0)
    by false said later = later said
