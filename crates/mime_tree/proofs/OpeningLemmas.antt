-- How an entity is opened by its parameters, and which field says it.
use Rattle.std.proofs.Common.{◌≡◌, ◌≢◌, ℕ, ◌+◌, ◌<◌, ◌≤◌, Bool, true, false, not, ◌&&◌, if◌then◌else◌, inl, inr, List, [], ◌∷◌, ◌++◌, length, take, drop, get_or, map, Option, Some, None, Result, Ok, Err, refl, sym, ap, ◌∙◌, subst, arith}
use Rattle.std.proofs.lemmas.List.{drop_more, take_more}
use Rattle.std.proofs.Math.ListN.{drop_of_length-le}
use Rattle.std.proofs.Math.Seq.{take-append_seam}
use Rattle.std.specs.Prelude.{codes, IfOk}
use Rattle.std.specs.Str.{bytes_eq, str_to_ascii_lowercase}
use Rattle.mail_wire.specs.Octets.{same_name}
use Rattle.utf8_fields.specs.declared.block.Field.{Field}
use Rattle.utf8_fields.specs.Parts.{FieldParts, HasParts, IsField, HasValue}
use Rattle.utf8_fields.specs.Block.{raw_of}
use Rattle.param_grammar.specs.declared.Body.{Body}
use Rattle.param_grammar.specs.declared.ParamKind.TheVariants.{Content}
use Rattle.param_grammar.specs.declared.Piece.{Piece}
use Rattle.param_grammar.specs.declared.places.Place.{Place}
use Rattle.param_grammar.specs.declared.role.Placed.{Placed}
use Rattle.param_grammar.specs.declared.role.Role.{Role}
use Rattle.param_grammar.specs.declared.role.Role.TheVariants.{Begins}
use Rattle.param_grammar.specs.Joining.{ParamValue, HasSaidBody, IsRole, goes_on, params_after, params_of, unit_at}
use Rattle.param_grammar.specs.Placed.{HasPlaced, HasBodyAt}
use Rattle.param_grammar.specs.Places.{IsPlaced, no_piece, piece_in}
use Rattle.param_grammar.proofs.PlaceLemmas.{ArePlaced-at, ArePlaced-length}
use Rattle.param_grammar.proofs.SaidTrees.{HasBodyAt-says}
use Rattle.mime_tree.specs.declared.openings.Opening.{Opening}
use Rattle.mime_tree.specs.declared.openings.Opening.TheVariants.{Nothing, Message}
use Rattle.mime_tree.specs.Openings.{is_message_type, is_multipart_type, is_digest_type, boundary_in, usable_of, divided, opening_said, OpensByText, IsFirstValue, AreFieldsWithin}
use Rattle.mime_tree.specs.private.Types.{IsNotNamed}
use Rattle.mime_tree.proofs.PlainNames.{other_length}

-- what the parameters from a piece on say of a boundary is what all say
pub record GoesOnFor (pieces : List Piece) (k : ℕ) : Type 0 where
  pub same : boundary_in (params_of pieces) ≡ boundary_in (params_after pieces (take k pieces) (drop k pieces))

-- whether a piece begins the parameter
abbrev begins : List Piece → ℕ → Bool
begins pieces k = not (goes_on (take k pieces) (piece_in pieces k)) && bytes_eq (piece_in pieces k).base (codes "boundary")

boundary_at : (pieces : List Piece) (k : ℕ) → k < length pieces
    → boundary_in (params_after pieces (take k pieces) (drop k pieces)) ≡ boundary_in (params_after pieces (take k pieces) (piece_in pieces k ∷ drop (k + 1) pieces))
boundary_at pieces k below = ap (λ rest. boundary_in (params_after pieces (take k pieces) rest)) (drop_more pieces k no_piece below)

named_first : (g : Bool) (param : ParamValue) (params : List ParamValue) → (not g && bytes_eq param.name (codes "boundary")) ≡ true
    → boundary_in (if g then params else param ∷ params) ≡ Some param.unit
unfolding boundary_in
named_first true param params e = cc e
named_first false param params e = rw (e) refl

named_later : (g : Bool) (param : ParamValue) (params : List ParamValue) → (not g && bytes_eq param.name (codes "boundary")) ≡ false
    → boundary_in (if g then params else param ∷ params) ≡ boundary_in params
unfolding boundary_in
named_later true param params e = refl
named_later false param params e = rw (e) refl

abbrev param_at : List Piece → ℕ → ParamValue
param_at pieces k = record { name = (piece_in pieces k).base; unit = unit_at pieces (piece_in pieces k) }

pub boundary-here : (pieces : List Piece) (k : ℕ) → GoesOnFor pieces k → k < length pieces → begins pieces k ≡ true → boundary_in (params_of pieces) ≡ Some (unit_at pieces (piece_in pieces k))
boundary-here pieces k goes below is =
    goes.same ∙ boundary_at pieces k below
    ∙ named_first (goes_on (take k pieces) (piece_in pieces k)) (param_at pieces k) (params_after pieces (take k pieces ++ piece_in pieces k ∷ []) (drop (k + 1) pieces)) is

pub boundary-later : (pieces : List Piece) (k : ℕ) → GoesOnFor pieces k → k < length pieces → begins pieces k ≡ false → GoesOnFor pieces (k + 1)
boundary-later pieces k goes below other = record {
  same = goes.same ∙ boundary_at pieces k below
      ∙ named_later (goes_on (take k pieces) (piece_in pieces k)) (param_at pieces k) (params_after pieces (take k pieces ++ piece_in pieces k ∷ []) (drop (k + 1) pieces)) other
      ∙ ap (λ before. boundary_in (params_after pieces before (drop (k + 1) pieces))) (sym (take_more pieces k no_piece below));
}

pub boundary-none : (pieces : List Piece) (k : ℕ) → GoesOnFor pieces k → length pieces ≤ k → boundary_in (params_of pieces) ≡ None
unfolding boundary_in
boundary-none pieces k goes past = goes.same ∙ ap (λ rest. boundary_in (params_after pieces (take k pieces) rest)) (drop_of_length-le pieces past)

-- the number of a place is that of a piece
pub piece_below : (text : List ℕ) (placed : Placed) (pieces : List Piece) (k : ℕ) → HasPlaced text placed pieces → k < length placed.places.items → k < length pieces
piece_below text placed pieces k has below = omega (arith, below, ArePlaced-length text placed.places.items pieces has.are_placed)

pub piece_past : (text : List ℕ) (placed : Placed) (pieces : List Piece) (k : ℕ) → HasPlaced text placed pieces → length placed.places.items ≤ k → length pieces ≤ k
piece_past text placed pieces k has past = omega (arith, past, ArePlaced-length text placed.places.items pieces has.are_placed)

-- a piece that its role and its name, as it is written, tell to begin the parameter
pub begins_here : (text : List ℕ) (placed : Placed) (pieces : List Piece) (k : ℕ) (role : Role) (a b : Bool) (place : Place) (written : List ℕ) (same : Bool) → HasPlaced text placed pieces
    → k < length placed.places.items → role ≡ get_or placed.roles.items k role → role ≡ Begins a b → place ≡ get_or placed.places.items k place
    → ((piece : Piece) → IsPlaced text place piece → piece.base ≡ str_to_ascii_lowercase written) → same ≡ same_name written (codes "boundary") → same ≡ begins pieces k
unfolding same_name
begins_here text placed pieces k role a b place written same has below at is place_at named same_is =
    let piece = piece_in pieces k in
    let said = has.roles k role (piece_below text placed pieces k has below) in
    let begun : IsRole pieces (take k pieces) piece (Begins a b) = subst (IsRole pieces (take k pieces) piece) (sym at ∙ is) said in
    let placed_at : IsPlaced text place piece = subst (λ p. IsPlaced text p piece) (sym place_at) (ArePlaced-at text placed.places.items pieces k place has.are_placed below) in
    same_is ∙ ap (λ base. bytes_eq base (codes "boundary")) (sym (named piece placed_at)) ∙ ap (λ g. not g && bytes_eq piece.base (codes "boundary")) (sym begun.0)

-- The opening of each type.
pub said-message : (main : List ℕ) (params : List ParamValue) → is_message_type main ≡ true → Message ≡ opening_said main params
said-message main params is = rw (is) refl

pub said-other : (main : List ℕ) (params : List ParamValue) → is_message_type main ≡ false → is_multipart_type main ≡ false → Nothing ≡ opening_said main params
said-other main params no_message no_parts = rw (no_message, no_parts) refl

pub said-parts : (main : List ℕ) (params : List ParamValue) (usable : Option (List ℕ)) → is_message_type main ≡ false → is_multipart_type main ≡ true → usable ≡ usable_of (boundary_in params)
    → divided usable (is_digest_type main) ≡ opening_said main params
said-parts main params usable no_message parts is = rw (no_message, parts, is) refl

-- A text that was read opens an entity by what it says, and one that can't be read doesn't open it.
text_opens : (text : List ℕ) (body : Body) (opening : Opening) → (has : HasBodyAt Content text body) → opening ≡ opening_said body.main (params_of has.pieces) → OpensByText text opening
text_opens text body opening has is = let said = HasBodyAt-says Content text body has in inl (body.main, params_of has.pieces, said.0, said.1, is)

pub opens-where : {E : Type 0} (text : List ℕ) (body : Body) (opened : Result Opening E) → (has : HasBodyAt Content text body)
    → IfOk opened (λ opening. opening ≡ opening_said body.main (params_of has.pieces)) → IfOk opened (OpensByText text)
opens-where text body (Ok opening) has is = text_opens text body opening has is
opens-where text body (Err fault) has is = tt

pub text-malformed : (text : List ℕ) → ((main : List ℕ) (params : List ParamValue) → HasSaidBody Content text main params → ⊥) → OpensByText text Nothing
text-malformed text none = inr (λ main params comments says. none main params says.body, refl)

-- a field as the code reads it past the end of a list
abbrev pub no_field : Field
no_field = record { name = record { at = 0; len = 0 }; raw = record { at = 0; len = 0 } }

-- the first value from a place on is the first of all
pub record LeavesFields (octets name : List ℕ) (fields : List Field) (k : ℕ) : Type 0 where
  pub onward : (value : Option (List ℕ)) → IsFirstValue name (map (raw_of octets) (drop k fields)) value → IsFirstValue name (map (raw_of octets) fields) value

pub LeavesFields-all : (octets name : List ℕ) (fields : List Field) → LeavesFields octets name fields 0
LeavesFields-all octets name fields = record { onward = λ value is. is }

first_from : (octets name : List ℕ) (fields : List Field) (k : ℕ) (value : Option (List ℕ)) → k < length fields
    → IsFirstValue name (raw_of octets (get_or fields k no_field) ∷ map (raw_of octets) (drop (k + 1) fields)) value → IsFirstValue name (map (raw_of octets) (drop k fields)) value
first_from octets name fields k value below is = subst (λ all. IsFirstValue name (map (raw_of octets) all) value) (sym (drop_more fields k no_field below)) is

pub value-here : (octets name : List ℕ) (fields : List Field) (k : ℕ) (parts : FieldParts) (value : List ℕ) → LeavesFields octets name fields k → k < length fields
    → HasParts (raw_of octets (get_or fields k no_field)) parts → same_name parts.name name ≡ true → HasValue parts.body value → IsFirstValue name (map (raw_of octets) fields) (Some value)
value-here octets name fields k parts value leaves below has named is =
    leaves.onward (Some value) (first_from octets name fields k (Some value) below (parts, has, rw (named) (value, is, refl)))

pub value-later : (octets name : List ℕ) (fields : List Field) (k : ℕ) (parts : FieldParts) → LeavesFields octets name fields k → k < length fields
    → HasParts (raw_of octets (get_or fields k no_field)) parts → same_name parts.name name ≡ false → LeavesFields octets name fields (k + 1)
value-later octets name fields k parts leaves below has other =
    record { onward = λ value is. leaves.onward value (first_from octets name fields k value below (parts, has, rw (other) is)) }

-- a field that begins with the name: its own name is this one, or a longer or shorter one
named_by_front : (raw name : List ℕ) (parts : FieldParts) → HasParts raw parts → same_name (take (length name) raw) name ≡ true → length parts.name ≡ length name → same_name parts.name name ≡ true
named_by_front raw name parts has front len =
    let taken : take (length name) raw ≡ parts.name = ap (λ n. take n raw) (sym len) ∙ ap (take (length parts.name)) has.spelled ∙ take-append_seam parts.name (parts.white ++ 58 ∷ (parts.body ++ parts.ending)) in
    ap (λ text. same_name text name) (sym taken) ∙ front

pub value-named : (octets name : List ℕ) (fields : List Field) (k : ℕ) (parts : FieldParts) (value : List ℕ) → LeavesFields octets name fields k → k < length fields
    → HasParts (raw_of octets (get_or fields k no_field)) parts → same_name (take (length name) (raw_of octets (get_or fields k no_field))) name ≡ true → length parts.name ≡ length name
    → HasValue parts.body value → IsFirstValue name (map (raw_of octets) fields) (Some value)
value-named octets name fields k parts value leaves below has front len is =
    value-here octets name fields k parts value leaves below has (named_by_front (raw_of octets (get_or fields k no_field)) name parts has front len) is

pub value-other : (octets name : List ℕ) (fields : List Field) (k : ℕ) (parts : FieldParts) → LeavesFields octets name fields k → k < length fields
    → HasParts (raw_of octets (get_or fields k no_field)) parts → length parts.name ≢ length name → LeavesFields octets name fields (k + 1)
value-other octets name fields k parts leaves below has differs = value-later octets name fields k parts leaves below has (other_length parts.name name differs)

-- a field that doesn't begin with the name
pub value-passed : (octets name : List ℕ) (fields : List Field) (k : ℕ) → LeavesFields octets name fields k → k < length fields → AreFieldsWithin octets fields
    → IsNotNamed (raw_of octets (get_or fields k no_field)) name → LeavesFields octets name fields (k + 1)
value-passed octets name fields k leaves below within other =
    let field = (within k no_field below).1 in
    let f = field.parts in
    value-later octets name fields k f leaves below field.has_parts (other f.name (f.white ++ 58 ∷ (f.body ++ f.ending)) field.has_parts.spelled)

pub value-none : (octets name : List ℕ) (fields : List Field) (k : ℕ) → LeavesFields octets name fields k → length fields ≤ k → IsFirstValue name (map (raw_of octets) fields) None
value-none octets name fields k leaves past = leaves.onward None (subst (λ all. IsFirstValue name (map (raw_of octets) all) None) (sym (drop_of_length-le fields past)) refl)

-- a field's parts, as they were split off
pub split_parts : (raw : List ℕ) (made : FieldParts) → IsField raw → ((f : FieldParts) → HasParts raw f → made ≡ f) → HasParts raw made
split_parts raw made is only = subst (HasParts raw) (sym (only is.parts is.has_parts)) is.has_parts
