-- What the parts of a name say, in the order of their numbers.
use Rattle.std.proofs.Common.{◌≡◌, ℕ, zero, suc, true, false, if◌then◌else◌, List, [], ◌∷◌, ◌++◌, length, take, map, refl, sym, ap, ◌∙◌, arith}
use Rattle.std.specs.List.{flat_map}
use Rattle.std.specs.Prelude.{is_some}
use Rattle.std.proofs.lemmas.List.{append-nil, append_assoc, length-map}
use Rattle.encoded_words.specs.Words.{UnitValue}
use Rattle.param_grammar.specs.declared.Piece.{Piece}
use Rattle.param_grammar.specs.Extended.{unit_of}
use Rattle.param_grammar.specs.Joining.{AreNumbered, first_parts, joined_unit, numbered, parts_named, unit_at}
use Rattle.param_grammar.specs.Places.{piece_in}

-- the first parts begin with that of number 0
begins_numbered : (n : ℕ) (parts : List Piece) → (following : List Piece) × (first_parts (suc n) parts ≡ numbered 0 parts ++ following)
begins_numbered zero parts = ([], sym (append-nil (numbered 0 parts)))
begins_numbered (suc n) parts =
    let before = begins_numbered n parts in
    (before.0 ++ numbered (suc n) parts, ap (λ r. r ++ numbered (suc n) parts) before.1 ∙ append_assoc (numbered 0 parts) before.0 (numbered (suc n) parts))

take_one : (xs following : List Piece) (x : Piece) → xs ≡ x ∷ [] → take 1 (xs ++ following) ≡ xs
take_one xs following x e = rw e refl

first_taken : (n : ℕ) (parts : List Piece) → length parts ≡ n → AreNumbered parts → take 1 (first_parts n parts) ≡ numbered 0 parts
first_taken zero [] e are = refl
first_taken zero (part ∷ parts) e are = absurd (omega (arith, e))
first_taken (suc n) parts e are =
    let first = are 0 (omega (arith, e)) in
    let begins = begins_numbered n parts in
    ap (take 1) begins.1 ∙ take_one (numbered 0 parts) begins.0 first.0 first.1

-- parts in the order of their numbers say what the parts say
pub unit_in_order : (parts made : List Piece) (unit : UnitValue) → AreNumbered parts → made ≡ first_parts (length parts) parts
    → unit ≡ unit_of (flat_map (λ part. part.charset) (take 1 made)) (flat_map (λ part. part.octets) made) → unit ≡ joined_unit parts
unit_in_order parts made unit are made_is says =
    says ∙ ap (λ m. unit_of (flat_map (λ (part : Piece). part.charset) (take 1 m)) (flat_map (λ (part : Piece). part.octets) m)) made_is
    ∙ ap (λ f. unit_of (flat_map (λ (part : Piece). part.charset) f) (flat_map (λ (part : Piece). part.octets) (first_parts (length parts) parts))) (first_taken (length parts) parts refl are)

pub unit_of_part : (pieces : List Piece) (piece : Piece) (unit : UnitValue) → is_some piece.number ≡ true → unit ≡ joined_unit (parts_named piece.base pieces) → unit ≡ unit_at pieces piece
unit_of_part pieces piece unit is says = says ∙ sym (ap (λ b. if b then joined_unit (parts_named piece.base pieces) else unit_of piece.charset piece.octets) is)

pub unit_of_whole : (pieces : List Piece) (piece : Piece) (unit : UnitValue) → is_some piece.number ≡ false → unit ≡ unit_of piece.charset piece.octets → unit ≡ unit_at pieces piece
unit_of_whole pieces piece unit is says = says ∙ sym (ap (λ b. if b then joined_unit (parts_named piece.base pieces) else unit_of piece.charset piece.octets) is)

pub unit_of_made : (pieces : List Piece) (piece : Piece) (parts made : List ℕ) (unit : UnitValue) → is_some piece.number ≡ true → AreNumbered (parts_named piece.base pieces)
    → map (piece_in pieces) parts ≡ parts_named piece.base pieces → map (piece_in pieces) made ≡ first_parts (length parts) (map (piece_in pieces) parts)
    → unit ≡ unit_of (flat_map (λ part. part.charset) (take 1 (map (piece_in pieces) made))) (flat_map (λ part. part.octets) (map (piece_in pieces) made)) → unit ≡ unit_at pieces piece
unit_of_made pieces piece parts made unit is are named order says =
    let count : length parts ≡ length (parts_named piece.base pieces) = sym (length-map parts (piece_in pieces)) ∙ ap length named in
    let in_order : map (piece_in pieces) made ≡ first_parts (length (parts_named piece.base pieces)) (parts_named piece.base pieces)
    = order ∙ ap (λ n. first_parts n (map (piece_in pieces) parts)) count ∙ ap (first_parts (length (parts_named piece.base pieces))) named in
    unit_of_part pieces piece unit is (unit_in_order (parts_named piece.base pieces) (map (piece_in pieces) made) unit are in_order says)
