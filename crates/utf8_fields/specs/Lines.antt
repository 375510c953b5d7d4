-- The lines of a header block (RFC 5322, 2.2 and 4.5.8, with the UTF-8 of RFC 6532).
use Rattle.std.specs.Prelude.{◌≡◌, ℕ, ◌<◌, true, List, [], ◌∷◌, ◌++◌, length}
use Rattle.std.specs.List.{list_all}
use Rattle.mail_wire.specs.Characters.{colon as colon_octet}
use Rattle.mail_wire.specs.Octets.{is_white, is_field_name_octet}

-- the line begins a field of this name: one or more name octets, white, a colon
pub record BeginsField (name line : List ℕ) : Type 0 where
  pub some : 0 < length name
  pub octets : list_all is_field_name_octet name ≡ true
  pub colon : (white rest : List ℕ) × (list_all is_white white ≡ true) × (line ≡ name ++ (white ++ colon_octet ∷ rest))

-- white comes first, so that the line goes on with a field
abbrev pub BeginsWhite : List ℕ → Type 0
BeginsWhite [] = ⊥
BeginsWhite (x ∷ rest) = is_white x ≡ true
