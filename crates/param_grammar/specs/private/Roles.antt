-- The roles of the pieces of a name.
use Rattle.std.specs.Prelude.{◌≡◌, ℕ, ◌<◌, ◌==◌, nat_lt, Bool, true, false, if◌then◌else◌, Option, Some, None, List, length, filter, take, get_or}
use Rattle.std.specs.List.{list_all, list_any, slice_get}
use Rattle.std.specs.Str.{bytes_eq, str_to_ascii_lowercase}
use Rattle.param_grammar.specs.declared.Piece.{Piece}
use Rattle.param_grammar.specs.declared.places.Place.{Place}
use Rattle.param_grammar.specs.declared.role.NameRoles.{NameRoles}
use Rattle.param_grammar.specs.declared.role.Role.{Role}
use Rattle.param_grammar.specs.declared.role.Role.TheVariants.{GoesOn, Begins}
use Rattle.param_grammar.specs.Joining.{AreNumbered, IsRole, parts_named}
use Rattle.param_grammar.specs.Places.{ArePlaced, piece_in}
use Rattle.param_grammar.specs.private.Ordered.{name_in, numbered_in, ascii_in, numbers_below}

abbrev pub is_first : Option ℕ → ℕ → Bool
is_first None number = false
is_first (Some first) number = first == number

-- the role that the piece of a number has by what its name tells
abbrev pub role_at : List Place → NameRoles → ℕ → Role
role_at places name number =
    if numbered_in places number then (if is_first name.first number then Begins name.is_ascii name.has_whole else GoesOn name.is_ascii)
    else Begins (ascii_in places number) name.is_doubled

-- the roles of these pieces are put, and the others are as they were
abbrev pub ArePut : List Place → NameRoles → List ℕ → List Role → List Role → Type 0
ArePut places name run old new = (number : ℕ) (other : Role) → number < length old
    → get_or new number other ≡ (if list_any (λ one. one == number) run then role_at places name number else get_or old number other)

-- what the pieces of these numbers tell
pub record AreToldBy (places : List Place) (run : List ℕ) (name : NameRoles) : Type 0 where
  pub first : name.first ≡ slice_get (filter (numbered_in places) run) 0
  pub is_ascii : name.is_ascii ≡ list_all (ascii_in places) (filter (numbered_in places) run)
  pub has_whole : name.has_whole ≡ nat_lt (length (filter (numbered_in places) run)) (length run)
  pub is_doubled : name.is_doubled ≡ nat_lt 1 (length run)

-- these are the pieces, and this is the text in lower case
pub record AreLowered (text lower : List ℕ) (places : List Place) (pieces : List Piece) : Type 0 where
  pub are_placed : ArePlaced text places pieces
  pub lower_is : lower ≡ str_to_ascii_lowercase text

-- the run is the numbers of all pieces that have the name of a piece
pub record IsNameRun (lower : List ℕ) (places : List Place) (run : List ℕ) (first : ℕ) : Type 0 where
  pub within : first < length places
  pub run_is : run ≡ filter (λ other. bytes_eq (name_in lower places first) (name_in lower places other)) (numbers_below (length places))

abbrev pub HasRole : List Piece → List Role → ℕ → Type 0
HasRole pieces roles number = (other : Role) → IsRole pieces (take number pieces) (piece_in pieces number) (get_or roles number other)

-- the piece has its role, and the parts of its name are numbered
pub record HasItsRole (pieces : List Piece) (roles : List Role) (number : ℕ) : Type 0 where
  pub role : HasRole pieces roles number
  pub are_numbered : AreNumbered (parts_named (piece_in pieces number).base pieces)

-- all pieces of the name of a piece have their roles now, and the others the roles that they had
pub record SetsRoles (lower : List ℕ) (places : List Place) (pieces : List Piece) (first : ℕ) (old new : List Role) : Type 0 where
  pub said : (number : ℕ) → number < length places → bytes_eq (name_in lower places first) (name_in lower places number) ≡ true → HasItsRole pieces new number
  pub kept : (number : ℕ) (other : Role) → number < length places → bytes_eq (name_in lower places first) (name_in lower places number) ≡ false
      → get_or new number other ≡ get_or old number other
