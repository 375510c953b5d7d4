-- Texts that begin as no type of what is opened, and fields that begin as none of a name.
use Rattle.std.specs.Prelude.{◌≡◌, ℕ, Bool, false, ◌&&◌, not, ◌==◌, nat_le, List, [], ◌∷◌, ◌++◌}
use Rattle.mail_wire.specs.Octets.{same_name}

-- an octet from `a` on other than `m`: no gap and no comment begins with it, and no type of what is opened
abbrev pub begins_other : List ℕ → Bool
begins_other [] = false
begins_other (x ∷ xs) = nat_le 97 x && not (x == 109)

-- no front of the field is this name
abbrev pub IsNotNamed : List ℕ → List ℕ → Type 0
IsNotNamed raw name = (front rest : List ℕ) → raw ≡ front ++ rest → same_name front name ≡ false
