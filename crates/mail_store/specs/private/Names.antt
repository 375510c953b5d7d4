-- Numbers by name in a hash map.
use Rattle.std.specs.Prelude.{ℕ, List, Option}
use Rattle.std.specs.Str.{bytes_eq}
use Rattle.std.specs.HashMap.{HashMap, get_by}
use Rattle.std.specs.Global.{Vec}

-- the number at a name
abbrev pub number_hashed : {S : Type 0} → HashMap (Vec ℕ) ℕ S → List ℕ → Option ℕ
number_hashed numbers name = get_by (λ key. bytes_eq name key.items) numbers
