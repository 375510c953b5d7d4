-- What a sender asks for a message: RET and ENVID (RFC 3461, 4.3 and 4.4).
use Rattle.std.specs.Prelude.{◌≡◌, ℕ, ◌<◌, ◌≤◌, Bool, true, false, List, [], ◌∷◌, length, codes, Option, None, Some}
use Rattle.mail_wire.specs.Tables.{Named, said_by}
use Rattle.dsn_terms.specs.Xtexts.{IsPrintableXtext}
use Rattle.dsn_terms.specs.Parameters.{are_parameters, value_under}
use Rattle.dsn_terms.specs.declared.Terms.{Terms}

-- the values of RET, and whether each asks for the whole message
abbrev pub ret_words : List (Named Bool)
ret_words = record { word = codes "FULL"; says = true } ∷ record { word = codes "HDRS"; says = false } ∷ []

-- Whether a report of a failure carries the whole message: with FULL it does, with HDRS or without RET its header alone (RFC 3461, 4.3).
abbrev pub ret_says : Option (List ℕ) → Option Bool
ret_says None = Some false
ret_says (Some value) = said_by ret_words value

-- ENVID's value is xtext of this identifier, in 1 to 100 octets (RFC 3461, 4.4 and 5.4).
pub record IsEnvid (value envid : List ℕ) : Type 0 where
  pub reads : IsPrintableXtext value envid
  pub some : 0 < length value
  pub most : length value ≤ 100

-- the identifier that ENVID says, and none without it
abbrev pub EnvidSays : Option (List ℕ) → List ℕ → Type 0
EnvidSays None envid = envid ≡ []
EnvidSays (Some value) envid = IsEnvid value envid

-- The words are RET and ENVID, each at most once and in any order, and say these terms (RFC 3461, 4).
pub record HasMailTerms (words : List (List ℕ)) (terms : Terms) : Type 0 where
  pub parameters : are_parameters (codes "RET=") (codes "ENVID=") words ≡ true
  pub full : ret_says (value_under (codes "RET=") words) ≡ Some terms.full
  pub envid : EnvidSays (value_under (codes "ENVID=") words) terms.envid
