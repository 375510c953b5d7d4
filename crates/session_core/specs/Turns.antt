-- A session as its turns: a whole command at the head of the octets, and the parts of its reply.
use Rattle.std.specs.Prelude.{◌≡◌, ◌<◌, ℕ, zero, suc, List, [], ◌++◌, length, Option, Some}
use Rattle.std.specs.Option.{option_map_or}

-- The parts that were given, the state after them, and the octets that follow. What a part is in octets, each session says.
pub record Turn (S P : Type 0) : Type 0 where
  pub parts : List P
  pub after : S
  pub rest : List ℕ

-- nothing happens
abbrev pub stay : {S P : Type 0} → S → List ℕ → Turn S P
stay s octets = record { parts = []; after = s; rest = octets }

-- The turn with these parts before its parts.
abbrev pub following : {S P : Type 0} → List P → Turn S P → Turn S P
following parts turn = record { parts = parts ++ turn.parts; after = turn.after; rest = turn.rest }

-- more octets stand after those of the turn
abbrev pub followed_by : {S P : Type 0} → List ℕ → Turn S P → Turn S P
followed_by more turn = record { parts = turn.parts; after = turn.after; rest = turn.rest ++ more }

-- the turns that these octets bring from a state on, at most n of them
unfoldable pub turns : {S P : Type 0} → (S → List ℕ → Option (Turn S P)) → ℕ → S → List ℕ → Turn S P
turns next zero s octets = stay s octets
turns next (suc n) s octets = option_map_or (λ turn. following turn.parts (turns next n turn.after turn.rest)) (next s octets) (stay s octets)

-- all turns that these octets bring: a turn takes an octet at least, so there are no more turns than octets
abbrev pub all_turns : {S P : Type 0} → (S → List ℕ → Option (Turn S P)) → S → List ℕ → Turn S P
all_turns next s octets = turns next (length octets) s octets

-- A turn takes an octet at least, and doesn't depend on what comes after the octets that it takes.
pub record IsFramed {S P : Type 0} (next : S → List ℕ → Option (Turn S P)) : Type 0 where
  pub shorter : (s : S) (octets : List ℕ) (turn : Turn S P) → next s octets ≡ Some turn → length turn.rest < length octets
  pub stays : (s : S) (octets more : List ℕ) (turn : Turn S P) → next s octets ≡ Some turn → next s (octets ++ more) ≡ Some (followed_by more turn)
