-- What was given, of octets that are said by what holds of them.
use Rattle.std.proofs.Common.{◌≡◌, ℕ, List, length, take, drop, arith}
use Rattle.std.specs.Prelude.{IfOk, OnOk, OnErr, Result, Ok, Err}
use Rattle.std.proofs.lemmas.List.{take_all}
use Rattle.mail_wire.specs.WireState.{WireState}
use Rattle.mail_wire.specs.Moves.{GivesOrFails}
use Rattle.mail_command.specs.declared.tasks.Task.{Task}
use Rattle.mail_command.specs.Giving.{GivesOne, BeginsOne, GivesNone, GivesPart}
use Rattle.mail_command.specs.Outcome.{Outcome, IsOutcome}

-- a call that gave them all
pub gives_one : {T E : Type 0} (Holds : List ℕ → Type 0) (a b : WireState) (result : Result T E) (octets : List ℕ) → Holds octets → GivesOrFails a b result octets → OnOk result (GivesOne Holds a b)
gives_one Holds a b (Ok done) octets holds gives = record { octets = octets; holds = holds; gives = gives }
gives_one Holds a b (Err fault) octets holds gives = tt

-- or failed
pub begins_one : {T E : Type 0} (Holds : List ℕ → Type 0) (a b : WireState) (result : Result T E) (octets : List ℕ) → Holds octets → GivesOrFails a b result octets → OnErr result (BeginsOne Holds a b)
begins_one Holds a b (Ok done) octets holds gives = tt
begins_one Holds a b (Err fault) octets holds gives = GivesPart octets holds gives

-- what holds of them is more
pub gives_more : (Holds More : List ℕ → Type 0) (a b : WireState) → ((octets : List ℕ) → Holds octets → More octets) → GivesOne Holds a b → GivesOne More a b
gives_more Holds More a b more one = record { octets = one.octets; holds = more one.octets one.holds; gives = one.gives }

pub begins_more : (Holds More : List ℕ → Type 0) (a b : WireState) → ((octets : List ℕ) → Holds octets → More octets) → BeginsOne Holds a b → BeginsOne More a b
begins_more Holds More a b more (GivesNone none) = GivesNone none
begins_more Holds More a b more (GivesPart octets holds part) = GivesPart octets (more octets holds) part

-- the line that refuses a message
pub gives_refusal : (task : Task) (octets line : List ℕ) (a b : WireState) {E : Type 0} (result : Result ℕ E) → Outcome task octets 7 line → GivesOrFails a b result line → IfOk result (λ status. status ≡ 7)
    → IfOk result (λ status. GivesOne (Outcome task octets status) a b)
gives_refusal task octets line a b (Ok status) outcome gives is = record { octets = line; holds = rw is outcome; gives = gives }
gives_refusal task octets line a b (Err fault) outcome gives is = tt

pub begins_refusal : (task : Task) (octets line : List ℕ) (a b : WireState) {E : Type 0} (result : Result ℕ E) → Outcome task octets 7 line → GivesOrFails a b result line
    → OnErr result (BeginsOne (IsOutcome task octets) a b)
begins_refusal task octets line a b result outcome gives = begins_one (IsOutcome task octets) a b result line (7, outcome) gives

-- from the first place on, as many as there are
pub gives_whole : {T E : Type 0} (a b : WireState) (result : Result T E) (octets : List ℕ) (n : ℕ) → n ≡ length octets → GivesOrFails a b result (take n (drop 0 octets)) → GivesOrFails a b result octets
gives_whole a b result octets n all gives = rw (take_all n octets (omega (arith, all))) at gives
