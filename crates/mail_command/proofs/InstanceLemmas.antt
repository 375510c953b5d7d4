-- What follows of each instance of a protocol.
use Rattle.std.proofs.Common.{ℕ, [], ◌++◌, Option}
use Rattle.std.proofs.lemmas.List.Elements.{All-nil}
use Rattle.session_core.specs.Moments.{IsTold}
use Rattle.session_core.specs.Protocol.{Protocol}
use Rattle.session_core.specs.Serving.{Instance, instance_of, OfInstance}

-- what follows for each
pub with_instance : (protocol : Protocol) (reading : Option ℕ) (P Q : Instance → Type 0) → ((instance : Instance) → P instance → Q instance) → OfInstance protocol reading P → OfInstance protocol reading Q
with_instance protocol reading P Q step has = record {
  told = has.told;
  are_told = has.are_told;
  holds = λ oracles are more. step (instance_of protocol oracles (has.told ++ more)) (has.holds oracles are more);
}

-- what holds of each
pub of_each : (protocol : Protocol) (reading : Option ℕ) (P : Instance → Type 0) → ((instance : Instance) → P instance) → OfInstance protocol reading P
of_each protocol reading P each = record {
  told = [];
  are_told = All-nil (IsTold reading);
  holds = λ oracles are more. each (instance_of protocol oracles more);
}
