-- How a step of a machine is shown to be one: a turn that was carried out, no turn yet, or a fault before anything was done.
use Rattle.std.proofs.Common.{◌≡◌, ℕ, List, [], ◌++◌, drop, Ok, Err, Some, refl, ap}
use Rattle.std.proofs.lemmas.List.Elements.{All-nil}
use Rattle.session_core.specs.Turns.{Turn, IsFramed, all_turns}
use Rattle.mail_wire.specs.declared.outside.Fault.{Fault}
use Rattle.mail_wire.specs.declared.outside.Fault.TheVariants as fault
use Rattle.session_core.proofs.TurnsLemmas.{all_turns-go}
use Rattle.session_core.specs.Acts.{Act}
use Rattle.session_core.specs.Around.{Around}
use Rattle.session_core.specs.Doing.{DoesAll, DoesFirst}
use Rattle.session_core.specs.Grammar.{Grammar, Answers, StandingRows}
use Rattle.session_core.specs.Oracles.{Oracles}
use Rattle.session_core.specs.Moments.{Moment, IsTold}
use Rattle.session_core.specs.Protocol.{Protocol}
use Rattle.session_core.specs.Steps.{Standing, StandsAfter, Steps, StepsBy}
use Rattle.session_core.specs.declared.machine.Advance.{Advance}
use Rattle.session_core.proofs.DoingLemmas.{DoesAll-nil, DoesFirst-none}

-- the turn at the head of what was kept and the piece was carried out
pub StepsBy-turn : (protocol : Protocol) {M : Type 0} (stands : Standing protocol M) (oracles : Oracles) → IsFramed (protocol.next oracles) → (a b : Around) (advance : Advance M) (keeps piece : List ℕ) (more : List Moment) (rest : List ℕ)
    (state : protocol.S) (octets : List ℕ) (turn : Turn protocol.S (Act protocol.P))
    → protocol.next oracles state octets ≡ Some turn → DoesAll (protocol.spelled oracles) a b turn.parts
    → StandsAfter protocol stands more advance.next keeps b.desk turn.after rest → turn.rest ≡ rest ++ drop advance.used piece
    → StepsBy protocol stands oracles a b (Ok advance) keeps piece more (all_turns (protocol.next oracles) state octets)
StepsBy-turn protocol stands oracles framed a b advance keeps piece more rest state octets turn is does has left = record {
  acts = turn.parts;
  turn = all_turns (protocol.next oracles) turn.after turn.rest;
  turns_are = all_turns-go (protocol.next oracles) framed state octets turn is;
  does = does;
  stays = record { state = turn.after; rest = rest; has = has; turn_is = ap (λ l. all_turns (protocol.next oracles) turn.after l) left };
}

-- a fault in it
pub StepsBy-fails : (protocol : Protocol) {M : Type 0} (stands : Standing protocol M) (oracles : Oracles) → IsFramed (protocol.next oracles) → (a b : Around) (keeps piece : List ℕ) (more : List Moment) (met : Fault)
    (state : protocol.S) (octets : List ℕ) (turn : Turn protocol.S (Act protocol.P)) → protocol.next oracles state octets ≡ Some turn → DoesFirst (protocol.spelled oracles) a b met turn.parts
    → StepsBy protocol {M = M} stands oracles a b (Err met) keeps piece more (all_turns (protocol.next oracles) state octets)
StepsBy-fails protocol stands oracles framed a b keeps piece more met state octets turn is first = record {
  acts = turn.parts;
  turn = all_turns (protocol.next oracles) turn.after turn.rest;
  turns_are = all_turns-go (protocol.next oracles) framed state octets turn is;
  does = first;
  stays = tt;
}

-- no turn yet: more was kept
pub StepsBy-waits : (protocol : Protocol) {M : Type 0} (stands : Standing protocol M) (oracles : Oracles) (a : Around) (advance : Advance M) (keeps piece : List ℕ) (more : List Moment) (rest : List ℕ)
    (state : protocol.S) (octets : List ℕ) → StandsAfter protocol stands more advance.next keeps a.desk state rest → octets ≡ rest ++ drop advance.used piece
    → StepsBy protocol stands oracles a a (Ok advance) keeps piece more (all_turns (protocol.next oracles) state octets)
StepsBy-waits protocol stands oracles a advance keeps piece more rest state octets has left = record {
  acts = [];
  turn = all_turns (protocol.next oracles) state octets;
  turns_are = refl;
  does = DoesAll-nil (protocol.spelled oracles) a;
  stays = record { state = state; rest = rest; has = has; turn_is = ap (λ l. all_turns (protocol.next oracles) state l) left };
}

-- a fault before anything was done
pub Steps-stop : (protocol : Protocol) {M : Type 0} (stands : Standing protocol M) (a : Around) (machine : M) (kept keeps piece : List ℕ) (met : Fault) → (met ≡ fault.Keeper → ⊥)
    → Steps protocol stands a a machine kept keeps piece (Err met)
Steps-stop protocol stands a machine kept keeps piece met fine = record {
  told = [];
  are_told = All-nil (IsTold a.clock);
  steps = λ oracles are more state rest has. record {
    acts = [];
    turn = all_turns (protocol.next oracles) state (rest ++ piece);
    turns_are = refl;
    does = DoesFirst-none (protocol.spelled oracles) a met [] fine;
    stays = tt;
  };
}

pub Answers-stop : (grammar : Grammar) {R : Type 0} (stands : StandingRows grammar R) (a : Around) (rows : R) (unit : List ℕ) (met : Fault) → (met ≡ fault.Keeper → ⊥) → Answers grammar stands a a rows unit (Err met)
Answers-stop grammar stands a rows unit met fine = record {
  told = [];
  are_told = All-nil (IsTold a.clock);
  answers = λ oracles are more state has. record { does = DoesFirst-none (grammar.spelled oracles) a met (grammar.row oracles state unit).acts fine; next = tt };
}
