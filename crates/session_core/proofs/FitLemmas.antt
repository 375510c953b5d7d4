-- What a session gives may be sent.
use Rattle.std.proofs.Common.{◌≡◌, ℕ, zero, suc, List, [], ◌∷◌, length, Option, Some, None, refl}
use Rattle.session_core.specs.Turns.{Turn, turns, all_turns}
use Rattle.mail_wire.proofs.AllLemmas.{all-append}
use Rattle.session_core.proofs.TurnsLemmas.{turns-zero, turns-stop, turns-go}
use Rattle.std.specs.List.{AllByRecursion}
use Rattle.journal_records.specs.declared.records.Record.{Record}
use Rattle.surrogate_cache.specs.Caching.{Asked}
use Rattle.session_core.specs.Acts.{Act, acts_of, asking, IsFitAct}
use Rattle.session_core.specs.Oracles.{Oracles}
use Rattle.session_core.specs.Protocol.{Protocol, IsFitTurn}

fit_reply : {P : Type 0} (Fits : P → Type 0) (reply : List P) → AllByRecursion Fits reply → AllByRecursion (IsFitAct Fits) (acts_of [] reply)
fit_reply Fits [] fit = tt
fit_reply Fits (part ∷ reply) fit = (fit.0, fit_reply Fits reply fit.1)

-- acts whose parts are fit
pub fit_acts : {P : Type 0} (Fits : P → Type 0) (made : List (List Record)) (reply : List P) → AllByRecursion Fits reply → AllByRecursion (IsFitAct Fits) (acts_of made reply)
fit_acts Fits [] reply fit = fit_reply Fits reply fit
fit_acts Fits (records ∷ made) reply fit = (tt, fit_acts Fits made reply fit)

-- acts after the messages that are asked for
pub fit_asking : {P : Type 0} (Fits : P → Type 0) (asked : List Asked) (acts : List (Act P)) → AllByRecursion (IsFitAct Fits) acts → AllByRecursion (IsFitAct Fits) (asking asked acts)
fit_asking Fits [] acts fit = fit
fit_asking Fits (one ∷ asked) acts fit = (tt, fit_asking Fits asked acts fit)

-- each turn of a sound state may be sent
abbrev pub TurnsFit : Protocol → Oracles → Type 0
TurnsFit protocol oracles = (state : protocol.S) (octets : List ℕ) (turn : Turn protocol.S (Act protocol.P)) → protocol.IsSound state → protocol.next oracles state octets ≡ Some turn → IsFitTurn protocol oracles turn

fit_by : (protocol : Protocol) (oracles : Oracles) → TurnsFit protocol oracles → (n : ℕ) (state : protocol.S) (octets : List ℕ) → protocol.IsSound state
    → (found : Option (Turn protocol.S (Act protocol.P))) → protocol.next oracles state octets ≡ found → IsFitTurn protocol oracles (turns (protocol.next oracles) n state octets)
fit_by protocol oracles fits zero state octets sound found is = rw (turns-zero (protocol.next oracles) state octets) (record { fit = tt; sound = sound })
fit_by protocol oracles fits (suc n) state octets sound None is = rw (turns-stop (protocol.next oracles) (suc n) state octets is) (record { fit = tt; sound = sound })
fit_by protocol oracles fits (suc n) state octets sound (Some turn) is =
    let one = fits state octets turn sound is in
    let later = fit_by protocol oracles fits n turn.after turn.rest one.sound (protocol.next oracles turn.after turn.rest) refl in
    rw (turns-go (protocol.next oracles) n state octets turn is)
    (record { fit = all-append (IsFitAct (protocol.Fits oracles)) turn.parts (turns (protocol.next oracles) n turn.after turn.rest).parts one.fit later.fit; sound = later.sound })

-- so are all turns of a stream
pub all_fit : (protocol : Protocol) (oracles : Oracles) → TurnsFit protocol oracles → (state : protocol.S) (octets : List ℕ) → protocol.IsSound state
    → IsFitTurn protocol oracles (all_turns (protocol.next oracles) state octets)
all_fit protocol oracles fits state octets sound = fit_by protocol oracles fits (length octets) state octets sound (protocol.next oracles state octets) refl
