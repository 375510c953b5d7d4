-- The store after the turns of a stream has their changes.
use Rattle.std.proofs.Common.{◌≡◌, List, [], ℕ, Option, Some, None, sym, ap, subst, ◌∙◌}
use Rattle.journal_records.specs.declared.records.Record.{Record}
use Rattle.mail_store.specs.Following.{records_of}
use Rattle.mail_store.specs.StoreState.{StoreState, with_records}
use Rattle.mail_wire.specs.Framing.{Framed, waiting, whole, too_long}
use Rattle.surrogate_cache.specs.Caching.{Asked}
use Rattle.session_core.specs.Acts.{Act, acts_of, asking, changes_in}
use Rattle.session_core.specs.Grammar.{cut_by, turn_by, turn_in}
use Rattle.session_core.specs.Oracles.{Oracles}
use Rattle.session_core.specs.Turns.{Turn}
use Rattle.session_core.specs.declared.rows.Wants.{Wants}
use Rattle.session_core.proofs.DoneLemmas.{changes_in-acts, changes_in-asking}
use Rattle.session_core.proofs.StoreTurns.{Tracks, all_track}
use Rattle.pop_session.specs.Commands.{command_of}
use Rattle.pop_session.specs.Machine.{ReplyPart, asked_of, step}
use Rattle.pop_session.specs.Session.{Machine, line_too_long, pop_grammar, pop_protocol, turns_of, wants_in}

unsome : {a b : Turn Machine (Act ReplyPart)} → Some a ≡ Some b → a ≡ b
unsome h = cc

-- the changes of a step are those of its acts
with_changes : (store : StoreState) (asked : List Asked) (made : List (List Record)) (reply : List ReplyPart)
    → with_records store (records_of made) ≡ with_records store (records_of (changes_in (asking asked (acts_of made reply))))
with_changes store asked made reply =
    ap (λ (changes : List (List Record)). with_records store (records_of changes)) (sym (changes_in-asking asked (acts_of made reply) ∙ changes_in-acts made reply))

unit_tracks : (oracles : Oracles) (machine : Machine) (framed : Framed) (turn : Turn Machine (Act ReplyPart)) → turn_by pop_grammar oracles machine framed ≡ Some turn → Tracks (λ (m : Machine). m.store) machine turn
unit_tracks oracles machine waiting turn is = cc
unit_tracks oracles machine (whole text rest) turn is =
    let asked = asked_of machine.state machine.store (command_of text) in
    let taken = step oracles machine.state machine.store (command_of text) in
    subst (λ (t : Turn Machine (Act ReplyPart)). Tracks (λ (m : Machine). m.store) machine t) (unsome is) (with_changes machine.store asked taken.changes taken.reply)
unit_tracks oracles machine (too_long rest) turn is =
    subst (λ (t : Turn Machine (Act ReplyPart)). Tracks (λ (m : Machine). m.store) machine t) (unsome is) (with_changes machine.store [] [] line_too_long)

turn_tracks : (oracles : Oracles) (machine : Machine) (want : Option Wants) (octets : List ℕ) (turn : Turn Machine (Act ReplyPart)) → turn_in pop_grammar oracles machine want octets ≡ Some turn
    → Tracks (λ (m : Machine). m.store) machine turn
turn_tracks oracles machine None octets turn is = cc
turn_tracks oracles machine (Some want) octets turn is = unit_tracks oracles machine (cut_by want octets) turn is

pub stream_store : (oracles : Oracles) (machine : Machine) (octets : List ℕ)
    → (turns_of oracles machine octets).after.store ≡ with_records machine.store (records_of (changes_in (turns_of oracles machine octets).parts))
stream_store oracles machine octets =
    all_track (pop_protocol.next oracles) (λ (m : Machine). m.store) (λ m text turn is. turn_tracks oracles m (wants_in m.state) text turn is) machine octets
