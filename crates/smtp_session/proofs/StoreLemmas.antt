-- The store after the turns of a stream has their changes.
use Rattle.std.proofs.Common.{◌≡◌, List, [], ℕ, Option, Some, None, sym, ap, subst}
use Rattle.std.proofs.lemmas.Option.{same_Some}
use Rattle.std.specs.Option.{option_map}
use Rattle.journal_records.specs.declared.records.Record.{Record}
use Rattle.mail_store.specs.Following.{records_of}
use Rattle.mail_store.specs.StoreState.{StoreState, with_records}
use Rattle.mail_wire.specs.Dots.{unstuffed}
use Rattle.mail_wire.specs.Framing.{Framed, waiting, whole, too_long, next_line}
use Rattle.mail_wire.specs.Lines.{Cut}
use Rattle.smtp_grammar.specs.Data.{data_cut}
use Rattle.session_core.specs.Acts.{Act, acts_of, changes_in}
use Rattle.session_core.specs.Oracles.{Oracles}
use Rattle.session_core.specs.Turns.{Turn}
use Rattle.session_core.proofs.DoneLemmas.{changes_in-acts}
use Rattle.session_core.proofs.StoreTurns.{Tracks, all_track}
use Rattle.smtp_session.specs.Machine.{State, collecting, end_data, ended, fresh, greeted, line_step, mail}
use Rattle.smtp_session.specs.Session.{Machine, data_turn, line_too_long, line_turn, next_moment, next_turn, turn_from, turns_of}
use Rattle.smtp_session.specs.declared.states.Client.{Client}
use Rattle.smtp_session.specs.declared.states.Envelope.{Envelope}

-- the changes of a step are those of its acts
with_changes : (store : StoreState) (made : List (List Record)) (reply : List (List ℕ)) → with_records store (records_of made) ≡ with_records store (records_of (changes_in (acts_of made reply)))
with_changes store made reply = ap (λ (changes : List (List Record)). with_records store (records_of changes)) (sym (changes_in-acts made reply))

abbrev TracksStore : Machine → Turn Machine (Act (List ℕ)) → Type 0
TracksStore machine turn = Tracks (λ (m : Machine). m.store) machine turn

line_tracks : (oracles : Oracles) (machine : Machine) (framed : Framed) (turn : Turn Machine (Act (List ℕ))) → line_turn oracles machine framed ≡ Some turn → TracksStore machine turn
line_tracks oracles machine waiting turn is = cc
line_tracks oracles machine (whole text rest) turn is =
    let taken = line_step oracles machine.state machine.store text in
    subst (TracksStore machine) (same_Some _ _ is) (with_changes machine.store taken.changes taken.reply)
line_tracks oracles machine (too_long rest) turn is = subst (TracksStore machine) (same_Some _ _ is) (with_changes machine.store [] line_too_long)

data_tracks : (oracles : Oracles) (machine : Machine) (client : Client) (envelope : Envelope) (found : Option Cut) (turn : Turn Machine (Act (List ℕ)))
    → option_map (data_turn oracles machine client envelope) found ≡ Some turn → TracksStore machine turn
data_tracks oracles machine client envelope None turn is = cc
data_tracks oracles machine client envelope (Some cut) turn is =
    let taken = end_data oracles machine.store client envelope (next_moment machine.moments) (unstuffed cut.line) in
    subst (TracksStore machine) (same_Some _ _ is) (with_changes machine.store taken.changes taken.reply)

turn_tracks : (oracles : Oracles) (state : State) (machine : Machine) (octets : List ℕ) (turn : Turn Machine (Act (List ℕ))) → turn_from oracles state machine octets ≡ Some turn → TracksStore machine turn
turn_tracks oracles (fresh first) machine octets turn is = line_tracks oracles machine (next_line octets) turn is
turn_tracks oracles (greeted client) machine octets turn is = line_tracks oracles machine (next_line octets) turn is
turn_tracks oracles (mail client envelope) machine octets turn is = line_tracks oracles machine (next_line octets) turn is
turn_tracks oracles (collecting client envelope) machine octets turn is = data_tracks oracles machine client envelope (data_cut octets) turn is
turn_tracks oracles ended machine octets turn is = cc

next_tracks : (oracles : Oracles) (machine : Machine) (octets : List ℕ) (turn : Turn Machine (Act (List ℕ))) → next_turn oracles machine octets ≡ Some turn → TracksStore machine turn
unfolding next_turn
next_tracks oracles machine octets turn is = turn_tracks oracles machine.state machine octets turn is

pub stream_store : (oracles : Oracles) (machine : Machine) (octets : List ℕ)
    → (turns_of oracles machine octets).after.store ≡ with_records machine.store (records_of (changes_in (turns_of oracles machine octets).parts))
stream_store oracles machine octets = all_track (next_turn oracles) (λ (m : Machine). m.store) (next_tracks oracles) machine octets
