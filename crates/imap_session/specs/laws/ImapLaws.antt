-- What the driver takes of IMAP: a turn doesn't depend on what comes later, and whatever is asked for, the replies may be sent.
use Rattle.std.proofs.Common.{◌≡◌, List, [], ℕ, ◌+◌, ◌-◌, ◌<◌, ◌≤◌, ◌++◌, Bool, Option, Some, None, refl, sym, ap, ◌∙◌, arith, length, take, drop, length-drop, subst}
use Rattle.std.specs.Option.{option_map}
use Rattle.std.proofs.lemmas.List.{drop-append-le, take-append-le}
use Rattle.std.proofs.lemmas.Option.{same_Some}
use Rattle.mail_store.specs.StoreState.{AreStored}
use Rattle.surrogate_cache.specs.Served.{is_enabled}
use Rattle.imap_grammar.specs.Events.{IsDue, NothingBefore, Tells, seen_after}
use Rattle.imap_grammar.specs.FirstDue.{Due, IsFirstDue}
use Rattle.imap_grammar.specs.declared.event.Event.{Event}
use Rattle.imap_grammar.specs.declared.event.Event.TheVariants.{More, Go, Command, Bad, TooLarge, TooLong}
use Rattle.imap_grammar.proofs.OneEvent.{first_stays}
use Rattle.session_core.specs.Acts.{Act}
use Rattle.session_core.specs.Desks.{IsOpen}
use Rattle.session_core.specs.Oracles.{Oracles, AreOracles}
use Rattle.session_core.specs.Moments.{Moment}
use Rattle.session_core.specs.Protocol.{IsFitTurn}
use Rattle.session_core.specs.Turns.{Turn, IsFramed, followed_by}
use Rattle.session_core.specs.declared.desk.Desk.{Desk}
use Rattle.imap_session.specs.Machine.{State, authenticated, ended, mode_of, not_authenticated, reply, selected}
use Rattle.imap_session.specs.laws.FitLaws.{date_at_date, due_right, fit_of, stored_of}
use Rattle.imap_session.specs.Replies.{ReplyPart}
use Rattle.imap_session.specs.Session.{ImapReady, ImapStands, Machine, date_at, due_turn, greeting, imap_protocol, next_turn, start_of, state_of, turn_from}
use Rattle.imap_session.specs.declared.session.ImapMachine.{ImapMachine}
use Rattle.imap_session.specs.declared.states.ImapState.{ImapState}
use Rattle.imap_session.specs.declared.states.ImapState.TheVariants as imap

-- ---- what is due first

-- an event is due at so many octets, and none before
pub record IsAt (utf8 : Bool) (seen octets : List ℕ) (due : Due) : Type 0 where
  pub some : 0 < due.used
  pub within : due.used ≤ length octets
  pub nothing : NothingBefore utf8 seen octets due.used
  pub is_due : IsDue utf8 (seen ++ take due.used octets) due.event

at_by : (utf8 : Bool) (seen octets : List ℕ) (used : ℕ) (event : Event) → (event ≡ More → ⊥) → Tells utf8 seen octets used event
    → IsAt utf8 seen octets (record { used = used; event = event })
at_by utf8 seen octets used More other told = absurd (other refl)
at_by utf8 seen octets used Go other told = record { some = told.0; within = told.1; nothing = told.2; is_due = told.3 }
at_by utf8 seen octets used (Command tag said) other told = record { some = told.0; within = told.1; nothing = told.2; is_due = told.3 }
at_by utf8 seen octets used (Bad tag at) other told = record { some = told.0; within = told.1; nothing = told.2; is_due = told.3 }
at_by utf8 seen octets used (TooLarge tag) other told = record { some = told.0; within = told.1; nothing = told.2; is_due = told.3 }
at_by utf8 seen octets used TooLong other told = record { some = told.0; within = told.1; nothing = told.2; is_due = told.3 }

pub at_due : (utf8 : Bool) (seen octets : List ℕ) (due : Due) → IsFirstDue utf8 seen octets (Some due) → IsAt utf8 seen octets due
at_due utf8 seen octets due first = at_by utf8 seen octets due.used due.event first.1 first.0

-- the octets of a command in which a literal is asked for are the same with more octets after
seen-more : (seen octets more : List ℕ) (used : ℕ) (event : Event) → (event ≡ More → ⊥) → used ≤ length octets → seen_after seen (octets ++ more) used event ≡ seen_after seen octets used event
seen-more seen octets more used More other within = absurd (other refl)
seen-more seen octets more used Go other within = ap (λ front. seen ++ front) (take-append-le used octets more within)
seen-more seen octets more used (Command tag said) other within = refl
seen-more seen octets more used (Bad tag at) other within = refl
seen-more seen octets more used (TooLarge tag) other within = refl
seen-more seen octets more used TooLong other within = refl

-- ---- turns

-- what is due first where a turn comes
pub record ComesOf (oracles : Oracles) (machine : Machine) (octets : List ℕ) (turn : Turn Machine (Act ReplyPart)) : Type 0 where
  pub due : Due
  pub event_is : oracles.event_of (is_enabled (mode_of machine.state)) machine.seen octets ≡ Some due
  pub turn_is : turn ≡ due_turn oracles machine octets due

comes_by : (oracles : Oracles) (machine : Machine) (octets : List ℕ) (turn : Turn Machine (Act ReplyPart)) (found : Option Due)
    → oracles.event_of (is_enabled (mode_of machine.state)) machine.seen octets ≡ found → option_map (due_turn oracles machine octets) found ≡ Some turn → ComesOf oracles machine octets turn
comes_by oracles machine octets turn None at is = cc
comes_by oracles machine octets turn (Some due) at is = record { due = due; event_is = at; turn_is = sym (same_Some _ _ is) }

comes_from : (oracles : Oracles) (state : State) (machine : Machine) (octets : List ℕ) (turn : Turn Machine (Act ReplyPart)) → turn_from oracles state machine octets ≡ Some turn
    → ComesOf oracles machine octets turn
comes_from oracles not_authenticated machine octets turn is = comes_by oracles machine octets turn _ refl is
comes_from oracles (authenticated mode account) machine octets turn is = comes_by oracles machine octets turn _ refl is
comes_from oracles (selected selection) machine octets turn is = comes_by oracles machine octets turn _ refl is
comes_from oracles ended machine octets turn is = cc

pub comes : (oracles : Oracles) (machine : Machine) (octets : List ℕ) (turn : Turn Machine (Act ReplyPart)) → next_turn oracles machine octets ≡ Some turn
    → ComesOf oracles machine octets turn
unfolding next_turn
comes oracles machine octets turn is = comes_from oracles machine.state machine octets turn is

never_ended : (session : ImapState) → state_of session ≡ ended → ⊥
never_ended (imap.NotAuthenticated session) is = cc
never_ended (imap.Authenticated session) is = cc
never_ended (imap.EnabledAuthenticated session) is = cc
never_ended (imap.Selected session) is = cc
never_ended (imap.EnabledSelected session) is = cc

pub goes_on_by : (more : List Moment) (session : ImapMachine) (kept : List ℕ) (desk : Desk) (machine : Machine) (rest : List ℕ) → ImapStands more session kept desk machine rest
    → ¬ (machine.state ≡ ended)
goes_on_by more session kept desk machine rest stands is = never_ended session.state (sym stands.state_is ∙ is)

pub quiet_by : (oracles : Oracles) (machine : Machine) (rest : List ℕ) → machine.state ≡ ended → next_turn oracles machine rest ≡ None
unfolding next_turn
quiet_by oracles machine rest is = ap (λ state. turn_from oracles state machine rest) is

none_due : (oracles : Oracles) → AreOracles oracles → (utf8 : Bool) (seen rest : List ℕ) (found : Option Due) → oracles.event_of utf8 seen rest ≡ found → IsFirstDue utf8 seen rest found
    → NothingBefore utf8 seen rest (length rest + 1) → found ≡ None
none_due oracles are utf8 seen rest None at first quiet = refl
none_due oracles are utf8 seen rest (Some due) at first quiet =
    let is = at_due utf8 seen rest due first in
    let low : due.used < length rest + 1 = let w = is.within in omega (arith, w) in
    absurd (quiet due.used is.some low due.event is.is_due)

waits_from : (oracles : Oracles) (state : State) (machine : Machine) (rest : List ℕ) → oracles.event_of (is_enabled (mode_of machine.state)) machine.seen rest ≡ None
    → turn_from oracles state machine rest ≡ None
waits_from oracles not_authenticated machine rest is = ap (option_map (due_turn oracles machine rest)) is
waits_from oracles (authenticated mode account) machine rest is = ap (option_map (due_turn oracles machine rest)) is
waits_from oracles (selected selection) machine rest is = ap (option_map (due_turn oracles machine rest)) is
waits_from oracles ended machine rest is = refl

pub waits_by : (oracles : Oracles) → AreOracles oracles → (more : List Moment) (session : ImapMachine) (kept : List ℕ) (desk : Desk) (machine : Machine) (rest : List ℕ)
    → ImapReady session kept desk → ImapStands more session kept desk machine rest → next_turn oracles machine rest ≡ None
unfolding next_turn
waits_by oracles are more session kept desk machine rest ready stands =
    let utf8 = is_enabled (mode_of machine.state) in
    waits_from oracles machine.state machine rest (none_due oracles are utf8 machine.seen rest _ refl (are.commands utf8 machine.seen rest) stands.quiet)

-- ---- turns don't depend on what comes later

-- what is due first where a turn comes
first_of : (oracles : Oracles) → AreOracles oracles → (machine : Machine) (octets : List ℕ) (turn : Turn Machine (Act ReplyPart)) (of : ComesOf oracles machine octets turn)
    → IsFirstDue (is_enabled (mode_of machine.state)) machine.seen octets (Some of.due)
first_of oracles are machine octets turn of =
    let utf8 = is_enabled (mode_of machine.state) in
    subst (λ found. IsFirstDue utf8 machine.seen octets found) of.event_is (are.commands utf8 machine.seen octets)

-- the turn is the same with more octets after
same_turn : (oracles : Oracles) (machine : Machine) (octets more : List ℕ) (due : Due) → (due.event ≡ More → ⊥) → due.used ≤ length octets
    → due_turn oracles machine (octets ++ more) due ≡ followed_by more (due_turn oracles machine octets due)
same_turn oracles machine octets more due other within =
    rw (seen-more machine.seen octets more due.used due.event other within, drop-append-le due.used octets more within) refl

more_from : (oracles : Oracles) (state : State) (machine : Machine) (octets more : List ℕ) (turn : Turn Machine (Act ReplyPart)) (due : Due) → turn_from oracles state machine octets ≡ Some turn
    → oracles.event_of (is_enabled (mode_of machine.state)) machine.seen (octets ++ more) ≡ Some due → turn_from oracles state machine (octets ++ more) ≡ Some (due_turn oracles machine (octets ++ more) due)
more_from oracles not_authenticated machine octets more turn due is found = ap (option_map (due_turn oracles machine (octets ++ more))) found
more_from oracles (authenticated mode account) machine octets more turn due is found = ap (option_map (due_turn oracles machine (octets ++ more))) found
more_from oracles (selected selection) machine octets more turn due is found = ap (option_map (due_turn oracles machine (octets ++ more))) found
more_from oracles ended machine octets more turn due is found = cc

shorter_by : (oracles : Oracles) → AreOracles oracles → (machine : Machine) (octets : List ℕ) (turn : Turn Machine (Act ReplyPart)) → next_turn oracles machine octets ≡ Some turn
    → length turn.rest < length octets
shorter_by oracles are machine octets turn is =
    let of = comes oracles machine octets turn is in
    let at = at_due (is_enabled (mode_of machine.state)) machine.seen octets of.due (first_of oracles are machine octets turn of) in
    let rest : turn.rest ≡ drop of.due.used octets = ap (λ (t : Turn Machine (Act ReplyPart)). t.rest) of.turn_is in
    let left : length (drop of.due.used octets) ≡ length octets - of.due.used = length-drop of.due.used octets in
    let some = at.some in
    let within = at.within in
    rw rest (omega (arith, left, some, within))

stays_by : (oracles : Oracles) → AreOracles oracles → (machine : Machine) (octets more : List ℕ) (turn : Turn Machine (Act ReplyPart)) → next_turn oracles machine octets ≡ Some turn
    → next_turn oracles machine (octets ++ more) ≡ Some (followed_by more turn)
unfolding next_turn
stays_by oracles are machine octets more turn is =
    let utf8 = is_enabled (mode_of machine.state) in
    let of = comes oracles machine octets turn is in
    let first = first_of oracles are machine octets turn of in
    let at = at_due utf8 machine.seen octets of.due first in
    let found = first_stays utf8 machine.seen octets more of.due _ first (are.commands utf8 machine.seen (octets ++ more)) in
    more_from oracles machine.state machine octets more turn of.due is found
    ∙ ap Some (same_turn oracles machine octets more of.due first.1 at.within ∙ ap (followed_by more) (sym of.turn_is))

pub framed_by : (oracles : Oracles) → AreOracles oracles → IsFramed (next_turn oracles)
framed_by oracles are = record { shorter = shorter_by oracles are; stays = stays_by oracles are }

-- ---- whatever is asked for, the replies may be sent

pub begins_fit_by : (oracles : Oracles) → AreOracles oracles → (moments : List Moment) (desk : Desk) → IsOpen desk
    → IsFitTurn imap_protocol oracles (record { parts = reply greeting; after = start_of desk.store moments; rest = [] })
begins_fit_by oracles are moments desk opens = record { fit = (refl, tt); sound = opens.stored }

pub fits_by : (oracles : Oracles) → AreOracles oracles → (machine : Machine) (octets : List ℕ) (turn : Turn Machine (Act ReplyPart)) → AreStored machine.store.kept.messages
    → next_turn oracles machine octets ≡ Some turn → IsFitTurn imap_protocol oracles turn
fits_by oracles are machine octets turn sound is =
    let of = comes oracles machine octets turn is in
    let at = at_due (is_enabled (mode_of machine.state)) machine.seen octets of.due (first_of oracles are machine octets turn of) in
    let dated = date_at_date machine.moments in
    let right = due_right oracles are (date_at machine.moments) dated machine.state machine.store sound (is_enabled (mode_of machine.state)) (machine.seen ++ take of.due.used octets) of.due.event at.is_due in
    rw of.turn_is (record { fit = fit_of oracles _ right; sound = stored_of oracles machine.store.kept _ right sound })
