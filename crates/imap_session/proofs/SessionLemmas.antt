-- Sessions over pieces of a stream, and what is due in them.
use Rattle.std.proofs.Common.{◌≡◌, ℕ, suc, ◌+◌, ◌-◌, ◌<◌, ◌≤◌, List, [], ◌∷◌, ◌++◌, length, take, drop, Option, Some, None, inl, inr, refl, sym, ap, ◌∙◌, subst, append_assoc, append-nil, length-append, arith, Bool, ◌⊎◌, codes, false}
use Rattle.std.specs.Prelude.{Result, Ok, Err, MatchResult}
use Rattle.std.specs.Option.{option_map}
use Rattle.std.proofs.lemmas.List.{drop_all, take-append-le}
use Rattle.std.proofs.lemmas.Bool.{cases_lt}
use Rattle.mail_wire.specs.declared.outside.Fault.{Fault}
use Rattle.surrogate_cache.specs.Served.{is_enabled}
use Rattle.imap_words.proofs.Leaving.{leaves_all}
use Rattle.imap_grammar.specs.Commands.{IsCommand}
use Rattle.imap_grammar.specs.Events.{IsDue, NothingBefore, Tells, seen_after}
use Rattle.imap_grammar.specs.FirstDue.{Due}
use Rattle.imap_grammar.specs.Standing.{Reached, HasSeen}
use Rattle.imap_grammar.specs.declared.event.Event.{Event}
use Rattle.imap_grammar.specs.declared.event.Event.TheVariants.{More, Go, Command, Bad, TooLarge, TooLong}
use Rattle.imap_grammar.specs.declared.reader.Reader.{Reader}
use Rattle.imap_grammar.specs.declared.reader.Stage.{Stage}
use Rattle.imap_grammar.specs.declared.reader.Stage.TheVariants.{Begin, AfterLiteral}
use Rattle.imap_grammar.proofs.OneEvent.{one_first}
use Rattle.mail_store.specs.Following.{records_of}
use Rattle.mail_store.specs.StoreState.{StoreState, with_records}
use Rattle.session_core.specs.Acts.{changes_in}
use Rattle.session_core.specs.Around.{Around}
use Rattle.session_core.specs.Doing.{Does, DoesAll, DoesFirst, Replies}
use Rattle.session_core.specs.Keeps.{fault_of}
use Rattle.session_core.specs.Oracles.{Oracles, AreOracles}
use Rattle.session_core.specs.Moments.{Moment}
use Rattle.session_core.specs.Steps.{Begins, StandsAfter, Steps, IsReadyAfter}
use Rattle.session_core.specs.declared.desk.Desk.{Desk}
use Rattle.session_core.proofs.DoingLemmas.{Does-replies, DoesAll-nil}
use Rattle.session_core.proofs.MeaningLemmas.{oracles_given}
use Rattle.session_core.specs.Turns.{all_turns}
use Rattle.session_core.proofs.StepLemmas.{StepsBy-turn, StepsBy-fails}
use Rattle.imap_session.specs.laws.CommandLaws.{said_of}
use Rattle.imap_session.specs.laws.ImapLaws.{at_due, framed_by}
use Rattle.imap_session.specs.Machine.{State, Step, ended, line, mode_of, not_authenticated, reply, untagged}
use Rattle.imap_session.specs.Replies.{part_octets}
use Rattle.imap_session.specs.Session.{ImapReady, ImapStands, IsSaidIn, KnowsState, Machine, TakesStep, TakesStepAt, date_at, due_step, due_turn, event_takes, greeting, imap_protocol, machine_next, moments_after, next_turn, state_of, state_or_ended, turn_from}
use Rattle.imap_session.specs.declared.session.ImapMachine.{ImapMachine}
use Rattle.imap_session.specs.declared.states.ImapState.{ImapState}
use Rattle.imap_session.specs.declared.states.ImapState.TheVariants as imap
use Rattle.imap_session.specs.private.Lines.{due_octets}
use Rattle.imap_session.proofs.StepLemmas.{says_given, Takes-fault, Takes-next, TakesAt-plain}

-- the event leaves the state, and is no command
abbrev pub IsPlain : Event → Type 0
IsPlain (Command tag said) = ⊥
IsPlain TooLong = ⊥
IsPlain other = Unit {0}

-- ---- octets of two lists

take_past : (front back : List ℕ) (n : ℕ) → take (length front + n) (front ++ back) ≡ front ++ take n back
take_past [] back n =
    let none : length {A = ℕ} [] + n ≡ n = omega arith in
    ap (λ m. take m back) none
take_past (x ∷ front) back n =
    let more : length (x ∷ front) + n ≡ suc (length front + n) = omega arith in
    ap (λ m. take m (x ∷ (front ++ back))) more ∙ ap (λ z. x ∷ z) (take_past front back n)

drop_past : (front back : List ℕ) (n : ℕ) → drop (length front + n) (front ++ back) ≡ drop n back
drop_past [] back n =
    let none : length {A = ℕ} [] + n ≡ n = omega arith in
    ap (λ m. drop m back) none
drop_past (x ∷ front) back n =
    let more : length (x ∷ front) + n ≡ suc (length front + n) = omega arith in
    ap (λ m. drop m (x ∷ (front ++ back))) more ∙ drop_past front back n

-- ---- a reader that has seen nothing of a command

front_empty : (a b : List ℕ) → [] ≡ a ++ b → a ≡ []
front_empty [] b e = refl
front_empty (x ∷ a) b e = cc

back_empty : (a b : List ℕ) → [] ≡ a ++ b → b ≡ []
back_empty [] b e = sym e
back_empty (x ∷ a) b e = cc

no_tag : (tag rest front : List ℕ) → front ≡ [] → front ≡ tag ++ 32 ∷ rest → ⊥
no_tag [] rest front none e = cc
no_tag (x ∷ tag) rest front none e = cc

at_begin : (utf8 : Bool) (stage : Stage) (front : List ℕ) → Reached utf8 stage front → front ≡ [] → stage ≡ Begin
at_begin utf8 Begin front reached none = refl
at_begin utf8 (AfterLiteral tag size a) front reached none = absurd (no_tag tag reached.2.rest front none reached.2.whole)

-- has seen nothing of one in the other mode either
pub stands_anew : (utf8 other : Bool) (reader : Reader) → HasSeen utf8 reader [] → HasSeen other reader []
stands_anew utf8 other reader s =
    let none : s.front ≡ [] = front_empty s.front (reader.literal ++ reader.line) s.whole in
    let begin : reader.stage ≡ Begin = at_begin utf8 reader.stage s.front s.reached none in
    record {
      front = s.front;
      whole = s.whole;
      so_many = s.so_many;
      leaves = rw (begin, none) (leaves_all (IsCommand other) []);
      reached = rw begin none;
      alone = λ head back appends e is. back_empty head back (sym none ∙ e);
      bounded = s.bounded;
      fits = s.fits;
      no_line = s.no_line;
      counts = s.counts;
      few = s.few;
    }

-- ---- what is due after what came before

-- nothing in the one nor in the other
quiet_both : (utf8 : Bool) (seen rest piece : List ℕ) (k : ℕ) → NothingBefore utf8 seen rest (length rest + 1) → NothingBefore utf8 (seen ++ rest) piece k → NothingBefore utf8 seen (rest ++ piece) (length rest + k)
quiet_both utf8 seen rest piece k first second n some below event due = elim (cases_lt (length rest) n) [
  | inl past ↦
      let j = n - length rest in
      let sum : length rest + j ≡ n = omega (arith, past) in
      let same : (seen ++ rest) ++ take j piece ≡ seen ++ take n (rest ++ piece) =
      append_assoc seen rest (take j piece) ∙ ap (λ z. seen ++ z) (sym (take_past rest piece j) ∙ ap (λ m. take m (rest ++ piece)) sum) in
      second j (omega (arith, past)) (omega (arith, past, below)) event (subst (λ z. IsDue utf8 z event) (sym same) due)
  | inr within ↦
      let same : take n (rest ++ piece) ≡ take n rest = take-append-le n rest piece (omega (arith, within)) in
      first n some (omega (arith, within)) event (subst (λ z. IsDue utf8 (seen ++ z) event) same due)
]

front_same : (seen rest piece : List ℕ) (used : ℕ) → (seen ++ rest) ++ take used piece ≡ seen ++ take (length rest + used) (rest ++ piece)
front_same seen rest piece used = append_assoc seen rest (take used piece) ∙ ap (λ z. seen ++ z) (sym (take_past rest piece used))

tells_by : (utf8 : Bool) (seen octets : List ℕ) (used : ℕ) (event : Event) → (event ≡ More → ⊥) → 0 < used → used ≤ length octets → NothingBefore utf8 seen octets used → IsDue utf8 (seen ++ take used octets) event
    → Tells utf8 seen octets used event
tells_by utf8 seen octets used More other some within nothing due = absurd (other refl)
tells_by utf8 seen octets used Go other some within nothing due = (some, within, nothing, due)
tells_by utf8 seen octets used (Command tag said) other some within nothing due = (some, within, nothing, due)
tells_by utf8 seen octets used (Bad tag at) other some within nothing due = (some, within, nothing, due)
tells_by utf8 seen octets used (TooLarge tag) other some within nothing due = (some, within, nothing, due)
tells_by utf8 seen octets used TooLong other some within nothing due = (some, within, nothing, due)

-- after a rest of which nothing was due
tells_whole : (utf8 : Bool) (seen rest piece : List ℕ) (used : ℕ) (event : Event) → (event ≡ More → ⊥) → NothingBefore utf8 seen rest (length rest + 1) → Tells utf8 (seen ++ rest) piece used event
    → Tells utf8 seen (rest ++ piece) (length rest + used) event
tells_whole utf8 seen rest piece used event other quiet told =
    let at = at_due utf8 (seen ++ rest) piece (record { used = used; event = event }) (told, other) in
    let some = at.some in
    let within = at.within in
    let size : length (rest ++ piece) ≡ length rest + length piece = length-append rest piece in
    tells_by utf8 seen (rest ++ piece) (length rest + used) event other (omega (arith, some)) (omega (arith, within, size)) (quiet_both utf8 seen rest piece used quiet at.nothing)
    (subst (λ z. IsDue utf8 z event) (front_same seen rest piece used) at.is_due)

seen_same : (seen rest piece : List ℕ) (used : ℕ) (event : Event) → (event ≡ More → ⊥) → seen_after (seen ++ rest) piece used event ≡ seen_after seen (rest ++ piece) (length rest + used) event
seen_same seen rest piece used More other = absurd (other refl)
seen_same seen rest piece used Go other = front_same seen rest piece used
seen_same seen rest piece used (Command tag said) other = refl
seen_same seen rest piece used (Bad tag at) other = refl
seen_same seen rest piece used (TooLarge tag) other = refl
seen_same seen rest piece used TooLong other = refl

-- ---- the reader after what was due

-- where no octets of a command were kept, a reader reads in whatever mode comes
reads_after : (oracles : Oracles) (now : List ℕ) (state : State) (store : StoreState) (reader : Reader) (seen piece : List ℕ) (used : ℕ) (event : Event)
    → HasSeen (is_enabled (mode_of state)) reader (seen_after seen piece used event) → HasSeen (is_enabled (mode_of (due_step oracles now state store event).state)) reader (seen_after seen piece used event)
reads_after oracles now state store reader seen piece used More s = s
reads_after oracles now state store reader seen piece used Go s = s
reads_after oracles now state store reader seen piece used (Command tag said) s = stands_anew _ _ reader s
reads_after oracles now state store reader seen piece used (Bad (Some tag) at) s = s
reads_after oracles now state store reader seen piece used (Bad None at) s = s
reads_after oracles now state store reader seen piece used (TooLarge tag) s = s
reads_after oracles now state store reader seen piece used TooLong s = stands_anew _ _ reader s

-- ---- turns

due_found : (oracles : Oracles) → AreOracles oracles → (utf8 : Bool) (seen octets : List ℕ) (used : ℕ) (event : Event) → (event ≡ More → ⊥) → Tells utf8 seen octets used event
    → oracles.event_of utf8 seen octets ≡ Some (record { used = used; event = event })
due_found oracles are utf8 seen octets used event other told = one_first utf8 seen octets _ (Some (record { used = used; event = event })) (are.commands utf8 seen octets) (told, other)

turn_at : (oracles : Oracles) (session : ImapState) (machine : Machine) (octets : List ℕ) (due : Due) → oracles.event_of (is_enabled (mode_of machine.state)) machine.seen octets ≡ Some due
    → turn_from oracles (state_of session) machine octets ≡ Some (due_turn oracles machine octets due)
turn_at oracles (imap.NotAuthenticated session) machine octets due found = ap (option_map (due_turn oracles machine octets)) found
turn_at oracles (imap.Authenticated session) machine octets due found = ap (option_map (due_turn oracles machine octets)) found
turn_at oracles (imap.EnabledAuthenticated session) machine octets due found = ap (option_map (due_turn oracles machine octets)) found
turn_at oracles (imap.Selected session) machine octets due found = ap (option_map (due_turn oracles machine octets)) found
turn_at oracles (imap.EnabledSelected session) machine octets due found = ap (option_map (due_turn oracles machine octets)) found

turn_found : (oracles : Oracles) (session : ImapState) (machine : Machine) (octets : List ℕ) (due : Due) → machine.state ≡ state_of session
    → oracles.event_of (is_enabled (mode_of machine.state)) machine.seen octets ≡ Some due → next_turn oracles machine octets ≡ Some (due_turn oracles machine octets due)
unfolding next_turn
turn_found oracles session machine octets due state_is found =
    subst (λ state. turn_from oracles state machine octets ≡ Some (due_turn oracles machine octets due)) (sym state_is) (turn_at oracles session machine octets due found)

not_ended : (session : ImapState) → ended ≡ state_of session → ⊥
not_ended (imap.NotAuthenticated session) is = cc
not_ended (imap.Authenticated session) is = cc
not_ended (imap.EnabledAuthenticated session) is = cc
not_ended (imap.Selected session) is = cc
not_ended (imap.EnabledSelected session) is = cc

-- ---- steps

-- the event is due, or none is
waits_or_not : (event : Event) → (event ≡ More) ⊎ (event ≡ More → ⊥)
waits_or_not More = inl refl
waits_or_not Go = inr (λ e. cc)
waits_or_not (Command tag said) = inr (λ e. cc)
waits_or_not (Bad tag at) = inr (λ e. cc)
waits_or_not (TooLarge tag) = inr (λ e. cc)
waits_or_not TooLong = inr (λ e. cc)

-- what a reader tells of a piece, and where it stands then, whatever it had seen
pub record Feeds (utf8 : Bool) (old new : Reader) (piece : List ℕ) (used : ℕ) (event : Event) : Type 0 where
  pub observed : (seen : List ℕ) → HasSeen utf8 old seen → Tells utf8 seen piece used event
  pub stands : (seen : List ℕ) → HasSeen utf8 old seen → HasSeen utf8 new (seen_after seen piece used event)

pub feeds_by : (utf8 own : Bool) (old new : Reader) (piece : List ℕ) (used : ℕ) (event : Event) → utf8 ≡ own → ((seen : List ℕ) → HasSeen utf8 old seen → Tells utf8 seen piece used event)
    → ((seen : List ℕ) → HasSeen utf8 old seen → HasSeen utf8 new (seen_after seen piece used event)) → Feeds own old new piece used event
feeds_by utf8 own old new piece used event same observed stands = subst (λ u. Feeds u old new piece used event) same (record { observed = observed; stands = stands })

module _ (a b : Around) (session : ImapMachine) (reader : Reader) (piece : List ℕ) (used : ℕ) (event : Event)
    (feeds : Feeds (is_enabled (mode_of (state_of session.state))) session.reader reader piece used event) where
  -- the mode of the machine is that of the session
  own_reads : (machine : Machine) (rest : List ℕ) → machine.state ≡ state_of session.state → HasSeen (is_enabled (mode_of machine.state)) session.reader (machine.seen ++ rest)
      → HasSeen (is_enabled (mode_of (state_of session.state))) session.reader (machine.seen ++ rest)
  own_reads machine rest state_is s = subst (λ state. HasSeen (is_enabled (mode_of state)) session.reader (machine.seen ++ rest)) state_is s

  found_in : (oracles : Oracles) → AreOracles oracles → (more : List Moment) (kept : List ℕ) (machine : Machine) (rest : List ℕ) → (event ≡ More → ⊥) → ImapStands more session kept a.desk machine rest
      → next_turn oracles machine (rest ++ piece) ≡ Some (due_turn oracles machine (rest ++ piece) (record { used = length rest + used; event = event }))
  found_in oracles are more kept machine rest other has =
      let utf8 = is_enabled (mode_of machine.state) in
      let told : Tells utf8 (machine.seen ++ rest) piece used event =
      subst (λ state. Tells (is_enabled (mode_of state)) (machine.seen ++ rest) piece used event) (sym has.state_is) (feeds.observed (machine.seen ++ rest) (own_reads machine rest has.state_is has.reads)) in
      turn_found oracles session.state machine (rest ++ piece) (record { used = length rest + used; event = event }) has.state_is
      (due_found oracles are utf8 machine.seen (rest ++ piece) (length rest + used) event other (tells_whole utf8 machine.seen rest piece used event other has.quiet told))

  step_same : (oracles : Oracles) (more : List Moment) (kept : List ℕ) (machine : Machine) (rest : List ℕ) → ImapStands more session kept a.desk machine rest
      → due_step oracles (date_at machine.moments) machine.state machine.store event ≡ due_step oracles (date_at more) (state_of session.state) a.desk.store event
  step_same oracles more kept machine rest has =
      ap (λ state. due_step oracles (date_at machine.moments) state machine.store event) has.state_is
      ∙ (ap (λ store. due_step oracles (date_at machine.moments) (state_of session.state) store event) has.store_is
      ∙ ap (λ (moments : List Moment). due_step oracles (date_at moments) (state_of session.state) a.desk.store event) has.moments_are)

  -- what was due was done, or broken off
  abbrev Answers : Result (Option ImapState) Fault → Type 0
  Answers result = TakesStepAt a b result (event_takes (state_of session.state) event) (λ oracles now. due_step oracles now (state_of session.state) a.desk.store event)

  -- a fault broke off what was due
  Steps-fails : (kept keeps : List ℕ) (met : Fault) → (event ≡ More → ⊥) → Answers (Err met)
      → Steps imap_protocol ImapStands a b session kept keeps piece (Err met)
  Steps-fails kept keeps met other takes = record {
    told = takes.told;
    are_told = takes.are_told;
    steps = λ oracles are more machine rest has.
        StepsBy-fails imap_protocol ImapStands oracles (framed_by oracles are) a b keeps piece more met machine (rest ++ piece) _ (found_in oracles are (takes.told ++ more) kept machine rest other has)
        (subst (λ (step : Step). DoesFirst (part_octets oracles) a b met step.acts) (sym (step_same oracles (takes.told ++ more) kept machine rest has)) ((takes.steps more).does oracles are));
  }

  -- what the session stands for after what was due
  stands_after : (oracles : Oracles) (all more : List Moment) (kept keeps : List ℕ) (machine : Machine) (rest : List ℕ) (next : Option ImapState) → (event ≡ More → ⊥) → ImapStands all session kept a.desk machine rest
      → moments_after (event_takes (state_of session.state) event) all ≡ more
      → DoesAll (part_octets oracles) a b (due_step oracles (date_at machine.moments) machine.state machine.store event).acts
      → state_or_ended next ≡ (due_step oracles (date_at machine.moments) machine.state machine.store event).state
      → StandsAfter imap_protocol ImapStands more (machine_next reader next) keeps b.desk (due_turn oracles machine (rest ++ piece) (record { used = length rest + used; event = event })).after []
  stands_after oracles all more kept keeps machine rest None other has left does next_is = sym next_is
  stands_after oracles all more kept keeps machine rest (Some state) other has left does next_is =
      let utf8 = is_enabled (mode_of machine.state) in
      let seen = machine.seen ++ rest in
      let now = date_at machine.moments in
      let step = due_step oracles now machine.state machine.store event in
      let reads = subst (λ z. HasSeen utf8 reader z) (seen_same machine.seen rest piece used event other)
      (subst (λ z. HasSeen (is_enabled (mode_of z)) reader (seen_after seen piece used event)) (sym has.state_is) (feeds.stands seen (own_reads machine rest has.state_is has.reads))) in
      let after = seen_after machine.seen (rest ++ piece) (length rest + used) event in
      record {
        state_is = sym next_is;
        store_is = sym (does.follows.store ∙ ap (λ store. with_records store (records_of (changes_in step.acts))) (sym has.store_is));
        moments_are = ap (λ state. moments_after (event_takes state event) machine.moments) has.state_is
            ∙ (ap (λ moments. moments_after (event_takes (state_of session.state) event) moments) has.moments_are ∙ left);
        reads = subst (λ z. HasSeen (is_enabled (mode_of step.state)) reader z) (sym (append-nil after)) (reads_after oracles now machine.state machine.store reader machine.seen (rest ++ piece) (length rest + used) event reads);
        quiet = λ n some below event due. absurd (omega (arith, some, below));
      }

  -- what was due was done
  Steps-due : (kept keeps : List ℕ) (next : Option ImapState) → (event ≡ More → ⊥) → Answers (Ok next)
      → Steps imap_protocol ImapStands a b session kept keeps piece (Ok (record { next = machine_next reader next; used = used }))
  Steps-due kept keeps next other takes = record {
    told = takes.told;
    are_told = takes.are_told;
    steps = λ oracles are more machine rest has.
        let all = takes.told ++ more in
        let same = sym (step_same oracles all kept machine rest has) in
        let does = subst (λ (step : Step). DoesAll (part_octets oracles) a b step.acts) same ((takes.steps more).does oracles are) in
        let next_is = subst (λ (step : Step). state_or_ended next ≡ step.state) same ((takes.steps more).next oracles are) in
        StepsBy-turn imap_protocol ImapStands oracles (framed_by oracles are) a b (record { next = machine_next reader next; used = used }) keeps piece more [] machine (rest ++ piece) _
        (found_in oracles are all kept machine rest other has) does (stands_after oracles all more kept keeps machine rest next other has (takes.count more) does next_is) (drop_past rest piece used);
  }

  waits_stand : (oracles : Oracles) → (all more : List Moment) (kept keeps : List ℕ) (machine : Machine) (rest : List ℕ) (next : Option ImapState) → event ≡ More → ImapStands all session kept a.desk machine rest
      → all ≡ more → DoesAll (part_octets oracles) a b [] → state_or_ended next ≡ state_of session.state → StandsAfter imap_protocol ImapStands more (machine_next reader next) keeps b.desk machine (rest ++ piece)
  waits_stand oracles all more kept keeps machine rest None waits has left does next_is = absurd (not_ended session.state next_is)
  waits_stand oracles all more kept keeps machine rest (Some state) waits has left does next_is =
      let utf8 = is_enabled (mode_of machine.state) in
      let seen = machine.seen ++ rest in
      let own = own_reads machine rest has.state_is has.reads in
      let told : Tells utf8 seen piece used More =
      subst (λ z. Tells (is_enabled (mode_of z)) seen piece used More) (sym has.state_is) (subst (λ z. Tells (is_enabled (mode_of (state_of session.state))) seen piece used z) waits (feeds.observed seen own)) in
      let now : HasSeen utf8 reader (seen ++ piece) =
      subst (λ z. HasSeen (is_enabled (mode_of z)) reader (seen ++ piece)) (sym has.state_is) (subst (λ z. HasSeen (is_enabled (mode_of (state_of session.state))) reader (seen_after seen piece used z)) waits (feeds.stands seen own)) in
      let size : length (rest ++ piece) ≡ length rest + length piece = length-append rest piece in
      record {
        state_is = has.state_is ∙ sym next_is;
        store_is = has.store_is ∙ sym does.follows.store;
        moments_are = has.moments_are ∙ left;
        reads = subst (λ z. HasSeen utf8 reader z) (append_assoc machine.seen rest piece) now;
        quiet = subst (λ n. NothingBefore utf8 machine.seen (rest ++ piece) n) (omega (arith, size)) (quiet_both utf8 machine.seen rest piece (length piece + 1) has.quiet told.1);
      }

  -- nothing was due
  Steps-waits : (kept keeps : List ℕ) (next : Option ImapState) → event ≡ More → Answers (Ok next)
      → Steps imap_protocol ImapStands a b session kept keeps piece (Ok (record { next = machine_next reader next; used = used }))
  Steps-waits kept keeps next waits takes = record {
    told = takes.told;
    are_told = takes.are_told;
    steps = λ oracles are more machine rest has.
        let all = takes.told ++ more in
        let state = state_of session.state in
        let left = subst (λ e. moments_after (event_takes state e) all ≡ more) waits (takes.count more) in
        let does = subst (λ e. DoesAll (part_octets oracles) a b (due_step oracles (date_at all) state a.desk.store e).acts) waits ((takes.steps more).does oracles are) in
        let next_is = subst (λ e. state_or_ended next ≡ (due_step oracles (date_at all) state a.desk.store e).state) waits ((takes.steps more).next oracles are) in
        let told = subst (λ z. Tells (is_enabled (mode_of (state_of session.state))) (machine.seen ++ rest) piece used z) waits (feeds.observed (machine.seen ++ rest) (own_reads machine rest has.state_is has.reads)) in
        let whole = told.0 in
        let none : drop used piece ≡ [] = drop_all used piece (omega (arith, whole)) in
        record {
          acts = [];
          turn = all_turns (next_turn oracles) machine (rest ++ piece);
          turns_are = refl;
          does = does;
          stays = record {
            state = machine;
            rest = rest ++ piece;
            has = waits_stand oracles all more kept keeps machine rest next waits has left does next_is;
            turn_is = ap (λ l. all_turns (next_turn oracles) machine l) (sym (append-nil (rest ++ piece)) ∙ ap (λ z. (rest ++ piece) ++ z) (sym none));
          };
        };
  }

  waits_fail : (kept keeps : List ℕ) (met : Fault) → event ≡ More → Answers (Err met)
      → Steps imap_protocol ImapStands a b session kept keeps piece (Err met)
  waits_fail kept keeps met waits takes = record {
    told = takes.told;
    are_told = takes.are_told;
    steps = λ oracles are more machine rest has. record {
      acts = [];
      turn = all_turns (next_turn oracles) machine (rest ++ piece);
      turns_are = refl;
      does = subst (λ e. DoesFirst (part_octets oracles) a b met (due_step oracles (date_at (takes.told ++ more)) (state_of session.state) a.desk.store e).acts) waits ((takes.steps more).does oracles are);
      stays = tt;
    };
  }

  -- whatever was due
  pub Steps-broken : (kept keeps : List ℕ) (met : Fault) → Answers (Err met)
      → Steps imap_protocol ImapStands a b session kept keeps piece (Err met)
  Steps-broken kept keeps met takes = elim (waits_or_not event) [
    | inl waits ↦ waits_fail kept keeps met waits takes
    | inr other ↦ Steps-fails kept keeps met other takes
  ]

  pub Steps-taken : (kept keeps : List ℕ) (next : Option ImapState) → Answers (Ok next)
      → Steps imap_protocol ImapStands a b session kept keeps piece (Ok (record { next = machine_next reader next; used = used }))
  Steps-taken kept keeps next takes = elim (waits_or_not event) [
    | inl waits ↦ Steps-waits kept keeps next waits takes
    | inr other ↦ Steps-due kept keeps next other takes
  ]

  used_in : (utf8 : Bool) (seen : List ℕ) (e : Event) → 0 < length piece → Tells utf8 seen piece used e → (0 < used) × (used ≤ length piece)
  used_in utf8 seen More some told = let all = told.0 in (omega (arith, all, some), omega (arith, all))
  used_in utf8 seen Go some told = (told.0, told.1)
  used_in utf8 seen (Command tag said) some told = (told.0, told.1)
  used_in utf8 seen (Bad tag at) some told = (told.0, told.1)
  used_in utf8 seen (TooLarge tag) some told = (told.0, told.1)
  used_in utf8 seen TooLong some told = (told.0, told.1)

  pub used_bound : (kept : List ℕ) (desk : Desk) → ImapReady session kept desk → 0 < length piece → (0 < used) × (used ≤ length piece)
  used_bound kept desk ready some = used_in (is_enabled (mode_of (state_of session.state))) ready.seen event some (feeds.observed ready.seen ready.reads)

  said_in : (utf8 : Bool) (seen : List ℕ) (e : Event) → Tells utf8 seen piece used e → IsSaidIn e
  said_in utf8 seen More told = tt
  said_in utf8 seen Go told = tt
  said_in utf8 seen (Command tag said) told = said_of utf8 (seen ++ take used piece) (Command tag said) told.3
  said_in utf8 seen (Bad tag at) told = tt
  said_in utf8 seen (TooLarge tag) told = tt
  said_in utf8 seen TooLong told = tt

  -- what a command says is as its step needs it
  pub said_now : (kept : List ℕ) (desk : Desk) → ImapReady session kept desk → IsSaidIn event
  said_now kept desk ready = said_in (is_enabled (mode_of (state_of session.state))) ready.seen event (feeds.observed ready.seen ready.reads)

  pub ready_after : (kept : List ℕ) (desk : Desk) (next : Option ImapState) → ImapReady session kept desk → Answers (Ok next)
      → IsReadyAfter ImapReady (record { next = machine_next reader next; used = used }) kept b.desk
  ready_after kept desk None ready takes = tt
  ready_after kept desk (Some state) ready takes =
      let oracles = oracles_given in
      record {
        nothing_kept = ready.nothing_kept;
        known = (takes.steps []).known;
        seen = seen_after ready.seen piece used event;
        reads = subst (λ s. HasSeen (is_enabled (mode_of s)) reader (seen_after ready.seen piece used event)) (sym ((takes.steps []).next oracles.0 oracles.1))
            (reads_after oracles.0 (date_at (takes.told ++ [])) (state_of session.state) a.desk.store reader ready.seen piece used event (feeds.stands ready.seen ready.reads));
      }

-- ---- the greeting

greeting_does : (oracles : Oracles) (a b : Around) (met : Option Fault) → Replies a b met (codes "* OK IMAP4rev1 ready\r\n") → Does (part_octets oracles) a b met (reply greeting)
greeting_does oracles a b met replies = Does-replies (part_octets oracles) a b met greeting replies

pub Begins-given : (a b : Around) (session : ImapMachine) → state_of session.state ≡ not_authenticated → ((utf8 : Bool) → HasSeen utf8 session.reader []) → Replies a b None (codes "* OK IMAP4rev1 ready\r\n")
    → Begins imap_protocol ImapStands a b (Ok session)
Begins-given a b session state_is reads replies =
    let oracles = oracles_given in
    let given : DoesAll (part_octets oracles.0) a b (reply greeting) = greeting_does oracles.0 a b None replies in
    record {
      does = λ oracles are. greeting_does oracles a b None replies;
      stands_for = λ moments. record {
        state_is = sym state_is;
        store_is = sym given.follows.store;
        moments_are = refl;
        reads = reads (is_enabled (mode_of not_authenticated));
        quiet = λ n some below event due. absurd (omega (arith, some, below));
      };
    }

pub Begins-fails : (a b : Around) (met : Fault) → Replies a b (Some met) (codes "* OK IMAP4rev1 ready\r\n") → Begins imap_protocol ImapStands a b (Err met)
Begins-fails a b met replies = record { does = λ oracles are. greeting_does oracles a b (Some met) replies; stands_for = tt }

-- ---- what is due is answered

-- nothing yet
pub TakesAt-more : (a : Around) (session : ImapState) → KnowsState a.desk.store session
    → TakesStepAt a a (Ok (Some session)) false (λ oracles now. due_step oracles now (state_of session) a.desk.store More)
TakesAt-more a session known =
    TakesAt-plain a a (Ok (Some session)) false (λ oracles now. due_step oracles now (state_of session) a.desk.store More) refl
    (λ now. Takes-next a a (Some session) (λ oracles. due_step oracles now (state_of session) a.desk.store More) (λ oracles are. DoesAll-nil (part_octets oracles) a) (λ oracles are. refl) known)

-- a reply that leaves the state
due_given : (oracles : Oracles) (a b : Around) (met : Option Fault) (now : List ℕ) (state : State) (store : StoreState) (event : Event) → IsPlain event → Replies a b met (due_octets event)
    → Does (part_octets oracles) a b met (due_step oracles now state store event).acts
due_given oracles a b met now state store More plain replies = Does-replies (part_octets oracles) a b met [] replies
due_given oracles a b met now state store Go plain replies = Does-replies (part_octets oracles) a b met (line (codes "+ go") ∷ []) replies
due_given oracles a b met now state store (Command tag said) plain replies = absurd plain
due_given oracles a b met now state store (Bad (Some tag) at) plain replies = says_given oracles a b met tag (codes "BAD syntax") state replies
due_given oracles a b met now state store (Bad None at) plain replies = Does-replies (part_octets oracles) a b met (untagged (codes "BAD syntax") ∷ []) replies
due_given oracles a b met now state store (TooLarge tag) plain replies = says_given oracles a b met tag (codes "NO too large") state replies
due_given oracles a b met now state store TooLong plain replies = absurd plain

plain_state : (oracles : Oracles) (now : List ℕ) (state : State) (store : StoreState) (event : Event) → IsPlain event → (due_step oracles now state store event).state ≡ state
plain_state oracles now state store More plain = refl
plain_state oracles now state store Go plain = refl
plain_state oracles now state store (Command tag said) plain = absurd plain
plain_state oracles now state store (Bad (Some tag) at) plain = refl
plain_state oracles now state store (Bad None at) plain = refl
plain_state oracles now state store (TooLarge tag) plain = refl
plain_state oracles now state store TooLong plain = absurd plain

plain_takes : (state : State) (event : Event) → IsPlain event → event_takes state event ≡ false
plain_takes state More plain = refl
plain_takes state Go plain = refl
plain_takes state (Command tag said) plain = absurd plain
plain_takes state (Bad tag at) plain = refl
plain_takes state (TooLarge tag) plain = refl
plain_takes state TooLong plain = refl

-- the state of an answer that keeps the session, or a fault
kept_step : (a b : Around) (session : ImapState) (given : Result (Unit {0}) Fault) (result : Result (Option ImapState) Fault) (event : Event) (now : List ℕ) → IsPlain event
    → MatchResult given (λ done. result ≡ Ok (Some session)) (λ met. result ≡ Err met) → Replies a b (fault_of given) (due_octets event) → KnowsState b.desk.store session
    → TakesStep a b result (λ oracles. due_step oracles now (state_of session) a.desk.store event)
kept_step a b session (Ok done) result event now plain kept replies known =
    rw kept (Takes-next a b (Some session) (λ oracles. due_step oracles now (state_of session) a.desk.store event)
    (λ oracles are. due_given oracles a b None now (state_of session) a.desk.store event plain replies) (λ oracles are. sym (plain_state oracles now (state_of session) a.desk.store event plain)) known)
kept_step a b session (Err met) result event now plain kept replies known =
    rw kept (Takes-fault a b met (λ oracles. due_step oracles now (state_of session) a.desk.store event)
    (λ oracles are. due_given oracles a b (Some met) now (state_of session) a.desk.store event plain replies))

pub TakesAt-kept : (a b : Around) (session : ImapState) (given : Result (Unit {0}) Fault) (result : Result (Option ImapState) Fault) (event : Event) → IsPlain event
    → MatchResult given (λ done. result ≡ Ok (Some session)) (λ met. result ≡ Err met) → Replies a b (fault_of given) (due_octets event) → KnowsState b.desk.store session
    → TakesStepAt a b result (event_takes (state_of session) event) (λ oracles now. due_step oracles now (state_of session) a.desk.store event)
TakesAt-kept a b session given result event plain kept replies known =
    TakesAt-plain a b result (event_takes (state_of session) event) (λ oracles now. due_step oracles now (state_of session) a.desk.store event) (plain_takes (state_of session) event plain)
    (λ now. kept_step a b session given result event now plain kept replies known)

over_does : (oracles : Oracles) (a b : Around) (met : Option Fault) (now : List ℕ) (state : State) (store : StoreState) → Replies a b met (codes "* BYE line too long\r\n")
    → Does (part_octets oracles) a b met (due_step oracles now state store TooLong).acts
over_does oracles a b met now state store replies = Does-replies (part_octets oracles) a b met (untagged (codes "BYE line too long") ∷ []) replies

over_step : (a b : Around) (session : ImapState) (given : Result (Unit {0}) Fault) (result : Result (Option ImapState) Fault) (now : List ℕ) → MatchResult given (λ done. result ≡ Ok None) (λ met. result ≡ Err met)
    → Replies a b (fault_of given) (codes "* BYE line too long\r\n") → TakesStep a b result (λ oracles. due_step oracles now (state_of session) a.desk.store TooLong)
over_step a b session (Ok done) result now kept replies =
    rw kept (Takes-next a b None (λ oracles. due_step oracles now (state_of session) a.desk.store TooLong) (λ oracles are. over_does oracles a b None now (state_of session) a.desk.store replies) (λ oracles are. refl) tt)
over_step a b session (Err met) result now kept replies =
    rw kept (Takes-fault a b met (λ oracles. due_step oracles now (state_of session) a.desk.store TooLong) (λ oracles are. over_does oracles a b (Some met) now (state_of session) a.desk.store replies))

-- the session is over
pub TakesAt-over : (a b : Around) (session : ImapState) (given : Result (Unit {0}) Fault) (result : Result (Option ImapState) Fault) → MatchResult given (λ done. result ≡ Ok None) (λ met. result ≡ Err met)
    → Replies a b (fault_of given) (codes "* BYE line too long\r\n") → TakesStepAt a b result false (λ oracles now. due_step oracles now (state_of session) a.desk.store TooLong)
TakesAt-over a b session given result kept replies =
    TakesAt-plain a b result false (λ oracles now. due_step oracles now (state_of session) a.desk.store TooLong) refl (λ now. over_step a b session given result now kept replies)
