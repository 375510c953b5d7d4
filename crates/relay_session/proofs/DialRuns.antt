-- The relay by a dial, exit by exit.
use Rattle.std.proofs.Common.{◌≡◌, ◌≢◌, ◌↔◌, ℕ, Bool, true, false, List, [], Option, None, Some, Result, Ok, Err, IfOk, IsTrue, refl, sym, ap, subst, ◌∙◌, arith}
use Rattle.std.proofs.lemmas.Bool.{false≢true}
use Rattle.address_grammar.specs.declared.Address.{Address}
use Rattle.mail_store.specs.Queue.{IsQueue, told_count}
use Rattle.mail_store.specs.declared.queue.Queued.{Queued}
use Rattle.mail_wire.specs.Causes.{Rose}
use Rattle.mail_wire.specs.DialState.{AsksAtMost, DialState, IsDialled, with_host}
use Rattle.mail_wire.specs.KeeperState.{KeeperState}
use Rattle.mail_wire.specs.Keeping.{HasKeeperCause}
use Rattle.mail_wire.specs.WireState.{WireState}
use Rattle.mail_wire.specs.declared.outside.Fault.{Fault}
use Rattle.mail_wire.specs.declared.outside.Fault.TheVariants as fault
use Rattle.session_core.specs.Around.{Around, Loans}
use Rattle.session_core.specs.Keeps.{Keeps, answer_of, fault_of}
use Rattle.session_core.specs.declared.desk.Desk.{Desk}
use Rattle.session_core.proofs.MeaningLemmas.{oracles_given}
use Rattle.relay_session.specs.Dialling.{AroundDial, HasDialCause, RelaysQueue, StaysHome, connected, nobody_waits, over_wire, unbegun as unbegun_queue, unreached}
use Rattle.relay_session.specs.Relaying.{AnswersRelay, EndsRun, HasLeftCause, Relays, RelaysBy, begun, idle, unbegun}
use Rattle.relay_session.specs.declared.ends.LeftCause.{LeftCause}
use Rattle.relay_session.specs.declared.ends.LeftCause.TheVariants as cause
use Rattle.relay_session.specs.declared.ends.RelayEnd.{RelayEnd}
use Rattle.relay_session.specs.private.Running.{IsWireCause}
use Rattle.relay_session.proofs.LeftCauses.{nobody_told, queue_some, somebody_told, told_cause}
use Rattle.relay_session.proofs.RunBeginnings.{queue_short}

-- ---- nobody is reached

pub not_empty : (queue : List Queued) (empty : Bool) → (empty ≡ true) ↔ (queue ≡ []) → empty ≡ false → queue ≢ []
not_empty queue empty means isnt = λ none. false≢true (sym isnt ∙ means.1 none)

pub queue_unbegun : (host : List ℕ) (before now : AroundDial) → StaysHome before now → AsksAtMost before.dial.asked now.dial.asked host
    → RelaysQueue host before now (Err fault.Memory)
queue_unbegun host before now home asked path_of reads = unbegun_queue refl home asked

pub queue_idle : (host : List ℕ) (before : AroundDial) (queue : List Queued) → IsQueue before.desk.store.kept.entries queue → queue ≡ []
    → RelaysQueue host before before (Ok (record { sent = 0; reported = 0; left = 0; cause = None }))
queue_idle host before queue told none path_of reads = nobody_waits (nobody_told before.desk.store.kept.entries queue told none) refl refl

pub queue_unreached : (host : List ℕ) (before now : AroundDial) (queue : List Queued) → IsQueue before.desk.store.kept.entries queue → queue ≢ [] → StaysHome before now
    → now.dial.asked ≡ with_host before.dial.asked host → Rose before.dial.faults now.dial.faults
    → RelaysQueue host before now (Ok (record { sent = 0; reported = 0; left = told_count queue; cause = Some cause.Dial }))
queue_unreached host before now queue told some home asked rose path_of reads = unreached queue told some home asked rose refl

-- an answer of which no count was made
pub idle_left : HasLeftCause (record { sent = 0; reported = 0; left = 0; cause = None })
idle_left = record { nobody = λ none. refl; some = λ isnt. absurd (isnt refl) }

pub unreached_left : (desk : Desk) (queue : List Queued) → IsQueue desk.store.kept.entries queue → queue ≢ [] → HasLeftCause (record { sent = 0; reported = 0; left = told_count queue; cause = Some cause.Dial })
unreached_left desk queue told some =
    let short = queue_short desk.store.kept queue told in
    let one = queue_some queue some in
    told_cause (record { sent = 0; reported = 0; left = told_count queue; cause = Some cause.Dial }) cause.Dial refl (omega (arith, short, one))

-- ---- what causes an end has

dial_wire : Some cause.Dial ≡ Some cause.Wire → ⊥
dial_wire is = cc

none_some : (why : LeftCause) → (let none : Option LeftCause = None in none) ≡ Some why → ⊥
none_some why is = cc

-- the dial failed
pub unreached_cause : (before now : DialState) (left : ℕ) → Rose before.faults now.faults → HasDialCause before now (record { sent = 0; reported = 0; left = left; cause = Some cause.Dial })
unreached_cause before now left rose = record { dial = λ is. rose; wire = λ sure is. dial_wire is }

pub idle_cause : (before now : DialState) → HasDialCause before now (record { sent = 0; reported = 0; left = 0; cause = None })
idle_cause before now = record { dial = λ is. absurd (none_some cause.Dial is); wire = λ sure is. none_some cause.Wire is }

-- ---- over a connection

-- what a relay over a wire is lent, and its desk
pub record IsLent (lent : Around) (wire : WireState) (keeper : KeeperState) (clock : Option ℕ) (desk : Desk) : Type 0 where
  pub wire_is : lent.wire ≡ wire
  pub keeper_is : lent.keeper ≡ keeper
  pub clock_is : lent.clock ≡ clock
  pub desk_is : lent.desk ≡ desk

lent_is : (lent : Around) (wire : WireState) (keeper : KeeperState) (clock : Option ℕ) (desk : Desk) (loans : Loans) → IsLent lent wire keeper clock desk → lent.loans ≡ loans
    → lent ≡ record { wire = wire; keeper = keeper; clock = clock; desk = desk; loans = loans }
lent_is lent wire keeper clock desk loans is same = rw (← is.wire_is, ← is.keeper_is, ← is.clock_is, ← is.desk_is, ← same) refl

-- what was relayed is said of what was lent
pub relays_lent : (start done : Around) (old new : WireState) (had has : KeeperState) (first last : Option ℕ) (desk after : Desk) (result : Result RelayEnd Fault)
    → IsLent start old had first desk → IsLent done new has last after → done.loans ≡ start.loans → Relays start done result
    → (loans : Loans) × Relays (record { wire = old; keeper = had; clock = first; desk = desk; loans = loans }) (record { wire = new; keeper = has; clock = last; desk = after; loans = loans }) result
relays_lent start done old new had has first last desk after result begins ends same relays =
    let start_is = lent_is start old had first desk start.loans begins refl in
    let done_is = lent_is done new has last after start.loans ends same in (
      start.loans,
      subst (λ (a : Around). Relays a (record { wire = new; keeper = has; clock = last; desk = after; loans = start.loans }) result) start_is
          (subst (λ (a : Around). Relays start a result) done_is relays),
    )

-- it was relayed over a connection that a dial made, and the dial was handed it back
pub queue_connected : (host : List ℕ) (before now : AroundDial) (opened closed : WireState) (queue : List Queued) (result : Result RelayEnd Fault)
    → IsQueue before.desk.store.kept.entries queue → queue ≢ [] → now.dial.asked ≡ with_host before.dial.asked host → IsDialled before.dial opened
    → (loans : Loans) × Relays (over_wire before opened loans) (over_wire now closed loans) result → now.dial.transcript ≡ closed.transcript → RelaysQueue host before now result
queue_connected host before now opened closed queue result told some asked dialled relays handed_back path_of reads =
    connected (somebody_told before.desk.store.kept.entries queue told some) (record {
      asked = asked;
      opened = opened;
      closed = closed;
      loans = relays.0;
      dialled = dialled;
      relays = relays.1 path_of reads;
      handed_back = handed_back;
    })

-- ---- the causes of an answer over a connection

ok_err : (end : RelayEnd) (met : Fault) → Ok end ≡ Err met → ⊥
ok_err end met is = cc

same_end : (end other : RelayEnd) → (let a : Result RelayEnd Fault = Ok end in a) ≡ Ok other → end ≡ other
same_end end other is = cc

memory_wire : (let a : Result RelayEnd Fault = Err fault.Memory in a) ≡ Err fault.Wire → ⊥
memory_wire is = cc

dialled_by : (path_of : List ℕ → Option (Option Address)) (before now : Around) (result : Result RelayEnd Fault) (end : RelayEnd) → result ≡ Ok end → RelaysBy path_of before now result → end.cause ≡ Some cause.Dial → ⊥
dialled_by path_of before now result end told (unbegun is same) why = ok_err end fault.Memory (sym told ∙ is)
dialled_by path_of before now result end told (idle none same is) why =
    none_some cause.Dial (sym (ap (λ (e : RelayEnd). e.cause) (same_end end (record { sent = 0; reported = 0; left = 0; cause = None }) (sym told ∙ is))) ∙ why)
dialled_by path_of before now result end told (begun bag some relays) why =
    let answers = subst (λ (r : Result RelayEnd Fault). AnswersRelay path_of before now bag relays.entries relays.replies relays.following r) told relays.answers in
    subst (λ (why : Option LeftCause). EndsRun path_of before now bag relays.entries relays.replies relays.following end why) why answers

-- the dial is no cause after a connection
never_dial : (before now : Around) (end : RelayEnd) → Relays before now (Ok end) → end.cause ≡ Some cause.Dial → ⊥
never_dial before now end relays is = dialled_by oracles_given.0.path_of before now (Ok end) end refl (relays oracles_given.0.path_of oracles_given.1.paths) is

-- why somebody is left, where a connection was made
pub connected_cause : (dial last : DialState) (opened : WireState) (before now : Around) (result : Result RelayEnd Fault) → IsDialled dial opened → Relays before now result
    → IfOk result (λ end. IsTrue opened.never_fails → end.cause ≢ Some cause.Wire) → IfOk result (HasDialCause dial last)
connected_cause dial last opened before now (Err met) dialled relays why = tt
connected_cause dial last opened before now (Ok end) dialled relays why = record { dial = λ is. absurd (never_dial before now end relays is); wire = λ sure. why (dialled.sure sure) }

-- a wire that never fails isn't told to have failed
pub wire_sure : (start done : Around) (old : WireState) (result : Result RelayEnd Fault) → start.wire ≡ old → IfOk result (IsWireCause start done) → IfOk result (λ end. IsTrue old.never_fails → end.cause ≢ Some cause.Wire)
wire_sure start done old (Err met) same why = tt
wire_sure start done old (Ok end) same why = λ sure is. (why is).1 (rw same sure)

wired_by : (path_of : List ℕ → Option (Option Address)) (before now : Around) (result : Result RelayEnd Fault) → RelaysBy path_of before now result → result ≡ Err fault.Wire → ⊥
wired_by path_of before now result (unbegun is same) failed = memory_wire (sym is ∙ failed)
wired_by path_of before now result (idle none same is) failed = ok_err (record { sent = 0; reported = 0; left = 0; cause = None }) fault.Wire (sym is ∙ failed)
wired_by path_of before now result (begun bag some relays) failed =
    subst (λ (r : Result RelayEnd Fault). AnswersRelay path_of before now bag relays.entries relays.replies relays.following r) failed relays.answers

-- a wire that fails is no fault of the answer
pub no_wire_fault : (before now : Around) (result : Result RelayEnd Fault) → Relays before now result → result ≡ Err fault.Wire → ⊥
no_wire_fault before now result relays failed = wired_by oracles_given.0.path_of before now result (relays oracles_given.0.path_of oracles_given.1.paths) failed

met_told : (result : Result RelayEnd Fault) (met : Fault) → result ≡ Err met → answer_of (fault_of result) ≡ Err met
met_told result met is = rw is refl

-- the keeper's cause of the answer, over what was lent
pub connected_keeper : (start done : Around) (old new : KeeperState) (result : Result RelayEnd Fault) → start.keeper ≡ old → done.keeper ≡ new → Keeps start done (fault_of result) → HasKeeperCause old new result fault.Keeper
connected_keeper start done old new result first last keeps =
    let kept : HasKeeperCause old new (answer_of (fault_of result)) fault.Keeper = rw (← first, ← last) keeps.keeper in
    record {
      later = kept.later;
      rose = λ failed. kept.rose (met_told result fault.Keeper failed);
      sure = λ never. ((kept.sure never).0, λ failed. (kept.sure never).1 (met_told result fault.Keeper failed));
    }

-- a keeper that wasn't used
pub unused_keeper : (keeper : KeeperState) (result : Result RelayEnd Fault) → (result ≡ Err fault.Keeper → ⊥) → HasKeeperCause keeper keeper result fault.Keeper
unused_keeper keeper result fine = record { later = omega arith; rose = λ failed. absurd (fine failed); sure = λ never. (never, fine) }
