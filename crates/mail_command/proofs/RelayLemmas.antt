-- What the command does that sends the queue on, exit by exit.
use Rattle.std.proofs.Common.{◌≡◌, ◌≢◌, ◌⊎◌, ◌==◌, if◌then◌else◌, ℕ, Bool, true, false, List, [], Option, None, Some, Result, Ok, Err, refl, ap, subst, inl, inr, arith}
use Rattle.std.specs.Prelude.{IfOk, IfSome, codes}
use Rattle.std.proofs.lemmas.Option.{IfSome_then}
use Rattle.address_grammar.specs.declared.Address.{Address}
use Rattle.journal_records.specs.declared.records.Record.{Record}
use Rattle.mail_store.proofs.FollowLemmas.{Follows-nil}
use Rattle.mail_store.specs.Answers.{IsJournalFault, LeavesRecords, OpensTo}
use Rattle.mail_store.specs.Following.{Follows}
use Rattle.mail_store.specs.StoreState.{StoreState}
use Rattle.mail_store.specs.declared.opening.OpenFault.{OpenFault}
use Rattle.mail_store.specs.declared.opening.OpenFault.TheVariants as faults
use Rattle.mail_wire.proofs.KeeperLemmas.{KeepsOn-more, KeepsOn-of}
use Rattle.mail_wire.proofs.Moving.{Gives-nil}
use Rattle.mail_wire.specs.KeeperState.{KeeperState}
use Rattle.mail_wire.specs.Keeping.{HasKeeperCause}
use Rattle.mail_wire.specs.Moves.{HasWireCause}
use Rattle.mail_wire.specs.WireState.{WireState}
use Rattle.mail_wire.specs.Transcript.{given_of}
use Rattle.mail_wire.specs.declared.outside.Entry.{Entry}
use Rattle.mail_wire.specs.declared.outside.Fault.{Fault}
use Rattle.mail_wire.specs.declared.outside.Fault.TheVariants as fault
use Rattle.relay_choice.specs.declared.replies.Reply.{Reply}
use Rattle.relay_session.specs.Dialling.{AroundDial, HasDialCause, RelaysQueue, RelaysQueueBy, connected, nobody_waits, over_wire, unreached, unbegun as unbegun_queue}
use Rattle.relay_session.specs.MailObjects.{Mailbag}
use Rattle.relay_session.specs.Relaying.{AnswersRelay, BreaksRunOff, EndsRun, HasLeftCause, RelaysBy, begun, idle, unbegun}
use Rattle.relay_session.specs.declared.ends.LeftCause.{LeftCause}
use Rattle.relay_session.specs.declared.ends.LeftCause.TheVariants as left_by
use Rattle.relay_session.specs.declared.ends.RelayEnd.{RelayEnd}
use Rattle.session_core.proofs.CaughtLemmas.{left_alone}
use Rattle.session_core.proofs.MeaningLemmas.{oracles_given}
use Rattle.session_core.specs.Acts.{changes_in}
use Rattle.session_core.specs.Around.{Around}
use Rattle.session_core.specs.Desks.{IsOpen}
use Rattle.session_core.specs.declared.desk.Desk.{Desk}
use Rattle.session_core.specs.declared.desk.Limits.{Limits}
use Rattle.setup_command.proofs.AddingLemmas.{holds_by}
use Rattle.setup_command.specs.AddingRuns.{TellsLine, TellsUnopened}
use Rattle.setup_command.specs.Running.{BreaksSessionOff, HasStatusCause, HoldsBegun, OpensStore, place_line}
use Rattle.setup_command.specs.Statuses.{status_of}
use Rattle.mail_command.specs.RelayRuns.{Broken, InEnd, InJournal, InLine, InRelay, KeepsFirst, KeepsFirstOf, OutsideState, Relayed, RunsRelay, SendsQueue, Unopened, relay_line, relay_status}
use Rattle.mail_command.proofs.BegunLemmas.{begun_held}
use Rattle.mail_command.proofs.SessionLemmas.{quiet}

-- ---- what the relay leaves in the journal

-- some records were put last in the store and in the keeper
abbrev PutsSome : StoreState → StoreState → Option (List ℕ) → Option (List ℕ) → Type 0
PutsSome old new had has = (records : List Record) × Follows old new had has records

puts_none : (old new : StoreState) (had has : Option (List ℕ)) → new ≡ old → has ≡ had → PutsSome old new had has
puts_none old new had has same kept = rw (same, kept) ([], Follows-nil old had)

-- a run that came to an end, whyever
puts_by_end : (path_of : List ℕ → Option (Option Address)) (before now : Around) (bag : Mailbag before.desk.store.kept) (entries : List Entry) (replies : List Reply) (following : List ℕ) (end : RelayEnd)
    (cause : Option LeftCause) → EndsRun path_of before now bag entries replies following end cause → PutsSome before.desk.store now.desk.store before.keeper.octets now.keeper.octets
puts_by_end path_of before now bag entries replies following end None is = (_, is.leaves.follows)
puts_by_end path_of before now bag entries replies following end (Some left_by.Dial) is = absurd is
puts_by_end path_of before now bag entries replies following end (Some left_by.Wire) is = (_, is.breaks.done.follows)
puts_by_end path_of before now bag entries replies following end (Some (left_by.Reply octets)) is = (_, is.does.done.1)

-- any run in which the keeper didn't fail
puts_by_answer : (path_of : List ℕ → Option (Option Address)) (before now : Around) (bag : Mailbag before.desk.store.kept) (entries : List Entry) (replies : List Reply) (following : List ℕ)
    (result : Result RelayEnd Fault) → AnswersRelay path_of before now bag entries replies following result → result ≢ Err fault.Keeper
    → PutsSome before.desk.store now.desk.store before.keeper.octets now.keeper.octets
puts_by_answer path_of before now bag entries replies following (Ok end) is other = puts_by_end path_of before now bag entries replies following end end.cause is
puts_by_answer path_of before now bag entries replies following (Err fault.Wire) is other = absurd is
puts_by_answer path_of before now bag entries replies following (Err fault.Keeper) is other = absurd (other refl)
puts_by_answer path_of before now bag entries replies following (Err fault.Memory) is other = (_, is.done.follows)

puts_over_wire : (path_of : List ℕ → Option (Option Address)) (before now : Around) (result : Result RelayEnd Fault) → RelaysBy path_of before now result → result ≢ Err fault.Keeper
    → PutsSome before.desk.store now.desk.store before.keeper.octets now.keeper.octets
puts_over_wire path_of before now result (unbegun is same) other =
    puts_none _ _ _ _ (ap (λ (around : Around). around.desk.store) same) (ap (λ (around : Around). around.keeper.octets) same)
puts_over_wire path_of before now result (idle none same is) other =
    puts_none _ _ _ _ (ap (λ (around : Around). around.desk.store) same) (ap (λ (around : Around). around.keeper.octets) same)
puts_over_wire path_of before now result (begun bag some to) other = puts_by_answer path_of before now bag to.entries to.replies to.following result to.answers other

puts_by_dial : (path_of : List ℕ → Option (Option Address)) (host : List ℕ) (before now : AroundDial) (result : Result RelayEnd Fault) → RelaysQueueBy path_of host before now result → result ≢ Err fault.Keeper
    → PutsSome before.desk.store now.desk.store before.keeper.octets now.keeper.octets
puts_by_dial path_of host before now result (unbegun_queue is home asked) other =
    puts_none _ _ _ _ (ap (λ (desk : Desk). desk.store) home.desk) (ap (λ (keeper : KeeperState). keeper.octets) home.keeper)
puts_by_dial path_of host before now result (nobody_waits none same is) other =
    puts_none _ _ _ _ (ap (λ (around : AroundDial). around.desk.store) same) (ap (λ (around : AroundDial). around.keeper.octets) same)
puts_by_dial path_of host before now result (unreached queue are some home asked rose is) other =
    puts_none _ _ _ _ (ap (λ (desk : Desk). desk.store) home.desk) (ap (λ (keeper : KeeperState). keeper.octets) home.keeper)
puts_by_dial path_of host before now result (connected some over) other = puts_over_wire path_of _ _ result over.relays other

puts_some : (host : List ℕ) (before now : AroundDial) (result : Result RelayEnd Fault) → RelaysQueue host before now result → result ≢ Err fault.Keeper
    → PutsSome before.desk.store now.desk.store before.keeper.octets now.keeper.octets
puts_some host before now result relays = puts_by_dial oracles_given.0.path_of host before now result (relays oracles_given.0.path_of oracles_given.1.paths)

-- ---- what it leaves where the keeper failed

-- the run that the keeper broke off
keeper_broke : (path_of : List ℕ → Option (Option Address)) (before now : Around) → RelaysBy path_of before now (Err fault.Keeper)
    → (bag : Mailbag before.desk.store.kept) × (replies : List Reply) × (given : List ℕ) × BreaksRunOff path_of before now bag replies given fault.Keeper
keeper_broke path_of before now (unbegun is same) = let bad : ⊥ = cc in absurd bad
keeper_broke path_of before now (idle none same is) = let bad : ⊥ = cc in absurd bad
keeper_broke path_of before now (begun bag some to) = (bag, to.replies, given_of to.entries, to.answers)

keeps_over_wire : (path_of : List ℕ → Option (Option Address)) (old : Option (List ℕ)) (before now : Around) → IfSome old (λ octets. OpensTo octets before.keeper.octets before.desk.store.kept)
    → RelaysBy path_of before now (Err fault.Keeper) → IfSome old (λ octets. KeepsFirst path_of before now.keeper.octets)
keeps_over_wire path_of old before now opens relays =
    let broke = keeper_broke path_of before now relays in
    let breaks = broke.3 in
    IfSome_then old {P = λ octets. HoldsBegun now.keeper.octets before.desk.store (changes_in breaks.acts)}
    (begun_held (λ octets. octets) old before.desk.store now.desk.store before.keeper.octets now.keeper.octets (Some fault.Keeper) breaks.acts broke.2 opens breaks.done)
    (λ octets holds. record { bag = broke.0; replies = broke.1; first = breaks.first; acts = breaks.acts; count = breaks.count; carried = breaks.carried; holds = holds })

keeps_by_dial : (path_of : List ℕ → Option (Option Address)) (host : List ℕ) (old : Option (List ℕ)) (before now : AroundDial) → IfSome old (λ octets. OpensTo octets before.keeper.octets before.desk.store.kept)
    → RelaysQueueBy path_of host before now (Err fault.Keeper) → IfSome old (λ octets. KeepsFirstOf path_of before.desk before.clock now.keeper.octets)
keeps_by_dial path_of host old before now opens (unbegun_queue is home asked) = let bad : ⊥ = cc in absurd bad
keeps_by_dial path_of host old before now opens (nobody_waits none same is) = let bad : ⊥ = cc in absurd bad
keeps_by_dial path_of host old before now opens (unreached queue are some home asked rose is) = let bad : ⊥ = cc in absurd bad
keeps_by_dial path_of host old before now opens (connected some over) =
    let around = over_wire before over.opened over.loans in
    IfSome_then old {P = λ octets. KeepsFirst path_of around now.keeper.octets}
    (keeps_over_wire path_of old around (over_wire now over.closed over.loans) opens over.relays) (λ octets keeps. (around, refl, refl, keeps))

-- ---- the journal isn't opened

-- memory was wanting for the words
pub relay_unbegun : (limits : Limits) (host : List ℕ) (before : OutsideState) → RunsRelay limits host before before 3
relay_unbegun limits host before = Broken (inl (inr refl)) (InJournal (Gives-nil before.wire) (left_alone before.keeper.octets) refl)

-- why it isn't was told, or that was broken off
pub relay_unopened : (limits : Limits) (host : List ℕ) (before now : OutsideState) (met : OpenFault) (result : Result ℕ Fault) → LeavesRecords before.keeper.octets now.keeper.octets
    → IfSome before.keeper.octets (λ octets. IsJournalFault octets now.keeper.octets met) → TellsUnopened met before.wire now.wire result → now.dial ≡ before.dial
    → RunsRelay limits host before now (status_of result)
relay_unopened limits host before now faults.Keeper result leaves is observed home = rw observed.1 (Broken (inr refl) (InJournal (quiet before.wire now.wire observed.0) leaves home))
relay_unopened limits host before now faults.Memory result leaves is observed home = rw observed.1 (Broken (inl (inr refl)) (InJournal (quiet before.wire now.wire observed.0) leaves home))
relay_unopened limits host before now (faults.BadJournal at) (Ok status) leaves is observed home =
    Unopened (place_line (codes "bad journal at ") at) (record { fault = faults.BadJournal at; told = (observed.1, refl); is = is }) observed.0 home
relay_unopened limits host before now (faults.BadJournal at) (Err fault.Wire) leaves is observed home =
    Broken (inl (inl refl)) (InLine 5 (place_line (codes "bad journal at ") at) (record { fault = faults.BadJournal at; told = (refl, refl); is = is }) observed leaves home)
relay_unopened limits host before now (faults.BadJournal at) (Err fault.Memory) leaves is observed home =
    Broken (inl (inr refl)) (InLine 5 (place_line (codes "bad journal at ") at) (record { fault = faults.BadJournal at; told = (refl, refl); is = is }) observed leaves home)
relay_unopened limits host before now (faults.BadJournal at) (Err fault.Keeper) leaves is observed home = absurd observed

-- ---- the queue was relayed

-- from a desk that was opened over this keeper, to a desk
pub record IsRelayed (limits : Limits) (host : List ℕ) (before now : OutsideState) (opened : KeeperState) (desk after : Desk) (result : Result RelayEnd Fault) : Type 0 where
  pub leaves : LeavesRecords before.keeper.octets opened.octets
  pub opens : OpensStore before.keeper.octets opened.octets desk.store
  pub works : IsOpen desk
  pub limits_are : desk.limits ≡ limits
  pub relays : RelaysQueue host (record { dial = before.dial; keeper = opened; clock = before.clock; desk = desk })
      (record { dial = now.dial; keeper = now.keeper; clock = now.clock; desk = after }) result
  pub left : IfOk result HasLeftCause
  pub cause : IfOk result (HasDialCause before.dial now.dial)

sends_queue : (limits : Limits) (host : List ℕ) (before now : OutsideState) (opened : KeeperState) (desk after : Desk) (result : Result RelayEnd Fault) → IsRelayed limits host before now opened desk after result
    → SendsQueue limits host before now result
sends_queue limits host before now opened desk after result is = record {
  desk = desk;
  after = after;
  opened = opened;
  opens = is.opens;
  works = is.works;
  limits_are = is.limits_are;
  relays = is.relays;
  left = is.left;
  cause = is.cause;
  holds = λ other. let puts = puts_some host _ _ result is.relays other in
      holds_by before.keeper.octets opened.octets now.keeper.octets desk.store after.store puts.0 is.leaves is.opens.opens puts.1;
  begun = λ broke path_of reads.
      let around : AroundDial = record { dial = before.dial; keeper = opened; clock = before.clock; desk = desk } in
      let left : AroundDial = record { dial = now.dial; keeper = now.keeper; clock = now.clock; desk = after } in
      keeps_by_dial path_of host before.keeper.octets around left is.opens.opens
      (subst (λ (answer : Result RelayEnd Fault). RelaysQueueBy path_of host around left answer) broke (is.relays path_of reads));
}

breaks_off : (met : Fault) → BreaksSessionOff (status_of (Err met))
breaks_off fault.Wire = inl (inl refl)
breaks_off fault.Keeper = inr refl
breaks_off fault.Memory = inl (inr refl)

-- it was broken off
pub relay_failed : (limits : Limits) (host : List ℕ) (before now : OutsideState) (opened : KeeperState) (desk after : Desk) (result : Result RelayEnd Fault) (met : Fault)
    → IsRelayed limits host before now opened desk after result → result ≡ Err met → now.wire ≡ before.wire → RunsRelay limits host before now (status_of (Err met))
relay_failed limits host before now opened desk after result met is failed same =
    Broken (breaks_off met) (InRelay met (rw failed at (sends_queue limits host before now opened desk after result is)) refl (quiet before.wire now.wire same))

told_by : (limits : Limits) (host : List ℕ) (before now : OutsideState) (end : RelayEnd) (result : Result ℕ Fault) → SendsQueue limits host before now (Ok end)
    → TellsLine before.wire now.wire result (relay_status end) (relay_line end) → RunsRelay limits host before now (status_of result)
told_by limits host before now end (Ok status) sends observed = Relayed end sends observed.0 observed.1
told_by limits host before now end (Err fault.Wire) sends observed = Broken (inl (inl refl)) (InEnd end sends (inl refl) observed)
told_by limits host before now end (Err fault.Keeper) sends observed = absurd observed
told_by limits host before now end (Err fault.Memory) sends observed = Broken (inl (inr refl)) (InEnd end sends (inr refl) observed)

-- how it ended was told, or that was broken off
pub relay_told : (limits : Limits) (host : List ℕ) (before now : OutsideState) (opened : KeeperState) (desk after : Desk) (result : Result RelayEnd Fault) (end : RelayEnd) (told : Result ℕ Fault)
    → IsRelayed limits host before now opened desk after result → result ≡ Ok end → TellsLine before.wire now.wire told (relay_status end) (relay_line end) → RunsRelay limits host before now (status_of told)
relay_told limits host before now opened desk after result end told is ended observed =
    told_by limits host before now end told (rw ended at (sends_queue limits host before now opened desk after result is)) observed

-- ---- causes

abbrev pub status_if : Bool → ℕ
status_if is = if is then 0 else 8

pub zero_or_eight : (is : Bool) → (status_if is ≡ 0) ⊎ (status_if is ≡ 8)
zero_or_eight true = inl refl
zero_or_eight false = inr refl

no_fault : (status n : ℕ) → (status ≡ 0) ⊎ (status ≡ 8) → (n ≡ 1) ⊎ (n ≡ 2) → ¬ (status ≡ n)
no_fault status n (inl is) (inl one) same = absurd (omega (arith, is, one, same))
no_fault status n (inl is) (inr two) same = absurd (omega (arith, is, two, same))
no_fault status n (inr is) (inl one) same = absurd (omega (arith, is, one, same))
no_fault status n (inr is) (inr two) same = absurd (omega (arith, is, two, same))

-- the line's status is no fault
no_fault_told : (end : RelayEnd) (answer n : ℕ) → answer ≡ relay_status end → (n ≡ 1) ⊎ (n ≡ 2) → ¬ (answer ≡ n)
no_fault_told end answer n told fault = rw told (no_fault (relay_status end) n (zero_or_eight (end.left == 0)) fault)

wire_broke : (a b : WireState) (end : RelayEnd) (result : Result ℕ Fault) → TellsLine a b result (relay_status end) (relay_line end) → status_of result ≡ 1 → result ≡ Err fault.Wire
wire_broke a b end (Ok answer) observed is = absurd (no_fault_told end answer 1 observed.1 (inl refl) is)
wire_broke a b end (Err fault.Wire) observed is = refl
wire_broke a b end (Err fault.Memory) observed is = absurd (omega (arith, is))
wire_broke a b end (Err fault.Keeper) observed is = absurd observed

keeper_held : (a b : WireState) (end : RelayEnd) (result : Result ℕ Fault) → TellsLine a b result (relay_status end) (relay_line end) → ¬ (status_of result ≡ 2)
keeper_held a b end (Ok answer) observed is = no_fault_told end answer 2 observed.1 (inr refl) is
keeper_held a b end (Err fault.Wire) observed is = absurd (omega (arith, is))
keeper_held a b end (Err fault.Memory) observed is = absurd (omega (arith, is))
keeper_held a b end (Err fault.Keeper) observed is = observed

-- the causes of what was answered after the line
pub relay_cause : (a b : WireState) (old opened new : KeeperState) (first : Result Desk OpenFault) (relayed : Result RelayEnd Fault) (end : RelayEnd) (result : Result ℕ Fault)
    → HasKeeperCause old opened first faults.Keeper → HasKeeperCause opened new relayed fault.Keeper → TellsLine a b result (relay_status end) (relay_line end) → HasWireCause a b result fault.Wire
    → HasStatusCause a b old new (status_of result)
relay_cause a b old opened new first relayed end result opens relays observed wire =
    let keeps = KeepsOn-more old opened new relayed fault.Keeper (KeepsOn-of old opened first faults.Keeper opens) relays in
    record {
      later = wire.later;
      wire_rose = λ is. wire.rose (wire_broke a b end result observed is);
      wire_sure = λ sure. ((wire.sure sure).0, λ is. (wire.sure sure).1 (wire_broke a b end result observed is));
      keeper_later = keeps.later;
      keeper_rose = λ is. absurd (keeper_held a b end result observed is);
      keeper_sure = λ sure. (keeps.sure sure, keeper_held a b end result observed);
    }
