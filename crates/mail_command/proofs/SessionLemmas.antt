-- What the command of a session does, exit by exit.
use Rattle.std.proofs.Common.{◌≡◌, ℕ, ◌≤◌, List, [], Option, Result, Ok, Err, refl, sym, ap, ◌∙◌, subst, inl, inr, arith}
use Rattle.std.specs.Prelude.{IfSome, IsErrOf, codes}
use Rattle.mail_wire.specs.declared.outside.Fault.{Fault}
use Rattle.mail_wire.specs.declared.outside.Fault.TheVariants as fault
use Rattle.mail_wire.specs.WireState.{WireState}
use Rattle.mail_wire.specs.KeeperState.{KeeperState}
use Rattle.mail_wire.specs.Causes.{Rose}
use Rattle.mail_wire.specs.Keeping.{HasKeeperCause}
use Rattle.mail_wire.specs.Moves.{Gives}
use Rattle.mail_wire.specs.Transcript.{taken_of, given_of}
use Rattle.mail_store.specs.declared.opening.OpenFault.{OpenFault}
use Rattle.mail_store.specs.declared.opening.OpenFault.TheVariants as faults
use Rattle.mail_store.specs.Answers.{OpensTo, IsJournalFault, LeavesRecords}
use Rattle.mail_store.specs.StoreState.{StoreState}
use Rattle.mail_store.proofs.Readings.{records_not_bad}
use Rattle.session_core.specs.Around.{Around}
use Rattle.session_core.specs.Desks.{IsOpen}
use Rattle.session_core.specs.Keeps.{Keeps, answer_of}
use Rattle.session_core.specs.Protocol.{Protocol}
use Rattle.session_core.specs.Served.{met_of}
use Rattle.session_core.specs.Serving.{Instance, OfInstance, Serves, ServesBy, ServesFrom, acts_for}
use Rattle.session_core.specs.declared.desk.Desk.{Desk}
use Rattle.session_core.specs.declared.desk.Limits.{Limits}
use Rattle.session_core.specs.declared.serving.Served.{Served}
use Rattle.session_core.specs.declared.serving.Served.TheVariants as ended_as
use Rattle.setup_command.specs.Running.{HasStatusCause, IsExactJournal, OpensStore, place_line}
use Rattle.setup_command.specs.AddingRuns.{TellsUnopened}
use Rattle.mail_command.specs.Running.{BreaksSession, InJournal, InLine, InSession, RunsSession, Ended, Limit, Unopened, Broken, status_of_served}
use Rattle.setup_command.specs.Statuses.{status_of}
use Rattle.mail_wire.proofs.Moving.{Gives-nil}
use Rattle.std.proofs.lemmas.Option.{IfSome_then}
use Rattle.setup_command.proofs.AddingLemmas.{holds_by}
use Rattle.mail_command.proofs.BegunLemmas.{begun_held}
use Rattle.mail_command.proofs.InstanceLemmas.{of_each, with_instance}
use Rattle.mail_command.proofs.RunLemmas.{some_of}

pub quiet : (a b : WireState) → b ≡ a → Gives a b []
quiet a b same = subst (λ (t : WireState). Gives a t []) (sym same) (Gives-nil a)

unopened_by : (instance : Instance) (limits : Limits) (old new : Option (List ℕ)) (a b : WireState) (met : OpenFault) (result : Result ℕ Fault) → LeavesRecords old new
    → IfSome old (λ octets. IsJournalFault octets new met) → TellsUnopened met a b result → RunsSession instance limits old new a b (status_of result)
unopened_by instance limits old new a b faults.Keeper result leaves is observed = rw observed.1 (Broken (inr refl) (InJournal (quiet a b observed.0) leaves))
unopened_by instance limits old new a b faults.Memory result leaves is observed = rw observed.1 (Broken (inl (inr refl)) (InJournal (quiet a b observed.0) leaves))
unopened_by instance limits old new a b (faults.BadJournal at) (Ok status) leaves is observed =
    Unopened (place_line (codes "bad journal at ") at) (record { fault = faults.BadJournal at; told = (observed.1, refl); is = is }) observed.0
unopened_by instance limits old new a b (faults.BadJournal at) (Err fault.Wire) leaves is observed =
    Broken (inl (inl refl)) (InLine 5 (place_line (codes "bad journal at ") at) (record { fault = faults.BadJournal at; told = (refl, refl); is = is }) observed leaves)
unopened_by instance limits old new a b (faults.BadJournal at) (Err fault.Memory) leaves is observed =
    Broken (inl (inr refl)) (InLine 5 (place_line (codes "bad journal at ") at) (record { fault = faults.BadJournal at; told = (refl, refl); is = is }) observed leaves)
unopened_by instance limits old new a b (faults.BadJournal at) (Err fault.Keeper) leaves is observed = absurd observed

-- why the journal wasn't opened was told, or that was broken off
pub unopened : (protocol : Protocol) (reading : Option ℕ) (limits : Limits) (old new : Option (List ℕ)) (a b : WireState) (met : OpenFault) (result : Result ℕ Fault) → LeavesRecords old new
    → IfSome old (λ octets. IsJournalFault octets new met) → TellsUnopened met a b result → OfInstance protocol reading (λ instance. RunsSession instance limits old new a b (status_of result))
unopened protocol reading limits old new a b met result leaves is observed =
    of_each protocol reading (λ instance. RunsSession instance limits old new a b (status_of result)) (λ instance. unopened_by instance limits old new a b met result leaves is observed)

-- ---- a session was served

-- it was broken off
broken_off : (instance : Instance) (limits : Limits) (old opened new : Option (List ℕ)) (a b : WireState) (store after : StoreState) (advance : Served) → OpensStore old opened store
    → store.message_max ≡ limits.message_max → Serves instance store after opened new advance limits.session_max a b → BreaksSession instance limits old new a b (status_of_served advance)
broken_off instance limits old opened new a b store after advance opens bound does = InSession (record {
  told = refl;
  store = store;
  after = after;
  opened = opened;
  served = advance;
  opens = opens;
  message_limit = bound;
  lawful = does.lawful;
  holds = begun_held instance.spelled old store after opened new (met_of advance) (acts_for instance store (taken_of does.lawful.entries)) (given_of does.lawful.entries) opens.opens does.lawful.done;
})

served_by : (instance : Instance) (limits : Limits) (old opened new : Option (List ℕ)) (a b : WireState) (store after : StoreState) (advance : Served) → LeavesRecords old opened → OpensStore old opened store
    → store.message_max ≡ limits.message_max → Serves instance store after opened new advance limits.session_max a b → RunsSession instance limits old new a b (status_of_served advance)
served_by instance limits old opened new a b store after ended_as.Ended leaves opens bound does =
    Ended store after opened opens bound (does.ended refl) (holds_by old opened new store after _ leaves opens.opens (does.ended refl).sent.changes) refl
served_by instance limits old opened new a b store after ended_as.Limit leaves opens bound does =
    Limit store after opened opens bound (does.limit refl) (holds_by old opened new store after _ leaves opens.opens (does.limit refl).sent.changes) refl
served_by instance limits old opened new a b store after ended_as.WireFault leaves opens bound does =
    Broken (inl (inl refl)) (broken_off instance limits old opened new a b store after ended_as.WireFault opens bound does)
served_by instance limits old opened new a b store after ended_as.KeeperFault leaves opens bound does =
    Broken (inr refl) (broken_off instance limits old opened new a b store after ended_as.KeeperFault opens bound does)
served_by instance limits old opened new a b store after ended_as.Memory leaves opens bound does =
    Broken (inl (inr refl)) (broken_off instance limits old opened new a b store after ended_as.Memory opens bound does)

-- a desk that was opened, with what is lent to its session
pub record IsOpened (before : Around) (limits : Limits) (old : Option (List ℕ)) : Type 0 where
  pub leaves : LeavesRecords old before.keeper.octets
  pub opens : OpensStore old before.keeper.octets before.desk.store
  pub works : IsOpen before.desk
  pub limits_are : before.desk.limits ≡ limits

-- what a session is lent
pub record IsLent (before : Around) (reading : Option ℕ) (opened : KeeperState) (a : WireState) : Type 0 where
  pub clock : before.clock ≡ reading
  pub keeper : before.keeper ≡ opened
  pub wire : before.wire ≡ a

-- a session was served from it, and these are the wire and the keeper after it
pub served : (protocol : Protocol) (before now : Around) (reading : Option ℕ) (opened : KeeperState) (new : Option (List ℕ)) (a b : WireState) (limits : Limits) (old : Option (List ℕ)) (advance : Served) (status : ℕ)
    → IsLent before reading opened a → IsOpened before limits old → ServesBy protocol before now advance → now.keeper.octets ≡ new → now.wire ≡ b → status ≡ status_of_served advance
    → OfInstance protocol reading (λ instance. RunsSession instance limits old new a b status)
served protocol before now reading opened new a b limits old advance status lent is serves kept given told =
    rw (told, ← lent.clock, ← kept, ← lent.wire, ← given)
    (with_instance protocol before.clock (λ instance. ServesFrom instance before now advance)
    (λ instance. RunsSession instance limits old now.keeper.octets before.wire now.wire (status_of_served advance))
    (λ instance does. served_by instance limits old before.keeper.octets now.keeper.octets before.wire now.wire before.desk.store now.desk.store advance is.leaves is.opens
    (is.works.agrees ∙ ap (λ (all : Limits). all.message_max) is.limits_are) (rw is.limits_are at does.serves))
    serves)

-- ---- the answer is exact for the journal

told_exact : (octets : List ℕ) (a b : WireState) (met : OpenFault) (result : Result ℕ Fault) → TellsUnopened met a b result → IsExactJournal octets (status_of result)
told_exact octets a b faults.Keeper result observed = λ at bad. rw observed.1 (inr (inr refl))
told_exact octets a b faults.Memory result observed = λ at bad. rw observed.1 (inr (inl (inr refl)))
told_exact octets a b (faults.BadJournal place) (Ok status) observed = λ at bad. inl observed.1
told_exact octets a b (faults.BadJournal place) (Err fault.Wire) observed = λ at bad. inr (inl (inl refl))
told_exact octets a b (faults.BadJournal place) (Err fault.Memory) observed = λ at bad. inr (inl (inr refl))
told_exact octets a b (faults.BadJournal place) (Err fault.Keeper) observed = absurd observed

-- the journal was told to be bad, or that was broken off
pub unopened_exact : (old : Option (List ℕ)) (a b : WireState) (met : OpenFault) (result : Result ℕ Fault) → TellsUnopened met a b result
    → IfSome old (λ octets. IsExactJournal octets (status_of result))
unopened_exact old a b met result observed =
    some_of old (λ octets. IsExactJournal octets (status_of result)) (λ octets. told_exact octets a b met result observed)

-- a journal that was opened isn't bad
pub opened_exact : (old new : Option (List ℕ)) (store : StoreState) (status : ℕ) → IfSome old (λ octets. OpensTo octets new store.kept) → IfSome old (λ octets. IsExactJournal octets status)
opened_exact old new store status opens =
    IfSome_then old {P = λ octets. OpensTo octets new store.kept} opens (λ octets to at bad. absurd (records_not_bad octets to.first at (to.version, to.had) bad))

-- ---- causes

-- a keeper's fault comes only where its count rose, also since the desk was opened
rose_since : (first mid last : ℕ) → first ≤ mid → Rose mid last → Rose first last
rose_since first mid last low rose = omega (arith, low, rose)

-- the statuses of faults
wire_told : (advance : Served) → status_of_served advance ≡ 1 → IsErrOf (answer_of (met_of advance)) fault.Wire
wire_told ended_as.Ended is = absurd (omega arith)
wire_told ended_as.WireFault is = refl
wire_told ended_as.KeeperFault is = absurd (omega arith)
wire_told ended_as.Memory is = absurd (omega arith)
wire_told ended_as.Limit is = absurd (omega arith)

keeper_told : (advance : Served) → status_of_served advance ≡ 2 → IsErrOf (answer_of (met_of advance)) fault.Keeper
keeper_told ended_as.Ended is = absurd (omega arith)
keeper_told ended_as.WireFault is = absurd (omega arith)
keeper_told ended_as.KeeperFault is = refl
keeper_told ended_as.Memory is = absurd (omega arith)
keeper_told ended_as.Limit is = absurd (omega arith)

-- the causes of an answer to a session, from those of the opening and of the serving
cause_by : (before now : Around) (keeper : KeeperState) (desk : Desk) (advance : Served) → HasKeeperCause {E = OpenFault} keeper before.keeper (Ok desk) faults.Keeper → Keeps before now (met_of advance)
    → HasStatusCause before.wire now.wire keeper now.keeper (status_of_served advance)
cause_by before now keeper desk advance opened keeps = record {
  later = keeps.wire.later;
  wire_rose = λ is. keeps.wire.rose (wire_told advance is);
  wire_sure = λ sure. ((keeps.wire.sure sure).0, λ is. (keeps.wire.sure sure).1 (wire_told advance is));
  keeper_later = omega (arith, opened.later, keeps.keeper.later);
  keeper_rose = λ is. rose_since keeper.faults before.keeper.faults now.keeper.faults opened.later (keeps.keeper.rose (keeper_told advance is));
  keeper_sure = λ sure. let still = (opened.sure sure).0 in ((keeps.keeper.sure still).0, λ is. (keeps.keeper.sure still).1 (keeper_told advance is));
}

pub served_cause : (before now : Around) (reading : Option ℕ) (old opened new : KeeperState) (a b : WireState) (desk : Desk) (advance : Served) (status : ℕ) → IsLent before reading opened a
    → HasKeeperCause {E = OpenFault} old opened (Ok desk) faults.Keeper → Keeps before now (met_of advance) → now.keeper ≡ new → now.wire ≡ b → status ≡ status_of_served advance
    → HasStatusCause a b old new status
served_cause before now reading old opened new a b desk advance status lent opens keeps kept given told =
    rw (told, ← kept, ← lent.wire, ← given) (cause_by before now old desk advance (rw lent.keeper opens) keeps)
