-- What a command does that adds one record, exit by exit.
use Rattle.std.proofs.Common.{◌≡◌, ℕ, List, [], ◌∷◌, ◌++◌, Option, Some, None, Result, Ok, Err, refl, sym, ap, ◌∙◌, subst, inl, inr, codes, append-nil, arith}
use Rattle.std.specs.Prelude.{IfSome}
use Rattle.std.proofs.lemmas.Option.{IfSome_then}
use Rattle.mail_wire.specs.declared.outside.Fault.{Fault}
use Rattle.mail_wire.specs.declared.outside.Fault.TheVariants as fault
use Rattle.mail_wire.specs.Lines.{crlf}
use Rattle.mail_wire.specs.WireState.{WireState}
use Rattle.mail_wire.specs.Moves.{Gives}
use Rattle.mail_wire.proofs.Moving.{Gives-nil}
use Rattle.mail_store.specs.declared.changing.StoreFault.{StoreFault}
use Rattle.mail_store.specs.declared.changing.StoreFault.TheVariants as faults
use Rattle.mail_store.specs.declared.opening.OpenFault.{OpenFault}
use Rattle.mail_store.specs.declared.opening.OpenFault.TheVariants as opening
use Rattle.journal_records.specs.declared.records.Record.{Record}
use Rattle.mail_store.specs.Answers.{IsFold, OpensTo, IsJournalFault, LeavesRecords}
use Rattle.mail_store.specs.Changing.{Changes, IsRefusedAs, IsStoreOf, HoldsFirst}
use Rattle.mail_store.specs.Following.{Follows}
use Rattle.kept_mail.specs.Kept.{Kept, store_of}
use Rattle.mail_store.specs.Opening.{HasRecords, IsBadAt}
use Rattle.journal_records.specs.Spelling.{journal}
use Rattle.mail_store.specs.StoreState.{StoreState}
use Rattle.mail_store.proofs.FollowLemmas.{followed, broken, Breaks-one, records_of-one, Follows-nil}
use Rattle.mail_store.proofs.OpenLemmas.{upgraded_kept}
use Rattle.mail_store.proofs.Readings.{same_records, records_not_bad}
use Rattle.mail_store.proofs.SettleLemmas.{opened_store}
use Rattle.setup_command.specs.AddingRuns.{RefusesOne, InJournal, InLine, InAdding, InRefusal, RunsAdding, Added, Refused, Unopened, Broken, IsRefusedBy, IsAnswerTo, IsExactAdding, TellsLine, TellsUnopened, TellsRefused}
use Rattle.setup_command.specs.Running.{OpensStore, HoldsStore, IsToldBy, BreaksSessionOff, HoldsBegun, IsExactJournal, place_line}
use Rattle.setup_command.specs.Statuses.{status_of}

-- ---- what the keeper holds

-- the keeper holds the journal of a store
pub journal_held : (store : StoreState) (octets : Option (List ℕ)) (all : List Record) → IsStoreOf store octets all → HoldsStore octets store
journal_held store octets all is = rw is.holds (is.version, all, is.records, refl, is.kept_is)

-- the keeper holds what was opened and what was put last
pub holds_by : (old opened new : Option (List ℕ)) (store after : StoreState) (more : List Record) → LeavesRecords old opened → IfSome old (λ octets. OpensTo octets opened store.kept)
    → Follows store after opened new more → HoldsStore new after
holds_by None opened new store after more leaves opens follows = rw (follows.journal, leaves) tt
holds_by (Some octets) opened new store after more leaves opens follows =
    journal_held after new (opens.all ++ more) (followed store after opened new opens.all more (opened_store octets opened store opens) follows)

-- nothing was put last: the keeper has the first of whatever records
HoldsFirst-none : (store : StoreState) (octets : Option (List ℕ)) (all more : List Record) → IsStoreOf store octets all → HoldsFirst octets all more
HoldsFirst-none store octets all more is = record {
  kept = journal is.version all;
  count = 0;
  holds = is.holds;
  records = rw (append-nil all) (is.version, inr ([], record { text = sym (append-nil (journal is.version all)); records = is.records }, inl (inl (omega arith))));
}

begun_of : (store : StoreState) (new opened : Option (List ℕ)) (one : Record) (all : List Record) → IsStoreOf store opened all → HoldsFirst new all (one ∷ [])
    → HoldsBegun new store ((one ∷ []) ∷ [])
begun_of store new opened one all is first = record {
  version = is.version;
  all = all;
  records = is.records;
  fold = is.kept_is;
  holds = rw (records_of-one [] (one ∷ [])) first;
}

-- ---- the journal isn't opened

quiet : (a b : WireState) → b ≡ a → Gives a b []
quiet a b same = subst (λ (t : WireState). Gives a t []) (sym same) (Gives-nil a)

unopened_by : (refusal : Kept → Option StoreFault) (one : Record) (old new : Option (List ℕ)) (a b : WireState) (met : OpenFault) (result : Result ℕ Fault) → LeavesRecords old new
    → IfSome old (λ octets. IsJournalFault octets new met) → TellsUnopened met a b result → RunsAdding refusal one old new a b (status_of result)
unopened_by refusal one old new a b opening.Keeper result leaves is observed = rw observed.1 (Broken (inr refl) (InJournal (quiet a b observed.0) leaves))
unopened_by refusal one old new a b opening.Memory result leaves is observed = rw observed.1 (Broken (inl (inr refl)) (InJournal (quiet a b observed.0) leaves))
unopened_by refusal one old new a b (opening.BadJournal at) (Ok status) leaves is observed =
    Unopened (place_line (codes "bad journal at ") at) (record { fault = opening.BadJournal at; told = (observed.1, refl); is = is }) observed.0
unopened_by refusal one old new a b (opening.BadJournal at) (Err fault.Wire) leaves is observed =
    Broken (inl (inl refl)) (InLine 5 (place_line (codes "bad journal at ") at) (record { fault = opening.BadJournal at; told = (refl, refl); is = is }) observed leaves)
unopened_by refusal one old new a b (opening.BadJournal at) (Err fault.Memory) leaves is observed =
    Broken (inl (inr refl)) (InLine 5 (place_line (codes "bad journal at ") at) (record { fault = opening.BadJournal at; told = (refl, refl); is = is }) observed leaves)
unopened_by refusal one old new a b (opening.BadJournal at) (Err fault.Keeper) leaves is observed = absurd observed

-- ---- the record is added

added_by : (T : Type 0) (done : T) (refusal : Kept → Option StoreFault) (one : Record) (old opened new : Option (List ℕ)) (a : WireState) (store after : StoreState)
    → LeavesRecords old opened → IsFold store.kept → IfSome old (λ octets. OpensTo octets opened store.kept) → Changes {T = T} store after opened new (Ok done) (one ∷ [])
    → IsRefusedAs {T = T} (Ok done) (refusal store.kept) → RunsAdding refusal one old new a a 0
added_by T done refusal one old opened new a store after leaves fold opens changes free =
    let follows : Follows store after opened new (one ∷ []) = record { records = changes.0; store = changes.1; journal = changes.2 } in
    Added
    (record {
      store = store;
      after = after;
      opened = opened;
      opens = record { fold = fold; opens = opens };
      free = free;
      follows = follows;
      holds = holds_by old opened new store after (one ∷ []) leaves opens follows;
      quiet = Gives-nil a;
    }) refl

-- ---- the record is refused

refused_line : (refusal : Kept → Option StoreFault) (one : Record) (old opened new : Option (List ℕ)) (a b : WireState) (store : StoreState) (why : StoreFault) (line : List ℕ)
    (result : Result ℕ Fault) → LeavesRecords old opened → IsFold store.kept → IfSome old (λ octets. OpensTo octets opened store.kept) → new ≡ opened → refusal store.kept ≡ Some why
    → IsRefusedBy why line → TellsLine a b result 9 line → RunsAdding refusal one old new a b (status_of result)
refused_line refusal one old opened new a b store why line result leaves fold opens same refused told observed = by_answer result observed
  where
    refuses : RefusesOne refusal old new line
    refuses = record {
      store = store;
      opens = record { fold = fold; opens = rw same opens };
      holds = rw same (holds_by old opened opened store store [] leaves opens (Follows-nil store opened));
      why = why;
      refused = refused;
      told = told;
    }

    by_answer : (answer : Result ℕ Fault) → TellsLine a b answer 9 line → RunsAdding refusal one old new a b (status_of answer)
    by_answer (Ok status) (gives, is) = Refused line refuses gives is
    by_answer (Err fault.Wire) gives = Broken (inl (inl refl)) (InRefusal line refuses gives)
    by_answer (Err fault.Memory) gives = Broken (inl (inr refl)) (InRefusal line refuses gives)
    by_answer (Err fault.Keeper) never = absurd never

not_both : (status : ℕ) → status ≡ 3 → status ≡ 2 → ⊥
not_both status three two = omega (arith, three, two)

refused_by : (T : Type 0) (refusal : Kept → Option StoreFault) (one : Record) (old opened new : Option (List ℕ)) (a b : WireState) (store after : StoreState) (why : StoreFault)
    (result : Result ℕ Fault) → LeavesRecords old opened → IsFold store.kept → IfSome old (λ octets. OpensTo octets opened store.kept)
    → Changes {T = T} store after opened new (Err why) (one ∷ []) → IsRefusedAs {T = T} (Err why) (refusal store.kept) → TellsRefused why a b result
    → RunsAdding refusal one old new a b (status_of result)
refused_by T refusal one old opened new a b store after faults.Exists result leaves fold opens changes refused observed =
    refused_line refusal one old opened new a b store faults.Exists (codes "exists" ++ crlf) result leaves fold opens changes.1 refused refl observed
refused_by T refusal one old opened new a b store after faults.NoSuch result leaves fold opens changes refused observed =
    refused_line refusal one old opened new a b store faults.NoSuch (codes "no such domain" ++ crlf) result leaves fold opens changes.1 refused refl observed
refused_by T refusal one old opened new a b store after faults.TooLarge result leaves fold opens changes refused observed =
    refused_line refusal one old opened new a b store faults.TooLarge (codes "too large" ++ crlf) result leaves fold opens changes.1 refused refl observed
refused_by T refusal one old opened new a b store after faults.Memory result leaves fold opens changes refused observed = rw observed.1
    (Broken (inl (inr refl))
    (InAdding (record {
      store = store;
      opened = opened;
      opens = record { fold = fold; opens = opens };
      free = λ two. absurd (not_both 3 refl two);
      same = λ _. changes.1;
      holds = IfSome_then old {P = λ octets. OpensTo octets opened store.kept} opens
          (λ octets to. rw changes.1 (begun_of store opened opened one to.all (opened_store octets opened store to)
          (HoldsFirst-none store opened to.all (one ∷ []) (opened_store octets opened store to))));
      quiet = quiet a b observed.0;
    })))
refused_by T refusal one old opened new a b store after faults.Keeper result leaves fold opens changes refused observed = rw observed.1
    (Broken (inr refl)
    (InAdding (record {
      store = store;
      opened = opened;
      opens = record { fold = fold; opens = opens };
      free = λ _. refused;
      same = λ not. absurd (not refl);
      holds = IfSome_then old {P = λ octets. OpensTo octets opened store.kept} opens
          (λ octets to. begun_of store new opened one to.all (opened_store octets opened store to)
          (broken store after opened new to.all [] (one ∷ []) (opened_store octets opened store to) (Breaks-one store after opened new (one ∷ []) changes)));
      quiet = quiet a b observed.0;
    })))

-- ---- the answer is exact

bad_of : (octets : List ℕ) (new : Option (List ℕ)) (met : OpenFault) (status : ℕ) (line : List ℕ) → IsToldBy met status line → IsJournalFault octets new met
    → (status ≡ 5) × (at : ℕ) × IsBadAt octets at
bad_of octets new (opening.BadJournal at) status line told is = (told.0, at, is.0)
bad_of octets new opening.Keeper status line told is = absurd told
bad_of octets new opening.Memory status line told is = absurd told

pub broken_answer : (refused : Option StoreFault) (status : ℕ) → BreaksSessionOff status → IsAnswerTo refused status
broken_answer None status broken = inr broken
broken_answer (Some why) status broken = inr broken

-- the store that was opened keeps what the octets' records lead to
opened_of : (octets : List ℕ) (opened : Option (List ℕ)) (store : StoreState) (all : List Record) → OpensStore (Some octets) opened store → HasRecords octets all → store.kept ≡ store_of all
opened_of octets opened store all opens had =
    opens.opens.kept_is ∙ ap store_of opens.opens.all_is ∙ upgraded_kept opens.opens.version opens.opens.first
    ∙ ap store_of (same_records octets opens.opens.first all (opens.opens.version, opens.opens.had) had)

adding_at : (refusal : Kept → Option StoreFault) (one : Record) (octets : List ℕ) (new : Option (List ℕ)) (a b : WireState) (status : ℕ)
    → RunsAdding refusal one (Some octets) new a b status → IsExactAdding refusal octets status
adding_at refusal one octets new a b status (Added adds is) = λ all had.
    let none : refusal (store_of all) ≡ None = ap refusal (sym (opened_of octets adds.opened adds.store all adds.opens had)) ∙ adds.free in
    subst (λ (o : Option StoreFault). IsAnswerTo o status) (sym none) (inl is)
adding_at refusal one octets new a b status (Refused line refuses gives is) = λ all had.
    let some : refusal (store_of all) ≡ Some refuses.why = ap refusal (sym (opened_of octets new refuses.store all refuses.opens had)) ∙ refuses.refused in
    subst (λ (o : Option StoreFault). IsAnswerTo o status) (sym some) (inl is)
adding_at refusal one octets new a b status (Unopened line unopened gives) = λ all had.
    let bad = bad_of octets new unopened.fault status line unopened.told unopened.is in absurd (records_not_bad octets all bad.1 had bad.2)
adding_at refusal one octets new a b status (Broken broken partly) = λ all had. broken_answer (refusal (store_of all)) status broken

pub exact_adding : (refusal : Kept → Option StoreFault) (one : Record) (old new : Option (List ℕ)) (a b : WireState) (status : ℕ) → RunsAdding refusal one old new a b status
    → IfSome old (λ octets. IsExactAdding refusal octets status)
exact_adding refusal one None new a b status runs = tt
exact_adding refusal one (Some octets) new a b status runs = adding_at refusal one octets new a b status runs

-- octets that a store was opened of aren't bad
opened_not_bad : (octets : List ℕ) (opened : Option (List ℕ)) (store : StoreState) → OpensStore (Some octets) opened store → (at : ℕ) → IsBadAt octets at → ⊥
opened_not_bad octets opened store opens at bad = records_not_bad octets opens.opens.first at (opens.opens.version, opens.opens.had) bad

journal_at : (refusal : Kept → Option StoreFault) (one : Record) (octets : List ℕ) (new : Option (List ℕ)) (a b : WireState) (status : ℕ)
    → RunsAdding refusal one (Some octets) new a b status → IsExactJournal octets status
journal_at refusal one octets new a b status (Added adds is) = λ at bad. absurd (opened_not_bad octets adds.opened adds.store adds.opens at bad)
journal_at refusal one octets new a b status (Refused line refuses gives is) = λ at bad. absurd (opened_not_bad octets new refuses.store refuses.opens at bad)
journal_at refusal one octets new a b status (Unopened line unopened gives) = λ at bad. inl (bad_of octets new unopened.fault status line unopened.told unopened.is).0
journal_at refusal one octets new a b status (Broken broken partly) = λ at bad. inr broken

pub exact_journal : (refusal : Kept → Option StoreFault) (one : Record) (old new : Option (List ℕ)) (a b : WireState) (status : ℕ) → RunsAdding refusal one old new a b status
    → IfSome old (λ octets. IsExactJournal octets status)
exact_journal refusal one None new a b status runs = tt
exact_journal refusal one (Some octets) new a b status runs = journal_at refusal one octets new a b status runs

-- ---- all clauses of an exit

pub record IsWhole (refusal : Kept → Option StoreFault) (one : Record) (old new : Option (List ℕ)) (a b : WireState) (status : ℕ) : Type 0 where
  pub runs : RunsAdding refusal one old new a b status
  pub exact : IfSome old (λ octets. IsExactAdding refusal octets status)
  pub journal : IfSome old (λ octets. IsExactJournal octets status)

whole : (refusal : Kept → Option StoreFault) (one : Record) (old new : Option (List ℕ)) (a b : WireState) (status : ℕ) → RunsAdding refusal one old new a b status
    → IsWhole refusal one old new a b status
whole refusal one old new a b status runs = record {
  runs = runs;
  exact = exact_adding refusal one old new a b status runs;
  journal = exact_journal refusal one old new a b status runs;
}

pub unopened : (refusal : Kept → Option StoreFault) (one : Record) (old new : Option (List ℕ)) (a b : WireState) (met : OpenFault) (result : Result ℕ Fault) → LeavesRecords old new
    → IfSome old (λ octets. IsJournalFault octets new met) → TellsUnopened met a b result → IsWhole refusal one old new a b (status_of result)
unopened refusal one old new a b met result leaves is observed =
    whole refusal one old new a b (status_of result) (unopened_by refusal one old new a b met result leaves is observed)

pub added : (T : Type 0) (done : T) (refusal : Kept → Option StoreFault) (one : Record) (old opened new : Option (List ℕ)) (a : WireState) (store after : StoreState)
    → LeavesRecords old opened → IsFold store.kept → IfSome old (λ octets. OpensTo octets opened store.kept) → Changes {T = T} store after opened new (Ok done) (one ∷ [])
    → IsRefusedAs {T = T} (Ok done) (refusal store.kept) → IsWhole refusal one old new a a 0
added T done refusal one old opened new a store after leaves fold opens changes free =
    whole refusal one old new a a 0 (added_by T done refusal one old opened new a store after leaves fold opens changes free)

pub refused : (T : Type 0) (refusal : Kept → Option StoreFault) (one : Record) (old opened new : Option (List ℕ)) (a b : WireState) (store after : StoreState) (why : StoreFault)
    (result : Result ℕ Fault) → LeavesRecords old opened → IsFold store.kept → IfSome old (λ octets. OpensTo octets opened store.kept)
    → Changes {T = T} store after opened new (Err why) (one ∷ []) → IsRefusedAs {T = T} (Err why) (refusal store.kept) → TellsRefused why a b result
    → IsWhole refusal one old new a b (status_of result)
refused T refusal one old opened new a b store after why result leaves fold opens changes refusal_is observed =
    whole refusal one old new a b (status_of result) (refused_by T refusal one old opened new a b store after why result leaves fold opens changes refusal_is observed)
